use Rattle.std.proofs.Common.{◌≡◌, ℕ, ◌+◌, ◌<◌, ◌≤◌, List, get_or, length, sym, ap, subst, ◌∙◌, arith}
use Rattle.std.proofs.lemmas.List.{length-replicate}
use Rattle.yt_chan.specs.declared.target.Arrived.TheVariants.{Port}
use Rattle.yt_chan.specs.declared.wire.Wire.{Wire}
use Rattle.yt_chan.specs.Wires.{is_one_of, wire_at}
use Rattle.yt_chan.proofs.Feeds.{AreFed, fed_result, fed_more, fed_none, written}
use Rattle.yt_chan.proofs.NextTimes.{wire_is}
use Rattle.yt_chan.proofs.channels.ports_of.Goals as goal

pub loop-place-init : goal.loop-place-init
loop-place-init c =
    let made = c.in_ok-sources.ensures.items_if_clones_equal (λ y h. h) in
    record { long = ap length made ∙ length-replicate (c.args.ports + 1) (length c.args.wires.now); fed = fed_none c.args.wires.now (λ n. Port n) (c.args.ports + 1) c.in_ok-sources.sources.items made }

pub feed-requires : goal.feed-requires
feed-requires c =
    let w = wire_is c.args.wires.now c.loop-place.place c.index-wires-place.result c.loop-place-test.true c.index-wires-place.is in
    let same : (wire_at c.args.wires.now c.loop-place.place).ports ≡ c.as_slice.result.now = ap (λ (x : Wire). x.ports) w ∙ sym c.as_slice.ensures in
    let long = c.loop-place.invariant.long in
    let all : length c.deref_mut.result.now ≡ length c.loop-place.sources.items = ap length c.deref_mut.ensures.value in
    record {
      there = λ j lt.
          let P : List ℕ → Type 0 = λ numbers. j < length numbers → get_or numbers j 0 ≤ c.args.ports in
          let few = subst P same (c.requires.there c.loop-place.place j c.loop-place-test.true) lt in
          omega arith;
    }

pub loop-place-preserved : goal.loop-place-preserved
loop-place-preserved c =
    let wires = c.args.wires.now in
    let place = c.loop-place.place in
    let new = c.feed.new.sources in
    let w = wire_is wires place c.index-wires-place.result c.loop-place-test.true c.index-wires-place.is in
    let same : (wire_at wires place).ports ≡ c.as_slice.result.now = ap (λ (x : Wire). x.ports) w ∙ sym c.as_slice.ensures in
    let back = written c.loop-place.sources.items c.deref_mut.result.now new c.loop-place.sources.len c.deref_mut.ensures.value c.deref_mut.ensures.len c.feed.ensures.long in
    let old = subst (AreFed wires (λ n. Port n) place) (sym c.deref_mut.ensures.value) c.loop-place.invariant.fed in
    let fed = fed_more wires c.requires.sources (λ n. Port n) place c.as_slice.result.now c.deref_mut.result.now new c.loop-place-test.true (λ k. ap (λ (numbers : List ℕ). is_one_of numbers k) same) old
    c.feed.ensures.long c.feed.ensures.fed in
    record {
      long = ap length back ∙ c.feed.ensures.long ∙ ap length c.deref_mut.ensures.value ∙ c.loop-place.invariant.long;
      fed = subst (AreFed wires (λ n. Port n) (place + 1)) (sym back) fed;
    }

pub returns : goal.returns
returns c =
    let fed = subst (AreFed c.args.wires.now (λ n. Port n) c.loop-place.place) (sym c.deref.ensures.value) c.loop-place.invariant.fed in
    let long : length c.deref.result.now ≡ c.args.ports + 1 = ap length c.deref.ensures.value ∙ c.loop-place.invariant.long in
    fed_result c.inboxes.result (λ places. places.items) c.args.wires.now (λ n. Port n) c.loop-place.place (c.args.ports + 1) c.deref.result.now (omega (arith, c.loop-place-test.false)) fed long c.inboxes.ensures
