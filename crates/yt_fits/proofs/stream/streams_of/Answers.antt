use Rattle.std.proofs.Common.{◌≡◌, ◌≤◌, [], length, take, sym, subst, arith}
use Rattle.std.proofs.lemmas.List.{length-take-le, take_all}
use Rattle.yt_list.proofs.Lemmas.{numbered_next}
use Rattle.yt_set.specs.declared.task.Task.{Task}
use Rattle.yt_fits.specs.declared.stream.Stream.{Stream}
use Rattle.yt_fits.specs.Inside.Streams.{AreStreamsOf}
use Rattle.yt_fits.proofs.MultipleLemmas.{take_next}
use Rattle.yt_fits.proofs.StreamLemmas.{streams_none}
use Rattle.std.proofs.Common.{List, ◌∙◌, ℕ, ◌<◌, slice_index_or}
use Rattle.yt_fits.proofs.stream.streams_of.Goals as goal

pub loop-n-init : goal.loop-n-init
loop-n-init c = record {
  streams = subst (AreStreamsOf []) (sym c.new-streams.ensures) streams_none;
  none = subst (λ (l : List Stream). (k : ℕ) (d : Stream) → k < length l → (slice_index_or l k d).jobs ≡ 0) (sym c.new-streams.ensures) (λ k d lt. absurd (omega arith));
}

pub join-requires-clause-room : goal.join-requires-clause-room
join-requires-clause-room c =
    let n = c.loop-n.n in
    let some = c.loop-n-test.true in
    let len = c.len-n-end.ensures.len in
    let most = c.len-n-end.ensures.few in
    let taken : length (take n c.args.set.now) ≡ n = length-take-le n c.args.set.now (omega arith) in
    let few = c.loop-n.invariant.streams.few in
    omega arith

pub join-requires-clause-cheap : goal.join-requires-clause-cheap
join-requires-clause-cheap c = λ k d lt.
    let n = c.loop-n.n in
    let some = c.loop-n-test.true in
    let len = c.len-n-end.ensures.len in
    let most = c.len-n-end.ensures.few in
    let taken : length (take n c.args.set.now) ≡ n = length-take-le n c.args.set.now (omega arith) in
    let cheap = (c.loop-n.invariant.streams.paced k d lt).cheap in
    omega arith

pub loop-n-preserved : goal.loop-n-preserved
loop-n-preserved c =
    let tasks = c.args.set.now in
    let n = c.loop-n.n in
    let at = sym (numbered_next tasks n) ∙ c.task.ensures.value in
    record {
      streams = subst (λ (l : List Task). AreStreamsOf l c.join.new.streams.items) (sym (take_next tasks n c.task.result at))
          (c.join.ensures.streams (take n tasks) c.loop-n.invariant.streams);
      none = c.join.ensures.none c.loop-n.invariant.none;
    }

pub returns-clause-streams : goal.returns-clause-streams
returns-clause-streams c =
    let tasks = c.args.set.now in
    let out : length tasks ≤ c.loop-n.n = omega (arith, c.len-n-end.ensures.len, c.loop-n-test.false) in
    subst (λ (l : List Task). AreStreamsOf l c.loop-n.streams.items) (take_all c.loop-n.n tasks out) c.loop-n.invariant.streams
