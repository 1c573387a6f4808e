-- A trace is read.
use Rattle.std.proofs.Common.{◌≡◌, ℕ, zero, suc, ◌<◌, ◌≤◌, List, length, slice_get, Option, None, Some, refl, sym, ap, subst, ◌∙◌, inl, inr, ⊎_elim, arith}
use Rattle.std.specs.Prelude.{IsSomeAnd}
use Rattle.std.proofs.lemmas.Bool.{cases_eq, cases_lt}
use Rattle.std.proofs.lemmas.Option.{none-some, same_Some}
use Rattle.yt_graph.specs.declared.graph.Input as graph_input
use Rattle.yt_graph.specs.declared.port.Feed.TheVariants.{Input}
use Rattle.yt_graph.specs.Picture.{GraphTree, PortTree, graph_tree}
use Rattle.yt_graph.specs.WellFormed.{IsFeedOfWidth}
use Rattle.yt_list.specs.Numbered.{numbered}
use Rattle.yt_chan.specs.declared.target.Arrived.{Arrived}
use Rattle.yt_chan.specs.declared.target.Arrived.TheVariants.{Port}
use Rattle.yt_chan.proofs.Lemmas.{target_cases}
use Rattle.yt_rates.specs.Acceptance.{Parts}
use Rattle.yt_trace.specs.declared.message.Message.{Message}
use Rattle.yt_trace.specs.Traces.{AreInTimeOrder, IsMessageOf}
use Rattle.yt_serial.specs.PortMessages.{PortMessage}
use Rattle.yt_serial.specs.SerialHandling.{Serial}
use Rattle.yt_serial.proofs.Lemmas.{numbered_within, period_some}
use Rattle.yt_interleave.specs.Interleaved.{RunState, known_at, port_at}
use Rattle.yt_interleave.proofs.Lemmas.{messages_wait}
use Rattle.yt_body.specs.Sound.{IsPortOf, IsSound}
use Rattle.yt_body.specs.State.{HandlersState, graph_of}
use Rattle.yt_body.specs.Steps.{Puts}
use Rattle.yt_body.proofs.Lemmas.{fine_at}
use Rattle.yt_body_laws.specs.Placing.{AllPut, FeedsSome, HasPlaced, IsFedBy, IsPlacing, TraceIsFrom, with_tick_at}
use Rattle.yt_body_laws.specs.Reading.{BodiesRead, HasPut, IsNextPut, IsReadTo, IsServed, MayPut, NextIsFrom, NoneIsFed}
use Rattle.yt_body_laws.proofs.Codes.{graph_in, of_each, port_is}
use Rattle.yt_body_laws.proofs.Comings.{tick_here, tick_other}
use Rattle.yt_body_laws.proofs.Placing.{bodies_place}
use Rattle.yt_body_laws.proofs.Traces.{as_known, as_port, is_same, later_from, of_trace, two_of}

input_same : (a b : ℕ) → Input a ≡ Input b → a ≡ b
input_same a b e = cc

port_same : (a b : ℕ) → Port a ≡ Port b → a ≡ b
port_same a b e = cc

-- one input feeds a port at most
fed_same : (g : GraphTree) (port a b : ℕ) → IsFedBy g port a → IsFedBy g port b → a ≡ b
fed_same g port a b f h =
    input_same a b (sym f.2 ∙ ap (λ (p : PortTree). p.feed) (same_Some f.0 h.0 (sym f.1 ∙ h.1)) ∙ h.2)

-- the width of an input's messages is that of the ports that it feeds
same_width : (o : Option graph_input.Input) (a b : ℕ) → IsSomeAnd o (λ i. i.width ≡ a) → IsSomeAnd o (λ i. i.width ≡ b) → a ≡ b
same_width None a b f h = absurd f
same_width (Some i) a b f h = sym f ∙ h

wide_as : (g : GraphTree) (input a b : ℕ) → IsFeedOfWidth g a (Input input) → IsSomeAnd (numbered g.inputs input) (λ i. i.width ≡ b) → a ≡ b
wide_as g input a b (place, is, width) h =
    same_width (slice_get g.inputs place) a b width (subst (λ (n : ℕ). IsSomeAnd (numbered g.inputs n) (λ i. i.width ≡ b)) is h)

-- what has been served stays so
served_on : (taken upto port k q : ℕ) → upto < port → IsServed taken upto k q → IsServed taken port k q
served_on taken upto port k q later served =
    ⊎_elim (λ (lt : k < taken). inl lt) (λ (own : (k ≡ taken) × (q ≤ upto)). inr (own.0, let le = own.1 in omega arith)) served

served_next : (taken upto k q : ℕ) → IsServed taken upto k q → IsServed (suc taken) 0 k q
served_next taken upto k q served =
    ⊎_elim (λ (lt : k < taken). inl (omega arith)) (λ (own : (k ≡ taken) × (q ≤ upto)). inl (let e = own.0 in omega arith)) served

read_first : (g : GraphTree) (trace : List Message) → IsReadTo g trace 0 0
read_first g trace = record {
  before = λ k x at fed lt. absurd (omega arith);
  from = λ k x at fed le. omega arith;
}

module _ (g : GraphTree) (trace : List Message) (due taken : ℕ) (read : IsReadTo g trace due taken) where
  skips : (x : Message) → slice_get trace taken ≡ Some x → (FeedsSome g x.input → ⊥) → IsReadTo g trace due (suc taken)
  skips x there none = record {
    before = λ k y at fed lt.
        ⊎_elim
        (λ (own : k ≡ taken). absurd (none (subst (λ (z : Message). FeedsSome g z.input) (is_same trace k taken y x own at there) fed)))
        (λ (ne : k ≡ taken → ⊥). read.before k y at fed (omega arith))
        (cases_eq k taken);
    from = λ k y at fed le. read.from k y at fed (omega arith);
  }

  later : AreInTimeOrder trace → (t : ℕ) → due ≤ t → NextIsFrom trace taken t → IsReadTo g trace t taken × TraceIsFrom g trace due t
  later order t le next = (
    record {
      before = λ k x at fed lt. let e = read.before k x at fed lt in omega arith;
      from = λ k x at fed ge. later_from trace order taken t next k x at ge;
    },
    λ k x at fed ge.
        ⊎_elim
        (λ (lt : k < taken). let e = read.before k x at fed lt in absurd (omega arith))
        (λ (past : taken ≤ k). later_from trace order taken t next k x at past)
        (cases_lt k taken),
  )

-- a port that is fed has a number
fed_number : (g : GraphTree) (port input : ℕ) → IsFedBy g port input → (1 ≤ port) × (port ≤ length g.ports)
fed_number g port input fed = numbered_within g.ports port fed.0 fed.1

starts : (parts : Parts) (trace : List Message) (r : RunState) (taken : ℕ) → IsReadTo (graph_tree parts.graph) trace (length r.log) taken →
    HasPut parts trace r (λ target. length r.log) taken 0
starts parts trace r taken read = record {
  past = λ k port x at fed served. let lt = read.before k x at (port, fed) (before k port x.input fed served) in omega arith;
  rest = λ k port x at fed none. read.from k x at (port, fed) (⊎_elim (λ (lt : k < taken). absurd (none (inl lt))) (λ (ge : taken ≤ k). ge) (cases_lt k taken));
  come = λ k port x at fed served now. let lt = read.before k x at (port, fed) (before k port x.input fed served) in absurd (omega arith);
  waits = λ port input fed none. refl;
}
  where
    before : (k port input : ℕ) → IsFedBy (graph_tree parts.graph) port input → IsServed taken 0 k port → k < taken
    before k port input fed served =
        let some = (fed_number (graph_tree parts.graph) port input fed).0 in
        ⊎_elim (λ (lt : k < taken). lt) (λ (own : (k ≡ taken) × (port ≤ 0)). let none = own.1 in absurd (omega arith)) served

module _ (parts : Parts) (trace : List Message) (r : RunState) (due : Arrived → ℕ) (taken upto : ℕ) (put : HasPut parts trace r due taken upto) (x : Message) (there : slice_get trace taken ≡ Some x) where
  -- the message is done
  module _ (none : NoneIsFed (graph_tree parts.graph) x.input upto) where
    served_before : (k port : ℕ) (y : Message) → slice_get trace k ≡ Some y → IsFedBy (graph_tree parts.graph) port y.input → IsServed (suc taken) 0 k port → IsServed taken upto k port
    served_before k port y at fed served =
        let some = (fed_number (graph_tree parts.graph) port y.input fed).0 in
        ⊎_elim
        (λ (lt : k < suc taken).
        ⊎_elim
        (λ (own : k ≡ taken).
        ⊎_elim
        (λ (above : upto < port). absurd (none port above (subst (λ (z : Message). IsFedBy (graph_tree parts.graph) port z.input) (is_same trace k taken y x own at there) fed)))
        (λ (le : port ≤ upto). inr (own, le))
        (cases_lt upto port))
        (λ (ne : k ≡ taken → ⊥). inl (omega arith))
        (cases_eq k taken))
        (λ (own : (k ≡ suc taken) × (port ≤ 0)). let no_port = own.1 in absurd (omega arith))
        served

    done : HasPut parts trace r due (suc taken) 0
    done = record {
      past = λ k port y at fed served. put.past k port y at fed (served_before k port y at fed served);
      rest = λ k port y at fed not. put.rest k port y at fed (λ served. not (served_next taken upto k port served));
      come = λ k port y at fed served now. put.come k port y at fed (served_before k port y at fed served) now;
      waits = λ port input fed not. put.waits port input fed (λ k y at own served now. not k y at own (served_next taken upto k port served) now);
    }

module _ (parts : Parts) (trace : List Message) (s : Serial) (r : RunState) (due : Arrived → ℕ) (b : HandlersState) (taken upto port : ℕ) (x : Message)
    (is : IsNextPut parts trace s r due b taken upto port x) where
  -- the message is known at the port
  known : (n : ℕ) × (numbered (known_at r port) n ≡ Some (as_port x))
  known = as_known (graph_in parts) trace is.placing.can.can s r is.placing.interleaves port x is.next.fed taken is.there

  -- none has come there in this tick
  waited : due (Port port) ≡ length r.log
  waited =
      is.put.waits port x.input is.next.fed (λ k y at own served now.
      ⊎_elim
      (λ (lt : k < taken).
      let g = graph_in parts in
      let can = is.placing.can.can in
      let p = is.next.fed in
      let all = messages_wait.input g trace can s r is.placing.interleaves port p.0 x.input p.1 p.2 in
      let two = two_of x.input trace k taken y x at is.there own refl lt in
      let first : numbered (known_at r port) (suc two.first) ≡ Some (as_port y) = ap (λ (ms : List PortMessage). slice_get ms two.first) all ∙ two.first_at in
      let second : numbered (known_at r port) (suc two.second) ≡ Some (as_port x) = ap (λ (ms : List PortMessage). slice_get ms two.second) all ∙ two.second_at in
      let less = two.less in
      let far = messages_wait.apart g trace can s r is.placing.interleaves port (suc two.first) (suc two.second) p.0 (as_port y) (as_port x) p.1 first second (omega arith) in
      let some = period_some g port p.0 can.rates p.1 in
      let time = is.now in
      omega arith)
      (λ (here : (k ≡ taken) × (port ≤ upto)). let le = here.1 in let lt = is.next.later in omega arith)
      served)

  may_put : MayPut b port (length r.log) x
  may_put =
      let g = graph_in parts in
      let fed = is.next.fed in
      let inside = fed_number g port x.input fed in
      let long : length (graph_of b).ports ≡ length g.ports = ap (λ (q : Parts). length (graph_tree q.graph).ports) is.placing.carries.graph in
      let inside_here : IsPortOf g port = inside in
      let fine = fine_at parts is.placing.accepted port inside_here in
      let feed : (port_at g port).feed ≡ Input x.input = ap (λ (q : PortTree). q.feed) (port_is g port fed.0 fed.1) ∙ fed.2 in
      let width : IsFeedOfWidth g (port_at g port).params (Input x.input) = subst (IsFeedOfWidth g (port_at g port).params) feed fine.2 in
      let own : IsMessageOf g.inputs x = of_each (IsMessageOf g.inputs) trace is.placing.can.can.keeps.messages taken x is.there in
      let same = wide_as g x.input (port_at g port).params (length x.values) width own.width in
      record {
        there = (inside.0, let last = inside.1 in omega arith);
        wide = sym same ∙ sym (ap (λ (q : Parts). (port_at (graph_tree q.graph) port).params) is.placing.carries.graph);
        may = (bodies_place.may_come parts trace s r due b is.placing port known.0 (as_port x) known.1 is.now waited).may;
      }

  module _ (new : HandlersState) (puts : Puts b port x.values (length r.log) new) (sound : IsSound new) where
    placed : HasPlaced parts trace s r due (Port port) new
    placed =
        let fed = is.next.fed in
        bodies_place.puts parts trace s r due b is.placing port fed.0 x.input known.0 (as_port x) fed.1 fed.2 known.1 is.now waited new puts sound

    abbrev due_then : Arrived → ℕ
    due_then = with_tick_at (Port port) (suc (length r.log)) due

    -- what has been served by then but not before is this message at this port
    served_else : (k q : ℕ) (y : Message) → slice_get trace k ≡ Some y → IsFedBy (graph_in parts) q y.input → (q ≡ port → ⊥) → IsServed taken port k q → IsServed taken upto k q
    served_else k q y at fed other served =
        ⊎_elim
        (λ (lt : k < taken). inl lt)
        (λ (own : (k ≡ taken) × (q ≤ port)).
        let le = own.1 in
        ⊎_elim
        (λ (above : upto < q).
        absurd (is.next.first q above (omega (arith, other)) (subst (λ (z : Message). IsFedBy (graph_in parts) q z.input) (is_same trace k taken y x own.0 at is.there) fed)))
        (λ (below : q ≤ upto). inr (own.0, below))
        (cases_lt upto q))
        served

    put_then : HasPut parts trace r due_then taken port
    put_then = record {
      past = λ k q y at fed served.
          ⊎_elim
          (λ (lt : k < taken). is.put.past k q y at fed (inl lt))
          (λ (own : (k ≡ taken) × (q ≤ port)).
          let time : y.time ≡ x.time = ap (λ (z : Message). z.time) (is_same trace k taken y x own.0 at is.there) in
          let now = is.now in
          omega arith)
          served;
      rest = λ k q y at fed not. is.put.rest k q y at fed (λ served. not (served_on taken upto port k q is.next.later served));
      come = λ k q y at fed served now.
          ⊎_elim
          (λ (own : q ≡ port). ap (λ (z : ℕ). due_then (Port z)) own ∙ tick_here (Port port) (suc (length r.log)) due)
          (λ (other : q ≡ port → ⊥). tick_other (Port port) (suc (length r.log)) due (Port q) (λ e. other (port_same q port e)) ∙ is.put.come k q y at fed (served_else k q y at fed other served) now)
          (cases_eq q port);
      waits = λ q input fed none.
          ⊎_elim
          (λ (own : q ≡ port).
          let same = fed_same (graph_in parts) port x.input input is.next.fed (subst (λ (z : ℕ). IsFedBy (graph_in parts) z input) own fed) in
          absurd (none taken x is.there same (inr (refl, omega arith)) is.now))
          (λ (other : q ≡ port → ⊥).
          tick_other (Port port) (suc (length r.log)) due (Port q) (λ e. other (port_same q port e))
          ∙ is.put.waits q input fed (λ k y at own served now. none k y at own (served_on taken upto port k q is.next.later served) now))
          (cases_eq q port);
    }

module _ (parts : Parts) (trace : List Message) (s : Serial) (r : RunState) (due : Arrived → ℕ) (b : HandlersState) (is : IsPlacing parts trace s r due b)
    (taken : ℕ) (put : HasPut parts trace r due taken 0) (next : NextIsFrom trace taken (suc (length r.log))) where
  all_put : AllPut parts r due
  all_put port p input zero m at fed there now = absurd (none-some m there)
  all_put port p input (suc a) m at fed there now =
      let g = graph_in parts in
      let all = messages_wait.input g trace is.can.can s r is.interleaves port p input at fed in
      let x = of_trace input trace a m (ap (λ (ms : List PortMessage). slice_get ms a) (sym all) ∙ there) in
      let time : x.1.time ≡ m.time = ap (λ (y : PortMessage). y.time) x.3 in
      ⊎_elim
      (λ (lt : x.0 < taken). put.come x.0 port x.1 x.2 (p, at, fed ∙ ap (λ (n : ℕ). Input n) (sym x.4)) (inl lt) (time ∙ now))
      (λ (ge : taken ≤ x.0). let late = later_from trace is.can.can.keeps.order taken (suc (length r.log)) next x.0 x.1 x.2 ge in absurd (omega arith))
      (cases_lt x.0 taken)

  read_on : IsReadTo (graph_in parts) trace (suc (length r.log)) taken
  read_on = record {
    before = λ k x at fed lt. let past = put.past k fed.0 x at fed.1 (inl lt) in omega arith;
    from = λ k x at fed ge. later_from trace is.can.can.keeps.order taken (suc (length r.log)) next k x at ge;
  }

stays : (parts : Parts) (r : RunState) (due : Arrived → ℕ) → AllPut parts r due → (target : Arrived) → AllPut parts r (with_tick_at target (suc (length r.log)) due)
stays parts r due put target port p input n m at fed there now =
    ⊎_elim
    (λ (own : Port port ≡ target). ap (with_tick_at target (suc (length r.log)) due) own ∙ tick_here target (suc (length r.log)) due)
    (λ (other : Port port ≡ target → ⊥). tick_other target (suc (length r.log)) due (Port port) other ∙ put port p input n m at fed there now)
    (target_cases (Port port) target)

pub bodies_read : BodiesRead
bodies_read = record {
  first = read_first;
  skips = λ g trace due taken read x there none. skips g trace due taken read x there none;
  later = λ g trace order due taken t read le next. later g trace due taken read order t le next;
  starts = starts;
  may_put = λ parts trace s r due b taken upto port x is. may_put parts trace s r due b taken upto port x is;
  puts = λ parts trace s r due b taken upto port x is new put sound.
      (placed parts trace s r due b taken upto port x is new put sound, put_then parts trace s r due b taken upto port x is new put sound);
  done = λ parts trace r due taken upto put x there none. done parts trace r due taken upto put x there none;
  ends = λ parts trace s r due b is taken put next. (all_put parts trace s r due b is taken put next, read_on parts trace s r due b is taken put next);
  stays = stays;
}
