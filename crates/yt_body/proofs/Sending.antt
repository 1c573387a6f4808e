-- What a job's sends need and leave.
use Rattle.std.proofs.Common.{◌≡◌, ℕ, ◌+◌, ◌<◌, ◌≤◌, ◌⊎◌, true, List, [], ◌∷◌, ◌++◌, length, get_or, slice_get, Some, refl, sym, ap, subst, ◌∙◌, inl, inr, ⊎_elim, arith, append-nil}
use Rattle.std.specs.Prelude.{ℤ, IsSomeAnd}
use Rattle.std.specs.List.{Contains}
use Rattle.std.proofs.lemmas.Bool.{cases_eq}
use Rattle.std.proofs.lemmas.List.Elements.{Contains-append_cases}
use Rattle.yt_graph.specs.declared.handled.SendItem.{SendItem}
use Rattle.yt_graph.specs.declared.port.OutHead.{OutHead}
use Rattle.yt_graph.specs.Cost.{greatest_sends}
use Rattle.yt_graph.specs.Picture.{GraphTree, PortTree}
use Rattle.yt_graph.specs.WellFormed.{IsOutOfWidth}
use Rattle.yt_code.specs.Outbox.{AddsSend, LeavesAll, TakesAll}
use Rattle.yt_list.specs.Numbered.{numbered}
use Rattle.yt_log.specs.Tasks.{Has}
use Rattle.yt_chan.specs.declared.wire.Wire.{Wire}
use Rattle.yt_chan.specs.declared.port.PortJob.{PortJob}
use Rattle.yt_chan.specs.declared.target.Arrived.{Arrived}
use Rattle.yt_chan.specs.Pending.{Pending}
use Rattle.yt_chan.specs.State.{ChannelState, IsOfOneJob, job_at, open_at, open_on, waits_at}
use Rattle.yt_chan.specs.Wires.{AreWires, wire_at, wire_of_out, wire_to}
use Rattle.yt_chan.proofs.Lemmas.{line_is}
use Rattle.yt_interleave.specs.MidHandling.{with_sends}
use Rattle.yt_body.specs.declared.outs.Outs.{Outs}
use Rattle.yt_body.specs.Sends.{AreOpenWide, MaySend, Sends, SendsAll}
use Rattle.yt_body.specs.Sound.{IsClearOf}
use Rattle.yt_body.specs.Inside.Takes.{LeavesSend, TakesSend}
use Rattle.yt_body.specs.Wiring.{widths_of, wire_of, wires_of}
use Rattle.yt_body.proofs.Opens.{adds_send, first_fits, with_first}
use Rattle.yt_body.proofs.Places.{has_wire}
use Rattle.yt_body.proofs.Sound.{of_some}
use Rattle.yt_body.proofs.Wires.{contains_has}

-- a port stays clear where no more waits for the targets of its wires
pub clear_kept : (old new : ChannelState) (port : ℕ) → new.wires ≡ old.wires →
    ((target : Arrived) (out : ℕ) → wire_of_out old.wires port out < length old.wires → wire_to old.wires target ≡ wire_of_out old.wires port out → (m : Pending) → Contains (waits_at new target) m → Contains (waits_at old target) m) →
    IsClearOf old port → IsClearOf new port
clear_kept old new port wires less clear out lt =
    let there = subst (λ (ws : List Wire). wire_of_out ws port out < length ws) wires lt in
    let one = clear out there in (
      one.0,
      λ target to m has.
          let from : wire_to old.wires target ≡ wire_of_out old.wires port out =
          subst (λ (ws : List Wire). wire_to ws target ≡ wire_of_out ws port out) wires to in
          one.1 target from m (less target out there from m has),
    )

module _ (g : GraphTree) (port : ℕ) (p : PortTree) (are : AreWires (widths_of g) (wires_of g)) (at : numbered g.ports port ≡ Some p) where
  may_send : (ch : ChannelState) → ch.wires ≡ wires_of g → (job_at ch port).in_handling ≡ true → IsClearOf ch port → (x : SendItem) (rest : List SendItem) →
      length (with_sends (open_on ch port) (x ∷ rest) x.out) ≤ greatest_sends p x.out → IsOutOfWidth p x.out (length x.values) → MaySend ch port x.out x.values
  may_send ch w handled clear x rest fits wide =
      let o = of_some (λ (o : OutHead). o.width ≡ length x.values) (slice_get p.outs wide.0) wide.2 in
      let out_at : numbered p.outs x.out ≡ Some o.0 = ap (numbered p.outs) wide.1 ∙ o.1 in
      let h = has_wire g are port p x.out o.0 at out_at in
      let there = subst (λ (ws : List Wire). wire_of_out ws port x.out < length ws) (sym w) h.there in
      let is : wire_at ch.wires (wire_of_out ch.wires port x.out) ≡ wire_of g port p x.out o.0 = ap (λ (ws : List Wire). wire_at ws (wire_of_out ws port x.out)) w ∙ h.is in
      let room = first_fits (open_on ch port) x rest (greatest_sends p x.out) fits in
      let most : (wire_at ch.wires (wire_of_out ch.wires port x.out)).sends ≡ greatest_sends p x.out = ap (λ (v : Wire). v.sends) is in
      record {
        there = there;
        handled = handled;
        wide = sym o.2 ∙ sym (ap (λ (v : Wire). v.width) is);
        room = omega arith;
        one = clear x.out there;
      }

  pub takes_all : (sends : List SendItem) (o : Outs) → o.port ≡ port → o.channels.wires ≡ wires_of g → (job_at o.channels port).in_handling ≡ true → IsClearOf o.channels port →
      ((out : ℕ) → length (with_sends (open_on o.channels port) sends out) ≤ greatest_sends p out) → ((x : SendItem) → Has sends x → IsOutOfWidth p x.out (length x.values)) → TakesAll TakesSend LeavesSend sends o
  takes_all [] o is w handled clear room wide = tt
  takes_all (x ∷ rest) o is w handled clear room wide =
      let may = may_send o.channels w handled clear x rest (room x.out) (wide x (inl refl)) in (
        subst (λ (n : ℕ). MaySend o.channels n x.out x.values) (sym is) may,
        λ mid leaves.
            let s = subst (λ (n : ℕ). Sends o.channels n x.out x.values mid.channels) is leaves.1 in
            takes_all rest mid (leaves.0 ∙ is) (s.wires.1 ∙ w) (ap (λ (j : PortJob). j.in_handling) (s.jobs port) ∙ handled)
            (clear_kept o.channels mid.channels port s.wires.1 (λ target out lt to m has. subst (λ (ms : List Pending). Contains ms m) (s.waits target) has) clear)
            (λ out. subst (λ (ms : List (List ℤ)). length ms ≤ greatest_sends p out)
            (sym (with_first (open_on o.channels port) (open_on mid.channels port) x rest out (adds_send o.channels mid.channels port x.out x.values may.there s.wires.1 s.opens))) (room out))
            (λ y has. wide y (inr has)),
      )

wide_send : (old new : ChannelState) (port out : ℕ) (values : List ℤ) → Sends old port out values new → AreOpenWide old → AreOpenWide new
wide_send old new port out values s wide k vs has =
    let w : new.wires ≡ old.wires = s.wires.1 in
    let P : List Wire → ℕ → List ℤ → Type 0 = λ ws j xs. (j < length ws) × (length xs ≡ (wire_at ws j).width) in
    let k' = wire_of_out old.wires port out in
    let of_old : P old.wires k vs =
    ⊎_elim
    (λ (e : k ≡ k').
    let here : open_at new k ≡ open_at old k ++ values ∷ [] = subst (λ (j : ℕ). open_at new j ≡ open_at old j ++ values ∷ []) (sym e) s.opens.here in
    ⊎_elim
    (λ (before : Contains (open_at old k) vs). wide k vs before)
    (λ (now : Contains (values ∷ []) vs).
    let same : vs ≡ values = ⊎_elim (λ (q : vs ≡ values). q) (λ (none : ⊥). absurd none) (contains_has (values ∷ []) vs now.0 now.1 now.2) in
    subst (λ (j : ℕ). P old.wires j vs) (sym e) (subst (λ (xs : List ℤ). P old.wires k' xs) (sym same) (s.may.there, s.may.wide)))
    (Contains-append_cases (open_at old k) (values ∷ []) vs (subst (λ (ms : List (List ℤ)). Contains ms vs) here has)))
    (λ (ne : k ≡ k' → ⊥). wide k vs (subst (λ (ms : List (List ℤ)). Contains ms vs) (s.opens.others k ne) has))
    (cases_eq k k') in
    subst (λ (ws : List Wire). P ws k vs) (sym w) of_old

-- what sends leave, one after another
pub sends_all : (port : ℕ) (sends : List SendItem) (old new : Outs) → old.port ≡ port → LeavesAll LeavesSend sends old new → SendsAll old.channels port sends new.channels × (new.port ≡ port)
sends_all port [] old new is e =
    let none : SendsAll old.channels port [] old.channels = record {
      wires = (refl, refl);
      jobs = λ p. refl;
      placed = λ target. refl;
      waits = λ target. refl;
      added = λ out. sym (append-nil (open_on old.channels port out));
      others = λ k ne. refl;
      wide = λ w. w;
    } in
    (subst (λ (o : Outs). SendsAll old.channels port [] o.channels) (sym e) none, ap (λ (o : Outs). o.port) e ∙ is)
sends_all port (x ∷ rest) old new is (mid, leaves, later) =
    let s = subst (λ (n : ℕ). Sends old.channels n x.out x.values mid.channels) is leaves.1 in
    let both = sends_all port rest mid new (leaves.0 ∙ is) later in
    let r = both.0 in (
      record {
        wires = (r.wires.0 ∙ s.wires.0, r.wires.1 ∙ s.wires.1);
        jobs = λ p. r.jobs p ∙ s.jobs p;
        placed = λ target. r.placed target ∙ s.placed target;
        waits = λ target. r.waits target ∙ s.waits target;
        added = λ out. r.added out ∙ with_first (open_on old.channels port) (open_on mid.channels port) x rest out (adds_send old.channels mid.channels port x.out x.values s.may.there s.wires.1 s.opens);
        others = λ k ne.
            r.others k (λ e. ne (ap (λ (ws : List Wire). (wire_at ws k).port) (sym s.wires.1) ∙ e))
            ∙ s.opens.others k (λ e. ne (ap (λ (j : ℕ). (wire_at old.channels.wires j).port) e ∙ (line_is old.channels.wires port x.out s.may.there).0));
        wide = λ w. r.wide (wide_send old.channels mid.channels port x.out x.values s w);
      },
      both.1,
    )
