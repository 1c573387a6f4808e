-- What is open on the outs of a port, and which wire an out has.
use Rattle.std.proofs.Common.{◌≡◌, ℕ, zero, suc, ◌+◌, ◌-◌, ◌<◌, ◌≤◌, ◌⊎◌, eqb, List, [], ◌∷◌, ◌++◌, length, get_or, slice_get, Some, refl, sym, ap, subst, ◌∙◌, inl, inr, ⊎_elim, arith, append_assoc, append-nil, eq-eqb, ne_eqb, length-append}
use Rattle.std.specs.Prelude.{ℤ, IsSomeAnd}
use Rattle.std.specs.List.{Contains}
use Rattle.std.proofs.lemmas.Bool.{cases_eq, cases_lt, cond-true, cond-false}
use Rattle.std.proofs.lemmas.List.Elements.{Contains-append_cases}
use Rattle.std.proofs.lemmas.Option.{slice_get_within, get_or_from_slice_get}
use Rattle.std.proofs.lemmas.List.{get_or_default}
use Rattle.yt_graph.specs.declared.handled.SendItem.{SendItem}
use Rattle.yt_graph.specs.declared.port.OutHead.{OutHead}
use Rattle.yt_graph.specs.Picture.{GraphTree, PortTree}
use Rattle.yt_graph.specs.Sends.{messages_on}
use Rattle.yt_code.specs.Outbox.{AddsSend}
use Rattle.yt_list.specs.Numbered.{numbered}
use Rattle.yt_log.specs.Tasks.{Has}
use Rattle.yt_chan.specs.declared.wire.Wire.{Wire}
use Rattle.yt_chan.specs.Changes.{AddsOpen}
use Rattle.yt_chan.specs.State.{ChannelState, open_at, open_on}
use Rattle.yt_chan.specs.Wires.{AreWires, no_wire, wire_at, wire_of_out}
use Rattle.yt_chan.proofs.Lemmas.{line_is, own_line}
use Rattle.yt_interleave.specs.MidHandling.{with_sends}

-- two outs of a port that have one wire are one
pub same_out : (wires : List Wire) (port out other : ℕ) → wire_of_out wires port out < length wires → wire_of_out wires port other ≡ wire_of_out wires port out → other ≡ out
same_out wires port out other lt e =
    let a = line_is wires port out lt in
    let b = line_is wires port other (omega arith) in
    sym b.1 ∙ ap (λ (k : ℕ). (wire_at wires k).out) e ∙ a.1

-- a place past the wires has no port
pub no_wire_at : (wires : List Wire) (k : ℕ) → length wires ≤ k → (wire_at wires k).port ≡ 0
no_wire_at [] k le = refl
no_wire_at (w ∷ wires) zero le = absurd (omega arith)
no_wire_at (w ∷ wires) (suc k) le = no_wire_at wires k (omega arith)

-- the wire of an out of a port isn't one of another port
pub of_other_port : (wires : List Wire) (port out other : ℕ) → 1 ≤ other → (port ≡ other → ⊥) → (wire_at wires (wire_of_out wires port out)).port ≡ other → ⊥
of_other_port wires port out other some ne e =
    ⊎_elim
    (λ (lt : wire_of_out wires port out < length wires). ne (sym (line_is wires port out lt).0 ∙ e))
    (λ (le : length wires ≤ wire_of_out wires port out). let z = no_wire_at wires (wire_of_out wires port out) le in absurd (omega arith))
    (cases_lt (wire_of_out wires port out) (length wires))

module _ (old new : ChannelState) (port out : ℕ) (values : List ℤ) (lt : wire_of_out old.wires port out < length old.wires) (wires : new.wires ≡ old.wires) (adds : AddsOpen old new (wire_of_out old.wires port out) values) where
  pub open_here : open_on new port out ≡ open_on old port out ++ values ∷ []
  open_here = ap (λ (ws : List Wire). open_at new (wire_of_out ws port out)) wires ∙ adds.here

  pub open_other : (other : ℕ) → (other ≡ out → ⊥) → open_on new port other ≡ open_on old port other
  open_other other ne =
      ap (λ (ws : List Wire). open_at new (wire_of_out ws port other)) wires
      ∙ adds.others (wire_of_out old.wires port other) (λ e. ne (same_out old.wires port out other lt e))

  pub adds_send : AddsSend (open_on old port) (open_on new port) out values
  adds_send = (open_here, open_other)

-- a first send, and the others after it
pub with_first : (f h : ℕ → List (List ℤ)) (x : SendItem) (rest : List SendItem) (out : ℕ) → AddsSend f h x.out x.values → with_sends h rest out ≡ with_sends f (x ∷ rest) out
with_first f h x rest out adds =
    ⊎_elim
    (λ (e : x.out ≡ out).
    let here : h out ≡ f out ++ x.values ∷ [] = subst (λ (o : ℕ). h o ≡ f o ++ x.values ∷ []) e adds.0 in
    ap (λ (ms : List (List ℤ)). ms ++ messages_on out rest) here ∙ append_assoc (f out) (x.values ∷ []) (messages_on out rest)
    ∙ sym (ap (λ (ms : List (List ℤ)). f out ++ ms) (cond-true (eqb x.out out) (x.values ∷ messages_on out rest) (messages_on out rest) (eq-eqb x.out out e))))
    (λ (ne : x.out ≡ out → ⊥).
    ap (λ (ms : List (List ℤ)). ms ++ messages_on out rest) (adds.1 out (λ e. ne (sym e)))
    ∙ sym (ap (λ (ms : List (List ℤ)). f out ++ ms) (cond-false (eqb x.out out) (x.values ∷ messages_on out rest) (messages_on out rest) (ne_eqb x.out out ne))))
    (cases_eq x.out out)

-- there is room for the first send where there is for all
pub first_fits : (f : ℕ → List (List ℤ)) (x : SendItem) (rest : List SendItem) (most : ℕ) → length (with_sends f (x ∷ rest) x.out) ≤ most → length (f x.out) < most
first_fits f x rest most fits =
    let e : with_sends f (x ∷ rest) x.out ≡ f x.out ++ (x.values ∷ messages_on x.out rest) =
    ap (λ (ms : List (List ℤ)). f x.out ++ ms) (cond-true (eqb x.out x.out) (x.values ∷ messages_on x.out rest) (messages_on x.out rest) (eq-eqb x.out x.out refl)) in
    let l = ap length e ∙ length-append (f x.out) (x.values ∷ messages_on x.out rest) in
    omega arith

-- a list without elements is empty
pub none_in : {X : Type 0} (xs : List X) → ((x : X) → Contains xs x → ⊥) → xs ≡ []
none_in [] h = refl
none_in (x ∷ xs) h = absurd (h x (0, omega arith, refl))
