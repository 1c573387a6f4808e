-- What feeds each target, as the wires are gone over.
use Rattle.std.proofs.Common.{Result, Ok, Err, ◌≡◌, ℕ, ◌+◌, ◌<◌, ◌≤◌, Bool, true, false, ◌||◌, cond, eqb, ltb, not, List, [], ◌++◌, length, get_or, set, take, drop, replicate, refl, sym, ap, ap₂, subst, ◌∙◌, arith, ⊎_elim, lt-ltb, le-ltb, eq-eqb, ne_eqb}
use Rattle.std.specs.Prelude.{IfOk}
use Rattle.std.proofs.lemmas.Bool.{cases_eq, cases_lt, cond-true, cond-false, false_from_ne_true}
use Rattle.std.proofs.lemmas.Grind.{common_steps}
use Rattle.std.proofs.lemmas.List.{append-nil, get_or-set_same, get_or-set_other, get_or-replicate, length-set, length-replicate}
use Rattle.std.proofs.lemmas.List.Folds.{list_any_more}
use Rattle.std.proofs.lemmas.List.Sums.{position_or_len_is, prefix_len-le-length}
use Rattle.yt_chan.specs.declared.inbox.Inbox.{Inbox}
use Rattle.yt_chan.specs.declared.target.Arrived.{Arrived}
use Rattle.yt_chan.specs.declared.wire.Wire.{Wire}
use Rattle.yt_chan.specs.Inside.Sound.{no_inbox}
use Rattle.yt_chan.specs.Wires.{HaveOneSource, feeds, is_one_of, no_wire, wire_at, wire_to}
use Rattle.yt_chan.proofs.Table.{source_is}

-- a wire's place is noted at the first i of these numbers
pub record AreNoted (numbers old now : List ℕ) (wire i : ℕ) : Type 0 where
  pub long : length now ≡ length old
  pub each : (n d : ℕ) → n < length old → get_or now n d ≡ cond (is_one_of (take i numbers) n) wire (get_or old n d)

pub noted_none : (numbers old : List ℕ) (wire : ℕ) → AreNoted numbers old old wire 0
noted_none numbers old wire = record { long = refl; each = λ n d lt. refl }

either_way : (a : Bool) (w o : ℕ) → w ≡ cond (a || true) w o
either_way true w o = refl
either_way false w o = refl

as_before : (a : Bool) (w o : ℕ) → cond a w o ≡ cond (a || false) w o
as_before true w o = refl
as_before false w o = refl

pub noted_more : (numbers old now : List ℕ) (wire i x : ℕ) → i < length numbers → x ≡ get_or numbers i 0 → x < length old → AreNoted numbers old now wire i → AreNoted numbers old (set now x wire) wire (i + 1)
noted_more numbers old now wire i x lt at there noted =
    let l = noted.long in
    let s = length-set now x wire in
    record {
      long = omega arith;
      each = λ n d b.
          let more : is_one_of (take (i + 1) numbers) n ≡ (is_one_of (take i numbers) n || eqb x n) = list_any_more (λ k. eqb k n) numbers i 0 lt ∙ ap (λ (k : ℕ). is_one_of (take i numbers) n || eqb k n) (sym at) in
          ⊎_elim
          (λ (e : x ≡ n).
          let here : x < length now = omega arith in
          let P : ℕ → Type 0 = λ k. get_or (set now x wire) k d ≡ wire in
          subst P e (get_or-set_same now x wire d here) ∙
          either_way (is_one_of (take i numbers) n) wire (get_or old n d) ∙
          ap (λ (b : Bool). cond (is_one_of (take i numbers) n || b) wire (get_or old n d)) (sym (eq-eqb x n e)) ∙
          ap (λ (b : Bool). cond b wire (get_or old n d)) (sym more))
          (λ (ne : x ≡ n → ⊥).
          get_or-set_other now x n wire d (λ e. ne (sym e)) ∙ noted.each n d b ∙
          as_before (is_one_of (take i numbers) n) wire (get_or old n d) ∙
          ap (λ (b : Bool). cond (is_one_of (take i numbers) n || b) wire (get_or old n d)) (sym (ne_eqb x n ne)) ∙
          ap (λ (b : Bool). cond b wire (get_or old n d)) (sym more))
          (cases_eq x n);
    }

-- the wire that feeds a target, where it is among the first n
abbrev pub among : ℕ → ℕ → ℕ → ℕ
among n source none = cond (ltb source n) source none

-- the source of each target, as far as the first n wires go
pub record AreFed (wires : List Wire) (target : ℕ → Arrived) (n : ℕ) (sources : List ℕ) : Type 0 where
  pub each : (k d : ℕ) → k < length sources → get_or sources k d ≡ among n (wire_to wires (target k)) (length wires)

pub fed_none : (wires : List Wire) (target : ℕ → Arrived) (m : ℕ) (sources : List ℕ) → sources ≡ replicate m (length wires) → AreFed wires target 0 sources
fed_none wires target m sources e =
    let l = ap length e ∙ length-replicate m (length wires) in
    record {
      each = λ k d lt.
          ap (λ (xs : List ℕ). get_or xs k d) e ∙ get_or-replicate m k (length wires) d (omega arith) ∙
          sym (cond-false (ltb (wire_to wires (target k)) 0) (wire_to wires (target k)) (length wires) (le-ltb (wire_to wires (target k)) 0 (omega arith)));
    }

-- a wire that feeds a target is its source
source_of : (wires : List Wire) → HaveOneSource wires → (k : ℕ) (target : Arrived) → k < length wires → feeds (wire_at wires k) target ≡ true → wire_to wires target ≡ k
source_of wires one k target lt is =
    position_or_len_is (λ w. feeds w target) wires k no_wire (omega arith)
    (λ j b. false_from_ne_true (feeds (wire_at wires j) target) (λ h. one j k target b lt h is))
    (λ _. is)

-- one wire more
among_more : (wires : List Wire) → HaveOneSource wires → (n : ℕ) (target : Arrived) → n < length wires → (b : Bool) → feeds (wire_at wires n) target ≡ b →
    cond b n (among n (wire_to wires target) (length wires)) ≡ among (n + 1) (wire_to wires target) (length wires)
among_more wires one n target lt true is =
    sym (ap (λ (w : ℕ). among (n + 1) w (length wires)) (source_of wires one n target lt is) ∙ cond-true (ltb n (n + 1)) n (length wires) (lt-ltb n (n + 1) (omega arith)))
among_more wires one n target lt false is =
    let w = wire_to wires target in
    ⊎_elim
    (λ (b : w < n). cond-true (ltb w n) w (length wires) (lt-ltb w n b) ∙ sym (cond-true (ltb w (n + 1)) w (length wires) (lt-ltb w (n + 1) (omega arith))))
    (λ (g : n ≤ w).
    let ne : w ≡ n → ⊥ = λ e.
    let P : ℕ → Type 0 = λ k. feeds (wire_at wires k) target ≡ true in
    let fed = subst P e (source_is wires target (omega arith)) in
    let clash : true ≡ false = sym fed ∙ is in
    cc in
    let past : n + 1 ≤ w = ⊎_elim (λ (e : w ≡ n). absurd (ne e)) (λ (h : w ≡ n → ⊥). omega arith) (cases_eq w n) in
    cond-false (ltb w n) w (length wires) (le-ltb w n g) ∙ sym (cond-false (ltb w (n + 1)) w (length wires) (le-ltb w (n + 1) past)))
    (cases_lt w n)

pub fed_more : (wires : List Wire) → HaveOneSource wires → (target : ℕ → Arrived) (n : ℕ) (numbers old new : List ℕ) → n < length wires → ((k : ℕ) → feeds (wire_at wires n) (target k) ≡ is_one_of numbers k) →
    AreFed wires target n old → length new ≡ length old → ((k d : ℕ) → k < length old → get_or new k d ≡ cond (is_one_of numbers k) n (get_or old k d)) → AreFed wires target (n + 1) new
fed_more wires one target n numbers old new lt same fed long noted = record {
  each = λ k d b.
      noted k d (omega arith) ∙
      ap₂ (λ (c : Bool) (o : ℕ). cond c n o) (sym (same k)) (fed.each k d (omega arith)) ∙
      among_more wires one n (target k) lt (feeds (wire_at wires n) (target k)) refl;
}

-- all wires
among_all : (wires : List Wire) (n : ℕ) (target : Arrived) → length wires ≤ n → among n (wire_to wires target) (length wires) ≡ wire_to wires target
among_all wires n target le =
    let w = wire_to wires target in
    let most : w ≤ length wires = prefix_len-le-length (λ x. not (feeds x target)) wires in
    ⊎_elim
    (λ (b : w < n). cond-true (ltb w n) w (length wires) (lt-ltb w n b))
    (λ (g : n ≤ w). let e : length wires ≡ w = omega arith in cond-false (ltb w n) w (length wires) (le-ltb w n g) ∙ e)
    (cases_lt w n)

fed_inboxes : (wires : List Wire) (target : ℕ → Arrived) (n : ℕ) (sources : List ℕ) (places : List Inbox) → length wires ≤ n → AreFed wires target n sources → length places ≡ length sources →
    ((k : ℕ) (d : Inbox) → k < length places → get_or places k d ≡ no_inbox (get_or sources k 0)) → (k : ℕ) (d : Inbox) → k < length places → get_or places k d ≡ no_inbox (wire_to wires (target k))
fed_inboxes wires target n sources places le fed long made k d lt =
    made k d lt ∙ ap no_inbox (fed.each k 0 (omega arith) ∙ among_all wires n (target k) le)

-- what is written back through a slice of a whole `Vec`
pub written : (items slice new : List ℕ) (len : ℕ) → slice ≡ items → length slice ≡ len → length new ≡ length slice → take len (new ++ drop (length new) items) ≡ new
written items slice new len same long kept =
    let all : length slice ≡ length items = ap length same in
    let none : drop (length new) items ≡ [] = grind (arith, common_steps) in
    let whole : take len new ≡ new = grind (arith, common_steps) in
    ap (λ (rest : List ℕ). take len (new ++ rest)) none ∙ ap (take len) (append-nil new) ∙ whole

-- so each target has the inbox of its source
pub fed_result : {X E : Type 0} (result : Result X E) (items : X → List Inbox) (wires : List Wire) (target : ℕ → Arrived) (n m : ℕ) (sources : List ℕ) → length wires ≤ n → AreFed wires target n sources → length sources ≡ m →
    IfOk result (λ x. (length (items x) ≡ length sources) × ((k : ℕ) (d : Inbox) → k < length (items x) → get_or (items x) k d ≡ no_inbox (get_or sources k 0))) →
    IfOk result (λ x. (length (items x) ≡ m) × ((k : ℕ) (d : Inbox) → k < length (items x) → get_or (items x) k d ≡ no_inbox (wire_to wires (target k))))
fed_result (Ok x) items wires target n m sources le fed long made = (made.0 ∙ long, fed_inboxes wires target n sources (items x) le fed made.0 made.1)
fed_result (Err error) items wires target n m sources le fed long made = tt
