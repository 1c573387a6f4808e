-- The order of entries is strict, and of two different ones one comes first.
use Rattle.std.proofs.Common.{◌≡◌, ℕ, ◌<◌, ◌≤◌, Bool, true, false, cond, refl, ap, ◌∙◌, ⊎_elim, arith}
use Rattle.std.proofs.lemmas.Bool.{cases_lt, cond-true, cond-false, both_ways}
use Rattle.yt_order.specs.Orders.{IsStrictOrder}
use Rattle.yt_order.proofs.Lemmas.{precedes_less, precedes_same, words_are_ordered}
use Rattle.yt_ready.specs.declared.entry.Entry.{Entry}
use Rattle.yt_ready.specs.Order.{rank, comes_before}

one_word : (x y : Bool) → cond {A = ℕ} x 0 1 ≡ cond {A = ℕ} y 0 1 → x ≡ y
one_word true true e = refl
one_word true false e = cc
one_word false true e = cc
one_word false false e = refl

-- two entries of one rank are one
one_rank : (a b : Entry) → rank a ≡ rank b → a ≡ b
unfolding rank
one_rank a b e =
    let d : a.deadline ≡ b.deadline = cc in
    let w : cond {A = ℕ} a.begun 0 1 ≡ cond {A = ℕ} b.begun 0 1 = cc in
    let g : a.begun ≡ b.begun = one_word a.begun b.begun w in
    let r : a.arrival ≡ b.arrival = cc in
    let t : a.task ≡ b.task = cc in
    let n : a.number ≡ b.number = cc in
    let made : ℕ → Bool → ℕ → ℕ → ℕ → Entry = λ deadline begun arrival task number. record { deadline = deadline; begun = begun; arrival = arrival; task = task; number = number } in
    ap (λ (x : ℕ). made x a.begun a.arrival a.task a.number) d
    ∙ ap (λ (x : Bool). made b.deadline x a.arrival a.task a.number) g
    ∙ ap (λ (x : ℕ). made b.deadline b.begun x a.task a.number) r
    ∙ ap (λ (x : ℕ). made b.deadline b.begun b.arrival x a.number) t
    ∙ ap (λ (x : ℕ). made b.deadline b.begun b.arrival b.task x) n

pub entries_are_ordered : IsStrictOrder comes_before
entries_are_ordered = record {
  on = λ a b c h k. words_are_ordered.on (rank a) (rank b) (rank c) h k;
  itself = λ a. words_are_ordered.itself (rank a);
  either = λ a b h k. one_rank a b (words_are_ordered.either (rank a) (rank b) h k);
}

-- what an entry that another doesn't come before shows of the deadlines
pub no_later : (a b : Entry) → comes_before b a ≡ false → a.deadline ≤ b.deadline
unfolding rank
no_later a b h =
    ⊎_elim
    (λ (l : b.deadline < a.deadline). absurd (both_ways (comes_before b a) h (precedes_less b.deadline a.deadline _ _ l)))
    (λ (g : a.deadline ≤ b.deadline). g)
    (cases_lt b.deadline a.deadline)

-- of a begun entry and one that isn't, of which the deadline is no earlier, the begun one comes first
pub begun_first : (a b : Entry) → a.deadline ≤ b.deadline → a.begun ≡ true → b.begun ≡ false → comes_before a b ≡ true
unfolding rank
begun_first a b le begun not =
    let x : cond {A = ℕ} a.begun 0 1 ≡ 0 = cond-true a.begun 0 1 begun in
    let y : cond {A = ℕ} b.begun 0 1 ≡ 1 = cond-false b.begun 0 1 not in
    ⊎_elim
    (λ (l : a.deadline < b.deadline). precedes_less a.deadline b.deadline _ _ l)
    (λ (g : b.deadline ≤ a.deadline). precedes_same a.deadline b.deadline _ _ (omega arith) (precedes_less (cond a.begun 0 1) (cond b.begun 0 1) _ _ (omega arith)))
    (cases_lt a.deadline b.deadline)
