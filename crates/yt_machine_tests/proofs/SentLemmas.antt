-- What was sent to an outbox that takes the messages of a list, one after another.
use Rattle.std.proofs.Common.{◌≡◌, ◌≢◌, ℕ, zero, suc, ◌+◌, ◌<◌, List, [], ◌∷◌, ◌++◌, length, take, get_or, refl, sym, ap, ◌∙◌, ⊎_elim, append-nil, Bool, true, false, arith}
use Rattle.std.specs.Prelude.{ℤ, ◌==◌, if◌then◌else◌}
use Rattle.std.proofs.lemmas.Bool.{cases_Bool, eqb-true, eqb-false}
use Rattle.yt_graph.specs.declared.handled.SendItem.{SendItem}
use Rattle.yt_code.specs.Outbox.{AddsSend}
use Rattle.yt_graph.specs.Sends.{messages_on}

keeps : {X : Type 0} (b : Bool) (v : X) (ys zs ws : List X) → ys ≡ zs ++ ws → (if b then v ∷ ys else ys) ≡ (if b then v ∷ zs else zs) ++ ws
keeps true v ys zs ws e = ap (λ x. v ∷ x) e
keeps false v ys zs ws e = e

sent_next : (o n : ℕ) (xs : List SendItem) (d : SendItem) → n < length xs → messages_on o (take (suc n) xs) ≡ messages_on o (take n xs) ++ messages_on o (get_or xs n d ∷ [])
sent_next o n [] d lt = absurd (omega arith)
sent_next o zero (x ∷ xs) d lt = refl
sent_next o (suc n) (x ∷ xs) d lt = keeps (x.out == o) x.values (messages_on o (take (suc n) xs)) (messages_on o (take n xs)) (messages_on o (get_or xs n d ∷ [])) (sent_next o n xs d (omega arith))

on_out : (o : ℕ) (s : SendItem) → s.out ≡ o → messages_on o (s ∷ []) ≡ s.values ∷ []
on_out o s e =
    ⊎_elim (λ (t : (s.out == o) ≡ true). ap (λ (b : Bool). if b then s.values ∷ [] else []) t) (λ (f : (s.out == o) ≡ false). absurd (eqb-false s.out o f e)) (cases_Bool (s.out == o))

on_other : (out o : ℕ) (s : SendItem) → s.out ≡ out → o ≢ out → messages_on o (s ∷ []) ≡ []
on_other out o s e not =
    ⊎_elim (λ (t : (s.out == o) ≡ true). absurd (not (sym (eqb-true s.out o t) ∙ e))) (λ (f : (s.out == o) ≡ false). ap (λ (b : Bool). if b then s.values ∷ [] else []) f) (cases_Bool (s.out == o))

-- the next message of the list is taken
pub takes_next : (n m out : ℕ) (xs : List SendItem) (x : SendItem) (values : List ℤ) → m ≡ n + 1 → n < length xs → x ≡ get_or xs n x → x.out ≡ out → x.values ≡ values →
    AddsSend (λ o. messages_on o (take n xs)) (λ o. messages_on o (take m xs)) out values
takes_next n m out xs x values next lt is same_out same =
    let step : m ≡ suc n = omega (arith, next) in
    let here = λ (o : ℕ). ap (λ (k : ℕ). messages_on o (take k xs)) step ∙ sent_next o n xs x lt ∙ ap (λ (s : SendItem). messages_on o (take n xs) ++ messages_on o (s ∷ [])) (sym is) in (
      here out ∙ ap (λ ws. messages_on out (take n xs) ++ ws) (on_out out x same_out ∙ ap (λ (v : List ℤ). v ∷ []) same),
      λ other not. here other ∙ ap (λ ws. messages_on other (take n xs) ++ ws) (on_other out other x same_out not) ∙ append-nil (messages_on other (take n xs)),
    )
