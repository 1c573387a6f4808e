-- A function with one value changed; messages put behind those of their feeds; one element more.
use Rattle.std.proofs.Common.{◌≡◌, ◌⊎◌, ℕ, zero, suc, eqb, List, [], ◌∷◌, ◌++◌, length, slice_get, Option, None, Some, refl, sym, ap, ◌∙◌, inl, inr, ⊎_elim, arith, append_assoc, append-nil, eq-eqb, ne_eqb}
use Rattle.std.specs.Option.{unwrap_or}
use Rattle.std.proofs.lemmas.Bool.{cases_eq, cond-true, cond-false}
use Rattle.std.proofs.lemmas.Option.{none-some}
use Rattle.yt_graph.specs.declared.port.Feed as feed
use Rattle.yt_graph.specs.declared.port.Feed.{Feed}
use Rattle.yt_graph.specs.Picture.{GraphTree, PortTree}
use Rattle.yt_serial.specs.PortMessages.{PortMessage}
use Rattle.yt_serial.specs.SerialHandling.{placed, brought}
use Rattle.yt_interleave.specs.Interleaved.{ActiveJob, put, added, to_come, passed_by, passes_of}
use Rattle.yt_serial.proofs.Lemmas.{feed_cases}
use Rattle.yt_graph.specs.declared.port.Feed.TheVariants.{Input, Out}

pub put_same : {X : Type 0} (n : ℕ) (x : X) (f : ℕ → X) (m : ℕ) → m ≡ n → put n x f m ≡ x
put_same n x f m e = cond-true (eqb m n) x (f m) (eq-eqb m n e)

pub put_other : {X : Type 0} (n : ℕ) (x : X) (f : ℕ → X) (m : ℕ) → (m ≡ n → ⊥) → put n x f m ≡ f m
put_other n x f m e = cond-false (eqb m n) x (f m) (ne_eqb m n e)

-- what is at a number after a change was put there, or was there before
pub put_cases : {X : Type 0} (n : ℕ) (x y : X) (f : ℕ → X) (m : ℕ) → put n x f m ≡ y → ((m ≡ n) × (x ≡ y)) ⊎ ((m ≡ n → ⊥) × (f m ≡ y))
put_cases {X = X} n x y f m h =
    ⊎_elim
    (λ (e : m ≡ n). inl (e, sym (put_same n x f m e) ∙ h))
    (λ (ne : m ≡ n → ⊥). inr (ne, sym (put_other n x f m ne) ∙ h))
    (cases_eq m n)

-- messages that are added twice
pub added_twice : (a b c : Feed → List PortMessage) → ((f : Feed) → a f ++ b f ≡ c f) → (feeds : List Feed) (ms : List (List PortMessage))
    → added b feeds (added a feeds ms) ≡ added c feeds ms
added_twice a b c h [] ms = refl
added_twice a b c h (f ∷ feeds) [] = refl
added_twice a b c h (f ∷ feeds) (before ∷ ms) =
    ap (λ (x : List PortMessage). x ∷ added b feeds (added a feeds ms)) (append_assoc before (a f) (b f) ∙ ap (λ (x : List PortMessage). before ++ x) (h f))
    ∙ ap (λ (xs : List (List PortMessage)). (before ++ c f) ∷ xs) (added_twice a b c h feeds ms)

pub placed_twice : (a b c : Feed → List PortMessage) → ((f : Feed) → a f ++ b f ≡ c f) → (ports : List PortTree) (ms : List (List PortMessage))
    → placed b ports (placed a ports ms) ≡ placed c ports ms
placed_twice a b c h [] ms = refl
placed_twice a b c h (p ∷ ports) [] = refl
placed_twice a b c h (p ∷ ports) (before ∷ ms) =
    ap (λ (x : List PortMessage). x ∷ placed b ports (placed a ports ms)) (append_assoc before (a p.feed) (b p.feed) ∙ ap (λ (x : List PortMessage). before ++ x) (h p.feed))
    ∙ ap (λ (xs : List (List PortMessage)). (before ++ c p.feed) ∷ xs) (placed_twice a b c h ports ms)

-- nothing is added
pub placed_none : (a : Feed → List PortMessage) → ((f : Feed) → a f ≡ []) → (ports : List PortTree) (ms : List (List PortMessage)) → length ms ≡ length ports → placed a ports ms ≡ ms
placed_none a none [] [] long = refl
placed_none a none [] (m ∷ ms) long = absurd (omega arith)
placed_none a none (p ∷ ports) [] long = refl
placed_none a none (p ∷ ports) (before ∷ ms) long =
    ap (λ (x : List PortMessage). x ∷ placed a ports ms) (ap (λ (x : List PortMessage). before ++ x) (none p.feed) ∙ append-nil before)
    ∙ ap (λ (xs : List (List PortMessage)). before ∷ xs) (placed_none a none ports ms (omega arith))

pub added_none : (a : Feed → List PortMessage) → ((f : Feed) → a f ≡ []) → (feeds : List Feed) (ms : List (List PortMessage)) → length ms ≡ length feeds → added a feeds ms ≡ ms
added_none a none [] [] long = refl
added_none a none [] (m ∷ ms) long = absurd (omega arith)
added_none a none (f ∷ feeds) [] long = refl
added_none a none (f ∷ feeds) (before ∷ ms) long =
    ap (λ (x : List PortMessage). x ∷ added a feeds ms) (ap (λ (x : List PortMessage). before ++ x) (none f) ∙ append-nil before)
    ∙ ap (λ (xs : List (List PortMessage)). before ∷ xs) (added_none a none feeds ms (omega arith))

pub added-length : (a : Feed → List PortMessage) (feeds : List Feed) (ms : List (List PortMessage)) → length ms ≡ length feeds → length (added a feeds ms) ≡ length feeds
added-length a [] ms long = refl
added-length a (f ∷ feeds) [] long = absurd (omega arith)
added-length a (f ∷ feeds) (before ∷ ms) long = ap suc (added-length a feeds ms (omega arith))

pub added_at : (a : Feed → List PortMessage) (feeds : List Feed) (ms : List (List PortMessage)) (k : ℕ) (f : Feed) → length ms ≡ length feeds → slice_get feeds k ≡ Some f
    → unwrap_or (slice_get (added a feeds ms) k) [] ≡ unwrap_or (slice_get ms k) [] ++ a f
added_at a [] ms k f long there = absurd (none-some f there)
added_at a (g ∷ feeds) [] k f long there = absurd (omega arith)
added_at a (g ∷ feeds) (before ∷ ms) zero f long there = ap (λ (o : Option Feed). before ++ a (unwrap_or o f)) there
added_at a (g ∷ feeds) (before ∷ ms) (suc k) f long there = added_at a feeds ms k f (omega arith) there

-- a job that begins adds its messages to those that are to be passed on
pub to_come_begun : (g : GraphTree) (active : ℕ → Option ActiveJob) (task : ℕ) (b : ActiveJob) → active task ≡ None → (f : Feed)
    → to_come g active f ++ brought task (passes_of g b) f ≡ to_come g (put task (Some b) active) f
to_come_begun g active task b free (feed.TheVariants.Input input) = refl
to_come_begun g active task b free (feed.TheVariants.Out port out) =
    ⊎_elim
    (λ (e : port ≡ task).
    let new : passed_by g (put task (Some b) active port) out ≡ passes_of g b out = ap (λ (o : Option ActiveJob). passed_by g o out) (put_same task (Some b) active port e) in
    let old : passed_by g (active port) out ≡ [] = ap (λ (o : Option ActiveJob). passed_by g o out) (ap active e ∙ free) in
    ap (λ (x : List PortMessage). x ++ brought task (passes_of g b) (feed.TheVariants.Out port out)) old ∙ cond-true (eqb port task) (passes_of g b out) [] (eq-eqb port task e) ∙ sym new)
    (λ (ne : port ≡ task → ⊥).
    let new : passed_by g (put task (Some b) active port) out ≡ passed_by g (active port) out = ap (λ (o : Option ActiveJob). passed_by g o out) (put_other task (Some b) active port ne) in
    ap (λ (x : List PortMessage). passed_by g (active port) out ++ x) (cond-false (eqb port task) (passes_of g b out) [] (ne_eqb port task ne)) ∙ append-nil (passed_by g (active port) out) ∙ sym new)
    (cases_eq port task)

-- and one that ends takes them from there
pub to_come_ended : (g : GraphTree) (active : ℕ → Option ActiveJob) (task : ℕ) (b : ActiveJob) → active task ≡ Some b → (f : Feed)
    → brought task (passes_of g b) f ++ to_come g (put task None active) f ≡ to_come g active f
to_come_ended g active task b there (feed.TheVariants.Input input) = refl
to_come_ended g active task b there (feed.TheVariants.Out port out) =
    ⊎_elim
    (λ (e : port ≡ task).
    let new : passed_by g (put task None active port) out ≡ [] = ap (λ (o : Option ActiveJob). passed_by g o out) (put_same task None active port e) in
    let old : passed_by g (active port) out ≡ passes_of g b out = ap (λ (o : Option ActiveJob). passed_by g o out) (ap active e ∙ there) in
    ap (λ (x : List PortMessage). brought task (passes_of g b) (feed.TheVariants.Out port out) ++ x) new ∙ append-nil _ ∙ cond-true (eqb port task) (passes_of g b out) [] (eq-eqb port task e) ∙ sym old)
    (λ (ne : port ≡ task → ⊥).
    let new : passed_by g (put task None active port) out ≡ passed_by g (active port) out = ap (λ (o : Option ActiveJob). passed_by g o out) (put_other task None active port ne) in
    ap (λ (x : List PortMessage). x ++ passed_by g (put task None active port) out) (cond-false (eqb port task) (passes_of g b out) [] (ne_eqb port task ne)) ∙ new)
    (cases_eq port task)

-- nothing is to come where no job is active
pub to_come_none : (g : GraphTree) (active : ℕ → Option ActiveJob) → ((port : ℕ) → active port ≡ None) → (f : Feed) → to_come g active f ≡ []
to_come_none g active none f =
    ⊎_elim
    (λ (i : (input : ℕ) × (f ≡ Input input)). ap (to_come g active) i.1)
    (λ (o : (source out : ℕ) × (f ≡ Out source out)). ap (to_come g active) o.2 ∙ ap (λ (b : Option ActiveJob). passed_by g b o.1) (none o.0))
    (feed_cases f)
