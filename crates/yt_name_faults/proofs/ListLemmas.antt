-- Lists that grow by one of what another list has.
use Rattle.std.proofs.Common.{◌≡◌, ◌+◌, List, [], ◌∷◌, ◌++◌, length, map, refl, sym, ap, ◌∙◌, arith}
use Rattle.std.proofs.lemmas.List.{map-append, append_assoc, length-append, length-map}

pub map_map : {X Y Z : Type 0} (f : Y → Z) (g : X → Y) (xs : List X) → map f (map g xs) ≡ map (λ x. f (g x)) xs
map_map f g [] = refl
map_map f g (x ∷ xs) = ap (λ r. f (g x) ∷ r) (map_map f g xs)

pub one_longer : {X : Type 0} (old new : List X) (x : X) → new ≡ old ++ x ∷ [] → length new ≡ length old + 1
one_longer old new x e = ap length e ∙ length-append old (x ∷ [])

-- what is there and then what comes, when the first that comes is added
pub grows : {X Y Z : Type 0} (f : X → Z) (g : Y → Z) (old new : List X) (x : X) (y : Y) (rest front : List Y) (end : List Z)
    → new ≡ old ++ x ∷ [] → f x ≡ g y → front ≡ y ∷ rest → map f old ++ map g front ≡ end → map f new ++ map g rest ≡ end
grows f g old new x y rest front end e same cut h =
    ap (λ l. map f l ++ map g rest) e
    ∙ ap (λ l. l ++ map g rest) (map-append f old (x ∷ []))
    ∙ append_assoc (map f old) (f x ∷ []) (map g rest)
    ∙ ap (λ z. map f old ++ (z ∷ map g rest)) same
    ∙ ap (λ l. map f old ++ map g l) (sym cut)
    ∙ h

-- how many more there are
pub count_of : {X Z : Type 0} (f : X → Z) (old new : List X) (more : List Z) → map f new ≡ map f old ++ more → length old + length more ≡ length new
count_of f old new more e = omega (arith, ap length e, length-append (map f old) more, length-map old f, length-map new f)

-- the same, where the rest is a list of its own
pub grows_by : {X Z : Type 0} (f : X → Z) (old new : List X) (x : X) (z : Z) (rest front end : List Z)
    → new ≡ old ++ x ∷ [] → f x ≡ z → front ≡ z ∷ rest → map f old ++ front ≡ end → map f new ++ rest ≡ end
grows_by f old new x z rest front end e same cut h =
    ap (λ l. map f l ++ rest) e
    ∙ ap (λ l. l ++ rest) (map-append f old (x ∷ []))
    ∙ append_assoc (map f old) (f x ∷ []) rest
    ∙ ap (λ y. map f old ++ (y ∷ rest)) same
    ∙ ap (λ l. map f old ++ l) (sym cut)
    ∙ h

-- some that come are added
pub joins : {Z : Type 0} (old new some rest front end : List Z) → new ≡ old ++ some → front ≡ some ++ rest → old ++ front ≡ end → new ++ rest ≡ end
joins old new some rest front end e cut h = ap (λ l. l ++ rest) e ∙ append_assoc old some rest ∙ ap (λ l. old ++ l) (sym cut) ∙ h

-- nothing is added
pub and_none : {Z : Type 0} (old : List Z) → old ≡ old ++ []
and_none [] = refl
and_none (x ∷ xs) = ap (λ l. x ∷ l) (and_none xs)
