-- A process whose name a resource has is that resource itself.
use Rattle.std.proofs.Common.{◌≡◌, ℕ, suc, ◌+◌, ◌-◌, ◌≤◌, List, [], ◌∷◌, ◌++◌, length, map, Bool, true, false, ◌||◌, cond, is_some, Option, Some, None, true≢false, slice_get, bytes_eq, refl, sym, ap, ◌∙◌, subst, arith, if◌then◌else◌, IsSomeAnd}
use Rattle.std.specs.List.{list_any, position_from, flat_map}
use Rattle.std.specs.Option.{unwrap_or}
use Rattle.std.proofs.lemmas.Slice.Eq.{bytes_eq-Decides}
use Rattle.yt_graph.specs.declared.ast.Word.{Word}
use Rattle.yt_graph.specs.declared.ast.VarDecl.{VarDecl}
use Rattle.yt_graph.specs.declared.graph as graph
use Rattle.yt_graph.specs.AstPicture.{ItemTree, input, output, resource, process}
use Rattle.yt_graph.specs.Picture.{PortTree}
use Rattle.yt_graph.specs.WellFormed.{AreDifferent, block_uses_var}
use Rattle.yt_table.specs.Tables.{first_of}
use Rattle.yt_names.specs.Resolved.{place_of, number_among, resources_of, own_resource, own_resources_of, resolved_groups, resource_name, var_of, vars_of}
use Rattle.yt_names.proofs.FineLemmas.{place_stays, found_within}
use Rattle.yt_names.proofs.formed.Lists.{both_fail, neither_holds, none_append, found, any_right, any_second}
use Rattle.yt_names.proofs.formed.Groups.{key_by, IsGrouped}
use Rattle.yt_names.proofs.formed.Names.{process_name}

-- a process that is a resource of its own has variables
its_vars : (y : List ℕ) (w : Word) (inside : Option Word) (vars : List VarDecl) (names : List (List ℕ)) (others : List graph.Var.Var)
    → (list_any (bytes_eq y) names ≡ true → list_any (λ (v : graph.Var.Var). bytes_eq y v.process) others ≡ true)
    → list_any (bytes_eq y) (own_resource w inside vars ++ names) ≡ true → list_any (λ (v : graph.Var.Var). bytes_eq y v.process) (map (var_of w.text) vars ++ others) ≡ true
its_vars y w (Some r) vars names others more e = any_right (λ (v : graph.Var.Var). bytes_eq y v.process) (map (var_of w.text) vars) others (more e)
its_vars y w None [] names others more e = more e
its_vars y w None (v ∷ vs) names others more e = by (bytes_eq y w.text) e
  where
    by : (b : Bool) → (b || list_any (bytes_eq y) names) ≡ true → (b || list_any (λ (v : graph.Var.Var). bytes_eq y v.process) (map (var_of w.text) vs ++ others)) ≡ true
    by true h = refl
    by false h = any_right (λ (v : graph.Var.Var). bytes_eq y v.process) (map (var_of w.text) vs) others (more h)

vars_there : (y : List ℕ) (items : List ItemTree) → list_any (bytes_eq y) (flat_map own_resources_of items) ≡ true → list_any (λ (v : graph.Var.Var). bytes_eq y v.process) (flat_map vars_of items) ≡ true
vars_there y [] e = absurd (true≢false (sym e))
vars_there y (input i ∷ rest) e = vars_there y rest e
vars_there y (output o ∷ rest) e = vars_there y rest e
vars_there y (resource r ∷ rest) e = vars_there y rest e
vars_there y (process p ∷ rest) e = its_vars y p.name p.inside p.vars (flat_map own_resources_of rest) (flat_map vars_of rest) (vars_there y rest) e

-- resources of processes are named after them
none_own : (t : List ℕ → Bool) (w : Word) (inside : Option Word) (vars : List VarDecl) → t w.text ≡ false → list_any t (own_resource w inside vars) ≡ false
none_own t w (Some r) vars e = refl
none_own t w None [] e = refl
none_own t w None (v ∷ vs) e = neither_holds (t w.text) false e refl

none_owned : (t : List ℕ → Bool) (items : List ItemTree) → list_any t (flat_map process_name items) ≡ false → list_any t (flat_map own_resources_of items) ≡ false
none_owned t [] e = refl
none_owned t (input i ∷ rest) e = none_owned t rest e
none_owned t (output o ∷ rest) e = none_owned t rest e
none_owned t (resource r ∷ rest) e = none_owned t rest e
none_owned t (process q ∷ rest) e =
    let p = both_fail (t q.name.text) (list_any t (flat_map process_name rest)) e in
    none_append t (own_resource q.name q.inside q.vars) (flat_map own_resources_of rest) (none_own t q.name q.inside q.vars p.0) (none_owned t rest p.1)

-- the resource of a process that is one of its own has its name
its_key : (y : List ℕ) (w : Word) (inside : Option Word) (vars : List VarDecl) (rest : List ItemTree) → list_any (bytes_eq w.text) (flat_map process_name rest) ≡ false
    → (list_any (bytes_eq y) (flat_map own_resources_of rest) ≡ true → key_by y rest ≡ y)
    → list_any (bytes_eq y) (own_resource w inside vars ++ flat_map own_resources_of rest) ≡ true → cond (bytes_eq y w.text) (resource_name w inside) (key_by y rest) ≡ y
its_key y w inside vars rest apart more there = by (bytes_eq y w.text) refl inside there
  where
    by : (b : Bool) → bytes_eq y w.text ≡ b → (i : Option Word) → list_any (bytes_eq y) (own_resource w i vars ++ flat_map own_resources_of rest) ≡ true → cond b (resource_name w i) (key_by y rest) ≡ y
    by false e i h = more (any_second (bytes_eq y) (own_resource w i vars) (flat_map own_resources_of rest) (none_own (bytes_eq y) w i vars e) h)
    by true e None h = sym ((bytes_eq-Decides y w.text).0 e)
    by true e (Some r) h =
        absurd (true≢false (sym h ∙ ap (λ n. list_any (bytes_eq n) (flat_map own_resources_of rest)) ((bytes_eq-Decides y w.text).0 e) ∙ none_owned (bytes_eq w.text) rest apart))

own_key : (y : List ℕ) (items : List ItemTree) → AreDifferent (flat_map process_name items) → list_any (bytes_eq y) (flat_map own_resources_of items) ≡ true → key_by y items ≡ y
own_key y [] d e = absurd (true≢false (sym e))
own_key y (input i ∷ rest) d e = own_key y rest d e
own_key y (output o ∷ rest) d e = own_key y rest d e
own_key y (resource r ∷ rest) d e = own_key y rest d e
own_key y (process p ∷ rest) d e = its_key y p.name p.inside p.vars rest d.0 (own_key y rest d.1) e

-- the name that stands at the number of a name
name_at : (y : List ℕ) (base : ℕ) (names : List (List ℕ)) (k : ℕ) → first_of y base names ≡ Some k → IsSomeAnd (slice_get names (k - base)) (λ name. name ≡ y)
name_at y base [] k e = absurd (cc)
name_at y base (x ∷ xs) k e = by (bytes_eq y x) refl (name_at y (base + 1) xs k)
  where
    by : (b : Bool) → bytes_eq y x ≡ b → (first_of y (base + 1) xs ≡ Some k → IsSomeAnd (slice_get xs (k - (base + 1))) (λ name. name ≡ y)) → IsSomeAnd (slice_get (x ∷ xs) (k - base)) (λ name. name ≡ y)
    by true t rest =
        let here : Some base ≡ Some k = sym (ap (λ c. cond c (Some base) (position_from (bytes_eq y) (base + 1) xs)) t) ∙ e in
        let same : base ≡ k = cc in
        let first : k - base ≡ 0 = omega arith in
        subst (λ j. IsSomeAnd (slice_get (x ∷ xs) j) (λ name. name ≡ y)) (sym first) (sym ((bytes_eq-Decides y x).0 t))
    by false t rest =
        let later : position_from (bytes_eq y) (base + 1) xs ≡ Some k = sym (ap (λ c. cond c (Some base) (position_from (bytes_eq y) (base + 1) xs)) t) ∙ e in
        let w = found_within (bytes_eq y) (base + 1) xs k later in
        let next : k - base ≡ suc (k - (base + 1)) = omega (arith, w.0) in
        subst (λ j. IsSomeAnd (slice_get (x ∷ xs) j) (λ name. name ≡ y)) (sym next) (rest later)

number_names : (y : List ℕ) (names : List (List ℕ)) → list_any (bytes_eq y) names ≡ true → length names ≤ 96 → IsSomeAnd (slice_get names (number_among y names - 1)) (λ name. name ≡ y)
number_names y names there few = by (first_of y 1 names) refl (found y 1 names there)
  where
    by : (o : Option ℕ) → first_of y 1 names ≡ o → is_some o ≡ true → IsSomeAnd (slice_get names (place_of (unwrap_or o 0) - 1)) (λ name. name ≡ y)
    by None e s = absurd (true≢false (sym s))
    by (Some k) e s =
        let w = found_within (bytes_eq y) 1 names k e in
        subst (λ j. IsSomeAnd (slice_get names (j - 1)) (λ name. name ≡ y)) (sym (place_stays k (omega (arith, w.1)))) (name_at y 1 names k e)

-- a port of a process that has the name of a resource
pub own_group : (all : List ItemTree) (p : PortTree) → AreDifferent (flat_map process_name all) → length (resolved_groups all) ≤ 96
    → IsGrouped all (resolved_groups all) p → list_any (bytes_eq p.process) (flat_map resources_of all) ≡ false → list_any (bytes_eq p.process) (resolved_groups all) ≡ true
    → (list_any (λ (v : graph.Var.Var). bytes_eq p.process v.process) (flat_map vars_of all) ≡ true)
    × (block_uses_var p.body ≡ true → IsSomeAnd (slice_get (resolved_groups all) (p.group - 1)) (λ name. name ≡ p.process))
own_group all p differ few grouped apart there =
    let own = any_second (bytes_eq p.process) (flat_map resources_of all) (flat_map own_resources_of all) apart there in
    let under : block_uses_var p.body ≡ true → p.group ≡ number_among p.process (resolved_groups all) = λ used.
    grouped
    ∙ ap (λ b. if b then number_among (key_by p.process all) (resolved_groups all) else 0) used
    ∙ ap (λ n. number_among n (resolved_groups all)) (own_key p.process all differ own) in (
      vars_there p.process all own,
      λ used. subst (λ j. IsSomeAnd (slice_get (resolved_groups all) (j - 1)) (λ name. name ≡ p.process)) (sym (under used)) (number_names p.process (resolved_groups all) there few),
    )
