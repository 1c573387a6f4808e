-- A named set with one more task.
use Rattle.std.proofs.Common.{◌≡◌, ℕ, ◌+◌, ◌<◌, ◌≤◌, ◌||◌, not, Bool, true, false, cond, IsTrue, eqb, List, [], ◌∷◌, ◌++◌, length, bytes_eq, refl, ap, subst, ◌∙◌, arith, length-append}
use Rattle.std.proofs.lemmas.Bool.Decides.{nat_tests}
use Rattle.std.proofs.lemmas.List.Elements.{All-append}
use Rattle.std.proofs.lemmas.List.Sums.{prefix_len-le-length}
use Rattle.std.specs.List.{All, position_or_len}
use Rattle.yt_set.specs.declared.task.Task.{Task}
use Rattle.yt_set.specs.NamedTasks.{NamedTasks, IsNamed, HasNameLength}
use Rattle.yt_table.specs.Tables.{is_among}
use Rattle.yt_table.proofs.Lemmas.{position_less}
use Rattle.yt_set.specs.SetText.{in_range, is_name, is_group, number_of, with_group, with_task}
use Rattle.yt_set.specs.Tasks.{IsTask}
use Rattle.yt_set.proofs.Hyperperiods.{all_one}

-- the three parts fix a named set
pub same_named : {a b : List Task} {c d e f : List (List ℕ)} → a ≡ b → c ≡ d → e ≡ f
    → (let x : NamedTasks = record { tasks = a; labels = c; groups = e } in let y : NamedTasks = record { tasks = b; labels = d; groups = f } in x ≡ y)
same_named {a} {b} {c} {d} {e} {f} p q r =
    ap (λ (t : List Task). let x : NamedTasks = record { tasks = t; labels = c; groups = e } in x) p
    ∙ ap (λ (l : List (List ℕ)). let x : NamedTasks = record { tasks = b; labels = l; groups = e } in x) q
    ∙ ap (λ (g : List (List ℕ)). let x : NamedTasks = record { tasks = b; labels = d; groups = g } in x) r

in_range_is : (n : ℕ) → IsTrue (in_range n) → (1 ≤ n) × (n ≤ 1000000)
in_range_is n h = grind (arith, nat_tests)

-- the names of resources grow by one at most, and do not get fewer
record GrowsBy (groups more : List (List ℕ)) : Type 0 where
  all : length groups ≤ length more
  one : length more ≤ length groups + 1

grows : (groups : List (List ℕ)) (group : List ℕ) → GrowsBy groups (with_group groups group)
grows groups group = by (eqb (length group) 0 || is_among group groups)
  where
    by : (b : Bool) → GrowsBy groups (cond b groups (groups ++ group ∷ []))
    by true = record { all = omega arith; one = omega arith }
    by false = record { all = omega (arith, length-append groups (group ∷ [])); one = omega (arith, length-append groups (group ∷ [])) }

-- a resource's number is among those of the names
number_within : (groups : List (List ℕ)) (group : List ℕ) → number_of groups group ≤ length (with_group groups group)
number_within groups group = by (eqb (length group) 0) (is_among group groups) refl
  where
    by : (none among : Bool) → is_among group groups ≡ among → cond none 0 (position_or_len (bytes_eq group) groups + 1) ≤ length (cond (none || among) groups (groups ++ group ∷ []))
    by true among e = omega arith
    by false true e = let less = position_less (bytes_eq group) groups e in omega arith
    by false false e = let short = prefix_len-le-length (λ x. not (bytes_eq group x)) groups in omega (arith, length-append groups (group ∷ []))

-- a name has as many bytes as a name
name_length : (text : List ℕ) → IsTrue (is_name text) → HasNameLength text
name_length text h = grind (arith, nat_tests)

-- the names of resources have it with one more, where that is one
groups_more : (groups : List (List ℕ)) (group : List ℕ) → All HasNameLength groups → IsTrue (is_group group) → All HasNameLength (with_group groups group)
groups_more groups group all h = by (eqb (length group) 0) (is_among group groups) refl
  where
    by : (none among : Bool) → eqb (length group) 0 ≡ none → All HasNameLength (cond (none || among) groups (groups ++ group ∷ []))
    by true among e = all
    by false true e = all
    by false false e =
        let named : IsTrue (is_name group) = subst (λ b. IsTrue (b || is_name group)) e h in
        All-append HasNameLength groups (group ∷ []) all (all_one HasNameLength group (name_length group named))

-- one more task in range keeps a named set named
pub named_more : (read : NamedTasks) (name : List ℕ) (cost period : ℕ) (group : List ℕ) → IsNamed read → IsTrue (in_range cost) → IsTrue (in_range period) → IsTrue (is_name name) → IsTrue (is_group group) → length read.tasks < 64 →
    IsNamed (with_task read name cost period group)
named_more read name cost period group is hc hp hn hg room =
    let new : Task = record { cost = cost; period = period; resource = number_of read.groups group } in
    let c = in_range_is cost hc in
    let p = in_range_is period hp in
    let more = grows read.groups group in
    let count = length-append read.tasks (new ∷ []) in
    let few = is.few in
    record {
      in_range = (omega arith, All-append IsTask read.tasks (new ∷ []) is.in_range.1 (all_one IsTask new (c.0, c.1, p.0, p.1)));
      labelled = let same = is.labelled in omega (arith, length-append read.labels (name ∷ []));
      labels = All-append HasNameLength read.labels (name ∷ []) is.labels (all_one HasNameLength name (name_length name hn));
      groups = groups_more read.groups group is.groups hg;
      grouped = All-append (λ t. t.resource ≤ length (with_group read.groups group)) read.tasks (new ∷ [])
          (λ k d lt. let here = is.grouped k d lt in let all = more.all in omega arith)
          (all_one (λ t. t.resource ≤ length (with_group read.groups group)) new (number_within read.groups group));
      few = let one = more.one in omega arith;
    }
