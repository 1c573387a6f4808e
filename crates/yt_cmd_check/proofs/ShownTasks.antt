-- What can be printed of the tasks of a well-formed graph: their names and those of their resources are short, and there.
use Rattle.std.proofs.Common.{◌≡◌, ℕ, zero, suc, ◌+◌, ◌<◌, ◌≤◌, true, false, Bool, List, [], ◌∷◌, length, length-append, get_or, slice_get, None, Some, Option, refl, sym, ap, subst, ◌∙◌, not, nat_le, arith}
use Rattle.std.specs.Prelude.{IsTrue, ◌&&◌, ◌↔◌}
use Rattle.std.specs.List.{list_all}
use Rattle.std.specs.Option.{unwrap_or}
use Rattle.std.proofs.lemmas.Bool.{and_parts, leb-true}
use Rattle.std.proofs.lemmas.List.{length-map}
use Rattle.std.proofs.lemmas.List.Elements.{All-get_or}
use Rattle.std.proofs.lemmas.Option.{slice_get-map, slice_get-get_or, slice_get_within, unwrap_or-slice_get}
use Rattle.yt_list.specs.Numbered.{numbered_or}
use Rattle.yt_graph.specs.Labels.{label_of, labels_of, no_port}
use Rattle.yt_graph.specs.Names.{begins_as_word, is_name, is_word_byte}
use Rattle.yt_graph.specs.Picture.{GraphTree, PortTree}
use Rattle.yt_graph.specs.Reserved.{is_reserved}
use Rattle.yt_graph.specs.WellFormed.{IsWellFormed, IsFineGroup, IsFinePort, block_uses_var}
use Rattle.yt_rates.specs.Tables.{task_of, tasks_of}
use Rattle.yt_set.specs.declared.task.Task.{Task}

-- a name has from 1 to 32 bytes
short_name : (w : List ℕ) → IsTrue (is_name w) → length w ≤ 32
short_name w h =
    let rest = and_parts (begins_as_word w) (list_all is_word_byte w && (nat_le (length w) 32 && not (is_reserved w))) h in
    let more = and_parts (list_all is_word_byte w) (nat_le (length w) 32 && not (is_reserved w)) rest.1 in
    leb-true (length w) 32 (and_parts (nat_le (length w) 32) (not (is_reserved w)) more.1).0

some_name : (w : List ℕ) → IsTrue (is_name w) → w ≡ [] → ⊥
some_name [] h e = let clash : false ≡ true = h in cc
some_name (c ∷ cs) h e = cc

same_some : {A : Type 0} (a b : A) → ◌≡◌ {A = Option A} (Some a) (Some b) → a ≡ b
same_some a b e = cc

-- the port of a task
abbrev port_at : GraphTree → ℕ → PortTree
port_at g n = get_or g.ports n no_port

task_at : (g : GraphTree) (n : ℕ) → n < length g.ports → (t : Task) → slice_get (tasks_of g) n ≡ Some t → (port_at g n).group ≡ t.resource
task_at g n there t at =
    let p = port_at g n in
    let here = slice_get-map {A = PortTree} {B = Task} (task_of g) g.ports n in
    let found = slice_get-get_or g.ports n no_port there in
    ap (λ (x : Task). x.resource) (same_some (task_of g p) t (sym (rw found at here) ∙ at))

within_ports : (g : GraphTree) (n : ℕ) (t : Task) → slice_get (tasks_of g) n ≡ Some t → n < length g.ports
within_ports g n t at =
    let below = slice_get_within (tasks_of g) n t at in
    let count = length-map g.ports (task_of g) in
    omega (arith, count, below)

fine_port : (g : GraphTree) (n : ℕ) → IsWellFormed g → n < length g.ports → IsFinePort g (port_at g n)
fine_port g n fine there = All-get_or (IsFinePort g) g.ports n no_port there fine.each_port

within_groups : (g : GraphTree) (p : PortTree) (b : Bool) → IsFineGroup g p b → p.group ≤ length g.groups
within_groups g p true h = h.1
within_groups g p false h = omega (arith, h)

-- a task's resource is there
pub resource_there : (g : GraphTree) (n : ℕ) (t : Task) → IsWellFormed g → slice_get (tasks_of g) n ≡ Some t → t.resource ≤ length g.groups
resource_there g n t fine at =
    let there = within_ports g n t at in
    let p = port_at g n in
    let port = fine_port g n fine there in
    let group = within_groups g p (block_uses_var p.body) port.11 in
    subst (λ r. r ≤ length g.groups) (task_at g n there t at) group

label_at_short : (g : GraphTree) (n : ℕ) (label : List ℕ) → IsWellFormed g → slice_get (labels_of g) n ≡ Some label → length label ≤ 65
label_at_short g n label fine at =
    let below = slice_get_within (labels_of g) n label at in
    let there : n < length g.ports = omega (arith, length-map g.ports label_of) in
    let p = port_at g n in
    let port = fine_port g n fine there in
    let found = slice_get-get_or g.ports n no_port there in
    let here = slice_get-map {A = PortTree} {B = List ℕ} label_of g.ports n in
    let is : label_of p ≡ label = same_some (label_of p) label (sym (rw found at here) ∙ at) in
    let process = short_name p.process port.0 in
    let name = short_name p.name port.1 in
    let long : length (label_of p) ≡ length p.process + suc (length p.name) = length-append p.process (46 ∷ p.name) in
    subst (λ l. length l ≤ 65) is (omega (arith, long, process, name))

-- a task's name is short enough for a line, and so is none
pub label_short : (g : GraphTree) (number : ℕ) → IsWellFormed g → length (numbered_or (labels_of g) number []) ≤ 65
label_short g zero fine = omega arith
label_short g (suc n) fine = by (slice_get (labels_of g) n) refl
  where
    by : (o : Option (List ℕ)) → slice_get (labels_of g) n ≡ o → length (unwrap_or (slice_get (labels_of g) n) []) ≤ 65
    by None e = subst (λ (o : Option (List ℕ)). length (unwrap_or o []) ≤ 65) (sym e) (omega arith)
    by (Some label) e = subst (λ (o : Option (List ℕ)). length (unwrap_or o []) ≤ 65) (sym e) (label_at_short g n label fine e)

-- so is its resource's, which is empty where there is none

group_at : (groups : List (List ℕ)) (r : ℕ) → numbered_or groups (suc r) [] ≡ get_or groups r []
group_at groups r = unwrap_or-slice_get groups r []

pub group_short : (g : GraphTree) (resource : ℕ) → IsWellFormed g → resource ≤ length g.groups → length (numbered_or g.groups resource []) ≤ 65
group_short g zero fine there = omega arith
group_short g (suc r) fine there =
    let name : IsTrue (is_name (get_or g.groups r [])) = All-get_or (λ name. IsTrue (is_name name)) g.groups r [] (omega arith) fine.group_names in
    let short = short_name (get_or g.groups r []) name in
    subst (λ w. length w ≤ 65) (sym (group_at g.groups r)) (omega (arith, short))

pub group_none : (g : GraphTree) (resource : ℕ) → IsWellFormed g → resource ≤ length g.groups → (numbered_or g.groups resource [] ≡ []) ↔ (resource ≡ 0)
group_none g zero fine there = ((λ e. refl), (λ e. refl))
group_none g (suc r) fine there =
    let name : IsTrue (is_name (get_or g.groups r [])) = All-get_or (λ name. IsTrue (is_name name)) g.groups r [] (omega arith) fine.group_names in
    ((λ e. absurd (some_name (get_or g.groups r []) name (sym (group_at g.groups r) ∙ e))), (λ (e : suc r ≡ 0). absurd (omega arith)))
