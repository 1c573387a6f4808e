-- What sources and paths without faults lead to in the graph.
use Rattle.std.proofs.Common.{◌≡◌, ℕ, suc, ◌+◌, ◌≤◌, List, [], ◌∷◌, ◌++◌, length, map, Bool, true, false, not, ◌||◌, cond, Option, Some, None, true≢false, slice_get, bytes_eq, refl, sym, ap, ◌∙◌, subst, arith, IsSomeAnd}
use Rattle.std.specs.Prelude.{pos, Result, Ok, Err}
use Rattle.std.specs.Ordering.{int_eq}
use Rattle.std.specs.List.{list_any, position_from, flat_map}
use Rattle.std.specs.Option.{option_map, option_and_then, unwrap_or}
use Rattle.std.proofs.lemmas.Bool.Decides.{Decides-int_eq}
use Rattle.std.proofs.lemmas.List.{map-append}
use Rattle.std.proofs.lemmas.Option.{slice_get-map, slice_get_within}
use Rattle.yt_graph.specs.declared.ast.Word.{Word}
use Rattle.yt_graph.specs.declared.ast.Num.{Num}
use Rattle.yt_graph.specs.declared.ast.Path.{Path}
use Rattle.yt_graph.specs.declared.ast.Source as source
use Rattle.yt_graph.specs.declared.ast.Source.{Source}
use Rattle.yt_graph.specs.declared.ast.VarDecl.{VarDecl}
use Rattle.yt_graph.specs.declared.ast.OutDecl.{OutDecl}
use Rattle.yt_graph.specs.declared.operator.OpHead.{OpHead}
use Rattle.yt_graph.specs.declared.graph as graph
use Rattle.yt_graph.specs.AstPicture.{PortDeclTree, InputTree, ResourceTree, ItemTree, input, output, resource, process}
use Rattle.yt_graph.specs.Picture.{PortTree}
use Rattle.yt_graph.specs.WellFormed.{IsOutAnd, IsFeedOfWidth}
use Rattle.yt_name_faults.specs.declared.fault.NameFault.{NameFault}
use Rattle.yt_name_faults.specs.declared.target.Target.{Target}
use Rattle.yt_table.specs.Tables.{first_of}
use Rattle.yt_graph.specs.ItemNames.{item_name}
use Rattle.yt_name_faults.specs.Names.{item_names, port_names, out_names}
use Rattle.yt_name_faults.specs.Paths.{Placed, placed_from, placed_named, look_up, in_placed, in_part, port_at, out_of_port, out_at, named_out, source_width, width_at, input_width, target_width, all_ports, ports_of}
use Rattle.yt_name_faults.specs.Faults.{width_faults, is_resource, resource_faults, inside_faults}
use Rattle.yt_names.specs.Resolved.{size_of, place_of, count_of, number_of, inputs_of, resources_of, vars_of, out_head, feed_to, resolved_feed, resource_name, resolved_port, resolved_ports, resolved}
use Rattle.yt_names.proofs.WellFormedLemmas.{no_cause}
use Rattle.yt_names.proofs.formed.Lists.{Each, each_append, each_get, each_map, shifted}
use Rattle.yt_names.proofs.FineLemmas.{place_stays}
use Rattle.yt_names.proofs.formed.Places.{number_is, some_within, some_then, some_is}
use Rattle.yt_names.proofs.formed.Facts.{IsGoodPort, IsGoodItem}

-- the part that a name of the common set stands for
abbrev pub named : List ℕ → List ItemTree → Option ItemTree
named word [] = None
named word (i ∷ rest) = cond (bytes_eq word (item_name i)) (Some i) (named word rest)

-- the part itself
abbrev pub item_of : Option Placed → Option ItemTree
item_of None = None
item_of (Some p) = Some p.item

-- what stands behind the first
get_next : {X : Type 0} (x : X) (xs : List X) (o : Option ℕ) → option_and_then (slice_get (x ∷ xs)) (option_map suc o) ≡ option_and_then (slice_get xs) o
get_next x xs None = refl
get_next x xs (Some k) = refl

placed_item : (word : List ℕ) (f : ℕ) (items : List ItemTree) → item_of (option_and_then (slice_get (placed_from f items)) (first_of word 0 (item_names items))) ≡ named word items
placed_item word f [] = refl
placed_item word f (i ∷ rest) = by (bytes_eq word (item_name i)) (placed_item word (f + length (ports_of i)) rest)
  where
    by : (b : Bool) → item_of (option_and_then (slice_get (placed_from (f + length (ports_of i)) rest)) (first_of word 0 (item_names rest))) ≡ named word rest
        → item_of (option_and_then (slice_get (placed_from f (i ∷ rest))) (cond b (Some 0) (position_from (bytes_eq word) (0 + 1) (item_names rest)))) ≡ cond b (Some i) (named word rest)
    by true h = refl
    by false h =
        ap (λ o. item_of (option_and_then (slice_get (placed_from f (i ∷ rest))) o)) (shifted (bytes_eq word) 0 (item_names rest))
        ∙ ap item_of (get_next (record { first = f; item = i }) (placed_from (f + length (ports_of i)) rest) (first_of word 0 (item_names rest)))
        ∙ h

-- the first part of a name is found by going through the parts
named_is : (all : List ItemTree) (word : List ℕ) → item_of (placed_named all word) ≡ named word all
unfolding placed_named
named_is all word = placed_item word 0 all

-- an input that a name stands for, by its place among the inputs
pub record InputAt (word : List ℕ) (inputs : List graph.Input.Input) (width : Num) : Type 0 where
  pub place : ℕ
  pub number : first_of word 1 (map (λ i. i.name) inputs) ≡ Some (suc place)
  pub there : IsSomeAnd (slice_get inputs place) (λ i. i.width ≡ count_of width)

input_here : (word : List ℕ) (x : graph.Input.Input) (xs : List graph.Input.Input) (width : Num) → bytes_eq word x.name ≡ true → x.width ≡ count_of width → InputAt word (x ∷ xs) width
input_here word x xs width e w = record { place = 0; number = ap (λ b. cond b (Some 1) (position_from (bytes_eq word) (1 + 1) (map (λ i. i.name) xs))) e; there = w }

input_later : (word : List ℕ) (x : graph.Input.Input) (xs : List graph.Input.Input) (width : Num) → bytes_eq word x.name ≡ false → InputAt word xs width → InputAt word (x ∷ xs) width
input_later word x xs width e h = record {
  place = suc h.place;
  number =
      ap (λ b. cond b (Some 1) (position_from (bytes_eq word) (1 + 1) (map (λ i. i.name) xs))) e
      ∙ shifted (bytes_eq word) 1 (map (λ i. i.name) xs)
      ∙ ap (option_map suc) h.number;
  there = h.there;
}

input_at : (word : List ℕ) (items : List ItemTree) (found : InputTree) → named word items ≡ Some (input found) → InputAt word (flat_map inputs_of items) found.width
input_at word [] found e = absurd (cc)
input_at word (input i ∷ rest) found e = by (bytes_eq word i.name.text) refl e (input_at word rest found)
  where
    by : (b : Bool) → bytes_eq word i.name.text ≡ b → cond b (Some (input i)) (named word rest) ≡ Some (input found)
        → (named word rest ≡ Some (input found) → InputAt word (flat_map inputs_of rest) found.width) → InputAt word (flat_map inputs_of (input i ∷ rest)) found.width
    by true p h r = let same : i.width ≡ found.width = cc in input_here word (record { name = i.name.text; width = count_of i.width; period = size_of i.period.value }) (flat_map inputs_of rest) found.width p (ap count_of same)
    by false p h r = input_later word (record { name = i.name.text; width = count_of i.width; period = size_of i.period.value }) (flat_map inputs_of rest) found.width p (r h)
input_at word (output o ∷ rest) found e = by (bytes_eq word o.name.text) e (input_at word rest found)
  where
    by : (b : Bool) → cond b (Some (output o)) (named word rest) ≡ Some (input found)
        → (named word rest ≡ Some (input found) → InputAt word (flat_map inputs_of rest) found.width) → InputAt word (flat_map inputs_of rest) found.width
    by true h r = absurd (cc)
    by false h r = r h
input_at word (resource r ∷ rest) found e = by (bytes_eq word r.name.text) e (input_at word rest found)
  where
    by : (b : Bool) → cond b (Some (resource r)) (named word rest) ≡ Some (input found)
        → (named word rest ≡ Some (input found) → InputAt word (flat_map inputs_of rest) found.width) → InputAt word (flat_map inputs_of rest) found.width
    by true h r = absurd (cc)
    by false h r = r h
input_at word (process p ∷ rest) found e = by (bytes_eq word p.name.text) e (input_at word rest found)
  where
    by : (b : Bool) → cond b (Some (process p)) (named word rest) ≡ Some (input found)
        → (named word rest ≡ Some (input found) → InputAt word (flat_map inputs_of rest) found.width) → InputAt word (flat_map inputs_of rest) found.width
    by true h r = absurd (cc)
    by false h r = r h

-- a resource that a name stands for is among the resources
resource_there : (word : List ℕ) (items : List ItemTree) (found : ResourceTree) → named word items ≡ Some (resource found) → list_any (bytes_eq word) (flat_map resources_of items) ≡ true
resource_there word [] found e = absurd (cc)
resource_there word (input i ∷ rest) found e = by (bytes_eq word i.name.text) e (resource_there word rest found)
  where
    by : (b : Bool) → cond b (Some (input i)) (named word rest) ≡ Some (resource found) → (named word rest ≡ Some (resource found) → list_any (bytes_eq word) (flat_map resources_of rest) ≡ true)
        → list_any (bytes_eq word) (flat_map resources_of rest) ≡ true
    by true h r = absurd (cc)
    by false h r = r h
resource_there word (output o ∷ rest) found e = by (bytes_eq word o.name.text) e (resource_there word rest found)
  where
    by : (b : Bool) → cond b (Some (output o)) (named word rest) ≡ Some (resource found) → (named word rest ≡ Some (resource found) → list_any (bytes_eq word) (flat_map resources_of rest) ≡ true)
        → list_any (bytes_eq word) (flat_map resources_of rest) ≡ true
    by true h r = absurd (cc)
    by false h r = r h
resource_there word (resource r ∷ rest) found e = by (bytes_eq word r.name.text) e (resource_there word rest found)
  where
    by : (b : Bool) → cond b (Some (resource r)) (named word rest) ≡ Some (resource found) → (named word rest ≡ Some (resource found) → list_any (bytes_eq word) (flat_map resources_of rest) ≡ true)
        → (b || list_any (bytes_eq word) (flat_map resources_of rest)) ≡ true
    by true h r = refl
    by false h r = r h
resource_there word (process p ∷ rest) found e = by (bytes_eq word p.name.text) e (resource_there word rest found)
  where
    by : (b : Bool) → cond b (Some (process p)) (named word rest) ≡ Some (resource found) → (named word rest ≡ Some (resource found) → list_any (bytes_eq word) (flat_map resources_of rest) ≡ true)
        → list_any (bytes_eq word) (flat_map resources_of rest) ≡ true
    by true h r = absurd (cc)
    by false h r = r h

-- the word behind `in` is that of a resource
pub inside_there : (all : List ItemTree) (w : Word) → inside_faults all (Some w) ≡ [] → list_any (bytes_eq w.text) (flat_map resources_of all) ≡ true
inside_there all w e = by (placed_named all w.text) (named_is all w.text) e
  where
    by : (o : Option Placed) → item_of o ≡ named w.text all → resource_faults w o ≡ [] → list_any (bytes_eq w.text) (flat_map resources_of all) ≡ true
    by None n h = absurd (cc)
    by (Some p) n h = on p.item (sym n) (no_cause (not (is_resource p.item)) _ h)
      where
        on : (i : ItemTree) → named w.text all ≡ Some i → not (is_resource i) ≡ false → list_any (bytes_eq w.text) (flat_map resources_of all) ≡ true
        on (input i) m k = absurd (true≢false k)
        on (output o) m k = absurd (true≢false k)
        on (resource r) m k = resource_there w.text all r m
        on (process p) m k = absurd (true≢false k)

-- what a path without faults leads to
pub record LeadsTo (all : List ItemTree) (t : Target) : Type 0 where
  pub port : PortDeclTree
  pub out : OutDecl
  pub at_port : slice_get (all_ports all) t.port ≡ Some port
  pub at_out : slice_get port.outs t.out ≡ Some out
  pub width : t.width ≡ out.width

-- a target by its parts
abbrev target : ℕ → ℕ → Num → Target
target port out width = record { port = port; out = out; width = width }

module _ (all : List ItemTree) (path : Path) (t : Target) where
  out_leads : (port out : ℕ) (p : PortDeclTree) → slice_get (all_ports all) port ≡ Some p → (o : Option OutDecl) → slice_get p.outs out ≡ o → named_out path port out o ≡ Ok t → LeadsTo all t
  out_leads port out p at None e h = absurd (cc)
  out_leads port out p at (Some decl) e h =
      let same : target port out decl.width ≡ t = cc in
      subst (LeadsTo all) same (record { port = p; out = decl; at_port = at; at_out = e; width = refl })

  at_leads : (port : ℕ) (p : PortDeclTree) → slice_get (all_ports all) port ≡ Some p → (o : Option ℕ) → out_at path port p.outs o ≡ Ok t → LeadsTo all t
  at_leads port p at None h = absurd (cc)
  at_leads port p at (Some out) h = out_leads port out p at (slice_get p.outs out) refl h

  port_leads : (port : ℕ) (o : Option PortDeclTree) → slice_get (all_ports all) port ≡ o → out_of_port path port o ≡ Ok t → LeadsTo all t
  port_leads port None e h = absurd (cc)
  port_leads port (Some p) e h = at_leads port p e (first_of path.out.text 0 (out_names p.outs)) h

  number_leads : (o : Option ℕ) → port_at all path o ≡ Ok t → LeadsTo all t
  number_leads None h = absurd (cc)
  number_leads (Some port) h = port_leads port (slice_get (all_ports all) port) refl h

  part_leads : (first : ℕ) (i : ItemTree) → in_part all path first i ≡ Ok t → LeadsTo all t
  part_leads first (input i) h = absurd (cc)
  part_leads first (output o) h = absurd (cc)
  part_leads first (resource r) h = absurd (cc)
  part_leads first (process p) h = number_leads (first_of path.port.text first (port_names p.ports)) h

  placed_leads : (o : Option Placed) → in_placed all path o ≡ Ok t → LeadsTo all t
  placed_leads None h = absurd (cc)
  placed_leads (Some p) h = part_leads p.first p.item h

  pub leads : look_up all path ≡ Ok t → LeadsTo all t
  unfolding look_up
  leads h = placed_leads (placed_named all path.process.text) h

holds : (b : Bool) → not b ≡ false → b ≡ true
holds true e = refl
holds false e = absurd (true≢false e)

-- the width of a source without faults
width_of : (port : Word) (params : ℕ) (r : Result Num NameFault) → width_faults port params r ≡ [] → (w : Num) × (r ≡ Ok w) × (w.value ≡ pos params)
width_of port params (Ok w) e = (w, refl, (Decides-int_eq w.value (pos params)).0 (holds (int_eq w.value (pos params)) (no_cause _ _ e)))
width_of port params (Err fault) e = absurd (cc)

-- a port's source, without faults
pub path_of : (all : List ItemTree) (port : Word) (params : ℕ) (path : Path) → width_faults port params (source_width all (source.TheVariants.Out path)) ≡ [] → (t : Target) × (look_up all path ≡ Ok t) × (t.width.value ≡ pos params)
unfolding source_width
path_of all port params path e =
    let w = width_of port params (target_width (look_up all path)) e in
    by (look_up all path) w.0 w.1 w.2
  where
    by : (r : Result Target NameFault) (w : Num) → target_width r ≡ Ok w → w.value ≡ pos params → (t : Target) × (r ≡ Ok t) × (t.width.value ≡ pos params)
    by (Ok t) w h v = let same : t.width ≡ w = cc in (t, refl, ap (λ n. n.value) same ∙ v)
    by (Err fault) w h v = absurd (cc)

input_of : (all : List ItemTree) (port : Word) (params : ℕ) (w : Word) → width_faults port params (source_width all (source.TheVariants.Input w)) ≡ []
    → (width : Num) × InputAt w.text (flat_map inputs_of all) width × (width.value ≡ pos params)
unfolding source_width
input_of all port params w e =
    let n = width_of port params (width_at w (placed_named all w.text)) e in
    by (placed_named all w.text) n.0 (named_is all w.text) n.1 n.2
  where
    on : (i : ItemTree) (n : Num) → named w.text all ≡ Some i → input_width w i ≡ Ok n → n.value ≡ pos params → (width : Num) × InputAt w.text (flat_map inputs_of all) width × (width.value ≡ pos params)
    on (input i) n m h v = let same : i.width ≡ n = cc in (i.width, input_at w.text all i m, ap (λ k. k.value) same ∙ v)
    on (output o) n m h v = absurd (cc)
    on (resource r) n m h v = absurd (cc)
    on (process p) n m h v = absurd (cc)

    by : (o : Option Placed) (n : Num) → item_of o ≡ named w.text all → width_at w o ≡ Ok n → n.value ≡ pos params → (width : Num) × InputAt w.text (flat_map inputs_of all) width × (width.value ≡ pos params)
    by None n m h v = absurd (cc)
    by (Some p) n m h v = on p.item n (sym m) h v

-- the graph's ports, by what is declared of each
module _ {Y : Type 0} (h : PortTree → Y) (k : PortDeclTree → Y) (all : List ItemTree) (ops : List OpHead)
    (same : (owner key : List ℕ) (vars : List VarDecl) (first : ℕ) (p : PortDeclTree) → h (resolved_port all owner key ops vars first p) ≡ k p) where
  process_maps : (owner key : List ℕ) (vars : List VarDecl) (first : ℕ) (ps : List PortDeclTree) (after : List PortTree) (end : List Y)
      → map h after ≡ end → map h (map (resolved_port all owner key ops vars first) ps ++ after) ≡ map k ps ++ end
  process_maps owner key vars first [] after end e = e
  process_maps owner key vars first (p ∷ ps) after end e =
      ap (λ y. y ∷ map h (map (resolved_port all owner key ops vars first) ps ++ after)) (same owner key vars first p) ∙ ap (λ l. k p ∷ l) (process_maps owner key vars first ps after end e)

  ports_map : (first : ℕ) (items : List ItemTree) → map h (resolved_ports all ops first items) ≡ map k (flat_map ports_of items)
  ports_map first [] = refl
  ports_map first (input i ∷ rest) = ports_map (first + 0) rest
  ports_map first (output o ∷ rest) = ports_map (first + 0) rest
  ports_map first (resource r ∷ rest) = ports_map (first + 0) rest
  ports_map first (process p ∷ rest) =
      process_maps p.name.text (resource_name p.name p.inside) p.vars first p.ports (resolved_ports all ops (first + length (vars_of (process p))) rest) (map k (flat_map ports_of rest))
      (ports_map (first + length (vars_of (process p))) rest)
      ∙ sym (map-append k p.ports (flat_map ports_of rest))

  read_back : (o : Option PortTree) (y : Y) → option_map h o ≡ Some y → IsSomeAnd o (λ q. h q ≡ y)
  read_back None y e = absurd (cc)
  read_back (Some q) y e = cc

  pub port_there : (a : ℕ) (p : PortDeclTree) → slice_get (all_ports all) a ≡ Some p → IsSomeAnd (slice_get (resolved_ports all ops 0 all) a) (λ q. h q ≡ k p)
  port_there a p at =
      read_back (slice_get (resolved_ports all ops 0 all) a) (k p)
      (sym (slice_get-map h (resolved_ports all ops 0 all) a)
      ∙ ap (λ l. slice_get l a) (ports_map 0 all)
      ∙ slice_get-map k (all_ports all) a
      ∙ ap (option_map k) at)

-- a port whose source has no fault, with few outs
abbrev pub IsFed : List ItemTree → PortDeclTree → Type 0
IsFed all p = (width_faults p.name (length p.params) (source_width all p.source) ≡ []) × (length p.outs ≤ 8)

pub all_fed : (all : List ItemTree) (ops : List OpHead) (items : List ItemTree) → Each (IsGoodItem all ops) items → Each (IsFed all) (flat_map ports_of items)
all_fed all ops [] h = tt
all_fed all ops (input i ∷ rest) h = all_fed all ops rest h.1
all_fed all ops (output o ∷ rest) h = all_fed all ops rest h.1
all_fed all ops (resource r ∷ rest) h = all_fed all ops rest h.1
all_fed all ops (process q ∷ rest) h =
    each_append (IsFed all) q.ports (flat_map ports_of rest) (each_map (IsGoodPort all ops q.vars) (IsFed all) (λ p g. (g.width, g.few)) q.ports h.0.3) (all_fed all ops rest h.1)

module _ (all : List ItemTree) (ops : List OpHead) (fed : Each (IsFed all) (all_ports all)) (few : length (all_ports all) ≤ 64) where
  -- what a path leads to, in the graph
  pub out_there : (t : Target) → LeadsTo all t → IsOutAnd (resolved all ops) (number_of t.port) (number_of t.out) (λ o. o.width ≡ count_of t.width)
  unfolding resolved
  out_there t l =
      let in_ports = slice_get_within (all_ports all) t.port l.port l.at_port in
      let in_outs = slice_get_within l.port.outs t.out l.out l.at_out in
      let few_outs = each_get (IsFed all) (all_ports all) t.port l.port fed l.at_port in (
        t.port,
        t.out,
        number_is t.port (omega arith),
        number_is t.out (omega (arith, few_outs.1)),
        some_then (λ q. q.outs ≡ map out_head l.port.outs) _ (slice_get (resolved_ports all ops 0 all) t.port)
            (λ q e. some_is _ (slice_get q.outs t.out) (out_head l.out) (ap (λ os. slice_get os t.out) e ∙ slice_get-map out_head l.port.outs t.out ∙ ap (option_map out_head) l.at_out) (ap count_of (sym l.width)))
            (port_there (λ q. q.outs) (λ p. map out_head p.outs) all ops (λ owner key vars first p. refl) t.port l.port l.at_port),
      )

  -- messages of a port's source have as many numbers as the port has parameters
  pub feed_there : length (flat_map inputs_of all) ≤ 16 → (port : Word) (params : ℕ) (s : Source) → width_faults port params (source_width all s) ≡ [] → IsFeedOfWidth (resolved all ops) (place_of params) (resolved_feed all s)
  unfolding resolved
  feed_there some port params (source.TheVariants.Input w) e =
      let n = input_of all port params w e in
      let at = n.1 in
      let in_inputs = some_within _ (flat_map inputs_of all) at.place at.there in (
        at.place,
        ap (λ o. place_of (unwrap_or o 0)) at.number ∙ place_stays (suc at.place) (omega arith),
        some_then (λ i. i.width ≡ count_of n.0) (λ i. i.width ≡ place_of params) (slice_get (flat_map inputs_of all) at.place) (λ i q. q ∙ ap (λ v. place_of (size_of v)) n.2) at.there,
      )
  feed_there some port params (source.TheVariants.Out path) e =
      let n = path_of all port params path e in
      let there = out_there n.0 (leads all path n.0 n.1) in
      subst (λ r. IsFeedOfWidth (resolved all ops) (place_of params) (feed_to r)) (sym n.1)
      (subst (λ c. IsOutAnd (resolved all ops) (number_of n.0.port) (number_of n.0.out) (λ o. o.width ≡ c)) (ap (λ v. place_of (size_of v)) n.2) there)
