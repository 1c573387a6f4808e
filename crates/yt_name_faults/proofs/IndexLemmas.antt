-- What the common set of names says of the parts of a graph.
use Rattle.std.proofs.Common.{◌≡◌, ℕ, ◌+◌, List, [], ◌∷◌, length, Option, map, refl, ap, sym, ◌∙◌}
use Rattle.yt_graph.specs.declared.ast.Item.{Item}
use Rattle.yt_graph.specs.AstPicture.{ItemTree, item_tree}
use Rattle.yt_table.specs.Tables.{first_of}
use Rattle.yt_graph.specs.ItemNames.{item_name}
use Rattle.yt_name_faults.specs.Names.{item_names}
use Rattle.yt_name_faults.specs.declared.part.Part.{Part}
use Rattle.yt_name_faults.specs.Parts.{placed_of, tree_of, trees}
use Rattle.yt_name_faults.specs.Paths.{Placed, ports_of, placed_from}
use Rattle.yt_name_faults.proofs.ListLemmas.{map_map}

pub found : (r : Option ℕ) (name : List ℕ) (inside now : List Item) → r ≡ first_of name 0 (map (λ i. item_name (item_tree i)) inside) → inside ≡ now → r ≡ first_of name 0 (item_names (trees now))
found r name inside now e same =
    e ∙ ap (first_of name 0) (sym (map_map item_name item_tree inside)) ∙ ap (λ l. first_of name 0 (item_names (trees l))) same

-- the parts that have numbers are the parts
placed_items : (n : ℕ) (items : List ItemTree) → map (λ (p : Placed). p.item) (placed_from n items) ≡ items
placed_items n [] = refl
placed_items n (i ∷ rest) = ap (λ l. i ∷ l) (placed_items (n + length (ports_of i)) rest)

pub parts_are : (n : ℕ) (parts : List Part) (items : List ItemTree) → map placed_of parts ≡ placed_from n items → map tree_of parts ≡ items
parts_are n parts items e = sym (map_map (λ (p : Placed). p.item) placed_of parts) ∙ ap (map (λ (p : Placed). p.item)) e ∙ placed_items n items
