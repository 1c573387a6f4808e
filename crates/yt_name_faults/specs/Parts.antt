-- What parts and ports with their numbers stand for.
use Rattle.std.specs.Prelude.{List, map}
use Rattle.yt_graph.specs.declared.ast.Item.{Item}
use Rattle.yt_graph.specs.AstPicture.{PortDeclTree, ItemTree, item_tree, port_decl_tree}
use Rattle.yt_name_faults.specs.declared.part.Part.{Part}
use Rattle.yt_name_faults.specs.declared.part.PortPart.{PortPart}
use Rattle.yt_name_faults.specs.Paths.{Placed}

abbrev pub placed_of : Part → Placed
placed_of p = record { first = p.first; item = item_tree p.item.now }

abbrev pub tree_of : Part → ItemTree
tree_of p = item_tree p.item.now

abbrev pub port_of : PortPart → PortDeclTree
port_of p = port_decl_tree p.decl.now

abbrev pub trees : List Item → List ItemTree
trees items = map item_tree items
