-- The names of a graph's items.
use Rattle.std.specs.Prelude.{ℕ, List}
use Rattle.yt_graph.specs.AstPicture.{ItemTree, input, output, resource, process}

-- inputs, outputs, resources and processes, whose names are one set
abbrev pub item_name : ItemTree → List ℕ
item_name (input i) = i.name.text
item_name (output o) = o.name.text
item_name (resource r) = r.name.text
item_name (process p) = p.name.text
