-- Names that are declared, and what a name stands for: its first declaration.
use Rattle.std.specs.Prelude.{ℕ, ◌==◌, Bool, not, List, [], map, Option, None, Some, false}
use Rattle.yt_graph.specs.declared.ast.VarDecl.{VarDecl}
use Rattle.yt_graph.specs.declared.ast.OutDecl.{OutDecl}
use Rattle.yt_graph.specs.declared.ast.PortDecl.{PortDecl}
use Rattle.yt_graph.specs.declared.ast.Item.{Item}
use Rattle.yt_graph.specs.declared.ast.Item.TheVariants.{Input, Output, Resource, Process}
use Rattle.yt_graph.specs.declared.operator.OpHead.{OpHead}
use Rattle.yt_graph.specs.AstPicture.{PortDeclTree, ItemTree}
use Rattle.yt_graph.specs.ItemNames.{item_name}

-- whether the first declaration is another than this one, so that the name was declared before
abbrev pub is_other : ℕ → Option ℕ → Bool
is_other n None = false
is_other n (Some first) = not (first == n)

-- the common set of names: inputs, outputs, resources and processes
abbrev pub item_names : List ItemTree → List (List ℕ)
item_names items = map item_name items

abbrev pub port_names : List PortDeclTree → List (List ℕ)
port_names ports = map (λ p. p.name.text) ports

-- the variables and the ports that a part declares
abbrev pub var_decls : Item → List VarDecl
var_decls (Input w width period) = []
var_decls (Output w path) = []
var_decls (Resource w) = []
var_decls (Process w inside vars ports) = vars

abbrev pub port_decls : Item → List PortDecl
port_decls (Input w width period) = []
port_decls (Output w path) = []
port_decls (Resource w) = []
port_decls (Process w inside vars ports) = ports

abbrev pub var_names : List VarDecl → List (List ℕ)
var_names vars = map (λ v. v.name.text) vars

abbrev pub out_names : List OutDecl → List (List ℕ)
out_names outs = map (λ o. o.name.text) outs

abbrev pub op_names : List OpHead → List (List ℕ)
op_names ops = map (λ o. o.name) ops
