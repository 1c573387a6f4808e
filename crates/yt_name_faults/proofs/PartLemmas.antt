-- The number of a port by its name, and lists of which each item has a name.
use Rattle.std.proofs.Common.{◌≡◌, ℕ, ◌+◌, List, Option, bytes_eq, length, map, refl, ap, sym, ◌∙◌}
use Rattle.std.proofs.lemmas.List.{length-map}
use Rattle.std.specs.Option.{option_map}
use Rattle.yt_graph.specs.declared.ast.PortDecl.{PortDecl}
use Rattle.yt_graph.specs.declared.ast.Item.{Item}
use Rattle.yt_graph.specs.declared.ast.Item.TheVariants.{Input, Output, Resource, Process}
use Rattle.yt_graph.specs.AstPicture.{PortDeclTree, item_tree, port_decl_tree}
use Rattle.yt_table.specs.Tables.{first_of}
use Rattle.yt_table.proofs.Lemmas.{numbered_from}
use Rattle.yt_name_faults.specs.declared.part.PortPart.{PortPart}
use Rattle.yt_name_faults.specs.Names.{port_names, port_decls}
use Rattle.yt_name_faults.specs.Parts.{port_of}
use Rattle.yt_name_faults.specs.Paths.{ports_of}
use Rattle.yt_name_faults.proofs.ListLemmas.{map_map}

pub port_number : (name : List ℕ) (base : ℕ) (names : List (List ℕ)) (found : Option ℕ) → found ≡ first_of name 0 names → option_map (λ n. base + n) found ≡ first_of name base names
port_number name base names found e = ap (option_map (λ n. base + n)) e ∙ sym (numbered_from (bytes_eq name) base names)

-- as many names as ports
pub length_named : (ports : List PortDeclTree) → length (port_names ports) ≡ length ports
length_named ports = length-map ports (λ (p : PortDeclTree). p.name.text)

-- as many declarations in a table as ports that have theirs
pub as_many : (names decls : List PortDecl) (parts : List PortPart) → names ≡ decls → map (λ (p : PortPart). p.decl.now) parts ≡ decls → length names ≡ length parts
as_many names decls parts named are = ap length (named ∙ sym are) ∙ length-map parts (λ (p : PortPart). p.decl.now)

-- the trees of a part's ports
pub decls_are : (item : Item) → map port_decl_tree (port_decls item) ≡ ports_of (item_tree item)
decls_are (Input w width period) = refl
decls_are (Output w path) = refl
decls_are (Resource w) = refl
decls_are (Process w inside vars ports) = refl

-- the names of a part's ports, by their declarations
pub names_are : (names : List PortDecl) (item : Item) → names ≡ port_decls item → map (λ (p : PortDecl). p.name.text) names ≡ port_names (ports_of (item_tree item))
names_are names item e =
    ap (map (λ (p : PortDecl). p.name.text)) e
    ∙ sym (map_map (λ (p : PortDeclTree). p.name.text) port_decl_tree (port_decls item))
    ∙ ap port_names (decls_are item)

-- what a part's ports are
pub trees_are : (parts : List PortPart) (item : Item) → map (λ (p : PortPart). p.decl.now) parts ≡ port_decls item → map port_of parts ≡ ports_of (item_tree item)
trees_are parts item e = sym (map_map port_decl_tree (λ (p : PortPart). p.decl.now) parts) ∙ ap (map port_decl_tree) e ∙ decls_are item
