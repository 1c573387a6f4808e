-- The faults of small graphs, by the definitions.
use Rattle.std.proofs.Common.{◌≡◌, ℕ, [], ◌∷◌, List, Option, Some, None, refl}
use Rattle.std.specs.Prelude.{pos, codes}
use Rattle.yt_graph.specs.declared.ast.Word.{Word}
use Rattle.yt_graph.specs.declared.ast.Num.{Num}
use Rattle.yt_graph.specs.declared.ast.Path.{Path}
use Rattle.yt_graph.specs.declared.ast.VarDecl.{VarDecl}
use Rattle.yt_graph.specs.declared.ast.Source as source
use Rattle.yt_graph.specs.AstPicture.{PortDeclTree, ItemTree, input, output, process, number, name, send_on, no_values, more_values, more_stmts, no_stmts, two_sides}
use Rattle.yt_graph.specs.declared.expr.Op2.TheVariants.{Add}
use Rattle.yt_name_faults.specs.declared.fault.NameFault.TheVariants.{Unknown, Limit, Cycle}
use Rattle.yt_name_faults.specs.declared.fault.LimitKind.TheVariants.{Period}
use Rattle.yt_name_faults.specs.First.{first_fault, decides, lesser, least_with}
use Rattle.yt_name_faults.specs.Paths.{placed_named, look_up, source_width, port_before}
use Rattle.yt_graph.specs.declared.port.Feed as feed
use Rattle.yt_graph.specs.Picture as graph
use Rattle.yt_graph.specs.Picture.{more, send, more_exprs, two, local, no_exprs, empty}
use Rattle.yt_name_faults.specs.Faults.{name_faults}
use Rattle.yt_names.specs.Resolved.{resolved}

word : List ℕ → ℕ → Word
word text col = record { text = text; place = record { line = 1; col = col } }

num : ℕ → ℕ → Num
num n col = record { value = pos n; place = record { line = 1; col = col } }

path : Word → Word → Word → Path
path p q o = record { process = p; port = q; out = o }

abbrev process_of : Word → Option Word → List VarDecl → List PortDeclTree → ItemTree
process_of owner inside vars ports = process (record { name = owner; inside = inside; vars = vars; ports = ports })

-- two ports that feed each other
loop : List ItemTree
unfolding word num path
loop =
    process_of (word (codes "p") 9) None []
    ((record {
      name = word (codes "a") 18;
      source = source.TheVariants.Out (path (word (codes "q") 25) (word (codes "b") 27) (word (codes "o") 29));
      params = [];
      outs = record { name = word (codes "o") 38; width = num 0 40; every = None } ∷ [];
      body = more_stmts (send_on (word (codes "o") 50) no_values) no_stmts;
    }) ∷ [])
    ∷ process_of (word (codes "q") 67) None []
    ((record {
      name = word (codes "b") 76;
      source = source.TheVariants.Out (path (word (codes "p") 83) (word (codes "a") 85) (word (codes "o") 87));
      params = [];
      outs = record { name = word (codes "o") 96; width = num 0 98; every = None } ∷ [];
      body = more_stmts (send_on (word (codes "o") 108) no_values) no_stmts;
    }) ∷ [])
    ∷ []

loop_is_found : name_faults loop [] ≡ Cycle (record { line = 1; col = 18 }) ∷ Cycle (record { line = 1; col = 76 }) ∷ []
unfolding loop word num path name_faults placed_named look_up source_width port_before
loop_is_found = refl

loop_first : first_fault (name_faults loop []) ≡ Some (Cycle (record { line = 1; col = 18 }))
unfolding loop word num path name_faults placed_named look_up source_width port_before decides lesser least_with
loop_first = refl

-- `output o from p.a.o` alone
unknown_is_found : name_faults (output (record { name = word (codes "o") 8; path = path (word (codes "p") 15) (word (codes "a") 17) (word (codes "o") 19) }) ∷ []) [] ≡ Unknown (record { line = 1; col = 15 }) ∷ []
unfolding word path name_faults placed_named look_up
unknown_is_found = refl

-- `input a(1) period 0`
period_is_found : name_faults (input (record { name = word (codes "a") 7; width = num 1 9; period = num 0 19 }) ∷ []) [] ≡ Limit (record { line = 1; col = 19 }) Period ∷ []
unfolding word num name_faults
period_is_found = refl

-- an input, an output, and a port that sends one more than it gets
good : List ItemTree
unfolding word num path
good =
    input (record { name = word (codes "tick") 7; width = num 1 12; period = num 10 22 })
    ∷ output (record { name = word (codes "led") 32; path = path (word (codes "p") 41) (word (codes "a") 43) (word (codes "o") 45) })
    ∷ process_of (word (codes "p") 55) None []
    ((record {
      name = word (codes "a") 64;
      source = source.TheVariants.Input (word (codes "tick") 71);
      params = word (codes "v") 77 ∷ [];
      outs = record { name = word (codes "o") 84; width = num 1 86; every = None } ∷ [];
      body = more_stmts (send_on (word (codes "o") 96) (more_values (two_sides Add (name (word (codes "v") 99)) (number (pos 1))) no_values)) no_stmts;
    }) ∷ [])
    ∷ []

good_has_none : name_faults good [] ≡ []
unfolding good word num path name_faults placed_named look_up source_width port_before
good_has_none = refl

good_is_resolved : resolved good [] ≡ record {
  inputs = record { name = codes "tick"; width = 1; period = 10 } ∷ [];
  outputs = record { name = codes "led"; port = 1; out = 1 } ∷ [];
  groups = [];
  vars = [];
  ports = record {
    process = codes "p";
    name = codes "a";
    feed = feed.TheVariants.Input 1;
    group = 0;
    params = 1;
    locals = 1;
    outs = record { name = codes "o"; width = 1; every = 1 } ∷ [];
    body = more (send 1 (more_exprs (two Add (local 0) (graph.num (pos 1))) no_exprs)) empty;
  } ∷ [];
}
unfolding good word num path resolved placed_named look_up
good_is_resolved = refl
