-- The canonical text computes: a small graph with each form.
use Rattle.std.proofs.Common.{ℕ, ◌≡◌, List, [], ◌∷◌, Option, Some, None, refl, pos, negsuc}
use Rattle.std.specs.Prelude.{codes}
use Rattle.std.specs.Fmt.{digits}
use Rattle.yt_graph.specs.declared.expr.Op2.TheVariants.{Or, Lt, Add}
use Rattle.yt_graph.specs.declared.ast.Word.{Word}
use Rattle.yt_graph.specs.declared.ast.Num.{Num}
use Rattle.yt_graph.specs.declared.ast.VarDecl.{VarDecl}
use Rattle.yt_graph.specs.declared.ast.Source.TheVariants.{Input, Out}
use Rattle.yt_graph.specs.AstPicture.{number, name, minus, negation, two_sides, paren, call_of, no_values, more_values, let_local, assign, send_on, when_only, when_else, turns, no_stmts, more_stmts, PortDeclTree, ItemTree, input, output, resource, process}
use Rattle.yt_grammar.specs.CanonicalText.{canonical_text}
use Rattle.yt_grammar.specs.SamePlaces.{start}

abbrev w : List ℕ → Word
w text = record { text = text; place = start }

abbrev n : ℕ → Num
n value = record { value = pos value; place = start }

abbrev process_of : Word → Option Word → List VarDecl → List PortDeclTree → ItemTree
process_of owner inside vars ports = process (record { name = owner; inside = inside; vars = vars; ports = ports })

abbrev graph : List ItemTree
graph =
    input (record { name = w (codes "in1"); width = n 2; period = n 100 })
    ∷ output (record { name = w (codes "shown"); path = record { process = w (codes "P"); port = w (codes "a"); out = w (codes "o") } })
    ∷ resource (record { name = w (codes "disk") })
    ∷ process_of (w (codes "P")) (Some (w (codes "disk")))
    ((record { name = w (codes "s"); start = negsuc 41 }) ∷ (record { name = w (codes "t"); start = pos 0 }) ∷ [])
    ((record {
      name = w (codes "a");
      source = Input (w (codes "in1"));
      params = w (codes "x") ∷ w (codes "y") ∷ [];
      outs = (record { name = w (codes "o"); width = n 1; every = Some (n 1) }) ∷ (record { name = w (codes "q"); width = n 0; every = None }) ∷ [];
      body = more_stmts (let_local (w (codes "z")) (two_sides Or (negation (name (w (codes "x")))) (two_sides Lt (minus (name (w (codes "y")))) (number (pos 10)))))
          (more_stmts (when_else (name (w (codes "z"))) (more_stmts (assign (w (codes "s")) (paren (two_sides Add (name (w (codes "s"))) (number (pos 1))))) no_stmts)
          (more_stmts (when_only (name (w (codes "x"))) (more_stmts (send_on (w (codes "q")) no_values) no_stmts)) no_stmts))
          (more_stmts (turns (name (w (codes "x"))) (n 3) no_stmts)
          (more_stmts (send_on (w (codes "o")) (more_values (call_of (w (codes "max2")) (more_values (name (w (codes "x"))) (more_values (number (pos 5)) no_values))) (more_values (number (pos 0)) no_values))) no_stmts)));
    })
    ∷ (record { name = w (codes "b"); source = Out (record { process = w (codes "P"); port = w (codes "a"); out = w (codes "q") }); params = []; outs = []; body = no_stmts })
    ∷ [])
    ∷ process_of (w (codes "Q")) None [] []
    ∷ []

graph_text : canonical_text graph ≡ codes "input in1(2) period 100\noutput shown from P.a.o\nresource disk\nprocess P in disk {\n  var s = -42\n  var t = 0\n  port a from in1 (x, y) out o(1) every 1 out q(0) {\n    let z = not x or -y < 10\n    if z {\n      s = (s + 1)\n    } else {\n      if x {\n        send q ()\n      }\n    }\n    repeat x max 3 {\n    }\n    send o (max2(x, 5), 0)\n  }\n  port b from P.a.q () {\n  }\n}\nprocess Q {\n}\n"
unfolding digits
graph_text = refl

no_text : canonical_text [] ≡ []
no_text = refl
