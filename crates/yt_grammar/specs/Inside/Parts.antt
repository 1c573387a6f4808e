-- The readers of a graph's parts and of statements, each by a name of its own.
use Rattle.std.specs.Prelude.{ℕ, ◌&&◌, nat_lt, List, [], Option}
use Rattle.yt_graph.specs.declared.ast.Word.{Word}
use Rattle.yt_graph.specs.declared.ast.Num.{Num}
use Rattle.yt_graph.specs.declared.ast.Path.{Path}
use Rattle.yt_graph.specs.AstPicture.{AstExprTree, name, paren, call_of, AstStmtTree, let_local, assign, send_on, ItemTree}
use Rattle.yt_grammar.specs.declared.sign.Keyword.TheVariants as keys
use Rattle.yt_grammar.specs.declared.sign.Mark.TheVariants.{LeftParen, RightParen, Assign}
use Rattle.yt_grammar.specs.Grammar.{loosest}
use Rattle.yt_grammar.specs.Inside.Reading.{Reader, got, and_then, made, both, choice, optional, many, one_or_more, at_key, at_mark, behind_key, behind_mark, in_parens, in_braces, word_reader, number_reader, args_reader, value_reader, values_reader, path_reader, var_reader, port_reader, input_of, output_of, resource_of, process_of}

-- an input
abbrev pub input_reader : Reader ItemTree
input_reader s = made input_of (behind_key keys.Input (both word_reader (both (in_parens number_reader) (behind_key keys.Period number_reader))) s)

-- a path from its first word on
abbrev pub full_path_reader : Reader Path
full_path_reader s = and_then (word_reader s) path_reader

-- an output
abbrev pub output_reader : Reader ItemTree
output_reader s = made output_of (behind_key keys.Output (both word_reader (behind_key keys.From full_path_reader)) s)

-- a resource
abbrev pub resource_reader : Reader ItemTree
resource_reader s = made resource_of (behind_key keys.Resource word_reader s)

-- the resource that a process is in, where one is written
abbrev pub inside_reader : Reader (Option Word)
inside_reader = optional (at_key keys.In) (behind_key keys.In word_reader)

-- every how many jobs messages pass, where it is written
abbrev pub every_reader : Reader (Option Num)
every_reader = optional (at_key keys.Every) (behind_key keys.Every number_reader)

-- the names of a port's parameters
abbrev pub param_list_reader : Reader (List Word)
param_list_reader = choice (at_mark RightParen) (got []) (one_or_more word_reader)

-- an expression in parentheses, where `inner` reads what stands in them
abbrev pub paren_reader : (ℕ → Reader AstExprTree) → Reader AstExprTree
paren_reader inner s = made paren (in_parens (inner loosest) s)

-- a name or a call, where `inner` reads its arguments and there is so much room for them
abbrev pub name_or_call_reader : (ℕ → Reader AstExprTree) → ℕ → Reader AstExprTree
name_or_call_reader inner room s = and_then (word_reader s) (λ w. choice (λ r. at_mark LeftParen r && nat_lt 0 room) (λ r. made (call_of w) (args_reader inner r)) (got (name w)))

-- the values of a send
abbrev pub value_list_reader : Reader (List AstExprTree)
value_list_reader = choice (at_mark RightParen) (got []) (one_or_more value_reader)

-- a new local
abbrev pub let_reader : Reader AstStmtTree
let_reader s = made (λ r. let_local r.0 r.1) (behind_key keys.Let (both word_reader (behind_mark Assign value_reader)) s)

-- a send
abbrev pub send_reader : Reader AstStmtTree
send_reader s = made (λ r. send_on r.0 r.1) (behind_key keys.Send (both word_reader values_reader) s)

-- a new value of a local or a variable
abbrev pub assign_reader : Reader AstStmtTree
assign_reader s = made (λ r. assign r.0 r.1) (both word_reader (behind_mark Assign value_reader) s)

-- a process
abbrev pub process_reader : Reader ItemTree
process_reader s = made process_of (behind_key keys.Process (both word_reader (both inside_reader (in_braces (both (many (at_key keys.Var) var_reader) (many (at_key keys.Port) port_reader))))) s)
