use Rattle.std.proofs.Common.{◌≡◌, None, Some}
use Rattle.yt_grammar.specs.Lexemes.{toks_of}
use Rattle.yt_grammar.specs.Inside.Reading.{got, graph_reader}
use Rattle.yt_graph.specs.AstPicture.{ast_tree}
use Rattle.yt_parser.specs.Inside.Signs.{place_next}
use Rattle.yt_parser.proofs.parsing.Lexed.{lexes-spans, lexes-tokens}
use Rattle.yt_parser.proofs.parsing.Parsed.{read-spelled, read-only, stuck-fault, stuck-none, place-some, place-none}
use Rattle.yt_grammar.proofs.Lemmas.{spelled_is_writable}
use Rattle.yt_parser.proofs.parser.parse.Goals as goal

pub new-cursor-requires-clause-spans : goal.new-cursor-requires-clause-spans
new-cursor-requires-clause-spans c = lexes-spans c.args.text.now 0 c.args.tokens.now c.requires.tokens

pub new-cursor-requires-clause-tokens : goal.new-cursor-requires-clause-tokens
new-cursor-requires-clause-tokens c = lexes-tokens c.args.text.now 0 c.args.tokens.now c.requires.tokens

-- what the tokens are read as
tree : (c : goal.In-Ok) → graph_reader (toks_of c.args.text.now c.args.tokens.now) ≡ got (ast_tree c.in-Ok.ast) c.graph.new.cursor
tree c = rw c.new-cursor.ensures at c.in-Ok.ensures.read

pub returns-in-Ok-clause-ok : goal.returns-in-Ok-clause-ok
returns-in-Ok-clause-ok c = read-spelled _ _ _ (lexes-tokens c.args.text.now 0 c.args.tokens.now c.requires.tokens) (tree c)

pub returns-in-Ok-clause-writable : goal.returns-in-Ok-clause-writable
returns-in-Ok-clause-writable c = spelled_is_writable _ _ (read-spelled _ _ _ (lexes-tokens c.args.text.now 0 c.args.tokens.now c.requires.tokens) (tree c))

pub returns-in-Ok-clause-only : goal.returns-in-Ok-clause-only
returns-in-Ok-clause-only c = λ items h. read-only _ _ items _ (tree c) h

pub returns-in-Some-clause-err : goal.returns-in-Some-clause-err
returns-in-Some-clause-err c =
    let first : place_next c.graph.new.cursor ≡ Some c.in-Some.place = cc in
    stuck-fault _ _ c.graph.new.cursor c.in-Some.place (lexes-tokens c.args.text.now 0 c.args.tokens.now c.requires.tokens) (rw (c.in-Err-Syntax.field-0-is, c.new-cursor.ensures) at c.in-Err-Syntax.ensures.read) (place-some c.args.text.now c.graph.new.cursor c.in-Some.place first)

pub returns-in-Some-clause-only : goal.returns-in-Some-clause-only
returns-in-Some-clause-only c = λ items h. stuck-none _ items _ (rw (c.in-Err-Syntax.field-0-is, c.new-cursor.ensures) at c.in-Err-Syntax.ensures.read) h

pub returns-in-None-clause-err : goal.returns-in-None-clause-err
returns-in-None-clause-err c =
    let end : place_next c.graph.new.cursor ≡ None = cc in
    stuck-fault _ _ c.graph.new.cursor c.end_place.result (lexes-tokens c.args.text.now 0 c.args.tokens.now c.requires.tokens) (rw (c.in-Err-Syntax.field-0-is, c.new-cursor.ensures) at c.in-Err-Syntax.ensures.read) (rw c.end_place.ensures (place-none c.args.text.now c.graph.new.cursor end))

pub returns-in-None-clause-only : goal.returns-in-None-clause-only
returns-in-None-clause-only c = λ items h. stuck-none _ items _ (rw (c.in-Err-Syntax.field-0-is, c.new-cursor.ensures) at c.in-Err-Syntax.ensures.read) h
