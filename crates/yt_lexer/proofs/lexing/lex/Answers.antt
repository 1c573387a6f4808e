use Rattle.std.proofs.Common.{◌≡◌, None, Some, length, arith}
use Rattle.std.proofs.lemmas.Grind.{common_steps}
use Rattle.std.proofs.lemmas.Result.{err_from_is_err_and}
use Rattle.yt_lexer.specs.Lexes.{next_from, IsFaultAt, IsFirstFault}
use Rattle.yt_lexer.proofs.LexesLemmas.{ends, first_fault, gives_tokens, gives_fault}
use Rattle.yt_lexer.proofs.lexing.lex.Goals as goal

pub returns-then-next-text-clause-ok : goal.returns-then-next-text-clause-ok
returns-then-next-text-clause-ok c =
    let behind : next_from c.args.text.now c.tokens.spot.at ≡ length c.args.text.now = grind (arith, common_steps) in
    ends c.args.text.now c.tokens.spot.at c.tokens.tokens None c.tokens.invariant.1 behind

pub returns-then-next-text-clause-only : goal.returns-then-next-text-clause-only
returns-then-next-text-clause-only c = gives_tokens c.args.text.now c.tokens.tokens (returns-then-next-text-clause-ok c)

is_first_fault : (c : goal.After-drop-tokens-inside) → IsFirstFault c.args.text.now c.in_err-token.field-0.0
is_first_fault c =
    let text = c.args.text.now in
    let here : next_from text c.tokens.spot.at ≡ c.behind-next.result.at = grind (arith, common_steps) in
    let fault = c.in_err-token.field-0.0 in
    let found : IsFaultAt text (next_from text c.tokens.spot.at) fault = rw here c.in_err-token.ensures.err in
    first_fault text c.tokens.tokens fault (ends text c.tokens.spot.at c.tokens.tokens (Some fault) c.tokens.invariant.1 found)

pub returns-in_err-token-clause-err : goal.returns-in_err-token-clause-err
returns-in_err-token-clause-err c =
    let p = err_from_is_err_and c.from_residual.result c.from_residual.ensures.1 in
    rw (p.1, p.2) (is_first_fault c)

pub returns-in_err-token-clause-only : goal.returns-in_err-token-clause-only
returns-in_err-token-clause-only c =
    let p = err_from_is_err_and c.from_residual.result c.from_residual.ensures.1 in
    rw (p.1, p.2) (gives_fault c.args.text.now c.in_err-token.field-0.0 (is_first_fault c))
