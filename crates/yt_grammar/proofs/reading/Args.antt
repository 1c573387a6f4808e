-- The arguments of a call, as a list and as a tree.
use Rattle.std.proofs.Common.{ℕ, ◌≤◌, List, [], ◌∷◌, ◌++◌, refl, sym, ap, ◌∙◌, append_assoc, arith}
use Rattle.yt_graph.specs.AstPicture.{AstExprTree, number, name, minus, negation, two_sides, paren, call_of, AstExprsTree, no_values, more_values}
use Rattle.yt_graph.specs.AstWellFormed.{ast_exprs_depth}
use Rattle.yt_grammar.specs.declared.sign.Mark.TheVariants.{Comma}
use Rattle.yt_grammar.specs.Lexemes.{Tok}
use Rattle.yt_grammar.specs.Forms.{Form, ◌▹◌, symbol, each, parens}
use Rattle.yt_grammar.specs.Grammar.{args_form, more_form, rank_of}
use Rattle.yt_grammar.specs.Inside.Reading.{Reader, in_parens, one_or_more, at_mark, exprs_of, args_reader}
use Rattle.yt_grammar.proofs.reading.Lawful.{Lawful}
use Rattle.yt_grammar.proofs.reading.Follows.{NotContinued}
use Rattle.yt_grammar.proofs.reading.Singles.{Any}
use Rattle.yt_grammar.proofs.reading.Sequences.{Image, made_as, in_parens_lawful}
use Rattle.yt_grammar.proofs.reading.Choices.{Ends}
use Rattle.yt_grammar.proofs.reading.Repeats.{OneOrMore, one_or_more_lawful}
use Rattle.yt_grammar.proofs.reading.Ranks.{op_ranked}
use Rattle.yt_grammar.proofs.reading.Chains.{Fits}
use Rattle.yt_grammar.proofs.reading.ChainLaws.{depth_one}

-- every expression is of the loosest rank
pub rank_most : (e : AstExprTree) → rank_of e ≤ 7
rank_most (number n) = omega arith
rank_most (name w) = omega arith
rank_most (minus e) = omega arith
rank_most (negation e) = omega arith
rank_most (two_sides op l r) = (op_ranked op).1
rank_most (paren e) = omega arith
rank_most (call_of w es) = omega arith

-- expressions behind commas, as a list and as a tree
more_there : (room : ℕ) (xs : List AstExprTree) (w : List Tok) → each (λ y. symbol Comma ▹ Fits room 7 y) xs w → (ast_exprs_depth (exprs_of xs) ≤ room) × more_form (exprs_of xs) w
more_there room [] w h = (omega arith, h)
more_there room (x ∷ xs) w (front, c, splits, (a, b, splits', sign, fits), behind) =
    let rest = more_there room xs c behind in
    (omega (arith, fits.depth, rest.0), (a, b ++ c, splits ∙ ap (λ v. v ++ c) splits' ∙ append_assoc a b c, sign, (b, c, refl, fits.spelled, rest.1)))

-- the same from the tree
more_back : (room : ℕ) (es : AstExprsTree) (w : List Tok) → ast_exprs_depth es ≤ room → more_form es w → Image exprs_of (each (λ y. symbol Comma ▹ Fits room 7 y)) es w
more_back room no_values w low h = ([], refl, h)
more_back room (more_values e es) w low (a, back, splits, sign, (b, c, splits', spelled, behind)) =
    let rest = more_back room es c (omega (arith, low)) behind in
    (e ∷ rest.0, ap (more_values e) rest.1, (a ++ b, c, splits ∙ ap (λ v. a ++ v) splits' ∙ sym (append_assoc a b c), (a, b, refl, sign, record { bound = rank_most e; depth = omega (arith, low); spelled = spelled }), rest.2))

-- arguments, one at least, as a list and as a tree
args_there : (room : ℕ) (xs : List AstExprTree) (w : List Tok) → OneOrMore (Fits room 7) xs w → (ast_exprs_depth (exprs_of xs) ≤ room) × args_form (exprs_of xs) w
args_there room [] w h = absurd h
args_there room (x ∷ xs) w (a, b, splits, fits, behind) =
    let rest = more_there room xs b behind in
    (omega (arith, fits.depth, rest.0), (a, b, splits, fits.spelled, rest.1))

-- the same from the tree
args_back : (room : ℕ) (es : AstExprsTree) (w : List Tok) → ast_exprs_depth es ≤ room → args_form es w → Image exprs_of (OneOrMore (Fits room 7)) es w
args_back room no_values w low h = absurd h
args_back room (more_values e es) w low (a, b, splits, spelled, behind) =
    let rest = more_back room es b (omega (arith, low)) behind in
    (e ∷ rest.0, ap (more_values e) rest.1, (a, b, splits, record { bound = rank_most e; depth = omega (arith, low); spelled = spelled }, rest.2))

-- arguments are as deep as an expression
pub args_depth : (es : AstExprsTree) (w : List Tok) → args_form es w → 1 ≤ ast_exprs_depth es
args_depth no_values w h = absurd h
args_depth (more_values e es) w h = omega (arith, depth_one e)

-- arguments in parentheses, within the room
abbrev pub ArgsFit : ℕ → AstExprsTree → Form
ArgsFit room es w = (ast_exprs_depth es ≤ room) × parens (args_form es) w

-- they are read as the parts of the call are
pub args_lawful : (inner : ℕ → Reader AstExprTree) (room : ℕ) → Lawful (inner 7) (Fits room 7) (NotContinued 7) → Lawful (args_reader inner) (ArgsFit room) Any
args_lawful inner room h =
    made_as exprs_of (in_parens (one_or_more (inner 7))) (λ xs. parens (OneOrMore (Fits room 7) xs)) Any
    (in_parens_lawful (one_or_more (inner 7)) (OneOrMore (Fits room 7)) (Ends (at_mark Comma) (NotContinued 7))
    (one_or_more_lawful (inner 7) (Fits room 7) (NotContinued 7) h (λ at ts. record { no_paren = refl; no_operator = tt }))
    (λ at ts. record { fails = refl; may = record { no_paren = refl; no_operator = tt } }))
    (ArgsFit room)
    (λ xs w (a, back, splits, left, (b, c, splits', args, right)).
    let all = args_there room xs b args in
    (all.0, (a, back, splits, left, (b, c, splits', all.1, right))))
    (λ es w (low, (a, back, splits, left, (b, c, splits', args, right))).
    let all = args_back room es b low args in
    (all.0, all.1, (a, back, splits, left, (b, c, splits', all.2, right))))
