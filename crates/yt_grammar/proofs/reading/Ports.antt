-- The law of reading ports.
use Rattle.std.proofs.Common.{◌≡◌, true, List, ◌++◌, refl}
use Rattle.yt_graph.specs.declared.ast.Word.{Word}
use Rattle.yt_graph.specs.declared.ast.Source.{Source}
use Rattle.yt_graph.specs.declared.ast.OutDecl.{OutDecl}
use Rattle.yt_graph.specs.AstPicture.{AstBlockTree, PortDeclTree}
use Rattle.yt_grammar.specs.declared.sign.Keyword.TheVariants as keys
use Rattle.yt_grammar.specs.declared.sign.Mark.TheVariants.{LeftBrace, RightBrace, LeftParen, RightParen, Dot}
use Rattle.yt_grammar.specs.Lexemes.{Tok, key, mark}
use Rattle.yt_grammar.specs.Forms.{Form, ◌▹◌, keyword, symbol, named, counted, each, listed, parens}
use Rattle.yt_grammar.specs.Grammar.{source_form, every_form, out_form, stmts_form, body_form, port_form}
use Rattle.yt_grammar.specs.Inside.Reading.{both, many, at_key, at_mark, behind_key, word_reader, source_reader, out_reader, params_reader, port_reader, block_reader}
use Rattle.yt_grammar.proofs.reading.Lawful.{Lawful}
use Rattle.yt_grammar.proofs.reading.Heads.{front_holds, second_as, group_left, group_right}
use Rattle.yt_grammar.proofs.reading.Signs.{first_follows, at_key_ahead}
use Rattle.yt_grammar.proofs.reading.Singles.{Any, word_lawful}
use Rattle.yt_grammar.proofs.reading.Sequences.{made_as, both_lawful, behind_key_lawful}
use Rattle.yt_grammar.proofs.reading.Choices.{Ends}
use Rattle.yt_grammar.proofs.reading.Repeats.{many_lawful}
use Rattle.yt_grammar.proofs.reading.Parts.{source_lawful, out_lawful, params_lawful}
use Rattle.yt_grammar.proofs.reading.Blocks.{body_lawful}

-- outs, as long as one begins
outs_lawful : Lawful (many (at_key keys.Out) out_reader) (each out_form) (Ends (at_key keys.Out) (Ends (at_key keys.Every) Any))
outs_lawful =
    many_lawful (at_key keys.Out) out_reader out_form (Ends (at_key keys.Every) Any) (record {
      law = out_lawful;
      ahead = at_key_ahead keys.Out;
      at_end = refl;
      begins = λ o w rest c. first_follows (λ v. at_key keys.Out v ≡ true) (key keys.Out) (λ p ts. refl) (named o.name ▹ parens (counted o.width) ▹ every_form o.every) w rest c;
      joins = λ o w rest c. first_follows (Ends (at_key keys.Every) Any) (key keys.Out) (λ p ts. record { fails = refl; may = tt }) (named o.name ▹ parens (counted o.width) ▹ every_form o.every) w rest c;
    })

-- what may follow outs may be a block
before_body : (b : AstBlockTree) (w rest : List Tok) → body_form b w → Ends (at_key keys.Out) (Ends (at_key keys.Every) Any) (w ++ rest)
before_body b w rest c =
    first_follows (Ends (at_key keys.Out) (Ends (at_key keys.Every) Any)) (mark LeftBrace) (λ p ts. record { fails = refl; may = record { fails = refl; may = tt } }) (stmts_form b ▹ symbol RightBrace) w rest c.1

-- the forms of a port from its end on: its source, its outs and block, its parameters before them
abbrev FromForm : Source → Form
FromForm src = keyword keys.From ▹ source_form src

-- outs and a block
abbrev OutsForm : List OutDecl × AstBlockTree → Form
OutsForm r = each out_form r.0 ▹ body_form r.1

-- parameters before them
abbrev ParamsForm : List Word × (List OutDecl × AstBlockTree) → Form
ParamsForm r = parens (listed named r.0) ▹ OutsForm r.1

-- a port, as it is read
abbrev PortParts : Word × (Source × (List Word × (List OutDecl × AstBlockTree))) → Form
PortParts r = keyword keys.Port ▹ named r.0 ▹ FromForm r.1.0 ▹ ParamsForm r.1.1

-- the tree of what is read
abbrev port_of : Word × (Source × (List Word × (List OutDecl × AstBlockTree))) → PortDeclTree
port_of r = record { name = r.0; source = r.1.0; params = r.1.1.0; outs = r.1.1.1.0; body = r.1.1.1.1 }

-- the law of a port's parts
parts_lawful : Lawful (behind_key keys.Port (both word_reader (both (behind_key keys.From source_reader) (both params_reader (both (many (at_key keys.Out) out_reader) (block_reader 8)))))) PortParts Any
parts_lawful =
    behind_key_lawful keys.Port (both word_reader (both (behind_key keys.From source_reader) (both params_reader (both (many (at_key keys.Out) out_reader) (block_reader 8))))) (λ r. named r.0 ▹ FromForm r.1.0 ▹ ParamsForm r.1.1) Any
    (both_lawful word_reader (both (behind_key keys.From source_reader) (both params_reader (both (many (at_key keys.Out) out_reader) (block_reader 8)))) named (λ r. FromForm r.0 ▹ ParamsForm r.1) Any Any word_lawful
    (both_lawful (behind_key keys.From source_reader) (both params_reader (both (many (at_key keys.Out) out_reader) (block_reader 8))) FromForm ParamsForm (Ends (at_mark Dot) Any) Any
    (behind_key_lawful keys.From source_reader source_form (Ends (at_mark Dot) Any) source_lawful)
    (both_lawful params_reader (both (many (at_key keys.Out) out_reader) (block_reader 8)) (λ ps. parens (listed named ps)) OutsForm Any Any params_lawful
    (both_lawful (many (at_key keys.Out) out_reader) (block_reader 8) (each out_form) body_form (Ends (at_key keys.Out) (Ends (at_key keys.Every) Any)) Any outs_lawful body_lawful
    (λ b w rest c d. before_body b w rest c))
    (λ y b rest c d. tt))
    (λ r w rest c d. front_holds (Ends (at_mark Dot) Any) (parens (listed named r.0)) (OutsForm r.1)
    (λ a more e. first_follows (Ends (at_mark Dot) Any) (mark LeftParen) (λ p ts. record { fails = refl; may = tt }) (listed named r.0 ▹ symbol RightParen) a more e) w rest c))
    (λ y b rest c d. tt))

-- a port, from its parts
port_there : (r : Word × (Source × (List Word × (List OutDecl × AstBlockTree)))) (w : List Tok) → PortParts r w → port_form (port_of r) w
port_there r w c =
    second_as (keyword keys.Port) (named r.0 ▹ FromForm r.1.0 ▹ ParamsForm r.1.1) (named r.0 ▹ keyword keys.From ▹ source_form r.1.0 ▹ ParamsForm r.1.1)
    (second_as (named r.0) (FromForm r.1.0 ▹ ParamsForm r.1.1) (keyword keys.From ▹ source_form r.1.0 ▹ ParamsForm r.1.1)
    (group_right (keyword keys.From) (source_form r.1.0) (ParamsForm r.1.1)))
    w c

-- the parts of a port
abbrev parts_of : PortDeclTree → Word × (Source × (List Word × (List OutDecl × AstBlockTree)))
parts_of p = (p.name, (p.source, (p.params, (p.outs, p.body))))

-- and back
port_back : (p : PortDeclTree) (w : List Tok) → port_form p w → PortParts (parts_of p) w
port_back p w c =
    second_as (keyword keys.Port) (named p.name ▹ keyword keys.From ▹ source_form p.source ▹ ParamsForm (parts_of p).1.1) (named p.name ▹ FromForm p.source ▹ ParamsForm (parts_of p).1.1)
    (second_as (named p.name) (keyword keys.From ▹ source_form p.source ▹ ParamsForm (parts_of p).1.1) (FromForm p.source ▹ ParamsForm (parts_of p).1.1)
    (group_left (keyword keys.From) (source_form p.source) (ParamsForm (parts_of p).1.1)))
    w c

-- the law of ports
pub port_lawful : Lawful port_reader port_form Any
port_lawful =
    made_as port_of (behind_key keys.Port (both word_reader (both (behind_key keys.From source_reader) (both params_reader (both (many (at_key keys.Out) out_reader) (block_reader 8)))))) PortParts Any
    parts_lawful port_form port_there
    (λ p w c. (parts_of p, refl, port_back p w c))
