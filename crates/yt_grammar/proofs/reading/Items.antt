-- The law of reading the parts of a graph.
use Rattle.std.proofs.Common.{◌≡◌, inl, inr, true, false, Option, None, Some, List, ◌∷◌, ◌++◌, refl, sym, subst}
use Rattle.yt_graph.specs.declared.place.Place.{Place}
use Rattle.yt_graph.specs.declared.ast.Word.{Word}
use Rattle.yt_graph.specs.declared.ast.Num.{Num}
use Rattle.yt_graph.specs.declared.ast.Path.{Path}
use Rattle.yt_graph.specs.declared.ast.VarDecl.{VarDecl}
use Rattle.yt_graph.specs.AstPicture.{PortDeclTree, ItemTree, input, output, resource, process}
use Rattle.yt_grammar.specs.declared.sign.Keyword.TheVariants as keys
use Rattle.yt_grammar.specs.declared.sign.Mark.TheVariants.{LeftBrace, RightBrace, Assign}
use Rattle.yt_grammar.specs.Lexemes.{Tok, key, mark}
use Rattle.yt_grammar.specs.Forms.{Form, ◌▹◌, keyword, symbol, named, counted, each, listed, parens, braces}
use Rattle.yt_grammar.specs.Grammar.{path_form, source_form, out_form, body_form, start_form, var_form, port_form, inside_form, item_form}
use Rattle.yt_grammar.specs.Inside.Reading.{Reader, made, both, choice, optional, many, at_key, behind_key, in_parens, in_braces, word_reader, number_reader, var_reader, port_reader, input_of, output_of, resource_of, process_of, item_reader}
use Rattle.yt_grammar.proofs.reading.Lawful.{Lawful}
use Rattle.yt_grammar.proofs.reading.Signs.{tok_at, first_follows, at_key_ahead}
use Rattle.yt_grammar.proofs.reading.Singles.{Any, lawful_form, lawful_follows, word_lawful, number_lawful}
use Rattle.yt_grammar.proofs.reading.Sequences.{Image, made_lawful, both_lawful, behind_key_lawful, in_braces_lawful}
use Rattle.yt_grammar.proofs.reading.Choices.{Either, choice_lawful, Perhaps, Ends, optional_lawful}
use Rattle.yt_grammar.proofs.reading.Repeats.{IsRepeat, many_lawful, many_joins}
use Rattle.yt_grammar.proofs.reading.Parts.{full_path, path_lawful, width_lawful, var_lawful}
use Rattle.yt_grammar.proofs.reading.Ports.{port_lawful}

-- the resource that a process is in
inside_there : (o : Option Word) (w : List Tok) → Perhaps (λ x. keyword keys.In ▹ named x) o w → inside_form o w
inside_there None w c = c
inside_there (Some x) w c = c

-- and back
inside_back : (o : Option Word) (w : List Tok) → inside_form o w → Perhaps (λ x. keyword keys.In ▹ named x) o w
inside_back None w c = c
inside_back (Some x) w c = c

-- the law of where a process is
inside_lawful : Lawful (optional (at_key keys.In) (behind_key keys.In word_reader)) inside_form (Ends (at_key keys.In) Any)
inside_lawful =
    lawful_form (optional (at_key keys.In) (behind_key keys.In word_reader)) (Perhaps (λ x. keyword keys.In ▹ named x)) inside_form (Ends (at_key keys.In) Any) inside_there inside_back
    (optional_lawful (at_key keys.In) (behind_key keys.In word_reader) (λ x. keyword keys.In ▹ named x) Any
    (behind_key_lawful keys.In word_reader named Any word_lawful)
    (at_key_ahead keys.In)
    (λ x w rest c. first_follows (λ v. at_key keys.In v ≡ true) (key keys.In) (λ p ts. refl) (named x) w rest c))

-- variables, and then ports
vars_repeat : IsRepeat (at_key keys.Var) var_reader var_form Any
vars_repeat = record {
  law = var_lawful;
  ahead = at_key_ahead keys.Var;
  at_end = refl;
  begins = λ v w rest c. first_follows (λ u. at_key keys.Var u ≡ true) (key keys.Var) (λ p ts. refl) (named v.name ▹ symbol Assign ▹ start_form v.start) w rest c;
  joins = λ v w rest c. tt;
}

-- a port behind its first token
abbrev PortTail : PortDeclTree → Form
PortTail p = named p.name ▹ keyword keys.From ▹ source_form p.source ▹ parens (listed named p.params) ▹ each out_form p.outs ▹ body_form p.body

-- ports, which variables don't follow
ports_repeat : IsRepeat (at_key keys.Port) port_reader port_form (Ends (at_key keys.Var) Any)
ports_repeat = record {
  law = lawful_follows port_reader port_form Any (Ends (at_key keys.Var) Any) (λ rest f. tt) port_lawful;
  ahead = at_key_ahead keys.Port;
  at_end = refl;
  begins = λ q w rest c. first_follows (λ v. at_key keys.Port v ≡ true) (key keys.Port) (λ p ts. refl) (PortTail q) w rest c;
  joins = λ q w rest c. first_follows (Ends (at_key keys.Var) Any) (key keys.Port) (λ p ts. record { fails = refl; may = tt }) (PortTail q) w rest c;
}

-- what a process holds
abbrev InnerForm : List VarDecl × List PortDeclTree → Form
InnerForm r = each var_form r.0 ▹ each port_form r.1

-- the law of what a process holds
inner_lawful : Lawful (in_braces (both (many (at_key keys.Var) var_reader) (many (at_key keys.Port) port_reader))) (λ r. braces (InnerForm r)) Any
inner_lawful =
    in_braces_lawful (both (many (at_key keys.Var) var_reader) (many (at_key keys.Port) port_reader)) InnerForm (Ends (at_key keys.Port) (Ends (at_key keys.Var) Any))
    (both_lawful (many (at_key keys.Var) var_reader) (many (at_key keys.Port) port_reader) (each var_form) (each port_form) (Ends (at_key keys.Var) Any) (Ends (at_key keys.Port) (Ends (at_key keys.Var) Any))
    (many_lawful (at_key keys.Var) var_reader var_form Any vars_repeat)
    (many_lawful (at_key keys.Port) port_reader port_form (Ends (at_key keys.Var) Any) ports_repeat)
    (λ ps b rest c f. many_joins (at_key keys.Port) port_reader port_form (Ends (at_key keys.Var) Any) ports_repeat ps b rest c f))
    (λ p ts. record { fails = refl; may = record { fails = refl; may = tt } })

-- the kinds of parts, as they are read
abbrev InputParts : Word × (Num × Num) → Form
InputParts r = keyword keys.Input ▹ named r.0 ▹ parens (counted r.1.0) ▹ keyword keys.Period ▹ counted r.1.1

-- an output
abbrev OutputParts : Word × Path → Form
OutputParts r = keyword keys.Output ▹ named r.0 ▹ keyword keys.From ▹ path_form r.1

-- a resource
abbrev ResourceParts : Word → Form
ResourceParts w = keyword keys.Resource ▹ named w

-- a process behind its first token
abbrev ProcessTail : Word × (Option Word × (List VarDecl × List PortDeclTree)) → Form
ProcessTail r = named r.0 ▹ inside_form r.1.0 ▹ braces (InnerForm r.1.1)

-- a process
abbrev ProcessParts : Word × (Option Word × (List VarDecl × List PortDeclTree)) → Form
ProcessParts r = keyword keys.Process ▹ ProcessTail r

-- the readers of the kinds
abbrev input_part : Reader ItemTree
input_part s = made input_of (behind_key keys.Input (both word_reader (both (in_parens number_reader) (behind_key keys.Period number_reader))) s)

-- of an output
abbrev output_part : Reader ItemTree
output_part s = made output_of (behind_key keys.Output (both word_reader (behind_key keys.From full_path)) s)

-- of a resource
abbrev resource_part : Reader ItemTree
resource_part s = made resource_of (behind_key keys.Resource word_reader s)

-- of a process
abbrev process_part : Reader ItemTree
process_part s = made process_of (behind_key keys.Process (both word_reader (both (optional (at_key keys.In) (behind_key keys.In word_reader)) (in_braces (both (many (at_key keys.Var) var_reader) (many (at_key keys.Port) port_reader))))) s)

-- the law of inputs
input_lawful : Lawful input_part (Image input_of InputParts) Any
input_lawful =
    made_lawful input_of (behind_key keys.Input (both word_reader (both (in_parens number_reader) (behind_key keys.Period number_reader)))) InputParts Any
    (behind_key_lawful keys.Input (both word_reader (both (in_parens number_reader) (behind_key keys.Period number_reader))) (λ r. named r.0 ▹ parens (counted r.1.0) ▹ keyword keys.Period ▹ counted r.1.1) Any
    (both_lawful word_reader (both (in_parens number_reader) (behind_key keys.Period number_reader)) named (λ r. parens (counted r.0) ▹ keyword keys.Period ▹ counted r.1) Any Any word_lawful
    (both_lawful (in_parens number_reader) (behind_key keys.Period number_reader) (λ n. parens (counted n)) (λ n. keyword keys.Period ▹ counted n) Any Any width_lawful
    (behind_key_lawful keys.Period number_reader counted Any number_lawful)
    (λ y b rest c d. tt))
    (λ y b rest c d. tt)))

-- the law of outputs
output_lawful : Lawful output_part (Image output_of OutputParts) Any
output_lawful =
    made_lawful output_of (behind_key keys.Output (both word_reader (behind_key keys.From full_path))) OutputParts Any
    (behind_key_lawful keys.Output (both word_reader (behind_key keys.From full_path)) (λ r. named r.0 ▹ keyword keys.From ▹ path_form r.1) Any
    (both_lawful word_reader (behind_key keys.From full_path) named (λ p. keyword keys.From ▹ path_form p) Any Any word_lawful
    (behind_key_lawful keys.From full_path path_form Any path_lawful)
    (λ y b rest c d. tt)))

-- the law of resources
resource_lawful : Lawful resource_part (Image resource_of ResourceParts) Any
resource_lawful = made_lawful resource_of (behind_key keys.Resource word_reader) ResourceParts Any (behind_key_lawful keys.Resource word_reader named Any word_lawful)

-- the law of processes
process_lawful : Lawful process_part (Image process_of ProcessParts) Any
process_lawful =
    made_lawful process_of (behind_key keys.Process (both word_reader (both (optional (at_key keys.In) (behind_key keys.In word_reader)) (in_braces (both (many (at_key keys.Var) var_reader) (many (at_key keys.Port) port_reader)))))) ProcessParts Any
    (behind_key_lawful keys.Process (both word_reader (both (optional (at_key keys.In) (behind_key keys.In word_reader)) (in_braces (both (many (at_key keys.Var) var_reader) (many (at_key keys.Port) port_reader))))) ProcessTail Any
    (both_lawful word_reader (both (optional (at_key keys.In) (behind_key keys.In word_reader)) (in_braces (both (many (at_key keys.Var) var_reader) (many (at_key keys.Port) port_reader)))) named (λ r. inside_form r.0 ▹ braces (InnerForm r.1)) Any Any word_lawful
    (both_lawful (optional (at_key keys.In) (behind_key keys.In word_reader)) (in_braces (both (many (at_key keys.Var) var_reader) (many (at_key keys.Port) port_reader))) inside_form (λ r. braces (InnerForm r)) (Ends (at_key keys.In) Any) Any inside_lawful inner_lawful
    (λ r b rest c d. first_follows (Ends (at_key keys.In) Any) (mark LeftBrace) (λ p ts. record { fails = refl; may = tt }) (InnerForm r ▹ symbol RightBrace) b rest c))
    (λ y b rest c d. tt)))

-- the kinds together, from each on
abbrev FromResource : ItemTree → Form
FromResource = Either (Image resource_of ResourceParts) (Image process_of ProcessParts)

-- from outputs on
abbrev FromOutput : ItemTree → Form
FromOutput = Either (Image output_of OutputParts) FromResource

-- all of them
abbrev FromInput : ItemTree → Form
FromInput = Either (Image input_of InputParts) FromOutput

-- what holds in front of all tokens that begin like a part of a kind, or of that kind and those behind it, holds in front of such a part
process_first : (holds : List Tok → Type 0) → ((p : Place) (ts : List Tok) → holds (tok_at (key keys.Process) p ∷ ts)) → (x : ItemTree) (w rest : List Tok) → Image process_of ProcessParts x w → holds (w ++ rest)
process_first holds h x w rest c = first_follows holds (key keys.Process) h (ProcessTail c.0) w rest c.2

-- from resources on
from_resource : (holds : List Tok → Type 0) → ((p : Place) (ts : List Tok) → holds (tok_at (key keys.Resource) p ∷ ts)) → ((p : Place) (ts : List Tok) → holds (tok_at (key keys.Process) p ∷ ts)) → (x : ItemTree) (w rest : List Tok) → FromResource x w → holds (w ++ rest)
from_resource holds g h x w rest (inl c) = first_follows holds (key keys.Resource) g (named c.0) w rest c.2
from_resource holds g h x w rest (inr c) = process_first holds h x w rest c

-- from outputs on
from_output : (holds : List Tok → Type 0) → ((p : Place) (ts : List Tok) → holds (tok_at (key keys.Output) p ∷ ts)) → ((p : Place) (ts : List Tok) → holds (tok_at (key keys.Resource) p ∷ ts)) → ((p : Place) (ts : List Tok) → holds (tok_at (key keys.Process) p ∷ ts)) → (x : ItemTree) (w rest : List Tok) → FromOutput x w → holds (w ++ rest)
from_output holds f g h x w rest (inl c) = first_follows holds (key keys.Output) f (named c.0.0 ▹ keyword keys.From ▹ path_form c.0.1) w rest c.2
from_output holds f g h x w rest (inr c) = from_resource holds g h x w rest c

-- in front of inputs
input_first : (holds : List Tok → Type 0) → ((p : Place) (ts : List Tok) → holds (tok_at (key keys.Input) p ∷ ts)) → (x : ItemTree) (w rest : List Tok) → Image input_of InputParts x w → holds (w ++ rest)
input_first holds h x w rest c = first_follows holds (key keys.Input) h (named c.0.0 ▹ parens (counted c.0.1.0) ▹ keyword keys.Period ▹ counted c.0.1.1) w rest c.2

-- the laws of the kinds from each on
from_resource_lawful : Lawful (choice (at_key keys.Resource) resource_part process_part) FromResource Any
from_resource_lawful = choice_lawful (at_key keys.Resource) resource_part process_part (Image resource_of ResourceParts) (Image process_of ProcessParts) Any (record {
  ahead = at_key_ahead keys.Resource;
  one = λ s t. resource_lawful;
  other = λ s t. process_lawful;
  passes = λ x w rest c f. first_follows (λ v. at_key keys.Resource v ≡ true) (key keys.Resource) (λ p ts. refl) (named c.0) w rest c.2;
  fails = λ x w rest c f. process_first (λ v. at_key keys.Resource v ≡ false) (λ p ts. refl) x w rest c;
})

-- from outputs on
from_output_lawful : Lawful (choice (at_key keys.Output) output_part (choice (at_key keys.Resource) resource_part process_part)) FromOutput Any
from_output_lawful = choice_lawful (at_key keys.Output) output_part (choice (at_key keys.Resource) resource_part process_part) (Image output_of OutputParts) FromResource Any (record {
  ahead = at_key_ahead keys.Output;
  one = λ s t. output_lawful;
  other = λ s t. from_resource_lawful;
  passes = λ x w rest c f. first_follows (λ v. at_key keys.Output v ≡ true) (key keys.Output) (λ p ts. refl) (named c.0.0 ▹ keyword keys.From ▹ path_form c.0.1) w rest c.2;
  fails = λ x w rest c f. from_resource (λ v. at_key keys.Output v ≡ false) (λ p ts. refl) (λ p ts. refl) x w rest c;
})

-- all of them
from_input_lawful : Lawful (choice (at_key keys.Input) input_part (choice (at_key keys.Output) output_part (choice (at_key keys.Resource) resource_part process_part))) FromInput Any
from_input_lawful = choice_lawful (at_key keys.Input) input_part (choice (at_key keys.Output) output_part (choice (at_key keys.Resource) resource_part process_part)) (Image input_of InputParts) FromOutput Any (record {
  ahead = at_key_ahead keys.Input;
  one = λ s t. input_lawful;
  other = λ s t. from_output_lawful;
  passes = λ x w rest c f. input_first (λ v. at_key keys.Input v ≡ true) (λ p ts. refl) x w rest c;
  fails = λ x w rest c f. from_output (λ v. at_key keys.Input v ≡ false) (λ p ts. refl) (λ p ts. refl) (λ p ts. refl) x w rest c;
})

-- the kinds together are the parts
item_there : (x : ItemTree) (w : List Tok) → FromInput x w → item_form x w
item_there x w (inl c) = subst (λ v. item_form v w) (sym c.1) c.2
item_there x w (inr (inl c)) = subst (λ v. item_form v w) (sym c.1) c.2
item_there x w (inr (inr (inl c))) = subst (λ v. item_form v w) (sym c.1) c.2
item_there x w (inr (inr (inr c))) = subst (λ v. item_form v w) (sym c.1) c.2

-- and back
item_back : (x : ItemTree) (w : List Tok) → item_form x w → FromInput x w
item_back (input i) w c = inl ((i.name, (i.width, i.period)), refl, c)
item_back (output o) w c = inr (inl ((o.name, o.path), refl, c))
item_back (resource r) w c = inr (inr (inl (r.name, refl, c)))
item_back (process p) w c = inr (inr (inr ((p.name, (p.inside, (p.vars, p.ports))), refl, c)))

-- the law of a part of a graph
pub item_lawful : Lawful item_reader item_form Any
item_lawful = lawful_form item_reader FromInput item_form Any item_there item_back from_input_lawful

-- what holds in front of each kind of part holds in front of all
pub item_first : (holds : List Tok → Type 0) → ((p : Place) (ts : List Tok) → holds (tok_at (key keys.Input) p ∷ ts)) → ((p : Place) (ts : List Tok) → holds (tok_at (key keys.Output) p ∷ ts)) → ((p : Place) (ts : List Tok) → holds (tok_at (key keys.Resource) p ∷ ts)) → ((p : Place) (ts : List Tok) → holds (tok_at (key keys.Process) p ∷ ts)) → (x : ItemTree) (w rest : List Tok) → item_form x w → holds (w ++ rest)
item_first holds e f g h x w rest c = of_kind (item_back x w c)
  where
    of_kind : FromInput x w → holds (w ++ rest)
    of_kind (inl d) = input_first holds e x w rest d
    of_kind (inr d) = from_output holds f g h x w rest d
