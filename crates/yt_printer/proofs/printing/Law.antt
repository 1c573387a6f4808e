-- The canonical text of a tree that some tokens spell is read as the same tree.
use Rattle.std.proofs.Common.{◌≡◌, List, [], ◌∷◌, true, refl, sym, subst, arith}
use Rattle.yt_grammar.specs.Lexemes.{Tok, toks_of, AreTokens}
use Rattle.yt_grammar.specs.CanonicalText.{layout_of, canonical_text}
use Rattle.yt_grammar.specs.SamePlaces.{PrintedIsRead}
use Rattle.yt_grammar.specs.Writable.{is_writable}
use Rattle.yt_printer.proofs.printing.Layouts.{AreLexemes, says_of, lexed}
use Rattle.yt_grammar.proofs.Lemmas.{spelled_writable}
use Rattle.yt_printer.proofs.printing.Good.{layout_good}
use Rattle.yt_printer.proofs.printing.RereadGraph.{graph_reads}

tokens_stand : (toks : List Tok) → AreLexemes (says_of toks) → AreTokens toks
tokens_stand [] h = tt
tokens_stand (t ∷ ts) h = (h.0, tokens_stand ts h.1)

pub printed_is_read : PrintedIsRead
printed_is_read items h =
    let can : is_writable items ≡ true = spelled_writable items h.0 h.1 in
    let good = layout_good items can in
    let text = canonical_text items in
    let found = lexed text 0 (layout_of items) refl (omega arith) good.apart good.can in
    let read = graph_reads items (toks_of text found.tokens) can found.say_so in
    record {
      tokens = found.tokens;
      lexed = found.lexes;
      read = read.0;
      spelled = (tokens_stand (toks_of text found.tokens) (subst AreLexemes (sym found.say_so) good.can), read.1);
      same = read.2;
    }
