-- What reading a graph gives: its one tree, or the first token that no tree goes on with.
use Rattle.std.proofs.Common.{◌≡◌, true, ◌||◌, List, [], ◌∷◌, ◌++◌, refl, sym, ap, ◌∙◌, subst, append_assoc, append-nil}
use Rattle.yt_graph.specs.AstPicture.{ItemTree}
use Rattle.yt_grammar.specs.declared.sign.Keyword.TheVariants as keys
use Rattle.yt_grammar.specs.Lexemes.{Tok, AreTokens}
use Rattle.yt_grammar.specs.Forms.{each}
use Rattle.yt_grammar.specs.Grammar.{item_form, Spells, IsFront, IsStuckAt}
use Rattle.yt_grammar.specs.Inside.Reading.{Reading, got, stuck, Reader, and_then, many, at_key, at_item, item_reader, graph_reader}
use Rattle.yt_grammar.proofs.reading.Lawful.{SameHead, ReadsFront, StopsBehind, Lawful}
use Rattle.yt_grammar.proofs.reading.Heads.{same_nil, LooksAhead, or_ahead, are_tokens_both, are_tokens_front, drop_nothing, add_nothing}
use Rattle.yt_grammar.proofs.reading.Signs.{at_key_ahead}
use Rattle.yt_grammar.proofs.reading.Singles.{Any, lawful_form}
use Rattle.yt_grammar.proofs.reading.Sequences.{Then, and_then_lawful}
use Rattle.yt_grammar.proofs.reading.Choices.{Given, Ends}
use Rattle.yt_grammar.proofs.reading.Repeats.{many_lawful}
use Rattle.yt_grammar.proofs.reading.Items.{item_lawful, item_first}

-- no token
abbrev AtEnd : List Tok → Type 0
AtEnd s = s ≡ []

-- the end, behind the parts
abbrev at_end : List ItemTree → Reader (List ItemTree)
at_end items [] = got items []
at_end items (t ∷ ts) = stuck (t ∷ ts)

module _ (items : List ItemTree) where
  -- the end is read where no tokens are left
  end_sound : (s : List Tok) (x : List ItemTree) (rest : List Tok) → at_end items s ≡ got x rest → ReadsFront (at_end items) (Given items) s x rest
  end_sound [] x rest e =
      let same : items ≡ x = cc in
      let none : rest ≡ [] = cc in
      record { front = []; splits = sym none; spelled = (sym same, refl); local = λ other h. ends other x same (same_nil other (subst (λ v. SameHead v other) none h)) }
    where
      ends : (other : List Tok) (x : List ItemTree) → items ≡ x → other ≡ [] → at_end items other ≡ got x other
      ends other x e d = ap (at_end items) d ∙ ap (λ v. got v []) e ∙ ap (got x) (sym d)
  end_sound (t ∷ ts) x rest e = absurd cc

  -- and not where some are
  end_stops : (s rest : List Tok) → at_end items s ≡ stuck rest → StopsBehind (at_end items) (Given items) s rest
  end_stops [] rest e = absurd cc
  end_stops (t ∷ ts) rest e =
      let same : t ∷ ts ≡ rest = cc in
      record {
        front = [];
        splits = same;
        missing = [];
        fine = tt;
        thing = items;
        completed = (refl, refl);
        local = λ other h. alike other (subst (λ v. SameHead v other) (sym same) h);
      }
    where
      alike : (other : List Tok) → SameHead (t ∷ ts) other → at_end items other ≡ stuck other
      alike [] h = absurd h
      alike (u ∷ us) h = refl

  -- the law of the end
  end_lawful : Lawful (at_end items) (Given items) AtEnd
  end_lawful = record {
    sound = end_sound;
    stops = end_stops;
    complete = λ w x rest c f. ap (λ v. at_end items (v ++ rest)) c.1 ∙ ap (at_end items) f ∙ ap (λ v. got v []) (sym c.0) ∙ ap (got x) (sym f);
  }

-- parts as long as one begins
at_item_ahead : LooksAhead at_item
at_item_ahead =
    or_ahead (at_key keys.Input) (λ s. at_key keys.Output s || (at_key keys.Resource s || at_key keys.Process s)) (at_key_ahead keys.Input)
    (or_ahead (at_key keys.Output) (λ s. at_key keys.Resource s || at_key keys.Process s) (at_key_ahead keys.Output)
    (or_ahead (at_key keys.Resource) (at_key keys.Process) (at_key_ahead keys.Resource) (at_key_ahead keys.Process)))

-- the law of the parts together
items_lawful : Lawful (many at_item item_reader) (each item_form) (Ends at_item Any)
items_lawful = many_lawful at_item item_reader item_form Any (record {
  law = item_lawful;
  ahead = at_item_ahead;
  at_end = refl;
  begins = λ x w rest c. item_first (λ v. at_item v ≡ true) (λ p ts. refl) (λ p ts. refl) (λ p ts. refl) (λ p ts. refl) x w rest c;
  joins = λ x w rest c. tt;
})

-- parts with nothing behind them
graph_there : (items : List ItemTree) (w : List Tok) → Then (each item_form) Given items w → each item_form items w
graph_there items w (xs, (a, b, e, c, d)) = subst (λ v. each item_form v w) (sym d.0) (drop_nothing (each item_form xs) w (a, b, e, c, d.1))

-- and back
graph_back : (items : List ItemTree) (w : List Tok) → each item_form items w → Then (each item_form) Given items w
graph_back items w c = let d = add_nothing (each item_form items) w c in (items, (d.0, d.1, d.2, d.3, (refl, d.4)))

-- the law of reading a graph
pub graph_lawful : Lawful graph_reader (each item_form) AtEnd
unfolding graph_reader
graph_lawful =
    lawful_form (λ s. and_then (many at_item item_reader s) at_end) (Then (each item_form) Given) (each item_form) AtEnd graph_there graph_back
    (and_then_lawful (many at_item item_reader) at_end (each item_form) Given (Ends at_item Any) AtEnd (record {
      begins = items_lawful;
      goes_on = λ xs a c. end_lawful xs;
      joins = λ xs ys a b rest c d f. subst (Ends at_item Any) (sym (ap (λ v. v ++ rest) d.1 ∙ f)) (record { fails = refl; may = tt });
    }))

-- nothing is left behind a graph
at_end_rest : (items x : List ItemTree) (s rest : List Tok) → at_end items s ≡ got x rest → rest ≡ []
at_end_rest items x [] rest e = cc
at_end_rest items x (t ∷ ts) rest e = absurd cc

-- nor behind the parts that were read
end_rest : (r : Reading (List ItemTree)) (items : List ItemTree) (rest : List Tok) → and_then r at_end ≡ got items rest → rest ≡ []
end_rest (got x mid) items rest e = at_end_rest x items mid rest e
end_rest (stuck mid) items rest e = absurd cc

-- nor behind the graph
graph_rest : (s : List Tok) (items : List ItemTree) (rest : List Tok) → graph_reader s ≡ got items rest → rest ≡ []
unfolding graph_reader
graph_rest s items rest e = end_rest (many at_item item_reader s) items rest e

-- what is read is spelled
pub graph_read : (s : List Tok) (items : List ItemTree) (rest : List Tok) → graph_reader s ≡ got items rest → (rest ≡ []) × each item_form items s
graph_read s items rest e =
    let none : rest ≡ [] = graph_rest s items rest e in
    let a : ReadsFront graph_reader (each item_form) s items rest = graph_lawful.sound s items rest e in
    (none, subst (each item_form items) (sym (a.splits ∙ ap (λ v. a.front ++ v) none ∙ append-nil a.front)) a.spelled)

-- what is spelled is read
pub graph_only : (s : List Tok) (items : List ItemTree) → each item_form items s → graph_reader s ≡ got items []
graph_only s items c = ap graph_reader (sym (append-nil s)) ∙ graph_lawful.complete s items [] c refl

-- where reading is stuck, the tokens so far are a front
stuck_front : (s rest : List Tok) → AreTokens s → (a : StopsBehind graph_reader (each item_form) s rest) → IsFront a.front
stuck_front s rest fine a = record {
  rest = a.missing;
  items = a.thing;
  spells = (are_tokens_both a.front a.missing (are_tokens_front a.front rest (subst AreTokens a.splits fine)) a.fine, a.completed);
}

-- nothing is both read and not
no_both : (r : Reading (List ItemTree)) (items : List ItemTree) (mid rest : List Tok) → r ≡ got items mid → r ≡ stuck rest → ⊥
no_both r items mid rest e d = absurd cc

-- at the end no tree is spelled
no_tree : (s : List Tok) (a : StopsBehind graph_reader (each item_form) s []) (items : List ItemTree) → Spells a.front items → ⊥
no_tree s a items c = no_both (graph_reader a.front) items [] [] (graph_only a.front items c.1) (ap graph_reader (sym (append-nil a.front)) ∙ a.local [] tt)

-- no tree goes on with the next token
no_more : (s : List Tok) (t : Tok) (ts : List Tok) (a : StopsBehind graph_reader (each item_form) s (t ∷ ts)) → IsFront (a.front ++ t ∷ []) → ⊥
no_more s t ts a f =
    no_both (graph_reader (a.front ++ t ∷ f.rest)) f.items [] (t ∷ f.rest)
    (ap graph_reader (sym (append_assoc a.front (t ∷ []) f.rest)) ∙ graph_only ((a.front ++ t ∷ []) ++ f.rest) f.items f.spells.1)
    (a.local (t ∷ f.rest) refl)

-- where reading is stuck, the tokens so far are a front, and no tree goes on with the next
pub graph_stuck : (s rest : List Tok) → AreTokens s → graph_reader s ≡ stuck rest → (front : List Tok) × (s ≡ front ++ rest) × IsStuckAt front rest
graph_stuck s [] fine e =
    let a : StopsBehind graph_reader (each item_form) s [] = graph_lawful.stops s [] e in
    (a.front, a.splits, (stuck_front s [] fine a, no_tree s a))
graph_stuck s (t ∷ ts) fine e =
    let a : StopsBehind graph_reader (each item_form) s (t ∷ ts) = graph_lawful.stops s (t ∷ ts) e in
    (a.front, a.splits, (stuck_front s (t ∷ ts) fine a, no_more s t ts a))
