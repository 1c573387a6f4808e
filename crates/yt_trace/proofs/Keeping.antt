-- The trace that a text says keeps the periods of the inputs.
use Rattle.std.proofs.Common.{◌≡◌, ℕ, suc, ◌+◌, ◌<◌, Bool, true, false, cond, List, [], ◌∷◌, ◌++◌, length, get_or, map, ℤ, Option, None, Some, Result, Ok, Err, refl, sym, ap, subst, ◌∙◌, arith}
use Rattle.std.specs.Prelude.{IfSome, IsSomeAnd, bytes_eq}
use Rattle.std.proofs.lemmas.Grind.{common_steps}
use Rattle.std.proofs.lemmas.List.{length-map}
use Rattle.std.proofs.lemmas.List.Elements.{All-nil}
use Rattle.std.proofs.lemmas.Option.{same_Some, slice_get-get_or}
use Rattle.std.specs.Option.{option_map, unwrap_or}
use Rattle.yt_base.specs.Files.{after_line, is_skipped, read_from}
use Rattle.yt_base.specs.Lines.{fields_of, lines_of}
use Rattle.yt_graph.specs.declared.graph.Input.{Input}
use Rattle.yt_graph.specs.Inputs.{period_in, width_in}
use Rattle.yt_graph.specs.Picture.{GraphTree}
use Rattle.yt_list.specs.Numbered.{numbered}
use Rattle.yt_table.proofs.Lemmas.{index_within, numbered_from}
use Rattle.yt_table.specs.Tables.{first_of}
use Rattle.yt_trace.specs.declared.message.Message.{Message}
use Rattle.yt_trace.specs.declared.message_fault.MessageFault.{MessageFault}
use Rattle.yt_trace.specs.Traces.{IsMessageOf, KeepsPeriods, KeepsPeriodsOf, latest_time}
use Rattle.yt_trace.specs.TraceText.{Said, input_named, judged, judged_number, judged_said, last_time, message_fault, said_of, trace_of, unless, with_message}
use Rattle.yt_trace.specs.Inside.Reading.{AreNewest, IsFine, IsNext}
use Rattle.yt_trace.proofs.Adding.{keeps_with, newest_with}
use Rattle.yt_trace.proofs.Judging.{numbered_within}

-- a message with no fault is fine
fine_without : (input : Input) (last : Option ℕ) (latest messages time width : ℕ) → message_fault input.width input.period last latest messages time width ≡ None → IsFine input last latest messages time width
fine_without input last latest messages time width none = record {
  wide = grind (arith, common_steps);
  in_time = grind (arith, common_steps);
  order = grind (arith, common_steps);
  apart = grind (arith, common_steps);
  room = grind (arith, common_steps);
}

-- what a name stands for is there
named_there : (inputs : List Input) (name : List ℕ) (n : ℕ) → input_named inputs name ≡ Some n → (input : Input) × (numbered inputs n ≡ Some input)
named_there inputs name n is = by (first_of name 0 names) refl
  where
    names : List (List ℕ)
    names = map (λ (i : Input). i.name) inputs

    no_input : Input
    no_input = record { name = []; width = 0; period = 0 }

    by : (first : Option ℕ) → first_of name 0 names ≡ first → (input : Input) × (numbered inputs n ≡ Some input)
    by None e = let clash : None ≡ Some n = sym (numbered_from (bytes_eq name) 1 names ∙ ap (option_map (λ k. 1 + k)) e) ∙ is in absurd (cc)
    by (Some place) e =
        let same : Some (1 + place) ≡ Some n = sym (numbered_from (bytes_eq name) 1 names ∙ ap (option_map (λ k. 1 + k)) e) ∙ is in
        let next : suc place ≡ n = grind (arith, same_Some (1 + place) n same) in
        let within : place < length names = subst (λ (o : Option ℕ). IfSome o (λ k. k < length names)) e (index_within (bytes_eq name) names) in
        let long : length names ≡ length inputs = length-map inputs (λ (i : Input). i.name) in
        (get_or inputs place no_input, subst (λ k. numbered inputs k ≡ Some (get_or inputs place no_input)) next (slice_get-get_or inputs place no_input (omega arith)))

module _ (inputs : List Input) where
  -- the messages so far keep the periods, and none of an input comes after its last one
  record Kept (trace : List Message) : Type 0 where
    keeps : KeepsPeriodsOf inputs trace
    newest : AreNewest trace

  -- with a message of the input of a number, which has no fault
  kept_with : (trace : List Message) (time : ℕ) (values : List ℤ) (name : List ℕ) (n : ℕ) → Kept trace → input_named inputs name ≡ Some n →
      message_fault (width_in inputs n) (period_in inputs n) (last_time n trace) (latest_time trace) (length trace) time (length values) ≡ None →
      Kept (trace ++ (record { time = time; input = n; values = values }) ∷ [])
  kept_with trace time values name n kept named none =
      let there = named_there inputs name n named in
      let fine = fine_without (record { name = []; width = width_in inputs n; period = period_in inputs n }) (last_time n trace) (latest_time trace) (length trace) time (length values) none in
      let within = numbered_within inputs n there.0 there.1 in
      let wide : width_in inputs n ≡ there.0.width = ap (λ (o : Option Input). unwrap_or (option_map (λ i. i.width) o) 0) there.1 in
      let next : IsNext (record { inputs = inputs; trace = trace }) n time (length values) = record {
        from_one = within.0;
        there = within.1;
        wide = subst (λ (o : Option Input). IsSomeAnd o (λ i. i.width ≡ length values)) (sym there.1) (sym (fine.wide ∙ wide));
        in_time = fine.in_time;
        order = fine.order;
        apart = fine.apart;
        room = fine.room;
      } in
      record {
        keeps = keeps_with inputs trace (record { time = time; input = n; values = values }) kept.keeps kept.newest next;
        newest = newest_with inputs trace (record { time = time; input = n; values = values }) kept.newest fine.apart;
      }

  -- with the message that a line says
  kept_said : (trace more : List Message) (said : Option Said) → Kept trace → judged_said inputs trace said ≡ Ok more → Kept more
  kept_said trace more None kept is = absurd (cc)
  kept_said trace more (Some said) kept is = by (input_named inputs said.input) refl is
    where
      by_fault : (n : ℕ) (fault : Option MessageFault) → input_named inputs said.input ≡ Some n →
          message_fault (width_in inputs n) (period_in inputs n) (last_time n trace) (latest_time trace) (length trace) said.time (length said.values) ≡ fault →
          with_message trace said.time said.values (unless fault n) ≡ Ok more → Kept more
      by_fault n None named none is =
          let same : trace ++ (record { time = said.time; input = n; values = said.values }) ∷ [] ≡ more = cc in
          subst Kept same (kept_with trace said.time said.values said.input n kept named none)
      by_fault n (Some fault) named none is = absurd (cc)

      by : (input : Option ℕ) → input_named inputs said.input ≡ input → with_message trace said.time said.values (judged_number inputs trace said.time (length said.values) input) ≡ Ok more → Kept more
      by None named is = absurd (cc)
      by (Some n) named is =
          by_fault n (message_fault (width_in inputs n) (period_in inputs n) (last_time n trace) (latest_time trace) (length trace) said.time (length said.values)) named refl is

  kept_line : (trace more : List Message) (line : List ℕ) → Kept trace → after_line (judged inputs) trace line ≡ Ok more → Kept more
  kept_line trace more line kept is = by (is_skipped (fields_of line)) is
    where
      by : (b : Bool) → cond b (Ok trace) (judged inputs trace (fields_of line)) ≡ Ok more → Kept more
      by true e = let same : trace ≡ more = cc in subst Kept same kept
      by false e = kept_said trace more (said_of (fields_of line)) kept e

  -- and with those of all lines
  kept_lines : (number : ℕ) (trace final : List Message) (lines : List (List ℕ)) → Kept trace → read_from (judged inputs) number trace lines ≡ Ok final → Kept final
  kept_lines number trace final [] kept is = let same : trace ≡ final = cc in subst Kept same kept
  kept_lines number trace final (line ∷ lines) kept is = by (λ more. kept_lines (number + 1) more final lines) (after_line (judged inputs) trace line) refl is
    where
      by : ((more : List Message) → Kept more → read_from (judged inputs) (number + 1) more lines ≡ Ok final → Kept final) → (r : Result (List Message) MessageFault) → after_line (judged inputs) trace line ≡ r →
          ◌≡◌ {A = Result (List Message) (ℕ × MessageFault)} (elim r [ Ok more ↦ read_from (judged inputs) (number + 1) more lines | Err fault ↦ Err (number, fault) ]) (Ok final) → Kept final
      by later (Ok more) e rest = later more (kept_line trace more line kept e) rest
      by later (Err fault) e rest = absurd (cc)

  kept_none : Kept []
  kept_none = record {
    keeps = record {
      few = omega arith;
      messages = All-nil (IsMessageOf inputs);
      order = λ i j d lt within. absurd (omega arith);
      apart = λ input i j d lt within. absurd (omega arith);
    };
    newest = λ input k d lt. absurd (omega arith);
  }

pub traces_keep_periods : (g : GraphTree) (text : List ℕ) (trace : List Message) → trace_of g text ≡ Ok trace → KeepsPeriods g trace
traces_keep_periods g text trace is = (kept_lines g.inputs 1 [] trace (lines_of text) (kept_none g.inputs) is).keeps
