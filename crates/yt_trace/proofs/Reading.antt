-- What a text says, and its first fault.
use Rattle.std.proofs.Common.{◌≡◌, ℕ, ◌+◌, Bool, true, false, cond, List, [], ◌∷◌, Result, Ok, Err, refl, sym, ap, ◌∙◌, ◌⊎◌, inl, inr}
use Rattle.yt_base.specs.Files.{IsFileError, after_line, is_skipped, read_from, read_lines}
use Rattle.yt_base.specs.Lines.{fields_of, lines_of}
use Rattle.yt_base.specs.declared.file_error.FileError.{FileError}
use Rattle.yt_base.specs.declared.file_error.FileError.TheVariants as file
use Rattle.yt_graph.specs.declared.graph.Input.{Input}
use Rattle.yt_graph.specs.Picture.{GraphTree}
use Rattle.yt_trace.specs.declared.message.Message.{Message}
use Rattle.yt_trace.specs.declared.message_fault.MessageFault.{MessageFault}
use Rattle.yt_trace.specs.declared.message_fault.MessageFault.TheVariants as line
use Rattle.yt_trace.specs.declared.read.TraceFault.{TraceFault}
use Rattle.yt_trace.specs.declared.read.TraceFault.TheVariants.{Memory}
use Rattle.yt_trace.specs.TraceText.{IsFaultOf, IsLegalTrace, in_line, judged, trace_of}
use Rattle.yt_trace.specs.Inside.Reading.{TraceSoFar, judged_so_far, so_far}

module _ (inputs : List Input) where
  -- a line is judged the same beside the inputs
  line_so_far : (trace : List Message) (line : List ℕ) → after_line judged_so_far (record { inputs = inputs; trace = trace }) line ≡ so_far inputs (after_line (judged inputs) trace line)
  line_so_far trace line = by (is_skipped (fields_of line))
    where
      by : (b : Bool) → cond b (Ok (let r : TraceSoFar = record { inputs = inputs; trace = trace } in r)) (so_far inputs (judged inputs trace (fields_of line))) ≡ so_far inputs (cond b (Ok trace) (judged inputs trace (fields_of line)))
      by true = refl
      by false = refl

  -- what comes of a line, and then of those behind it
  rest_so_far : (number : ℕ) (lines : List (List ℕ)) (r : Result (List Message) MessageFault) →
      ((trace : List Message) → read_from judged_so_far (number + 1) (record { inputs = inputs; trace = trace }) lines ≡ so_far inputs (read_from (judged inputs) (number + 1) trace lines)) →
      elim (so_far inputs r) [ Ok more ↦ read_from judged_so_far (number + 1) more lines | Err fault ↦ Err (number, fault) ] ≡
      so_far inputs (elim r [ Ok more ↦ read_from (judged inputs) (number + 1) more lines | Err fault ↦ Err (number, fault) ])
  rest_so_far number lines (Ok more) rest = rest more
  rest_so_far number lines (Err fault) rest = refl

  -- and so are lines
  pub lines_so_far : (number : ℕ) (trace : List Message) (lines : List (List ℕ)) →
      read_from judged_so_far number (record { inputs = inputs; trace = trace }) lines ≡ so_far inputs (read_from (judged inputs) number trace lines)
  lines_so_far number trace [] = refl
  lines_so_far number trace (line ∷ lines) =
      ap (λ (r : Result TraceSoFar MessageFault). elim r [ Ok more ↦ read_from judged_so_far (number + 1) more lines | Err fault ↦ Err (number, fault) ]) (line_so_far trace line)
      ∙ rest_so_far number lines (after_line (judged inputs) trace line) (λ more. lines_so_far (number + 1) more lines)

  so_far_ok : {F : Type 0} (r : Result (List Message) F) (read : TraceSoFar) → so_far inputs r ≡ Ok read → (r ≡ Ok read.trace) × (read.inputs ≡ inputs)
  so_far_ok (Ok trace) read e =
      let made : TraceSoFar = record { inputs = inputs; trace = trace } in
      let same : made ≡ read = cc in
      (ap (λ (r : TraceSoFar). Ok r.trace) same, sym (ap (λ (r : TraceSoFar). r.inputs) same))
  so_far_ok (Err fault) read e = absurd (cc)

  so_far_err : {F : Type 0} (r : Result (List Message) F) (fault : F) → so_far inputs r ≡ Err fault → r ≡ Err fault
  so_far_err (Ok trace) fault e = absurd (cc)
  so_far_err (Err first) fault e = let same : first ≡ fault = cc in ap (λ f. Err f) same

-- what was read is what the text says
pub read_is : (g : GraphTree) (text : List ℕ) (start read : TraceSoFar) → start ≡ record { inputs = g.inputs; trace = [] } → read_lines judged_so_far start text ≡ Ok read → (trace_of g text ≡ Ok read.trace) × (read.inputs ≡ g.inputs)
read_is g text start read begun is =
    so_far_ok g.inputs (trace_of g text) read
    (sym (ap (λ (s : TraceSoFar). read_lines judged_so_far s text) begun ∙ lines_so_far g.inputs 1 [] (lines_of text)) ∙ is)

pub fault_is : (g : GraphTree) (text : List ℕ) (start : TraceSoFar) (error : FileError MessageFault) → start ≡ record { inputs = g.inputs; trace = [] } → IsFileError (read_lines judged_so_far start text) error → IsFileError (trace_of g text) error
fault_is g text start (file.Line number fault) begun is =
    so_far_err g.inputs (trace_of g text) (number, fault)
    (sym (ap (λ (s : TraceSoFar). read_lines judged_so_far s text) begun ∙ lines_so_far g.inputs 1 [] (lines_of text)) ∙ is)
fault_is g text start file.Memory begun is = tt

-- a legal trace has no fault but want of memory
pub no_trace_and_fault : (g : GraphTree) (text : List ℕ) (fault : TraceFault) → IsLegalTrace g text → IsFaultOf g text fault → fault ≡ Memory
no_trace_and_fault g text fault legal (file.Line number first, same, is) = let clash = sym legal.1 ∙ is in absurd (cc)
no_trace_and_fault g text fault legal (file.Memory, same, is) = same

in_line_told : (number : ℕ) (fault : MessageFault) → in_line number fault ≡ Memory → ⊥
in_line_told number line.Form e = cc
in_line_told number line.Unknown e = cc
in_line_told number line.Width e = cc
in_line_told number line.Late e = cc
in_line_told number line.Order e = cc
in_line_told number (line.Soon least) e = cc
in_line_told number line.Many e = cc

-- each text is a legal trace, or it has such a fault
pub trace_or_fault : (g : GraphTree) (text : List ℕ) → IsLegalTrace g text ⊎ ((fault : TraceFault) × IsFaultOf g text fault × (fault ≡ Memory → ⊥))
trace_or_fault g text = by (trace_of g text) refl
  where
    by : (read : Result (List Message) (ℕ × MessageFault)) → trace_of g text ≡ read → IsLegalTrace g text ⊎ ((fault : TraceFault) × IsFaultOf g text fault × (fault ≡ Memory → ⊥))
    by (Ok trace) is = inl (trace, is)
    by (Err fault) is = inr (in_line fault.0 fault.1, (file.Line fault.0 fault.1, refl, is), in_line_told fault.0 fault.1)
