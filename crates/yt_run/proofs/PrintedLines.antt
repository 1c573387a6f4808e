-- The fields of the lines of a run's text, and what is read for them.
use Rattle.std.proofs.Common.{ℕ, ℤ, ◌≡◌, ◌<◌, ◌≤◌, ◌^◌, List, [], ◌∷◌, ◌++◌, map, length, true, Some, refl, ap, ◌∙◌, arith, append_assoc}
use Rattle.std.specs.Prelude.{codes}
use Rattle.std.specs.List.{All, list_all}
use Rattle.std.specs.Fmt.{decimal, signed_decimal}
use Rattle.std.specs.Int.Signed.{mag}
use Rattle.std.proofs.lemmas.List.{append-nil}
use Rattle.std.proofs.lemmas.List.Elements.{All-head, All-tail}
use Rattle.std.proofs.lemmas.List.Folds.{list_all-append}
use Rattle.yt_base.specs.Digits.{value_of, signed_of_text}
use Rattle.yt_base.proofs.Lemmas.{value_of-decimal, signed_of_text-decimal}
use Rattle.yt_graph.specs.declared.graph.Output.{Output}
use Rattle.yt_graph.specs.Picture.{GraphTree}
use Rattle.yt_log.specs.declared.job.Job.{Job}
use Rattle.yt_log.specs.declared.job.Segment.{Segment}
use Rattle.yt_serial.specs.declared.shown.OutLine.{OutLine}
use Rattle.yt_run.specs.Readable.{is_not, stays_in_word, HasReadableNames}
use Rattle.yt_run.specs.RunText.{spaced_values, out_line, parts_between, number_in, values_in, read_segment, read_out, read_end, line_fields}
use Rattle.yt_log.specs.Printed.{segment_line, end_line}
use Rattle.yt_graph.specs.Labels.{label_of, port_label, no_output, output_name}
use Rattle.yt_graph.specs.Labels.{no_port}
use Rattle.yt_run.proofs.Pieces.{parts_between-piece, parts_between-last, without_space, without_feed, decimal-stays_in_word, signed_decimal-stays_in_word}
use Rattle.yt_run.proofs.PrintedNames.{number_in-name, name-stays_in_word}

-- a job that can be read back: it is of one of so many tasks, and its number fits
pub record IsReadableJob (tasks : ℕ) (job : Job) : Type 0 where
  pub from_one : 1 ≤ job.task
  pub in_set : job.task ≤ tasks
  pub number : job.number < 2 ^ 63

-- a segment that can be read back
pub record IsReadableSegment (tasks : ℕ) (s : Segment) : Type 0 where
  pub from : s.from < 2 ^ 63
  pub to : s.to < 2 ^ 63
  pub job : IsReadableJob tasks s.job

-- an output line that can be read back: it is of one of so many outputs, and its time and values fit
pub record IsReadableLine (outputs : ℕ) (l : OutLine) : Type 0 where
  pub time : l.time < 2 ^ 63
  pub from_one : 1 ≤ l.output
  pub in_set : l.output ≤ outputs
  pub values : All (λ v. mag v < 2 ^ 63) l.values

-- the first line of a text
line_fields-line : (line rest : List ℕ) → list_all (is_not 10) line ≡ true → line_fields (line ++ 10 ∷ rest) ≡ parts_between 32 line ∷ line_fields rest
line_fields-line line rest all = ap (map (parts_between 32)) (parts_between-piece 10 line rest all)

-- a word, a space, and the fields behind it
field_then : (word rest : List ℕ) → list_all stays_in_word word ≡ true → parts_between 32 (word ++ 32 ∷ rest) ≡ word ∷ parts_between 32 rest
field_then word rest all = parts_between-piece 32 word rest (without_space word all)

-- there is no line feed in a word and what stands behind it
goes_on : (word rest : List ℕ) → list_all stays_in_word word ≡ true → list_all (is_not 10) rest ≡ true → list_all (is_not 10) (word ++ rest) ≡ true
goes_on word rest all more =
    let here : list_all (is_not 10) word ≡ true = without_feed word all in
    rw (list_all-append (is_not 10) word rest, here, more) refl

-- the fields of a `run` line, whose parts are words
run_line-fields : (from to label number rest : List ℕ) → list_all stays_in_word from ≡ true → list_all stays_in_word to ≡ true → list_all stays_in_word label ≡ true → list_all stays_in_word number ≡ true →
    line_fields ((codes "run " ++ (from ++ (32 ∷ to ++ (32 ∷ label ++ (32 ∷ number ++ 10 ∷ []))))) ++ rest) ≡ (codes "run" ∷ from ∷ to ∷ label ∷ number ∷ []) ∷ line_fields rest
run_line-fields from to label number rest a b c d =
    let body = codes "run " ++ (from ++ (32 ∷ to ++ (32 ∷ label ++ (32 ∷ number)))) in
    let split : parts_between 32 body ≡ codes "run" ∷ from ∷ to ∷ label ∷ number ∷ [] =
    rw (field_then from (to ++ (32 ∷ label ++ (32 ∷ number))) a, field_then to (label ++ (32 ∷ number)) b, field_then label number c, parts_between-last 32 number (without_space number d)) refl in
    let whole : list_all (is_not 10) body ≡ true =
    goes_on from (32 ∷ to ++ (32 ∷ label ++ (32 ∷ number))) a (goes_on to (32 ∷ label ++ (32 ∷ number)) b (goes_on label (32 ∷ number) c (without_feed number d))) in
    let joined : (codes "run " ++ (from ++ (32 ∷ to ++ (32 ∷ label ++ (32 ∷ number ++ 10 ∷ []))))) ++ rest ≡ body ++ 10 ∷ rest = simp append_assoc in
    ap line_fields joined ∙ (line_fields-line body rest whole ∙ ap (λ fields. fields ∷ line_fields rest) split)

-- the fields of numbers behind spaces
spaced_values-fields : (word : List ℕ) (values : List ℤ) → list_all stays_in_word word ≡ true → All (λ v. mag v < 2 ^ 63) values → parts_between 32 (word ++ spaced_values values) ≡ word ∷ map signed_decimal values
spaced_values-fields word [] a fit = rw append-nil (parts_between-last 32 word (without_space word a))
spaced_values-fields word (v ∷ values) a fit =
    let here : mag v < 2 ^ 63 = All-head (λ v. mag v < 2 ^ 63) v values fit in
    let more : parts_between 32 (signed_decimal v ++ spaced_values values) ≡ signed_decimal v ∷ map signed_decimal values =
    spaced_values-fields (signed_decimal v) values (signed_decimal-stays_in_word v here) (All-tail (λ v. mag v < 2 ^ 63) v values fit) in
    field_then word (signed_decimal v ++ spaced_values values) a ∙ ap (λ fields. word ∷ fields) more

-- there is no line feed in them
spaced_values-whole : (values : List ℤ) → All (λ v. mag v < 2 ^ 63) values → list_all (is_not 10) (spaced_values values) ≡ true
spaced_values-whole [] fit = refl
spaced_values-whole (v ∷ values) fit =
    let here : mag v < 2 ^ 63 = All-head (λ v. mag v < 2 ^ 63) v values fit in
    goes_on (signed_decimal v) (spaced_values values) (signed_decimal-stays_in_word v here) (spaced_values-whole values (All-tail (λ v. mag v < 2 ^ 63) v values fit))

-- they are read as the numbers
values_in-signed_decimal : (values : List ℤ) → All (λ v. mag v < 2 ^ 63) values → values_in (map signed_decimal values) ≡ values
values_in-signed_decimal [] fit = refl
values_in-signed_decimal (v ∷ values) fit =
    let here : signed_of_text (signed_decimal v) ≡ Some v = signed_of_text-decimal v (All-head (λ v. mag v < 2 ^ 63) v values fit) in
    let more : values_in (map signed_decimal values) ≡ values = values_in-signed_decimal values (All-tail (λ v. mag v < 2 ^ 63) v values fit) in
    rw (here, more) refl

-- the fields of an `out` line
out_line-fields : (time name : List ℕ) (values : List ℤ) (rest : List ℕ) → list_all stays_in_word time ≡ true → list_all stays_in_word name ≡ true → All (λ v. mag v < 2 ^ 63) values →
    line_fields ((codes "out " ++ (time ++ (32 ∷ name ++ (spaced_values values ++ 10 ∷ [])))) ++ rest) ≡ (codes "out" ∷ time ∷ name ∷ map signed_decimal values) ∷ line_fields rest
out_line-fields time name values rest a b fit =
    let body = codes "out " ++ (time ++ (32 ∷ name ++ spaced_values values)) in
    let split : parts_between 32 body ≡ codes "out" ∷ time ∷ name ∷ map signed_decimal values =
    rw (field_then time (name ++ spaced_values values) a, spaced_values-fields name values b fit) refl in
    let whole : list_all (is_not 10) body ≡ true =
    goes_on time (32 ∷ name ++ spaced_values values) a (goes_on name (spaced_values values) b (spaced_values-whole values fit)) in
    let joined : (codes "out " ++ (time ++ (32 ∷ name ++ (spaced_values values ++ 10 ∷ [])))) ++ rest ≡ body ++ 10 ∷ rest = simp append_assoc in
    ap line_fields joined ∙ (line_fields-line body rest whole ∙ ap (λ fields. fields ∷ line_fields rest) split)

-- the fields of an `end` line
end_line-fields : (time rest : List ℕ) → list_all stays_in_word time ≡ true → line_fields ((codes "end " ++ (time ++ 10 ∷ [])) ++ rest) ≡ (codes "end" ∷ time ∷ []) ∷ line_fields rest
end_line-fields time rest a =
    let body = codes "end " ++ time in
    let split : parts_between 32 body ≡ codes "end" ∷ time ∷ [] = rw (parts_between-last 32 time (without_space time a)) refl in
    let whole : list_all (is_not 10) body ≡ true = without_feed time a in
    let joined : (codes "end " ++ (time ++ 10 ∷ [])) ++ rest ≡ body ++ 10 ∷ rest = simp append_assoc in
    ap line_fields joined ∙ (line_fields-line body rest whole ∙ ap (λ fields. fields ∷ line_fields rest) split)

-- what the line of a segment is read as
abbrev pub segment_fields : GraphTree → Segment → List (List ℕ)
segment_fields graph s = codes "run" ∷ decimal s.from ∷ decimal s.to ∷ port_label graph s.job.task ∷ decimal s.job.number ∷ []

-- what an output line is read as
abbrev pub out_fields : GraphTree → OutLine → List (List ℕ)
out_fields graph l = codes "out" ∷ decimal l.time ∷ output_name graph l.output ∷ map signed_decimal l.values

-- what the last line is read as
abbrev pub end_fields : ℕ → List (List ℕ)
end_fields time = codes "end" ∷ decimal time ∷ []

-- the line of a segment, read
module _ (graph : GraphTree) (names : HasReadableNames graph) (s : Segment) (told : IsReadableSegment (length graph.ports) s) where
  pub line_fields-segment_line : (rest : List ℕ) → line_fields (segment_line (port_label graph s.job.task) s ++ rest) ≡ segment_fields graph s ∷ line_fields rest
  line_fields-segment_line rest =
      let label : list_all stays_in_word (port_label graph s.job.task) ≡ true = name-stays_in_word label_of graph.ports no_port names.ports s.job.task told.job.from_one told.job.in_set in
      run_line-fields (decimal s.from) (decimal s.to) (port_label graph s.job.task) (decimal s.job.number) rest
      (decimal-stays_in_word s.from told.from) (decimal-stays_in_word s.to told.to) label (decimal-stays_in_word s.job.number told.job.number)

  pub read_segment-segment_fields : read_segment graph (segment_fields graph s) ≡ Some s
  read_segment-segment_fields =
      let from : value_of (decimal s.from) ≡ s.from = value_of-decimal s.from (omega arith) in
      let to : value_of (decimal s.to) ≡ s.to = value_of-decimal s.to (omega arith) in
      let number : value_of (decimal s.job.number) ≡ s.job.number = value_of-decimal s.job.number (omega arith) in
      let task : number_in (map label_of graph.ports) (port_label graph s.job.task) ≡ s.job.task = number_in-name label_of graph.ports no_port names.ports s.job.task told.job.from_one told.job.in_set in
      rw (from, to, number, task) refl

-- the line of an output line, read
module _ (graph : GraphTree) (names : HasReadableNames graph) (l : OutLine) (told : IsReadableLine (length graph.outputs) l) where
  pub line_fields-out_line : (rest : List ℕ) → line_fields (out_line graph l ++ rest) ≡ out_fields graph l ∷ line_fields rest
  line_fields-out_line rest =
      let name : list_all stays_in_word (output_name graph l.output) ≡ true = name-stays_in_word (λ (o : Output). o.name) graph.outputs no_output names.outputs l.output told.from_one told.in_set in
      out_line-fields (decimal l.time) (output_name graph l.output) l.values rest (decimal-stays_in_word l.time told.time) name told.values

  pub read_out-out_fields : read_out graph (out_fields graph l) ≡ Some l
  read_out-out_fields =
      let time : value_of (decimal l.time) ≡ l.time = value_of-decimal l.time (omega arith) in
      let output : number_in (map (λ (o : Output). o.name) graph.outputs) (output_name graph l.output) ≡ l.output =
      number_in-name (λ (o : Output). o.name) graph.outputs no_output names.outputs l.output told.from_one told.in_set in
      let values : values_in (map signed_decimal l.values) ≡ l.values = values_in-signed_decimal l.values told.values in
      rw (time, output, values) refl

-- the last line, read
pub line_fields-end_line : (time : ℕ) (rest : List ℕ) → time < 2 ^ 63 → line_fields (end_line time ++ rest) ≡ end_fields time ∷ line_fields rest
line_fields-end_line time rest fits = end_line-fields (decimal time) rest (decimal-stays_in_word time fits)

pub read_end-end_fields : (time : ℕ) → time < 2 ^ 63 → read_end (end_fields time) ≡ Some time
read_end-end_fields time fits = ap Some (value_of-decimal time (omega arith))
