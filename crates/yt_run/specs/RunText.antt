-- The printed text of a run, and how a log and output lines are read back from it.
use Rattle.std.specs.Prelude.{ℕ, suc, ◌==◌, nat_lt, List, [], ◌∷◌, ◌++◌, Option, Some, None, ℤ, length, map, bytes_eq, codes, if◌then◌else◌}
use Rattle.std.specs.List.{onto_first, filter_map}
use Rattle.std.specs.Fmt.{decimal, signed_decimal}
use Rattle.yt_base.specs.Digits.{value_of, signed_of_text}
use Rattle.yt_graph.specs.declared.graph.Output.{Output}
use Rattle.yt_graph.specs.Labels.{label_of, output_name, port_label}
use Rattle.yt_graph.specs.Picture.{GraphTree}
use Rattle.yt_log.specs.declared.job.Segment.{Segment}
use Rattle.yt_log.specs.Printed.{end_line, segment_line}
use Rattle.yt_log.specs.Segments.{segments_of, ticks_of}
use Rattle.yt_log.specs.Ticks.{Ticks}
use Rattle.yt_serial.specs.declared.shown.OutLine.{OutLine}

-- each number behind a space
abbrev pub spaced_values : List ℤ → List ℕ
spaced_values [] = []
spaced_values (v ∷ vs) = 32 ∷ signed_decimal v ++ spaced_values vs

-- `out TIME OUTPUT VALUE ..`
abbrev pub out_line : GraphTree → OutLine → List ℕ
out_line graph l = codes "out " ++ (decimal l.time ++ (32 ∷ output_name graph l.output ++ (spaced_values l.values ++ 10 ∷ [])))

abbrev pub out_lines : GraphTree → List OutLine → List ℕ
out_lines graph [] = []
out_lines graph (l ∷ lines) = out_line graph l ++ out_lines graph lines

-- the lines before a segment's end, the segment, and what is left
abbrev pub around_segment : GraphTree → Segment → (List OutLine → List ℕ) → List OutLine → List ℕ
around_segment graph s rest [] = segment_line (port_label graph s.job.task) s ++ rest []
around_segment graph s rest (l ∷ lines) =
    if nat_lt l.time s.to then out_line graph l ++ around_segment graph s rest lines else segment_line (port_label graph s.job.task) s ++ rest (l ∷ lines)

-- segments at their ends and lines at their times, a segment before the lines of its end
abbrev pub told_text : GraphTree → List Segment → List OutLine → List ℕ
told_text graph [] lines = out_lines graph lines
told_text graph (s ∷ segments) lines = around_segment graph s (told_text graph segments) lines

-- the text of a run
abbrev pub run_text : GraphTree → Ticks → List OutLine → List ℕ
run_text graph log lines = told_text graph (segments_of log) lines ++ end_line (length log)

-- the parts between the bytes c
abbrev pub parts_between : ℕ → List ℕ → List (List ℕ)
parts_between c [] = [] ∷ []
parts_between c (b ∷ bs) = if b == c then [] ∷ parts_between c bs else onto_first b (parts_between c bs)

-- the place of the first label that is this one, from 1, 0 where none is
abbrev pub number_in : List (List ℕ) → List ℕ → ℕ
number_in [] label = 0
number_in (l ∷ labels) label = if bytes_eq l label then 1 else (if number_in labels label == 0 then 0 else suc (number_in labels label))

abbrev pub values_in : List (List ℕ) → List ℤ
values_in fields = filter_map signed_of_text fields

-- the segment of a `run` line
abbrev pub read_segment : GraphTree → List (List ℕ) → Option Segment
read_segment graph (word ∷ from ∷ to ∷ label ∷ number ∷ []) =
    if bytes_eq word (codes "run")
    then Some (record { from = value_of from; to = value_of to; job = record { task = number_in (map label_of graph.ports) label; number = value_of number } })
    else None
read_segment graph fields = None

-- the output line of an `out` line
abbrev pub read_out : GraphTree → List (List ℕ) → Option OutLine
read_out graph (word ∷ time ∷ name ∷ values) =
    if bytes_eq word (codes "out")
    then Some (record { time = value_of time; output = number_in (map (λ (o : Output). o.name) graph.outputs) name; values = values_in values })
    else None
read_out graph fields = None

-- the time of an `end` line
abbrev pub read_end : List (List ℕ) → Option ℕ
read_end (word ∷ time ∷ []) = if bytes_eq word (codes "end") then Some (value_of time) else None
read_end fields = None

-- the fields of each line of a text
abbrev pub line_fields : List ℕ → List (List (List ℕ))
line_fields text = map (parts_between 32) (parts_between 10 text)

-- what is read back from a run's text: the log and the output lines
pub record ReadBack : Type 0 where
  pub log : Ticks
  pub lines : List OutLine

abbrev pub first_or_zero : List ℕ → ℕ
first_or_zero [] = 0
first_or_zero (n ∷ ns) = n

abbrev pub read_back : GraphTree → List ℕ → ReadBack
read_back graph text = record {
  log = ticks_of (filter_map (read_segment graph) (line_fields text)) (first_or_zero (filter_map read_end (line_fields text)));
  lines = filter_map (read_out graph) (line_fields text);
}
