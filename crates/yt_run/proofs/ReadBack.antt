-- The text of a run is read back as its log and lines.
use Rattle.std.proofs.Common.{ℕ, ◌≡◌, ◌<◌, ◌^◌, List, [], ◌∷◌, ◌++◌, map, length, Bool, true, false, Option, Some, None, refl, sym, ap, ◌∙◌, arith, append_assoc}
use Rattle.std.specs.Prelude.{codes, nat_lt, if◌then◌else◌}
use Rattle.std.specs.List.{All, filter_map}
use Rattle.std.specs.Fmt.{decimal, signed_decimal}
use Rattle.std.proofs.lemmas.List.{append-nil}
use Rattle.std.proofs.lemmas.List.Elements.{All-head, All-tail, filter_map-append}
use Rattle.yt_graph.specs.Picture.{GraphTree}
use Rattle.yt_log.specs.declared.job.Segment.{Segment}
use Rattle.yt_log.specs.Segments.{segments_of, ticks_of}
use Rattle.yt_log.specs.Ticks.{Ticks}
use Rattle.yt_serial.specs.declared.shown.OutLine.{OutLine}
use Rattle.yt_run.specs.Readable.{HasReadableNames}
use Rattle.yt_run.specs.RunText.{ReadBack, out_line, out_lines, around_segment, told_text, run_text, read_segment, read_out, read_end, line_fields, first_or_zero, read_back}
use Rattle.yt_log.specs.Printed.{segment_line, end_line}
use Rattle.yt_graph.specs.Labels.{output_name, port_label}
use Rattle.yt_run.proofs.PrintedLines.{IsReadableJob, IsReadableSegment, IsReadableLine, segment_fields, out_fields, end_fields, line_fields-segment_line, line_fields-out_line, line_fields-end_line, read_segment-segment_fields, read_out-out_fields, read_end-end_fields}
use Rattle.yt_run.proofs.ReadBackSegments.{segments_of-IsSegmentBelow}

-- the fields of the lines before a segment's end, of the segment, and of what is left
abbrev around_fields : GraphTree → Segment → (List OutLine → List (List (List ℕ))) → List OutLine → List (List (List ℕ))
around_fields graph s rest [] = segment_fields graph s ∷ rest []
around_fields graph s rest (l ∷ lines) =
    if nat_lt l.time s.to then out_fields graph l ∷ around_fields graph s rest lines else segment_fields graph s ∷ rest (l ∷ lines)

-- the fields of the lines of a text of segments and output lines
abbrev told_fields : GraphTree → List Segment → List OutLine → List (List (List ℕ))
told_fields graph [] lines = map (out_fields graph) lines
told_fields graph (s ∷ segments) lines = around_fields graph s (told_fields graph segments) lines

-- a text is read as these lines, whatever stands behind it
record IsReadAs (text : List ℕ) (lines : List (List (List ℕ))) : Type 0 where
  read : (end : List ℕ) → line_fields (text ++ end) ≡ lines ++ line_fields end

-- a line in front of a text
line_then : (line text : List ℕ) (fields : List (List ℕ)) (lines : List (List (List ℕ))) → ((rest : List ℕ) → line_fields (line ++ rest) ≡ fields ∷ line_fields rest) → IsReadAs text lines → IsReadAs (line ++ text) (fields ∷ lines)
line_then line text fields lines first others = record {
  read = λ end. ap line_fields (append_assoc line text end) ∙ (first (text ++ end) ∙ ap (λ more. fields ∷ more) (others.read end));
}

-- of two texts the one that a test takes
one_of : (t : Bool) (a b : List ℕ) (x y : List (List (List ℕ))) → IsReadAs a x → IsReadAs b y → IsReadAs (if t then a else b) (if t then x else y)
one_of true a b x y p q = p
one_of false a b x y p q = q

module _ (graph : GraphTree) (names : HasReadableNames graph) where
  -- output lines alone
  out_lines-read : (lines : List OutLine) → All (IsReadableLine (length graph.outputs)) lines → IsReadAs (out_lines graph lines) (map (out_fields graph) lines)
  out_lines-read [] all = record { read = λ end. refl }
  out_lines-read (l ∷ lines) all =
      line_then (out_line graph l) (out_lines graph lines) (out_fields graph l) (map (out_fields graph) lines)
      (line_fields-out_line graph names l (All-head (IsReadableLine (length graph.outputs)) l lines all))
      (out_lines-read lines (All-tail (IsReadableLine (length graph.outputs)) l lines all))

  -- the lines around one segment
  around_segment-read : (s : Segment) → IsReadableSegment (length graph.ports) s → (text : List OutLine → List ℕ) (fields : List OutLine → List (List (List ℕ))) →
      ((lines : List OutLine) → All (IsReadableLine (length graph.outputs)) lines → IsReadAs (text lines) (fields lines)) →
      (lines : List OutLine) → All (IsReadableLine (length graph.outputs)) lines → IsReadAs (around_segment graph s text lines) (around_fields graph s fields lines)
  around_segment-read s told text fields same [] all =
      line_then (segment_line (port_label graph s.job.task) s) (text []) (segment_fields graph s) (fields []) (line_fields-segment_line graph names s told) (same [] all)
  around_segment-read s told text fields same (l ∷ lines) all =
      one_of (nat_lt l.time s.to) (out_line graph l ++ around_segment graph s text lines) (segment_line (port_label graph s.job.task) s ++ text (l ∷ lines))
      (out_fields graph l ∷ around_fields graph s fields lines) (segment_fields graph s ∷ fields (l ∷ lines))
      (line_then (out_line graph l) (around_segment graph s text lines) (out_fields graph l) (around_fields graph s fields lines)
      (line_fields-out_line graph names l (All-head (IsReadableLine (length graph.outputs)) l lines all))
      (around_segment-read s told text fields same lines (All-tail (IsReadableLine (length graph.outputs)) l lines all)))
      (line_then (segment_line (port_label graph s.job.task) s) (text (l ∷ lines)) (segment_fields graph s) (fields (l ∷ lines)) (line_fields-segment_line graph names s told) (same (l ∷ lines) all))

  -- the lines of all segments
  told_text-read : (segments : List Segment) → All (IsReadableSegment (length graph.ports)) segments → (lines : List OutLine) → All (IsReadableLine (length graph.outputs)) lines →
      IsReadAs (told_text graph segments lines) (told_fields graph segments lines)
  told_text-read [] told lines all = out_lines-read lines all
  told_text-read (s ∷ segments) told lines all =
      around_segment-read s (All-head (IsReadableSegment (length graph.ports)) s segments told) (told_text graph segments) (told_fields graph segments)
      (told_text-read segments (All-tail (IsReadableSegment (length graph.ports)) s segments told)) lines all

-- an output line is no segment's line
read_segment-out_fields : (graph : GraphTree) (time name : List ℕ) (values : List (List ℕ)) → read_segment graph (codes "out" ∷ time ∷ name ∷ values) ≡ None
read_segment-out_fields graph time name [] = refl
read_segment-out_fields graph time name (a ∷ []) = refl
read_segment-out_fields graph time name (a ∷ b ∷ []) = refl
read_segment-out_fields graph time name (a ∷ b ∷ c ∷ values) = refl

-- of two lists of fields the one that a test takes
taken : {Y : Type 0} (read : List (List ℕ) → Option Y) (t : Bool) (x y : List (List (List ℕ))) (found : List Y) → filter_map read x ≡ found → filter_map read y ≡ found → filter_map read (if t then x else y) ≡ found
taken read true x y found p q = p
taken read false x y found p q = q

-- a line that is read, and one that is passed over
line_read : {Y : Type 0} (read : List (List ℕ) → Option Y) (fields : List (List ℕ)) (lines : List (List (List ℕ))) (y : Y) (ys : List Y) → read fields ≡ Some y → filter_map read lines ≡ ys → filter_map read (fields ∷ lines) ≡ y ∷ ys
line_read read fields lines y ys here others = rw (here, others) refl

line_passed : {Y : Type 0} (read : List (List ℕ) → Option Y) (fields : List (List ℕ)) (lines : List (List (List ℕ))) (ys : List Y) → read fields ≡ None → filter_map read lines ≡ ys → filter_map read (fields ∷ lines) ≡ ys
line_passed read fields lines ys here others = rw (here, others) refl

module _ (graph : GraphTree) (names : HasReadableNames graph) where
  -- the segments among these lines
  out_segments : (lines : List OutLine) → filter_map (read_segment graph) (map (out_fields graph) lines) ≡ []
  out_segments [] = refl
  out_segments (l ∷ lines) = line_passed (read_segment graph) (out_fields graph l) (map (out_fields graph) lines) [] (read_segment-out_fields graph (decimal l.time) (output_name graph l.output) (map signed_decimal l.values)) (out_segments lines)

  around_segments : (s : Segment) → IsReadableSegment (length graph.ports) s → (fields : List OutLine → List (List (List ℕ))) (segments : List Segment) →
      ((lines : List OutLine) → filter_map (read_segment graph) (fields lines) ≡ segments) → (lines : List OutLine) → filter_map (read_segment graph) (around_fields graph s fields lines) ≡ s ∷ segments
  around_segments s told fields segments others [] = line_read (read_segment graph) (segment_fields graph s) (fields []) s segments (read_segment-segment_fields graph names s told) (others [])
  around_segments s told fields segments others (l ∷ lines) =
      taken (read_segment graph) (nat_lt l.time s.to) (out_fields graph l ∷ around_fields graph s fields lines) (segment_fields graph s ∷ fields (l ∷ lines)) (s ∷ segments)
      (line_passed (read_segment graph) (out_fields graph l) (around_fields graph s fields lines) (s ∷ segments) (read_segment-out_fields graph (decimal l.time) (output_name graph l.output) (map signed_decimal l.values)) (around_segments s told fields segments others lines))
      (line_read (read_segment graph) (segment_fields graph s) (fields (l ∷ lines)) s segments (read_segment-segment_fields graph names s told) (others (l ∷ lines)))

  told_segments : (segments : List Segment) → All (IsReadableSegment (length graph.ports)) segments → (lines : List OutLine) → filter_map (read_segment graph) (told_fields graph segments lines) ≡ segments
  told_segments [] told lines = out_segments lines
  told_segments (s ∷ segments) told lines =
      around_segments s (All-head (IsReadableSegment (length graph.ports)) s segments told) (told_fields graph segments) segments
      (told_segments segments (All-tail (IsReadableSegment (length graph.ports)) s segments told)) lines

  -- the output lines among them
  out_lines_found : (lines : List OutLine) → All (IsReadableLine (length graph.outputs)) lines → filter_map (read_out graph) (map (out_fields graph) lines) ≡ lines
  out_lines_found [] all = refl
  out_lines_found (l ∷ lines) all =
      line_read (read_out graph) (out_fields graph l) (map (out_fields graph) lines) l lines (read_out-out_fields graph names l (All-head (IsReadableLine (length graph.outputs)) l lines all))
      (out_lines_found lines (All-tail (IsReadableLine (length graph.outputs)) l lines all))

  around_lines : (s : Segment) (fields : List OutLine → List (List (List ℕ))) → ((lines : List OutLine) → All (IsReadableLine (length graph.outputs)) lines → filter_map (read_out graph) (fields lines) ≡ lines) →
      (lines : List OutLine) → All (IsReadableLine (length graph.outputs)) lines → filter_map (read_out graph) (around_fields graph s fields lines) ≡ lines
  around_lines s fields others [] all = others [] all
  around_lines s fields others (l ∷ lines) all =
      taken (read_out graph) (nat_lt l.time s.to) (out_fields graph l ∷ around_fields graph s fields lines) (segment_fields graph s ∷ fields (l ∷ lines)) (l ∷ lines)
      (line_read (read_out graph) (out_fields graph l) (around_fields graph s fields lines) l lines (read_out-out_fields graph names l (All-head (IsReadableLine (length graph.outputs)) l lines all))
      (around_lines s fields others lines (All-tail (IsReadableLine (length graph.outputs)) l lines all)))
      (others (l ∷ lines) all)

  told_lines : (segments : List Segment) (lines : List OutLine) → All (IsReadableLine (length graph.outputs)) lines → filter_map (read_out graph) (told_fields graph segments lines) ≡ lines
  told_lines [] lines all = out_lines_found lines all
  told_lines (s ∷ segments) lines all = around_lines s (told_fields graph segments) (told_lines segments) lines all

module _ (graph : GraphTree) where
  -- no end among them
  out_ends : (lines : List OutLine) → filter_map read_end (map (out_fields graph) lines) ≡ []
  out_ends [] = refl
  out_ends (l ∷ lines) = out_ends lines

  around_ends : (s : Segment) (fields : List OutLine → List (List (List ℕ))) → ((lines : List OutLine) → filter_map read_end (fields lines) ≡ []) → (lines : List OutLine) → filter_map read_end (around_fields graph s fields lines) ≡ []
  around_ends s fields others [] = others []
  around_ends s fields others (l ∷ lines) =
      taken read_end (nat_lt l.time s.to) (out_fields graph l ∷ around_fields graph s fields lines) (segment_fields graph s ∷ fields (l ∷ lines)) [] (around_ends s fields others lines) (others (l ∷ lines))

  told_ends : (segments : List Segment) (lines : List OutLine) → filter_map read_end (told_fields graph segments lines) ≡ []
  told_ends [] lines = out_ends lines
  told_ends (s ∷ segments) lines = around_ends s (told_fields graph segments) (told_ends segments) lines

-- the fields of the whole text
run_fields : (graph : GraphTree) → HasReadableNames graph → (segments : List Segment) → All (IsReadableSegment (length graph.ports)) segments → (lines : List OutLine) → All (IsReadableLine (length graph.outputs)) lines →
    (time : ℕ) → time < 2 ^ 63 → line_fields (told_text graph segments lines ++ end_line time) ≡ told_fields graph segments lines ++ end_fields time ∷ ([] ∷ []) ∷ []
run_fields graph names segments told lines all time fits =
    let last : line_fields (end_line time) ≡ end_fields time ∷ ([] ∷ []) ∷ [] = ap line_fields (sym (append-nil (end_line time))) ∙ line_fields-end_line time [] fits in
    (told_text-read graph names segments told lines all).read (end_line time) ∙ ap (λ more. told_fields graph segments lines ++ more) last

-- a reader that passes over the last line and the empty piece behind it
before_end : {Y : Type 0} (read : List (List ℕ) → Option Y) (lines : List (List (List ℕ))) (time : ℕ) (ys : List Y) → read (end_fields time) ≡ None → read ([] ∷ []) ≡ None → filter_map read lines ≡ ys → filter_map read (lines ++ end_fields time ∷ ([] ∷ []) ∷ []) ≡ ys
before_end read lines time ys last none found =
    let rest : filter_map read (end_fields time ∷ ([] ∷ []) ∷ []) ≡ [] = line_passed read (end_fields time) (([] ∷ []) ∷ []) [] last (line_passed read ([] ∷ []) [] [] none refl) in
    rw (filter_map-append read lines (end_fields time ∷ ([] ∷ []) ∷ []), rest, found) (append-nil ys)

-- a log and lines by their parts
same_parts : (a log : Ticks) (b lines : List OutLine) → a ≡ log → b ≡ lines → ◌≡◌ {A = ReadBack} (record { log = a; lines = b }) (record { log = log; lines = lines })
same_parts a log b lines p q = rw (p, q) refl

-- the segments of a log can be read back where their jobs can
segments_readable : (tasks : ℕ) (log : Ticks) → length log < 2 ^ 63 → All (λ s. IsReadableJob tasks s.job) (segments_of log) → All (IsReadableSegment tasks) (segments_of log)
segments_readable tasks log short jobs = λ k d lt.
    let below = segments_of-IsSegmentBelow (λ job. Unit {0}) log (λ t job at. tt) k d lt in
    record { from = omega arith; to = omega arith; job = jobs k d lt }

-- the text of a run is read back as its log and lines
pub read_back-run_text : (graph : GraphTree) (log : Ticks) (lines : List OutLine) → HasReadableNames graph → length log < 2 ^ 63 →
    All (λ s. IsReadableJob (length graph.ports) s.job) (segments_of log) → All (IsReadableLine (length graph.outputs)) lines → ticks_of (segments_of log) (length log) ≡ log →
    read_back graph (run_text graph log lines) ≡ record { log = log; lines = lines }
read_back-run_text graph log lines names short jobs all ticks =
    let segments = segments_of log in
    let time = length log in
    let text = line_fields (run_text graph log lines) in
    let found = told_fields graph segments lines in
    let end = end_fields time ∷ ([] ∷ []) ∷ [] in
    let told : All (IsReadableSegment (length graph.ports)) segments = segments_readable (length graph.ports) log short jobs in
    let whole : text ≡ found ++ end = run_fields graph names segments told lines all time short in
    let as_segments : filter_map (read_segment graph) text ≡ segments =
    ap (filter_map (read_segment graph)) whole ∙ before_end (read_segment graph) found time segments refl refl (told_segments graph names segments told lines) in
    let as_lines : filter_map (read_out graph) text ≡ lines =
    ap (filter_map (read_out graph)) whole ∙ before_end (read_out graph) found time lines refl refl (told_lines graph names segments lines all) in
    let last : filter_map read_end end ≡ time ∷ [] = line_read read_end (end_fields time) (([] ∷ []) ∷ []) time [] (read_end-end_fields time short) refl in
    let as_end : filter_map read_end text ≡ time ∷ [] =
    ap (filter_map read_end) whole ∙ (filter_map-append read_end found end ∙ rw (told_ends graph segments lines) last) in
    let as_log : ticks_of (filter_map (read_segment graph) text) (first_or_zero (filter_map read_end text)) ≡ log =
    ap (λ s. ticks_of s (first_or_zero (filter_map read_end text))) as_segments ∙ (ap (λ n. ticks_of segments (first_or_zero n)) as_end ∙ ticks) in
    same_parts (ticks_of (filter_map (read_segment graph) text) (first_or_zero (filter_map read_end text))) log (filter_map (read_out graph) text) lines as_log as_lines
