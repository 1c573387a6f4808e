-- The lines that refuse a trace.
use Rattle.std.specs.Prelude.{◌≡◌, ℕ, List, [], ◌∷◌, ◌++◌, codes}
use Rattle.std.specs.Fmt.{decimal}
use Rattle.yt_trace.specs.declared.read.TraceFault.{TraceFault}
use Rattle.yt_trace.specs.declared.read.TraceFault.TheVariants.{Form, Unknown, Width, Late, Order, Soon, Many, Memory}

-- `trace LINE ..`, with what is wrong with the line
abbrev pub trace_line : ℕ → List ℕ → List ℕ
trace_line number end = codes "trace " ++ (decimal number ++ end)

-- the text is the line of a fault of a trace; want of memory has none
abbrev pub IsTraceLine : List ℕ → TraceFault → Type 0
IsTraceLine text (Form line) = text ≡ trace_line line (codes " form\n")
IsTraceLine text (Unknown line) = text ≡ trace_line line (codes " unknown\n")
IsTraceLine text (Width line) = text ≡ trace_line line (codes " width\n")
IsTraceLine text (Late line) = text ≡ trace_line line (codes " late\n")
IsTraceLine text (Order line) = text ≡ trace_line line (codes " order\n")
IsTraceLine text (Soon line least) = text ≡ trace_line line (codes " soon " ++ (decimal least ++ 10 ∷ []))
IsTraceLine text (Many line) = text ≡ trace_line line (codes " many\n")
IsTraceLine text Memory = ⊥

-- `trace jobs BOUND`: a run on the trace may come to so many jobs and lines
abbrev pub jobs_line : ℕ → List ℕ
jobs_line bound = codes "trace jobs " ++ (decimal bound ++ 10 ∷ [])
