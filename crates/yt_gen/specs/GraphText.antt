-- The text of the graph of so many pipelines.
use Rattle.std.specs.Prelude.{ℕ, ◌%◌, ◌==◌, List, [], ◌∷◌, ◌++◌, codes, if◌then◌else◌}
use Rattle.std.specs.Fmt.{decimal}
use Rattle.std.specs.List.{flat_map}
use Rattle.yt_gen.specs.Pipelines.{period_of, pipelines}

-- these lines, each with its line feed
abbrev pub text_of : List (List ℕ) → List ℕ
text_of [] = []
text_of (line ∷ lines) = line ++ 10 ∷ text_of lines

-- a pipeline's ends: its input, and its output, which shows what the second port sends
unfoldable pub ends_text : ℕ → List ℕ
ends_text i = text_of (
    (codes "input in" ++ (decimal i ++ (codes "(1) period " ++ decimal (period_of i))))
    ∷ (codes "output out" ++ (decimal i ++ (codes " from w" ++ (decimal i ++ codes ".g.o"))))
    ∷ [])

-- every second process is under the resource
abbrev pub pool_text : ℕ → List ℕ
pool_text i = if i % 2 == 1 then codes " in pool" else []

-- a pipeline's process: the first port sends two messages for each that comes in, and the second sums up what it gets
unfoldable pub process_text : ℕ → List ℕ
process_text i = text_of (
    (codes "process w" ++ (decimal i ++ (pool_text i ++ codes " {")))
    ∷ (codes "  var s = " ++ decimal i)
    ∷ (codes "  port f from in" ++ (decimal i ++ codes " (v) out o(1) {"))
    ∷ codes "    let x = v"
    ∷ codes "    repeat v % 8 max 7 {"
    ∷ codes "      x = x * 3 + s"
    ∷ codes "    }"
    ∷ codes "    s = s + 1"
    ∷ codes "    send o (x)"
    ∷ codes "    send o (s)"
    ∷ codes "  }"
    ∷ (codes "  port g from w" ++ (decimal i ++ codes ".f.o (v) out o(1) {"))
    ∷ codes "    s = s + v"
    ∷ codes "    send o (s)"
    ∷ codes "  }"
    ∷ codes "}"
    ∷ [])

-- the resource, the ends of each pipeline, and then the process of each
abbrev pub graph_text : ℕ → List ℕ
graph_text count = text_of (codes "resource pool" ∷ []) ++ (flat_map ends_text (pipelines count) ++ flat_map process_text (pipelines count))
