-- Worked graphs: three ports in a row, outs with three messages in a period, and two ports at fault.
use Rattle.std.proofs.Common.{◌≡◌, ℕ, List, [], ◌∷◌, None, Some, refl}
use Rattle.yt_graph.specs.declared.port.Feed.{Feed}
use Rattle.yt_graph.specs.declared.port.Feed.TheVariants.{Input, Out}
use Rattle.yt_graph.specs.Picture.{local, no_exprs, more_exprs, StmtTree, send, BlockTree, empty, more, PortTree, GraphTree}
use Rattle.yt_rates.specs.declared.fault.RateFault.TheVariants.{Over, Zero, Span}
use Rattle.yt_rates.specs.Rates.{distance_of, period_of, start_of, gap_of, reach_of}
use Rattle.yt_rates.specs.Faults.{rate_fault}

abbrev passes : StmtTree
passes = send 1 (more_exprs (local 0) no_exprs)

-- a handler that passes its message on once
abbrev once : BlockTree
once = more passes empty

-- a handler that passes its message on three times
abbrev thrice : BlockTree
thrice = more passes (more passes (more passes empty))

abbrev port : Feed → ℕ → BlockTree → PortTree
port feed every body = record {
  process = 112 ∷ [];
  name = 97 ∷ [];
  feed = feed;
  group = 0;
  params = 1;
  locals = 1;
  outs = (record { name = 111 ∷ []; width = 1; every = every }) ∷ [];
  body = body;
}

-- a graph with one input of this period
abbrev graph : ℕ → List PortTree → GraphTree
graph period ports = record {
  inputs = (record { name = 105 ∷ []; width = 1; period = period }) ∷ [];
  outputs = [];
  groups = [];
  vars = [];
  ports = ports;
}

abbrev first : PortTree
first = port (Input 1) 1 once

abbrev second : PortTree
second = port (Out 1 1) 1 once

abbrev third : PortTree
third = port (Out 2 1) 1 once

abbrev relay : GraphTree
relay = graph 100 (first ∷ second ∷ third ∷ [])

relay_periods : (period_of relay first ≡ 100) × (period_of relay second ≡ 100) × (period_of relay third ≡ 100)
relay_periods = (refl, refl, refl)

relay_starts : (start_of relay first ≡ 0) × (start_of relay second ≡ 100) × (start_of relay third ≡ 200) × (reach_of relay third 1 ≡ 300)
relay_starts = (refl, refl, refl, refl)

relay_distances : (distance_of relay first ≡ 0) × (distance_of relay second ≡ 1) × (distance_of relay third ≡ 2)
relay_distances = (refl, refl, refl)

relay_has_no_fault : rate_fault relay ≡ None
relay_has_no_fault = refl

-- three messages in a period of 10, and in every second period of 10
abbrev often : PortTree
often = port (Input 1) 1 thrice

abbrev every_second : PortTree
every_second = port (Input 1) 2 thrice

gaps : (gap_of (graph 10 (often ∷ [])) often 1 ≡ 3) × (gap_of (graph 10 (every_second ∷ [])) every_second 1 ≡ 6)
gaps = (refl, refl)

reaches : (reach_of (graph 10 (often ∷ [])) often 1 ≡ 16) × (reach_of (graph 10 (every_second ∷ [])) every_second 1 ≡ 22)
reaches = (refl, refl)

-- the port of number 2 is nearer to the input: it sends nothing, and its fault decides
nearest_decides : rate_fault (graph 10 (port (Out 2 1) 1 empty ∷ port (Input 1) 1 empty ∷ [])) ≡ Some (Zero 2 1)
nearest_decides = refl

-- a gap of 0, a period that is too long, a reach that is just within its limit, and one past it
no_gap : rate_fault (graph 2 (often ∷ [])) ≡ Some (Zero 1 1)
no_gap = refl

too_long : rate_fault (graph 1000 (port (Input 1) 1000 once ∷ port (Out 1 1) 2 once ∷ port (Out 2 1) 1 once ∷ [])) ≡ Some (Over 3 2000000)
too_long = refl

just_near : rate_fault (graph 1000000 (port (Input 1) 3 thrice ∷ port (Out 1 1) 1 once ∷ [])) ≡ None
just_near = refl

too_far : rate_fault (graph 1000000 (port (Input 1) 3 thrice ∷ port (Out 1 1) 1 (more passes once) ∷ [])) ≡ Some (Span 2)
too_far = refl
