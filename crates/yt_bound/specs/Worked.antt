-- Worked bounds, of a graph with two inputs, three ports and two outputs.
use Rattle.std.specs.Prelude.{◌≡◌, ℕ, List, [], ◌∷◌, codes, pos}
use Rattle.yt_graph.specs.declared.port.Feed.TheVariants.{Input, Out}
use Rattle.yt_graph.specs.Picture.{local, no_exprs, more_exprs, StmtTree, send, if_only, empty, more, GraphTree}
use Rattle.yt_trace.specs.declared.message.Message.{Message}
use Rattle.yt_bound.specs.Bounds.{most_jobs, most_lines, job_bound}

-- sends a port's message on through its first out
abbrev pass : StmtTree
pass = send 1 (more_exprs (local 0) no_exprs)

-- `pair.take` handles the messages of `tick`; each second job sends two on. `sieve.take` handles these, and may send each on. The
-- output `pairs` shows what the first sends, and `some` what the second does. `tally.take` handles the messages of `tick` too. No port
-- handles those of `tock`
abbrev sieve : GraphTree
sieve = record {
  inputs = record { name = codes "tick"; width = 1; period = 100 } ∷ record { name = codes "tock"; width = 1; period = 100 } ∷ [];
  outputs = record { name = codes "pairs"; port = 1; out = 1 } ∷ record { name = codes "some"; port = 2; out = 1 } ∷ [];
  groups = [];
  vars = [];
  ports =
      record {
        process = codes "pair";
        name = codes "take";
        feed = Input 1;
        group = 0;
        params = 1;
        locals = 1;
        outs = record { name = codes "two"; width = 1; every = 2 } ∷ [];
        body = more pass (more pass empty);
      }
      ∷ record {
        process = codes "sieve";
        name = codes "take";
        feed = Out 1 1;
        group = 0;
        params = 1;
        locals = 1;
        outs = record { name = codes "one"; width = 1; every = 1 } ∷ [];
        body = more (if_only (local 0) (more pass empty)) empty;
      }
      ∷ record {
        process = codes "tally";
        name = codes "take";
        feed = Input 1;
        group = 0;
        params = 1;
        locals = 1;
        outs = [];
        body = empty;
      }
      ∷ [];
}

abbrev tick : ℕ → Message
tick time = record { time = time; input = 1; values = pos 7 ∷ [] }

abbrev tock : ℕ → Message
tock time = record { time = time; input = 2; values = pos 7 ∷ [] }

-- each tick is a job of `pair.take` and one of `tally.take`. Two ticks bring a pair of messages, of five the last brings none; the four
-- messages are then a job of `sieve.take` each, and a line of each output
abbrev five : List Message
five = tick 0 ∷ tick 100 ∷ tick 200 ∷ tick 300 ∷ tick 400 ∷ []

pub record WorkedBounds : Type 0 where
  pub none : job_bound sieve [] ≡ 0
  pub one : job_bound sieve (tick 0 ∷ []) ≡ 2
  pub other : job_bound sieve (tock 0 ∷ tick 0 ∷ tock 100 ∷ []) ≡ 2
  pub two : job_bound sieve (tick 0 ∷ tick 100 ∷ []) ≡ 10
  pub jobs : most_jobs sieve five ≡ 14
  pub lines : most_lines sieve five ≡ 8
  pub five : job_bound sieve five ≡ 22
