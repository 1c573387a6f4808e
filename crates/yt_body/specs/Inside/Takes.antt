-- What a job's sends need and leave, as the machine sees it.
use Rattle.std.specs.Prelude.{◌≡◌, ℕ, ℤ, List}
use Rattle.yt_body.specs.declared.outs.Outs.{Outs}
use Rattle.yt_body.specs.Sends.{MaySend, Sends}

-- the channels take a message on an out of the port whose job sends
abbrev pub TakesSend : Outs → ℕ → List ℤ → Type 0
TakesSend outs out values = MaySend outs.channels outs.port out values

-- what sending it leaves
abbrev pub LeavesSend : Outs → ℕ → List ℤ → Outs → Type 0
LeavesSend outs out values new = (new.port ≡ outs.port) × Sends outs.channels outs.port out values new.channels
