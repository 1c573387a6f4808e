-- The machine of an active job, among others: it makes the very ticks that it would make alone.
use Rattle.std.specs.Prelude.{◌≡◌, ℕ, zero, suc, ◌+◌, ◌<◌, ◌≤◌, ℤ, List, ◌++◌, length, Option, Some, None}
use Rattle.yt_graph.specs.Picture.{GraphTree, PortTree}
use Rattle.yt_graph.specs.Meaning.{Handling, handling}
use Rattle.yt_code.specs.declared.instr.Instr.{Instr}
use Rattle.yt_code.specs.declared.stepped.Stepped.{Stepped}
use Rattle.yt_code.specs.declared.stepped.Stepped.TheVariants.{Going, Ended}
use Rattle.yt_code.specs.Step.{State, Tick, instruction_step}
use Rattle.yt_code.specs.Valid.{Program}
use Rattle.yt_cost.specs.CodeAlone.{Progress, ticks_alone, begin_alone, MeansPort}
use Rattle.yt_cost.specs.CodeVars.{instrs_vars, AgreeAt, UsesVarsOf}
use Rattle.yt_log.specs.declared.job.Job.{Job}
use Rattle.yt_log.specs.Ticks.{done}
use Rattle.yt_trace.specs.declared.message.Message.{Message}
use Rattle.yt_serial.specs.PortMessages.{PortMessage}
use Rattle.yt_serial.specs.SerialHandling.{Serial}
use Rattle.yt_serial.specs.Variables.{after_writes, writes_at}
use Rattle.yt_interleave.specs.Interleaved.{ActiveJob, RunState, port_at, whole_of}
use Rattle.yt_serial.specs.Premises.{CanRun}
use Rattle.yt_interleave.specs.Moves.{MayBegin, Interleaves}

-- what code has come to that began with a message, under these variables, and had n ticks alone
abbrev pub IsAloneAt : Program → List ℤ → List ℤ → ℕ → Progress → Type 0
IsAloneAt code msg vars n p = ticks_alone code.instrs n (begin_alone code msg vars) ≡ Some p

-- the tick isn't the last, and leads to what the next tick alone comes to
pub record GoesOnAlone (code : Program) (msg vars : List ℤ) (n : ℕ) (p : Progress) (t : Tick) : Type 0 where
  pub going : t.stepped ≡ Going
  pub next : Progress
  pub alone : IsAloneAt code msg vars (n + 1) next
  pub machine : next.machine ≡ t.machine
  pub sends : next.so_far.sends ≡ p.so_far.sends ++ t.sends
  pub agree : AgreeAt (instrs_vars code.instrs) t.vars next.so_far.vars

-- the tick is the last, and all that the handling sends is sent
pub record EndsAlone (p : Progress) (whole : Handling) (t : Tick) : Type 0 where
  pub ended : t.stepped ≡ Ended
  pub sends : whole.sends ≡ p.so_far.sends ++ t.sends

-- a tick after n ticks alone, under variables that are those of the handling where the code uses them: it is defined, makes the
-- writes of this tick of the handling, and goes on or ends as the handling does
pub record IsTickOf (g : GraphTree) (code : Program) (port : PortTree) (msg vars : List ℤ) (n : ℕ) (p : Progress) (now : List ℤ) : Type 0 where
  pub tick : Tick
  pub defined : instruction_step code.instrs p.machine now ≡ Some tick
  pub writes : tick.vars ≡ after_writes (writes_at n (handling g port msg vars).writes) now
  pub goes_on : n + 1 < (handling g port msg vars).ticks → GoesOnAlone code msg vars n p tick
  pub ends : n + 1 ≡ (handling g port msg vars).ticks → EndsAlone p (handling g port msg vars) tick

-- what is left where a tick is the last or not
abbrev pub left_more : Stepped → ℕ → ℕ
left_more Ended rest = 1
left_more Going rest = suc rest

-- what is left by a tick and by what comes after it
abbrev pub left_by : Option Tick → (State → List ℤ → ℕ) → ℕ
left_by None rest = 0
left_by (Some t) rest = left_more t.stepped (rest t.machine t.vars)

-- the ticks that are left of a machine, at most as many as `fuel`
abbrev pub ticks_left : List Instr → ℕ → State → List ℤ → ℕ
ticks_left instrs zero m vars = 0
ticks_left instrs (suc fuel) m vars = left_by (instruction_step instrs m vars) (ticks_left instrs fuel)

-- each tick of an active job is one of its machine alone, and its machine has as many ticks left as the handling
pub record MachinesGoOn : Type 0 where
  pub ticks :
      (g : GraphTree) (trace : List Message) → CanRun g trace → (s : Serial) (r : RunState) → Interleaves g trace s r →
      (port : ℕ) (b : ActiveJob) → r.active port ≡ Some b → (code : Program) → MeansPort g code (port_at g port) → UsesVarsOf g code (port_at g port) →
      (p : Progress) → IsAloneAt code b.message.values b.vars (done r.log b.job (length r.log)) p →
      IsTickOf g code (port_at g port) b.message.values b.vars (done r.log b.job (length r.log)) p r.vars
  -- in the first tick of a job, at its beginning
  pub first :
      (g : GraphTree) (trace : List Message) → CanRun g trace → (s : Serial) (r : RunState) → Interleaves g trace s r →
      (job : Job) (m : PortMessage) → MayBegin g s r job m → (code : Program) → MeansPort g code (port_at g job.task) → UsesVarsOf g code (port_at g job.task) →
      IsTickOf g code (port_at g job.task) m.values s.vars 0 (begin_alone code m.values s.vars) r.vars
  pub left :
      (g : GraphTree) (trace : List Message) → CanRun g trace → (s : Serial) (r : RunState) → Interleaves g trace s r →
      (port : ℕ) (b : ActiveJob) → r.active port ≡ Some b → (code : Program) → MeansPort g code (port_at g port) → UsesVarsOf g code (port_at g port) →
      (p : Progress) → IsAloneAt code b.message.values b.vars (done r.log b.job (length r.log)) p →
      (fuel : ℕ) → (whole_of g b).ticks ≤ fuel → done r.log b.job (length r.log) + ticks_left code.instrs fuel p.machine r.vars ≡ (whole_of g b).ticks
