-- What code does that is executed alone, tick by tick, with what it has sent and written so far.
use Rattle.std.specs.Prelude.{◌≡◌, ℕ, zero, suc, ◌+◌, ◌-◌, ◌<◌, nat_lt, if◌then◌else◌, ℤ, List, [], ◌∷◌, ◌++◌, slice_get, slice_set, Option, None, Some}
use Rattle.yt_graph.specs.declared.handled.SendItem.{SendItem}
use Rattle.yt_graph.specs.declared.handled.Write.{Write}
use Rattle.yt_graph.specs.Picture.{PortTree, GraphTree}
use Rattle.yt_graph.specs.Meaning.{Handling, handling}
use Rattle.yt_code.specs.declared.instr.Instr.{Instr}
use Rattle.yt_code.specs.declared.instr.Instr.TheVariants.{SetVar}
use Rattle.yt_code.specs.declared.stepped.Stepped.{Stepped}
use Rattle.yt_code.specs.declared.stepped.Stepped.TheVariants.{Going, Ended}
use Rattle.yt_code.specs.Step.{State, Tick, instruction_step}
use Rattle.yt_code.specs.Valid.{Program}
use Rattle.yt_code.specs.Ready.{begun}
use Rattle.yt_cost.specs.CodeFit.{IsHandlerFit}
use Rattle.yt_cost.specs.Code.{port_code}

-- a machine on its way, and what the handling has left so far: the variables, the messages sent, the ticks taken and the writes
pub record Progress : Type 0 where
  pub machine : State
  pub so_far : Handling

-- a progress after one more tick, and whether it was the last
pub record Advance : Type 0 where
  pub progress : Progress
  pub stepped : Stepped

-- what is written where the top is stored in a variable; nothing where there is no top
abbrev pub writes_top : ℕ → List ℤ → ℕ → List Write
writes_top variable [] ticks = []
writes_top variable (x ∷ rest) ticks = (record { offset = ticks; variable = variable; value = x }) ∷ []

-- what an instruction writes in its tick, in order, by the machine and the variables before it, where so many ticks were taken before
abbrev pub written : Option Instr → State → List ℤ → ℕ → List Write
written (Some (SetVar i)) m vars ticks = writes_top i m.stack ticks
written _ m vars ticks = []

-- what a tick leaves of a handling
abbrev pub with_tick : List Write → Handling → Tick → Handling
with_tick writes h t = record { vars = t.vars; sends = h.sends ++ t.sends; ticks = h.ticks + 1; writes = h.writes ++ writes }

-- the progress that a tick makes; none where the machine is stuck
abbrev pub advance : List Write → Handling → Option Tick → Option Advance
advance writes h None = None
advance writes h (Some t) =
    Some (record { progress = record { machine = t.machine; so_far = with_tick writes h t }; stepped = t.stepped })

-- one tick of code that is executed alone
abbrev pub tick_alone : List Instr → Progress → Option Advance
tick_alone instrs p =
    advance (written (slice_get instrs p.machine.place) p.machine p.so_far.vars p.so_far.ticks) p.so_far (instruction_step instrs p.machine p.so_far.vars)

-- the progress where the handling goes on
abbrev pub going : Option Advance → Option Progress
going None = None
going (Some a) = going_on a.stepped a.progress
  where
    going_on : Stepped → Progress → Option Progress
    going_on Going p = Some p
    going_on Ended p = None

-- what comes of a progress, where there is one
abbrev pub and_then : Option Progress → (Progress → Option Progress) → Option Progress
and_then None f = None
and_then (Some p) f = f p

-- n ticks of code that is executed alone, none of them the last; none where the code ends or is stuck before
abbrev pub ticks_alone : List Instr → ℕ → Progress → Option Progress
ticks_alone instrs zero p = Some p
ticks_alone instrs (suc n) p = and_then (going (tick_alone instrs p)) (ticks_alone instrs n)

-- code that begins with a message, under these variables
abbrev pub begin_alone : Program → List ℤ → List ℤ → Progress
begin_alone code msg vars =
    record { machine = begun code msg; so_far = record { vars = vars; sends = []; ticks = 0; writes = [] } }

-- the variables after the writes whose offsets are below n
abbrev pub written_before : ℕ → List Write → List ℤ → List ℤ
written_before n [] vars = vars
written_before n (w ∷ rest) vars =
    written_before n rest (if nat_lt w.offset n then slice_set vars w.variable w.value else vars)

-- what is left after the first n ticks of a whole handling: the variables that it began with, after the writes of these ticks; and the first of its messages
pub record IsAfter (n : ℕ) (vars : List ℤ) (so_far whole : Handling) : Type 0 where
  pub ticks : so_far.ticks ≡ n
  pub vars_now : so_far.vars ≡ written_before n whole.writes vars
  pub sends : (rest : List SendItem) × (whole.sends ≡ so_far.sends ++ rest)

-- code that begins with this message and is executed alone from these variables ends with exactly this handling
pub record Does (code : Program) (msg vars : List ℤ) (whole : Handling) : Type 0 where
  pub last : Progress
  pub comes : ticks_alone code.instrs (whole.ticks - 1) (begin_alone code msg vars) ≡ Some last
  pub ends : tick_alone code.instrs last ≡ Some (record { progress = record { machine = last.machine; so_far = whole }; stepped = Ended })
  pub at_end : IsAfter whole.ticks vars whole whole
  pub on_the_way : (n : ℕ) → n < whole.ticks → (p : Progress) × (ticks_alone code.instrs n (begin_alone code msg vars) ≡ Some p) × IsAfter n vars p.so_far whole

-- the code does what the handler of the graph's port means, for each message and all variables
pub record MeansPort (graph : GraphTree) (code : Program) (port : PortTree) : Type 0 where
  pub each : (msg vars : List ℤ) → Does code msg vars (handling graph port msg vars)

-- the code of a handler does what the handler means
abbrev pub CompiledMeansPort : Type 0
CompiledMeansPort = (graph : GraphTree) (port : PortTree) → IsHandlerFit graph port → MeansPort graph (port_code graph port) port
