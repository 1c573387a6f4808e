-- What the parts of a step need and leave: for the machine's own functions alone.
use Rattle.std.specs.Prelude.{◌≡◌, ℕ, suc, ◌<◌, ◌≤◌, ℤ, pos, List, [], ◌∷◌, length, Option, None, Some}
use Rattle.yt_code.specs.declared.instr.Instr.{Instr}
use Rattle.yt_code.specs.declared.instr.Instr.TheVariants.{Push, Local, Var, SetLocal, SetVar, Neg, Not, Two, Call, Send, JumpZero, Jump, Loop, Again, End}
use Rattle.yt_code.specs.declared.limits.TheConstants.{MOST_OPEN_LOOPS, STACK_ROOM}
use Rattle.yt_code.specs.Step.{State, Tick}

-- there is a turn left in the innermost loop
abbrev pub HasTurn : List ℤ → Type 0
HasTurn [] = ⊥
HasTurn (pos (suc n) ∷ rest) = Unit {0}
HasTurn (_ ∷ rest) = ⊥

-- what an instruction has to find
abbrev pub Finds : Instr → State → ℕ → Type 0
Finds (Push n) m vars = length m.stack < STACK_ROOM
Finds (Local i) m vars = (length m.stack < STACK_ROOM) × (i < length m.locals)
Finds (Var i) m vars = (length m.stack < STACK_ROOM) × (i < vars)
Finds (SetLocal i) m vars = (0 < length m.stack) × (i < length m.locals)
Finds (SetVar i) m vars = (0 < length m.stack) × (i < vars)
Finds Neg m vars = 0 < length m.stack
Finds Not m vars = 0 < length m.stack
Finds (Two op) m vars = 1 < length m.stack
Finds (Call op args ticks code) m vars = ⊥
Finds (Send out width) m vars = width ≤ length m.stack
Finds (JumpZero to) m vars = 0 < length m.stack
Finds (Jump to) m vars = Unit {0}
Finds (Loop most to) m vars = (0 < length m.stack) × (length m.loops < MOST_OPEN_LOOPS)
Finds (Again to) m vars = HasTurn m.loops
Finds End m vars = Unit {0}

-- the tick changes the machine alone
abbrev pub IsQuiet : Option Tick → State → Type 0
IsQuiet None machine = ⊥
IsQuiet (Some t) machine = machine ≡ t.machine
