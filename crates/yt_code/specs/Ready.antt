-- A machine that was begun with code and has not ended.
use Rattle.std.specs.Prelude.{◌≡◌, suc, ◌-◌, ℤ, pos, List, [], ◌∷◌, ◌++◌, length, replicate, Option, None, Some}
use Rattle.yt_code.specs.declared.stepped.Stepped.{Stepped}
use Rattle.yt_code.specs.declared.stepped.Stepped.TheVariants.{Going, Ended}
use Rattle.yt_code.specs.Step.{State, Tick, at_place, instruction_step}
use Rattle.yt_code.specs.Valid.{Program, Leads, IsValidCode}

-- a machine that was not begun
abbrev pub idle : State
idle = at_place 0 [] [] []

-- a machine that begins: its first locals hold the message, and its other locals 0
abbrev pub begun : Program → List ℤ → State
begun code msg = at_place 0 [] [] (msg ++ replicate (code.locals - length msg) (pos 0))

-- the counters of open loops: each has a turn left
abbrev pub AreCounters : List ℤ → Type 0
AreCounters [] = Unit {0}
AreCounters (pos (suc n) ∷ rest) = AreCounters rest
AreCounters (_ ∷ rest) = ⊥

-- the machine stands at a place of valid code, at the first tick of the instruction there, and has what the place asks for
pub record IsReady (code : Program) (m : State) : Type 0 where
  pub valid : IsValidCode code
  pub here : Leads valid.shapes m.place (length m.stack) (length m.loops)
  pub fresh : m.spent ≡ 0
  pub counters : AreCounters m.loops
  pub all_locals : length m.locals ≡ code.locals

-- this holds where the handler goes on
abbrev pub OnGoing : Stepped → Type 0 → Type 0
OnGoing Going fact = fact
OnGoing Ended fact = Unit {0}

-- what such a machine's tick leaves: as many variables, and a machine that is ready again unless this was the last tick
abbrev pub StaysReady : Program → Option Tick → Type 0
StaysReady code None = ⊥
StaysReady code (Some t) = (length t.vars ≡ code.vars) × OnGoing t.stepped (IsReady code t.machine)

-- no machine that was begun with valid code and has not ended is ever stuck
abbrev pub NeverStuck : Type 0
NeverStuck =
    (code : Program) (m : State) (vars : List ℤ) → IsReady code m → length vars ≡ code.vars → StaysReady code (instruction_step code.instrs m vars)
