-- One tick of a machine that steps through instructions.
use Rattle.std.specs.Prelude.{◌≡◌, ℕ, zero, suc, ◌+◌, nat_lt, nat_le, if◌then◌else◌, ℤ, pos, List, [], ◌∷◌, length, take, drop, reverse, slice_get, slice_index_or, slice_set, Option, None, Some}
use Rattle.yt_graph.specs.declared.handled.SendItem.{SendItem}
use Rattle.yt_graph.specs.Meaning.{is_not_zero, neg_value, not_value, two_value, call_value, turns_of}
use Rattle.yt_code.specs.declared.instr.Instr.{Instr}
use Rattle.yt_code.specs.declared.instr.Instr.TheVariants.{Push, Local, Var, SetLocal, SetVar, Neg, Not, Two, Call, Send, JumpZero, Jump, Loop, Again, End}
use Rattle.yt_code.specs.declared.stepped.Stepped.{Stepped}
use Rattle.yt_code.specs.declared.stepped.Stepped.TheVariants.{Going, Ended}

-- a machine between two ticks: the place of its instruction, the ticks that it has spent on it, the stack and the counters of the open loops, both with the newest first, and the locals
pub record State : Type 0 where
  pub place : ℕ
  pub spent : ℕ
  pub stack : List ℤ
  pub loops : List ℤ
  pub locals : List ℤ

-- what a tick leaves: the machine, the variables, what was sent in it, and whether it was the last
pub record Tick : Type 0 where
  pub machine : State
  pub vars : List ℤ
  pub sends : List SendItem
  pub stepped : Stepped

-- a machine that comes to a place
abbrev pub at_place : ℕ → List ℤ → List ℤ → List ℤ → State
at_place place stack loops locals = record { place = place; spent = 0; stack = stack; loops = loops; locals = locals }

-- a tick that sends nothing and isn't the last
abbrev pub goes_on : State → List ℤ → Option Tick
goes_on machine vars = Some (record { machine = machine; vars = vars; sends = []; stepped = Going })

-- takes the newest number, and is stuck where there is none
abbrev pub on_top : List ℤ → (ℤ → List ℤ → Option Tick) → Option Tick
on_top [] f = None
on_top (x ∷ rest) f = f x rest

-- is stuck where there are fewer numbers than these
abbrev pub on_tops : ℕ → List ℤ → Option Tick → Option Tick
on_tops n stack tick = if nat_le n (length stack) then tick else None

-- the start of a loop with so many turns, which is passed over where there are none
abbrev pub enters : ℕ → ℕ → State → List ℤ → List ℤ → Option Tick
enters zero to m stack vars = goes_on (at_place to stack m.loops m.locals) vars
enters (suc n) to m stack vars = goes_on (at_place (m.place + 1) stack (pos (suc n) ∷ m.loops) m.locals) vars

-- the end of a turn: the counter falls by one, and the machine goes back where turns are left
abbrev pub turns_back : ℤ → ℕ → State → List ℤ → List ℤ → Option Tick
turns_back (pos zero) to m loops vars = None
turns_back (pos (suc zero)) to m loops vars = goes_on (at_place (m.place + 1) m.stack loops m.locals) vars
turns_back (pos (suc (suc n))) to m loops vars = goes_on (at_place to m.stack (pos (suc n) ∷ loops) m.locals) vars
turns_back _ to m loops vars = None

-- the topmost numbers in the order in which they were put there
abbrev pub topmost : ℕ → List ℤ → List ℤ
topmost n stack = reverse (take n stack)

-- one tick of an instruction; none where the machine is stuck. A call takes its ticks and has its effect in the last of them, every other instruction takes one
abbrev pub effect : Instr → State → List ℤ → Option Tick
effect (Push n) m vars = goes_on (at_place (m.place + 1) (n ∷ m.stack) m.loops m.locals) vars
effect (Local i) m vars = goes_on (at_place (m.place + 1) (slice_index_or m.locals i (pos 0) ∷ m.stack) m.loops m.locals) vars
effect (Var i) m vars = goes_on (at_place (m.place + 1) (slice_index_or vars i (pos 0) ∷ m.stack) m.loops m.locals) vars
effect (SetLocal i) m vars =
    on_top m.stack (λ x rest. goes_on (at_place (m.place + 1) rest m.loops (slice_set m.locals i x)) vars)
effect (SetVar i) m vars =
    on_top m.stack (λ x rest. goes_on (at_place (m.place + 1) rest m.loops m.locals) (slice_set vars i x))
effect Neg m vars =
    on_top m.stack (λ x rest. goes_on (at_place (m.place + 1) (neg_value x ∷ rest) m.loops m.locals) vars)
effect Not m vars =
    on_top m.stack (λ x rest. goes_on (at_place (m.place + 1) (not_value x ∷ rest) m.loops m.locals) vars)
effect (Two op) m vars =
    on_top m.stack (λ y rest. on_top rest (λ x below. goes_on (at_place (m.place + 1) (two_value op x y ∷ below) m.loops m.locals) vars))
effect (Call op args ticks code) m vars =
    if nat_lt (m.spent + 1) ticks
    then goes_on (record m { spent = m.spent + 1 }) vars
    else on_tops args m.stack (goes_on (at_place (m.place + 1) (call_value code (topmost args m.stack) ∷ drop args m.stack) m.loops m.locals) vars)
effect (Send out width) m vars =
    on_tops width m.stack (Some (record {
      machine = at_place (m.place + 1) (drop width m.stack) m.loops m.locals;
      vars = vars;
      sends = (record { out = out; values = topmost width m.stack }) ∷ [];
      stepped = Going;
    }))
effect (JumpZero to) m vars =
    on_top m.stack (λ x rest. goes_on (at_place (if is_not_zero x then m.place + 1 else to) rest m.loops m.locals) vars)
effect (Jump to) m vars = goes_on (at_place to m.stack m.loops m.locals) vars
effect (Loop most to) m vars = on_top m.stack (λ x rest. enters (turns_of x most) to m rest vars)
effect (Again to) m vars = on_top m.loops (λ n rest. turns_back n to m rest vars)
effect End m vars = Some (record { machine = m; vars = vars; sends = []; stepped = Ended })

-- one tick where this instruction stands, if any does
abbrev pub step_at : Option Instr → State → List ℤ → Option Tick
step_at None m vars = None
step_at (Some i) m vars = effect i m vars

-- one tick of a machine in these instructions, under these variables
abbrev pub instruction_step : List Instr → State → List ℤ → Option Tick
instruction_step instrs m vars = step_at (slice_get instrs m.place) m vars

-- what is sent in a tick
abbrev pub sends_of : Option Tick → List SendItem
sends_of None = []
sends_of (Some t) = t.sends

-- the machine is not stuck, and the machine, the variables and the answer are those that the tick leaves
abbrev pub IsTick : Option Tick → State → List ℤ → Stepped → Type 0
IsTick None machine vars stepped = ⊥
IsTick (Some t) machine vars stepped = (machine ≡ t.machine) × (vars ≡ t.vars) × (stepped ≡ t.stepped)
