-- The definitions compute: one tick of each instruction.
use Rattle.std.proofs.Common.{◌≡◌, ℕ, List, [], ◌∷◌, Option, None, Some, refl}
use Rattle.std.specs.Prelude.{ℤ, pos, negsuc}
use Rattle.std.specs.Int.{int_wrap}
use Rattle.yt_graph.specs.declared.expr.Op2.TheVariants.{Sub, Rem}
use Rattle.yt_code.specs.declared.instr.Instr.{Instr}
use Rattle.yt_code.specs.declared.instr.Instr.TheVariants.{Push, Local, Var, SetLocal, SetVar, Neg, Not, Two, Call, Send, JumpZero, Jump, Loop, Again, End}
use Rattle.yt_code.specs.declared.stepped.Stepped.TheVariants.{Going, Ended}
use Rattle.yt_code.specs.Step.{State, Tick, instruction_step}

-- a machine's parts
abbrev machine : ℕ → ℕ → List ℤ → List ℤ → List ℤ → State
machine place spent stack loops locals = record { place = place; spent = spent; stack = stack; loops = loops; locals = locals }

-- a tick of the only instruction, with 5 on top of 3, two turns left in the inner of two loops, the locals 7 and 8, and the variables 1 and 2
abbrev tick : Instr → Option Tick
tick i = instruction_step (i ∷ []) (machine 0 0 (pos 5 ∷ pos 3 ∷ []) (pos 2 ∷ pos 9 ∷ []) (pos 7 ∷ pos 8 ∷ [])) (pos 1 ∷ pos 2 ∷ [])

-- what it leaves where it goes on
abbrev leaves : ℕ → List ℤ → List ℤ → List ℤ → List ℤ → Option Tick
leaves place stack loops locals vars =
    Some (record { machine = machine place 0 stack loops locals; vars = vars; sends = []; stepped = Going })

-- only the place and the stack change
abbrev stacks : List ℤ → Option Tick
stacks stack = leaves 1 stack (pos 2 ∷ pos 9 ∷ []) (pos 7 ∷ pos 8 ∷ []) (pos 1 ∷ pos 2 ∷ [])

pushes : tick (Push (negsuc 3)) ≡ stacks (negsuc 3 ∷ pos 5 ∷ pos 3 ∷ [])
pushes = refl

reads_a_local : tick (Local 1) ≡ stacks (pos 8 ∷ pos 5 ∷ pos 3 ∷ [])
reads_a_local = refl

reads_a_variable : tick (Var 1) ≡ stacks (pos 2 ∷ pos 5 ∷ pos 3 ∷ [])
reads_a_variable = refl

stores_a_local : tick (SetLocal 1) ≡ leaves 1 (pos 3 ∷ []) (pos 2 ∷ pos 9 ∷ []) (pos 7 ∷ pos 5 ∷ []) (pos 1 ∷ pos 2 ∷ [])
stores_a_local = refl

stores_a_variable : tick (SetVar 1) ≡ leaves 1 (pos 3 ∷ []) (pos 2 ∷ pos 9 ∷ []) (pos 7 ∷ pos 8 ∷ []) (pos 1 ∷ pos 5 ∷ [])
stores_a_variable = refl

changes_the_sign : tick Neg ≡ stacks (negsuc 4 ∷ pos 3 ∷ [])
unfolding int_wrap
changes_the_sign = refl

negates : tick Not ≡ stacks (pos 0 ∷ pos 3 ∷ [])
negates = refl

-- the top is the right side
subtracts : tick (Two Sub) ≡ stacks (negsuc 1 ∷ [])
unfolding int_wrap
subtracts = refl

takes_the_remainder : tick (Two Rem) ≡ stacks (pos 3 ∷ [])
takes_the_remainder = refl

sends : tick (Send 4 2) ≡ Some (record {
  machine = machine 1 0 [] (pos 2 ∷ pos 9 ∷ []) (pos 7 ∷ pos 8 ∷ []);
  vars = pos 1 ∷ pos 2 ∷ [];
  sends = (record { out = 4; values = pos 3 ∷ pos 5 ∷ [] }) ∷ [];
  stepped = Going;
})
sends = refl

-- there are only two numbers
is_stuck : tick (Send 4 3) ≡ None
is_stuck = refl

goes_on_past_a_jump : tick (JumpZero 6) ≡ stacks (pos 3 ∷ [])
goes_on_past_a_jump = refl

jumps : tick (Jump 6) ≡ leaves 6 (pos 5 ∷ pos 3 ∷ []) (pos 2 ∷ pos 9 ∷ []) (pos 7 ∷ pos 8 ∷ []) (pos 1 ∷ pos 2 ∷ [])
jumps = refl

-- at most four turns
enters : tick (Loop 4 6) ≡ leaves 1 (pos 3 ∷ []) (pos 4 ∷ pos 2 ∷ pos 9 ∷ []) (pos 7 ∷ pos 8 ∷ []) (pos 1 ∷ pos 2 ∷ [])
enters = refl

passes_over : tick (Loop 0 6) ≡ leaves 6 (pos 3 ∷ []) (pos 2 ∷ pos 9 ∷ []) (pos 7 ∷ pos 8 ∷ []) (pos 1 ∷ pos 2 ∷ [])
passes_over = refl

turns_back : tick (Again 6) ≡ leaves 6 (pos 5 ∷ pos 3 ∷ []) (pos 1 ∷ pos 9 ∷ []) (pos 7 ∷ pos 8 ∷ []) (pos 1 ∷ pos 2 ∷ [])
turns_back = refl

ends : tick End ≡ Some (record {
  machine = machine 0 0 (pos 5 ∷ pos 3 ∷ []) (pos 2 ∷ pos 9 ∷ []) (pos 7 ∷ pos 8 ∷ []);
  vars = pos 1 ∷ pos 2 ∷ [];
  sends = [];
  stepped = Ended;
})
ends = refl

-- a call of two ticks: nothing in the first, and the lesser of 3 and 5 in the second
begins_a_call : tick (Call 1 2 2 1) ≡ Some (record {
  machine = machine 0 1 (pos 5 ∷ pos 3 ∷ []) (pos 2 ∷ pos 9 ∷ []) (pos 7 ∷ pos 8 ∷ []);
  vars = pos 1 ∷ pos 2 ∷ [];
  sends = [];
  stepped = Going;
})
begins_a_call = refl

ends_a_call : instruction_step (Call 1 2 2 1 ∷ []) (machine 0 1 (pos 5 ∷ pos 3 ∷ []) [] []) [] ≡ leaves 1 (pos 3 ∷ []) [] [] []
ends_a_call = refl
