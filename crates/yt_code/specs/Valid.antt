-- Valid code: each place has one stack depth and one number of open loops, and every way to it keeps them.
use Rattle.std.specs.Prelude.{◌≡◌, ℕ, ◌+◌, ◌-◌, ◌<◌, ◌≤◌, List, [], ◌∷◌, slice_get, Some}
use Rattle.yt_code.specs.declared.instr.Instr.{Instr}
use Rattle.yt_code.specs.declared.instr.Instr.TheVariants.{Push, Local, Var, SetLocal, SetVar, Neg, Not, Two, Call, Send, JumpZero, Jump, Loop, Again, End}
use Rattle.yt_graph.specs.Limits.{most_locals}
use Rattle.yt_code.specs.declared.limits.TheConstants.{MOST_OPEN_LOOPS, STACK_ROOM}

-- the code of a handler: its instructions, and how many parameters, locals (parameters among them) and variables it is for
pub record Program : Type 0 where
  pub instrs : List Instr
  pub params : ℕ
  pub locals : ℕ
  pub vars : ℕ

-- how many numbers are on the stack before an instruction, and how many loops are open
pub record Shape : Type 0 where
  pub depth : ℕ
  pub open_loops : ℕ

-- the place is there and has this shape
abbrev pub Leads : List Shape → ℕ → ℕ → ℕ → Type 0
Leads shapes place depth loops = slice_get shapes place ≡ Some (record { depth = depth; open_loops = loops })

-- the instruction at place p finds what it takes where d numbers are on the stack and o loops are open, what it names is there, and each way on keeps the shapes. There are no calls yet
abbrev pub IsFine : List Shape → Program → ℕ → Instr → ℕ → ℕ → Type 0
IsFine shapes code p (Push n) d o = Leads shapes (p + 1) (d + 1) o
IsFine shapes code p (Local i) d o = (i < code.locals) × Leads shapes (p + 1) (d + 1) o
IsFine shapes code p (Var i) d o = (i < code.vars) × Leads shapes (p + 1) (d + 1) o
IsFine shapes code p (SetLocal i) d o = (0 < d) × (i < code.locals) × Leads shapes (p + 1) (d - 1) o
IsFine shapes code p (SetVar i) d o = (0 < d) × (i < code.vars) × Leads shapes (p + 1) (d - 1) o
IsFine shapes code p Neg d o = (0 < d) × Leads shapes (p + 1) d o
IsFine shapes code p Not d o = (0 < d) × Leads shapes (p + 1) d o
IsFine shapes code p (Two op) d o = (1 < d) × Leads shapes (p + 1) (d - 1) o
IsFine shapes code p (Call op args ticks value) d o = ⊥
IsFine shapes code p (Send out width) d o = (width ≤ d) × Leads shapes (p + 1) (d - width) o
IsFine shapes code p (JumpZero to) d o = (0 < d) × Leads shapes (p + 1) (d - 1) o × Leads shapes to (d - 1) o
IsFine shapes code p (Jump to) d o = Leads shapes to d o
IsFine shapes code p (Loop most to) d o = (0 < d) × Leads shapes (p + 1) (d - 1) (o + 1) × Leads shapes to (d - 1) o
IsFine shapes code p (Again to) d o = (0 < o) × Leads shapes (p + 1) d (o - 1) × Leads shapes to d o
IsFine shapes code p End d o = Unit {0}

-- each of these instructions, from place p on, has its shape, is fine there, and finds no more numbers and open loops than there is room for
abbrev pub AreFine : List Shape → Program → ℕ → List Instr → List Shape → Type 0
AreFine all code p [] [] = Unit {0}
AreFine all code p (i ∷ instrs) (s ∷ shapes) =
    (s.depth ≤ STACK_ROOM) × (s.open_loops ≤ MOST_OPEN_LOOPS) × IsFine all code p i s.depth s.open_loops × AreFine all code (p + 1) instrs shapes
AreFine all code p _ _ = ⊥

-- the first place is there, with nothing on the stack and no loop open, and there are shapes that every way keeps
pub record IsValidCode (code : Program) : Type 0 where
  pub shapes : List Shape
  pub first : Leads shapes 0 0 0
  pub fine : AreFine shapes code 0 code.instrs shapes
  pub params_are_locals : code.params ≤ code.locals
  pub few_locals : code.locals ≤ most_locals
