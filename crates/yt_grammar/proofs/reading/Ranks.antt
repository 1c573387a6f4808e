-- Operators: their ranks, those of their sides, and how they are written.
use Rattle.std.proofs.Common.{◌≡◌, ℕ, suc, ◌≤◌, Some, refl, arith, ◌≢◌, eqb, false, inl, inr}
use Rattle.std.proofs.lemmas.Bool.Decides.{eqb_tells}
use Rattle.std.specs.Prelude.{nat_eq, if◌then◌else◌}
use Rattle.yt_graph.specs.declared.expr.Op2.{Op2}
use Rattle.yt_graph.specs.declared.expr.Op2.TheVariants.{Or}
use Rattle.yt_grammar.specs.Grammar.{op_rank, left_rank, right_rank, op_lexeme}
use Rattle.yt_grammar.specs.Inside.Reading.{op_in}

-- the right side is of the next tighter rank
pub op_right : (op : Op2) → suc (right_rank op) ≡ op_rank op
op_right Or = refl
op_right _ = refl

-- so is a comparison's left side; another operator's is of its own rank
pub op_left : (op : Op2) → left_rank op ≡ (if nat_eq (op_rank op) 4 then 3 else op_rank op)
op_left Or = refl
op_left _ = refl

-- no operator's left side binds more loosely than the operator
pub left_tighter : (op : Op2) → left_rank op ≤ op_rank op
left_tighter Or = omega arith
left_tighter _ = omega arith

-- no operator is of rank 0, 1 or 5
pub op_ranked : (op : Op2) → (2 ≤ op_rank op) × (op_rank op ≤ 7) × (op_rank op ≡ 5 → ⊥)
op_ranked Or = (omega arith, omega arith, λ e. omega arith)
op_ranked _ = (omega arith, omega arith, λ e. omega arith)

-- what an operator is written as is read as that operator
pub op_in-lexeme : (op : Op2) → op_in (op_lexeme op) ≡ Some op
op_in-lexeme Or = refl
op_in-lexeme _ = refl

-- numbers that differ aren't the same by the test
pub not_eqb : (a b : ℕ) → a ≢ b → eqb a b ≡ false
not_eqb a b differs = elim (eqb_tells a b) [ inl same ↦ absurd (differs same.1) | inr other ↦ other.0 ]
