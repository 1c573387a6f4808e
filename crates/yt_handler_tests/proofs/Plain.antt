-- Graphs of plain handlers are well formed, and what the tests ask of their codes.
use Rattle.std.proofs.Common.{◌≡◌, ℕ, ◌+◌, ◌≤◌, List, [], ◌∷◌, length, refl, ap, ◌∙◌, subst, arith}
use Rattle.std.specs.Prelude.{Bool, false, ◌||◌, codes}
use Rattle.yt_graph.specs.Picture.{local, repeat, BlockTree, empty, more, GraphTree}
use Rattle.yt_graph.specs.WellFormed.{block_uses_var}
use Rattle.yt_code.specs.Valid.{Program}
use Rattle.yt_cost.specs.CodeFit.{block_calls}
use Rattle.yt_cost.specs.Codes.{PortCode, ForCode, AreCodesOf}
use Rattle.yt_handler_tests.specs.Graphs.{port_of, graph_of_two, IsPlain}

or_nothing : (b : Bool) → b ≡ false → (b || false) ≡ false
or_nothing b e = ap (λ x. x || false) e

-- a loop around a plain block that calls no operator is one too
pub plain_loop : (depth most : ℕ) (b : BlockTree) → IsPlain 0 depth b → block_calls b ≡ false → 1 ≤ most → most ≤ 10000 → IsPlain 0 (depth + 1) (more (repeat (local 0) most b) empty) × (block_calls (more (repeat (local 0) most b) empty) ≡ false)
plain_loop depth most b h no_calls low high = (
  record {
    low = omega (arith, h.low);
    fine = λ ports name whole. (((omega arith, omega arith), (low, high), h.fine ports name whole), tt);
    uses = or_nothing (block_uses_var b) h.uses;
  },
  or_nothing (block_calls b) no_calls,
)

pub plain_deeper : (vars m n : ℕ) (b : BlockTree) → m ≤ n → IsPlain vars m b → IsPlain vars n b
plain_deeper vars m n b le h =
    record { low = omega (arith, h.low); fine = h.fine; uses = h.uses }

-- the first port's code takes messages of one number, and uses no variables
pub first_code : (g : GraphTree) (first second : BlockTree) (kept : List PortCode) (code : Program) → g ≡ graph_of_two first second → AreCodesOf g kept → ForCode kept 1 (λ k. code ≡ k.code) → (code.params ≡ 1) × (code.vars ≡ 0)
first_code g first second kept code e h is =
    let codes_of = subst (λ g. AreCodesOf g kept) e h in
    go kept codes_of is
  where
    go : (kept : List PortCode) → AreCodesOf (graph_of_two first second) kept → ForCode kept 1 (λ k. code ≡ k.code) → (code.params ≡ 1) × (code.vars ≡ 0)
    go [] h is = absurd (omega (arith, h.count))
    go (k ∷ rest) h is =
        let one = h.each 1 (port_of 0 (codes "a") first) refl k refl in
        (ap (λ c. c.params) (is k refl) ∙ one.params, ap (λ c. c.vars) (is k refl) ∙ one.vars)

-- the first port's second out is there
pub second_out : (g : GraphTree) (first second : BlockTree) (kept : List PortCode) → g ≡ graph_of_two first second → AreCodesOf g kept → ForCode kept 1 (λ k. 2 ≤ length k.sends)
second_out g first second kept e h k is =
    let codes_of = subst (λ g. AreCodesOf g kept) e h in
    let one = codes_of.each 1 (port_of 0 (codes "a") first) refl k is in
    omega (arith, one.sends.count)
