-- The handler of the tests' graph means, costs and sends what is worked out by hand.
use Rattle.std.proofs.Common.{◌≡◌, [], ◌∷◌, refl}
use Rattle.std.specs.Prelude.{pos, negsuc}
use Rattle.std.specs.Int.{int_wrap}
use Rattle.yt_graph.specs.Meaning.{handling}
use Rattle.yt_graph.specs.Cost.{greatest_cost, greatest_sends}
use Rattle.yt_handler_tests.specs.Arithmetic.{arithmetic_graph, arithmetic_port}

-- 2 for the local, 3 for the loop without turns, 15 for the message, and 1 for the end
arithmetic_handling : handling arithmetic_graph arithmetic_port (pos 7 ∷ []) [] ≡ (record { vars = []; sends = (record { out = 1; values = pos 0 ∷ pos 0 ∷ negsuc 9223372036854775807 ∷ pos 9223372036854775807 ∷ pos 0 ∷ [] }) ∷ []; ticks = 21; writes = [] })
unfolding int_wrap
arithmetic_handling = refl

-- 2, at most 23, 15 and 1
arithmetic_cost : greatest_cost arithmetic_port ≡ 41
arithmetic_cost = refl

arithmetic_sends : greatest_sends arithmetic_port 1 ≡ 1
arithmetic_sends = refl
