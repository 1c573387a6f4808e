-- The definitions compute: a few handlers, what they mean and what they cost.
use Rattle.std.proofs.Common.{◌≡◌, ℕ, List, [], ◌∷◌, refl}
use Rattle.std.specs.Prelude.{ℤ, pos, negsuc}
use Rattle.std.specs.Int.{int_wrap}
use Rattle.yt_graph.specs.declared.expr.Op2.TheVariants.{Lt, Add, Sub, Mul, Div, Rem}
use Rattle.yt_graph.specs.declared.port.Feed.TheVariants.{Input}
use Rattle.yt_graph.specs.Picture.{num, local, neg, two, call, no_exprs, more_exprs, set_local, set_var, send, if_only, if_else, repeat, BlockTree, empty, more, PortTree}
use Rattle.yt_graph.specs.Meaning.{two_value, neg_value, op_value, Handling, handling}
use Rattle.yt_graph.specs.Cost.{greatest_cost, greatest_sends}
use Rattle.yt_graph.specs.Operators.{BlockCallsOf}
use Rattle.yt_graph.specs.declared.operator.OpHead.{OpHead}

-- a handler of messages of one number, with two locals
abbrev port_of : BlockTree → PortTree
port_of body =
    record { process = 112 ∷ []; name = 97 ∷ []; feed = Input 1; group = 0; params = 1; locals = 2; outs = []; body = body }

-- what a port means in the graph of it alone, in whose process there is one variable
abbrev meant : PortTree → List ℤ → List ℤ → Handling
meant port =
    handling (record { inputs = []; outputs = []; groups = []; vars = (record { process = 112 ∷ []; name = 115 ∷ []; start = pos 0 }) ∷ []; ports = port ∷ [] }) port

-- send 1 (v + 1)
abbrev blinks : PortTree
blinks = port_of (more (send 1 (more_exprs (two Add (local 0) (num (pos 1))) no_exprs)) empty)

blinks_handling : meant blinks (pos 7 ∷ []) [] ≡ (record { vars = []; sends = (record { out = 1; values = pos 8 ∷ [] }) ∷ []; ticks = 5; writes = [] })
unfolding int_wrap
blinks_handling = refl

blinks_cost : greatest_cost blinks ≡ 5
blinks_cost = refl

blinks_sends : greatest_sends blinks 1 ≡ 1
blinks_sends = refl

-- repeat v max 4 { x = x + v }; s = x
abbrev adds : PortTree
adds =
    port_of (more (repeat (local 0) 4 (more (set_local 1 (two Add (local 1) (local 0))) empty)) (more (set_var 0 (local 1)) empty))

-- three turns of five ticks; the write is in the last tick of its statement
adds_handling : meant adds (pos 3 ∷ []) (pos 5 ∷ []) ≡ (record { vars = pos 9 ∷ []; sends = []; ticks = 20; writes = (record { offset = 18; variable = 0; value = pos 9 }) ∷ [] })
unfolding int_wrap
adds_handling = refl

-- a count past the greatest number of turns
adds_most : (meant adds (pos 9 ∷ []) (pos 5 ∷ [])).vars ≡ pos 36 ∷ []
unfolding int_wrap
adds_most = refl

-- a negative count gives no turns
adds_negative : meant adds (negsuc 2 ∷ []) (pos 5 ∷ []) ≡ (record { vars = pos 0 ∷ []; sends = []; ticks = 5; writes = (record { offset = 3; variable = 0; value = pos 0 }) ∷ [] })
unfolding int_wrap
adds_negative = refl

adds_cost : greatest_cost adds ≡ 25
adds_cost = refl

-- if v < 10 { send 1 (v) } else { send 1 (v) send 1 (0) }
abbrev splits : PortTree
splits =
    port_of (more (if_else (two Lt (local 0) (num (pos 10))) (more (send 1 (more_exprs (local 0) no_exprs)) empty) (more (send 1 (more_exprs (local 0) no_exprs)) (more (send 1 (more_exprs (num (pos 0)) no_exprs)) empty))) empty)

-- the first branch ends with one tick of its own
splits_first : meant splits (pos 9 ∷ []) [] ≡ (record { vars = []; sends = (record { out = 1; values = pos 9 ∷ [] }) ∷ []; ticks = 8; writes = [] })
splits_first = refl

splits_second : meant splits (pos 10 ∷ []) [] ≡ (record { vars = []; sends = (record { out = 1; values = pos 10 ∷ [] }) ∷ (record { out = 1; values = pos 0 ∷ [] }) ∷ []; ticks = 9; writes = [] })
splits_second = refl

splits_cost : greatest_cost splits ≡ 9
splits_cost = refl

splits_sends : greatest_sends splits 1 ≡ 2
splits_sends = refl

-- if v { send 1 () }
abbrev tests : PortTree
tests = port_of (more (if_only (local 0) (more (send 1 no_exprs) empty)) empty)

tests_taken : (meant tests (negsuc 0 ∷ []) []).ticks ≡ 4
tests_taken = refl

tests_left : (meant tests (pos 0 ∷ []) []).ticks ≡ 3
tests_left = refl

-- send 1 (v / 0, v % 0, 9223372036854775807 + 1, -9223372036854775807 - 2, n)
abbrev wraps : PortTree
wraps =
    port_of (more (send 1 (more_exprs (two Div (local 0) (num (pos 0))) (more_exprs (two Rem (local 0) (num (pos 0))) (more_exprs (two Add (num (pos 9223372036854775807)) (num (pos 1))) (more_exprs (two Sub (neg (num (pos 9223372036854775807))) (num (pos 2))) (more_exprs (local 1) no_exprs)))))) empty)

wraps_handling : meant wraps (pos 7 ∷ []) [] ≡ (record { vars = []; sends = (record { out = 1; values = pos 0 ∷ pos 0 ∷ negsuc 9223372036854775807 ∷ pos 9223372036854775807 ∷ pos 0 ∷ [] }) ∷ []; ticks = 16; writes = [] })
unfolding int_wrap
wraps_handling = refl

-- repeat 3 max 10000 { send 2 () send 1 () send 2 () }
abbrev repeats : PortTree
repeats =
    port_of (more (repeat (num (pos 3)) 10000 (more (send 2 no_exprs) (more (send 1 no_exprs) (more (send 2 no_exprs) empty)))) empty)

repeats_cost : greatest_cost repeats ≡ 40003
repeats_cost = refl

repeats_sends : greatest_sends repeats 2 ≡ 20000
repeats_sends = refl

repeats_ticks : (meant repeats (pos 0 ∷ []) []).ticks ≡ 15
repeats_ticks = refl

-- send 1 (gap(v, -3)), where the operator takes 3 ticks
abbrev calls : PortTree
calls =
    port_of (more (send 1 (more_exprs (call 3 3 3 (more_exprs (local 0) (more_exprs (neg (num (pos 3))) no_exprs))) no_exprs)) empty)

calls_handling : meant calls (pos 7 ∷ []) [] ≡ (record { vars = []; sends = (record { out = 1; values = pos 10 ∷ [] }) ∷ []; ticks = 8; writes = [] })
unfolding int_wrap
calls_handling = refl

calls_cost : greatest_cost calls ≡ 8
calls_cost = refl

-- the operators lesser, greater and gap, of which the handler calls the third
abbrev head_of : ℕ → ℕ → OpHead
head_of ticks code = record { name = []; args = 2; ticks = ticks; code = code }

abbrev three_heads : List OpHead
three_heads = head_of 2 1 ∷ head_of 2 2 ∷ head_of 3 3 ∷ []

calls_third : BlockCallsOf three_heads calls.body
calls_third = (((record { same_args = refl; same_ticks = refl; same_code = refl }, (tt, (tt, tt))), tt), tt)

-- quotients are rounded to zero, and remainders have the sign of the left side
quotient_negative : two_value Div (negsuc 6) (pos 2) ≡ negsuc 2
unfolding int_wrap
quotient_negative = refl

quotient_both_negative : two_value Div (negsuc 6) (negsuc 1) ≡ pos 3
unfolding int_wrap
quotient_both_negative = refl

remainder_negative : two_value Rem (negsuc 6) (pos 2) ≡ negsuc 0
remainder_negative = refl

remainder_right_negative : two_value Rem (pos 7) (negsuc 1) ≡ pos 1
remainder_right_negative = refl

-- the least number divided by -1, multiplied by it and negated wraps to itself
quotient_wraps : two_value Div (negsuc 9223372036854775807) (negsuc 0) ≡ negsuc 9223372036854775807
unfolding int_wrap
quotient_wraps = refl

remainder_wraps : two_value Rem (negsuc 9223372036854775807) (negsuc 0) ≡ pos 0
remainder_wraps = refl

product_wraps : two_value Mul (negsuc 9223372036854775807) (negsuc 0) ≡ negsuc 9223372036854775807
unfolding int_wrap
product_wraps = refl

negation_wraps : neg_value (negsuc 9223372036854775807) ≡ negsuc 9223372036854775807
unfolding int_wrap
negation_wraps = refl

-- the lesser, the greater, their gap, the size and the sign
lesser : op_value 1 (negsuc 3) (pos 2) ≡ negsuc 3
lesser = refl

greater : op_value 2 (negsuc 3) (pos 2) ≡ pos 2
greater = refl

gap : op_value 3 (negsuc 3) (pos 2) ≡ pos 6
unfolding int_wrap
gap = refl

size : op_value 4 (negsuc 3) (pos 0) ≡ pos 4
unfolding int_wrap
size = refl

sign : op_value 5 (negsuc 3) (pos 0) ≡ negsuc 0
sign = refl
