-- How long the texts are at most.
use Rattle.std.proofs.Common.{ℕ, zero, suc, ◌≡◌, ◌+◌, ◌*◌, ◌%◌, ◌^◌, ◌<◌, ◌≤◌, List, length, sym, subst, arith, length-append}
use Rattle.std.specs.Prelude.{All}
use Rattle.std.specs.Fmt.{decimal}
use Rattle.std.specs.List.{flat_map, range_with_len, sum_by}
use Rattle.std.proofs.Math.Nat.{mul-le-mul_left}
use Rattle.std.proofs.lemmas.Fmt.{length-decimal-le}
use Rattle.std.proofs.lemmas.Grind.{common_steps}
use Rattle.std.proofs.lemmas.List.Concat.{length-flat_map}
use Rattle.std.proofs.lemmas.List.Elements.{All-append, All-cons, All-map, All-nil, All-weaker}
use Rattle.std.proofs.lemmas.List.FromFn.{length-map-range_with_len, length-range_with_len}
use Rattle.std.proofs.lemmas.List.Sorted.{sum_by-IsPermutation}
use Rattle.std.proofs.lemmas.List.Sums.{sum_by-le}
use Rattle.yt_base.specs.Limits.{most_text_bytes}
use Rattle.yt_order.proofs.Lemmas.{sorting_sorts, two_numbers_compare}
use Rattle.yt_gen.specs.GraphText.{ends_text, graph_text, pool_text, process_text}
use Rattle.yt_gen.specs.Pipelines.{period_of, pipelines}
use Rattle.yt_gen.specs.TraceText.{line_of, message_before, message_of, messages, messages_of, trace_text}
use Rattle.yt_gen.specs.declared.limits.TheConstants.{MESSAGES, MOST_PIPELINES}
use Rattle.yt_gen.specs.declared.message.Message.{Message}
use Rattle.yt_gen.proofs.GraphLines.{ends_pieces, process_pieces}

-- numbers from a on stay below a bound
all_below : (m a n : ℕ) → a + n ≤ m → All (λ k. k < m) (range_with_len a n)
all_below m a zero le = All-nil (λ k. k < m)
all_below m a (suc n) le = All-cons (λ k. k < m) a (range_with_len (a + 1) n) (omega arith) (all_below m (a + 1) n (omega arith))

-- pieces of at most m bytes
pieces_short : {X : Type 0} (f : X → List ℕ) (m : ℕ) (xs : List X) → All (λ x. length (f x) ≤ m) xs → length (flat_map f xs) ≤ length xs * m
pieces_short f m xs all = subst (λ n. n ≤ length xs * m) (sym (length-flat_map f xs)) (sum_by-le (λ x. length (f x)) m xs all)

-- a number of two digits
two_digits : (i : ℕ) → i < 17 → length (decimal i) ≤ 2
two_digits i lt = length-decimal-le 2 i (omega arith) (omega arith) (omega arith)

period_below : (r : ℕ) → r < 3 → 2000 * 2 ^ r ≤ 8000
period_below zero lt = omega arith
period_below (suc zero) lt = omega arith
period_below (suc (suc zero)) lt = omega arith
period_below (suc (suc (suc r))) lt = absurd (omega arith)

period_short : (i : ℕ) → length (decimal (period_of i)) ≤ 4
period_short i =
    let below : 2000 * 2 ^ (i % 3) ≤ 8000 = period_below (i % 3) (omega arith) in
    length-decimal-le 4 (period_of i) (omega arith) (omega arith) (omega arith)

pool_short : (i : ℕ) → length (pool_text i) ≤ 8
pool_short i = grind (arith, common_steps)

ends_short : (i : ℕ) → i < 17 → length (ends_text i) ≤ 100
ends_short i lt =
    let number : length (decimal i) ≤ 2 = two_digits i lt in
    let period : length (decimal (period_of i)) ≤ 4 = period_short i in
    rw ends_pieces (simp length-append (omega (arith, number, period)))

process_short : (i : ℕ) → i < 17 → length (process_text i) ≤ 400
process_short i lt =
    let number : length (decimal i) ≤ 2 = two_digits i lt in
    let pool : length (pool_text i) ≤ 8 = pool_short i in
    rw process_pieces (simp length-append (omega (arith, number, pool)))

pub graph_short : (count : ℕ) → count ≤ MOST_PIPELINES → length (graph_text count) ≤ most_text_bytes
graph_short count le =
    let all : All (λ k. k < 17) (pipelines count) = all_below 17 1 count (omega arith) in
    let some : length (pipelines count) ≡ count = length-range_with_len 1 count in
    let ends : length (flat_map ends_text (pipelines count)) ≤ length (pipelines count) * 100 =
    pieces_short ends_text 100 (pipelines count) (All-weaker (λ k. k < 17) (λ i. length (ends_text i) ≤ 100) ends_short (pipelines count) all) in
    let processes : length (flat_map process_text (pipelines count)) ≤ length (pipelines count) * 400 =
    pieces_short process_text 400 (pipelines count) (All-weaker (λ k. k < 17) (λ i. length (process_text i) ≤ 400) process_short (pipelines count) all) in
    omega (arith, length-append (flat_map ends_text (pipelines count)) (flat_map process_text (pipelines count)))

-- a message whose line has at most 32 bytes
abbrev IsSmall : Message → Type 0
IsSmall m = length (line_of m) ≤ 32

small : (i n : ℕ) → i < 17 → n < 400 → IsSmall (message_of i n)
small i n a b =
    let period : 2000 * 2 ^ (i % 3) ≤ 8000 = period_below (i % 3) (omega arith) in
    let steps : n * (period_of i + i % 5) ≤ n * 8004 = mul-le-mul_left n (omega arith) in
    let time : length (decimal (13 * i + n * (period_of i + i % 5))) ≤ 7 = length-decimal-le 7 (13 * i + n * (period_of i + i % 5)) (omega arith) (omega arith) (omega arith) in
    let input : length (decimal i) ≤ 2 = two_digits i a in
    let value : length (decimal ((31 * i + 17 * n) % 1000)) ≤ 3 = length-decimal-le 3 ((31 * i + 17 * n) % 1000) (omega arith) (omega arith) (omega arith) in
    simp length-append (omega (arith, time, input, value))

all_of_input : (i : ℕ) → i < 17 → All IsSmall (messages_of i)
unfolding messages_of
all_of_input i lt =
    All-map IsSmall (message_of i) (range_with_len 0 MESSAGES)
    (All-weaker (λ k. k < 400) (λ n. IsSmall (message_of i n)) (λ n below. small i n lt below) (range_with_len 0 MESSAGES) (all_below 400 0 MESSAGES (omega arith)))

all_of_inputs : (a n : ℕ) → a + n ≤ 17 → All IsSmall (flat_map messages_of (range_with_len a n))
all_of_inputs a zero le = All-nil IsSmall
all_of_inputs a (suc n) le =
    All-append IsSmall (messages_of a) (flat_map messages_of (range_with_len (a + 1) n)) (all_of_input a (omega arith)) (all_of_inputs (a + 1) n (omega arith))

messages_few : (i : ℕ) → length (messages_of i) ≤ 400
unfolding messages_of
messages_few i = let some = length-map-range_with_len (message_of i) 0 MESSAGES in omega arith

count_of : (a n : ℕ) → length (flat_map messages_of (range_with_len a n)) ≤ n * 400
count_of a zero = omega arith
count_of a (suc n) =
    let first = messages_few a in
    let more = count_of (a + 1) n in
    let both = length-append (messages_of a) (flat_map messages_of (range_with_len (a + 1) n)) in
    omega arith

pub trace_short : (count : ℕ) → count ≤ MOST_PIPELINES → length (trace_text count) ≤ most_text_bytes
trace_short count le =
    let all : List Message = flat_map messages_of (pipelines count) in
    let bytes : Message → ℕ = λ m. length (line_of m) in
    let sorts = sorting_sorts Message message_before all (two_numbers_compare Message (λ m. m.time) (λ m. m.input)) in
    let whole : length (trace_text count) ≡ sum_by bytes (messages count) = length-flat_map line_of (messages count) in
    let same : sum_by bytes (messages count) ≡ sum_by bytes all = sum_by-IsPermutation bytes all (messages count) sorts.same in
    let short : sum_by bytes all ≤ length all * 32 = sum_by-le bytes 32 all (all_of_inputs 1 count (omega arith)) in
    let few : length all ≤ count * 400 = count_of 1 count in
    omega arith
