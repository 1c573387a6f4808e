-- The messages of a queue that wait, one by one.
use Rattle.std.proofs.Common.{◌≡◌, ℕ, suc, ◌+◌, ◌-◌, ◌*◌, ◌<◌, ◌≤◌, Bool, true, false, cond, ltb, List, [], ◌∷◌, length, drop, get_or, refl, sym, ◌∙◌, ap, arith, ⊎_elim, length-append, lt-ltb, drop-cons}
use Rattle.std.proofs.lemmas.Bool.{cases_lt, cases_Bool, cond-true, cond-false, le-ltb}
use Rattle.std.proofs.lemmas.List.{get_or_append_left, get_or-append_right, drop_all}
use Rattle.yt_chan.specs.declared.queue.WireQueue.{WireQueue}
use Rattle.std.proofs.lemmas.Nat.{mul-le}
use Rattle.yt_chan.specs.declared.wire.Wire.{Wire}
use Rattle.yt_chan.specs.Inside.Banks.{due_messages}
use Rattle.yt_chan.specs.Inside.Sound.{IsQueue}
use Rattle.yt_chan.specs.Wires.{IsWire}
use Rattle.yt_chan.specs.Pending.{Pending}
use Rattle.yt_chan.specs.Inside.Queues.{pending_of, count, message_at, time_at}
use Rattle.yt_chan.proofs.Ticks.{with_ticks_length, with_ticks_at}

-- the number of the job that sent the message at a place
abbrev pub number_at : WireQueue → ℕ → ℕ
number_at queue n = cond (ltb n (length queue.older.messages)) queue.older.number queue.newer.number

tail_length : (gap : ℕ) (queue : WireQueue) (closed : Bool) → length (cond closed (due_messages gap queue.newer) []) ≡ cond closed (length queue.newer.messages) 0
tail_length gap queue true = with_ticks_length queue.newer.number queue.newer.base gap queue.newer.messages
tail_length gap queue false = refl

pub waiting_length : (gap : ℕ) (queue : WireQueue) → length (pending_of gap queue) ≡ count queue
unfolding pending_of count
waiting_length gap queue =
    let a = length-append (due_messages gap queue.older) (cond queue.closed (due_messages gap queue.newer) []) in
    let b = with_ticks_length queue.older.number queue.older.base gap queue.older.messages in
    let e = tail_length gap queue queue.closed in
    cc

tail_at : (gap : ℕ) (queue : WireQueue) (closed : Bool) (n : ℕ) (d : Pending) → n < cond closed (length queue.newer.messages) 0 →
    get_or (cond closed (due_messages gap queue.newer) []) n d ≡ record { time = queue.newer.base + n * gap; number = queue.newer.number; values = get_or queue.newer.messages n [] }
tail_at gap queue true n d lt = with_ticks_at queue.newer.number queue.newer.base gap queue.newer.messages n d lt
tail_at gap queue false n d lt = absurd (omega arith)

item_of : Bool → ℕ → WireQueue → ℕ → Pending
item_of old gap queue n = record {
  time = cond old (queue.older.base + n * gap) (queue.newer.base + (n - length queue.older.messages) * gap);
  number = cond old queue.older.number queue.newer.number;
  values = cond old (get_or queue.older.messages n []) (get_or queue.newer.messages (n - length queue.older.messages) []);
}

-- the message at a place
pub waiting_at : (gap : ℕ) (queue : WireQueue) (n : ℕ) (d : Pending) → n < count queue → get_or (pending_of gap queue) n d ≡ record { time = time_at gap queue n; number = number_at queue n; values = message_at queue n }
unfolding pending_of count time_at message_at item_of
waiting_at gap queue n d lt =
    let o = length queue.older.messages in
    let l = with_ticks_length queue.older.number queue.older.base gap queue.older.messages in
    ⊎_elim
    (λ (h : n < o).
    get_or_append_left (due_messages gap queue.older) (cond queue.closed (due_messages gap queue.newer) []) d n (omega arith)
    ∙ with_ticks_at queue.older.number queue.older.base gap queue.older.messages n d h
    ∙ sym (ap (λ (b : Bool). item_of b gap queue n) (lt-ltb n o h)))
    (λ (h : o ≤ n).
    get_or-append_right (due_messages gap queue.older) (cond queue.closed (due_messages gap queue.newer) []) o n d l h
    ∙ tail_at gap queue queue.closed (n - o) d (omega arith)
    ∙ sym (ap (λ (b : Bool). item_of b gap queue n) (le-ltb n o h)))
    (cases_lt n o)

pub time_old : (gap : ℕ) (queue : WireQueue) (n : ℕ) → n < length queue.older.messages → time_at gap queue n ≡ queue.older.base + n * gap
unfolding time_at
time_old gap queue n h = cond-true _ _ _ (lt-ltb n (length queue.older.messages) h)

pub time_new : (gap : ℕ) (queue : WireQueue) (n : ℕ) → length queue.older.messages ≤ n → time_at gap queue n ≡ queue.newer.base + (n - length queue.older.messages) * gap
unfolding time_at
time_new gap queue n h = cond-false _ _ _ (le-ltb n (length queue.older.messages) h)

-- the first of the messages from a place on
pub waiting_from : (gap : ℕ) (queue : WireQueue) (n : ℕ) → n < count queue →
    drop n (pending_of gap queue) ≡ (record { time = time_at gap queue n; number = number_at queue n; values = message_at queue n }) ∷ drop (suc n) (pending_of gap queue)
waiting_from gap queue n lt =
    let d : Pending = record { time = 0; number = 0; values = [] } in
    let l = waiting_length gap queue in
    drop-cons (pending_of gap queue) n d (omega arith) ∙ ap (λ (m : Pending). m ∷ drop (suc n) (pending_of gap queue)) (waiting_at gap queue n d lt)

pub none_from : (gap : ℕ) (queue : WireQueue) (n : ℕ) → count queue ≤ n → drop n (pending_of gap queue) ≡ []
none_from gap queue n le = let l = waiting_length gap queue in drop_all n (pending_of gap queue) (omega arith)

-- a queue that holds more than its older bank is closed
pub closed_past : (queue : WireQueue) (n : ℕ) → length queue.older.messages ≤ n → n < count queue → queue.closed ≡ true
unfolding count
closed_past queue n le lt = ⊎_elim (λ (h : queue.closed ≡ true). h) (λ (h : queue.closed ≡ false). let e = cond-false queue.closed (length queue.newer.messages) 0 h in absurd (omega arith)) (cases_Bool queue.closed)

pub count_closed : (queue : WireQueue) → queue.closed ≡ true → count queue ≡ length queue.older.messages + length queue.newer.messages
unfolding count
count_closed queue h = let e = cond-true queue.closed (length queue.newer.messages) 0 h in omega arith

pub count_open : (queue : WireQueue) → queue.closed ≡ false → count queue ≡ length queue.older.messages
unfolding count
count_open queue h = let e = cond-false queue.closed (length queue.newer.messages) 0 h in omega arith

-- what a wire's gap shows: the messages of a job come within `every` periods
pub spreads : (widths : List ℕ) (wire : Wire) → IsWire widths wire → wire.sends * wire.gap ≤ wire.every * wire.period
spreads widths wire w = let s = w.sends in let g = w.gap in rw g.1 (omega arith)

-- ticks rise along a queue
pub times_rise : (wire : Wire) (number arrival : ℕ) (queue : WireQueue) → wire.sends * wire.gap ≤ wire.every * wire.period → IsQueue wire number arrival queue →
    (i j : ℕ) → i ≤ j → j < count queue → time_at wire.gap queue i ≤ time_at wire.gap queue j
times_rise wire number arrival queue spread is i j le lt =
    let o = length queue.older.messages in
    ⊎_elim
    (λ (h : j < o).
    let a = time_old wire.gap queue i (omega arith) in
    let b = time_old wire.gap queue j h in
    let m : i * wire.gap ≤ j * wire.gap = mul-le i wire.gap j wire.gap le (omega arith) in
    omega arith)
    (λ (h : o ≤ j).
    let b = time_new wire.gap queue j h in
    ⊎_elim
    (λ (k : i < o).
    let a = time_old wire.gap queue i k in
    let f = is.few in
    let p = is.apart (closed_past queue j h lt) (omega arith) in
    let m : i * wire.gap ≤ wire.sends * wire.gap = mul-le i wire.gap wire.sends wire.gap (omega arith) (omega arith) in
    omega arith)
    (λ (k : o ≤ i).
    let a = time_new wire.gap queue i k in
    let m : (i - o) * wire.gap ≤ (j - o) * wire.gap = mul-le (i - o) wire.gap (j - o) wire.gap (omega arith) (omega arith) in
    omega arith)
    (cases_lt i o))
    (cases_lt j o)

pub count_most : (queue : WireQueue) → count queue ≤ length queue.older.messages + length queue.newer.messages
count_most queue = ⊎_elim (λ (h : queue.closed ≡ true). let e = count_closed queue h in omega arith) (λ (h : queue.closed ≡ false). let e = count_open queue h in omega arith) (cases_Bool queue.closed)

pub older_counted : (queue : WireQueue) → queue.first + length queue.older.messages ≤ queue.first + count queue
unfolding count
older_counted queue = omega arith
