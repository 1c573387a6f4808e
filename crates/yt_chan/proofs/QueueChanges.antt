-- How a queue changes where a message is sent and where a job is closed.
use Rattle.std.proofs.Common.{◌≡◌, ℕ, zero, suc, ◌+◌, ◌-◌, ◌*◌, ◌%◌, ◌<◌, ◌≤◌, Bool, true, false, cond, eqb, ℤ, List, [], ◌∷◌, ◌++◌, length, drop, refl, sym, ◌∙◌, ap, subst, arith, append-nil, ⊎_elim, length-append, eqb-true, if◌then◌else◌}
use Rattle.std.proofs.lemmas.Bool.{cases_Bool, cond-true, cond-false}
use Rattle.std.proofs.lemmas.List.{drop-append-le}
use Rattle.std.proofs.lemmas.Nat.{mul-le}
use Rattle.yt_log.proofs.Lemmas.{next_multiple}
use Rattle.yt_chan.specs.declared.wire.Wire.{Wire}
use Rattle.yt_chan.specs.declared.queue.WireQueue.{WireQueue}
use Rattle.yt_chan.specs.Inside.Banks.{Batch, due_messages}
use Rattle.yt_chan.specs.Pending.{Pending, with_ticks}
use Rattle.yt_chan.specs.Inside.Queues.{pending_of, count, opened, sent, closed_by, stamped, emptied}
use Rattle.yt_chan.specs.Inside.Sound.{IsQueue, IsBatchOf, IsCursor}
use Rattle.yt_chan.proofs.Ticks.{with_ticks_length}
use Rattle.yt_chan.proofs.QueueReads.{waiting_length, count_closed, count_open}

-- the shapes of the definitions

abbrev pub sent_over : List ℤ → WireQueue → WireQueue
sent_over values queue = record { older = queue.newer; newer = record queue.older { messages = values ∷ [] }; closed = false; first = queue.first + length queue.older.messages }

abbrev pub sent_on : List ℤ → WireQueue → WireQueue
sent_on values queue = record queue { newer = record queue.newer { messages = queue.newer.messages ++ values ∷ [] } }

pub sent_closed : (values : List ℤ) (queue : WireQueue) → queue.closed ≡ true → sent values queue ≡ sent_over values queue
unfolding sent
sent_closed values queue h = cond-true queue.closed (sent_over values queue) (sent_on values queue) h

pub sent_open : (values : List ℤ) (queue : WireQueue) → queue.closed ≡ false → sent values queue ≡ sent_on values queue
unfolding sent
sent_open values queue h = cond-false queue.closed (sent_over values queue) (sent_on values queue) h

pub waiting_closed : (gap : ℕ) (queue : WireQueue) → queue.closed ≡ true → pending_of gap queue ≡ due_messages gap queue.older ++ due_messages gap queue.newer
unfolding pending_of
waiting_closed gap queue h = ap (λ (b : Bool). due_messages gap queue.older ++ cond b (due_messages gap queue.newer) []) h

pub waiting_open : (gap : ℕ) (queue : WireQueue) → queue.closed ≡ false → pending_of gap queue ≡ due_messages gap queue.older
unfolding pending_of
waiting_open gap queue h = ap (λ (b : Bool). due_messages gap queue.older ++ cond b (due_messages gap queue.newer) []) h ∙ append-nil (due_messages gap queue.older)

pub opened_closed : (queue : WireQueue) → queue.closed ≡ true → opened queue ≡ []
unfolding opened
opened_closed queue h = cond-true queue.closed [] queue.newer.messages h

pub opened_open : (queue : WireQueue) → queue.closed ≡ false → opened queue ≡ queue.newer.messages
unfolding opened
opened_open queue h = cond-false queue.closed [] queue.newer.messages h

-- a message is sent

pub sent_opened : (values : List ℤ) (queue : WireQueue) → opened (sent values queue) ≡ opened queue ++ values ∷ []
sent_opened values queue =
    ⊎_elim
    (λ (h : queue.closed ≡ true). ap opened (sent_closed values queue h) ∙ opened_open (sent_over values queue) refl ∙ sym (ap (λ (ms : List (List ℤ)). ms ++ values ∷ []) (opened_closed queue h)))
    (λ (h : queue.closed ≡ false). ap opened (sent_open values queue h) ∙ opened_open (sent_on values queue) h ∙ sym (ap (λ (ms : List (List ℤ)). ms ++ values ∷ []) (opened_open queue h)))
    (cases_Bool queue.closed)

drop_past : {X : Type 0} (xs ys : List X) (n : ℕ) → drop (length xs + n) (xs ++ ys) ≡ drop n ys
drop_past [] ys n = ap (λ (k : ℕ). drop k ys) (omega arith)
drop_past (x ∷ xs) ys n = let e : length (x ∷ xs) + n ≡ suc (length xs + n) = omega arith in ap (λ (k : ℕ). drop k (x ∷ (xs ++ ys))) e ∙ drop_past xs ys n

-- where a place has all of the older bank if the newer one is closed, as many wait for it as before
pub sent_waits : (values : List ℤ) (gap : ℕ) (queue : WireQueue) (next : ℕ) → IsCursor queue next → (queue.closed ≡ true → queue.first + length queue.older.messages ≤ next) →
    drop (next - (sent values queue).first) (pending_of gap (sent values queue)) ≡ drop (next - queue.first) (pending_of gap queue)
sent_waits values gap queue next at past =
    ⊎_elim
    (λ (h : queue.closed ≡ true).
    let p = past h in
    let l = with_ticks_length queue.older.number queue.older.base gap queue.older.messages in
    let e : next - queue.first ≡ length (due_messages gap queue.older) + (next - (queue.first + length queue.older.messages)) = omega arith in
    ap (λ (x : WireQueue). drop (next - x.first) (pending_of gap x)) (sent_closed values queue h)
    ∙ ap (drop (next - (queue.first + length queue.older.messages))) (waiting_open gap (sent_over values queue) refl)
    ∙ sym (ap (λ (k : ℕ). drop k (pending_of gap queue)) e
    ∙ ap (drop (length (due_messages gap queue.older) + (next - (queue.first + length queue.older.messages)))) (waiting_closed gap queue h)
    ∙ drop_past (due_messages gap queue.older) (due_messages gap queue.newer) (next - (queue.first + length queue.older.messages))))
    (λ (h : queue.closed ≡ false).
    ap (λ (x : WireQueue). drop (next - x.first) (pending_of gap x)) (sent_open values queue h)
    ∙ ap (drop (next - queue.first)) (waiting_open gap (sent_on values queue) h ∙ sym (waiting_open gap queue h)))
    (cases_Bool queue.closed)

pub sent_at : (values : List ℤ) (queue : WireQueue) (next : ℕ) → IsCursor queue next → (queue.closed ≡ true → queue.first + length queue.older.messages ≤ next) → IsCursor (sent values queue) next
sent_at values queue next at past =
    ⊎_elim
    (λ (h : queue.closed ≡ true).
    let a = count_closed queue h in let b = count_open (sent_over values queue) refl in let p = past h in let l = at.least in let m = at.most in
    subst (λ (x : WireQueue). IsCursor x next) (sym (sent_closed values queue h)) (record { least = omega arith; most = omega arith }))
    (λ (h : queue.closed ≡ false).
    let a = count_open queue h in let b = count_open (sent_on values queue) h in let l = at.least in let m = at.most in
    subst (λ (x : WireQueue). IsCursor x next) (sym (sent_open values queue h)) (record { least = omega arith; most = omega arith }))
    (cases_Bool queue.closed)

pub sent_queue : (wire : Wire) (number arrival : ℕ) (values : List ℤ) (queue : WireQueue) → 1 ≤ wire.sends → IsQueue wire number arrival queue → length (opened queue) < wire.sends →
    IsQueue wire number arrival (sent values queue)
sent_queue wire number arrival values queue some is room =
    ⊎_elim
    (λ (h : queue.closed ≡ true).
    let a = count_closed queue h in let b = count_open (sent_over values queue) refl in
    let r = is.rooms in let f = is.few in let s = is.bases in let n = is.counted in
    subst (IsQueue wire number arrival) (sym (sent_closed values queue h)) (record {
      rooms = (r.1, r.0);
      few = (f.1, omega arith);
      bases = (s.1, s.0);
      some = λ (g : false ≡ true). cc;
      counted = omega arith;
      older = λ _. is.newer h;
      newer = λ (g : false ≡ true). cc;
      apart = λ (g : false ≡ true). cc;
    }))
    (λ (h : queue.closed ≡ false).
    let a = count_open queue h in let b = count_open (sent_on values queue) h in
    let r = is.rooms in let f = is.few in let s = is.bases in let n = is.counted in
    let o = ap length (opened_open queue h) in
    let l = length-append queue.newer.messages (values ∷ []) in
    subst (IsQueue wire number arrival) (sym (sent_open values queue h)) (record {
      rooms = r;
      few = (f.0, omega arith);
      bases = s;
      some = λ (g : queue.closed ≡ true). cc;
      counted = omega arith;
      older = is.older;
      newer = λ (g : queue.closed ≡ true). cc;
      apart = λ (g : queue.closed ≡ true). cc;
    }))
    (cases_Bool queue.closed)

-- a job is closed

abbrev pub stamped_queue : ℕ → ℕ → WireQueue → WireQueue
stamped_queue number base queue = record queue { newer = stamped number base queue.newer; closed = true }

abbrev pub emptied_queue : WireQueue → WireQueue
emptied_queue queue = record queue { newer = emptied queue.newer }

abbrev closed_open : Bool → Bool → ℕ → ℕ → WireQueue → WireQueue
closed_open passes none number base queue = if passes then (if none then queue else stamped_queue number base queue) else emptied_queue queue

above : (e : ℕ) → eqb e 0 ≡ false → 1 ≤ e
above zero z = cc
above (suc e) z = omega arith

-- the four ways in which a job can leave a queue
pub closed_cases : (P : WireQueue → Type 0) (passes : Bool) (number base : ℕ) (queue : WireQueue) →
    (queue.closed ≡ true → P queue) →
    (queue.closed ≡ false → passes ≡ true → length queue.newer.messages ≡ 0 → P queue) →
    (queue.closed ≡ false → passes ≡ true → 1 ≤ length queue.newer.messages → P (stamped_queue number base queue)) →
    (queue.closed ≡ false → passes ≡ false → P (emptied_queue queue)) → P (closed_by passes number base queue)
unfolding closed_by
closed_cases P passes number base queue was none some dropped =
    let e = length queue.newer.messages in
    ⊎_elim
    (λ (h : queue.closed ≡ true). subst P (sym (cond-true queue.closed queue (closed_open passes (eqb e 0) number base queue) h)) (was h))
    (λ (h : queue.closed ≡ false). subst P (sym (cond-false queue.closed queue (closed_open passes (eqb e 0) number base queue) h))
    (⊎_elim
    (λ (p : passes ≡ true). subst P (sym (cond-true passes (cond (eqb e 0) queue (stamped_queue number base queue)) (emptied_queue queue) p))
    (⊎_elim
    (λ (z : eqb e 0 ≡ true). subst P (sym (cond-true (eqb e 0) queue (stamped_queue number base queue) z)) (none h p (eqb-true e 0 z)))
    (λ (z : eqb e 0 ≡ false). subst P (sym (cond-false (eqb e 0) queue (stamped_queue number base queue) z)) (some h p (above e z)))
    (cases_Bool (eqb e 0))))
    (λ (p : passes ≡ false). subst P (sym (cond-false passes (cond (eqb e 0) queue (stamped_queue number base queue)) (emptied_queue queue) p)) (dropped h p))
    (cases_Bool passes)))
    (cases_Bool queue.closed)

none_passed : (passes : Bool) (number base gap : ℕ) (queue : WireQueue) → opened queue ≡ [] → (if passes then with_ticks number base gap (opened queue) else []) ≡ []
none_passed true number base gap queue e = ap (with_ticks number base gap) e
none_passed false number base gap queue e = refl

empty : {X : Type 0} (xs : List X) → length xs ≡ 0 → xs ≡ []
empty [] e = refl
empty (x ∷ xs) e = absurd (omega arith)

-- what the job passes on waits behind what waited
pub closed_waiting : (passes : Bool) (number base gap : ℕ) (queue : WireQueue) →
    pending_of gap (closed_by passes number base queue) ≡ pending_of gap queue ++ (if passes then with_ticks number base gap (opened queue) else [])
closed_waiting passes number base gap queue =
    let added : List Pending = if passes then with_ticks number base gap (opened queue) else [] in
    let same : opened queue ≡ [] → pending_of gap queue ≡ pending_of gap queue ++ added = λ e. sym (ap (λ (ms : List Pending). pending_of gap queue ++ ms) (none_passed passes number base gap queue e) ∙ append-nil (pending_of gap queue)) in
    closed_cases (λ x. pending_of gap x ≡ pending_of gap queue ++ added) passes number base queue
    (λ h. same (opened_closed queue h))
    (λ h p z. same (opened_open queue h ∙ empty queue.newer.messages z))
    (λ h p some.
    waiting_closed gap (stamped_queue number base queue) refl
    ∙ ap (λ (ms : List Pending). ms ++ with_ticks number base gap queue.newer.messages) (sym (waiting_open gap queue h))
    ∙ ap (λ (ms : List Pending). pending_of gap queue ++ ms) (sym (cond-true passes (with_ticks number base gap (opened queue)) [] p ∙ ap (with_ticks number base gap) (opened_open queue h))))
    (λ h p.
    waiting_open gap (emptied_queue queue) h ∙ sym (waiting_open gap queue h)
    ∙ sym (ap (λ (ms : List Pending). pending_of gap queue ++ ms) (cond-false passes (with_ticks number base gap (opened queue)) [] p) ∙ append-nil (pending_of gap queue)))

pub closed_opened : (passes : Bool) (number base : ℕ) (queue : WireQueue) → opened (closed_by passes number base queue) ≡ []
closed_opened passes number base queue =
    closed_cases (λ x. opened x ≡ []) passes number base queue
    (λ h. opened_closed queue h)
    (λ h p z. opened_open queue h ∙ empty queue.newer.messages z)
    (λ h p some. opened_closed (stamped_queue number base queue) refl)
    (λ h p. opened_open (emptied_queue queue) h)

pub closed_first : (passes : Bool) (number base : ℕ) (queue : WireQueue) → (closed_by passes number base queue).first ≡ queue.first
closed_first passes number base queue =
    closed_cases (λ x. x.first ≡ queue.first) passes number base queue (λ h. refl) (λ h p z. refl) (λ h p some. refl) (λ h p. refl)

pub closed_count : (passes : Bool) (number base : ℕ) (queue : WireQueue) → (count queue ≤ count (closed_by passes number base queue)) × (count (closed_by passes number base queue) ≤ count queue + length queue.newer.messages)
closed_count passes number base queue =
    closed_cases (λ x. (count queue ≤ count x) × (count x ≤ count queue + length queue.newer.messages)) passes number base queue
    (λ h. (omega arith, omega arith))
    (λ h p z. (omega arith, omega arith))
    (λ h p some. let a = count_closed (stamped_queue number base queue) refl in let b = count_open queue h in (omega arith, omega arith))
    (λ h p. let a = count_open (emptied_queue queue) h in let b = count_open queue h in (omega arith, omega arith))

pub closed_waits : (passes : Bool) (number base gap : ℕ) (queue : WireQueue) (next : ℕ) → IsCursor queue next →
    drop (next - (closed_by passes number base queue).first) (pending_of gap (closed_by passes number base queue))
    ≡ drop (next - queue.first) (pending_of gap queue) ++ (if passes then with_ticks number base gap (opened queue) else [])
closed_waits passes number base gap queue next at =
    let added : List Pending = if passes then with_ticks number base gap (opened queue) else [] in
    let l = waiting_length gap queue in
    let a = at.least in let b = at.most in
    ap (λ (k : ℕ). drop (next - k) (pending_of gap (closed_by passes number base queue))) (closed_first passes number base queue)
    ∙ ap (drop (next - queue.first)) (closed_waiting passes number base gap queue)
    ∙ drop-append-le (next - queue.first) (pending_of gap queue) added (omega arith)

pub closed_is_at : (passes : Bool) (number base : ℕ) (queue : WireQueue) (next : ℕ) → IsCursor queue next → IsCursor (closed_by passes number base queue) next
closed_is_at passes number base queue next at =
    let f = closed_first passes number base queue in let c = closed_count passes number base queue in let a = at.least in let b = at.most in
    record { least = omega arith; most = omega arith }

-- what was passed on in time for a job was so for the next one
paced_on : (wire : Wire) (number arrival later : ℕ) (batch : Batch) → arrival + wire.period ≤ later → IsBatchOf wire number arrival batch → IsBatchOf wire (number + 1) later batch
paced_on wire number arrival later batch apart is =
    let p = is.past in let e = is.early in
    let d : (number + 1) - batch.number ≡ suc (number - batch.number) = omega arith in
    let m : ((number + 1) - batch.number) * wire.period ≡ (number - batch.number) * wire.period + wire.period = rw d (grind arith) in
    record { passes = is.passes; past = omega arith; early = omega arith }

older_counts : (queue : WireQueue) → 1 ≤ length queue.older.messages → 1 ≤ count queue
unfolding count
older_counts queue some = omega arith

-- the queue of the wire of a port whose next job is closed
pub closed_queue : (wire : Wire) (number arrival later : ℕ) (queue : WireQueue) (passes : Bool) → passes ≡ eqb ((number + 1) % wire.every) 0 → wire.sends ≤ 64 → later + wire.period ≤ 9000000 →
    (0 < number → arrival + wire.period ≤ later) → IsQueue wire number arrival queue → IsQueue wire (number + 1) later (closed_by passes (number + 1) (later + wire.period) queue)
closed_queue wire number arrival later queue passes pass sends near apart is =
    let r = is.rooms in let f = is.few in let s = is.bases in let n = is.counted in
    let was : 1 ≤ count queue → arrival + wire.period ≤ later = λ some. apart (omega arith) in
    let old : 1 ≤ length queue.older.messages → 1 ≤ count queue = λ some. older_counts queue some in
    let older : 1 ≤ length queue.older.messages → IsBatchOf wire (number + 1) later queue.older = λ some. paced_on wire number arrival later queue.older (was (old some)) (is.older some) in
    let newer : queue.closed ≡ true → IsBatchOf wire (number + 1) later queue.newer = λ h. let c = count_closed queue h in let o = is.some h in paced_on wire number arrival later queue.newer (was (omega arith)) (is.newer h) in
    closed_cases (λ x. IsQueue wire (number + 1) later x) passes (number + 1) (later + wire.period) queue
    (λ h. record { rooms = r; few = f; bases = s; some = is.some; counted = omega arith; older = older; newer = newer; apart = is.apart })
    (λ h p z. record { rooms = r; few = f; bases = s; some = is.some; counted = omega arith; older = older; newer = newer; apart = is.apart })
    (λ h p some.
    let a = count_closed (stamped_queue (number + 1) (later + wire.period) queue) refl in let b = count_open queue h in
    let m : (number + 1) % wire.every ≡ 0 = eqb-true ((number + 1) % wire.every) 0 (sym pass ∙ p) in
    record {
      rooms = r;
      few = f;
      bases = (s.0, near);
      some = λ _. some;
      counted = omega arith;
      older = older;
      newer = λ _. record { passes = m; past = omega arith; early = let d : (number + 1) - (number + 1) ≡ 0 = omega arith in rw d (omega arith) };
      apart = λ _ o.
          let x = older o in let y = is.older o in let g = y.past in let e = x.early in
          let k : queue.older.number + wire.every ≤ number + 1 = next_multiple wire.every queue.older.number (number + 1) x.passes m (omega arith) in
          let l : wire.every * wire.period ≤ ((number + 1) - queue.older.number) * wire.period = mul-le wire.every wire.period ((number + 1) - queue.older.number) wire.period (omega arith) (omega arith) in
          (omega arith, omega arith);
    })
    (λ h p.
    let a = count_open (emptied_queue queue) h in let b = count_open queue h in
    record {
      rooms = r;
      few = (f.0, omega arith);
      bases = s;
      some = λ (g : queue.closed ≡ true). cc;
      counted = omega arith;
      older = older;
      newer = λ (g : queue.closed ≡ true). cc;
      apart = λ (g : queue.closed ≡ true). cc;
    })
