-- What a step of serial handling leaves at each port.
use Rattle.std.proofs.Common.{◌≡◌, ℕ, zero, suc, ◌+◌, ◌%◌, ◌<◌, ◌≤◌, ◌⊎◌, true, false, eqb, List, [], ◌∷◌, ◌++◌, length, slice_get, get_or, Option, None, Some, refl, sym, ap, subst, ◌∙◌, inl, inr, ⊎_elim, arith, eqb-true}
use Rattle.std.specs.Option.{unwrap_or}
use Rattle.std.proofs.lemmas.Bool.{cases_Bool, cases_lt, cond-true, cond-false}
use Rattle.std.proofs.lemmas.Option.{none-some, slice_get_past, slice_get-get_or}
use Rattle.yt_graph.specs.declared.handled.SendItem.{SendItem}
use Rattle.yt_graph.specs.declared.port.Feed as feed
use Rattle.yt_graph.specs.declared.port.Feed.{Feed}
use Rattle.yt_graph.specs.declared.port.Feed.TheVariants.{Input, Out}
use Rattle.yt_graph.specs.Picture.{GraphTree, PortTree}
use Rattle.yt_log.specs.declared.job.Job.{Job}
use Rattle.yt_rates.specs.Rates.{every_of, period_of, gap_of}
use Rattle.yt_serial.specs.PortMessages.{spaced, passed}
use Rattle.yt_trace.specs.Traces.{PortMessage}
use Rattle.yt_list.specs.Numbered.{numbered}
use Rattle.yt_serial.specs.SerialHandling.{Serial, messages_at, brought, placed, handled_of, message_of}
use Rattle.yt_graph.specs.Labels.{no_port}

-- what a port has, and behind it what its feed brings
pub placed_at : (brings : Feed → List PortMessage) (ports : List PortTree) (messages : List (List PortMessage)) (k : ℕ) (p : PortTree)
    → length messages ≡ length ports → slice_get ports k ≡ Some p
    → unwrap_or (slice_get (placed brings ports messages) k) [] ≡ unwrap_or (slice_get messages k) [] ++ brings p.feed
placed_at brings [] messages k p long there = absurd (none-some p there)
placed_at brings (q ∷ ports) [] k p long there = absurd (omega arith)
placed_at brings (q ∷ ports) (before ∷ messages) zero p long there = ap (λ (o : Option PortTree). before ++ brings (unwrap_or o no_port).feed) there
placed_at brings (q ∷ ports) (before ∷ messages) (suc k) p long there = placed_at brings ports messages k p (omega arith) there

pub placed-length : (brings : Feed → List PortMessage) (ports : List PortTree) (messages : List (List PortMessage))
    → length messages ≡ length ports → length (placed brings ports messages) ≡ length ports
placed-length brings [] messages long = refl
placed-length brings (q ∷ ports) [] long = absurd (omega arith)
placed-length brings (q ∷ ports) (before ∷ messages) long = ap suc (placed-length brings ports messages (omega arith))

-- a message is at a port of the graph
pub port_there : (ports : List PortTree) (messages : List (List PortMessage)) (port n : ℕ) (m : PortMessage) → length messages ≡ length ports
    → numbered (unwrap_or (numbered messages port) []) n ≡ Some m → (q : PortTree) × (numbered ports port ≡ Some q)
port_there ports messages zero zero m long h = absurd (none-some m h)
port_there ports messages zero (suc n) m long h = absurd (none-some m h)
port_there ports messages (suc k) n m long h =
    ⊎_elim
    (λ (l : k < length ports). (get_or ports k no_port, slice_get-get_or ports k no_port l))
    (λ (l : length ports ≤ k).
    let e : unwrap_or (slice_get messages k) [] ≡ [] = ap (λ (o : Option (List PortMessage)). unwrap_or o []) (slice_get_past messages k (omega arith)) in
    absurd (nothing n (subst (λ (ms : List PortMessage). numbered ms n ≡ Some m) e h)))
    (cases_lt k (length ports))
  where
    nothing : (n : ℕ) → numbered {A = PortMessage} [] n ≡ Some m → ⊥
    nothing zero h = none-some m h
    nothing (suc n) h = none-some m h

-- a feed is an input, or an out of a port
pub feed_cases : (f : Feed) → ((input : ℕ) × (f ≡ Input input)) ⊎ ((source out : ℕ) × (f ≡ Out source out))
feed_cases (feed.TheVariants.Input input) = inl (input, refl)
feed_cases (feed.TheVariants.Out source out) = inr (source, out, refl)

-- a feed brings what an out of the job's port passes on
pub record BringsOf (g : GraphTree) (q : PortTree) (task number arrival : ℕ) (sends : List SendItem) (f : Feed) (new : List PortMessage) : Type 0 where
  pub out : ℕ
  pub fed : f ≡ Out task out
  pub multiple : number % every_of q out ≡ 0
  pub spaced : new ≡ spaced out (arrival + period_of g q) (gap_of g q out) sends

-- what a feed brings of one job: nothing, or what an out of its port passes on
pub brings : (g : GraphTree) (q : PortTree) (task number arrival : ℕ) (sends : List SendItem) (f : Feed)
    → (brought task (passed g q number arrival sends) f ≡ []) ⊎ BringsOf g q task number arrival sends f (brought task (passed g q number arrival sends) f)
brings g q task number arrival sends (feed.TheVariants.Input input) = inl refl
brings g q task number arrival sends (feed.TheVariants.Out source out) =
    ⊎_elim
    (λ (e : eqb source task ≡ true).
    let same : brought task (passed g q number arrival sends) (Out source out) ≡ passed g q number arrival sends out = cond-true (eqb source task) (passed g q number arrival sends out) [] e in
    ⊎_elim
    (λ (m : eqb (number % every_of q out) 0 ≡ true). inr (record {
      out = out;
      fed = ap (λ (s : ℕ). Out s out) (eqb-true source task e);
      multiple = eqb-true (number % every_of q out) 0 m;
      spaced = same ∙ cond-true (eqb (number % every_of q out) 0) (spaced out (arrival + period_of g q) (gap_of g q out) sends) [] m;
    }))
    (λ (m : eqb (number % every_of q out) 0 ≡ false).
    inl (same ∙ cond-false (eqb (number % every_of q out) 0) (spaced out (arrival + period_of g q) (gap_of g q out) sends) [] m))
    (cases_Bool (eqb (number % every_of q out) 0)))
    (λ (e : eqb source task ≡ false). inl (cond-false (eqb source task) (passed g q number arrival sends out) [] e))
    (cases_Bool (eqb source task))

-- the message of a job is its port's next one
pub message_there : (job : Job) (s : Serial) (m : PortMessage) → message_of job s ≡ Some m
    → (job.number ≡ suc (handled_of s job.task)) × (numbered (messages_at s job.task) job.number ≡ Some m)
message_there job s m h =
    let there = numbered (messages_at s job.task) job.number in
    let test = eqb job.number (suc (handled_of s job.task)) in
    ⊎_elim
    (λ (e : test ≡ true). (eqb-true job.number (suc (handled_of s job.task)) e, sym (cond-true test there None e) ∙ h))
    (λ (e : test ≡ false). absurd (none-some m (sym (cond-false test there None e) ∙ h)))
    (cases_Bool test)
