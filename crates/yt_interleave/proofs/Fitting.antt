-- Why there is room for each message that comes, and which comes next.
use Rattle.std.proofs.Common.{◌≡◌, ℕ, zero, suc, ◌<◌, ◌≤◌, List, [], ◌∷◌, length, slice_get, Option, None, Some, refl, sym, ap, subst, inl, inr, ⊎_elim, arith}
use Rattle.std.proofs.lemmas.Bool.{cases_lt}
use Rattle.std.proofs.lemmas.Option.{same_Some, slice_get_within}
use Rattle.yt_graph.specs.Picture.{GraphTree, PortTree}
use Rattle.yt_log.specs.Tasks.{Has}
use Rattle.yt_list.specs.Numbered.{numbered}
use Rattle.yt_rates.specs.Rates.{period_of}
use Rattle.yt_serial.specs.declared.shown.OutLine.{OutLine}
use Rattle.yt_trace.specs.declared.message.Message.{Message}
use Rattle.yt_serial.specs.Beginnings.{order_of}
use Rattle.yt_serial.specs.Premises.{CanRun}
use Rattle.yt_serial.specs.PortMessages.{PortMessage}
use Rattle.yt_serial.specs.SerialHandling.{Serial, shown}
use Rattle.yt_serial.proofs.Lemmas.{TimesRise, lines_hold}
use Rattle.yt_interleave.specs.Fitting.{MessagesFit}
use Rattle.yt_interleave.specs.Interleaved.{RunState, known_at}
use Rattle.yt_interleave.specs.Lines.{messages_to}
use Rattle.yt_interleave.specs.Moves.{Interleaves}
use Rattle.yt_interleave.specs.Timing.{HasEnded, IsOnTime}
use Rattle.yt_interleave.specs.Waits.{wait_from, AreFrom}
use Rattle.yt_interleave.proofs.Shown.{known_rise}
use Rattle.yt_interleave.proofs.Timing as timing
use Rattle.yt_interleave.proofs.WaitLists.{wait_yes, wait_no}
use Rattle.yt_interleave.proofs.Waits.{known_apart, no_messages, rise_apart}

-- what waits is shown among all
has_wait : (n t : ℕ) (ms : List PortMessage) (l : OutLine) → Has (shown n (wait_from t ms)) l → Has (shown n ms) l
has_wait n t [] l h = absurd h
has_wait n t (m ∷ ms) l h =
    ⊎_elim
    (λ (lt : m.time < t). inr (has_wait n t ms l (subst (λ (xs : List PortMessage). Has (shown n xs) l) (wait_no t m ms lt) h)))
    (λ (ge : t ≤ m.time).
    ⊎_elim
    (λ (e : l ≡ (record { time = m.time; output = n; values = m.values })). inl e)
    (λ (k : Has (shown n (wait_from t ms)) l). inr (has_wait n t ms l k))
    (subst (λ (xs : List PortMessage). Has (shown n xs) l) (wait_yes t m ms ge) h))
    (cases_lt m.time t)

-- where times rise, so do those of what waits
rise_wait : (n t : ℕ) (ms : List PortMessage) → TimesRise (shown n ms) → TimesRise (shown n (wait_from t ms))
rise_wait n t [] rise = tt
rise_wait n t (m ∷ ms) rise =
    let rest = rise_wait n t ms rise.1 in
    ⊎_elim
    (λ (lt : m.time < t). subst (λ (xs : List PortMessage). TimesRise (shown n xs)) (sym (wait_no t m ms lt)) rest)
    (λ (ge : t ≤ m.time).
    let whole : TimesRise (shown n (m ∷ wait_from t ms)) = ((λ l h. rise.0 l (has_wait n t ms l h)), rest) in
    subst (λ (xs : List PortMessage). TimesRise (shown n xs)) (sym (wait_yes t m ms ge)) whole)
    (cases_lt m.time t)

shown_has : (n : ℕ) (ms : List PortMessage) (k : ℕ) (m : PortMessage) → slice_get ms k ≡ Some m → Has (shown n ms) (record { time = m.time; output = n; values = m.values })
shown_has n [] k m h = absurd (let w = slice_get_within [] k m h in omega arith)
shown_has n (x ∷ ms) zero m h =
    inl (ap (λ (y : PortMessage). record { time = y.time; output = n; values = y.values }) (sym (same_Some x m h)))
shown_has n (x ∷ ms) (suc k) m h = inr (shown_has n ms k m h)

-- the first of those that wait is the first to come
in_order : (n t : ℕ) (ms : List PortMessage) → TimesRise (shown n ms) → (m : PortMessage) (rest : List PortMessage) → wait_from t ms ≡ m ∷ rest → AreFrom m.time rest
in_order n t ms rise m rest e =
    let whole : TimesRise (shown n (m ∷ rest)) = subst (λ (xs : List PortMessage). TimesRise (shown n xs)) e (rise_wait n t ms rise) in
    λ k x h. whole.0 (record { time = x.time; output = n; values = x.values }) (shown_has n rest k x h)

-- where the first doesn't come before a tick, none does
first_from : (t : ℕ) (ms : List PortMessage) → ((m : PortMessage) (rest : List PortMessage) → ms ≡ m ∷ rest → (t ≤ m.time) × AreFrom m.time rest) → AreFrom t ms
first_from t [] first k x h = absurd (let w = slice_get_within [] k x h in omega arith)
first_from t (m ∷ rest) first zero x h =
    let f = first m rest refl in
    let same : m.time ≡ x.time = ap (λ (y : PortMessage). y.time) (same_Some m x h) in
    let le = f.0 in
    omega arith
first_from t (m ∷ rest) first (suc k) x h =
    let f = first m rest refl in
    let le = f.0 in
    let late = f.1 k x h in
    omega arith

module _ (g : GraphTree) (trace : List Message) (can : CanRun g trace) (s : Serial) (r : RunState) (is : Interleaves g trace s r) where
  room : IsOnTime g s r → (port k n : ℕ) (m : PortMessage) → numbered (known_at r port) n ≡ Some m → m.time ≤ length r.log → 1 ≤ k → k < n → HasEnded s r port k
  room on_time port k n m there come some lt =
      let p = timing.known_port g trace can s r is port n m there in
      let x = timing.number_before (known_at r port) n k m there some (omega arith) in
      let first = timing.known_first g trace can s r is in
      let far = timing.apart g trace can s r is port k n p.0 x.0 m p.1 (first port k x.0 x.1) (first port n m there) lt in
      on_time port k p.0 x.0 p.1 x.1 (omega arith)

  port_rise : (port : ℕ) → TimesRise (shown 0 (known_at r port))
  port_rise port = by (numbered g.ports port) refl
    where
      by : (o : Option PortTree) → numbered g.ports port ≡ o → TimesRise (shown 0 (known_at r port))
      by None e = subst (λ (ms : List PortMessage). TimesRise (shown 0 ms)) (sym (no_messages g trace can s r is port e)) tt
      by (Some p) e = rise_apart 0 (period_of g p) (known_at r port) (known_apart g trace can s r is port p e)

  output_rise : (n : ℕ) → TimesRise (shown n (messages_to r.outputs n))
  output_rise n = known_rise g s r is.lines (lines_hold g can.well_formed can.rates trace can.keeps (order_of r.log) s is.stands.along) n

  port_order : (port due : ℕ) (m : PortMessage) (rest : List PortMessage) → wait_from due (known_at r port) ≡ m ∷ rest → AreFrom m.time rest
  port_order port due m rest e = in_order 0 due (known_at r port) (port_rise port) m rest e

  output_order : (n due : ℕ) (m : PortMessage) (rest : List PortMessage) → wait_from due (messages_to r.outputs n) ≡ m ∷ rest → AreFrom m.time rest
  output_order n due m rest e = in_order n due (messages_to r.outputs n) (output_rise n) m rest e

pub messages_fit : MessagesFit
messages_fit = record {
  room = λ g trace can s r is on_time port k n m there come some lt. room g trace can s r is on_time port k n m there come some lt;
  port_order = λ g trace can s r is port due m rest e. port_order g trace can s r is port due m rest e;
  output_order = λ g trace can s r is n due m rest e. output_order g trace can s r is n due m rest e;
  none_before = λ g trace can s r is due t firsts. record {
    ports = λ port. first_from t (wait_from due (known_at r port)) (λ m rest e. (firsts.ports port m rest e, port_order g trace can s r is port due m rest e));
    outputs = λ n. first_from t (wait_from due (messages_to r.outputs n)) (λ m rest e. (firsts.outputs n m rest e, output_order g trace can s r is n due m rest e));
  };
}
