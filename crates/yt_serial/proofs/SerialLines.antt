-- In serial handling the times of each output's lines rise.
use Rattle.std.proofs.Common.{◌≡◌, ◌⊎◌, ℕ, ℤ, zero, suc, ◌+◌, ◌<◌, ◌≤◌, cond, eqb, List, [], ◌∷◌, ◌++◌, length, slice_get, get_or, Option, Some, All, refl, sym, ap, subst, ◌∙◌, inl, inr, ⊎_elim, arith, append-nil, eq-eqb, ne_eqb}
use Rattle.std.specs.Option.{unwrap_or}
use Rattle.std.proofs.lemmas.Bool.{cases_eq, cases_lt, cond-true, cond-false}
use Rattle.std.proofs.lemmas.Option.{none-some, same_Some, option_and_then_some, slice_get-get_or}
use Rattle.yt_graph.specs.declared.graph.Output.{Output}
use Rattle.yt_graph.specs.Sends.{messages_on}
use Rattle.yt_graph.specs.declared.port.Feed.TheVariants.{Out}
use Rattle.yt_graph.specs.Meaning.{Handling, handling}
use Rattle.yt_graph.specs.Picture.{GraphTree, PortTree}
use Rattle.yt_graph.specs.WellFormed.{IsWellFormed}
use Rattle.yt_log.specs.declared.job.Job.{Job}
use Rattle.yt_log.specs.Tasks.{Has}
use Rattle.yt_log.proofs.Lemmas.{has_append}
use Rattle.yt_rates.specs.Faults.{IsWithinRates}
use Rattle.yt_rates.specs.Rates.{period_of, gap_of}
use Rattle.yt_serial.specs.declared.shown.OutLine.{OutLine}
use Rattle.yt_trace.specs.declared.message.Message.{Message}
use Rattle.yt_order.specs.Gaps.{at_gaps}
use Rattle.yt_serial.specs.PortMessages.{arriving, passed}
use Rattle.yt_list.specs.Numbered.{numbered}
use Rattle.yt_serial.specs.SerialHandling.{Serial, messages_at, handled_of, start, brought, shown, all_shown, port_of, serial_step, serial_run}
use Rattle.yt_graph.specs.Labels.{no_port}
use Rattle.yt_trace.specs.Traces.{KeepsPeriods, PortMessage}
use Rattle.yt_serial.proofs.Sends.{gaps_within}
use Rattle.yt_serial.proofs.SerialInvariant.{ComesOf, Holds, after, handled_grows, handled_same, message_stays, new_within, old_ends}
use Rattle.yt_serial.proofs.SerialStates.{port_there, BringsOf, brings, message_there}
use Rattle.yt_serial.proofs.SerialRuns.{stepped, holds_stepped, serial_holds}
use Rattle.yt_serial.proofs.LineOrder.{TimesRise, lines_same, lines_other}
use Rattle.yt_serial.specs.Lines.{lines_of}

-- the lines of an output among lines one behind another
pub lines_append : (n : ℕ) (xs ys : List OutLine) → lines_of n (xs ++ ys) ≡ lines_of n xs ++ lines_of n ys
lines_append n [] ys = refl
lines_append n (x ∷ xs) ys =
    ⊎_elim
    (λ (e : x.output ≡ n). lines_same n x (xs ++ ys) e ∙ ap (λ (ls : List OutLine). x ∷ ls) (lines_append n xs ys) ∙ sym (ap (λ (ls : List OutLine). ls ++ lines_of n ys) (lines_same n x xs e)))
    (λ (ne : x.output ≡ n → ⊥). lines_other n x (xs ++ ys) ne ∙ lines_append n xs ys ∙ sym (ap (λ (ls : List OutLine). ls ++ lines_of n ys) (lines_other n x xs ne)))
    (cases_eq x.output n)

pub lines_shown : (n : ℕ) (ms : List PortMessage) → lines_of n (shown n ms) ≡ shown n ms
lines_shown n [] = refl
lines_shown n (m ∷ ms) =
    lines_same n (record { time = m.time; output = n; values = m.values }) (shown n ms) refl
    ∙ ap (λ (ls : List OutLine). (record { time = m.time; output = n; values = m.values }) ∷ ls) (lines_shown n ms)

pub lines_shown_other : (n k : ℕ) (ms : List PortMessage) → (k ≡ n → ⊥) → lines_of n (shown k ms) ≡ []
lines_shown_other n k [] ne = refl
lines_shown_other n k (m ∷ ms) ne = lines_other n (record { time = m.time; output = k; values = m.values }) (shown k ms) ne ∙ lines_shown_other n k ms ne

-- what an output shows of a job's messages
part : ℕ → (ℕ → List PortMessage) → ℕ → Output → List OutLine
part task passes n o = cond (eqb o.port task) (shown n (passes o.out)) []

part_is : (task : ℕ) (passes : ℕ → List PortMessage) (n : ℕ) (o : Output) → part task passes n o ≡ shown n (brought task passes (Out o.port o.out))
unfolding part
part_is task passes n o =
    ⊎_elim
    (λ (e : o.port ≡ task).
    cond-true (eqb o.port task) (shown n (passes o.out)) [] (eq-eqb o.port task e) ∙ ap (shown n) (sym (cond-true (eqb o.port task) (passes o.out) [] (eq-eqb o.port task e))))
    (λ (ne : o.port ≡ task → ⊥).
    cond-false (eqb o.port task) (shown n (passes o.out)) [] (ne_eqb o.port task ne) ∙ ap (shown n) (sym (cond-false (eqb o.port task) (passes o.out) [] (ne_eqb o.port task ne))))
    (cases_eq o.port task)

all-cons : (task : ℕ) (passes : ℕ → List PortMessage) (n : ℕ) (o : Output) (outputs : List Output) → all_shown task passes n (o ∷ outputs) ≡ shown n (brought task passes (Out o.port o.out)) ++ all_shown task passes (suc n) outputs
unfolding part
all-cons task passes n o outputs = ap (λ (ls : List OutLine). ls ++ all_shown task passes (suc n) outputs) (part_is task passes n o)

-- none of the outputs from n on has a smaller number
pub all_before : (task : ℕ) (passes : ℕ → List PortMessage) (n k : ℕ) (outputs : List Output) → k < n → lines_of k (all_shown task passes n outputs) ≡ []
all_before task passes n k [] lt = refl
all_before task passes n k (o ∷ outputs) lt =
    ap (lines_of k) (all-cons task passes n o outputs)
    ∙ lines_append k (shown n (brought task passes (Out o.port o.out))) (all_shown task passes (suc n) outputs)
    ∙ ap (λ (ls : List OutLine). ls ++ lines_of k (all_shown task passes (suc n) outputs)) (lines_shown_other k n (brought task passes (Out o.port o.out)) (λ e. absurd (omega arith)))
    ∙ all_before task passes (suc n) k outputs (omega arith)

pub all_at : (task : ℕ) (passes : ℕ → List PortMessage) (n k : ℕ) (outputs : List Output) (o : Output) → slice_get outputs k ≡ Some o
    → lines_of (n + k) (all_shown task passes n outputs) ≡ shown (n + k) (brought task passes (Out o.port o.out))
all_at task passes n k [] o there = absurd (none-some o there)
all_at task passes n zero (x ∷ outputs) o there =
    let same : x ≡ o = same_Some x o there in
    let here : n + 0 ≡ n = omega arith in
    let bs = brought task passes (Out x.port x.out) in
    ap (lines_of (n + 0)) (all-cons task passes n x outputs)
    ∙ lines_append (n + 0) (shown n bs) (all_shown task passes (suc n) outputs)
    ∙ ap (λ (ls : List OutLine). lines_of (n + 0) (shown n bs) ++ ls) (all_before task passes (suc n) (n + 0) outputs (omega arith))
    ∙ append-nil (lines_of (n + 0) (shown n bs))
    ∙ ap (λ (i : ℕ). lines_of i (shown n bs)) here ∙ lines_shown n bs
    ∙ ap (λ (i : ℕ). shown i bs) (sym here)
    ∙ ap (λ (y : Output). shown (n + 0) (brought task passes (Out y.port y.out))) same
all_at task passes n (suc k) (x ∷ outputs) o there =
    let next : n + suc k ≡ suc n + k = omega arith in
    let bs = brought task passes (Out x.port x.out) in
    ap (lines_of (n + suc k)) (all-cons task passes n x outputs)
    ∙ lines_append (n + suc k) (shown n bs) (all_shown task passes (suc n) outputs)
    ∙ ap (λ (ls : List OutLine). ls ++ lines_of (n + suc k) (all_shown task passes (suc n) outputs)) (lines_shown_other (n + suc k) n bs (λ e. absurd (omega arith)))
    ∙ ap (λ (i : ℕ). lines_of i (all_shown task passes (suc n) outputs)) next
    ∙ all_at task passes (suc n) k outputs o there
    ∙ ap (λ (i : ℕ). shown i (brought task passes (Out o.port o.out))) (sym next)

pub all_past : (task : ℕ) (passes : ℕ → List PortMessage) (n k : ℕ) (outputs : List Output) → n + length outputs ≤ k → lines_of k (all_shown task passes n outputs) ≡ []
all_past task passes n k [] le = refl
all_past task passes n k (x ∷ outputs) le =
    let bs = brought task passes (Out x.port x.out) in
    ap (lines_of k) (all-cons task passes n x outputs)
    ∙ lines_append k (shown n bs) (all_shown task passes (suc n) outputs)
    ∙ ap (λ (ls : List OutLine). ls ++ lines_of k (all_shown task passes (suc n) outputs)) (lines_shown_other k n bs (λ e. absurd (omega arith)))
    ∙ all_past task passes (suc n) k outputs (omega arith)

-- what a job adds to the lines of an output: nothing, or what it brings to the output's feed
pub added_lines : (task : ℕ) (passes : ℕ → List PortMessage) (outputs : List Output) (n : ℕ)
    → (lines_of n (all_shown task passes 1 outputs) ≡ []) ⊎ ((k : ℕ) × (o : Output) × (n ≡ suc k) × (slice_get outputs k ≡ Some o) × (lines_of n (all_shown task passes 1 outputs) ≡ shown n (brought task passes (Out o.port o.out))))
added_lines task passes outputs zero = inl (all_before task passes 1 0 outputs (omega arith))
added_lines task passes outputs (suc k) = by outputs (all_at task passes 1 k outputs) (all_past task passes 1 (suc k) outputs)
  where
    by : (outs : List Output) → ((o : Output) → slice_get outs k ≡ Some o → lines_of (1 + k) (all_shown task passes 1 outs) ≡ shown (1 + k) (brought task passes (Out o.port o.out)))
        → (1 + length outs ≤ suc k → lines_of (suc k) (all_shown task passes 1 outs) ≡ [])
        → (lines_of (suc k) (all_shown task passes 1 outs) ≡ []) ⊎ ((j : ℕ) × (o : Output) × (suc k ≡ suc j) × (slice_get outs j ≡ Some o) × (lines_of (suc k) (all_shown task passes 1 outs) ≡ shown (suc k) (brought task passes (Out o.port o.out))))
    by [] at past = inl refl
    by (x ∷ outs) at past =
        ⊎_elim
        (λ (lt : k < length (x ∷ outs)).
        let o = get_or (x ∷ outs) k x in
        let there = slice_get-get_or (x ∷ outs) k x lt in
        let one : 1 + k ≡ suc k = omega arith in
        inr (k, o, refl, there, ap (λ (i : ℕ). lines_of i (all_shown task passes 1 (x ∷ outs))) (sym one) ∙ at o there ∙ ap (λ (i : ℕ). shown i (brought task passes (Out o.port o.out))) one))
        (λ (ge : length (x ∷ outs) ≤ k). inl (past (omega arith)))
        (cases_lt k (length (x ∷ outs)))

rise_append : (xs ys : List OutLine) → TimesRise xs → TimesRise ys → ((x y : OutLine) → Has xs x → Has ys y → x.time ≤ y.time) → TimesRise (xs ++ ys)
rise_append [] ys p q cross = q
rise_append (x ∷ xs) ys p q cross =
    ((λ z h. ⊎_elim (λ (k : Has xs z). p.0 z k) (λ (k : Has ys z). cross x z (inl refl) k) (has_append xs ys z h)), rise_append xs ys p.1 q (λ a b i j. cross a b (inr i) j))

has_shown : (n : ℕ) (ms : List PortMessage) (l : OutLine) → Has (shown n ms) l → (i : ℕ) × (m : PortMessage) × (slice_get ms i ≡ Some m) × (l.time ≡ m.time)
has_shown n [] l h = absurd h
has_shown n (m ∷ ms) l h =
    ⊎_elim
    (λ (e : l ≡ (record { time = m.time; output = n; values = m.values })). (0, m, refl, ap (λ (x : OutLine). x.time) e))
    (λ (k : Has (shown n ms) l). let r = has_shown n ms l k in (suc r.0, r.1, r.2, r.3))
    h

gaps_rise : (n time gap : ℕ) (sent : List (List ℤ)) → TimesRise (shown n (at_gaps arriving time gap sent))
gaps_rise n time gap [] = tt
gaps_rise n time gap (values ∷ sent) =
    ((λ l h. let r = has_shown n (at_gaps arriving (time + gap) gap sent) l h in let w = (gaps_within (time + gap) gap sent r.0 r.1 r.2).starts in let t = r.3 in omega arith), gaps_rise n (time + gap) gap sent)

-- a line as a message
abbrev message_in : OutLine → PortMessage
message_in l = record { time = l.time; values = l.values }

-- the lines of each output rise, and each comes of a job that was handled
pub record LinesHold (g : GraphTree) (s : Serial) : Type 0 where
  pub rise : (n : ℕ) → TimesRise (lines_of n s.lines)
  pub comes : (k : ℕ) (o : Output) (q : PortTree) → slice_get g.outputs k ≡ Some o → numbered g.ports o.port ≡ Some q → (l : OutLine) → Has (lines_of (suc k) s.lines) l → ComesOf g s q o.port o.out (message_in l)

module _ (g : GraphTree) (well : IsWellFormed g) (rates : All (IsWithinRates g) g.ports) (s : Serial) (holds : Holds g s) (lines : LinesHold g s)
    (job : Job) (q : PortTree) (is_port : numbered g.ports job.task ≡ Some q)
    (m : PortMessage) (next : job.number ≡ suc (handled_of s job.task)) (at : numbered (messages_at s job.task) job.number ≡ Some m) where
  abbrev h : Handling
  h = handling g q m.values s.vars

  abbrev s' : Serial
  s' = after g q job m s

  abbrev passes : ℕ → List PortMessage
  passes = passed g q job.number m.time h.sends

  comes_stays : (r : PortTree) (source out : ℕ) (x : PortMessage) → ComesOf g s r source out x → ComesOf g s' r source out x
  comes_stays r source out x of = record {
    number = of.number;
    message = of.message;
    handled = let a = of.handled in let b = handled_grows g well rates s holds job q is_port m next at source in omega arith;
    there = message_stays g well rates s holds job q is_port m next at source of.number of.message of.there;
    multiple = of.multiple;
    ends = of.ends;
  }

  -- what is new at an output
  record IsNew (k : ℕ) (o : Output) (l : OutLine) : Type 0 where
    from : o.port ≡ job.task
    late : m.time + period_of g q ≤ l.time
    comes : ComesOf g s' q job.task o.out (message_in l)

  new_line : (k : ℕ) (o : Output) (b : BringsOf g q job.task job.number m.time h.sends (Out o.port o.out) (brought job.task passes (Out o.port o.out)))
      (l : OutLine) → Has (shown (suc k) (brought job.task passes (Out o.port o.out))) l → IsNew k o l
  new_line k o b l has =
      let fed : Out o.port o.out ≡ Out job.task b.out = b.fed in
      let port : o.port ≡ job.task = cc in
      let out : b.out ≡ o.out = cc in
      let r = has_shown (suc k) (brought job.task passes (Out o.port o.out)) l has in
      let w = new_within g well rates s holds job q is_port m next at b.out r.0 r.1 (ap (λ (ms : List PortMessage). slice_get ms r.0) (sym b.spaced) ∙ r.2) in
      let time : l.time ≡ r.1.time = r.3 in
      let starts = w.0 in
      let ends = w.1 in
      let le = handled_same g well rates s holds job q is_port m next at in
      let here : ComesOf g s' q job.task b.out (message_in l) = record {
        number = job.number;
        message = m;
        handled = omega arith;
        there = message_stays g well rates s holds job q is_port m next at job.task job.number m at;
        multiple = b.multiple;
        ends = omega arith;
      } in
      record { from = port; late = omega arith; comes = subst (λ (x : ℕ). ComesOf g s' q job.task x (message_in l)) out here }

  rise_new : (k : ℕ) (o : Output) (b : BringsOf g q job.task job.number m.time h.sends (Out o.port o.out) (brought job.task passes (Out o.port o.out))) → TimesRise (shown (suc k) (brought job.task passes (Out o.port o.out)))
  rise_new k o b = subst (λ (ms : List PortMessage). TimesRise (shown (suc k) ms)) (sym b.spaced) (gaps_rise (suc k) (m.time + period_of g q) (gap_of g q b.out) (messages_on b.out h.sends))

  lines_after : (n : ℕ) → lines_of n s'.lines ≡ lines_of n s.lines ++ lines_of n (all_shown job.task passes 1 g.outputs)
  lines_after n = lines_append n s.lines (all_shown job.task passes 1 g.outputs)

  -- the lines of an output that gets none
  rise_same : (n : ℕ) → lines_of n (all_shown job.task passes 1 g.outputs) ≡ [] → lines_of n s'.lines ≡ lines_of n s.lines
  rise_same n e = lines_after n ∙ ap (λ (ls : List OutLine). lines_of n s.lines ++ ls) e ∙ append-nil (lines_of n s.lines)

  rise_both : (k : ℕ) (o : Output) → slice_get g.outputs k ≡ Some o → (b : BringsOf g q job.task job.number m.time h.sends (Out o.port o.out) (brought job.task passes (Out o.port o.out)))
      → TimesRise (lines_of (suc k) s.lines ++ shown (suc k) (brought job.task passes (Out o.port o.out)))
  rise_both k o there b =
      rise_append (lines_of (suc k) s.lines) (shown (suc k) (brought job.task passes (Out o.port o.out))) (lines.rise (suc k)) (rise_new k o b)
      (λ x y has_x has_y.
      let n = new_line k o b y has_y in
      let fed : Out o.port o.out ≡ Out job.task b.out = b.fed in
      let out : b.out ≡ o.out = cc in
      let port : numbered g.ports o.port ≡ Some q = ap (numbered g.ports) n.from ∙ is_port in
      let of : ComesOf g s q o.port o.out (message_in x) = lines.comes k o q there port x has_x in
      let of2 : ComesOf g s q job.task b.out (message_in x) = subst (λ (i : ℕ). ComesOf g s q i b.out (message_in x)) n.from (subst (λ (i : ℕ). ComesOf g s q o.port i (message_in x)) (sym out) of) in
      let ends = old_ends g well rates s holds job q is_port m next at b.out (message_in x) b.multiple of2 in
      let late = n.late in
      omega arith)

  rise_after : (n : ℕ) → TimesRise (lines_of n s'.lines)
  rise_after n =
      ⊎_elim
      (λ (e : lines_of n (all_shown job.task passes 1 g.outputs) ≡ []). subst TimesRise (sym (rise_same n e)) (lines.rise n))
      (λ (k : (k : ℕ) × (o : Output) × (n ≡ suc k) × (slice_get g.outputs k ≡ Some o) × (lines_of n (all_shown job.task passes 1 g.outputs) ≡ shown n (brought job.task passes (Out o.port o.out)))).
      let o = k.1 in
      ⊎_elim
      (λ (e : brought job.task passes (Out o.port o.out) ≡ []).
      subst TimesRise (sym (rise_same n (k.4 ∙ ap (shown n) e))) (lines.rise n))
      (λ (b : BringsOf g q job.task job.number m.time h.sends (Out o.port o.out) (brought job.task passes (Out o.port o.out))).
      let whole : lines_of n s'.lines ≡ lines_of (suc k.0) s.lines ++ shown (suc k.0) (brought job.task passes (Out o.port o.out)) =
      lines_after n ∙ ap (λ (ls : List OutLine). lines_of n s.lines ++ ls) k.4 ∙ ap (λ (i : ℕ). lines_of i s.lines ++ shown i (brought job.task passes (Out o.port o.out))) k.2 in
      subst TimesRise (sym whole) (rise_both k.0 o k.3 b))
      (brings g q job.task job.number m.time h.sends (Out o.port o.out)))
      (added_lines job.task passes g.outputs n)

  comes_after : (k : ℕ) (o : Output) (r : PortTree) → slice_get g.outputs k ≡ Some o → numbered g.ports o.port ≡ Some r → (l : OutLine) → Has (lines_of (suc k) s'.lines) l → ComesOf g s' r o.port o.out (message_in l)
  comes_after k o r there at_r l has =
      ⊎_elim
      (λ (e : brought job.task passes (Out o.port o.out) ≡ []).
      old (subst (λ (ls : List OutLine). Has ls l) (same ∙ ap (λ (ms : List PortMessage). lines_of (suc k) s.lines ++ shown (suc k) ms) e ∙ append-nil (lines_of (suc k) s.lines)) has))
      (λ (b : BringsOf g q job.task job.number m.time h.sends (Out o.port o.out) (brought job.task passes (Out o.port o.out))).
      either b (subst (λ (ls : List OutLine). Has ls l) same has))
      (brings g q job.task job.number m.time h.sends (Out o.port o.out))
    where
      one : 1 + k ≡ suc k
      one = omega arith

      same : lines_of (suc k) s'.lines ≡ lines_of (suc k) s.lines ++ shown (suc k) (brought job.task passes (Out o.port o.out))
      same =
          lines_after (suc k)
          ∙ ap (λ (ls : List OutLine). lines_of (suc k) s.lines ++ ls)
          (ap (λ (i : ℕ). lines_of i (all_shown job.task passes 1 g.outputs)) (sym one) ∙ all_at job.task passes 1 k g.outputs o there ∙ ap (λ (i : ℕ). shown i (brought job.task passes (Out o.port o.out))) one)

      old : Has (lines_of (suc k) s.lines) l → ComesOf g s' r o.port o.out (message_in l)
      old h = comes_stays r o.port o.out (message_in l) (lines.comes k o r there at_r l h)

      either : BringsOf g q job.task job.number m.time h.sends (Out o.port o.out) (brought job.task passes (Out o.port o.out))
          → Has (lines_of (suc k) s.lines ++ shown (suc k) (brought job.task passes (Out o.port o.out))) l → ComesOf g s' r o.port o.out (message_in l)
      either b h =
          ⊎_elim old
          (λ (n : Has (shown (suc k) (brought job.task passes (Out o.port o.out))) l).
          let new = new_line k o b l n in
          let ports : q ≡ r = same_Some q r (sym is_port ∙ ap (numbered g.ports) (sym new.from) ∙ at_r) in
          subst (λ (x : PortTree). ComesOf g s' x o.port o.out (message_in l)) ports
          (subst (λ (t : ℕ). ComesOf g s' q t o.out (message_in l)) (sym new.from) new.comes))
          (has_append (lines_of (suc k) s.lines) (shown (suc k) (brought job.task passes (Out o.port o.out))) l h)

  pub lines_hold_after : LinesHold g s'
  lines_hold_after = record { rise = rise_after; comes = comes_after }

module _ (g : GraphTree) (well : IsWellFormed g) (rates : All (IsWithinRates g) g.ports) where
  lines_stepped : (job : Job) (s t : Serial) → Holds g s → LinesHold g s → serial_step g job s ≡ Some t → LinesHold g t
  lines_stepped job s t holds lines step =
      let k = stepped g job s t step in
      let m = k.0 in
      let there = message_there job s m k.1 in
      let q = port_there g.ports s.messages job.task job.number m holds.long there.1 in
      let port : port_of g job ≡ q.0 = ap (λ (o : Option PortTree). unwrap_or o no_port) q.1 in
      let same : after g q.0 job m s ≡ t = ap (λ (p : PortTree). after g p job m s) (sym port) ∙ k.2 in
      subst (LinesHold g) same (lines_hold_after g well rates s holds lines job q.0 q.1 m there.0 there.1)

  lines_along : (order : List Job) (s t : Serial) → Holds g s → LinesHold g s → serial_run g order s ≡ Some t → LinesHold g t
  lines_along [] s t holds lines along = subst (LinesHold g) (same_Some s t along) lines
  lines_along (job ∷ order) s t holds lines along =
      option_and_then_some {P = LinesHold g t} (serial_run g order) (serial_step g job s) t along
      (λ x step rest. lines_along order x t (holds_stepped g well rates job s x holds step) (lines_stepped job s x holds lines step) rest)

  pub lines_hold : (trace : List Message) → KeepsPeriods g trace → (order : List Job) (s : Serial) → serial_run g order (start g trace) ≡ Some s → LinesHold g s
  lines_hold trace keeps order s along =
      lines_along order (start g trace) s (serial_holds g well rates trace keeps [] (start g trace) refl) (record { rise = λ n. tt; comes = λ k o q there at l has. absurd has }) along
