-- A job has ended: its messages are known from now on. Serial handling stays where it is.
use Rattle.std.proofs.Common.{◌≡◌, ℕ, zero, suc, ◌⊎◌, List, length, Option, None, Some, sym, ap, subst, ◌∙◌, inl, inr, ⊎_elim, arith}
use Rattle.std.specs.Prelude.{ℤ}
use Rattle.std.proofs.lemmas.Bool.{cases_eq}
use Rattle.std.proofs.lemmas.Option.{none-some, same_Some}
use Rattle.yt_graph.specs.Meaning.{Handling}
use Rattle.yt_graph.specs.Picture.{GraphTree, PortTree}
use Rattle.yt_log.specs.declared.job.Job.{Job}
use Rattle.yt_log.specs.declared.plan.PlanItem.{PlanItem}
use Rattle.yt_log.specs.Tasks.{Has}
use Rattle.yt_log.specs.Ticks.{done}
use Rattle.yt_cost.specs.CodeAlone.{written_before}
use Rattle.yt_trace.specs.declared.message.Message.{Message}
use Rattle.yt_serial.specs.PortMessages.{PortMessage}
use Rattle.yt_list.specs.Numbered.{numbered}
use Rattle.yt_serial.specs.SerialHandling.{Serial, items_of, brought}
use Rattle.yt_serial.proofs.Lemmas.{placed_at, placed-length, port_there, numbered_left}
use Rattle.yt_interleave.specs.Interleaved.{ActiveJob, RunState, port_at, Uses, value_at, whole_of, item_of, passes_of, known_at, put, to_come, with_end, IsActiveJob, IsInUse, IsEndedOrActive, MatchesSerial}
use Rattle.yt_interleave.proofs.HandlerWrites.{IsWritten, handling_written, written_all}
use Rattle.yt_interleave.proofs.Pieces.{put_other, put_cases, placed_twice, to_come_ended}

module _ (g : GraphTree) (trace : List Message) (order : List Job) (s : Serial) (r : RunState) (stands : MatchesSerial g trace order s r)
    (port : ℕ) (b : ActiveJob) (at_port : r.active port ≡ Some b) (ends : done r.log b.job (length r.log) ≡ (whole_of g b).ticks) where
  abbrev h : Handling
  h = whole_of g b

  abbrev r' : RunState
  r' = with_end g b r

  abbrev active' : ℕ → Option ActiveJob
  active' = put b.job.task None r.active

  u : IsActiveJob g s r.log r.vars port b
  u = stands.under_way port b at_port

  at_task : r.active b.job.task ≡ Some b
  at_task = ap r.active u.task ∙ at_port

  written : IsWritten g (port_at g b.job.task) b.vars h
  written = handling_written g (port_at g b.job.task) b.message.values b.vars

  at_cases : (p : ℕ) (c : ActiveJob) → active' p ≡ Some c → (p ≡ b.job.task → ⊥) × (r.active p ≡ Some c)
  at_cases p c here =
      ⊎_elim
      (λ (e : (p ≡ b.job.task) × (None ≡ Some c)). absurd (none-some c e.1))
      (λ (e : (p ≡ b.job.task → ⊥) × (r.active p ≡ Some c)). e)
      (put_cases b.job.task None (Some c) r.active p here)

  -- its variables are those of serial handling now
  settled : (v : ℕ) → Uses g port v → value_at r.vars v ≡ value_at s.vars v
  settled v uses =
      u.now v uses
      ∙ ap (λ (n : ℕ). value_at (written_before n h.writes b.vars) v) ends
      ∙ ap (λ (xs : List ℤ). value_at xs v) (written_all 0 h.ticks h.ticks h.writes b.vars (omega arith) written.within ∙ sym written.vars_after)
      ∙ sym (u.later v uses)

  others_after : (v : ℕ) → (value_at r.vars v ≡ value_at s.vars v) ⊎ IsInUse g active' v
  others_after v =
      ⊎_elim
      (λ (e : value_at r.vars v ≡ value_at s.vars v). inl e)
      (λ (k : IsInUse g r.active v). of_user k)
      (stands.others v)
    where
      of_user : IsInUse g r.active v → (value_at r.vars v ≡ value_at s.vars v) ⊎ IsInUse g active' v
      of_user (p, c, at_p, uses) =
          ⊎_elim
          (λ (e : p ≡ b.job.task). inl (settled v (subst (λ (q : ℕ). Uses g q v) (e ∙ u.task) uses)))
          (λ (ne : p ≡ b.job.task → ⊥). inr (p, c, put_other b.job.task None r.active p ne ∙ at_p, uses))
          (cases_eq p b.job.task)

  ended_after : (z : PlanItem) → Has (items_of s) z → IsEndedOrActive g r.log active' z
  ended_after z has =
      ⊎_elim
      (λ (a : (c : ActiveJob) × (r.active z.job.task ≡ Some c) × (z ≡ item_of g c)).
      ⊎_elim
      (λ (e : z.job.task ≡ b.job.task).
      let c : b ≡ a.0 = same_Some b a.0 (sym at_task ∙ ap r.active (sym e) ∙ a.1) in
      let is : z ≡ item_of g b = a.2 ∙ ap (item_of g) (sym c) in
      inr (ap (λ (x : PlanItem). done r.log x.job (length r.log)) is ∙ ends ∙ sym (ap (λ (x : PlanItem). x.cost) is)))
      (λ (ne : z.job.task ≡ b.job.task → ⊥). inl (a.0, put_other b.job.task None r.active z.job.task ne ∙ a.1, a.2))
      (cases_eq z.job.task b.job.task))
      (λ (e : done r.log z.job (length r.log) ≡ z.cost). inr e)
      (stands.ended z has)

  stays_known : (p n : ℕ) (m : PortMessage) → numbered (known_at r p) n ≡ Some m → numbered (known_at r' p) n ≡ Some m
  stays_known p n m there = let q = port_there g.ports r.messages p n m stands.long there in at p q.0 q.1 there
    where
      at : (p : ℕ) (q : PortTree) → numbered g.ports p ≡ Some q → numbered (known_at r p) n ≡ Some m → numbered (known_at r' p) n ≡ Some m
      at zero q is there = absurd (none-some q is)
      at (suc k) q is there =
          subst (λ (ms : List PortMessage). numbered ms n ≡ Some m) (sym (placed_at (brought b.job.task (passes_of g b)) g.ports r.messages k q stands.long is))
          (numbered_left (known_at r (suc k)) (brought b.job.task (passes_of g b) q.feed) n m there)

  pub ended : MatchesSerial g trace order s r'
  ended = record {
    along = stands.along;
    under_way = λ p c here. stands.under_way p c (at_cases p c here).1;
    exclusive = λ p q c d at_p at_q ne some same. stands.exclusive p q c d (at_cases p c at_p).1 (at_cases q d at_q).1 ne some same;
    known = λ p c here. let k = at_cases p c here in stays_known p c.job.number c.message (stands.known p c k.1);
    long = placed-length (brought b.job.task (passes_of g b)) g.ports r.messages stands.long;
    messages =
        stands.messages
        ∙ sym (placed_twice (brought b.job.task (passes_of g b)) (to_come g active') (to_come g r.active) (to_come_ended g r.active b.job.task b at_task) g.ports r.messages);
    count = stands.count;
    others = others_after;
    written = stands.written;
    lawful = stands.lawful;
    named = stands.named;
    ended = ended_after;
    one = stands.one;
    all = stands.all;
    in_turn = stands.in_turn;
  }
