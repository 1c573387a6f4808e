-- How many messages wait: one fewer after each that comes.
use Rattle.std.proofs.Common.{◌≡◌, ◌⊎◌, ℕ, zero, suc, ◌+◌, ◌<◌, ◌≤◌, List, [], ◌∷◌, map, length, Option, None, Some, refl, sym, ap, subst, ◌∙◌, inl, inr, ⊎_elim, arith}
use Rattle.std.specs.Option.{unwrap_or}
use Rattle.std.proofs.lemmas.Bool.{cases_eq}
use Rattle.yt_graph.specs.declared.port.Feed as feed
use Rattle.yt_graph.specs.declared.port.Feed.{Feed}
use Rattle.yt_graph.specs.Picture.{graph_tree}
use Rattle.yt_list.specs.Numbered.{numbered}
use Rattle.yt_chan.specs.declared.target.Arrived.{Arrived}
use Rattle.yt_chan.specs.declared.target.Arrived.TheVariants.{Port, Output}
use Rattle.yt_chan.specs.Changes.{Delivers}
use Rattle.yt_chan.specs.Pending.{Pending}
use Rattle.yt_chan.specs.State.{ChannelState, waits_at}
use Rattle.yt_chan.proofs.Lemmas.{target_cases}
use Rattle.yt_rates.specs.Acceptance.{Parts}
use Rattle.yt_trace.specs.declared.message.Message.{Message}
use Rattle.yt_serial.specs.PortMessages.{PortMessage}
use Rattle.yt_serial.specs.SerialHandling.{Serial}
use Rattle.yt_serial.proofs.Lemmas.{numbered_within}
use Rattle.yt_interleave.specs.Carrying.{as_message}
use Rattle.yt_interleave.specs.Interleaved.{RunState, port_at}
use Rattle.yt_interleave.specs.Waits.{wait_from}
use Rattle.yt_body.specs.State.{HandlersState}
use Rattle.yt_body_laws.specs.Carrying.{known_for, over_wire}
use Rattle.yt_body_laws.specs.Placing.{IsPlacing}
use Rattle.yt_runner.specs.Inside.Going.{waiting_below}

-- the number of a target
abbrev pub number_of : Arrived → ℕ
number_of (Port port) = port
number_of (Output output) = output

number_cases : (target : Arrived) → (target ≡ Port (number_of target)) ⊎ (target ≡ Output (number_of target))
number_cases (Port port) = inl refl
number_cases (Output output) = inr refl

module _ (old new : ChannelState) (now : ℕ) (target : Arrived) (d : Delivers old new now target) where
  one_less : suc (length (waits_at new target)) ≡ length (waits_at old target)
  one_less = sym (ap (length {A = Pending}) d.taken)

  no_more : (other : Arrived) → length (waits_at new other) ≤ length (waits_at old other)
  no_more other =
      ⊎_elim
      (λ (own : other ≡ target). subst (λ (t : Arrived). length (waits_at new t) ≤ length (waits_at old t)) (sym own) (let l = one_less in omega arith))
      (λ (ne : other ≡ target → ⊥). let l = ap (length {A = Pending}) (d.others other ne) in omega arith)
      (target_cases other target)

  below_no_more : (n : ℕ) → waiting_below new n ≤ waiting_below old n
  below_no_more zero = omega arith
  below_no_more (suc n) = let a = below_no_more n in let b = no_more (Port n) in let c = no_more (Output n) in omega arith

  less_at : (t : Arrived) → target ≡ t → suc (length (waits_at new t)) ≡ length (waits_at old t)
  less_at t e = subst (λ (t : Arrived). suc (length (waits_at new t)) ≡ length (waits_at old t)) e one_less

  here_less : (n : ℕ) → number_of target ≡ n → length (waits_at new (Port n)) + length (waits_at new (Output n)) < length (waits_at old (Port n)) + length (waits_at old (Output n))
  here_less n own =
      ⊎_elim
      (λ (e : target ≡ Port (number_of target)). let l = less_at (Port n) (e ∙ ap (λ (k : ℕ). Port k) own) in let c = no_more (Output n) in omega arith)
      (λ (e : target ≡ Output (number_of target)). let l = less_at (Output n) (e ∙ ap (λ (k : ℕ). Output k) own) in let c = no_more (Port n) in omega arith)
      (number_cases target)

  -- fewer wait for the targets of which this one is
  pub below_less : (n : ℕ) → number_of target < n → waiting_below new n < waiting_below old n
  below_less zero lt = absurd (omega arith)
  below_less (suc n) lt =
      ⊎_elim
      (λ (own : number_of target ≡ n). let a = below_no_more n in let b = here_less n own in omega arith)
      (λ (ne : number_of target ≡ n → ⊥). let a = below_less n (omega (arith, ne)) in let b = no_more (Port n) in let c = no_more (Output n) in omega arith)
      (cases_eq (number_of target) n)

-- where messages wait, some are known
some_known : (due : ℕ) (ms : List PortMessage) (x : PortMessage) (xs : List PortMessage) → wait_from due ms ≡ x ∷ xs → (y : PortMessage) × (ys : List PortMessage) × (ms ≡ y ∷ ys)
some_known due [] x xs e = absurd (nil_cons e)
  where
    nil_cons : ◌≡◌ {A = List PortMessage} [] (x ∷ xs) → ⊥
    nil_cons e = cc
some_known due (y ∷ ys) x xs e = (y, ys, refl)

-- and they are those of a number that is there
some_there : (lists : List (List PortMessage)) (n : ℕ) (y : PortMessage) (ys : List PortMessage) → unwrap_or (numbered lists n) [] ≡ y ∷ ys → n ≤ length lists
some_there lists n y ys some = by (numbered lists n) refl some
  where
    nil_cons : ◌≡◌ {A = List PortMessage} [] (y ∷ ys) → ⊥
    nil_cons e = cc

    by : (o : Option (List PortMessage)) → numbered lists n ≡ o → unwrap_or o [] ≡ y ∷ ys → n ≤ length lists
    by None e some = absurd (nil_cons some)
    by (Some ms) e some = (numbered_within lists n ms e).1

over_known : (f : Feed) (ms : List PortMessage) (y : PortMessage) (ys : List PortMessage) → over_wire f ms ≡ y ∷ ys → ms ≡ y ∷ ys
over_known (feed.TheVariants.Input input) ms y ys e = absurd (nil_cons e)
  where
    nil_cons : ◌≡◌ {A = List PortMessage} [] (y ∷ ys) → ⊥
    nil_cons e = cc
over_known (feed.TheVariants.Out port out) ms y ys e = e

module _ (parts : Parts) (trace : List Message) (s : Serial) (r : RunState) (due : Arrived → ℕ) (b : HandlersState) (is : IsPlacing parts trace s r due b) where
  within : (t : Arrived) (y : PortMessage) (ys : List PortMessage) → known_for (graph_tree parts.graph) r t ≡ y ∷ ys → number_of t ≤ length (graph_tree parts.graph).ports + length (graph_tree parts.graph).outputs
  within (Port port) y ys some =
      let at = some_there r.messages port y ys (over_known (port_at (graph_tree parts.graph) port).feed (unwrap_or (numbered r.messages port) []) y ys some) in
      let long = is.interleaves.stands.long in
      omega arith
  within (Output output) y ys some =
      let at = some_there r.outputs output y ys some in
      let long = is.interleaves.lines.count in
      omega arith

  -- a message that waits for a target does so for one of the graph's
  pub waits_within : (t : Arrived) (m : Pending) (rest : List Pending) → waits_at b.channels t ≡ m ∷ rest → number_of t ≤ length (graph_tree parts.graph).ports + length (graph_tree parts.graph).outputs
  waits_within t m rest some =
      let known = some_known (due t) (known_for (graph_tree parts.graph) r t) (as_message m) (map as_message rest) (sym (is.carries.waits t) ∙ ap (map as_message) some) in
      within t known.0 known.1 known.2
