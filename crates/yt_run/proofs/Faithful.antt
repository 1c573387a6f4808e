-- A faithful text is the run's.
use Rattle.std.proofs.Common.{◌≡◌, ℕ, List, sym, ap, ap₂, subst, ◌∙◌}
use Rattle.yt_graph.specs.Picture.{GraphTree}
use Rattle.yt_log.specs.Ticks.{Ticks}
use Rattle.yt_serial.specs.declared.shown.OutLine.{OutLine}
use Rattle.yt_trace.specs.declared.message.Message.{Message}
use Rattle.yt_serial.specs.RunRules.{MeetsRunRules}
use Rattle.yt_serial.specs.Premises.{IsSchedulable}
use Rattle.yt_serial.specs.Told.{IsPromisedRun}
use Rattle.yt_serial.proofs.Lemmas.{meets_rules, run_rules_are_exact}
use Rattle.yt_run.specs.Laws.{IsFaithful, FaithfulTexts}
use Rattle.yt_run.specs.RunText.{ReadBack, read_back, run_text}

is_the_runs : (g : GraphTree) (trace : List Message) → IsSchedulable g trace → (text : List ℕ) → IsFaithful g trace text → (log : Ticks) (lines : List OutLine) → IsPromisedRun g trace log lines
    → text ≡ run_text g log lines
is_the_runs g trace able text is log lines promised =
    let told = read_back g text in
    let promise = (run_rules_are_exact.exact g trace able told.log told.lines).0 is.rules in
    let same = run_rules_are_exact.one g trace able.can told.log log told.lines lines promise promised in
    is.printed ∙ ap₂ (λ (l : Ticks) (o : List OutLine). run_text g l o) same.0 same.1

of_promised : (g : GraphTree) (trace : List Message) (log : Ticks) (lines : List OutLine) → IsPromisedRun g trace log lines
    → read_back g (run_text g log lines) ≡ record { log = log; lines = lines } → IsFaithful g trace (run_text g log lines)
of_promised g trace log lines p back =
    let text = run_text g log lines in
    record {
      rules = subst (λ (r : ReadBack). MeetsRunRules g trace r.log r.lines) (sym back) (meets_rules g trace log lines p);
      printed = ap (λ (r : ReadBack). run_text g r.log r.lines) (sym back);
    }

pub faithful_texts : FaithfulTexts
faithful_texts = record { is_the_runs = is_the_runs; of_promised = of_promised }
