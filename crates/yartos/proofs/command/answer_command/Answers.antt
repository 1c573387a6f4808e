use Rattle.std.proofs.Common.{sym, subst}
use Rattle.yt_cmd_check.specs.Check.{CheckCause, IsCheckText, check_verdict}
use Rattle.yt_cmd_check.specs.Tasks.{IsTasksText, TasksCause, tasks_verdict}
use Rattle.yt_cmd_form.specs.Form.{FormCause, IsFormText, form_verdict}
use Rattle.yt_cmd_play.specs.Causes.{IsPlayText, PlayCause, play_verdict}
use Rattle.yt_cmd_replay.specs.Causes.{IsReplayText, ReplayCause, replay_verdict}
use Rattle.yt_cmd_run.specs.Causes.{IsRunText, IsStopText, RunCause, run_verdict}
use Rattle.yt_cmd_set.specs.Judged.{IsJudgedText, JudgedSetCause, judged_verdict}
use Rattle.yartos.specs.declared.words.Command.TheVariants.{Form, Tasks, Check, Run, Stop, Set, Replay, Play}
use Rattle.yartos.specs.Reads.{IsRead}
use Rattle.yartos.proofs.Commands.{by_command, files_due}
use Rattle.yartos.proofs.FileLemmas.{file_due}
use Rattle.yartos.proofs.command.answer_command.Goals as goal

pub returns-in_ok-form_answer-in-Form-clause-due : goal.returns-in_ok-form_answer-in-Form-clause-due
returns-in_ok-form_answer-in-Form-clause-due g c =
    let told = g.S.Shelf.held c.args.shelf.now in
    let name = c.in-Form.graph.now in
    let bytes = c.deref.result.now in
    let answer = c.in_ok-form_answer-in-Form.field-0 in
    let is = subst (λ b. IsRead told name b) (sym c.deref.ensures.value) c.in_ok-graph-in-Form.ensures.read in
    by_command told c.args.command (Form c.in-Form.graph) answer.verdict answer.text c.in-Form.is
    (file_due told name bytes 1 (λ b. FormCause b) (λ b why. form_verdict why) (λ b why. IsFormText why) answer.verdict answer.text is c.in_ok-form_answer-in-Form.ensures)

pub returns-in_ok-tasks_answer-in-Tasks-clause-due : goal.returns-in_ok-tasks_answer-in-Tasks-clause-due
returns-in_ok-tasks_answer-in-Tasks-clause-due g c =
    let told = g.S.Shelf.held c.args.shelf.now in
    let name = c.in-Tasks.graph.now in
    let bytes = c.deref-in-Tasks.result.now in
    let answer = c.in_ok-tasks_answer-in-Tasks.field-0 in
    let is = subst (λ b. IsRead told name b) (sym c.deref-in-Tasks.ensures.value) c.in_ok-graph-in-Tasks.ensures.read in
    by_command told c.args.command (Tasks c.in-Tasks.graph) answer.verdict answer.text c.in-Tasks.is
    (file_due told name bytes 1 (λ b. TasksCause b) (λ b why. tasks_verdict why) (λ b why. IsTasksText why) answer.verdict answer.text is c.in_ok-tasks_answer-in-Tasks.ensures)

pub returns-in_ok-check_answer-in-Check-clause-due : goal.returns-in_ok-check_answer-in-Check-clause-due
returns-in_ok-check_answer-in-Check-clause-due g c =
    let told = g.S.Shelf.held c.args.shelf.now in
    let name = c.in-Check.graph.now in
    let bytes = c.deref-in-Check.result.now in
    let answer = c.in_ok-check_answer-in-Check.field-0 in
    let is = subst (λ b. IsRead told name b) (sym c.deref-in-Check.ensures.value) c.in_ok-graph-in-Check.ensures.read in
    by_command told c.args.command (Check c.in-Check.graph) answer.verdict answer.text c.in-Check.is
    (file_due told name bytes 1 (λ b. CheckCause b) (λ b why. check_verdict why) (λ b why. IsCheckText why) answer.verdict answer.text is c.in_ok-check_answer-in-Check.ensures)

pub returns-in_ok-set_answer-in-Set-clause-due : goal.returns-in_ok-set_answer-in-Set-clause-due
returns-in_ok-set_answer-in-Set-clause-due g c =
    let told = g.S.Shelf.held c.args.shelf.now in
    let name = c.in-Set.set.now in
    let bytes = c.deref-in-Set.result.now in
    let answer = c.in_ok-set_answer-in-Set.field-0 in
    let is = subst (λ b. IsRead told name b) (sym c.deref-in-Set.ensures.value) c.in_ok-set-in-Set.ensures.read in
    by_command told c.args.command (Set c.in-Set.set) answer.verdict answer.text c.in-Set.is
    (file_due told name bytes 1 (λ b. JudgedSetCause b) (λ b why. judged_verdict why) (λ b why. IsJudgedText why) answer.verdict answer.text is c.in_ok-set_answer-in-Set.ensures)

pub returns-in_ok-run_answer-in-Run-clause-due : goal.returns-in_ok-run_answer-in-Run-clause-due
returns-in_ok-run_answer-in-Run-clause-due g c =
    let told = g.S.Shelf.held c.args.shelf.now in
    let name = c.in-Run.graph.now in
    let other = c.in-Run.trace.now in
    let x = c.deref-in-Run.result.now in
    let y = c.deref-in-Run-2.result.now in
    let answer = c.in_ok-run_answer-in-Run.field-0 in
    let is = subst (λ b. IsRead told name b) (sym c.deref-in-Run.ensures.value) c.in_ok-graph-in-Run.ensures.first in
    let too = subst (λ b. IsRead told other b) (sym c.deref-in-Run-2.ensures.value) c.in_ok-graph-in-Run.ensures.second in
    by_command told c.args.command (Run c.in-Run.graph c.in-Run.trace) answer.verdict answer.text c.in-Run.is
    (files_due told name other x y (λ g t. RunCause g t) (λ g t why. run_verdict why) (λ g t why. IsRunText why) answer.verdict answer.text is too c.in_ok-run_answer-in-Run.ensures)

pub returns-in_ok-play_answer-in-Play-clause-due : goal.returns-in_ok-play_answer-in-Play-clause-due
returns-in_ok-play_answer-in-Play-clause-due g c =
    let told = g.S.Shelf.held c.args.shelf.now in
    let name = c.in-Play.set.now in
    let other = c.in-Play.plan.now in
    let x = c.deref-in-Play.result.now in
    let y = c.deref-in-Play-2.result.now in
    let answer = c.in_ok-play_answer-in-Play.field-0 in
    let is = subst (λ b. IsRead told name b) (sym c.deref-in-Play.ensures.value) c.in_ok-set-in-Play.ensures.first in
    let too = subst (λ b. IsRead told other b) (sym c.deref-in-Play-2.ensures.value) c.in_ok-set-in-Play.ensures.second in
    by_command told c.args.command (Play c.in-Play.set c.in-Play.plan) answer.verdict answer.text c.in-Play.is
    (files_due told name other x y (λ g t. PlayCause g t) (λ g t why. play_verdict why) (λ g t why. IsPlayText why) answer.verdict answer.text is too c.in_ok-play_answer-in-Play.ensures)

pub returns-in_ok-stop_answer-in-Stop-clause-due : goal.returns-in_ok-stop_answer-in-Stop-clause-due
returns-in_ok-stop_answer-in-Stop-clause-due g c =
    let told = g.S.Shelf.held c.args.shelf.now in
    let name = c.in-Stop.graph.now in
    let other = c.in-Stop.trace.now in
    let x = c.deref-in-Stop.result.now in
    let y = c.deref-in-Stop-2.result.now in
    let answer = c.in_ok-stop_answer-in-Stop.field-0 in
    let is = subst (λ b. IsRead told name b) (sym c.deref-in-Stop.ensures.value) c.in_ok-graph-in-Stop.ensures.first in
    let too = subst (λ b. IsRead told other b) (sym c.deref-in-Stop-2.ensures.value) c.in_ok-graph-in-Stop.ensures.second in
    by_command told c.args.command (Stop c.in-Stop.graph c.in-Stop.trace c.in-Stop.tick) answer.verdict answer.text c.in-Stop.is
    (files_due told name other x y (λ g t. RunCause g t) (λ g t why. run_verdict why) (λ g t why. IsStopText c.in-Stop.tick why) answer.verdict answer.text is too c.in_ok-stop_answer-in-Stop.ensures)

pub returns-in_ok-replay_answer-in-Replay-clause-due : goal.returns-in_ok-replay_answer-in-Replay-clause-due
returns-in_ok-replay_answer-in-Replay-clause-due g c =
    let told = g.S.Shelf.held c.args.shelf.now in
    let name = c.in-Replay.set.now in
    let bytes = c.deref-in-Replay.result.now in
    let answer = c.in_ok-replay_answer-in-Replay.field-0 in
    let is = subst (λ b. IsRead told name b) (sym c.deref-in-Replay.ensures.value) c.in_ok-set-in-Replay.ensures.read in
    by_command told c.args.command (Replay c.in-Replay.set) answer.verdict answer.text c.in-Replay.is
    (file_due told name bytes 1 (λ b. ReplayCause b) (λ b why. replay_verdict why) (λ b why. IsReplayText why) answer.verdict answer.text is c.in_ok-replay_answer-in-Replay.ensures)
