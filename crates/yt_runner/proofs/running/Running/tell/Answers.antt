use Rattle.std.proofs.Common.{ℕ, sym, subst, ◌∙◌}
use Rattle.yt_chan.specs.declared.target.Arrived.{Arrived}
use Rattle.yt_chan.specs.declared.target.Arrived.TheVariants.{Output, Port}
use Rattle.yt_exec.specs.Bodies.{IsKnown}
use Rattle.yt_exec.specs.Moments.{IsNextJob}
use Rattle.yt_exec.specs.StandsFor.{GoesOnWith}
use Rattle.yt_serial.specs.Beginnings.{nth_job}
use Rattle.yt_runner.specs.Inside.Going.{HasCome}
use Rattle.yt_runner.specs.Inside.State.{RunnerState}
use Rattle.yt_runner.proofs.Delivering.{has_room, may_release, output_told, port_told}
use Rattle.yt_runner.proofs.Room.{room_released}
use Rattle.yt_runner.proofs.running.Running.tell.Goals as goal

pub release-requires-clause-room : goal.release-requires-clause-room
release-requires-clause-room c =
    let port = c.in-Port.port in
    let come = subst (λ (s : RunnerState). HasCome s (Port port)) (sym c.self.view_is) (subst (λ (t : Arrived). HasCome c.args.self.now t) c.in-Port.is c.requires.come) in
    has_room c.handlers_go_on.ensures _ port come

pub release-requires-clause-next : goal.release-requires-clause-next
release-requires-clause-next c =
    let port = c.in-Port.port in
    let come = subst (λ (s : RunnerState). HasCome s (Port port)) (sym c.self.view_is) (subst (λ (t : Arrived). HasCome c.args.self.now t) c.in-Port.is c.requires.come) in
    let may = may_release c.handlers_go_on.ensures _ port come in
    subst (λ (n : ℕ). IsNextJob c.self.inside.executive (nth_job port n)) (sym c.number-number.ensures) may.next

pub returns-in-Port-clause-delivering : goal.returns-in-Port-clause-delivering
returns-in-Port-clause-delivering c =
    let port = c.in-Port.port in
    let i = c.self.inside in
    let come = subst (λ (s : RunnerState). HasCome s (Port port)) (sym c.self.view_is) (subst (λ (t : Arrived). HasCome c.args.self.now t) c.in-Port.is c.requires.come) in
    let may = may_release c.handlers_go_on.ensures _ port come in
    let number = c.number-number.ensures in
    let known = subst (λ (n : ℕ). IsKnown i.executive.tasks (nth_job port n)) (sym number) may.known in
    let next = subst (λ (n : ℕ). IsNextJob i.executive (nth_job port n)) (sym number) may.next in
    let e = c.release.ensures in
    let room = room_released come.delivering.mid.room (nth_job port c.number-number.result) known next e.tasks e.spare e.releases in
    let goes = subst (λ (n : ℕ). GoesOnWith i.executive c.release.new.self (nth_job port n)) number e.stands in
    port_told c.handlers_go_on.ensures _ port come c.release.new.self e.tasks e.now room goes

pub returns-in_ok-push-in-Output-clause-delivering : goal.returns-in_ok-push-in-Output-clause-delivering
returns-in_ok-push-in-Output-clause-delivering c =
    let output = c.in-Output.output in
    let come = subst (λ (s : RunnerState). HasCome s (Output output)) (sym c.self.view_is) (subst (λ (t : Arrived). HasCome c.args.self.now t) c.in-Output.is c.requires.come) in
    let of = c.in_ok-line-in-Output.ensures in
    output_told c.handlers_go_on.ensures _ output come c.in_ok-line-in-Output.line (of.time ∙ c.now.ensures) of.output of.values c.push.new.self c.in_ok-push-in-Output.ensures.ok
