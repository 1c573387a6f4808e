use Rattle.std.proofs.Common.{ℕ, ◌-◌, List, sym, subst}
use Rattle.std.specs.Prelude.{ℤ}
use Rattle.yt_exec.specs.Bodies.{IsKnown}
use Rattle.yt_exec.specs.Moments.{IsNextJob}
use Rattle.yt_exec.specs.StandsFor.{GoesOnWith}
use Rattle.yt_serial.specs.Beginnings.{nth_job}
use Rattle.yt_body.specs.Sound.{MayCome}
use Rattle.yt_body.specs.Steps.{Puts}
use Rattle.yt_body_laws.specs.Placing.{IsFedBy}
use Rattle.yt_runner.specs.Inside.Going.{IsServing}
use Rattle.yt_runner.specs.Inside.State.{RunnerState, graph_of}
use Rattle.yt_runner.proofs.Room.{room_free, room_released}
use Rattle.yt_runner.proofs.Taking.{may_put, put_may_release, put_serves}
use Rattle.yt_runner.proofs.running.Running.put.Goals as goal

pub put-requires-clause-may : goal.put-requires-clause-may
put-requires-clause-may c =
    let x = c.args.message.now in
    let port = c.args.port in
    let serving = subst (λ (s : RunnerState). IsServing s x (port - 1)) (sym c.self.view_is) c.requires.serving in
    let fed = subst (λ (s : RunnerState). IsFedBy (graph_of s) port x.input) (sym c.self.view_is) c.requires.fed in
    let may = may_put _ x port c.requires.from_one serving fed c.handlers_go_on.ensures.read in
    subst (λ (t : ℕ). MayCome c.self.inside.handlers port t) (sym c.now.ensures) may.may

pub release-requires-clause-room : goal.release-requires-clause-room
release-requires-clause-room c =
    let x = c.args.message.now in
    let serving = subst (λ (s : RunnerState). IsServing s x (c.args.port - 1)) (sym c.self.view_is) c.requires.serving in
    room_free serving.mid.telling serving.mid.room

pub release-requires-clause-next : goal.release-requires-clause-next
release-requires-clause-next c =
    let x = c.args.message.now in
    let port = c.args.port in
    let i = c.self.inside in
    let laws = c.handlers_go_on.ensures in
    let after = c.put.new.self in
    let serving = subst (λ (s : RunnerState). IsServing s x (port - 1)) (sym c.self.view_is) c.requires.serving in
    let fed = subst (λ (s : RunnerState). IsFedBy (graph_of s) port x.input) (sym c.self.view_is) c.requires.fed in
    let puts = subst (λ (t : ℕ). Puts i.handlers port x.values t after) c.now.ensures (subst (λ (vs : List ℤ). Puts i.handlers port vs c.now.result after) c.as_slice.ensures c.put.ensures) in
    let may = put_may_release _ x port c.requires.from_one serving fed laws.run laws.read after puts c.vars-sound.ensures.sound in
    subst (λ (n : ℕ). IsNextJob i.executive (nth_job port n)) (sym c.number-number.ensures) may.next

pub returns-clause-serving : goal.returns-clause-serving
returns-clause-serving c =
    let x = c.args.message.now in
    let port = c.args.port in
    let i = c.self.inside in
    let laws = c.handlers_go_on.ensures in
    let after = c.put.new.self in
    let serving = subst (λ (s : RunnerState). IsServing s x (port - 1)) (sym c.self.view_is) c.requires.serving in
    let fed = subst (λ (s : RunnerState). IsFedBy (graph_of s) port x.input) (sym c.self.view_is) c.requires.fed in
    let puts = subst (λ (t : ℕ). Puts i.handlers port x.values t after) c.now.ensures (subst (λ (vs : List ℤ). Puts i.handlers port vs c.now.result after) c.as_slice.ensures c.put.ensures) in
    let may = put_may_release _ x port c.requires.from_one serving fed laws.run laws.read after puts c.vars-sound.ensures.sound in
    let number = c.number-number.ensures in
    let known = subst (λ (n : ℕ). IsKnown i.executive.tasks (nth_job port n)) (sym number) may.known in
    let next = subst (λ (n : ℕ). IsNextJob i.executive (nth_job port n)) (sym number) may.next in
    let e = c.release.ensures in
    let room = room_released serving.mid.room (nth_job port c.number-number.result) known next e.tasks e.spare e.releases in
    let goes = subst (λ (n : ℕ). GoesOnWith i.executive c.release.new.self (nth_job port n)) number e.stands in
    put_serves _ x port c.requires.from_one serving fed laws.run laws.read after puts c.vars-sound.ensures.sound c.release.new.self e.tasks goes e.now room
