use Rattle.std.proofs.Common.{ℕ, ◌<◌, sym, subst}
use Rattle.yt_chan.specs.declared.target.Arrived.{Arrived}
use Rattle.yt_chan.specs.declared.target.Arrived.TheVariants.{Port}
use Rattle.yt_chan.specs.State.{IsArriving, IsNext, NoneIsLate}
use Rattle.yt_body.specs.Sound.{MayCome}
use Rattle.yt_body.specs.Steps.{Comes}
use Rattle.yt_runner.specs.Inside.Going.{IsDelivering, waiting_in}
use Rattle.yt_runner.specs.Inside.State.{RunnerState}
use Rattle.yt_runner.proofs.Delivering.{all_placed, fewer_wait, may_come, none_late}
use Rattle.yt_runner.proofs.running.Running.deliver.Goals as goal

pub deliver-requires-clause-none_late : goal.deliver-requires-clause-none_late
deliver-requires-clause-none_late c =
    let i = c.self.inside in
    subst (λ (now : ℕ). NoneIsLate i.handlers.channels now) (sym c.now.ensures) (none_late c.handlers_go_on.ensures _ (subst IsDelivering (sym c.self.view_is) c.requires.delivering))

pub deliver-requires-clause-may : goal.deliver-requires-clause-may
deliver-requires-clause-may c =
    let i = c.self.inside in
    subst (λ (now : ℕ). (port : ℕ) → IsNext i.handlers.channels now (Port port) → MayCome i.handlers port now) (sym c.now.ensures)
    (may_come c.handlers_go_on.ensures _ (subst IsDelivering (sym c.self.view_is) c.requires.delivering))

pub returns-in_default-clause-delivered : goal.returns-in_default-clause-delivered
returns-in_default-clause-delivered c =
    let i = c.self.inside in
    all_placed c.handlers_go_on.ensures _ (subst IsDelivering (sym c.self.view_is) c.requires.delivering) c.deliver.new.self c.in_default.ensures.comes
    (subst (λ (now : ℕ). (target : Arrived) → IsArriving i.handlers.channels now target → ⊥) c.now.ensures c.in_default.ensures.none)

pub returns-clause-delivered : goal.returns-clause-delivered
returns-clause-delivered c =
    let i = c.self.inside in
    let target = c.in-Some.target in
    let after = c.deliver.new.self in
    let next = c.tell.new.self in
    let told = c.in_ok-tell.ensures in
    let comes = subst (λ (now : ℕ). Comes i.handlers now target after) c.now.ensures c.in-Some.ensures.comes in
    let less = fewer_wait c.handlers_go_on.ensures _ (subst IsDelivering (sym c.self.view_is) c.requires.delivering) target after comes next told.same.parts told.body in
    (told.delivering, subst (λ (s : RunnerState). waiting_in next < waiting_in s) c.self.view_is less)
