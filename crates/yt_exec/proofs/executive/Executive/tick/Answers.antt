use Rattle.std.proofs.Common.{◌≡◌, ℕ, ◌+◌, ◌-◌, ◌≤◌, ◌^◌, [], length, get_or, refl, sym, ap, subst, ◌∙◌, arith}
use Rattle.yt_log.specs.declared.job.Job.{Job}
use Rattle.yt_ready.specs.declared.entry.Entry.{Entry}
use Rattle.yt_ready.specs.Order.{IsLeast}
use Rattle.yt_order.specs.Falling.{HasOneMore}
use Rattle.yt_ready.specs.Waiting.{Waiting}
use Rattle.yt_exec.specs.Moments.{Moment, after_tick, IsSound}
use Rattle.std.specs.List.{Contains}
use Rattle.yt_exec.proofs.Readings.{floor_read, floors_long, floor_small, none_in, positive}
use Rattle.yt_exec.proofs.Sounds.{sound_less, sound_back, after_fresh}
use Rattle.yt_exec.proofs.Standing.{idle_stands}
use Rattle.yt_exec.proofs.Ticking.{none_left, known_job, free_resource, body_less, body_back, ended_goes_on, more_goes_on}
use Rattle.yt_exec.proofs.executive.Executive.tick.Goals as goal

pub returns-in_default-clause-stands : goal.returns-in_default-clause-stands
returns-in_default-clause-stands g c =
    let old = c.args.self.now in
    let v = c.self.view_is in
    let sound = subst (λ (m : Moment). IsSound m.tasks m.entries m.clock m.releases) v c.self.invariant.0 in
    let none : old.entries ≡ [] = sym (ap (λ (m : Moment). m.entries) v) ∙ c.in_default.ensures.least in
    let empty : c.take_least.new.self.entries ≡ [] = ap (λ (w : Waiting). w.entries) c.in_default.ensures.taken ∙ c.in_default.ensures.least in
    λ plan log legal stands. idle_stands old _ plan log legal stands sound _ (λ e has. none_in old.entries e none has) (λ e has. none_in c.take_least.new.self.entries e empty has)
    (ap (λ (m : Moment). m.tasks) v) (ap (λ (m : Moment). m.clock + 1) v) (ap (λ (m : Moment). m.releases) v) _

pub give_tick-requires-clause-idle : goal.give_tick-requires-clause-idle
give_tick-requires-clause-idle g c =
    let sound = subst (λ (m : Moment). IsSound m.tasks m.entries m.clock m.releases) c.self.view_is c.self.invariant.0 in
    let least = subst (λ (m : Moment). IsLeast m.entries c.in-Some.entry) c.self.view_is c.in-Some.ensures.least in
    rw c.job_of-job.ensures (none_left c.args.self.now sound _ _ _ c.requires.body c.in-Some.entry least.has)

pub give_tick-requires-clause-known : goal.give_tick-requires-clause-known
give_tick-requires-clause-known g c =
    let sound = subst (λ (m : Moment). IsSound m.tasks m.entries m.clock m.releases) c.self.view_is c.self.invariant.0 in
    let least = subst (λ (m : Moment). IsLeast m.entries c.in-Some.entry) c.self.view_is c.in-Some.ensures.least in
    rw c.job_of-job.ensures (known_job c.args.self.now sound _ _ _ c.requires.body c.in-Some.entry least.has)

pub give_tick-requires-clause-free : goal.give_tick-requires-clause-free
give_tick-requires-clause-free g c =
    let sound = subst (λ (m : Moment). IsSound m.tasks m.entries m.clock m.releases) c.self.view_is c.self.invariant.0 in
    let least = subst (λ (m : Moment). IsLeast m.entries c.in-Some.entry) c.self.view_is c.in-Some.ensures.least in
    rw c.job_of-job.ensures (free_resource c.args.self.now sound _ _ _ c.requires.body c.in-Some.entry least)

pub invariant_of-self-in-Last : goal.invariant_of-self-in-Last
invariant_of-self-in-Last g c =
    let i = c.self.inside in
    let clock : i.clock + 1 ≤ 2 ^ 63 = let v = ap (λ (m : Moment). m.clock) c.self.view_is in let r = c.requires.clock in omega arith in
    (sound_less i.tasks.items i.ready.entries i.clock i.releases.items c.self.invariant.0 c.take_least.new.self.entries c.in-Some.entry c.in-Some.ensures.taken clock, c.self.invariant.1)

pub returns-in-Last-clause-body : goal.returns-in-Last-clause-body
returns-in-Last-clause-body g c =
    let v = c.self.view_is in
    let e = c.in-Some.entry in
    let sound = subst (λ (m : Moment). IsSound m.tasks m.entries m.clock m.releases) v c.self.invariant.0 in
    let least = subst (λ (m : Moment). IsLeast m.entries e) v c.in-Some.ensures.least in
    let more = subst (λ (m : Moment). HasOneMore c.take_least.new.self.entries e m.entries) v c.in-Some.ensures.taken in
    let given = rw c.job_of-job.ensures at c.give_tick.ensures.given in
    let still = rw c.job_of-job.ensures at c.give_tick.ensures.may_still in
    let last = rw c.job_of-job.ensures at c.give_tick.ensures.last in
    body_less c.args.self.now sound _ _ _ c.requires.body e least c.take_least.new.self.entries more _ given _
    (ap (λ (m : Moment). m.tasks) v) (ap (λ (m : Moment). m.clock + 1) v) (ap (λ (m : Moment). m.releases) v) _ _ c.give_tick.ensures.tasks still refl (last.0 c.in-Last.is)

pub returns-in-Last-clause-stands : goal.returns-in-Last-clause-stands
returns-in-Last-clause-stands g c =
    let v = c.self.view_is in
    let e = c.in-Some.entry in
    let sound = subst (λ (m : Moment). IsSound m.tasks m.entries m.clock m.releases) v c.self.invariant.0 in
    let least = subst (λ (m : Moment). IsLeast m.entries e) v c.in-Some.ensures.least in
    let more = subst (λ (m : Moment). HasOneMore c.take_least.new.self.entries e m.entries) v c.in-Some.ensures.taken in
    let given = rw c.job_of-job.ensures at c.give_tick.ensures.given in
    let last = rw c.job_of-job.ensures at c.give_tick.ensures.last in
    rw c.job_of-job.ensures (λ plan log legal stands. ended_goes_on c.args.self.now sound _ _ _ c.requires.body e least c.take_least.new.self.entries more _ given _
    (ap (λ (m : Moment). m.tasks) v) (ap (λ (m : Moment). m.clock + 1) v) (ap (λ (m : Moment). m.releases) v) plan log legal stands refl (last.0 c.in-Last.is))

pub overflow_sub-job : goal.overflow_sub-job
overflow_sub-job g c =
    let k : 1 ≤ c.in-Some.entry.task = (c.self.invariant.0.known c.in-Some.entry c.in-Some.ensures.least.has).0 in
    let t : c.job_of-job.result.task ≡ c.in-Some.entry.task = ap (λ (j : Job). j.task) c.job_of-job.ensures in
    omega arith

pub index-floor-requires : goal.index-floor-requires
index-floor-requires g c =
    let k = c.self.invariant.0.known c.in-Some.entry c.in-Some.ensures.least.has in
    let a : 1 ≤ c.in-Some.entry.task = k.0 in
    let b : c.in-Some.entry.task ≤ length c.self.inside.tasks.items = k.1 in
    let t : c.job_of-job.result.task ≡ c.in-Some.entry.task = ap (λ (j : Job). j.task) c.job_of-job.ensures in
    let l = floors_long c.self.inside.tasks.items c.self.inside.floors.items c.self.invariant.1 in
    let o = c.self.inside.floors.ok.0 in
    omega arith

pub after_tick-requires-clause-floor : goal.after_tick-requires-clause-floor
after_tick-requires-clause-floor g c =
    let i = c.self.inside in
    let e = c.in-Some.entry in
    let k = c.self.invariant.0.known e c.in-Some.ensures.least.has in
    let t : c.job_of-job.result.task ≡ e.task = ap (λ (j : Job). j.task) c.job_of-job.ensures in
    let r = c.index-floor.result.now in
    let at : r ≡ get_or i.floors.items (e.task - 1) r = c.index-floor.ensures ∙ ap (λ (n : ℕ). get_or i.floors.items (n - 1) r) t in
    λ f is. floor_small i.tasks.items e.task f c.self.invariant.0.set k.0 k.1 (floor_read i.tasks.items i.floors.items e.task r c.self.invariant.1 k.0 k.1 at ∙ is)

pub push-requires-clause-fresh : goal.push-requires-clause-fresh
push-requires-clause-fresh g c =
    let i = c.self.inside in
    let e = c.in-Some.entry in
    let k = c.self.invariant.0.known e c.in-Some.ensures.least.has in
    let t : c.job_of-job.result.task ≡ e.task = ap (λ (j : Job). j.task) c.job_of-job.ensures in
    let r = c.index-floor.result.now in
    let at : r ≡ get_or i.floors.items (e.task - 1) r = c.index-floor.ensures ∙ ap (λ (n : ℕ). get_or i.floors.items (n - 1) r) t in
    let is : c.after_tick.result ≡ after_tick i.tasks.items i.clock e = c.after_tick.ensures i.tasks.items (floor_read i.tasks.items i.floors.items e.task r c.self.invariant.1 k.0 k.1 at) in
    λ has. after_fresh i.tasks.items i.ready.entries i.clock i.releases.items c.self.invariant.0 c.take_least.new.self.entries e c.in-Some.ensures.taken i.clock
    (subst (λ (x : Entry). Contains c.take_least.new.self.entries x) is has)

pub invariant_of-self-2 : goal.invariant_of-self-2
invariant_of-self-2 g c =
    let i = c.self.inside in
    let e = c.in-Some.entry in
    let k = c.self.invariant.0.known e c.in-Some.ensures.least.has in
    let t : c.job_of-job.result.task ≡ e.task = ap (λ (j : Job). j.task) c.job_of-job.ensures in
    let r = c.index-floor.result.now in
    let at : r ≡ get_or i.floors.items (e.task - 1) r = c.index-floor.ensures ∙ ap (λ (n : ℕ). get_or i.floors.items (n - 1) r) t in
    let is : c.after_tick.result ≡ after_tick i.tasks.items i.clock e = c.after_tick.ensures i.tasks.items (floor_read i.tasks.items i.floors.items e.task r c.self.invariant.1 k.0 k.1 at) in
    let put = subst (λ (x : Entry). HasOneMore c.take_least.new.self.entries x c.push.new.self.entries) is c.push.ensures.added in
    let clock : i.clock + 1 ≤ 2 ^ 63 = let v = ap (λ (m : Moment). m.clock) c.self.view_is in let q = c.requires.clock in omega arith in
    (sound_back i.tasks.items i.ready.entries i.clock i.releases.items c.self.invariant.0 c.take_least.new.self.entries e c.in-Some.ensures.taken c.in-Some.ensures.least c.push.new.self.entries put clock, c.self.invariant.1)

pub returns-clause-body : goal.returns-clause-body
returns-clause-body g c =
    let i = c.self.inside in
    let v = c.self.view_is in
    let e = c.in-Some.entry in
    let k = c.self.invariant.0.known e c.in-Some.ensures.least.has in
    let t : c.job_of-job.result.task ≡ e.task = ap (λ (j : Job). j.task) c.job_of-job.ensures in
    let r = c.index-floor.result.now in
    let at : r ≡ get_or i.floors.items (e.task - 1) r = c.index-floor.ensures ∙ ap (λ (n : ℕ). get_or i.floors.items (n - 1) r) t in
    let is : c.after_tick.result ≡ after_tick i.tasks.items i.clock e = c.after_tick.ensures i.tasks.items (floor_read i.tasks.items i.floors.items e.task r c.self.invariant.1 k.0 k.1 at) in
    let put = subst (λ (x : Entry). HasOneMore c.take_least.new.self.entries x c.push.new.self.entries) is c.push.ensures.added in
    let back = subst (λ (m : Moment). HasOneMore c.take_least.new.self.entries (after_tick m.tasks m.clock e) c.push.new.self.entries) v put in
    let sound = subst (λ (m : Moment). IsSound m.tasks m.entries m.clock m.releases) v c.self.invariant.0 in
    let least = subst (λ (m : Moment). IsLeast m.entries e) v c.in-Some.ensures.least in
    let more = subst (λ (m : Moment). HasOneMore c.take_least.new.self.entries e m.entries) v c.in-Some.ensures.taken in
    let given = rw c.job_of-job.ensures at c.give_tick.ensures.given in
    let still = rw c.job_of-job.ensures at c.give_tick.ensures.may_still in
    let last = rw c.job_of-job.ensures at c.give_tick.ensures.last in
    body_back c.args.self.now sound _ _ _ c.requires.body e least c.take_least.new.self.entries more _ given _
    (ap (λ (m : Moment). m.tasks) v) (ap (λ (m : Moment). m.clock + 1) v) (ap (λ (m : Moment). m.releases) v) _ _ c.give_tick.ensures.tasks still back
    (positive _ (λ z. let l = last.1 z in let m = c.in-More.is in cc))

pub returns-clause-stands : goal.returns-clause-stands
returns-clause-stands g c =
    let i = c.self.inside in
    let v = c.self.view_is in
    let e = c.in-Some.entry in
    let k = c.self.invariant.0.known e c.in-Some.ensures.least.has in
    let t : c.job_of-job.result.task ≡ e.task = ap (λ (j : Job). j.task) c.job_of-job.ensures in
    let r = c.index-floor.result.now in
    let at : r ≡ get_or i.floors.items (e.task - 1) r = c.index-floor.ensures ∙ ap (λ (n : ℕ). get_or i.floors.items (n - 1) r) t in
    let is : c.after_tick.result ≡ after_tick i.tasks.items i.clock e = c.after_tick.ensures i.tasks.items (floor_read i.tasks.items i.floors.items e.task r c.self.invariant.1 k.0 k.1 at) in
    let put = subst (λ (x : Entry). HasOneMore c.take_least.new.self.entries x c.push.new.self.entries) is c.push.ensures.added in
    let back = subst (λ (m : Moment). HasOneMore c.take_least.new.self.entries (after_tick m.tasks m.clock e) c.push.new.self.entries) v put in
    let sound = subst (λ (m : Moment). IsSound m.tasks m.entries m.clock m.releases) v c.self.invariant.0 in
    let least = subst (λ (m : Moment). IsLeast m.entries e) v c.in-Some.ensures.least in
    let more = subst (λ (m : Moment). HasOneMore c.take_least.new.self.entries e m.entries) v c.in-Some.ensures.taken in
    let given = rw c.job_of-job.ensures at c.give_tick.ensures.given in
    let last = rw c.job_of-job.ensures at c.give_tick.ensures.last in
    let some = positive _ (λ z. let l = last.1 z in let m = c.in-More.is in cc) in
    rw c.job_of-job.ensures (λ plan log legal stands. more_goes_on c.args.self.now sound _ _ _ c.requires.body e least c.take_least.new.self.entries more _ given _
    (ap (λ (m : Moment). m.tasks) v) (ap (λ (m : Moment). m.clock + 1) v) (ap (λ (m : Moment). m.releases) v) plan log legal stands back some)
