use Rattle.std.proofs.Common.{◌≤◌, ◌<◌, List, length, sym, subst}
use Rattle.yt_trace.specs.declared.message.Message.{Message}
use Rattle.yt_trace.specs.Traces.{IsTrace, latest_time}
use Rattle.yt_trace.proofs.Adding.{trace_with}
use Rattle.yt_trace.proofs.trace.Trace.push.Goals as goal

pub invariant_of-self-2 : goal.invariant_of-self-2
invariant_of-self-2 c =
    let P : List Message → Type 0 = λ xs. latest_time xs ≤ c.args.message.time in
    let Q : List Message → Type 0 = λ xs. length xs < 200000 in
    let behind = subst P (sym c.self.view_is) c.requires.order in
    let room = subst Q (sym c.self.view_is) c.requires.room in
    subst IsTrace (sym c.in_ok-push.ensures.ok) (trace_with c.self.inside.messages c.args.message c.self.invariant room c.requires.in_time behind)
