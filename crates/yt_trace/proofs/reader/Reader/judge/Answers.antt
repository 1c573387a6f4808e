use Rattle.std.proofs.Common.{Option, ap, ◌∙◌}
use Rattle.yt_trace.specs.declared.message_fault.MessageFault.{MessageFault}
use Rattle.yt_trace.specs.TraceText.{unless}
use Rattle.yt_trace.specs.Inside.Reading.{TraceSoFar}
use Rattle.yt_trace.proofs.Judging.{last_fits, period_fits, tested_answer, tested_is, tested_next}
use Rattle.yt_trace.proofs.reader.Reader.judge.Goals as goal

pub message_fault-requires-clause-last : goal.message_fault-requires-clause-last
message_fault-requires-clause-last c =
    let read : TraceSoFar = record { inputs = c.self.inside.inputs; trace = c.self.inside.trace } in
    last_fits read c.args.self.now c.self.inside.last.times c.in-Some.number c.in-Some.input.now c.of-last.result c.self.view_is c.self.invariant c.in-Some.ensures.1 c.of-last.ensures

pub message_fault-requires-clause-period : goal.message_fault-requires-clause-period
message_fault-requires-clause-period c =
    let read : TraceSoFar = record { inputs = c.self.inside.inputs; trace = c.self.inside.trace } in
    period_fits read c.args.self.now c.self.inside.last.times c.in-Some.number c.in-Some.input.now c.self.view_is c.self.invariant c.in-Some.ensures.1

pub returns-in-Some-message_fault-clause-answer : goal.returns-in-Some-message_fault-clause-answer
returns-in-Some-message_fault-clause-answer c =
    let read : TraceSoFar = record { inputs = c.self.inside.inputs; trace = c.self.inside.trace } in
    let tested = tested_is read c.args.self.now c.self.inside.last.times c.in-Some.number c.args.name.now c.in-Some.input.now c.of-last.result c.latest_time-latest.result c.len.result
    c.self.view_is c.self.invariant c.in-Some.ensures.0 c.in-Some.ensures.1 c.of-last.ensures c.latest_time-latest.ensures c.len.ensures.len in
    tested_answer c.args.self.now c.in-Some.number c.args.name.now c.in-Some.input.now c.of-last.result c.latest_time-latest.result c.len.result c.args.time c.args.width c.message_fault.result tested
    c.message_fault.ensures.answer ∙
    ap (λ (o : Option MessageFault). unless o c.in-Some.number) c.in-Some-message_fault.is

pub returns-in-None-clause-answer : goal.returns-in-None-clause-answer
returns-in-None-clause-answer c =
    let read : TraceSoFar = record { inputs = c.self.inside.inputs; trace = c.self.inside.trace } in
    let tested = tested_is read c.args.self.now c.self.inside.last.times c.in-Some.number c.args.name.now c.in-Some.input.now c.of-last.result c.latest_time-latest.result c.len.result
    c.self.view_is c.self.invariant c.in-Some.ensures.0 c.in-Some.ensures.1 c.of-last.ensures c.latest_time-latest.ensures c.len.ensures.len in
    tested_answer c.args.self.now c.in-Some.number c.args.name.now c.in-Some.input.now c.of-last.result c.latest_time-latest.result c.len.result c.args.time c.args.width c.message_fault.result tested
    c.message_fault.ensures.answer ∙
    ap (λ (o : Option MessageFault). unless o c.in-Some.number) c.in-None.is

pub returns-in-None-clause-next : goal.returns-in-None-clause-next
returns-in-None-clause-next c =
    let read : TraceSoFar = record { inputs = c.self.inside.inputs; trace = c.self.inside.trace } in
    let tested = tested_is read c.args.self.now c.self.inside.last.times c.in-Some.number c.args.name.now c.in-Some.input.now c.of-last.result c.latest_time-latest.result c.len.result
    c.self.view_is c.self.invariant c.in-Some.ensures.0 c.in-Some.ensures.1 c.of-last.ensures c.latest_time-latest.ensures c.len.ensures.len in
    tested_next c.args.self.now c.in-Some.number c.args.name.now c.in-Some.input.now c.of-last.result c.latest_time-latest.result c.len.result c.args.time c.args.width tested c.in-None.ensures.fine
