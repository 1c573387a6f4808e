use Rattle.std.proofs.Common.{◌≡◌, ◌+◌, None, Some, subst}
use Rattle.yt_list.specs.Numbered.{numbered}
use Rattle.yt_trace.specs.TraceText.{input_named}
use Rattle.yt_trace.specs.Inside.Reading.{TraceSoFar}
use Rattle.yt_trace.proofs.Judging.{at_place, named_at, named_none}
use Rattle.yt_trace.proofs.reader.Reader.input_named.Goals as goal

pub returns-in_err-place : goal.returns-in_err-place
returns-in_err-place c =
    rw c.from_residual.ensures (subst (λ (r : TraceSoFar). input_named r.inputs c.args.name.now ≡ None) c.self.view_is (named_none c.self.inside.inputs c.args.name.now c.in_err-place.ensures.first))

pub returns : goal.returns
returns c =
    let inputs = c.self.inside.inputs in
    let place = c.in_ok-place.place in
    let input = c.index-all-place.result in
    subst (λ (r : TraceSoFar). (input_named r.inputs c.args.name.now ≡ Some (place + 1)) × (numbered r.inputs (place + 1) ≡ Some input)) c.self.view_is
    (named_at inputs c.args.name.now place c.in_ok-place.ensures.first, at_place inputs c.all.result.now place input c.in_ok-place.ensures.within c.all.ensures c.index-all-place.is)
