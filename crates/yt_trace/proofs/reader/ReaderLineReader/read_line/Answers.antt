use Rattle.std.proofs.Common.{◌≡◌, Ok, List, ℤ, Some, None, sym, ap, ◌∙◌}
use Rattle.std.proofs.lemmas.Option.{MatchOption-at_some}
use Rattle.yt_base.specs.Lines.{fields_of}
use Rattle.yt_trace.specs.TraceText.{values_of}
use Rattle.yt_trace.specs.Inside.Lines.{head_of}
use Rattle.yt_trace.specs.Inside.Reading.{TraceSoFar}
use Rattle.yt_trace.proofs.Judging.{read_err, read_ok}
use Rattle.yt_trace.proofs.reader.ReaderLineReader.read_line.Goals as goal

pub returns-in-Err-clause-err : goal.returns-in-Err-clause-err
returns-in-Err-clause-err c =
    let said = c.in-Some.said in
    let values : values_of said.values ≡ Some c.in-Some-2.values =
    MatchOption-at_some (values_of said.values ≡ None) (λ (v : List ℤ). values_of said.values ≡ Some v) c.in-Some-2.values c.in-Some-2.is c.in_ok-values.ensures in
    read_err c.args.self (fields_of c.args.line.now) (head_of said) c.in-Some-2.values c.len.result c.in-Err.fault c.in-Some.ensures values c.len.ensures c.in-Err.ensures.answer

pub returns-clause-ok : goal.returns-clause-ok
returns-clause-ok c =
    let said = c.in-Some.said in
    let values : values_of said.values ≡ Some c.in-Some-2.values =
    MatchOption-at_some (values_of said.values ≡ None) (λ (v : List ℤ). values_of said.values ≡ Some v) c.in-Some-2.values c.in-Some-2.is c.in_ok-values.ensures in
    read_ok c.args.self (fields_of c.args.line.now) (head_of said) c.in-Some-2.values c.len.result c.in-Ok.input c.in-Some.ensures values c.len.ensures c.in-Ok.ensures.answer ∙
    ap (λ (r : TraceSoFar). Ok r) (sym c.in_ok-add-in-Ok.ensures)
