use Rattle.std.proofs.Common.{Some, refl}
use Rattle.yt_answer.specs.Code.{status_of}
use Rattle.yartos.specs.Causes.{request_verdict}
use Rattle.yartos.specs.Words.{request_of}
use Rattle.yartos.proofs.Requests.{some_request}
use Rattle.yartos.proofs.laws.some_status_is_due.Goals as goal

pub returns : goal.returns
returns c = λ held words there none.
    some_request held (request_of words) there (λ cause. none (status_of (request_verdict (Some held) (request_of words) cause)) (record { cause = cause; is = refl }))
