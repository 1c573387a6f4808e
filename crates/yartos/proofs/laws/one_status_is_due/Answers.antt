use Rattle.yartos.specs.Words.{request_of}
use Rattle.yartos.proofs.Requests.{answer_is_called, answered_once, called_once, request_held}
use Rattle.yartos.proofs.laws.one_status_is_due.Goals as goal

pub returns : goal.returns
returns c = record { answered = answered_once; called = called_once; met = answer_is_called; readable = λ held words status calls cannot. request_held held (request_of words) calls.cause cannot }
