use Rattle.std.proofs.Common.{◌≡◌, ℕ, List, refl, ap, subst, ◌∙◌}
use Rattle.yt_answer.specs.declared.verdict.Verdict.TheVariants.{Usage, NotYet, Long}
use Rattle.yt_answer.specs.Code.{status_of}
use Rattle.yt_answer.specs.Due.{not_yet_line}
use Rattle.yt_io.specs.Sink.{AddsFront, add}
use Rattle.yartos.specs.Answer.{IfVerdict}
use Rattle.yartos.specs.Causes.{usage_line}
use Rattle.yartos.specs.FileCauses.{long_line}
use Rattle.yartos.specs.Words.{IsNotBuilt, demo, files_of, judges, misuse, request_of, texts}
use Rattle.yartos.specs.Inside.Found.{command_found}
use Rattle.yartos.specs.Inside.LongFiles.{IsFirstLong}
use Rattle.yartos.proofs.Commands.{first_long}
use Rattle.yartos.proofs.Requests.{due_is_called, not_built_due}
use Rattle.yartos.proofs.Told.{due_for, no_write_fault, or_no_memory, told_whole}
use Rattle.yartos.proofs.top.yartos.Goals as goal

pub returns-in-Misuse-clause-verdict : goal.returns-in-Misuse-clause-verdict
returns-in-Misuse-clause-verdict g c =
    let told = g.S.Shelf.held c.args.shelf.now in
    let words = texts c.args.words.now.items in
    let form : misuse ≡ request_of words = c.in-Misuse.ensures ∙ ap (λ ws. request_of (texts ws)) c.deref.ensures.value in
    let due = due_for told misuse (request_of words) Usage usage_line form (record { cause = tt; verdict = refl; told = refl }) in
    told_whole told words c.tell.result Usage usage_line (λ (t : List ℕ). g.K.Sink.written c.tell.new.out ≡ add (g.K.Sink.written c.args.out.now) t) due c.tell.ensures.told c.tell.ensures.whole

pub returns-in-Misuse-clause-front : goal.returns-in-Misuse-clause-front
returns-in-Misuse-clause-front g c = λ e.
    let told = g.S.Shelf.held c.args.shelf.now in
    let words = texts c.args.words.now.items in
    let form : misuse ≡ request_of words = c.in-Misuse.ensures ∙ ap (λ ws. request_of (texts ws)) c.deref.ensures.value in
    let due = due_for told misuse (request_of words) Usage usage_line form (record { cause = tt; verdict = refl; told = refl }) in
    (status_of Usage, usage_line, record { verdict = Usage; is = refl; due = due }, c.tell.ensures.front e)

pub returns-in-Demo-clause-verdict : goal.returns-in-Demo-clause-verdict
returns-in-Demo-clause-verdict g c =
    let told = g.S.Shelf.held c.args.shelf.now in
    let words = texts c.args.words.now.items in
    let request = demo c.in-Demo.number in
    let form : request ≡ request_of words = c.in-Demo.ensures ∙ ap (λ ws. request_of (texts ws)) c.deref.ensures.value in
    let due = due_for told request (request_of words) NotYet not_yet_line form (not_built_due told request tt) in
    told_whole told words c.tell-in-Demo.result NotYet not_yet_line (λ (t : List ℕ). g.K.Sink.written c.tell-in-Demo.new.out ≡ add (g.K.Sink.written c.args.out.now) t) due c.tell-in-Demo.ensures.told
    c.tell-in-Demo.ensures.whole

pub returns-in-Demo-clause-front : goal.returns-in-Demo-clause-front
returns-in-Demo-clause-front g c = λ e.
    let told = g.S.Shelf.held c.args.shelf.now in
    let words = texts c.args.words.now.items in
    let request = demo c.in-Demo.number in
    let form : request ≡ request_of words = c.in-Demo.ensures ∙ ap (λ ws. request_of (texts ws)) c.deref.ensures.value in
    let due = due_for told request (request_of words) NotYet not_yet_line form (not_built_due told request tt) in
    (status_of NotYet, not_yet_line, record { verdict = NotYet; is = refl; due = due }, c.tell-in-Demo.ensures.front e)

pub returns-in-Demo-clause-no_form : goal.returns-in-Demo-clause-no_form
returns-in-Demo-clause-no_form g c = λ none.
    let words = texts c.args.words.now.items in
    let form : demo c.in-Demo.number ≡ request_of words = c.in-Demo.ensures ∙ ap (λ ws. request_of (texts ws)) c.deref.ensures.value in
    absurd (subst IsNotBuilt (form ∙ none) tt)

pub returns-in-Demo-clause-complete : goal.returns-in-Demo-clause-complete
returns-in-Demo-clause-complete g c = λ held due tells calls shelf sink.
    let told = g.S.Shelf.held c.args.shelf.now in
    let words = texts c.args.words.now.items in
    let request = demo c.in-Demo.number in
    let form : request ≡ request_of words = c.in-Demo.ensures ∙ ap (λ ws. request_of (texts ws)) c.deref.ensures.value in
    let result = c.tell-in-Demo.result in
    let kept = no_write_fault result (status_of NotYet) (g.K.Sink.faults c.args.out.now) (g.K.Sink.faults c.tell-in-Demo.new.out) c.tell-in-Demo.ensures.told c.tell-in-Demo.ensures.failed sink in
    let is = due_for told request (request_of words) NotYet not_yet_line form (not_built_due told request tt) in
    or_no_memory result due (kept ∙ due_is_called told held words NotYet not_yet_line due tells is calls)

pub returns-in-Ok-clause-verdict : goal.returns-in-Ok-clause-verdict
returns-in-Ok-clause-verdict g c =
    let told = g.S.Shelf.held c.args.shelf.now in
    let words = texts c.args.words.now.items in
    let request = judges (command_found c.in-Judges.command) in
    let form : request ≡ request_of words = c.in-Judges.ensures ∙ ap (λ ws. request_of (texts ws)) c.deref.ensures.value in
    let verdict = c.in-Ok.answer.verdict in
    let text = c.in-Ok.answer.text in
    let result = c.tell-in-Ok.result in
    let IsWhole = λ (t : List ℕ). g.K.Sink.written c.tell-in-Ok.new.out ≡ add (g.K.Sink.written c.args.out.now) t in
    let whole = subst (λ t. IfVerdict result (IsWhole t)) c.as_slice.ensures c.tell-in-Ok.ensures.whole in
    told_whole told words result verdict text IsWhole (due_for told request (request_of words) verdict text form c.in-Ok.ensures.due) c.tell-in-Ok.ensures.told whole

pub returns-in-Ok-clause-front : goal.returns-in-Ok-clause-front
returns-in-Ok-clause-front g c = λ e.
    let told = g.S.Shelf.held c.args.shelf.now in
    let words = texts c.args.words.now.items in
    let request = judges (command_found c.in-Judges.command) in
    let form : request ≡ request_of words = c.in-Judges.ensures ∙ ap (λ ws. request_of (texts ws)) c.deref.ensures.value in
    let verdict = c.in-Ok.answer.verdict in
    let text = c.in-Ok.answer.text in
    let front = subst (λ t. AddsFront (g.K.Sink.written c.args.out.now) (g.K.Sink.written c.tell-in-Ok.new.out) t) c.as_slice.ensures (c.tell-in-Ok.ensures.front e) in
    (status_of verdict, text, record { verdict = verdict; is = refl; due = due_for told request (request_of words) verdict text form c.in-Ok.ensures.due }, front)

pub returns-in-Ok-clause-complete : goal.returns-in-Ok-clause-complete
returns-in-Ok-clause-complete g c = λ held due tells calls shelf sink.
    let told = g.S.Shelf.held c.args.shelf.now in
    let words = texts c.args.words.now.items in
    let request = judges (command_found c.in-Judges.command) in
    let form : request ≡ request_of words = c.in-Judges.ensures ∙ ap (λ ws. request_of (texts ws)) c.deref.ensures.value in
    let verdict = c.in-Ok.answer.verdict in
    let text = c.in-Ok.answer.text in
    let result = c.tell-in-Ok.result in
    let kept = no_write_fault result (status_of verdict) (g.K.Sink.faults c.args.out.now) (g.K.Sink.faults c.tell-in-Ok.new.out) c.tell-in-Ok.ensures.told c.tell-in-Ok.ensures.failed sink in
    let is = due_for told request (request_of words) verdict text form c.in-Ok.ensures.due in
    or_no_memory result due (kept ∙ due_is_called told held words verdict text due tells is calls)

pub returns-in-Err-TooLong-clause-verdict : goal.returns-in-Err-TooLong-clause-verdict
returns-in-Err-TooLong-clause-verdict g c =
    let told = g.S.Shelf.held c.args.shelf.now in
    let words = texts c.args.words.now.items in
    let request = judges (command_found c.in-Judges.command) in
    let form : request ≡ request_of words = c.in-Judges.ensures ∙ ap (λ ws. request_of (texts ws)) c.deref.ensures.value in
    let number = c.in-Err-TooLong.number in
    let first : IsFirstLong told (files_of (command_found c.in-Judges.command)) number = rw c.in-Err-TooLong.field-0-is at c.in-Err-TooLong.ensures.long in
    let due = due_for told request (request_of words) Long (long_line number) form (first_long told (command_found c.in-Judges.command) number first) in
    let result = c.tell-in-Err-TooLong.result in
    let IsWhole = λ (t : List ℕ). g.K.Sink.written c.tell-in-Err-TooLong.new.out ≡ add (g.K.Sink.written c.args.out.now) t in
    let whole = subst (λ t. IfVerdict result (IsWhole t)) (c.bytes.ensures.value ∙ c.long_line.ensures) c.tell-in-Err-TooLong.ensures.whole in
    told_whole told words result Long (long_line number) IsWhole due c.tell-in-Err-TooLong.ensures.told whole

pub returns-in-Err-TooLong-clause-front : goal.returns-in-Err-TooLong-clause-front
returns-in-Err-TooLong-clause-front g c = λ e.
    let told = g.S.Shelf.held c.args.shelf.now in
    let words = texts c.args.words.now.items in
    let request = judges (command_found c.in-Judges.command) in
    let form : request ≡ request_of words = c.in-Judges.ensures ∙ ap (λ ws. request_of (texts ws)) c.deref.ensures.value in
    let number = c.in-Err-TooLong.number in
    let first : IsFirstLong told (files_of (command_found c.in-Judges.command)) number = rw c.in-Err-TooLong.field-0-is at c.in-Err-TooLong.ensures.long in
    let due = due_for told request (request_of words) Long (long_line number) form (first_long told (command_found c.in-Judges.command) number first) in
    let result = c.tell-in-Err-TooLong.result in
    let front = subst (λ t. AddsFront (g.K.Sink.written c.args.out.now) (g.K.Sink.written c.tell-in-Err-TooLong.new.out) t) (c.bytes.ensures.value ∙ c.long_line.ensures) (c.tell-in-Err-TooLong.ensures.front e) in
    (status_of Long, long_line number, record { verdict = Long; is = refl; due = due }, front)

pub returns-in-Err-TooLong-clause-complete : goal.returns-in-Err-TooLong-clause-complete
returns-in-Err-TooLong-clause-complete g c = λ held status tells calls shelf sink.
    let told = g.S.Shelf.held c.args.shelf.now in
    let words = texts c.args.words.now.items in
    let request = judges (command_found c.in-Judges.command) in
    let form : request ≡ request_of words = c.in-Judges.ensures ∙ ap (λ ws. request_of (texts ws)) c.deref.ensures.value in
    let number = c.in-Err-TooLong.number in
    let first : IsFirstLong told (files_of (command_found c.in-Judges.command)) number = rw c.in-Err-TooLong.field-0-is at c.in-Err-TooLong.ensures.long in
    let due = due_for told request (request_of words) Long (long_line number) form (first_long told (command_found c.in-Judges.command) number first) in
    let result = c.tell-in-Err-TooLong.result in
    let kept = no_write_fault result (status_of Long) (g.K.Sink.faults c.args.out.now) (g.K.Sink.faults c.tell-in-Err-TooLong.new.out) c.tell-in-Err-TooLong.ensures.told c.tell-in-Err-TooLong.ensures.failed sink in
    or_no_memory result status (kept ∙ due_is_called told held words Long (long_line number) status tells due calls)
