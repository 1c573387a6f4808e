use Rattle.yt_grammar.proofs.written.WellFormed as laws
use Rattle.yt_grammar.proofs.grammar_laws.spelled_is_writable.Goals as goal

pub returns : goal.returns
returns c = laws.spelled_is_writable
