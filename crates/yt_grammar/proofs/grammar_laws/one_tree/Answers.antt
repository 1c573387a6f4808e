use Rattle.std.proofs.Common.{◌≡◌, List, [], sym, ◌∙◌}
use Rattle.yt_graph.specs.AstPicture.{ItemTree}
use Rattle.yt_grammar.specs.Inside.Reading.{Reading, got}
use Rattle.yt_grammar.proofs.reading.Graph.{graph_only}
use Rattle.yt_grammar.proofs.grammar_laws.one_tree.Goals as goal

-- what is read of the same tokens is the same
same_read : (items others : List ItemTree) → ◌≡◌ {A = Reading (List ItemTree)} (got items []) (got others []) → items ≡ others
same_read items others e = cc

pub returns : goal.returns
returns c = λ toks items others a b. same_read items others (sym (graph_only toks items a.1) ∙ graph_only toks others b.1)
