use Rattle.std.proofs.Common.{sym}
use Rattle.yt_graph.proofs.AstPictures.{call_is}
use Rattle.yt_graph.proofs.ast_parts.open_ast_expr.Goals as goal

pub returns-in-Call : goal.returns-in-Call
returns-in-Call c =
    let i = c.in-Call in
    sym (call_is c.args.e.now i.name i.args c.deref-in-Call.result.now i.is c.deref-in-Call.ensures.value)
