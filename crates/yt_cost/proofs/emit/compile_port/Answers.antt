use Rattle.std.proofs.Common.{◌≡◌, ◌<◌, ◌^◌, ap, ◌∙◌, sym, subst, arith, length}
use Rattle.yt_graph.specs.Picture.{block_tree, port_tree, graph_tree}
use Rattle.yt_code.specs.Valid.{IsValidCode}
use Rattle.yt_cost.specs.CodeSizes.{block_size}
use Rattle.yt_cost.specs.Code.{port_code}
use Rattle.yt_cost.specs.CodeAlone.{MeansPort}
use Rattle.yt_cost.specs.CodeVars.{UsesVarsOf}
use Rattle.yt_cost.proofs.CodeMade.{handler_code_is}
use Rattle.yt_cost.proofs.CodeMeans.{means_port}
use Rattle.yt_cost.proofs.CodeShort.{short}
use Rattle.yt_cost.proofs.CodeUses.{uses_vars}
use Rattle.yt_cost.proofs.CodeValid.{is_valid}
use Rattle.yt_cost.proofs.emit.compile_port.Goals as goal

pub emit_block-requires : goal.emit_block-requires
emit_block-requires c =
    let small : block_size (block_tree c.args.port.now.body.items) < 2 ^ 32 = short (graph_tree c.args.graph.now) (port_tree c.args.port.now) c.requires.fit in
    omega (arith, small, ap (λ b. block_size (block_tree b)) c.deref.ensures.value)

pub new-requires : goal.new-requires
new-requires c =
    let made = handler_code_is c.push.new.self c.emit_block.new.code c.new-code.result c.deref.result.now c.args.port.now.body.items c.in_ok-push.ensures.ok c.in_ok-emit_block.ensures.code c.new-code.ensures c.deref.ensures.value in
    record {
      valid = subst (λ is. IsValidCode (record { instrs = is; params = c.args.port.now.params; locals = c.args.port.now.locals; vars = c.len-vars.result })) (sym made) (subst (λ n. IsValidCode (record (port_code (graph_tree c.args.graph.now) (port_tree c.args.port.now)) { vars = n })) (sym c.len-vars.ensures) (is_valid (graph_tree c.args.graph.now) (port_tree c.args.port.now) c.requires.fit));
    }

code_is : (c : goal.After-new) → c.new.result ≡ port_code (graph_tree c.args.graph.now) (port_tree c.args.port.now)
code_is c =
    c.new.ensures
    ∙ ap (λ n. record { instrs = c.push.new.self; params = c.args.port.now.params; locals = c.args.port.now.locals; vars = n }) c.len-vars.ensures
    ∙ ap (λ is. record { instrs = is; params = c.args.port.now.params; locals = c.args.port.now.locals; vars = length c.args.graph.now.vars }) (handler_code_is c.push.new.self c.emit_block.new.code c.new-code.result c.deref.result.now c.args.port.now.body.items c.in_ok-push.ensures.ok c.in_ok-emit_block.ensures.code c.new-code.ensures c.deref.ensures.value)

pub returns-clause-meaning : goal.returns-clause-meaning
returns-clause-meaning c =
    subst (λ code. MeansPort (graph_tree c.args.graph.now) code (port_tree c.args.port.now)) (sym (code_is c)) (means_port (graph_tree c.args.graph.now) (port_tree c.args.port.now) c.requires.fit)

pub returns-clause-own_vars : goal.returns-clause-own_vars
returns-clause-own_vars c =
    subst (λ code. UsesVarsOf (graph_tree c.args.graph.now) code (port_tree c.args.port.now)) (sym (code_is c)) (uses_vars (graph_tree c.args.graph.now) (port_tree c.args.port.now))
