use Rattle.std.proofs.Common.{refl}
use Rattle.std.specs.Borrow.{Bor}
use Rattle.yt_graph.specs.declared.ast.PortDecl.{PortDecl}
use Rattle.yt_graph.specs.AstPicture.{port_decl_tree}
use Rattle.yt_name_faults.specs.declared.part.PortPart.{PortPart}
use Rattle.yt_name_faults.proofs.TreeLemmas.{cut}
use Rattle.yt_name_faults.proofs.ListLemmas.{grows, grows_by}
use Rattle.yt_name_faults.proofs.part.add_ports.Goals as goal

pub loop-decl-preserved : goal.loop-decl-preserved
loop-decl-preserved c =
    let here = cut c.args.decls.now c.loop-decl.decl-index c.decl-item.result c.loop-decl-test.true c.decl-item.is in
    record {
      all = grows (λ (p : Bor PortDecl). port_decl_tree p.now) port_decl_tree c.loop-decl.all.items c.push-in-loop-decl.new.self.items _ c.decl-item.result _ _ _
          c.in_ok-push-2.ensures.items refl here c.loop-decl.invariant.all;
      ports = grows_by (λ (p : PortPart). p.decl.now) c.loop-decl.ports.items c.push.new.self.items _ c.decl-item.result _ _ _
          c.in_ok-push.ensures.items refl here c.loop-decl.invariant.ports;
    }
