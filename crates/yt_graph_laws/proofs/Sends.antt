-- What a handler sends is on its port's outs, by recursion on its picture.
use Rattle.std.proofs.Common.{◌≡◌, ℕ, zero, suc, ◌+◌, ◌-◌, List, length, Option, None, Some, IsSomeAnd, refl, sym, ap, ◌∙◌, subst, slice_get}
use Rattle.std.specs.Prelude.{Bool, true, false, ℤ}
use Rattle.std.specs.List.{All}
use Rattle.std.proofs.lemmas.List.Elements.{All-nil, All-push, All-get_or}
use Rattle.std.proofs.lemmas.Option.{slice_get_within, get_or_from_slice_get}
use Rattle.yt_list.specs.Numbered.{numbered}
use Rattle.yt_list.proofs.Lemmas.{numbered_there}
use Rattle.yt_graph.specs.declared.port.OutHead.{OutHead}
use Rattle.yt_graph.specs.Meaning.{Run, expr_value, expr_ticks, all_values, spend, is_not_zero, choose, turns_of, turns, stmt_run, block_run, start}
use Rattle.yt_graph.specs.Picture.{ExprsTree, no_exprs, more_exprs, StmtTree, set_local, set_var, send, if_only, if_else, repeat, BlockTree, empty, more, PortTree, GraphTree}
use Rattle.yt_graph.specs.WellFormed.{exprs_count, IsOutOfWidth, IsFineStmt, IsFineBlock, IsFinePort, IsWellFormed}
use Rattle.yt_graph_laws.specs.Sends.{IsSendOf, SendsHaveTheirWidth}

values_count : (es : ExprsTree) (locals vars : List ℤ) → length (all_values es locals vars) ≡ exprs_count es
values_count no_exprs locals vars = refl
values_count (more_exprs e rest) locals vars = ap suc (values_count rest locals vars)

module _ (g : GraphTree) (port : PortTree) where
  is_send : (out : ℕ) (es : ExprsTree) (locals vars : List ℤ) → IsOutOfWidth port out (exprs_count es) → IsSendOf port (record { out = out; values = all_values es locals vars })
  is_send out es locals vars (place, is, wide) =
      subst (λ n. IsSomeAnd (numbered port.outs n) (λ (o : OutHead). length (all_values es locals vars) ≡ o.width)) (sym is) (by (slice_get port.outs place) wide)
    where
      by : (o : Option OutHead) → IsSomeAnd o (λ (o : OutHead). o.width ≡ exprs_count es) → IsSomeAnd o (λ (o : OutHead). length (all_values es locals vars) ≡ o.width)
      by None h = h
      by (Some x) h = values_count es locals vars ∙ sym h

  -- a step keeps that all sends are the port's
  abbrev Keeps : (Run → Run) → Type 0
  Keeps f = (s : Run) → All (IsSendOf port) s.sends → All (IsSendOf port) (f s).sends

  turns_keep : (n : ℕ) (body : Run → Run) → Keeps body → Keeps (turns n body)
  turns_keep zero body each s h = h
  turns_keep (suc n) body each s h = turns_keep n body each (body s) (each s h)

  choose_keeps : (z : Bool) (first second : Run → Run) → Keeps first → Keeps second → Keeps (choose z first second)
  choose_keeps true first second f k s h = f s h
  choose_keeps false first second f k s h = k s h

  mutual
    stmt_sends_fit : (a : StmtTree) → IsFineStmt g port a → Keeps (stmt_run a)
    stmt_sends_fit (set_local i e) fine s h = h
    stmt_sends_fit (set_var i e) fine s h = h
    stmt_sends_fit (send o es) fine s h = All-push (IsSendOf port) s.sends _ h (is_send o es s.locals s.vars fine.0)
    stmt_sends_fit (if_only e first) fine s h =
        choose_keeps (is_not_zero (expr_value e s.locals s.vars)) (block_run first) (λ t. t) (block_sends_fit first fine.1) (λ t k. k) (spend (expr_ticks e + 1) s) h
    stmt_sends_fit (if_else e first second) fine s h =
        choose_keeps (is_not_zero (expr_value e s.locals s.vars)) (λ t. spend 1 (block_run first t)) (block_run second) (λ t k. block_sends_fit first fine.1 t k) (block_sends_fit second fine.2) (spend (expr_ticks e + 1) s) h
    stmt_sends_fit (repeat e most body) fine s h =
        turns_keep (turns_of (expr_value e s.locals s.vars) most) (λ t. spend 1 (block_run body t)) (λ t k. block_sends_fit body fine.2 t k) (spend (expr_ticks e + 1) s) h

    block_sends_fit : (b : BlockTree) → IsFineBlock g port b → Keeps (block_run b)
    block_sends_fit empty fine s h = h
    block_sends_fit (more a rest) fine s h = block_sends_fit rest fine.1 (stmt_run a s) (stmt_sends_fit a fine.0 s h)

-- what is said of each port holds of the one at a place
port_at : (g : GraphTree) → IsWellFormed g → (place : ℕ) (port : PortTree) → slice_get g.ports place ≡ Some port → IsFinePort g port
port_at g fine place port at =
    subst (IsFinePort g) (get_or_from_slice_get g.ports place port port at) (All-get_or (IsFinePort g) g.ports place port (slice_get_within g.ports place port at) fine.each_port)

pub sends_have_their_width : SendsHaveTheirWidth
sends_have_their_width g fine number port at message vars =
    let is = port_at g fine (number - 1) port (numbered_there g.ports number port at).1 in
    block_sends_fit g port port.body is.10 (start port.locals message vars) (All-nil (IsSendOf port))
