-- Compiled code that is executed alone does what the handler means.
use Rattle.std.proofs.Common.{◌≡◌, ℕ, ◌+◌, ◌-◌, List, [], ◌∷◌, ◌++◌, length, Some, refl, sym, ap, ◌∙◌, subst, arith, append-nil}
use Rattle.std.specs.Prelude.{ℤ, slice_get}
use Rattle.yt_graph.specs.Picture.{PortTree, GraphTree}
use Rattle.yt_graph.specs.Meaning.{Run, spend, block_run, start, handling_of, handling}
use Rattle.yt_code.specs.declared.instr.Instr.{Instr}
use Rattle.yt_code.specs.declared.instr.Instr.TheVariants.{End}
use Rattle.yt_code.specs.declared.stepped.Stepped.TheVariants.{Ended}
use Rattle.yt_code.specs.Step.{at_place, step_at}
use Rattle.yt_cost.specs.CodeSizes.{block_size}
use Rattle.yt_cost.specs.Code.{block_code, handler_code, port_code}
use Rattle.yt_cost.specs.CodeFit.{IsHandlerFit}
use Rattle.yt_cost.specs.CodeAlone.{written, advance, tick_alone, ticks_alone, Does, CompiledMeansPort}
use Rattle.yt_cost.proofs.CodeFits.{fits}
use Rattle.yt_cost.proofs.CodePlaces.{has_front, has_back, has_all, length-block_code}
use Rattle.yt_cost.proofs.CodeGoes.{at, block_goes}
use Rattle.yt_cost.proofs.CodeLogs.{counts, logged, on_the_way}

-- the tick at the end
end_tick : (code : List Instr) (p : ℕ) (w : Run) → slice_get code p ≡ Some End → tick_alone code (at p [] [] w) ≡ Some (record { progress = record { machine = at_place p [] [] w.locals; so_far = handling_of (spend 1 w) }; stepped = Ended })
end_tick code p w h =
    ap (λ o. advance (written o (at_place p [] [] w.locals) w.vars w.ticks) (handling_of w) (step_at o (at_place p [] [] w.locals) w.vars)) h
    ∙ ap (λ x. Some (record { progress = record { machine = at_place p [] [] w.locals; so_far = record { vars = w.vars; sends = x; ticks = w.ticks + 1; writes = w.writes ++ [] } }; stepped = Ended })) (append-nil w.sends)
    ∙ ap (λ x. Some (record { progress = record { machine = at_place p [] [] w.locals; so_far = record { vars = w.vars; sends = w.sends; ticks = w.ticks + 1; writes = x } }; stepped = Ended })) (append-nil w.writes)

does_port : (graph : GraphTree) (port : PortTree) → IsHandlerFit graph port → (msg vars : List ℤ) → Does (port_code graph port) msg vars (handling graph port msg vars)
does_port graph port fit msg vars =
    let code = handler_code port.body in
    let w = start port.locals msg vars in
    let a = at 0 [] [] w in
    let last = at (0 + block_size port.body) [] [] (block_run port.body w) in
    let has = has_all code [] in
    let way = (block_goes code port.locals (length graph.vars) port.body 0 [] [] w (fits graph port fit).body (has_front code 0 (block_code port.body 0) (End ∷ []) has)).by 0 in
    let end = (has_back code 0 (block_size port.body) (block_code port.body 0) (End ∷ []) (length-block_code port.body 0) has).0 in
    let taken = counts code way.0 a last way.1 in
    let ticks : way.0 ≡ (block_run port.body w).ticks + 1 - 1 = omega (arith, taken) in
    record {
      last = last;
      comes = subst (λ k. ticks_alone code k a ≡ Some last) ticks way.1;
      ends = end_tick code (0 + block_size port.body) (block_run port.body w) end;
      at_end = record {
        ticks = refl;
        vars_now = (logged code a refl way.0 last way.1).all ((block_run port.body w).ticks + 1) (omega arith);
        sends = ([], sym (append-nil (block_run port.body w).sends));
      };
      on_the_way = λ n lt. on_the_way code a refl refl way.0 last way.1 (handling graph port msg vars) refl refl n (omega (arith, taken));
    }

pub means_port : CompiledMeansPort
means_port graph port fit = record { each = does_port graph port fit }
