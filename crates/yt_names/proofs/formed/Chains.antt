-- Chains of sources that don't come back end at an input.
use Rattle.std.proofs.Common.{◌≡◌, ℕ, zero, suc, ◌+◌, ◌≤◌, List, [], ◌∷◌, length, false, is_some, Option, Some, None, true≢false, slice_get, refl, sym, ap, ◌∙◌, subst, arith}
use Rattle.std.specs.Option.{option_map, option_flatten}
use Rattle.std.proofs.lemmas.List.{length-map}
use Rattle.std.proofs.lemmas.Option.{slice_get-map, slice_get_within}
use Rattle.yt_graph.specs.declared.ast.Word.{Word}
use Rattle.yt_graph.specs.declared.ast.Source as source
use Rattle.yt_graph.specs.declared.ast.Source.{Source}
use Rattle.yt_graph.specs.declared.operator.OpHead.{OpHead}
use Rattle.yt_graph.specs.AstPicture.{PortDeclTree, ItemTree}
use Rattle.yt_graph.specs.WellFormed.{EndsWithin}
use Rattle.yt_name_faults.specs.Paths.{look_up, source_width, target_port, port_before, ports_before, all_ports, step_back, steps_back}
use Rattle.yt_name_faults.specs.Faults.{width_faults}
use Rattle.yt_names.specs.Resolved.{feed_to, resolved_feed, resolved_ports, resolved}
use Rattle.yt_names.proofs.formed.Lists.{Each, each_get}
use Rattle.yt_names.proofs.formed.Places.{number_is, some_then}
use Rattle.yt_names.proofs.formed.Facts.{NoneBack}
use Rattle.yt_names.proofs.formed.Feeds.{IsFed, leads, path_of, port_there}

-- a chain that leads nowhere within so many steps
abbrev pub IsEnded : List ItemTree → Source → Type 0
IsEnded all s = steps_back (ports_before all) (length (all_ports all)) (port_before all s) ≡ None

-- what is not there
none_is : (o : Option ℕ) → is_some o ≡ false → o ≡ None
none_is None e = refl
none_is (Some n) e = absurd (true≢false e)

-- each port's chain has ended
module _ (all : List ItemTree) where
  pub each_ended : (n : ℕ) (ps : List PortDeclTree) → ((k : ℕ) → slice_get (all_ports all) (n + k) ≡ slice_get ps k) → NoneBack (ports_before all) n ps → Each (λ p. IsEnded all p.source) ps
  each_ended n [] at h = tt
  each_ended n (p ∷ ps) at h =
      let before = ports_before all in
      let here : slice_get (all_ports all) n ≡ Some p = let e : n ≡ n + 0 = omega arith in ap (slice_get (all_ports all)) e ∙ at 0 in
      let step : step_back before (Some n) ≡ port_before all p.source =
      ap option_flatten (slice_get-map (λ q. port_before all q.source) (all_ports all) n) ∙ ap (λ o. option_flatten (option_map (λ q. port_before all q.source) o)) here in
      let far : steps_back before (suc (length before)) (Some n) ≡ None = none_is _ h.0 in (
        ap (λ k. steps_back before k (port_before all p.source)) (sym (length-map (all_ports all) (λ q. port_before all q.source))) ∙ ap (steps_back before (length before)) (sym step) ∙ far,
        each_ended (n + 1) ps (λ k. let e : n + 1 + k ≡ n + suc k = omega arith in ap (slice_get (all_ports all)) e ∙ at (suc k)) h.1,
      )

  pub all_ended : NoneBack (ports_before all) 0 (all_ports all) → Each (λ p. IsEnded all p.source) (all_ports all)
  all_ended h = each_ended 0 (all_ports all) (λ k. let e : 0 + k ≡ k = omega arith in ap (slice_get (all_ports all)) e) h

module _ (all : List ItemTree) (ops : List OpHead) (fed : Each (IsFed all) (all_ports all)) (few : length (all_ports all) ≤ 64) where
  -- so the chain in the graph ends within so many ports
  pub ends : (n : ℕ) (port : Word) (params : ℕ) (s : Source) → width_faults port params (source_width all s) ≡ []
      → steps_back (ports_before all) n (port_before all s) ≡ None → EndsWithin (resolved all ops) n (resolved_feed all s)
  unfolding port_before resolved
  ends n port params (source.TheVariants.Input w) f e = tt
  ends zero port params (source.TheVariants.Out path) f e =
      let t = path_of all port params path f in
      let there : target_port (look_up all path) ≡ Some t.0.port = ap target_port t.1 in
      absurd (true≢false (sym (ap is_some there) ∙ ap is_some e))
  ends (suc n) port params (source.TheVariants.Out path) f e =
      let before = ports_before all in
      let t = path_of all port params path f in
      let l = leads all path t.0 t.1 in
      let in_ports = slice_get_within (all_ports all) t.0.port l.port l.at_port in
      let next = each_get (IsFed all) (all_ports all) t.0.port l.port fed l.at_port in
      let step : step_back before (target_port (look_up all path)) ≡ port_before all l.port.source =
      ap (λ r. step_back before (target_port r)) t.1
      ∙ ap option_flatten (slice_get-map (λ q. port_before all q.source) (all_ports all) t.0.port)
      ∙ ap (λ o. option_flatten (option_map (λ q. port_before all q.source) o)) l.at_port in
      let rest = ends n l.port.name (length l.port.params) l.port.source next.0 (ap (steps_back before n) (sym step) ∙ e) in
      subst (λ r. EndsWithin (resolved all ops) (suc n) (feed_to r)) (sym t.1) (
        t.0.port,
        number_is t.0.port (omega arith),
        some_then (λ q. q.feed ≡ resolved_feed all l.port.source) (λ q. EndsWithin (resolved all ops) n q.feed) (slice_get (resolved_ports all ops 0 all) t.0.port)
            (λ q m. subst (EndsWithin (resolved all ops) n) (sym m) rest)
            (port_there (λ q. q.feed) (λ p. resolved_feed all p.source) all ops (λ owner key vars first p. refl) t.0.port l.port l.at_port),
      )
