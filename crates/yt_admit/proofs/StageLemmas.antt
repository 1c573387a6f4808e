-- Where a graph stands, from what its names, its costs and its rates were found to be.
use Rattle.std.proofs.Common.{◌≡◌, List, [], Some, None, refl, sym, ap, ◌∙◌}
use Rattle.yt_graph.specs.AstPicture.{ItemTree}
use Rattle.yt_graph.specs.Picture.{GraphTree}
use Rattle.yt_name_faults.specs.declared.fault.NameFault.{NameFault}
use Rattle.yt_name_faults.specs.declared.fault.NameFault.TheVariants.{Unknown, Kind, Twice, Width, Limit, Cycle, Memory}
use Rattle.yt_name_faults.specs.Answer.{IsFirstFault}
use Rattle.yt_name_faults.specs.Faults.{name_faults}
use Rattle.yt_name_faults.specs.First.{first_fault, least_with}
use Rattle.yt_names.specs.Resolved.{resolved}
use Rattle.yt_cost.specs.declared.fault.CostFault as cost
use Rattle.yt_cost.specs.declared.fault.CostFault.{CostFault}
use Rattle.yt_cost.specs.Faults.{cost_fault, IsFaultOf}
use Rattle.yt_rates.specs.declared.fault.RateFault.{RateFault}
use Rattle.yt_rates.specs.Faults.{rate_fault}
use Rattle.yt_admit.specs.Stages.{misnamed, costly, misrated, rated, behind_rates, behind_costs, behind_names, stage_of}

none_decides : first_fault [] ≡ None
unfolding least_with
none_decides = refl

-- where names have no fault, the costs decide
names_pass : (items : List ItemTree) → name_faults items [] ≡ [] → stage_of items ≡ behind_costs (resolved items []) (cost_fault (resolved items []))
names_pass items e = ap (behind_names items) (ap first_fault e ∙ none_decides)

-- names and costs without a fault
pub costs_pass : (items : List ItemTree) (graph : GraphTree) → name_faults items [] ≡ [] → graph ≡ resolved items [] → cost_fault graph ≡ None → behind_rates graph (rate_fault graph) ≡ stage_of items
costs_pass items graph e is none =
    let here : cost_fault (resolved items []) ≡ None = sym (ap cost_fault is) ∙ none in
    ap (λ g. behind_rates g (rate_fault g)) is ∙ sym (names_pass items e ∙ ap (behind_costs (resolved items [])) here)

-- costs with a first fault
costs_some : (items : List ItemTree) (graph : GraphTree) (fault : CostFault) → name_faults items [] ≡ [] → graph ≡ resolved items [] → cost_fault graph ≡ Some fault → costly graph fault ≡ stage_of items
costs_some items graph fault e is some =
    let here : cost_fault (resolved items []) ≡ Some fault = sym (ap cost_fault is) ∙ some in
    ap (λ g. costly g fault) is ∙ sym (names_pass items e ∙ ap (behind_costs (resolved items [])) here)

pub behind_cost : (items : List ItemTree) (graph : GraphTree) (fault : CostFault) → name_faults items [] ≡ [] → graph ≡ resolved items [] →
    (fault ≡ cost.TheVariants.Memory → ⊥) → IsFaultOf (cost_fault graph) fault → costly graph fault ≡ stage_of items
behind_cost items graph cost.TheVariants.Memory e is not decides = absurd (not refl)
behind_cost items graph (cost.TheVariants.Long port ticks) e is not decides = costs_some items graph (cost.TheVariants.Long port ticks) e is decides
behind_cost items graph (cost.TheVariants.Sends port out) e is not decides = costs_some items graph (cost.TheVariants.Sends port out) e is decides

-- names with a first fault
names_some : (items : List ItemTree) (fault : NameFault) → first_fault (name_faults items []) ≡ Some fault → misnamed fault ≡ stage_of items
names_some items fault e = sym (ap (behind_names items) e)

pub behind_name : (items : List ItemTree) (fault : NameFault) → (fault ≡ Memory → ⊥) → IsFirstFault (name_faults items []) fault → misnamed fault ≡ stage_of items
behind_name items Memory not e = absurd (not refl)
behind_name items (Unknown p) not e = names_some items (Unknown p) e
behind_name items (Kind p) not e = names_some items (Kind p) e
behind_name items (Twice p) not e = names_some items (Twice p) e
behind_name items (Width p) not e = names_some items (Width p) e
behind_name items (Limit p kind) not e = names_some items (Limit p kind) e
behind_name items (Cycle p) not e = names_some items (Cycle p) e

-- rates without a fault, and with a first one
pub rates_pass : (graph : GraphTree) → rate_fault graph ≡ None → rated graph ≡ behind_rates graph (rate_fault graph)
rates_pass graph e = sym (ap (behind_rates graph) e)

pub rates_some : (graph : GraphTree) (fault : RateFault) → rate_fault graph ≡ Some fault → misrated graph fault ≡ behind_rates graph (rate_fault graph)
rates_some graph fault e = sym (ap (behind_rates graph) e)
