-- Why a verdict on a graph's text comes.
use Rattle.std.specs.Prelude.{◌≡◌, ℕ, false, List}
use Rattle.yt_graph.specs.AstPicture.{ItemTree}
use Rattle.yt_graph.specs.Picture.{GraphTree}
use Rattle.yt_name_faults.specs.declared.fault.NameFault.{NameFault}
use Rattle.yt_cost.specs.declared.fault.CostFault.{CostFault}
use Rattle.yt_rates.specs.declared.fault.RateFault.{RateFault}
use Rattle.yt_answer.specs.declared.verdict.Verdict.{Verdict}
use Rattle.yt_answer.specs.declared.verdict.Verdict.TheVariants.{Graph}
use Rattle.yt_admit.specs.Calls.{has_call}
use Rattle.yt_admit.specs.Lines.{IsCostLine, IsNameLine, IsRateLine}
use Rattle.yt_admit.specs.Stages as stage
use Rattle.yt_admit.specs.Stages.{stage_of}
use Rattle.yt_admit.specs.Trees.{IsTreeOf, TreeCause, IsTreeText, tree_verdict}

-- why a verdict on a tree comes, where `Asked` says why one on its graph does: its names, its costs or its rates have this first
-- fault; or all of them are in order
pub data StageCause (items : List ItemTree) (Asked : GraphTree → Type 0) : Type 0 where
  misnamed : (fault : NameFault) → stage_of items ≡ stage.misnamed fault → StageCause items Asked
  costly : (graph : GraphTree) (fault : CostFault) → stage_of items ≡ stage.costly graph fault → StageCause items Asked
  misrated : (graph : GraphTree) (fault : RateFault) → stage_of items ≡ stage.misrated graph fault → StageCause items Asked
  rated : (graph : GraphTree) → stage_of items ≡ stage.rated graph → Asked graph → StageCause items Asked

-- the verdict, where `of` is that on the graph
abbrev pub stage_verdict : {items : List ItemTree} {Asked : GraphTree → Type 0} → ((graph : GraphTree) → Asked graph → Verdict) → StageCause items Asked → Verdict
stage_verdict of (misnamed fault is) = Graph
stage_verdict of (costly graph fault is) = Graph
stage_verdict of (misrated graph fault is) = Graph
stage_verdict of (rated graph is why) = of graph why

-- its text, where `of` is that of the verdict on the graph
abbrev pub IsStageText : {items : List ItemTree} {Asked : GraphTree → Type 0} → ((graph : GraphTree) → Asked graph → List ℕ → Type 0) → StageCause items Asked → List ℕ → Type 0
IsStageText of (misnamed fault is) told = IsNameLine told fault
IsStageText of (costly graph fault is) told = IsCostLine told graph fault
IsStageText of (misrated graph fault is) told = IsRateLine told graph fault
IsStageText of (rated graph is why) told = of graph why told

-- why a verdict on a graph's text comes, where `Asked` says why one on its tree and its graph does
abbrev pub GraphCause : List ℕ → (List ItemTree → GraphTree → Type 0) → Type 0
GraphCause text Asked = TreeCause text (λ items. StageCause items (Asked items))

-- the verdict, where `of` is that on the tree and the graph
abbrev pub graph_verdict : {text : List ℕ} {Asked : List ItemTree → GraphTree → Type 0} →
    ((items : List ItemTree) (graph : GraphTree) → Asked items graph → Verdict) → GraphCause text Asked → Verdict
graph_verdict of cause = tree_verdict (λ items why. stage_verdict (of items) why) cause

-- its text, where `of` is that of the verdict on the tree and the graph
abbrev pub IsGraphText : {text : List ℕ} {Asked : List ItemTree → GraphTree → Type 0} →
    ((items : List ItemTree) (graph : GraphTree) → Asked items graph → List ℕ → Type 0) → GraphCause text Asked → List ℕ → Type 0
IsGraphText of cause told = IsTreeText (λ items why line. IsStageText (of items) why line) cause told

-- a graph's text has this tree, which calls no operator, and stands for this graph, whose names, costs and rates are in order
pub record IsRated (text : List ℕ) (items : List ItemTree) (graph : GraphTree) : Type 0 where
  pub is_tree : IsTreeOf text items
  pub no_call : has_call items ≡ false
  pub stage : stage_of items ≡ stage.rated graph

-- why a graph's text gives no graph with rates
abbrev pub Refusal : List ℕ → Type 0
Refusal text = GraphCause text (λ items graph. ⊥)

-- the verdict on such a text
abbrev pub refusal_verdict : {text : List ℕ} → Refusal text → Verdict
refusal_verdict cause = graph_verdict (λ items graph why. absurd why) cause

-- its text
abbrev pub IsRefusalText : {text : List ℕ} → Refusal text → List ℕ → Type 0
IsRefusalText cause told = IsGraphText (λ items graph why line. ⊥) cause told
