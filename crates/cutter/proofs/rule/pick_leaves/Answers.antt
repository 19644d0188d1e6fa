-- `cutter::rule::pick_leaves` meets its contract: where the rule comes to from these leaves, it comes to from the root's fanin variables.
-- The measure is the sum of 2 ^ v over the leaves v, a number of the logic: no machine word holds it. Assumes nothing.
use Rattle.std.proofs.Common.{◌≡◌, ℕ, [], Option, Some, None, refl, sym, ap, ◌∙◌, arith}
use mathlib.Core.Path.{subst⁻¹}
use Rattle.std.proofs.lemmas.Option.{same_Some}
use Rattle.graph.specs.Graph.{Net, Graph, WellFormedNet, IsGate}
use Rattle.window.specs.declared.leaf_set.Leaves.{Leaves}
use Rattle.window.specs.Leaves.{leaf_limit, leaf_list, leaves_of}
use Rattle.window.specs.LeafRule.{with_fanins, expand, Expandable, Chosen, picked}
use Rattle.window.proofs.Expansions.{fanins_length}
use Rattle.window.proofs.Growing.{list_of, fits}
use Rattle.cutter.specs.declared.rule.Choice.{Choice}
use Rattle.cutter.specs.Picking.{best}
use Rattle.cutter.proofs.Picking.{Decided, best_decides, decided_on, decided_off}
use Rattle.cutter.proofs.Picking.{Going, going_start, going_choosing, going_expands, going_more, going_less, going_end}
use Rattle.cutter.proofs.rule.pick_leaves.Goals as goal
use Rattle.cutter.proofs.rule.pick_leaves.Goals.{After-graph-graph, After-with_fanins, In-Some}

-- the same net as a lent graph
known : (c : After-graph-graph) → WellFormedNet c.graph-graph.result.net × IsGate c.graph-graph.result.net c.args.root.0
known c = rw c.graph-graph.ensures.value (c.graph-graph.ensures.well_formed, c.requires)

-- the root's fanin variables have room
begins : (c : After-with_fanins) → c.with_fanins.result ≡ Some (leaves_of (with_fanins c.graph-graph.result.net c.args.root.0 []))
begins c =
    c.with_fanins.ensures
    ∙ rw (list_of _ [] c.none.ensures) (fits _ (omega (arith, fanins_length c.graph-graph.result.net c.args.root.0 [])))

-- the best of all leaves decides
best_decided : {net : Net} {root : ℕ} {w : Leaves} {choice : Option Choice} → Going net root w
    → choice ≡ best net (leaf_list w) (leaf_list w) None
    → Decided net (leaf_list w) choice
best_decided {net} {root} {w} g e = subst⁻¹ (Decided net (leaf_list w)) e (best_decides net (leaf_list w) g.cut.ascending)

taken : (c : In-Some) → let net = c.graph-graph.result.net in let xs = leaf_list c.loop-choice.leaves in let v = c.in-Some.choice.leaf.0 in
    Expandable leaf_limit net xs v × Chosen leaf_limit net xs (expand net xs v)
taken c = decided_on _ _ (best_decided c.loop-choice.invariant c.best_leaf.ensures) c.in-Some.is

pub unwrap-leaves-requires : goal.unwrap-leaves-requires
unwrap-leaves-requires c = rw (begins c) refl

pub loop-choice-init : goal.loop-choice-init
loop-choice-init c =
    let ok = known (goal.at.loop-choice-init c).After-graph-graph in
    going_start _ _ ok.0 ok.1 _
    (same_Some _ _ (sym c.unwrap-leaves.ensures ∙ begins (goal.at.loop-choice-init c).After-with_fanins))

pub expand-requires : goal.expand-requires
expand-requires c =
    let ok = known (goal.at.expand-requires c).After-graph-graph in
    let (leaf, _) = taken (goal.at.expand-requires c).In-Some in
    let within = (going_choosing _ _ ok.0 ok.1 _ c.loop-choice.invariant).within _ leaf.is_leaf in
    (ok.0.inputs_few, record { above = leaf.is_gate; within = within })

pub unwrap-leaves-requires-in-Some : goal.unwrap-leaves-requires-in-Some
unwrap-leaves-requires-in-Some c =
    let ok = known (goal.at.unwrap-leaves-requires-in-Some c).After-graph-graph in
    let (_, on) = taken (goal.at.unwrap-leaves-requires-in-Some c).In-Some in
    rw (going_expands _ _ ok.0 ok.1 _ c.loop-choice.invariant _ on c.expand.ensures) refl

pub loop-choice-smaller : goal.loop-choice-smaller
loop-choice-smaller c =
    let ok = known (goal.at.loop-choice-smaller c).After-graph-graph in
    let (_, on) = taken (goal.at.loop-choice-smaller c).In-Some in
    let g = c.loop-choice.invariant in
    let grown = going_expands _ _ ok.0 ok.1 _ g _ on c.expand.ensures in
    going_less _ _ ok.0 ok.1 _ g _ on _ (same_Some _ _ (sym c.unwrap-leaves-in-Some.ensures ∙ grown))

pub loop-choice-preserved : goal.loop-choice-preserved
loop-choice-preserved c =
    let ok = known (goal.at.loop-choice-preserved c).After-graph-graph in
    let (_, on) = taken (goal.at.loop-choice-preserved c).In-Some in
    let g = c.loop-choice.invariant in
    let grown = going_expands _ _ ok.0 ok.1 _ g _ on c.expand.ensures in
    going_more _ _ ok.0 ok.1 _ g _ on _ (same_Some _ _ (sym c.unwrap-leaves-in-Some.ensures ∙ grown))

pub returns : goal.returns
returns c =
    let ok = known (goal.at.returns c).After-graph-graph in
    let off = decided_off _ _ (best_decided c.loop-choice.invariant c.best_leaf.ensures) c.in_default.is in
    going_end _ _ ok.0 ok.1 _ c.loop-choice.invariant off ∙ ap (λ (g : Graph). picked g.net c.args.root.0) c.graph-graph.ensures.value
