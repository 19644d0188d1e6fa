-- `cutter::rule::best_leaf` meets its contract: with each leaf it comes to the best of those so far.
-- Assumes nothing.
use Rattle.std.proofs.Common.{◌≡◌, ℕ, List, None, refl, ap, ◌∙◌, rules}
use Rattle.std.proofs.lemmas.Fn.{fold_over, serves_by, slice_gives, fronts}
use Rattle.std.proofs.lemmas.Iterator.{YieldsList-from_slice}
use Rattle.std.proofs.lemmas.Iterator.Consumers.{YieldsList-turn}
use Rattle.graph.specs.Lists.{◌∈◌}
use Rattle.graph.specs.declared.lit.Var.{Var}
use Rattle.window.specs.Leaves.{numbers, leaf_list}
use Rattle.cutter.specs.Picking.{best, Choosing}
use Rattle.cutter.proofs.Picking.{leaf_in, best_push}
use Rattle.cutter.proofs.rule.best_leaf.Goals as goal

-- each turn is at a leaf, and changes neither the leaves nor the graph
pub fold-requires-clause-callable : goal.fold-requires-clause-callable
fold-requires-clause-callable c =
    serves_by _ (λ xs q. (q.0.0.now ≡ c.args.leaves) × (q.0.1 ≡ c.args.graph)) (λ xs q x w j r. search rules) _ _ _ _ (refl, refl)
    (λ xs t q x u y e j.
    let at = YieldsList-turn (YieldsList-from_slice _ refl) xs t y _ u x refl e in
    let choosing : Choosing q.0.1.now.net q.0.0.now = rw (j.0, j.1) c.requires in
    let leaf : x.now.0 ∈ leaf_list q.0.0.now =
    rw j.0 (leaf_in c.args.leaves _ (ap numbers c.iter.ensures.rest ∙ c.as_slice.ensures) _ at.0 x.now at.1) in
    search rules)

pub returns : goal.returns
unfolding best numbers
returns c =
    let net = c.args.graph.now.net in
    let xs = leaf_list c.args.leaves in
    fold_over fronts (λ y. y.now) _ (λ ys b. b ≡ best net xs (numbers ys) None) _
    (λ ys a x b f' j k. let more = best_push net xs ys x.now in search rules)
    _ _ _ _ (slice_gives c.iter.result) refl c.fold.ensures.ran
    ∙ ap (λ (vs : List Var). best net xs (numbers vs) None) c.iter.ensures.rest
    ∙ ap (λ (vs : List ℕ). best net xs vs None) c.as_slice.ensures
