-- `window::Leaves::rest_is_zero` meets its contract.
-- Assumes nothing.
use Rattle.std.proofs.Common.{◌≡◌, eqb, drop, sym, ap, ◌∙◌, rules, tests}
use Rattle.std.proofs.lemmas.Iterator.{YieldsList-from_slice}
use Rattle.std.proofs.lemmas.Iterator.Adapters.{YieldsList-from_skip}
use Rattle.std.proofs.lemmas.Iterator.Consumers.{YieldsList-at}
use Rattle.std.proofs.lemmas.Iterator.Search.{all_from_yields_List}
use Rattle.std.specs.List.{list_all}
use Rattle.graph.specs.declared.lit.Var.{Var}
use Rattle.graph.specs.Lists.{all}
use Rattle.window.proofs.Along.{zero_by_std, numbers_rest}
use Rattle.window.proofs.leaf_set.Leaves.rest_is_zero.Goals as goal

pub returns : goal.returns
returns c =
    let w = c.args.self in
    let tested : c.all.result ≡ list_all (λ (v : Var). eqb v.0 0) (drop w.count w.places) =
    all_from_yields_List (λ (v : Var). eqb v.0 0) _ _ _ c.all.ensures.ran
    (YieldsList-from_skip w.count (YieldsList-at c.skip.ensures.source (YieldsList-from_slice w.places (cc))) (cc)) (λ x b q k. search (rules, tests)) in
    tested ∙ sym (zero_by_std (drop w.count w.places)) ∙ ap (all (λ x. eqb x 0)) (numbers_rest w.places w.count)
