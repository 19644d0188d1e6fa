-- `window::Leaves::insert` meets its contract.
-- Assumes nothing.
use Rattle.std.proofs.Common.{◌≡◌, ℕ, List, [], ◌++◌, sym, ap, ap₂, ◌∙◌, arith, rules, tests}
use Rattle.window.specs.Growing.{grown_of}
use Rattle.window.proofs.Growing.{list_of, tidy_of, insert_zero, insert_put}
use Rattle.window.proofs.leaf_set.Leaves.insert.Goals as goal

pub follow-requires : goal.follow-requires
follow-requires c = tidy_of _ [] c.none.ensures (omega arith)

pub returns-then-eq : goal.returns-then-eq
returns-then-eq c =
    let nothing : c.args.v.0 ≡ 0 = search (rules, tests) in
    c.follow.ensures
    ∙ ap grown_of (ap₂ (λ (xs ys : List ℕ). xs ++ ys) (list_of _ [] c.none.ensures) c.as_slice.ensures ∙ sym (insert_zero _ _ nothing))

pub returns : goal.returns
returns c =
    let something : ¬ (c.args.v.0 ≡ 0) = search (rules, tests) in
    c.put.ensures ∙ sym (ap grown_of (insert_put _ _ something))
