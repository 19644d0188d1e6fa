-- `window::Leaves::expanded_count` meets its contract: one leaf goes, and each fanin variable that is not there yet comes.
-- Assumes nothing.
use Rattle.std.proofs.Common.{◌≡◌, [], sym, ◌∙◌, arith, rules, tests}
use Rattle.graph.specs.Literal.{var_of}
use Rattle.graph.specs.Graph.{over, first, second}
use Rattle.graph.proofs.Use.{first_lower, second_lower}
use Rattle.window.specs.Leaves.{leaf_list}
use Rattle.window.proofs.Along.{leaves_long}
use Rattle.window.proofs.Sizes.{added, leaf_counts, expanded_one, expanded_two}
use Rattle.window.proofs.leaf_set.Leaves.expanded_count.Goals as goal

pub overflow_sub-with_second : goal.overflow_sub-with_second
overflow_sub-with_second c = omega (arith, leaves_long c.args.self _ c.as_slice.ensures, leaf_counts c.requires.3)

pub returns-then-eq : goal.returns-then-eq
returns-then-eq c =
    let net = c.args.graph.now.net in
    let leaf = c.args.leaf.0 in
    let leaves = leaf_list c.args.self in
    let first_is : c.var-first.result.0 ≡ var_of (first net leaf) = cc in
    let second_is : c.var-second.result.0 ≡ var_of (second net leaf) = cc in
    let one : c.var-first.result.0 ≡ c.var-second.result.0 = search (rules, tests) in
    let same : var_of (first net leaf) ≡ var_of (second net leaf) = sym first_is ∙ one ∙ second_is in
    let lower = second_lower (over net []) c.requires.0.lawful leaf c.requires.1 in
    let comes : c.added.result ≡ added (var_of (second net leaf)) leaves = cc in
    let count = expanded_one net leaf leaves c.requires.3 c.requires.2 same (omega arith) in
    omega (arith, comes, leaves_long c.args.self _ c.as_slice.ensures, count)

pub returns : goal.returns
returns c =
    let net = c.args.graph.now.net in
    let leaf = c.args.leaf.0 in
    let leaves = leaf_list c.args.self in
    let first_is : c.var-first.result.0 ≡ var_of (first net leaf) = cc in
    let second_is : c.var-second.result.0 ≡ var_of (second net leaf) = cc in
    let two : ¬ (c.var-first.result.0 ≡ c.var-second.result.0) = search (rules, tests) in
    let apart : ¬ (var_of (first net leaf) ≡ var_of (second net leaf)) = λ e. two (first_is ∙ e ∙ sym second_is) in
    let first_under = first_lower (over net []) c.requires.0.lawful leaf c.requires.1 in
    let second_under = second_lower (over net []) c.requires.0.lawful leaf c.requires.1 in
    let first_comes : c.added-2.result ≡ added (var_of (first net leaf)) leaves = cc in
    let second_comes : c.added.result ≡ added (var_of (second net leaf)) leaves = cc in
    let count = expanded_two net leaf leaves c.requires.3 c.requires.2 apart (omega arith) (omega arith) in
    omega (arith, first_comes, second_comes, leaves_long c.args.self _ c.as_slice.ensures, count)
