-- `window::Leaves::as_slice` meets its contract.
-- Assumes nothing.
use Rattle.std.proofs.Common.{◌≡◌, ℕ, length, take, ap, ◌∙◌, rules}
use Rattle.window.specs.Leaves.{numbers}
use Rattle.window.proofs.Along.{length_held, leaves_front}
use Rattle.window.proofs.leaf_set.Leaves.as_slice.Goals as goal

pub returns : goal.returns
returns c =
    let six : length c.args.self.now.places ≡ 6 = search (rules, length_held) in
    ap (λ (n : ℕ). numbers (take n c.args.self.now.places)) c.min.ensures ∙ leaves_front c.args.self.now six
