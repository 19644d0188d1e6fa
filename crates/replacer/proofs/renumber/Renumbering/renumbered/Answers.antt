-- `replacer::renumber::Renumbering::renumbered` meets its contract: the variable's number is looked up, and the literal stays plain or
-- a complement.
-- Assumes nothing.
use mathlib.Core.Path.{◌≡◌, ap}
use Prim.Native.Nat.{ℕ}
use native.Mathlib.Omega.{arith}
use lib.ListN.{get_or}
use Rattle.graph.specs.Literal.{var_of}
use Rattle.replacer.specs.Finishing.{by_numbers}
use Rattle.replacer.proofs.renumber.Renumbering.renumbered.Goals as goal

pub returns : goal.returns
unfolding by_numbers
returns c =
    let e : c.at-at.result ≡ var_of c.args.l.0 = omega arith in
    omega (arith, ap (λ (v : ℕ). get_or c.args.self.now.numbers v 0) e)
