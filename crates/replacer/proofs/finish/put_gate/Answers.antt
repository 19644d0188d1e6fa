-- `replacer::finish::put_gate` meets its contract: the two words are stored side by side.
-- Assumes nothing.
use mathlib.Core.List.{[], ◌∷◌}
use native.Mathlib.Numerals.{add-one}
use native.Mathlib.Omega.{arith}
use Rattle.graph.proofs.Lent.{put_bytes}
use Rattle.replacer.specs.Finishing.{by_numbers}
use Rattle.replacer.proofs.finish.put_gate.Goals as goal

pub returns-clause-words_after : goal.returns-clause-words_after
returns-clause-words_after c =
    let a = c.args in
    let ns = a.renumbering.now.numbers in
    rw (add-one a.at, c.renumbered.ensures, c.renumbered-2.ensures)
    (put_bytes a.at (by_numbers ns a.gate.first.0 ∷ by_numbers ns a.gate.second.0 ∷ []) a.words.now (omega arith)).1
