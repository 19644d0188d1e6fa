-- `replacer::finish::put_kept` meets its contract: a gate without a mark leaves no words, one with a mark its two, and the literals of a
-- rewired gate are below it and so have numbers.
-- Assumes nothing.
use mathlib.Core.Path.{◌≡◌, ap, sym, ◌∙◌}
use mathlib.Core.Bool.{Bool, true, false}
use mathlib.Core.List.{List, [], ◌∷◌}
use Prim.Native.Nat.{ℕ, suc, ◌+◌, ◌≤◌, ◌<◌}
use native.Mathlib.Omega.{arith}
use lib.ListN.{length, get_or}
use Rattle.graph.specs.Lent.{laid}
use Rattle.graph.specs.Graph.{Net, first, second}
use Rattle.graph.proofs.Lent.{put_bytes}
use Rattle.checker.specs.Marks.{marks_in}
use Rattle.replacement.proofs.Rewire.{in_order}
use Rattle.replacer.specs.Finishing.{by_numbers, kept_words}
use Rattle.replacer.specs.Rewiring.{net_after}
use Rattle.replacer.proofs.Kept.{words_on, words_off}
use Rattle.replacer.proofs.finish.put_kept.Goals as goal

module _ (net : Net) (ms : List Bool) (ns : List ℕ) (v at : ℕ) (lent : List ℕ) where
  put_off : get_or ms v false ≡ false → at + length (kept_words net ms ns v) ≤ length lent
      → (at ≡ at + length (kept_words net ms ns v)) × (lent ≡ laid at (kept_words net ms ns v) lent)
  put_off m room = rw (words_off net ms ns v m) (omega arith, (put_bytes at [] lent (omega arith)).1)

  put_on : get_or ms v false ≡ true → {a b next : ℕ} {after : List ℕ} → a ≡ first net v → b ≡ second net v
      → (next ≡ at + 2) × (after ≡ laid at (by_numbers ns a ∷ by_numbers ns b ∷ []) lent)
      → (next ≡ at + length (kept_words net ms ns v)) × (after ≡ laid at (kept_words net ms ns v) lent)
  put_on m e f put = rw (words_on net ms ns v m, ← e, ← f) put

  room_on : get_or ms v false ≡ true → at + length (kept_words net ms ns v) ≤ length lent → suc at < length lent
  room_on m room = omega (arith, ap length (words_on net ms ns v m))

pub returns-then-not-has_mark : goal.returns-then-not-has_mark
returns-then-not-has_mark c =
    let a = c.args in
    let both = put_off (net_after a.rewiring.now) (marks_in a.marks.now) a.renumbering.now.numbers a.v.0 a.at a.words.now
    (sym c.has_mark.ensures ∙ c.if-not-has_mark.true) c.requires.room in
    record { value = both.0; words_after = both.1 }

pub put_gate-requires : goal.put_gate-requires
put_gate-requires c =
    let a = c.args in
    let r = a.rewiring.now in
    let words = c.gate_of.ensures in
    let low = in_order _ words.well_formed.lawful r.root.0 r.gate r.proposal r.wires a.v.0 c.requires.gate.0 in
    record {
      at_in_bounds = room_on (net_after r) (marks_in a.marks.now) a.renumbering.now.numbers a.v.0 a.at a.words.now
          (sym c.has_mark.ensures ∙ c.if-not-has_mark.false) c.requires.room;
      first_in_bounds = (omega (arith, low, words, c.requires.gate.0), omega (arith, low, words, c.requires.gate.0));
    }

pub returns : goal.returns
returns c =
    let a = c.args in
    let both = put_on (net_after a.rewiring.now) (marks_in a.marks.now) a.renumbering.now.numbers a.v.0 a.at a.words.now
    (sym c.has_mark.ensures ∙ c.if-not-has_mark.false) c.gate_of.ensures.first_value c.gate_of.ensures.second_value
    (c.put_gate.ensures.value, c.put_gate.ensures.words_after) in
    record { value = both.0; words_after = both.1 }
