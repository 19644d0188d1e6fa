-- `replacer::rewire::Rewiring::gate_of` meets its contract: its tests are the definition's, and each of the three gates is put larger first.
-- Assumes nothing.
use mathlib.Core.Path.{◌≡◌, refl, sym, ap, ap₂, ◌∙◌}
use mathlib.Core.Bool.{Bool, true, false, not}
use Prim.Native.Nat.{ℕ, max, min}
use lib.Dec.{eqb}
use Rattle.graph.proofs.Tests.{denial_on, denial_off, eqb_iff}
use Rattle.graph.specs.Graph.{first, second}
use Rattle.replacement.specs.Rewire.{redirected}
use Rattle.replacement.proofs.Rewire.{and_kind, other_gate, literal_root, and_root}
use Rattle.replacer.proofs.rewire.Rewiring.gate_of.Goals as goal

-- the larger and the smaller of the two literals that a gate is over are its words
over : {f s a b x y m n : ℕ} → (f ≡ max a b) × (s ≡ min a b) → x ≡ a → y ≡ b → m ≡ max x y → n ≡ min x y → (m ≡ f) × (n ≡ s)
over h i j p q = (p ∙ ap₂ max i j ∙ sym h.0, q ∙ ap₂ min i j ∙ sym h.1)

-- what the test of two variables says
apart : (a b : ℕ) {t : Bool} → t ≡ not (eqb a b) → t ≡ true → ¬ (a ≡ b)
apart a b p q = denial_on (eqb a b) (eqb_iff a b) (sym p ∙ q)

together : (a b : ℕ) {t : Bool} → t ≡ not (eqb a b) → t ≡ false → a ≡ b
together a b p q = denial_off (eqb a b) (eqb_iff a b) (sym p ∙ q)

pub returns-then-ne : goal.returns-then-ne
returns-then-ne c =
    let r = c.args.self.now in
    let moved = redirected r.root.0 r.proposal in
    let words = rw c.net.ensures.value at c.fanins_of-gate.ensures in
    let both = over (other_gate r.graph.now.net r.root.0 r.proposal c.args.v.0 c.requires (apart _ _ c.ne.ensures c.if-ne.true))
    (c.redirected.ensures ∙ ap moved words.first_value)
    (c.redirected-then-ne.ensures ∙ ap moved words.second_value)
    c.larger_first.ensures.first_value
    c.larger_first.ensures.second_value in
    record { first_value = both.0; second_value = both.1; well_formed = c.net.ensures.well_formed }

pub returns-then-self-eq0 : goal.returns-then-self-eq0
returns-then-self-eq0 c =
    let r = c.args.self.now in
    let net = r.graph.now.net in
    let words = rw c.net.ensures.value at c.fanins_of-gate.ensures in
    let is_root = together c.args.v.0 r.root.0 c.ne.ensures c.if-ne.false in
    let both = over (literal_root net r.root.0 r.proposal c.args.v.0 c.requires is_root c.if-self-eq0.true)
    (words.first_value ∙ ap (first net) is_root)
    (words.second_value ∙ ap (second net) is_root)
    c.larger_first-then-self-eq0.ensures.first_value
    c.larger_first-then-self-eq0.ensures.second_value in
    record { first_value = both.0; second_value = both.1; well_formed = c.net.ensures.well_formed }

pub returns : goal.returns
returns c =
    let r = c.args.self.now in
    let kind = (and_kind r.root.0 r.proposal r.wires c.if-self-eq0.false).0 in
    let is_root = together c.args.v.0 r.root.0 c.ne.ensures c.if-ne.false in
    let both = over (and_root r.graph.now.net r.root.0 r.proposal c.args.v.0 c.requires is_root kind)
    refl
    refl
    c.larger_first-2.ensures.first_value
    c.larger_first-2.ensures.second_value in
    record { first_value = both.0; second_value = both.1; well_formed = c.net.ensures.well_formed }
