-- A step does what the rule's sentence says; where there is none, no gate has a good replacement.
-- Assumes nothing.
use mathlib.Core.Path.{◌≡◌, refl, subst}
use mathlib.Core.Logic.{⊎_elim}
use mathlib.Core.Option.{Option, none, some}
use Prim.Native.Nat.{ℕ, zero, suc, ◌+◌, ◌≤◌, ◌<◌}
use native.Mathlib.Nat.{le_refl}
use native.Mathlib.Omega.{arith}
use Rattle.graph.specs.Graph.{Graph, free, size, IsGate, Lawful}
use Rattle.graph.proofs.Lists.{at_most_or_above}
use Rattle.window.specs.LeafRule.{picked}
use Rattle.replacement.specs.Rewire.{finished}
use Rattle.listing.specs.declared.Candidate.{Candidate}
use Rattle.listing.specs.Listing.{listed, proposal_of, GoodReplacement, GoodByTest}
use Rattle.listing.proofs.Listing.{listed_is, good_iff, list_empty_iff}
use Rattle.run.specs.Run.{best_at, step_from, step, NoneAt, Step}
use Rattle.run.proofs.Greatest.{greatest_is, greatest_none, greatest_in}

module _ (g : Graph) (ok : Lawful g) where
  none_best : (v : ℕ) → IsGate g.net v → best_at g v ≡ none → NoneAt g v
  unfolding best_at
  none_best v i e x good =
      let w = picked g.net v in (list_empty_iff g v w).0 (greatest_none (listed g v w) e) x ((good_iff g ok v i w x).1 good)

  -- all gates from the k-th on, counted from 0, have none
  abbrev NoneFrom : ℕ → Type 0
  NoneFrom k = (v : ℕ) → IsGate g.net v → free g.net + k < v → NoneAt g v

  none_from : (k : ℕ) → best_at g (suc (free g.net + k)) ≡ none → NoneFrom (suc k) → NoneFrom k
  none_from k e above v i h = ⊎_elim
      (λ l. let q : suc (free g.net + k) ≡ v = omega arith in none_best v i (subst (λ (u : ℕ). best_at g u ≡ none) q e))
      (λ l. above v i (omega arith)) (at_most_or_above v (suc (free g.net + k)))

  -- what a pass comes to
  abbrev PassTo : Option Graph → Type 0
  PassTo none = NoneFrom 0
  PassTo (some h) = Step g h

  pass : (k : ℕ) → k ≤ size g.net → NoneFrom k → PassTo (step_from g k)
  unfolding step_from
  pass zero b above = above
  pass (suc k) b above = go (best_at g (suc (free g.net + k))) refl (pass k (omega arith))
    where
      go : (o : Option Candidate) → best_at g (suc (free g.net + k)) ≡ o → (NoneFrom k → PassTo (step_from g k))
          → PassTo (elim o [ some x ↦ some (finished g (suc (free g.net + k)) (proposal_of x)) | none ↦ step_from g k ])
      go (some x) e r = record {
        root = suc (free g.net + k);
        is_gate = record { above = omega arith; within = omega arith };
        none_higher = λ u i h. above u i (omega arith);
        best = x;
        is_best = greatest_is (listed g (suc (free g.net + k)) (picked g.net (suc (free g.net + k)))) x (unfold best_at in e);
        becomes = refl;
      }
      go none e r = r (none_from k e above)

  passed : PassTo (step g)
  unfolding step
  passed = pass (size g.net) (le_refl _) (λ v i h. absurd (let w = i.within in omega arith))

  pub step_is : (h : Graph) → step g ≡ some h → Step g h
  step_is h e = subst PassTo e passed

  pub no_step : step g ≡ none → (v : ℕ) → IsGate g.net v → NoneAt g v
  no_step e v i = subst PassTo e passed v i (let a = i.above in omega arith)

-- the record taken is a good one, by the test of coverage and by coverage itself
pub best_good : {g h : Graph} (s : Step g h) → GoodByTest g s.root (picked g.net s.root) s.best
best_good {g} s = ((listed_is g s.root (picked g.net s.root)).holds s.best).0 (greatest_in s.is_best)

pub best_is_good : {g h : Graph} → Lawful g → (s : Step g h) → GoodReplacement g s.root (picked g.net s.root) s.best
best_is_good {g} ok s = (good_iff g ok s.root s.is_gate (picked g.net s.root) s.best).0 (best_good s)
