-- The run is determined: whatever steps lead to where nothing is left, they are the run's.
-- Assumes nothing.
use mathlib.Core.Path.{◌≡◌, refl, sym, ap, ap₂, ◌∙◌, subst}
use mathlib.Core.List.{List, [], ◌∷◌, ◌++◌, head-eq_of_cons-eq, tail-eq_of_cons-eq}
use Prim.Native.Nat.{ℕ, suc, ◌<◌, ◌≤◌}
use native.Mathlib.Omega.{arith}
use Rattle.graph.specs.Lists.{◌∈◌, here, later}
use Rattle.graph.specs.Graph.{Graph, Lawful, WellFormed}
use Rattle.graph.specs.Drop.{dropped}
use Rattle.graph.proofs.Members.{in_right}
use Rattle.window.specs.LeafRule.{picked}
use Rattle.replacement.specs.Rewire.{finished}
use Rattle.listing.specs.declared.Candidate.{Candidate}
use Rattle.listing.specs.Listing.{listed, proposal_of}
use Rattle.run.specs.Run.{run, Greatest, Step, Steps, ends, goes_on}
use Rattle.run.proofs.Step.{best_is_good}
use Rattle.run.proofs.Run.{Ready, step_ready, dropped_ready, run_steps}

-- ---- the record

-- two ways to take a list apart, each at the first record of greatest gain, are one
same_greatest : (b b' a a' : List Candidate) (x y : Candidate) → b ++ (x ∷ a) ≡ b' ++ (y ∷ a')
    → ((z : Candidate) → z ∈ b → z.gain < x.gain) → ((z : Candidate) → z ∈ b' → z.gain < y.gain)
    → ((z : Candidate) → z ∈ a → z.gain ≤ x.gain) → ((z : Candidate) → z ∈ a' → z.gain ≤ y.gain) → x ≡ y
same_greatest [] [] a a' x y e f f' l l' = head-eq_of_cons-eq e
same_greatest [] (z ∷ b') a a' x y e f f' l l' =
    let h = ap (λ (c : Candidate). c.gain) (head-eq_of_cons-eq e) in
    let k = f' z (here refl) in
    let m = l y (subst (λ (zs : List Candidate). y ∈ zs) (sym (tail-eq_of_cons-eq e)) (in_right b' (here refl))) in
    absurd (omega arith)
same_greatest (z ∷ b) [] a a' x y e f f' l l' =
    let h = ap (λ (c : Candidate). c.gain) (head-eq_of_cons-eq e) in
    let k = f z (here refl) in
    let m = l' x (subst (λ (zs : List Candidate). x ∈ zs) (tail-eq_of_cons-eq e) (in_right b (here refl))) in
    absurd (omega arith)
same_greatest (z ∷ b) (z' ∷ b') a a' x y e f f' l l' =
    same_greatest b b' a a' x y (tail-eq_of_cons-eq e) (λ c m. f c (later m)) (λ c m. f' c (later m)) l l'

greatest_one : (xs : List Candidate) (x y : Candidate) → Greatest xs x → Greatest xs y → x ≡ y
greatest_one xs x y g h =
    same_greatest g.before h.before g.after h.after x y (sym g.is ∙ h.is) g.earlier_less h.earlier_less
    g.later_no_more h.later_no_more

-- ---- the step

-- neither gate is higher than the other
not_higher : {g h h' : Graph} → Lawful g → (s : Step g h) (t : Step g h') → ¬ (s.root < t.root)
not_higher ok s t l = s.none_higher t.root t.is_gate l t.best (best_is_good ok t)

step_one : {g h h' : Graph} → Lawful g → Step g h → Step g h' → h ≡ h'
step_one {g} ok s t =
    let not_lower = not_higher ok s t in
    let not-above = not_higher ok t s in
    let e : s.root ≡ t.root = omega arith in
    let b = greatest_one (listed g t.root (picked g.net t.root)) s.best t.best
    (subst (λ (v : ℕ). Greatest (listed g v (picked g.net v)) s.best) e s.is_best) t.is_best in
    s.becomes ∙ ap₂ (λ (v : ℕ) (x : Candidate). finished g v (proposal_of x)) e b ∙ sym t.becomes

-- ---- the run

-- two ends that steps lead to are one, after the same number of steps
steps_one : {g e e' : Graph} {n n' : ℕ} → Ready g → Steps g n e → Steps g n' e' → (n ≡ n') × (e ≡ e')
steps_one r (ends h) (ends h') = (refl, refl)
steps_one r (ends h) (goes_on s t) = absurd (h s.root s.is_gate s.best (best_is_good r.is_well_formed.lawful s))
steps_one r (goes_on s t) (ends h) = absurd (h s.root s.is_gate s.best (best_is_good r.is_well_formed.lawful s))
steps_one r (goes_on {e} {n} s t) (goes_on {g} {h} s' t') =
    let same = step_one r.is_well_formed.lawful s s' in
    let rest = steps_one (step_ready g h r s') (subst (λ (k : Graph). Steps k n e) same t) t' in (ap suc rest.0, rest.1)

pub run_only : (g : Graph) → WellFormed g → (n : ℕ) (e : Graph) → Steps (dropped g) n e → (n ≡ (run g).made) × (e ≡ (run g).graph)
run_only g w n e s = steps_one (dropped_ready g w) s (run_steps g w)
