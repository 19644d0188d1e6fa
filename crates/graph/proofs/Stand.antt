-- Two nets over the same inputs: where a literal of the second stands for each variable of the first that counts, every value
-- carries over. Dropping, renumbering and replacing are uses of this.
-- Assumes nothing.
use mathlib.Core.Path.{◌≡◌, refl, sym, ap, ap₂, ◌∙◌}
use mathlib.Core.Bool.{Bool, true, false, not, ◌&&◌, and_comm, not-not}
use mathlib.Core.Logic.{◌⊎◌, inl, inr, ⊎_elim}
use Prim.Native.Nat.{ℕ, zero, suc, ◌*◌, ◌%◌, ◌≤◌, ◌<◌}
use native.Mathlib.Omega.{arith}
use lib.Dec.{eqb}
use Rattle.graph.specs.Literal.{var_of, is_odd, flip}
use Rattle.graph.specs.Graph.{Net, free, first, second}
use Rattle.graph.specs.Sweep.{bools, turned}
use Rattle.graph.specs.Evaluate.{value_under, literal_under}
use Rattle.graph.proofs.Lists.{at_most_or_above, strong}
use Rattle.graph.proofs.Evaluate.{value_zero, value_input, value_gate}

-- ---- complements

parity : (n : ℕ) → (n % 2 ≡ 0) ⊎ (n % 2 ≡ 1)
parity n = ⊎_elim (λ h. inl (omega arith)) (λ h. inr (omega arith)) (at_most_or_above (n % 2) 0)

even : (l : ℕ) → l % 2 ≡ 0 → is_odd l ≡ false
even l e = ap (λ (x : ℕ). eqb x 1) e

odd : (l : ℕ) → l % 2 ≡ 1 → is_odd l ≡ true
odd l e = ap (λ (x : ℕ). eqb x 1) e

module _ (net : Net) (a : ℕ → Bool) where
  literal_is : (b : Bool) (l v : ℕ) → is_odd l ≡ b → var_of l ≡ v → literal_under net a l ≡ turned bools b (value_under net a v)
  literal_is b l v e h = ap₂ (λ (c : Bool) (x : ℕ). turned bools c (value_under net a x)) e h

  pub plain_value : (v : ℕ) → literal_under net a (2 * v) ≡ value_under net a v
  unfolding turned
  plain_value v = literal_is false (2 * v) v (even (2 * v) (omega arith)) (omega arith)

  -- a literal complemented by the sign of l has its value complemented so
  flip_value : (s l : ℕ) → literal_under net a (flip s l) ≡ turned bools (is_odd l) (literal_under net a s)
  unfolding turned bools
  flip_value s l = ⊎_elim
      (λ e.
      let q : flip s l ≡ s = omega arith in
      ap (literal_under net a) q ∙ ap (λ (b : Bool). turned bools b (literal_under net a s)) (sym (even l e)))
      (λ o.
      ⊎_elim
      (λ e. literal_is true (flip s l) (var_of s) (odd (flip s l) (omega arith)) (omega arith)
      ∙ ap not (sym (literal_is false s (var_of s) (even s e) refl)))
      (λ e.
      literal_is false (flip s l) (var_of s) (even (flip s l) (omega arith)) (omega arith)
      ∙ sym (not-not (value_under net a (var_of s)))
      ∙ ap not (sym (literal_is true s (var_of s) (odd s e) refl)))
      (parity s)
      ∙ ap (λ (b : Bool). turned bools b (literal_under net a s)) (sym (odd l o)))
      (parity l)

-- ---- standing for a variable

module _ (net net' : Net) (stand : ℕ → ℕ) where
  -- the literal that stands for the literal l
  abbrev pub moved : ℕ → ℕ
  moved l = flip (stand (var_of l)) l

  -- gate u of the second net is gate v of the first over moved literals, in either order
  pub data Copies (v u : ℕ) : Type 0 where
    in_order : first net' u ≡ moved (first net v) → second net' u ≡ moved (second net v) → Copies v u
    exchanged : first net' u ≡ moved (second net v) → second net' u ≡ moved (first net v) → Copies v u

  module _ (a : ℕ → Bool) where
    -- the value of variable v carries over
    abbrev pub Carries : ℕ → Type 0
    Carries v = literal_under net' a (stand v) ≡ value_under net a v

    pub literal_carries : (l : ℕ) → Carries (var_of l) → literal_under net' a (moved l) ≡ literal_under net a l
    literal_carries l e = flip_value net' a (stand (var_of l)) l ∙ ap (turned bools (is_odd l)) e

    pub copy_carries : (v u : ℕ) → free net < v → first net v < 2 * v → second net v < 2 * v → free net' < u → first net' u < 2 * u
        → second net' u < 2 * u
        → Copies v u → Carries (var_of (first net v)) → Carries (var_of (second net v)) → value_under net' a u ≡ value_under net a v
    copy_carries v u l f s l' f' s' c cf cs = value_gate net' a u l' f' s' ∙ both c ∙ sym (value_gate net a v l f s)
      where
        both : Copies v u
            → literal_under net' a (first net' u) && literal_under net' a (second net' u)
            ≡ literal_under net a (first net v) && literal_under net a (second net v)
        both (in_order p q) =
            ap₂ ◌&&◌ (ap (literal_under net' a) p ∙ literal_carries (first net v) cf)
            (ap (literal_under net' a) q ∙ literal_carries (second net v) cs)
        both (exchanged p q) =
            ap₂ ◌&&◌ (ap (literal_under net' a) p ∙ literal_carries (second net v) cs)
            (ap (literal_under net' a) q ∙ literal_carries (first net v) cf)
            ∙ and_comm (literal_under net a (second net v)) (literal_under net a (first net v))

    -- inputs stand for themselves; if a gate's value carries over once those of all lower variables do, all that count carry over
    pub all_carry : (counts : ℕ → Type 0) → free net ≡ free net' → ((v : ℕ) → v ≤ free net → stand v ≡ 2 * v)
        → ((v : ℕ) → free net < v → counts v → ((u : ℕ) → u < v → counts u → Carries u) → Carries v)
        → (v : ℕ) → counts v → Carries v
    all_carry counts same low gate = strong (λ v. counts v → Carries v) (λ c. input 0 (omega arith))
        (λ n below c. ⊎_elim (λ l. input (suc n) l) (λ l. gate (suc n) l c (λ u b. below u (omega arith)))
        (at_most_or_above (suc n) (free net)))
      where
        input : (v : ℕ) → v ≤ free net → Carries v
        input zero h = ap (literal_under net' a) (low 0 h) ∙ plain_value net' a 0 ∙ value_zero net' a ∙ sym (value_zero net a)
        input (suc v) h =
            ap (literal_under net' a) (low (suc v) h)
            ∙ plain_value net' a (suc v)
            ∙ value_input net' a (suc v) (omega arith) (omega (arith, same))
            ∙ sym (value_input net a (suc v) (omega arith) h)
