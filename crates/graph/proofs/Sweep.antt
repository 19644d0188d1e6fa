-- Laws of the sweep, over any algebra.
-- Assumes nothing.
use mathlib.Core.Path.{◌≡◌, refl, sym, ap, ap₂, ◌∙◌}
use mathlib.Core.Bool.{Bool, true, false, cond}
use mathlib.Core.List.{List, [], ◌∷◌, ◌++◌, map, map-append}
use mathlib.Core.Logic.{⊎_elim}
use mathlib.Core.Option
use mathlib.Core.Option.{Option, none, some}
use Prim.Native.Nat.{ℕ, zero, suc, ◌≤◌, ◌<◌}
use native.Mathlib.Nat.{le_refl}
use native.Mathlib.Omega.{arith}
use borrow.Author.Tests.{le-leb, lt-leb}
use lib.Dec.{leb}
use lib.ListN.{length, get_or, length-append, get_or-append, get_or-map}
use lib.Seq.{get_or_at}
use Rattle.graph.specs.Literal.{var_of, is_odd}
use Rattle.graph.specs.Graph.{Net, free, first, second}
use Rattle.graph.specs.Sweep.{Algebra, turned, lit_value, by_gate, values, value_at}
use Rattle.graph.proofs.Lists.{at_most_or_above}

-- ---- lengths and single steps

module _ {A : Type 0} (K : Algebra A) (own : ℕ → Option A) (net : Net) where
  pub values_length : (n : ℕ) → length (values K own net n) ≡ suc n
  unfolding values
  values_length zero = refl
  values_length (suc n) = simp length-append (omega (arith, values_length n))

  -- the highest variable has its own value or its gate's
  pub values_top : (n : ℕ) (d : A)
      → get_or (values K own net (suc n)) (suc n) d ≡ Option.get_or (own (suc n)) (by_gate K net (suc n) (values K own net n))
  unfolding values
  values_top n d = get_or_at (values K own net n) _ [] d (suc n) (values_length n)

  -- one variable more changes no value below it
  pub values_more : (n v : ℕ) (d : A) → v ≤ n → get_or (values K own net (suc n)) v d ≡ get_or (values K own net n) v d
  unfolding values
  values_more n v d h = get_or-append (values K own net n) _ d v (omega (arith, values_length n))

  -- a variable has one value, however far the sweep goes
  pub values_at : (n v : ℕ) → v ≤ n → get_or (values K own net n) v K.no ≡ value_at K own net v
  unfolding value_at
  values_at zero v h = let e : 0 ≡ v = omega arith in ap (λ (m : ℕ). get_or (values K own net m) v K.no) e
  values_at (suc n) v h = ⊎_elim
      (λ l. values_more n v K.no l ∙ values_at n v l)
      (λ l. let e : suc n ≡ v = omega arith in ap (λ (m : ℕ). get_or (values K own net m) v K.no) e)
      (at_most_or_above v n)

-- ---- gates

module _ {A : Type 0} (K : Algebra A) (net : Net) (v : ℕ) (vs : List A) where
  pub by_gate_free : v ≤ free net → by_gate K net v vs ≡ K.no
  unfolding by_gate
  by_gate_free h = rw (le-leb v (free net) h)

  pub by_gate_gate : free net < v → by_gate K net v vs ≡ K.conj (lit_value K vs (first net v)) (lit_value K vs (second net v))
  unfolding by_gate
  by_gate_gate h = rw (lt-leb v (free net) h)

module _ {A : Type 0} (K : Algebra A) (own : ℕ → Option A) (net : Net) (n : ℕ) where
  pub own_value : (x : A) → own (suc n) ≡ some x → value_at K own net (suc n) ≡ x
  unfolding value_at
  own_value x e = values_top K own net n K.no ∙ ap (λ (o : Option A). Option.get_or o (by_gate K net (suc n) (values K own net n))) e

  pub gate_value : own (suc n) ≡ none → free net < suc n
      → value_at K own net (suc n)
      ≡ K.conj (lit_value K (values K own net n) (first net (suc n))) (lit_value K (values K own net n) (second net (suc n)))
  unfolding value_at
  gate_value e h =
      values_top K own net n K.no
      ∙ ap (λ (o : Option A). Option.get_or o (by_gate K net (suc n) (values K own net n))) e
      ∙ by_gate_gate K net (suc n) (values K own net n) h

-- ---- what the values depend on: own values and the gates' literals, up to the variable asked for

pub record SameUpTo (net net' : Net) (n : ℕ) : Type 0 where
  pub same_free : free net ≡ free net'
  pub same_first : (v : ℕ) → free net < v → v ≤ n → first net v ≡ first net' v
  pub same_second : (v : ℕ) → free net < v → v ≤ n → second net v ≡ second net' v

module _ {A : Type 0} (K : Algebra A) (net net' : Net) where
  by_gate_same : (n v : ℕ) (vs : List A) → SameUpTo net net' n → v ≤ n → by_gate K net v vs ≡ by_gate K net' v vs
  by_gate_same n v vs s h = ⊎_elim
      (λ l. by_gate_free K net v vs l ∙ sym (by_gate_free K net' v vs (omega (arith, s.same_free))))
      (λ l.
      by_gate_gate K net v vs l
      ∙ ap₂ (λ (a b : ℕ). K.conj (lit_value K vs a) (lit_value K vs b)) (s.same_first v l h) (s.same_second v l h)
      ∙ sym (by_gate_gate K net' v vs (omega (arith, s.same_free))))
      (at_most_or_above v (free net))

  fewer : {m n : ℕ} → m ≤ n → SameUpTo net net' n → SameUpTo net net' m
  fewer h s =
      record {
        same_free = s.same_free;
        same_first = λ v l k. s.same_first v l (omega arith);
        same_second = λ v l k. s.same_second v l
            (omega arith);
      }

  pub values_same : (own own' : ℕ → Option A) (n : ℕ) → SameUpTo net net' n → ((v : ℕ) → v ≤ n → own v ≡ own' v)
      → values K own net n ≡ values K own' net' n
  unfolding values
  values_same own own' zero s h = refl
  values_same own own' (suc n) s h =
      let below = values_same own own' n (fewer (omega arith) s) (λ v l. h v (omega arith)) in
      ap₂ (λ (xs : List A) (x : A). xs ++ (x ∷ [])) below
      (ap₂ (λ (o : Option A) (x : A). Option.get_or o x) (h (suc n) (le_refl (suc n)))
      (by_gate_same (suc n) (suc n) (values K own net n) s (le_refl (suc n)) ∙ ap (by_gate K net' (suc n)) below))

-- ---- a map between kinds that keeps variable 0, the AND, the complement and own values keeps every value

pub cond_map : {A B : Type 0} (h : A → B) (b : Bool) (x y : A) → h (cond b x y) ≡ cond b (h x) (h y)
cond_map h true x y = refl
cond_map h false x y = refl

own_map : {A B : Type 0} (h : A → B) (o : Option A) (x : A) → h (Option.get_or o x) ≡ Option.get_or (Option.map h o) (h x)
own_map h none x = refl
own_map h (some a) x = refl

pub record Respects {A B : Type 0} (h : A → B) (K : Algebra A) (L : Algebra B) : Type 0 where
  pub keeps_no : h K.no ≡ L.no
  pub keeps_conj : (x y : A) → h (K.conj x y) ≡ L.conj (h x) (h y)
  pub keeps_neg : (x : A) → h (K.neg x) ≡ L.neg (h x)

module _ {A B : Type 0} (h : A → B) (K : Algebra A) (L : Algebra B) (r : Respects h K L) where
  pub turned_map : (b : Bool) (x : A) → h (turned K b x) ≡ turned L b (h x)
  unfolding turned
  turned_map true x = r.keeps_neg x
  turned_map false x = refl

  pub lit_value_map : (vs : List A) (l : ℕ) → h (lit_value K vs l) ≡ lit_value L (map h vs) l
  unfolding lit_value
  lit_value_map vs l =
      turned_map (is_odd l) (get_or vs (var_of l) K.no)
      ∙ ap (turned L (is_odd l)) (sym (get_or-map h vs (var_of l) K.no) ∙ ap (get_or (map h vs) (var_of l)) r.keeps_no)

  by_gate_map : (net : Net) (v : ℕ) (vs : List A) → h (by_gate K net v vs) ≡ by_gate L net v (map h vs)
  unfolding by_gate
  by_gate_map net v vs =
      cond_map h (leb v (free net)) _ _
      ∙ ap₂ (cond (leb v (free net))) r.keeps_no
      (r.keeps_conj _ _ ∙ ap₂ L.conj (lit_value_map vs (first net v)) (lit_value_map vs (second net v)))

  pub values_map : (own : ℕ → Option A) (own' : ℕ → Option B) → ((v : ℕ) → Option.map h (own v) ≡ own' v) → (net : Net) (n : ℕ)
      → map h (values K own net n) ≡ values L own' net n
  unfolding values
  values_map own own' o net zero = ap (λ (x : B). x ∷ []) r.keeps_no
  values_map own own' o net (suc n) =
      map-append h (values K own net n) _
      ∙ ap₂ (λ (xs : List B) (x : B). xs ++ (x ∷ [])) (values_map own own' o net n)
      (own_map h (own (suc n)) _
      ∙ ap₂ (λ (m : Option B) (x : B). Option.get_or m x) (o (suc n))
      (by_gate_map net (suc n) (values K own net n) ∙ ap (by_gate L net (suc n)) (values_map own own' o net n)))
