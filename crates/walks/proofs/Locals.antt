-- A walk's locals: their cells, with what they hold.
--     cells                each local's cell, and that it dies, the first local first
--     reversed             the same, the last local first, as they are allocated
--     frees_all            the locals behind four entries are freed, whatever they hold
-- Assumes `Logic`.
use mathlib.Core.Path.{refl}
use mathlib.Core.List.{List, [], ◌∷◌}
use mathlib.Core.Option.{Option, none, some}
use Prim.Native.Nat.{ℕ}
use seplogic.Ra.Ura.{Ura}
use base.Fraction.{full_share}
use mir.Syntax.{Ty}
use mir.Val.{Val}
use base.Fml.{fat, froom, fdies}
use prog.Wp.{Env}
use types.Logic.{Logic}
use types.Kit.{Item, ‵, Goal, frees, Seq, ◌$◌, move}
use types.Run.{forget, free1, free0}

module _ {M : Type 1} {𝓤 : Ura M} where
  abbrev pub cell : Ty → ℕ → Option Val → Item 𝓤
  cell τ l none = ‵ (froom τ l 0)
  cell τ l (some v) = ‵ (fat full_share τ l 0 v)

  abbrev pub cells : List (Ty × ℕ) → List (Option Val) → List (Item 𝓤)
  cells [] vs = []
  cells (e ∷ E) [] = cell e.0 e.1 none ∷ ‵ (fdies e.0 e.1) ∷ cells E []
  cells (e ∷ E) (v ∷ vs) = cell e.0 e.1 v ∷ ‵ (fdies e.0 e.1) ∷ cells E vs

  -- two entries are one local's, and stay in order
  abbrev pub reversed : List (Item 𝓤) → List (Item 𝓤) → List (Item 𝓤)
  reversed [] Γ = Γ
  reversed (i ∷ []) Γ = i ∷ Γ
  reversed (i ∷ j ∷ is) Γ = reversed is (i ∷ j ∷ Γ)

  module _ {𝓛 : Logic 𝓤} {K : Type 0} (t : K) {i₀ i₁ i₂ i₃ : Item 𝓤} {g : Goal 𝓤 𝓛.H} where
    open 𝓛 use {H}

    pub frees_all : (E : Env 𝓤 H) (vs : List (Option Val))
        → Seq K 𝓛 (i₀ ∷ i₁ ∷ i₂ ∷ i₃ ∷ []) g → Seq K 𝓛 (i₀ ∷ i₁ ∷ i₂ ∷ i₃ ∷ cells E vs) (frees E g)
    frees_all [] vs k = free0 t $ k
    frees_all (e ∷ E) [] k = move t (4 ∷ 5 ∷ []) $ free1 t $ frees_all E [] k
    frees_all (e ∷ E) (none ∷ vs) k = move t (4 ∷ 5 ∷ []) $ free1 t $ frees_all E vs k
    frees_all (e ∷ E) (some v ∷ vs) k = forget t 4 refl $ move t (4 ∷ 5 ∷ []) $ free1 t $ frees_all E vs k
