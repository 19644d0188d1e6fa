-- The tests of a loop, in the middle of a walk: each says in both branches what its bool is.
--     while_holds          the test of a `while`
--     breaks_unless        `if !y { break; }`
-- Assumes `Logic`.
use mathlib.Core.Path.{◌≡◌, refl}
use mathlib.Core.Bool.{Bool, true, false, not}
use mathlib.Core.List.{List}
use Prim.Native.Nat.{ℕ}
use borrow.Author.Tests.{not-false}
use lib.Dec.{T as Holds}
use seplogic.Ra.Ura.{Ura}
use mir.Syntax.{Opd as Operand, Body, seq, cond, skip, exit}
use mir.Val.{vbool}
use prog.Wp.{Env, Calls, Loops, exits}
use types.Logic.{Logic}
use types.Kit.{Item, Post, post, prop, runs, Seq, ◌$◌}
use types.Run.{Opd, first, branches, skips, jumps}

known : (y : Bool) → Holds y → y ≡ true
known true h = refl
known false h = absurd h

known_not : (y : Bool) → Holds (not y) → y ≡ false
known_not true h = absurd h
known_not false h = refl

module _ {M : Type 1} {𝓤 : Ura M} {𝓛 : Logic 𝓤} {K : Type 0} {Γ : List (Item 𝓤)} {E : Env 𝓤 𝓛.H}
    {C : Calls 𝓤 𝓛.H} {Λ : Loops 𝓤 𝓛.H} {p : Post 𝓤 𝓛.H} {c : Operand} {n : ℕ} {b : Body} (t : K) {y : Bool} where
  open 𝓛 use {H}

  pub while_holds : Opd K 𝓛 Γ E c (vbool y)
      → (y ≡ true → Seq K 𝓛 Γ (runs C Λ E b p))
      → (y ≡ false → Seq K 𝓛 Γ (prop (post 𝓤 H p (exits n))))
      → Seq K 𝓛 Γ (runs C Λ E (seq (cond c skip (exit n)) b) p)
  while_holds o on out =
      first t $ branches t o
      (λ h. skips t $ record { prf = (on (known y h)).prf })
      (λ h. jumps t $ record { prf = (out (known_not y h)).prf })

  pub breaks_unless : Opd K 𝓛 Γ E c (vbool (not y))
      → (y ≡ false → Seq K 𝓛 Γ (prop (post 𝓤 H p (exits n))))
      → (y ≡ true → Seq K 𝓛 Γ (runs C Λ E b p))
      → Seq K 𝓛 Γ (runs C Λ E (seq (cond c (exit n) skip) b) p)
  breaks_unless o out on =
      first t $ branches t o
      (λ h. jumps t $ record { prf = (out (known_not y h)).prf })
      (λ h. skips t $ record { prf = (on (not-false y (known_not (not y) h))).prf })
