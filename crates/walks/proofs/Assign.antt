-- Operands and assignments whose place is a local, or a field of a local: the walk says at which entry of the context the cell stands.
--     local_at n           the local whose cell is entry n
--     field_at_lem n           a field of the local whose cell is entry n
--     fills, sets          a local is assigned, which held nothing, or something
-- Assumes `Logic`.
use mathlib.Core.Path.{◌≡◌, sym, subst}
use mathlib.Core.List.{List, [], ◌∷◌}
use mathlib.Core.Option.{some}
use Prim.Native.Nat.{ℕ, zero, ◌+◌}
use lib.Dec.{T as Holds}
use seplogic.Ra.Ura.{Ura}
use base.Fraction.{full_share}
use mir.Syntax.{Sym, Ty, Tys, ty_struct, field, place, copy, Rv as RValue, Body, seq, assign}
use mir.Val.{Val, Vals, vstruct, WT, has_ty}
use mir.Fields.{get_v, set_v}
use base.Fml.{Share, fat, froom}
use prog.Memory.{field_of, field_at}
use prog.Wp.{Env, Calls, Loops, spot_of}
use types.Logic.{Logic}
use types.Kit.{Item, ‵, nth, put, Post, runs, Step}
use types.Part.{Part, whole, sub, look_in}
use types.Run.{Opd, Rv, look, init, store, stop, fld, from, load, assigns}

module _ {M : Type 1} {𝓤 : Ura M} {𝓛 : Logic 𝓤} {K : Type 0} {Γ : List (Item 𝓤)} {E : Env 𝓤 𝓛.H} (t : K) where
  open 𝓛 use {H}

  pub local_at : (n : ℕ) {i : ℕ} {q : Share} {v : Val}
      → nth 𝓛 n Γ ≡ ‵ (fat q (spot_of 𝓤 H E i).0 (spot_of 𝓤 H E i).1 zero v) → Opd K 𝓛 Γ E (copy (place i [])) v
  local_at n e = load t (from t (stop t)) (look t n e)

  pub field_at_lem : (n : ℕ) {i k : ℕ} {q : Share} {ν : Sym} {τs : Tys} {vs : Vals} {τ : Ty} {d : ℕ}
      → nth 𝓛 n Γ ≡ ‵ (fat q (ty_struct ν τs) (spot_of 𝓤 H E i).1 zero (vstruct vs))
      → field_of (spot_of 𝓤 H E i).0 k ≡ some (τ, d) → field_at zero τs k ≡ some (τ, d)
      → Opd K 𝓛 Γ E (copy (place i (field k ∷ []))) (get_v vs k)
  field_at_lem n {i} {k} {q} {ν} {τs} {vs} {τ} {d} e f g =
      let b = (spot_of 𝓤 H E i).1 in
      load t (from t (fld t f (stop t)))
      (look_in t n
      (subst (λ (j : Item 𝓤). Part K 𝓛 j q τ b (0 + d) (get_v vs k) (λ u. ‵ (fat q (ty_struct ν τs) b zero (vstruct (set_v vs k u)))))
      (sym e) (sub t k g (whole t))))

  module _ {C : Calls 𝓤 H} {Λ : Loops 𝓤 H} {p : Post 𝓤 H} {rv : RValue} {rest : Body} {v : Val} (r : Rv K 𝓛 Γ E rv v) (n : ℕ) {i : ℕ} where
    pub fills : nth 𝓛 n Γ ≡ ‵ (froom (spot_of 𝓤 H E i).0 (spot_of 𝓤 H E i).1 zero)
        → Holds (has_ty (spot_of 𝓤 H E i).0 v) × WT v
        → Step K 𝓛 (put 𝓛 n (‵ (fat full_share (spot_of 𝓤 H E i).0 (spot_of 𝓤 H E i).1 zero v)) Γ) (runs C Λ E rest p)
        Γ (runs C Λ E (seq (assign (place i []) rv) rest) p)
    fills e wt = assigns t r (from t (stop t)) (init t n e wt)

    pub sets : {u : Val} → nth 𝓛 n Γ ≡ ‵ (fat full_share (spot_of 𝓤 H E i).0 (spot_of 𝓤 H E i).1 zero u)
        → Holds (has_ty (spot_of 𝓤 H E i).0 v) × WT v
        → Step K 𝓛 (put 𝓛 n (‵ (fat full_share (spot_of 𝓤 H E i).0 (spot_of 𝓤 H E i).1 zero v)) Γ) (runs C Λ E rest p)
        Γ (runs C Λ E (seq (assign (place i []) rv) rest) p)
    sets e wt = assigns t r (from t (stop t)) (store t n e wt)
