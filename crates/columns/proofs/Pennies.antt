-- A penny added in the month of its root.
use Prim.Native.Nat.{◌*◌, ◌+◌, ◌<◌, ◌≤◌, ℕ}
use lib.Dec.{T, eqb, eqb_refl, eqb→eq}
use lib.IntN.{*ℤ-zero, ◌*ℤ◌, ◌+ℤ◌, nat_abs, pos, ℤ}
use lib.ListN.{get_or, length, set}
use lib.Seq.{get_or-set_other, get_or-set_same}
use mathlib.Core.Bool.{Bool, cond, false, true}
use mathlib.Core.List.{List}
use mathlib.Core.Path.{◌∙◌, ◌≡◌, ap, ap₂, refl, subst, sym}
use native.Mathlib.Omega.{arith}
use Rattle.columns.specs.Column.{Added, PennyFits, penny_in}
use Rattle.amounts.specs.Fine.{MonthIn}
use Rattle.integers.proofs.Locals.{rd}
use Rattle.nodes.proofs.Signed.{nat_of_known}
use Rattle.nodes.specs.Table.{nat_of}
use lib.Signed.{non_neg}
use mir.Facts.{to_z-of_z}
use mir.Syntax.{w64}
use mir.Val.{Fits, SFits}
use Rattle.integers.proofs.Laws.{nat_abs_add, nat_abs_mul}
use Rattle.integers.proofs.Solver.{◌⊕◌, lit, ring, var}
use Rattle.integers.specs.Bounded.{Small}
use native.Mathlib.Nat.{mul-le-mul_left, mul-one}

pub plus_nothing : (z w : ℤ) → z ≡ z +ℤ w *ℤ pos 0
plus_nothing z w = sym (ap (λ y. z +ℤ y) (*ℤ-zero w) ∙ ring (var z ⊕ lit 0) (var z) (omega arith))

-- a month as a place of the column
pub month_place : {z : ℤ} → MonthIn z → SFits w64 z → nat_abs (rd z) ≡ nat_of z
month_place {z} h f = ap nat_abs (to_z-of_z f) ∙ omega (arith, nat_of_known z h.known)

pub month_cast : {z : ℤ} → MonthIn z → SFits w64 z → T (non_neg (rd z)) × Fits w64 (nat_abs (rd z))
month_cast {z} h f = rw (to_z-of_z f) (h.known, record { fits = omega (arith, h.within) })

pub month_bytes : {z : ℤ} → MonthIn z → SFits w64 z → Fits w64 (nat_abs (rd z) * 8)
month_bytes {z} h f = rw (month_place h f) (record { fits = omega (arith, h.within, nat_of_known z h.known) })

module _ (column : List ℤ) (r : ℕ) (w s : ℤ) where
  pub penny_added : r < length column → (x : ℤ) → x ≡ get_or column r (pos 0) +ℤ w *ℤ s → Added column (set column r x) w (penny_in s r)
  penny_added h x e = record { each = λ m l. go m (eqb r m) refl }
    where
      go : (m : ℕ) (b : Bool) → eqb r m ≡ b → get_or (set column r x) m (pos 0) ≡ get_or column m (pos 0) +ℤ w *ℤ cond b s (pos 0)
      go m true c =
          subst (λ k. get_or (set column r x) k (pos 0) ≡ get_or column k (pos 0) +ℤ w *ℤ s) (eqb→eq r m (subst T (sym c) tt))
          (get_or-set_same column r x (pos 0) h ∙ e)
      go m false c =
          get_or-set_other column r m x (pos 0) (λ i. absurd (subst T c (subst (λ k. T (eqb r k)) (sym i) (eqb_refl r))))
          ∙ plus_nothing (get_or column m (pos 0)) w

  pub penny_stored : {n : ℕ} → n ≡ r → r < length column → {x : ℤ} → x ≡ get_or column n (pos 0) +ℤ w *ℤ s → Added column (set column n x) w (penny_in s r)
  penny_stored e h {x} ex = rw e (penny_added h x (ex ∙ ap (λ k. get_or column k (pos 0) +ℤ w *ℤ s) e))

  module _ (unit : nat_abs s ≤ 1) (f : PennyFits column r w) where
    weight : nat_abs (w *ℤ s) ≤ nat_abs w
    weight = rw nat_abs_mul (omega (arith, mul-le-mul_left (nat_abs w) unit, mul-one (nat_abs w)))

    pub penny_due : Small (w *ℤ s)
    penny_due = record { small = omega (arith, weight, f.room) }

    pub penny_sum : Small (get_or column r (pos 0) +ℤ w *ℤ s)
    penny_sum = record { small = omega (arith, weight, f.room, nat_abs_add (get_or column r (pos 0)) (w *ℤ s)) }

    -- as the code forms it, with n for the month
    pub sum_fits : {n : ℕ} {due penny : ℤ} → n ≡ r → SFits w64 (get_or column n (pos 0)) → penny ≡ s → due ≡ w *ℤ penny → Small (rd (get_or column n (pos 0)) +ℤ due)
    sum_fits e fits ep ed = rw (to_z-of_z fits, e, ed, ep) penny_sum

  pub stored : {n : ℕ} {due penny sum : ℤ} → n ≡ r → r < length column → SFits w64 (get_or column n (pos 0)) → SFits w64 sum
      → penny ≡ s → due ≡ w *ℤ penny → sum ≡ rd (get_or column n (pos 0)) +ℤ due → Added column (set column n (rd sum)) w (penny_in s r)
  stored {n} e h fits fs ep ed es =
      penny_stored e h (to_z-of_z fs ∙ es ∙ ap₂ ◌+ℤ◌ (to_z-of_z fits) (ed ∙ ap (λ y. w *ℤ y) ep))
