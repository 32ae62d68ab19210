-- What an accepted plan pays can be worked out by places without checks.
use Prim.Native.Nat.{◌+◌, ◌≤◌, ℕ}
use lib.IntN.{◌*ℤ◌, ◌+ℤ◌, nat_abs}
use mathlib.Core.Bool.{true}
use mathlib.Core.Path.{◌≡◌, ap₂, subst, sym}
use native.Mathlib.Nat.{le_trans}
use native.Mathlib.Omega.{arith}
use Rattle.amounts.proofs.TablePlaces.{flat_fine, flat_value, may_read}
use Rattle.amounts.proofs.WaitPlaces.{flat_months, flat_tried}
use Rattle.amounts.specs.Placed.{place_in}
use Rattle.integers.proofs.Rounding.{nat_abs_floor}
use Rattle.integers.specs.Bounded.{Small}
use Rattle.language.proofs.Payments.Tried.{tried_spec}
use Rattle.language.proofs.Payoff.Sizes.{pay_size, unit_one}
use Rattle.language.proofs.Rules.Tables.{rules_of, value_bounded}
use Rattle.language.specs.Calls.{lookup_of}
use Rattle.language.specs.Limits.{max_amount, max_months}
use Rattle.language.specs.Payments.Amounts.{holds}
use Rattle.language.specs.Payments.Pays.{Sign, pays, sign_for, started, tried}
use Rattle.language.specs.Rules.Accepted.{Accepted, every_in_plan, reads_of, small_plan}
use Rattle.language.specs.Rules.Measures.{length_of, magnitude_of}
use Rattle.language.specs.Rules.Table.{Table, bound_at, is_table}
use Rattle.language.specs.Text.Form.{fields_of, offset_in_form}
use Rattle.language.specs.Text.Trees.{Plan, both, later, nothing, scale, transfer, within}
use Rattle.pays.proofs.PlacedPays.{flat_pays, started_all}
use Rattle.pays.specs.FinePlan.{FinePlan}
use Rattle.amounts.specs.Placed.{placed_plan}

module _ (t : Table) (ok : is_table t ≡ true) (sg : Sign) (unit : (p q : ℕ) → nat_abs (sg p q) ≤ 1) (m : ℕ) where
  abbrev placed : Plan ℕ → Plan ℕ
  placed = placed_plan (place_in t)

  -- a payment whose plan's magnitude is within the limit
  small : (x : Plan ℕ) (r : ℕ) → magnitude_of (bound_at t) x ≤ max_amount → Small (pays (lookup_of t) sg x r m)
  small x r h = record { small = le_trans (pay_size (lookup_of t) (bound_at t) (value_bounded t (rules_of t ok)) nat_abs_floor sg unit x r m) h }

  module _ (good : ℕ → Type 0) where
    pub fine_plan : (x : Plan ℕ) (r : ℕ) → r + length_of x ≤ max_months → reads_of (may_read t) x r → fields_of good x → small_plan (bound_at t) max_amount x → FinePlan t.values sg (placed x) r m
    unfolding FinePlan placed_plan length_of reads_of fields_of every_in_plan pays
    fine_plan nothing r e h g s = tt
    fine_plan (transfer p q) r e h g s = tt
    fine_plan (scale a x) r e h g s = (
      flat_fine t ok r (omega arith) offset_in_form a h.0 g.0 s.0,
      fine_plan x r e h.1 g.1 s.1,
      subst Small (sym (ap₂ ◌*ℤ◌ (flat_value t ok r a h.0) (flat_pays t ok sg m x r h.1))) (small (scale a x) r s.2),
    )
    fine_plan (later d x) r e h g s = (omega arith, fine_plan x (r + d) (omega arith) h g.1 s.0)
    fine_plan (both x y) r e h g s = (
      fine_plan x r (omega arith) h.0 g.0 s.0,
      fine_plan y r (omega arith) h.1 g.1 s.1,
      subst Small (sym (ap₂ ◌+ℤ◌ (flat_pays t ok sg m x r h.0) (flat_pays t ok sg m y r h.1))) (small (both x y) r s.2),
    )
    fine_plan (within d u x y) r e h g s = (
      omega arith,
      flat_months t ok u d r (λ j l k. (h.0 j l k).0) (omega arith) offset_in_form g.1 s.0,
      subst (started (λ k. FinePlan t.values sg (placed x) k m) (λ k. FinePlan t.values sg (placed y) k m)) (sym (flat_tried t ok u d r (λ j l k. (h.0 j l k).0)))
          (started_all (holds (lookup_of t) u) d r (tried (holds (lookup_of t) u) d r) (tried_spec (holds (lookup_of t) u) d r)
          (started (λ k. FinePlan t.values sg (placed x) k m) (λ k. FinePlan t.values sg (placed y) k m))
          (λ j l k. fine_plan x j (omega arith) (h.0 j l k).1 g.2 s.1)
          (fine_plan y (r + d) (omega arith) h.1 g.3 s.2)),
    )

-- as the rules accept it, for the pair (p, q)
pub accepted_fine : (t : Table) → is_table t ≡ true → (p q f : ℕ) → f ≤ max_months → (good : ℕ → Type 0) (x : Plan ℕ) (r m : ℕ)
    → Accepted (bound_at t) max_amount f (may_read t) x r → fields_of good x → FinePlan t.values (sign_for p q) (placed_plan (place_in t) x) r m
accepted_fine t ok p q f b good x r m a g = fine_plan t ok (sign_for p q) (unit_one p q) m good x r (omega (arith, a.length, b)) a.reads g a.small
