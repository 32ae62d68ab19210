-- A plan is small where its magnitude, as one number, is within the limit.
use Prim.Native.Nat.{◌≤◌, ℕ}
use Rattle.language.proofs.Truth.{and_e}
use Rattle.language.specs.Limits.{max_amount}
use Rattle.language.specs.Rules.Measures.{magnitude_of}
use Rattle.language.specs.Rules.Tests.{amount_small, plan_small, test_is_small}
use Rattle.language.specs.Text.Trees.{Plan, both, later, nothing, scale, transfer, within}
use Rattle.measures.proofs.Joins.{kept_measured, third, within_measured}
use Rattle.measures.specs.Magnitudes.{beyond, measured_plan}
use borrow.Author.Tests.{leb-true}
use lib.Dec.{leb}
use mathlib.Core.Bool.{true}
use mathlib.Core.Path.{◌≡◌}

module _ (bound : ℕ → ℕ) where
  pub plan_limit : (x : Plan ℕ) → plan_small bound x ≡ true → magnitude_of bound x ≤ max_amount
  unfolding plan_small
  plan_limit nothing e = leb-true _ _ e
  plan_limit (transfer p q) e = leb-true _ _ e
  plan_limit (scale a x) e = leb-true _ _ (third (amount_small bound a) (plan_small bound x) _ e)
  plan_limit (later d x) e = leb-true _ _ (and_e (plan_small bound x) _ e).1
  plan_limit (both x y) e = leb-true _ _ (third (plan_small bound x) (plan_small bound y) _ e)
  plan_limit (within d t x y) e = leb-true _ _ (third (plan_small bound x) (plan_small bound y) _ (and_e (test_is_small bound t) _ e).1)

  pub plan_kept : (x : Plan ℕ) {m : ℕ} → m ≡ measured_plan bound x → m ≤ beyond
  plan_kept x em = kept_measured (plan_small bound x) (magnitude_of bound x) (plan_limit x) em

  pub plan_within : (x : Plan ℕ) {m : ℕ} → m ≡ measured_plan bound x → leb m max_amount ≡ plan_small bound x
  plan_within x em = within_measured (plan_small bound x) (magnitude_of bound x) (plan_limit x) em
