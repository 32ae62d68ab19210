-- Reads look only at a table's months and at how many labels it has.
use Prim.Native.Nat.{◌+◌, ℕ}
use Rattle.language.specs.Rules.Table.{Table, readable}
use Rattle.language.specs.Rules.Tests.{amount_reads, plan_reads, test_reads}
use Rattle.language.specs.Text.Number.{between}
use Rattle.language.specs.Text.Trees.{Amount, Plan, Test, both, choose, conjunction, difference, disjunction, equal, index, later, less, negation, nothing, number, product, quotient, scale, sum, transfer, within}
use lib.Dec.{ltb}
use lib.IntN.{◌+ℤ◌, neg_ℤ, pos, ℤ}
use lib.ListN.{length}
use mathlib.Core.Bool.{◌&&◌}
use mathlib.Core.Path.{◌≡◌, ap, ap₂, refl}

module _ (s t : Table) (eh : s.h ≡ t.h) (ef : s.f ≡ t.f) (en : length s.bounds ≡ length t.bounds) where
  same_readable : (l : ℕ) (m : ℤ) → readable s l m ≡ readable t l m
  same_readable l m = ap₂ ◌&&◌ (ap (ltb l) en) (ap₂ (λ h f. between (neg_ℤ h) f m) eh ef)

  module _ (a z : ℕ) where
    mutual
      unfolding amount_reads test_reads

      same_amount : (x : Amount ℤ) → amount_reads s a z x ≡ amount_reads t a z x
      same_amount (number n) = refl
      same_amount (index l i) = ap₂ ◌&&◌ (same_readable l (pos a +ℤ i)) (same_readable l (pos z +ℤ i))
      same_amount (sum x y) = ap₂ ◌&&◌ (same_amount x) (same_amount y)
      same_amount (difference x y) = ap₂ ◌&&◌ (same_amount x) (same_amount y)
      same_amount (product x y) = ap₂ ◌&&◌ (same_amount x) (same_amount y)
      same_amount (quotient n x) = same_amount x
      same_amount (choose c x y) = ap₂ ◌&&◌ (same_test c) (ap₂ ◌&&◌ (same_amount x) (same_amount y))

      same_test : (x : Test ℤ) → test_reads s a z x ≡ test_reads t a z x
      same_test (less x y) = ap₂ ◌&&◌ (same_amount x) (same_amount y)
      same_test (equal x y) = ap₂ ◌&&◌ (same_amount x) (same_amount y)
      same_test (conjunction x y) = ap₂ ◌&&◌ (same_test x) (same_test y)
      same_test (disjunction x y) = ap₂ ◌&&◌ (same_test x) (same_test y)
      same_test (negation x) = same_test x

  pub same_plan : (x : Plan ℕ) (a z : ℕ) → plan_reads s a z x ≡ plan_reads t a z x
  unfolding plan_reads
  same_plan nothing a z = refl
  same_plan (transfer p q) a z = refl
  same_plan (scale x c) a z = ap₂ ◌&&◌ (same_amount a z x) (same_plan c a z)
  same_plan (later d c) a z = same_plan c (a + d) (z + d)
  same_plan (both x y) a z = ap₂ ◌&&◌ (same_plan x a z) (same_plan y a z)
  same_plan (within d c x y) a z = ap₂ ◌&&◌ (same_test a (z + d) c) (ap₂ ◌&&◌ (same_plan x a (z + d)) (same_plan y (a + d) (z + d)))
