-- The first month of a plan and the latest read as numbers: no first is later than the length, and what the parts of the walk answer.
use Prim.Native.Nat.{◌+◌, ◌≤◌, max, min, ℕ}
use Rattle.integers.proofs.Tests.{le_false, le_true}
use Rattle.language.specs.Rules.Measures.{First, Latest, after_delay, at_most, first_of, from, later_of, length_of, max_z, never, no_month, sooner_of}
use Rattle.language.specs.Rules.Tests.{not_later}
use Rattle.language.specs.Text.Trees.{Plan, both, later, nothing, scale, transfer, within}
use Rattle.measures.specs.Timing.{FewMonths, first_month, latest_month, never_month}
use Rattle.nodes.specs.Table.{nat_of}
use borrow.Author.Tests.{eqb-false, eqb-true, le-leb, leb-false, leb-true}
use lib.Dec.{eqb, leb}
use lib.IntN.{negsuc, pos, ℤ}
use lib.Signed.{le_z}
use mathlib.Core.Bool.{Bool, cond, false, true}
use mathlib.Core.Path.{◌∙◌, ◌≡◌, refl}
use native.Mathlib.Omega.{arith}

-- ---- no first is later than the length

abbrev Before : First → ℕ → Type 0
Before never b = Unit {0}
Before (from n) b = n ≤ b

sooner_before : (f g : First) (a b c : ℕ) → Before f a → Before g b → a ≤ c → b ≤ c → Before (sooner_of f g) c
unfolding sooner_of
sooner_before never never a b c hf hg ha hb = tt
sooner_before never (from n) a b c hf hg ha hb = omega arith
sooner_before (from m) never a b c hf hg ha hb = omega arith
sooner_before (from m) (from n) a b c hf hg ha hb = omega arith

delay_before : (d : ℕ) (f : First) (a : ℕ) → Before f a → Before (after_delay d f) (d + a)
unfolding after_delay
delay_before d never a h = tt
delay_before d (from n) a h = omega arith

first_before : (x : Plan ℕ) → Before (first_of x) (length_of x)
unfolding first_of length_of
first_before nothing = tt
first_before (transfer p q) = omega arith
first_before (scale a x) = first_before x
first_before (later d x) = delay_before d (first_of x) (length_of x) (first_before x)
first_before (both x y) = sooner_before (first_of x) (first_of y) (length_of x) (length_of y) _ (first_before x) (first_before y) (omega arith) (omega arith)
first_before (within d t x y) = sooner_before (first_of x) (first_of y) (length_of x) (length_of y) _ (first_before x) (first_before y) (omega arith) (omega arith)

few_by : (f : First) (l : ℕ) → Before f l → l ≤ 20_000 → FewMonths f
few_by never l b h = tt
few_by (from n) l b h = omega (arith, b, h)

pub few_months : (x : Plan ℕ) → length_of x ≤ 20_000 → FewMonths (first_of x)
few_months x h = few_by (first_of x) (length_of x) (first_before x) h

-- ---- as numbers

pub first_most : (x : First) → FewMonths x → first_month x ≤ never_month
first_most never h = omega arith
first_most (from n) h = omega (arith, h)

pub sooner_first : (x y : First) → FewMonths x → FewMonths y → min (first_month x) (first_month y) ≡ first_month (sooner_of x y)
unfolding sooner_of
sooner_first never never h k = omega arith
sooner_first never (from n) h k = omega (arith, k)
sooner_first (from m) never h k = omega (arith, h)
sooner_first (from m) (from n) h k = refl

pub delayed_first : (d : ℕ) (x : First) → d ≤ 20_000 → FewMonths x → min (d + first_month x) never_month ≡ first_month (after_delay d x)
unfolding after_delay
delayed_first d never b h = omega arith
delayed_first d (from n) b h = omega (arith, b, h)

whole_most : (i j : ℤ) → nat_of (max_z i j) ≡ max (nat_of i) (nat_of j)
whole_most (pos m) (pos n) = by (le_z (pos m) (pos n)) refl
  where
    by : (t : Bool) → le_z (pos m) (pos n) ≡ t → nat_of (cond t (pos n) (pos m)) ≡ max m n
    by true e = omega (arith, le_true (pos m) (pos n) e)
    by false e = omega (arith, le_false (pos m) (pos n) e)
whole_most (pos m) (negsuc n) = omega arith
whole_most (negsuc m) (pos n) = omega arith
whole_most (negsuc m) (negsuc n) = by (le_z (negsuc m) (negsuc n))
  where
    by : (t : Bool) → nat_of (cond t (negsuc n) (negsuc m)) ≡ 0
    by true = refl
    by false = refl

pub later_latest : (x y : Latest) → latest_month (later_of x y) ≡ max (latest_month x) (latest_month y)
unfolding later_of
later_latest no_month y = omega arith
later_latest (at_most i) no_month = omega arith
later_latest (at_most i) (at_most j) = whole_most i j

-- ---- known in time

not_after : (i : ℤ) (n : ℕ) → leb (nat_of i) n ≡ le_z i (pos n)
not_after (pos m) n = refl
not_after (negsuc m) n = le-leb 0 n (omega arith)

pub in_time_from : (y : Latest) (n : ℕ) → leb (latest_month y) n ≡ not_later y (from n)
in_time_from no_month n = le-leb 0 n (omega arith)
in_time_from (at_most i) n = not_after i n

pub in_time_never : (y : Latest) (x : First) → FewMonths x → first_month x ≡ never_month → true ≡ not_later y x
in_time_never no_month x h e = refl
in_time_never (at_most i) never h e = refl
in_time_never (at_most i) (from n) h e = absurd (omega (arith, h, e))

pub in_time_first : (y : Latest) (x : First) → (first_month x ≡ never_month → ⊥) → leb (latest_month y) (first_month x) ≡ not_later y x
in_time_first y never h = absurd (h refl)
in_time_first y (from n) h = in_time_from y n

-- none is yet to come
pub in_time_tried : (y : Latest) → eqb (latest_month y) 0 ≡ not_later y (from 0)
in_time_tried y = same (latest_month y) ∙ in_time_from y 0
  where
    same : (n : ℕ) → eqb n 0 ≡ leb n 0
    same n = by (eqb n 0) (leb n 0) refl refl
      where
        by : (p q : Bool) → eqb n 0 ≡ p → leb n 0 ≡ q → p ≡ q
        by true true e f = refl
        by false false e f = refl
        by true false e f = absurd (omega (arith, eqb-true n 0 e, leb-false n 0 f))
        by false true e f = absurd (omega (arith, eqb-false n 0 e, leb-true n 0 f))
