-- Two magnitudes joined, as the code does it, and as the definitions say it.
use Prim.Native.Nat.{◌*◌, ◌+◌, ◌/◌, ◌<◌, ◌≤◌, max, min, ℕ}
use Rattle.language.proofs.Truth.{and_e}
use Rattle.language.specs.Limits.{max_amount}
use Rattle.measures.specs.Magnitudes.{beyond, joined, measured}
use borrow.Author.Tests.{le-leb, leb-false, leb-true, lt-leb}
use lib.Dec.{leb}
use mathlib.Core.Bool.{Bool, ◌&&◌, cond, false, true}
use mathlib.Core.Path.{◌∙◌, ◌≡◌, ap₂, refl, sym}
use native.Mathlib.Nat.{div-lt_iff_lt-mul, le-div_iff_mul-le}
use native.Mathlib.Omega.{arith}

-- ---- as the code does it

no_second : (p q r : Bool) → q ≡ false → (p && (q && r)) ≡ false
no_second true q r e = rw e refl
no_second false q r e = refl

no_third : (p q r : Bool) → r ≡ false → (p && (q && r)) ≡ false
no_third true true r e = e
no_third true false r e = refl
no_third false q r e = refl

module _ (op : ℕ → ℕ → ℕ) (a b : ℕ) where
  pub within_joined : a ≤ max_amount → b ≤ max_amount → op a b ≤ max_amount → op a b ≡ joined op a b
  unfolding joined
  within_joined i j k = rw (le-leb a max_amount i, le-leb b max_amount j, le-leb (op a b) max_amount k) refl

  not_joined : (leb a max_amount && (leb b max_amount && leb (op a b) max_amount)) ≡ false → beyond ≡ joined op a b
  unfolding joined
  not_joined e = rw e refl

  pub first_beyond : max_amount < a → beyond ≡ joined op a b
  first_beyond h = not_joined (rw (lt-leb a max_amount h) refl)

  pub second_beyond : max_amount < b → beyond ≡ joined op a b
  second_beyond h = not_joined (no_second (leb a max_amount) (leb b max_amount) (leb (op a b) max_amount) (lt-leb b max_amount h))

  pub outcome_beyond : max_amount < op a b → beyond ≡ joined op a b
  outcome_beyond h = not_joined (no_third (leb a max_amount) (leb b max_amount) (leb (op a b) max_amount) (lt-leb (op a b) max_amount h))

module _ (a b : ℕ) where
  pub sum_within : a + b ≤ max_amount → a + b ≡ joined ◌+◌ a b
  sum_within h = within_joined ◌+◌ a b (omega (arith, h)) (omega (arith, h)) h

  pub sum_joined : min (a + b) beyond ≡ joined ◌+◌ a b
  sum_joined = by (leb (a + b) max_amount) refl
    where
      by : (t : Bool) → leb (a + b) max_amount ≡ t → min (a + b) beyond ≡ joined ◌+◌ a b
      by true e = let h = leb-true (a + b) max_amount e in let z : min (a + b) beyond ≡ a + b = omega (arith, h) in z ∙ sum_within h
      by false e = let h = leb-false (a + b) max_amount e in let z : min (a + b) beyond ≡ beyond = omega (arith, h) in z ∙ outcome_beyond ◌+◌ a b h

  pub product_zero : a ≤ max_amount → b ≡ 0 → 0 ≡ joined ◌*◌ a b
  product_zero h e = let z : a * b ≡ 0 = rw e (omega arith) in sym z ∙ within_joined ◌*◌ a b h (omega (arith, e)) (omega (arith, z))

  module _ (some : b ≡ 0 → ⊥) where
    pub product_beyond : max_amount / b < a → beyond ≡ joined ◌*◌ a b
    product_beyond h = outcome_beyond ◌*◌ a b ((div-lt_iff_lt-mul {k = b} {x = max_amount} {y = a} (omega (arith, some))).0 h)

    pub product_limit : a ≤ max_amount / b → a * b ≤ max_amount
    product_limit h = (le-div_iff_mul-le {k = b} {x = a} {y = max_amount} (omega (arith, some))).0 h

  pub greater_joined : a ≤ beyond → b ≤ beyond → max a b ≡ joined max a b
  greater_joined i j = by (leb (max a b) max_amount) refl
    where
      by : (t : Bool) → leb (max a b) max_amount ≡ t → max a b ≡ joined max a b
      by true e = let h = leb-true (max a b) max_amount e in within_joined max a b (omega (arith, h)) (omega (arith, h)) h
      by false e = let h = leb-false (max a b) max_amount e in let z : max a b ≡ beyond = omega (arith, h, i, j) in z ∙ outcome_beyond max a b h

-- ---- as the definitions say it

module _ (op : ℕ → ℕ → ℕ) (p q : Bool) (m n : ℕ) (hm : p ≡ true → m ≤ max_amount) (hn : q ≡ true → n ≤ max_amount) where
  pub joined_measured : {a b r : ℕ} → a ≡ measured p m → b ≡ measured q n → r ≡ joined op a b → r ≡ measured (p && (q && leb (op m n) max_amount)) (op m n)
  unfolding joined
  joined_measured ea eb er = er ∙ ap₂ (joined op) ea eb ∙ by p q hm hn
    where
      by : (p q : Bool) → (p ≡ true → m ≤ max_amount) → (q ≡ true → n ≤ max_amount) → joined op (measured p m) (measured q n) ≡ measured (p && (q && leb (op m n) max_amount)) (op m n)
      by true true i j = rw (le-leb m max_amount (i refl), le-leb n max_amount (j refl)) refl
      by true false i j = rw (le-leb m max_amount (i refl)) refl
      by false q i j = refl

-- where a test is small
pub where_measured : (s v : Bool) (n : ℕ) {c : Bool} {j r : ℕ} → c ≡ s → j ≡ measured v n → r ≡ cond c j beyond → r ≡ measured (s && v) n
where_measured true v n ec ej er = er ∙ rw ec ej
where_measured false v n ec ej er = er ∙ rw ec refl

module _ (p : Bool) (n : ℕ) (h : p ≡ true → n ≤ max_amount) where
  pub kept_measured : {a : ℕ} → a ≡ measured p n → a ≤ beyond
  kept_measured ea = rw ea (by p h)
    where
      by : (p : Bool) → (p ≡ true → n ≤ max_amount) → measured p n ≤ beyond
      by true i = omega (arith, i refl)
      by false i = omega arith

  pub within_measured : {a : ℕ} → a ≡ measured p n → leb a max_amount ≡ p
  within_measured ea = rw ea (by p h)
    where
      by : (p : Bool) → (p ≡ true → n ≤ max_amount) → leb (measured p n) max_amount ≡ p
      by true i = le-leb n max_amount (i refl)
      by false i = refl

  -- a limit that is known already
  pub again : (p && leb n max_amount) ≡ p
  again = by p h
    where
      by : (p : Bool) → (p ≡ true → n ≤ max_amount) → (p && leb n max_amount) ≡ p
      by true i = le-leb n max_amount (i refl)
      by false i = refl

-- the last of three tests that hold
pub third : (p q r : Bool) → (p && (q && r)) ≡ true → r ≡ true
third p q r e = (and_e q r (and_e p (q && r) e).1).1
