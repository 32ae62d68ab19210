-- Evaluation refuses with 11 or 14 only.
use Prim.Native.Nat.{◌≤◌, suc, zero, ℕ}
use borrow.Author.Tests.{leb-true}
use lib.Dec.{leb}
use lib.IntN.{◌*ℤ◌, ◌+ℤ◌, ◌-ℤ◌, nat_abs, pos, ℤ}
use mathlib.Core.Bool.{Bool, cond, false, true}
use mathlib.Core.Logic.{◌⊎◌, inl, inr}
use mathlib.Core.Path.{◌≡◌, refl, subst}
use native.Mathlib.Omega.{arith}
use Rattle.language.specs.Answer.{Answer, ◌>>=◌, got, on_both, refused}
use Rattle.language.specs.Payments.Amounts.{Lookup}
use Rattle.language.specs.Payoff.Evaluate.{checked_holds, checked_tried, checked_value, in_range}
use Rattle.language.specs.Text.Trees.{Amount, Test, choose, conjunction, difference, disjunction, equal, index, less, negation, number, product, quotient, sum}
use Rattle.checked.specs.Evaluated.{Evaluated}

-- nothing is asked of what came
pub record Any {A : Type 0} (x : A) : Type 0 where

pub record Within (lim : ℕ) (z : ℤ) : Type 0 where
  pub within : nat_abs z ≤ lim

module _ {A : Type 0} {P : A → Type 0} where
  pub came : {x : A} → P x → Evaluated P (got x)
  came {x} h = record { value = λ y e. let s : x ≡ y = cc in subst P s h; refusal = λ n e. let z : ◌≡◌ {A = ℕ} 0 1 = cc in absurd (omega arith) }

  pub refuses : {n : ℕ} → (n ≡ 11) ⊎ (n ≡ 14) → Evaluated P (refused n)
  refuses {n} h = record { value = λ y e. let z : ◌≡◌ {A = ℕ} 0 1 = cc in absurd (omega arith); refusal = λ m e. let s : n ≡ m = cc in subst (λ k. (k ≡ 11) ⊎ (k ≡ 14)) s h }

  pub either : (b : Bool) {x y : Answer A} → Evaluated P x → Evaluated P y → Evaluated P (cond b x y)
  either true h k = h
  either false h k = k

  pub both : {B C : Type 0} {Q : B → Type 0} {R : C → Type 0} {f : B → C → Answer A} → ((x : B) (y : C) → Evaluated P (f x y)) → {a : Answer B} → Evaluated Q a → {b : Answer C} → Evaluated R b → Evaluated P (on_both f a b)
  unfolding on_both
  both h {a = got x} s {b = got y} t = h x y
  both h {a = got x} s {b = refused n} t = refuses (t.refusal n refl)
  both h {a = refused n} s t = refuses (s.refusal n refl)

  pub then : {B : Type 0} {Q : B → Type 0} {f : B → Answer A} → ((x : B) → Evaluated P (f x)) → {a : Answer B} → Evaluated Q a → Evaluated P (a >>= f)
  then h {a = got x} s = h x
  then h {a = refused n} s = refuses (s.refusal n refl)

pub in_range_lem : (lim : ℕ) (z : ℤ) → Evaluated (Within lim) (in_range lim z)
unfolding in_range
in_range_lem lim z = go (leb (nat_abs z) lim) refl
  where
    go : (b : Bool) → leb (nat_abs z) lim ≡ b → Evaluated (Within lim) (cond b (got z) (refused 14))
    go true e = came (record { within = leb-true (nat_abs z) lim e })
    go false e = refuses (inr refl)

module _ (idx : Lookup) (can : ℕ → ℤ → Bool) (lim : ℕ) where
  mutual
    unfolding checked_value checked_holds

    pub amount_evaluated : (a : Amount ℤ) (r : ℕ) → Evaluated (Within lim) (checked_value idx can lim a r)
    amount_evaluated (number n) r = in_range_lem lim n
    amount_evaluated (index l i) r = either (can l (pos r +ℤ i)) (in_range_lem lim (idx.look l (pos r +ℤ i))) (refuses (inl refl))
    amount_evaluated (sum a b) r = both (λ x y. in_range_lem lim (x +ℤ y)) (amount_evaluated a r) (amount_evaluated b r)
    amount_evaluated (difference a b) r = both (λ x y. in_range_lem lim (x -ℤ y)) (amount_evaluated a r) (amount_evaluated b r)
    amount_evaluated (product a b) r = both (λ x y. in_range_lem lim (x *ℤ y)) (amount_evaluated a r) (amount_evaluated b r)
    amount_evaluated (quotient n a) r = then (λ x. in_range_lem lim (idx.round x n)) (amount_evaluated a r)
    amount_evaluated (choose t a b) r = then (λ c. either c (amount_evaluated a r) (amount_evaluated b r)) (test_evaluated t r)

    pub test_evaluated : (t : Test ℤ) (r : ℕ) → Evaluated Any (checked_holds idx can lim t r)
    test_evaluated (less a b) r = both (λ x y. came (record {})) (amount_evaluated a r) (amount_evaluated b r)
    test_evaluated (equal a b) r = both (λ x y. came (record {})) (amount_evaluated a r) (amount_evaluated b r)
    test_evaluated (conjunction s t) r = both (λ x y. came (record {})) (test_evaluated s r) (test_evaluated t r)
    test_evaluated (disjunction s t) r = both (λ x y. came (record {})) (test_evaluated s r) (test_evaluated t r)
    test_evaluated (negation t) r = then (λ x. came (record {})) (test_evaluated t r)

pub wait_evaluated : (t : ℕ → Answer Bool) → ((r : ℕ) → Evaluated Any (t r)) → (d r : ℕ) → Evaluated Any (checked_tried t d r)
unfolding checked_tried
wait_evaluated t h zero r = then (λ b. came (record {})) (h r)
wait_evaluated t h (suc d) r = then (λ b. either b (came (record {})) (wait_evaluated t h d (suc r))) (h r)
