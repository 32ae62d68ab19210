-- Sums of settings: a setting taken some times, and the loop over a month's digits.
use Prim.Native.Nat.{◌%◌, ◌*◌, ◌+◌, ◌-◌, ◌/◌, ◌<◌, ◌≤◌, suc, zero, ℕ}
use borrow.Author.Tests.{le-ltb, lt-ltb}
use lib.IntN.{nat_abs, pos, ℤ}
use lib.ListN.{get_or, length, replicate}
use mathlib.Core.Bool.{Bool, ◌&&◌, true}
use mathlib.Core.List.{List, [], ◌++◌, ◌∷◌}
use mathlib.Core.Path.{◌∙◌, ◌≡◌, ap, refl, sym}
use native.Mathlib.Nat.{mul-le-mul, suc-mul}
use native.Mathlib.Numerals.{add-one}
use native.Mathlib.Omega.{arith}
use Rattle.language.proofs.Rules.Tables.{setting_small}
use Rattle.language.specs.Payoff.Evaluate.{settings_sum}
use Rattle.language.specs.Rules.Table.{all_of, is_set, setting_at, are_settings}
use Rattle.nodes.proofs.TreePasses.{and_assoc}
use Rattle.nodes.specs.Rows.{settings_from, settings_in}
use Rattle.settling.specs.Sums.{SumIs}
use Rattle.std.specs.Prelude.{Err, Ok}

-- ---- lists put together
all_append : (p : ℕ → Bool) (xs ys : List ℕ) → all_of p (xs ++ ys) ≡ all_of p xs && all_of p ys
all_append p [] ys = refl
all_append p (x ∷ xs) ys = ap (λ b. p x && b) (all_append p xs ys) ∙ and_assoc (p x) (all_of p xs) (all_of p ys)

sum_append : (σ : ℕ → ℕ) (xs ys : List ℕ) → settings_sum σ (xs ++ ys) ≡ settings_sum σ xs + settings_sum σ ys
unfolding settings_sum
sum_append σ [] ys = omega arith
sum_append σ (x ∷ xs) ys = omega (arith, sum_append σ xs ys)

-- digits of 0 are no settings
pub no_settings : (n k : ℕ) → settings_from n k 0 ≡ []
unfolding settings_from
no_settings zero k = refl
no_settings (suc n) k = no_settings n (suc k)

-- ---- a digit that is zero gives no settings
one_zero : (n k digits : ℕ) → digits % 32 ≡ 0 → settings_from (suc n) k digits ≡ settings_from n (suc k) (digits / 32)
unfolding settings_from
one_zero n k digits e = rw e refl

pub two_zeros : (n k digits : ℕ) → digits % 1_024 ≡ 0 → settings_from (suc (suc n)) k digits ≡ settings_from n (suc (suc k)) (digits / 1_024)
two_zeros n k digits e =
    let d : digits / 32 / 32 ≡ digits / 1_024 = omega arith in
    one_zero (suc n) k digits (omega arith) ∙ one_zero n (suc k) (digits / 32) (omega arith) ∙ ap (settings_from n (suc (suc k))) d

pub four_zeros : (digits : ℕ) → digits % 1_048_576 ≡ 0 → settings_in digits ≡ settings_from 4 4 (digits / 1_048_576)
four_zeros digits e =
    let d : digits / 1_024 / 1_024 ≡ digits / 1_048_576 = omega arith in
    two_zeros 6 0 digits (omega arith) ∙ two_zeros 4 2 (digits / 1_024) (omega arith) ∙ ap (settings_from 4 4) d

-- ---- one setting, n times
all_same : (p : ℕ → Bool) (n k : ℕ) → p k ≡ true → all_of p (replicate n k) ≡ true
all_same p zero k e = refl
all_same p (suc n) k e = rw e (all_same p n k e)

sum_same : (σ : ℕ → ℕ) (n k : ℕ) → settings_sum σ (replicate n k) ≡ n * σ k
unfolding settings_sum
sum_same σ zero k = omega arith
sum_same σ (suc n) k = omega (arith, sum_same σ n k, suc-mul n (σ k))

module _ (days : List ℤ) where
  pub no_term : (n k : ℕ) → n ≡ 0 → SumIs days (replicate n k) (Ok 0)
  unfolding settings_sum
  no_term n k e = rw e (refl, refl)

  pub set_term : (n k : ℕ) → k < length days → (m : ℕ) → m ≡ nat_abs (get_or days k (pos 0)) → SumIs days (replicate n k) (Ok (n * m))
  set_term n k h m e = (all_same (is_set days) n k (lt-ltb k (length days) h), ap (λ x. n * x) e ∙ sym (sum_same (setting_at days) n k))

  pub unset_term : (n k : ℕ) → (n ≡ 0 → ⊥) → length days ≤ k → SumIs days (replicate n k) (Err _)
  unset_term zero k e h = absurd (e refl)
  unset_term (suc n) k e h = rw (le-ltb k (length days) h) refl

  pub term_small : are_settings days ≡ true → (n k m : ℕ) → n < 32 → m ≡ nat_abs (get_or days k (pos 0)) → n * m ≤ 18_600
  term_small ok n k m h e = let s = setting_small days ok k in let l : n ≤ 31 = omega arith in mul-le-mul {n₁ = n} {m₁ = m} {n₂ = 31} {m₂ = 600} l (omega arith)

  -- ---- the loop: k digits are done, and the others are those of `rest`
  pub record Summing (digits rest k sum : ℕ) : Type 0 where
    pub within : k ≤ 8
    pub settled : all_of (is_set days) (settings_in digits) ≡ all_of (is_set days) (settings_from (8 - k) k rest)
    pub total : settings_sum (setting_at days) (settings_in digits) ≡ sum + settings_sum (setting_at days) (settings_from (8 - k) k rest)
    pub small : sum ≤ 18_600 * k

  pub summing_start : (digits rest k : ℕ) → k < 8 → settings_in digits ≡ settings_from (8 - k) k rest → Summing digits rest k 0
  summing_start digits rest k l e = record { within = omega arith; settled = ap (all_of (is_set days)) e; total = omega (arith, ap (settings_sum (setting_at days)) e); small = omega arith }

  module _ {digits rest k sum : ℕ} (s : Summing digits rest k sum) (l : k < 8) where
    next_digit : settings_from (8 - k) k rest ≡ replicate (rest % 32) k ++ settings_from (8 - (k + 1)) (k + 1) (rest / 32)
    unfolding settings_from
    next_digit = let n : 8 - k ≡ suc (8 - (k + 1)) = omega arith in rw (n, add-one) refl

    pub summing_stop : SumIs days (replicate (rest % 32) k) (Err _) → SumIs days (settings_in digits) (Err _)
    summing_stop h = s.settled ∙ ap (all_of (is_set days)) next_digit ∙ all_append (is_set days) (replicate (rest % 32) k) (settings_from (8 - (k + 1)) (k + 1) (rest / 32)) ∙ rw h refl

    module _ (ok : are_settings days ≡ true) (n : ℕ) (h : SumIs days (replicate (rest % 32) k) (Ok n)) where
      pub next_small : n ≤ 18_600
      next_small = let c : rest % 32 < 32 = omega arith in omega (arith, h.1, sum_same (setting_at days) (rest % 32) k, term_small ok (rest % 32) k (setting_at days k) c refl)

      pub summing_next : Summing digits (rest / 32) (k + 1) (sum + n)
      summing_next =
          let t : List ℕ = settings_from (8 - (k + 1)) (k + 1) (rest / 32) in
          record {
            within = omega arith;
            settled = s.settled ∙ ap (all_of (is_set days)) next_digit ∙ all_append (is_set days) (replicate (rest % 32) k) t ∙ rw h.0 refl;
            total = omega (arith, s.total, ap (settings_sum (setting_at days)) next_digit, sum_append (setting_at days) (replicate (rest % 32) k) t, h.1);
            small = omega (arith, s.small, next_small);
          }

  pub summing_end : {digits rest k sum : ℕ} → Summing digits rest k sum → 8 ≤ k → SumIs days (settings_in digits) (Ok sum)
  unfolding settings_from settings_sum
  summing_end {digits} {rest} {k} {sum} s l = let n : 8 - k ≡ 0 = omega arith in (s.settled ∙ rw n refl, sym (s.total ∙ rw n (omega arith)))

  -- no more digits, no more settings
  pub summing_rest : {digits rest k sum : ℕ} → Summing digits rest k sum → rest ≡ 0 → SumIs days (settings_in digits) (Ok sum)
  unfolding settings_sum
  summing_rest {digits} {rest} {k} {sum} s e =
      let n : settings_from (8 - k) k rest ≡ [] = ap (settings_from (8 - k) k) e ∙ no_settings (8 - k) k in
      (s.settled ∙ rw n refl, sym (s.total ∙ rw n (omega arith)))

  -- ---- a month's settings are at most 31 of each
  sum_bound : are_settings days ≡ true → (n k digits : ℕ) → settings_sum (setting_at days) (settings_from n k digits) ≤ 18_600 * n
  unfolding settings_from settings_sum
  sum_bound ok zero k digits = omega arith
  sum_bound ok (suc n) k digits =
      let c : digits % 32 < 32 = omega arith in
      omega (arith, sum_append (setting_at days) (replicate (digits % 32) k) (settings_from n (suc k) (digits / 32)), sum_same (setting_at days) (digits % 32) k, term_small ok (digits % 32) k (setting_at days k) c refl, sum_bound ok n (suc k) (digits / 32))

  pub months_small : are_settings days ≡ true → (digits : ℕ) → settings_sum (setting_at days) (settings_in digits) ≤ 148_800
  months_small ok digits = sum_bound ok 8 0 digits
