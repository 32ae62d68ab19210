-- Laws of a row of at most eight digits, read byte by byte: in a plan's field and in a sheet's.
use Prim.Native.Nat.{◌*◌, ◌+◌, ◌-◌, ◌<◌, ◌^◌, ◌≤◌, suc, zero, ℕ}
use lib.ListN.{drop, get_or, length}
use mathlib.Core.List.{List}
use mathlib.Core.Path.{◌≡◌, subst}
use native.Mathlib.Nat.{pow-suc}
use native.Mathlib.Omega.{arith}
use Rattle.fields.specs.Numbers.{Run}
use Rattle.fields.specs.Positions.{up_to}
use Rattle.fields.proofs.NumberLaws.{Going, going_done, going_more, going_start}
use Rattle.fields.proofs.Positions.{up_comma, up_more}

tens_up : (k n : ℕ) → k ≤ n → 10 ^ k ≤ 10 ^ n
tens_up zero zero h = omega arith
tens_up zero (suc n) h = let e = tens_up zero n (omega arith) in rw (pow-suc 10 n) (omega (arith, e))
tens_up (suc k) zero h = absurd (omega arith)
tens_up (suc k) (suc n) h = let e = tens_up k n (omega arith) in rw (pow-suc 10 k, pow-suc 10 n) (omega (arith, e))

digits_below : (k v d : ℕ) → v < 10 ^ k → d ≤ 9 → v * 10 + d < 10 ^ (k + 1)
digits_below k v d h l = let e : k + 1 ≡ suc k = omega arith in rw (e, pow-suc 10 k) (omega (arith, h, l))

-- k digits from byte `at` on have the value v
pub record Few (text : List ℕ) (at v k : ℕ) : Type 0 where
  pub most : k ≤ 8
  pub below : v < 10 ^ k
  pub going : Going (up_to 44 (drop at text)) (up_to 44 (drop (at + k) text)) v at (at + k)

module _ (text : List ℕ) (at : ℕ) where
  abbrev Upto : ℕ → ℕ → Type 0
  Upto v i = Going (up_to 44 (drop at text)) (up_to 44 (drop i text)) v at i

  pub few_none : Few text at 0 0
  few_none = let e : at ≡ at + 0 = omega arith in record { most = omega arith; below = omega arith; going = subst (Upto 0) e (going_start _ at) }

  module _ (v k : ℕ) (f : Few text at v k) where
    pub few_small : v < 100000000
    few_small = omega (arith, f.below, tens_up k 8 f.most)

    module _ (h : at + k < length text) where
      -- a digit more
      pub few_more : k < 8 → 48 ≤ get_or text (at + k) 0 → get_or text (at + k) 0 ≤ 57 → Few text at (v * 10 + (get_or text (at + k) 0 - 48)) (k + 1)
      few_more m l u =
          let e : at + k + 1 ≡ at + (k + 1) = omega arith in
          let g = going_more _ _ _ _ _ _ _ f.going (up_more 44 text (at + k) h (λ q. omega (arith, l, q)) (λ q. omega (arith, l, q))) l u in
          record { most = omega (arith, m); below = digits_below k v _ f.below (omega (arith, u)); going = subst (Upto (v * 10 + (get_or text (at + k) 0 - 48))) e g }

      -- the comma behind them
      pub few_done : get_or text (at + k) 0 ≡ 44 → Run (up_to 44 (drop at text)) at v (at + k)
      few_done e = going_done _ _ _ _ _ f.going (up_comma 44 text (at + k) h e) (omega (arith, few_small))
