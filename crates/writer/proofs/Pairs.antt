-- The table of pairs of digits.
use Prim.Native.Nat.{◌%◌, ◌*◌, ◌+◌, ◌/◌, ◌<◌, suc, zero, ℕ}
use lib.ListN.{get_or, set}
use mathlib.Core.List.{List}
use mathlib.Core.Path.{◌∙◌, ◌≡◌, refl}
use native.Mathlib.Omega.{arith}
use Rattle.writer.proofs.Puts.{pair}
use Rattle.writer.specs.Digits.{all_pairs, pairs_from, two}
use Rattle.writer.specs.Put.{Put}

tens_at : (j i n : ℕ) → j < n → get_or (pairs_from i n) (2 * j) 0 ≡ 48 + (i + j) / 10
tens_at j i zero h = absurd (omega arith)
tens_at zero i (suc n) h = let e : i + 0 ≡ i = omega arith in rw e refl
tens_at (suc j) i (suc n) h =
    let e : 2 * suc j ≡ suc (suc (2 * j)) = omega arith in
    let f : i + suc j ≡ suc i + j = omega arith in
    rw (e, f) (tens_at j (suc i) n (omega arith))

ones_at : (j i n : ℕ) → j < n → get_or (pairs_from i n) (2 * j + 1) 0 ≡ 48 + (i + j) % 10
ones_at j i zero h = absurd (omega arith)
ones_at zero i (suc n) h = let e : i + 0 ≡ i = omega arith in rw e refl
ones_at (suc j) i (suc n) h =
    let e : 2 * suc j + 1 ≡ suc (suc (2 * j + 1)) = omega arith in
    let f : i + suc j ≡ suc i + j = omega arith in
    rw (e, f) (ones_at j (suc i) n (omega arith))

pub pair_put : (table : List ℕ) → table ≡ all_pairs → (a : List ℕ) (i n : ℕ) → n < 100 → Put a (set (set a i (get_or table (2 * n) 0)) (i + 1) (get_or table (2 * n + 1) 0)) i (i + 2) (two n)
unfolding all_pairs
pair_put table t a i n h =
    let e : 0 + n ≡ n = omega arith in
    let p : get_or table (2 * n) 0 ≡ 48 + n / 10 = rw t (rw e at (tens_at n 0 100 h)) in
    let q : get_or table (2 * n + 1) 0 ≡ 48 + n % 10 = rw t (rw e at (ones_at n 0 100 h)) in
    rw (p, q) (pair a i (48 + n / 10) (48 + n % 10))
