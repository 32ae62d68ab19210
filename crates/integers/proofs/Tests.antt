-- What a test of the order says of the parts of its two sides, for `omega`.
use Prim.Native.Nat.{◌+◌, ◌<◌, ◌≤◌}
use borrow.Author.Tests.{leb-false, leb-true, lt-ltb, ltb-false, ltb-true}
use lib.IntN.{negsuc, pos, ℤ}
use lib.Signed.{le_z, lt_z}
use mathlib.Core.Bool.{false, false≢true, true, true≢false}
use mathlib.Core.Path.{◌≡◌, refl}
use native.Mathlib.Omega.{arith}
use Rattle.integers.proofs.Solver.{dn, up}

pub lt_true : (a b : ℤ) → lt_z a b ≡ true → up a + dn b < up b + dn a
lt_true (pos a) (pos b) e = omega (arith, ltb-true a b e)
lt_true (pos a) (negsuc b) e = absurd (false≢true e)
lt_true (negsuc a) (pos b) e = omega arith
lt_true (negsuc a) (negsuc b) e = omega (arith, ltb-true b a e)

pub lt_false : (a b : ℤ) → lt_z a b ≡ false → up b + dn a ≤ up a + dn b
lt_false (pos a) (pos b) e = omega (arith, ltb-false a b e)
lt_false (pos a) (negsuc b) e = omega arith
lt_false (negsuc a) (pos b) e = absurd (true≢false e)
lt_false (negsuc a) (negsuc b) e = omega (arith, ltb-false b a e)

pub le_true : (a b : ℤ) → le_z a b ≡ true → up a + dn b ≤ up b + dn a
le_true (pos a) (pos b) e = omega (arith, leb-true a b e)
le_true (pos a) (negsuc b) e = absurd (false≢true e)
le_true (negsuc a) (pos b) e = omega arith
le_true (negsuc a) (negsuc b) e = omega (arith, leb-true b a e)

pub le_false : (a b : ℤ) → le_z a b ≡ false → up b + dn a < up a + dn b
le_false (pos a) (pos b) e = omega (arith, leb-false a b e)
le_false (pos a) (negsuc b) e = omega arith
le_false (negsuc a) (pos b) e = absurd (true≢false e)
le_false (negsuc a) (negsuc b) e = omega (arith, leb-false b a e)

-- a test that failed, as the opposite one that holds
pub not_le : (a b : ℤ) → le_z a b ≡ false → lt_z b a ≡ true
not_le (pos a) (pos b) e = lt-ltb b a (leb-false a b e)
not_le (pos a) (negsuc b) e = refl
not_le (negsuc a) (pos b) e = absurd (true≢false e)
not_le (negsuc a) (negsuc b) e = lt-ltb a b (leb-false b a e)
