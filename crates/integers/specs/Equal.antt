-- Equality of whole numbers, as a test.
use Rattle.std.specs.Prelude.{eqb, negsuc, pos, ℤ, Bool, false}

-- are two numbers equal
abbrev pub eq_z : ℤ → ℤ → Bool
eq_z (pos a) (pos b) = eqb a b
eq_z (pos a) (negsuc b) = false
eq_z (negsuc a) (pos b) = false
eq_z (negsuc a) (negsuc b) = eqb a b
