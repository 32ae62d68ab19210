-- A number's 64 bits, and a range tested by one comparison of them.
use Rattle.std.proofs.Common.{◌≡◌, ℕ, ◌+◌, ◌%◌, ◌<◌, ◌≤◌, Bool, true, false, cond, ◌&&◌, leb, ℤ, pos, negsuc, nat_abs, sym, refl, ap, ◌∙◌, arith, to_z-of_z, w64, SFits, le-leb, leb-false, leb-true}
use borrow.Author.Tests.{lt-leb}
use lib.Bits.{and_le_r, bit_or, or_add_and, or_comm, or_lt}
use lib.Signed.{le_z}
use Rattle.integers.proofs.Locals.{rd}
use Rattle.integers.proofs.Solver.{dn, up}
use Rattle.integers.proofs.Tests.{le_false, le_true}
use Rattle.language.specs.Text.Number.{between}
use Rattle.tables.specs.Words.{Narrow, word_of}

-- ---- how far x lies above low, round the whole circle of words
apart : (low x : ℤ) (r : ℕ) → SFits w64 low → SFits w64 x → r < 18446744073709551616 → (r + word_of low) % 18446744073709551616 ≡ word_of x
    → (b : Bool) → le_z low x ≡ b → r + up low + dn x ≡ up x + dn low + cond b 0 18446744073709551616
apart (pos a) (pos n) r f g h e true l = omega (arith, f.sfits, g.sfits, le_true (pos a) (pos n) l)
apart (pos a) (pos n) r f g h e false l = omega (arith, f.sfits, g.sfits, le_false (pos a) (pos n) l)
apart (pos a) (negsuc n) r f g h e true l = omega (arith, f.sfits, g.sfits, le_true (pos a) (negsuc n) l)
apart (pos a) (negsuc n) r f g h e false l = omega (arith, f.sfits, g.sfits)
apart (negsuc a) (pos n) r f g h e true l = omega (arith, f.sfits, g.sfits)
apart (negsuc a) (pos n) r f g h e false l = omega (arith, f.sfits, g.sfits, le_false (negsuc a) (pos n) l)
apart (negsuc a) (negsuc n) r f g h e true l = omega (arith, f.sfits, g.sfits, le_true (negsuc a) (negsuc n) l)
apart (negsuc a) (negsuc n) r f g h e false l = omega (arith, f.sfits, g.sfits, le_false (negsuc a) (negsuc n) l)

fits_below : (x : ℤ) → SFits w64 x → up x < 9223372036854775808
fits_below (pos a) f = f.sfits
fits_below (negsuc a) f = omega arith

fits_above : (x : ℤ) → SFits w64 x → dn x ≤ 9223372036854775808
fits_above (pos a) f = omega arith
fits_above (negsuc a) f = omega (arith, f.sfits)

-- r is how far x lies above low, w how far high does
compared : (low high x : ℤ) (r w : ℕ) → SFits w64 high → SFits w64 x → w + up low + dn high ≡ up high + dn low
    → (b : Bool) → le_z low x ≡ b → r + up low + dn x ≡ up x + dn low + cond b 0 18446744073709551616 → (d : Bool) → le_z x high ≡ d → leb r w ≡ b && d
compared low high x r w f g k true e h true d = le-leb r w (omega (arith, le_true x high d))
compared low high x r w f g k true e h false d = lt-leb r w (omega (arith, le_false x high d))
compared low high x r w f g k false e h d l = lt-leb r w (omega (arith, fits_below high f, fits_above x g))

-- ---- a range's first word, how far its last lies above that, and how far beyond the greatest word whose first bit is 0
pub record Ends (low high : ℤ) (first width over : ℕ) : Type 0 where
  pub low_fits : SFits w64 low
  pub high_fits : SFits w64 high
  pub first_is : first ≡ word_of low
  pub width_small : width ≤ 9223372036854775807
  pub across : width + up low + dn high ≡ up high + dn low
  pub over_fits : over < 18446744073709551616
  pub over_is : (over + 9223372036854775807) % 18446744073709551616 ≡ width

up_near : (x : ℤ) → up x ≤ nat_abs x
up_near (pos a) = omega arith
up_near (negsuc a) = omega arith

dn_near : (x : ℤ) → dn x ≤ nat_abs x
dn_near (pos a) = omega arith
dn_near (negsuc a) = omega arith

-- the words are those that the code formed of the ends
module _ (low high : ℤ) {l m w : ℕ} (f : SFits w64 low) (g : SFits w64 high) (n : Narrow low high) (lw : l ≡ word_of (rd low)) (mw : m ≡ word_of (rd high)) (wb : w < 18446744073709551616) (we : (w + l) % 18446744073709551616 ≡ m) where
  width : w + up low + dn high ≡ up high + dn low
  width =
      let p = apart low high w f g wb (rw (lw ∙ ap word_of (to_z-of_z f)) at we ∙ mw ∙ ap word_of (to_z-of_z g)) true n.0 in
      omega (arith, p)

  pub ends : {o : ℕ} → o < 18446744073709551616 → (o + 9223372036854775807) % 18446744073709551616 ≡ w → Ends low high l w o
  ends ob oe =
      record { low_fits = f; high_fits = g; first_is = lw ∙ ap word_of (to_z-of_z f); width_small = omega (arith, width, up_near high, dn_near low, n.1, n.2); across = width; over_fits = ob; over_is = oe }

-- a word whose first bit is 0
abbrev pub clear : ℕ → Bool
clear a = leb a 9223372036854775807

-- y at most w, by the first bits of y and of what is left of it
halves : (y z w over : ℕ) → y < 18446744073709551616 → z < 18446744073709551616 → over < 18446744073709551616 → w ≤ 9223372036854775807
    → (over + 9223372036854775807) % 18446744073709551616 ≡ w → (z + over) % 18446744073709551616 ≡ y
    → (a b : Bool) → clear y ≡ a → clear z ≡ b → leb y w ≡ a && b
halves y z w over h g o r e s true true p q = le-leb y w (omega (arith, leb-true y 9223372036854775807 p, leb-true z 9223372036854775807 q))
halves y z w over h g o r e s true false p q = lt-leb y w (omega (arith, leb-true y 9223372036854775807 p, leb-false z 9223372036854775807 q))
halves y z w over h g o r e s false b p q = lt-leb y w (omega (arith, leb-false y 9223372036854775807 p))

-- a number lies in the range if neither word's first bit is set
pub within : {low high : ℤ} {first width over : ℕ} → Ends low high first width over → (x : ℤ) {n y z : ℕ} → SFits w64 x
    → n ≡ word_of (rd x) → y < 18446744073709551616 → (y + first) % 18446744073709551616 ≡ n → z < 18446744073709551616 → (z + over) % 18446744073709551616 ≡ y
    → between low high x ≡ clear y && clear z
within {low} {high} {first} {width} {over} k x {n} {y} {z} f nw yb ye zb ze =
    let q = apart low x y k.low_fits f yb (rw k.first_is at ye ∙ nw ∙ ap word_of (to_z-of_z f)) (le_z low x) refl in
    sym (compared low high x y width k.high_fits f k.across (le_z low x) refl q (le_z x high) refl)
    ∙ halves y z width over yb zb k.over_fits k.width_small k.over_is ze _ _ refl refl

-- ---- two words joined: the first bit is set where it is in one of them
least_joined : (a b : ℕ) → a ≤ bit_or a b
least_joined a b = omega (arith, or_add_and a b, and_le_r a b)

joined_by : (a b : ℕ) (p q : Bool) → clear a ≡ p → clear b ≡ q → clear (bit_or a b) ≡ p && q
joined_by a b true true e h = le-leb (bit_or a b) 9223372036854775807 (omega (arith, or_lt 63 a b (omega (arith, leb-true a 9223372036854775807 e)) (omega (arith, leb-true b 9223372036854775807 h))))
joined_by a b true false e h = lt-leb (bit_or a b) 9223372036854775807 (omega (arith, leb-false b 9223372036854775807 h, least_joined b a, or_comm a b))
joined_by a b false q e h = lt-leb (bit_or a b) 9223372036854775807 (omega (arith, leb-false a 9223372036854775807 e, least_joined a b))

pub joined : (a b : ℕ) → clear (bit_or a b) ≡ clear a && clear b
joined a b = joined_by a b _ _ refl refl
