-- Offsets that become places: what an amount is worth, its reads, its fields and its magnitudes.
use Prim.Native.Nat.{◌*◌, ◌+◌, ◌≤◌, max, ℕ}
use lib.IntN.{◌*ℤ◌, ◌+ℤ◌, ◌-ℤ◌, pos, ℤ}
use lib.Signed.{lt_z}
use mathlib.Core.Bool.{◌&&◌, ◌||◌, not}
use mathlib.Core.Path.{◌∙◌, ◌≡◌, ap, ap₂, refl}
use Rattle.integers.specs.Equal.{eq_z}
use Rattle.language.specs.Payments.Amounts.{Lookup, holds, value}
use Rattle.language.specs.Rules.Accepted.{every_in_amount, every_in_test, reads_of_amount, reads_of_test, small_amount, small_test}
use Rattle.language.specs.Rules.Measures.{magnitude_of_amount}
use Rattle.language.specs.Text.Form.{fields_of_amount, fields_of_test}
use Rattle.language.specs.Text.Trees.{Amount, Test, choose, conjunction, difference, disjunction, equal, index, less, negation, number, product, quotient, sum}
use Rattle.amounts.specs.Placed.{placed_amount, placed_test}

-- nothing is asked of a place as a field
abbrev pub any_place : ℤ → Type 0
any_place i = Unit {0}

module _ (place : ℕ → ℤ → ℤ) where
  -- ---- worth the same, where each read finds the same
  module _ (from to : Lookup) (ok : ℕ → ℤ → Type 0) (r : ℕ)
      (rounds : (z : ℤ) (n : ℕ) → to.round z n ≡ from.round z n)
      (looks : (l : ℕ) (i : ℤ) → ok l (pos r +ℤ i) → to.look l (pos r +ℤ place l i) ≡ from.look l (pos r +ℤ i)) where
    mutual
      unfolding placed_amount placed_test value holds reads_of_amount reads_of_test

      pub placed_value : (a : Amount ℤ) → reads_of_amount ok a r → value to (placed_amount place a) r ≡ value from a r
      placed_value (number n) h = refl
      placed_value (index l i) h = looks l i h
      placed_value (sum a b) h = ap₂ ◌+ℤ◌ (placed_value a h.0) (placed_value b h.1)
      placed_value (difference a b) h = ap₂ ◌-ℤ◌ (placed_value a h.0) (placed_value b h.1)
      placed_value (product a b) h = ap₂ ◌*ℤ◌ (placed_value a h.0) (placed_value b h.1)
      placed_value (quotient n a) h = rounds _ n ∙ ap (λ z. from.round z n) (placed_value a h)
      placed_value (choose t a b) h = rw (placed_holds t h.0, placed_value a h.1, placed_value b h.2)

      pub placed_holds : (t : Test ℤ) → reads_of_test ok t r → holds to (placed_test place t) r ≡ holds from t r
      placed_holds (less a b) h = ap₂ lt_z (placed_value a h.0) (placed_value b h.1)
      placed_holds (equal a b) h = ap₂ eq_z (placed_value a h.0) (placed_value b h.1)
      placed_holds (conjunction s t) h = ap₂ ◌&&◌ (placed_holds s h.0) (placed_holds t h.1)
      placed_holds (disjunction s t) h = ap₂ ◌||◌ (placed_holds s h.0) (placed_holds t h.1)
      placed_holds (negation t) h = ap not (placed_holds t h)

  -- ---- reads
  module _ (ok ok' : ℕ → ℤ → Type 0) (r : ℕ) (kept : (l : ℕ) (i : ℤ) → ok l (pos r +ℤ i) → ok' l (pos r +ℤ place l i)) where
    mutual
      unfolding placed_amount placed_test reads_of_amount reads_of_test

      pub placed_reads : (a : Amount ℤ) → reads_of_amount ok a r → reads_of_amount ok' (placed_amount place a) r
      placed_reads (number n) h = tt
      placed_reads (index l i) h = kept l i h
      placed_reads (sum a b) h = (placed_reads a h.0, placed_reads b h.1)
      placed_reads (difference a b) h = (placed_reads a h.0, placed_reads b h.1)
      placed_reads (product a b) h = (placed_reads a h.0, placed_reads b h.1)
      placed_reads (quotient n a) h = placed_reads a h
      placed_reads (choose t a b) h = (placed_reads_test t h.0, placed_reads a h.1, placed_reads b h.2)

      pub placed_reads_test : (t : Test ℤ) → reads_of_test ok t r → reads_of_test ok' (placed_test place t) r
      placed_reads_test (less a b) h = (placed_reads a h.0, placed_reads b h.1)
      placed_reads_test (equal a b) h = (placed_reads a h.0, placed_reads b h.1)
      placed_reads_test (conjunction s t) h = (placed_reads_test s h.0, placed_reads_test t h.1)
      placed_reads_test (disjunction s t) h = (placed_reads_test s h.0, placed_reads_test t h.1)
      placed_reads_test (negation t) h = placed_reads_test t h

  -- ---- fields
  module _ (good : ℤ → Type 0) where
    mutual
      unfolding placed_amount placed_test fields_of_amount fields_of_test

      pub placed_fields : (a : Amount ℤ) → fields_of_amount good a → fields_of_amount any_place (placed_amount place a)
      placed_fields (number n) h = h
      placed_fields (index l i) h = (h.0, tt)
      placed_fields (sum a b) h = (placed_fields a h.0, placed_fields b h.1)
      placed_fields (difference a b) h = (placed_fields a h.0, placed_fields b h.1)
      placed_fields (product a b) h = (placed_fields a h.0, placed_fields b h.1)
      placed_fields (quotient n a) h = (h.0, h.1, placed_fields a h.2)
      placed_fields (choose t a b) h = (placed_fields_test t h.0, placed_fields a h.1, placed_fields b h.2)

      pub placed_fields_test : (t : Test ℤ) → fields_of_test good t → fields_of_test any_place (placed_test place t)
      placed_fields_test (less a b) h = (placed_fields a h.0, placed_fields b h.1)
      placed_fields_test (equal a b) h = (placed_fields a h.0, placed_fields b h.1)
      placed_fields_test (conjunction s t) h = (placed_fields_test s h.0, placed_fields_test t h.1)
      placed_fields_test (disjunction s t) h = (placed_fields_test s h.0, placed_fields_test t h.1)
      placed_fields_test (negation t) h = placed_fields_test t h

  -- ---- magnitudes
  module _ (bound : ℕ → ℕ) (lim : ℕ) where
    pub placed_magnitude : (a : Amount ℤ) → magnitude_of_amount bound (placed_amount place a) ≡ magnitude_of_amount bound a
    unfolding placed_amount magnitude_of_amount
    placed_magnitude (number n) = refl
    placed_magnitude (index l i) = refl
    placed_magnitude (sum a b) = ap₂ ◌+◌ (placed_magnitude a) (placed_magnitude b)
    placed_magnitude (difference a b) = ap₂ ◌+◌ (placed_magnitude a) (placed_magnitude b)
    placed_magnitude (product a b) = ap₂ ◌*◌ (placed_magnitude a) (placed_magnitude b)
    placed_magnitude (quotient n a) = placed_magnitude a
    placed_magnitude (choose t a b) = ap₂ max (placed_magnitude a) (placed_magnitude b)

    same : (a : Amount ℤ) → magnitude_of_amount bound a ≤ lim → magnitude_of_amount bound (placed_amount place a) ≤ lim
    same a h = rw (placed_magnitude a) h

    mutual
      unfolding placed_amount placed_test every_in_amount every_in_test

      pub placed_small : (a : Amount ℤ) → small_amount bound lim a → small_amount bound lim (placed_amount place a)
      placed_small (number n) h = h
      placed_small (index l i) h = same (index l i) h
      placed_small (sum a b) h = (placed_small a h.0, placed_small b h.1, same (sum a b) h.2)
      placed_small (difference a b) h = (placed_small a h.0, placed_small b h.1, same (difference a b) h.2)
      placed_small (product a b) h = (placed_small a h.0, placed_small b h.1, same (product a b) h.2)
      placed_small (quotient n a) h = (placed_small a h.0, same (quotient n a) h.1)
      placed_small (choose t a b) h = (placed_small_test t h.0, placed_small a h.1, placed_small b h.2, same (choose t a b) h.3)

      pub placed_small_test : (t : Test ℤ) → small_test bound lim t → small_test bound lim (placed_test place t)
      placed_small_test (less a b) h = (placed_small a h.0, placed_small b h.1)
      placed_small_test (equal a b) h = (placed_small a h.0, placed_small b h.1)
      placed_small_test (conjunction s t) h = (placed_small_test s h.0, placed_small_test t h.1)
      placed_small_test (disjunction s t) h = (placed_small_test s h.0, placed_small_test t h.1)
      placed_small_test (negation t) h = placed_small_test t h
