-- A whole number as the 64 bits that hold it.
use Rattle.std.specs.Prelude.{◌≡◌, ℕ, suc, ◌-◌, ◌≤◌, true, ℤ, pos, negsuc, int_le, unsigned_abs}
use Rattle.language.specs.Limits.{max_amount}

abbrev pub word_of : ℤ → ℕ
word_of (pos n) = n
word_of (negsuc n) = 18446744073709551616 - suc n

-- a range that takes up less than half of all words: its ends are in order, and no further from zero than an amount may be
abbrev pub Narrow : ℤ → ℤ → Type 0
Narrow low high = (int_le low high ≡ true) × (unsigned_abs low ≤ max_amount) × (unsigned_abs high ≤ max_amount)
