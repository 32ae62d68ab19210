-- Rows of so many digits, zeros in front among them.
use Rattle.std.specs.Prelude.{◌%◌, ◌+◌, ◌/◌, suc, zero, ℕ, List, [], ◌++◌, ◌∷◌}
use Rattle.language.specs.Text.Number.{byte}

abbrev pub one : ℕ → List ℕ
one n = (byte "0" + n) ∷ []

-- twice as many digits, parted at w
abbrev pub halves : ℕ → (ℕ → List ℕ) → ℕ → List ℕ
halves w row n = row (n / w) ++ row (n % w)

abbrev pub two : ℕ → List ℕ
two = halves 10 one

abbrev pub four : ℕ → List ℕ
four = halves 100 two

abbrev pub eight : ℕ → List ℕ
eight = halves 10_000 four

-- the digits of n numbers from i on, two for each
abbrev pub pairs_from : ℕ → ℕ → List ℕ
pairs_from i zero = []
pairs_from i (suc n) = (byte "0" + i / 10) ∷ (byte "0" + i % 10) ∷ pairs_from (suc i) n

-- of 0 to 99: the table that numbers are written from
unfoldable pub all_pairs : List ℕ
all_pairs = pairs_from 0 100
