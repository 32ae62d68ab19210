-- What an answer of the code about a number of few digits means, for the bytes `f` from byte `at` on.
use Rattle.std.specs.Prelude.{◌+◌, ◌<◌, ◌≤◌, ℕ, get_or, length, List, ◌⊎◌, ◌≡◌, None, Option, Some}
use Rattle.fields.specs.Numbers.{Run}
use Rattle.language.specs.Text.Number.{byte}
use Rattle.fields.specs.declared.numbers.Natural.{Natural}

-- a row that did not end in the bytes looked at tells nothing
abbrev pub ShortIs : List ℕ → ℕ → Option Natural → Type 0
ShortIs f at (Some it) = Run f at it.value it.end
ShortIs f at None = Unit {0}

-- a line has a minus at this byte
abbrev pub Minus : List ℕ → ℕ → Type 0
Minus line at = (at < length line) × (get_or line at 0 ≡ byte "-")

-- or it ends there, or another byte stands there
abbrev pub NoMinus : List ℕ → ℕ → Type 0
NoMinus line at = (length line ≤ at) ⊎ ((at < length line) × (get_or line at 0 ≡ byte "-" → ⊥))

-- the digits start behind a minus
abbrev pub StartIs : List ℕ → ℕ → ℕ → Type 0
StartIs line at from = (Minus line at × (from ≡ at + 1)) ⊎ (NoMinus line at × (from ≡ at))
