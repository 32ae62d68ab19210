-- How long a table has to be for a text.
use Rattle.std.specs.Prelude.{◌*◌, ◌+◌, ◌<◌, ◌≤◌, ℕ, leb, ℤ, length, cond, List, [], ◌∷◌}
use Rattle.language.specs.Limits.{max_nodes}
use Rattle.language.specs.Text.Number.{byte}

-- how many bytes of a text are letters, or stand behind them in the order of bytes
unfoldable pub letters_in : List ℕ → ℕ
letters_in [] = 0
letters_in (b ∷ bs) = cond (leb (byte "A") b) 1 0 + letters_in bs

-- the table has a row for each node that the text can have, and one more: a node has a letter of its own
abbrev pub Roomy : List ℕ → List ℤ → Type 0
Roomy text nodes = (n : ℕ) → n < max_nodes → n ≤ letters_in text → 5 * n + 5 ≤ length nodes
