-- Lines by their places in the input.
use Rattle.std.specs.Prelude.{◌+◌, ◌-◌, ◌<◌, ◌≤◌, ℕ, eqb, drop, get_or, length, Bool, cond, true, List, [], ◌∷◌, ◌≡◌}
use Rattle.language.specs.Text.Fields.{in_front}
use Rattle.language.specs.Text.Number.{byte}

-- the bytes in front of the first line feed
unfoldable pub line_of : List ℕ → List ℕ
line_of [] = []
line_of (b ∷ bs) = cond (eqb b (byte "\n")) [] (b ∷ line_of bs)

-- the lines of an input
unfoldable pub lines_in : List ℕ → List (List ℕ)
lines_in [] = []
lines_in (b ∷ bs) = cond (eqb b (byte "\n")) ([] ∷ lines_in bs) (in_front b (lines_in bs))

-- nothing stands behind the last line feed
abbrev pub ends_well : List ℕ → Bool
ends_well input = cond (eqb (length input) 0) true (eqb (get_or input (length input - 1) 0) (byte "\n"))

-- none of the n bytes from a place on is a line feed
abbrev pub NoFeed : List ℕ → ℕ → ℕ → Type 0
NoFeed text at n = (k : ℕ) → k < n → get_or text (at + k) 0 ≡ byte "\n" → ⊥

-- the line that goes on at i is what is left of the one that goes on at `at`
pub record LineFrom (text : List ℕ) (at i : ℕ) : Type 0 where
  pub inside : i ≤ length text
  pub ends : at + length (line_of (drop at text)) ≡ i + length (line_of (drop i text))
