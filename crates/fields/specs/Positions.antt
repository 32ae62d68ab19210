-- Where a reader stands in a text: the fields from a byte on, and how many nodes may still come.
use Rattle.std.specs.Prelude.{◌-◌, ℕ, eqb, leb, drop, length, ◌||◌, cond, List, [], ◌∷◌}
use Rattle.language.specs.Limits.{max_nodes}
use Rattle.language.specs.Text.Fields.{split}
use Rattle.language.specs.Text.Number.{byte}
use Rattle.language.specs.Text.Reader.{Rest}

-- the fields from byte `at` on: none where `at` lies behind the end
unfoldable pub fields_from : List ℕ → ℕ → List (List ℕ)
fields_from text at = cond (leb at (length text)) (split (drop at text)) []

-- what is left of a text from byte `at` on, where count nodes have been read
abbrev pub rest_at : List ℕ → ℕ → ℕ → Rest
rest_at text at count = record { nodes = max_nodes - count; fields = fields_from text at }

-- the bytes in front of the first comma or `stop`
unfoldable pub up_to : ℕ → List ℕ → List ℕ
up_to stop [] = []
up_to stop (b ∷ bs) = cond (eqb b (byte ",") || eqb b stop) [] (b ∷ up_to stop bs)
