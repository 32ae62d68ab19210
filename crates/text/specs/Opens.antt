-- Whether a text has a `P`, with which every open setting begins.
use Rattle.std.specs.Prelude.{ℕ, eqb, Bool, ◌||◌, false, List, [], ◌∷◌}
use Rattle.language.specs.Text.Number.{byte}

-- one of the bytes is a `P`
unfoldable pub opens : List ℕ → Bool
opens [] = false
opens (b ∷ bs) = eqb b (byte "P") || opens bs
