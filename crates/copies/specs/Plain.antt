-- The rows of trees without links: what a text is written from.
use Rattle.std.specs.Prelude.{ℕ, pos, ℤ, get_or, List, [], ◌++◌, ◌∷◌}
use Rattle.language.specs.Text.Letters.{Form, row_of}
use Rattle.language.specs.Text.Reader.{Trees, end, node}
use Rattle.nodes.specs.Rows.{slots_of}

module _ {P : Type 0} where
  -- the last two numbers of a row: fields of a node without children, else 0
  unfoldable pub plain_last : List ℤ → Trees P → List ℤ
  plain_last slots end = get_or slots 2 (pos 0) ∷ get_or slots 3 (pos 0) ∷ []
  plain_last slots (node l fs c t) = pos 0 ∷ pos 0 ∷ []

  abbrev pub plain_row : ℕ → List ℤ → Trees P → List ℤ
  plain_row letter slots c = pos letter ∷ get_or slots 0 (pos 0) ∷ get_or slots 1 (pos 0) ∷ plain_last slots c

  unfoldable pub plain_rows : Form P → Trees P → List ℤ
  plain_rows form end = []
  plain_rows form (node l fs c t) = plain_row (row_of form l).letter (slots_of fs) c ++ (plain_rows form c ++ plain_rows form t)
