-- Which fields a row has, as the code tells them apart, and the texts of its parts.
use Rattle.std.specs.Prelude.{◌+◌, ℕ, ℤ, List, [], ◌++◌, ◌∷◌, ◌≡◌}
use Rattle.language.specs.Text.Classes.{setting_fields}
use Rattle.language.specs.Text.Fields.{behind, join}
use Rattle.language.specs.Text.Letters.{delay, month}
use Rattle.language.specs.Text.Number.{byte, print_number}
use Rattle.nodes.specs.Rows.{settings_in}
use Rattle.writer.specs.Written.{classes_of, field_text, fields_from, fields_of_row, slot}
use Rattle.writer.specs.declared.rows.Shape.TheVariants.{Bare, Index, Leaf, Number, Pair, Wait}
use Rattle.writer.specs.declared.rows.Shape.{Shape}

-- ---- texts of the parts of a row, each with its comma in front

abbrev pub number_field : ℤ → List ℕ
number_field z = byte "," ∷ print_number z

abbrev pub delay_field : ℤ → List ℕ
delay_field z = byte "," ∷ field_text delay z z

-- the settings of a month, each behind a plus
abbrev pub settings_text : ℕ → List ℕ
settings_text digits = behind (byte "+") (setting_fields (settings_in digits))

abbrev pub month_field : ℤ → ℤ → List ℕ
month_field a b = byte "," ∷ field_text month a b

-- a row's text: its letter, then its fields behind commas
unfoldable pub row_text : List ℤ → List ℕ
row_text row = join (fields_of_row row)

-- of the index at j, what stands behind its letter: label and month
abbrev pub index_parts : ℕ → List ℤ → List ℕ
index_parts j nodes = number_field (slot nodes (j + 1)) ++ month_field (slot nodes (j + 2)) (slot nodes (j + 2 + 1))

-- of the leaf at j: month and parties
abbrev pub leaf_parts : ℕ → List ℤ → List ℕ
leaf_parts j nodes = month_field (slot nodes (j + 1)) (slot nodes (j + 1 + 1)) ++ (number_field (slot nodes (j + 3)) ++ number_field (slot nodes (j + 4)))

-- ---- shapes

unfoldable pub shape_fields : Shape → List ℤ → List (List ℕ)
shape_fields Bare row = []
shape_fields Number row = print_number (slot row 1) ∷ []
shape_fields Pair row = print_number (slot row 1) ∷ print_number (slot row 2) ∷ []
shape_fields Wait row = field_text delay (slot row 1) (slot row 2) ∷ []
shape_fields Index row = print_number (slot row 1) ∷ field_text month (slot row 2) (slot row 3) ∷ []
shape_fields Leaf row = field_text month (slot row 1) (slot row 2) ∷ print_number (slot row 3) ∷ print_number (slot row 4) ∷ []

-- a row that begins with this byte has these fields
pub record ShapeOf (b : ℕ) (s : Shape) : Type 0 where
  pub fields : (row : List ℤ) → fields_from (classes_of b) 1 row ≡ shape_fields s row
