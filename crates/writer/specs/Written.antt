-- The text of a table of rows: the rows' fields one after the other, parted by commas. Links are not looked at.
use Rattle.std.specs.Prelude.{◌%◌, ◌+◌, suc, zero, ℕ, nat_abs, negsuc, pos, ℤ, drop, get_or, cond, List, [], ◌++◌, ◌∷◌}
use Rattle.std.proofs.Math.Option.{Option, none, some}
use Rattle.language.specs.Limits.{max_settings}
use Rattle.language.specs.Text.Classes.{print_delay, print_month}
use Rattle.language.specs.Text.Fields.{join}
use Rattle.language.specs.Text.Letters.{Class, Form, Letter, delay, divisor, figure, from_node, label, letter_in, month, party, payoff_form, plan_form, row_of}
use Rattle.language.specs.Text.Number.{between, byte, print_number}
use Rattle.language.specs.Text.Trees.{Delay, months, setting}
use Rattle.nodes.specs.Rows.{settings_in}

-- ---- the fields that a letter has

abbrev pub classes_or : {P : Type 0} → Form P → List Class → Option (Letter P) → List Class
classes_or form other none = other
classes_or form other (some l) = (row_of form l).fields

-- by the table of payoffs, or else by that of plans; what is no letter has no fields.
-- An `O` has a month in both: without settings a month is its number alone, as a plan has it
unfoldable pub classes_of : ℕ → List Class
classes_of b = classes_or payoff_form (classes_or plan_form [] (letter_in plan_form (b ∷ []))) (letter_in payoff_form (b ∷ []))

-- ---- numbers of a row as text

-- the letter's byte; a number that is no byte is a question mark
abbrev pub byte_of_letter : ℤ → ℕ
byte_of_letter z = cond (between (pos 0) (pos 255) z) (nat_abs z) (byte "?")

-- a number below zero is one of the settings P0 to P7
abbrev pub delay_of : ℤ → Delay
delay_of (pos n) = months n
delay_of (negsuc k) = setting (k % max_settings)

-- how many numbers of a row a field takes
abbrev pub width : Class → ℕ
width figure = 1
width label = 1
width divisor = 1
width from_node = 1
width party = 1
width delay = 1
width month = 2

-- a field's text, from its number and the one behind that
abbrev pub field_text : Class → ℤ → ℤ → List ℕ
field_text figure a b = print_number a
field_text label a b = print_number a
field_text divisor a b = print_number a
field_text from_node a b = print_number a
field_text party a b = print_number a
field_text delay a b = print_delay (delay_of a)
field_text month a b = print_month (record { plain = a; settings = settings_in (nat_abs b) })

-- ---- rows

abbrev pub slot : List ℤ → ℕ → ℤ
slot row k = get_or row k (pos 0)

-- fields of these classes, the first of them at k
unfoldable pub fields_from : List Class → ℕ → List ℤ → List (List ℕ)
fields_from [] k row = []
fields_from (c ∷ cs) k row = field_text c (slot row k) (slot row (k + 1)) ∷ fields_from cs (k + width c) row

unfoldable pub fields_of_row : List ℤ → List (List ℕ)
fields_of_row row = (byte_of_letter (slot row 0) ∷ []) ∷ fields_from (classes_of (byte_of_letter (slot row 0))) 1 row

unfoldable pub fields_of_rows : ℕ → List ℤ → List (List ℕ)
fields_of_rows zero nodes = []
fields_of_rows (suc n) nodes = fields_of_row nodes ++ fields_of_rows n (drop 5 nodes)

-- the text of the first n rows
unfoldable pub written : ℕ → List ℤ → List ℕ
written n nodes = join (fields_of_rows n nodes)
