-- The node table: five numbers a node, outermost first. The first is the letter's byte, the next its fields; a node with children has in
-- the last two how far behind it the second and the third child stand, or 0 where it has none.
use Rattle.std.specs.Prelude.{◌%◌, ◌+◌, ◌/◌, ◌^◌, suc, zero, ℕ, negsuc, pos, ℤ, get_or, replicate, List, [], ◌++◌, ◌∷◌}
use Rattle.language.specs.Limits.{max_settings}
use Rattle.language.specs.Text.Classes.{Field, a_delay, a_month, a_number}
use Rattle.language.specs.Text.Letters.{Form, row_of}
use Rattle.language.specs.Text.Reader.{Trees, end, node}
use Rattle.language.specs.Text.Trees.{Delay, Month, months, setting}
use Rattle.nodes.specs.Table.{nat_of}

-- ---- fields as numbers

-- a delay of n months is n, and the setting Pk is -1 - k
unfoldable pub delay_slot : Delay → ℤ
delay_slot (months n) = pos n
delay_slot (setting k) = negsuc k

abbrev pub delay_from : ℤ → Delay
delay_from (pos n) = months n
delay_from (negsuc k) = setting k

-- how often each setting is added to a month: eight digits in base 32, that of P0 the last
unfoldable pub settings_slot : List ℕ → ℕ
settings_slot [] = 0
settings_slot (k ∷ ks) = 32 ^ k + settings_slot ks

-- n digits as settings, lowest first, the last digit for Pk
unfoldable pub settings_from : ℕ → ℕ → ℕ → List ℕ
settings_from zero k digits = []
settings_from (suc n) k digits = replicate (digits % 32) k ++ settings_from n (suc k) (digits / 32)

abbrev pub settings_in : ℕ → List ℕ
settings_in digits = settings_from max_settings 0 digits

-- a month from its two numbers
abbrev pub month_from : ℤ → ℤ → Month
month_from plain digits = record { plain = plain; settings = settings_in (nat_of digits) }

-- a month takes two numbers: the number it begins with, and its settings
unfoldable pub field_slots : Field → List ℤ
field_slots (a_number z) = z ∷ []
field_slots (a_delay d) = delay_slot d ∷ []
field_slots (a_month m) = m.plain ∷ pos (settings_slot m.settings) ∷ []

unfoldable pub slots_of : List Field → List ℤ
slots_of [] = []
slots_of (f ∷ fs) = field_slots f ++ slots_of fs

-- ---- rows

module _ {P : Type 0} where
  -- how many nodes
  unfoldable pub count_of : Trees P → ℕ
  count_of end = 0
  count_of (node l fs c t) = 1 + (count_of c + count_of t)

  -- how many nodes the first of the trees has
  unfoldable pub first_count : Trees P → ℕ
  first_count end = 0
  first_count (node l fs c t) = 1 + count_of c

  -- the trees behind the first
  unfoldable pub behind_first : Trees P → Trees P
  behind_first end = end
  behind_first (node l fs c t) = t

  -- a link to trees that stand n rows behind: 0 where there are none
  unfoldable pub link_to : Trees P → ℕ → ℕ
  link_to end n = 0
  link_to (node l fs c t) n = n

  -- how far behind a node with these children the second and the third of them stand
  abbrev pub second_link : Trees P → ℕ
  second_link c = link_to (behind_first c) (1 + first_count c)

  abbrev pub third_link : Trees P → ℕ
  third_link c = link_to (behind_first (behind_first c)) (1 + (first_count c + first_count (behind_first c)))

  -- the last two numbers of a row: fields of a node without children, links of one with children
  unfoldable pub last_slots : List ℤ → Trees P → List ℤ
  last_slots slots end = get_or slots 2 (pos 0) ∷ get_or slots 3 (pos 0) ∷ []
  last_slots slots (node l fs c t) = pos (second_link (node l fs c t)) ∷ pos (third_link (node l fs c t)) ∷ []

  abbrev pub row_for : ℕ → List ℤ → Trees P → List ℤ
  row_for letter slots c = pos letter ∷ get_or slots 0 (pos 0) ∷ get_or slots 1 (pos 0) ∷ last_slots slots c

  -- the rows of trees, one tree after the other
  unfoldable pub rows : Form P → Trees P → List ℤ
  rows form end = []
  rows form (node l fs c t) = row_for (row_of form l).letter (slots_of fs) c ++ (rows form c ++ rows form t)
