-- What an answer of the code about fields means: a definition's result, with a byte of the text for the fields that are left.
use Rattle.std.specs.Prelude.{◌+◌, ◌≤◌, ℕ, pos, ℤ, get_or, length, Bool, false, true, cond, List, [], ◌∷◌, ◌≡◌, None, Some}
use Rattle.std.proofs.Math.Option.{Option, none, some}
use Rattle.language.specs.Answer.{got, refused}
use Rattle.language.specs.Text.Classes.{Field, field_of, ranged}
use Rattle.language.specs.Text.Letters.{Class, month}
use Rattle.language.specs.Text.Reader.{read_fields}
use Rattle.nodes.specs.Rows.{field_slots, slots_of}
use Rattle.fields.specs.Classes.{class_of}
use Rattle.fields.specs.Positions.{fields_from}
use Rattle.fields.specs.declared.field.Class as coded
use Rattle.fields.specs.declared.field.Class.TheVariants.{Month}
use Rattle.fields.specs.declared.field.Range.{Range}
use Rattle.fields.specs.declared.field.Taking.{Taking}
use Rattle.fields.specs.declared.slots.Slots.{Slots}
use Rattle.fields.specs.declared.slots.TakingTwo.{TakingTwo}
use Rattle.std.specs.Prelude as std

-- ---- one field

abbrev pub first_as : Class → List (List ℕ) → Option Field
first_as c [] = none
first_as c (f ∷ fs) = field_of c f

abbrev pub behind : List (List ℕ) → List (List ℕ)
behind [] = []
behind (f ∷ fs) = fs

-- the field at byte `at` is of the class, these are its numbers, and the next one starts at byte next
pub record Taken (c : Class) (text : List ℕ) (at : ℕ) (slots : List ℤ) (next : ℕ) : Type 0 where
  pub field : Field
  pub is : first_as c (fields_from text at) ≡ some field
  pub rest : behind (fields_from text at) ≡ fields_from text next
  pub slot : field_slots field ≡ slots
  pub onward : at ≤ next
  pub within : next ≤ length text + 1

abbrev pub TakenIs : Class → List ℕ → ℕ → std.Option Taking → Type 0
TakenIs c text at (Some it) = Taken c text at (it.value ∷ []) it.next
TakenIs c text at None = first_as c (fields_from text at) ≡ none

-- where a field of one digit and a comma was looked for, and any other is not told
abbrev pub TriedIs : Class → List ℕ → ℕ → std.Option Taking → Type 0
TriedIs c text at (Some it) = Taken c text at (it.value ∷ []) it.next × (it.next ≡ at + 2)
TriedIs c text at None = Unit {0}

-- a digit as a number within a range, in front of byte next
pub record Digit (range : Range) (d next : ℕ) (z : ℤ) (n : ℕ) : Type 0 where
  pub is : ranged range.low range.high (some (pos d)) ≡ some z
  pub ends : n ≡ next

abbrev pub DigitIs : Range → ℕ → ℕ → std.Option Taking → Type 0
DigitIs range d next (Some it) = Digit range d next it.value it.next
DigitIs range d next None = ranged range.low range.high (some (pos d)) ≡ none

abbrev pub MonthIs : List ℕ → ℕ → std.Option TakingTwo → Type 0
MonthIs text at (Some it) = Taken month text at (it.a ∷ it.b ∷ []) it.next
MonthIs text at None = first_as month (fields_from text at) ≡ none

-- the same for a month of one digit, which has no settings
abbrev pub MonthTried : List ℕ → ℕ → std.Option Taking → Type 0
MonthTried text at (Some it) = Taken month text at (it.value ∷ pos 0 ∷ []) it.next × (it.next ≡ at + 2)
MonthTried text at None = Unit {0}

-- ---- several: the classes up to the first that is none

abbrev pub is_month : coded.Class → Bool
is_month Month = true
is_month c = false

abbrev pub class_alone : std.Option coded.Class → List Class
class_alone None = []
class_alone (Some c) = class_of c ∷ []

unfoldable pub classes_of_two : std.Option coded.Class → std.Option coded.Class → List Class
classes_of_two None d = []
classes_of_two (Some c) d = cond (is_month c) (month ∷ []) (class_of c ∷ class_alone d)

unfoldable pub classes_of_three : std.Option coded.Class → std.Option coded.Class → std.Option coded.Class → List Class
classes_of_three None d e = []
classes_of_three (Some c) d e = cond (is_month c) (month ∷ classes_of_two d e) (class_of c ∷ classes_of_two d e)

-- fields of these classes were read from byte `at` up to byte next, whatever the count of nodes
pub record ReadUpTo (cs : List Class) (text : List ℕ) (at : ℕ) (values : List Field) (next : ℕ) : Type 0 where
  pub is : (n : ℕ) → read_fields cs (record { nodes = n; fields = fields_from text at }) ≡ got (record { value = values; rest = record { nodes = n; fields = fields_from text next } })
  pub onward : at ≤ next
  pub within : next ≤ length text + 1

-- a field of these classes is missing or malformed
pub record Malformed (cs : List Class) (text : List ℕ) (at : ℕ) : Type 0 where
  pub is : (n : ℕ) → read_fields cs (record { nodes = n; fields = fields_from text at }) ≡ refused 2

abbrev pub slot_at : List Field → ℕ → ℤ
slot_at values i = get_or (slots_of values) i (pos 0)

pub record Two (cs : List Class) (text : List ℕ) (at : ℕ) (a b : ℤ) (next : ℕ) : Type 0 where
  pub values : List Field
  pub all : ReadUpTo cs text at values next
  pub first : slot_at values 0 ≡ a
  pub second : slot_at values 1 ≡ b
  pub third : slot_at values 2 ≡ pos 0

abbrev pub PairIs : List Class → List ℕ → ℕ → std.Option TakingTwo → Type 0
PairIs cs text at (Some it) = Two cs text at it.a it.b it.next
PairIs cs text at None = Malformed cs text at

pub record Four (cs : List Class) (text : List ℕ) (at : ℕ) (a b c d : ℤ) (next : ℕ) : Type 0 where
  pub values : List Field
  pub all : ReadUpTo cs text at values next
  pub first : slot_at values 0 ≡ a
  pub second : slot_at values 1 ≡ b
  pub third : slot_at values 2 ≡ c
  pub fourth : slot_at values 3 ≡ d

abbrev pub SlotsAre : List Class → List ℕ → ℕ → std.Option Slots → Type 0
SlotsAre cs text at (Some it) = Four cs text at it.a it.b it.c it.d it.next
SlotsAre cs text at None = Malformed cs text at

-- where not all fields of these classes were looked for
abbrev pub SlotsTried : List Class → List ℕ → ℕ → std.Option Slots → Type 0
SlotsTried cs text at (Some it) = Four cs text at it.a it.b it.c it.d it.next
SlotsTried cs text at None = Unit {0}
