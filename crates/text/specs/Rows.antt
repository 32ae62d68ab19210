-- What an answer of the code about a node's row means: a node was opened, and its row stands in the table.
use Rattle.std.specs.Prelude.{◌*◌, ◌+◌, ℕ, eqb, pos, ℤ, cond, List, [], ◌∷◌, ◌≡◌, Err, None, Ok, Option, Result, Some}
use Rattle.std.proofs.lemmas.List.Edits.{sets}
use Rattle.language.specs.Text.Letters.{Form, Kind}
use Rattle.text.specs.Refusals.{number_of}
use Rattle.text.specs.Trees.{Begun, Opens, Refuses}
use Rattle.text.specs.declared.trees.Head.{Head}
use Rattle.fields.specs.declared.slots.Slots.{Slots}
use Rattle.text.specs.declared.Refusal.{Refusal}
use Rattle.text.specs.declared.quick.Opened.{Opened}

-- the row of a node that was opened; one with children has no links yet
abbrev pub row_with : ℕ → ℤ → ℤ → ℤ → ℤ → ℕ → List ℤ
row_with letter a b c d kids = pos letter ∷ a ∷ b ∷ cond (eqb kids 0) c (pos 0) ∷ cond (eqb kids 0) d (pos 0) ∷ []

abbrev pub open_row : Head → List ℤ
open_row h = row_with h.letter h.a h.b h.c h.d h.kid1

-- the kinds of a node's children in base 4, the first lowest
abbrev pub kids_of : Head → ℕ
kids_of h = h.kid1 + 4 * h.kid2 + 16 * h.kid3

module _ {P : Type 0} (form : Form P) where
  module _ (left : ℕ) where
    -- a node was opened, and stands in the table as row count
    pub record RowBegun (kind : Kind) (text : List ℕ) (at : ℕ) (old new : List ℤ) (count next kids : ℕ) : Type 0 where
      pub head : Head
      pub begun : Begun form left kind text at count head
      pub behind : head.next ≡ next
      pub children : kids_of head ≡ kids
      pub row : new ≡ sets old (5 * count) (open_row head)

    abbrev pub RowIs : Kind → List ℕ → ℕ → List ℤ → List ℤ → ℕ → Result Opened Refusal → Type 0
    RowIs kind text at old new count (Ok it) = RowBegun kind text at old new count it.next it.kids
    RowIs kind text at old new count (Err k) = Refuses form left kind text at count (number_of k)

  -- a node that is opened wherever there is room for it, or another and nothing was written
  pub record RowOpens (kind : Kind) (text : List ℕ) (at : ℕ) (old new : List ℤ) (count next kids : ℕ) : Type 0 where
    pub head : Head
    pub opens : Opens form kind text at head
    pub behind : head.next ≡ next
    pub children : kids_of head ≡ kids
    pub row : new ≡ sets old (5 * count) (open_row head)

  abbrev pub QuickIs : Kind → List ℕ → ℕ → List ℤ → List ℤ → ℕ → Option Opened → Type 0
  QuickIs kind text at old new count (Some it) = RowOpens kind text at old new count it.next it.kids
  QuickIs kind text at old new count None = new ≡ old

-- the fields of a node as its row, where they are known
abbrev pub FillIs : Option Slots → ℕ → List ℤ → List ℤ → ℕ → ℕ → Option Opened → Type 0
FillIs (Some it) letter old new count kids r = (r ≡ Some (record { next = it.next; kids = kids })) × (new ≡ sets old (5 * count) (row_with letter it.a it.b it.c it.d kids))
FillIs None letter old new count kids r = (r ≡ None) × (new ≡ old)
