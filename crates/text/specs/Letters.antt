-- The letter table as the code has it: kinds by number.
use Rattle.std.specs.Prelude.{◌%◌, ◌/◌, ◌≤◌, ℕ, eqb, cond, List, [], ◌∷◌, ◌≡◌, None}
use Rattle.std.proofs.Math.Option.{Option, none, some}
use Rattle.fields.specs.Fields.{classes_of_three}
use Rattle.language.specs.Text.Letters.{Form, Kind, Letter, PayoffLetter, PlanLetter, amount, kind_of, letter_among, payoff_form, plan_form, root, roots_then, row_of, test}
use Rattle.language.specs.Text.Number.{byte}
use Rattle.text.specs.declared.letters.Shape.{Shape}
use Rattle.text.specs.declared.letters.TextForm.{TextForm}
use Rattle.text.specs.declared.letters.TextForm.TheVariants.{Payoff, Plan}

-- ---- the two texts

abbrev pub letters_of : TextForm → Type 0
letters_of Plan = PlanLetter
letters_of Payoff = PayoffLetter

abbrev pub form_of : (form : TextForm) → Form (letters_of form)
form_of Plan = plan_form
form_of Payoff = payoff_form

-- ---- kinds: 1 plan or payoff, 2 amount, 3 test

abbrev pub kind_number : Kind → ℕ
kind_number root = 1
kind_number amount = 2
kind_number test = 3

unfoldable pub kind_at : ℕ → Kind
kind_at k = cond (eqb k 1) root (cond (eqb k 2) amount test)

-- the kinds of children, up to the first 0
unfoldable pub kinds : ℕ → ℕ → ℕ → List Kind
kinds x y z = cond (eqb x 0) [] (kind_at x ∷ cond (eqb y 0) [] (kind_at y ∷ cond (eqb z 0) [] (kind_at z ∷ [])))

-- ---- a letter's row, as the code has it

module _ {P : Type 0} (form : Form P) (letter : ℕ) where
  pub record Shaped (l : Letter P) (s : Shape) : Type 0 where
    pub is : (row_of form l).letter ≡ letter
    pub sort : s.kind ≡ kind_number (kind_of form l)
    pub classes : (row_of form l).fields ≡ classes_of_three s.first s.second s.third
    pub below : (row_of form l).children ≡ kinds s.kid1 s.kid2 s.kid3
    pub small : (s.kid1 ≤ 3) × (s.kid2 ≤ 3) × (s.kid3 ≤ 3)

  abbrev pub ShapeFor : Option (Letter P) → Shape → Type 0
  ShapeFor none s = s.kind ≡ 0
  ShapeFor (some l) s = Shaped l s

  abbrev pub ShapeIs : Shape → Type 0
  ShapeIs s = ShapeFor (letter_among form (roots_then form form.letters) letter) s

-- ---- a letter without fields, in one number: its kind and the kinds of its children, from the lowest digit in base 4

abbrev pub bare_shape : ℕ → Shape
bare_shape p = record { kind = p % 4; first = None; second = None; third = None; kid1 = p / 4 % 4; kid2 = p / 16 % 4; kid3 = p / 64 }

-- in both texts the letter has this row, unless p is 0
pub record BareIs (letter p : ℕ) : Type 0 where
  pub is : (p ≡ 0 → ⊥) → (form : TextForm) → ShapeIs (form_of form) letter (bare_shape p)
  pub other : (p ≡ 0 → ⊥) → letter ≡ byte "," → ⊥
