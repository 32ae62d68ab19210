-- Laws of the nodes that are tried first: where their letter and fields stand, they are opened.
use Prim.Native.Nat.{◌%◌, ◌*◌, ◌+◌, ◌/◌, ◌<◌, ◌≤◌, ℕ}
use lib.Dec.{eqb}
use lib.IntN.{pos, ℤ}
use lib.ListN.{drop, get_or, length}
use lib.Seq.{sets}
use mathlib.Core.Bool.{Bool, cond}
use mathlib.Core.List.{List, [], ◌∷◌}
use mathlib.Core.Path.{◌∙◌, ◌≡◌, ap, ap₂, refl, subst, sym}
use native.Mathlib.Omega.{arith}
use Rattle.fields.proofs.FieldLaws.{four_none}
use Rattle.fields.proofs.Positions.{up_comma, up_more}
use Rattle.fields.specs.Classes.{class_of}
use Rattle.fields.specs.Fields.{SlotsTried, classes_of_three, classes_of_two}
use Rattle.fields.specs.Positions.{up_to}
use Rattle.language.specs.Text.Letters.{AmountLetter, Form, PayoffLetter, PlanLetter, amount_row, letter_among, of_amount, of_root, payoff_form, payoff_row, plan_form, plan_row, row_of, test_row}
use Rattle.text.specs.Letters.{BareIs, ShapeIs, bare_shape, form_of, kind_at, kinds}
use Rattle.text.specs.Rows.{FillIs, QuickIs}
use Rattle.text.specs.Trees.{Opens}
use Rattle.text.specs.declared.letters.Shape.{Shape}
use Rattle.text.specs.declared.letters.TextForm.{TextForm}
use Rattle.text.specs.declared.letters.TextForm.TheVariants.{Payoff, Plan}
use Rattle.text.proofs.LetterLaws.{known}
use Rattle.text.proofs.OpenLaws.{open_done}
use Rattle.text.proofs.RowLaws.{with_zeros}
use Rattle.std.specs.Prelude.{None, Option, Some}
use Rattle.fields.specs.declared.field.Class as coded
use Rattle.fields.specs.declared.field.Class.TheVariants.{Delay, Divisor, Figure, FromNode, Label, Month, Party}
use Rattle.fields.specs.declared.slots.Slots.{Slots}
use Rattle.text.specs.declared.quick.Opened.{Opened}

-- ---- the rows of letters with fields

-- the row of a letter with fields and at most one child
abbrev pub common_shape : ℕ → Option coded.Class → Option coded.Class → Option coded.Class → ℕ → Shape
common_shape kind first second third kid = record { kind = kind; first = first; second = second; third = third; kid1 = kid; kid2 = 0; kid3 = 0 }

-- that of a wait
abbrev pub wait_shape : Shape
wait_shape = record { kind = 1; first = Some Delay; second = None; third = None; kid1 = 3; kid2 = 1; kid3 = 1 }

pub number_shape : (form : TextForm) → ShapeIs (form_of form) 78 (common_shape 2 (Some Figure) None None 0)
unfolding letter_among row_of plan_row payoff_row amount_row test_row classes_of_three classes_of_two class_of kinds kind_at
number_shape Plan = known plan_form _ _ _ 78 (of_amount AmountLetter.N) refl refl refl refl refl refl refl refl
number_shape Payoff = known payoff_form _ _ _ 78 (of_amount AmountLetter.N) refl refl refl refl refl refl refl refl

pub index_shape : ShapeIs plan_form 79 (common_shape 2 (Some Label) (Some FromNode) None 0)
unfolding letter_among row_of plan_row amount_row test_row classes_of_three classes_of_two class_of kinds kind_at
index_shape = known plan_form _ _ _ 79 (of_amount AmountLetter.O) refl refl refl refl refl refl refl refl

pub reading_shape : ShapeIs payoff_form 79 (common_shape 2 (Some Label) (Some Month) None 0)
unfolding letter_among row_of payoff_row amount_row test_row classes_of_three classes_of_two class_of kinds kind_at
reading_shape = known payoff_form _ _ _ 79 (of_amount AmountLetter.O) refl refl refl refl refl refl refl refl

pub transfer_shape : ShapeIs plan_form 84 (common_shape 1 (Some Party) (Some Party) None 0)
unfolding letter_among row_of plan_row amount_row test_row classes_of_three classes_of_two class_of kinds kind_at
transfer_shape = known plan_form _ _ _ 84 (of_root PlanLetter.T) refl refl refl refl refl refl refl refl

pub future_shape : ShapeIs payoff_form 70 (common_shape 1 (Some Month) (Some Party) (Some Party) 0)
unfolding letter_among row_of payoff_row amount_row test_row classes_of_three classes_of_two class_of kinds kind_at
future_shape = known payoff_form _ _ _ 70 (of_root PayoffLetter.F) refl refl refl refl refl refl refl refl

pub cut_shape : ShapeIs payoff_form 72 (common_shape 1 (Some Month) (Some Party) (Some Party) 0)
unfolding letter_among row_of payoff_row amount_row test_row classes_of_three classes_of_two class_of kinds kind_at
cut_shape = known payoff_form _ _ _ 72 (of_root PayoffLetter.H) refl refl refl refl refl refl refl refl

pub delay_shape : ShapeIs plan_form 76 (common_shape 1 (Some Delay) None None 1)
unfolding letter_among row_of plan_row amount_row test_row classes_of_three classes_of_two class_of kinds kind_at
delay_shape = known plan_form _ _ _ 76 (of_root PlanLetter.L) refl refl refl refl refl refl refl refl

pub quotient_shape : (form : TextForm) → ShapeIs (form_of form) 81 (common_shape 2 (Some Divisor) None None 2)
unfolding letter_among row_of plan_row payoff_row amount_row test_row classes_of_three classes_of_two class_of kinds kind_at
quotient_shape Plan = known plan_form _ _ _ 81 (of_amount AmountLetter.Q) refl refl refl refl refl refl refl refl
quotient_shape Payoff = known payoff_form _ _ _ 81 (of_amount AmountLetter.Q) refl refl refl refl refl refl refl refl

pub wait_shape_lem : (form : TextForm) → ShapeIs (form_of form) 87 wait_shape
unfolding letter_among row_of plan_row payoff_row amount_row test_row classes_of_three classes_of_two class_of kinds kind_at
wait_shape_lem Plan = known plan_form _ _ _ 87 (of_root PlanLetter.W) refl refl refl refl refl refl refl refl
wait_shape_lem Payoff = known payoff_form _ _ _ 87 (of_root PayoffLetter.W) refl refl refl refl refl refl refl refl

-- ---- a letter without fields, in front of a comma or at the text's end

some_bits : (k p : ℕ) → p % 4 ≡ k → 0 < k → p ≡ 0 → ⊥
some_bits k p q l e = let z : 0 % 4 ≡ k = sym (ap (λ (n : ℕ). n % 4) e) ∙ q in omega (arith, z, l)

module _ (text : List ℕ) (at k : ℕ) (h : at < length text) (letter : ℕ) (alone : up_to 44 (drop at text) ≡ letter ∷ []) where
  bare_opens : (form : TextForm) (p : ℕ) → BareIs letter p → 0 < k → p % 4 ≡ k
      → Opens (form_of form) (kind_at k) text at (record {
        letter = letter;
        a = pos 0;
        b = pos 0;
        c = pos 0;
        d = pos 0;
        next = at + 2;
        kid1 = p / 4 % 4;
        kid2 = p / 16 % 4;
        kid3 = p / 64;
      })
  bare_opens form p b l q = record {
    is = λ left count room level. open_done (form_of form) left k text at count (omega (arith, h)) letter (bare_shape p) alone (b.is (some_bits k p q l) form)
        (λ e. omega (arith, l, sym q ∙ e)) q room level (pos 0) (pos 0) (pos 0) (pos 0) (pos 0) (pos 0) (pos 0) (pos 0) (at + 2) (four_none text (at + 2) None None None refl (omega (arith, h))) refl refl refl refl;
  }

  pub bare_row : (form : TextForm) (p : ℕ) → BareIs letter p → 0 < k → p % 4 ≡ k → (old new : List ℤ) (count : ℕ)
      → new ≡ sets old (5 * count) (pos letter ∷ pos 0 ∷ pos 0 ∷ pos 0 ∷ pos 0 ∷ []) → QuickIs (form_of form) (kind_at k) text at old new count (Some (record { next = at + 2; kids = p / 4 }))
  bare_row form p b l q old new count e = record {
    head = _;
    opens = bare_opens form p b l q;
    behind = refl;
    children = omega arith;
    row = e ∙ ap (sets old (5 * count)) (with_zeros letter (p / 4 % 4));
  }

-- ---- where a letter stands

module _ (text : List ℕ) (at k : ℕ) (h : at + 2 ≤ length text) (comma : get_or text (at + 1) 0 ≡ 44) where
  pub sole : (b : ℕ) → get_or text at 0 ≡ b → (b ≡ 44 → ⊥) → up_to 44 (drop at text) ≡ b ∷ []
  sole b letter other =
      let n : get_or text at 0 ≡ 44 → ⊥ = λ e. other (sym letter ∙ e) in
      up_more 44 text at (omega arith) n n ∙ ap (λ (l : List ℕ). get_or text at 0 ∷ l) (up_comma 44 text (at + 1) (omega arith) comma)
      ∙ ap (λ (c : ℕ). c ∷ []) letter

  -- with its fields
  module _ {P : Type 0} (form : Form P) (old new : List ℤ) (count : ℕ) where
    pub filled_opens : (b : ℕ) → get_or text at 0 ≡ b → (b ≡ 44 → ⊥) → (s : Shape) → ShapeIs form b s → (s.kind ≡ 0 → ⊥) → s.kind ≡ k
        → (kids : ℕ) → s.kid1 + 4 * s.kid2 + 16 * s.kid3 ≡ kids → eqb kids 0 ≡ eqb s.kid1 0
        → (slots : Option Slots) → SlotsTried (classes_of_three s.first s.second s.third) text (at + 2) slots → (r : Option Opened) → FillIs slots (get_or text at 0) old new count kids r
        → QuickIs form (kind_at k) text at old new count r
    filled_opens b letter other s sh some_kind same kids sum zero (Some it) f r fill =
        subst (QuickIs form (kind_at k) text at old new count) (sym fill.0) (record {
          head = record { letter = b; a = it.a; b = it.b; c = it.c; d = it.d; next = it.next; kid1 = s.kid1; kid2 = s.kid2; kid3 = s.kid3 };
          opens = record { is = λ left count room level. open_done form left k text at count (omega arith) b s (sole b letter other) sh some_kind same room level it.a it.b it.c it.d it.a it.b it.c it.d it.next f refl refl refl refl };
          behind = refl;
          children = sum;
          row = fill.1 ∙ ap₂ (λ (l : ℕ) (t : Bool). sets old (5 * count) (pos l ∷ it.a ∷ it.b ∷ cond t it.c (pos 0) ∷ cond t it.d (pos 0) ∷ [])) letter zero;
        })
    filled_opens b letter other s sh some_kind same kids sum zero None f r fill = subst (QuickIs form (kind_at k) text at old new count) (sym fill.0) fill.1

  -- a letter without fields
  pub bare_quick : (form : TextForm) (p : ℕ) → BareIs (get_or text at 0) p → 0 < k → p % 4 ≡ k → (old new : List ℤ) (count : ℕ)
      → new ≡ sets old (5 * count) (pos (get_or text at 0) ∷ pos 0 ∷ pos 0 ∷ pos 0 ∷ pos 0 ∷ []) → QuickIs (form_of form) (kind_at k) text at old new count (Some (record { next = at + 2; kids = p / 4 }))
  bare_quick form p b l q old new count e =
      bare_row text at k (omega (arith, h)) (get_or text at 0) (sole (get_or text at 0) refl (b.other (some_bits k p q l))) form p b l q old new count e
