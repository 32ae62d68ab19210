-- A row's letter as a byte, and which fields a row with that letter has.
use Prim.Native.Nat.{◌<◌, ◌≤◌, ℕ}
use borrow.Author.Tests.{eqb-true, le-leb, lt-leb, ltb-false, ltb-true}
use lib.Dec.{T, eqb}
use lib.IntN.{nat_abs, negsuc, pos, ℤ}
use lib.Signed.{lt_z, non_neg}
use mathlib.Core.Bool.{Bool, cond, false, true, true≢false}
use mathlib.Core.List.{List, [], ◌∷◌}
use mathlib.Core.Option.{some}
use mathlib.Core.Path.{◌∙◌, ◌≡◌, ap, refl, subst, sym}
use mir.Facts.{to_z-of_z}
use mir.Syntax.{w64, w8}
use mir.Val.{Fits, SFits, of_z, to_z}
use native.Mathlib.Omega.{arith}
use Rattle.language.specs.Text.Letters.{AmountLetter, Class, Form, Letter, PayoffLetter, PlanLetter, TestLetter, amount_row, letter_among, letter_in, of_amount, of_root, of_test, payoff_form, payoff_row, plan_form, plan_row, roots_then, row_of, test_row}
use Rattle.language.specs.Text.Number.{between}
use Rattle.nodes.proofs.Signed.{key}
use Rattle.writer.proofs.Numbers.{rd}
use Rattle.writer.specs.Shapes.{ShapeOf, shape_fields}
use Rattle.writer.specs.Written.{classes_of, classes_or, fields_from, byte_of_letter}
use Rattle.writer.specs.declared.rows.Shape.TheVariants.{Bare, Index, Leaf, Number, Pair, Wait}
use Rattle.writer.specs.declared.rows.Shape.{Shape}

-- ---- the byte

below : (z : ℤ) → lt_z z (pos 0) ≡ true → 63 ≡ byte_of_letter z
below (pos n) e = let h : n < 0 = ltb-true n 0 e in absurd (omega arith)
below (negsuc n) e = refl

above : (z : ℤ) → lt_z (pos 255) z ≡ true → 63 ≡ byte_of_letter z
above (pos n) e = rw (lt-leb n 255 (ltb-true 255 n e), le-leb 0 n (omega arith))
above (negsuc n) e = absurd (true≢false (sym e))

within : (z : ℤ) → lt_z z (pos 0) ≡ false → lt_z (pos 255) z ≡ false → (nat_abs z ≡ byte_of_letter z) × (nat_abs z ≤ 255) × T (non_neg z)
within (pos n) e f = (rw (le-leb n 255 (ltb-false 255 n f), le-leb 0 n (omega arith)), ltb-false 255 n f, tt)
within (negsuc n) e f = absurd (true≢false e)

-- the same of what a local reads as
module _ (z : ℤ) (f : SFits w64 z) where
  pub byte_below : lt_z (rd z) (pos 0) ≡ true → 63 ≡ byte_of_letter z
  byte_below e = below z (rw (to_z-of_z f) at e)

  pub byte_above : lt_z (pos 255) (rd z) ≡ true → 63 ≡ byte_of_letter z
  byte_above e = above z (rw (to_z-of_z f) at e)

  module _ (e : lt_z (rd z) (pos 0) ≡ false) (g : lt_z (pos 255) (rd z) ≡ false) where
    is : (nat_abs z ≡ byte_of_letter z) × (nat_abs z ≤ 255) × T (non_neg z)
    is = within z (rw (to_z-of_z f) at e) (rw (to_z-of_z f) at g)

    pub byte_cast : T (non_neg (rd z)) × Fits w8 (nat_abs (rd z))
    byte_cast = rw (to_z-of_z f) (is.2, record { fits = omega (arith, is.1) })

    pub byte_is : nat_abs (rd z) ≡ byte_of_letter z
    byte_is = rw (to_z-of_z f) is.0

-- ---- the letters with fields

pub shapes : ShapeOf 78 Number × ShapeOf 81 Number × ShapeOf 84 Pair × ShapeOf 76 Wait × ShapeOf 87 Wait × ShapeOf 79 Index × ShapeOf 70 Leaf × ShapeOf 72 Leaf
unfolding classes_of letter_in letter_among row_of payoff_row plan_row amount_row test_row fields_from shape_fields
shapes = (
  record { fields = λ row. refl },
  record { fields = λ row. refl },
  record { fields = λ row. refl },
  record { fields = λ row. refl },
  record { fields = λ row. refl },
  record { fields = λ row. refl },
  record { fields = λ row. refl },
  record { fields = λ row. refl },
)

-- ---- all others

pub record Others (b : ℕ) : Type 0 where
  pub no_n : b ≡ 78 → ⊥
  pub no_q : b ≡ 81 → ⊥
  pub no_t : b ≡ 84 → ⊥
  pub no_l : b ≡ 76 → ⊥
  pub no_w : b ≡ 87 → ⊥
  pub no_o : b ≡ 79 → ⊥
  pub no_f : b ≡ 70 → ⊥
  pub no_h : b ≡ 72 → ⊥

-- a byte that is no letter with fields finds none
module _ {P : Type 0} (form : Form P) (b : ℕ) (bare : (l : Letter P) → b ≡ (row_of form l).letter → (row_of form l).fields ≡ []) (other : List Class) (e : other ≡ []) where
  among : (ls : List (Letter P)) → classes_or form other (letter_among form ls b) ≡ []
  unfolding letter_among
  among [] = e
  among (l ∷ ls) = by (eqb b (row_of form l).letter) refl (among ls)
    where
      by : (t : Bool) → eqb b (row_of form l).letter ≡ t → classes_or form other (letter_among form ls b) ≡ [] → classes_or form other (cond t (some l) (letter_among form ls b)) ≡ []
      by true q r = bare l (eqb-true b (row_of form l).letter q)
      by false q r = r

plan_bare : (b : ℕ) → Others b → (l : Letter PlanLetter) → b ≡ (row_of plan_form l).letter → (row_of plan_form l).fields ≡ []
unfolding row_of plan_row amount_row test_row
plan_bare b o (of_root PlanLetter.Z) e = refl
plan_bare b o (of_root PlanLetter.T) e = absurd (o.no_t e)
plan_bare b o (of_root PlanLetter.S) e = refl
plan_bare b o (of_root PlanLetter.L) e = absurd (o.no_l e)
plan_bare b o (of_root PlanLetter.B) e = refl
plan_bare b o (of_root PlanLetter.W) e = absurd (o.no_w e)
plan_bare b o (of_amount AmountLetter.N) e = absurd (o.no_n e)
plan_bare b o (of_amount AmountLetter.O) e = absurd (o.no_o e)
plan_bare b o (of_amount AmountLetter.A) e = refl
plan_bare b o (of_amount AmountLetter.U) e = refl
plan_bare b o (of_amount AmountLetter.K) e = refl
plan_bare b o (of_amount AmountLetter.Q) e = absurd (o.no_q e)
plan_bare b o (of_amount AmountLetter.I) e = refl
plan_bare b o (of_test TestLetter.G) e = refl
plan_bare b o (of_test TestLetter.E) e = refl
plan_bare b o (of_test TestLetter.Y) e = refl
plan_bare b o (of_test TestLetter.«V») e = refl
plan_bare b o (of_test TestLetter.R) e = refl

payoff_bare : (b : ℕ) → Others b → (l : Letter PayoffLetter) → b ≡ (row_of payoff_form l).letter → (row_of payoff_form l).fields ≡ []
unfolding row_of payoff_row amount_row test_row
payoff_bare b o (of_root PayoffLetter.Z) e = refl
payoff_bare b o (of_root PayoffLetter.F) e = absurd (o.no_f e)
payoff_bare b o (of_root PayoffLetter.H) e = absurd (o.no_h e)
payoff_bare b o (of_root PayoffLetter.S) e = refl
payoff_bare b o (of_root PayoffLetter.B) e = refl
payoff_bare b o (of_root PayoffLetter.W) e = absurd (o.no_w e)
payoff_bare b o (of_amount AmountLetter.N) e = absurd (o.no_n e)
payoff_bare b o (of_amount AmountLetter.O) e = absurd (o.no_o e)
payoff_bare b o (of_amount AmountLetter.A) e = refl
payoff_bare b o (of_amount AmountLetter.U) e = refl
payoff_bare b o (of_amount AmountLetter.K) e = refl
payoff_bare b o (of_amount AmountLetter.Q) e = absurd (o.no_q e)
payoff_bare b o (of_amount AmountLetter.I) e = refl
payoff_bare b o (of_test TestLetter.G) e = refl
payoff_bare b o (of_test TestLetter.E) e = refl
payoff_bare b o (of_test TestLetter.Y) e = refl
payoff_bare b o (of_test TestLetter.«V») e = refl
payoff_bare b o (of_test TestLetter.R) e = refl

no_classes_lem : (b : ℕ) → Others b → classes_of b ≡ []
unfolding classes_of letter_in
no_classes_lem b o =
    among payoff_form b (payoff_bare b o) (classes_or plan_form [] (letter_in plan_form (b ∷ [])))
    (among plan_form b (plan_bare b o) [] refl (roots_then plan_form plan_form.letters))
    (roots_then payoff_form payoff_form.letters)

pub others_bare : (b : ℕ) → Others b → ShapeOf b Bare
unfolding fields_from shape_fields
others_bare b o = record { fields = λ row. ap (λ (cs : List Class). fields_from cs 1 row) (no_classes_lem b o) }

-- ---- a letter as the row has it

pub keyed : (z : ℤ) (n : ℕ) {s : Shape} → SFits w64 z → of_z w64 z ≡ n → byte_of_letter (to_z w64 n) ≡ n → ShapeOf n s → ShapeOf (byte_of_letter z) s
keyed z n {s} f e b h = subst (λ (x : ℕ). ShapeOf x s) (sym (ap byte_of_letter (key f e) ∙ b)) h

-- a number that is not n is not written as n, but for the question mark
pub no_letter : (z : ℤ) (n : ℕ) → (n ≡ 63 → ⊥) → (of_z w64 z ≡ n → ⊥) → byte_of_letter z ≡ n → ⊥
no_letter (pos a) n q h e = by (between (pos 0) (pos 255) (pos a)) e
  where
    by : (t : Bool) → cond t a 63 ≡ n → ⊥
    by true e = h e
    by false e = q (sym e)
no_letter (negsuc a) n q h e = q (sym e)
