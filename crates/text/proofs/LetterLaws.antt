-- Laws of the letter table: a letter that is known with its row, and one that is not.
use Prim.Native.Nat.{◌%◌, ◌/◌, ℕ}
use borrow.Author.Tests.{eqb-false, eqb-true, leb-true}
use lib.Dec.{eqb, leb}
use mathlib.Core.Bool.{Bool, ◌&&◌, false, true}
use mathlib.Core.List.{List, [], ◌∷◌}
use mathlib.Core.Option.{Option, none, some}
use mathlib.Core.Path.{◌∙◌, ◌≡◌, ap₂, refl, sym}
use native.Mathlib.Omega.{arith}
use Rattle.fields.specs.Fields.{classes_of_three}
use Rattle.language.proofs.Truth.{and_e}
use Rattle.language.specs.Text.Letters.{Class, Form, Kind, Letter, amount, kind_of, letter_among, payoff_form, plan_form, root, roots_then, row_of, test}
use Rattle.text.specs.Letters.{BareIs, ShapeFor, ShapeIs, bare_shape, form_of, kind_number, kinds}
use Rattle.text.specs.declared.letters.Shape.{Shape}
use Rattle.text.specs.declared.letters.TextForm.{TextForm}
use Rattle.text.specs.declared.letters.TextForm.TheVariants.{Payoff, Plan}

module _ {P : Type 0} (form : Form P) (b : ℕ) (s t : Shape) where
  -- letter l is byte k, and t is its row: equations that compute
  pub known : (k : ℕ) (l : Letter P) → b ≡ k → s ≡ t → letter_among form (roots_then form form.letters) k ≡ some l
      → (row_of form l).letter ≡ k → t.kind ≡ kind_number (kind_of form l) → (row_of form l).fields ≡ classes_of_three t.first t.second t.third
      → (row_of form l).children ≡ kinds t.kid1 t.kid2 t.kid3 → leb t.kid1 3 && (leb t.kid2 3 && leb t.kid3 3) ≡ true → ShapeIs form b s
  known k l e f g is sort classes below small =
      let x = and_e (leb t.kid1 3) (leb t.kid2 3 && leb t.kid3 3) small in
      let y = and_e (leb t.kid2 3) (leb t.kid3 3) x.1 in
      rw (e, f, g) (record { is = is; sort = sort; classes = classes; below = below; small = (leb-true _ _ x.0, leb-true _ _ y.0, leb-true _ _ y.1) })

  pub unknown : s ≡ t → letter_among form (roots_then form form.letters) b ≡ none → t.kind ≡ 0 → ShapeIs form b s
  unknown f g h = rw (f, g) h

-- ---- letters without fields

-- whether a letter has the row that p stands for: a test that computes
abbrev no_classes : List Class → Bool
no_classes [] = true
no_classes (c ∷ cs) = false

no_classes_lem : (cs : List Class) → no_classes cs ≡ true → cs ≡ []
no_classes_lem [] e = refl
no_classes_lem (c ∷ cs) e = let z : ◌≡◌ {A = ℕ} 0 1 = cc in absurd (omega arith)

abbrev kinds_are : List Kind → List Kind → Bool
kinds_are [] [] = true
kinds_are [] (j ∷ js) = false
kinds_are (k ∷ ks) [] = false
kinds_are (k ∷ ks) (j ∷ js) = eqb (kind_number k) (kind_number j) && kinds_are ks js

same_number : (k j : Kind) → kind_number k ≡ kind_number j → k ≡ j
same_number root root e = refl
same_number root amount e = absurd (omega arith)
same_number root test e = absurd (omega arith)
same_number amount root e = absurd (omega arith)
same_number amount amount e = refl
same_number amount test e = absurd (omega arith)
same_number test root e = absurd (omega arith)
same_number test amount e = absurd (omega arith)
same_number test test e = refl

kinds_are_lem : (ks js : List Kind) → kinds_are ks js ≡ true → ks ≡ js
kinds_are_lem [] [] e = refl
kinds_are_lem [] (j ∷ js) e = let z : ◌≡◌ {A = ℕ} 0 1 = cc in absurd (omega arith)
kinds_are_lem (k ∷ ks) [] e = let z : ◌≡◌ {A = ℕ} 0 1 = cc in absurd (omega arith)
kinds_are_lem (k ∷ ks) (j ∷ js) e =
    let h = and_e (eqb (kind_number k) (kind_number j)) (kinds_are ks js) e in
    ap₂ ◌∷◌ (same_number k j (eqb-true _ _ h.0)) (kinds_are_lem ks js h.1)

module _ {P : Type 0} (form : Form P) (k p : ℕ) where
  abbrev small : Bool
  small = leb (p / 4 % 4) 3 && (leb (p / 16 % 4) 3 && leb (p / 64) 3)

  abbrev row : Letter P → Bool
  row l = no_classes (row_of form l).fields && kinds_are (row_of form l).children (kinds (p / 4 % 4) (p / 16 % 4) (p / 64))

  abbrev has : Option (Letter P) → Bool
  has none = false
  has (some l) = (eqb (row_of form l).letter k && eqb (p % 4) (kind_number (kind_of form l))) && (row l && small)

  has_shape : (o : Option (Letter P)) → has o ≡ true → ShapeFor form k o (bare_shape p)
  unfolding classes_of_three
  has_shape none e = let z : ◌≡◌ {A = ℕ} 0 1 = cc in absurd (omega arith)
  has_shape (some l) e =
      let h = and_e (eqb (row_of form l).letter k && eqb (p % 4) (kind_number (kind_of form l))) (row l && small) e in
      let a = and_e (eqb (row_of form l).letter k) (eqb (p % 4) (kind_number (kind_of form l))) h.0 in
      let b = and_e (row l) small h.1 in
      let r = and_e (no_classes (row_of form l).fields) (kinds_are (row_of form l).children (kinds (p / 4 % 4) (p / 16 % 4) (p / 64))) b.0 in
      let x = and_e (leb (p / 4 % 4) 3) (leb (p / 16 % 4) 3 && leb (p / 64) 3) b.1 in
      let y = and_e (leb (p / 16 % 4) 3) (leb (p / 64) 3) x.1 in
      record {
        is = eqb-true _ _ a.0;
        sort = eqb-true _ _ a.1;
        classes = no_classes_lem _ r.0;
        below = kinds_are_lem _ _ r.1;
        small = (leb-true _ _ x.0, leb-true _ _ y.0, leb-true _ _ y.1);
      }

  -- the test, for the letter of byte k
  abbrev pub has_row : Bool
  has_row = has (letter_among form (roots_then form form.letters) k)

  has_row_lem : has_row ≡ true → ShapeIs form k (bare_shape p)
  has_row_lem e = has_shape (letter_among form (roots_then form form.letters) k) e

-- by a test in both texts
bare_in : (k p : ℕ) → has_row plan_form k p ≡ true → has_row payoff_form k p ≡ true → (form : TextForm) → ShapeIs (form_of form) k (bare_shape p)
bare_in k p a b Plan = has_row_lem plan_form k p a
bare_in k p a b Payoff = has_row_lem payoff_form k p b

pub bare_row : (letter k p : ℕ) → letter ≡ k → eqb k 44 ≡ false → has_row plan_form k p ≡ true → has_row payoff_form k p ≡ true → BareIs letter p
bare_row letter k p e n a b = record { is = λ q form. rw e (bare_in k p a b form); other = λ q f. eqb-false k 44 n (sym e ∙ f) }
