-- Laws of the letters that a text has.
use Prim.Native.Nat.{◌%◌, ◌+◌, ◌-◌, ◌<◌, ◌≤◌, suc, zero, ℕ}
use borrow.Author.Tests.{le-leb}
use lib.Dec.{eqb, leb}
use lib.ListN.{drop, drop_of_length-le, get_or, length, length-append, take}
use lib.Seq.{drop-cons, drop-drop, drop_at}
use mathlib.Core.Bool.{Bool, ◌||◌, cond, false, true}
use mathlib.Core.List.{List, [], ◌++◌, ◌∷◌}
use mathlib.Core.Path.{◌∙◌, ◌≡◌, ap, refl, sym}
use native.Mathlib.Numerals.{add-one}
use native.Mathlib.Omega.{arith}
use Rattle.fields.specs.Positions.{up_to}
use Rattle.language.specs.Text.Letters.{AmountLetter, Class, Letter, PayoffLetter, PlanLetter, TestLetter, amount_row, of_amount, of_root, of_test, payoff_row, plan_row, row_of, test_row}
use Rattle.language.specs.Text.Number.{byte}
use Rattle.text.specs.Letters.{form_of, letters_of}
use Rattle.text.specs.Room.{letters_in}
use Rattle.text.specs.declared.letters.TextForm.{TextForm}
use Rattle.text.specs.declared.letters.TextForm.TheVariants.{Payoff, Plan}

-- no part of a text has more than all of it
pub letters_all : (text : List ℕ) (n : ℕ) → letters_in (take n text) ≤ letters_in text
unfolding letters_in
letters_all text zero = omega arith
letters_all [] (suc n) = omega arith
letters_all (b ∷ bs) (suc n) = omega (arith, letters_all bs n)

-- a field of one byte begins with it
first_byte : (c : ℕ) (cs : List ℕ) (b : ℕ) → up_to 44 (c ∷ cs) ≡ b ∷ [] → c ≡ b
unfolding up_to
first_byte c cs b e = by (eqb c (byte ",") || eqb c 44) e
  where
    by : (t : Bool) → cond t [] (c ∷ up_to 44 cs) ≡ b ∷ [] → c ≡ b
    by true e = let z : ◌≡◌ {A = ℕ} 0 1 = ap length e in absurd (omega arith)
    by false e = ap (λ l. get_or l 0 0) e

no_byte : (b : ℕ) → up_to 44 [] ≡ b ∷ [] → ⊥
unfolding up_to
no_byte b e = let z : ◌≡◌ {A = ℕ} 0 1 = ap length e in absurd (omega arith)

-- behind a letter a text has one more than in front of it
pub letter_more : (text : List ℕ) (at next b : ℕ) → up_to 44 (drop at text) ≡ b ∷ [] → byte "A" ≤ b → at + 2 ≤ next → letters_in (take at text) + 1 ≤ letters_in (take next text)
unfolding letters_in
letter_more text at zero b e h k = absurd (omega (arith, k))
letter_more [] zero (suc n) b e h k = absurd (no_byte b e)
letter_more [] (suc m) (suc n) b e h k = absurd (no_byte b e)
letter_more (c ∷ cs) zero (suc n) b e h k =
    let p : byte "A" ≤ c = omega (arith, h, first_byte c cs b e) in
    rw (le-leb (byte "A") c p) (omega arith)
letter_more (c ∷ cs) (suc m) (suc n) b e h k = omega (arith, letter_more cs m n b e h (omega (arith, k)))

-- ---- counting from byte to byte

-- a byte counts once at most
pub once_at_most : (b : Bool) → cond b 1 0 ≤ 1
once_at_most true = omega arith
once_at_most false = omega arith

-- no more than bytes
pub letters_few : (text : List ℕ) → letters_in text ≤ length text
unfolding letters_in
letters_few [] = omega arith
letters_few (b ∷ bs) = omega (arith, once_at_most (leb (byte "A") b), letters_few bs)

-- one byte on
pub letters_at : (text : List ℕ) (i : ℕ) → i < length text → letters_in (drop i text) ≡ cond (leb (byte "A") (get_or text i 0)) 1 0 + letters_in (drop (i + 1) text)
unfolding letters_in
letters_at text i h = ap letters_in (drop-cons text i 0 h) ∙ rw (add-one i) refl

-- at the end
pub letters_end : (text : List ℕ) (i : ℕ) → length text ≤ i → letters_in (drop i text) ≡ 0
unfolding letters_in
letters_end text i h = rw (drop_of_length-le text h) refl

-- a part and what is behind it
letters_append : (xs ys : List ℕ) → letters_in (xs ++ ys) ≡ letters_in xs + letters_in ys
unfolding letters_in
letters_append [] ys = omega arith
letters_append (x ∷ xs) ys = omega (arith, letters_append xs ys)

-- ---- counting from part to part

-- `rest` is the end of the text, some whole parts are in front of it, and what was found stands there
pub record Parted (text rest : List ℕ) (found : ℕ) : Type 0 where
  pub short : length rest ≤ length text
  pub whole : length rest % 224 ≡ length text % 224
  pub left : drop (length text - length rest) text ≡ rest
  pub all : found + letters_in rest ≡ letters_in text

module _ {text rest : List ℕ} {found : ℕ} (p : Parted text rest found) where
  pub parted_most : found ≤ length text
  parted_most = omega (arith, p.all, letters_few text)

  pub parted_more : (part behind : List ℕ) → rest ≡ part ++ behind → length part ≡ 224 → Parted text behind (found + letters_in part)
  parted_more part behind e l =
      let n : length rest ≡ 224 + length behind = omega (arith, ap length e, length-append part behind) in
      let d : length text - length rest + 224 ≡ length text - length behind = omega (arith, p.short) in
      record {
        short = omega (arith, p.short);
        whole = omega (arith, p.whole);
        left = ap (λ k. drop k text) (sym d) ∙ sym (drop-drop 224 (length text - length rest) text) ∙ ap (drop 224) (p.left ∙ e) ∙ drop_at part behind 224 l;
        all = omega (arith, p.all, ap letters_in e, letters_append part behind);
      }

-- ---- every letter of a plan or a payoff is one of the capitals

of_amount_lem : (c : Class) (l : AmountLetter) → byte "A" ≤ (amount_row c l).letter
unfolding amount_row
of_amount_lem c AmountLetter.N = omega arith
of_amount_lem c AmountLetter.O = omega arith
of_amount_lem c AmountLetter.A = omega arith
of_amount_lem c AmountLetter.U = omega arith
of_amount_lem c AmountLetter.K = omega arith
of_amount_lem c AmountLetter.Q = omega arith
of_amount_lem c AmountLetter.I = omega arith

of_test_lem : (l : TestLetter) → byte "A" ≤ (test_row l).letter
unfolding test_row
of_test_lem TestLetter.G = omega arith
of_test_lem TestLetter.E = omega arith
of_test_lem TestLetter.Y = omega arith
of_test_lem TestLetter.«V» = omega arith
of_test_lem TestLetter.R = omega arith

pub capitals : (form : TextForm) (l : Letter (letters_of form)) → byte "A" ≤ (row_of (form_of form) l).letter
unfolding row_of plan_row payoff_row
capitals Plan (of_root PlanLetter.Z) = omega arith
capitals Plan (of_root PlanLetter.T) = omega arith
capitals Plan (of_root PlanLetter.S) = omega arith
capitals Plan (of_root PlanLetter.L) = omega arith
capitals Plan (of_root PlanLetter.B) = omega arith
capitals Plan (of_root PlanLetter.W) = omega arith
capitals Plan (of_amount l) = of_amount_lem _ l
capitals Plan (of_test l) = of_test_lem l
capitals Payoff (of_root PayoffLetter.Z) = omega arith
capitals Payoff (of_root PayoffLetter.F) = omega arith
capitals Payoff (of_root PayoffLetter.H) = omega arith
capitals Payoff (of_root PayoffLetter.S) = omega arith
capitals Payoff (of_root PayoffLetter.B) = omega arith
capitals Payoff (of_root PayoffLetter.W) = omega arith
capitals Payoff (of_amount l) = of_amount_lem _ l
capitals Payoff (of_test l) = of_test_lem l
