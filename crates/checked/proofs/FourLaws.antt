-- Four months in a row: what is made of answers without a refusal.
use Prim.Native.Nat.{◌+◌, ◌<◌, ℕ}
use lib.IntN.{◌+ℤ◌, negsuc, pos, ℤ}
use lib.ListN.{length}
use lib.Signed.{le_z}
use mathlib.Core.Bool.{◌&&◌, false, true}
use mathlib.Core.List.{List}
use mathlib.Core.Path.{◌∙◌, ◌≡◌, ap, ap₂, refl, subst, sym}
use native.Mathlib.Omega.{arith}
use Rattle.amounts.proofs.RowReads.{month_is}
use Rattle.integers.proofs.Laws.{nat_abs_le}
use Rattle.integers.proofs.Solver.{◌⊕◌, lit, ring, var}
use Rattle.integers.proofs.Tests.{le_true}
use Rattle.integers.specs.Bounded.{Small, amount_within}
use Rattle.language.proofs.Truth.{and_e}
use Rattle.language.specs.Answer.{Answer, got, on_both}
use Rattle.language.specs.Limits.{max_amount}
use Rattle.language.specs.Payoff.Evaluate.{in_range}
use Rattle.language.specs.Text.Trees.{Amount}
use Rattle.nodes.specs.Table.{nat_of}
use Rattle.tables.proofs.Lookups.{place_inside, place_standing}
use Rattle.tables.specs.Lookup.{Inside, looked_up, place_for, read_table, standing}
use Rattle.checked.proofs.Bounds.{valued_small}
use Rattle.checked.proofs.Combined.{amount_within_lem, both_got}
use Rattle.checked.proofs.RowAnswers.{read_is}
use Rattle.checked.specs.Answers.{amount_answer}
use Rattle.checked.specs.Checked.{value_found}
use Rattle.checked.specs.FourMonths.{SmallFour, SureFour, amount_in, reading_in}
use Rattle.checked.specs.Ranges.{FourWaited, Near, Readable, Waited}
use Rattle.checked.specs.declared.four.FourValues.{FourValues}
use Rattle.std.specs.Prelude.{Ok, Option, Some}
use Rattle.integers.specs.declared.Pence.{Pence}

-- two amounts put together, within the limit
pub joined : (f : ℤ → ℤ → ℤ) {g v : Answer ℤ} {b : Option Pence} (x y : ℤ) → g ≡ v → v ≡ amount_answer b → b ≡ amount_within (f x y) → g ≡ on_both (λ a b. in_range max_amount (f a b)) (got x) (got y)
joined f x y eg ev eb = eg ∙ ev ∙ ap amount_answer eb ∙ amount_within_lem (f x y) ∙ sym (both_got (λ a b. in_range max_amount (f a b)) refl refl)

-- the same, tested after it was made
pub joined_sure : (f : ℤ → ℤ → ℤ) {g : Answer ℤ} {z : ℤ} (x y : ℤ) → g ≡ in_range max_amount z → z ≡ f x y → g ≡ on_both (λ a b. in_range max_amount (f a b)) (got x) (got y)
joined_sure f x y eg ez = eg ∙ ap (in_range max_amount) ez ∙ sym (both_got (λ a b. in_range max_amount (f a b)) refl refl)

-- a number between the two limits
pub between_small : (z : ℤ) → le_z (negsuc 8_999_999_999_999) z && le_z z (pos 9_000_000_000_000) ≡ true → Small z
between_small z e =
    let b = and_e (le_z (negsuc 8_999_999_999_999) z) (le_z z (pos 9_000_000_000_000)) e in
    record { small = nat_abs_le z max_amount (omega (arith, le_true z (pos 9_000_000_000_000) b.1)) (omega (arith, le_true (negsuc 8_999_999_999_999) z b.0)) }

-- a test made of two
pub tested : {A B : Type 0} (f : A → A → B) {r : B} (x y : A) → r ≡ f x y → got r ≡ on_both (λ a b. got (f a b)) (got x) (got y)
tested f x y e = ap got e ∙ sym (both_got (λ a b. got (f a b)) refl refl)

pub never : false ≡ true → ⊥
never e = let z : ◌≡◌ {A = ℕ} 0 1 = cc in omega arith

-- amounts that came are within the limit
pub sure_small : (h f : ℤ) (bounds values : List ℤ) (a : Amount ℤ) (w : ℕ) (x : FourValues) → SureFour x (λ k. value_found h f bounds values a (w + k)) → SmallFour x
sure_small h f bounds values a w x s = λ e k l. valued_small h f bounds values a (w + k) (Ok (record { 0 = amount_in x k })) (s e k l)

-- ---- an `O` in four months, w the months waited, i its month

pub first_waited : {w : ℤ} → FourWaited w → Waited w
first_waited h = record { known = h.known; within = omega (arith, h.within) }

-- the code's label k and month m; j is the first of four places
module _ (h f : ℤ) (bounds values : List ℤ) (R : Readable h f bounds values) (w i : ℤ) (hw : FourWaited w) (hi : Near i)
    {k l : ℕ} (ek : k ≡ l) {m x : ℤ} (em : m ≡ w +ℤ x) (ex : x ≡ i) (j : ℕ) (at : (n : ℕ) → n < 4 → Some (j + n) ≡ place_for h f bounds k (m +ℤ pos n)) where
  pub four_inside : j + 3 < length values
  unfolding Inside
  four_inside = subst (Inside (length values)) (sym (at 3 (omega arith))) (place_inside h f bounds values R.kept k (m +ℤ pos 3))

  months : (n : ℕ) → m +ℤ pos n ≡ pos (nat_of w + n) +ℤ i
  months n = ap (λ z. z +ℤ pos n) (em ∙ ap₂ ◌+ℤ◌ (month_is w hw.known) ex) ∙ ring ((lit (nat_of w) ⊕ var i) ⊕ lit n) (lit (nat_of w + n) ⊕ var i) (omega arith)

  pub four_read : (n : ℕ) → n < 4 → standing values (Some (j + n)) ≡ reading_in h f bounds values l (pos (nat_of w + n) +ℤ i)
  four_read n b =
      ap (standing values) (at n b) ∙ place_standing h f bounds values R.kept k (m +ℤ pos n) ∙ ap₂ (looked_up (read_table h f bounds values)) ek (months n)
      ∙ read_is h f bounds values R w i (first_waited hw) hi l (pos (nat_of w + n) +ℤ i)
