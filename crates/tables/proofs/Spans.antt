-- A table's rules, part by part as the code looks at them.
use Rattle.std.proofs.Common.{◌≡◌, ℕ, ◌+◌, ◌*◌, ◌≤◌, Bool, true, false, ◌&&◌, T, eqb, leb, List, length, ℤ, pos, negsuc, nat_abs, sym, refl, ap, ◌∙◌, subst, arith, leb-true}
use lib.Signed.{non_neg}
use mathlib.Core.Bool.{false≢true}
use Rattle.language.specs.Limits.{max_amount, max_back, max_labels, max_months, one_factor}
use Rattle.language.specs.Rules.Table.{all_of, is_table, are_bounded}
use Rattle.language.specs.Text.Number.{between}
use Rattle.tables.specs.Given.{table_of}

pub both_true : (a b : Bool) → a && b ≡ true → (a ≡ true) × (b ≡ true)
both_true true true e = (refl, refl)
both_true true false e = absurd (false≢true e)
both_true false b e = absurd (false≢true e)

-- a number from 0 to m is a natural one
pub record UpTo (m : ℕ) (z : ℤ) : Type 0 where
  pub natural : T (non_neg z)
  pub small : nat_abs z ≤ m

pub up_to_lem : (m : ℕ) (z : ℤ) → between (pos 0) (pos m) z ≡ true → UpTo m z
up_to_lem m (pos n) e = record { natural = tt; small = leb-true n m (both_true (leb 0 n) (leb n m) e).1 }
up_to_lem m (negsuc n) e = absurd (false≢true e)

grouped : (a b c d e f g k : Bool) → a && b && c && d && e && f && g && k ≡ (a && b) && (((c && d) && (e && f)) && (g && k))
grouped false b c d e f g k = refl
grouped true false c d e f g k = refl
grouped true true false d e f g k = refl
grouped true true true false e f g k = refl
grouped true true true true false f g k = refl
grouped true true true true true false g k = refl
grouped true true true true true true g k = refl

module _ (h f : ℤ) (factors bounds values : List ℤ) where
  abbrev pub SpanOk : Bool
  SpanOk = between (pos 0) (pos max_back) h && between (pos 0) (pos max_months) f

  abbrev pub FactorsOk : ℤ → Bool
  FactorsOk f = eqb (length factors) (nat_abs f + 1) && all_of (between (pos 0) (pos one_factor)) factors

  abbrev pub BoundsOk : Bool
  BoundsOk = leb (length bounds) max_labels && all_of (between (pos 0) (pos max_amount)) bounds

  abbrev pub months : ℤ → ℤ → ℕ
  months h f = nat_abs h + (nat_abs f + 1)

  parts : is_table (table_of h f factors bounds values) ≡ SpanOk && ((FactorsOk f && BoundsOk) && (eqb (length values) (length bounds * months h f) && are_bounded (months h f) bounds values))
  unfolding is_table
  parts =
      let e : nat_abs h + nat_abs f + 1 ≡ months h f = omega arith in
      grouped (between (pos 0) (pos max_back) h) (between (pos 0) (pos max_months) f) (eqb (length factors) (nat_abs f + 1)) (all_of (between (pos 0) (pos one_factor)) factors) (leb (length bounds) max_labels) (all_of (between (pos 0) (pos max_amount)) bounds) (eqb (length values) (length bounds * (nat_abs h + nat_abs f + 1))) (are_bounded (nat_abs h + nat_abs f + 1) bounds values)
      ∙ ap (λ n. SpanOk && ((FactorsOk f && BoundsOk) && (eqb (length values) (length bounds * n) && are_bounded n bounds values))) e

  pub no_span : SpanOk ≡ false → false ≡ is_table (table_of h f factors bounds values)
  no_span e = sym (parts ∙ rw e refl)

  -- what a table that keeps the rules has
  pub span_holds : is_table (table_of h f factors bounds values) ≡ true → UpTo max_back h × UpTo max_months f
  span_holds e =
      let s = (both_true SpanOk ((FactorsOk f && BoundsOk) && (eqb (length values) (length bounds * months h f) && are_bounded (months h f) bounds values)) (sym parts ∙ e)).0 in
      let b = both_true (between (pos 0) (pos max_back) h) (between (pos 0) (pos max_months) f) s in
      (up_to_lem max_back h b.0, up_to_lem max_months f b.1)

  pub bounds_hold : is_table (table_of h f factors bounds values) ≡ true → all_of (between (pos 0) (pos max_amount)) bounds ≡ true
  bounds_hold e =
      let s = (both_true SpanOk ((FactorsOk f && BoundsOk) && (eqb (length values) (length bounds * months h f) && are_bounded (months h f) bounds values)) (sym parts ∙ e)).1 in
      let b = (both_true (FactorsOk f && BoundsOk) (eqb (length values) (length bounds * months h f) && are_bounded (months h f) bounds values) s).0 in
      (both_true (leb (length bounds) max_labels) (all_of (between (pos 0) (pos max_amount)) bounds) (both_true (FactorsOk f) BoundsOk b).1).1

  pub few_labels : (f' : ℤ) → FactorsOk f' && BoundsOk ≡ true → length bounds ≤ max_labels
  few_labels f' e = leb-true (length bounds) max_labels (both_true (leb (length bounds) max_labels) (all_of (between (pos 0) (pos max_amount)) bounds) (both_true (FactorsOk f') BoundsOk e).1).0

  pub bounds_fine : (f' : ℤ) → FactorsOk f' && BoundsOk ≡ true → all_of (between (pos 0) (pos max_amount)) bounds ≡ true
  bounds_fine f' e = (both_true (leb (length bounds) max_labels) (all_of (between (pos 0) (pos max_amount)) bounds) (both_true (FactorsOk f') BoundsOk e).1).1

  -- h' and f' are h and f as the code reads them back
  module _ (h' f' : ℤ) (eh : h' ≡ h) (ef : f' ≡ f) (s : SpanOk ≡ true) where
    pub no_parts : FactorsOk f' && BoundsOk ≡ false → false ≡ is_table (table_of h f factors bounds values)
    no_parts e = let e' = subst (λ z. FactorsOk z && BoundsOk ≡ false) ef e in sym (parts ∙ rw (s, e') refl)

    module _ (e : FactorsOk f' && BoundsOk ≡ true) where
      pub no_count : eqb (length values) (length bounds * months h' f') ≡ false → false ≡ is_table (table_of h f factors bounds values)
      no_count n = let e' = subst (λ z. FactorsOk z && BoundsOk ≡ true) ef e in
          let n' = subst (λ z. eqb (length values) (length bounds * months h z) ≡ false) ef (subst (λ z. eqb (length values) (length bounds * months z f') ≡ false) eh n) in
          sym (parts ∙ rw (s, e', n') refl)

      pub by_values : eqb (length values) (length bounds * months h' f') ≡ true → {r : Bool} → r ≡ are_bounded (months h' f') bounds values → r ≡ is_table (table_of h f factors bounds values)
      by_values n {r} v = let e' = subst (λ z. FactorsOk z && BoundsOk ≡ true) ef e in
          let n' = subst (λ z. eqb (length values) (length bounds * months h z) ≡ true) ef (subst (λ z. eqb (length values) (length bounds * months z f') ≡ true) eh n) in
          let v' = subst (λ z. r ≡ are_bounded (months h z) bounds values) ef (subst (λ z. r ≡ are_bounded (months z f') bounds values) eh v) in
          v' ∙ sym (parts ∙ rw (s, e', n') refl)
