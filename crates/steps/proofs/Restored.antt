-- A place gives back the offset that it was made of, and every number on the way fits.
use Prim.Native.Nat.{◌*◌, ◌+◌, ◌<◌, ◌≤◌, suc, zero, ℕ}
use borrow.Author.Tests.{leb-false, ltb-true, le-leb, le-ltb, lt-ltb}
use lib.Dec.{ltb}
use lib.IntN.{◌+ℤ◌, ◌-ℤ◌, nat_abs, negsuc, neg_ℤ, pos, pred_ℤ, ℤ}
use lib.Signed.{le_z}
use mathlib.Core.Bool.{Bool, ◌&&◌, cond, false, true, true≢false}
use mathlib.Core.Path.{◌∙◌, ◌≡◌, refl, sym}
use mir.Facts.{to_z-of_z}
use mir.Syntax.{w64}
use mir.Val.{SFits}
use native.Mathlib.Nat.{mul-le-mul}
use native.Mathlib.Omega.{arith}
use Rattle.integers.proofs.Laws.{nat_abs_add, nat_abs_le, nat_abs_sub, sfits64}
use Rattle.integers.proofs.Locals.{rd}
use Rattle.integers.proofs.Solver.{◌⊕◌, ◌⊖◌, dn_neg, lit, parts_le, ring, up_neg, var}
use Rattle.integers.proofs.Tests.{le_true}
use Rattle.integers.specs.Bounded.{Small}
use Rattle.language.proofs.Truth.{and_e}
use Rattle.language.specs.Limits.{max_back, max_labels, max_months}
use Rattle.language.specs.Text.Form.{offset_in_form}
use Rattle.language.specs.Text.Number.{between}
use Rattle.nodes.specs.Table.{nat_of}
use Rattle.places.specs.Place.{SpanIn, index_placed, place_found}
use Rattle.steps.specs.Offsets.{max_place, offset_from}
use Rattle.tables.proofs.Spans.{up_to_lem}

-- ---- ranges

near_zero : (n : ℕ) (z : ℤ) → between (neg_ℤ (pos n)) (pos n) z ≡ true → nat_abs z ≤ n
near_zero n z e =
    let b = and_e (le_z (neg_ℤ (pos n)) z) (le_z z (pos n)) e in
    nat_abs_le z n (omega (arith, le_true z (pos n) b.1)) (omega (arith, le_true (neg_ℤ (pos n)) z b.0, up_neg (pos n), dn_neg (pos n)))

is_near : (z : ℤ) → nat_abs z ≤ max_place → between (neg_ℤ (pos max_place)) (pos max_place) z ≡ true
is_near (pos m) h = le-leb m max_place h
is_near (negsuc m) h = rw (le-leb m 9_999 (omega arith)) refl

in-form-near : (i : ℤ) → offset_in_form i → nat_abs i ≤ max_months
in-form-near i g = nat_abs_le i max_months (omega (arith, parts_le g.1)) (omega (arith, parts_le g.0))

-- a label with offset 0 has a place
pub label_in : (l : ℕ) → l < max_labels → index_placed (pos l) (pos 0) ≡ true
label_in l h = rw (le-leb 0 l (omega arith), lt-ltb l max_labels h) refl

-- ---- the offset

module _ (h f : ℤ) (s : SpanIn h f) (l : ℕ) where
  place_small : (i : ℤ) → l < max_labels → nat_abs i ≤ max_months → nat_abs (place_found h f l i) ≤ max_place
  place_small i b g =
      let u = (up_to_lem max_back h s.back).small in
      let v = (up_to_lem max_months f s.ahead).small in
      let w : nat_abs h + nat_abs f + 1 ≤ max_back + max_months + 1 = omega arith in
      let c : l ≤ max_labels = omega arith in
      let m = mul-le-mul c w in
      omega (arith, m, nat_abs_add (pos (l * (nat_abs h + nat_abs f + 1)) +ℤ h) i, nat_abs_add (pos (l * (nat_abs h + nat_abs f + 1))) h)

  module _ (place : ℤ) where
    pub too_great : max_labels ≤ l → pos 0 ≡ offset_from h f l place
    unfolding offset_from
    too_great b = rw (le-ltb l max_labels b) refl

    pub too_far : between (neg_ℤ (pos max_place)) (pos max_place) place ≡ false → pos 0 ≡ offset_from h f l place
    unfolding offset_from
    too_far e = sym (go (ltb l max_labels))
      where
        go : (b : Bool) → cond (b && between (neg_ℤ (pos max_place)) (pos max_place) place) (place -ℤ place_found h f l (pos 0)) (pos 0) ≡ pos 0
        go true = rw e refl
        go false = refl

    module _ (b : l < max_labels) (e : between (neg_ℤ (pos max_place)) (pos max_place) place ≡ true) where
      near : nat_abs (place -ℤ place_found h f l (pos 0)) ≤ max_place + max_place
      near = omega (arith, nat_abs_sub place (place_found h f l (pos 0)), near_zero max_place place e, place_small (pos 0) b (omega arith))

      offset_is : place -ℤ place_found h f l (pos 0) ≡ offset_from h f l place
      unfolding offset_from
      offset_is = sym (rw (lt-ltb l max_labels b, e) refl)

      -- as the code's locals hold it
      module _ {p q : ℤ} (ep : p ≡ place) (eq : q ≡ place_found h f l (pos 0)) where
        pub offset_fits : SFits w64 (p -ℤ q)
        offset_fits = rw (ep, eq) (sfits64 (max_place + max_place) near tt)

        pub offset_held : rd (p -ℤ q) ≡ offset_from h f l place
        offset_held = to_z-of_z offset_fits ∙ rw (ep, eq) offset_is

    pub offset_near : nat_abs (offset_from h f l place) ≤ max_place + max_place
    unfolding offset_from
    offset_near = go (ltb l max_labels) (between (neg_ℤ (pos max_place)) (pos max_place) place) refl refl
      where
        go : (a b : Bool) → ltb l max_labels ≡ a → between (neg_ℤ (pos max_place)) (pos max_place) place ≡ b → nat_abs (cond (a && b) (place -ℤ place_found h f l (pos 0)) (pos 0)) ≤ max_place + max_place
        go true true d e = near (ltb-true l max_labels d) e
        go true false d e = omega arith
        go false true d e = omega arith
        go false false d e = omega arith

  -- a place that was made of an offset in form
  back : (i : ℤ) → place_found h f l i -ℤ place_found h f l (pos 0) ≡ i
  back i = ring ((lit (l * (nat_abs h + nat_abs f + 1)) ⊕ var h ⊕ var i) ⊖ (lit (l * (nat_abs h + nat_abs f + 1)) ⊕ var h ⊕ lit 0)) (var i) (omega arith)

  pub offset_back : (i : ℤ) → l < max_labels → offset_in_form i → offset_from h f l (place_found h f l i) ≡ i
  offset_back i b g = sym (offset_is (place_found h f l i) b (is_near (place_found h f l i) (place_small i b (in-form-near i g)))) ∙ back i

-- ---- months of readings

module _ (h f : ℤ) (s : SpanIn h f) (l : ℕ) (p : ℤ) {i : ℤ} where
  pub offset_small : i ≡ offset_from h f l p → Small i
  offset_small e = rw e (record { small = omega (arith, offset_near h f s l p) })

  pub month_near : (r : ℤ) {m : ℤ} → nat_abs r ≤ max_months → i ≡ offset_from h f l p → m ≡ r +ℤ i → Small m
  month_near r b e em = rw (em, e) (record { small = omega (arith, nat_abs_add r (offset_from h f l p), offset_near h f s l p) })

-- ---- a month less

one_less : (d : ℤ) → 0 < nat_of d → d -ℤ pos 1 ≡ pred_ℤ d
one_less (pos zero) h = absurd (omega arith)
one_less (pos (suc n)) h = ring (lit (suc n) ⊖ lit 1) (lit n) (omega arith)
one_less (negsuc n) h = absurd (omega arith)

less_fits : (d : ℤ) → 0 < nat_of d → SFits w64 d → SFits w64 (pred_ℤ d)
less_fits (pos zero) h f = absurd (omega arith)
less_fits (pos (suc n)) h f = record { sfits = omega (arith, f.sfits) }
less_fits (negsuc n) h f = absurd (omega arith)

-- as the code's locals hold it
module _ (d : ℤ) (some : 0 < nat_of d) (f : SFits w64 d) where
  pub earlier_fits : SFits w64 (rd d -ℤ pos 1)
  earlier_fits = rw (to_z-of_z f, one_less d some) (less_fits d some f)

  pub earlier_held : rd (rd d -ℤ pos 1) ≡ pred_ℤ d
  earlier_held = to_z-of_z earlier_fits ∙ rw (to_z-of_z f) (one_less d some)

-- a month that is not due is above 0
pub not_due : (d : ℤ) → le_z d (pos 0) ≡ false → 0 < nat_of d
not_due (pos n) e = omega (arith, leb-false n 0 e)
not_due (negsuc n) e = absurd (true≢false e)
