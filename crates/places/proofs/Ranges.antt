-- In range, every number on the way to a place fits, and what comes out is the place.
use Prim.Native.Nat.{◌*◌, ◌+◌, ◌<◌, ◌≤◌, ℕ}
use borrow.Author.Tests.{ltb-true}
use lib.IntN.{◌*ℤ◌, ◌+ℤ◌, nat_abs, negsuc, neg_ℤ, pos, ℤ}
use lib.Signed.{le_z, lt_z}
use mathlib.Core.Bool.{◌&&◌, false≢true, true}
use mathlib.Core.Path.{◌≡◌, refl}
use mir.Facts.{to_z-of_z}
use mir.Syntax.{w64}
use mir.Val.{SFits}
use native.Mathlib.Nat.{mul-le-mul}
use native.Mathlib.Omega.{arith}
use Rattle.integers.proofs.Laws.{nat_abs_add, nat_abs_le, nat_abs_mul, sfits64}
use Rattle.integers.proofs.Locals.{rd}
use Rattle.integers.proofs.Solver.{dn_neg, up_neg}
use Rattle.integers.proofs.Tests.{le_true}
use Rattle.language.proofs.Truth.{and_e}
use Rattle.language.specs.Limits.{max_back, max_labels, max_months}
use Rattle.language.specs.Text.Number.{between}
use Rattle.nodes.specs.Table.{nat_of}
use Rattle.places.specs.Place.{SpanIn, index_placed, place_found}

-- ---- numbers in range

-- a number from 0 to `high`
from_zero : (high : ℕ) (z : ℤ) → between (pos 0) (pos high) z ≡ true → (z ≡ pos (nat_abs z)) × (nat_abs z ≤ high)
from_zero high (pos n) e = (refl, omega (arith, le_true (pos n) (pos high) (and_e (le_z (pos 0) (pos n)) (le_z (pos n) (pos high)) e).1))
from_zero high (negsuc n) e = absurd (false≢true e)

label_in : (l : ℤ) → le_z (pos 0) l ≡ true → lt_z l (pos max_labels) ≡ true → (l ≡ pos (nat_of l)) × (nat_abs l < max_labels)
label_in (pos n) e h = (refl, ltb-true n max_labels h)
label_in (negsuc n) e h = absurd (false≢true e)

offset_in : (i : ℤ) → between (neg_ℤ (pos max_back)) (pos max_months) i ≡ true → nat_abs i ≤ max_months
offset_in i e =
    let b = and_e (le_z (neg_ℤ (pos max_back)) i) (le_z i (pos max_months)) e in
    nat_abs_le i max_months (omega (arith, le_true i (pos max_months) b.1)) (omega (arith, le_true (neg_ℤ (pos max_back)) i b.0, up_neg (pos max_back), dn_neg (pos max_back)))

-- ---- the way to a place

module _ (h f l i : ℤ) (s : SpanIn h f) (e : index_placed l i ≡ true) where
  back : (h ≡ pos (nat_abs h)) × (nat_abs h ≤ max_back)
  back = from_zero max_back h s.back

  ahead : (f ≡ pos (nat_abs f)) × (nat_abs f ≤ max_months)
  ahead = from_zero max_months f s.ahead

  label : (l ≡ pos (nat_of l)) × (nat_abs l < max_labels)
  label =
      let a = and_e (le_z (pos 0) l && lt_z l (pos max_labels)) (between (neg_ℤ (pos max_back)) (pos max_months) i) e in
      let b = and_e (le_z (pos 0) l) (lt_z l (pos max_labels)) a.0 in
      label_in l b.0 b.1

  offset : nat_abs i ≤ max_months
  offset = offset_in i (and_e (le_z (pos 0) l && lt_z l (pos max_labels)) (between (neg_ℤ (pos max_back)) (pos max_months) i) e).1

  h_fits : SFits w64 h
  h_fits = sfits64 max_back back.1 tt

  f_fits : SFits w64 f
  f_fits = sfits64 max_months ahead.1 tt

  l_fits : SFits w64 l
  l_fits = sfits64 max_labels (omega (arith, label.1)) tt

  i_fits : SFits w64 i
  i_fits = sfits64 max_months offset tt

  months_fit : SFits w64 (h +ℤ f)
  months_fit = sfits64 (max_back + max_months) (omega (arith, nat_abs_add h f, back.1, ahead.1)) tt

  abbrev width : ℤ
  width = (h +ℤ f) +ℤ pos 1

  width_small : nat_abs width ≤ max_back + max_months + 1
  width_small = omega (arith, nat_abs_add (h +ℤ f) (pos 1), nat_abs_add h f, back.1, ahead.1)

  width_fits : SFits w64 width
  width_fits = sfits64 (max_back + max_months + 1) width_small tt

  label_small : nat_abs (l *ℤ width) ≤ max_labels * (max_back + max_months + 1)
  label_small = let b : nat_abs l ≤ max_labels = omega (arith, label.1) in rw (nat_abs_mul l width) (mul-le-mul b width_small)

  label_fits : SFits w64 (l *ℤ width)
  label_fits = sfits64 (max_labels * (max_back + max_months + 1)) label_small tt

  first_small : nat_abs ((l *ℤ width) +ℤ h) ≤ max_labels * (max_back + max_months + 1) + max_back
  first_small = omega (arith, nat_abs_add (l *ℤ width) h, label_small, back.1)

  first_fits : SFits w64 ((l *ℤ width) +ℤ h)
  first_fits = sfits64 (max_labels * (max_back + max_months + 1) + max_back) first_small tt

  place_fits : SFits w64 (((l *ℤ width) +ℤ h) +ℤ i)
  place_fits = sfits64 (max_labels * (max_back + max_months + 1) + max_back + max_months) (omega (arith, nat_abs_add ((l *ℤ width) +ℤ h) i, first_small, offset)) tt

  place_is : ((l *ℤ width) +ℤ h) +ℤ i ≡ place_found h f (nat_of l) i
  place_is = rw (label.0, back.0, ahead.0) refl

  -- ---- as the code's locals hold it

  pub months_held : SFits w64 (rd h +ℤ rd f)
  months_held = rw (to_z-of_z h_fits, to_z-of_z f_fits) months_fit

  pub width_held : SFits w64 (rd (rd h +ℤ rd f) +ℤ pos 1)
  width_held = rw (to_z-of_z h_fits, to_z-of_z f_fits, to_z-of_z months_fit) width_fits

  abbrev held : ℤ
  held = rd (rd (rd h +ℤ rd f) +ℤ pos 1)

  held_is : held ≡ width
  held_is = rw (to_z-of_z h_fits, to_z-of_z f_fits, to_z-of_z months_fit) (to_z-of_z width_fits)

  pub label_held : SFits w64 (rd l *ℤ held)
  label_held = rw (held_is, to_z-of_z l_fits) label_fits

  pub first_held : SFits w64 (rd (rd l *ℤ held) +ℤ rd h)
  first_held = rw (held_is, to_z-of_z l_fits, to_z-of_z h_fits, to_z-of_z label_fits) first_fits

  pub place_held : SFits w64 (rd (rd (rd l *ℤ held) +ℤ rd h) +ℤ rd i)
  place_held = rw (held_is, to_z-of_z l_fits, to_z-of_z h_fits, to_z-of_z label_fits, to_z-of_z first_fits, to_z-of_z i_fits) place_fits

  pub place_made : rd (rd (rd (rd l *ℤ held) +ℤ rd h) +ℤ rd i) ≡ place_found h f (nat_of l) i
  place_made = rw (held_is, to_z-of_z l_fits, to_z-of_z h_fits, to_z-of_z label_fits, to_z-of_z first_fits, to_z-of_z i_fits, to_z-of_z place_fits) place_is
