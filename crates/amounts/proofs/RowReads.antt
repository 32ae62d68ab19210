-- What a row gives: the place that an `O` reads, and the divisor of a `Q`.
use Prim.Native.Nat.{◌+◌, ◌<◌, ◌≤◌, ℕ}
use lib.Dec.{T, lt→ltb}
use lib.IntN.{◌+ℤ◌, nat_abs, negsuc, pos, ℤ}
use lib.ListN.{get_or, length}
use lib.Signed.{◌<ℤ◌, non_neg}
use mathlib.Core.List.{List}
use mathlib.Core.Path.{◌∙◌, ◌≡◌, ap, ap₂, refl, sym}
use mir.Facts.{to_z-of_z}
use mir.Syntax.{w64}
use mir.Val.{Fits, SFits}
use native.Mathlib.Omega.{arith}
use Rattle.integers.proofs.Laws.{nat_abs_add, sfits64}
use Rattle.integers.proofs.Locals.{rd}
use Rattle.integers.specs.Bounded.{amount_limit}
use Rattle.integers.specs.declared.Pence.{Pence}
use Rattle.language.proofs.Acceptance.{no_answer}
use Rattle.nodes.proofs.Signed.{nat_of_known}
use Rattle.nodes.specs.Table.{nat_of}
use Rattle.tables.specs.Lookup.{found_answer, standing}
use Rattle.amounts.specs.Fine.{Divides, MonthIn, Reading}
use Rattle.std.specs.Prelude.{None, Option, Some}

pub month_is : (m : ℤ) → T (non_neg m) → m ≡ pos (nat_of m)
month_is (pos n) h = refl
month_is (negsuc n) h = absurd h

-- a month m and a row's number x, as the code adds them
module _ (values : List ℤ) (m i x : ℤ) (fm : SFits w64 m) (fx : SFits w64 x) (ex : x ≡ i) (hm : MonthIn m) (h : Reading values (nat_of m) i) where
  abbrev place : ℤ
  place = pos (nat_of m) +ℤ i

  added : rd m +ℤ rd x ≡ place
  added = ap₂ ◌+ℤ◌ (to_z-of_z fm ∙ month_is m hm.known) (to_z-of_z fx ∙ ex)

  near : nat_abs place ≤ 600 + amount_limit
  near = omega (arith, nat_abs_add (pos (nat_of m)) i, nat_of_known m hm.known, hm.within, h.near.small)

  pub place_fits : SFits w64 (rd m +ℤ rd x)
  place_fits = rw added (sfits64 (600 + amount_limit) near tt)

  reads : rd (rd m +ℤ rd x) ≡ place
  reads = to_z-of_z place_fits ∙ added

  pub place_cast : T (non_neg (rd (rd m +ℤ rd x))) × Fits w64 (nat_abs (rd (rd m +ℤ rd x)))
  place_cast = rw reads (h.known, record { fits = omega (arith, near) })

  pub place_inside : nat_abs (rd (rd m +ℤ rd x)) < length values
  place_inside = rw reads h.inside

  pub place_gives : get_or values (nat_abs (rd (rd m +ℤ rd x))) (pos 0) ≡ get_or values (nat_abs place) (pos 0)
  place_gives = ap (λ w. get_or values (nat_abs w) (pos 0)) reads

pub divisor_positive : (z : ℤ) → Divides (nat_of z) → pos 0 <ℤ z
divisor_positive (pos n) h = record { lt = lt→ltb 0 n h.some }
divisor_positive (negsuc n) h = absurd (omega (arith, h.some))

pub divisor_is : (z : ℤ) → Divides (nat_of z) → nat_abs z ≡ nat_of z
divisor_is (pos n) h = refl
divisor_is (negsuc n) h = absurd (omega (arith, h.some))

-- what a lookup finds at a place
module _ (values : List ℤ) (i : ℕ) (r : Option Pence) (e : found_answer r ≡ standing values (Some i)) where
  pub found_is : (p : Pence) → r ≡ Some p → p.0 ≡ get_or values i (pos 0)
  unfolding found_answer standing
  found_is p q = let z = ap found_answer (sym q) ∙ e in cc

  pub never_outside : r ≡ None → ⊥
  unfolding found_answer standing
  never_outside q = no_answer (ap found_answer (sym q) ∙ e)
