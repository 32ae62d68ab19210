-- In a table that keeps the rules, each readable month of a label has its place, and an accepted amount can be worked out by places.
use Prim.Native.Nat.{◌*◌, ◌+◌, ◌-◌, ◌<◌, ◌≤◌, suc, ℕ}
use lib.Dec.{T, eqb, eqb→eq, leb, leb→le, ltb, ltb→lt}
use lib.IntN.{◌+ℤ◌, nat_abs, negsuc, neg_ℤ, pos, ℤ}
use lib.ListN.{get_or, length}
use lib.Signed.{le_z}
use mathlib.Core.Bool.{Bool, ◌&&◌, true}
use mathlib.Core.Path.{◌∙◌, ◌≡◌, ap, refl, sym}
use native.Mathlib.Nat.{le_refl, mul-le-mul, suc-mul}
use native.Mathlib.Omega.{arith}
use Rattle.integers.proofs.Laws.{nat_abs_parts}
use Rattle.integers.proofs.Solver.{◌⊕◌, dn, dn_neg, lit, ring, sound, up, up_neg, var}
use Rattle.integers.proofs.Tests.{le_true}
use Rattle.language.proofs.Rules.Tables.{TableRules, rules_of, value_bounded}
use Rattle.language.proofs.Truth.{and_e, and_l, and_r, tested, truth}
use Rattle.language.specs.Calls.{lookup_of}
use Rattle.language.specs.Limits.{max_amount, max_back, max_labels, max_months, one_factor}
use Rattle.language.specs.Payments.Amounts.{holds, value}
use Rattle.language.specs.Rules.Accepted.{reads_of_amount, reads_of_test, small_amount, small_test}
use Rattle.language.specs.Rules.Table.{Table, all_of, bound_at, readable, span, is_table, value_at, are_bounded}
use Rattle.language.specs.Text.Form.{fields_of_amount, fields_of_test}
use Rattle.language.specs.Text.Number.{between}
use Rattle.language.specs.Text.Trees.{Amount, Test}
use Rattle.amounts.proofs.Placed.{any_place, placed_fields, placed_fields_test, placed_holds, placed_reads, placed_reads_test, placed_small, placed_small_test, placed_value}
use Rattle.amounts.proofs.Sizes.{PlaceIn, fine, fine_test}
use Rattle.amounts.specs.Fine.{Fine, FineTest}
use Rattle.amounts.specs.Flat.{flat}
use Rattle.amounts.specs.Placed.{place_in, placed_amount, placed_test}

-- ---- a month that a table covers

from_zero : (high : ℕ) (z : ℤ) → between (pos 0) (pos high) z ≡ true → (dn z ≡ 0) × (up z ≤ high)
from_zero high (pos n) e = (refl, leb→le n high (truth (leb n high) (and_e (leb 0 n) (leb n high) e).1))
from_zero high (negsuc n) e = let z : ◌≡◌ {A = ℕ} 0 1 = cc in absurd (omega arith)

parts_known : (z : ℤ) (p n : ℕ) → up z + n ≡ dn z + p → n ≤ p → z ≡ pos (p - n)
parts_known (pos k) p n e h = let q : k ≡ p - n = omega arith in ap pos q
parts_known (negsuc k) p n e h = absurd (omega arith)

-- counted from the first month covered
covered : (h f m : ℤ) → dn h ≡ 0 → dn f ≡ 0 → T (between (neg_ℤ h) f m) → (m +ℤ h ≡ pos (nat_abs (m +ℤ h))) × (nat_abs (m +ℤ h) < nat_abs h + nat_abs f + 1)
covered h f m eh ef b =
    let low = le_true (neg_ℤ h) m (tested (le_z (neg_ℤ h) m) (and_l (le_z (neg_ℤ h) m) (le_z m f) b)) in
    let high = le_true m f (tested (le_z m f) (and_r (le_z (neg_ℤ h) m) (le_z m f) b)) in
    let e = parts_known (m +ℤ h) (up m + up h) (dn m + dn h) (sound (var m ⊕ var h)) (omega (arith, low, up_neg h, dn_neg h)) in
    (e ∙ sym (ap (λ z. pos (nat_abs z)) e), rw e (omega (arith, high, nat_abs_parts h, nat_abs_parts f)))

-- ---- the lengths of a table

pub record Lengths (t : Table) : Type 0 where
  pub values : length t.values ≡ length t.bounds * span t
  pub labels : length t.bounds ≤ max_labels

-- the part of a table's rule in front of its labels
abbrev span_rule : Table → Bool
span_rule t = between (pos 0) (pos max_back) t.h && between (pos 0) (pos max_months) t.f && eqb (length t.factors) (nat_abs t.f + 1) && all_of (between (pos 0) (pos one_factor)) t.factors

pub lengths_of : (t : Table) → is_table t ≡ true → Lengths t
unfolding is_table
lengths_of t h =
    let a = and_e _ (are_bounded (span t) t.bounds t.values) h in
    let b = and_e _ (eqb (length t.values) (length t.bounds * span t)) a.0 in
    let c = and_e _ (all_of (between (pos 0) (pos max_amount)) t.bounds) b.0 in
    let d = and_e (span_rule t) (leb (length t.bounds) max_labels) c.0 in
    record {
      values = eqb→eq (length t.values) (length t.bounds * span t) (truth (eqb (length t.values) (length t.bounds * span t)) b.1);
      labels = leb→le (length t.bounds) max_labels (truth (leb (length t.bounds) max_labels) d.1);
    }

-- label l may be read in month m
abbrev pub may_read : Table → ℕ → ℤ → Type 0
may_read t l m = T (readable t l m)

module _ (t : Table) (ok : is_table t ≡ true) where
  rules : TableRules t
  rules = rules_of t ok

  known_h : (dn t.h ≡ 0) × (up t.h ≤ max_back)
  known_h = from_zero max_back t.h rules.back

  known_f : (dn t.f ≡ 0) × (up t.f ≤ max_months)
  known_f = from_zero max_months t.f rules.ahead

  pub values_short : length t.values ≤ max_labels * (max_back + max_months + 1)
  values_short =
      let l = lengths_of t ok in
      let s : span t ≤ max_back + max_months + 1 = omega (arith, nat_abs_parts t.h, nat_abs_parts t.f, known_h.0, known_h.1, known_f.0, known_f.1) in
      rw l.values (mul-le-mul l.labels s)

  -- ---- a read

  module _ (r l : ℕ) (i : ℤ) (h : T (readable t l (pos r +ℤ i))) where
    abbrev since : ℤ
    since = (pos r +ℤ i) +ℤ t.h

    in-months : (since ≡ pos (nat_abs since)) × (nat_abs since < span t)
    in-months = covered t.h t.f (pos r +ℤ i) known_h.0 known_f.0 (and_r (ltb l (length t.bounds)) (between (neg_ℤ t.h) t.f (pos r +ℤ i)) h)

    place_is : pos r +ℤ place_in t l i ≡ pos (l * span t + nat_abs since)
    place_is =
        ring (lit r ⊕ (lit (l * span t) ⊕ var t.h ⊕ var i)) (lit (l * span t) ⊕ (lit r ⊕ var i ⊕ var t.h)) (omega arith)
        ∙ ap (λ z. pos (l * span t) +ℤ z) in-months.0

    pub place_value : get_or t.values (nat_abs (pos r +ℤ place_in t l i)) (pos 0) ≡ value_at t l (pos r +ℤ i)
    unfolding value_at
    place_value = rw (place_is, tested (readable t l (pos r +ℤ i)) h)

    label_in : l < length t.bounds
    label_in = ltb→lt l (length t.bounds) (and_l (ltb l (length t.bounds)) (between (neg_ℤ t.h) t.f (pos r +ℤ i)) h)

    place_inside : l * span t + nat_abs since < length t.values
    place_inside =
        let m : suc l * span t ≤ length t.bounds * span t = mul-le-mul label_in (le_refl (span t)) in
        omega (arith, m, suc-mul l (span t), in-months.1, (lengths_of t ok).values)

    pub place_in_lem : PlaceIn t.values (bound_at t) l (pos r +ℤ place_in t l i)
    place_in_lem = record { known = rw place_is tt; inside = rw place_is place_inside; bounded = rw place_value (value_bounded t rules l (pos r +ℤ i)) }

  -- ---- amounts and tests

  module _ (r : ℕ) where
    looks : (l : ℕ) (i : ℤ) → may_read t l (pos r +ℤ i) → (flat t.values).look l (pos r +ℤ place_in t l i) ≡ (lookup_of t).look l (pos r +ℤ i)
    unfolding flat
    looks l i h = place_value r l i h

    rounds : (z : ℤ) (n : ℕ) → (flat t.values).round z n ≡ (lookup_of t).round z n
    unfolding flat
    rounds z n = refl

    pub flat_value : (a : Amount ℤ) → reads_of_amount (may_read t) a r → value (flat t.values) (placed_amount (place_in t) a) r ≡ value (lookup_of t) a r
    flat_value a h = placed_value (place_in t) (lookup_of t) (flat t.values) (may_read t) r rounds looks a h

    pub flat_holds : (s : Test ℤ) → reads_of_test (may_read t) s r → holds (flat t.values) (placed_test (place_in t) s) r ≡ holds (lookup_of t) s r
    flat_holds s h = placed_holds (place_in t) (lookup_of t) (flat t.values) (may_read t) r rounds looks s h

    module _ (early : r ≤ max_months) (good : ℤ → Type 0) where
      pub flat_fine : (a : Amount ℤ) → reads_of_amount (may_read t) a r → fields_of_amount good a → small_amount (bound_at t) max_amount a → Fine t.values r (placed_amount (place_in t) a)
      flat_fine a h g m =
          fine t.values (bound_at t) r values_short early any_place (placed_amount (place_in t) a)
          (placed_reads (place_in t) (may_read t) (PlaceIn t.values (bound_at t)) r (place_in_lem r) a h)
          (placed_fields (place_in t) good a g)
          (placed_small (place_in t) (bound_at t) max_amount a m)

      pub flat_fine_test : (s : Test ℤ) → reads_of_test (may_read t) s r → fields_of_test good s → small_test (bound_at t) max_amount s → FineTest t.values r (placed_test (place_in t) s)
      flat_fine_test s h g m =
          fine_test t.values (bound_at t) r values_short early any_place (placed_test (place_in t) s)
          (placed_reads_test (place_in t) (may_read t) (PlaceIn t.values (bound_at t)) r (place_in_lem r) s h)
          (placed_fields_test (place_in t) good s g)
          (placed_small_test (place_in t) (bound_at t) max_amount s m)
