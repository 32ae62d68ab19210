-- One more delay, as the two numbers of a month have it.
use Prim.Native.Nat.{◌+◌, ◌-◌, ◌<◌, ◌^◌, ◌≤◌, ℕ}
use borrow.Author.Tests.{le-leb}
use lib.Dec.{leb}
use lib.IntN.{◌+ℤ◌, nat_abs, negsuc, neg_ℤ, pos, ℤ}
use lib.Signed.{le_z, lt_z}
use mathlib.Core.Bool.{Bool, cond, false, true, true≢false}
use mathlib.Core.List.{List, [], ◌∷◌}
use mathlib.Core.Path.{◌≡◌, ap, refl, sym}
use mir.Syntax.{w64}
use mir.Val.{SFits}
use native.Mathlib.Nat.{pow-le-pow_right}
use native.Mathlib.Omega.{arith}
use Rattle.compiles.specs.Months.{Near, digits_later, plain_later, offset_plain, setting_in}
use Rattle.integers.proofs.Laws.{nat_abs_add, nat_abs_le}
use Rattle.integers.proofs.Locals.{op_fits, op_reads, rd, small_fits, sum_fits}
use Rattle.integers.proofs.Solver.{dn_neg, parts_le, up_neg}
use Rattle.integers.proofs.Tests.{le_true, lt_true}
use Rattle.integers.specs.Bounded.{Small}
use Rattle.language.proofs.Truth.{and_e}
use Rattle.language.specs.Limits.{max_months, max_settings}
use Rattle.language.specs.Payoff.Compile.{delayed, insert}
use Rattle.language.specs.Text.Form.{delay_in_form, offset_in_form}
use Rattle.language.specs.Text.Number.{between}
use Rattle.language.specs.Text.Trees.{Delay, Month, months, setting}
use Rattle.nodes.specs.Rows.{delay_from, settings_slot}

-- ---- as the definition has it

-- the digits do not depend on the order of the settings
slot_insert : (s : ℕ) (js : List ℕ) → settings_slot (insert s js) ≡ 32 ^ s + settings_slot js
unfolding settings_slot insert
slot_insert s [] = refl
slot_insert s (j ∷ js) = go (leb s j) (slot_insert s js)
  where
    go : (b : Bool) → settings_slot (insert s js) ≡ 32 ^ s + settings_slot js → settings_slot (cond b (s ∷ (j ∷ js)) (j ∷ insert s js)) ≡ 32 ^ s + (32 ^ j + settings_slot js)
    go true e = refl
    go false e = omega (arith, e)

pub plain_delayed : (c : Month) (d : Delay) → plain_later c.plain d ≡ (delayed c d).plain
unfolding plain_later delayed
plain_delayed c (months n) = refl
plain_delayed c (setting k) = refl

pub digits_delayed : (c : Month) (d : Delay) → digits_later (pos (settings_slot c.settings)) d ≡ pos (settings_slot (delayed c d).settings)
unfolding digits_later delayed
digits_delayed c (months n) = refl
digits_delayed c (setting k) = let e : settings_slot c.settings + 32 ^ k ≡ settings_slot (insert k c.settings) = omega (arith, slot_insert k c.settings) in ap pos e

-- ---- ranges

power_small : (s : ℕ) → s < 8 → 32 ^ s ≤ 34_359_738_368
power_small s h = let l : s ≤ 7 = omega arith in pow-le-pow_right {n = 32} (omega arith) l

pub later_near : (plain digits : ℤ) (left : ℕ) (d : Delay) → delay_in_form d → 0 < left → Near plain digits left → Near (plain_later plain d) (digits_later digits d) (left - 1)
unfolding plain_later digits_later
later_near plain digits left (months n) g l h = record { months = omega (arith, nat_abs_add plain (pos n), h.months); settings = omega (arith, h.settings) }
later_near plain digits left (setting k) g l h = record { months = omega (arith, h.months); settings = omega (arith, nat_abs_add digits (pos (32 ^ k)), power_small k g, h.settings) }

-- one level further down
pub same_near : {plain digits : ℤ} {left : ℕ} → Near plain digits left → Near plain digits (left - 1)
same_near h = record { months = omega (arith, h.months); settings = omega (arith, h.settings) }

-- ---- as the code reads a delay

pub setting_is : (d : ℤ) → lt_z d (pos 0) ≡ true → nat_abs d - 1 ≡ setting_in d
setting_is (pos n) e = absurd (omega (arith, lt_true (pos n) (pos 0) e))
setting_is (negsuc k) e = omega arith

module _ (d : ℤ) (e : lt_z d (pos 0) ≡ true) where
  pub open_in : delay_in_form (delay_from d) → setting_in d < max_settings
  open_in g = go d e g
    where
      go : (d : ℤ) → lt_z d (pos 0) ≡ true → delay_in_form (delay_from d) → setting_in d < max_settings
      go (pos n) e g = absurd (omega (arith, lt_true (pos n) (pos 0) e))
      go (negsuc k) e g = g

  pub open_plain : (plain : ℤ) → plain ≡ plain_later plain (delay_from d)
  unfolding plain_later
  open_plain plain = go d e
    where
      go : (d : ℤ) → lt_z d (pos 0) ≡ true → plain ≡ plain_later plain (delay_from d)
      go (pos n) e = absurd (omega (arith, lt_true (pos n) (pos 0) e))
      go (negsuc k) e = refl

  pub open_digits : (digits : ℤ) → digits +ℤ pos (32 ^ setting_in d) ≡ digits_later digits (delay_from d)
  unfolding digits_later
  open_digits digits = go d e
    where
      go : (d : ℤ) → lt_z d (pos 0) ≡ true → digits +ℤ pos (32 ^ setting_in d) ≡ digits_later digits (delay_from d)
      go (pos n) e = absurd (omega (arith, lt_true (pos n) (pos 0) e))
      go (negsuc k) e = refl

  pub weight_small : delay_in_form (delay_from d) → {s : ℕ} {w : ℤ} → s ≡ setting_in d → w ≡ pos (32 ^ s) → nat_abs w ≤ 1_099_511_627_776
  weight_small g es ew = rw (ew, es) (omega (arith, power_small (setting_in d) (open_in g)))

module _ (d : ℤ) (e : lt_z d (pos 0) ≡ false) where
  pub closed_in : delay_in_form (delay_from d) → nat_abs d ≤ 19_200
  closed_in g = go d e g
    where
      go : (d : ℤ) → lt_z d (pos 0) ≡ false → delay_in_form (delay_from d) → nat_abs d ≤ 19_200
      go (pos n) e g = omega arith
      go (negsuc k) e g = absurd (true≢false e)

  pub closed_plain : (plain : ℤ) → plain +ℤ d ≡ plain_later plain (delay_from d)
  unfolding plain_later
  closed_plain plain = go d e
    where
      go : (d : ℤ) → lt_z d (pos 0) ≡ false → plain +ℤ d ≡ plain_later plain (delay_from d)
      go (pos n) e = refl
      go (negsuc k) e = absurd (true≢false e)

  pub closed_digits : (digits : ℤ) → digits ≡ digits_later digits (delay_from d)
  unfolding digits_later
  closed_digits digits = go d e
    where
      go : (d : ℤ) → lt_z d (pos 0) ≡ false → digits ≡ digits_later digits (delay_from d)
      go (pos n) e = refl
      go (negsuc k) e = absurd (true≢false e)

-- ---- an offset

near_zero : (z : ℤ) → between (neg_ℤ (pos max_months)) (pos max_months) z ≡ true → nat_abs z ≤ max_months
near_zero z e =
    let b = and_e (le_z (neg_ℤ (pos max_months)) z) (le_z z (pos max_months)) e in
    nat_abs_le z max_months (omega (arith, le_true z (pos max_months) b.1)) (omega (arith, le_true (neg_ℤ (pos max_months)) z b.0, up_neg (pos max_months), dn_neg (pos max_months)))

is_near : (z : ℤ) → nat_abs z ≤ max_months → between (neg_ℤ (pos max_months)) (pos max_months) z ≡ true
is_near (pos m) h = le-leb m max_months h
is_near (negsuc m) h = rw (le-leb m 599 (omega arith)) refl

module _ (plain i : ℤ) where
  pub offset_small : between (neg_ℤ (pos max_months)) (pos max_months) i ≡ true → nat_abs i ≤ 19_200
  offset_small e = omega (arith, near_zero i e)

  pub offset_added : between (neg_ℤ (pos max_months)) (pos max_months) i ≡ true → plain +ℤ i ≡ offset_plain plain i
  unfolding offset_plain
  offset_added e = sym (rw e refl)

  pub offset_left : between (neg_ℤ (pos max_months)) (pos max_months) i ≡ false → plain ≡ offset_plain plain i
  unfolding offset_plain
  offset_left e = sym (rw e refl)

  -- an offset in form
  pub offset_known : offset_in_form i → offset_plain plain i ≡ plain +ℤ i
  offset_known g = sym (offset_added (is_near i (nat_abs_le i max_months (omega (arith, parts_le g.1)) (omega (arith, parts_le g.0)))))

-- ---- sums that fit

amount : (z : ℤ) → nat_abs z ≤ 1_099_511_627_776 → Small z
amount z h = record { small = omega arith }

module _ (a b : ℤ) (x : nat_abs a ≤ 1_099_511_627_776) (y : nat_abs b ≤ 1_099_511_627_776) where
  pub both_fit : SFits w64 (rd a +ℤ rd b)
  both_fit = op_fits ◌+ℤ◌ (small_fits (amount a x)) (small_fits (amount b y)) (sum_fits (amount a x) (amount b y))

  pub both_read : rd (rd a +ℤ rd b) ≡ a +ℤ b
  both_read = op_reads ◌+ℤ◌ (small_fits (amount a x)) (small_fits (amount b y)) (sum_fits (amount a x) (amount b y))
