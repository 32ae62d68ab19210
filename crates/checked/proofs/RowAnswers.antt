-- What one row answers.
use Prim.Native.Nat.{ℕ}
use lib.Dec.{T}
use lib.IntN.{◌+ℤ◌, negsuc, pos, ℤ}
use lib.Signed.{lt_z, non_neg}
use mathlib.Core.Bool.{cond, false, true, true≢false}
use mathlib.Core.List.{List}
use mathlib.Core.Path.{◌∙◌, ◌≡◌, ap, ap₂, refl, sym}
use mir.Facts.{to_z-of_z}
use mir.Syntax.{w64}
use mir.Val.{SFits}
use native.Mathlib.Omega.{arith}
use Rattle.amounts.proofs.RowReads.{month_is}
use Rattle.integers.proofs.Laws.{nat_abs_add}
use Rattle.integers.proofs.Locals.{rd}
use Rattle.integers.proofs.Rounding.{nat_abs_floor}
use Rattle.integers.proofs.Tests.{lt_true}
use Rattle.integers.specs.Bounded.{Small}
use Rattle.integers.specs.Rounding.{floor_z}
use Rattle.language.proofs.Payoff.Evaluate.{in_range_lem}
use Rattle.language.specs.Answer.{Answer, got, refused}
use Rattle.language.specs.Limits.{max_amount}
use Rattle.language.specs.Payoff.Evaluate.{in_range}
use Rattle.language.specs.Rules.Table.{Table, readable, value_at}
use Rattle.nodes.proofs.Signed.{nat_of_known}
use Rattle.nodes.specs.Table.{nat_of}
use Rattle.tables.specs.Lookup.{found_answer, looked_up, read_table}
use Rattle.checked.specs.Answers.{divided_by, valued_answer}
use Rattle.checked.specs.Ranges.{Near, Readable, Waited}
use Rattle.checked.specs.declared.answers.Fault.TheVariants as fault
use Rattle.std.specs.Prelude.{Err, None, Ok, Option, Some}
use Rattle.integers.specs.declared.Pence.{Pence}

-- ---- a label: x is a local that reads the field y
none : (y : ℤ) → lt_z y (pos 0) ≡ true → 0 ≡ nat_of y
none (pos n) e = absurd (omega (arith, lt_true (pos n) (pos 0) e))
none (negsuc n) e = refl

some : (y : ℤ) → lt_z y (pos 0) ≡ false → T (non_neg y)
some (pos n) e = tt
some (negsuc n) e = absurd (true≢false e)

module _ {x y : ℤ} (f : SFits w64 x) (e : x ≡ y) where
  pub label_below : lt_z (rd x) (pos 0) ≡ true → 0 ≡ nat_of y
  label_below t = none y (rw (to_z-of_z f ∙ e) at t)

  pub label_known : lt_z (rd x) (pos 0) ≡ false → T (non_neg y)
  label_known t = some y (rw (to_z-of_z f ∙ e) at t)

-- ---- a division
pub divided : (n : ℕ) {a : Answer ℤ} {z r : ℤ} → a ≡ got z → Small z → r ≡ floor_z z n → got r ≡ divided_by n a
divided n {a} {z} {r} ea s er = ap got er ∙ sym (in_range_lem max_amount (floor_z z n) (omega (arith, nat_abs_floor z n, s.small))) ∙ rw ea refl

pub undivided : (n : ℕ) {a : Answer ℤ} {k : ℕ} → a ≡ refused k → refused k ≡ divided_by n a
undivided n ea = rw ea refl

-- ---- a reading
pub waited_small : {w : ℤ} → Waited w → Small w
waited_small {w} h = record { small = omega (arith, nat_of_known w h.known, h.within) }

pub near_small : {i x : ℤ} → Near i → x ≡ i → Small x
near_small {i} {x} h e = record { small = rw e (omega (arith, h.near)) }

module _ (h f : ℤ) (bounds values : List ℤ) (R : Readable h f bounds values) (w i : ℤ) (hw : Waited w) (hi : Near i) where
  abbrev t : Table
  t = read_table h f bounds values

  pub read_small : {m x : ℤ} → m ≡ w +ℤ x → x ≡ i → Small m
  read_small {m} {x} em ex = record { small = rw (em, ex) (omega (arith, nat_abs_add w i, nat_of_known w hw.known, hw.within, hi.near)) }

  pub read_is : (l : ℕ) (m : ℤ) → looked_up t l m ≡ cond (readable t l m) (in_range max_amount (value_at t l m)) (refused 11)
  unfolding looked_up
  read_is l m = ap (λ a. cond (readable t l m) a (refused 11)) (sym (in_range_lem max_amount (value_at t l m) (R.small l m)))

  -- the code's label k and month m
  module _ {k l : ℕ} (ek : k ≡ l) {m x : ℤ} (em : m ≡ w +ℤ x) (ex : x ≡ i) (r : Option Pence) (a : found_answer r ≡ looked_up t k m) where
    abbrev month : ℤ
    month = pos (nat_of w) +ℤ i

    whole : found_answer r ≡ cond (readable t l month) (in_range max_amount (value_at t l month)) (refused 11)
    whole = a ∙ ap₂ (looked_up t) ek (em ∙ ap₂ ◌+ℤ◌ (month_is w hw.known) ex) ∙ read_is l month

    pub read_found : (p : _) → r ≡ Some p → valued_answer (Ok p) ≡ cond (readable t l month) (in_range max_amount (value_at t l month)) (refused 11)
    unfolding found_answer
    read_found p e = sym (ap found_answer e) ∙ whole

    pub read_outside : r ≡ None → valued_answer (Err fault.Unread) ≡ cond (readable t l month) (in_range max_amount (value_at t l month)) (refused 11)
    unfolding found_answer
    read_outside e = sym (ap found_answer e) ∙ whole
