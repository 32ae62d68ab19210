-- One delay filled: an open one by its setting, a plain one by itself.
use Rattle.std.proofs.Common.{◌≡◌, ℕ, zero, suc, ◌+◌, ◌-◌, ◌<◌, ◌≤◌, Bool, true, false, cond, ◌||◌, leb, List, [], ◌∷◌, length, get_or, drop, set, ℤ, pos, negsuc, nat_abs, sym, refl, ap, ◌∙◌, true≢false, add-zero, arith, length-set, get_or-drop, get_or-take, ltb-true, le-ltb, lt-ltb}
use lib.Seq.{set-get_or}
use lib.Signed.{lt_z}
use Rattle.integers.specs.Equal.{eq_z}
use Rattle.language.specs.Limits.{max_months, max_settings}
use Rattle.language.specs.Rules.Settings.{delay_of, delay_set}
use Rattle.language.specs.Rules.Table.{all_of, are_settings}
use Rattle.language.specs.Text.Number.{between, byte}
use Rattle.nodes.proofs.Passes.{row_kept, set_in_row}
use Rattle.nodes.specs.Pass.{row_from}
use Rattle.tables.proofs.Spans.{both_true}
use Rattle.tables.specs.Fill.{RowIs, SlotIs, fill_delay, fill_row, has_delay, row_set}
use Rattle.std.specs.Prelude.{Err, Ok, Result}
use Rattle.tables.specs.declared.fill.Unset.{Unset}

-- what holds of every element holds of one
pub all_at : (p : ℤ → Bool) (xs : List ℤ) → all_of p xs ≡ true → (k : ℕ) → k < length xs → p (get_or xs k (pos 0)) ≡ true
all_at p [] e k h = absurd (omega arith)
all_at p (x ∷ xs) e zero h = (both_true (p x) (all_of p xs) e).0
all_at p (x ∷ xs) e (suc k) h = all_at p xs (both_true (p x) (all_of p xs) e).1 k (omega arith)

natural : (z : ℤ) → between (pos 0) (pos max_months) z ≡ true → pos (nat_abs z) ≡ z
natural (pos n) e = refl
natural (negsuc n) e = absurd (true≢false (sym e))

-- a number below zero, from its distance
pub below_zero : (z : ℤ) (m : ℕ) → lt_z z (pos 0) ≡ true → m ≡ nat_abs z → z ≡ negsuc (m - 1)
below_zero (pos n) m e h = absurd (omega (arith, ltb-true n 0 e))
below_zero (negsuc n) m e h = let k : n ≡ m - 1 = omega arith in ap negsuc k

pub far_from_zero : (z : ℤ) (m : ℕ) → lt_z z (pos 0) ≡ true → m ≡ nat_abs z → 1 ≤ m
far_from_zero (pos n) m e h = absurd (omega (arith, ltb-true n 0 e))
far_from_zero (negsuc n) m e h = omega arith

module _ (days nodes : List ℤ) (at : ℕ) where
  module _ (m : ℕ) (below : lt_z (get_or nodes at (pos 0)) (pos 0) ≡ true) (far : m ≡ nat_abs (get_or nodes at (pos 0))) where
    pub open_filled : are_settings days ≡ true → m - 1 < length days → (v : ℤ) → v ≡ get_or days (m - 1) (pos 0) → SlotIs days at nodes (set nodes at v) (Ok _)
    unfolding are_settings delay_set fill_delay delay_of
    open_filled ok h v e =
        let z = below_zero (get_or nodes at (pos 0)) m below far in
        let n = natural (get_or days (m - 1) (pos 0)) (all_at (between (pos 0) (pos max_months)) days (both_true (leb (length days) max_settings) (all_of (between (pos 0) (pos max_months)) days) ok).1 (m - 1) h) in
        (rw (z, lt-ltb (m - 1) (length days) h) refl, ap (set nodes at) (e ∙ sym n) ∙ rw z refl)

    pub open_unset : length days ≤ m - 1 → SlotIs days at nodes nodes (Err _)
    unfolding delay_set
    open_unset h = rw (below_zero (get_or nodes at (pos 0)) m below far, le-ltb (m - 1) (length days) h) refl

  pub plain_kept : lt_z (get_or nodes at (pos 0)) (pos 0) ≡ false → SlotIs days at nodes nodes (Ok _)
  unfolding delay_set fill_delay delay_of
  plain_kept e = go (get_or nodes at (pos 0)) refl e
    where
      go : (z : ℤ) → get_or nodes at (pos 0) ≡ z → lt_z z (pos 0) ≡ false → SlotIs days at nodes nodes (Ok _)
      go (pos n) d e = (rw d refl, sym (set-get_or nodes at (pos 0)) ∙ rw d refl)
      go (negsuc n) d e = absurd (true≢false e)

-- ---- a row
pub fill_keeps_size : (days row : List ℤ) → length (fill_row days row) ≡ length row
unfolding fill_row
fill_keeps_size days row = go (has_delay row)
  where
    go : (b : Bool) → length (cond b (set row 1 (fill_delay days (get_or row 1 (pos 0)))) row) ≡ length row
    go true = length-set row 1 (fill_delay days (get_or row 1 (pos 0)))
    go false = refl

pub in_row : (at : ℕ) (nodes : List ℤ) (k : ℕ) → k < 5 → get_or (row_from at nodes) k (pos 0) ≡ get_or nodes (at + k) (pos 0)
in_row at nodes k h = get_or-take 5 (drop at nodes) k (pos 0) h ∙ get_or-drop at nodes k (pos 0)

module _ (days : List ℤ) (at : ℕ) (nodes : List ℤ) where
  -- a row with a delay, by what became of the delay
  pub row_delay : (after : List ℤ) (r : Result Unit Unset) → at + 5 ≤ length nodes → has_delay (row_from at nodes) ≡ true → SlotIs days (at + 1) nodes after r → RowIs days at nodes after r
  unfolding row_set fill_row
  row_delay after (Ok _) h e s = (
    rw (e, in_row at nodes 1 (omega arith)) s.0,
    s.1 ∙ set_in_row at 1 (fill_delay days (get_or nodes (at + 1) (pos 0))) nodes (omega arith) h ∙ rw (e, in_row at nodes 1 (omega arith)) refl,
  )
  row_delay after (Err _) h e s = rw (e, in_row at nodes 1 (omega arith)) s

  pub row_without : has_delay (row_from at nodes) ≡ false → RowIs days at nodes nodes (Ok _)
  unfolding row_set fill_row
  row_without e = (rw e refl, row_kept at nodes ∙ rw e refl)

  -- the letter of a row, as the code finds it
  pub is_delayed : (z : ℤ) → get_or nodes at (pos 0) ≡ z → eq_z z (pos (byte "L")) || eq_z z (pos (byte "W")) ≡ true → has_delay (row_from at nodes) ≡ true
  is_delayed z e h = rw (in_row at nodes 0 (omega arith), add-zero at, e) h

  pub not_delayed : eq_z (get_or nodes at (pos 0)) (pos (byte "L")) ≡ false → eq_z (get_or nodes at (pos 0)) (pos (byte "W")) ≡ false → has_delay (row_from at nodes) ≡ false
  not_delayed e f = rw (in_row at nodes 0 (omega arith), add-zero at, e, f) refl
