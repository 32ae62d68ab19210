-- One month settled, and one row: as the code does it.
use Prim.Native.Nat.{◌*◌, ◌+◌, ◌<◌, ◌≤◌, ℕ}
use borrow.Author.Tests.{leb-true}
use lib.Dec.{T, leb}
use lib.IntN.{+ℤ_idr, ◌+ℤ◌, nat_abs, pos, ℤ}
use lib.ListN.{drop, get_or, length, length-append, length-set, set, take}
use lib.Seq.{drop_at, drop-drop, get_or-drop, get_or-take, length-take-le, set-get_or, take_at}
use lib.Signed.{non_neg}
use mathlib.Core.Bool.{Bool, ◌||◌, cond, false, true, true≢false}
use mathlib.Core.List.{List, [], ◌++◌}
use mathlib.Core.Path.{◌∙◌, ◌≡◌, ap, ap₂, refl, subst, sym}
use mir.Facts.{to_z-of_z}
use mir.Syntax.{w64}
use mir.Val.{Fits, SFits, to_z}
use native.Mathlib.Nat.{add_assoc, add-zero}
use native.Mathlib.Omega.{arith}
use Rattle.integers.proofs.Laws.{nat_abs_add, sfits64}
use Rattle.integers.proofs.Locals.{rd}
use Rattle.integers.specs.Equal.{eq_z}
use Rattle.language.proofs.Truth.{and_e, truth}
use Rattle.language.specs.Limits.{max_month}
use Rattle.language.specs.Payoff.Evaluate.{month_of, settings_sum}
use Rattle.language.specs.Rules.Table.{all_of, is_set, setting_at, are_settings}
use Rattle.language.specs.Text.Number.{byte}
use Rattle.nodes.proofs.Passes.{Passing, passing_stop, row_kept, row_size, set_in_row}
use Rattle.nodes.proofs.Signed.{index_cast, index_reads}
use Rattle.nodes.specs.Pass.{all_rows, row_from, with_row}
use Rattle.nodes.specs.Rows.{month_from, settings_in}
use Rattle.nodes.specs.Table.{nat_of}
use Rattle.settling.proofs.SettingSums.{months_small, no_settings}
use Rattle.settling.specs.Settle.{MonthIs, RowIs, is_await, holds_index, is_leaf, month_in, month_settled, row_in, row_settled, settle_month, settle_row}
use Rattle.settling.specs.Sums.{SumIs}
use Rattle.tables.specs.Fill.{SlotIs, fill_delay}
use Rattle.std.specs.Prelude.{Err, Ok, Result}
use Rattle.tables.specs.declared.fill.Unset.{Unset}

-- ---- a month of number p and digits d
module _ (days : List ℤ) (ok : are_settings days ≡ true) (p d : ℤ) (m : month_in p d ≡ true) (fp : SFits w64 p) (fd : SFits w64 d) where
  known : T (non_neg d)
  known = truth (non_neg d) (and_e (leb (nat_abs p) max_month) (non_neg d) m).1

  plain_small : nat_abs p ≤ max_month
  plain_small = leb-true (nat_abs p) max_month (and_e (leb (nat_abs p) max_month) (non_neg d) m).0

  pub digits_cast : T (non_neg (rd d)) × Fits w64 (nat_abs (rd d))
  digits_cast = index_cast d d fd refl known

  -- the sum as the code asks for it
  pub as_digits : (r : Result ℕ Unset) → SumIs days (settings_in (nat_abs (rd d))) r → SumIs days (settings_in (nat_of d)) r
  as_digits r h = subst (λ n. SumIs days (settings_in n) r) (index_reads d d fd refl known) h

  module _ (n : ℕ) (h : SumIs days (settings_in (nat_abs (rd d))) (Ok n)) where
    few : n ≤ 148_800
    few = omega (arith, (as_digits (Ok n) h).1, months_small days ok (nat_of d))

    pub sum_fits : SFits w64 (pos n)
    sum_fits = sfits64 148_800 few tt

    whole_fits : SFits w64 (p +ℤ pos n)
    whole_fits = sfits64 168_000 (omega (arith, nat_abs_add p (pos n), plain_small, few)) tt

    pub month_fits : SFits w64 (rd p +ℤ to_z w64 n)
    month_fits = rw (to_z-of_z fp, to_z-of_z sum_fits) whole_fits

    pub month_is : rd (rd p +ℤ to_z w64 n) ≡ month_of (setting_at days) (month_from p d)
    unfolding month_of
    month_is = rw (to_z-of_z fp, to_z-of_z sum_fits) (to_z-of_z whole_fits ∙ ap (λ k. p +ℤ pos k) (as_digits (Ok n) h).1)

-- ---- the month at number `at` of the table
module _ (days nodes : List ℤ) (at : ℕ) where
  abbrev plain : ℤ
  plain = get_or nodes at (pos 0)

  abbrev digits : ℤ
  digits = get_or nodes (at + 1) (pos 0)

  pub month_filled : (n : ℕ) → SumIs days (settings_in (nat_of digits)) (Ok n) → (v : ℤ) → v ≡ month_of (setting_at days) (month_from plain digits)
      → MonthIs days at nodes (set (set nodes at v) (at + 1) (pos 0)) (Ok _)
  unfolding month_settled settle_month
  month_filled n h v e = (h.0, ap (λ z. set (set nodes at z) (at + 1) (pos 0)) e)

  -- a month without settings stays as it is
  pub month_kept : digits ≡ pos 0 → MonthIs days at nodes nodes (Ok _)
  unfolding month_settled settle_month month_of settings_sum
  month_kept e =
      let none : settings_in (nat_of digits) ≡ [] = ap (λ d. settings_in (nat_of d)) e ∙ no_settings 8 0 in
      let same : month_of (setting_at days) (month_from plain digits) ≡ plain = ap (λ ks. plain +ℤ pos (settings_sum (setting_at days) ks)) none ∙ +ℤ_idr plain in (
        ap (all_of (is_set days)) none,
        sym (ap₂ (λ v d. set (set nodes at v) (at + 1) d) same (sym e) ∙ ap (λ xs. set xs (at + 1) digits) (set-get_or nodes at (pos 0)) ∙ set-get_or nodes (at + 1) (pos 0)),
      )

  pub month_unset : SumIs days (settings_in (nat_of digits)) (Err _) → MonthIs days at nodes nodes (Err _)
  unfolding month_settled
  month_unset h = h

-- ---- rows
settle_keeps_month : (days : List ℤ) (k : ℕ) (row : List ℤ) → length (settle_month days k row) ≡ length row
unfolding settle_month
settle_keeps_month days k row =
    let v : ℤ = month_of (setting_at days) (month_from (get_or row k (pos 0)) (get_or row (k + 1) (pos 0))) in
    length-set (set row k v) (k + 1) (pos 0) ∙ length-set row k v

pub settle_keeps_size : (days row : List ℤ) → length (settle_row days row) ≡ length row
unfolding settle_row
settle_keeps_size days row = go (holds_index row) (is_leaf row) (is_await row)
  where
    go : (a b c : Bool) → length (cond a (settle_month days 2 row) (cond b (settle_month days 1 row) (cond c (set row 1 (fill_delay days (get_or row 1 (pos 0)))) row))) ≡ length row
    go true b c = settle_keeps_month days 2 row
    go false true c = settle_keeps_month days 1 row
    go false false true = length-set row 1 (fill_delay days (get_or row 1 (pos 0)))
    go false false false = refl

-- where all rows pass a test, so does the next
pub next_passes : (f : List ℤ → List ℤ) (p : List ℤ → Bool) (count : ℕ) (before : List ℤ) → 5 * count ≤ length before
    → {i at : ℕ} {now : List ℤ} → Passing f p count before i at now → i < count
    → all_rows p count before ≡ true → p (row_from at now) ≡ true
next_passes f p count before room {i} {at} {now} h l all = go (p (row_from at now)) refl
  where
    go : (b : Bool) → p (row_from at now) ≡ b → p (row_from at now) ≡ true
    go true e = e
    go false e = absurd (true≢false (sym all ∙ passing_stop f p count before room h l e))

-- a row that is changed twice
module _ (at : ℕ) (nodes : List ℤ) (room : at + 5 ≤ length nodes) (R : List ℤ) (five : length R ≡ 5) where
  abbrev now : List ℤ
  now = with_row at R nodes

  front : length (take at nodes) ≡ at
  front = length-take-le at nodes (omega arith)

  behind : drop at now ≡ R ++ drop (at + 5) nodes
  behind = drop_at (take at nodes) (R ++ drop (at + 5) nodes) at front

  again_row : row_from at now ≡ R
  again_row = ap (take 5) behind ∙ take_at R (drop (at + 5) nodes) 5 five

  again_size : at + 5 ≤ length now
  again_size = omega (arith, length-append (take at nodes) (R ++ drop (at + 5) nodes), length-append R (drop (at + 5) nodes), front)

  again : (S : List ℤ) → with_row at S now ≡ with_row at S nodes
  again S = ap₂ (λ x y. x ++ (S ++ y)) (take_at (take at nodes) (R ++ drop (at + 5) nodes) at front) (sym (drop-drop 5 at now) ∙ ap (drop 5) behind ∙ drop_at R (drop (at + 5) nodes) 5 five)

module _ (days : List ℤ) (at : ℕ) (nodes : List ℤ) where
  abbrev row : List ℤ
  row = row_from at nodes

  in_row : (k : ℕ) → k < 5 → get_or row k (pos 0) ≡ get_or nodes (at + k) (pos 0)
  in_row k h = get_or-take 5 (drop at nodes) k (pos 0) h ∙ get_or-drop at nodes k (pos 0)

  letter_is : {z : ℤ} → get_or nodes at (pos 0) ≡ z → get_or row 0 (pos 0) ≡ z
  letter_is e = in_row 0 (omega arith) ∙ ap (λ i. get_or nodes i (pos 0)) (add-zero at) ∙ e

  -- a month in the row
  module _ (k : ℕ) (l : k + 2 ≤ 5) where
    abbrev plain_at : ℤ
    plain_at = get_or nodes (at + k) (pos 0)

    abbrev digits_at : ℤ
    digits_at = get_or nodes (at + k + 1) (pos 0)

    plain_in : get_or row k (pos 0) ≡ plain_at
    plain_in = in_row k (omega arith)

    digits_in : get_or row (k + 1) (pos 0) ≡ digits_at
    digits_in = in_row (k + 1) (omega arith) ∙ ap (λ i. get_or nodes i (pos 0)) (sym (add_assoc at k 1))

    settled_in : month_settled days k row ≡ month_settled days (at + k) nodes
    unfolding month_settled
    settled_in = rw digits_in refl

    month_in_row : at + 5 ≤ length nodes → settle_month days (at + k) nodes ≡ with_row at (settle_month days k row) nodes
    unfolding settle_month
    month_in_row room =
        let v : ℤ = month_of (setting_at days) (month_from plain_at digits_at) in
        let five : length (set row k v) ≡ 5 = length-set row k v ∙ row_size at nodes room in
        rw (plain_in, digits_in)
        (ap₂ (λ xs i. set xs i (pos 0)) (set_in_row at k v nodes (omega arith) room) (add_assoc at k 1)
        ∙ set_in_row at (k + 1) (pos 0) (with_row at (set row k v) nodes) (omega arith) (again_size at nodes room (set row k v) five)
        ∙ ap (λ r. with_row at (set r (k + 1) (pos 0)) (with_row at (set row k v) nodes)) (again_row at nodes room (set row k v) five)
        ∙ again at nodes room (set row k v) five (set (set row k v) (k + 1) (pos 0)))

    row_month : at + 5 ≤ length nodes → settle_row days row ≡ settle_month days k row → row_settled days row ≡ month_settled days k row
        → (after : List ℤ) (r : Result Unit Unset) → MonthIs days (at + k) nodes after r → RowIs days at nodes after r
    row_month room f p after (Ok _) h = (p ∙ settled_in ∙ h.0, h.1 ∙ month_in_row room ∙ ap (λ x. with_row at x nodes) (sym f))
    row_month room f p after (Err _) h = p ∙ settled_in ∙ h

  -- ---- by the letter z
  module _ (z : ℤ) (e : get_or nodes at (pos 0) ≡ z) where
    module _ (o : eq_z z (pos (byte "O")) ≡ true) where
      pub index_in : row_in row ≡ true → month_in (get_or nodes (at + 2) (pos 0)) (get_or nodes (at + 2 + 1) (pos 0)) ≡ true
      unfolding row_in
      index_in h = rw (← plain_in 2 (omega arith), ← digits_in 2 (omega arith)) (rw (letter_is e, o) at h)

      pub index_row : at + 5 ≤ length nodes → (after : List ℤ) (r : Result Unit Unset) → MonthIs days (at + 2) nodes after r → RowIs days at nodes after r
      unfolding settle_row row_settled
      index_row room = row_month 2 (omega arith) room (rw (letter_is e, o) refl) (rw (letter_is e, o) refl)

    module _ (o : eq_z z (pos (byte "O")) ≡ false) (k : eq_z z (pos (byte "F")) || eq_z z (pos (byte "H")) ≡ true) where
      pub leaf_in : row_in row ≡ true → month_in (get_or nodes (at + 1) (pos 0)) (get_or nodes (at + 1 + 1) (pos 0)) ≡ true
      unfolding row_in
      leaf_in h = rw (← plain_in 1 (omega arith), ← digits_in 1 (omega arith)) (rw (letter_is e, o, k) at h)

      pub leaf_row : at + 5 ≤ length nodes → (after : List ℤ) (r : Result Unit Unset) → MonthIs days (at + 1) nodes after r → RowIs days at nodes after r
      unfolding settle_row row_settled
      leaf_row room = row_month 1 (omega arith) room (rw (letter_is e, o, k) refl) (rw (letter_is e, o, k) refl)

    module _ (o : eq_z z (pos (byte "O")) ≡ false) (k : eq_z z (pos (byte "F")) || eq_z z (pos (byte "H")) ≡ false) where
      pub await_row : eq_z z (pos (byte "W")) ≡ true → at + 5 ≤ length nodes → (after : List ℤ) (r : Result Unit Unset) → SlotIs days (at + 1) nodes after r → RowIs days at nodes after r
      unfolding settle_row row_settled
      await_row w room after (Ok _) h = (
        rw (letter_is e, o, k, w, in_row 1 (omega arith)) h.0,
        h.1 ∙ set_in_row at 1 (fill_delay days (get_or nodes (at + 1) (pos 0))) nodes (omega arith) room ∙ rw (letter_is e, o, k, w, in_row 1 (omega arith)) refl,
      )
      await_row w room after (Err _) h = rw (letter_is e, o, k, w, in_row 1 (omega arith)) h

      pub other_row : eq_z z (pos (byte "W")) ≡ false → RowIs days at nodes nodes (Ok _)
      unfolding settle_row row_settled
      other_row w = (rw (letter_is e, o, k, w) refl, row_kept at nodes ∙ rw (letter_is e, o, k, w) refl)
