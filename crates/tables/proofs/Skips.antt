-- Rows without a delay are passed over at once.
use Rattle.std.proofs.Common.{◌≡◌, ℕ, zero, suc, ◌+◌, ◌-◌, ◌*◌, ◌<◌, ◌≤◌, Bool, true, false, cond, not, ◌||◌, T, List, ◌++◌, length, get_or, take, drop, set, ℤ, pos, negsuc, nat_abs, sym, refl, ap, ◌∙◌, subst, true≢false, add-zero, arith, length-take-le, get_or-set_other, drop-drop, take_at, drop_at, w64, Fits, SFits}
use lib.Signed.{non_neg}
use Rattle.integers.proofs.Locals.{rd}
use Rattle.integers.specs.Equal.{eq_z}
use Rattle.language.specs.Text.Number.{byte}
use Rattle.nodes.proofs.Passes.{Passing, passing_next, passing_room, passing_start, row_size}
use Rattle.nodes.proofs.Signed.{index_cast, index_reads}
use Rattle.nodes.specs.Pass.{all_rows, row_from, with_row}
use Rattle.nodes.specs.Table.{nat_of}
use Rattle.tables.proofs.Fills.{fill_keeps_size, in_row, row_without}
use Rattle.tables.proofs.Spans.{both_true}
use Rattle.tables.specs.Fill.{RowIs, fill_delay, fill_row, has_delay, row_set}
use Rattle.tables.specs.Skips.{Leads, Skips, plan_step, without_delay}
use Rattle.std.specs.Prelude.{Ok}

-- ---- how far a row leads

not_below : (z : ℤ) → 0 < nat_of z → T (non_neg z)
not_below (pos n) h = tt
not_below (negsuc n) h = absurd (omega arith)

module _ (i : ℕ) (nodes : List ℤ) where
  -- by a link, as the code reads it
  module _ (z : ℤ) (letter : get_or nodes (5 * i) (pos 0) ≡ z) (apart : eq_z z (pos (byte "S")) || eq_z z (pos (byte "W")) ≡ true) (ahead : 0 < plan_step (row_from (5 * i) nodes)) (fits : SFits w64 (get_or nodes (5 * i + 3) (pos 0))) where
    linked : plan_step (row_from (5 * i) nodes) ≡ nat_of (get_or nodes (5 * i + 3) (pos 0))
    unfolding plan_step
    linked = rw (in_row (5 * i) nodes 0 (omega arith), add-zero (5 * i), letter, apart, in_row (5 * i) nodes 3 (omega arith)) refl

    known : T (non_neg (get_or nodes (5 * i + 3) (pos 0)))
    known = not_below (get_or nodes (5 * i + 3) (pos 0)) (omega (arith, linked))

    pub link_cast : T (non_neg (rd (get_or nodes (5 * i + 3) (pos 0)))) × Fits w64 (nat_abs (rd (get_or nodes (5 * i + 3) (pos 0))))
    link_cast = index_cast (get_or nodes (5 * i + 3) (pos 0)) (get_or nodes (5 * i + 3) (pos 0)) fits refl known

    pub link_leads : i + nat_abs (rd (get_or nodes (5 * i + 3) (pos 0))) ≡ i + plan_step (row_from (5 * i) nodes)
    link_leads = ap (λ n. i + n) (index_reads (get_or nodes (5 * i + 3) (pos 0)) (get_or nodes (5 * i + 3) (pos 0)) fits refl known ∙ sym linked)

  pub step_one : eq_z (get_or nodes (5 * i) (pos 0)) (pos (byte "S")) ≡ false → eq_z (get_or nodes (5 * i) (pos 0)) (pos (byte "W")) ≡ false → plan_step (row_from (5 * i) nodes) ≡ 1
  unfolding plan_step
  step_one e f = rw (in_row (5 * i) nodes 0 (omega arith), add-zero (5 * i), e, f) refl

-- a row filled leads as far
step_kept : (days row : List ℤ) → plan_step (fill_row days row) ≡ plan_step row
unfolding plan_step fill_row
step_kept days row = go (has_delay row)
  where
    go : (b : Bool) → plan_step (cond b (set row 1 (fill_delay days (get_or row 1 (pos 0)))) row) ≡ plan_step row
    go true =
        let v = fill_delay days (get_or row 1 (pos 0)) in
        rw (get_or-set_other row 1 0 v (pos 0) (λ e. absurd (omega arith)), get_or-set_other row 1 3 v (pos 0) (λ e. absurd (omega arith))) refl
    go false = refl

-- ---- behind a row

-- n rows later
skips_behind : (n m : ℕ) (nodes : List ℤ) → n ≤ m → Skips m nodes → Skips (m - n) (drop (5 * n) nodes)
unfolding Skips
skips_behind zero m nodes l h = let e : m - 0 ≡ m = omega arith in rw e h
skips_behind (suc n) zero nodes l h = absurd (omega arith)
skips_behind (suc n) (suc m) nodes l h =
    let e : suc m - suc n ≡ m - n = omega arith in
    let d : drop (5 * n) (drop 5 nodes) ≡ drop (5 * suc n) nodes = drop-drop (5 * n) 5 nodes ∙ (let f : 5 + 5 * n ≡ 5 * suc n = omega arith in ap (λ k. drop k nodes) f) in
    rw e (subst (Skips (m - n)) d (skips_behind n m (drop 5 nodes) (omega arith) h.1))

-- a row put in another's place
module _ (at : ℕ) (row now after : List ℤ) (e : after ≡ with_row at row now) (room : at + 5 ≤ length now) (five : length row ≡ 5) where
  from_row : drop at after ≡ row ++ drop (at + 5) now
  from_row = ap (drop at) e ∙ drop_at (take at now) (row ++ drop (at + 5) now) at (length-take-le at now (omega arith))

  row_there : row_from at after ≡ row
  row_there = ap (take 5) from_row ∙ take_at row (drop (at + 5) now) 5 five

  behind_row : drop (at + 5) after ≡ drop (at + 5) now
  behind_row = sym (drop-drop 5 at after) ∙ ap (drop 5) from_row ∙ drop_at row (drop (at + 5) now) 5 five

no_delay : (b : Bool) → not b ≡ true → b ≡ false
no_delay true e = absurd (true≢false (sym e))
no_delay false e = refl

module _ (days : List ℤ) (count : ℕ) (before : List ℤ) where
  abbrev Done : ℕ → ℕ → List ℤ → Type 0
  Done = Passing (fill_row days) (row_set days) count before

  -- what holds while the loop goes on: i rows are done, and those left lead on
  pub record Turning (i : ℕ) (now : List ℤ) : Type 0 where
    pub done : Done i (5 * i) now
    pub ahead : Skips (count - i) (drop (5 * i) now)

  pub turning_start : Skips count before → Turning 0 before
  turning_start h = record { done = passing_start (fill_row days) (row_set days) count before; ahead = (let e : count - 0 ≡ count = omega arith in rw e h) }

  module _ (room : 5 * count ≤ length before) where
    -- n rows without a delay are filled as they are
    passing_plain : (n i at : ℕ) (now : List ℤ) → Done i at now → i + n ≤ count → all_rows without_delay n (drop at now) ≡ true → Done (i + n) (at + 5 * n) now
    unfolding all_rows
    passing_plain zero i at now h l e = let p : i + 0 ≡ i = omega arith in let q : at + 5 * 0 ≡ at = omega arith in rw (p, q) h
    passing_plain (suc n) i at now h l e =
        let b = both_true (without_delay (row_from at now)) (all_rows without_delay n (drop 5 (drop at now))) e in
        let w = row_without days at now (no_delay (has_delay (row_from at now)) b.0) in
        let five = fill_keeps_size days (row_from at now) ∙ row_size at now (passing_room (fill_row days) (row_set days) count before room h (omega arith)) in
        let next = passing_next (fill_row days) (row_set days) count before room h (omega arith) five w.0 w.1 in
        let p : i + suc n ≡ (i + 1) + n = omega arith in
        let q : at + 5 * suc n ≡ (at + 5) + 5 * n = omega arith in
        rw (p, q) (passing_plain n (i + 1) (at + 5) now next (omega arith) (subst (λ x. all_rows without_delay n x ≡ true) (drop-drop 5 at now) b.1))

    module _ (i : ℕ) (now : List ℤ) (h : Turning i now) (l : i < count) where
      pub turning_room : 5 * i + 5 ≤ length now
      turning_room = passing_room (fill_row days) (row_set days) count before room h.done l

      -- the rows that are left, from the next on
      here : Leads (suc (count - (i + 1))) (drop (5 * i) now) × Skips (count - (i + 1)) (drop 5 (drop (5 * i) now))
      unfolding Skips
      here = let n : count - i ≡ suc (count - (i + 1)) = omega arith in rw n at h.ahead

      module _ (after : List ℤ) (filled : RowIs days (5 * i) now after (Ok _)) where
        five : length (fill_row days (row_from (5 * i) now)) ≡ 5
        five = fill_keeps_size days (row_from (5 * i) now) ∙ row_size (5 * i) now turning_room

        same_step : plan_step (row_from (5 * i) after) ≡ plan_step (row_from (5 * i) now)
        same_step = ap plan_step (row_there (5 * i) (fill_row days (row_from (5 * i) now)) now after filled.1 turning_room five) ∙ step_kept days (row_from (5 * i) now)

        same_behind : drop (5 * i + 5) after ≡ drop 5 (drop (5 * i) now)
        same_behind = behind_row (5 * i) (fill_row days (row_from (5 * i) now)) now after filled.1 turning_room five ∙ sym (drop-drop 5 (5 * i) now)

        -- the row leads on, and not beyond the rows
        pub turning_step : (0 < plan_step (row_from (5 * i) after)) × (i + plan_step (row_from (5 * i) after) ≤ count)
        turning_step = rw same_step (here.0.forward, omega (arith, here.0.inside))

        pub turning_next : (r : ℕ) → r ≡ i + plan_step (row_from (5 * i) after) → Turning r after
        turning_next r e =
            let s = plan_step (row_from (5 * i) now) - 1 in
            let q : r ≡ (i + 1) + s = omega (arith, same_step, here.0.forward) in
            let k : s ≤ count - (i + 1) = omega (arith, here.0.inside, here.0.forward) in
            let a : 5 * r ≡ (5 * i + 5) + 5 * s = omega (arith, q) in
            let m : count - r ≡ (count - (i + 1)) - s = omega (arith, q) in
            let next = passing_next (fill_row days) (row_set days) count before room h.done l five filled.0 filled.1 in
            record {
              done = rw (a, q) (passing_plain s (i + 1) (5 * i + 5) after next (omega arith) (subst (λ x. all_rows without_delay s x ≡ true) (sym same_behind) here.0.plain));
              ahead = rw m (subst (Skips ((count - (i + 1)) - s)) (ap (drop (5 * s)) (sym same_behind) ∙ drop-drop (5 * s) (5 * i + 5) after ∙ ap (λ n. drop n after) (sym a)) (skips_behind s (count - (i + 1)) (drop 5 (drop (5 * i) now)) k here.1));
            }
