-- A text that was measured as it was read: what the call answers.
use Prim.Native.Nat.{◌+◌, ◌/◌, ℕ}
use borrow.Author.Tests.{le-leb}
use lib.IntN.{nat_abs, pos, ℤ}
use lib.ListN.{length}
use mathlib.Core.Bool.{◌&&◌, true}
use mathlib.Core.List.{List, []}
use mathlib.Core.Path.{◌∙◌, ◌≡◌, refl}
use native.Mathlib.Omega.{arith}
use Rattle.fields.proofs.Positions.{at_start, from_behind}
use Rattle.language.proofs.Text.Plans.{items_plan}
use Rattle.language.specs.Answer.{got}
use Rattle.language.specs.Calls.{Given, check_call}
use Rattle.language.specs.Limits.{max_back, max_depth, max_months, plan_bytes}
use Rattle.language.specs.Rules.Settings.{all_are_set, fill}
use Rattle.language.specs.Rules.Table.{is_month, setting_at, are_settings, is_table}
use Rattle.language.specs.Text.Letters.{plan_form, root}
use Rattle.language.specs.Text.Number.{between}
use Rattle.language.specs.Text.Plans.{plan_trees, read_plan}
use Rattle.language.specs.Text.Reader.{end, read_beside, text_as_read, read_trees}
use Rattle.language.specs.Text.Trees.{Delay, Plan}
use Rattle.nodes.specs.Table.{nat_of}
use Rattle.one_pass.specs.Reads.{Reads, Short}
use Rattle.rules.proofs.Accepting.{by_rules, in_span}
use Rattle.rules.specs.Answers.{checking_answer}
use Rattle.rules.specs.Measured.{InTable, measured_by, span_ok}
use Rattle.tables.proofs.Spans.{both_true, up_to_lem}
use Rattle.tables.specs.Given.{given_of}
use Rattle.std.specs.Prelude.{Result}
use Rattle.rules.specs.declared.Accepted.{Accepted}
use Rattle.text.specs.declared.Refusal.{Refusal}

-- a plan's magnitude in the number for its text, and in that without its place
pub halved : (r : ℕ) → r / 1024 / 1024 ≡ r / 1048576
halved r = omega arith

-- the months that were asked for before, whatever the bounds
pub in_time_lem : {today h f : ℤ} → span_ok h f ≡ true → between (pos 0) f today ≡ true → InTable today h f []
in_time_lem {today} {h} {f} s m =
    let b = both_true (between (pos 0) (pos max_back) h) (between (pos 0) (pos max_months) f) s in
    in_span (up_to_lem max_back h b.0, up_to_lem max_months f b.1) m (record { within = tt })

module _ (text : List ℕ) (short : Short text) (x : Plan Delay) {next : ℕ} (r : Reads max_depth root text 0 next (plan_trees x)) (e : next ≡ length text + 1) where
  -- read up to its end
  whole : text_as_read plan_form text ≡ got (plan_trees x end)
  unfolding text_as_read read_trees read_beside
  whole =
      rw (le-leb (length text) plan_bytes (omega (arith, short.short)), ← at_start text, r.is [] 0 (omega arith), from_behind text next (omega (arith, e))) refl

  pub read_whole : read_plan text ≡ got x
  unfolding read_plan
  read_whole = rw (whole, items_plan x end) refl

  module _ (days : List ℤ) (h f : ℤ) (factors bounds values : List ℤ) (today : ℤ) where
    abbrev g : Given
    g = given_of days h f factors bounds values

    pub check_accepted : is_table g.table ≡ true → is_month g.table today && true ≡ true → are_settings days ≡ true → all_are_set days x ≡ true → nat_of today ≡ nat_abs today
        → (c : Result Accepted Refusal) → checking_answer c ≡ measured_by h f bounds (nat_of today) (fill (setting_at days) x) → checking_answer c ≡ check_call text g today
    unfolding check_call
    check_accepted t m s a n c q = q ∙ by_rules days h f factors bounds values today true x t m s a n ∙ rw read_whole refl
