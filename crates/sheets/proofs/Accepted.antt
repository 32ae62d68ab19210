-- A plan that was accepted: what its column and what is left of it are, and the answer that they give.
use Prim.Native.Nat.{◌+◌, ◌<◌, ◌≤◌, suc, zero, ℕ}
use lib.IntN.{nat_abs, pos, ℤ}
use lib.ListN.{get_or, length, replicate}
use mathlib.Core.Bool.{Bool}
use mathlib.Core.List.{List, ◌++◌}
use mathlib.Core.Path.{◌∙◌, ◌≡◌, ap, refl, subst, sym}
use native.Mathlib.Omega.{arith}
use Rattle.amounts.specs.Flat.{flat}
use Rattle.amounts.specs.Placed.{place_in, placed_plan}
use Rattle.columns.proofs.AcceptedColumns.{column_is, weighed}
use Rattle.columns.proofs.CutValues.{cut_now, sums_fit}
use Rattle.columns.specs.Column.{Added, Weighed}
use Rattle.columns.specs.Remaining.{SumsFit, rest_from}
use Rattle.language.proofs.Guarantee.Kept.{Opening}
use Rattle.language.proofs.Rules.Every.{top_plan}
use Rattle.language.proofs.Text.Plans.{plan_round_trip}
use Rattle.language.specs.Answer.{Answer, got}
use Rattle.language.specs.Calls.{Checked, Given, into_buffer, lookup_of, pair_ok, sign_of}
use Rattle.language.specs.Guarantee.{Contract}
use Rattle.language.specs.Limits.{max_amount, max_months}
use Rattle.language.specs.Payments.Pays.{pays}
use Rattle.language.specs.Rules.Measures.{length_of, magnitude_of, magnitude_of_amount}
use Rattle.language.specs.Rules.Settings.{fill}
use Rattle.language.specs.Rules.Table.{bound_at, setting_at}
use Rattle.language.specs.Sheet.{month_lines, printed}
use Rattle.language.specs.Text.Form.{filled_in_form}
use Rattle.language.specs.Text.Plans.{print_plan}
use Rattle.language.specs.Text.Trees.{Delay, Plan}
use Rattle.nodes.specs.Found.{plan_at}
use Rattle.nodes.specs.Pass.{map_rows}
use Rattle.nodes.specs.Table.{nat_of}
use Rattle.payments.proofs.StepPlaced as step
use Rattle.payments.proofs.StepPlaced.{Placing}
use Rattle.payoff.proofs.TableFacts.{table_pays, table_read}
use Rattle.places.specs.Place.{placed_row}
use Rattle.printing.specs.Lines.{answer_call, head_text, months_text}
use Rattle.rules.specs.Accepting.{accepting}
use Rattle.rules.specs.Answers.{checking_answer}
use Rattle.rules.specs.Measured.{checked_of}
use Rattle.sheets.proofs.AnswerTexts.{head_line, month_lines_lem}
use Rattle.sheets.specs.Answers.{answer_into, answer_of, sheet_of}
use Rattle.sheets.specs.Held.{Cleared}
use Rattle.tables.specs.Given.{given_of, table_of}
use Rattle.tables.specs.Lookup.{KeptSpan}
use Rattle.writer.specs.Written.{slot}
use Rattle.std.specs.Prelude.{Ok}
use Rattle.rules.specs.declared.Accepted.{Accepted}

-- a list of zeros is empty in each place
zeros_empty : (n m : ℕ) → get_or (replicate n (pos 0)) m (pos 0) ≡ pos 0
zeros_empty zero zero = refl
zeros_empty zero (suc m) = refl
zeros_empty (suc n) zero = refl
zeros_empty (suc n) (suc m) = zeros_empty n m

module _ {days : List ℤ} {h f : ℤ} {factors bounds values : List ℤ} {p q : ℤ} {x : Plan Delay} {count : ℕ} {before after : List ℤ} (w : Placing days h f factors bounds values (pos 0) p q x count before after) where
  abbrev g : Given
  g = given_of days h f factors bounds values

  abbrev y : Plan ℕ
  y = fill (setting_at days) x

  pub span_kept : KeptSpan h f
  span_kept = (table_read h f factors bounds values w.accepted.passed.table).kept.span

  short : nat_abs f ≤ max_months
  short = span_kept.f_to

  pub factors_count : length factors ≡ suc (nat_abs f)
  factors_count = omega (arith, (table_pays h f factors bounds values w.accepted.passed.table).count)

  -- the contract whose first text is the plan's
  abbrev c : Contract
  c = record { text = print_plan x; given = g }

  abbrev opening : Opening c
  opening = record { plan = x; reads = plan_round_trip x w.stood.formed; passed = w.accepted.passed }

  -- ---- the column
  module _ (placed : List ℤ) (e : placed ≡ map_rows (placed_row h f) count after) (column : List ℤ) (cleared : Cleared column) (long : length factors ≤ length column) where
    found_is : plan_at nat_of 32 placed 0 ≡ placed_plan (place_in (table_of h f factors bounds values)) y
    found_is = (step.found w placed e).is

    longer : nat_abs f < length column
    longer = omega (arith, factors_count, long)

    empty : (m : ℕ) → get_or column m (pos 0) ≡ pos 0
    empty m = ap (λ l. get_or l m (pos 0)) cleared ∙ zeros_empty (length column) m

    pub weighs : Weighed values (plan_at nat_of 32 placed 0) 0 (pos 1) column
    weighs =
        subst (λ z. Weighed values z 0 (pos 1) column) (sym found_is)
        (weighed (table_of h f factors bounds values) w.accepted.passed.table filled_in_form y 0 (nat_abs f) short w.accepted.passed.meets (step.formed w).fields column empty longer)

    module _ {paid : List ℤ} (d : Added column paid (pos 1) (pays (flat values) (sign_of p q) (plan_at nat_of 32 placed 0) 0)) where
      pub column_pays : (m : ℕ) → m ≤ nat_abs f → get_or paid m (pos 0) ≡ pays (lookup_of (table_of h f factors bounds values)) (sign_of p q) y 0 m
      column_pays m l =
          column_is (table_of h f factors bounds values) w.accepted.passed.table filled_in_form y 0 (nat_abs f) short w.accepted.passed.meets (step.formed w).fields column empty longer (sign_of p q)
          (subst (λ z. Added column paid (pos 1) (pays (flat values) (sign_of p q) z 0)) found_is d) m (omega (arith, longer))

      pub sums : SumsFit factors paid (suc (nat_abs f))
      sums = sums_fit c opening p q paid column_pays

      -- ---- the answer
      module _ (rest : List ℤ) (r : (m : ℕ) → m < suc (nat_abs f) → get_or rest m (pos 0) ≡ rest_from factors paid (suc (nat_abs f)) m)
          (head : List ℤ) (eh : slot head 0 ≡ pos (length_of y)) (em : slot head 1 ≡ pos (magnitude_of (bound_at (table_of h f factors bounds values)) y)) where
        all_lines : month_lines (sheet_of g p q) x y 0 (nat_abs f + 1) ≡ got (months_text paid rest 0 (suc (nat_abs f)))
        all_lines =
            let e : nat_abs f + 1 ≡ suc (nat_abs f) = omega arith in
            ap (month_lines (sheet_of g p q) x y 0) e
            ∙ month_lines_lem (sheet_of g p q) x y paid rest (nat_abs f) column_pays
            (λ m l. cut_now c opening p q paid column_pays m l w.accepted.asked ∙ ap got (sym (r m (omega arith)))) (suc (nat_abs f)) 0 (omega arith)

        text_is : head_text head ++ months_text paid rest 0 (suc (nat_abs f)) ≡ printed (answer_of g p q x)
        unfolding answer_of
        text_is =
            ap (λ t. t ++ months_text paid rest 0 (suc (nat_abs f))) (head_line (length_of y) (magnitude_of (bound_at (table_of h f factors bounds values)) y) head eh em)
            ∙ rw (w.accepted.filled, all_lines) refl

        pub answer_is : (out : List ℕ) → answer_call head paid rest (suc (nat_abs f)) out ≡ answer_into g p q x out
        unfolding answer_call answer_into
        answer_is out = ap (λ t. into_buffer out (got (record { value = tt; text = t }))) text_is

  -- ---- length and magnitude, as the code has them
  module _ (plan : Accepted) (ok : Bool) (e : checking_answer (Ok plan) ≡ accepting g (pos 0) ok x) (eo : ok ≡ pair_ok p q) where
    measured : checking_answer (Ok plan) ≡ got (checked_of (table_of h f factors bounds values) y)
    measured = e ∙ ap (λ b. accepting g (pos 0) b x) eo ∙ rw w.accepted.filled refl

    pub length_is : nat_abs plan.length.0 ≡ length_of y
    unfolding checking_answer
    length_is = by measured
      where
        by : {a b : Checked} → ◌≡◌ {A = Answer Checked} (got a) (got b) → a.length ≡ b.length
        by {a} {b} e = let z : a ≡ b = cc in ap (λ r. r.length) z

    pub magnitude_is : nat_abs plan.magnitude.0 ≡ magnitude_of (bound_at (table_of h f factors bounds values)) y
    unfolding checking_answer
    magnitude_is = by measured
      where
        by : {a b : Checked} → ◌≡◌ {A = Answer Checked} (got a) (got b) → a.magnitude ≡ b.magnitude
        by {a} {b} e = let z : a ≡ b = cc in ap (λ r. r.magnitude) z

    pub length_small : nat_abs plan.length.0 ≤ 600
    length_small = omega (arith, length_is, w.accepted.passed.meets.length, short)

    pub magnitude_small : nat_abs plan.magnitude.0 ≤ max_amount
    magnitude_small = omega (arith, magnitude_is, top_plan (λ z. magnitude_of (bound_at (table_of h f factors bounds values)) z ≤ max_amount) (λ a. magnitude_of_amount (bound_at (table_of h f factors bounds values)) a ≤ max_amount) y w.accepted.passed.meets.small)
