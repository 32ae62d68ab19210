-- Accepting a plan that stands in the table, step by step in document 01's order.
use Prim.Native.Nat.{◌+◌, ◌≤◌, ℕ}
use borrow.Author.Tests.{leb-true}
use lib.Dec.{T, leb}
use lib.IntN.{nat_abs, negsuc, pos, ℤ}
use lib.Signed.{non_neg}
use mathlib.Core.Bool.{Bool, ◌&&◌, false, true}
use mathlib.Core.List.{List, []}
use mathlib.Core.Path.{◌∙◌, ◌≡◌, ap, refl, sym}
use native.Mathlib.Omega.{arith}
use Rattle.integers.specs.declared.Month.{Month}
use Rattle.integers.specs.declared.Pence.{Pence}
use Rattle.language.proofs.Truth.{truth}
use Rattle.language.specs.Answer.{◌>>=◌, ◌>>◌, got, require}
use Rattle.language.specs.Calls.{Given, accept_plan, meets_rules}
use Rattle.language.specs.Limits.{max_back, max_months}
use Rattle.language.specs.Rules.Settings.{all_are_set, closed, fill}
use Rattle.language.specs.Rules.Table.{bound_at, is_month, setting_at, are_settings, is_table}
use Rattle.language.specs.Rules.Tests.{known_in_time, plan_reads, plan_small}
use Rattle.language.specs.Rules.Measures.{length_of}
use Rattle.language.specs.Text.Number.{between}
use Rattle.language.specs.Text.Trees.{Delay, Plan}
use Rattle.measures.proofs.SameReads.{same_plan}
use Rattle.measures.specs.Magnitudes.{InBounds}
use Rattle.measures.specs.Ready.{PlanReady}
use Rattle.nodes.specs.Found.{plan_at}
use Rattle.nodes.specs.Table.{nat_of}
use Rattle.rules.proofs.Filling.{closed_set, fill_formed, set_is, stands_closed, stands_filled, walked}
use Rattle.rules.specs.Accepting.{AcceptIs, accepting}
use Rattle.rules.specs.Answers.{Natural, checking_answer}
use Rattle.rules.specs.Measured.{InTable, checked_of, measured_by}
use Rattle.rules.specs.Quick.{QuickIs}
use Rattle.rules.specs.Standing.{Standing, Stands}
use Rattle.tables.proofs.Spans.{UpTo, bounds_hold, both_true, span_holds}
use Rattle.tables.specs.Fill.{FillIs}
use Rattle.tables.specs.Given.{given_of, table_of}
use Rattle.text.specs.declared.Refusal.{Refusal}
use Rattle.text.specs.declared.Refusal.TheVariants.{Caller, Settings, Table}
use Rattle.std.specs.Prelude.{Err, Ok, Result, Some}
use Rattle.rules.specs.declared.Accepted.{Accepted}

-- a month of the table is not below zero
in-months : (f m : ℤ) → between (pos 0) f m ≡ true → T (non_neg m) × (nat_of m ≡ nat_abs m)
in-months f (pos n) e = (tt, refl)
in-months f (negsuc n) e = absurd (truth false e)

to_f : (f m : ℤ) → UpTo max_months f → between (pos 0) f m ≡ true → nat_abs m ≤ max_months
to_f (pos n) (pos k) u e = omega (arith, u.small, leb-true k n (both_true (leb 0 k) (leb k n) e).1)
to_f (pos n) (negsuc k) u e = absurd (truth false e)
to_f (negsuc n) m u e = absurd u.natural

pub whole_month : (f today : ℤ) → between (pos 0) f today ≡ true → nat_of today ≡ nat_abs today
whole_month f today m = (in-months f today m).1

-- a month of a table, and bounds
pub in_span : {today h f : ℤ} {bounds : List ℤ} → UpTo max_back h × UpTo max_months f → between (pos 0) f today ≡ true → InBounds bounds → InTable today h f bounds
in_span {today} {h} {f} s m b = record {
  today_from = (in-months f today m).0;
  today_to = to_f f today s.1 m;
  h_from = s.0.natural;
  h_to = s.0.small;
  f_from = s.1.natural;
  f_to = s.1.small;
  bounded = b;
}

module _ (days : List ℤ) (h f : ℤ) (factors bounds values : List ℤ) (today : ℤ) (ok : Bool) (x : Plan Delay) where
  abbrev g : Given
  g = given_of days h f factors bounds values

  abbrev y : Plan ℕ
  y = fill (setting_at days) x

  pub no_table : is_table g.table ≡ false → checking_answer (Err Table) ≡ accepting g today ok x
  unfolding accept_plan checking_answer
  no_table e = rw e refl

  module _ (t : is_table g.table ≡ true) where
    pub no_caller : is_month g.table today && ok ≡ false → checking_answer (Err Caller) ≡ accepting g today ok x
    unfolding accept_plan checking_answer
    no_caller e = rw (t, e) refl

    module _ (m : is_month g.table today && ok ≡ true) where
      pub bad_settings : are_settings days ≡ false → checking_answer (Err Settings) ≡ accepting g today ok x
      unfolding accept_plan checking_answer
      bad_settings e = rw (t, m, e) refl

      pub unset : are_settings days ≡ true → all_are_set days x ≡ false → checking_answer (Err Settings) ≡ accepting g today ok x
      unfolding accept_plan checking_answer
      unset e s = rw (t, m, e, s) refl

      pub by_rules : are_settings days ≡ true → all_are_set days x ≡ true → nat_of today ≡ nat_abs today → measured_by h f bounds (nat_of today) y ≡ accepting g today ok x
      unfolding accept_plan meets_rules
      by_rules e s n =
          rw (n, t, m, e, s, same_plan (table_of h f [] bounds []) g.table refl refl refl y (nat_abs today) (nat_abs today))
          (regroup (leb (nat_abs today + length_of y) (nat_abs f)) (plan_reads g.table (nat_abs today) (nat_abs today) y) (known_in_time y) (plan_small (bound_at g.table) y))
        where
          regroup : (a b c d : Bool) → (require 10 a >> (require 11 b >> (require 7 c >> require 6 d))) >> got (checked_of g.table y) ≡ ((require 10 a >> (require 11 b >> (require 7 c >> require 6 d))) >> got y) >>= λ z. got (checked_of g.table z)
          regroup false b c d = refl
          regroup true false c d = refl
          regroup true true false d = refl
          regroup true true true false = refl
          regroup true true true true = refl

  pub in_table : is_table g.table ≡ true → is_month g.table today ≡ true → InTable today h f bounds
  in_table t m = in_span (span_holds h f factors bounds values t) m (record { within = truth _ (bounds_hold h f factors bounds values t) })

-- a refusal leaves nothing to be said of the table
never_both : {A : Type 0} (k : Refusal) {plan : Accepted} → ◌≡◌ {A = Result Accepted Refusal} (Err k) (Ok plan) → A
never_both k e = let z : ◌≡◌ {A = ℕ} 0 1 = cc in absurd (omega arith)

module _ (g : Given) (today : ℤ) (ok : Bool) (count : ℕ) (before after : List ℤ) where
  pub refused_is : (k : Refusal) → ((x : Plan Delay) → Standing before count x → checking_answer (Err k) ≡ accepting g today ok x) → AcceptIs g today ok count before after (Err k)
  refused_is k h = record { answer = h; filled = λ plan e x s. never_both k e; natural = tt }

-- the rules were gone through, and each plan stands filled in the table
module _ (days : List ℤ) (h f : ℤ) (factors bounds values : List ℤ) (today : ℤ) (ok : Bool) (count : ℕ) (before after : List ℤ)
    (t : is_table (table_of h f factors bounds values) ≡ true) (m : is_month (table_of h f factors bounds values) today && ok ≡ true) (e : are_settings days ≡ true) where
  accept_stands : ((x : Plan Delay) → Standing before count x → (all_are_set days x ≡ true) × Standing after count (closed (fill (setting_at days) x)))
      → {r : Result Accepted Refusal} → checking_answer r ≡ measured_by h f bounds (nat_of today) (plan_at nat_of 32 after 0) → Natural r → AcceptIs (given_of days h f factors bounds values) today ok count before after r
  accept_stands u a z = record {
    answer = λ x s.
        a ∙ ap (measured_by h f bounds (nat_of today)) (walked (fill (setting_at days) x) (u x s).1 (fill_formed s days e)).is
        ∙ by_rules days h f factors bounds values today ok x t m e (u x s).0 (in-months f today (both_true (is_month (table_of h f factors bounds values) today) ok m).0).1;
    filled = λ plan q x s. (u x s).1;
    natural = z;
  }

  -- the table was filled
  module _ (filled : FillIs days count before after (Ok _)) where
    pub measure_ready : (p : Stands before count) → PlanReady 32 after 0
    measure_ready p = (walked (fill (setting_at days) p.plan) (stands_filled p.standing days e filled.1) (fill_formed p.standing days e)).safe

    pub accept_is : {r : Result Accepted Refusal} → checking_answer r ≡ measured_by h f bounds (nat_of today) (plan_at nat_of 32 after 0) → Natural r → AcceptIs (given_of days h f factors bounds values) today ok count before after r
    accept_is = accept_stands (λ x s. (sym (set_is s days) ∙ filled.0, stands_filled s days e filled.1))

-- nothing was to be filled
module _ (days : List ℤ) (h f : ℤ) (factors bounds values : List ℤ) (today : ℤ) (ok : Bool) (count : ℕ) (nodes : List ℤ)
    (t : is_table (table_of h f factors bounds values) ≡ true) (m : is_month (table_of h f factors bounds values) today && ok ≡ true) (e : are_settings days ≡ true) where
  pub accept_kept : (plan : Accepted) → QuickIs h f bounds (nat_of today) nodes (Some plan) → AcceptIs (given_of days h f factors bounds values) today ok count nodes nodes (Ok plan)
  accept_kept plan k = accept_stands days h f factors bounds values today ok count nodes nodes t m e (λ x s. (closed_set s k.2 days, stands_closed s k.2 days)) k.0 k.1
