-- What an accepted plan pays, from the table in which its index readings are resolved.
use Prim.Native.Nat.{◌*◌, ℕ}
use lib.IntN.{nat_abs, ℤ}
use lib.ListN.{drop}
use mathlib.Core.Bool.{true}
use mathlib.Core.List.{List}
use mathlib.Core.Path.{◌∙◌, ◌≡◌, ap, ap₂, refl, subst, sym}
use Rattle.amounts.specs.Fine.{MonthIn}
use Rattle.amounts.specs.Flat.{flat}
use Rattle.amounts.specs.Placed.{place_in, placed_plan}
use Rattle.integers.specs.declared.Pence.{Pence}
use Rattle.language.proofs.Truth.{and_e}
use Rattle.language.specs.Answer.{got, refused}
use Rattle.language.specs.Calls.{Given, accept_plan, pair_ok, sign_of}
use Rattle.language.specs.Payments.Pays.{pays}
use Rattle.language.specs.Rules.Settings.{closed, fill}
use Rattle.language.specs.Rules.Table.{Table, setting_at}
use Rattle.language.specs.Text.Form.{Formed, filled_in_form}
use Rattle.language.specs.Text.Number.{between}
use Rattle.language.specs.Text.Trees.{Delay, Plan}
use Rattle.nodes.proofs.AmountsFound.{Finds}
use Rattle.nodes.proofs.Signed.{nat_of_known}
use Rattle.nodes.specs.Found.{plan_at}
use Rattle.nodes.specs.Pass.{all_rows, map_rows}
use Rattle.nodes.specs.Stands.{PlanStands}
use Rattle.nodes.specs.Table.{nat_of}
use Rattle.payments.proofs.Admitted.{Admitted}
use Rattle.payments.specs.Answers.{asked_ok, paid_by, paying_answer}
use Rattle.pays.proofs.Asked.{asked_in, pair_in, today_in}
use Rattle.pays.proofs.FinePlans.{accepted_fine}
use Rattle.pays.proofs.PlacedPays.{flat_pays}
use Rattle.pays.specs.FinePlan.{FinePlan}
use Rattle.pays.specs.Parties.{PairIn}
use Rattle.places.proofs.PassFound.{pass_found, pass_in, table_span}
use Rattle.places.specs.Place.{SpanIn, placed_row, row_in}
use Rattle.rules.proofs.Filling.{fill_formed, whole}
use Rattle.rules.specs.Standing.{Standing}
use Rattle.tables.proofs.Spans.{span_holds}
use Rattle.tables.specs.Given.{given_of, table_of}
use Rattle.text.specs.Refusals.{number_of}
use Rattle.text.specs.declared.Refusal.{Refusal}
use Rattle.std.specs.Prelude.{Err, Ok}

module _ (days : List ℤ) (h f : ℤ) (factors bounds values : List ℤ) (today p q month : ℤ) (x : Plan Delay) (count : ℕ) (before after : List ℤ)
    (s : Standing before count x) (a : Admitted (given_of days h f factors bounds values) today (asked_ok (given_of days h f factors bounds values) today p q month) x)
    (st : Standing after count (closed (fill (setting_at days) x))) where
  abbrev t : Table
  t = table_of h f factors bounds values

  abbrev y : Plan ℕ
  y = fill (setting_at days) x

  formed : Formed filled_in_form y
  formed = fill_formed s days a.passed.settings

  -- ---- what placing and paying ask
  pub span_in : SpanIn h f
  span_in = table_span t a.passed.table

  pub rows_in : all_rows row_in count after ≡ true
  rows_in = ap (λ n. all_rows row_in n after) st.counted ∙ pass_in y formed (drop (5 * count) after) after (whole st)

  pub today_is : MonthIn today
  today_is = today_in t a.passed.table today a.passed.month

  pub month_is : MonthIn month
  month_is = asked_in t a.passed.table today month a.passed.month (and_e (pair_ok p q) (between today f month) a.asked).1

  pub pair_is : PairIn p q
  pair_is = pair_in p q (and_e (pair_ok p q) (between today f month) a.asked).0

  -- ---- the placed table
  module _ (placed : List ℤ) (e : placed ≡ map_rows (placed_row h f) count after) where
    pub found : Finds (plan_at nat_of 32 placed 0) (placed_plan (place_in t) y) (PlanStands 32 placed 0)
    found = pass_found y formed (drop (5 * count) after) after (whole st) h f placed (e ∙ ap (λ n. map_rows (placed_row h f) n after) st.counted)

    pub fine : FinePlan values (sign_of p q) (plan_at nat_of 32 placed 0) (nat_of today) (nat_of month)
    fine =
        subst (λ z. FinePlan values (sign_of p q) z (nat_of today) (nat_of month)) (sym found.is)
        (subst (λ r. FinePlan values (sign_of p q) (placed_plan (place_in t) y) r (nat_of month)) (nat_of_known today today_is.known)
        (accepted_fine t a.passed.table (nat_abs p) (nat_abs q) (nat_abs f) (span_holds h f factors bounds values a.passed.table).1.small filled_in_form y (nat_abs today) (nat_of month) a.passed.meets formed.fields))

    pub pays_is : (r : Pence) → r.0 ≡ pays (flat values) (sign_of p q) (plan_at nat_of 32 placed 0) (nat_of today) (nat_of month) → paying_answer (Ok r) ≡ paid_by (given_of days h f factors bounds values) today p q month x
    unfolding paying_answer
    pays_is r k =
        ap got
        (k ∙ ap (λ z. pays (flat values) (sign_of p q) z (nat_of today) (nat_of month)) found.is
        ∙ ap₂ (λ i j. pays (flat values) (sign_of p q) (placed_plan (place_in t) y) i j) (sym (nat_of_known today today_is.known)) (sym (nat_of_known month month_is.known))
        ∙ flat_pays t a.passed.table (sign_of p q) (nat_abs month) y (nat_abs today) a.passed.meets.reads)
        ∙ rw a.filled refl

-- a plan that was refused pays nothing but its refusal
pub refused_is : (g : Given) (today p q month : ℤ) (x : Plan Delay) (k : Refusal) → accept_plan g today (asked_ok g today p q month) x ≡ refused (number_of k) → paying_answer (Err k) ≡ paid_by g today p q month x
unfolding paying_answer
refused_is g today p q month x k e = rw e refl
