-- What the step of an accepted plan pays today and writes, from the table in which its index readings are resolved.
use Prim.Native.Nat.{◌*◌, ◌+◌, ◌<◌, ◌≤◌, ℕ}
use lib.IntN.{nat_abs, pos, ℤ}
use lib.ListN.{drop, length}
use mathlib.Core.Bool.{Bool, ◌&&◌, not, true}
use mathlib.Core.List.{List}
use mathlib.Core.Path.{◌∙◌, ◌≡◌, ap, ap₂, refl, subst, sym}
use native.Mathlib.Nat.{le_trans, zero-add}
use native.Mathlib.Omega.{arith}
use Rattle.amounts.specs.Fine.{MonthIn}
use Rattle.amounts.specs.Flat.{flat}
use Rattle.amounts.specs.Placed.{place_in, placed_plan}
use Rattle.copies.proofs.PlainWritten.{plain_written}
use Rattle.copies.specs.Appended.{Appended}
use Rattle.copies.specs.Plain.{plain_rows}
use Rattle.integers.specs.declared.Month.{Month}
use Rattle.integers.specs.declared.Pence.{Pence}
use Rattle.language.proofs.OneText.{texts}
use Rattle.language.proofs.Rules.Tables.{bound_small, rules_of, value_bounded}
use Rattle.language.proofs.Text.Form.{formed_map, formed_step}
use Rattle.language.proofs.Truth.{and_e}
use Rattle.language.specs.Answer.{got, refused}
use Rattle.language.specs.Calls.{accept_plan, into_buffer, lookup_of, pair_ok, sign_of}
use Rattle.language.specs.Limits.{max_amount, max_months, max_nodes, plan_bytes}
use Rattle.language.specs.Payments.Pays.{pays}
use Rattle.language.specs.Payments.Step.{step}
use Rattle.language.specs.Rules.Accepted.{reads_of}
use Rattle.language.specs.Rules.Settings.{closed, fill}
use Rattle.language.specs.Rules.Table.{Table, setting_at, value_at}
use Rattle.language.specs.Text.Form.{Formed, delay_in_form, filled_in_form}
use Rattle.language.specs.Text.Letters.{plan_form}
use Rattle.language.specs.Text.Number.{print_nat}
use Rattle.language.specs.Text.Plans.{plan_trees, print_plan}
use Rattle.language.specs.Text.Reader.{end}
use Rattle.language.specs.Text.Trees.{Delay, Plan, months}
use Rattle.nodes.proofs.AmountsFound.{Finds}
use Rattle.nodes.proofs.Counts.{plan_rows}
use Rattle.nodes.proofs.Signed.{nat_of_known}
use Rattle.nodes.specs.Found.{plan_at}
use Rattle.nodes.specs.Pass.{all_rows, map_rows}
use Rattle.nodes.specs.Rows.{count_of}
use Rattle.nodes.specs.Stands.{PlanStands}
use Rattle.nodes.specs.Table.{RowIn, nat_of}
use Rattle.payments.proofs.Admitted.{Admitted, admitted, refusing}
use Rattle.payments.proofs.WaitReady.{not_true, root_test, waits_on}
use Rattle.payments.proofs.Waiting.{WaitsOn}
use Rattle.payments.specs.Answers.{stepped_by, stepping_answer}
use Rattle.payments.specs.Waits.{RootTest, waits_at_root, sooner, wait_call}
use Rattle.pays.proofs.Asked.{pair_in, today_in}
use Rattle.pays.proofs.FinePlans.{accepted_fine}
use Rattle.pays.proofs.PlacedPays.{flat_pays}
use Rattle.pays.specs.FinePlan.{FinePlan}
use Rattle.pays.specs.Parties.{PairIn}
use Rattle.places.proofs.PassFound.{pass_found, pass_in, pass_rows, table_span}
use Rattle.places.proofs.PlacedForm.{placed_closed}
use Rattle.places.proofs.PlanPlaces.{count_placed}
use Rattle.places.specs.Place.{SpanIn, place_found, placed_row, row_in}
use Rattle.rules.proofs.Filling.{fill_formed, whole}
use Rattle.rules.specs.Accepting.{AcceptIs, accepting}
use Rattle.rules.specs.Answers.{checking_answer}
use Rattle.rules.specs.Standing.{Standing}
use Rattle.steps.proofs.StepReady.{early, row_in_lem}
use Rattle.steps.specs.Ready.{Ready}
use Rattle.tables.proofs.Spans.{span_holds}
use Rattle.tables.specs.Given.{given_of, table_of}
use Rattle.tables.specs.Lookup.{read_table}
use Rattle.text.proofs.SettingBytes.{none_open}
use Rattle.text.specs.Opens.{opens}
use Rattle.text.specs.Refusals.{number_of}
use Rattle.text.specs.declared.Refusal.TheVariants.{NoRoom}
use Rattle.text.specs.declared.Refusal.{Refusal}
use Rattle.writer.proofs.Plans.{plan_says}
use Rattle.writer.proofs.Values.{answer_with, into_answer, into_buffer_lem}
use Rattle.writer.specs.Answers.{write_call, written_answer}
use Rattle.writer.specs.Written.{slot, written}
use Rattle.std.specs.Prelude.{Err, Ok, Result}
use Rattle.rules.specs.declared.Accepted.{Accepted}
use Rattle.writer.specs.declared.NoRoom as no_room

-- a plan that stood in the table was accepted, and stands there filled
pub record Placing (days : List ℤ) (h f : ℤ) (factors bounds values : List ℤ) (today p q : ℤ) (x : Plan Delay) (count : ℕ) (before after : List ℤ) : Type 0 where
  pub stood : Standing before count x
  pub accepted : Admitted (given_of days h f factors bounds values) today (pair_ok p q) x
  pub filled : Standing after count (closed (fill (setting_at days) x))

pub placing : {days : List ℤ} {h f : ℤ} {factors bounds values : List ℤ} {today : ℤ} (p q : ℤ) {x : Plan Delay} {count : ℕ} {before after : List ℤ} {asked : Bool} {r : Result Accepted Refusal} {plan : Accepted}
    → AcceptIs (given_of days h f factors bounds values) today asked count before after r → asked ≡ pair_ok p q → r ≡ Ok plan → Standing before count x → Placing days h f factors bounds values today p q x count before after
placing {days} {h} {f} {factors} {bounds} {values} {today} p q {x} {plan = plan} k ea e s =
    let g = given_of days h f factors bounds values in
    record { stood = s; accepted = admitted g today x (pair_ok p q) plan (ap checking_answer (sym e) ∙ k.answer x s ∙ ap (λ b. accepting g today b x) ea); filled = k.filled plan e x s }

module _ {days : List ℤ} {h f : ℤ} {factors bounds values : List ℤ} {today p q : ℤ} {x : Plan Delay} {count : ℕ} {before after : List ℤ} (w : Placing days h f factors bounds values today p q x count before after) where
  abbrev a : Admitted (given_of days h f factors bounds values) today (pair_ok p q) x
  a = w.accepted

  abbrev st : Standing after count (closed (fill (setting_at days) x))
  st = w.filled

  abbrev t : Table
  t = table_of h f factors bounds values

  abbrev y : Plan ℕ
  y = fill (setting_at days) x

  pub formed : Formed filled_in_form y
  formed = fill_formed w.stood days a.passed.settings

  -- ---- what placing, paying and stepping ask
  pub span_in : SpanIn h f
  span_in = table_span t a.passed.table

  pub rows_in : all_rows row_in count after ≡ true
  rows_in = ap (λ n. all_rows row_in n after) st.counted ∙ pass_in y formed (drop (5 * count) after) after (whole st)

  pub today_is : MonthIn today
  today_is = today_in t a.passed.table today a.passed.month

  pub pair_is : PairIn p q
  pair_is = pair_in p q a.asked

  same_today : nat_abs today ≡ nat_of today
  same_today = nat_of_known today today_is.known

  -- ---- the placed table
  module _ (placed : List ℤ) (e : placed ≡ map_rows (placed_row h f) count after) where
    passed_over : placed ≡ map_rows (placed_row h f) (count_of (plan_trees (closed y) end)) after
    passed_over = e ∙ ap (λ n. map_rows (placed_row h f) n after) st.counted

    pub found : Finds (plan_at nat_of 32 placed 0) (placed_plan (place_in t) y) (PlanStands 32 placed 0)
    found = pass_found y formed (drop (5 * count) after) after (whole st) h f placed passed_over

    pub stands : PlanStands 32 placed 0
    stands = found.safe

    pub fine : FinePlan values (sign_of p q) (plan_at nat_of 32 placed 0) (nat_of today) (nat_of today)
    fine =
        subst (λ z. FinePlan values (sign_of p q) z (nat_of today) (nat_of today)) (sym found.is)
        (subst (λ r. FinePlan values (sign_of p q) (placed_plan (place_in t) y) r (nat_of today)) same_today
        (accepted_fine t a.passed.table (nat_abs p) (nat_abs q) (nat_abs f) (span_holds h f factors bounds values a.passed.table).1.small filled_in_form y (nat_abs today) (nat_of today) a.passed.meets formed.fields))

    placed_count : count ≡ count_of (plan_trees (closed (placed_plan (place_found h f) y)) end)
    placed_count = st.counted ∙ sym (ap (λ z. count_of (plan_trees z end)) (sym (placed_closed (place_found h f) y)) ∙ count_placed h f (closed y))

    few : count ≤ max_nodes
    few = omega (arith, st.counted, plan_rows (closed y) st.formed)

    pub ready : Ready h f bounds values (nat_of today) placed 0 count 32
    ready = record {
      factors = factors;
      ok = a.passed.table;
      plan = y;
      steps = record {
        lies = record { rest = drop (5 * count) after; is = pass_rows y formed (drop (5 * count) after) after (whole st) h f placed passed_over; ends = placed_count ∙ sym (zero-add (count_of (plan_trees (closed (placed_plan (place_found h f) y)) end))); room = few };
        fields = formed.fields;
        reads = subst (reads_of _ y) same_today a.passed.meets.reads;
        small = a.passed.meets.small;
        depth = formed.depth;
        deep = omega arith;
      };
    }

  -- ---- the answer
  abbrev pays_today : ℤ
  pays_today = pays (lookup_of t) (sign_of p q) y (nat_abs today) (nat_abs today)

  abbrev tomorrow : Plan ℕ
  tomorrow = step (lookup_of t) (nat_abs today) y

  abbrev text_of : List ℕ
  text_of = print_plan (closed tomorrow)

  by_rules : stepped_by (given_of days h f factors bounds values) today p q x ≡ got (record { value = pays_today; text = text_of })
  by_rules = rw a.filled refl

  tomorrow_formed : Formed delay_in_form (closed tomorrow)
  tomorrow_formed =
      let limited : (l : ℕ) (m : ℤ) → nat_abs (value_at t l m) ≤ max_amount = λ l m. le_trans (value_bounded t (rules_of t a.passed.table) l m) (bound_small t (rules_of t a.passed.table) l) in
      formed_map months filled_in_form delay_in_form (λ d g. g) tomorrow (formed_step (lookup_of t) (nat_abs today) limited y formed)

  -- the values do not depend on the factors
  same_step : step (lookup_of (read_table h f bounds values)) (nat_of today) y ≡ tomorrow
  unfolding value_at
  same_step = ap (λ r. step (lookup_of t) r y) (sym same_today)

  same_pays : pays (lookup_of (read_table h f bounds values)) (sign_of p q) y (nat_of today) (nat_of today) ≡ pays_today
  unfolding value_at
  same_pays = ap (λ r. pays (lookup_of t) (sign_of p q) y r r) (sym same_today)

  pub pence_are : (placed : List ℤ) → placed ≡ map_rows (placed_row h f) count after → {v : ℤ} → v ≡ pays (flat values) (sign_of p q) (plan_at nat_of 32 placed 0) (nat_of today) (nat_of today) → v ≡ pays_today
  pence_are placed e k =
      k ∙ ap (λ z. pays (flat values) (sign_of p q) z (nat_of today) (nat_of today)) (found placed e).is
      ∙ ap₂ (λ i j. pays (flat values) (sign_of p q) (placed_plan (place_in t) y) i j) (sym same_today) (sym same_today)
      ∙ flat_pays t a.passed.table (sign_of p q) (nat_abs today) y (nat_abs today) a.passed.meets.reads

  module _ (placed : List ℤ) (e : placed ≡ map_rows (placed_row h f) count after) (table out : List ℤ) (n : ℕ)
      (k : (z : Ready h f bounds values (nat_of today) placed 0 count 32) → Appended table out 0 n (plain_rows plan_form (plan_trees (closed (step (lookup_of (read_table h f bounds values)) (nat_of today) z.plan)) end))) where
    text_is : written n out ≡ text_of
    unfolding print_plan ready
    text_is = plain_written plan_form (plan_trees (closed tomorrow) end) (subst (λ z. Appended table out 0 n (plain_rows plan_form (plan_trees (closed z) end))) same_step (k (ready placed e))) (plan_says (closed tomorrow) tomorrow_formed.fields)

    pub text_short : length (written n out) ≤ plan_bytes
    text_short = omega (arith, ap length text_is, texts.plans.short (closed tomorrow) tomorrow_formed)

    module _ (buffer : List ℕ) where
      pub buffer_is : {bytes : List ℕ} → bytes ≡ (write_call n out buffer).buffer → bytes ≡ (into_buffer buffer (stepped_by (given_of days h f factors bounds values) today p q x)).buffer
      buffer_is {bytes} d = into_buffer_lem pays_today buffer text_of n out text_is bytes d ∙ ap (λ o. (into_buffer buffer o).buffer) (sym by_rules)

      pub answer_is : {v : ℤ} → v ≡ pays_today → (r : Result ℕ no_room.NoRoom) → written_answer r ≡ (write_call n out buffer).answer → answer_with v r ≡ (into_buffer buffer (stepped_by (given_of days h f factors bounds values) today p q x)).answer
      answer_is paid r d = ap (λ u. answer_with u r) paid ∙ into_answer pays_today buffer text_of n out text_is r d ∙ ap (λ o. (into_buffer buffer o).answer) (sym by_rules)

  -- ---- a root that goes on waiting
  module _ (placed : List ℤ) (e : placed ≡ map_rows (placed_row h f) count after) where
    early_is : nat_of today ≤ max_months
    early_is = early today_is

    pub root_row : RowIn placed 0
    root_row = row_in_lem (ready placed e)

    pub test_fine : RootTest values (nat_of today) placed
    test_fine = root_test (ready placed e) early_is

    module _ (text : List ℕ) (one : text ≡ print_plan x) (k : waits_at_root values (nat_of today) placed && not (opens text) ≡ true) where
      abbrev delay : ℕ
      delay = nat_abs (slot placed 1)

      on : WaitsOn (lookup_of (read_table h f bounds values)) (sign_of p q) (nat_of today) y delay
      unfolding ready
      on = waits_on (ready placed e) early_is (sign_of p q) (and_e (waits_at_root values (nat_of today) placed) (not (opens text)) k).0

      -- no setting was filled
      same_text : text ≡ print_plan (closed y)
      same_text = one ∙ ap print_plan (sym (none_open (setting_at days) x (ap opens (sym one) ∙ not_true (opens text) (and_e (waits_at_root values (nat_of today) placed) (not (opens text)) k).1)))

      pub delay_left : 0 < delay
      delay_left = on.left

      pub text_long : 2 + length (print_nat delay) ≤ length text
      text_long = subst (λ s. 2 + length (print_nat delay) ≤ length s) (sym same_text) on.long

      pub text_in : length text ≤ plan_bytes
      text_in = subst (λ s. length s ≤ plan_bytes) (sym one) (texts.plans.short x w.stood.formed)

      tomorrow_text : text_of ≡ sooner delay text
      tomorrow_text = ap (λ z. print_plan (closed z)) (sym same_step) ∙ on.text ∙ ap (sooner delay) (sym same_text)

      none_paid : pays_today ≡ pos 0
      none_paid = sym same_pays ∙ on.paid

      pub wait_is : (buffer : List ℕ) {d : ℕ} → d ≡ delay → wait_call d text buffer ≡ into_buffer buffer (stepped_by (given_of days h f factors bounds values) today p q x)
      unfolding wait_call
      wait_is buffer {d} ed =
          ap (λ n. into_buffer buffer (got (record { value = pos 0; text = sooner n text }))) ed
          ∙ ap₂ (λ v s. into_buffer buffer (got (record { value = v; text = s }))) (sym none_paid) (sym tomorrow_text)
          ∙ ap (into_buffer buffer) (sym by_rules)

-- ---- the answers of the code

pub with_bytes : (v : Pence) (n : ℕ) → stepping_answer (Ok (record { pence = v; bytes = n })) ≡ answer_with v.0 (Ok n)
unfolding stepping_answer answer_with
with_bytes v n = refl

pub without_room : (v : Pence) → stepping_answer (Err NoRoom) ≡ answer_with v.0 (Err _)
unfolding stepping_answer answer_with
without_room v = refl

-- a plan that was refused leaves the buffer as it was
module _ {days : List ℤ} {h f : ℤ} {factors bounds values : List ℤ} {today : ℤ} (p q : ℤ) {x : Plan Delay} {count : ℕ} {before after : List ℤ} {asked : Bool} {r : Result Accepted Refusal} {k : Refusal}
    (c : AcceptIs (given_of days h f factors bounds values) today asked count before after r) (ea : asked ≡ pair_ok p q) (er : r ≡ Err k) (s : Standing before count x) (buffer : List ℕ) where
  refused_is : accept_plan (given_of days h f factors bounds values) today (pair_ok p q) x ≡ refused (number_of k)
  refused_is =
      let g = given_of days h f factors bounds values in
      refusing g today x (pair_ok p q) k (ap checking_answer (sym er) ∙ c.answer x s ∙ ap (λ b. accepting g today b x) ea)

  pub refusal_keeps : buffer ≡ (into_buffer buffer (stepped_by (given_of days h f factors bounds values) today p q x)).buffer
  unfolding into_buffer
  refusal_keeps = rw refused_is refl

  pub refusal_is : stepping_answer (Err k) ≡ (into_buffer buffer (stepped_by (given_of days h f factors bounds values) today p q x)).answer
  unfolding into_buffer stepping_answer
  refusal_is = rw refused_is refl
