-- The call: a text that is read stands in the table, and checking it is accepting that plan.
use Prim.Native.Nat.{ℕ}
use lib.IntN.{ℤ}
use mathlib.Core.Bool.{true}
use mathlib.Core.List.{List}
use mathlib.Core.Path.{◌∙◌, ◌≡◌, ap, refl}
use Rattle.language.proofs.Text.Plans.{PlanRead, plan_trees_lem}
use Rattle.language.specs.Answer.{refused}
use Rattle.language.specs.Calls.{Given, check_call}
use Rattle.language.specs.Text.Letters.{plan_form}
use Rattle.language.specs.Text.Plans.{read_plan}
use Rattle.language.specs.Text.Reader.{text_as_read}
use Rattle.nodes.specs.Rows.{count_of, rows}
use Rattle.rules.specs.Accepting.{AcceptIs}
use Rattle.rules.specs.Answers.{Natural, checking_answer}
use Rattle.rules.specs.Standing.{Standing, Stands}
use Rattle.text.specs.ReadInto as read
use Rattle.text.specs.Refusals.{number_of}
use Rattle.text.specs.declared.Refusal.{Refusal}
use Rattle.std.specs.Prelude.{Err, Result}
use Rattle.rules.specs.declared.Accepted.{Accepted}

module _ (text : List ℕ) where
  module _ (nodes : List ℤ) (n : ℕ) (s : read.Stands plan_form (text_as_read plan_form text) nodes n) where
    abbrev plan : PlanRead text s.tree
    plan = plan_trees_lem text s.tree s.is

    pub read_standing : Standing nodes n plan.plan
    read_standing = record { formed = plan.formed; counted = s.count ∙ ap count_of plan.trees; lies = s.rows ∙ ap (rows plan_form) plan.trees }

    pub read_stands : Stands nodes n
    read_stands = record { plan = plan.plan; standing = read_standing }

    pub check_accepts : (g : Given) (today : ℤ) {after : List ℤ} {r : Result Accepted Refusal} → AcceptIs g today true n nodes after r → (checking_answer r ≡ check_call text g today) × Natural r
    unfolding check_call
    check_accepts g today h = (h.answer plan.plan read_standing ∙ rw plan.is refl, h.natural)

  pub check_refuses : (g : Given) (today : ℤ) (k : Refusal) → text_as_read plan_form text ≡ refused (number_of k) → (checking_answer (Err k) ≡ check_call text g today) × Natural (Err k)
  unfolding check_call read_plan checking_answer
  check_refuses g today k e = (rw e refl, tt)
