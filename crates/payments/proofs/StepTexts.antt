-- The call step on a text: the step of the plan that was read, or the text's refusal.
use Prim.Native.Nat.{ℕ}
use lib.IntN.{ℤ}
use mathlib.Core.List.{List}
use mathlib.Core.Path.{◌∙◌, ◌≡◌, ap, refl, sym}
use native.Mathlib.Omega.{arith}
use Rattle.language.proofs.OneText.{texts}
use Rattle.language.proofs.Text.Plans.{plan_trees_lem}
use Rattle.language.specs.Answer.{refused}
use Rattle.language.specs.Calls.{Given, into_buffer, step_call, step_text}
use Rattle.language.specs.Limits.{max_depth}
use Rattle.language.specs.Text.Letters.{plan_form}
use Rattle.language.specs.Text.Plans.{print_plan, read_plan}
use Rattle.language.specs.Text.Reader.{end, text_as_read}
use Rattle.language.specs.Text.Trees.{Delay, Plan}
use Rattle.nodes.proofs.PlansFound.{plan_found}
use Rattle.payments.specs.Answers.{stepped_by, stepping_answer}
use Rattle.rules.proofs.Checks.{read_standing}
use Rattle.rules.proofs.Filling.{laid}
use Rattle.rules.specs.Standing.{Standing}
use Rattle.text.specs.ReadInto as read
use Rattle.text.specs.Refusals.{number_of}
use Rattle.text.specs.declared.Refusal.{Refusal}
use Rattle.std.specs.Prelude.{Err}

-- one plan stands in a table
one_plan : {nodes : List ℤ} {n : ℕ} {x y : Plan Delay} → Standing nodes n x → Standing nodes n y → x ≡ y
one_plan {nodes} {n} {x} {y} s t =
    sym (plan_found nodes x end 0 max_depth (laid s) s.formed.fields s.formed.depth (omega arith)).is ∙ (plan_found nodes y end 0 max_depth (laid t) t.formed.fields t.formed.depth (omega arith)).is

-- its text is the text that was read
pub text_is : (text : List ℕ) (nodes : List ℤ) (n : ℕ) → read.Stands plan_form (text_as_read plan_form text) nodes n → (x : Plan Delay) → Standing nodes n x → text ≡ print_plan x
text_is text nodes n s x t =
    let p = plan_trees_lem text s.tree s.is in
    sym (texts.plans.only text p.plan p.is).1 ∙ ap print_plan (one_plan (read_standing text nodes n s) t)

module _ (text : List ℕ) (g : Given) (today p q : ℤ) (buffer : List ℕ) where
  -- the plan that was read stands in the table
  pub record PlanRead (nodes : List ℤ) (n : ℕ) : Type 0 where
    pub plan : Plan Delay
    pub stands : Standing nodes n plan
    pub is : into_buffer buffer (stepped_by g today p q plan) ≡ step_call text g today p q buffer

  pub plan_read : (nodes : List ℤ) (n : ℕ) → read.Stands plan_form (text_as_read plan_form text) nodes n → PlanRead nodes n
  unfolding step_call step_text
  plan_read nodes n s = record { plan = (plan_trees_lem text s.tree s.is).plan; stands = read_standing text nodes n s; is = rw (plan_trees_lem text s.tree s.is).is refl }

  module _ (k : Refusal) (e : text_as_read plan_form text ≡ refused (number_of k)) where
    pub text_keeps : buffer ≡ (step_call text g today p q buffer).buffer
    unfolding step_call step_text read_plan into_buffer
    text_keeps = rw e refl

    pub text_refusal : stepping_answer (Err k) ≡ (step_call text g today p q buffer).answer
    unfolding step_call step_text read_plan into_buffer stepping_answer
    text_refusal = rw e refl
