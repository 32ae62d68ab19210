-- The call on a text: what the plan that was read pays, or the text's refusal.
use Prim.Native.Nat.{ℕ}
use lib.IntN.{ℤ}
use mathlib.Core.List.{List}
use mathlib.Core.Path.{◌∙◌, ◌≡◌, refl}
use Rattle.language.proofs.Text.Plans.{plan_trees_lem}
use Rattle.language.specs.Answer.{refused}
use Rattle.language.specs.Calls.{Given, payment_call}
use Rattle.language.specs.Text.Letters.{plan_form}
use Rattle.language.specs.Text.Plans.{read_plan}
use Rattle.language.specs.Text.Reader.{text_as_read}
use Rattle.language.specs.Text.Trees.{Delay, Plan}
use Rattle.payments.specs.Answers.{paid_by, paying_answer}
use Rattle.rules.proofs.Checks.{read_standing}
use Rattle.rules.specs.Standing.{Standing}
use Rattle.text.specs.ReadInto as read
use Rattle.text.specs.Refusals.{number_of}
use Rattle.text.specs.declared.Refusal.{Refusal}
use Rattle.std.specs.Prelude.{Err, Result}
use Rattle.integers.specs.declared.Pence.{Pence}

module _ (text : List ℕ) (g : Given) (today p q month : ℤ) where
  pub payment_is : (nodes : List ℤ) (n : ℕ) → read.Stands plan_form (text_as_read plan_form text) nodes n → (r : Result Pence Refusal) → ((x : Plan Delay) → Standing nodes n x → paying_answer r ≡ paid_by g today p q month x) → paying_answer r ≡ payment_call text g today p q month
  unfolding payment_call
  payment_is nodes n s r h = h (plan_trees_lem text s.tree s.is).plan (read_standing text nodes n s) ∙ rw (plan_trees_lem text s.tree s.is).is refl

  pub payment_refused : (k : Refusal) → text_as_read plan_form text ≡ refused (number_of k) → paying_answer (Err k) ≡ payment_call text g today p q month
  unfolding payment_call read_plan paying_answer
  payment_refused k e = rw e refl
