-- Demand 2, the statement on texts: every plan has one text, which reads back to the same plan; and so for payoffs.
use Rattle.std.specs.Prelude.{◌≤◌, ℕ, length, List, ◌≡◌}
use Rattle.language.specs.Answer.{Answer, got}
use Rattle.language.specs.Limits.{payoff_bytes, plan_bytes}
use Rattle.language.specs.Payoff.Compile.{compiled_plan, cut_payoff}
use Rattle.language.specs.Text.Form.{Formed, delay_in_form}
use Rattle.language.specs.Text.PayoffForm.{FormedPayoff}
use Rattle.language.specs.Text.Plans.{print_payoff, print_plan, read_payoff, read_plan}
use Rattle.language.specs.Text.Trees.{Delay, Plan, start}

-- of things that keep a form, printed within so many bytes
pub record OneText {A : Type 0} (InForm : A → Type 0) (bytes : ℕ) (print : A → List ℕ) (read : List ℕ → Answer A) : Type 0 where
  -- "Any plan of 512 nodes fits."
  pub short : (x : A) → InForm x → length (print x) ≤ bytes
  -- what is printed reads back to the same thing
  pub back : (x : A) → InForm x → read (print x) ≡ got x
  -- what is read keeps the form, and was its printed text, byte for byte
  pub only : (text : List ℕ) (x : A) → read text ≡ got x → InForm x × (print x ≡ text)

pub record Texts : Type 0 where
  pub plans : OneText (Formed delay_in_form) plan_bytes print_plan read_plan
  pub payoffs : OneText FormedPayoff payoff_bytes print_payoff read_payoff
  -- a compiled payoff keeps the payoff form, and so does a cut one
  pub compiled : (x : Plan Delay) → Formed delay_in_form x → FormedPayoff (compiled_plan start x)
  pub cut_too : (x : Plan Delay) → Formed delay_in_form x → FormedPayoff (cut_payoff (compiled_plan start x))
