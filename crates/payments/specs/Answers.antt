-- What a call on payments answers, with document 01's numbers.
use Rattle.std.specs.Prelude.{nat_abs, ℤ, Bool, ◌&&◌, Err, Ok, Result}
use Rattle.language.specs.Answer.{Answer, ◌>>=◌, got, refused}
use Rattle.language.specs.Calls.{Given, Writes, Wrote, accept_plan, lookup_of, pair_ok, sign_of}
use Rattle.language.specs.Payments.Pays.{pays}
use Rattle.language.specs.Payments.Step.{step}
use Rattle.language.specs.Rules.Settings.{closed}
use Rattle.language.specs.Text.Number.{between}
use Rattle.language.specs.Text.Plans.{print_plan}
use Rattle.language.specs.Text.Trees.{Delay, Plan}
use Rattle.text.specs.Refusals.{number_of}
use Rattle.integers.specs.declared.Pence.{Pence}
use Rattle.payments.specs.declared.Stepping.{Stepping}
use Rattle.text.specs.declared.Refusal.{Refusal}

-- the pence, or the refusal's number
unfoldable pub paying_answer : Result Pence Refusal → Answer ℤ
paying_answer (Ok p) = got p.0
paying_answer (Err k) = refused (number_of k)

-- what `payment` asks of its caller beside today: two parties, and a month from today to f
abbrev pub asked_ok : Given → ℤ → ℤ → ℤ → ℤ → Bool
asked_ok g today p q month = pair_ok p q && between today g.table.f month

-- what a plan that was read pays
abbrev pub paid_by : Given → ℤ → ℤ → ℤ → ℤ → Plan Delay → Answer ℤ
paid_by g today p q month plan = accept_plan g today (asked_ok g today p q month) plan >>= λ x. got (pays (lookup_of g.table) (sign_of p q) x (nat_abs today) (nat_abs month))

-- ---- the month step

-- the pence and how many bytes were written, or the refusal's number
unfoldable pub stepping_answer : Result Stepping Refusal → Answer (Wrote ℤ)
stepping_answer (Ok it) = got (record { value = it.pence.0; count = it.bytes })
stepping_answer (Err k) = refused (number_of k)

-- what the step of a plan that was read pays today, and its text
abbrev pub stepped_by : Given → ℤ → ℤ → ℤ → Plan Delay → Answer (Writes ℤ)
stepped_by g today p q plan = accept_plan g today (pair_ok p q) plan >>= λ x. got (record { value = pays (lookup_of g.table) (sign_of p q) x (nat_abs today) (nat_abs today); text = print_plan (closed (step (lookup_of g.table) (nat_abs today) x)) })
