-- The wait of a payoff's `W` as the code answers it.
use Rattle.std.specs.Prelude.{◌+◌, ◌≤◌, T, ℤ, Err, Ok, Result}
use Rattle.amounts.specs.declared.wait.Wait.{Wait}
use Rattle.amounts.specs.declared.wait.Wait.TheVariants.{Held, Missed}
use Rattle.std.specs.Int.Signed.{non_neg}
use Rattle.language.specs.Answer.{Answer, got, refused}
use Rattle.language.specs.Limits.{max_month}
use Rattle.language.specs.Payments.Pays.{Tried, hit, miss}
use Rattle.nodes.specs.Table.{nat_of}
use Rattle.text.specs.Refusals.{number_of}
use Rattle.text.specs.declared.Refusal.{Refusal}

-- the months waited when the test holds first, or the last ones tried, or the test's refusal
abbrev pub wait_answer : Result Wait Refusal → Answer Tried
wait_answer (Ok (Held k)) = got (hit (nat_of k.0))
wait_answer (Ok (Missed k)) = got (miss (nat_of k.0))
wait_answer (Err k) = refused (number_of k)

-- the months are not below zero
abbrev pub WaitKnown : Result Wait Refusal → Type 0
WaitKnown (Ok (Held k)) = T (non_neg k.0)
WaitKnown (Ok (Missed k)) = T (non_neg k.0)
WaitKnown (Err k) = Unit {0}

-- all months tried can be added to a payoff's
pub record WaitsIn (first d : ℤ) : Type 0 where
  pub first_known : T (non_neg first)
  pub delay_known : T (non_neg d)
  pub within : nat_of first + nat_of d ≤ max_month
