-- A plan whose acceptance was answered: what it has.
use Prim.Native.Nat.{ℕ}
use lib.IntN.{nat_abs, ℤ}
use mathlib.Core.Bool.{Bool, ◌&&◌, false, true}
use mathlib.Core.Path.{◌∙◌, ◌≡◌, ap, refl, sym}
use Rattle.language.proofs.Acceptance.{no_answer, passed}
use Rattle.language.specs.Acceptance.{Passed}
use Rattle.language.specs.Answer.{Answer, ◌>>=◌, ◌>>◌, got, refused, require}
use Rattle.language.specs.Calls.{Checked, Given, accept_plan, meets_rules}
use Rattle.language.specs.Rules.Settings.{all_are_set, fill}
use Rattle.language.specs.Rules.Table.{is_month, setting_at, are_settings, is_table}
use Rattle.language.specs.Text.Trees.{Delay, Plan}
use Rattle.rules.specs.Accepting.{accepting}
use Rattle.rules.specs.Answers.{checking_answer}
use Rattle.rules.specs.Measured.{checked_of}
use Rattle.text.specs.Refusals.{number_of}
use Rattle.text.specs.declared.Refusal.{Refusal}
use Rattle.std.specs.Prelude.{Err, Ok}
use Rattle.rules.specs.declared.Accepted.{Accepted}

pub record Admitted (g : Given) (today : ℤ) (ok : Bool) (x : Plan Delay) : Type 0 where
  pub asked : ok ≡ true
  pub passed : Passed g x today
  pub filled : accept_plan g today ok x ≡ got (fill (setting_at g.settings) x)

module _ (g : Given) (today : ℤ) (x : Plan Delay) where
  -- a caller at fault is never accepted
  at_fault : (z : Plan ℕ) → accept_plan g today false x ≡ got z → Admitted g today false x
  unfolding accept_plan
  at_fault z e = go (is_table g.table) (is_month g.table today) (require 8 (are_settings g.settings && all_are_set g.settings x) >> (meets_rules g.table (nat_abs today) (fill (setting_at g.settings) x) >> got (fill (setting_at g.settings) x))) e
    where
      go : (a b : Bool) (r : Answer (Plan ℕ)) → (require 9 a >> (require 12 (b && false) >> r)) ≡ got z → Admitted g today false x
      go false b r e = no_answer e
      go true false r e = no_answer e
      go true true r e = no_answer e

  pub admitted : (ok : Bool) (plan : Accepted) → checking_answer (Ok plan) ≡ accepting g today ok x → Admitted g today ok x
  unfolding checking_answer
  admitted ok plan e = go ok (accept_plan g today ok x) refl e
    where
      go : (ok : Bool) (a : Answer (Plan ℕ)) → accept_plan g today ok x ≡ a → got (record { length = nat_abs plan.length.0; magnitude = nat_abs plan.magnitude.0 }) ≡ (a >>= λ y. got (checked_of g.table y)) → Admitted g today ok x
      go ok (refused n) p q = no_answer (sym q)
      go true (got z) p q = let h = passed g x today z p in record { asked = refl; passed = h.0; filled = p ∙ ap got (sym h.1) }
      go false (got z) p q = at_fault z p

  -- a refusal of the plan is the call's
  pub refusing : (ok : Bool) (k : Refusal) → checking_answer (Err k) ≡ accepting g today ok x → accept_plan g today ok x ≡ refused (number_of k)
  unfolding checking_answer
  refusing ok k e = go (accept_plan g today ok x) refl e
    where
      go : (a : Answer (Plan ℕ)) → accept_plan g today ok x ≡ a → ◌≡◌ {A = Answer Checked} (refused (number_of k)) (a >>= λ y. got (checked_of g.table y)) → accept_plan g today ok x ≡ refused (number_of k)
      go (refused n) p q = let r : n ≡ number_of k = cc in p ∙ ap refused r
      go (got z) p q = no_answer q
