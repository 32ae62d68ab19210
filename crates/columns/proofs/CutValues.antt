-- What is left of an accepted plan's column from a month on is the value of its payoff, cut at that month.
use Prim.Native.Nat.{◌+◌, ◌-◌, ◌<◌, ◌≤◌, suc, ℕ}
use lib.IntN.{◌*ℤ◌, nat_abs, pos, ℤ}
use lib.ListN.{get_or}
use mathlib.Core.Bool.{true}
use mathlib.Core.List.{List}
use mathlib.Core.Path.{◌∙◌, ◌≡◌, ap, ap₂, refl, sym}
use native.Mathlib.Omega.{arith}
use Rattle.columns.specs.Remaining.{SumsFit, due_of, rest_from}
use Rattle.integers.specs.Bounded.{SmallValue}
use Rattle.language.proofs.Guarantee.InRange.{sum_in_range}
use Rattle.language.proofs.Guarantee.Kept.{Opening, at, f, pays_on_lem, terms}
use Rattle.language.proofs.Guarantee.Values.{cut_value_at}
use Rattle.language.proofs.Payments.Sums.{sum_cong}
use Rattle.language.proofs.Text.Compiled.{compiled_formed, cut_formed}
use Rattle.language.proofs.Text.Payoffs.{payoff_round_trip}
use Rattle.language.proofs.Text.Plans.{plan_read}
use Rattle.language.specs.Answer.{◌>>=◌, got}
use Rattle.language.specs.Calls.{evaluate, evaluate_call, lookup_of, pair_ok, sign_of}
use Rattle.language.specs.Guarantee.{Contract, behind, discounted, filled, paid}
use Rattle.language.specs.Payments.Pays.{pays, sum_over}
use Rattle.language.specs.Payments.Step.{held}
use Rattle.language.specs.Payoff.Compile.{compiled_plan, cut_payoff}
use Rattle.language.specs.Rules.Table.{factor_at}
use Rattle.language.specs.Text.Trees.{start}

module _ (c : Contract) (o : Opening c) (p q : ℤ) (column : List ℤ)
    (is : (m : ℕ) → m ≤ f c o → get_or column m (pos 0) ≡ pays (lookup_of c.given.table) (sign_of p q) (filled c (terms c o) o.plan) 0 m) where
  abbrev factors : List ℤ
  factors = c.given.table.factors

  -- month by month
  due : (m : ℕ) → m ≤ f c o → due_of factors column m ≡ factor_at c.given.table m *ℤ paid c (terms c o) p q (at c o 0) 0 m
  unfolding held factor_at
  due m h = ap (λ z. get_or factors m (pos 0) *ℤ z) (is m h)

  rest_is : (t a b : ℕ) → t ≤ a → b ≤ suc (f c o) → rest_from factors column b a ≡ discounted c (terms c o) p q (at c o t) t a b
  rest_is t a b h l =
      sum_cong (b - a) _ _
      (λ j k. due (a + j) (omega arith) ∙ ap (λ z. factor_at c.given.table (a + j) *ℤ z) (sym (pays_on_lem c o p q t (a + j) (omega arith))))

  pub sums_fit : SumsFit factors column (suc (f c o))
  sums_fit = record { fit = λ b a h. record { small = rw (rest_is 0 a b (omega arith) h) (sum_in_range c o p q 0 0 a b (omega arith)) } }

  -- the call on the payoff's text is the one on the payoff
  read_back : (t : ℕ) → evaluate (cut_payoff (compiled_plan start o.plan)) c.given p q (pos t) ≡ evaluate_call (terms c o).cut_off c.given p q (pos t)
  unfolding evaluate_call
  read_back t = rw (payoff_round_trip (cut_payoff (compiled_plan start o.plan)) (cut_formed (compiled_plan start o.plan) (compiled_formed o.plan (plan_read c.text o.plan o.reads).0))) refl

  pub cut_now : (t : ℕ) → t ≤ f c o → pair_ok p q ≡ true → evaluate (cut_payoff (compiled_plan start o.plan)) c.given p q (pos t) ≡ got (rest_from factors column (suc (f c o)) t)
  cut_now t h k = read_back t ∙ cut_value_at c o p q t h k ∙ ap got (sym (rest_is t t (suc (f c o)) (omega arith) (omega arith)))
