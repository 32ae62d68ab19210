-- A value that comes is within its limit, and a refusal is 11 or 14.
use Prim.Native.Nat.{◌≤◌, ℕ}
use lib.Dec.{leb}
use lib.IntN.{◌*ℤ◌, ◌+ℤ◌, nat_abs, pos, ℤ}
use lib.Signed.{lt_z}
use mathlib.Core.Bool.{Bool, cond, false, true}
use mathlib.Core.Logic.{inl}
use mathlib.Core.Path.{◌∙◌, ◌≡◌, refl, subst, sym}
use native.Mathlib.Omega.{arith}
use Rattle.integers.specs.Bounded.{SmallValue, value_within}
use Rattle.language.specs.Answer.{Answer, got, refused}
use Rattle.language.specs.Limits.{max_value}
use Rattle.language.specs.Payments.Amounts.{Lookup}
use Rattle.language.specs.Payments.Pays.{Sign, Tried, hit, miss, started}
use Rattle.language.specs.Payoff.Evaluate.{Ranges, checked_holds, checked_worth, in_range}
use Rattle.language.specs.Text.Trees.{Payoff, await, cut, leaf, nil, plus, times, uncut}
use Rattle.checked.proofs.Refusals.{Within, amount_evaluated, both, came, either, in_range_lem, refuses, test_evaluated, then, wait_evaluated}
use Rattle.worths.specs.Answers.{SmallWorth, value_answer, worth_answer}
use Rattle.checked.specs.Evaluated.{Evaluated}
use Rattle.std.specs.Prelude.{Err, None, Ok, Result, Some}
use Rattle.integers.specs.declared.Millionths.{Millionths}
use Rattle.text.specs.declared.Refusal.{Refusal}

pub value_within_lem : (z : ℤ) → value_answer (value_within z) ≡ in_range max_value z
unfolding value_within in_range
value_within_lem z = go (leb (nat_abs z) max_value)
  where
    go : (b : Bool) → value_answer (cond b (Some (record { 0 = z })) None) ≡ cond b (got z) (refused 14)
    go true = refl
    go false = refl

module _ (L : Ranges) (idx : Lookup) (fac : ℤ → ℤ) (sg : Sign) (now : ℕ) where
  branch : {f g : ℕ → Answer ℤ} → ((j : ℕ) → Evaluated (Within L.value_limit) (f j)) → ((j : ℕ) → Evaluated (Within L.value_limit) (g j)) → (t : Tried) → Evaluated (Within L.value_limit) (started f g t)
  branch h k (hit j) = h j
  branch h k (miss j) = k j

  worth_evaluated : (x : Payoff ℕ ℤ) (w : ℕ) → Evaluated (Within L.value_limit) (checked_worth L idx fac sg now x w)
  unfolding checked_worth
  worth_evaluated nil w = came (record { within = omega arith })
  worth_evaluated (leaf uncut m p q) w = either (L.payable (m +ℤ pos w)) (in_range_lem L.value_limit (fac (m +ℤ pos w) *ℤ sg p q)) (refuses (inl refl))
  worth_evaluated (leaf cut m p q) w = either (L.payable (m +ℤ pos w)) (in_range_lem L.value_limit (cond (lt_z (m +ℤ pos w) (pos now)) (pos 0) (fac (m +ℤ pos w) *ℤ sg p q))) (refuses (inl refl))
  worth_evaluated (times a x) w = both (λ y z. in_range_lem L.value_limit (y *ℤ z)) (amount_evaluated idx L.readable L.amount_limit a w) (worth_evaluated x w)
  worth_evaluated (plus x y) w = both (λ y z. in_range_lem L.value_limit (y +ℤ z)) (worth_evaluated x w) (worth_evaluated y w)
  worth_evaluated (await d t x y) w = then (branch (λ j. worth_evaluated x j) (λ j. worth_evaluated y j)) (wait_evaluated (checked_holds idx L.readable L.amount_limit t) (λ r. test_evaluated idx L.readable L.amount_limit t r) d w)

  module _ (l : L.value_limit ≡ max_value) (x : Payoff ℕ ℤ) (w : ℕ) where
    pub worth_codable : {a : Answer ℤ} → a ≡ checked_worth L idx fac sg now x w → Evaluated SmallValue a
    worth_codable e =
        let h = worth_evaluated x w in
        record { value = λ z g. record { small = subst (λ n. nat_abs z ≤ n) l (h.value z (sym e ∙ g)).within }; refusal = λ n g. h.refusal n (sym e ∙ g) }

    pub worth_small : (v : Result Millionths Refusal) → worth_answer v ≡ checked_worth L idx fac sg now x w → SmallWorth v
    worth_small (Ok v) e = (worth_codable e).value v.0 refl
    worth_small (Err k) e = tt
