-- Two answers put together, and amounts within their limit.
use Prim.Native.Nat.{ℕ}
use lib.Dec.{leb}
use lib.IntN.{nat_abs, ℤ}
use mathlib.Core.Bool.{Bool, ◌&&◌, ◌||◌, cond, false, true}
use mathlib.Core.Path.{◌≡◌, refl}
use Rattle.integers.specs.Bounded.{amount_within}
use Rattle.language.specs.Answer.{Answer, got, on_both, refused}
use Rattle.language.specs.Limits.{max_amount}
use Rattle.language.specs.Payoff.Evaluate.{in_range}
use Rattle.checked.specs.Answers.{amount_answer, tested_answer}
use Rattle.std.specs.Prelude.{Err, None, Ok, Result, Some}
use Rattle.checked.specs.declared.answers.Fault.{Fault}

module _ {A B C : Type 0} (f : A → B → Answer C) {a : Answer A} {b : Answer B} where
  pub both_got : {x : A} {y : B} → a ≡ got x → b ≡ got y → on_both f a b ≡ f x y
  unfolding on_both
  both_got ea eb = rw (ea, eb) refl

  pub second_refused : {x : A} {n : ℕ} → a ≡ got x → b ≡ refused n → on_both f a b ≡ refused n
  unfolding on_both
  second_refused ea eb = rw (ea, eb) refl

pub first_refused : {A B C : Type 0} (f : A → B → Answer C) {a : Answer A} (b : Answer B) {n : ℕ} → a ≡ refused n → on_both f a b ≡ refused n
unfolding on_both
first_refused f b ea = rw ea refl

pub amount_within_lem : (z : ℤ) → amount_answer (amount_within z) ≡ in_range max_amount z
unfolding amount_within in_range
amount_within_lem z = go (leb (nat_abs z) max_amount)
  where
    go : (b : Bool) → amount_answer (cond b (Some (record { 0 = z })) None) ≡ cond b (got z) (refused 14)
    go true = refl
    go false = refl

-- the second test decides
pub and_second : {a : Answer Bool} → a ≡ got true → (t : Result Bool Fault) → tested_answer t ≡ on_both (λ x y. got (x && y)) a (tested_answer t)
unfolding on_both
and_second e (Ok true) = rw e refl
and_second e (Ok false) = rw e refl
and_second e (Err k) = rw e refl

pub or_second : {a : Answer Bool} → a ≡ got false → (t : Result Bool Fault) → tested_answer t ≡ on_both (λ x y. got (x || y)) a (tested_answer t)
unfolding on_both
or_second e (Ok true) = rw e refl
or_second e (Ok false) = rw e refl
or_second e (Err k) = rw e refl
