-- Numbers put into `answer`, place by place, and an answer's numbers.
use Prim.Native.Nat.{◌<◌, ◌≤◌, ◌^◌, ℕ}
use borrow.Author.Tests.{le-leb, lt-leb}
use lib.Dec.{T}
use lib.IntN.{nat_abs, negsuc, pos, ℤ}
use lib.ListN.{length, set}
use lib.Signed.{non_neg}
use mathlib.Core.List.{List, ◌∷◌, []}
use mathlib.Core.Path.{◌∙◌, ◌≡◌, ap, refl, sym}
use mir.Facts.{to_z-of_z}
use mir.Syntax.{w32, w64}
use mir.Val.{SFits, of_z, to_z}
use native.Mathlib.Omega.{arith}
use Rattle.language.specs.Answer.{Answer, got, refused}
use Rattle.unit.specs.Returned.{into_answer, put}

pub too_short : (xs answer : List ℤ) → length answer < length xs → (pos 13, answer) ≡ put xs answer
unfolding put
too_short xs answer h = rw (lt-leb (length xs) (length answer) h)

pub one_put : (x : ℤ) (answer : List ℤ) → 1 ≤ length answer → (pos 0, set answer 0 x) ≡ put (x ∷ []) answer
unfolding put
one_put x [] h = absurd (omega (arith, h))
one_put x (a ∷ answer) h = rw (le-leb 1 (length (a ∷ answer)) h)

pub two_put : (x y : ℤ) (answer : List ℤ) → 2 ≤ length answer → (pos 0, set (set answer 0 x) 1 y) ≡ put (x ∷ y ∷ []) answer
unfolding put
two_put x y [] h = absurd (omega (arith, h))
two_put x y (a ∷ []) h = absurd (omega (arith, h))
two_put x y (a ∷ b ∷ answer) h = rw (le-leb 2 (length (a ∷ b ∷ answer)) h)

-- a number that is not below zero
pub whole : (z : ℤ) → T (non_neg z) → z ≡ pos (nat_abs z)
whole (pos n) h = refl
whole (negsuc n) h = absurd h

-- a count below 2^63 is read back as itself
pub count_fits : (n : ℕ) → n < 2 ^ 63 → SFits w64 (pos n)
count_fits n h = record { sfits = omega (arith, h) }

module _ {A : Type 0} (numbers : A → List ℤ) (answer : List ℤ) {a : Answer A} where
  -- a call that got something: its numbers were put
  pub told : (x : A) → a ≡ got x → (r : ℤ) (last : List ℤ) → SFits w32 r → (r, last) ≡ put (numbers x) answer → (to_z w32 (of_z w32 r), last) ≡ into_answer numbers answer a
  unfolding into_answer
  told x e r last f h = ap (λ z. (z, last)) (to_z-of_z f) ∙ h ∙ sym (ap (into_answer numbers answer) e)

  -- what a call of its own told, handed on
  pub passed_on : {b : Answer A} → a ≡ b → (r : ℤ) (last : List ℤ) → SFits w32 r → (r, last) ≡ into_answer numbers answer a → (to_z w32 (of_z w32 r), last) ≡ into_answer numbers answer b
  passed_on e r last f h = ap (λ z. (z, last)) (to_z-of_z f) ∙ h ∙ ap (into_answer numbers answer) e

  -- a refused call: its number alone
  pub untold : (n : ℕ) → a ≡ refused n → (r : ℤ) → SFits w32 r → r ≡ pos n → (to_z w32 (of_z w32 r), answer) ≡ into_answer numbers answer a
  unfolding into_answer
  untold n e r f h = ap (λ z. (z, answer)) (to_z-of_z f ∙ h) ∙ sym (ap (into_answer numbers answer) e)
