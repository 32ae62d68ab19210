-- What an answer of the code about a number means, for the bytes `f` from byte `at` on.
use Rattle.std.specs.Prelude.{◌+◌, ◌<◌, ◌≤◌, ℕ, eqb, nat_abs, neg_ℤ, pos, ℤ, length, cond, false, true, List, ◌⊎◌, ◌≡◌, None, Some}
use Rattle.std.proofs.Math.Option.{Option, none, some}
use Rattle.language.specs.Limits.{max_amount}
use Rattle.language.specs.Text.Number.{digits, read_natural, read_number, value_of}
use Rattle.fields.specs.declared.numbers.Natural.{Natural}
use Rattle.fields.specs.declared.numbers.Number.{Number}
use Rattle.std.specs.Prelude as std

-- all of f are digits, of this value
pub record Run (f : List ℕ) (at v end : ℕ) : Type 0 where
  pub all : digits f ≡ true
  pub value : value_of f ≡ v
  pub small : v ≤ max_amount
  pub ends : end ≡ at + length f

abbrev pub DigitsAre : List ℕ → ℕ → std.Option Natural → Type 0
DigitsAre f at (Some it) = Run f at it.value it.end
DigitsAre f at None = (digits f ≡ false) ⊎ (max_amount < value_of f)

-- where up to three digits in front of a comma were looked for, and any others are not told
abbrev pub FewAre : List ℕ → ℕ → std.Option Natural → Type 0
FewAre f at (Some it) = Run f at it.value it.end
FewAre f at None = Unit {0}

-- no number, or one that no field may hold
abbrev pub Beyond : Option ℕ → Type 0
Beyond none = Unit {0}
Beyond (some n) = max_amount < n

pub record Whole (f : List ℕ) (at v end : ℕ) : Type 0 where
  pub is : read_natural f ≡ some v
  pub small : v ≤ max_amount
  pub ends : end ≡ at + length f

abbrev pub NaturalIs : List ℕ → ℕ → std.Option Natural → Type 0
NaturalIs f at (Some it) = Whole f at it.value it.end
NaturalIs f at None = Beyond (read_natural f)

abbrev pub SmallNatural : std.Option Natural → Type 0
SmallNatural (Some it) = it.value ≤ max_amount
SmallNatural None = Unit {0}

unfoldable pub plus : std.Option Natural → std.Option Number
plus (Some it) = Some (record { value = pos it.value; end = it.end })
plus None = None

unfoldable pub minus : std.Option Natural → std.Option Number
minus (Some it) = cond (eqb it.value 0) None (Some (record { value = neg_ℤ (pos it.value); end = it.end }))
minus None = None

abbrev pub BeyondZ : Option ℤ → Type 0
BeyondZ none = Unit {0}
BeyondZ (some z) = max_amount < nat_abs z

pub record Signed (f : List ℕ) (at : ℕ) (z : ℤ) (end : ℕ) : Type 0 where
  pub is : read_number f ≡ some z
  pub small : nat_abs z ≤ max_amount
  pub ends : end ≡ at + length f

abbrev pub NumberIs : List ℕ → ℕ → std.Option Number → Type 0
NumberIs f at (Some it) = Signed f at it.value it.end
NumberIs f at None = BeyondZ (read_number f)

-- where only some numbers were looked for
abbrev pub NumberTried : List ℕ → ℕ → std.Option Number → Type 0
NumberTried f at (Some it) = Signed f at it.value it.end
NumberTried f at None = Unit {0}
