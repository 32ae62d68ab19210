-- What an answer of the code about one line of a sheet means.
use Rattle.std.specs.Prelude.{◌+◌, ◌-◌, ◌≤◌, ℕ, nat_abs, ℤ, drop, length, take, cond, List, [], ◌∷◌, ◌≡◌, None, Option, Some}
use Rattle.language.specs.Answer.{Answer, ◌>>=◌, got, refused}
use Rattle.language.specs.Limits.{max_amount}
use Rattle.language.specs.Sheet.{numbers, same_bytes, two_of, worded}
use Rattle.language.specs.Text.Fields.{join, split}
use Rattle.lines.specs.Lines.{lines_in}
use Rattle.lines.specs.declared.numbers.Two.{Two}
use Rattle.lines.specs.declared.parts.Listed.{Listed}
use Rattle.lines.specs.declared.parts.Plan.{Plan}

-- `worded` for a word given by its bytes
abbrev pub worded_by : List ℕ → List (List ℕ) → Answer (List (List ℕ))
worded_by word [] = refused 2
worded_by word (f ∷ fs) = cond (same_bytes f word) (got fs) (refused 2)

-- the numbers behind that word
abbrev pub numbers_behind : List ℕ → List ℕ → Answer (List ℤ)
numbers_behind word line = worded_by word (split line) >>= λ fs. numbers fs

-- the next line is this one, and behind it a line begins at `next`
pub record LineIs (input : List ℕ) (at : ℕ) (line : List ℕ) (next : ℕ) : Type 0 where
  pub lines : lines_in (drop at input) ≡ line ∷ lines_in (drop next input)
  pub inside : next ≤ length input + 1
  pub short : length line ≤ length input

-- no line is left, or A of the next is refused
abbrev pub Missing : {A : Type 0} → List (List ℕ) → (List ℕ → Answer A) → Type 0
Missing [] part = Unit {0}
Missing (line ∷ rest) part = part line ≡ refused 2

pub record PlanAt (input : List ℕ) (from to next : ℕ) : Type 0 where
  pub line : List ℕ
  pub is : LineIs input 0 line next
  pub fields : List (List ℕ)
  pub word : worded "plan" (split line) ≡ got fields
  pub text : join fields ≡ take (to - from) (drop from input)
  pub order : from ≤ to
  pub inside : to ≤ length input

abbrev pub PlanIs : List ℕ → Option Plan → Type 0
PlanIs input (Some it) = PlanAt input it.from it.to it.next
PlanIs input None = Missing (lines_in input) (λ line. worded "plan" (split line))

pub record ListAt (input : List ℕ) (at : ℕ) (word : List ℕ) (before after : List ℤ) (count next : ℕ) : Type 0 where
  pub line : List ℕ
  pub is : LineIs input at line next
  pub read : List ℤ
  pub numbers : numbers_behind word line ≡ got read
  pub counted : length read ≡ count
  pub holds : count ≤ length before → take count after ≡ read
  pub bounded : count ≤ length line + 1

abbrev pub ListedAre : List ℕ → ℕ → List ℕ → List ℤ → List ℤ → Option Listed → Type 0
ListedAre input at word before after (Some it) = ListAt input at word before after it.count it.next
ListedAre input at word before after None = Missing (lines_in (drop at input)) (numbers_behind word)

pub record PairAt (input : List ℕ) (at : ℕ) (word : List ℕ) (first second : ℤ) (next : ℕ) : Type 0 where
  pub line : List ℕ
  pub is : LineIs input at line next
  pub numbers : numbers_behind word line ≡ got (first ∷ second ∷ [])
  pub first_small : nat_abs first ≤ max_amount
  pub second_small : nat_abs second ≤ max_amount

abbrev pub PairIs : List ℕ → ℕ → List ℕ → Option Two → Type 0
PairIs input at word (Some it) = PairAt input at word it.first it.second it.next
PairIs input at word None = Missing (lines_in (drop at input)) (λ line. numbers_behind word line >>= λ zs. two_of zs)
