-- A month's settings as the code reads them: three bytes each, lowest first, at most 31.
use Rattle.std.specs.Prelude.{◌+◌, ◌^◌, ℕ, eqb, leb, ltb, pos, ℤ, length, ◌&&◌, cond, List, [], ◌∷◌, ◌≡◌, None, Some}
use Rattle.std.proofs.Math.Option.{Option, none, some}
use Rattle.language.specs.Limits.{max_terms}
use Rattle.language.specs.Text.Classes.{read_setting}
use Rattle.language.specs.Text.Number.{byte}
use Rattle.fields.specs.declared.field.Taking.{Taking}
use Rattle.std.specs.Prelude as std

-- one setting more, where n have been read and none is above low
abbrev pub one_more : ℕ → ℕ → Option ℕ → (ℕ → Option ℕ) → Option ℕ
one_more low n none next = none
one_more low n (some k) next = cond (leb low k && ltb n max_terms) (next k) none

-- slot is what those that have been read come to
unfoldable pub settings_from : ℕ → ℕ → ℕ → List ℕ → Option ℕ
settings_from low n slot [] = some slot
settings_from low n slot (x ∷ []) = none
settings_from low n slot (x ∷ y ∷ []) = none
settings_from low n slot (x ∷ y ∷ c ∷ rest) =
    cond (eqb x (byte "+")) (one_more low n (read_setting (y ∷ c ∷ [])) (λ k. settings_from k (n + 1) (slot + 32 ^ k) rest)) none

pub record Summed (f : List ℕ) (at : ℕ) (z : ℤ) (next : ℕ) : Type 0 where
  pub slot : ℕ
  pub is : settings_from 0 0 0 f ≡ some slot
  pub value : z ≡ pos slot
  pub ends : next ≡ at + length f + 1

abbrev pub SettingsAre : List ℕ → ℕ → std.Option Taking → Type 0
SettingsAre f at (Some it) = Summed f at it.value it.next
SettingsAre f at None = settings_from 0 0 0 f ≡ none
