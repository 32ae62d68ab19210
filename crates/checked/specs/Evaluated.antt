-- What evaluation comes to: a value, or one of two refusals.
use Rattle.std.specs.Prelude.{ℕ, ◌⊎◌, ◌≡◌}
use Rattle.language.specs.Answer.{Answer, got, refused}

-- P holds of what came, and a refusal is 11 or 14, the two that evaluation meets
pub record Evaluated {A : Type 0} (P : A → Type 0) (a : Answer A) : Type 0 where
  pub value : (x : A) → a ≡ got x → P x
  pub refusal : (n : ℕ) → a ≡ refused n → (n ≡ 11) ⊎ (n ≡ 14)
