-- What a function that writes does to its buffer.
use Rattle.std.specs.Prelude.{◌+◌, ℕ, length, List, ◌≡◌}
use Rattle.std.proofs.lemmas.List.Edits.{sets}

-- the bytes stand from `at` on, `next` is behind them, all else is as it was
pub record Put (before after : List ℕ) (at next : ℕ) (bytes : List ℕ) : Type 0 where
  pub is : after ≡ sets before at bytes
  pub ends : next ≡ at + length bytes
