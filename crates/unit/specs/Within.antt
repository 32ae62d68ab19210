-- An answer's count of bytes fits i64.
use Rattle.std.specs.Prelude.{◌<◌, ◌^◌, ◌≡◌}
use Rattle.language.specs.Answer.{Answer, got}
use Rattle.language.specs.Calls.{Wrote}

-- a count of bytes is at most what one buffer holds
pub record Counted {A : Type 0} (a : Answer (Wrote A)) : Type 0 where
  pub within : (x : Wrote A) → a ≡ got x → x.count < 2 ^ 63
