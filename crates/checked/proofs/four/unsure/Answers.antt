use Prim.Native.Nat.{ℕ}
use mathlib.Core.Path.{◌≡◌}
use native.Mathlib.Omega.{arith}
use Rattle.checked.proofs.four.unsure.Goals as goal

pub returns : goal.returns
returns c = λ e. let z : ◌≡◌ {A = ℕ} 0 1 = cc in absurd (omega arith)
