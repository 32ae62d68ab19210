use Prim.Native.Nat.{◌≤◌}
use mathlib.Core.Bool.{false}
use mathlib.Core.Path.{◌≡◌}
use Rattle.lines.specs.Lines.{NoFeed}
use Rattle.lines.proofs.ends.feed_in_32.Given as goal

abbrev pub invariant-loop-k : goal.invariant-loop-k
invariant-loop-k l = (l.k ≤ 32) × (l.found ≡ false → NoFeed l.input l.at l.k)
