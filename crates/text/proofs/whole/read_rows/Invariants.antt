use Prim.Native.Nat.{◌-◌}
use lib.ListN.{length}
use mathlib.Core.Path.{◌≡◌}
use Rattle.text.specs.Letters.{form_of}
use Rattle.text.proofs.WholeLaws.{Opening}
use Rattle.std.proofs.Common.{Ok}
use Rattle.text.proofs.whole.read_rows.Given as goal

abbrev pub invariant-loop-count : goal.invariant-loop-count
invariant-loop-count l = (length l.nodes ≡ length l.initial.nodes) × (length l.stack ≡ 32) × Opening (form_of l.form) l.text l.nodes l.stack l.waiting l.count l.left (Ok l.opened)

abbrev pub decreases-loop-count : goal.decreases-loop-count
decreases-loop-count l = 513 - l.count
