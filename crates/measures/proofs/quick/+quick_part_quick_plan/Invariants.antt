use Prim.Native.Nat.{◌*◌, ◌+◌}
use Rattle.measures.proofs.quick.+quick_part_quick_plan.Given as goal

abbrev pub decreases-quick_part : goal.decreases-quick_part
decreases-quick_part l = 2 * l.left + 1

abbrev pub decreases-quick_plan : goal.decreases-quick_plan
decreases-quick_plan l = 2 * l.left
