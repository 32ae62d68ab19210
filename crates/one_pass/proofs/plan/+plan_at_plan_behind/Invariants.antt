use borrow.Author.Rules.{rules}
use Prim.Native.Nat.{◌*◌, ◌+◌, ◌-◌, ◌<◌, max, ℕ}
use Rattle.measures.proofs.PlanReadings.{high_later, low_later, near_down, near_later, near_wait}
use Rattle.one_pass.proofs.Packs.{is_kept}
use Rattle.one_pass.proofs.Plans.{as_month, both_seen, few_then, later_seen, moved, nothing_seen, scale_seen, within_seen}
use Rattle.one_pass.specs.Packed.{months_in}
use Rattle.text.proofs.QuickLaws.{sole}
use mathlib.Core.Path.{◌∙◌, ap, refl}
use native.Mathlib.Omega.{arith}
use Rattle.one_pass.proofs.plan.+plan_at_plan_behind.Given as goal

abbrev pub decreases-plan_at : goal.decreases-plan_at
decreases-plan_at l = 2 * l.left

abbrev pub decreases-plan_behind : goal.decreases-plan_behind
decreases-plan_behind l = 2 * l.left + 1
