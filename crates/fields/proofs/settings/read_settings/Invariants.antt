use Prim.Native.Nat.{◌+◌, ◌*◌, ◌-◌, ◌≤◌}
use lib.ListN.{length}
use Rattle.fields.proofs.SettingLaws.{Rowing}
use Rattle.fields.proofs.settings.read_settings.Given as goal

abbrev pub invariant-loop-i : goal.invariant-loop-i
invariant-loop-i l = (l.at ≤ l.i) × (l.i ≤ l.end + 2) × (l.i ≤ length l.text) × (l.i ≤ l.at + 93) × (48 ≤ l.low) × (l.low ≤ 55) × (3 * l.acc ≤ 34359738368 * (l.i - l.at)) × Rowing l.text l.at l.low l.acc l.i

abbrev pub decreases-loop-i : goal.decreases-loop-i
decreases-loop-i l = l.end - l.i
