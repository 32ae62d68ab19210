use Prim.Native.Nat.{◌+◌, ◌-◌, ◌<◌, ◌≤◌}
use borrow.Author.Rules.{rules}
use lib.ListN.{drop, length}
use mathlib.Core.Logic.{⊎_elim}
use mathlib.Core.Path.{subst, sym}
use mir.Facts.{to_z-of_z}
use mir.Syntax.{w64}
use mir.Val.{SFits}
use native.Mathlib.Omega.{arith}
use Rattle.fields.specs.Numbers.{NumberIs}
use Rattle.fields.specs.Positions.{up_to}
use Rattle.lines.proofs.NumberFields.{Going, going_bad, going_full, going_kept, going_over, going_start, number_bad, number_inside}
use Rattle.lines.proofs.numbers.read_numbers.Given as goal

abbrev pub invariant-loop-place : goal.invariant-loop-place
invariant-loop-place l = Going l.line l.at l.initial.into l.from l.into l.place l.count

abbrev pub decreases-loop-place : goal.decreases-loop-place
decreases-loop-place l = length l.line + 1 - l.place
