use Prim.Native.Nat.{◌+◌, ◌-◌, ◌<◌, ◌≤◌}
use borrow.Author.Rules.{rules}
use lib.ListN.{drop, length, take}
use mathlib.Core.Logic.{⊎_elim}
use mathlib.Core.Path.{◌∙◌, ◌≡◌, ap, subst, sym}
use mir.Facts.{to_z-of_z}
use mir.Syntax.{w64}
use mir.Val.{SFits}
use native.Mathlib.Omega.{arith}
use Rattle.lines.proofs.IndexLists.{Indexed, indexed_full, indexed_kept, indexed_over, indexed_refused, indexed_start}
use Rattle.lines.proofs.LineParts.{line_bytes, line_inside, line_is, line_short}
use Rattle.lines.specs.Indexes.{IndexIs}
use Rattle.lines.proofs.indexes.read_indexes.Given as goal

abbrev pub invariant-loop-place : goal.invariant-loop-place
invariant-loop-place l = Indexed l.input l.at l.months.0 l.initial.bounds l.initial.values l.bounds l.values l.place l.labels l.stored

abbrev pub decreases-loop-place : goal.decreases-loop-place
decreases-loop-place l = length l.input + 1 - l.place
