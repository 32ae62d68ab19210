use borrow.Author.Rules.{rules}
use lib.IntN.{◌-ℤ◌}
use mathlib.Core.Path.{◌∙◌, ap}
use Rattle.integers.proofs.Locals.{op_fits, op_reads, small_fits, difference_fits}
use Rattle.integers.specs.Bounded.{amount_within}
use Rattle.integers.proofs.difference.Goals as goal

pub overflow_sub-a : goal.overflow_sub-a
overflow_sub-a c =
    let p = c.requires in
    op_fits ◌-ℤ◌ (small_fits p.0) (small_fits p.1) (difference_fits p.0 p.1)

pub returns : goal.returns
returns c =
    let p = c.requires in
    c.in_range.ensures ∙ ap amount_within (op_reads ◌-ℤ◌ (small_fits p.0) (small_fits p.1) (difference_fits p.0 p.1))
