use Prim.Native.Nat.{◌+◌, ◌-◌, ◌<◌, ◌≤◌}
use borrow.Author.Rules.{rules}
use lib.ListN.{length}
use mathlib.Core.List.{◌++◌}
use mathlib.Core.Path.{◌∙◌, ap, sym}
use native.Mathlib.Omega.{arith}
use Rattle.printing.proofs.MonthLines.{head_counted}
use Rattle.printing.proofs.head_length.Goals as goal

pub number_length-a-requires : goal.number_length-a-requires
number_length-a-requires c = omega (arith, c.requires)

pub number_length-b-requires : goal.number_length-b-requires
number_length-b-requires c = omega (arith, c.requires)

pub overflow_add-result : goal.overflow_add-result
overflow_add-result c =
    record { fits = omega (arith, (head_counted c.args.head.now c.number_length-a.ensures c.number_length-b.ensures).1) }

pub overflow_add-result-2 : goal.overflow_add-result-2
overflow_add-result-2 c =
    record { fits = omega (arith, (head_counted c.args.head.now c.number_length-a.ensures c.number_length-b.ensures).1) }

pub returns : goal.returns
returns c =
    head_counted c.args.head.now c.number_length-a.ensures c.number_length-b.ensures
