use Prim.Native.Nat.{◌+◌, ◌-◌, ◌<◌, ◌≤◌}
use borrow.Author.Rules.{rules}
use lib.ListN.{length}
use mathlib.Core.List.{◌++◌}
use mathlib.Core.Path.{◌∙◌, ap, sym}
use native.Mathlib.Omega.{arith}
use Rattle.printing.proofs.MonthLines.{month_counted}
use Rattle.printing.proofs.month_length.Goals as goal

pub digit_count-a-requires : goal.digit_count-a-requires
digit_count-a-requires c =
    let s = c in
    omega (arith, s.requires.2)

pub number_length-b-requires : goal.number_length-b-requires
number_length-b-requires c = c.requires.0

pub number_length-c-requires : goal.number_length-c-requires
number_length-c-requires c = c.requires.1

pub overflow_add-result : goal.overflow_add-result
overflow_add-result c =
    record { fits = omega (arith, (month_counted c.args.column.now c.args.rest.now c.args.m c.digit_count-a.ensures c.number_length-b.ensures c.number_length-c.ensures).1) }

pub overflow_add-result-2 : goal.overflow_add-result-2
overflow_add-result-2 c =
    record { fits = omega (arith, (month_counted c.args.column.now c.args.rest.now c.args.m c.digit_count-a.ensures c.number_length-b.ensures c.number_length-c.ensures).1) }

pub overflow_add-result-3 : goal.overflow_add-result-3
overflow_add-result-3 c =
    record { fits = omega (arith, (month_counted c.args.column.now c.args.rest.now c.args.m c.digit_count-a.ensures c.number_length-b.ensures c.number_length-c.ensures).1) }

pub returns : goal.returns
returns c =
    month_counted c.args.column.now c.args.rest.now c.args.m c.digit_count-a.ensures c.number_length-b.ensures c.number_length-c.ensures
