use lib.ListN.{drop}
use mathlib.Core.Path.{subst, sym}
use native.Mathlib.Omega.{arith}
use Rattle.fields.specs.Numbers.{NumberTried}
use Rattle.fields.specs.Positions.{up_to}
use Rattle.fields.proofs.NumberLaws.{tried_plus}
use Rattle.fields.proofs.numbers.short_number.Goals as goal

pub returns-in-49-to-57 : goal.returns-in-49-to-57
returns-in-49-to-57 c =
    let a = c.args in
    let t = a.text.now in
    subst (NumberTried (up_to 44 (drop a.at t)) a.at) (sym c.positive.ensures)
    (tried_plus t a.at (omega arith) (omega arith) (omega arith) c.short_digits.result c.short_digits.ensures)
