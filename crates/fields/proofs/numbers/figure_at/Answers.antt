use lib.ListN.{drop}
use mathlib.Core.Path.{subst, sym}
use native.Mathlib.Omega.{arith}
use Rattle.fields.specs.Numbers.{NumberIs}
use Rattle.fields.specs.Positions.{up_to}
use Rattle.fields.proofs.NumberLaws.{led_head, led_natural, number_plus}
use Rattle.fields.proofs.numbers.figure_at.Goals as goal
use Rattle.fields.proofs.numbers.figure_at.Goals.{in-49-to-57, in_default, in_default-2}

pub returns-then-matches : goal.returns-then-matches
returns-then-matches c =
    let a = c.args in
    let t = a.text.now in
    subst (NumberIs (up_to 44 (drop a.at t)) a.at) (sym c.positive.ensures)
    (number_plus (up_to 44 (drop a.at t)) a.at (λ e. omega (arith, led_head t a.at c.if-at-text.true (omega arith) (omega arith), e)) c.digits_to_comma.result (led_natural t a.at c.if-at-text.true (omega arith) (omega arith) c.digits_to_comma.result c.digits_to_comma.ensures))
