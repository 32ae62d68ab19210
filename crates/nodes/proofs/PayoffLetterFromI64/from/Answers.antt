use mir.Facts.{sfits_lit}
use Rattle.nodes.proofs.Signed.{key, no_key}
use Rattle.nodes.specs.Letters.{letter_of_payoff}
use Rattle.nodes.proofs.PayoffLetterFromI64.from.Goals as goal

pub returns-in-90 : goal.returns-in-90
unfolding letter_of_payoff
returns-in-90 c = rw (key c.ranges.x c.in-90.in-90-own.keys1)

pub returns-in-70 : goal.returns-in-70
unfolding letter_of_payoff
returns-in-70 c = rw (key c.ranges.x c.in-70.in-70-own.keys2)

pub returns-in-72 : goal.returns-in-72
unfolding letter_of_payoff
returns-in-72 c = rw (key c.ranges.x c.in-72.in-72-own.keys3)

pub returns-in-83 : goal.returns-in-83
unfolding letter_of_payoff
returns-in-83 c = rw (key c.ranges.x c.in-83.in-83-own.keys4)

pub returns-in-66 : goal.returns-in-66
unfolding letter_of_payoff
returns-in-66 c = rw (key c.ranges.x c.in-66.in-66-own.keys5)

pub returns-in-87 : goal.returns-in-87
unfolding letter_of_payoff
returns-in-87 c = rw (key c.ranges.x c.in-87.in-87-own.keys6)

pub returns-in_default : goal.returns-in_default
unfolding letter_of_payoff
returns-in_default c =
    let f = c.ranges.x in
    let r = c.in_default.in_default-own.rest in
    rw (no_key 90 f (sfits_lit tt) r.0.0.0.0.0.1, no_key 70 f (sfits_lit tt) r.0.0.0.0.1, no_key 72 f (sfits_lit tt) r.0.0.0.1, no_key 83 f (sfits_lit tt) r.0.0.1, no_key 66 f (sfits_lit tt) r.0.1, no_key 87 f (sfits_lit tt) r.1)
