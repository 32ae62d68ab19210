use mir.Facts.{sfits_lit}
use Rattle.nodes.proofs.Signed.{key, no_key}
use Rattle.nodes.specs.Letters.{letter_of_amount}
use Rattle.nodes.proofs.AmountLetterFromI64.from.Goals as goal

pub returns-in-78 : goal.returns-in-78
unfolding letter_of_amount
returns-in-78 c = rw (key c.ranges.x c.in-78.in-78-own.keys1)

pub returns-in-79 : goal.returns-in-79
unfolding letter_of_amount
returns-in-79 c = rw (key c.ranges.x c.in-79.in-79-own.keys2)

pub returns-in-65 : goal.returns-in-65
unfolding letter_of_amount
returns-in-65 c = rw (key c.ranges.x c.in-65.in-65-own.keys3)

pub returns-in-85 : goal.returns-in-85
unfolding letter_of_amount
returns-in-85 c = rw (key c.ranges.x c.in-85.in-85-own.keys4)

pub returns-in-75 : goal.returns-in-75
unfolding letter_of_amount
returns-in-75 c = rw (key c.ranges.x c.in-75.in-75-own.keys5)

pub returns-in-81 : goal.returns-in-81
unfolding letter_of_amount
returns-in-81 c = rw (key c.ranges.x c.in-81.in-81-own.keys6)

pub returns-in-73 : goal.returns-in-73
unfolding letter_of_amount
returns-in-73 c = rw (key c.ranges.x c.in-73.in-73-own.keys7)

pub returns-in_default : goal.returns-in_default
unfolding letter_of_amount
returns-in_default c =
    let f = c.ranges.x in
    let r = c.in_default.in_default-own.rest in
    rw (no_key 78 f (sfits_lit tt) r.0.0.0.0.0.0.1, no_key 79 f (sfits_lit tt) r.0.0.0.0.0.1, no_key 65 f (sfits_lit tt) r.0.0.0.0.1, no_key 85 f (sfits_lit tt) r.0.0.0.1, no_key 75 f (sfits_lit tt) r.0.0.1, no_key 81 f (sfits_lit tt) r.0.1, no_key 73 f (sfits_lit tt) r.1)
