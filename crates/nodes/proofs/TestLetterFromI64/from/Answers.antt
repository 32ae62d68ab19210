use mir.Facts.{sfits_lit}
use Rattle.nodes.proofs.Signed.{key, no_key}
use Rattle.nodes.specs.Letters.{letter_of_test}
use Rattle.nodes.proofs.TestLetterFromI64.from.Goals as goal

pub returns-in-71 : goal.returns-in-71
unfolding letter_of_test
returns-in-71 c = rw (key c.ranges.x c.in-71.in-71-own.keys1)

pub returns-in-69 : goal.returns-in-69
unfolding letter_of_test
returns-in-69 c = rw (key c.ranges.x c.in-69.in-69-own.keys2)

pub returns-in-89 : goal.returns-in-89
unfolding letter_of_test
returns-in-89 c = rw (key c.ranges.x c.in-89.in-89-own.keys3)

pub returns-in-86 : goal.returns-in-86
unfolding letter_of_test
returns-in-86 c = rw (key c.ranges.x c.in-86.in-86-own.keys4)

pub returns-in-82 : goal.returns-in-82
unfolding letter_of_test
returns-in-82 c = rw (key c.ranges.x c.in-82.in-82-own.keys5)

pub returns-in_default : goal.returns-in_default
unfolding letter_of_test
returns-in_default c =
    let f = c.ranges.x in
    let r = c.in_default.in_default-own.rest in
    rw (no_key 71 f (sfits_lit tt) r.0.0.0.0.1, no_key 69 f (sfits_lit tt) r.0.0.0.1, no_key 89 f (sfits_lit tt) r.0.0.1, no_key 86 f (sfits_lit tt) r.0.1, no_key 82 f (sfits_lit tt) r.1)
