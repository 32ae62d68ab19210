use Prim.Native.Nat.{◌≤◌}
use borrow.Author.Rules.{rules}
use lib.IntN.{pos}
use lib.ListN.{length}
use mathlib.Core.Path.{◌∙◌, subst, sym}
use mir.Facts.{to_z-of_z}
use mir.Syntax.{w64}
use mir.Val.{SFits}
use native.Mathlib.Omega.{arith}
use Rattle.integers.proofs.Laws.{sfits64}
use Rattle.lines.proofs.IndexLaws.{bad_values, equal_bits, index_is, no_bound, no_values, other_bits, other_count, other_label, other_line}
use Rattle.lines.proofs.LineParts.{word_inside}
use Rattle.lines.specs.Numbers.{NumbersAre, TwoAre}
use Rattle.lines.proofs.indexes.read_index.Goals as goal

pub two_numbers-two-requires : goal.two_numbers-two-requires
two_numbers-two-requires c =
    (omega (arith, word_inside _ _ (sym c.if-fits.true ∙ c.has_word-fits.ensures)), c.requires.0)

pub overflow_cast-label : goal.overflow_cast-label
overflow_cast-label c =
    sfits64 60001 c.requires.1 tt

pub read_numbers-read-requires : goal.read_numbers-read-requires
read_numbers-read-requires c =
    let t = subst (TwoAre c.args.line.now 6) c.in-Some.is c.two_numbers-two.ensures in
    (t.inside, c.requires.2, c.requires.0)

pub overflow_cast-n : goal.overflow_cast-n
overflow_cast-n c =
    let r = subst (NumbersAre c.args.line.now c.in-Some.two.next c.args.values.now c.read_numbers-read.new.into c.args.from) c.in-Some-read.is c.read_numbers-read.ensures in
    sfits64 60001 (omega (arith, r.bounded, c.requires.0)) tt

pub returns-then-months-n : goal.returns-then-months-n
returns-then-months-n c =
    let t = subst (TwoAre c.args.line.now 6) c.in-Some.is c.two_numbers-two.ensures in
    let fa : SFits w64 c.in-Some.two.first = search rules in
    let fl : SFits w64 (pos c.args.label) = sfits64 60001 c.requires.1 tt in
    let r = subst (NumbersAre c.args.line.now c.in-Some.two.next c.args.values.now c.read_numbers-read.new.into c.args.from) c.in-Some-read.is c.read_numbers-read.ensures in
    let fm : SFits w64 c.args.months.0 = search rules in
    let fn : SFits w64 (pos c.in-Some-read.n) = sfits64 60001 (omega (arith, r.bounded, c.requires.0)) tt in
    let fb : SFits w64 c.in-Some.two.second = search rules in
    index_is _ _ _ (sym c.if-fits.true ∙ c.has_word-fits.ensures) t r (equal_bits fa fl c.if-two-label.true) c.if-n-gt0.true (equal_bits fm fn c.if-months-n.true) (to_z-of_z fb)

pub returns-else-months-n : goal.returns-else-months-n
returns-else-months-n c =
    let t = subst (TwoAre c.args.line.now 6) c.in-Some.is c.two_numbers-two.ensures in
    let fa : SFits w64 c.in-Some.two.first = search rules in
    let fl : SFits w64 (pos c.args.label) = sfits64 60001 c.requires.1 tt in
    let r = subst (NumbersAre c.args.line.now c.in-Some.two.next c.args.values.now c.read_numbers-read.new.into c.args.from) c.in-Some-read.is c.read_numbers-read.ensures in
    let fm : SFits w64 c.args.months.0 = search rules in
    let fn : SFits w64 (pos c.in-Some-read.n) = sfits64 60001 (omega (arith, r.bounded, c.requires.0)) tt in
    other_count _ _ _ (sym c.if-fits.true ∙ c.has_word-fits.ensures) t r (other_bits fm fn c.if-months-n.false)

pub returns-else-n-gt0 : goal.returns-else-n-gt0
returns-else-n-gt0 c =
    let t = subst (TwoAre c.args.line.now 6) c.in-Some.is c.two_numbers-two.ensures in
    let r = subst (NumbersAre c.args.line.now c.in-Some.two.next c.args.values.now c.read_numbers-read.new.into c.args.from) c.in-Some-read.is c.read_numbers-read.ensures in
    no_values _ _ _ (sym c.if-fits.true ∙ c.has_word-fits.ensures) t r (omega (arith, c.if-n-gt0.false))

pub returns-in-None-read : goal.returns-in-None-read
returns-in-None-read c =
    let t = subst (TwoAre c.args.line.now 6) c.in-Some.is c.two_numbers-two.ensures in
    let r = subst (NumbersAre c.args.line.now c.in-Some.two.next c.args.values.now c.read_numbers-read.new.into c.args.from) c.in-None-read.is c.read_numbers-read.ensures in
    bad_values _ _ _ (sym c.if-fits.true ∙ c.has_word-fits.ensures) t r

pub returns-else-two-label : goal.returns-else-two-label
returns-else-two-label c =
    let t = subst (TwoAre c.args.line.now 6) c.in-Some.is c.two_numbers-two.ensures in
    let fa : SFits w64 c.in-Some.two.first = search rules in
    let fl : SFits w64 (pos c.args.label) = sfits64 60001 c.requires.1 tt in
    other_label _ _ _ (sym c.if-fits.true ∙ c.has_word-fits.ensures) t (other_bits fa fl c.if-two-label.false)

pub returns-in-None : goal.returns-in-None
returns-in-None c =
    no_bound _ _ _ (sym c.if-fits.true ∙ c.has_word-fits.ensures) (subst (TwoAre c.args.line.now 6) c.in-None.is c.two_numbers-two.ensures)

pub returns-else-fits : goal.returns-else-fits
returns-else-fits c =
    other_line _ _ _ (sym c.if-fits.false ∙ c.has_word-fits.ensures)
