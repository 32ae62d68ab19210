use Prim.Native.Nat.{◌+◌, ◌-◌, ◌<◌, ◌≤◌}
use borrow.Author.Rules.{rules}
use lib.ListN.{drop, length, take}
use mathlib.Core.Path.{◌∙◌, ◌≡◌, subst, sym}
use native.Mathlib.Omega.{arith}
use Rattle.lines.proofs.LineParts.{line_inside, line_is, line_short, listed, listed_bad, listed_fault, none_left, word_inside}
use Rattle.lines.specs.Numbers.{NumbersAre}
use Rattle.lines.specs.Parts.{numbers_behind}
use Rattle.lines.proofs.parts.number_line.Goals as goal

pub returns-then-input-at : goal.returns-then-input-at
returns-then-input-at c = none_left (numbers_behind _) _ _ c.if-input-at.true

pub line_end-end-requires : goal.line_end-end-requires
line_end-end-requires c = omega (arith, c.if-input-at.false)

pub slice_bounds-line-count : goal.slice_bounds-line-count
slice_bounds-line-count c =
    omega (arith, c.line_end-end.ensures)

pub slice_bounds-line-end : goal.slice_bounds-line-end
slice_bounds-line-end c =
    let m : c.args.at ≤ length c.args.input.now = omega (arith, c.if-input-at.false) in
    let b = line_inside c.args.input.now c.args.at m c.line_end-end.ensures in
    search rules

pub overflow_add-word : goal.overflow_add-word
overflow_add-word c =
    let l : c.args.at < length c.args.input.now = omega (arith, c.if-input-at.false) in
    let m : c.args.at ≤ length c.args.input.now = omega arith in
    let b = line_inside c.args.input.now c.args.at m c.line_end-end.ensures in
    let k = line_is c.args.input.now c.args.at m c.line_end-end.ensures l in
    record { fits = omega (arith, word_inside _ _ (sym c.if-fits.true ∙ c.has_word-fits.ensures), line_short c.args.input.now c.args.at m c.line_end-end.ensures, c.requires.1) }

pub read_numbers-read-requires : goal.read_numbers-read-requires
read_numbers-read-requires c =
    let l : c.args.at < length c.args.input.now = omega (arith, c.if-input-at.false) in
    let m : c.args.at ≤ length c.args.input.now = omega arith in
    let b = line_inside c.args.input.now c.args.at m c.line_end-end.ensures in
    let k = line_is c.args.input.now c.args.at m c.line_end-end.ensures l in
    (omega (arith, word_inside _ _ (sym c.if-fits.true ∙ c.has_word-fits.ensures)), omega arith, omega (arith, line_short c.args.input.now c.args.at m c.line_end-end.ensures, c.requires.1))

pub overflow_add-result : goal.overflow_add-result
overflow_add-result c =
    let m : c.args.at ≤ length c.args.input.now = omega (arith, c.if-input-at.false) in
    let b = line_inside c.args.input.now c.args.at m c.line_end-end.ensures in
    record { fits = omega (arith, b, c.requires.1) }

pub returns-in-Some : goal.returns-in-Some
returns-in-Some c =
    let l : c.args.at < length c.args.input.now = omega (arith, c.if-input-at.false) in
    let m : c.args.at ≤ length c.args.input.now = omega arith in
    let b = line_inside c.args.input.now c.args.at m c.line_end-end.ensures in
    let k = line_is c.args.input.now c.args.at m c.line_end-end.ensures l in
    listed c.args.word.now k (sym c.if-fits.true ∙ c.has_word-fits.ensures) (subst (NumbersAre (take (c.line_end-end.result - c.args.at) (drop c.args.at c.args.input.now)) (length c.args.word.now + 1) c.args.into.now c.read_numbers-read.new.into 0) c.in-Some.is c.read_numbers-read.ensures)

pub returns-in-None : goal.returns-in-None
returns-in-None c =
    let l : c.args.at < length c.args.input.now = omega (arith, c.if-input-at.false) in
    let m : c.args.at ≤ length c.args.input.now = omega arith in
    let b = line_inside c.args.input.now c.args.at m c.line_end-end.ensures in
    let k = line_is c.args.input.now c.args.at m c.line_end-end.ensures l in
    listed_bad c.args.word.now k (sym c.if-fits.true ∙ c.has_word-fits.ensures) (subst (NumbersAre (take (c.line_end-end.result - c.args.at) (drop c.args.at c.args.input.now)) (length c.args.word.now + 1) c.args.into.now c.read_numbers-read.new.into 0) c.in-None.is c.read_numbers-read.ensures)

pub returns-else-fits : goal.returns-else-fits
returns-else-fits c =
    let l : c.args.at < length c.args.input.now = omega (arith, c.if-input-at.false) in
    let m : c.args.at ≤ length c.args.input.now = omega arith in
    let b = line_inside c.args.input.now c.args.at m c.line_end-end.ensures in
    let k = line_is c.args.input.now c.args.at m c.line_end-end.ensures l in
    listed_fault c.args.word.now k (sym c.if-fits.false ∙ c.has_word-fits.ensures)
