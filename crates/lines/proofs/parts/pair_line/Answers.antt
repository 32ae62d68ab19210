use Prim.Native.Nat.{◌+◌, ◌-◌, ◌<◌, ◌≤◌}
use borrow.Author.Rules.{rules}
use lib.ListN.{drop, length, take}
use mathlib.Core.Path.{◌∙◌, ◌≡◌, subst, sym}
use native.Mathlib.Omega.{arith}
use mir.Facts.{to_z-of_z}
use mir.Syntax.{w64}
use mir.Val.{SFits}
use Rattle.lines.proofs.LineParts.{line_inside, line_is, line_short, none_left, paired, paired_bad, paired_fault, too_few, too_many, word_inside}
use Rattle.language.specs.Answer.{◌>>=◌}
use Rattle.language.specs.Sheet.{two_of}
use Rattle.lines.specs.Numbers.{TwoAre}
use Rattle.lines.specs.Parts.{numbers_behind}
use Rattle.lines.proofs.parts.pair_line.Goals as goal

pub returns-then-input-at : goal.returns-then-input-at
returns-then-input-at c = none_left (λ line. numbers_behind c.args.word.now line >>= λ zs. two_of zs) _ _ c.if-input-at.true

pub line_end-end-requires : goal.line_end-end-requires
line_end-end-requires c = omega (arith, c.if-input-at.false)

pub slice_bounds-line-count : goal.slice_bounds-line-count
slice_bounds-line-count c =
    omega (arith, c.line_end-end.ensures)

pub slice_bounds-line-end : goal.slice_bounds-line-end
slice_bounds-line-end c =
    let m : c.args.at ≤ length c.args.input.now = omega (arith, c.if-input-at.false) in
    let b = line_inside c.args.input.now c.args.at m c.line_end-end.ensures in
    search rules

pub overflow_add-word : goal.overflow_add-word
overflow_add-word c =
    let l : c.args.at < length c.args.input.now = omega (arith, c.if-input-at.false) in
    let m : c.args.at ≤ length c.args.input.now = omega arith in
    let b = line_inside c.args.input.now c.args.at m c.line_end-end.ensures in
    let k = line_is c.args.input.now c.args.at m c.line_end-end.ensures l in
    record { fits = omega (arith, word_inside _ _ (sym c.if-fits.true ∙ c.has_word-fits.ensures), line_short c.args.input.now c.args.at m c.line_end-end.ensures, c.requires.1) }

pub two_numbers-two-requires : goal.two_numbers-two-requires
two_numbers-two-requires c =
    let l : c.args.at < length c.args.input.now = omega (arith, c.if-input-at.false) in
    let m : c.args.at ≤ length c.args.input.now = omega arith in
    let b = line_inside c.args.input.now c.args.at m c.line_end-end.ensures in
    let k = line_is c.args.input.now c.args.at m c.line_end-end.ensures l in
    (omega (arith, word_inside _ _ (sym c.if-fits.true ∙ c.has_word-fits.ensures)), omega (arith, line_short c.args.input.now c.args.at m c.line_end-end.ensures, c.requires.1))

pub overflow_add-result : goal.overflow_add-result
overflow_add-result c =
    let m : c.args.at ≤ length c.args.input.now = omega (arith, c.if-input-at.false) in
    let b = line_inside c.args.input.now c.args.at m c.line_end-end.ensures in
    record { fits = omega (arith, b, c.requires.1) }

pub returns-then-two-line : goal.returns-then-two-line
returns-then-two-line c =
    let l : c.args.at < length c.args.input.now = omega (arith, c.if-input-at.false) in
    let m : c.args.at ≤ length c.args.input.now = omega arith in
    let b = line_inside c.args.input.now c.args.at m c.line_end-end.ensures in
    let k = line_is c.args.input.now c.args.at m c.line_end-end.ensures l in
    paired_bad c.args.word.now k (sym c.if-fits.true ∙ c.has_word-fits.ensures) (too_many _ _ (subst (TwoAre (take (c.line_end-end.result - c.args.at) (drop c.args.at c.args.input.now)) (length c.args.word.now + 1)) c.in-Some.is c.two_numbers-two.ensures) c.if-two-line.true)

pub returns-else-two-line : goal.returns-else-two-line
returns-else-two-line c =
    let l : c.args.at < length c.args.input.now = omega (arith, c.if-input-at.false) in
    let m : c.args.at ≤ length c.args.input.now = omega arith in
    let b = line_inside c.args.input.now c.args.at m c.line_end-end.ensures in
    let k = line_is c.args.input.now c.args.at m c.line_end-end.ensures l in
    let f : SFits w64 c.in-Some.two.first = search rules in
    let g : SFits w64 c.in-Some.two.second = search rules in
    paired c.args.word.now k (sym c.if-fits.true ∙ c.has_word-fits.ensures) (subst (TwoAre (take (c.line_end-end.result - c.args.at) (drop c.args.at c.args.input.now)) (length c.args.word.now + 1)) c.in-Some.is c.two_numbers-two.ensures) (omega (arith, c.if-two-line.false)) (to_z-of_z f) (to_z-of_z g)

pub returns-in-None : goal.returns-in-None
returns-in-None c =
    let l : c.args.at < length c.args.input.now = omega (arith, c.if-input-at.false) in
    let m : c.args.at ≤ length c.args.input.now = omega arith in
    let b = line_inside c.args.input.now c.args.at m c.line_end-end.ensures in
    let k = line_is c.args.input.now c.args.at m c.line_end-end.ensures l in
    paired_bad c.args.word.now k (sym c.if-fits.true ∙ c.has_word-fits.ensures) (too_few _ _ (subst (TwoAre (take (c.line_end-end.result - c.args.at) (drop c.args.at c.args.input.now)) (length c.args.word.now + 1)) c.in-None.is c.two_numbers-two.ensures))

pub returns-else-fits : goal.returns-else-fits
returns-else-fits c =
    let l : c.args.at < length c.args.input.now = omega (arith, c.if-input-at.false) in
    let m : c.args.at ≤ length c.args.input.now = omega arith in
    let b = line_inside c.args.input.now c.args.at m c.line_end-end.ensures in
    let k = line_is c.args.input.now c.args.at m c.line_end-end.ensures l in
    paired_fault c.args.word.now k (sym c.if-fits.false ∙ c.has_word-fits.ensures)
