use lib.ListN.{drop}
use mathlib.Core.Path.{◌∙◌, sym}
use native.Mathlib.Omega.{arith}
use Rattle.fields.specs.Positions.{up_to}
use Rattle.fields.proofs.NumberLaws.{natural_broken, natural_empty, natural_more, natural_one, natural_zero}
use Rattle.fields.proofs.Positions.{head_of, up_fits}
use Rattle.fields.proofs.numbers.read_natural.Goals as goal
use Rattle.fields.proofs.numbers.read_natural.Goals.{else-n-at-ne1-via-then-n-at-ne1+else-text-at-eq48, else-n-at-ne1-via-else-n-at-ne1}

pub returns-in_err-n : goal.returns-in_err-n
returns-in_err-n c = rw c.from_residual.ensures (natural_broken _ c.in_err-n.ensures)

pub returns-then-n-at : goal.returns-then-n-at
returns-then-n-at c =
    let r = c.in_ok-n.ensures in
    let f = up_to c.args.stop (drop c.args.at c.args.text.now) in
    natural_empty f (omega (arith, r.ends, c.if-n-at.true))

pub bounds-text-at : goal.bounds-text-at
bounds-text-at c =
    let r = c.in_ok-n.ensures in
    let f = up_to c.args.stop (drop c.args.at c.args.text.now) in
    let k = up_fits c.args.stop
    c.args.text.now
    c.args.at
    c.requires.0 in
    omega (arith, r.ends, c.if-n-at.false)

pub returns-then-text-at-eq48 : goal.returns-then-text-at-eq48
returns-then-text-at-eq48 c =
    let r = c.in_ok-n.ensures in
    let f = up_to c.args.stop (drop c.args.at c.args.text.now) in
    let k = up_fits c.args.stop
    c.args.text.now
    c.args.at
    c.requires.0 in
    natural_zero f (omega (arith, r.ends, c.if-n-at.false, c.if-n-at-ne1.true)) (head_of
    c.args.stop
    c.args.text.now
    c.args.at (omega (
      arith,
      r.ends,
      c.if-n-at.false,
    )) (omega (arith, r.ends, c.if-n-at.false)) ∙ c.if-text-at-eq48.true)

pub returns : goal.returns
returns c =
    let r = c.in_ok-n.ensures in
    let f = up_to c.args.stop (drop c.args.at c.args.text.now) in
    let k = up_fits c.args.stop c.args.text.now c.args.at c.requires.0 in
    elim c.else-n-at-ne1.branch [
      | else-n-at-ne1-via-then-n-at-ne1+else-text-at-eq48 w ↦ natural_more f _ _ _ r (omega (arith, r.ends, c.if-n-at.false, w.if-n-at-ne1.true)) (λ e. w.if-text-at-eq48.false (sym
          (head_of c.args.stop c.args.text.now c.args.at (omega (arith, r.ends, c.if-n-at.false)) (omega (arith, r.ends, c.if-n-at.false))) ∙ e))
      | else-n-at-ne1-via-else-n-at-ne1 w ↦ natural_one f _ _ _ r (omega (arith, r.ends, w.if-n-at-ne1.false))
    ]
