use mathlib.Core.Path.{subst, sym}
use Rattle.text.specs.Letters.{ShapeIs, form_of}
use Rattle.text.specs.declared.letters.TextForm.{TextForm}
use Rattle.text.proofs.letters.shape_of.Goals as goal

pub returns-in-Plan : goal.returns-in-Plan
returns-in-Plan c =
    subst (λ (f : TextForm). ShapeIs (form_of f) c.args.letter c.plan_shape.result) (sym
    c.in-Plan.is) c.plan_shape.ensures

pub returns-in-Payoff : goal.returns-in-Payoff
returns-in-Payoff c =
    subst (λ (f : TextForm). ShapeIs (form_of f) c.args.letter c.payoff_shape.result) (sym
    c.in-Payoff.is) c.payoff_shape.ensures
