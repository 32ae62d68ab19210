use mathlib.Core.Path.{◌∙◌, ap, sym}
use mathlib.Core.Bool.{not}
use Rattle.payments.proofs.RootWaits.{by_letter, none_left}
use Rattle.payments.specs.Waits.{waits_by}
use Rattle.payments.proofs.waits.root_waits.Goals as goal

pub returns-then-due : goal.returns-then-due
returns-then-due c = none_left _ _ _ c.delay-d.ensures c.due.ensures c.if-due.true

pub test-requires : goal.test-requires
test-requires c = (let t = c.requires.2 (sym c.plan_kind-letter.ensures ∙ c.in-Within.is) in (c.requires.0, t.0, t.1))

pub returns-in-Nothing : goal.returns-in-Nothing
unfolding waits_by
returns-in-Nothing c = by_letter _ _ _ c.delay-d.ensures c.due.ensures c.if-due.false c.plan_kind-letter.ensures c.in-Nothing.is

pub returns-in-Transfer : goal.returns-in-Transfer
unfolding waits_by
returns-in-Transfer c = by_letter _ _ _ c.delay-d.ensures c.due.ensures c.if-due.false c.plan_kind-letter.ensures c.in-Transfer.is

pub returns-in-Scale : goal.returns-in-Scale
unfolding waits_by
returns-in-Scale c = by_letter _ _ _ c.delay-d.ensures c.due.ensures c.if-due.false c.plan_kind-letter.ensures c.in-Scale.is

pub returns-in-Later : goal.returns-in-Later
unfolding waits_by
returns-in-Later c = by_letter _ _ _ c.delay-d.ensures c.due.ensures c.if-due.false c.plan_kind-letter.ensures c.in-Later.is

pub returns-in-Both : goal.returns-in-Both
unfolding waits_by
returns-in-Both c = by_letter _ _ _ c.delay-d.ensures c.due.ensures c.if-due.false c.plan_kind-letter.ensures c.in-Both.is

pub returns-in-Within : goal.returns-in-Within
unfolding waits_by
returns-in-Within c = ap not c.test.ensures ∙ by_letter _ _ _ c.delay-d.ensures c.due.ensures c.if-due.false c.plan_kind-letter.ensures c.in-Within.is

pub returns-in-NoPlan : goal.returns-in-NoPlan
unfolding waits_by
returns-in-NoPlan c = by_letter _ _ _ c.delay-d.ensures c.due.ensures c.if-due.false c.plan_kind-letter.ensures c.in-NoPlan.is
