use borrow.Author.Rules.{rules}
use mathlib.Core.Path.{refl, subst, sym}
use mir.Syntax.{w64}
use mir.Val.{SFits}
use Rattle.amounts.specs.Flat.{flat}
use Rattle.language.specs.Payments.Amounts.{holds}
use Rattle.nodes.specs.Found.{offset_of, test_at}
use Rattle.pays.proofs.WaitsUntil.{rest_small, short_fine, short_is, short_months, starts_after}
use Rattle.pays.specs.Until.{UntilIs}
use Rattle.pays.proofs.until.wait_until.Goals as goal

pub returns-then-month-root : goal.returns-then-month-root
returns-then-month-root c =
    let a = c.args in
    let p = c.requires in
    let fr : SFits w64 a.root.0 = search rules in
    let fm : SFits w64 a.month.0 = search rules in
    starts_after (holds (flat a.tables.now.values.now) (test_at offset_of 512 a.tables.now.nodes.now a.at)) _ _ _ p.0 p.1 fr fm c.if-month-root.true

pub between-rest-requires : goal.between-rest-requires
between-rest-requires c =
    let a = c.args in
    let p = c.requires in
    let fr : SFits w64 a.root.0 = search rules in
    let fm : SFits w64 a.month.0 = search rules in
    rest_small (holds (flat a.tables.now.values.now) (test_at offset_of 512 a.tables.now.nodes.now a.at)) _ _ _ p.0 p.1 fr fm c.if-month-root.false _ refl

pub wait_for-requires : goal.wait_for-requires
wait_for-requires c =
    let a = c.args in
    let p = c.requires in
    let fr : SFits w64 a.root.0 = search rules in
    let fm : SFits w64 a.month.0 = search rules in
    let fs : SFits w64 c.between-rest.result.0 = search rules in
    let fd : SFits w64 a.d.0 = search rules in
    (short_months (holds (flat a.tables.now.values.now) (test_at offset_of 512 a.tables.now.nodes.now a.at)) _ _ _ p.0 p.1 fr fm c.if-month-root.false _ c.between-rest.ensures fs fd c.if-rest-d.true, p.2, short_fine (holds (flat a.tables.now.values.now) (test_at offset_of 512 a.tables.now.nodes.now a.at)) _ _ _ p.0 p.1 fr fm c.if-month-root.false _ c.between-rest.ensures fs fd c.if-rest-d.true _ _ p.3)

pub of_short-requires : goal.of_short-requires
of_short-requires c = tt

pub returns-then-rest-d : goal.returns-then-rest-d
returns-then-rest-d c =
    let a = c.args in
    let p = c.requires in
    let fr : SFits w64 a.root.0 = search rules in
    let fm : SFits w64 a.month.0 = search rules in
    let fs : SFits w64 c.between-rest.result.0 = search rules in
    let fd : SFits w64 a.d.0 = search rules in
    subst (UntilIs _ _ _ _) (sym c.of_short.ensures) (short_is (holds (flat a.tables.now.values.now) (test_at offset_of 512 a.tables.now.nodes.now a.at)) _ _ _ p.0 p.1 fr fm c.if-month-root.false _ c.between-rest.ensures fs fd c.if-rest-d.true _ c.wait_for.ensures)

pub wait_for-requires-2 : goal.wait_for-requires-2
wait_for-requires-2 c = (c.requires.0, c.requires.2, c.requires.3)

pub returns : goal.returns
returns c = c.wait_for-2.ensures
