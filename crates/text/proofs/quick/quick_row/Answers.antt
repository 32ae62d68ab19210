use native.Mathlib.Omega.{arith}
use Rattle.text.proofs.QuickLaws.{bare_quick}
use Rattle.text.proofs.quick.quick_row.Goals as goal

pub returns-then-bare-kind : goal.returns-then-bare-kind
returns-then-bare-kind c =
    let a = c.args in
    let p = c.requires in
    bare_quick a.text.now a.at a.kind (omega (arith, p.0)) p.1 a.form _ c.bare_letter-bare.ensures p.3 c.if-bare-kind.true a.nodes.now _ a.count c.put_row.ensures
