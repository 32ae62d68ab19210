use lib.ListN.{drop}
use mathlib.Core.Path.{subst, sym}
use Rattle.fields.specs.Positions.{up_to}
use Rattle.text.specs.Letters.{form_of, kind_at}
use Rattle.text.specs.Rows.{QuickIs}
use Rattle.text.specs.Trees.{SoleIs}
use Rattle.text.specs.declared.letters.TextForm.{TextForm}
use Rattle.text.proofs.QuickLaws.{bare_row}
use Rattle.text.proofs.edges.edge_row.Goals as goal

pub returns-then-bare-kind : goal.returns-then-bare-kind
returns-then-bare-kind c =
    let a = c.args in
    let p = c.requires in
    let alone = subst (SoleIs (up_to 44 (drop a.at a.text.now))) c.in_ok-letter.was c.letter_at.ensures in
    bare_row a.text.now a.at a.kind p.1 _ alone a.form _ c.bare_letter-bare.ensures p.3 c.if-bare-kind.true a.nodes.now _ a.count c.put_row.ensures

pub returns-in-Plan : goal.returns-in-Plan
returns-in-Plan c =
    let a = c.args in
    subst (λ (f : TextForm). QuickIs (form_of f) (kind_at a.kind) a.text.now a.at a.nodes.now c.last_transfer.new.nodes a.count c.last_transfer.result) (sym c.in-Plan.is) c.last_transfer.ensures
