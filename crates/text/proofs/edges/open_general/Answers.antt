use Prim.Native.Nat.{◌*◌, ◌+◌}
use Rattle.std.proofs.Common.{Ok}
use mathlib.Core.Path.{◌∙◌, ◌≡◌, subst, sym}
use native.Mathlib.Omega.{arith}
use Rattle.text.proofs.LetterCounts.{letters_all}
use Rattle.text.specs.Letters.{form_of, kind_at}
use Rattle.text.specs.Packed.{row_of}
use Rattle.text.specs.Room.{Roomy}
use Rattle.text.specs.Rows.{QuickIs, RowIs}
use Rattle.text.proofs.PackedLaws.{open_number}
use Rattle.text.proofs.edges.open_general.Goals as goal
use Rattle.text.proofs.edges.open_general.Goals.{Joined-at-text, then-at-text+then-count-lt-MAX_NODES+then-left-gt0+in_default, else-at-text}

pub edge_row-requires : goal.edge_row-requires
edge_row-requires c =
    let p = c.requires in
    (p.1, c.if-at-text.true, p.2 _ c.if-count-lt-MAX_NODES.true (omega (arith, p.3, letters_all c.args.text.now c.args.at)), p.4)

pub returns-in-Some : goal.returns-in-Some
returns-in-Some c =
    let a = c.args in
    let o = subst (QuickIs (form_of a.form) (kind_at a.kind) a.text.now a.at a.nodes.now _ a.count) c.in-Some.is c.edge_row.ensures in
    let b = o.opens.is a.left a.count c.if-count-lt-MAX_NODES.true c.if-left-gt0.true in
    let n : row_of ((c.in-Some.row.next + 1) * 64 + c.from.result) ≡ Ok c.in-Some.row = rw c.from.ensures (open_number _ _ (omega (arith, o.children, b.small.0, b.small.1, b.small.2))) in
    subst (RowIs (form_of a.form) a.left (kind_at a.kind) a.text.now a.at a.nodes.now _ a.count) (sym n)
    (record { head = o.head; begun = b; behind = o.behind; children = o.children; row = o.row })

-- nothing was written where no node was opened
same : (c : Joined-at-text) → c.if-at-text.nodes ≡ c.args.nodes.now
same c =
    let a = c.args in
    elim c.if-at-text.branch [
      | then-at-text+then-count-lt-MAX_NODES+then-left-gt0+in_default w ↦ w.nodes-is ∙ w.in_default.ensures
      | else-at-text w ↦ w.nodes-is
    ]

pub open_by_table-requires : goal.open_by_table-requires
open_by_table-requires c =
    let a = c.args in
    let e = same (goal.at.open_by_table-requires c).Joined-at-text in
    let p = c.requires in
    (p.0, p.1, subst (Roomy a.text.now) (sym e) p.2, p.3, p.4, p.5)
