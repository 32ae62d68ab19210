use native.Mathlib.Omega.{arith}
use Rattle.text.proofs.LetterCounts.{letters_all}
use Rattle.text.proofs.whole.open_row.Goals as goal

pub quick_row-requires : goal.quick_row-requires
quick_row-requires c =
    let p = c.requires in
    let q = c.stands_at.ensures c.if-stands_at.true in
    (q.0, q.1, p.2 _ (omega arith) (omega (arith, p.3, letters_all c.args.text.now c.args.at)), p.4)

pub open_general-requires : goal.open_general-requires
open_general-requires c =
    let p = c.requires in
    (p.0, p.1, λ n h k. omega (arith, p.2 n h k), p.3, p.4, p.5)
