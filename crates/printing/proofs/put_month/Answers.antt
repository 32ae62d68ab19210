use borrow.Author.Rules.{rules}
use lib.ListN.{length}
use mathlib.Core.Path.{ap}
use native.Mathlib.Omega.{arith}
use Rattle.language.specs.Text.Number.{print_nat}
use Rattle.printing.proofs.Copying.{again_room, line_marked, line_put, numbers_room, same_numbers}
use Rattle.printing.specs.Lines.{month_text, numbers_text}
use Rattle.writer.proofs.Puts.{kept, room_first, said}
use Rattle.printing.proofs.put_month.Goals as goal

pub put_hundreds-a-requires : goal.put_hundreds-a-requires
unfolding month_text
put_hundreds-a-requires c =
    let a = c.args in
    let r = room_first a.at (length a.out.now) (print_nat a.m) (numbers_text a.column.now a.rest.now a.m) c.requires.3 in
    (omega (arith, c.requires.2, c.requires.6), c.requires.5, omega (arith, r, ap (λ x. length (print_nat x)) c.requires.6), c.requires.4)

pub put_again-b-requires : goal.put_again-b-requires
put_again-b-requires c =
    let a = c.args in
    let p = c.put_hundreds-a.ensures a.m c.requires.6 in
    let g = c.is_again.ensures c.if-is_again.true in
    let w = again_room a.column.now a.rest.now a.m p c.requires.3 c.requires.7 (c.requires.8 g.0) g.2 g.3 in
    (w.0, w.1, g.1)

pub shape_of-out-then-is_again : goal.shape_of-out-then-is_again
shape_of-out-then-is_again c =
    let a = c.args in
    let p = c.put_hundreds-a.ensures a.m c.requires.6 in
    let g = c.is_again.ensures c.if-is_again.true in
    kept (line_put a.column.now a.rest.now a.m p c.requires.3 (said (same_numbers a.column.now a.rest.now a.m p c.requires.3 c.requires.7 (c.requires.8 g.0) g.2 g.3) c.put_again-b.ensures))

pub returns-then-is_again : goal.returns-then-is_again
returns-then-is_again c =
    let a = c.args in
    let p = c.put_hundreds-a.ensures a.m c.requires.6 in
    let g = c.is_again.ensures c.if-is_again.true in
    let q = said (same_numbers a.column.now a.rest.now a.m p c.requires.3 c.requires.7 (c.requires.8 g.0) g.2 g.3) c.put_again-b.ensures in
    (line_put a.column.now a.rest.now a.m p c.requires.3 q, (line_marked a.column.now a.rest.now a.m p c.requires.3 q).0, (line_marked a.column.now a.rest.now a.m p c.requires.3 q).1)

pub put_numbers-c-requires : goal.put_numbers-c-requires
put_numbers-c-requires c =
    let a = c.args in
    let p = c.put_hundreds-a.ensures a.m c.requires.6 in
    (c.requires.0, c.requires.1, numbers_room a.column.now a.rest.now a.m p c.requires.3, c.requires.4)

pub shape_of-out : goal.shape_of-out
shape_of-out c =
    let a = c.args in
    let p = c.put_hundreds-a.ensures a.m c.requires.6 in
    kept (line_put a.column.now a.rest.now a.m p c.requires.3 c.put_numbers-c.ensures)

pub returns : goal.returns
returns c =
    let a = c.args in
    let p = c.put_hundreds-a.ensures a.m c.requires.6 in
    let q = c.put_numbers-c.ensures in
    (line_put a.column.now a.rest.now a.m p c.requires.3 q, (line_marked a.column.now a.rest.now a.m p c.requires.3 q).0, (line_marked a.column.now a.rest.now a.m p c.requires.3 q).1)
