use Prim.Native.Nat.{◌+◌, ◌-◌, ◌<◌, ◌≤◌}
use borrow.Author.Rules.{rules}
use lib.ListN.{length}
use mathlib.Core.List.{List}
use mathlib.Core.List.{◌++◌}
use mathlib.Core.Path.{◌∙◌, ap, sym}
use native.Mathlib.Omega.{arith}
use Rattle.language.specs.Text.Fields.{bytes}
use Rattle.language.specs.Text.Number.{print_nat}
use Rattle.printing.proofs.LineEnds.{ended, feed_room, first_room, last_room, later_room, rest_room, second_room}
use Rattle.printing.specs.Lines.{head_text, month_text, new_line, refusal_text}
use Rattle.writer.proofs.Puts.{kept, then}
use Rattle.writer.specs.Shapes.{number_field}
use Rattle.writer.specs.Written.{slot}
use Rattle.printing.proofs.put_head.Goals as goal

pub put_word-a-requires : goal.put_word-a-requires
unfolding head_text bytes
put_word-a-requires c =
    let A = bytes "accepted" in
    let B = number_field (slot c.args.head.now 0) in
    let C = number_field (slot c.args.head.now 1) in
    let o = c.args.out.now in
    let r : 0 + length (A ++ (B ++ (C ++ new_line))) ≤ length o = omega (arith, c.requires.1) in
    first_room A B C o _ r

pub put_field-b-requires : goal.put_field-b-requires
unfolding head_text bytes
put_field-b-requires c =
    let A = bytes "accepted" in
    let B = number_field (slot c.args.head.now 0) in
    let C = number_field (slot c.args.head.now 1) in
    let o = c.args.out.now in
    let r : 0 + length (A ++ (B ++ (C ++ new_line))) ≤ length o = omega (arith, c.requires.1) in
    let l1 = later_room A B C o _ r c.put_word-a.ensures in
    let o1 = c.put_word-a.new.out in
    let i1 = c.put_word-a.result in
    (omega (arith, c.requires.0), second_room B C o1 i1 l1)

pub put_field-c-requires : goal.put_field-c-requires
unfolding head_text bytes
put_field-c-requires c =
    let A = bytes "accepted" in
    let B = number_field (slot c.args.head.now 0) in
    let C = number_field (slot c.args.head.now 1) in
    let o = c.args.out.now in
    let r : 0 + length (A ++ (B ++ (C ++ new_line))) ≤ length o = omega (arith, c.requires.1) in
    let l1 = later_room A B C o _ r c.put_word-a.ensures in
    let o1 = c.put_word-a.new.out in
    let i1 = c.put_word-a.result in
    let l2 = rest_room B C o1 i1 l1 c.put_field-b.ensures in
    let o2 = c.put_field-b.new.out in
    let i2 = c.put_field-b.result in
    (omega (arith, c.requires.0), last_room C o2 i2 l2)

pub bounds-out-c : goal.bounds-out-c
unfolding head_text bytes
bounds-out-c c =
    let A = bytes "accepted" in
    let B = number_field (slot c.args.head.now 0) in
    let C = number_field (slot c.args.head.now 1) in
    let o = c.args.out.now in
    let r : 0 + length (A ++ (B ++ (C ++ new_line))) ≤ length o = omega (arith, c.requires.1) in
    let l1 = later_room A B C o _ r c.put_word-a.ensures in
    let o1 = c.put_word-a.new.out in
    let i1 = c.put_word-a.result in
    let l2 = rest_room B C o1 i1 l1 c.put_field-b.ensures in
    let o2 = c.put_field-b.new.out in
    let i2 = c.put_field-b.result in
    feed_room C o2 i2 l2 c.put_field-c.ensures

pub overflow_add-result : goal.overflow_add-result
unfolding head_text bytes
overflow_add-result c =
    let A = bytes "accepted" in
    let B = number_field (slot c.args.head.now 0) in
    let C = number_field (slot c.args.head.now 1) in
    let o = c.args.out.now in
    let r : 0 + length (A ++ (B ++ (C ++ new_line))) ≤ length o = omega (arith, c.requires.1) in
    let l1 = later_room A B C o _ r c.put_word-a.ensures in
    let o1 = c.put_word-a.new.out in
    let i1 = c.put_word-a.result in
    let l2 = rest_room B C o1 i1 l1 c.put_field-b.ensures in
    let o2 = c.put_field-b.new.out in
    let i2 = c.put_field-b.result in
    let h = feed_room C o2 i2 l2 c.put_field-c.ensures in
    search rules

pub shape_of-out : goal.shape_of-out
unfolding head_text bytes
shape_of-out c =
    let A = bytes "accepted" in
    let B = number_field (slot c.args.head.now 0) in
    let C = number_field (slot c.args.head.now 1) in
    let o = c.args.out.now in
    let r : 0 + length (A ++ (B ++ (C ++ new_line))) ≤ length o = omega (arith, c.requires.1) in
    let l1 = later_room A B C o _ r c.put_word-a.ensures in
    let o1 = c.put_word-a.new.out in
    let i1 = c.put_word-a.result in
    let l2 = rest_room B C o1 i1 l1 c.put_field-b.ensures in
    let o2 = c.put_field-b.new.out in
    let i2 = c.put_field-b.result in
    kept (then c.put_word-a.ensures (then c.put_field-b.ensures (ended C o2 i2 l2 c.put_field-c.ensures)))

pub returns : goal.returns
unfolding head_text bytes
returns c =
    let A = bytes "accepted" in
    let B = number_field (slot c.args.head.now 0) in
    let C = number_field (slot c.args.head.now 1) in
    let o = c.args.out.now in
    let r : 0 + length (A ++ (B ++ (C ++ new_line))) ≤ length o = omega (arith, c.requires.1) in
    let l1 = later_room A B C o _ r c.put_word-a.ensures in
    let o1 = c.put_word-a.new.out in
    let i1 = c.put_word-a.result in
    let l2 = rest_room B C o1 i1 l1 c.put_field-b.ensures in
    let o2 = c.put_field-b.new.out in
    let i2 = c.put_field-b.result in
    then c.put_word-a.ensures (then c.put_field-b.ensures (ended C o2 i2 l2 c.put_field-c.ensures))
