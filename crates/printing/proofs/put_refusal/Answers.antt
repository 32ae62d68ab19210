use Prim.Native.Nat.{◌+◌, ◌-◌, ◌<◌, ◌≤◌}
use borrow.Author.Rules.{rules}
use lib.ListN.{length}
use mathlib.Core.List.{◌++◌}
use mathlib.Core.Path.{◌∙◌, ap, sym}
use native.Mathlib.Omega.{arith}
use Rattle.language.specs.Text.Fields.{bytes}
use Rattle.printing.proofs.LineEnds.{ended, feed_room, last_room, rest_room, second_room}
use Rattle.printing.specs.Lines.{new_line, refusal_text}
use Rattle.writer.proofs.Puts.{kept, then}
use Rattle.writer.specs.Shapes.{number_field}
use Rattle.writer.specs.Written.{slot}
use Rattle.printing.proofs.put_refusal.Goals as goal

pub put_word-a-requires : goal.put_word-a-requires
unfolding refusal_text bytes
put_word-a-requires c =
    let B = bytes "refused" in
    let C = number_field (slot c.args.number.now 0) in
    let o = c.args.out.now in
    let r : 0 + length (B ++ (C ++ new_line)) ≤ length o = omega (arith, c.requires.1) in
    second_room B C o _ r

pub put_field-b-requires : goal.put_field-b-requires
unfolding refusal_text bytes
put_field-b-requires c =
    let B = bytes "refused" in
    let C = number_field (slot c.args.number.now 0) in
    let o = c.args.out.now in
    let r : 0 + length (B ++ (C ++ new_line)) ≤ length o = omega (arith, c.requires.1) in
    let l2 = rest_room B C o 0 r c.put_word-a.ensures in
    let o2 = c.put_word-a.new.out in
    let i2 = c.put_word-a.result in
    (omega (arith, c.requires.0), last_room C o2 i2 l2)

pub bounds-out-b : goal.bounds-out-b
unfolding refusal_text bytes
bounds-out-b c =
    let B = bytes "refused" in
    let C = number_field (slot c.args.number.now 0) in
    let o = c.args.out.now in
    let r : 0 + length (B ++ (C ++ new_line)) ≤ length o = omega (arith, c.requires.1) in
    let l2 = rest_room B C o 0 r c.put_word-a.ensures in
    let o2 = c.put_word-a.new.out in
    let i2 = c.put_word-a.result in
    feed_room C o2 i2 l2 c.put_field-b.ensures

pub overflow_add-result : goal.overflow_add-result
unfolding refusal_text bytes
overflow_add-result c =
    let B = bytes "refused" in
    let C = number_field (slot c.args.number.now 0) in
    let o = c.args.out.now in
    let r : 0 + length (B ++ (C ++ new_line)) ≤ length o = omega (arith, c.requires.1) in
    let l2 = rest_room B C o 0 r c.put_word-a.ensures in
    let o2 = c.put_word-a.new.out in
    let i2 = c.put_word-a.result in
    let h = feed_room C o2 i2 l2 c.put_field-b.ensures in
    search rules

pub shape_of-out : goal.shape_of-out
unfolding refusal_text bytes
shape_of-out c =
    let B = bytes "refused" in
    let C = number_field (slot c.args.number.now 0) in
    let o = c.args.out.now in
    let r : 0 + length (B ++ (C ++ new_line)) ≤ length o = omega (arith, c.requires.1) in
    let l2 = rest_room B C o 0 r c.put_word-a.ensures in
    let o2 = c.put_word-a.new.out in
    let i2 = c.put_word-a.result in
    kept (then c.put_word-a.ensures (ended C o2 i2 l2 c.put_field-b.ensures))

pub returns : goal.returns
unfolding refusal_text bytes
returns c =
    let B = bytes "refused" in
    let C = number_field (slot c.args.number.now 0) in
    let o = c.args.out.now in
    let r : 0 + length (B ++ (C ++ new_line)) ≤ length o = omega (arith, c.requires.1) in
    let l2 = rest_room B C o 0 r c.put_word-a.ensures in
    let o2 = c.put_word-a.new.out in
    let i2 = c.put_word-a.result in
    then c.put_word-a.ensures (ended C o2 i2 l2 c.put_field-b.ensures)
