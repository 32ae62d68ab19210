use borrow.Author.Rules.{rules}
use Rattle.printing.proofs.LineEnds.{end_room, numbers_put, pence_room, value_room}
use Rattle.writer.proofs.Puts.{kept}
use Rattle.printing.proofs.put_numbers.Goals as goal

pub put_field_by-b-requires : goal.put_field_by-b-requires
put_field_by-b-requires c =
    let a = c.args in
    (search rules, pence_room a.column.now a.rest.now a.m a.out.now a.at c.requires.2, c.requires.3)

pub put_field_by-c-requires : goal.put_field_by-c-requires
put_field_by-c-requires c =
    let a = c.args in
    (search rules, value_room a.column.now a.rest.now a.m a.out.now a.at c.requires.2 c.put_field_by-b.ensures, c.requires.3)

pub bounds-out-c : goal.bounds-out-c
bounds-out-c c =
    let a = c.args in
    end_room a.column.now a.rest.now a.m a.out.now a.at c.requires.2 c.put_field_by-b.ensures c.put_field_by-c.ensures

pub overflow_add-result : goal.overflow_add-result
overflow_add-result c =
    let a = c.args in
    let h = end_room a.column.now a.rest.now a.m a.out.now a.at c.requires.2 c.put_field_by-b.ensures c.put_field_by-c.ensures in
    search rules

pub shape_of-out : goal.shape_of-out
shape_of-out c =
    let a = c.args in
    kept (numbers_put a.column.now a.rest.now a.m a.out.now a.at c.requires.2 c.put_field_by-b.ensures c.put_field_by-c.ensures)

pub returns : goal.returns
returns c =
    let a = c.args in
    numbers_put a.column.now a.rest.now a.m a.out.now a.at c.requires.2 c.put_field_by-b.ensures c.put_field_by-c.ensures
