use Rattle.fields.specs.Classes.{class_of}
use Rattle.fields.specs.Fields.{classes_of_two}
use Rattle.fields.proofs.FieldLaws.{are_tried}
use Rattle.fields.proofs.slots.quick_transfer.Goals as goal

pub returns : goal.returns
unfolding classes_of_two class_of
returns c = are_tried _ _ _ c.month_first.result c.month_first.ensures
