use mir.Facts.{to_z-of_z}
use mathlib.Core.Path.{refl}
use Rattle.copies.proofs.Appending.{appended_as, row_of_lem}
use Rattle.copies.proofs.put_letter.Goals as goal

pub returns : goal.returns
returns c =
    appended_as (row_of_lem (to_z-of_z c.ranges.letter) refl refl refl refl) c.put_row.ensures
