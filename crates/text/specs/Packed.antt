-- What was opened of a node, or its refusal, as one number.
use Rattle.std.specs.Prelude.{◌%◌, ◌-◌, ◌/◌, ℕ, eqb, leb, cond, Err, Ok, Result}
use Rattle.text.specs.declared.Refusal.{Refusal}
use Rattle.text.specs.declared.Refusal.TheVariants.{Caller, Length, Magnitude, NoRoom, NotInTime, NotOfForm, OutOfRange, Reads, Settings, Table, TooDeep, TooLong, TooManyNodes, WrongKind}
use Rattle.text.specs.declared.quick.Opened.{Opened}

-- the refusal of document 01's number
unfoldable pub refusal_for : ℕ → Refusal
refusal_for n =
    cond (eqb n 1) TooLong (cond (eqb n 2) NotOfForm (cond (eqb n 3) TooManyNodes (cond (eqb n 4) TooDeep (cond (eqb n 5) WrongKind
    (cond (eqb n 6) Magnitude (cond (eqb n 7) NotInTime (cond (eqb n 8) Settings (cond (eqb n 9) Table (cond (eqb n 10) Length
    (cond (eqb n 11) Reads (cond (eqb n 12) Caller (cond (eqb n 13) NoRoom OutOfRange))))))))))))

-- 64 times the byte behind a node's fields and one, and the kinds of its children in base 4; a number below 64 is a refusal's
unfoldable pub row_of : ℕ → Result Opened Refusal
row_of r = cond (leb 64 r) (Ok (record { next = r / 64 - 1; kids = r % 64 })) (Err (refusal_for r))
