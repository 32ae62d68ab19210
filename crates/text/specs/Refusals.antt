-- The refusals, with document 01's numbers.
use Rattle.std.specs.Prelude.{ℕ}
use Rattle.text.specs.declared.Refusal.{Refusal}
use Rattle.text.specs.declared.Refusal.TheVariants.{Caller, Length, Magnitude, NoRoom, NotInTime, NotOfForm, OutOfRange, Reads, Settings, Table, TooDeep, TooLong, TooManyNodes, WrongKind}

abbrev pub number_of : Refusal → ℕ
number_of TooLong = 1
number_of NotOfForm = 2
number_of TooManyNodes = 3
number_of TooDeep = 4
number_of WrongKind = 5
number_of Magnitude = 6
number_of NotInTime = 7
number_of Settings = 8
number_of Table = 9
number_of Length = 10
number_of Reads = 11
number_of Caller = 12
number_of NoRoom = 13
number_of OutOfRange = 14
