-- Laws of what was opened as one number.
use Prim.Native.Nat.{◌%◌, ◌*◌, ◌+◌, ◌-◌, ◌/◌, ◌<◌, ◌≤◌, ℕ}
use borrow.Author.Tests.{le-leb, lt-leb}
use mathlib.Core.Path.{◌≡◌, refl}
use native.Mathlib.Omega.{arith}
use Rattle.text.specs.Letters.{form_of}
use Rattle.text.specs.Packed.{refusal_for, row_of}
use Rattle.text.specs.Refusals.{number_of}
use Rattle.text.specs.declared.Refusal.{Refusal}
use Rattle.text.specs.declared.Refusal.TheVariants.{Caller, Length, Magnitude, NoRoom, NotInTime, NotOfForm, OutOfRange, Reads, Settings, Table, TooDeep, TooLong, TooManyNodes, WrongKind}
use Rattle.text.specs.declared.letters.TextForm.{TextForm}
use Rattle.text.specs.declared.letters.TextForm.TheVariants.{Payoff, Plan}
use Rattle.std.specs.Prelude.{Err, Ok}

pub open_of : (r : ℕ) → 64 ≤ r → row_of r ≡ Ok (record { next = r / 64 - 1; kids = r % 64 })
unfolding row_of
open_of r h = rw (le-leb 64 r h) refl

pub shut_of : (r : ℕ) → r < 64 → row_of r ≡ Err (refusal_for r)
unfolding row_of
shut_of r h = rw (lt-leb 64 r h) refl

pub open_number : (next kids : ℕ) → kids < 64 → row_of ((next + 1) * 64 + kids) ≡ Ok (record { next = next; kids = kids })
unfolding row_of
open_number next kids h =
    let m : ((next + 1) * 64 + kids) % 64 ≡ kids = omega arith in
    let d : ((next + 1) * 64 + kids) / 64 - 1 ≡ next = omega arith in
    rw (le-leb 64 ((next + 1) * 64 + kids) (omega arith), m, d) refl

pub shut_number : (k : Refusal) → row_of (number_of k) ≡ Err k
unfolding row_of refusal_for
shut_number TooLong = refl
shut_number NotOfForm = refl
shut_number TooManyNodes = refl
shut_number TooDeep = refl
shut_number WrongKind = refl
shut_number Magnitude = refl
shut_number NotInTime = refl
shut_number Settings = refl
shut_number Table = refl
shut_number Length = refl
shut_number Reads = refl
shut_number Caller = refl
shut_number NoRoom = refl
shut_number OutOfRange = refl

-- a text of either form fits
pub longest_small : (form : TextForm) → (form_of form).bytes ≤ 53760
longest_small Plan = omega arith
longest_small Payoff = omega arith
