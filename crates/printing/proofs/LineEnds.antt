-- Parts of a line one after the other, and the line feed behind the last.
use Prim.Native.Nat.{◌+◌, ◌<◌, ◌≤◌, ℕ}
use lib.IntN.{ℤ}
use lib.ListN.{length, set}
use mathlib.Core.List.{List, ◌++◌}
use native.Mathlib.Omega.{arith}
use Rattle.printing.specs.Lines.{new_line, numbers_text}
use Rattle.writer.proofs.Puts.{one, room_first, room_next, then}
use Rattle.writer.specs.Put.{Put}
use Rattle.writer.specs.Shapes.{number_field}
use Rattle.writer.specs.Written.{slot}

-- the last part
module _ (C old : List ℕ) (i : ℕ) (r : i + length (C ++ new_line) ≤ length old) where
  pub last_room : i + length C ≤ length old
  last_room = room_first i (length old) C new_line r

  module _ {out : List ℕ} {j : ℕ} (p : Put old out i j C) where
    pub feed_room : j < length out
    feed_room = omega (arith, room_next new_line r p)

    pub ended : Put old (set out j 10) i (j + 1) (C ++ new_line)
    ended = then p (one out j 10)

-- a part in front of it
module _ (B C old : List ℕ) (i : ℕ) (r : i + length (B ++ (C ++ new_line)) ≤ length old) where
  pub second_room : i + length B ≤ length old
  second_room = room_first i (length old) B (C ++ new_line) r

  pub rest_room : {out : List ℕ} {j : ℕ} → Put old out i j B → j + length (C ++ new_line) ≤ length out
  rest_room p = room_next (C ++ new_line) r p

-- and one in front of both
module _ (A B C old : List ℕ) (i : ℕ) (r : i + length (A ++ (B ++ (C ++ new_line))) ≤ length old) where
  pub first_room : i + length A ≤ length old
  first_room = room_first i (length old) A (B ++ (C ++ new_line)) r

  pub later_room : {out : List ℕ} {j : ℕ} → Put old out i j A → j + length (B ++ (C ++ new_line)) ≤ length out
  later_room p = room_next (B ++ (C ++ new_line)) r p

-- ---- the numbers of a line, and its end

module _ (column rest : List ℤ) (m : ℕ) where
  abbrev pence : List ℕ
  pence = number_field (slot column m)

  abbrev value : List ℕ
  value = number_field (slot rest m)

  module _ (old : List ℕ) (i : ℕ) (r : i + length (numbers_text column rest m) ≤ length old) where
    room : i + length (pence ++ (value ++ new_line)) ≤ length old
    unfolding numbers_text
    room = r

    pub pence_room : i + length pence ≤ length old
    pence_room = second_room pence value old i room

    module _ {out : List ℕ} {j : ℕ} (p : Put old out i j pence) where
      left : j + length (value ++ new_line) ≤ length out
      left = rest_room pence value old i room p

      pub value_room : j + length value ≤ length out
      value_room = last_room value out j left

      module _ {new : List ℕ} {k : ℕ} (q : Put out new j k value) where
        pub end_room : k < length new
        end_room = feed_room value out j left q

        pub numbers_put : Put old (set new k 10) i (k + 1) (numbers_text column rest m)
        unfolding numbers_text
        numbers_put = then p (ended value out j left q)
