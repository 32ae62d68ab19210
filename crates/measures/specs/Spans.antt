-- The offsets that can be read from a node that may stand in several months.
use Rattle.std.specs.Prelude.{◌*◌, ◌+◌, ◌≤◌, ℕ, ◌+ℤ◌, ◌-ℤ◌, nat_abs, pos, ℤ, length, ◌≡◌}
use Rattle.language.specs.Limits.{max_months}
use Rattle.language.specs.Rules.Table.{Table}
use Rattle.measures.specs.declared.reads.Window.{Window}

-- offsets from low to high are those that can be read in the table from every month from a to z
pub record Seen (low high : ℤ) (labels : ℕ) (t : Table) (a z : ℕ) : Type 0 where
  pub order : a ≤ z
  pub least : low ≡ pos 0 -ℤ (t.h +ℤ pos a)
  pub greatest : high ≡ t.f -ℤ pos z
  pub labelled : labels ≡ length t.bounds

-- two offsets with room for `left` more delays: at the start they are within 1,200 of zero, and 32 delays of 600 make 19,200
pub record Near (left : ℕ) (low high : ℤ) : Type 0 where
  pub low_room : nat_abs low + max_months * left ≤ 30_000
  pub high_room : nat_abs high + max_months * left ≤ 30_000

-- these offsets and labels as one window
abbrev pub window_for : ℤ → ℤ → ℕ → Window
window_for low high labels = record { low = low; high = high; labels = labels }
