-- A node's row and its links.
use Rattle.std.specs.Prelude.{◌*◌, ◌+◌, ◌<◌, ◌≤◌, ℕ, negsuc, pos, ℤ, get_or, length, List}
use Rattle.language.specs.Limits.{max_nodes}

-- a number that is not below zero, else 0
abbrev pub nat_of : ℤ → ℕ
nat_of (pos n) = n
nat_of (negsuc n) = 0

-- number k of the row of node `at`
unfoldable pub slot_at : List ℤ → ℕ → ℕ → ℤ
slot_at nodes at k = get_or nodes (at * 5 + k) (pos 0)

-- the node that number k of the row leads to: the second child by 3, the third by 4
unfoldable pub link_at : List ℤ → ℕ → ℕ → ℕ
link_at nodes at k = at + nat_of (slot_at nodes at k)

-- the row of node `at` lies in the table
abbrev pub RowIn : List ℤ → ℕ → Type 0
RowIn nodes at = (at < max_nodes) × (5 * at + 5 ≤ length nodes)
