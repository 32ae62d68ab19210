-- What is known at a payoff's node once its letter is: the payoff that stands there, that its parts stand, that its fields are in range, and where its rows stand.
use Prim.Native.Nat.{◌+◌, ◌-◌, ◌<◌, suc, zero, ℕ}
use lib.IntN.{ℤ}
use mathlib.Core.List.{List}
use mathlib.Core.Path.{◌∙◌, ◌≡◌, subst, sym}
use native.Mathlib.Omega.{arith}
use Rattle.language.specs.Limits.{max_nodes}
use Rattle.language.specs.Text.Trees.{Payoff}
use Rattle.nodes.specs.Blocks.{AmountBlock, PayoffBlocks, TestBlock}
use Rattle.nodes.specs.Found.{amount_at, offset_of, payoff_at, payoff_by, test_at}
use Rattle.nodes.specs.Letters.{letter_of_payoff}
use Rattle.nodes.specs.Stands.{AmountStands, Forward, PayoffStands, TestStands, payoff_asks}
use Rattle.nodes.specs.Table.{RowIn, link_at, nat_of, slot_at}
use Rattle.nodes.specs.declared.PayoffLetter.{PayoffLetter}
use Rattle.worths.specs.Ranges.{FieldsIn}

-- the payoff that a letter makes of a node's row and parts, with `left` levels left at the node
abbrev pub payoff_of : List ℤ → ℕ → ℕ → PayoffLetter → Payoff ℕ ℤ
payoff_of nodes left at l =
    payoff_by l (nat_of (slot_at nodes at 1)) (slot_at nodes at 1) (slot_at nodes at 3) (slot_at nodes at 4)
    (amount_at offset_of max_nodes nodes (at + 1))
    (test_at offset_of max_nodes nodes (at + 1))
    (payoff_at nat_of offset_of (left - 1) nodes (at + 1))
    (payoff_at nat_of offset_of (left - 1) nodes (link_at nodes at 3))
    (payoff_at nat_of offset_of (left - 1) nodes (link_at nodes at 4))

-- what the letter asks of the parts
abbrev pub payoff_stands_by : List ℤ → ℕ → ℕ → PayoffLetter → Type 0
payoff_stands_by nodes left at l =
    payoff_asks l
    (AmountStands max_nodes nodes (at + 1))
    (TestStands max_nodes nodes (at + 1))
    (PayoffStands (left - 1) nodes (at + 1))
    (Forward nodes at 3 × PayoffStands (left - 1) nodes (link_at nodes at 3))
    (Forward nodes at 4 × PayoffStands (left - 1) nodes (link_at nodes at 4))

-- the rows of an amount or test below it stand together
abbrev pub payoff_blocks_by : List ℤ → ℕ → ℕ → PayoffLetter → Type 0
payoff_blocks_by nodes left at l =
    payoff_asks l
    (AmountBlock max_nodes nodes (at + 1) (link_at nodes at 3))
    (TestBlock max_nodes nodes (at + 1) (link_at nodes at 3))
    (PayoffBlocks (left - 1) nodes (at + 1))
    (PayoffBlocks (left - 1) nodes (link_at nodes at 3))
    (PayoffBlocks (left - 1) nodes (link_at nodes at 4))

pub record PayoffNode (nodes : List ℤ) (left at : ℕ) (l : PayoffLetter) : Type 0 where
  pub some : 0 < left
  pub inside : RowIn nodes at
  pub stands : payoff_stands_by nodes left at l
  pub tree : payoff_at nat_of offset_of left nodes at ≡ payoff_of nodes left at l
  pub range : FieldsIn (payoff_of nodes left at l)
  pub blocks : payoff_blocks_by nodes left at l

less_one : (n : ℕ) → suc n - 1 ≡ n
less_one n = omega arith

at_payoff : (nodes : List ℤ) (left at : ℕ) → PayoffStands left nodes at → FieldsIn (payoff_at nat_of offset_of left nodes at) → PayoffBlocks left nodes at
    → PayoffNode nodes left at (letter_of_payoff (slot_at nodes at 0))
unfolding PayoffStands payoff_at PayoffBlocks
at_payoff nodes zero at h g b = absurd h
at_payoff nodes (suc left) at h g b =
    record { some = omega arith; inside = h.0; stands = rw (less_one left) h.1; tree = rw (less_one left); range = rw (less_one left) g; blocks = rw (less_one left) b }

pub payoff_inside : (nodes : List ℤ) (left at : ℕ) → PayoffStands left nodes at → RowIn nodes at
unfolding PayoffStands
payoff_inside nodes zero at h = absurd h
payoff_inside nodes (suc left) at h = h.0

-- l is the letter that the code finds, k that of the arm
pub payoff_node : {nodes : List ℤ} {left at : ℕ} → PayoffStands left nodes at → FieldsIn (payoff_at nat_of offset_of left nodes at) → PayoffBlocks left nodes at
    → {l k : PayoffLetter} → l ≡ letter_of_payoff (slot_at nodes at 0) → l ≡ k → PayoffNode nodes left at k
payoff_node {nodes} {left} {at} h g b el e = subst (PayoffNode nodes left at) (sym el ∙ e) (at_payoff nodes left at h g b)
