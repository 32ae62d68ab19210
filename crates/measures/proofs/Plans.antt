-- A plan that can be walked: the plan at a node by its letter, and its parts can be walked too.
use Prim.Native.Nat.{◌+◌, ◌-◌, ◌<◌, ◌≤◌, suc, zero, ℕ}
use Rattle.language.specs.Limits.{max_depth, max_months, max_nodes}
use Rattle.language.specs.Text.Form.{fields_of, filled_in_form}
use Rattle.language.specs.Text.Trees.{Plan}
use Rattle.measures.proofs.Amounts.{one_less}
use Rattle.nodes.specs.Blocks.{AmountBlock, PlanBlocks, TestBlock}
use Rattle.measures.specs.Ready.{AmountReady, PlanReady, TestReady}
use Rattle.nodes.proofs.Signed.{key}
use Rattle.nodes.specs.Found.{amount_at, offset_of, plan_at, plan_by, test_at}
use Rattle.nodes.specs.Letters.{letter_of_plan}
use Rattle.nodes.specs.Stands.{AmountStands, Forward, PlanStands, TestStands, plan_asks}
use Rattle.nodes.specs.Table.{RowIn, link_at, nat_of, slot_at}
use Rattle.nodes.specs.declared.PlanLetter.TheVariants.{Both, Later, Nothing, Scale, Transfer, Within}
use Rattle.nodes.specs.declared.PlanLetter.{PlanLetter}
use lib.IntN.{ℤ}
use mathlib.Core.List.{List}
use mathlib.Core.Path.{◌∙◌, ◌≡◌, refl, subst, sym}
use mir.Syntax.{w64}
use mir.Val.{SFits, of_z}
use native.Mathlib.Omega.{arith}

-- the plan at a node with letter m, its parts one level down; `delay` makes a delay of its number
abbrev pub plan_here : {D : Type 0} → (ℤ → D) → PlanLetter → ℕ → List ℤ → ℕ → Plan D
plan_here delay m left nodes at =
    plan_by m (delay (slot_at nodes at 1)) (slot_at nodes at 1) (slot_at nodes at 2)
    (amount_at offset_of max_nodes nodes (at + 1))
    (test_at offset_of max_nodes nodes (at + 1))
    (plan_at delay left nodes (at + 1))
    (plan_at delay left nodes (link_at nodes at 3))
    (plan_at delay left nodes (link_at nodes at 4))

abbrev asks_here : PlanLetter → ℕ → List ℤ → ℕ → Type 0
asks_here m left nodes at =
    plan_asks m (AmountStands max_nodes nodes (at + 1)) (TestStands max_nodes nodes (at + 1)) (PlanStands left nodes (at + 1))
    (Forward nodes at 3 × PlanStands left nodes (link_at nodes at 3))
    (Forward nodes at 4 × PlanStands left nodes (link_at nodes at 4))

abbrev blocks_here : PlanLetter → ℕ → List ℤ → ℕ → Type 0
blocks_here m left nodes at =
    plan_asks m (AmountBlock max_nodes nodes (at + 1) (link_at nodes at 3)) (TestBlock max_nodes nodes (at + 1) (link_at nodes at 3))
    (PlanBlocks left nodes (at + 1)) (PlanBlocks left nodes (link_at nodes at 3)) (PlanBlocks left nodes (link_at nodes at 4))

step : {D : Type 0} (delay : ℤ → D) (left : ℕ) (nodes : List ℤ) (at : ℕ) → PlanStands left nodes at → plan_at delay left nodes at ≡ plan_here delay (letter_of_plan (slot_at nodes at 0)) (left - 1) nodes at
unfolding plan_at PlanStands
step delay zero nodes at s = absurd s
step delay (suc left) nodes at s = rw (one_less left)

asks : (left : ℕ) (nodes : List ℤ) (at : ℕ) → PlanStands left nodes at → (0 < left) × RowIn nodes at × asks_here (letter_of_plan (slot_at nodes at 0)) (left - 1) nodes at
unfolding PlanStands
asks zero nodes at s = absurd s
asks (suc left) nodes at s = rw (one_less left) (omega arith, s.0, s.1)

together : (left : ℕ) (nodes : List ℤ) (at : ℕ) → PlanBlocks left nodes at → blocks_here (letter_of_plan (slot_at nodes at 0)) (left - 1) nodes at
unfolding PlanBlocks
together zero nodes at b = absurd b
together (suc left) nodes at b = rw (one_less left) b

module _ {left at : ℕ} {nodes : List ℤ} (h : PlanReady left nodes at) where
  pub plan_some : 0 < left
  plan_some = (asks left nodes at h.stands).0

  pub plan_room : RowIn nodes at
  plan_room = (asks left nodes at h.stands).1

  shallow : left - 1 ≤ max_depth
  shallow = omega (arith, h.depth)

  -- l is the node's letter, m its name
  module _ {l m : PlanLetter} (e : l ≡ letter_of_plan (slot_at nodes at 0)) (t : l ≡ m) where
    named : letter_of_plan (slot_at nodes at 0) ≡ m
    named = sym e ∙ t

    pub plan_by_lem : {D : Type 0} (delay : ℤ → D) → plan_at delay left nodes at ≡ plan_here delay m (left - 1) nodes at
    plan_by_lem delay = step delay left nodes at h.stands ∙ rw named refl

    pub plan_is : plan_at nat_of left nodes at ≡ plan_here nat_of m (left - 1) nodes at
    plan_is = plan_by_lem nat_of

    asked : asks_here m (left - 1) nodes at
    asked = subst (λ k. asks_here k (left - 1) nodes at) named (asks left nodes at h.stands).2

    filled : fields_of filled_in_form (plan_here nat_of m (left - 1) nodes at)
    filled = subst (fields_of filled_in_form) plan_is h.fields

    stood : blocks_here m (left - 1) nodes at
    stood = subst (λ k. blocks_here k (left - 1) nodes at) named (together left nodes at h.blocks)

  module _ {l : PlanLetter} (e : l ≡ letter_of_plan (slot_at nodes at 0)) where
    pub scale_block : l ≡ Scale → AmountBlock max_nodes nodes (at + 1) (link_at nodes at 3)
    scale_block t = (stood e t).0

    pub within_block : l ≡ Within → TestBlock max_nodes nodes (at + 1) (link_at nodes at 3)
    within_block t = (stood e t).0

    pub scale_ready : l ≡ Scale → AmountReady max_nodes nodes (at + 1) × Forward nodes at 3 × PlanReady (left - 1) nodes (link_at nodes at 3)
    unfolding fields_of
    scale_ready t =
        let a = asked e t in
        let f = filled e t in
        let b = stood e t in
        (record { stands = a.0; fields = f.0 }, a.1.0, record { depth = shallow; stands = a.1.1; fields = f.1; blocks = b.1 })

    pub later_ready : l ≡ Later → (nat_of (slot_at nodes at 1) ≤ max_months) × PlanReady (left - 1) nodes (at + 1)
    unfolding fields_of
    later_ready t =
        let a = asked e t in
        let f = filled e t in
        let b = stood e t in
        (f.0, record { depth = shallow; stands = a; fields = f.1; blocks = b })

    pub both_ready : l ≡ Both → PlanReady (left - 1) nodes (at + 1) × Forward nodes at 3 × PlanReady (left - 1) nodes (link_at nodes at 3)
    unfolding fields_of
    both_ready t =
        let a = asked e t in
        let f = filled e t in
        let b = stood e t in
        (record { depth = shallow; stands = a.0; fields = f.0; blocks = b.0 }, a.1.0, record { depth = shallow; stands = a.1.1; fields = f.1; blocks = b.1 })

    pub within_ready : l ≡ Within → (nat_of (slot_at nodes at 1) ≤ max_months) × TestReady max_nodes nodes (at + 1)
        × (Forward nodes at 3 × PlanReady (left - 1) nodes (link_at nodes at 3)) × (Forward nodes at 4 × PlanReady (left - 1) nodes (link_at nodes at 4))
    unfolding fields_of
    within_ready t =
        let a = asked e t in
        let f = filled e t in
        let b = stood e t in (
          f.0,
          record { stands = a.0; fields = f.1 },
          (a.1.0, record { depth = shallow; stands = a.1.1; fields = f.2; blocks = b.1 }),
          (a.2.0, record { depth = shallow; stands = a.2.1; fields = f.3; blocks = b.2 }),
        )

-- ---- a transfer and a plan that pays nothing, by their keys

module _ {s x : ℤ} (f : SFits w64 s) (e : s ≡ x) where
  pub transfer_key : of_z w64 s ≡ 84 → letter_of_plan x ≡ Transfer
  unfolding letter_of_plan
  transfer_key k = rw (← e, key f k) refl

  pub nothing_key : of_z w64 s ≡ 90 → letter_of_plan x ≡ Nothing
  unfolding letter_of_plan
  nothing_key k = rw (← e, key f k) refl
