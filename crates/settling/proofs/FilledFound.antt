-- A filled payoff that lies in the table is found there, and a walk of it stays in the table.
use Prim.Native.Nat.{◌+◌, ◌≤◌, suc, zero, ℕ}
use lib.IntN.{pos, ℤ}
use mathlib.Core.List.{List, [], ◌++◌, ◌∷◌}
use mathlib.Core.Path.{◌≡◌, ap, ap₂, refl}
use native.Mathlib.Omega.{arith}
use Rattle.language.specs.Limits.{max_depth, max_nodes}
use Rattle.language.specs.Payoff.Compile.{map_amount, map_test}
use Rattle.language.specs.Payoff.Evaluate.{fill_payoff, month_of}
use Rattle.language.specs.Rules.Settings.{delay_of}
use Rattle.language.specs.Rules.Table.{setting_at}
use Rattle.language.specs.Text.Classes.{a_delay, a_number}
use Rattle.language.specs.Text.Form.{depth_of_amount, depth_of_test, fields_of_amount, fields_of_test}
use Rattle.language.specs.Text.Letters.{PayoffLetter, of_root, payoff_form, payoff_row, row_of}
use Rattle.language.specs.Text.PayoffForm.{FormedPayoff, MonthField, depth_of_payoff, fields_of_payoff}
use Rattle.language.specs.Text.Plans.{Written}
use Rattle.language.specs.Text.Reader.{Trees, end, node}
use Rattle.language.specs.Text.Trees.{Amount, Mark, Month, Payoff, Test, await, cut, leaf, months, nil, plus, times, uncut}
use Rattle.language.specs.Text.Typed.{amount_tree, test_tree}
use Rattle.nodes.proofs.AmountsFound.{Finds, amount_first, amount_found, byte_at, room, second_at, test_first, test_found, third_at}
use Rattle.nodes.proofs.Counts.{payoff_rows}
use Rattle.nodes.proofs.Laid.{IsNode, Laid, inner, laid_slot}
use Rattle.nodes.specs.Found.{amount_at, offset_of, payoff_at, test_at}
use Rattle.nodes.specs.Letters.{letter_of_payoff}
use Rattle.nodes.specs.Rows.{behind_first, delay_slot, field_slots, last_slots, rows, slots_of}
use Rattle.nodes.specs.Stands.{AmountStands, PayoffStands, TestStands}
use Rattle.nodes.specs.Table.{link_at, nat_of, slot_at}
use Rattle.settling.proofs.MappedFields.{depth_amount, depth_test, fields_amount, fields_test}
use Rattle.settling.proofs.PayoffNodes.{plain_month}
use Rattle.settling.proofs.PayoffSettles.{filled_count, filled_trees}

-- nothing is asked of a plain month: it is found as it stands
abbrev any_month : ℤ → Type 0
any_month m = Unit {0}

month_back : (l : ℕ) (m : ℤ) → any_month m → ◌≡◌ {A = ℤ} m m
month_back l m g = refl

pub filled_first : (x : Payoff ℕ ℤ) (r : Trees PayoffLetter) → IsNode (filled_trees x r) × (behind_first (filled_trees x r) ≡ r)
unfolding filled_trees behind_first
filled_first nil r = (tt, refl)
filled_first (leaf k m p q) r = (tt, refl)
filled_first (times a x) r = (tt, refl)
filled_first (plus x y) r = (tt, refl)
filled_first (await d t x y) r = (tt, refl)

module _ (σ : ℕ → ℕ) (nodes : List ℤ) where
  module _ (at : ℕ) where
    amount_in : (a : Amount Month) (r : Trees PayoffLetter) → Laid payoff_form nodes at (amount_tree plain_month (map_amount (month_of σ) a) r) → fields_of_amount MonthField a → depth_of_amount a ≤ max_nodes
        → Finds (amount_at offset_of max_nodes nodes at) (map_amount (month_of σ) a) (AmountStands max_nodes nodes at)
    unfolding slots_of field_slots
    amount_in a r h g d =
        amount_found payoff_form nodes plain_month offset_of any_month month_back (map_amount (month_of σ) a) r at max_nodes h
        (fields_amount (month_of σ) MonthField any_month (λ m k. tt) a g) (omega (arith, depth_amount (month_of σ) a))

    test_in : (t : Test Month) (r : Trees PayoffLetter) → Laid payoff_form nodes at (test_tree plain_month (map_test (month_of σ) t) r) → fields_of_test MonthField t → depth_of_test t ≤ max_nodes
        → Finds (test_at offset_of max_nodes nodes at) (map_test (month_of σ) t) (TestStands max_nodes nodes at)
    unfolding slots_of field_slots
    test_in t r h g d =
        test_found payoff_form nodes plain_month offset_of any_month month_back (map_test (month_of σ) t) r at max_nodes h
        (fields_test (month_of σ) MonthField any_month (λ m k. tt) t g) (omega (arith, depth_test (month_of σ) t))

  delay_at : {at : ℕ} {c t : Trees PayoffLetter} (d : ℕ) → Laid payoff_form nodes at (node (of_root PayoffLetter.W) (a_delay (months d) ∷ []) c t) → nat_of (slot_at nodes at 1) ≡ d
  unfolding slots_of field_slots delay_slot
  delay_at d h = ap nat_of (laid_slot payoff_form nodes (of_root PayoffLetter.W) (a_delay (months d) ∷ []) h 1 (omega arith))

  -- a leaf's month and parties
  leaf_at : {at : ℕ} {t : Trees PayoffLetter} (l : PayoffLetter) (m : ℤ) (p q : ℕ) (k : Mark) → Laid payoff_form nodes at (node (of_root l) (plain_month m ∷ a_number (pos p) ∷ a_number (pos q) ∷ []) end t)
      → ◌≡◌ {A = Payoff ℕ ℤ} (leaf k (slot_at nodes at 1) (nat_of (slot_at nodes at 3)) (nat_of (slot_at nodes at 4))) (leaf k m p q)
  unfolding slots_of field_slots last_slots
  leaf_at l m p q k h =
      let fs = plain_month m ∷ a_number (pos p) ∷ a_number (pos q) ∷ [] in
      ap₂ (λ (f : ℕ → Payoff ℕ ℤ) (z : ℕ). f z) (ap₂ (λ i y. leaf k i (nat_of y)) (laid_slot payoff_form nodes (of_root l) fs h 1 (omega arith)) (laid_slot payoff_form nodes (of_root l) fs h 3 (omega arith))) (ap nat_of (laid_slot payoff_form nodes (of_root l) fs h 4 (omega arith)))

  filled_in : (x : Written) (r : Trees PayoffLetter) (at left : ℕ) → Laid payoff_form nodes at (filled_trees (fill_payoff σ x) r) → fields_of_payoff x → depth_of_payoff x ≤ left → left ≤ max_nodes
      → Finds (payoff_at nat_of offset_of left nodes at) (fill_payoff σ x) (PayoffStands left nodes at)
  unfolding payoff_at PayoffStands filled_trees fill_payoff depth_of_payoff fields_of_payoff letter_of_payoff row_of payoff_row
  filled_in nil r at zero h g d b = absurd (omega arith)
  filled_in nil r at (suc left) h g d b =
      let e = byte_at payoff_form nodes (of_root PayoffLetter.Z) [] end h in
      record { is = rw e refl; safe = (room payoff_form nodes (of_root PayoffLetter.Z) [] end h, rw e tt) }
  filled_in (leaf uncut m p q) r at zero h g d b = absurd (omega arith)
  filled_in (leaf uncut m p q) r at (suc left) h g d b =
      let l = of_root PayoffLetter.F in
      let fs = plain_month (month_of σ m) ∷ a_number (pos p) ∷ a_number (pos q) ∷ [] in
      let e = byte_at payoff_form nodes l fs end h in
      record { is = rw e (leaf_at PayoffLetter.F (month_of σ m) p q uncut h); safe = (room payoff_form nodes l fs end h, rw e tt) }
  filled_in (leaf cut m p q) r at zero h g d b = absurd (omega arith)
  filled_in (leaf cut m p q) r at (suc left) h g d b =
      let l = of_root PayoffLetter.H in
      let fs = plain_month (month_of σ m) ∷ a_number (pos p) ∷ a_number (pos q) ∷ [] in
      let e = byte_at payoff_form nodes l fs end h in
      record { is = rw e (leaf_at PayoffLetter.H (month_of σ m) p q cut h); safe = (room payoff_form nodes l fs end h, rw e tt) }
  filled_in (times a x) r at zero h g d b = absurd (omega arith)
  filled_in (times a x) r at (suc left) h g d b =
      let l = of_root PayoffLetter.S in
      let behind = filled_trees (fill_payoff σ x) end in
      let first = amount_first plain_month (map_amount (month_of σ) a) behind in
      let below = amount_tree plain_month (map_amount (month_of σ) a) behind in
      let e = byte_at payoff_form nodes l [] below h in
      let i = inner payoff_form nodes l [] h first.0 in
      let u = amount_in (at + 1) a behind i.first g.0 (omega arith) in
      let y = filled_in x end (link_at nodes at 3) left (second_at payoff_form nodes i first.1) g.1 (omega arith) (omega arith) in
      record { is = rw e (ap₂ times u.is y.is); safe = (room payoff_form nodes l [] below h, rw e (u.safe, (i.forward, y.safe))) }
  filled_in (plus x y) r at zero h g d b = absurd (omega arith)
  filled_in (plus x y) r at (suc left) h g d b =
      let l = of_root PayoffLetter.B in
      let behind = filled_trees (fill_payoff σ y) end in
      let first = filled_first (fill_payoff σ x) behind in
      let below = filled_trees (fill_payoff σ x) behind in
      let e = byte_at payoff_form nodes l [] below h in
      let i = inner payoff_form nodes l [] h first.0 in
      let u = filled_in x behind (at + 1) left i.first g.0 (omega arith) (omega arith) in
      let w = filled_in y end (link_at nodes at 3) left (second_at payoff_form nodes i first.1) g.1 (omega arith) (omega arith) in
      record { is = rw e (ap₂ plus u.is w.is); safe = (room payoff_form nodes l [] below h, rw e (u.safe, (i.forward, w.safe))) }
  filled_in (await t c x y) r at zero h g d b = absurd (omega arith)
  filled_in (await t c x y) r at (suc left) h g d b =
      let l = of_root PayoffLetter.W in
      let fs = a_delay (months (delay_of σ t)) ∷ [] in
      let last = filled_trees (fill_payoff σ y) end in
      let behind = filled_trees (fill_payoff σ x) last in
      let first = test_first plain_month (map_test (month_of σ) c) behind in
      let below = test_tree plain_month (map_test (month_of σ) c) behind in
      let e = byte_at payoff_form nodes l fs below h in
      let i = inner payoff_form nodes l fs h first.0 in
      let s = test_in (at + 1) c behind i.first g.1 (omega arith) in
      let u = filled_in x last (link_at nodes at 3) left (second_at payoff_form nodes i first.1) g.2 (omega arith) (omega arith) in
      let w = filled_in y end (link_at nodes at 4) left (third_at payoff_form nodes i first.1 (filled_first (fill_payoff σ x) last).1) g.3 (omega arith) (omega arith) in
      record {
        is = rw e (ap₂ (λ f z. f z) (ap₂ (λ f z. f z) (ap₂ await (delay_at (delay_of σ t) h) s.is) u.is) w.is);
        safe = (room payoff_form nodes l fs below h, rw e (s.safe, (i.forward, u.safe), (i.forward_again, w.safe)));
      }

-- ---- from node 0 on: the table in which a payoff in form was settled
module _ (days : List ℤ) (x : Written) (formed : FormedPayoff x) (nodes rest : List ℤ) (e : nodes ≡ rows payoff_form (filled_trees (fill_payoff (setting_at days) x) end) ++ rest) where
  pub filled_laid : Laid payoff_form nodes 0 (filled_trees (fill_payoff (setting_at days) x) end)
  filled_laid = record { rest = rest; is = e; room = omega (arith, filled_count days x rest formed.fields, payoff_rows x formed) }

  pub filled_found : Finds (payoff_at nat_of offset_of max_depth nodes 0) (fill_payoff (setting_at days) x) (PayoffStands max_depth nodes 0)
  filled_found = filled_in (setting_at days) nodes x end 0 max_depth filled_laid formed.fields formed.depth (omega arith)
