-- A payoff that lies in the table is found there, and a walk of it stays in the table.
use Prim.Native.Nat.{◌+◌, ◌≤◌, suc, zero, ℕ}
use lib.IntN.{pos, ℤ}
use lib.ListN.{get_or}
use mathlib.Core.List.{List, [], ◌∷◌}
use mathlib.Core.Path.{◌∙◌, ◌≡◌, ap, ap₂, refl}
use native.Mathlib.Omega.{arith}
use Rattle.language.specs.Limits.{max_nodes}
use Rattle.language.specs.Text.Classes.{a_delay, a_month, a_number}
use Rattle.language.specs.Text.Letters.{PayoffLetter, of_root, payoff_form, payoff_row, row_of}
use Rattle.language.specs.Text.PayoffForm.{MonthField, depth_of_payoff, fields_of_payoff}
use Rattle.language.specs.Text.Plans.{Written, payoff_trees}
use Rattle.language.specs.Text.Reader.{Trees, end}
use Rattle.language.specs.Text.Trees.{Month, await, cut, leaf, nil, plus, times, uncut}
use Rattle.language.specs.Text.Typed.{amount_tree, test_tree}
use Rattle.nodes.proofs.AmountsFound.{Finds, amount_first, amount_found, byte_at, room, second_at, test_first, test_found, third_at}
use Rattle.nodes.proofs.Laid.{IsNode, Laid, inner, laid_slot}
use Rattle.nodes.proofs.PlansFound.{delay_back}
use Rattle.nodes.proofs.Settings.{settings_back}
use Rattle.nodes.specs.Found.{payoff_at}
use Rattle.nodes.specs.Letters.{letter_of_payoff}
use Rattle.nodes.specs.Rows.{behind_first, delay_from, field_slots, last_slots, month_from, settings_slot, slots_of}
use Rattle.nodes.specs.Stands.{PayoffStands}
use Rattle.nodes.specs.Table.{link_at, nat_of}

pub payoff_first : (x : Written) (r : Trees PayoffLetter) → IsNode (payoff_trees x r) × (behind_first (payoff_trees x r) ≡ r)
unfolding payoff_trees behind_first
payoff_first nil r = (tt, refl)
payoff_first (leaf k m p q) r = (tt, refl)
payoff_first (times a x) r = (tt, refl)
payoff_first (plus x y) r = (tt, refl)
payoff_first (await d t x y) r = (tt, refl)

-- a month comes back from its two numbers
month_back : (m : Month) → MonthField m → month_from m.plain (pos (settings_slot m.settings)) ≡ m
month_back m h = ap (λ ks. record { plain = m.plain; settings = ks }) (settings_back m.settings h.sorted h.count)

index_back : (l : ℕ) (m : Month) → MonthField m → month_from (get_or (slots_of (a_number (pos l) ∷ a_month m ∷ [])) 1 (pos 0)) (get_or (slots_of (a_number (pos l) ∷ a_month m ∷ [])) 2 (pos 0)) ≡ m
unfolding slots_of field_slots
index_back l m h = month_back m h

module _ (nodes : List ℤ) where
  pub payoff_found : (x : Written) (r : Trees PayoffLetter) (at left : ℕ) → Laid payoff_form nodes at (payoff_trees x r) → fields_of_payoff x → depth_of_payoff x ≤ left → left ≤ max_nodes
      → Finds (payoff_at delay_from month_from left nodes at) x (PayoffStands left nodes at)
  unfolding payoff_at PayoffStands payoff_trees depth_of_payoff fields_of_payoff letter_of_payoff row_of payoff_row slots_of field_slots last_slots
  payoff_found nil r at zero h g d b = absurd (omega arith)
  payoff_found nil r at (suc left) h g d b =
      let e = byte_at payoff_form nodes (of_root PayoffLetter.Z) [] end h in
      record { is = rw e refl; safe = (room payoff_form nodes (of_root PayoffLetter.Z) [] end h, rw e tt) }
  payoff_found (leaf uncut m p q) r at zero h g d b = absurd (omega arith)
  payoff_found (leaf uncut m p q) r at (suc left) h g d b =
      let l = of_root PayoffLetter.F in
      let fs = a_month m ∷ a_number (pos p) ∷ a_number (pos q) ∷ [] in
      let e = byte_at payoff_form nodes l fs end h in
      let w = ap₂ month_from (laid_slot payoff_form nodes l fs h 1 (omega arith)) (laid_slot payoff_form nodes l fs h 2 (omega arith)) ∙ month_back m g.0 in
      record {
        is = rw e (ap₂ (λ (f : ℕ → Written) (z : ℕ). f z) (ap₂ (λ i y. leaf uncut i (nat_of y)) w (laid_slot payoff_form nodes l fs h 3 (omega arith))) (ap nat_of (laid_slot payoff_form nodes l fs h 4 (omega arith))));
        safe = (room payoff_form nodes l fs end h, rw e tt);
      }
  payoff_found (leaf cut m p q) r at zero h g d b = absurd (omega arith)
  payoff_found (leaf cut m p q) r at (suc left) h g d b =
      let l = of_root PayoffLetter.H in
      let fs = a_month m ∷ a_number (pos p) ∷ a_number (pos q) ∷ [] in
      let e = byte_at payoff_form nodes l fs end h in
      let w = ap₂ month_from (laid_slot payoff_form nodes l fs h 1 (omega arith)) (laid_slot payoff_form nodes l fs h 2 (omega arith)) ∙ month_back m g.0 in
      record {
        is = rw e (ap₂ (λ (f : ℕ → Written) (z : ℕ). f z) (ap₂ (λ i y. leaf cut i (nat_of y)) w (laid_slot payoff_form nodes l fs h 3 (omega arith))) (ap nat_of (laid_slot payoff_form nodes l fs h 4 (omega arith))));
        safe = (room payoff_form nodes l fs end h, rw e tt);
      }
  payoff_found (times a x) r at zero h g d b = absurd (omega arith)
  payoff_found (times a x) r at (suc left) h g d b =
      let l = of_root PayoffLetter.S in
      let below = amount_tree a_month a (payoff_trees x end) in
      let e = byte_at payoff_form nodes l [] below h in
      let i = inner payoff_form nodes l [] h (amount_first a_month a (payoff_trees x end)).0 in
      let u = amount_found payoff_form nodes a_month month_from MonthField index_back a (payoff_trees x end) (at + 1) max_nodes i.first g.0 (omega arith) in
      let y = payoff_found x end (link_at nodes at 3) left (second_at payoff_form nodes i (amount_first a_month a (payoff_trees x end)).1) g.1 (omega arith) (omega arith) in
      record { is = rw e (ap₂ times u.is y.is); safe = (room payoff_form nodes l [] below h, rw e (u.safe, (i.forward, y.safe))) }
  payoff_found (plus x y) r at zero h g d b = absurd (omega arith)
  payoff_found (plus x y) r at (suc left) h g d b =
      let l = of_root PayoffLetter.B in
      let below = payoff_trees x (payoff_trees y end) in
      let e = byte_at payoff_form nodes l [] below h in
      let i = inner payoff_form nodes l [] h (payoff_first x (payoff_trees y end)).0 in
      let u = payoff_found x (payoff_trees y end) (at + 1) left i.first g.0 (omega arith) (omega arith) in
      let w = payoff_found y end (link_at nodes at 3) left (second_at payoff_form nodes i (payoff_first x (payoff_trees y end)).1) g.1 (omega arith) (omega arith) in
      record { is = rw e (ap₂ plus u.is w.is); safe = (room payoff_form nodes l [] below h, rw e (u.safe, (i.forward, w.safe))) }
  payoff_found (await t c x y) r at zero h g d b = absurd (omega arith)
  payoff_found (await t c x y) r at (suc left) h g d b =
      let l = of_root PayoffLetter.W in
      let behind = payoff_trees x (payoff_trees y end) in
      let below = test_tree a_month c behind in
      let e = byte_at payoff_form nodes l (a_delay t ∷ []) below h in
      let i = inner payoff_form nodes l (a_delay t ∷ []) h (test_first a_month c behind).0 in
      let s = test_found payoff_form nodes a_month month_from MonthField index_back c behind (at + 1) max_nodes i.first g.1 (omega arith) in
      let u = payoff_found x (payoff_trees y end) (link_at nodes at 3) left (second_at payoff_form nodes i (test_first a_month c behind).1) g.2 (omega arith) (omega arith) in
      let w = payoff_found y end (link_at nodes at 4) left (third_at payoff_form nodes i (test_first a_month c behind).1 (payoff_first x (payoff_trees y end)).1) g.3 (omega arith) (omega arith) in
      record {
        is = rw e (ap₂ (λ f z. f z) (ap₂ (λ f z. f z) (ap₂ await (ap delay_from (laid_slot payoff_form nodes l (a_delay t ∷ []) h 1 (omega arith)) ∙ delay_back t) s.is) u.is) w.is);
        safe = (room payoff_form nodes l (a_delay t ∷ []) below h, rw e (s.safe, (i.forward, u.safe), (i.forward_again, w.safe)));
      }
