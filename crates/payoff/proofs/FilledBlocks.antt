-- In a filled payoff that lies in the table, the rows of each amount and test stand together.
use Prim.Native.Nat.{◌+◌, ◌≤◌, suc, zero, ℕ}
use lib.IntN.{pos, ℤ}
use mathlib.Core.List.{List, [], ◌∷◌}
use mathlib.Core.Path.{subst, sym}
use native.Mathlib.Omega.{arith}
use Rattle.language.specs.Limits.{max_nodes}
use Rattle.language.specs.Payoff.Compile.{map_amount, map_test}
use Rattle.language.specs.Payoff.Evaluate.{fill_payoff, month_of}
use Rattle.language.specs.Rules.Settings.{delay_of}
use Rattle.language.specs.Text.Classes.{a_delay, a_number}
use Rattle.language.specs.Text.Letters.{PayoffLetter, of_root, payoff_form, payoff_row, row_of}
use Rattle.language.specs.Text.PayoffForm.{depth_of_payoff}
use Rattle.language.specs.Text.Plans.{Written}
use Rattle.language.specs.Text.Reader.{Trees, end}
use Rattle.language.specs.Text.Trees.{await, cut, leaf, months, nil, plus, times, uncut}
use Rattle.language.specs.Text.Typed.{amount_tree, test_tree}
use Rattle.nodes.proofs.BlocksLaid.{amount_block, links, test_block}
use Rattle.nodes.specs.Blocks.{PayoffBlocks}
use Rattle.nodes.proofs.AmountsFound.{amount_first, byte_at, second_at, test_first, third_at}
use Rattle.nodes.proofs.Laid.{IsNode, Laid, inner}
use Rattle.nodes.specs.Letters.{letter_of_payoff}
use Rattle.nodes.specs.Table.{link_at}
use Rattle.settling.proofs.FilledFound.{filled_first}
use Rattle.settling.proofs.MappedFields.{depth_amount, depth_test}
use Rattle.settling.proofs.PayoffNodes.{plain_month}
use Rattle.settling.proofs.PayoffSettles.{filled_trees}

module _ (σ : ℕ → ℕ) (nodes : List ℤ) where
  pub filled_blocks : (x : Written) (r : Trees PayoffLetter) (at left : ℕ) → Laid payoff_form nodes at (filled_trees (fill_payoff σ x) r) → depth_of_payoff x ≤ left → left ≤ max_nodes → PayoffBlocks left nodes at
  unfolding PayoffBlocks filled_trees fill_payoff depth_of_payoff letter_of_payoff row_of payoff_row
  filled_blocks nil r at zero h d b = absurd (omega arith)
  filled_blocks nil r at (suc left) h d b = rw (byte_at payoff_form nodes (of_root PayoffLetter.Z) [] end h) tt
  filled_blocks (leaf uncut m p q) r at zero h d b = absurd (omega arith)
  filled_blocks (leaf uncut m p q) r at (suc left) h d b = rw (byte_at payoff_form nodes (of_root PayoffLetter.F) (plain_month (month_of σ m) ∷ a_number (pos p) ∷ a_number (pos q) ∷ []) end h) tt
  filled_blocks (leaf cut m p q) r at zero h d b = absurd (omega arith)
  filled_blocks (leaf cut m p q) r at (suc left) h d b = rw (byte_at payoff_form nodes (of_root PayoffLetter.H) (plain_month (month_of σ m) ∷ a_number (pos p) ∷ a_number (pos q) ∷ []) end h) tt
  filled_blocks (times a x) r at zero h d b = absurd (omega arith)
  filled_blocks (times a x) r at (suc left) h d b =
      let l = of_root PayoffLetter.S in
      let c = map_amount (month_of σ) a in
      let behind = filled_trees (fill_payoff σ x) end in
      let first = amount_first plain_month c behind in
      let i = inner payoff_form nodes l [] h first.0 in
      let k = (links payoff_form nodes l [] h first.0).second (subst IsNode (sym first.1) (filled_first (fill_payoff σ x) end).0) in
      let u = amount_block payoff_form plain_month nodes c behind (at + 1) max_nodes (link_at nodes at 3) i.first (omega (arith, depth_amount (month_of σ) a)) k in
      let y = filled_blocks x end (link_at nodes at 3) left (second_at payoff_form nodes i first.1) (omega arith) (omega arith) in
      rw (byte_at payoff_form nodes l [] (amount_tree plain_month c behind) h) (u, y)
  filled_blocks (plus x y) r at zero h d b = absurd (omega arith)
  filled_blocks (plus x y) r at (suc left) h d b =
      let l = of_root PayoffLetter.B in
      let behind = filled_trees (fill_payoff σ y) end in
      let first = filled_first (fill_payoff σ x) behind in
      let i = inner payoff_form nodes l [] h first.0 in
      let u = filled_blocks x behind (at + 1) left i.first (omega arith) (omega arith) in
      let w = filled_blocks y end (link_at nodes at 3) left (second_at payoff_form nodes i first.1) (omega arith) (omega arith) in
      rw (byte_at payoff_form nodes l [] (filled_trees (fill_payoff σ x) behind) h) (u, w)
  filled_blocks (await t c x y) r at zero h d b = absurd (omega arith)
  filled_blocks (await t c x y) r at (suc left) h d b =
      let l = of_root PayoffLetter.W in
      let fs = a_delay (months (delay_of σ t)) ∷ [] in
      let e = map_test (month_of σ) c in
      let last = filled_trees (fill_payoff σ y) end in
      let behind = filled_trees (fill_payoff σ x) last in
      let first = test_first plain_month e behind in
      let i = inner payoff_form nodes l fs h first.0 in
      let k = (links payoff_form nodes l fs h first.0).second (subst IsNode (sym first.1) (filled_first (fill_payoff σ x) last).0) in
      let s = test_block payoff_form plain_month nodes e behind (at + 1) max_nodes (link_at nodes at 3) i.first (omega (arith, depth_test (month_of σ) c)) k in
      let u = filled_blocks x last (link_at nodes at 3) left (second_at payoff_form nodes i first.1) (omega arith) (omega arith) in
      let w = filled_blocks y end (link_at nodes at 4) left (third_at payoff_form nodes i first.1 (filled_first (fill_payoff σ x) last).1) (omega arith) (omega arith) in
      rw (byte_at payoff_form nodes l fs (test_tree plain_month e behind) h) (s, u, w)
