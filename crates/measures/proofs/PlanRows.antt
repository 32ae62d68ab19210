-- The rows of the amount of an `S` and of the test of a `W`: they stand behind the node, and give what the amount or test gives.
use Prim.Native.Nat.{◌*◌, ◌+◌, ◌-◌, ◌≤◌, ℕ}
use Rattle.language.specs.Limits.{max_amount, max_nodes}
use Rattle.language.specs.Rules.Measures.{latest_of, latest_of_test}
use Rattle.language.specs.Rules.Table.{Table}
use Rattle.language.specs.Rules.Tests.{amount_reads, test_reads, test_is_small}
use Rattle.measures.proofs.Latests.{amount_latest, test_latest}
use Rattle.measures.proofs.Plans.{plan_room, scale_block, scale_ready, within_block, within_ready}
use Rattle.measures.proofs.Readings.{amount_reads_lem, test_reads_lem}
use Rattle.measures.proofs.RowSums.{amount_summed, test_summed}
use Rattle.measures.specs.Magnitudes.{measured_amount}
use Rattle.measures.specs.Ready.{PlanReady}
use Rattle.measures.specs.Rows.{rows_latest, rows_magnitude, rows_read}
use Rattle.measures.specs.Spans.{Seen, window_for}
use Rattle.measures.specs.Timing.{latest_month}
use Rattle.measures.specs.declared.reads.Window.{Window}
use Rattle.nodes.specs.Found.{amount_at, offset_of, test_at}
use Rattle.nodes.specs.Letters.{letter_of_plan}
use Rattle.nodes.specs.Table.{link_at, slot_at}
use Rattle.nodes.specs.declared.PlanLetter.TheVariants.{Scale, Within}
use Rattle.nodes.specs.declared.PlanLetter.{PlanLetter}
use lib.IntN.{ℤ}
use lib.ListN.{length}
use mathlib.Core.Bool.{Bool, true}
use mathlib.Core.List.{List}
use mathlib.Core.Path.{◌∙◌, ◌≡◌, ap}
use native.Mathlib.Omega.{arith}

-- p is where the second child stands
module _ {left at : ℕ} {nodes : List ℤ} (h : PlanReady left nodes at) {l : PlanLetter} (e : l ≡ letter_of_plan (slot_at nodes at 0)) {p : ℕ} (ep : p ≡ link_at nodes at 3) where
  pub scale_rows : l ≡ Scale → (at + 1 ≤ p) × (p ≤ max_nodes) × (5 * p ≤ length nodes)
  scale_rows t =
      let b = (amount_latest nodes (at + 1) (link_at nodes at 3) (scale_block h e t)).0 in
      let r = plan_room (scale_ready h e t).2 in
      rw ep (omega (arith, b), omega (arith, r.0), omega (arith, r.1))

  pub within_rows : l ≡ Within → (at + 1 ≤ p) × (p ≤ max_nodes) × (5 * p ≤ length nodes)
  within_rows t =
      let b = (test_latest nodes (at + 1) (link_at nodes at 3) (within_block h e t)).0 in
      let r = plan_room (within_ready h e t).2.1 in
      rw ep (omega (arith, b), omega (arith, r.0), omega (arith, r.1))

  module _ {k : ℕ} (ek : k ≡ latest_month (rows_latest nodes (p - (at + 1)) (at + 1))) where
    pub scale_latest : l ≡ Scale → k ≡ latest_month (latest_of (amount_at offset_of max_nodes nodes (at + 1)))
    scale_latest t =
        ek ∙ ap (λ q. latest_month (rows_latest nodes (q - (at + 1)) (at + 1))) ep
        ∙ ap latest_month (amount_latest nodes (at + 1) (link_at nodes at 3) (scale_block h e t)).1

    pub within_latest : l ≡ Within → k ≡ latest_month (latest_of_test (test_at offset_of max_nodes nodes (at + 1)))
    within_latest t =
        ek ∙ ap (λ q. latest_month (rows_latest nodes (q - (at + 1)) (at + 1))) ep
        ∙ ap latest_month (test_latest nodes (at + 1) (link_at nodes at 3) (within_block h e t)).1

  module _ {low high : ℤ} {labels : ℕ} {table : Table} {a z : ℕ} (s : Seen low high labels table a z) {w : Window} (ew : w ≡ window_for low high labels)
      {x : Bool} (ex : x ≡ rows_read w nodes (p - (at + 1)) (at + 1)) where
    pub scale_window : l ≡ Scale → x ≡ amount_reads table a z (amount_at offset_of max_nodes nodes (at + 1))
    scale_window t = ex ∙ rw (ew, ep) (amount_reads_lem s nodes (at + 1) (link_at nodes at 3) (scale_block h e t)).1

    pub within_window : l ≡ Within → x ≡ test_reads table a z (test_at offset_of max_nodes nodes (at + 1))
    within_window t = ex ∙ rw (ew, ep) (test_reads_lem s nodes (at + 1) (link_at nodes at 3) (within_block h e t)).1

  module _ (bound : ℕ → ℕ) {r : ℕ} (er : r ≡ rows_magnitude bound nodes (p - (at + 1)) (at + 1)) where
    pub scale_summed : l ≡ Scale → r ≤ max_amount → r ≡ measured_amount bound (amount_at offset_of max_nodes nodes (at + 1))
    scale_summed t k = amount_summed bound nodes (at + 1) p er k (rw ep (scale_block h e t))

    pub within_summed : l ≡ Within → r ≤ max_amount → test_is_small bound (test_at offset_of max_nodes nodes (at + 1)) ≡ true
    within_summed t k = test_summed bound nodes (at + 1) p er k (rw ep (within_block h e t))
