-- What can be read from a node that may stand in several months, and the reads of rows that stand together.
use Prim.Native.Nat.{◌+◌, ◌-◌, ◌<◌, ◌≤◌, suc, zero, ℕ}
use Rattle.integers.proofs.Solver.{◌⊕◌, ◌⊖◌, dn, le_parts, lit, sound, up, var, ⊝}
use Rattle.integers.proofs.Tests.{le_false, le_true}
use Rattle.language.proofs.Truth.{tested}
use Rattle.language.specs.Limits.{max_nodes}
use Rattle.language.specs.Rules.Table.{Table, readable}
use Rattle.language.specs.Rules.Tests.{amount_reads, test_reads}
use Rattle.measures.proofs.RowsTogether.{Joins, amount_rows, reading, test_rows}
use Rattle.nodes.specs.Blocks.{AmountBlock, TestBlock}
use Rattle.measures.specs.Rows.{in_window, holds_index, row_reads, rows_of, rows_read}
use Rattle.measures.specs.Spans.{Seen, window_for}
use Rattle.measures.specs.declared.reads.Window.{Window}
use Rattle.nodes.specs.Found.{amount_at, offset_of, test_at}
use Rattle.nodes.specs.Table.{slot_at}
use lib.Dec.{ltb}
use lib.IntN.{◌+ℤ◌, ◌-ℤ◌, neg_ℤ, pos, ℤ}
use lib.ListN.{length}
use lib.Signed.{le_z}
use mathlib.Core.Bool.{Bool, ◌&&◌, and_assoc, and-false, and-true, false, true}
use mathlib.Core.List.{List}
use mathlib.Core.Path.{◌∙◌, ◌≡◌, ap, ap₂, refl, subst, sym}
use native.Mathlib.Omega.{arith}

-- ---- the window: what can be read from both months

same_test : (p q r s : ℤ) → (up p + dn q ≤ up q + dn p → up r + dn s ≤ up s + dn r) → (up r + dn s ≤ up s + dn r → up p + dn q ≤ up q + dn p) → le_z p q ≡ le_z r s
same_test p q r s there back = by (le_z p q) (le_z r s) refl refl
  where
    by : (b c : Bool) → le_z p q ≡ b → le_z r s ≡ c → b ≡ c
    by true true e f = refl
    by true false e f = absurd (omega (arith, there (le_true p q e), le_false r s f))
    by false true e f = absurd (omega (arith, back (le_true r s f), le_false p q e))
    by false false e f = refl

low_is : (h i : ℤ) (a : ℕ) → le_z (neg_ℤ h) (pos a +ℤ i) ≡ le_z (pos 0 -ℤ (h +ℤ pos a)) i
low_is h i a =
    let x = sound (⊝ (var h)) in
    let y = sound (lit a ⊕ var i) in
    let z = sound (lit 0 ⊖ (var h ⊕ lit a)) in
    same_test (neg_ℤ h) (pos a +ℤ i) (pos 0 -ℤ (h +ℤ pos a)) i (λ k. omega (arith, x, y, z, k)) (λ k. omega (arith, x, y, z, k))

high_is : (f i : ℤ) (z : ℕ) → le_z (pos z +ℤ i) f ≡ le_z i (f -ℤ pos z)
high_is f i z =
    let x = sound (lit z ⊕ var i) in
    let y = sound (var f ⊖ lit z) in
    same_test (pos z +ℤ i) f i (f -ℤ pos z) (λ k. omega (arith, x, y, k)) (λ k. omega (arith, x, y, k))

le_known : (p q : ℤ) → up p + dn q ≤ up q + dn p → le_z p q ≡ true
le_known p q h = tested (le_z p q) (le_parts p q h).le

later_low : (b i : ℤ) (a z : ℕ) → a ≤ z → le_z b (pos a +ℤ i) ≡ true → le_z b (pos z +ℤ i) ≡ true
later_low b i a z h e = le_known b (pos z +ℤ i) (omega (arith, sound (lit a ⊕ var i), sound (lit z ⊕ var i), le_true b (pos a +ℤ i) e))

sooner_high : (b i : ℤ) (a z : ℕ) → a ≤ z → le_z (pos z +ℤ i) b ≡ true → le_z (pos a +ℤ i) b ≡ true
sooner_high b i a z h e = le_known (pos a +ℤ i) b (omega (arith, sound (lit a ⊕ var i), sound (lit z ⊕ var i), le_true (pos z +ℤ i) b e))

ends : (p l h m k : Bool) → (l ≡ true → m ≡ true) → (k ≡ true → h ≡ true) → ((p && (l && h)) && (p && (m && k))) ≡ (p && (l && k))
ends false l h m k f g = refl
ends true false h m k f g = refl
ends true true h m true f g = rw (f refl, g refl) refl
ends true true h m false f g = rw (f refl, and-false h) refl

module _ {low high : ℤ} {labels : ℕ} {t : Table} {a z : ℕ} (s : Seen low high labels t a z) where
  pub window_reads : (l : ℕ) (i : ℤ) → (readable t l (pos a +ℤ i) && readable t l (pos z +ℤ i)) ≡ in_window (window_for low high labels) l i
  window_reads l i =
      rw (s.least, s.greatest, s.labelled)
      (ends (ltb l (length t.bounds)) (le_z (neg_ℤ t.h) (pos a +ℤ i)) (le_z (pos a +ℤ i) t.f) (le_z (neg_ℤ t.h) (pos z +ℤ i)) (le_z (pos z +ℤ i) t.f)
      (later_low (neg_ℤ t.h) i a z s.order) (sooner_high t.f i a z s.order)
      ∙ ap₂ (λ b c. ltb l (length t.bounds) && (b && c)) (low_is t.h i a) (high_is t.f i z))

  reads_join : Joins true ◌&&◌ (λ l i. in_window (window_for low high labels) l i) (amount_reads t a z) (test_reads t a z)
  unfolding amount_reads test_reads
  reads_join = record {
    first_none = λ x. refl;
    second_none = and-true;
    assoc = and_assoc;
    of_number = λ n. refl;
    of_index = λ l i. window_reads l i;
    of_sum = λ x y. refl;
    of_difference = λ x y. refl;
    of_product = λ x y. refl;
    of_quotient = λ n x. refl;
    of_choose = λ c x y. refl;
    of_less = λ x y. refl;
    of_equal = λ x y. refl;
    of_conjunction = λ x y. refl;
    of_disjunction = λ x y. refl;
    of_negation = λ x. refl;
  }

  -- ---- an amount's and a test's

  pub amount_reads_lem : (nodes : List ℤ) (from to : ℕ) → AmountBlock max_nodes nodes from to
      → (from < to) × (rows_read (window_for low high labels) nodes (to - from) from ≡ amount_reads t a z (amount_at offset_of max_nodes nodes from))
  amount_reads_lem nodes from to b = let r = amount_rows (reading reads_join nodes) max_nodes from to b in (r.some, r.gives)

  pub test_reads_lem : (nodes : List ℤ) (from to : ℕ) → TestBlock max_nodes nodes from to
      → (from < to) × (rows_read (window_for low high labels) nodes (to - from) from ≡ test_reads t a z (test_at offset_of max_nodes nodes from))
  test_reads_lem nodes from to b = let r = test_rows (reading reads_join nodes) max_nodes from to b in (r.some, r.gives)

-- ---- the loop: whether every row that was passed can be read

pub record Passed (w : Window) (nodes : List ℤ) (from to at : ℕ) (reads : Bool) : Type 0 where
  pub left : rows_read w nodes (to - from) from ≡ (reads && rows_read w nodes (to - at) at)

module _ {w : Window} {nodes : List ℤ} {from to at : ℕ} {reads : Bool} (p : Passed w nodes from to at reads) where
  pub passed_row : at < to → {b : Bool} → b ≡ row_reads w nodes at → Passed w nodes from to (at + 1) (reads && b)
  unfolding rows_of
  passed_row h {b} eb =
      let n : to - at ≡ suc (to - (at + 1)) = omega arith in
      record {
        left =
            p.left ∙ ap (λ k. reads && rows_read w nodes k at) n
            ∙ ap (λ c. reads && (c && rows_read w nodes (to - (at + 1)) (at + 1))) (sym eb)
            ∙ sym (and_assoc reads b (rows_read w nodes (to - (at + 1)) (at + 1)));
      }

  -- a row that is no `O`
  pub passed_other : at < to → holds_index (slot_at nodes at 0) ≡ false → Passed w nodes from to (at + 1) reads
  passed_other h e = subst (Passed w nodes from to (at + 1)) (and-true reads) (passed_row h (rw e refl))

  pub passed_all : to ≤ at → reads ≡ rows_read w nodes (to - from) from
  unfolding rows_of
  passed_all h =
      let n : to - at ≡ zero = omega arith in
      sym (p.left ∙ ap (λ k. reads && rows_read w nodes k at) n ∙ and-true reads)
