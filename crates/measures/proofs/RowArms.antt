-- What the loop over rows has passed, and how each letter's row takes it one row further.
use Prim.Native.Nat.{◌+◌, ◌<◌, ◌≤◌, max, ℕ}
use Rattle.language.specs.Limits.{max_amount}
use Rattle.measures.proofs.Latests as latests
use Rattle.measures.proofs.Readings as readings
use Rattle.measures.proofs.RowLetters.{amount_index, amount_other, index_amount}
use Rattle.measures.proofs.RowSums as sums
use Rattle.measures.specs.Magnitudes.{beyond}
use Rattle.measures.specs.Rows.{magnitude_by, row_reads}
use Rattle.measures.specs.declared.reads.Window.{Window}
use Rattle.nodes.specs.Letters.{letter_of_amount}
use Rattle.nodes.specs.Table.{nat_of, slot_at}
use Rattle.nodes.specs.contracts.AmountLetter as declared
use Rattle.nodes.specs.declared.AmountLetter.TheVariants as letter
use Rattle.nodes.specs.declared.AmountLetter.{AmountLetter}
use denote.Enum.Declared.{tag_of}
use lib.IntN.{ℤ}
use mathlib.Core.Logic.{◌⊎◌, inl, inr}
use mathlib.Core.Bool.{Bool, ◌&&◌, false}
use mathlib.Core.List.{List}
use mathlib.Core.Path.{◌∙◌, ◌≡◌, ap, refl, subst, sym}
use native.Mathlib.Omega.{arith}

-- ---- letters that add nothing, and letters that no sum has, by their tags

abbrev tag : AmountLetter → ℕ
tag m = tag_of declared.the_type m

-- a letter whose row reads nothing and adds x
pub record Plain (bound : ℕ → ℕ) (m : AmountLetter) (x : ℕ) : Type 0 where
  pub unread : index_amount m ≡ false
  pub adds : (n : ℤ) → x ≡ magnitude_by bound m n

-- the tags of `A`, `U`, `Q` and a test's letter, and those of `K` and `I`
summing : {x : ℕ} → (x ≡ 2) ⊎ ((x ≡ 3) ⊎ ((x ≡ 5) ⊎ (x ≡ 7))) → (2 ≤ x) × (x ≡ 4 → ⊥) × (x ≡ 6 → ⊥)
summing (inl e) = (omega (arith, e), λ f. omega (arith, e, f), λ f. omega (arith, e, f))
summing (inr (inl e)) = (omega (arith, e), λ f. omega (arith, e, f), λ f. omega (arith, e, f))
summing (inr (inr (inl e))) = (omega (arith, e), λ f. omega (arith, e, f), λ f. omega (arith, e, f))
summing (inr (inr (inr e))) = (omega (arith, e), λ f. omega (arith, e, f), λ f. omega (arith, e, f))

even : {x : ℕ} → (x ≡ 4) ⊎ (x ≡ 6) → (4 ≤ x) × (x ≤ 6) × (x ≡ 5 → ⊥)
even (inl e) = (omega (arith, e), omega (arith, e), λ f. omega (arith, e, f))
even (inr e) = (omega (arith, e), omega (arith, e), λ f. omega (arith, e, f))

pub adds_nothing : (bound : ℕ → ℕ) (m : AmountLetter) → (tag m ≡ 2) ⊎ ((tag m ≡ 3) ⊎ ((tag m ≡ 5) ⊎ (tag m ≡ 7))) → Plain bound m 0
adds_nothing bound letter.Number e = absurd (omega (arith, (summing e).0))
adds_nothing bound letter.Index e = absurd (omega (arith, (summing e).0))
adds_nothing bound letter.Sum e = record { unread = refl; adds = λ n. refl }
adds_nothing bound letter.Difference e = record { unread = refl; adds = λ n. refl }
adds_nothing bound letter.Product e = absurd ((summing e).1 refl)
adds_nothing bound letter.Quotient e = record { unread = refl; adds = λ n. refl }
adds_nothing bound letter.Choose e = absurd ((summing e).2 refl)
adds_nothing bound letter.NoAmount e = record { unread = refl; adds = λ n. refl }

pub adds_beyond : (bound : ℕ → ℕ) (m : AmountLetter) → (tag m ≡ 4) ⊎ (tag m ≡ 6) → Plain bound m beyond
adds_beyond bound letter.Number e = absurd (omega (arith, (even e).0))
adds_beyond bound letter.Index e = absurd (omega (arith, (even e).0))
adds_beyond bound letter.Sum e = absurd (omega (arith, (even e).0))
adds_beyond bound letter.Difference e = absurd (omega (arith, (even e).0))
adds_beyond bound letter.Product e = record { unread = refl; adds = λ n. refl }
adds_beyond bound letter.Quotient e = absurd ((even e).2 refl)
adds_beyond bound letter.Choose e = record { unread = refl; adds = λ n. refl }
adds_beyond bound letter.NoAmount e = absurd (omega (arith, (even e).1))

-- ---- one row further

module _ (w : Window) (bound : ℕ → ℕ) (nodes : List ℤ) (from to : ℕ) where
  abbrev pub Here : ℕ → ℕ → ℕ → Bool → Type 0
  Here at latest total reads = latests.Passing nodes from to at latest × readings.Passed w nodes from to at reads × sums.Summing bound nodes from to at total

  module _ {at latest total : ℕ} {reads : Bool} (p : Here at latest total reads) (h : at < to) (b : (l : ℕ) → bound l ≤ max_amount)
      {m : AmountLetter} (em : m ≡ letter_of_amount (slot_at nodes at 0)) where
    -- a row that reads nothing
    pub plain_row : {x : ℕ} → index_amount m ≡ false → x ≡ magnitude_by bound m (slot_at nodes at 1) → Here (at + 1) latest (total + x) reads
    plain_row {x} u ex =
        let i = amount_other (slot_at nodes at 0) (sym em) ∙ u in
        let n : latest ≡ max latest 0 = omega arith in (
          latests.passing_row p.0 h (latests.row_other nodes at (sym i) refl) n,
          readings.passed_other p.1 h i,
          sums.summing_row bound p.2 b (ex ∙ ap (λ y. magnitude_by bound y (slot_at nodes at 1)) em) h,
        )

    -- and adds nothing
    pub quiet_row : Plain bound m 0 → Here (at + 1) latest total reads
    quiet_row q =
        let z : total + 0 ≡ total = omega arith in
        subst (λ n. Here (at + 1) latest n reads) z (plain_row q.unread (q.adds (slot_at nodes at 1)))

    -- a row that does: `late` and `can` are what it reads
    pub index_row : m ≡ letter.Index → {late next x : ℕ} {can : Bool} → late ≡ nat_of (slot_at nodes at 2) → next ≡ max latest late → can ≡ row_reads w nodes at
        → x ≡ bound (nat_of (slot_at nodes at 1)) → Here (at + 1) next (total + x) (reads && can)
    index_row e el en ec ex =
        let i = amount_index (slot_at nodes at 0) (sym em ∙ e) in (
          latests.passing_row p.0 h (latests.row_index nodes at (sym i) refl el) en,
          readings.passed_row p.1 h ec,
          sums.summing_row bound p.2 b (rw (← em, e) ex) h,
        )
