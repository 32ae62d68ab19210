-- A loop that moves rows down in their table, each changed: where it starts, and one row more.
use Prim.Native.Nat.{◌*◌, ◌+◌, ◌-◌, ◌<◌, ◌≤◌, suc, zero, ℕ}
use lib.IntN.{pos, ℤ}
use lib.ListN.{drop, get_or, length, take}
use lib.Seq.{drop-drop, get_or-drop, get_or-take}
use mathlib.Core.Bool.{Bool, cond, false, true}
use mathlib.Core.List.{List, [], ◌++◌, ◌∷◌, append_assoc, append-nil}
use mathlib.Core.Path.{◌∙◌, ◌≡◌, ap, refl, sym}
use native.Mathlib.Omega.{arith}
use Rattle.copies.proofs.Appending.{appended_as, appended_none, appended_then, kept_from}
use Rattle.copies.specs.Appended.{Appended}
use Rattle.copies.specs.Copied.{Copied, changed_rows, copy_row}
use Rattle.integers.specs.Equal.{eq_z}
use Rattle.language.specs.Text.Number.{byte}
use Rattle.nodes.specs.Pass.{row_from}
use Rattle.nodes.specs.Table.{slot_at}

module _ (f : List ℤ → List ℤ) where
  next_row : (n : ℕ) (nodes : List ℤ) → changed_rows f (n + 1) nodes ≡ changed_rows f n nodes ++ f (take 5 (drop (5 * n) nodes))
  unfolding changed_rows
  next_row zero nodes = append-nil (f (take 5 nodes))
  next_row (suc n) nodes =
      let e : suc n + 1 ≡ suc (n + 1) = omega arith in
      let d : 5 * suc n ≡ 5 + 5 * n = omega arith in
      rw (e, d)
      (ap (λ x. f (take 5 nodes) ++ x) (next_row n (drop 5 nodes) ∙ ap (λ x. changed_rows f n (drop 5 nodes) ++ f (take 5 x)) (drop-drop (5 * n) 5 nodes))
      ∙ sym (append_assoc (f (take 5 nodes)) (changed_rows f n (drop 5 nodes)) (f (take 5 (drop (5 + 5 * n) nodes)))))

  module _ (nodes : List ℤ) (from : ℕ) where
    pub copied_none : (count : ℕ) → Copied f nodes nodes from from count count
    unfolding changed_rows
    copied_none count =
        let z : from - from ≡ 0 = omega arith in
        record { counted = omega arith; added = rw z (appended_none nodes count) }

    -- the loop has not written to the row that it comes to
    pub copied_ahead : {at : ℕ} {mid : List ℤ} {count n : ℕ} → count ≤ from → from ≤ at → Copied f nodes mid from at count n → drop (at * 5) mid ≡ drop (at * 5) nodes
    copied_ahead {at} b l c = kept_from at (omega (arith, c.counted)) c.added

    pub copied_next : {at : ℕ} {mid after : List ℤ} {count n m : ℕ} → count ≤ from → from ≤ at → length (f (row_from (at * 5) mid)) ≡ 5
        → Copied f nodes mid from at count n → Appended mid after n m (f (row_from (at * 5) mid)) → Copied f nodes after from (at + 1) count m
    copied_next {at} {mid} b l five c a =
        let s : at + 1 - from ≡ (at - from) + 1 = omega arith in
        let p : from * 5 + 5 * (at - from) ≡ at * 5 = omega arith in
        let r : f (row_from (at * 5) mid) ≡ f (row_from (at * 5) nodes) = ap (λ x. f (take 5 x)) (copied_ahead b l c) in
        record {
          counted = omega (arith, c.counted, a.ends);
          added =
              rw s
              (appended_as
              (ap (λ x. changed_rows f (at - from) (drop (from * 5) nodes) ++ x) r
              ∙ sym (next_row (at - from) (drop (from * 5) nodes) ∙ ap (λ x. changed_rows f (at - from) (drop (from * 5) nodes) ++ f (take 5 x)) (drop-drop (5 * (at - from)) (from * 5) nodes ∙ ap (λ k. drop k nodes) p)))
              (appended_then c.added a));
        }

-- ---- one row

module _ (index : ℤ → ℤ → List ℤ) where
  pub copy_five : ((l i : ℤ) → length (index l i) ≡ 5) → (row : List ℤ) → length (copy_row index row) ≡ 5
  unfolding copy_row
  copy_five h row = go (eq_z (get_or row 0 (pos 0)) (pos (byte "O")))
    where
      go : (b : Bool) → length (cond b (index (get_or row 1 (pos 0)) (get_or row 2 (pos 0))) (get_or row 0 (pos 0) ∷ get_or row 1 (pos 0) ∷ get_or row 2 (pos 0) ∷ pos 0 ∷ pos 0 ∷ [])) ≡ 5
      go true = h (get_or row 1 (pos 0)) (get_or row 2 (pos 0))
      go false = refl

  module _ (nodes : List ℤ) (at : ℕ) where
    in_row : (k : ℕ) → k < 5 → get_or (row_from (at * 5) nodes) k (pos 0) ≡ slot_at nodes at k
    unfolding slot_at
    in_row k h = get_or-take 5 (drop (at * 5) nodes) k (pos 0) h ∙ get_or-drop (at * 5) nodes k (pos 0)

    pub index_copied : eq_z (slot_at nodes at 0) (pos (byte "O")) ≡ true → index (slot_at nodes at 1) (slot_at nodes at 2) ≡ copy_row index (row_from (at * 5) nodes)
    unfolding copy_row
    index_copied e = sym (rw (in_row 0 (omega arith), in_row 1 (omega arith), in_row 2 (omega arith), e) refl)

    pub other_copied : eq_z (slot_at nodes at 0) (pos (byte "O")) ≡ false → slot_at nodes at 0 ∷ slot_at nodes at 1 ∷ slot_at nodes at 2 ∷ pos 0 ∷ pos 0 ∷ [] ≡ copy_row index (row_from (at * 5) nodes)
    unfolding copy_row
    other_copied e = sym (rw (in_row 0 (omega arith), in_row 1 (omega arith), in_row 2 (omega arith), e) refl)
