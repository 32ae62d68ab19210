-- A loop over the first rows that changes each: what holds while it goes on, and at its end.
use Prim.Native.Nat.{◌*◌, ◌+◌, ◌-◌, ◌<◌, ◌≤◌, suc, ℕ}
use lib.IntN.{ℤ}
use lib.ListN.{drop, length, length-append, length-drop, set, take, take-append-drop}
use lib.Seq.{drop_at, drop-drop, drop-set-add, length-take-le, set-append_left, take_at, take-set-le}
use mathlib.Core.Bool.{Bool, false, true}
use mathlib.Core.List.{List, ◌++◌, append_assoc}
use mathlib.Core.Path.{◌∙◌, ◌≡◌, ap, refl, sym}
use native.Mathlib.Omega.{arith}
use Rattle.nodes.specs.Pass.{all_rows, map_rows, row_from, with_row}

pub row_size : (at : ℕ) (nodes : List ℤ) → at + 5 ≤ length nodes → length (row_from at nodes) ≡ 5
row_size at nodes h = length-take-le 5 (drop at nodes) (omega (arith, length-drop at nodes))

-- one number of a row set
pub set_in_row : (at k : ℕ) (v : ℤ) (nodes : List ℤ) → k < 5 → at + 5 ≤ length nodes → set nodes (at + k) v ≡ with_row at (set (row_from at nodes) k v) nodes
set_in_row at k v nodes h l =
    sym (take-append-drop at (set nodes (at + k) v))
    ∙ ap (λ x. x ++ drop at (set nodes (at + k) v)) (take-set-le at nodes (at + k) v (omega arith))
    ∙ ap (λ x. take at nodes ++ x)
    (drop-set-add at nodes k v
    ∙ ap (λ x. set x k v) (sym (take-append-drop 5 (drop at nodes)))
    ∙ set-append_left (row_from at nodes) (drop 5 (drop at nodes)) k v (omega (arith, row_size at nodes l))
    ∙ ap (λ x. set (row_from at nodes) k v ++ x) (drop-drop 5 at nodes))

-- a row put back as it was
pub row_kept : (at : ℕ) (nodes : List ℤ) → nodes ≡ with_row at (row_from at nodes) nodes
row_kept at nodes = sym (take-append-drop at nodes) ∙ ap (λ x. take at nodes ++ x) (sym (take-append-drop 5 (drop at nodes)) ∙ ap (λ x. row_from at nodes ++ x) (drop-drop 5 at nodes))

module _ (f : List ℤ → List ℤ) (p : List ℤ → Bool) (count : ℕ) (before : List ℤ) where
  -- i rows are done, and the next stands from number `at` on
  pub record Passing (i at : ℕ) (now : List ℤ) : Type 0 where
    pub within : i ≤ count
    pub place : at ≡ 5 * i
    pub size : length now ≡ length before
    pub tests : all_rows p count before ≡ all_rows p (count - i) (drop at now)
    pub rows : map_rows f count before ≡ take at now ++ map_rows f (count - i) (drop at now)

  pub passing_start : Passing 0 0 before
  passing_start = let e : count - 0 ≡ count = omega arith in record { within = omega arith; place = omega arith; size = refl; tests = rw e refl; rows = rw e refl }

  module _ (room : 5 * count ≤ length before) {i at : ℕ} {now : List ℤ} (h : Passing i at now) where
    pub passing_room : i < count → at + 5 ≤ length now
    passing_room l = omega (arith, h.place, h.size)

    pub passing_stop : i < count → p (row_from at now) ≡ false → all_rows p count before ≡ false
    unfolding all_rows
    passing_stop l e = let n : count - i ≡ suc (count - (i + 1)) = omega arith in h.tests ∙ rw n (rw e refl)

    pub passing_next : i < count → length (f (row_from at now)) ≡ 5 → p (row_from at now) ≡ true → {after : List ℤ} → after ≡ with_row at (f (row_from at now)) now → Passing (i + 1) (at + 5) after
    unfolding all_rows map_rows
    passing_next l five e {after} a =
        let n : count - i ≡ suc (count - (i + 1)) = omega arith in
        let r = passing_room l in
        let t : length (take at now) ≡ at = length-take-le at now (omega arith) in
        let s : length (take at now ++ f (row_from at now)) ≡ at + 5 = omega (arith, length-append (take at now) (f (row_from at now))) in
        let b : after ≡ (take at now ++ f (row_from at now)) ++ drop (at + 5) now = a ∙ sym (append_assoc (take at now) (f (row_from at now)) (drop (at + 5) now)) in
        let d : drop (at + 5) after ≡ drop (at + 5) now = ap (drop (at + 5)) b ∙ drop_at (take at now ++ f (row_from at now)) (drop (at + 5) now) (at + 5) s in
        let k : take (at + 5) after ≡ take at now ++ f (row_from at now) = ap (take (at + 5)) b ∙ take_at (take at now ++ f (row_from at now)) (drop (at + 5) now) (at + 5) s in
        record {
          within = omega arith;
          place = omega (arith, h.place);
          size = omega (arith, ap length b, length-append (take at now ++ f (row_from at now)) (drop (at + 5) now), length-drop (at + 5) now, h.size);
          tests = h.tests ∙ rw n (rw e (ap (all_rows p (count - (i + 1))) (drop-drop 5 at now ∙ sym d)));
          rows = h.rows ∙ rw n (sym (append_assoc (take at now) (f (row_from at now)) (map_rows f (count - (i + 1)) (drop 5 (drop at now)))) ∙ ap (λ x. x ++ map_rows f (count - (i + 1)) (drop 5 (drop at now))) (sym k) ∙ ap (λ x. take (at + 5) after ++ map_rows f (count - (i + 1)) x) (drop-drop 5 at now ∙ sym d));
        }

    pub passing_end : count ≤ i → (all_rows p count before ≡ true) × (now ≡ map_rows f count before)
    unfolding all_rows map_rows
    passing_end l = let n : count - i ≡ 0 = omega arith in (h.tests ∙ rw n refl, sym (take-append-drop at now) ∙ sym (h.rows ∙ rw n refl))
