-- A line's numbers copied from the line before.
use Prim.Native.Nat.{◌+◌, ◌-◌, ◌<◌, ◌≤◌, min, suc, zero, ℕ}
use borrow.Author.Tests.{eqb-true}
use lib.IntN.{negsuc, pos, ℤ}
use lib.ListN.{drop, get_or, length, length-drop, length-take, set, take}
use lib.Seq.{drop_at, drop-cons, drop-drop, ext_get_or, get_or-drop, get_or-set_other, get_or-take, length-sets, length-take-le, set-set, sets, sets-eq, take-add, take-append_seam, take-take}
use mathlib.Core.Bool.{true, true≢false}
use mathlib.Core.List.{List, [], ◌++◌, ◌∷◌, append_assoc}
use mathlib.Core.Path.{◌∙◌, ◌≡◌, ap, ap₂, refl, subst, sym}
use native.Mathlib.Omega.{arith}
use Rattle.integers.specs.Equal.{eq_z}
use Rattle.language.specs.Text.Number.{print_nat}
use Rattle.printing.proofs.Words.{Spelt, spelt_more}
use Rattle.printing.specs.Lines.{month_text, new_line, numbers_text}
use Rattle.writer.proofs.Puts.{room_next, set_front, then}
use Rattle.writer.specs.Put.{Put}
use Rattle.writer.specs.Shapes.{number_field}
use Rattle.writer.specs.Written.{slot}

-- ---- a number that stands twice

pub equal_number : (x y : ℤ) → eq_z x y ≡ true → x ≡ y
equal_number (pos a) (pos b) e = ap pos (eqb-true a b e)
equal_number (pos a) (negsuc b) e = absurd (true≢false (sym e))
equal_number (negsuc a) (pos b) e = absurd (true≢false (sym e))
equal_number (negsuc a) (negsuc b) e = ap negsuc (eqb-true a b e)

-- ---- bytes in front of a run, and those of the run

before : (vs l : List ℕ) (i j : ℕ) → j < i → get_or (sets l i vs) j 0 ≡ get_or l j 0
before [] l i j h = refl
before (v ∷ vs) l i j h = before vs (set l i v) (suc i) j (omega (arith, h)) ∙ get_or-set_other l i j v 0 (λ e. omega (arith, h, e))

pub kept_run : (l vs : List ℕ) (i m n : ℕ) → m + n ≤ i → take n (drop m (sets l i vs)) ≡ take n (drop m l)
kept_run l vs i m n h = ext_get_or 0 (take n (drop m (sets l i vs))) (take n (drop m l)) long each
  where
    size : (k : List ℕ) → length (take n (drop m k)) ≡ min n (length k - m)
    size k = length-take n (drop m k) ∙ ap (min n) (length-drop m k)

    long : length (take n (drop m (sets l i vs))) ≡ length (take n (drop m l))
    long = size (sets l i vs) ∙ ap (λ k. min n (k - m)) (length-sets l i vs) ∙ sym (size l)

    each : (j : ℕ) → j < length (take n (drop m (sets l i vs))) → get_or (take n (drop m (sets l i vs))) j 0 ≡ get_or (take n (drop m l)) j 0
    each j k =
        let jn : j < n = omega (arith, k, size (sets l i vs)) in
        get_or-take n (drop m (sets l i vs)) j 0 jn ∙ get_or-drop m (sets l i vs) j 0 ∙ before vs l i (m + j) (omega (arith, h, jn))
        ∙ sym (get_or-take n (drop m l) j 0 jn ∙ get_or-drop m l j 0)

pub written_run : {a b : List ℕ} {i j : ℕ} {xs : List ℕ} → Put a b i j xs → i + length xs ≤ length a → take (j - i) (drop i b) ≡ xs
written_run {a} {b} {i} {j} {xs} p r =
    let e : j - i ≡ length xs = omega (arith, p.ends) in
    let f = p.is ∙ sets-eq xs a i r ∙ append_assoc (take i a) xs (drop (i + length xs) a) in
    ap₂ (λ k l. take k (drop i l)) e f
    ∙ ap (take (length xs)) (drop_at (take i a) (xs ++ drop (i + length xs) a) i (length-take-le i a (omega (arith, r))))
    ∙ take-append_seam xs (drop (i + length xs) a)

-- ---- n bytes copied, one after the other, to a place behind them

module _ (old : List ℕ) (from to n : ℕ) (h : from + n ≤ to) (r : to + n ≤ length old) where
  abbrev pub word : List ℕ
  word = take n (drop from old)

  pub word_length : length word ≡ n
  word_length = length-take-le n (drop from old) (omega (arith, length-drop from old, h, r))

  pub copied : {out : List ℕ} {i : ℕ} → Spelt word old to out i → i < n → Spelt word old to (set out (to + i) (get_or out (from + i) 0)) (i + 1)
  copied {out} {i} s k = subst (λ b. Spelt word old to (set out (to + i) b) (i + 1)) (sym byte) (spelt_more word old to s (omega (arith, k, word_length)))
    where
      byte : get_or out (from + i) 0 ≡ get_or word i 0
      byte =
          ap (λ l. get_or l (from + i) 0) s.put.is ∙ before (take i word) old to (from + i) (omega (arith, h, k))
          ∙ sym (get_or-take n (drop from old) i 0 k ∙ get_or-drop from old i 0)

-- ---- eight bytes at once

-- n bytes from one on
abbrev run_of : List ℕ → ℕ → ℕ → List ℕ
run_of l j zero = []
run_of l j (suc n) = get_or l j 0 ∷ run_of l (suc j) n

run : (n : ℕ) (l : List ℕ) (j : ℕ) → j + n ≤ length l → take n (drop j l) ≡ run_of l j n
run zero l j h = refl
run (suc n) l j h = ap (take (suc n)) (drop-cons l j 0 (omega (arith, h))) ∙ ap (λ r. get_or l j 0 ∷ r) (run n l (suc j) (omega (arith, h)))

pub eight_copied : (a : List ℕ) (i j : ℕ) → j + 8 ≤ length a
    → set (set (set (set (set (set (set (set a i (get_or a j 0)) (i + 1) (get_or a (j + 1) 0)) (i + 2) (get_or a (j + 2) 0)) (i + 3) (get_or a (j + 3) 0))
    (i + 4) (get_or a (j + 4) 0)) (i + 5) (get_or a (j + 5) 0)) (i + 6) (get_or a (j + 6) 0)) (i + 7) (get_or a (j + 7) 0) ≡ sets a i (take 8 (drop j a))
eight_copied a i j h = all ∙ ap (sets a i) (sym (run 8 a j h))
  where
    all : set (set (set (set (set (set (set (set a i (get_or a j 0)) (i + 1) (get_or a (j + 1) 0)) (i + 2) (get_or a (j + 2) 0)) (i + 3) (get_or a (j + 3) 0))
        (i + 4) (get_or a (j + 4) 0)) (i + 5) (get_or a (j + 5) 0)) (i + 6) (get_or a (j + 6) 0)) (i + 7) (get_or a (j + 7) 0) ≡ sets a i (run_of a j 8)
    all =
        let i1 : i + 1 ≡ suc i = omega arith in
        let i2 : i + 2 ≡ suc (suc i) = omega arith in
        let i3 : i + 3 ≡ suc (suc (suc i)) = omega arith in
        let i4 : i + 4 ≡ suc (suc (suc (suc i))) = omega arith in
        let i5 : i + 5 ≡ suc (suc (suc (suc (suc i)))) = omega arith in
        let i6 : i + 6 ≡ suc (suc (suc (suc (suc (suc i))))) = omega arith in
        let i7 : i + 7 ≡ suc (suc (suc (suc (suc (suc (suc i)))))) = omega arith in
        let j1 : j + 1 ≡ suc j = omega arith in
        let j2 : j + 2 ≡ suc (suc j) = omega arith in
        let j3 : j + 3 ≡ suc (suc (suc j)) = omega arith in
        let j4 : j + 4 ≡ suc (suc (suc (suc j))) = omega arith in
        let j5 : j + 5 ≡ suc (suc (suc (suc (suc j)))) = omega arith in
        let j6 : j + 6 ≡ suc (suc (suc (suc (suc (suc j))))) = omega arith in
        let j7 : j + 7 ≡ suc (suc (suc (suc (suc (suc (suc j)))))) = omega arith in
        rw (i1, i2, i3, i4, i5, i6, i7, j1, j2, j3, j4, j5, j6, j7) refl

-- what is written over is gone
sets_over : (es ds l : List ℕ) (i : ℕ) → length es ≤ length ds → sets (sets l i es) i ds ≡ sets l i ds
sets_over [] ds l i h = refl
sets_over (e ∷ es) [] l i h = absurd (omega (arith, h))
sets_over (e ∷ es) (d ∷ ds) l i h =
    ap (λ k. sets k (suc i) ds) (set_front (set l i e) i d es (suc i) (omega arith) ∙ ap (λ k. sets k (suc i) es) (set-set l i e d))
    ∙ sets_over es ds (set l i d) (suc i) (omega (arith, h))

-- the front of some bytes, and then their end over it
front_end : (cs ds l : List ℕ) (i k : ℕ) → length cs ≤ k → sets (sets l i (take k (cs ++ ds))) (i + length cs) ds ≡ sets l i (cs ++ ds)
front_end [] ds l i k h =
    let e : i + 0 ≡ i = omega arith in
    ap (λ n. sets (sets l i (take k ds)) n ds) e ∙ sets_over (take k ds) ds l i (omega (arith, length-take k ds))
front_end (c ∷ cs) ds l i zero h = absurd (omega (arith, h))
front_end (c ∷ cs) ds l i (suc k) h =
    let e : i + suc (length cs) ≡ suc i + length cs = omega arith in
    ap (λ n. sets (sets (set l i c) (suc i) (take k (cs ++ ds))) n ds) e ∙ front_end cs ds (set l i c) (suc i) k (omega (arith, h))

-- n bytes, from eight to sixteen, are the first eight and the last eight
module _ (o : List ℕ) (from to n : ℕ) (h : from + n ≤ to) (r : to + n ≤ length o) (least : 8 ≤ n) (most : n ≤ 16) where
  pub twice_put : {o₁ o₂ : List ℕ} → o₁ ≡ sets o to (take 8 (drop from o)) → o₂ ≡ sets o₁ (to + (n - 8)) (take 8 (drop (from + (n - 8)) o₁))
      → Put o o₂ to (to + n) (take n (drop from o))
  twice_put {o₁} {o₂} e f = record {
    is =
        f ∙ ap (sets o₁ (to + (n - 8))) last ∙ ap (λ k. sets k (to + (n - 8)) ds) (e ∙ ap (sets o to) (sym (take-take 8 n (drop from o) least) ∙ ap (take 8) parts))
        ∙ ap (λ k. sets (sets o to (take 8 (cs ++ ds))) (to + k) ds) (sym front) ∙ front_end cs ds o to 8 (omega (arith, front, most)) ∙ ap (sets o to) (sym parts);
    ends = omega (arith, word_length o from to n h r);
  }
    where
      cs : List ℕ
      cs = take (n - 8) (drop from o)

      ds : List ℕ
      ds = take 8 (drop (from + (n - 8)) o)

      last : take 8 (drop (from + (n - 8)) o₁) ≡ ds
      last = ap (λ k. take 8 (drop (from + (n - 8)) k)) e ∙ kept_run o (take 8 (drop from o)) to (from + (n - 8)) 8 (omega (arith, h, least))

      parts : take n (drop from o) ≡ cs ++ ds
      parts =
          let k : n ≡ n - 8 + 8 = omega (arith, least) in
          ap (λ m. take m (drop from o)) k ∙ take-add (n - 8) 8 (drop from o) ∙ ap (λ m. cs ++ take 8 m) (drop-drop (n - 8) from o)

      front : length cs ≡ n - 8
      front = length-take-le (n - 8) (drop from o) (omega (arith, length-drop from o, h, r))

-- ---- the line of month m: its month is written, o₁ is the buffer then, and a the place behind it

module _ (column rest : List ℤ) (m : ℕ) {o₀ o₁ : List ℕ} {at a : ℕ} (p : Put o₀ o₁ at a (print_nat m)) (room : at + length (month_text column rest m) ≤ length o₀) where
  pub numbers_room : a + length (numbers_text column rest m) ≤ length o₁
  unfolding month_text
  numbers_room = room_next (numbers_text column rest m) room p

  -- the numbers of the month before stand from mark on up to the line, and are this month's
  module _ {mark : ℕ} (i : mark ≤ at) (e : take (at - mark) (drop mark o₀) ≡ numbers_text column rest (m - 1))
      (x : slot column m ≡ slot column (m - 1)) (y : slot rest m ≡ slot rest (m - 1)) where
    pub same_numbers : take (at - mark) (drop mark o₁) ≡ numbers_text column rest m
    unfolding numbers_text
    same_numbers =
        ap (λ l. take (at - mark) (drop mark l)) p.is ∙ kept_run o₀ (print_nat m) at mark (at - mark) (omega (arith, i)) ∙ e
        ∙ sym (ap₂ (λ u v. number_field u ++ (number_field v ++ new_line)) x y)

    pub same_long : at - mark ≡ length (numbers_text column rest m)
    same_long = sym (length-take-le (at - mark) (drop mark o₁) (omega (arith, length-drop mark o₁, numbers_room, p.ends))) ∙ ap length same_numbers

    pub again_room : (mark + (at - mark) ≤ a) × (a + (at - mark) ≤ length o₁)
    again_room = (omega (arith, i, p.ends), omega (arith, same_long, numbers_room))

  -- then the line stands, and its numbers are found again
  module _ {o₂ : List ℕ} {b : ℕ} (q : Put o₁ o₂ a b (numbers_text column rest m)) where
    pub line_put : Put o₀ o₂ at b (month_text column rest m)
    unfolding month_text
    line_put = then p q

    pub line_marked : (a ≤ b) × (take (b - a) (drop a o₂) ≡ numbers_text column rest m)
    line_marked = (omega (arith, q.ends), written_run q numbers_room)
