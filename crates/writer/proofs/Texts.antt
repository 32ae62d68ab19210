-- The text of rows, row after row.
use Prim.Native.Nat.{◌*◌, ◌+◌, ◌-◌, ◌<◌, ◌≤◌, suc, zero, ℕ}
use lib.IntN.{ℤ}
use lib.ListN.{drop, length, length-append, set}
use lib.Seq.{drop-drop}
use mathlib.Core.List.{List, [], ◌++◌, ◌∷◌, append_assoc, append-nil}
use mathlib.Core.Path.{◌∙◌, ◌≡◌, ap, refl, sym}
use native.Mathlib.Omega.{arith}
use Rattle.language.specs.Text.Fields.{behind, join_with}
use Rattle.writer.proofs.Puts.{kept, none, one, room_next, said, then}
use Rattle.writer.specs.Put.{Put}
use Rattle.writer.specs.Shapes.{row_text}
use Rattle.writer.specs.Written.{fields_of_row, fields_of_rows, written}

rows_split : (i m : ℕ) (nodes : List ℤ) → fields_of_rows (i + m) nodes ≡ fields_of_rows i nodes ++ fields_of_rows m (drop (5 * i) nodes)
unfolding fields_of_rows
rows_split zero m nodes = let e : 0 + m ≡ m = omega arith in rw e
rows_split (suc i) m nodes =
    let e : suc i + m ≡ suc (i + m) = omega arith in
    let d : drop (5 * i) (drop 5 nodes) ≡ drop (5 * suc i) nodes = drop-drop (5 * i) 5 nodes ∙ ap (λ (k : ℕ). drop k nodes) (let q : 5 + 5 * i ≡ 5 * suc i = omega arith in q) in
    rw (e, rows_split i m (drop 5 nodes), d) (sym (append_assoc (fields_of_row nodes) (fields_of_rows i (drop 5 nodes)) (fields_of_rows m (drop (5 * suc i) nodes))))

pub behind_append : (c : ℕ) (xs ys : List (List ℕ)) → behind c (xs ++ ys) ≡ behind c xs ++ behind c ys
unfolding behind
behind_append c [] ys = refl
behind_append c (x ∷ xs) ys = rw (behind_append c xs ys) (ap (λ (t : List ℕ). c ∷ t) (sym (append_assoc x (behind c xs) (behind c ys))))

-- a row behind others
behind_row : (row : List ℤ) → behind 44 (fields_of_row row) ≡ 44 ∷ row_text row
unfolding behind fields_of_row row_text join_with
behind_row row = refl

behind_rows : (n : ℕ) (nodes : List ℤ) → behind 44 (fields_of_rows (suc n) nodes) ≡ (44 ∷ row_text nodes) ++ behind 44 (fields_of_rows n (drop 5 nodes))
unfolding fields_of_rows
behind_rows n nodes = behind_append 44 (fields_of_row nodes) (fields_of_rows n (drop 5 nodes)) ∙ ap (λ (t : List ℕ). t ++ behind 44 (fields_of_rows n (drop 5 nodes))) (behind_row nodes)

-- a text is what stands behind a comma, without it
written_behind : (n : ℕ) (nodes : List ℤ) → 44 ∷ written (suc n) nodes ≡ behind 44 (fields_of_rows (suc n) nodes)
unfolding written fields_of_rows fields_of_row behind join_with
written_behind n nodes = refl

tail_is : (xs ys : List ℕ) → 44 ∷ xs ≡ 44 ∷ ys → xs ≡ ys
tail_is xs ys e = cc

pub text_split : (i m : ℕ) (nodes : List ℤ) → 1 ≤ i → written (i + m) nodes ≡ written i nodes ++ behind 44 (fields_of_rows m (drop (5 * i) nodes))
text_split zero m nodes h = absurd (omega arith)
text_split (suc i) m nodes h =
    let e : suc i + m ≡ suc (i + m) = omega arith in
    tail_is (written (suc i + m) nodes) (written (suc i) nodes ++ behind 44 (fields_of_rows m (drop (5 * suc i) nodes)))
    (ap (λ (k : ℕ). 44 ∷ written k nodes) e ∙ written_behind (i + m) nodes ∙ ap (λ (k : ℕ). behind 44 (fields_of_rows k nodes)) (sym e)
    ∙ ap (behind 44) (rows_split (suc i) m nodes)
    ∙ behind_append 44 (fields_of_rows (suc i) nodes) (fields_of_rows m (drop (5 * suc i) nodes))
    ∙ ap (λ (t : List ℕ). t ++ behind 44 (fields_of_rows m (drop (5 * suc i) nodes))) (sym (written_behind i nodes)))

pub text_none : (count : ℕ) (nodes : List ℤ) → count ≡ 0 → written count nodes ≡ []
unfolding written fields_of_rows join_with
text_none count nodes e = rw e

pub text_one : (nodes : List ℤ) → written 1 nodes ≡ row_text nodes
unfolding written fields_of_rows row_text
text_one nodes = ap (join_with 44) (append-nil (fields_of_row nodes))

pub text_more : (i : ℕ) (nodes : List ℤ) → 1 ≤ i → written (i + 1) nodes ≡ written i nodes ++ (44 ∷ row_text (drop (5 * i) nodes))
unfolding fields_of_rows behind
text_more i nodes h =
    text_split i 1 nodes h ∙ ap (λ (t : List ℕ). written i nodes ++ t) (behind_rows 0 (drop (5 * i) nodes) ∙ append-nil (44 ∷ row_text (drop (5 * i) nodes)))

-- ---- counting

-- all rows so far, each behind a comma
behind_more : (i : ℕ) (nodes : List ℤ) → behind 44 (fields_of_rows (i + 1) nodes) ≡ behind 44 (fields_of_rows i nodes) ++ (44 ∷ row_text (drop (5 * i) nodes))
unfolding fields_of_rows behind
behind_more i nodes =
    ap (behind 44) (rows_split i 1 nodes) ∙ behind_append 44 (fields_of_rows i nodes) (fields_of_rows 1 (drop (5 * i) nodes))
    ∙ ap (λ (t : List ℕ). behind 44 (fields_of_rows i nodes) ++ t) (behind_rows 0 (drop (5 * i) nodes) ∙ append-nil (44 ∷ row_text (drop (5 * i) nodes)))

pub record Counted (nodes : List ℤ) (sum i : ℕ) : Type 0 where
  pub is : sum ≡ length (behind 44 (fields_of_rows i nodes))
  pub small : sum ≤ 901 * i

pub counted_none : (nodes : List ℤ) → Counted nodes 0 0
unfolding fields_of_rows behind
counted_none nodes = record { is = refl; small = omega arith }

pub counted_more : {nodes : List ℤ} {sum i r : ℕ} → Counted nodes sum i → r ≡ length (row_text (drop (5 * i) nodes)) → r ≤ 900 → Counted nodes (sum + (1 + r)) (i + 1)
counted_more {nodes} {sum} {i} s e m = record {
  is = omega (arith, s.is, ap length (behind_more i nodes), length-append (behind 44 (fields_of_rows i nodes)) (44 ∷ row_text (drop (5 * i) nodes)));
  small = omega (arith, s.small);
}

pub counted_all : {nodes : List ℤ} {sum i : ℕ} (count : ℕ) → Counted nodes sum i → i ≡ count → (count ≡ 0 → ⊥) → sum ≡ 1 + length (written count nodes)
counted_all zero s e n = absurd (n refl)
counted_all {nodes} (suc n) s e _ = omega (arith, rw e at s.is, ap length (written_behind n nodes))

-- ---- writing

-- the comma in front of row i: the first has none
abbrev pub comma_at : ℕ → List ℕ
comma_at zero = []
comma_at (suc i) = 44 ∷ []

text_next : (i : ℕ) (nodes : List ℤ) → written (i + 1) nodes ≡ (written i nodes ++ comma_at i) ++ row_text (drop (5 * i) nodes)
text_next zero nodes = text_one nodes ∙ ap (λ (t : List ℕ). (t ++ []) ++ row_text nodes) (sym (text_none 0 nodes refl))
text_next (suc i) nodes = text_more (suc i) nodes (omega arith) ∙ sym (append_assoc (written (suc i) nodes) (44 ∷ []) (row_text (drop (5 * suc i) nodes)))

text_longer : (i count : ℕ) (nodes : List ℤ) → i < count → length (written (i + 1) nodes) ≤ length (written count nodes)
text_longer i count nodes h =
    let e : i + 1 + (count - (i + 1)) ≡ count = omega arith in
    omega (arith, ap length (ap (λ (k : ℕ). written k nodes) (sym e) ∙ text_split (i + 1) (count - (i + 1)) nodes (omega arith)), length-append (written (i + 1) nodes) (behind 44 (fields_of_rows (count - (i + 1)) (drop (5 * (i + 1)) nodes))))

-- row i behind the rows before it and a comma
module _ (nodes : List ℤ) (count i : ℕ) {old out : List ℕ} {place : ℕ} (h : i < count) (room : length (written count nodes) ≤ length old) (p : Put old out 0 place (written i nodes ++ comma_at i)) where
  pub row_room : place + length (row_text (drop (5 * i) nodes)) ≤ length out
  row_room = room_next (row_text (drop (5 * i) nodes)) (let r : 0 + length ((written i nodes ++ comma_at i) ++ row_text (drop (5 * i) nodes)) ≤ length old = omega (arith, ap length (text_next i nodes), text_longer i count nodes h) in r) p

  pub row_put : {new : List ℕ} {end : ℕ} → Put out new place end (row_text (drop (5 * i) nodes)) → Put old new 0 end (written (i + 1) nodes)
  row_put r = said (sym (text_next i nodes)) (then p r)

-- the comma in front of row i
module _ (nodes : List ℤ) (i : ℕ) {old out : List ℕ} {place : ℕ} (p : Put old out 0 place (written i nodes)) where
  comma : 0 < i → comma_at i ≡ 44 ∷ []
  comma h = let e : i ≡ suc (i - 1) = omega arith in rw e

  pub comma_room : 0 < i → (count : ℕ) → i < count → length (written count nodes) ≤ length old → place < length out
  comma_room h count l room =
      omega (arith, text_longer i count nodes l, ap length (text_next i nodes), length-append (written i nodes ++ comma_at i) (row_text (drop (5 * i) nodes)), length-append (written i nodes) (comma_at i), ap length (comma h), p.ends, kept p)

  pub comma_put : 0 < i → Put old (set out place 44) 0 (place + 1) (written i nodes ++ comma_at i)
  comma_put h = then p (said (sym (comma h)) (one out place 44))

  pub comma_none : i ≤ 0 → Put old out 0 place (written i nodes ++ comma_at i)
  comma_none h = let e : i ≡ 0 = omega arith in said (sym (append-nil (written i nodes)) ∙ ap (λ (t : List ℕ). written i nodes ++ t) (let n : [] ≡ comma_at i = rw e in n)) p

pub text_starts : (nodes : List ℤ) {out : List ℕ} → Put out out 0 0 (written 0 nodes)
text_starts nodes = said (sym (text_none 0 nodes refl)) none
