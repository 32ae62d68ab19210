-- A word written byte by byte.
use Prim.Native.Nat.{◌+◌, ◌<◌, ◌≤◌, suc, ℕ}
use lib.ListN.{drop, drop_of_length-le, get_or, length, set, take}
use lib.Seq.{take-suc}
use mathlib.Core.List.{List, [], ◌++◌, ◌∷◌, append-nil}
use mathlib.Core.Path.{◌∙◌, ◌≡◌, ap, refl, sym}
use native.Mathlib.Omega.{arith}
use Rattle.writer.proofs.Puts.{none, one, said, then}
use Rattle.writer.specs.Put.{Put}

module _ (word : List ℕ) (old : List ℕ) (at : ℕ) where
  -- the first i bytes stand in the buffer
  pub record Spelt (out : List ℕ) (i : ℕ) : Type 0 where
    pub put : Put old out at (at + i) (take i word)
    pub inside : i ≤ length word

  pub spelt_none : Spelt old 0
  spelt_none = let e : at + 0 ≡ at = omega arith in record { put = rw e none; inside = omega arith }

  pub spelt_more : {out : List ℕ} {i : ℕ} → Spelt out i → i < length word → Spelt (set out (at + i) (get_or word i 0)) (i + 1)
  spelt_more {out} {i} s h =
      let e : at + i + 1 ≡ at + (i + 1) = omega arith in
      let f : i + 1 ≡ suc i = omega arith in
      record {
        put = said (sym (ap (λ k. take k word) f ∙ take-suc word i 0 h)) (rw e at (then s.put (one out (at + i) (get_or word i 0))));
        inside = omega arith;
      }

  pub spelt_all : {out : List ℕ} {i : ℕ} → Spelt out i → length word ≤ i → Put old out at (at + i) word
  spelt_all {out} {i} s h = said (let e : i ≡ length word = omega (arith, s.inside) in ap (λ k. take k word) e ∙ take_all word) s.put
    where
      take_all : (l : List ℕ) → take (length l) l ≡ l
      take_all [] = refl
      take_all (x ∷ xs) = ap (λ l. x ∷ l) (take_all xs)
