-- Appending one row, none, and one part behind another.
use Prim.Native.Nat.{◌*◌, ◌+◌, ◌-◌, ◌≤◌, ℕ}
use lib.IntN.{ℤ}
use lib.ListN.{drop, length, length-append, take}
use lib.Seq.{drop_at, drop-drop, length-sets, length-take-le, sets, sets-eq, take_at}
use mathlib.Core.List.{List, [], ◌++◌, ◌∷◌, append_assoc, append-nil}
use mathlib.Core.Path.{◌∙◌, ◌≡◌, ap, refl, sym}
use native.Mathlib.Omega.{arith}
use Rattle.copies.specs.Appended.{Appended}

-- tables that are alike behind some rows are so behind more
drop_more : (a b : List ℤ) (m n : ℕ) → m ≤ n → drop m a ≡ drop m b → drop n a ≡ drop n b
drop_more a b m n l e =
    let s : m + (n - m) ≡ n = omega arith in
    ap (λ k. drop k a) (sym s) ∙ sym (drop-drop (n - m) m a) ∙ ap (drop (n - m)) e ∙ drop-drop (n - m) m b ∙ ap (λ k. drop k b) s

-- the rows from a node on that is not written to are as they were
pub kept_from : {before after : List ℤ} {count next : ℕ} {added : List ℤ} (from : ℕ) → next ≤ from → Appended before after count next added → drop (from * 5) after ≡ drop (from * 5) before
kept_from {before} {after} {next = next} from l p = drop_more after before (5 * next) (from * 5) (omega arith) p.behind

pub appended_none : (out : List ℤ) (n : ℕ) → Appended out out n n []
appended_none out n = record { is = sym (append-nil (take (5 * n) out)); ends = omega arith; behind = refl; size = refl }

pub appended_row : (before after : List ℤ) (n : ℕ) (row : List ℤ) → length row ≡ 5 → 5 * n + 5 ≤ length before → after ≡ sets before (5 * n) row → Appended before after n (n + 1) row
appended_row before after n row five room e =
    let s : length (take (5 * n) before ++ row) ≡ 5 * (n + 1) = omega (arith, length-append (take (5 * n) before) row, length-take-le (5 * n) before (omega arith)) in
    let d : 5 * n + length row ≡ 5 * (n + 1) = omega arith in
    let whole : after ≡ (take (5 * n) before ++ row) ++ drop (5 * n + length row) before = e ∙ sets-eq row before (5 * n) (omega arith) in
    record {
      is = ap (take (5 * (n + 1))) whole ∙ take_at (take (5 * n) before ++ row) (drop (5 * n + length row) before) (5 * (n + 1)) s;
      ends = omega arith;
      behind = ap (drop (5 * (n + 1))) whole ∙ drop_at (take (5 * n) before ++ row) (drop (5 * n + length row) before) (5 * (n + 1)) s ∙ ap (λ k. drop k before) d;
      size = ap length e ∙ length-sets before (5 * n) row;
    }

pub appended_then : {a b c : List ℤ} {m n o : ℕ} {x y : List ℤ} → Appended a b m n x → Appended b c n o y → Appended a c m o (x ++ y)
appended_then {a} {b} {c} {m} {n} {o} {x} {y} p q = record {
  is = q.is ∙ ap (λ l. l ++ y) p.is ∙ append_assoc (take (5 * m) a) x y;
  ends = omega (arith, p.ends, q.ends, length-append x y);
  behind = q.behind ∙ drop_more b a (5 * n) (5 * o) (omega (arith, q.ends)) p.behind;
  size = q.size ∙ p.size;
}

-- what was added, named otherwise
pub appended_as : {a b : List ℤ} {m n : ℕ} {x y : List ℤ} → x ≡ y → Appended a b m n x → Appended a b m n y
appended_as {a} {b} {m} {n} {x} {y} e p = record { is = p.is ∙ ap (λ l. take (5 * m) a ++ l) e; ends = p.ends ∙ ap (λ l. 5 * m + length l) e; behind = p.behind; size = p.size }

-- the numbers of a row, one by one
pub row_of_lem : {a b c d e v w x y z : ℤ} → a ≡ v → b ≡ w → c ≡ x → d ≡ y → e ≡ z → a ∷ b ∷ c ∷ d ∷ e ∷ [] ≡ v ∷ w ∷ x ∷ y ∷ z ∷ []
row_of_lem p q r s t = cc
