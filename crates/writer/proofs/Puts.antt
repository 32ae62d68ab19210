-- Runs of written bytes: one after the other, how much room is left, and what one store does.
use Prim.Native.Nat.{◌+◌, ◌<◌, ◌≤◌, suc, ℕ}
use lib.ListN.{length, length-append, length-set, set}
use lib.Seq.{length-sets, set_comm, sets}
use mathlib.Core.List.{List, [], ◌++◌, ◌∷◌}
use mathlib.Core.Path.{◌∙◌, ◌≡◌, ap, refl, sym}
use native.Mathlib.Omega.{arith}
use Rattle.writer.specs.Put.{Put}

pub sets_append : (l : List ℕ) (i : ℕ) (xs ys : List ℕ) → sets l i (xs ++ ys) ≡ sets (sets l i xs) (i + length xs) ys
sets_append l i [] ys = ap (λ (k : ℕ). sets l k ys) (let e : i ≡ i + 0 = omega arith in e)
sets_append l i (x ∷ xs) ys =
    sets_append (set l i x) (suc i) xs ys ∙ ap (λ (k : ℕ). sets (sets (set l i x) (suc i) xs) k ys) (let e : suc i + length xs ≡ i + suc (length xs) = omega arith in e)

-- ---- runs

pub none : {a : List ℕ} {i : ℕ} → Put a a i i []
none = record { is = refl; ends = omega arith }

pub one : (a : List ℕ) (i b : ℕ) → Put a (set a i b) i (i + 1) (b ∷ [])
one a i b = record { is = refl; ends = omega arith }

pub pair : (a : List ℕ) (i x y : ℕ) → Put a (set (set a i x) (i + 1) y) i (i + 2) (x ∷ y ∷ [])
pair a i x y =
    let p : i + 1 ≡ suc i = omega arith in
    record { is = rw p; ends = omega arith }

pub three : (a : List ℕ) (i x y z : ℕ) → Put a (set (set (set a i x) (i + 1) y) (i + 2) z) i (i + 3) (x ∷ y ∷ z ∷ [])
three a i x y z =
    let p : i + 1 ≡ suc i = omega arith in let q : i + 2 ≡ suc (suc i) = omega arith in
    record { is = rw (p, q); ends = omega arith }

pub then : {a b c : List ℕ} {i j k : ℕ} {xs ys : List ℕ} → Put a b i j xs → Put b c j k ys → Put a c i k (xs ++ ys)
then {a} {b} {c} {i} {j} {k} {xs} {ys} p q =
    record {
      is = q.is ∙ rw (p.is, p.ends) (sym (sets_append a i xs ys));
      ends = omega (arith, p.ends, q.ends, length-append xs ys);
    }

-- the same bytes, said otherwise
pub said : {a b : List ℕ} {i j : ℕ} {xs ys : List ℕ} → xs ≡ ys → Put a b i j xs → Put a b i j ys
said e p = rw e at p

pub kept : {a b : List ℕ} {i j : ℕ} {xs : List ℕ} → Put a b i j xs → length b ≡ length a
kept {a} {b} {i} {j} {xs} p = ap length p.is ∙ length-sets a i xs

-- ---- room

pub room_as : (i n : ℕ) (xs ys : List ℕ) → xs ≡ ys → i + length xs ≤ n → i + length ys ≤ n
room_as i n xs ys e h = omega (arith, ap length e)

pub room_first : (i n : ℕ) (xs ys : List ℕ) → i + length (xs ++ ys) ≤ n → i + length xs ≤ n
room_first i n xs ys h = omega (arith, length-append xs ys)

pub room_next : {a b : List ℕ} {i j : ℕ} {xs : List ℕ} (ys : List ℕ) → i + length (xs ++ ys) ≤ length a → Put a b i j xs → j + length ys ≤ length b
room_next {a} {b} {i} {j} {xs} ys h p = omega (arith, length-append xs ys, p.ends, kept p)

pub room_front : (i b : ℕ) (xs a : List ℕ) → i + length (b ∷ xs) ≤ length a → (i < length a) × (i + 1 + length xs ≤ length (set a i b))
room_front i b xs a h = (omega arith, omega (arith, length-set a i b))

-- ---- stores

-- a byte in front of a run
pub set_front : (l : List ℕ) (i d : ℕ) (xs : List ℕ) (k : ℕ) → suc i ≤ k → set (sets l k xs) i d ≡ sets (set l i d) k xs
set_front l i d [] k h = refl
set_front l i d (x ∷ xs) k h =
    set_front (set l k x) i d xs (suc k) (omega arith) ∙ ap (λ (m : List ℕ). sets m (suc k) xs) (set_comm l k i x d (λ e. omega arith))
