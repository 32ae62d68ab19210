-- The values that wait in the loop: the newest in a variable, those beneath it in the stack's cells from 1 on.
use Prim.Native.Nat.{◌+◌, ◌-◌, ◌<◌, ◌≤◌, suc, zero, ℕ}
use Rattle.amounts.specs.Fine.{Divides}
use Rattle.backwards.proofs.Ways.{Leaves, Way, between, divided, joined, letter_passed, row_passed, rows_passed, taken}
use Rattle.integers.specs.Rounding.{floor_z}
use Rattle.language.specs.Answer.{Answer, got, refused}
use Rattle.nodes.proofs.Signed.{key}
use Rattle.nodes.specs.Letters.{letter_of_amount}
use Rattle.nodes.specs.Table.{nat_of, slot_at}
use Rattle.nodes.specs.declared.AmountLetter.TheVariants as amount
use Rattle.nodes.specs.declared.AmountLetter.{AmountLetter}
use lib.IntN.{◌*ℤ◌, ◌+ℤ◌, ◌-ℤ◌, pos, ℤ}
use lib.ListN.{get_or, length, length-set, set}
use lib.Seq.{get_or-set_other, get_or-set_same}
use mathlib.Core.List.{List, [], ◌∷◌}
use mathlib.Core.Path.{◌∙◌, ◌≡◌, ap, refl, subst, sym}
use mir.Syntax.{w64}
use mir.Val.{SFits, of_z, to_z}
use native.Mathlib.Omega.{arith}

-- cell d and those beneath it; cell 0 holds no value
unfoldable pub cells : List ℤ → ℕ → List ℤ
cells stack zero = []
cells stack (suc d) = get_or stack (suc d) (pos 0) ∷ cells stack d

-- all that wait, the newest first
unfoldable pub waiting : List ℤ → ℕ → ℤ → List ℤ
waiting stack zero top = []
waiting stack (suc d) top = top ∷ cells stack d

cells_kept : (stack : List ℤ) (k : ℕ) (v : ℤ) (d : ℕ) → d < k → cells (set stack k v) d ≡ cells stack d
unfolding cells
cells_kept stack k v zero h = refl
cells_kept stack k v (suc d) h = rw (get_or-set_other stack k (suc d) v (pos 0) (λ e. omega arith), cells_kept stack k v d (omega arith))

-- the newest is put into the stack
pushed : (stack : List ℤ) (depth : ℕ) (top v : ℤ) → depth < length stack → waiting (set stack depth top) (depth + 1) v ≡ v ∷ waiting stack depth top
unfolding waiting cells
pushed stack zero top v h = refl
pushed stack (suc d) top v h =
    let a : suc d + 1 ≡ suc (suc d) = omega arith in
    rw (a, get_or-set_same stack (suc d) top (pos 0) h, cells_kept stack (suc d) top d (omega arith))

less_one : (n : ℕ) → suc n - 1 ≡ n
less_one n = omega arith

-- where two can be joined, the newest and the cell beneath it are
pub record Two (w : Way) (op : ℤ → ℤ → ℤ) (P : List ℤ → Type 0) (stack : List ℤ) (depth : ℕ) (top : ℤ) : Type 0 where
  pub some : 1 ≤ depth
  pub then : w.joins op top (get_or stack (depth - 1) (pos 0)) (λ z. P (waiting stack (depth - 1) z))

two_wait : (w : Way) (op : ℤ → ℤ → ℤ) (P : List ℤ → Type 0) (stack : List ℤ) (depth : ℕ) (top : ℤ) → joined w op P (waiting stack depth top) → Two w op P stack depth top
unfolding waiting cells
two_wait w op P stack zero top h = absurd h
two_wait w op P stack (suc zero) top h = absurd h
two_wait w op P stack (suc (suc d)) top h = record { some = omega arith; then = rw (less_one (suc d)) h }

one_waits : (n : ℕ) (P : List ℤ → Type 0) (stack : List ℤ) (depth : ℕ) (top : ℤ) → divided n P (waiting stack depth top) → Divides n × P (waiting stack depth (floor_z top n))
unfolding waiting
one_waits n P stack zero top h = absurd h
one_waits n P stack (suc d) top h = h

-- what a answers is the one value that waits
abbrev pub Only : Answer ℤ → List ℤ → Type 0
Only a [] = ⊥
Only a (x ∷ []) = a ≡ got x
Only a (x ∷ y ∷ s) = ⊥

alone : (stack : List ℤ) (depth : ℕ) (top : ℤ) (a : Answer ℤ) → Only a (waiting stack depth top) → a ≡ got top
unfolding waiting cells
alone stack zero top a h = absurd h
alone stack (suc zero) top a h = h
alone stack (suc (suc d)) top a h = absurd h

first : (a : Answer ℤ) → taken a (λ z. Only a (z ∷ []))
first (got z) = refl
first (refused k) = tt

-- the letter of a row, s as the code reads it
pub letter_at : {s z : ℤ} {n : ℕ} → SFits w64 s → s ≡ z → of_z w64 s ≡ n → letter_of_amount z ≡ letter_of_amount (to_z w64 n)
letter_at f e k = ap letter_of_amount (sym e ∙ key f k)

-- once the rows from `from` up to `at` are passed too, what a answers alone waits
pub record Passing (w : Way) (nodes : List ℤ) (from to : ℕ) (a : Answer ℤ) (stack : List ℤ) (depth : ℕ) (top : ℤ) (at : ℕ) : Type 0 where
  pub low : from ≤ at
  pub high : at ≤ to
  pub size : length stack ≡ 32
  pub deep : depth ≤ 32
  pub rest : between w nodes from at (Only a) (waiting stack depth top)

-- at the amount's end nothing waits
pub none_passed : {w : Way} {nodes : List ℤ} {from to : ℕ} {a : Answer ℤ} → Leaves w nodes from to a → {stack : List ℤ} {top : ℤ} → length stack ≡ 32 → Passing w nodes from to a stack 0 top to
unfolding waiting
none_passed {w} {nodes} {from} {to} {a} l s = record { low = omega (arith, l.some); high = omega arith; size = s; deep = omega arith; rest = l.leaves (Only a) [] (first a) }

module _ {w : Way} {nodes : List ℤ} {from to : ℕ} {a : Answer ℤ} {stack : List ℤ} {depth : ℕ} {top : ℤ} {at : ℕ} (p : Passing w nodes from to a stack depth top at) where
  pub all_passed : at ≤ from → a ≡ got top
  unfolding rows_passed
  all_passed h =
      let e : at - from ≡ zero = omega arith in
      alone stack depth top a (subst (λ n. rows_passed w nodes n from (Only a) (waiting stack depth top)) e p.rest)

  -- the row that the loop comes to
  module _ (h : from < at) where
    abbrev pub letter_there : AmountLetter
    letter_there = letter_of_amount (slot_at nodes (at - 1) 0)

    abbrev pub Next : List ℤ → Type 0
    Next t = between w nodes from (at - 1) (Only a) t

    by_letter : {m : AmountLetter} → letter_there ≡ m → letter_passed w m (slot_at nodes (at - 1) 1) (slot_at nodes (at - 1) 2) Next (waiting stack depth top)
    unfolding rows_passed
    by_letter e =
        let i : at - from ≡ suc (at - 1 - from) = omega (arith, h) in
        let b : from + (at - 1 - from) ≡ at - 1 = omega (arith, h) in
        let f = subst (λ n. rows_passed w nodes n from (Only a) (waiting stack depth top)) i p.rest in
        let g = subst (λ n. row_passed w nodes n Next (waiting stack depth top)) b f in
        subst (λ l. letter_passed w l (slot_at nodes (at - 1) 1) (slot_at nodes (at - 1) 2) Next (waiting stack depth top)) e g

    abbrev pub After : List ℤ → ℕ → ℤ → Type 0
    After s d z = Passing w nodes from to a s d z (at - 1)

    next : (s : List ℤ) (d : ℕ) (z : ℤ) → length s ≡ 32 → d ≤ 32 → Next (waiting s d z) → After s d z
    next s d z e k n = record { low = omega (arith, h); high = omega (arith, p.high); size = e; deep = k; rest = n }

    -- a number or a reading, v, is pushed
    pub pushed_row : depth < 32 → {z v : ℤ} → z ≡ v → Next (v ∷ waiting stack depth top) → After (set stack depth top) (depth + 1) z
    pushed_row d {z} ez n =
        next (set stack depth top) (depth + 1) z (length-set stack depth top ∙ p.size) (omega arith)
        (rw (pushed stack depth top z (omega (arith, p.size)), ez) n)

    pub number_row : letter_there ≡ amount.Number → depth < 32 → {z : ℤ} → z ≡ slot_at nodes (at - 1) 1 → After (set stack depth top) (depth + 1) z
    number_row e d ez = pushed_row d ez (by_letter e)

    pub index_reads : letter_there ≡ amount.Index → w.reads (slot_at nodes (at - 1) 1) (slot_at nodes (at - 1) 2) (λ z. Next (z ∷ waiting stack depth top))
    index_reads e = by_letter e

    -- two become one, v
    abbrev pub Joins : (ℤ → ℤ → ℤ) → Type 0
    Joins op = Two w op Next stack depth top

    pub sum_joins : letter_there ≡ amount.Sum → Joins ◌+ℤ◌
    sum_joins e = two_wait w ◌+ℤ◌ Next stack depth top (by_letter e)

    pub difference_joins : letter_there ≡ amount.Difference → Joins ◌-ℤ◌
    difference_joins e = two_wait w ◌-ℤ◌ Next stack depth top (by_letter e)

    pub product_joins : letter_there ≡ amount.Product → Joins ◌*ℤ◌
    product_joins e = two_wait w ◌*ℤ◌ Next stack depth top (by_letter e)

    pub joined_row : {z v : ℤ} → z ≡ v → Next (waiting stack (depth - 1) v) → After stack (depth - 1) z
    joined_row ez n = next stack (depth - 1) _ p.size (omega (arith, p.deep)) (rw ez n)

    -- the newest is divided
    divides : letter_there ≡ amount.Quotient → Divides (nat_of (slot_at nodes (at - 1) 1)) × Next (waiting stack depth (floor_z top (nat_of (slot_at nodes (at - 1) 1))))
    divides e = one_waits (nat_of (slot_at nodes (at - 1) 1)) Next stack depth top (by_letter e)

    pub quotient_divides : letter_there ≡ amount.Quotient → Divides (nat_of (slot_at nodes (at - 1) 1))
    quotient_divides e = (divides e).0

    pub quotient_row : letter_there ≡ amount.Quotient → {z : ℤ} → z ≡ floor_z top (nat_of (slot_at nodes (at - 1) 1)) → After stack depth z
    quotient_row e ez = next stack depth _ p.size p.deep (rw ez (divides e).1)
