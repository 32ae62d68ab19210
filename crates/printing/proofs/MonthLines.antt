-- The months' lines, counted and written one by one.
use Prim.Native.Nat.{◌*◌, ◌+◌, ◌-◌, ◌<◌, ◌≤◌, suc, zero, ℕ}
use lib.IntN.{ℤ}
use lib.ListN.{length, length-append}
use mathlib.Core.List.{List, [], ◌++◌, append_assoc, append-nil}
use mathlib.Core.Path.{◌∙◌, ◌≡◌, ap, refl, sym}
use native.Mathlib.Omega.{arith}
use Rattle.language.specs.Text.Fields.{bytes}
use Rattle.language.specs.Text.Number.{print_nat, print_number}
use Rattle.printing.specs.Lines.{head_text, month_text, months_text, new_line, numbers_text, refusal_text}
use Rattle.writer.proofs.Decimal.{digits_most}
use Rattle.writer.proofs.FieldTexts.{number_small}
use Rattle.writer.proofs.Puts.{none, room_as, room_first, room_next, said, then}
use Rattle.writer.specs.Put.{Put}
use Rattle.writer.specs.Shapes.{number_field}
use Rattle.writer.specs.Written.{slot}

-- ---- one line
module _ (column rest : List ℤ) (m : ℕ) where
  pub month_counted : {a b c : ℕ} → a ≡ length (print_nat m) → b ≡ length (print_number (slot column m)) → c ≡ length (print_number (slot rest m)) → (a + b + c + 3 ≡ length (month_text column rest m)) × (a + b + c + 3 ≤ 70)
  unfolding month_text numbers_text
  month_counted {a} {b} {c} ea eb ec = (
    omega (arith, ea, eb, ec, length-append (print_nat m) (numbers_text column rest m), length-append (number_field (slot column m)) (number_field (slot rest m) ++ new_line), length-append (number_field (slot rest m)) new_line),
    omega (arith, ea, digits_most m, number_small (slot column m) b eb, number_small (slot rest m) c ec),
  )

pub head_counted : (head : List ℤ) {a b : ℕ} → a ≡ length (print_number (slot head 0)) → b ≡ length (print_number (slot head 1)) → (a + b + 11 ≡ length (head_text head)) × (a + b + 11 ≤ 60)
unfolding head_text bytes
head_counted head {a} {b} ea eb = (
  omega (arith, ea, eb, length-append (number_field (slot head 0)) (number_field (slot head 1) ++ new_line), length-append (number_field (slot head 1)) new_line),
  omega (arith, number_small (slot head 0) a ea, number_small (slot head 1) b eb),
)

pub refusal_counted : (number : List ℤ) {a : ℕ} → a ≡ length (print_number (slot number 0)) → a + 9 ≡ length (refusal_text number)
unfolding refusal_text bytes
refusal_counted number {a} ea = omega (arith, ea, length-append (number_field (slot number 0)) new_line)

months_most : (column rest : List ℤ) (m n : ℕ) → length (months_text column rest m n) ≤ 70 * n
unfolding months_text
months_most column rest m zero = omega arith
months_most column rest m (suc n) =
    omega (arith, length-append (month_text column rest m) (months_text column rest (suc m) n), month_counted column rest m refl refl refl, months_most column rest (suc m) n)

-- the whole answer
pub all_counted : (head column rest : List ℤ) (months : ℕ) {a b : ℕ} → a ≡ length (head_text head) → b ≡ length (months_text column rest 0 months) → a + b ≡ length (head_text head ++ months_text column rest 0 months)
all_counted head column rest months ea eb = omega (arith, ea, eb, length-append (head_text head) (months_text column rest 0 months))

-- where the longest lines fit, these do
pub surely_fits : (head column rest : List ℤ) (months room : ℕ) → 60 + 70 * months ≤ room → length (head_text head ++ months_text column rest 0 months) ≤ room
surely_fits head column rest months room h =
    omega (arith, length-append (head_text head) (months_text column rest 0 months), head_counted head refl refl, months_most column rest 0 months)

pub short_number : (z : ℤ) {a : ℕ} → a ≡ length (print_number z) → a ≤ 21
short_number z {a} e = number_small z a e

-- ---- the lines in order
module _ (column rest : List ℤ) where
  abbrev text : ℕ → ℕ → List ℕ
  text = months_text column rest

  next_months : (m months : ℕ) → m < months → text m (months - m) ≡ month_text column rest m ++ text (m + 1) (months - (m + 1))
  unfolding months_text
  next_months m months h =
      let e : months - m ≡ suc (months - (m + 1)) = omega arith in
      let f : suc m ≡ m + 1 = omega arith in
      rw (e, f) refl

  no_months : (m months : ℕ) → months ≤ m → text m (months - m) ≡ []
  unfolding months_text
  no_months m months h = let e : months - m ≡ 0 = omega arith in rw e refl

  -- sum counts the lines before month m
  pub record Counted (months sum m : ℕ) : Type 0 where
    pub is : length (text 0 months) ≡ sum + length (text m (months - m))
    pub most : m ≤ months
    pub small : sum ≤ 70 * m

  pub counted_none : (months : ℕ) → Counted months 0 0
  counted_none months = let e : months - 0 ≡ months = omega arith in record { is = rw e (omega arith); most = omega arith; small = omega arith }

  pub counted_more : {months sum m r : ℕ} → Counted months sum m → m < months → r ≡ length (month_text column rest m) → r ≤ 70 → Counted months (sum + r) (m + 1)
  counted_more {months} {sum} {m} {r} s h e l = record {
    is = omega (arith, s.is, ap length (next_months m months h), length-append (month_text column rest m) (text (m + 1) (months - (m + 1))));
    most = omega arith;
    small = omega (arith, s.small);
  }

  pub counted_all : {months sum m : ℕ} → Counted months sum m → months ≤ m → months ≤ 601 → (sum ≡ length (text 0 months)) × (sum ≤ 43_000)
  counted_all {months} {sum} {m} s h k = (omega (arith, s.is, ap length (no_months m months h)), omega (arith, s.small, s.most))

  -- the lines before month m stand in the buffer
  pub record Printing (months : ℕ) (old out : List ℕ) (at place m : ℕ) : Type 0 where
    pub done : List ℕ
    pub put : Put old out at place done
    pub all : text 0 months ≡ done ++ text m (months - m)

  pub printing_starts : (months : ℕ) (out : List ℕ) (at : ℕ) → Printing months out out at at 0
  printing_starts months out at = let e : months - 0 ≡ months = omega arith in record { done = []; put = none; all = rw e refl }

  module _ {months : ℕ} {old out : List ℕ} {at place m : ℕ} (s : Printing months old out at place m) where
    module _ (h : m < months) where
      split : text 0 months ≡ s.done ++ (month_text column rest m ++ text (m + 1) (months - (m + 1)))
      split = s.all ∙ ap (λ t. s.done ++ t) (next_months m months h)

      pub next_room : at + length (text 0 months) ≤ length old → place + length (month_text column rest m) ≤ length out
      next_room r =
          room_first place (length out) (month_text column rest m) (text (m + 1) (months - (m + 1)))
          (room_next _ (room_as at (length old) _ _ split r) s.put)

      pub printing_on : {new : List ℕ} {next : ℕ} → Put out new place next (month_text column rest m) → Printing months old new at next (m + 1)
      printing_on p = record {
        done = s.done ++ month_text column rest m;
        put = then s.put p;
        all = split ∙ sym (append_assoc s.done (month_text column rest m) (text (m + 1) (months - (m + 1))));
      }

    pub printing_ends : months ≤ m → Put old out at place (text 0 months)
    printing_ends h = said (sym (s.all ∙ rw (no_months m months h) (append-nil s.done))) s.put
