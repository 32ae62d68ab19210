-- A text with its first delay one less, in a buffer.
use Prim.Native.Nat.{◌+◌, ◌-◌, ◌<◌, ◌≤◌, ℕ}
use borrow.Author.Tests.{le-leb, lt-leb}
use lib.IntN.{pos}
use lib.ListN.{drop, get_or, length, length-append, length-drop, length-set, set, take}
use lib.Seq.{length-take-le, sets, sets-eq}
use mathlib.Core.List.{List, [], ◌++◌, ◌∷◌}
use mathlib.Core.Path.{◌∙◌, ◌≡◌, ap, refl}
use native.Mathlib.Omega.{arith}
use Rattle.integers.specs.declared.Pence.{Pence}
use Rattle.language.specs.Calls.{into_buffer}
use Rattle.language.specs.Text.Number.{print_nat}
use Rattle.payments.specs.Answers.{stepping_answer}
use Rattle.payments.specs.Waits.{sooner, wait_call}
use Rattle.text.specs.declared.Refusal.TheVariants.{NoRoom}
use Rattle.writer.proofs.Decimal.{digits_most}
use Rattle.writer.proofs.Puts.{kept, pair, said, then}
use Rattle.writer.specs.Put.{Put}
use Rattle.std.specs.Prelude.{Err, Ok}

in-front : (text buffer : List ℕ) → length text ≤ length buffer → sets buffer 0 text ≡ text ++ drop (length text) buffer
in-front text buffer h =
    let e : 0 + length text ≡ length text = omega arith in
    sets-eq text buffer 0 (omega arith) ∙ ap (λ (k : ℕ). text ++ drop k buffer) e

first_two : (text : List ℕ) → 2 ≤ length text → get_or text 0 0 ∷ get_or text 1 0 ∷ [] ≡ take 2 text
first_two [] h = absurd (omega arith)
first_two (a ∷ []) h = absurd (omega arith)
first_two (a ∷ b ∷ r) h = refl

pub few_digits : (d : ℕ) {n : ℕ} → n ≡ length (print_nat d) → n ≤ 20
few_digits d e = omega (arith, e, digits_most d)

module _ (text : List ℕ) (d : ℕ) (long : 2 + length (print_nat d) ≤ length text) (buffer : List ℕ) {n m : ℕ} (en : n ≡ length (print_nat d)) (em : m ≡ length (print_nat (d - 1))) where
  sooner_length : length (sooner d text) ≡ 2 + m + (length text - (2 + n))
  unfolding sooner
  sooner_length =
      omega (
        arith,
        en,
        em,
        length-append (take 2 text) (print_nat (d - 1) ++ drop (2 + length (print_nat d)) text),
        length-append (print_nat (d - 1)) (drop (2 + length (print_nat d)) text),
        length-take-le 2 text (omega arith),
        length-drop (2 + length (print_nat d)) text,
      )

  pub no_room : length buffer < 2 + m + (length text - (2 + n)) → (buffer ≡ (wait_call d text buffer).buffer) × (stepping_answer (Err NoRoom) ≡ (wait_call d text buffer).answer)
  unfolding wait_call into_buffer stepping_answer
  no_room h = let e = lt-leb (length (sooner d text)) (length buffer) (omega (arith, h, sooner_length)) in (rw e refl, rw e refl)

  module _ (room : 2 + m + (length text - (2 + n)) ≤ length buffer) where
    -- with the first two bytes
    abbrev begun : List ℕ
    begun = set (set buffer 0 (get_or text 0 0)) 1 (get_or text 1 0)

    begun_size : length begun ≡ length buffer
    begun_size = length-set (set buffer 0 (get_or text 0 0)) 1 (get_or text 1 0) ∙ length-set buffer 0 (get_or text 0 0)

    pub digits_room : 2 + length (print_nat (d - 1)) ≤ length begun
    digits_room = omega (arith, room, em, begun_size)

    module _ {at : ℕ} {more : List ℕ} (p : Put begun more 2 at (print_nat (d - 1))) where
      pub rest_room : at + (length text - (2 + n)) ≤ length more
      rest_room = omega (arith, room, em, p.ends, kept p, begun_size)

      module _ {end : ℕ} {out : List ℕ} (q : Put more out at end (drop (2 + n) text)) where
        pub same_size : length out ≡ length buffer
        same_size = kept q ∙ kept p ∙ begun_size

        all_put : Put buffer out 0 end (sooner d text)
        unfolding sooner
        all_put = then (said (first_two text (omega (arith, long))) (pair buffer 0 (get_or text 0 0) (get_or text 1 0))) (then p (said (ap (λ k. drop (2 + k) text) en) q))

        pub whole : (v : Pence) → v.0 ≡ pos 0 → (out ≡ (wait_call d text buffer).buffer) × (stepping_answer (Ok (record { pence = v; bytes = end })) ≡ (wait_call d text buffer).answer)
        unfolding wait_call into_buffer stepping_answer
        whole v ev =
            let r : length (sooner d text) ≤ length buffer = omega (arith, room, sooner_length) in
            let e = le-leb (length (sooner d text)) (length buffer) r in
            let s : end ≡ length (sooner d text) = omega (arith, all_put.ends) in
            (rw e (all_put.is ∙ in-front (sooner d text) buffer r), rw (e, s, ev) refl)
