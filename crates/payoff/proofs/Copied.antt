-- A text cut byte by byte into a buffer.
use Prim.Native.Nat.{◌+◌, ◌<◌, ◌≤◌, suc, ℕ}
use lib.ListN.{get_or-map, drop, get_or, length, length-map, set}
use lib.Seq.{length-paste, paste, paste-suc, paste-zero, take-length}
use mathlib.Core.List.{List, ◌++◌, map}
use mathlib.Core.Path.{◌∙◌, ◌≡◌, ap, ap₂, sym}
use native.Mathlib.Omega.{arith}
use Rattle.language.specs.Calls.{over}
use Rattle.payoff.specs.Cut.{byte_of_cut}

module _ (text old : List ℕ) where
  -- the first i bytes stand in the buffer
  pub record Copied (out : List ℕ) (i : ℕ) : Type 0 where
    pub is : out ≡ paste old 0 (map byte_of_cut text) i
    pub inside : i ≤ length text

  pub none_copied : Copied old 0
  none_copied = record { is = paste-zero old 0 (map byte_of_cut text); inside = omega arith }

  module _ (room : length text ≤ length old) {out : List ℕ} {i : ℕ} (s : Copied out i) where
    pub same_size : length out ≡ length old
    same_size = ap length s.is ∙ length-paste old 0 (map byte_of_cut text) i (omega (arith, s.inside)) (omega (arith, s.inside, length-map text byte_of_cut))

    pub one_copied : i < length text → Copied (set out i (byte_of_cut (get_or text i 0))) (i + 1)
    one_copied h =
        let f : suc i ≡ i + 1 = omega arith in
        let z : 0 + i ≡ i = omega arith in
        record {
          is =
              ap₂ (λ o b. set o i b) s.is (sym (get_or-map byte_of_cut text i 0))
              ∙ ap (λ k. set (paste old 0 (map byte_of_cut text) i) k (get_or (map byte_of_cut text) i (byte_of_cut 0))) (sym z)
              ∙ paste-suc old 0 (map byte_of_cut text) i (byte_of_cut 0) (omega arith) (omega (arith, length-map text byte_of_cut))
              ∙ ap (paste old 0 (map byte_of_cut text)) f;
          inside = omega arith;
        }

    pub all_copied : length text ≤ i → out ≡ over (map byte_of_cut text) old
    all_copied h =
        let e : i ≡ length (map byte_of_cut text) = omega (arith, s.inside, length-map text byte_of_cut) in
        let z : 0 + length (map byte_of_cut text) ≡ length (map byte_of_cut text) = omega arith in
        s.is ∙ ap (paste old 0 (map byte_of_cut text)) e ∙ ap₂ (λ x k. x ++ drop k old) (take-length (map byte_of_cut text)) z
