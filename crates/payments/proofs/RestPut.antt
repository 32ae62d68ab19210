-- A text from one of its bytes on, copied into a buffer byte by byte.
use Prim.Native.Nat.{◌+◌, ◌-◌, ◌<◌, ◌≤◌, suc, ℕ}
use lib.ListN.{drop, get_or, length, length-drop, set, take}
use lib.Seq.{get_or-drop, length-paste, paste, paste-suc, paste-zero, sets-eq, take-length}
use mathlib.Core.List.{List, ◌++◌}
use mathlib.Core.Path.{◌∙◌, ◌≡◌, ap, ap₂, sym}
use native.Mathlib.Omega.{arith}
use Rattle.writer.specs.Put.{Put}

module _ (text : List ℕ) (from : ℕ) (old : List ℕ) (at : ℕ) where
  -- i bytes stand in the buffer
  pub record Copied (out : List ℕ) (i : ℕ) : Type 0 where
    pub is : out ≡ paste old at (drop from text) i
    pub inside : i ≤ length text - from

  pub none_copied : Copied old 0
  none_copied = record { is = paste-zero old at (drop from text); inside = omega arith }

  module _ (room : at + (length text - from) ≤ length old) {out : List ℕ} {i : ℕ} (s : Copied out i) where
    pub same_size : length out ≡ length old
    same_size = ap length s.is ∙ length-paste old at (drop from text) i (omega (arith, s.inside, room)) (omega (arith, s.inside, length-drop from text))

    pub one_copied : i < length text - from → Copied (set out (at + i) (get_or text (from + i) 0)) (i + 1)
    one_copied h =
        let f : suc i ≡ i + 1 = omega arith in
        record {
          is =
              ap₂ (λ o b. set o (at + i) b) s.is (sym (get_or-drop from text i 0))
              ∙ paste-suc old at (drop from text) i 0 (omega (arith, h, room)) (omega (arith, h, length-drop from text))
              ∙ ap (paste old at (drop from text)) f;
          inside = omega (arith, h);
        }

    pub all_copied : length text - from ≤ i → Put old out at (at + (length text - from)) (drop from text)
    all_copied h =
        let e : i ≡ length (drop from text) = omega (arith, h, s.inside, length-drop from text) in
        record {
          is =
              s.is ∙ ap (paste old at (drop from text)) e ∙ ap (λ x. take at old ++ x ++ drop (at + length (drop from text)) old) (take-length (drop from text))
              ∙ sym (sets-eq (drop from text) old at (omega (arith, room, length-drop from text)));
          ends = omega (arith, length-drop from text);
        }
