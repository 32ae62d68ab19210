-- A part of a plan's text that the definition reads.
use Rattle.std.specs.Prelude.{◌*◌, ◌+◌, ◌≤◌, ℕ, get_or, length, List, ◌∷◌, ◌≡◌}
use Rattle.fields.specs.Positions.{rest_at}
use Rattle.language.specs.Text.Letters.{Kind, PlanLetter, plan_form}
use Rattle.language.specs.Text.Reader.{Trees, give, read_trees, then_read}

-- a text so short that a byte's place fits, and never has too many nodes
pub record Short (text : List ℕ) : Type 0 where
  pub short : length text ≤ 1000

-- with `left` levels left, a node of the kind is read from byte `at` up to byte next; `tree` puts it in front of what is then read
pub record Reads (left : ℕ) (kind : Kind) (text : List ℕ) (at next : ℕ) (tree : Trees PlanLetter → Trees PlanLetter) : Type 0 where
  pub nodes : ℕ
  pub is : (ks : List Kind) (count : ℕ) → 2 * count ≤ at
      → read_trees plan_form left (kind ∷ ks) (rest_at text at count) ≡ then_read (read_trees plan_form left ks (rest_at text next (count + nodes))) (λ u. give (tree u))
  pub onward : at + 2 * nodes ≤ next
  pub within : next ≤ length text + 1

-- the letter b stands at byte `at`, in front of a comma, and at least four bytes more
pub record Here (text : List ℕ) (at b : ℕ) : Type 0 where
  pub room : at + 6 ≤ length text
  pub comma : get_or text (at + 1) 0 ≡ 44
  pub letter : get_or text at 0 ≡ b
