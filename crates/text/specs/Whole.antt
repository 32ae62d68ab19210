-- What reading all nodes of a text answers.
use Rattle.std.specs.Prelude.{◌*◌, ℕ, ℤ, take, List, [], ◌∷◌, ◌≡◌, Err, Ok, Result}
use Rattle.fields.specs.Positions.{rest_at}
use Rattle.language.specs.Answer.{Answer, got, refused}
use Rattle.language.specs.Limits.{max_depth}
use Rattle.language.specs.Text.Letters.{Form, root}
use Rattle.language.specs.Text.Reader.{Read, Trees, read_trees}
use Rattle.nodes.specs.Rows as rows
use Rattle.nodes.specs.Rows.{count_of}
use Rattle.text.specs.Refusals.{number_of}
use Rattle.text.specs.declared.Refusal.{Refusal}
use Rattle.text.specs.declared.whole.Read as whole

module _ {P : Type 0} (form : Form P) where
  -- the definition's answer from the first byte on
  abbrev pub whole_text : List ℕ → Answer (Read (Trees P))
  whole_text text = read_trees form max_depth (root ∷ []) (rest_at text 0 0)

  -- a tree was read up to byte next, and its m rows stand in the table
  pub record Grown (text : List ℕ) (nodes : List ℤ) (next m : ℕ) : Type 0 where
    pub tree : Trees P
    pub is : whole_text text ≡ got (record { value = tree; rest = rest_at text next m })
    pub counted : m ≡ count_of tree
    pub holds : take (5 * m) nodes ≡ rows.rows form tree

  abbrev pub ReadIs : List ℕ → List ℤ → Result whole.Read Refusal → Type 0
  ReadIs text nodes (Ok it) = Grown text nodes it.next it.count
  ReadIs text nodes (Err k) = whole_text text ≡ refused (number_of k)
