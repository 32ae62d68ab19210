-- What reading a text into the node table answers, where `answer` is the definition's result.
use Rattle.std.specs.Prelude.{◌*◌, ℕ, ℤ, take, List, ◌≡◌, Err, Ok, Result}
use Rattle.language.specs.Answer.{Answer, got, refused}
use Rattle.language.specs.Text.Letters.{Form}
use Rattle.language.specs.Text.Reader.{Trees}
use Rattle.nodes.specs.Rows as rows
use Rattle.nodes.specs.Rows.{count_of}
use Rattle.text.specs.Refusals.{number_of}
use Rattle.text.specs.declared.Refusal.{Refusal}

module _ {P : Type 0} (form : Form P) where
  -- a text that is read: its n nodes stand in the table, row by row
  pub record Stands (answer : Answer (Trees P)) (nodes : List ℤ) (n : ℕ) : Type 0 where
    pub tree : Trees P
    pub is : answer ≡ got tree
    pub count : n ≡ count_of tree
    pub rows : take (5 * n) nodes ≡ rows.rows form tree

  abbrev pub ReadInto : Answer (Trees P) → List ℤ → Result ℕ Refusal → Type 0
  ReadInto answer nodes (Ok n) = Stands answer nodes n
  ReadInto answer nodes (Err k) = answer ≡ refused (number_of k)

-- how many nodes a text has, or its refusal
module _ {P : Type 0} where
  pub record Counted (answer : Answer (Trees P)) (n : ℕ) : Type 0 where
    pub tree : Trees P
    pub is : answer ≡ got tree
    pub count : n ≡ count_of tree

  abbrev pub CountIs : Answer (Trees P) → Result ℕ Refusal → Type 0
  CountIs answer (Ok n) = Counted answer n
  CountIs answer (Err k) = answer ≡ refused (number_of k)
