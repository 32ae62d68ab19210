-- What an answer of the code about a node means: a definition's result.
use Rattle.std.specs.Prelude.{◌+◌, ◌-◌, ◌<◌, ◌≤◌, ℕ, drop, length, List, [], ◌∷◌, ◌≡◌, Err, None, Ok, Option, Result, Some}
use Rattle.fields.specs.Fields.{slot_at}
use Rattle.fields.specs.Positions.{rest_at, up_to}
use Rattle.language.specs.Answer.{refused}
use Rattle.language.specs.Limits.{max_nodes}
use Rattle.language.specs.Text.Classes.{Field}
use Rattle.language.specs.Text.Letters.{Form, Kind, Letter, row_of}
use Rattle.language.specs.Text.Reader.{give, node, read_trees, then_read}
use Rattle.text.specs.Letters.{kinds}
use Rattle.text.specs.Refusals.{number_of}
use Rattle.text.specs.declared.trees.Head.{Head}
use Rattle.text.specs.declared.Refusal.{Refusal}

-- a field of a single byte
abbrev pub SoleIs : List ℕ → Option ℕ → Type 0
SoleIs f (Some b) = f ≡ b ∷ []
SoleIs f None = length f ≡ 1 → ⊥

module _ {P : Type 0} (form : Form P) (left : ℕ) where
  -- a node was opened: what reading it and others of the kinds ks then comes to, once its children are read
  pub record Begun (kind : Kind) (text : List ℕ) (at count : ℕ) (h : Head) : Type 0 where
    pub sort : Letter P
    pub values : List Field
    pub is : (ks : List Kind) → read_trees form left (kind ∷ ks) (rest_at text at count)
        ≡ then_read (read_trees form (left - 1) (kinds h.kid1 h.kid2 h.kid3) (rest_at text h.next (count + 1)))
        (λ t s. then_read (read_trees form left ks s) (λ u. give (node sort values t u)))
    pub byte : (row_of form sort).letter ≡ h.letter
    pub first : slot_at values 0 ≡ h.a
    pub second : slot_at values 1 ≡ h.b
    pub third : slot_at values 2 ≡ h.c
    pub fourth : slot_at values 3 ≡ h.d
    pub alone : up_to 44 (drop at text) ≡ h.letter ∷ []
    pub onward : at + 2 ≤ h.next
    pub within : h.next ≤ length text + 1
    pub room : count < max_nodes
    pub level : 0 < left
    pub small : (h.kid1 ≤ 3) × (h.kid2 ≤ 3) × (h.kid3 ≤ 3)

  -- it and others are refused, whatever the kinds of the others
  pub record Refuses (kind : Kind) (text : List ℕ) (at count n : ℕ) : Type 0 where
    pub is : (ks : List Kind) → read_trees form left (kind ∷ ks) (rest_at text at count) ≡ refused n

  abbrev pub OpenedIs : Kind → List ℕ → ℕ → ℕ → Result Head Refusal → Type 0
  OpenedIs kind text at count (Ok h) = Begun kind text at count h
  OpenedIs kind text at count (Err k) = Refuses kind text at count (number_of k)

module _ {P : Type 0} (form : Form P) where
  -- a node of the kind stands at byte `at`: it is opened wherever there is room for it
  pub record Opens (kind : Kind) (text : List ℕ) (at : ℕ) (h : Head) : Type 0 where
    pub is : (left count : ℕ) → count < max_nodes → 0 < left → Begun form left kind text at count h
