-- Nodes that are open while a text is read: the rows that they have so far, what is still to be read, and what the code keeps of them.
use Prim.Native.Nat.{◌*◌, ◌+◌, ◌-◌, ◌≤◌, suc, ℕ}
use lib.Dec.{eqb}
use lib.IntN.{ℤ}
use lib.ListN.{get_or, length, take}
use mathlib.Core.Bool.{cond}
use mathlib.Core.List.{List, [], ◌++◌, ◌∷◌}
use mathlib.Core.Path.{◌≡◌}
use Rattle.fields.specs.Positions.{rest_at}
use Rattle.language.specs.Answer.{Answer}
use Rattle.language.specs.Text.Classes.{Field}
use Rattle.language.specs.Text.Letters.{Form, Kind, Letter, row_of}
use Rattle.language.specs.Text.Reader.{Read, Trees, end, give, node, read_trees, then_read}
use Rattle.nodes.specs.Rows.{count_of, row_for, rows, slots_of}
use Rattle.text.specs.Letters.{kind_at, kinds}
use Rattle.text.specs.Whole.{whole_text}

module _ {P : Type 0} where
  -- trees beside each other
  unfoldable pub beside : Trees P → Trees P → Trees P
  beside end u = u
  beside (node l fs c t) u = node l fs c (beside t u)

  -- how many there are
  unfoldable pub width : Trees P → ℕ
  width end = 0
  width (node l fs c t) = suc (width t)

-- an open node: its letter and fields, the children that are read, and the kinds of those behind the one that is being read
pub record Frame (P : Type 0) : Type 0 where
  pub sort : Letter P
  pub values : List Field
  pub done : Trees P
  pub next : ℕ
  pub later : ℕ

-- the open nodes are listed innermost first
module _ {P : Type 0} where
  -- the kinds still to be read beside a node that is being read
  abbrev pub to_come : List (Frame P) → List Kind
  to_come [] = []
  to_come (f ∷ fs) = kinds f.next f.later 0

  -- how many rows they have
  unfoldable pub held_count : List (Frame P) → ℕ
  held_count [] = 0
  held_count (f ∷ fs) = held_count fs + (1 + count_of f.done)

  -- how many of them have children to come
  unfoldable pub waits : List (Frame P) → ℕ
  waits [] = 0
  waits (f ∷ fs) = cond (eqb f.next 0) (waits fs) (suc (waits fs))

  -- what the code keeps of an open node with children to come, whose row is own
  abbrev pub entry_of : ℕ → ℕ → Frame P → ℕ
  entry_of own left f = own * 2048 + left * 32 + width f.done * 16 + f.next + 4 * f.later

  unfoldable pub Kept : List (Frame P) → List ℕ → Type 0
  Kept [] stack = Unit {0}
  Kept (f ∷ fs) stack = ((f.next ≡ 0 → ⊥) → get_or stack (waits fs) 0 ≡ entry_of (held_count fs) (31 - length fs) f) × Kept fs stack

  -- at most three children
  pub record Sized (f : Frame P) : Type 0 where
    pub next : f.next ≤ 3
    pub later : f.later ≤ 3
    pub second : (f.next ≡ 0 → ⊥) → width f.done ≤ 1
    pub third : (f.later ≡ 0 → ⊥) → width f.done ≡ 0

  unfoldable pub AllSized : List (Frame P) → Type 0
  AllSized [] = Unit {0}
  AllSized (f ∷ fs) = Sized f × AllSized fs

module _ {P : Type 0} (form : Form P) where
  -- the row of an open node: the child that is being read counts as one of any size
  abbrev pub frame_row : Frame P → List ℤ
  frame_row f = row_for (row_of form f.sort).letter (slots_of f.values) (beside f.done (node f.sort [] end end))

  unfoldable pub held : List (Frame P) → List ℤ
  held [] = []
  held (f ∷ fs) = held fs ++ (frame_row f ++ rows form f.done)

  -- what becomes of the whole, once the trees beside the node that is being read are known
  unfoldable pub closed : List (Frame P) → Answer (Read (Trees P)) → Answer (Read (Trees P))
  closed [] a = a
  closed (f ∷ fs) a = closed fs (then_read a (λ t s. then_read (read_trees form (32 - length fs) (to_come fs) s) (λ u. give (node f.sort f.values (beside f.done t) u))))

  module _ (text : List ℕ) (nodes : List ℤ) (stack : List ℕ) where
    -- a node of the kind is to be read at byte `at`
    pub record Going (at kind count left waiting : ℕ) : Type 0 where
      pub frames : List (Frame P)
      pub deep : length frames ≤ 32
      pub level : left ≡ 32 - length frames
      pub wait : waiting ≡ waits frames
      pub kept : Kept frames stack
      pub sized : AllSized frames
      pub counted : count ≡ held_count frames
      pub holds : take (5 * count) nodes ≡ held frames
      pub is : whole_text form text ≡ closed frames (read_trees form left (kind_at kind ∷ to_come frames) (rest_at text at count))

    -- a node was read up to byte `at`, with all of its children
    pub record Complete (frames : List (Frame P)) (sort : Letter P) (values : List Field) (below : Trees P) (at count waiting : ℕ) : Type 0 where
      pub deep : length frames ≤ 32
      pub wait : waiting ≡ waits frames
      pub kept : Kept frames stack
      pub sized : AllSized frames
      pub counted : count ≡ held_count frames + (1 + count_of below)
      pub holds : take (5 * count) nodes ≡ held frames ++ (row_for (row_of form sort).letter (slots_of values) below ++ rows form below)
      pub is : whole_text form text ≡ closed frames (then_read (read_trees form (32 - length frames) (to_come frames) (rest_at text at count)) (λ u. give (node sort values below u)))
