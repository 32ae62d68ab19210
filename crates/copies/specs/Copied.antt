-- Rows of a plan moved down in their table, each changed.
use Rattle.std.specs.Prelude.{◌*◌, ◌+◌, ◌-◌, suc, zero, ℕ, pos, ℤ, drop, get_or, take, cond, List, [], ◌++◌, ◌∷◌, ◌≡◌}
use Rattle.copies.specs.Appended.{Appended}
use Rattle.integers.specs.Equal.{eq_z}
use Rattle.language.specs.Text.Number.{byte}

-- each of the first n rows changed by f, and nothing behind them
unfoldable pub changed_rows : (List ℤ → List ℤ) → ℕ → List ℤ → List ℤ
changed_rows f zero nodes = []
changed_rows f (suc n) nodes = f (take 5 nodes) ++ changed_rows f n (drop 5 nodes)

-- the row of an `O` becomes what `index` makes of its two fields; any other loses its links
unfoldable pub copy_row : (ℤ → ℤ → List ℤ) → List ℤ → List ℤ
copy_row index row =
    cond (eq_z (get_or row 0 (pos 0)) (pos (byte "O"))) (index (get_or row 1 (pos 0)) (get_or row 2 (pos 0)))
    (get_or row 0 (pos 0) ∷ get_or row 1 (pos 0) ∷ get_or row 2 (pos 0) ∷ pos 0 ∷ pos 0 ∷ [])

-- the rows from node `from` up to node `to` are appended to the first `count`, each changed by f
pub record Copied (f : List ℤ → List ℤ) (before after : List ℤ) (from to count next : ℕ) : Type 0 where
  pub counted : next ≡ count + (to - from)
  pub added : Appended before after count next (changed_rows f (to - from) (drop (from * 5) before))
