-- The index lines in order: bounds and values of those read so far, and of those to come.
use Prim.Native.Nat.{◌+◌, ◌<◌, ◌≤◌, suc, zero, ℕ}
use borrow.Author.Tests.{eq-eqb, lt-ltb}
use lib.Dec.{ltb}
use lib.IntN.{pos, ℤ}
use lib.ListN.{drop, length, length-append, length-set, set, take}
use mathlib.Core.Bool.{Bool, ◌&&◌, cond, false, true}
use mathlib.Core.List.{List, [], ◌++◌, ◌∷◌, append_assoc, append-nil}
use mathlib.Core.Path.{◌∙◌, ◌≡◌, ap, ap₂, refl, sym}
use native.Mathlib.Omega.{arith}
use Rattle.integers.specs.Equal.{eq_z}
use Rattle.language.specs.Answer.{Answer, ◌>>=◌, ◌>>◌, got, refused, require}
use Rattle.language.specs.Sheet.{Indexes, counted, index_line, index_lines, numbers, same_bytes, worded}
use Rattle.language.specs.Text.Fields.{bytes, split}
use Rattle.lines.proofs.IndexLaws.{Refused}
use Rattle.lines.proofs.LineLaws.{no_lines}
use Rattle.lines.proofs.LineParts.{OnlyTwo, only_two}
use Rattle.lines.proofs.NumberFields.{take_next}
use Rattle.lines.specs.Indexes.{IndexAt, LabelsAt, index_numbers}
use Rattle.lines.specs.Lines.{lines_in}
use Rattle.lines.specs.Parts.{LineIs}

-- bounds and values in front of others
abbrev pub before : List ℤ → List ℤ → Indexes → Indexes
before bs vs rest = record { bounds = bs ++ rest.bounds; values = vs ++ rest.values }

-- ---- a list of lines is refused with 2 alone
abbrev OnlyTwoFor : {A : Type 0} → Answer A → Type 0
OnlyTwoFor (refused k) = k ≡ 2
OnlyTwoFor (got x) = Unit {0}

word_only : (fs : List (List ℕ)) → OnlyTwoFor (worded "index" fs)
unfolding worded
word_only [] = refl
word_only (f ∷ fs) = go (same_bytes f (bytes "index"))
  where
    go : (t : Bool) → OnlyTwoFor (cond t (got fs) (refused 2))
    go true = tt
    go false = refl

require_only : {A : Type 0} (t : Bool) (x : Answer A) → OnlyTwoFor x → OnlyTwoFor (require 2 t >> x)
require_only true x h = h
require_only false x h = refl

line_only : (label : ℕ) (months : ℤ) (zs : List ℤ) (rest : Indexes) → OnlyTwoFor (index_line label months zs rest)
line_only label months [] rest = refl
line_only label months (a ∷ []) rest = refl
line_only label months (a ∷ b ∷ vs) rest =
    require_only (eq_z a (pos label)) _ (require_only (ltb 0 (length vs) && eq_z months (pos (length vs))) (got (record { bounds = b ∷ rest.bounds; values = vs ++ rest.values })) tt)

lines_only : (label : ℕ) (months : ℤ) (ls : List (List ℕ)) → OnlyTwoFor (index_lines label months ls)
unfolding index_lines
lines_only label months [] = tt
lines_only label months (line ∷ lines) = go (worded "index" (split line)) (word_only (split line)) (index_lines (suc label) months lines) (lines_only (suc label) months lines)
  where
    last : (A : Answer Indexes) (zs : List ℤ) → OnlyTwoFor A → OnlyTwoFor (A >>= λ rest. index_line label months zs rest)
    last (refused k) zs h = h
    last (got r) zs h = line_only label months zs r

    mid : (A : Answer (List ℤ)) → OnlyTwo A → (B : Answer Indexes) → OnlyTwoFor B → OnlyTwoFor (A >>= λ zs. B >>= λ rest. index_line label months zs rest)
    mid (refused k) h B g = h
    mid (got zs) h B g = last B zs g

    go : (A : Answer (List (List ℕ))) → OnlyTwoFor A → (B : Answer Indexes) → OnlyTwoFor B → OnlyTwoFor (A >>= λ fs. numbers fs >>= λ zs. B >>= λ rest. index_line label months zs rest)
    go (refused k) h B g = h
    go (got fs) h B g = mid (numbers fs) (only_two fs) B g

-- ---- one line more
module _ (line : List ℕ) (label : ℕ) (months : ℤ) (lines : List (List ℕ)) where
  abbrev others : Answer Indexes
  others = index_lines (suc label) months lines

  pub line_refused : Refused line label months → index_lines label months (line ∷ lines) ≡ refused 2
  unfolding index_lines
  line_refused h = go (worded "index" (split line)) h others (lines_only (suc label) months lines)
    where
      last : (B : Answer Indexes) → OnlyTwoFor B → (zs : List ℤ) → ((rest : Indexes) → index_line label months zs rest ≡ refused 2) → (B >>= λ rest. index_line label months zs rest) ≡ refused 2
      last (refused k) g zs h = ap refused g
      last (got r) g zs h = h r

      none : Indexes
      none = record { bounds = []; values = [] }

      mid : (A : Answer (List ℤ)) → ((rest : Indexes) → (A >>= λ zs. index_line label months zs rest) ≡ refused 2) → (B : Answer Indexes) → OnlyTwoFor B
          → (A >>= λ zs. B >>= λ rest. index_line label months zs rest) ≡ refused 2
      mid (refused k) h B g = h none
      mid (got zs) h B g = last B g zs h

      go : (A : Answer (List (List ℕ))) → ((rest : Indexes) → ((A >>= λ fs. numbers fs) >>= λ zs. index_line label months zs rest) ≡ refused 2) → (B : Answer Indexes) → OnlyTwoFor B
          → (A >>= λ fs. numbers fs >>= λ zs. B >>= λ rest. index_line label months zs rest) ≡ refused 2
      go (refused k) h B g = h none
      go (got fs) h B g = mid (numbers fs) h B g

  module _ {before after : List ℤ} {from count : ℕ} {bound : ℤ} (i : IndexAt line label months before after from bound count) where
    -- this label's bound and values in front of the others'
    pub joined : Indexes → Indexes
    joined rest = record { bounds = bound ∷ rest.bounds; values = i.values ++ rest.values }

    itself : (rest : Indexes) → index_line label months (pos label ∷ bound ∷ i.values) rest ≡ got (joined rest)
    unfolding joined
    itself rest = rw (eq-eqb label label refl, i.counted, lt-ltb 0 count i.some, i.fits, eq-eqb count count refl) refl

    pub line_joined : index_lines label months (line ∷ lines) ≡ (others >>= λ rest. got (joined rest))
    unfolding index_lines
    line_joined = go (worded "index" (split line)) i.is others
      where
        last : (B : Answer Indexes) → (B >>= λ rest. index_line label months (pos label ∷ bound ∷ i.values) rest) ≡ (B >>= λ rest. got (joined rest))
        last (refused k) = refl
        last (got r) = itself r

        mid : (A : Answer (List ℤ)) → A ≡ got (pos label ∷ bound ∷ i.values) → (B : Answer Indexes) → (A >>= λ zs. B >>= λ rest. index_line label months zs rest) ≡ (B >>= λ rest. got (joined rest))
        mid A e B = rw e (last B)

        go : (A : Answer (List (List ℕ))) → (A >>= λ fs. numbers fs) ≡ got (pos label ∷ bound ∷ i.values) → (B : Answer Indexes)
            → (A >>= λ fs. numbers fs >>= λ zs. B >>= λ rest. index_line label months zs rest) ≡ (B >>= λ rest. got (joined rest))
        go (refused k) e B = mid (refused k) e B
        go (got fs) e B = mid (numbers fs) e B

-- ---- all lines

-- k lines are read, up to `place`
pub record Indexed (input : List ℕ) (at : ℕ) (months : ℤ) (before-b before-v bounds values : List ℤ) (place k stored : ℕ) : Type 0 where
  pub bs : List ℤ
  pub vs : List ℤ
  pub is : index_lines 0 months (lines_in (drop at input)) ≡ (index_lines k months (lines_in (drop place input)) >>= λ rest. got (before bs vs rest))
  pub labels : length bs ≡ k
  pub total : length vs ≡ stored
  pub size_b : length bounds ≡ length before-b
  pub size_v : length values ≡ length before-v
  pub holds_b : k ≤ length bounds → take k bounds ≡ bs
  pub holds_v : stored ≤ length values → take stored values ≡ vs
  pub inside : place ≤ length input + 1
  pub few : k ≤ place
  pub fewer : stored ≤ place

module _ {input : List ℕ} {at : ℕ} {months : ℤ} {before-b before-v : List ℤ} where
  pub indexed_start : at ≤ length input + 1 → Indexed input at months before-b before-v before-b before-v at 0 0
  indexed_start h = record {
    bs = [];
    vs = [];
    is = go (index_lines 0 months (lines_in (drop at input)));
    labels = refl;
    total = refl;
    size_b = refl;
    size_v = refl;
    holds_b = λ l. refl;
    holds_v = λ l. refl;
    inside = h;
    few = omega arith;
    fewer = omega arith;
  }
    where
      go : (A : Answer Indexes) → A ≡ (A >>= λ rest. got (record { bounds = rest.bounds; values = rest.values }))
      go (refused k) = refl
      go (got r) = refl

  module _ {bounds values : List ℤ} {place k stored : ℕ} (g : Indexed input at months before-b before-v bounds values place k stored) where
    pub indexed_over : length input ≤ place → LabelsAt input at months bounds values k stored
    unfolding index_lines
    indexed_over h = record {
      all = record { bounds = g.bs; values = g.vs };
      is = g.is ∙ rw (no_lines input place h) (ap₂ (λ b v. got (record { bounds = b; values = v })) (append-nil g.bs) (append-nil g.vs));
      counted = g.labels;
      summed = g.total;
      holds_bounds = g.holds_b;
      holds_values = g.holds_v;
    }

    module _ {line : List ℕ} {next : ℕ} (l : LineIs input place line next) where
      pub indexed_refused : Refused line k months → index_lines 0 months (lines_in (drop at input)) ≡ refused 2
      indexed_refused r = g.is ∙ rw (l.lines, line_refused line k months (lines_in (drop next input)) r) refl

      module _ {after : List ℤ} {bound : ℤ} {count : ℕ} (i : IndexAt line k months values after stored bound count) (size : length after ≡ length values) where
        now_is : index_lines 0 months (lines_in (drop at input)) ≡ (index_lines (suc k) months (lines_in (drop next input)) >>= λ rest. got (before (g.bs ++ (bound ∷ [])) (g.vs ++ i.values) rest))
        unfolding joined
        now_is = g.is ∙ rw (l.lines, line_joined line k months (lines_in (drop next input)) i) (go (index_lines (suc k) months (lines_in (drop next input))))
          where
            go : (A : Answer Indexes) → ((A >>= λ rest. got (joined line k months (lines_in (drop next input)) i rest)) >>= λ rest. got (before g.bs g.vs rest))
                ≡ (A >>= λ rest. got (before (g.bs ++ (bound ∷ [])) (g.vs ++ i.values) rest))
            go (refused n) = refl
            go (got r) = ap₂ (λ b v. got (record { bounds = b; values = v })) (sym (append_assoc g.bs (bound ∷ []) r.bounds)) (sym (append_assoc g.vs i.values r.values))

        module _ (forward : place + length line < next) where
          -- whatever became of the bounds
          grown : {others : List ℤ} → length others ≡ length before-b → (k + 1 ≤ length others → take (k + 1) others ≡ g.bs ++ (bound ∷ [])) → Indexed input at months before-b before-v others after next (k + 1) (stored + count)
          grown {others} sb hb = record {
            bs = g.bs ++ (bound ∷ []);
            vs = g.vs ++ i.values;
            is = let e : suc k ≡ k + 1 = omega arith in subst_label e now_is;
            labels = length-append g.bs (bound ∷ []) ∙ omega (arith, g.labels);
            total = length-append g.vs i.values ∙ omega (arith, g.total, i.counted);
            size_b = sb;
            size_v = size ∙ g.size_v;
            holds_b = hb;
            holds_v = λ r. i.holds (omega (arith, size)) ∙ ap (λ t. t ++ i.values) (g.holds_v (omega (arith, size)));
            inside = l.inside;
            few = omega (arith, g.few, forward);
            fewer = omega (arith, g.fewer, forward, i.bounded);
          }
            where
              subst_label : {n : ℕ} → suc k ≡ n → index_lines 0 months (lines_in (drop at input)) ≡ (index_lines (suc k) months (lines_in (drop next input)) >>= λ rest. got (before (g.bs ++ (bound ∷ [])) (g.vs ++ i.values) rest))
                  → index_lines 0 months (lines_in (drop at input)) ≡ (index_lines n months (lines_in (drop next input)) >>= λ rest. got (before (g.bs ++ (bound ∷ [])) (g.vs ++ i.values) rest))
              subst_label e h = rw (sym e) h

          pub indexed_kept : {v : ℤ} → v ≡ bound → k < length bounds → Indexed input at months before-b before-v (set bounds k v) after next (k + 1) (stored + count)
          indexed_kept {v} ev h = grown (length-set bounds k v ∙ g.size_b)
              (λ r. let e : k + 1 ≡ suc k = omega arith in rw e (take_next bounds k v h ∙ ap₂ (λ t w. t ++ (w ∷ [])) (g.holds_b (omega arith)) ev))

          pub indexed_full : length bounds ≤ k → Indexed input at months before-b before-v bounds after next (k + 1) (stored + count)
          indexed_full h = grown g.size_b (λ r. absurd (omega arith))
