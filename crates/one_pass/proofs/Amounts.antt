-- An amount and a test that are read and keep the rules, from their parts, letter by letter.
use Prim.Native.Nat.{◌*◌, ◌+◌, ◌-◌, ◌<◌, ◌≤◌, max, ℕ}
use borrow.Author.Tests.{le-leb, lt-ltb}
use lib.IntN.{nat_abs, pos, ℤ}
use lib.ListN.{length}
use lib.Signed.{le_z}
use mathlib.Core.Bool.{Bool, ◌&&◌, true}
use mathlib.Core.List.{List, [], ◌∷◌}
use mathlib.Core.Option.{some}
use mathlib.Core.Path.{◌∙◌, ◌≡◌, ap₂, refl, sym}
use native.Mathlib.Omega.{arith}
use Rattle.fields.proofs.FieldLaws.{read_none}
use Rattle.fields.specs.Fields.{ReadUpTo}
use Rattle.language.specs.Limits.{max_amount}
use Rattle.language.specs.Rules.Measures.{Latest, later_of, latest_of, latest_of_test, magnitude_of_amount}
use Rattle.language.specs.Rules.Tests.{amount_reads, amount_small, test_reads, test_is_small}
use Rattle.language.specs.Text.Classes.{Field, a_number}
use Rattle.language.specs.Text.Letters.{AmountLetter, Class, Kind, Letter, PlanLetter, TestLetter, amount, amount_row, divisor, figure, from_node, kind_of, label, letter_among, letter_in, of_amount, of_test, plan_form, plan_row, row_of, of_same_kind, test, test_row}
use Rattle.language.specs.Text.Reader.{node}
use Rattle.language.specs.Text.Trees.{choose, conjunction, difference, disjunction, equal, index, less, negation, number, product, quotient, sum}
use Rattle.language.specs.Text.Typed.{amount_tree, test_tree}
use Rattle.measures.proofs.AmountMagnitudes.{amount_limit, bound_at}
use Rattle.measures.proofs.Firsts.{later_latest}
use Rattle.measures.proofs.Readings.{window_reads}
use Rattle.measures.specs.Magnitudes.{InBounds, bound_in}
use Rattle.measures.specs.Timing.{latest_month}
use Rattle.nodes.specs.Table.{nat_of}
use Rattle.text.proofs.QuickLaws.{sole}
use Rattle.one_pass.specs.Packed.{Joined, Kept, Packed, behind, magnitude_in, months_in}
use Rattle.one_pass.specs.Reads.{Here, Reads, Short}
use Rattle.one_pass.specs.Seen.{AmountSeen, DivisorSeen, TestSeen}
use Rattle.one_pass.proofs.Reading.{Opened, child, opened, whole}

-- the later of two reads
later : (p q : Latest) {x y r : ℕ} → x ≡ latest_month p → y ≡ latest_month q → r ≡ max x y → r ≡ latest_month (later_of p q)
later p q ex ey er = er ∙ ap₂ max ex ey ∙ sym (later_latest p q)

module _ (text : List ℕ) (short : Short text) (left at : ℕ) (level : 0 < left) where
  -- a letter in front of a comma, and its fields
  pub here_opened : {b : ℕ} → Here text at b → (b ≡ 44 → ⊥) → (l : Letter PlanLetter) → letter_in plan_form (b ∷ []) ≡ some l → (k : Kind) → of_same_kind k (kind_of plan_form l) ≡ true
      → {vs : List Field} {next : ℕ} (cs : List Class) → (row_of plan_form l).fields ≡ cs → ReadUpTo cs text (at + 2) vs next
      → (js : List Kind) → (row_of plan_form l).children ≡ js → Opened left k text at next js (node l vs)
  here_opened {b} h other l find k same cs ec f js ej =
      opened text short left at level (omega (arith, h.room)) b (sole text at 0 (omega (arith, h.room)) h.comma b h.letter other) l find k same cs ec f js ej

  -- one without fields
  pub bare_opened : {b : ℕ} → Here text at b → (b ≡ 44 → ⊥) → (l : Letter PlanLetter) → letter_in plan_form (b ∷ []) ≡ some l → (k : Kind) → of_same_kind k (kind_of plan_form l) ≡ true
      → (row_of plan_form l).fields ≡ [] → (js : List Kind) → (row_of plan_form l).children ≡ js → Opened left k text at (at + 2) js (node l [])
  bare_opened h other l find k same ec js ej = here_opened h other l find k same [] ec (read_none text (at + 2) (omega (arith, h.room))) js ej

  module _ (low high : ℤ) (bounds : List ℤ) where
    abbrev Seen : ℕ → Type 0
    Seen r = AmountSeen text left at low high bounds r

    abbrev Tested : ℕ → Type 0
    Tested r = TestSeen text left at low high bounds r

    -- what stands one level below
    abbrev Below : ℕ → ℕ → Type 0
    Below p r = AmountSeen text (left - 1) p low high bounds r

    abbrev TestBelow : ℕ → ℕ → Type 0
    TestBelow p r = TestSeen text (left - 1) p low high bounds r

    -- ---- leaves

    pub number_seen : {r : ℕ} (z : ℤ) → Here text at 78 → ReadUpTo (figure ∷ []) text (at + 2) (a_number z ∷ []) (behind r) → Kept r → magnitude_in r ≡ nat_abs z → months_in r ≡ 0 → Seen r
    unfolding letter_in letter_among row_of plan_row amount_row test_row amount_tree amount_reads amount_small magnitude_of_amount latest_of
    number_seen z h f k em el = record {
      amount = number z;
      is = whole (here_opened h (λ e. omega arith) (of_amount AmountLetter.N) refl amount refl (figure ∷ []) refl f [] refl);
      reads = λ t a y s. refl;
      latest = el;
      small = le-leb (nat_abs z) max_amount (omega (arith, k, em));
      magnitude = em;
    }

    pub index_seen : {r : ℕ} (l : ℕ) (i : ℤ) → Here text at 79 → ReadUpTo (label ∷ from_node ∷ []) text (at + 2) (a_number (pos l) ∷ a_number i ∷ []) (behind r)
        → l < length bounds → le_z low i ≡ true → le_z i high ≡ true → Kept r → magnitude_in r ≡ bound_in bounds l → months_in r ≡ nat_of i → Seen r
    unfolding letter_in letter_among row_of plan_row amount_row test_row amount_tree amount_reads amount_small magnitude_of_amount latest_of
    index_seen l i h f el ea ez k em en = record {
      amount = index l i;
      is = whole (here_opened h (λ e. omega arith) (of_amount AmountLetter.O) refl amount refl (label ∷ from_node ∷ []) refl f [] refl);
      reads = λ t a z s. window_reads s l i ∙ rw (lt-ltb l (length bounds) el, ea, ez) refl;
      latest = en;
      small = le-leb (bound_in bounds l) max_amount (omega (arith, k, em));
      magnitude = em;
    }

    -- ---- two amounts

    module _ {x y r : ℕ} (p : Below (at + 2) x) (q : Below (behind x) y) (k : Kept r) where
      pub sum_seen : Here text at 65 → Joined ◌+◌ max x y r → Seen r
      unfolding letter_in letter_among row_of plan_row amount_row test_row amount_tree amount_reads amount_small magnitude_of_amount latest_of
      sum_seen h j =
          let e : magnitude_in r ≡ magnitude_of_amount (bound_in bounds) p.amount + magnitude_of_amount (bound_in bounds) q.amount = j.packed.magnitude ∙ ap₂ ◌+◌ p.magnitude q.magnitude in
          record {
            amount = sum p.amount q.amount;
            is = rw j.packed.place (whole (child (child (bare_opened h (λ e. omega arith) (of_amount AmountLetter.A) refl amount refl refl (amount ∷ amount ∷ []) refl) p.is) q.is));
            reads = λ t a z s. rw (p.reads t a z s, q.reads t a z s) refl;
            latest = later (latest_of p.amount) (latest_of q.amount) p.latest q.latest j.packed.months;
            small = rw (p.small, q.small) (le-leb (magnitude_of_amount (bound_in bounds) p.amount + magnitude_of_amount (bound_in bounds) q.amount) max_amount (omega (arith, k, e)));
            magnitude = e;
          }

      pub difference_seen : Here text at 85 → Joined ◌+◌ max x y r → Seen r
      unfolding letter_in letter_among row_of plan_row amount_row test_row amount_tree amount_reads amount_small magnitude_of_amount latest_of
      difference_seen h j =
          let e : magnitude_in r ≡ magnitude_of_amount (bound_in bounds) p.amount + magnitude_of_amount (bound_in bounds) q.amount = j.packed.magnitude ∙ ap₂ ◌+◌ p.magnitude q.magnitude in
          record {
            amount = difference p.amount q.amount;
            is = rw j.packed.place (whole (child (child (bare_opened h (λ e. omega arith) (of_amount AmountLetter.U) refl amount refl refl (amount ∷ amount ∷ []) refl) p.is) q.is));
            reads = λ t a z s. rw (p.reads t a z s, q.reads t a z s) refl;
            latest = later (latest_of p.amount) (latest_of q.amount) p.latest q.latest j.packed.months;
            small = rw (p.small, q.small) (le-leb (magnitude_of_amount (bound_in bounds) p.amount + magnitude_of_amount (bound_in bounds) q.amount) max_amount (omega (arith, k, e)));
            magnitude = e;
          }

      pub product_seen : Here text at 75 → Joined ◌*◌ max x y r → Seen r
      unfolding letter_in letter_among row_of plan_row amount_row test_row amount_tree amount_reads amount_small magnitude_of_amount latest_of
      product_seen h j =
          let e : magnitude_in r ≡ magnitude_of_amount (bound_in bounds) p.amount * magnitude_of_amount (bound_in bounds) q.amount = j.packed.magnitude ∙ ap₂ ◌*◌ p.magnitude q.magnitude in
          record {
            amount = product p.amount q.amount;
            is = rw j.packed.place (whole (child (child (bare_opened h (λ e. omega arith) (of_amount AmountLetter.K) refl amount refl refl (amount ∷ amount ∷ []) refl) p.is) q.is));
            reads = λ t a z s. rw (p.reads t a z s, q.reads t a z s) refl;
            latest = later (latest_of p.amount) (latest_of q.amount) p.latest q.latest j.packed.months;
            small = rw (p.small, q.small) (le-leb (magnitude_of_amount (bound_in bounds) p.amount * magnitude_of_amount (bound_in bounds) q.amount) max_amount (omega (arith, k, e)));
            magnitude = e;
          }

      pub less_seen : Here text at 71 → Joined (λ m n. 0) max x y r → Tested r
      unfolding letter_in letter_among row_of plan_row amount_row test_row test_tree test_reads test_is_small latest_of_test
      less_seen h j = record {
        test = less p.amount q.amount;
        is = rw j.packed.place (whole (child (child (bare_opened h (λ e. omega arith) (of_test TestLetter.G) refl test refl refl (amount ∷ amount ∷ []) refl) p.is) q.is));
        reads = λ t a z s. rw (p.reads t a z s, q.reads t a z s) refl;
        latest = later (latest_of p.amount) (latest_of q.amount) p.latest q.latest j.packed.months;
        small = rw (p.small, q.small) refl;
        none = j.packed.magnitude;
      }

      pub equal_seen : Here text at 69 → Joined (λ m n. 0) max x y r → Tested r
      unfolding letter_in letter_among row_of plan_row amount_row test_row test_tree test_reads test_is_small latest_of_test
      equal_seen h j = record {
        test = equal p.amount q.amount;
        is = rw j.packed.place (whole (child (child (bare_opened h (λ e. omega arith) (of_test TestLetter.E) refl test refl refl (amount ∷ amount ∷ []) refl) p.is) q.is));
        reads = λ t a z s. rw (p.reads t a z s, q.reads t a z s) refl;
        latest = later (latest_of p.amount) (latest_of q.amount) p.latest q.latest j.packed.months;
        small = rw (p.small, q.small) refl;
        none = j.packed.magnitude;
      }

    -- ---- one amount behind a divisor, and one behind another and a test

    pub quotient_seen : {d r : ℕ} → Here text at 81 → DivisorSeen text (at + 2) d → Below (behind d) r → Seen r
    unfolding letter_in letter_among row_of plan_row amount_row test_row amount_tree amount_reads amount_small magnitude_of_amount latest_of
    quotient_seen h d p = record {
      amount = quotient d.by p.amount;
      is = whole (child (here_opened h (λ e. omega arith) (of_amount AmountLetter.Q) refl amount refl (divisor ∷ []) refl d.is (amount ∷ []) refl) p.is);
      reads = p.reads;
      latest = p.latest;
      small = rw p.small (le-leb (magnitude_of_amount (bound_in bounds) p.amount) max_amount (amount_limit (bound_in bounds) p.amount p.small));
      magnitude = p.magnitude;
    }

    pub choose_seen : {c x y j r : ℕ} → Here text at 73 → TestBelow (at + 2) c → Below (behind c) x → Below (behind x) y → Kept r → Joined max max c x j → Joined max max j y r → Seen r
    unfolding letter_in letter_among row_of plan_row amount_row test_row amount_tree amount_reads amount_small magnitude_of_amount latest_of
    choose_seen {c} {x} {y} {j} {r} h u p q k g w =
        let e : magnitude_in r ≡ max (magnitude_of_amount (bound_in bounds) p.amount) (magnitude_of_amount (bound_in bounds) q.amount) =
        omega (arith, w.packed.magnitude, g.packed.magnitude, u.none, p.magnitude, q.magnitude) in
        let n : months_in r ≡ max (months_in c) (max (months_in x) (months_in y)) = omega (arith, w.packed.months, g.packed.months) in
        record {
          amount = choose u.test p.amount q.amount;
          is = rw w.packed.place (whole (child (child (child (bare_opened h (λ e. omega arith) (of_amount AmountLetter.I) refl amount refl refl (test ∷ amount ∷ amount ∷ []) refl) u.is) p.is) q.is));
          reads = λ t a z s. rw (u.reads t a z s, p.reads t a z s, q.reads t a z s) refl;
          latest = later (latest_of_test u.test) (later_of (latest_of p.amount) (latest_of q.amount)) u.latest (later (latest_of p.amount) (latest_of q.amount) p.latest q.latest refl) n;
          small = rw (u.small, p.small, q.small) (le-leb (max (magnitude_of_amount (bound_in bounds) p.amount) (magnitude_of_amount (bound_in bounds) q.amount)) max_amount (omega (arith, k, e)));
          magnitude = e;
        }

    -- ---- tests

    module _ {x y r : ℕ} (p : TestBelow (at + 2) x) (q : TestBelow (behind x) y) where
      pub conjunction_seen : Here text at 89 → Joined (λ m n. 0) max x y r → Tested r
      unfolding letter_in letter_among row_of plan_row amount_row test_row test_tree test_reads test_is_small latest_of_test
      conjunction_seen h j = record {
        test = conjunction p.test q.test;
        is = rw j.packed.place (whole (child (child (bare_opened h (λ e. omega arith) (of_test TestLetter.Y) refl test refl refl (test ∷ test ∷ []) refl) p.is) q.is));
        reads = λ t a z s. rw (p.reads t a z s, q.reads t a z s) refl;
        latest = later (latest_of_test p.test) (latest_of_test q.test) p.latest q.latest j.packed.months;
        small = rw (p.small, q.small) refl;
        none = j.packed.magnitude;
      }

      pub disjunction_seen : Here text at 86 → Joined (λ m n. 0) max x y r → Tested r
      unfolding letter_in letter_among row_of plan_row amount_row test_row test_tree test_reads test_is_small latest_of_test
      disjunction_seen h j = record {
        test = disjunction p.test q.test;
        is = rw j.packed.place (whole (child (child (bare_opened h (λ e. omega arith) (of_test TestLetter.«V») refl test refl refl (test ∷ test ∷ []) refl) p.is) q.is));
        reads = λ t a z s. rw (p.reads t a z s, q.reads t a z s) refl;
        latest = later (latest_of_test p.test) (latest_of_test q.test) p.latest q.latest j.packed.months;
        small = rw (p.small, q.small) refl;
        none = j.packed.magnitude;
      }

    pub negation_seen : {r : ℕ} → Here text at 82 → TestBelow (at + 2) r → Tested r
    unfolding letter_in letter_among row_of plan_row amount_row test_row test_tree test_reads test_is_small latest_of_test
    negation_seen h p = record {
      test = negation p.test;
      is = whole (child (bare_opened h (λ e. omega arith) (of_test TestLetter.R) refl test refl refl (test ∷ []) refl) p.is);
      reads = p.reads;
      latest = p.latest;
      small = p.small;
      none = p.none;
    }
