-- Laws of the loop over a text: what is known when a row was opened, and when the next one is to be read.
use Prim.Native.Nat.{◌%◌, ◌*◌, ◌+◌, ◌-◌, ◌/◌, ◌<◌, ◌≤◌, ℕ}
use lib.IntN.{pos, ℤ}
use lib.ListN.{get_or, length, length-set, set, take}
use lib.Seq.{length-sets}
use mathlib.Core.List.{List, []}
use mathlib.Core.Path.{◌∙◌, ◌≡◌, ap, refl, subst, sym}
use native.Mathlib.Omega.{arith}
use Rattle.language.specs.Answer.{refused}
use Rattle.language.specs.Text.Letters.{Form, Letter, row_of}
use Rattle.language.specs.Text.Number.{byte}
use Rattle.text.specs.Letters.{kind_at}
use Rattle.text.specs.Refusals.{number_of}
use Rattle.text.specs.Room.{Roomy, letters_in}
use Rattle.text.specs.Rows.{RowBegun, RowIs, open_row}
use Rattle.text.specs.Whole.{Grown, whole_text}
use Rattle.text.specs.declared.Refusal.{Refusal}
use Rattle.text.proofs.Nesting.{AllSized, Going, Kept, closed, held, held_count, to_come, waits}
use Rattle.text.proofs.LetterCounts.{letter_more, letters_all}
use Rattle.text.proofs.NestingLaws.{Waiter, closed_refused, few_waiting, finished, follows_last, follows_waits, inside_last, inside_waits, kind_some, leaf_done, own_before, waiter, waits_few}
use Rattle.std.specs.Prelude.{Err, Ok, Result}
use Rattle.text.specs.declared.quick.Opened.{Opened}

-- a table as long as one with room
as_roomy : (text : List ℕ) (nodes n : List ℤ) → length n ≡ length nodes → Roomy text nodes → Roomy text n
as_roomy text nodes n e r i h k = omega (arith, e, r i h k)

module _ {P : Type 0} (form : Form P) (text : List ℕ) where
  -- a row was opened, or is refused
  pub record Opening (nodes : List ℤ) (stack : List ℕ) (waiting count left : ℕ) (row : Result Opened Refusal) : Type 0 where
    pub at : ℕ
    pub kind : ℕ
    pub old : List ℤ
    pub size : Roomy text old
    pub paced : count ≤ letters_in (take at text)
    pub capital : (l : Letter P) → byte "A" ≤ (row_of form l).letter
    pub going : Going form text old stack at kind count left waiting
    pub row_is : RowIs form left (kind_at kind) text at old nodes count row

  -- the next one is to be read
  pub record Ready (nodes : List ℤ) (stack : List ℕ) (at kind count left waiting : ℕ) : Type 0 where
    pub going : Going form text nodes stack at kind count left waiting
    pub some_kind : 0 < kind
    pub few_kinds : kind ≤ 3
    pub within : at ≤ length text + 1
    pub room : count ≤ 512
    pub size : Roomy text nodes
    pub paced : count ≤ letters_in (take at text)
    pub capital : (l : Letter P) → byte "A" ≤ (row_of form l).letter
    pub places : length stack ≡ 32

  -- at the root
  pub start : (nodes : List ℤ) (stack : List ℕ) → Going form text nodes stack 0 1 0 32 0
  unfolding waits Kept AllSized held_count held closed kind_at
  start nodes stack = record { frames = []; deep = omega arith; level = refl; wait = refl; kept = tt; sized = tt; counted = refl; holds = refl; is = refl }

  -- the first row, and the one behind those that stand in the table
  pub opening_first : (old nodes : List ℤ) (stack : List ℕ) (row : Result Opened Refusal) → Roomy text old → ((l : Letter P) → byte "A" ≤ (row_of form l).letter)
      → RowIs form 32 (kind_at 1) text 0 old nodes 0 row → Opening nodes stack 0 0 32 row
  opening_first old nodes stack row size capital r = record { at = 0; kind = 1; old = old; size = size; paced = omega arith; capital = capital; going = start old stack; row_is = r }

  pub opening_next : (nodes new : List ℤ) (stack : List ℕ) (at kind count left waiting : ℕ) (row : Result Opened Refusal) → Ready nodes stack at kind count left waiting
      → RowIs form left (kind_at kind) text at nodes new count row → Opening new stack waiting count left row
  opening_next nodes new stack at kind count left waiting row y r =
      record { at = at; kind = kind; old = nodes; size = y.size; paced = y.paced; capital = y.capital; going = y.going; row_is = r }

  pub shut : (nodes : List ℤ) (stack : List ℕ) (waiting count left : ℕ) (k : Refusal) → Opening nodes stack waiting count left (Err k) → whole_text form text ≡ refused (number_of k)
  shut nodes stack waiting count left k o =
      let g = o.going in
      g.is ∙ ap (closed form g.frames) (o.row_is.is (to_come g.frames)) ∙ closed_refused form g.frames (number_of k)

  module _ (nodes : List ℤ) (stack : List ℕ) (waiting count left next kids : ℕ) (o : Opening nodes stack waiting count left (Ok (record { next = next; kids = kids }))) where
    abbrev r : RowBegun form left (kind_at o.kind) text o.at o.old nodes count next kids
    r = o.row_is

    pub row_room : count < 512
    row_room = r.begun.room

    pub row_level : 0 < left
    row_level = r.begun.level

    row_within : next ≤ length text + 1
    row_within = omega (arith, r.behind, r.begun.within)

    row_paced : count + 1 ≤ letters_in (take next text)
    row_paced =
        omega (arith, o.paced, letter_more text o.at next r.head.letter r.begun.alone (omega (arith, o.capital r.begun.sort, r.begun.byte)) (omega (arith, r.begun.onward, r.behind)))

    -- the table has its row
    row_place : 5 * count + 5 ≤ length o.old
    row_place = o.size count row_room (omega (arith, o.paced, letters_all text o.at))

    row_length : length nodes ≡ length o.old
    row_length = ap length r.row ∙ length-sets o.old (5 * count) (open_row r.head)

    pub row_fits : 5 * count + 5 ≤ length nodes
    row_fits = omega (arith, row_place, row_length)

    row_size : Roomy text nodes
    row_size = as_roomy text o.old nodes row_length o.size

    pub places_left : waiting < 32
    places_left = omega (arith, o.going.wait, waits_few o.going.frames, o.going.level, row_level)

    -- a leaf
    module _ (z : kids % 4 ≡ 0) where
      pub leaf_finished : waiting ≡ 0 → Grown form text nodes next (count + 1)
      leaf_finished w =
          finished form text nodes stack o.going.frames r.begun.sort r.begun.values _ next (count + 1) waiting
          (leaf_done form text o.old nodes stack o.at o.kind count left waiting next kids row_place o.going r z) w

      module _ (n : waiting ≡ 0 → ⊥) where
        pub leaf_waiter : Waiter form text nodes stack next (count + 1) waiting
        leaf_waiter =
            waiter form text nodes stack o.going.frames r.begun.sort r.begun.values _ next (count + 1) waiting
            (leaf_done form text o.old nodes stack o.at o.kind count left waiting next kids row_place o.going r z) n

        abbrev entry : ℕ
        entry = get_or stack (waiting - 1) 0

        pub leaf_own : entry / 2048 < count + 1
        leaf_own = own_before form text nodes stack next (count + 1) waiting leaf_waiter

        pub leaf_places : waiting ≤ 32
        leaf_places = few_waiting form text nodes stack next (count + 1) waiting leaf_waiter

        leaf_kind : 0 < entry % 4
        leaf_kind = some_number (entry % 4) (kind_some form text nodes stack next (count + 1) waiting leaf_waiter)
          where
            some_number : (x : ℕ) → (x ≡ 0 → ⊥) → 0 < x
            some_number x n = omega arith

        abbrev linked : List ℤ
        linked = set nodes (5 * (entry / 2048) + 3 + entry / 16 % 2) (pos (count + 1 - entry / 2048))

        module _ (new : List ℤ) (e : new ≡ linked) (places : length stack ≡ 32) where
          linked_size : Roomy text new
          linked_size = as_roomy text nodes new (ap length e ∙ length-set nodes _ _) row_size

          pub ready_last : entry % 16 < 4 → Ready new stack next (entry % 4) (count + 1) (entry / 32 % 64) (waiting - 1)
          ready_last h = record {
            going = subst (λ (l : List ℤ). Going form text l stack next (entry % 4) (count + 1) (entry / 32 % 64) (waiting - 1)) (sym e) (follows_last form text nodes stack next (count + 1) waiting leaf_waiter h);
            some_kind = leaf_kind;
            few_kinds = omega arith;
            within = row_within;
            room = omega (arith, row_room);
            size = linked_size;
            paced = row_paced;
            capital = o.capital;
            places = places;
          }

          pub ready_third : (entry % 16 < 4 → ⊥) → (v : ℕ) → v ≡ entry - entry % 16 + 16 + entry % 16 / 4
              → Ready new (set stack (waiting - 1) v) next (entry % 4) (count + 1) (entry / 32 % 64) waiting
          ready_third h v q = record {
            going = subst (λ (l : List ℤ). Going form text l (set stack (waiting - 1) v) next (entry % 4) (count + 1) (entry / 32 % 64) waiting) (sym e)
                (follows_waits form text nodes stack next (count + 1) waiting leaf_waiter h places v q);
            some_kind = leaf_kind;
            few_kinds = omega arith;
            within = row_within;
            room = omega (arith, row_room);
            size = linked_size;
            paced = row_paced;
            capital = o.capital;
            places = length-set stack (waiting - 1) v ∙ places;
          }

    -- a node with children
    module _ (n : kids % 4 ≡ 0 → ⊥) where
      first_kind : 0 < kids % 4
      first_kind = omega (arith, n)

      pub ready_one : kids / 4 % 4 ≡ 0 → length stack ≡ 32 → Ready nodes stack next (kids % 4) (count + 1) (left - 1) waiting
      ready_one z places = record {
        going = inside_last form text o.old nodes stack o.at o.kind count left waiting next kids row_place o.going r n z;
        some_kind = first_kind;
        few_kinds = omega arith;
        within = row_within;
        room = omega (arith, row_room);
        size = row_size;
        paced = row_paced;
        capital = o.capital;
        places = places;
      }

      pub ready_more : (kids / 4 % 4 ≡ 0 → ⊥) → length stack ≡ 32 → (v : ℕ) → v ≡ count * 2048 + (left - 1) * 32 + kids / 4
          → Ready nodes (set stack waiting v) next (kids % 4) (count + 1) (left - 1) (waiting + 1)
      ready_more m places v e = record {
        going = inside_waits form text o.old nodes stack o.at o.kind count left waiting next kids row_place o.going r n m places v e;
        some_kind = first_kind;
        few_kinds = omega arith;
        within = row_within;
        room = omega (arith, row_room);
        size = row_size;
        paced = row_paced;
        capital = o.capital;
        places = length-set stack waiting v ∙ places;
      }

  -- the same under other names
  pub ready_as : (nodes n : List ℤ) (stack s : List ℕ) (at kind k count c left l waiting w : ℕ) → Ready nodes stack at kind count left waiting
      → n ≡ nodes → s ≡ stack → w ≡ waiting → c ≡ count → l ≡ left → k ≡ kind → Ready n s at k c l w
  ready_as nodes n stack s at kind k count c left l waiting w r e₁ e₂ e₃ e₄ e₅ e₆ = rw (e₁, e₂, e₃, e₄, e₅, e₆) r
