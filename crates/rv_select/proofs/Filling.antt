-- The cells of a sequence are made: their number is met, one more is made, and all are there.
use Rattle.std.proofs.Common.{◌≡◌, ◌≢◌, ℕ, zero, suc, ◌+◌, ◌-◌, ◌*◌, ◌^◌, ◌<◌, ◌≤◌, true, leb, List, ◌∷◌, length, replicate, Option, pos, negsuc, Some, refl, sym, ap, ◌∙◌, subst, inl, inr, arith, lt-ltb, le-ltb}
use Rattle.std.proofs.lemmas.Bool.{cases_lt, cond-true, cond-false, and_parts, leb-true, eq-eqb}
use Rattle.std.proofs.lemmas.Option.{same_Some, slice_get_within}
use Rattle.std.proofs.lemmas.List.{length-replicate}
use Rattle.std.specs.Prelude.{nat_eq, nat_lt, if◌then◌else◌, slice_get, slice_index}
use Rattle.fy_base.specs.declared.data.Place.{Place}
use Rattle.fy_base.specs.declared.data.Datum.{Datum as DatumType}
use Rattle.fy_base.specs.declared.data.Datum.TheVariants as kind
use Rattle.fy_base.specs.declared.data.FaultKind.TheVariants.{Range}
use Rattle.fy_phrase.specs.Contexts.{cells_c, fill_c, drop_c}
use Rattle.pe_code.specs.declared.code.PeInsn.TheVariants as insn
use Rattle.pe_code.specs.declared.code.PeCode.{PeCode}
use Rattle.pe_code.specs.Code.{item_at}
use Rattle.pe_code.specs.Valid.{IsSoundItem}
use Rattle.pe_machine.specs.States.{Pointer, sequence_of, code_at, value}
use Rattle.pe_items.specs.Items.{to_thunk, Item, frame, context, sequence, address_on, FoundContext, context_at, ItemState}
use Rattle.pe_items.specs.Step as item
use Rattle.pe_items.specs.Step.{ItemMove, answered, datum_meets, counted, one_more, bound_filled, item_step}
use Rattle.rv_word.specs.declared.micros.Register.TheVariants.{Frame, Top, Datum, First, Second, Third}
use Rattle.rv_word.specs.declared.micros.Micro.{Micro}
use Rattle.rv_word.specs.Word.{Data, Code, State, goes, word_address, block}
use Rattle.rv_operators.specs.Operators.{word_of}
use Rattle.rv_operators.specs.Laws.{IsDatum}
use Rattle.rv_select.specs.Numbers.{count_label, no_count_label, fill_label, filled_label, label_of, entry_number, entry_word, column_word, sequence_column}
use Rattle.rv_select.specs.Blocks.{bind, count_block, no_count_block, fill_block, filled_block}
use Rattle.rv_select.specs.Layout.{word_in, frame_word, frames_from, DropsCells, IsAtFilling, CellsAreLaid, MakesCells}
use Rattle.rv_select.proofs.Runs.{Reach, Later, wider}
use Rattle.rv_select.proofs.Wp.{Wrote, Wp, with_value, by_blocks}
use Rattle.rv_select.proofs.Values.{moves, moves_on, moves_by, taken_other, untaken_other, taken_above, untaken_above}
use Rattle.rv_select.proofs.Around.{frames_more}
use Rattle.rv_select.proofs.Memory.{same_then, same_wrote, unwritten}
use Rattle.rv_select.proofs.SelectedCode.{IsSelected}
use Rattle.rv_select.proofs.ItemSteps.{Helpers, ComesTo, Follows}
use Rattle.rv_select.proofs.Landing.{has_same, has_more, has_cells, no_room}
use Rattle.rv_select.proofs.Making.{open_length, bound}
use Rattle.rv_select.proofs.Meeting.{IsMet, Q, From, Kept, negative_small, nothing, fault_told, cut}

-- the states while cells are made
abbrev pub made : (m d : ℕ) (body : Pointer) (place : Place) (outside : ℕ) (older : List Item) → ℕ → ItemState
made m d body place outside older k = record {
  focus = value (kind.Int (pos k));
  newest = address_on older;
  items = sequence (record { place = place; values = replicate k (kind.Int (pos 0)) }) ∷ context (fill_c 0 m d body place) outside ∷ older;
}

-- ---- the number of cells is met

module _ (code : PeCode) (w : Code) (sel : IsSelected code w) (help : Helpers) (e0 : Data) where
  module _ (s : ItemState) (older : List Item) (outside : ℕ) where
    module _ (body : Pointer) (e : Data) (a d x : ℕ) (at : Place) (stands : item_at code a ≡ Some (record { insn = insn.Cells x body.address; depth = d; place = at })) (deep : frames_from older body.frame ≡ Some d)
        (f : word_in e.words (address_on older) 2 ≡ frame_word body.frame) (first : e.named.first ≡ entry_word (entry_number code a + 1)) (met : IsMet code older (cells_c d body at) outside e) (keeps : Kept code w sel help e0 e) where
      -- entries of the item are small
      entries_small : 8 * (entry_number code a + 4) < 2 ^ 64
      entries_small =
          let last = sel.entries a _ 4 stands (omega arith) in
          let inside = last.inside in
          let few = sel.operators.entries in
          omega arith

      -- below 0
      no_count : From code w sel help e0 (item.faults Range at) 27 no_count_label (with_value Second (2 ^ 63) e)
      no_count =
          let small = entries_small in
          let entry = sel.entries a _ 4 stands (omega arith) in
          let e1 = with_value Second (2 ^ 63) e in
          by_blocks w (Q code w sel help e0 (item.faults Range at)) no_count_label no_count_block e1 9 27 (sel.own 11 (omega arith)) (omega arith) (
            entry_word (entry_number code a + 4),
            moves_by e.named.first 24 (entry_word (entry_number code a + 4)) (omega arith) (omega arith),
            (
              entry_number code a + 4,
              label_of code a + 2,
              refl,
              entry.inside,
              entry.leads,
              inr (fault_told code w sel help e0 a d 2 (insn.Cells x body.address) Range at (with_value First (entry_word (entry_number code a + 4)) e1) stands (omega arith, refl)
                  (record { input_is = keeps.input_is; output_is = keeps.output_is; size_is = keeps.size_is })),
            ),
          )

      -- the words and registers where the first cell is to be made, or none
      begun : (m : ℕ) (n1 n2 : List ℕ) → Wrote e.words n1 (address_on older + 2) m → Wrote n1 n2 (address_on older + 0) (entry_word (entry_number code a + 2)) → (rest : List Micro) → IsAtFilling w 0 m rest
          → Q code w sel help e0 (item.goes (made m d body at outside older 0)) (goes (record {
            rest = rest;
            held = record (with_value Datum 0 (with_value Second m (with_value Top (word_address (address_on older + 4)) (with_value First (entry_word (entry_number code a + 2)) (with_value Frame (frame_word body.frame) e))))) { words = n2 };
          }))
      begun m n1 n2 w1 w2 rest filling =
          let y = address_on older in
          let room = met.room in
          let same = same_then y e.words n1 n2 (same_wrote y e.words n1 (y + 2) m w1 (omega arith)) (same_wrote y n1 n2 (y + 0) (entry_word (entry_number code a + 2)) w2 (omega arith)) in
          let size = same.size in
          let none : y + 4 + 0 ≡ y + 4 = omega arith in
          record {
            stands = inr (record {
              k = 0;
              m = m;
              depth = d;
              a = a;
              first = x;
              body = body;
              place = at;
              outside = outside;
              older = older;
              state = refl;
              stands = stands;
              deep = deep;
              at = filling;
              memory = has_same code older e.words n2 same met.memory;
              entry = w2.here;
              outside_is = unwritten n1 n2 y 0 1 (entry_word (entry_number code a + 2)) (word_address outside) w2 (λ q. omega (arith, q)) (unwritten e.words n1 y 2 1 m (word_address outside) w1 (λ q. omega (arith, q)) met.here.outside_is);
              count = unwritten n1 n2 y 0 2 (entry_word (entry_number code a + 2)) m w2 (λ q. omega (arith, q)) w1.here;
              cells = λ i lt. absurd (omega arith);
              fits = omega arith;
              frame = refl;
              newest = met.newest_is;
              top = ap word_address (sym none);
              datum = refl;
              second = refl;
              bytes = met.bytes;
            });
            input_is = keeps.input_is;
            output_is = keeps.output_is;
            size_is = same.size ∙ keeps.size_is;
          }

      -- from 0 on
      some_count : (m : ℕ) → e.named.datum ≡ m → m < 2 ^ 63 → From code w sel help e0 (item.goes (made m d body at outside older 0)) 200 count_label e
      some_count m is lt =
          let y = address_on older in
          let room = met.room in
          let few = met.memory.few in
          let small = entries_small in
          by_blocks w (Q code w sel help e0 (item.goes (made m d body at outside older 0))) count_label count_block e 27 200 (sel.own 10 (omega arith)) (omega arith) (
            λ t. absurd (let past = taken_above e.named.datum (2 ^ 63) t in omega arith),
            λ u. (
              y,
              met.newest_is,
              omega arith,
              (
                y,
                frame_word body.frame,
                met.newest_is,
                omega arith,
                f,
                (
                  y,
                  met.newest_is,
                  omega arith,
                  λ n1 w1. (
                    entry_word (entry_number code a + 2),
                    moves_by e.named.first 8 (entry_word (entry_number code a + 2)) (omega arith) (omega arith),
                    (
                      y,
                      met.newest_is,
                      (let z = w1.size in omega arith),
                      λ n2 w2. (
                        word_address (y + 4),
                        moves_on e.named.context y (y + 4) 32 met.newest_is (omega arith) (omega arith),
                        (
                          m,
                          moves e.named.datum m is (omega arith),
                          (
                            0,
                            moves 0 0 refl (omega arith),
                            (
                              λ t. inl (begun m n1 n2 (subst (λ v. Wrote e.words n1 (y + 2) v) is w1) w2 (block w fill_label) (inl (positive m (taken_other m 0 t), refl))),
                              λ u'. inl (begun m n1 n2 (subst (λ v. Wrote e.words n1 (y + 2) v) is w1) w2 (block w filled_label) (inr (sym (untaken_other m 0 u'), refl))),
                            ),
                          ),
                        ),
                      ),
                    ),
                  ),
                ),
              ),
            ),
          )
        where
          positive : (m : ℕ) → m ≢ 0 → 0 < m
          positive zero other = absurd (other refl)
          positive (suc m) other = omega arith

      pub met_count : (v : DatumType) → e.named.datum ≡ word_of v → IsDatum v → From code w sel help e0 (counted v d body at (cut code w sel help e0 s older outside)) 200 count_label e
      met_count (kind.Int (pos m)) is good = some_count m is (let le = leb-true m (2 ^ 63 - 1) (and_parts true (leb m (2 ^ 63 - 1)) good).1 in omega arith)
      met_count (kind.Int (negsuc m)) is good =
          by_blocks w (Q code w sel help e0 (item.faults Range at)) count_label count_block e 27 200 (sel.own 10 (omega arith)) (omega arith) (
            λ t. inr no_count,
            λ u. absurd (let below = untaken_above e.named.datum (2 ^ 63) u in let small = negative_small m good in omega arith),
          )
      met_count (kind.Bool b) is good = nothing code w sel help e0 200 count_label e (omega arith)
      met_count (kind.Char c) is good = nothing code w sel help e0 200 count_label e (omega arith)

-- ---- cells are made

-- each cell holds 0
pub zero_at : (m i : ℕ) (u v : DatumType) → slice_get (replicate m u) i ≡ Some v → u ≡ v
zero_at zero i u v e = absurd (cc)
zero_at (suc m) zero u v e = same_Some u v e
zero_at (suc m) (suc i) u v e = zero_at m i u v e

module _ (code : PeCode) (m d : ℕ) (body : Pointer) (place : Place) (outside : ℕ) (older : List Item) where
  -- the sequence on its context
  abbrev whole : List Item
  whole = sequence (record { place = place; values = replicate m (kind.Int (pos 0)) }) ∷ context (drop_c 0) outside ∷ older

  -- and the frame that binds it
  abbrev ready : ItemState
  ready = record {
    focus = code_at (record { address = body.address; frame = Some (address_on whole) });
    newest = address_on older;
    items = frame d (to_thunk (sequence_of (address_on older))) body.frame ∷ whole;
  }

  found : (k : ℕ) → context_at (address_on older) (made m d body place outside older k).items ≡ Some (record { content = fill_c 0 m d body place; outside = outside; older = older })
  found k =
      cond-true (nat_eq (address_on older) (address_on older)) (Some (record { content = fill_c 0 m d body place; outside = outside; older = older })) (context_at (address_on older) older)
      (eq-eqb (address_on older) (address_on older) refl)

  -- the items with the context taken off
  abbrev before : ℕ → ItemState
  before k = record (made m d body place outside older k) { newest = outside; items = older }

  abbrev full : ℕ → ItemMove
  full k = if nat_eq k m then bound_filled m d body place (before k) else item.sticks

  steps_on : (k : ℕ) → k < m → item_step code (made m d body place outside older k) ≡ item.goes (made m d body place outside older (k + 1))
  steps_on k lt =
      ap (λ (o : Option FoundContext). answered (datum_meets code (kind.Int (pos k))) o (made m d body place outside older k)) (found k)
      ∙ cond-true (nat_lt k m) (one_more k m d body place (before k)) (full k) (lt-ltb k m lt)

  steps_over : item_step code (made m d body place outside older m) ≡ item.goes ready
  steps_over =
      ap (λ (o : Option FoundContext). answered (datum_meets code (kind.Int (pos m))) o (made m d body place outside older m)) (found m)
      ∙ cond-false (nat_lt m m) (one_more m m d body place (before m)) (full m) (le-ltb m m (omega arith))
      ∙ cond-true (nat_eq m m) (bound_filled m d body place (before m)) item.sticks (eq-eqb m m refl)

module _ (code : PeCode) (w : Code) (sel : IsSelected code w) (help : Helpers) (s : ItemState) (t : State) (h : MakesCells code w s t) where
  abbrev e : Data
  e = t.held

  abbrev y : ℕ
  y = address_on h.older

  abbrev Makes : ℕ → ItemState
  Makes k = made h.m h.depth h.body h.place h.outside h.older k

  -- one more
  grown : (n1 : List ℕ) → Wrote e.words n1 (address_on h.older + 4 + h.k + 0) 0 → address_on h.older + 4 + h.k + 1 ≤ length e.words → (rest : List Micro) → IsAtFilling w (h.k + 1) h.m rest
      → Follows code w e (item.goes (Makes (h.k + 1))) (goes (record {
        rest = rest;
        held = record (with_value Datum (h.k + 1) (with_value Top (word_address (address_on h.older + 4 + (h.k + 1))) e)) { words = n1 };
      }))
  grown n1 w1 le rest filling = record {
    stands = inr (record {
      k = h.k + 1;
      m = h.m;
      depth = h.depth;
      a = h.a;
      first = h.first;
      body = h.body;
      place = h.place;
      outside = h.outside;
      older = h.older;
      state = refl;
      stands = h.stands;
      deep = h.deep;
      at = filling;
      memory = has_same code h.older e.words n1 (same_wrote y e.words n1 (y + 4 + h.k + 0) 0 w1 (omega arith)) h.memory;
      entry = w1.else (y + 0) (λ q. omega arith) ∙ h.entry;
      outside_is = w1.else (y + 1) (λ q. omega arith) ∙ h.outside_is;
      count = w1.else (y + 2) (λ q. omega arith) ∙ h.count;
      cells = cells;
      fits = (let z = w1.size in omega arith);
      frame = h.frame;
      newest = h.newest;
      top = refl;
      datum = refl;
      second = h.second;
      bytes = h.bytes;
    });
    input_is = refl;
    output_is = refl;
    size_is = w1.size;
  }
    where
      cells : (i : ℕ) → i < h.k + 1 → word_in n1 (address_on h.older + 4) i ≡ 0
      cells i lt = elim (cases_lt i h.k) [
        | inl below ↦ w1.else (y + 4 + i) (λ q. omega arith) ∙ h.cells i below
        | inr past ↦ (let spot : y + 4 + i ≡ y + 4 + h.k + 0 = omega arith in ap (λ j. slice_index n1 j) spot ∙ w1.here)
      ]

  fills : h.k < h.m → Reach w (Follows code w e (item.goes (Makes (h.k + 1)))) 100 (record { rest = block w fill_label; held = e })
  fills lt =
      let fits = h.fits in
      let few = h.memory.few in
      let datum = h.datum in
      let second = h.second in
      by_blocks w (Follows code w e (item.goes (Makes (h.k + 1)))) fill_label fill_block e 37 100 (sel.own 12 (omega arith)) (omega arith) (
        y + 4 + h.k,
        h.top,
        λ past. no_room code w sel help (Makes (h.k + 1)) e.input e.output (length e.words) 37 e (omega arith) refl (let many = length-replicate (h.k + 1) (kind.Int (pos 0)) in omega arith),
        λ le. (
          y + 4 + h.k,
          h.top,
          le,
          (
            y + 4 + h.k,
            h.top,
            le,
            λ n1 w1. (
              word_address (y + 4 + (h.k + 1)),
              moves_on e.named.top (y + 4 + h.k) (y + 4 + (h.k + 1)) 8 h.top (omega arith) (omega arith),
              (
                h.k + 1,
                moves_by e.named.datum 1 (h.k + 1) (omega arith) (omega arith),
                (
                  λ t'. inl (grown n1 w1 le (block w fill_label) (inl (less lt (λ same. taken_other (h.k + 1) e.named.second t' (omega arith)), refl))),
                  λ u. inl (grown n1 w1 le (block w filled_label) (inr (untaken_other (h.k + 1) e.named.second u ∙ h.second, refl))),
                ),
              ),
            ),
          ),
        ),
      )
    where
      less : h.k < h.m → h.k + 1 ≢ h.m → h.k + 1 < h.m
      less lower other = elim (cases_lt (h.k + 1) h.m) [
        | inl under ↦ under
        | inr past ↦ absurd (other (omega arith))
      ]

  -- all of them
  abbrev Whole : List Item
  Whole = whole code h.m h.depth h.body h.place h.outside h.older

  abbrev Ready : ItemMove
  Ready = item.goes (ready code h.m h.depth h.body h.place h.outside h.older)

  module _ (all : h.k ≡ h.m) (sound : IsSoundItem code (record { insn = insn.Cells h.first h.body.address; depth = h.depth; place = h.place })) where
    -- the words, once word 0 of the context has the entry that drops the sequence
    laid : (n1 : List ℕ) → Wrote e.words n1 (address_on h.older + 0) (entry_word (entry_number code h.a + 3)) → CellsAreLaid code n1 (address_on h.older) (record { place = h.place; values = replicate h.m (kind.Int (pos 0)) })
    laid n1 w1 = record {
      drops = (h.a, h.depth, h.first, h.body.address, record { stands = h.stands; entry = w1.here });
      count = w1.else (y + 2) (λ q. omega arith) ∙ h.count ∙ sym (length-replicate h.m (kind.Int (pos 0)));
      cells = λ i v is.
          let within = slice_get_within (replicate h.m (kind.Int (pos 0))) i v is in
          let many = length-replicate h.m (kind.Int (pos 0)) in
          let one : kind.Int (pos 0) ≡ v = zero_at h.m i (kind.Int (pos 0)) v is in
          (w1.else (y + 4 + i) (λ q. omega arith) ∙ h.cells i (omega arith) ∙ ap word_of one, subst IsDatum one refl);
    }

    sealed : (n1 : List ℕ) → Wrote e.words n1 (address_on h.older + 0) (entry_word (entry_number code h.a + 3))
        → Wp w (Later w (109 + 16 * h.depth) (Follows code w e Ready)) (bind h.depth (label_of code h.body.address) (entry_number code h.body.address))
        (record (with_value First (column_word sequence_column) (with_value Second (word_address (address_on h.older + 2)) (with_value First (entry_word (entry_number code h.a + 3)) (with_value Third (entry_word (entry_number code h.a + 2)) e)))) { words = n1 })
    sealed n1 w1 =
        let fits = h.fits in
        let size = w1.size in
        let many = length-replicate h.m (kind.Int (pos 0)) in
        let e1 = record (with_value First (column_word sequence_column) (with_value Second (word_address (y + 2)) (with_value First (entry_word (entry_number code h.a + 3)) (with_value Third (entry_word (entry_number code h.a + 2)) e)))) { words = n1 } in
        let drops : DropsCells code h.place (word_in n1 y 0) = (h.a, h.depth, h.first, h.body.address, record { stands = h.stands; entry = w1.here }) in
        let below = has_more code h.older (drop_c 0) h.outside e.words n1 h.memory (same_wrote y e.words n1 (y + 0) (entry_word (entry_number code h.a + 3)) w1 (omega arith))
        (record { outside_is = w1.else (y + 1) (λ q. omega arith) ∙ h.outside_is; parts = inr (h.place, drops) }) (omega arith) in
        let memory = has_cells code (context (drop_c 0) h.outside ∷ h.older) (record { place = h.place; values = replicate h.m (kind.Int (pos 0)) }) n1 below (laid n1 w1) (omega arith) in
        let top : y + 4 + h.k ≡ address_on Whole = omega arith in
        let deep = frames_more (sequence (record { place = h.place; values = replicate h.m (kind.Int (pos 0)) })) (context (drop_c 0) h.outside ∷ h.older) h.body.frame h.depth
        (frames_more (context (drop_c 0) h.outside) h.older h.body.frame h.depth h.deep) in
        subst (λ z. Wp w (Later w (109 + 16 * h.depth) (ComesTo code w (ready code h.m h.depth h.body h.place h.outside h.older) e.input e.output z)) (bind h.depth (label_of code h.body.address) (entry_number code h.body.address)) e1) w1.size
        (bound code w sel help y Whole (sequence_of y) h.depth h.body.address (109 + 16 * h.depth) h.body.frame e1 (omega arith)
        (record { newest_is = h.newest; top_is = h.top ∙ ap word_address top; memory = memory; bytes = h.bytes }) h.frame refl refl tt deep sound.depth (sound.body h.body.address refl) (omega arith))

    completes : Reach w (Follows code w e Ready) (300 + 16 * h.depth) (record { rest = block w filled_label; held = e })
    completes =
        let fits = h.fits in
        let few = h.memory.few in
        let entry = sel.entries h.a _ 2 h.stands (omega arith) in
        let last = (sel.entries h.a _ 3 h.stands (omega arith)).inside in
        let most = sel.operators.entries in
        let inside = entry.inside in
        let short = open_length h.depth (label_of code h.body.address) (entry_number code h.body.address) in
        by_blocks w (Follows code w e Ready) filled_label filled_block e (180 + 16 * h.depth) (300 + 16 * h.depth) (sel.own 13 (omega arith)) (omega arith) (
          y,
          h.newest,
          omega arith,
          (
            y,
            entry_word (entry_number code h.a + 2),
            h.newest,
            omega arith,
            h.entry,
            (
              entry_word (entry_number code h.a + 3),
              moves_by (entry_word (entry_number code h.a + 2)) 8 (entry_word (entry_number code h.a + 3)) (omega arith) (omega arith),
              (
                y,
                h.newest,
                omega arith,
                λ n1 w1. (
                  word_address (y + 2),
                  moves_on e.named.context y (y + 2) 16 h.newest (omega arith) (omega arith),
                  (
                    entry_number code h.a + 2,
                    label_of code h.a + 1,
                    refl,
                    entry.inside,
                    entry.leads,
                    inr (by_blocks w (Follows code w e Ready) (label_of code h.a + 1) (bind h.depth (label_of code h.body.address) (entry_number code h.body.address))
                        (record (with_value First (column_word sequence_column) (with_value Second (word_address (y + 2)) (with_value First (entry_word (entry_number code h.a + 3)) (with_value Third (entry_word (entry_number code h.a + 2)) e)))) { words = n1 })
                        (109 + 16 * h.depth) (180 + 16 * h.depth) (sel.further h.a _ 1 h.stands (omega arith)) (omega arith) (sealed n1 w1)),
                  ),
                ),
              ),
            ),
          ),
        )

  -- ---- a step while cells are made

  pub filling_steps : (cost : ℕ) → 300 + 16 * h.depth ≤ cost → IsSoundItem code (record { insn = insn.Cells h.first h.body.address; depth = h.depth; place = h.place }) → Reach w (Follows code w t.held (item_step code s)) cost t
  filling_steps cost enough sound =
      subst (λ (z : ItemState). Reach w (Follows code w e (item_step code z)) cost t) (sym h.state) (by h.at)
    where
      by : IsAtFilling w h.k h.m t.rest → Reach w (Follows code w t.held (item_step code (Makes h.k))) cost t
      by (inl p) =
          subst (λ (ms : List Micro). Reach w (Follows code w t.held (item_step code (Makes h.k))) cost (record { rest = ms; held = t.held })) (sym p.1)
          (subst (λ (mv : ItemMove). Reach w (Follows code w t.held mv) cost (record { rest = block w fill_label; held = t.held })) (sym (steps_on code h.m h.depth h.body h.place h.outside h.older h.k p.0))
          (wider w (Follows code w t.held (item.goes (Makes (h.k + 1)))) 100 cost (record { rest = block w fill_label; held = t.held }) (omega arith) (fills p.0)))
      by (inr p) =
          subst (λ (ms : List Micro). Reach w (Follows code w t.held (item_step code (Makes h.k))) cost (record { rest = ms; held = t.held })) (sym p.1)
          (subst (λ n. Reach w (Follows code w t.held (item_step code (Makes n))) cost (record { rest = block w filled_label; held = t.held })) (sym p.0)
          (subst (λ (mv : ItemMove). Reach w (Follows code w t.held mv) cost (record { rest = block w filled_label; held = t.held })) (sym (steps_over code h.m h.depth h.body h.place h.outside h.older))
          (wider w (Follows code w t.held Ready) (300 + 16 * h.depth) cost (record { rest = block w filled_label; held = t.held }) enough (completes p.0 sound))))
