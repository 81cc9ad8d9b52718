-- A sequence of cells is entered, by an index or for its length; and the block of a variable, whatever it is bound to.
use Rattle.std.proofs.Common.{◌≡◌, ◌≢◌, ℕ, ◌+◌, ◌-◌, ◌^◌, ◌<◌, ◌⊎◌, Bool, true, false, List, [], ◌∷◌, ◌++◌, length, pos, Some, None, refl, sym, ap, ◌∙◌, subst, inl, inr, arith, length-append}
use Rattle.std.proofs.lemmas.Bool.{cond-true, cond-false, cond_both, eq-eqb, ne_eqb, le-leb}
use Rattle.std.specs.Prelude.{slice_index, nat_eq}
use Rattle.std.specs.declared.option.Option.{Option}
use Rattle.fy_base.specs.declared.data.Datum.{Datum as DatumType}
use Rattle.fy_base.specs.declared.data.Datum.TheVariants.{Int}
use Rattle.fy_phrase.specs.Contexts.{arg_c, pick_c, element_c}
use Rattle.fy_phrase.specs.Copy.{own}
use Rattle.pe_code.specs.declared.code.PeCode.{PeCode}
use Rattle.pe_code.specs.Code.{entry_of}
use Rattle.pe_machine.specs.States.{Thunk, source, datum, cell_of, jump_of, sequence_of, Sequence, Focus, code_at, value, Wanted, PeContext}
use Rattle.pe_machine.specs.Step.{is_assignment, Asked, a_cell, a_length, no_part, asked_at}
use Rattle.pe_items.specs.Items.{Item, context, address_on, FoundContext, context_at, FoundFrame, frame_from, handed_by, datum_at, escape_at, sequence_at, ItemState}
use Rattle.pe_items.specs.Step as item
use Rattle.pe_items.specs.Step.{ItemMove, sticks, focus_on, push, focused, loaded, assignment_meets, cell_entered, left_by, jumped, at_entry, entered_plain, index_entered, index_meets, length_meets, sequence_asked, entered, taken, newest_of, with_variable}
use Rattle.rv_insn.specs.declared.instructions.RegOp.TheVariants as reg
use Rattle.rv_insn.specs.declared.instructions.BranchOp.TheVariants.{Bne}
use Rattle.rv_word.specs.declared.micros.Register.TheVariants.{Frame, Context, Top, Datum, First, Second, Third}
use Rattle.rv_word.specs.declared.micros.Micro.TheVariants.{Set, Alu, Window, Get, Look, Test, Jump, Enter}
use Rattle.rv_word.specs.Word.{Data, Code, Led, word_address, block}
use Rattle.rv_runtime.specs.Routines.{exhausted}
use Rattle.rv_select.specs.Numbers.{meet, end_label, leave_label, length_label, no_room_label, index_read_label, index_write_label, end_entry, length_entry, index_read_entry, index_write_entry, element_entry, entry_word, column_word, escape_column, sequence_column, row_address}
use Rattle.rv_select.specs.Blocks.{reach, indexing, index_block, no_room_block}
use Rattle.rv_select.specs.Layout.{word_in, frame_word, frames_from, column, count_address, payload, IsGoodThunk, HoldsItems}
use Rattle.rv_select.proofs.Runs.{Reach, Later, wider}
use Rattle.rv_select.proofs.Wp.{Wp, at, with_value, by_block, by_blocks}
use Rattle.rv_select.proofs.Values.{moves, moves_on, taken_other, untaken_other}
use Rattle.rv_select.proofs.Around.{frames_more, thunk_deeper}
use Rattle.rv_select.proofs.Memory.{same_then, same_wrote, unwritten, hands_on, StandsAt, stands_at, escape_is, sequence_is}
use Rattle.rv_select.proofs.SelectedCode.{IsSelected}
use Rattle.rv_select.proofs.ItemSteps.{Helpers, Follows}
use Rattle.rv_select.proofs.Landing.{Keeps, has_more, went_value, no_room}
use Rattle.rv_select.proofs.Reaching.{reach_length, reached}
use Rattle.rv_select.proofs.Asking.{asked_word, sequence_word_is}
use Rattle.rv_select.proofs.Entering.{looked, nothing, left, HasEntry, enters}

module _ (code : PeCode) (w : Code) (sel : IsSelected code w) (help : Helpers) where
  -- ---- an index is entered under its own context

  module _ (s : ItemState) (e0 : Data) (k : Wanted) (outside : ℕ) where
    -- the state with that context
    abbrev under : ItemState
    under = push (element_c k) (record s { newest = outside })

    abbrev Q : ItemMove → Led → Type 0
    Q mv = Follows code w e0 mv

    -- a move that leaves the items as they are, or of which nothing is said
    abbrev Stays : ItemMove → Type 0
    Stays mv = (mv ≡ sticks) ⊎ ((f : Focus) × (mv ≡ item.goes (focus_on f under)))

    loaded_stays : (o : Option DatumType) → Stays (loaded o under)
    loaded_stays None = inl refl
    loaded_stays (Some v) = inr (value v, refl)

    -- no cell is assigned under the context of an index
    cell_stays : (x : ℕ) (b : Bool) → Stays (cell_entered b own x under)
    cell_stays x true =
        inl (ap (λ o. taken (assignment_meets own x) o under)
        (cond-true (nat_eq (address_on s.items) (address_on s.items)) (Some (record { content = element_c k; outside = outside; older = s.items })) (context_at (address_on s.items) s.items)
        (eq-eqb (address_on s.items) (address_on s.items) refl)))
    cell_stays x false = loaded_stays (datum_at x s.items)

    stays : (t : Thunk) (shape : ℕ) → HasEntry code w sel under e0 t shape → column code t ≢ escape_column → Stays (entered_plain code shape t under)
    stays (source node around) shape he other = subst (λ (o : Option ℕ). Stays (at_entry o around under)) (sym he.1) (inr (code_at (record { address = he.0; frame = around }), refl))
    stays (datum v) shape he other = inr (value v, refl)
    stays (cell_of x) shape he other = cell_stays x (is_assignment code.assignment shape)
    stays (jump_of x) shape he other = absurd (other refl)
    stays (sequence_of x) shape he other = absurd he

    -- there isn't room for the context
    runs_out : (mv : ItemMove) (e : Data) → Stays mv → e.output ≡ e0.output → length e0.words < address_on under.items → Later w 97 (Q mv) (at w exhausted e)
    runs_out mv e (inl is) same lt = subst (λ (m : ItemMove). Later w 97 (Q m) (at w exhausted e)) (sym is) (inl tt)
    runs_out mv e (inr h) same lt =
        subst (λ (m : ItemMove). Later w 97 (Q m) (at w exhausted e)) (sym h.1)
        (no_room code w sel help (focus_on h.0 under) e0.input e0.output (length e0.words) 97 e (omega arith) same lt)

    -- an escape needs none, since it leaves the context at once
    same_left : (o : Option FoundContext) → left_by o under ≡ left_by o s
    same_left None = refl
    same_left (Some c) = refl

    same_jump : (c : ℕ) → c < address_on s.items → jumped (Some c) under ≡ left_by (context_at c s.items) s
    same_jump c lt =
        ap (λ o. left_by o under)
        (cond-false (nat_eq c (address_on s.items)) (Some (record { content = element_c k; outside = outside; older = s.items })) (context_at c s.items) (ne_eqb c (address_on s.items) (λ same. omega arith)))
        ∙ same_left (context_at c s.items)

    leaves : (x : ℕ) (e : Data) → HoldsItems code s.newest s.items e → Keeps e0.input e0.output (length e0.words) e → e.named.frame ≡ word_address x → (o : Option ℕ) → escape_at x s.items ≡ o
        → Reach w (Q (jumped o under)) 90 (record { rest = block w leave_label; held = e })
    leaves x e h keeps f None is = nothing code w sel s e0 90 (record { rest = block w leave_label; held = e }) (omega arith)
    leaves x e h keeps f (Some c) is =
        let esc = escape_is code e.words s.items x c is h.memory.laid in
        subst (λ (m : ItemMove). Reach w (Q m) 90 (record { rest = block w leave_label; held = e })) (sym (same_jump c esc.below))
        (left code w sel s e0 x e h keeps f c esc (context_at c s.items) refl)

    -- a thunk that is the argument of the newest context
    abbrev Stood' : List Item → Thunk → Data → Type 0
    Stood' older t e = StandsAt code e.words s.items s.newest (record { content = arg_c t; outside = outside; older = older })

    module _ (shape : ℕ) (older : List Item) (e : Data) (h : HoldsItems code s.newest s.items e) (keeps : Keeps e0.input e0.output (length e0.words) e) (lt : length e0.words < address_on under.items) where
      abbrev Tight : Thunk → Type 0
      Tight t = Reach w (Q (entered_plain code shape t under)) 151 (record { rest = block w no_room_label; held = e })

      abbrev marked : Thunk → Data
      marked t = with_value First (column_word escape_column) (with_value Frame (payload t) (with_value Second (column_word (column code t)) e))

      -- its column is compared with an escape's
      compared : (mv : ItemMove) (t : Thunk) → Stood' older t e → Wp w (Later w 97 (Q mv)) (Test Bne Second First exhausted ∷ Jump leave_label ∷ []) (marked t)
          → Reach w (Q mv) 151 (record { rest = block w no_room_label; held = e })
      compared mv t found go =
          let within = found.within in
          let fits = h.memory.fits in
          let newest = h.newest_is ∙ ap word_address found.spot in
          by_blocks w (Q mv) no_room_label no_room_block e 97 151 (sel.own 18 (omega arith)) (omega arith) (
            address_on older,
            newest,
            omega arith,
            (
              address_on older,
              column_word (column code t),
              newest,
              omega arith,
              found.here.parts.0,
              (address_on older, payload t, newest, omega arith, found.here.parts.1, go),
            ),
          )

      tight_other : (t : Thunk) → HasEntry code w sel under e0 t shape → column code t ≢ escape_column → Stood' older t e → Tight t
      tight_other t he other found =
          compared (entered_plain code shape t under) t found (
            λ t'. runs_out (entered_plain code shape t under) (marked t) (stays t shape he other) keeps.output_is lt,
            λ u. absurd (other (let same = untaken_other (column_word (column code t)) (column_word escape_column) u in omega arith)),
          )

      tight : (t : Thunk) → HasEntry code w sel under e0 t shape → Stood' older t e → Tight t
      tight (source node around) he found = tight_other (source node around) he (λ q. omega (arith, q)) found
      tight (datum v) he found = tight_other (datum v) he (λ q. omega (arith, q)) found
      tight (cell_of x) he found = tight_other (cell_of x) he (λ q. omega (arith, q)) found
      tight (sequence_of x) he found = absurd he
      tight (jump_of x) he found =
          compared (jumped (escape_at x s.items) under) (jump_of x) found (
            λ t. absurd (taken_other (column_word escape_column) (column_word escape_column) t refl),
            λ u. inr (wider w (Q (jumped (escape_at x s.items) under)) 90 97 (record { rest = block w leave_label; held = marked (jump_of x) }) (omega arith)
                (leaves x (marked (jump_of x)) (record { newest_is = h.newest_is; top_is = h.top_is; memory = h.memory; bytes = h.bytes }) (record { input_is = keeps.input_is; output_is = keeps.output_is; size_is = keeps.size_is }) refl (escape_at x s.items) refl)),
          )

    module _ (shape label : ℕ) (older : List Item) (e : Data) (is : block w label ≡ indexing (element_entry k.is_written) (row_address code shape)) (lt : shape < code.shapes) (h : HoldsItems code s.newest s.items e)
        (keeps : Keeps e0.input e0.output (length e0.words) e) (f : e.named.frame ≡ count_address k.number) where
      abbrev Takes : Thunk → Type 0
      Takes t = Stood' older t e → Reach w (Q (entered_plain code shape t under)) 300 (record { rest = block w label; held = e })

      takes : (t : Thunk) → HasEntry code w sel under e0 t shape → Takes t
      takes t he found =
          let y = address_on s.items in
          let a = address_on older in
          let entry = entry_word (element_entry k.is_written) in
          let col = column_word (column code t) in
          let within = found.within in
          let fits = h.memory.fits in
          let few = h.memory.few in
          let size = keeps.size_is in
          let newest = h.newest_is ∙ ap word_address found.spot in
          let good = thunk_deeper code (frames_from older) (frames_from s.items) found.deeper t found.here.parts.2 in
          let e1 = with_value Context (word_address outside) (with_value Frame (payload t) (with_value Second col e)) in
          by_blocks w (Q (entered_plain code shape t under)) label (indexing (element_entry k.is_written) (row_address code shape)) e 151 300 is (omega arith) (
            y,
            h.top_is,
            λ past. inr (tight shape older e h keeps (omega arith) t he found),
            λ le. (
              y,
              h.top_is,
              le,
              (
                y,
                h.top_is,
                omega arith,
                λ n1 w1. (
                  a,
                  newest,
                  (let z1 = w1.size in omega arith),
                  (
                    a,
                    col,
                    newest,
                    (let z1 = w1.size in omega arith),
                    w1.else (a + 2) (λ q. omega arith) ∙ found.here.parts.0,
                    (
                      a,
                      payload t,
                      newest,
                      (let z1 = w1.size in omega arith),
                      w1.else (a + 3) (λ q. omega arith) ∙ found.here.parts.1,
                      (
                        a,
                        word_address outside,
                        newest,
                        (let z1 = w1.size in omega arith),
                        w1.else (a + 1) (λ q. omega arith) ∙ found.here.outside_is,
                        (
                          y,
                          h.top_is,
                          (let z1 = w1.size in omega arith),
                          λ n2 w2. (
                            y,
                            h.top_is,
                            (let z1 = w1.size in let z2 = w2.size in omega arith),
                            λ n3 w3.
                                let same1 = same_wrote y e.words n1 (y + 2) e.named.frame w1 (omega arith) in
                                let same2 = same_wrote y n1 n2 (y + 0) entry w2 (omega arith) in
                                let same3 = same_wrote y n2 n3 (y + 1) (word_address outside) w3 (omega arith) in
                                let same = same_then y e.words n2 n3 (same_then y e.words n1 n2 same1 same2) same3 in
                                let first : word_in n3 y 0 ≡ entry = unwritten n2 n3 y 1 0 (word_address outside) entry w3 (λ q. omega (arith, q)) w2.here in
                                let number : word_in n3 y 2 ≡ count_address k.number =
                                unwritten n2 n3 y 1 2 (word_address outside) (count_address k.number) w3 (λ q. omega (arith, q))
                                (unwritten n1 n2 y 0 2 entry (count_address k.number) w2 (λ q. omega (arith, q)) (w1.here ∙ f)) in
                                let e2 = with_value Top (word_address (address_on (context (element_c k) outside ∷ s.items))) (with_value Context (word_address y) (record (with_value First entry e1) { words = n3 })) in (
                                  word_address y,
                                  moves e.named.top (word_address y) h.top_is (omega arith),
                                  (
                                    word_address (address_on (context (element_c k) outside ∷ s.items)),
                                    moves_on e.named.top y (address_on (context (element_c k) outside ∷ s.items)) 32 h.top_is (omega arith) (omega arith),
                                    enters code w sel under e0 shape 151 lt (omega arith) t e2 he
                                        (record { newest_is = refl; top_is = refl; memory = has_more code s.items (element_c k) outside e.words n3 h.memory same (record { outside_is = w3.here; parts = (first, number) }) le; bytes = h.bytes })
                                        (record { input_is = keeps.input_is; output_is = keeps.output_is; size_is = w3.size ∙ w2.size ∙ w1.size ∙ keeps.size_is }) refl refl
                                        (thunk_deeper code (frames_from s.items) (frames_from under.items) (λ g d. frames_more (context (element_c k) outside) s.items g d) t good),
                                  ),
                                ),
                          ),
                        ),
                      ),
                    ),
                  ),
                ),
              ),
            ),
          )

      takes_node : (node : ℕ) (around : Option ℕ) (o : Option ℕ) → entry_of code node shape ≡ o
          → Stood' older (source node around) e → Reach w (Q (at_entry o around under)) 300 (record { rest = block w label; held = e })
      takes_node node around None entry found = nothing code w sel s e0 300 (record { rest = block w label; held = e }) (omega arith)
      takes_node node around (Some a) entry found =
          subst (λ (o : Option ℕ). Reach w (Q (at_entry o around under)) 300 (record { rest = block w label; held = e })) entry (takes (source node around) (a, entry) found)

      pub takes_any : (t : Thunk) → Takes t
      takes_any (source node around) found = takes_node node around (entry_of code node shape) refl found
      takes_any (datum v) found = takes (datum v) tt found
      takes_any (cell_of x) found = takes (cell_of x) tt found
      takes_any (jump_of x) found = takes (jump_of x) tt found
      takes_any (sequence_of x) found = nothing code w sel s e0 300 (record { rest = block w label; held = e }) (omega arith)

  -- ---- a sequence is entered

  abbrev index_label : Bool → ℕ
  index_label true = index_write_label
  index_label false = index_read_label

  index_is : (b : Bool) → block w (index_label b) ≡ index_block code (element_entry b) code.sequences.value
  index_is true = sel.own 20 (omega arith)
  index_is false = sel.own 19 (omega arith)

  module _ (s : ItemState) (e0 : Data) where
    abbrev Q' : ItemMove → Led → Type 0
    Q' mv = Follows code w e0 mv

    module _ (x : ℕ) (c : Sequence) (stands : sequence_at x s.items ≡ Some c) (e : Data) (h : HoldsItems code s.newest s.items e) (keeps : Keeps e0.input e0.output (length e0.words) e) (f : e.named.frame ≡ count_address x) where
      abbrev Stood : PeContext → ℕ → List Item → Type 0
      Stood k outside older = StandsAt code e.words s.items s.newest (record { content = k; outside = outside; older = older })

      -- by an index
      index_found : (b : Bool) (t : Thunk) (outside : ℕ) (older : List Item) (o : Option ℕ) → code.sequences.value ≡ o → Stood (arg_c t) outside older
          → Reach w (Q' (index_entered code o (record { is_written = b; number = x }) t (record s { newest = outside }))) 300 (record { rest = block w (index_label b); held = e })
      index_found b t outside older None is found = nothing code w sel s e0 300 (record { rest = block w (index_label b); held = e }) (omega arith)
      index_found b t outside older (Some shape) is found =
          takes_any s e0 (record { is_written = b; number = x }) outside shape (index_label b) older e (index_is b ∙ ap (λ o. index_block code (element_entry b) o) is) (sel.indexed shape is) h keeps f t found

      index_by : (b : Bool) (k : PeContext) (outside : ℕ) (older : List Item) → Stood k outside older
          → Reach w (Q' (index_meets code (record { is_written = b; number = x }) k (record s { newest = outside }))) 300 (record { rest = block w (index_label b); held = e })
      index_by b (arg_c t) outside older found = index_found b t outside older code.sequences.value refl found
      index_by b _ outside older found = nothing code w sel s e0 300 (record { rest = block w (index_label b); held = e }) (omega arith)

      index_at : (b : Bool) (o : Option FoundContext) → newest_of s ≡ o → Reach w (Q' (taken (index_meets code (record { is_written = b; number = x })) o s)) 300 (record { rest = block w (index_label b); held = e })
      index_at b None is = nothing code w sel s e0 300 (record { rest = block w (index_label b); held = e }) (omega arith)
      index_at b (Some k) is = index_by b k.content k.outside k.older (stands_at code e.words s.items s.newest k is h.memory.laid)

      -- for its length
      measured : (i outside : ℕ) (older : List Item) → Stood (pick_c i) outside older → Reach w (Q' (focused (value (Int (pos (length c.values)))) (record s { newest = outside }))) 300 (record { rest = block w length_label; held = e })
      measured i outside older found =
          let r = sequence_is code e.words s.items x c stands h.memory.laid in
          let room = r.within in
          let within = found.within in
          let fits = h.memory.fits in
          let few = h.memory.few in
          let m = length c.values in
          let newest = h.newest_is ∙ ap word_address found.spot in
          let spot : x + 2 + 0 ≡ x + 2 = omega arith in
          by_block w (Q' (focused (value (Int (pos m))) (record s { newest = outside }))) length_label (Window Context 2 ∷ Get Context Context 1 ∷ Window Frame 1 ∷ Get Datum Frame 0 ∷ Jump meet ∷ []) e 300 (sel.own 17 (omega arith)) (omega arith) (
            address_on older,
            newest,
            omega arith,
            (
              address_on older,
              word_address outside,
              newest,
              omega arith,
              found.here.outside_is,
              (
                x + 2,
                f,
                omega arith,
                (
                  x + 2,
                  m,
                  f,
                  omega arith,
                  ap (λ j. slice_index e.words j) spot ∙ r.laid.count,
                  went_value code w outside s.items (Int (pos m)) (with_value Datum m (with_value Context (word_address outside) e)) e0.input e0.output (length e0.words)
                      (record { newest_is = refl; top_is = h.top_is; memory = h.memory; bytes = h.bytes }) refl (le-leb m (2 ^ 63 - 1) (omega arith))
                      (record { input_is = keeps.input_is; output_is = keeps.output_is; size_is = keeps.size_is }),
                ),
              ),
            ),
          )

      length_by : (k : PeContext) (outside : ℕ) (older : List Item) → Stood k outside older → Reach w (Q' (length_meets (length c.values) k (record s { newest = outside }))) 300 (record { rest = block w length_label; held = e })
      length_by (pick_c i) outside older found =
          cond_both (nat_eq i 0) (focused (value (Int (pos (length c.values)))) (record s { newest = outside })) sticks (λ (m : ItemMove). Reach w (Q' m) 300 (record { rest = block w length_label; held = e }))
          (λ t. measured i outside older found)
          (λ u. nothing code w sel s e0 300 (record { rest = block w length_label; held = e }) (omega arith))
      length_by _ outside older found = nothing code w sel s e0 300 (record { rest = block w length_label; held = e }) (omega arith)

      length_at : (o : Option FoundContext) → newest_of s ≡ o → Reach w (Q' (taken (length_meets (length c.values)) o s)) 300 (record { rest = block w length_label; held = e })
      length_at None is = nothing code w sel s e0 300 (record { rest = block w length_label; held = e }) (omega arith)
      length_at (Some k) is = length_by k.content k.outside k.older (stands_at code e.words s.items s.newest k is h.memory.laid)

    -- through the table
    sequence_enters : (shape x : ℕ) (c : Sequence) (a : Asked) → sequence_at x s.items ≡ Some c → asked_at code.sequences shape ≡ a → shape < code.shapes → (e : Data) → HoldsItems code s.newest s.items e
        → Keeps e0.input e0.output (length e0.words) e → e.named.second ≡ column_word sequence_column → e.named.frame ≡ count_address x
        → Wp w (Later w 300 (Q' (sequence_asked code a x (Some c) s))) (Set Third (row_address code shape) ∷ Alu reg.Add Second Second Third ∷ Look Second Second ∷ Enter Second ∷ []) e
    sequence_enters shape x c (a_cell true) stands asked lt e h keeps second f =
        let mv = taken (index_meets code (record { is_written = true; number = x })) (newest_of s) s in
        let e1 = with_value Second (entry_word index_write_entry) (with_value Third (row_address code shape) e) in
        looked code w sel (Later w 300 (Q' mv)) shape 3 index_write_entry index_write_label e lt (omega arith) (sequence_word_is code shape ∙ ap asked_word asked) (sel.fixed 14 (omega arith)) second
        (inr (index_at x c stands e1 (record { newest_is = h.newest_is; top_is = h.top_is; memory = h.memory; bytes = h.bytes }) (record { input_is = keeps.input_is; output_is = keeps.output_is; size_is = keeps.size_is }) f true (newest_of s) refl))
    sequence_enters shape x c (a_cell false) stands asked lt e h keeps second f =
        let mv = taken (index_meets code (record { is_written = false; number = x })) (newest_of s) s in
        let e1 = with_value Second (entry_word index_read_entry) (with_value Third (row_address code shape) e) in
        looked code w sel (Later w 300 (Q' mv)) shape 3 index_read_entry index_read_label e lt (omega arith) (sequence_word_is code shape ∙ ap asked_word asked) (sel.fixed 13 (omega arith)) second
        (inr (index_at x c stands e1 (record { newest_is = h.newest_is; top_is = h.top_is; memory = h.memory; bytes = h.bytes }) (record { input_is = keeps.input_is; output_is = keeps.output_is; size_is = keeps.size_is }) f false (newest_of s) refl))
    sequence_enters shape x c a_length stands asked lt e h keeps second f =
        let mv = taken (length_meets (length c.values)) (newest_of s) s in
        let e1 = with_value Second (entry_word length_entry) (with_value Third (row_address code shape) e) in
        looked code w sel (Later w 300 (Q' mv)) shape 3 length_entry length_label e lt (omega arith) (sequence_word_is code shape ∙ ap asked_word asked) (sel.fixed 12 (omega arith)) second
        (inr (length_at x c stands e1 (record { newest_is = h.newest_is; top_is = h.top_is; memory = h.memory; bytes = h.bytes }) (record { input_is = keeps.input_is; output_is = keeps.output_is; size_is = keeps.size_is }) f (newest_of s) refl))
    sequence_enters shape x c no_part stands asked lt e h keeps second f =
        looked code w sel (Later w 300 (Q' sticks)) shape 3 end_entry end_label e lt (omega arith) (sequence_word_is code shape ∙ ap asked_word asked) (sel.fixed 1 (omega arith)) second (inl tt)

    -- ---- the whole block

    module _ (k shape depth label : ℕ) (here : Option ℕ) (h : HoldsItems code s.newest s.items e0) (f : e0.named.frame ≡ frame_word here) (deep : frames_from s.items here ≡ Some depth) (within : k < depth) (lt : shape < code.shapes)
        (is : block w label ≡ reach k ++ (Window First 2 ∷ Get Second First 0 ∷ Get Frame First 1 ∷ Set Third (row_address code shape) ∷ Alu reg.Add Second Second Third ∷ Look Second Second ∷ Enter Second ∷ [])) where
      abbrev Uses : ItemMove → Type 0
      Uses mv = Reach w (Q' mv) 400 (record { rest = block w label; held = e0 })

      -- the thunk of the frame that was found is entered
      used_found : (mv : ItemMove) (g : FoundFrame) (t : Thunk) → handed_by g ≡ t
          → ((e : Data) → HoldsItems code s.newest s.items e → Keeps e0.input e0.output (length e0.words) e → e.named.second ≡ column_word (column code t) → e.named.frame ≡ payload t → IsGoodThunk code (frames_from s.items) t
          → Wp w (Later w 300 (Q' mv)) (Set Third (row_address code shape) ∷ Alu reg.Add Second Second Third ∷ Look Second Second ∷ Enter Second ∷ []) e)
          → frame_from s.items k here ≡ Some g → Uses mv
      used_found mv g t same go found =
          let rest = Window First 2 ∷ Get Second First 0 ∷ Get Frame First 1 ∷ Set Third (row_address code shape) ∷ Alu reg.Add Second Second Third ∷ Look Second Second ∷ Enter Second ∷ [] in
          let e1 = with_value First (word_address g.address) e0 in
          let e2 = with_value Frame (payload t) (with_value Second (column_word (column code t)) e1) in
          let hands = hands_on code e0.words s.items k here g found h.memory.laid in
          let inside = hands.within in
          let fits = h.memory.fits in
          let short = reach_length k in
          let long = length-append (reach k) rest in
          by_blocks w (Q' mv) label (reach k ++ rest) e0 300 400 is (omega arith)
          (reached code w (Later w 300 (Q' mv)) rest s.items k depth here g e0 h.memory f deep within found (
            g.address,
            refl,
            omega arith,
            (
              g.address,
              column_word (column code t),
              refl,
              omega arith,
              hands.column_is ∙ ap (λ u. column_word (column code u)) same,
              (
                g.address,
                payload t,
                refl,
                omega arith,
                hands.payload_is ∙ ap payload same,
                go e2 (record { newest_is = h.newest_is; top_is = h.top_is; memory = h.memory; bytes = h.bytes }) (record { input_is = refl; output_is = refl; size_is = refl }) refl refl
                    (subst (IsGoodThunk code (frames_from s.items)) same hands.good),
              ),
            ),
          ))

      -- of a sequence nothing is said where it doesn't stand
      used_sequence : (g : FoundFrame) (x : ℕ) → handed_by g ≡ sequence_of x → frame_from s.items k here ≡ Some g → (a : Asked) → asked_at code.sequences shape ≡ a → (o : Option Sequence) → sequence_at x s.items ≡ o
          → Uses (sequence_asked code a x o s)
      used_sequence g x same found (a_cell b) asked None stands = nothing code w sel s e0 400 (record { rest = block w label; held = e0 }) (omega arith)
      used_sequence g x same found a_length asked None stands = nothing code w sel s e0 400 (record { rest = block w label; held = e0 }) (omega arith)
      used_sequence g x same found no_part asked None stands = nothing code w sel s e0 400 (record { rest = block w label; held = e0 }) (omega arith)
      used_sequence g x same found a asked (Some c) stands =
          used_found (sequence_asked code a x (Some c) s) g (sequence_of x) same (λ e holds keeps second frame good. sequence_enters shape x c a stands asked lt e holds keeps second frame) found

      used_plain : (g : FoundFrame) (t : Thunk) → handed_by g ≡ t → HasEntry code w sel s e0 t shape → frame_from s.items k here ≡ Some g → Uses (entered_plain code shape t s)
      used_plain g t same he found =
          used_found (entered_plain code shape t s) g t same (λ e holds keeps second frame good. enters code w sel s e0 shape 300 lt (omega arith) t e he holds keeps second frame good) found

      used_node : (g : FoundFrame) (node : ℕ) (around : Option ℕ) → handed_by g ≡ source node around → (o : Option ℕ) → entry_of code node shape ≡ o → frame_from s.items k here ≡ Some g → Uses (at_entry o around s)
      used_node g node around same None entry found = nothing code w sel s e0 400 (record { rest = block w label; held = e0 }) (omega arith)
      used_node g node around same (Some a) entry found = subst (λ (o : Option ℕ). Uses (at_entry o around s)) entry (used_plain g (source node around) same (a, entry) found)

      used_thunk : (g : FoundFrame) (t : Thunk) → handed_by g ≡ t → frame_from s.items k here ≡ Some g → Uses (entered code shape t s)
      used_thunk g (source node around) same found = used_node g node around same (entry_of code node shape) refl found
      used_thunk g (datum v) same found = used_plain g (datum v) same tt found
      used_thunk g (cell_of x) same found = used_plain g (cell_of x) same tt found
      used_thunk g (jump_of x) same found = used_plain g (jump_of x) same tt found
      used_thunk g (sequence_of x) same found = used_sequence g x same found (asked_at code.sequences shape) refl (sequence_at x s.items) refl

      used_by : (o : Option FoundFrame) → frame_from s.items k here ≡ o → Uses (with_variable o (λ t. entered code shape t s))
      used_by None found = nothing code w sel s e0 400 (record { rest = block w label; held = e0 }) (omega arith)
      used_by (Some g) found = used_thunk g (handed_by g) refl found

      pub used : Uses (with_variable (frame_from s.items k here) (λ t. entered code shape t s))
      used = used_by (frame_from s.items k here) refl
