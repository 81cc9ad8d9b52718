-- A datum or a finished command meets the newest context.
use Rattle.std.proofs.Common.{◌≡◌, ℕ, suc, ◌+◌, ◌-◌, ◌*◌, ◌%◌, ◌^◌, ◌<◌, ◌≤◌, Bool, true, false, leb, List, [], ◌∷◌, ◌++◌, length, get_or, pos, negsuc, Some, None, refl, sym, ap, ◌∙◌, subst, inl, inr, arith}
use Rattle.std.proofs.lemmas.Bool.{cases_lt, and_parts, leb-true}
use Rattle.std.proofs.lemmas.Option.{slice_get-get_or, slice_get_within, get_or_from_slice_get}
use Rattle.std.proofs.lemmas.List.{get_or-map}
use Rattle.std.specs.Prelude.{slice_get, slice_index, slice_index_or}
use Rattle.std.specs.declared.option.Option.{Option}
use Rattle.fy_base.specs.Outside.{Bytes}
use Rattle.fy_base.specs.declared.data.Place.{Place}
use Rattle.fy_base.specs.declared.data.Datum.{Datum as DatumType}
use Rattle.fy_base.specs.declared.data.Datum.TheVariants as kind
use Rattle.fy_base.specs.declared.data.BinOp.{BinOp}
use Rattle.fy_base.specs.declared.data.BinOp.TheVariants.{And, Or}
use Rattle.fy_base.specs.declared.data.FaultKind.{FaultKind}
use Rattle.fy_base.specs.declared.data.FaultKind.TheVariants.{Range}
use Rattle.fy_base.specs.declared.data.PutKind.TheVariants as puts
use Rattle.std.specs.Fmt.{signed_decimal}
use Rattle.fy_base.specs.Arithmetic.{is_int, truth_text, written_text}
use Rattle.fy_phrase.specs.Contexts.{op_l, op_r, if_c, case_c, then_c, assign_c, store_c, while_c, body_c, new_c, drop_c, put_c}
use Rattle.pe_code.specs.declared.code.PeInsn.{PeInsn}
use Rattle.pe_code.specs.declared.code.PeInsn.TheVariants as insn
use Rattle.pe_code.specs.declared.code.PeItem.{PeItem}
use Rattle.pe_code.specs.declared.code.PeCode.{PeCode}
use Rattle.pe_code.specs.Code.{item_at}
use Rattle.pe_code.specs.Valid.{LeadsTo, IsSoundItem}
use Rattle.pe_frame.specs.Frames.{frame_words}
use Rattle.pe_machine.specs.States.{Pointer, code_at, value, completed, PeContext}
use Rattle.pe_machine.specs.Step.{parts_at}
use Rattle.pe_items.specs.Items.{to_cell, Item, frame, context, address_on, ItemState}
use Rattle.pe_items.specs.Step as item
use Rattle.pe_items.specs.Step.{ItemMove, focused, chosen, indexed, written, stored, completion_meets}
use Rattle.rv_insn.specs.declared.instructions.RegOp.TheVariants as reg
use Rattle.rv_insn.specs.Operations.{shift_value}
use Rattle.rv_insn.specs.declared.instructions.ShiftOp.TheVariants.{Slli}
use Rattle.rv_insn.specs.declared.instructions.BranchOp.TheVariants.{Beq, Bne, Bgeu}
use Rattle.rv_word.specs.declared.micros.Register.TheVariants.{Zero, Frame, Context, Top, Datum, First}
use Rattle.rv_word.specs.declared.micros.Micro.{Micro}
use Rattle.rv_word.specs.declared.micros.Micro.TheVariants.{Set, Shift, Alu, Window, Get, Save, Room, Test, Jump, Enter, Put, Fault}
use Rattle.rv_word.specs.Word.{Data, Code, Led, goes, word_address, block}
use Rattle.rv_runtime.specs.Routines.{exhausted, put_true, put_false, put_int}
use Rattle.rv_runtime.specs.Laws as runtime
use Rattle.rv_operators.specs.Operators.{word_of}
use Rattle.rv_operators.specs.Laws.{IsDatum}
use Rattle.rv_select.specs.Numbers.{meet, right_entries, block_count, pop_label, put_int_label, put_char_label, put_bool_label, pop_entry, label_of, entry_number, entry_word, column_word, cell_column}
use Rattle.rv_select.specs.Blocks.{behind, answer, answer_frame, open_frame, blocks_of, entries_of}
use Rattle.rv_select.specs.Layout.{word_in, frame_word, frames_from, ContextIsLaid, HasItems}
use Rattle.rv_select.proofs.Runs.{Reach, Later, wider, known}
use Rattle.rv_select.proofs.Wp.{Wrote, Wp, with_value, any_step, by_block, by_blocks}
use Rattle.rv_select.proofs.Values.{moves, moves_on, adds, eightfold, taken_same, untaken_same, taken_other, untaken_other, taken_above, untaken_above}
use Rattle.rv_select.proofs.Around.{frame_room, frames_more}
use Rattle.rv_select.proofs.Memory.{IsSameBelow, same_then, same_wrote, unwritten}
use Rattle.rv_select.proofs.SelectedCode.{IsSelected}
use Rattle.rv_select.proofs.ItemSteps.{Helpers, Follows}
use Rattle.rv_select.proofs.Landing.{AreBytes, Keeps, has_same, has_more, went_code, went_value, went_completed, no_room}
use Rattle.rv_select.proofs.Making.{open_length, framed}

-- the newest context stands on these items, and is met
pub record IsMet (code : PeCode) (older : List Item) (content : PeContext) (outside : ℕ) (e : Data) : Type 0 where
  pub newest_is : e.named.context ≡ word_address (address_on older)
  pub memory : HasItems code e.words older
  pub here : ContextIsLaid code e.words older content outside
  pub room : address_on older + 4 ≤ length e.words
  pub bytes : AreBytes e.input

-- the least integers are -2 ^ 63 and above
pub negative_small : (n : ℕ) → is_int (negsuc n) ≡ true → suc n ≤ 2 ^ 63
negative_small n h = let le = leb-true n (2 ^ 63 - 1) (and_parts (leb n (2 ^ 63 - 1)) true h).0 in omega arith

-- where it is left
abbrev pub left_data : List Item → ℕ → Data → Data
left_data older outside e = with_value Context (word_address outside) (with_value Top (word_address (address_on older)) e)

-- block m of an item tells a fault
abbrev pub TellsFault : PeCode → ℕ → ℕ → PeInsn → FaultKind → ℕ → Type 0
TellsFault code a d i k m = (m < block_count i) × (slice_index_or (blocks_of code a d i) m [] ≡ Fault k a ∷ [])

module _ (code : PeCode) (w : Code) (sel : IsSelected code w) (help : Helpers) (e0 : Data) where
  abbrev pub Q : ItemMove → Led → Type 0
  Q mv = Follows code w e0 mv

  abbrev pub From : ItemMove → ℕ → ℕ → Data → Type 0
  From mv n label e = Reach w (Q mv) n (record { rest = block w label; held = e })

  abbrev pub Kept : Data → Type 0
  Kept e = Keeps e0.input e0.output (length e0.words) e

  -- where nothing is said
  pub nothing : (n label : ℕ) (e : Data) → 9 ≤ n → From item.sticks n label e
  nothing n label e le = wider w (Q item.sticks) 9 n (record { rest = block w label; held = e }) le (any_step w (Q item.sticks) (record { rest = block w label; held = e }) (λ r. tt))

  -- the block of a fault
  pub fault_told : (a d m : ℕ) (i : PeInsn) (k : FaultKind) (at : Place) (e : Data) → item_at code a ≡ Some (record { insn = i; depth = d; place = at }) → TellsFault code a d i k m → Kept e → From (item.faults k at) 9 (label_of code a + m) e
  fault_told a d m i k at e stands fault keeps =
      by_block w (Q (item.faults k at)) (label_of code a + m) (Fault k a ∷ []) e 9 (sel.further a _ m stands fault.0 ∙ fault.1) (omega arith)
      (at, sel.places a _ stands, (e, refl, record { input_is = keeps.input_is; output_is = keeps.output_is }))

  module _ (s : ItemState) (older : List Item) (outside : ℕ) where
    abbrev pub cut : ItemState
    cut = record s { newest = outside; items = older }

    module _ (content : PeContext) (e : Data) (met : IsMet code older content outside e) (keeps : Kept e) where
      pub answered : (P : Led → Type 0) (rest : List Micro) → Wp w P rest (left_data older outside e) → Wp w P (answer ++ rest) e
      answered P rest go =
          let room = met.room in
          let few = met.memory.few in (
            address_on older,
            met.newest_is,
            omega arith,
            (
              word_address (address_on older),
              moves e.named.context (word_address (address_on older)) met.newest_is (omega arith),
              (
                address_on older,
                word_address outside,
                met.newest_is,
                omega arith,
                met.here.outside_is,
                go,
              ),
            ),
          )

      pub answered_frame : (P : Led → Type 0) (rest : List Micro) (around : Option ℕ) → word_in e.words (address_on older) 2 ≡ frame_word around → Wp w P rest (left_data older outside (with_value Frame (frame_word around) e)) → Wp w P (answer_frame ++ rest) e
      answered_frame P rest around is go =
          let room = met.room in
          let few = met.memory.few in (
            address_on older,
            met.newest_is,
            omega arith,
            (
              address_on older,
              frame_word around,
              met.newest_is,
              omega arith,
              is,
              (
                word_address (address_on older),
                moves e.named.context (word_address (address_on older)) met.newest_is (omega arith),
                (
                  address_on older,
                  word_address outside,
                  met.newest_is,
                  omega arith,
                  met.here.outside_is,
                  go,
                ),
              ),
            ),
          )

      -- a finished command
      pub popped : From (focused completed cut) 40 pop_label e
      popped =
          by_block w (Q (focused completed cut)) pop_label (answer ++ (Jump meet ∷ [])) e 40 (sel.own 6 (omega arith)) (omega arith)
          (answered (Q (focused completed cut)) (Jump meet ∷ [])
          (went_completed code w outside older (left_data older outside e) e0.input e0.output (length e0.words) (record { newest_is = refl; top_is = refl; memory = met.memory; bytes = met.bytes })
          (record { input_is = keeps.input_is; output_is = keeps.output_is; size_is = keeps.size_is })))

      -- code goes on in the context's frame
      pub went_on : (p : Pointer) (depth : ℕ) (d : Data) → d.named.frame ≡ frame_word p.frame → d.named.context ≡ word_address outside → d.named.top ≡ word_address (address_on older) → d.words ≡ e.words → d.input ≡ e.input → d.output ≡ e.output
          → LeadsTo code depth p.address → frames_from older p.frame ≡ Some depth → Q (focused (code_at p) cut) (goes (record { rest = block w (label_of code p.address); held = d }))
      went_on p depth d f newest top words input output leads deep =
          went_code code w outside older p depth d e0.input e0.output (length e0.words)
          (record { newest_is = newest; top_is = top; memory = subst (λ (m : List ℕ). HasItems code m older) (sym words) met.memory; bytes = subst AreBytes (sym input) met.bytes }) f leads deep
          (record { input_is = input ∙ keeps.input_is; output_is = output ∙ keeps.output_is; size_is = ap (λ (m : List ℕ). length m) words ∙ keeps.size_is })

      -- a datum
      pub went_back : (v : DatumType) (d : Data) → d.named.datum ≡ word_of v → IsDatum v → d.named.context ≡ word_address outside → d.named.top ≡ word_address (address_on older) → d.words ≡ e.words → d.input ≡ e.input → d.output ≡ e.output
          → Q (focused (value v) cut) (goes (record { rest = block w meet; held = d }))
      went_back v d datum good newest top words input output =
          went_value code w outside older v d e0.input e0.output (length e0.words)
          (record { newest_is = newest; top_is = top; memory = subst (λ (m : List ℕ). HasItems code m older) (sym words) met.memory; bytes = subst AreBytes (sym input) met.bytes }) datum good
          (record { input_is = input ∙ keeps.input_is; output_is = output ∙ keeps.output_is; size_is = ap (λ (m : List ℕ). length m) words ∙ keeps.size_is })

    -- ---- commands in a row, and loops

    pub met_then : (q : Pointer) (e : Data) → (a d x : ℕ) (at : Place) → item_at code a ≡ Some (record { insn = insn.Seq x q.address; depth = d; place = at }) → LeadsTo code d q.address → frames_from older q.frame ≡ Some d
        → word_in e.words (address_on older) 2 ≡ frame_word q.frame → IsMet code older (then_c q) outside e → Kept e → From (focused (code_at q) cut) 60 (label_of code a + 1) e
    met_then q e a d x at stands leads deep f met keeps =
        by_block w (Q (focused (code_at q) cut)) (label_of code a + 1) (answer_frame ++ (Jump (label_of code q.address) ∷ [])) e 60 (sel.further a _ 1 stands (omega arith)) (omega arith)
        (answered_frame (then_c q) e met keeps (Q (focused (code_at q) cut)) (Jump (label_of code q.address) ∷ []) q.frame f
        (went_on (then_c q) e met keeps q d (left_data older outside (with_value Frame (frame_word q.frame) e)) refl refl refl refl refl refl leads deep))

    pub met_again : (c : PeContext) (loop : Pointer) (i : PeInsn) (k : ℕ) (e : Data) (d : ℕ) (at : Place) → item_at code loop.address ≡ Some (record { insn = i; depth = d; place = at }) → k < block_count i
        → slice_index_or (blocks_of code loop.address d i) k [] ≡ answer_frame ++ (Jump (label_of code loop.address) ∷ []) → frames_from older loop.frame ≡ Some d
        → word_in e.words (address_on older) 2 ≡ frame_word loop.frame → IsMet code older c outside e → Kept e → From (focused (code_at loop) cut) 60 (label_of code loop.address + k) e
    met_again c loop i k e d at stands lt is deep f met keeps =
        by_block w (Q (focused (code_at loop) cut)) (label_of code loop.address + k) (answer_frame ++ (Jump (label_of code loop.address) ∷ [])) e 60 (sel.further loop.address _ k stands lt ∙ is) (omega arith)
        (answered_frame c e met keeps (Q (focused (code_at loop) cut)) (Jump (label_of code loop.address) ∷ []) loop.frame f
        (went_on c e met keeps loop d (left_data older outside (with_value Frame (frame_word loop.frame) e)) refl refl refl refl refl refl (record { item = record { insn = i; depth = d; place = at }; stands = stands; depth_is = refl }) deep))

    -- ---- choices

    -- a truth value's word
    truth_word : (e : Data) (b : Bool) → e.named.datum ≡ word_of (kind.Bool b) → (b ≡ true → e.named.datum ≡ 1) × (b ≡ false → e.named.datum ≡ 0)
    truth_word e true is = (λ t. is, λ f. absurd (cc))
    truth_word e false is = (λ t. absurd (cc), λ f. is)

    pub met_if : (p q : Pointer) (v : DatumType) (e : Data) (a d x : ℕ) (at : Place) → item_at code a ≡ Some (record { insn = insn.Cond x p.address q.address; depth = d; place = at }) → LeadsTo code d p.address → LeadsTo code d q.address
        → frames_from older p.frame ≡ Some d → q.frame ≡ p.frame → word_in e.words (address_on older) 2 ≡ frame_word p.frame → e.named.datum ≡ word_of v → IsMet code older (if_c p q) outside e → Kept e
        → From (chosen v (focused (code_at p) cut) (focused (code_at q) cut)) 80 (label_of code a + 1) e
    met_if p q (kind.Bool true) e a d x at stands lp lq deep same f is met keeps =
        by_block w (Q (focused (code_at p) cut)) (label_of code a + 1) (answer_frame ++ (Test Beq Datum Zero (label_of code q.address) ∷ Jump (label_of code p.address) ∷ [])) e 80 (sel.further a _ 1 stands (omega arith)) (omega arith)
        (answered_frame (if_c p q) e met keeps (Q (focused (code_at p) cut)) (Test Beq Datum Zero (label_of code q.address) ∷ Jump (label_of code p.address) ∷ []) p.frame f (
          λ t. absurd (let z = taken_same e.named.datum 0 t in omega arith),
          λ u. went_on (if_c p q) e met keeps p d (left_data older outside (with_value Frame (frame_word p.frame) e)) refl refl refl refl refl refl lp deep,
        ))
    met_if p q (kind.Bool false) e a d x at stands lp lq deep same f is met keeps =
        by_block w (Q (focused (code_at q) cut)) (label_of code a + 1) (answer_frame ++ (Test Beq Datum Zero (label_of code q.address) ∷ Jump (label_of code p.address) ∷ [])) e 80 (sel.further a _ 1 stands (omega arith)) (omega arith)
        (answered_frame (if_c p q) e met keeps (Q (focused (code_at q) cut)) (Test Beq Datum Zero (label_of code q.address) ∷ Jump (label_of code p.address) ∷ []) p.frame f (
          λ t. went_on (if_c p q) e met keeps q d (left_data older outside (with_value Frame (frame_word p.frame) e)) (ap frame_word (sym same)) refl refl refl refl refl lq (ap (frames_from older) same ∙ deep),
          λ u. absurd (untaken_same e.named.datum 0 u is),
        ))
    met_if p q (kind.Int z) e a d x at stands lp lq deep same f is met keeps = nothing 80 (label_of code a + 1) e (omega arith)
    met_if p q (kind.Char c) e a d x at stands lp lq deep same f is met keeps = nothing 80 (label_of code a + 1) e (omega arith)

    -- of and and or the left operand may decide
    pub met_and : (q : Pointer) (v : DatumType) (e : Data) (a d x : ℕ) (at : Place) → item_at code a ≡ Some (record { insn = insn.Op2 And x q.address; depth = d; place = at }) → LeadsTo code d q.address → frames_from older q.frame ≡ Some d
        → word_in e.words (address_on older) 2 ≡ frame_word q.frame → e.named.datum ≡ word_of v → IsMet code older (op_l And q at) outside e → Kept e → From (item.left_meets And v q at cut) 80 (label_of code a + 1) e
    met_and q (kind.Bool true) e a d x at stands leads deep f is met keeps =
        by_block w (Q (focused (code_at q) cut)) (label_of code a + 1) (answer_frame ++ (Test Beq Datum Zero meet ∷ Jump (label_of code q.address) ∷ [])) e 80 (sel.further a _ 1 stands (omega arith)) (omega arith)
        (answered_frame (op_l And q at) e met keeps (Q (focused (code_at q) cut)) (Test Beq Datum Zero meet ∷ Jump (label_of code q.address) ∷ []) q.frame f (
          λ t. absurd (let z = taken_same e.named.datum 0 t in omega arith),
          λ u. went_on (op_l And q at) e met keeps q d (left_data older outside (with_value Frame (frame_word q.frame) e)) refl refl refl refl refl refl leads deep,
        ))
    met_and q (kind.Bool false) e a d x at stands leads deep f is met keeps =
        by_block w (Q (focused (value (kind.Bool false)) cut)) (label_of code a + 1) (answer_frame ++ (Test Beq Datum Zero meet ∷ Jump (label_of code q.address) ∷ [])) e 80 (sel.further a _ 1 stands (omega arith)) (omega arith)
        (answered_frame (op_l And q at) e met keeps (Q (focused (value (kind.Bool false)) cut)) (Test Beq Datum Zero meet ∷ Jump (label_of code q.address) ∷ []) q.frame f (
          λ t. went_back (op_l And q at) e met keeps (kind.Bool false) (left_data older outside (with_value Frame (frame_word q.frame) e)) is tt refl refl refl refl refl,
          λ u. absurd (untaken_same e.named.datum 0 u is),
        ))
    met_and q (kind.Int z) e a d x at stands leads deep f is met keeps = nothing 80 (label_of code a + 1) e (omega arith)
    met_and q (kind.Char c) e a d x at stands leads deep f is met keeps = nothing 80 (label_of code a + 1) e (omega arith)

    pub met_or : (q : Pointer) (v : DatumType) (e : Data) (a d x : ℕ) (at : Place) → item_at code a ≡ Some (record { insn = insn.Op2 Or x q.address; depth = d; place = at }) → LeadsTo code d q.address → frames_from older q.frame ≡ Some d
        → word_in e.words (address_on older) 2 ≡ frame_word q.frame → e.named.datum ≡ word_of v → IsMet code older (op_l Or q at) outside e → Kept e → From (item.left_meets Or v q at cut) 80 (label_of code a + 1) e
    met_or q (kind.Bool true) e a d x at stands leads deep f is met keeps =
        by_block w (Q (focused (value (kind.Bool true)) cut)) (label_of code a + 1) (answer_frame ++ (Test Bne Datum Zero meet ∷ Jump (label_of code q.address) ∷ [])) e 80 (sel.further a _ 1 stands (omega arith)) (omega arith)
        (answered_frame (op_l Or q at) e met keeps (Q (focused (value (kind.Bool true)) cut)) (Test Bne Datum Zero meet ∷ Jump (label_of code q.address) ∷ []) q.frame f (
          λ t. went_back (op_l Or q at) e met keeps (kind.Bool true) (left_data older outside (with_value Frame (frame_word q.frame) e)) is tt refl refl refl refl refl,
          λ u. absurd (let z = untaken_other e.named.datum 0 u in omega arith),
        ))
    met_or q (kind.Bool false) e a d x at stands leads deep f is met keeps =
        by_block w (Q (focused (code_at q) cut)) (label_of code a + 1) (answer_frame ++ (Test Bne Datum Zero meet ∷ Jump (label_of code q.address) ∷ [])) e 80 (sel.further a _ 1 stands (omega arith)) (omega arith)
        (answered_frame (op_l Or q at) e met keeps (Q (focused (code_at q) cut)) (Test Bne Datum Zero meet ∷ Jump (label_of code q.address) ∷ []) q.frame f (
          λ t. absurd (taken_other e.named.datum 0 t is),
          λ u. went_on (op_l Or q at) e met keeps q d (left_data older outside (with_value Frame (frame_word q.frame) e)) refl refl refl refl refl refl leads deep,
        ))
    met_or q (kind.Int z) e a d x at stands leads deep f is met keeps = nothing 80 (label_of code a + 1) e (omega arith)
    met_or q (kind.Char c) e a d x at stands leads deep f is met keeps = nothing 80 (label_of code a + 1) e (omega arith)

    -- ---- an index

    module _ (parts : Pointer) (e : Data) (d x : ℕ) (ys : List ℕ) (at : Place) (stands : item_at code parts.address ≡ Some (record { insn = insn.Case x ys; depth = d; place = at })) (sound : IsSoundItem code (record { insn = insn.Case x ys; depth = d; place = at }))
        (deep : frames_from older parts.frame ≡ Some d) (f : word_in e.words (address_on older) 2 ≡ frame_word parts.frame) (met : IsMet code older (case_c parts at) outside e) (keeps : Kept e) where
      -- the code behind the context's answer, with the frame in use again
      abbrev Index : ItemMove → Type 0
      Index mv =
          Wp w (Later w 9 (Q mv))
          (Set First (length ys) ∷ Test Bgeu Datum First (label_of code parts.address + 2) ∷ Shift Slli Datum Datum 3 ∷ Set First (entry_word (entry_number code parts.address + 2)) ∷ Alu reg.Add First First Datum ∷ Enter First ∷ [])
          (left_data older outside (with_value Frame (frame_word parts.frame) e))

      -- the number of parts is one of entries
      count_small : 8 * (2 + length ys) ≤ 2 ^ 64 + 8
      count_small =
          let last = sel.entries parts.address _ (1 + length ys) stands (omega arith) in
          let inside = last.inside in
          let few = sel.operators.entries in
          omega arith

      outside_parts : (mv : ItemMove) → mv ≡ item.faults Range at → length ys ≤ e.named.datum → Index mv
      outside_parts mv is le = (
        λ t. inr (subst (λ (m : ItemMove). From m 9 (label_of code parts.address + 2) (with_value First (length ys) (left_data older outside (with_value Frame (frame_word parts.frame) e)))) (sym is)
            (fault_told parts.address d 2 (insn.Case x ys) Range at (with_value First (length ys) (left_data older outside (with_value Frame (frame_word parts.frame) e))) stands (omega arith, refl)
            (record { input_is = keeps.input_is; output_is = keeps.output_is; size_is = keeps.size_is }))),
        λ u. absurd (let z = untaken_above e.named.datum (length ys) u in omega arith),
      )

      one_part : (n y : ℕ) → slice_get ys n ≡ Some y → n < length ys → e.named.datum ≡ n → get_or ys n 0 ≡ y → Index (focused (code_at (record { address = y; frame = parts.frame })) cut)
      one_part n y found lt is at_n =
          let entry = sel.entries parts.address _ (2 + n) stands (omega arith) in
          let inside = entry.inside in
          let few = sel.operators.entries in
          let two : 2 + n ≡ suc (suc n) = omega arith in
          let leads = subst (LeadsTo code d) at_n (sound.beside_it (suc n) 0 (omega arith)) in
          let e1 = with_value First (8 * (entry_number code parts.address + (2 + n))) (with_value Datum (8 * n) (left_data older outside (with_value Frame (frame_word parts.frame) e))) in (
            λ t. absurd (let z = taken_above e.named.datum (length ys) t in omega arith),
            λ u. (
              8 * n,
              ap (λ v. shift_value Slli v 3) is ∙ eightfold n (omega arith),
              (
                8 * (entry_number code parts.address + (2 + n)),
                adds (entry_word (entry_number code parts.address + 2)) (8 * n) (8 * (entry_number code parts.address + (2 + n))) (omega arith) (omega arith),
                (
                  entry_number code parts.address + (2 + n),
                  label_of code y,
                  refl,
                  entry.inside,
                  entry.leads ∙ ap (λ k. slice_index (entries_of code parts.address d (insn.Case x ys)) k) two ∙ get_or-map (label_of code) ys n 0 0 lt ∙ ap (label_of code) at_n,
                  inl (went_on (case_c parts at) e met keeps (record { address = y; frame = parts.frame }) d e1 refl refl refl refl refl refl leads deep),
                ),
              ),
            ),
          )

      whole_index : (mv : ItemMove) → Index mv → From mv 150 (label_of code parts.address + 1) e
      whole_index mv h =
          by_blocks w (Q mv) (label_of code parts.address + 1) _ e 9 150 (sel.further parts.address _ 1 stands (omega arith)) (omega arith)
          (answered_frame (case_c parts at) e met keeps (Later w 9 (Q mv))
          (Set First (length ys) ∷ Test Bgeu Datum First (label_of code parts.address + 2) ∷ Shift Slli Datum Datum 3 ∷ Set First (entry_word (entry_number code parts.address + 2)) ∷ Alu reg.Add First First Datum ∷ Enter First ∷ []) parts.frame f h)

      indexed_by : (n : ℕ) (o : Option ℕ) → slice_get ys n ≡ o → e.named.datum ≡ n → From (item.focused_if_some o parts.frame at cut) 150 (label_of code parts.address + 1) e
      indexed_by n None found is = whole_index (item.faults Range at) (outside_parts (item.faults Range at) refl (none n found is))
        where
          none : (n : ℕ) → slice_get ys n ≡ None → e.named.datum ≡ n → length ys ≤ e.named.datum
          none n found is = elim (cases_lt n (length ys)) [
            | inl lt ↦ absurd (let z : None ≡ Some (get_or ys n 0) = sym found ∙ slice_get-get_or ys n 0 lt in cc)
            | inr le ↦ omega arith
          ]
      indexed_by n (Some y) found is =
          whole_index (focused (code_at (record { address = y; frame = parts.frame })) cut) (one_part n y found (slice_get_within ys n y found) is (get_or_from_slice_get ys n y 0 found))

      met_index : (v : DatumType) → e.named.datum ≡ word_of v → IsDatum v → From (indexed v ys parts.frame at cut) 150 (label_of code parts.address + 1) e
      met_index (kind.Int (pos n)) is good = indexed_by n (slice_get ys n) refl is
      met_index (kind.Int (negsuc n)) is good =
          whole_index (item.faults Range at) (outside_parts (item.faults Range at) refl (let small = negative_small n good in let few = count_small in omega arith))
      met_index (kind.Bool b) is good = nothing 150 (label_of code parts.address + 1) e (omega arith)
      met_index (kind.Char c) is good = nothing 150 (label_of code parts.address + 1) e (omega arith)

      pub met_case : (v : DatumType) → e.named.datum ≡ word_of v → IsDatum v → From (indexed v (parts_at (item_at code parts.address)) parts.frame at cut) 150 (label_of code parts.address + 1) e
      met_case v is good = subst (λ (o : Option PeItem). From (indexed v (parts_at o) parts.frame at cut) 150 (label_of code parts.address + 1) e) (sym stands) (met_index v is good)

    -- ---- a context becomes another

    -- the registers and words behind the words that were saved: the top is moved, and code goes on in the context's frame
    renewed : (c : PeContext) (p : Pointer) (depth n : ℕ) (m : List ℕ) (e : Data) → HasItems code m older → address_on older + 4 ≤ length m → IsSameBelow (address_on older) m e.words → ContextIsLaid code e.words older c outside
        → e.named.context ≡ word_address (address_on older) → e.named.frame ≡ frame_word p.frame → AreBytes e.input → Kept e → LeadsTo code depth p.address → frames_from older p.frame ≡ Some depth
        → Wp w (Later w n (Q (item.pushed c p cut))) (behind Top Context 4 ∷ Jump (label_of code p.address) ∷ []) e
    renewed c p depth n m e h room same laid newest f bytes keeps leads deep =
        let few = h.few in (
          word_address (address_on (context c outside ∷ older)),
          moves_on e.named.context (address_on older) (address_on (context c outside ∷ older)) 32 newest (omega arith) (omega arith),
          inl (went_code code w (address_on older) (context c outside ∷ older) p depth (with_value Top (word_address (address_on (context c outside ∷ older))) e) e0.input e0.output (length e0.words)
              (record { newest_is = newest; top_is = refl; memory = has_more code older c outside m e.words h same laid room; bytes = bytes }) f leads (frames_more (context c outside) older p.frame depth deep)
              (record { input_is = keeps.input_is; output_is = keeps.output_is; size_is = keeps.size_is })),
        )

    -- the right operand is next, and the left one's datum is kept
    pub met_left : (op : BinOp) (q : Pointer) (v : DatumType) (e : Data) (a d x : ℕ) (at : Place) → 1 ≤ right_entries op → item_at code a ≡ Some (record { insn = insn.Op2 op x q.address; depth = d; place = at }) → LeadsTo code d q.address
        → frames_from older q.frame ≡ Some d → word_in e.words (address_on older) 2 ≡ frame_word q.frame → e.named.datum ≡ word_of v → IsDatum v → IsMet code older (op_l op q at) outside e → Kept e
        → slice_index_or (blocks_of code a d (insn.Op2 op x q.address)) 1 []
        ≡ Window Context 3 ∷ Get Frame Context 2 ∷ Save Context 2 Datum ∷ Set First (entry_word (entry_number code a + 2)) ∷ Save Context 0 First ∷ behind Top Context 4 ∷ Jump (label_of code q.address) ∷ []
        → From (item.pushed (op_r op v at) q cut) 100 (label_of code a + 1) e
    met_left op q v e a d x at right stands leads deep f is good met keeps block_is =
        let y = address_on older in
        let room = met.room in
        let k = entry_word (entry_number code a + 2) in
        by_blocks w (Q (item.pushed (op_r op v at) q cut)) (label_of code a + 1)
        (Window Context 3 ∷ Get Frame Context 2 ∷ Save Context 2 Datum ∷ Set First (entry_word (entry_number code a + 2)) ∷ Save Context 0 First ∷ behind Top Context 4 ∷ Jump (label_of code q.address) ∷ []) e 9 100
        (sel.further a _ 1 stands (omega arith) ∙ block_is) (omega arith) (
          y,
          met.newest_is,
          omega arith,
          (
            y,
            frame_word q.frame,
            met.newest_is,
            omega arith,
            f,
            (
              y,
              met.newest_is,
              omega arith,
              λ n1 w1. (
                y,
                met.newest_is,
                (let z = w1.size in omega arith),
                λ n2 w2.
                    let same1 = same_wrote y e.words n1 (y + 2) e.named.datum w1 (omega arith) in
                    let same2 = same_wrote y n1 n2 (y + 0) k w2 (omega arith) in
                    let out = unwritten n1 n2 y 0 1 k (word_address outside) w2 (λ q. omega (arith, q)) (unwritten e.words n1 y 2 1 e.named.datum (word_address outside) w1 (λ q. omega (arith, q)) met.here.outside_is) in
                    let kept = unwritten n1 n2 y 0 2 k (word_of v) w2 (λ q. omega (arith, q)) (w1.here ∙ is) in
                    renewed (op_r op v at) q d 9 e.words (record (with_value First k (with_value Frame (frame_word q.frame) e)) { words = n2 }) met.memory met.room (same_then y e.words n1 n2 same1 same2)
                    (record { outside_is = out; parts = (a, d, x, q.address, record { stands = stands; entry = w2.here }, right, kept, good) })
                    met.newest_is refl met.bytes (record { input_is = keeps.input_is; output_is = keeps.output_is; size_is = w2.size ∙ w1.size ∙ keeps.size_is }) leads deep,
              ),
            ),
          ),
        )

    -- the acceptor is next, and the datum is kept for it
    pub met_assign : (p : Pointer) (v : DatumType) (e : Data) (a d y : ℕ) (at : Place) → item_at code a ≡ Some (record { insn = insn.Assign p.address y; depth = d; place = at }) → LeadsTo code d p.address → frames_from older p.frame ≡ Some d
        → word_in e.words (address_on older) 2 ≡ frame_word p.frame → e.named.datum ≡ word_of v → IsDatum v → IsMet code older (assign_c p) outside e → Kept e → From (item.pushed (store_c v) p cut) 80 (label_of code a + 1) e
    met_assign p v e a d y at stands leads deep f is good met keeps =
        let x = address_on older in
        let room = met.room in
        by_blocks w (Q (item.pushed (store_c v) p cut)) (label_of code a + 1) (Window Context 3 ∷ Get Frame Context 2 ∷ Save Context 2 Datum ∷ behind Top Context 4 ∷ Jump (label_of code p.address) ∷ []) e 9 80
        (sel.further a _ 1 stands (omega arith)) (omega arith) (
          x,
          met.newest_is,
          omega arith,
          (
            x,
            frame_word p.frame,
            met.newest_is,
            omega arith,
            f,
            (
              x,
              met.newest_is,
              omega arith,
              λ n1 w1.
                  renewed (store_c v) p d 9 e.words (record (with_value Frame (frame_word p.frame) e) { words = n1 }) met.memory met.room (same_wrote x e.words n1 (x + 2) e.named.datum w1 (omega arith))
                  (record { outside_is = unwritten e.words n1 x 2 1 e.named.datum (word_address outside) w1 (λ q. omega (arith, q)) met.here.outside_is; parts = (w1.here ∙ is, good) })
                  met.newest_is refl met.bytes (record { input_is = keeps.input_is; output_is = keeps.output_is; size_is = w1.size ∙ keeps.size_is }) leads deep,
            ),
          ),
        )

    -- the loop's body is next, or the loop is finished
    met_body : (loop c : Pointer) (e : Data) (d x : ℕ) (at : Place) → item_at code loop.address ≡ Some (record { insn = insn.While x c.address; depth = d; place = at }) → LeadsTo code d c.address → frames_from older loop.frame ≡ Some d → c.frame ≡ loop.frame
        → word_in e.words (address_on older) 2 ≡ frame_word loop.frame → IsMet code older (while_c loop c) outside e → Kept e
        → Wp w (Later w 40 (Q (item.pushed (body_c loop) c cut)))
        (Window Context 3 ∷ Get Frame Context 2 ∷ Set First (entry_word (entry_number code loop.address + 2)) ∷ Save Context 0 First ∷ behind Top Context 4 ∷ Jump (label_of code c.address) ∷ []) e
    met_body loop c e d x at stands leads deep same f met keeps =
        let y = address_on older in
        let room = met.room in
        let k = entry_word (entry_number code loop.address + 2) in (
          y,
          met.newest_is,
          omega arith,
          (
            y,
            frame_word loop.frame,
            met.newest_is,
            omega arith,
            f,
            (
              y,
              met.newest_is,
              omega arith,
              λ n1 w1.
                  renewed (body_c loop) c d 40 e.words (record (with_value First k (with_value Frame (frame_word loop.frame) e)) { words = n1 }) met.memory met.room (same_wrote y e.words n1 (y + 0) k w1 (omega arith))
                  (record {
                    outside_is = unwritten e.words n1 y 0 1 k (word_address outside) w1 (λ q. omega (arith, q)) met.here.outside_is;
                    parts = inl (d, x, c.address, at, record { entry = record { stands = stands; entry = w1.here }; deep = deep; frame = unwritten e.words n1 y 0 2 k (frame_word loop.frame) w1 (λ q. omega (arith, q)) f });
                  })
                  met.newest_is (ap frame_word (sym same)) met.bytes (record { input_is = keeps.input_is; output_is = keeps.output_is; size_is = w1.size ∙ keeps.size_is }) leads (ap (frames_from older) same ∙ deep),
            ),
          ),
        )

    pub met_while : (loop c : Pointer) (v : DatumType) (e : Data) (d x : ℕ) (at : Place) → item_at code loop.address ≡ Some (record { insn = insn.While x c.address; depth = d; place = at }) → LeadsTo code d c.address → frames_from older loop.frame ≡ Some d
        → c.frame ≡ loop.frame → word_in e.words (address_on older) 2 ≡ frame_word loop.frame → e.named.datum ≡ word_of v → IsMet code older (while_c loop c) outside e → Kept e
        → From (chosen v (item.pushed (body_c loop) c cut) (focused completed cut)) 120 (label_of code loop.address + 1) e
    met_while loop c (kind.Bool true) e d x at stands leads deep same f is met keeps =
        by_blocks w (Q (item.pushed (body_c loop) c cut)) (label_of code loop.address + 1) _ e 40 120 (sel.further loop.address _ 1 stands (omega arith)) (omega arith)
        (λ t. absurd (let z = taken_same e.named.datum 0 t in omega arith), λ u. met_body loop c e d x at stands leads deep same f met keeps)
    met_while loop c (kind.Bool false) e d x at stands leads deep same f is met keeps =
        by_blocks w (Q (focused completed cut)) (label_of code loop.address + 1) _ e 40 120 (sel.further loop.address _ 1 stands (omega arith)) (omega arith)
        (λ t. inr (popped (while_c loop c) e met keeps), λ u. absurd (untaken_same e.named.datum 0 u is))
    met_while loop c (kind.Int z) e d x at stands leads deep same f is met keeps = nothing 120 (label_of code loop.address + 1) e (omega arith)
    met_while loop c (kind.Char z) e d x at stands leads deep same f is met keeps = nothing 120 (label_of code loop.address + 1) e (omega arith)

    -- ---- a new cell

    module _ (body : Pointer) (v : DatumType) (e : Data) (a d x : ℕ) (at : Place) (stands : item_at code a ≡ Some (record { insn = insn.New x body.address; depth = d; place = at })) (leads : LeadsTo code (d + 1) body.address)
        (deep : frames_from older body.frame ≡ Some d) (f : word_in e.words (address_on older) 2 ≡ frame_word body.frame) (is : e.named.datum ≡ word_of v) (good : IsDatum v) (most : d ≤ 512) (met : IsMet code older (new_c d body) outside e) (keeps : Kept e) where
      -- the items below the new frame
      abbrev below : List Item
      below = context (drop_c 0) outside ∷ older

      abbrev Stores : ItemMove
      Stores = stored v d body cut

      celled : (n1 n2 n3 n4 : List ℕ) → Wrote e.words n1 (address_on older + 0) (entry_word pop_entry) → Wrote n1 n2 (address_on below + 0) (column_word cell_column) → Wrote n2 n3 (address_on below + 1) (word_address (address_on below))
          → Wrote n3 n4 (address_on below + 2) e.named.datum → address_on below + frame_words d ≤ length e.words
          → Wp w (Later w (109 + 16 * d) (Q Stores)) (open_frame d (label_of code body.address) (entry_number code body.address))
          (record (with_value First (column_word cell_column) (with_value Top (word_address (address_on below)) (with_value Frame (frame_word body.frame) e))) { words = n4 })
      celled n1 n2 n3 n4 w1 w2 w3 w4 room =
          let y = address_on older in
          let z = address_on below in
          let enough = frame_room d in
          let same1 = same_wrote y e.words n1 (y + 0) (entry_word pop_entry) w1 (omega arith) in
          let out = unwritten e.words n1 y 0 1 (entry_word pop_entry) (word_address outside) w1 (λ q. omega (arith, q)) met.here.outside_is in
          let memory1 = has_more code older (drop_c 0) outside e.words n1 met.memory same1 (record { outside_is = out; parts = inl w1.here }) met.room in
          let same2 = same_wrote z n1 n2 (z + 0) (column_word cell_column) w2 (omega arith) in
          let same3 = same_wrote z n2 n3 (z + 1) (word_address z) w3 (omega arith) in
          let same4 = same_wrote z n3 n4 (z + 2) e.named.datum w4 (omega arith) in
          let same = same_then z n1 n3 n4 (same_then z n1 n2 n3 same2 same3) same4 in
          let size = w4.size ∙ w3.size ∙ w2.size ∙ w1.size in
          framed code w sel help y below (to_cell v) body.address (109 + 16 * d) e0.input e0.output (length e0.words) d body.frame
          (record (with_value First (column_word cell_column) (with_value Top (word_address z) (with_value Frame (frame_word body.frame) e))) { words = n4 })
          (record { newest_is = met.newest_is; top_is = refl; memory = has_same code below n1 n4 same memory1; bytes = met.bytes }) refl
          (record {
            column_is = unwritten n3 n4 z 2 0 e.named.datum (column_word cell_column) w4 (λ q. omega (arith, q)) (unwritten n2 n3 z 1 0 (word_address z) (column_word cell_column) w3 (λ q. omega (arith, q)) w2.here);
            payload_is = unwritten n3 n4 z 2 1 e.named.datum (word_address z) w4 (λ q. omega (arith, q)) w3.here;
            third = w4.here ∙ is;
            below = tt;
            good = good;
          })
          (frames_more (context (drop_c 0) outside) older body.frame d deep) most leads (omega arith) (record { input_is = keeps.input_is; output_is = keeps.output_is; size_is = size ∙ keeps.size_is }) (omega arith)

      pub met_new : From Stores (300 + 16 * d) (label_of code a + 1) e
      met_new =
          let y = address_on older in
          let z = address_on below in
          let enough = frame_room d in
          let few = met.memory.few in
          let fits = met.room in
          let size = keeps.size_is in
          let short = open_length d (label_of code body.address) (entry_number code body.address) in
          by_blocks w (Q Stores) (label_of code a + 1)
          (behind Top Context 4 ∷ Room (frame_words d) exhausted ∷ Window Context 7 ∷ Get Frame Context 2 ∷ Set First (entry_word pop_entry) ∷ Save Context 0 First ∷ behind Top Context 4
          ∷ Set First (column_word cell_column) ∷ Save Top 0 First ∷ Save Top 1 Top ∷ Save Top 2 Datum ∷ open_frame d (label_of code body.address) (entry_number code body.address))
          e (109 + 16 * d) (300 + 16 * d) (sel.further a _ 1 stands (omega arith)) (omega arith) (
            word_address z,
            moves_on e.named.context y z 32 met.newest_is (omega arith) (omega arith),
            (
              z,
              refl,
              λ lt. no_room code w sel help (record { focus = code_at (record { address = body.address; frame = Some (address_on below) }); newest = address_on older; items = frame d (to_cell v) body.frame ∷ below }) e0.input e0.output (length e0.words) (109 + 16 * d)
                  (with_value Top (word_address (address_on below)) e) (omega arith) keeps.output_is (omega arith),
              λ le. (
                y,
                met.newest_is,
                omega arith,
                (
                  y,
                  frame_word body.frame,
                  met.newest_is,
                  omega arith,
                  f,
                  (
                    y,
                    met.newest_is,
                    omega arith,
                    λ n1 w1. (
                      word_address z,
                      moves_on e.named.context y z 32 met.newest_is (omega arith) (omega arith),
                      (
                        z,
                        refl,
                        (let u = w1.size in omega arith),
                        λ n2 w2. (
                          z,
                          refl,
                          (let u = w1.size in let v = w2.size in omega arith),
                          λ n3 w3. (
                            z,
                            refl,
                            (let u = w1.size in let v = w2.size in let t = w3.size in omega arith),
                            λ n4 w4. celled n1 n2 n3 n4 w1 w2 w3 w4 le,
                          ),
                        ),
                      ),
                    ),
                  ),
                ),
              ),
            ),
          )

    -- ---- output

    -- a routine puts the text
    routine_puts : (c : PeContext) (label most : ℕ) (text : Bytes) (e : Data) → IsMet code older c outside e → Kept e → runtime.Puts w label most text (left_data older outside e)
        → From (item.puts text (item.focus_on completed cut)) most label (left_data older outside e)
    routine_puts c label most text e met keeps puts =
        known w (Q (item.puts text (item.focus_on completed cut))) (record { rest = block w label; held = left_data older outside e }) (goes (record { rest = block w meet; held = puts.after })) puts.leads.steps most puts.leads.some puts.leads.leads puts.leads.cost
        (went_completed code w outside older puts.after e0.input (e0.output ++ text) (length e0.words)
        (record {
          newest_is = puts.keeps.context;
          top_is = puts.keeps.top;
          memory = subst (λ (m : List ℕ). HasItems code m older) (sym puts.keeps.words) met.memory;
          bytes = subst AreBytes (sym puts.keeps.input) met.bytes;
        })
        (record { input_is = puts.keeps.input ∙ keeps.input_is; output_is = puts.output ∙ ap (λ o. o ++ text) keeps.output_is; size_is = ap (λ (m : List ℕ). length m) puts.keeps.words ∙ keeps.size_is }))

    pub met_put_int : (v : DatumType) (e : Data) → e.named.datum ≡ word_of v → IsDatum v → IsMet code older (put_c puts.Int) outside e → Kept e → From (written (written_text puts.Int v) cut) 700 put_int_label e
    met_put_int (kind.Int z) e is good met keeps =
        by_blocks w (Q (item.puts (signed_decimal z) (item.focus_on completed cut))) put_int_label (answer ++ (Jump put_int ∷ [])) e 600 700 (sel.own 7 (omega arith)) (omega arith)
        (answered (put_c puts.Int) e met keeps (Later w 600 (Q (item.puts (signed_decimal z) (item.focus_on completed cut)))) (Jump put_int ∷ [])
        (inr (routine_puts (put_c puts.Int) put_int 600 (signed_decimal z) e met keeps (help.puts_ints w z (signed_decimal z) (left_data older outside e) sel.routines good is refl))))
    met_put_int (kind.Bool b) e is good met keeps = nothing 700 put_int_label e (omega arith)
    met_put_int (kind.Char c) e is good met keeps = nothing 700 put_int_label e (omega arith)

    pub met_put_char : (v : DatumType) (e : Data) → e.named.datum ≡ word_of v → IsDatum v → IsMet code older (put_c puts.Char) outside e → Kept e → From (written (written_text puts.Char v) cut) 60 put_char_label e
    met_put_char (kind.Char c) e is good met keeps =
        let byte : e.named.datum % 256 ≡ c = omega arith in
        by_block w (Q (item.puts (c ∷ []) (item.focus_on completed cut))) put_char_label (answer ++ (Put Datum ∷ Jump meet ∷ [])) e 60 (sel.own 8 (omega arith)) (omega arith)
        (answered (put_c puts.Char) e met keeps (Q (item.puts (c ∷ []) (item.focus_on completed cut))) (Put Datum ∷ Jump meet ∷ [])
        (went_completed code w outside older (record (left_data older outside e) { output = e.output ++ (e.named.datum % 256) ∷ [] }) e0.input (e0.output ++ c ∷ []) (length e0.words)
        (record { newest_is = refl; top_is = refl; memory = met.memory; bytes = met.bytes })
        (record { input_is = keeps.input_is; output_is = ap (λ b. e.output ++ b ∷ []) byte ∙ ap (λ o. o ++ c ∷ []) keeps.output_is; size_is = keeps.size_is })))
    met_put_char (kind.Int z) e is good met keeps = nothing 60 put_char_label e (omega arith)
    met_put_char (kind.Bool b) e is good met keeps = nothing 60 put_char_label e (omega arith)

    pub met_put_truth : (v : DatumType) (e : Data) → e.named.datum ≡ word_of v → IsMet code older (put_c puts.Bool) outside e → Kept e → From (written (written_text puts.Bool v) cut) 200 put_bool_label e
    met_put_truth (kind.Bool true) e is met keeps =
        by_blocks w (Q (item.puts (truth_text true) (item.focus_on completed cut))) put_bool_label (answer ++ (Test Bne Datum Zero put_true ∷ Jump put_false ∷ [])) e 100 200 (sel.own 9 (omega arith)) (omega arith)
        (answered (put_c puts.Bool) e met keeps (Later w 100 (Q (item.puts (truth_text true) (item.focus_on completed cut)))) (Test Bne Datum Zero put_true ∷ Jump put_false ∷ []) (
          λ t. inr (routine_puts (put_c puts.Bool) put_true 100 (truth_text true) e met keeps (help.puts_truths w true (truth_text true) (left_data older outside e) sel.routines refl)),
          λ u. absurd (let z = untaken_other e.named.datum 0 u in omega arith),
        ))
    met_put_truth (kind.Bool false) e is met keeps =
        by_blocks w (Q (item.puts (truth_text false) (item.focus_on completed cut))) put_bool_label (answer ++ (Test Bne Datum Zero put_true ∷ Jump put_false ∷ [])) e 100 200 (sel.own 9 (omega arith)) (omega arith)
        (answered (put_c puts.Bool) e met keeps (Later w 100 (Q (item.puts (truth_text false) (item.focus_on completed cut)))) (Test Bne Datum Zero put_true ∷ Jump put_false ∷ []) (
          λ t. absurd (taken_other e.named.datum 0 t is),
          λ u. inr (routine_puts (put_c puts.Bool) put_false 100 (truth_text false) e met keeps (help.puts_truths w false (truth_text false) (left_data older outside e) sel.routines refl)),
        ))
    met_put_truth (kind.Int z) e is met keeps = nothing 200 put_bool_label e (omega arith)
    met_put_truth (kind.Char c) e is met keeps = nothing 200 put_bool_label e (omega arith)
