-- Straight code on the words that stand for items: its cells are read where they stand, and its datum is used by what comes behind it.
use Rattle.std.proofs.Common.{◌≡◌, ℕ, zero, suc, ◌+◌, ◌*◌, ◌%◌, ◌<◌, ◌≤◌, Bool, true, false, List, [], ◌∷◌, ◌++◌, length, All, Some, None, refl, sym, ap, ◌∙◌, subst, inr, arith, length-append}
use Rattle.std.proofs.lemmas.List.{get_or-append-add}
use Rattle.std.specs.Prelude.{slice_index_or}
use Rattle.std.specs.Fmt.{signed_decimal}
use Rattle.std.specs.declared.option.Option.{Option}
use Rattle.fy_base.specs.Outside.{Bytes}
use Rattle.fy_base.specs.Arithmetic.{truth_text, written_text}
use Rattle.fy_base.specs.declared.data.Datum.{Datum as DatumType}
use Rattle.fy_base.specs.declared.data.Datum.TheVariants as kind
use Rattle.fy_base.specs.declared.data.FaultKind.{FaultKind}
use Rattle.fy_base.specs.declared.data.PutKind.{PutKind}
use Rattle.fy_base.specs.declared.data.PutKind.TheVariants as puts
use Rattle.fy_phrase.specs.Contexts.{store_c, body_c}
use Rattle.fy_phrase.specs.Copy.{own}
use Rattle.pe_code.specs.declared.code.StraightPart.{StraightPart}
use Rattle.pe_code.specs.declared.code.StraightPart.TheVariants as part
use Rattle.pe_code.specs.declared.code.Purpose.{Purpose}
use Rattle.pe_code.specs.declared.code.Purpose.TheVariants as purpose
use Rattle.pe_code.specs.declared.code.PeItem.{PeItem}
use Rattle.pe_code.specs.declared.code.PeCode.{PeCode}
use Rattle.pe_code.specs.Code.{item_at, served_by}
use Rattle.pe_code.specs.Straight.{Reading, reads, no_cell, no_frame, cell_read, Outcome, leaves, fails, has_none, misses, outcome_after}
use Rattle.pe_code.specs.Valid.{LeadsTo, IsSoundPart, IsSoundStraight}
use Rattle.pe_machine.specs.States.{Pointer, code_at, value, completed}
use Rattle.pe_machine.specs.Step.{waiting}
use Rattle.pe_items.specs.Items as stack
use Rattle.pe_items.specs.Items.{Item, context, address_on, FoundFrame, frame_from, datum_in, ItemState}
use Rattle.pe_items.specs.Step as item
use Rattle.pe_items.specs.Step.{ItemMove, own_cell, own_cell_set, cell_set, faults_at, outcome_move}
use Rattle.rv_insn.specs.declared.instructions.BranchOp.TheVariants.{Beq}
use Rattle.rv_word.specs.declared.micros.Register.TheVariants.{Zero, Context, Top, Datum, First}
use Rattle.rv_word.specs.declared.micros.Micro.{Micro}
use Rattle.rv_word.specs.declared.micros.Micro.TheVariants.{Window, Save, Test, Jump, Fault}
use Rattle.rv_word.specs.Word.{Named, Data, Code, Led, goes, State, word_address, block}
use Rattle.rv_runtime.specs.Routines.{put_true, put_false, put_int}
use Rattle.rv_runtime.specs.Laws as runtime
use Rattle.rv_operators.specs.Operators.{word_of}
use Rattle.rv_operators.specs.Laws.{IsDatum}
use Rattle.rv_straight.specs.Straight.{straight_code, fault_blocks}
use Rattle.rv_straight.specs.Laws.{HoldsFaults, AreInRange, IsInRange, IsReady, AreReady, CellLies, HasCells, LeadsAs}
use Rattle.rv_straight.specs.Laws as straight
use Rattle.rv_select.specs.Numbers.{meet, label_of, entry_number, entry_word}
use Rattle.rv_select.specs.Blocks.{reach, at_top, open_context, push_frame, put_block, purpose_block, main_block, blocks_of}
use Rattle.rv_select.specs.Layout.{frame_word, frames_from, address_found, HasParts, HasItems, HoldsItems}
use Rattle.rv_select.proofs.Runs.{Reach, Later, wider, later, prefixed, known}
use Rattle.rv_select.proofs.Wp.{Wrote, Wp, with_value, any_step, sound}
use Rattle.rv_select.proofs.Values.{taken_same, untaken_same, taken_other, untaken_other}
use Rattle.rv_select.proofs.Around.{frame_room, from_itself, from_none, alike_with}
use Rattle.rv_select.proofs.Memory.{same_then, same_wrote, unwritten, shows_frames, CellIs, cell_is, own_found, laid_value}
use Rattle.rv_select.proofs.SelectedCode.{IsSelected}
use Rattle.rv_select.proofs.Placed.{blocks_length}
use Rattle.rv_select.proofs.ItemSteps.{Helpers, Follows}
use Rattle.rv_select.proofs.Landing.{AreBytes, went_code, went_value, went_completed, no_room, opened, pushed_frame}
use Rattle.rv_select.proofs.Reaching.{reach_length, reached}

-- ---- cells

-- a datum that is read
abbrev read_of : Reading → Option DatumType
read_of (reads v) = Some v
read_of no_cell = None
read_of no_frame = None

read_datum : (o : Option DatumType) (v : DatumType) → cell_read o ≡ reads v → o ≡ Some v
read_datum (Some u) v h = ap read_of h
read_datum None v h = absurd (cc)

-- the datum in the frame of a variable lies where straight code reads it
cell_lies : (code : PeCode) (is : List Item) (k d : ℕ) (around : Option ℕ) (g : FoundFrame) (v : DatumType) (e : Data) → HasItems code e.words is → e.named.frame ≡ frame_word around → frames_from is around ≡ Some d → k < d
    → frame_from is k around ≡ Some g → CellIs e.words is g.address v → CellLies e.words e.named.frame k (word_of v)
cell_lies code is k d None g v e h f deep lt found cell = absurd (none (from_none is k) found)
  where
    none : frame_from is k None ≡ None → frame_from is k None ≡ Some g → ⊥
    none p q = let z : None ≡ Some g = sym p ∙ q in cc
cell_lies code is zero d (Some x) g v e h f deep lt found cell =
    let same = from_itself is x g.address (ap address_found found) in
    let within = cell.within in
    let fits = h.fits in
    (g.address, f ∙ ap word_address (sym same), omega arith, cell.value_is)
cell_lies code is (suc k) zero (Some x) g v e h f deep lt found cell = absurd (omega arith)
cell_lies code is (suc k) (suc d) (Some x) g v e h f deep lt found cell =
    let shows = shows_frames code e.words is x d deep h.laid in
    let room = frame_room d in
    let around = shows.within in
    let within = cell.within in
    let fits = h.fits in
    (x, g.address, f, omega arith, shows.display k g.address (omega arith) (ap address_found found), omega arith, cell.value_is)

-- valid straight code whose literals are in range is ready at its depth
ready_part : (code : PeCode) (depth : ℕ) (s : StraightPart) → IsSoundPart code depth s → IsInRange s → IsReady depth s
ready_part code depth (part.Literal v) valid range = range
ready_part code depth (part.Cell k) valid range = valid
ready_part code depth (part.Unary op a) valid range = tt
ready_part code depth (part.Binary op a) valid range = tt

ready : (code : PeCode) (depth : ℕ) (ss : List StraightPart) → IsSoundStraight code depth ss → AreInRange ss → AreReady depth ss
ready code depth ss valid range k n lt = ready_part code depth (slice_index_or ss k n) (valid.parts k n lt) (range k n lt)

-- data in which registers alone have changed
with_same : (e after : Data) → straight.Keeps e after → after ≡ record e { named = after.named }
with_same e after keeps =
    ap (λ (l : List ℕ). record after { words = l }) keeps.words
    ∙ ap (λ (l : List ℕ). record e { named = after.named; input = l; output = after.output }) keeps.input
    ∙ ap (λ (l : List ℕ). record e { named = after.named; output = l }) keeps.output

module _ (code : PeCode) (w : Code) (sel : IsSelected code w) (help : Helpers) where
  -- the faults of an item's straight code stand behind its other blocks
  held_faults : (a : ℕ) (i : PeItem) (before : List (List Micro)) (ss : List StraightPart) → item_at code a ≡ Some i → blocks_of code a i.depth i.insn ≡ before ++ fault_blocks ss → HoldsFaults w (label_of code a + length before) ss
  held_faults a i before ss stands are j lt =
      let spot : label_of code a + length before + j ≡ label_of code a + (length before + j) = omega arith in
      let count = sym (blocks_length code a i.depth i.insn) ∙ ap (λ (bs : List (List Micro)). length bs) are in
      let all = length-append before (fault_blocks ss) in
      ap (λ (n : ℕ). block w n) spot
      ∙ sel.further a i (length before + j) stands (omega arith)
      ∙ ap (λ (bs : List (List Micro)). slice_index_or bs (length before + j) []) are
      ∙ get_or-append-add before (fault_blocks ss) j []

  module _ (s : ItemState) (e : Data) (h : HoldsItems code s.newest s.items e) (here : Pointer) (d : ℕ) (f : e.named.frame ≡ frame_word here.frame) (deep : frames_from s.items here.frame ≡ Some d) where
    -- what a variable's own cell holds
    abbrev pub own_read : ℕ → Reading
    own_read k = own_cell (frame_from s.items k here.frame)

    abbrev pub Q : ItemMove → Led → Type 0
    Q mv = Follows code w e mv

    own_cells : HasCells d own_read e
    own_cells = record { few = h.memory.few; cells = λ k v lt is. by k v lt (frame_from s.items k here.frame) refl is }
      where
        by : (k : ℕ) (v : DatumType) → k < d → (o : Option FoundFrame) → frame_from s.items k here.frame ≡ o → own_cell o ≡ reads v → CellLies e.words e.named.frame k (word_of v) × IsDatum v
        by k v lt None found is = absurd (cc)
        by k v lt (Some g) found is =
            let at = own_found s.items k here.frame g found in
            let cell = cell_is code e.words s.items g.address v (at.datum_is ∙ read_datum (datum_in g.binding) v is) h.memory.laid in
            (cell_lies code s.items k d here.frame g v e h.memory f deep lt found cell, cell.good)

    -- the registers that straight code leaves
    pub record Leaves (v : DatumType) (m : Named) : Type 0 where
      pub frame : m.frame ≡ frame_word here.frame
      pub context : m.context ≡ e.named.context
      pub top : m.top ≡ e.named.top
      pub datum : m.datum ≡ word_of v
      pub good : IsDatum v

    abbrev pub left : Named → Data
    left m = record e { named = m }

    -- the items are as they were
    pub still : (v : DatumType) (m : Named) → Leaves v m → HoldsItems code s.newest s.items (left m)
    still v m k = record { newest_is = k.context ∙ h.newest_is; top_is = k.top ∙ h.top_is; memory = h.memory; bytes = h.bytes }

    -- code does what is said from there, at such a cost
    abbrev pub Goes : ItemMove → ℕ → List Micro → Named → Type 0
    Goes mv n rest m = Reach w (Q mv) n (record { rest = rest; held = left m })

    -- where nothing is said
    pub none : (n : ℕ) (t : State) → 9 ≤ n → Reach w (Q item.sticks) n t
    none n t le = wider w (Q item.sticks) 9 n t le (any_step w (Q item.sticks) t (λ r. tt))

    -- a fault at the place of an item
    faulted_at : (kind : FaultKind) (a : ℕ) (after : Data) → straight.Keeps e after → (o : Option PeItem) → item_at code a ≡ o → Reach w (Q (faults_at kind o)) 9 (record { rest = Fault kind a ∷ []; held = after })
    faulted_at kind a after keeps None is = none 9 (record { rest = Fault kind a ∷ []; held = after }) (omega arith)
    faulted_at kind a after keeps (Some i) is =
        sound w (Q (item.faults kind i.place)) (Fault kind a ∷ []) after (i.place, sel.places a i is, (after, refl, record { input_is = keeps.input; output_is = keeps.output }))

    -- whatever comes behind it, with its faults at labels from one on
    module _ (ss : List StraightPart) (label : ℕ) (rest : List Micro) (go : DatumType → ItemMove) (n most : ℕ) (short : length ss ≤ 16) (some : 9 ≤ n) (enough : 288 + n ≤ most)
        (on : (v : DatumType) (m : Named) → Leaves v m → Goes (go v) n rest m) where
      abbrev from : State
      from = record { rest = straight_code ss 0 label ++ rest; held = e }

      behind : (v : DatumType) (after : Data) → straight.Keeps e after → straight.Has v after → Reach w (Q (go v)) n (record { rest = rest; held = after })
      behind v after keeps has =
          subst (λ (z : Data). Reach w (Q (go v)) n (record { rest = rest; held = z })) (sym (with_same e after keeps))
          (on v after.named (record { frame = keeps.frame ∙ f; context = keeps.context; top = keeps.top; datum = has.datum; good = has.good }))

      led_on : (o : Outcome) → LeadsAs w from rest (18 * length ss) o → Reach w (Q (outcome_move code o go)) most from
      led_on (leaves []) l = none most from (omega arith)
      led_on (leaves (v ∷ [])) l =
          wider w (Q (go v)) (18 * length ss + n) most from (omega arith)
          (prefixed w (Q (go v)) from (record { rest = rest; held = l.after }) l.steps (18 * length ss) n l.leads l.cost (behind v l.after l.keeps l.holds))
      led_on (leaves (v ∷ u ∷ more)) l = none most from (omega arith)
      led_on (fails kind a) l =
          wider w (Q (faults_at kind (item_at code a))) (18 * length ss + 9) most from (omega arith)
          (prefixed w (Q (faults_at kind (item_at code a))) from (record { rest = Fault kind a ∷ []; held = l.after }) l.steps (18 * length ss) 9 l.leads l.cost (faulted_at kind a l.after l.keeps (item_at code a) refl))
      led_on has_none l = none most from (omega arith)
      led_on misses l = none most from (omega arith)

      evaluated : (start : ℕ) → block w start ≡ straight_code ss 0 label ++ rest → HoldsFaults w label ss → AreReady d ss
          → Reach w (Q (outcome_move code (outcome_after own_read ss []) go)) most (record { rest = block w start; held = e })
      evaluated start is held range =
          subst (λ (ms : List Micro). Reach w (Q (outcome_move code (outcome_after own_read ss []) go)) most (record { rest = ms; held = e })) (sym is)
          (led_on (outcome_after own_read ss []) (help.straight w label ss d own_read e rest held range own_cells))

    -- an item whose own block is straight code with something behind it, and whose last blocks are those of its faults
    pub runs_straight : (i : PeItem) (before : List (List Micro)) (ss : List StraightPart) (rest : List Micro) (go : DatumType → ItemMove) (n most : ℕ) → item_at code here.address ≡ Some i → IsSoundStraight code d ss → AreInRange ss
        → main_block code here.address i.depth i.insn ≡ straight_code ss 0 (label_of code here.address + length before) ++ rest → blocks_of code here.address i.depth i.insn ≡ before ++ fault_blocks ss
        → 9 ≤ n → 288 + n ≤ most → ((v : DatumType) (m : Named) → Leaves v m → Goes (go v) n rest m)
        → Reach w (Q (outcome_move code (outcome_after own_read ss []) go)) most (record { rest = block w (label_of code here.address); held = e })
    runs_straight i before ss rest go n most stands valid range main blocks some enough on =
        evaluated ss (label_of code here.address + length before) rest go n most valid.short some enough on (label_of code here.address) (sel.main here.address i stands ∙ main)
        (held_faults here.address i before ss stands blocks) (ready code d ss valid range)

    -- ---- what comes behind it: its datum is in focus

    pub goes_value : (v : DatumType) (m : Named) → Leaves v m → Goes (item.focused (value v) s) 9 (Jump meet ∷ []) m
    goes_value v m k =
        sound w (Q (item.focused (value v) s)) (Jump meet ∷ []) (left m)
        (went_value code w s.newest s.items v (left m) e.input e.output (length e.words) (still v m k) k.datum k.good (record { input_is = refl; output_is = refl; size_is = refl }))

    -- ---- a variable's own cell takes it

    abbrev pub taken_by : ℕ → List Micro
    taken_by k = reach k ++ (Window First 3 ∷ Save First 2 Datum ∷ Jump meet ∷ [])

    assigned : (k : ℕ) (g : FoundFrame) (u v : DatumType) (m : Named) → k < d → frame_from s.items k here.frame ≡ Some g → datum_in g.binding ≡ Some u → Leaves v m
        → Wp w (Q (item.focused completed (record s { items = stack.with_value own g.address v s.items }))) (taken_by k) (left m)
    assigned k g u v m lt found is l =
        let mv = item.focused completed (record s { items = stack.with_value own g.address v s.items }) in
        let at = own_found s.items k here.frame g found in
        let cell = cell_is code e.words s.items g.address u (at.datum_is ∙ is) h.memory.laid in
        let within = cell.within in
        let fits = h.memory.fits in
        reached code w (Q mv) (Window First 3 ∷ Save First 2 Datum ∷ Jump meet ∷ []) s.items k d here.frame g (left m) h.memory l.frame deep lt found (
          g.address,
          refl,
          omega arith,
          (
            g.address,
            refl,
            omega arith,
            λ n1 w1. went_completed code w s.newest (stack.with_value own g.address v s.items) (record (with_value First (word_address g.address) (left m)) { words = n1 }) e.input e.output (length e.words)
                (record {
                  newest_is = l.context ∙ h.newest_is;
                  top_is = l.top ∙ h.top_is ∙ ap word_address (sym (alike_with own g.address v s.items).address);
                  memory = record {
                    foot = w1.else 0 (λ q. omega arith) ∙ h.memory.foot;
                    fits = (let z = w1.size in let y = (alike_with own g.address v s.items).address in omega arith);
                    few = (let z = w1.size in let y = h.memory.few in omega arith);
                    laid = laid_value code e.words n1 own g.address u v s.items (at.datum_is ∙ is) (subst (λ y. Wrote e.words n1 (g.address + 2) y) l.datum w1) l.good h.memory.laid;
                  };
                  bytes = h.bytes;
                })
                (record { input_is = refl; output_is = refl; size_is = w1.size }),
          ),
        )

    pub goes_set : (k : ℕ) (v : DatumType) (m : Named) → k < d → Leaves v m → Goes (own_cell_set (frame_from s.items k here.frame) v s) 63 (taken_by k) m
    goes_set k v m lt l = by (frame_from s.items k here.frame) refl
      where
        into : (g : FoundFrame) → frame_from s.items k here.frame ≡ Some g → (o : Option DatumType) → datum_in g.binding ≡ o → Goes (cell_set o g.address v s) 63 (taken_by k) m
        into g found None is = none 63 (record { rest = taken_by k; held = left m }) (omega arith)
        into g found (Some u) is =
            let mv = item.focused completed (record s { items = stack.with_value own g.address v s.items }) in
            let near = reach_length k in
            let all = length-append (reach k) (Window First 3 ∷ Save First 2 Datum ∷ Jump meet ∷ []) in
            wider w (Q mv) (9 * length (taken_by k)) 63 (record { rest = taken_by k; held = left m }) (omega arith) (sound w (Q mv) (taken_by k) (left m) (assigned k g u v m lt found is l))

        by : (o : Option FoundFrame) → frame_from s.items k here.frame ≡ o → Goes (own_cell_set o v s) 63 (taken_by k) m
        by None found = none 63 (record { rest = taken_by k; held = left m }) (omega arith)
        by (Some g) found = into g found (datum_in g.binding) refl

    -- ---- it chooses

    went_on : (v : DatumType) (m : Named) (y : ℕ) → Leaves v m → LeadsTo code d y → Q (item.focused (code_at (record here { address = y })) s) (goes (record { rest = block w (label_of code y); held = left m }))
    went_on v m y k leads =
        went_code code w s.newest s.items (record here { address = y }) d (left m) e.input e.output (length e.words) (still v m k) k.frame leads deep (record { input_is = refl; output_is = refl; size_is = refl })

    goes_choice : (v : DatumType) (m : Named) (y z : ℕ) → Leaves v m → LeadsTo code d y → LeadsTo code d z
        → Goes (item.chosen v (item.focused (code_at (record here { address = y })) s) (item.focused (code_at (record here { address = z })) s)) 18 (Test Beq Datum Zero (label_of code z) ∷ Jump (label_of code y) ∷ []) m
    goes_choice (kind.Bool true) m y z k ly lz =
        sound w (Q (item.focused (code_at (record here { address = y })) s)) (Test Beq Datum Zero (label_of code z) ∷ Jump (label_of code y) ∷ []) (left m)
        (λ t. absurd (let q = taken_same m.datum 0 t in let p = k.datum in omega arith), λ u. went_on (kind.Bool true) m y k ly)
    goes_choice (kind.Bool false) m y z k ly lz =
        sound w (Q (item.focused (code_at (record here { address = z })) s)) (Test Beq Datum Zero (label_of code z) ∷ Jump (label_of code y) ∷ []) (left m)
        (λ t. went_on (kind.Bool false) m z k lz, λ u. absurd (untaken_same m.datum 0 u k.datum))
    goes_choice (kind.Int i) m y z k ly lz = none 18 (record { rest = Test Beq Datum Zero (label_of code z) ∷ Jump (label_of code y) ∷ []; held = left m }) (omega arith)
    goes_choice (kind.Char c) m y z k ly lz = none 18 (record { rest = Test Beq Datum Zero (label_of code z) ∷ Jump (label_of code y) ∷ []; held = left m }) (omega arith)

    -- ---- it tells whether a loop's body is run, under the context of the loop

    abbrev turn_code : ℕ → List Micro
    turn_code y = Test Beq Datum Zero meet ∷ push_frame (entry_number code here.address + 1) (label_of code y)

    goes_turn : (v : DatumType) (m : Named) (y : ℕ) → Leaves v m → LeadsTo code d y → ((w3 : ℕ) → HasParts code (frames_from s.items) (body_c here) (entry_word (entry_number code here.address + 1)) (frame_word here.frame) w3)
        → Goes (item.chosen v (item.pushed (body_c here) (record here { address = y }) s) (item.focused completed s)) 100 (turn_code y) m
    goes_turn (kind.Bool true) m y k leads parts =
        let mv = item.pushed (body_c here) (record here { address = y }) s in
        later w (Q mv) (record { rest = turn_code y; held = left m }) 90 10
        (sound w (Later w 10 (Q mv)) (turn_code y) (left m) (
          λ t. absurd (let q = taken_same m.datum 0 t in let p = k.datum in omega arith),
          λ u. pushed_frame code w sel help s.newest s.items (body_c here) (record here { address = y }) d 10 (entry_number code here.address + 1) (left m) (omega arith) (still (kind.Bool true) m k) k.frame leads deep parts,
        ))
    goes_turn (kind.Bool false) m y k leads parts =
        let mv = item.focused completed s in
        wider w (Q mv) 90 100 (record { rest = turn_code y; held = left m }) (omega arith)
        (sound w (Q mv) (turn_code y) (left m) (
          λ t. went_completed code w s.newest s.items (left m) e.input e.output (length e.words) (still (kind.Bool false) m k) (record { input_is = refl; output_is = refl; size_is = refl }),
          λ u. absurd (untaken_same m.datum 0 u k.datum),
        ))
    goes_turn (kind.Int i) m y k leads parts = none 100 (record { rest = turn_code y; held = left m }) (omega arith)
    goes_turn (kind.Char c) m y k leads parts = none 100 (record { rest = turn_code y; held = left m }) (omega arith)

    -- ---- an acceptor takes it

    abbrev store_code : ℕ → List Micro
    store_code x = at_top ++ (Save Top 1 Context ∷ Save Top 2 Datum ∷ open_context (label_of code x))

    goes_store : (v : DatumType) (m : Named) (x : ℕ) → Leaves v m → LeadsTo code d x → Goes (item.pushed (store_c v) (record here { address = x }) s) 73 (store_code x) m
    goes_store v m x k leads =
        let x' = address_on s.items in
        let top = k.top ∙ h.top_is in
        let mv = item.pushed (store_c v) (record here { address = x }) s in
        later w (Q mv) (record { rest = store_code x; held = left m }) 63 10
        (sound w (Later w 10 (Q mv)) (store_code x) (left m) (
          x',
          top,
          λ lt. no_room code w sel help (record { focus = code_at (record here { address = x }); newest = address_on s.items; items = context (store_c v) s.newest ∷ s.items }) e.input e.output (length e.words) 10 (left m) (omega arith) refl (omega arith),
          λ le. (
            x',
            top,
            le,
            (
              x',
              top,
              omega arith,
              λ n1 w1. (
                x',
                top,
                (let z = w1.size in omega arith),
                λ n2 w2.
                    let same1 = same_wrote x' e.words n1 (x' + 1) m.context w1 (omega arith) in
                    let same2 = same_wrote x' n1 n2 (x' + 2) m.datum w2 (omega arith) in
                    let out = unwritten n1 n2 x' 2 1 m.datum (word_address s.newest) w2 (λ q. omega (arith, q)) (w1.here ∙ k.context ∙ h.newest_is) in
                    opened code w sel help s.newest s.items (store_c v) (record here { address = x }) d 10 e.input e.output (length e.words) e.words (record (left m) { words = n2 }) h.memory (same_then x' e.words n1 n2 same1 same2)
                    (record { outside_is = out; parts = (w2.here ∙ k.datum, k.good) }) le top k.frame h.bytes (record { input_is = refl; output_is = refl; size_is = w2.size ∙ w1.size }) leads deep,
              ),
            ),
          ),
        ))

    -- ---- it is put

    -- a routine puts the text
    routine_puts : (label most : ℕ) (text : Bytes) (v : DatumType) (m : Named) → Leaves v m → runtime.Puts w label most text (left m)
        → Reach w (Q (item.puts text (item.focus_on completed s))) most (record { rest = block w label; held = left m })
    routine_puts label most text v m k puts =
        known w (Q (item.puts text (item.focus_on completed s))) (record { rest = block w label; held = left m }) (goes (record { rest = block w meet; held = puts.after })) puts.leads.steps most puts.leads.some puts.leads.leads puts.leads.cost
        (went_completed code w s.newest s.items puts.after e.input (e.output ++ text) (length e.words)
        (record {
          newest_is = puts.keeps.context ∙ k.context ∙ h.newest_is;
          top_is = puts.keeps.top ∙ k.top ∙ h.top_is;
          memory = subst (λ (l : List ℕ). HasItems code l s.items) (sym puts.keeps.words) h.memory;
          bytes = subst AreBytes (sym puts.keeps.input) h.bytes;
        })
        (record { input_is = puts.keeps.input; output_is = puts.output; size_is = ap (λ (l : List ℕ). length l) puts.keeps.words }))

    -- at once, or by a routine
    abbrev Puts : PutKind → DatumType → ℕ → Named → Type 0
    Puts p v n m = Goes (item.written (written_text p v) s) n (put_block p) m

    puts_nothing : (p : PutKind) (m : Named) → Reach w (Q item.sticks) 609 (record { rest = put_block p; held = left m })
    puts_nothing p m = none 609 (record { rest = put_block p; held = left m }) (omega arith)

    puts_truth : (b : Bool) (m : Named) → Leaves (kind.Bool b) m → Puts puts.Bool (kind.Bool b) 118 m
    puts_truth true m k =
        let mv = item.puts (truth_text true) (item.focus_on completed s) in
        later w (Q mv) (record { rest = put_block puts.Bool; held = left m }) 18 100
        (sound w (Later w 100 (Q mv)) (put_block puts.Bool) (left m) (
          λ t. inr (routine_puts put_true 100 (truth_text true) (kind.Bool true) m k (help.puts_truths w true (truth_text true) (left m) sel.routines refl)),
          λ u. absurd (let z = untaken_other m.datum 0 u in let p = k.datum in omega arith),
        ))
    puts_truth false m k =
        let mv = item.puts (truth_text false) (item.focus_on completed s) in
        later w (Q mv) (record { rest = put_block puts.Bool; held = left m }) 18 100
        (sound w (Later w 100 (Q mv)) (put_block puts.Bool) (left m) (
          λ t. absurd (taken_other m.datum 0 t k.datum),
          λ u. inr (routine_puts put_false 100 (truth_text false) (kind.Bool false) m k (help.puts_truths w false (truth_text false) (left m) sel.routines refl)),
        ))

    goes_put : (p : PutKind) (v : DatumType) (m : Named) → Leaves v m → Puts p v 609 m
    goes_put puts.Int (kind.Int z) m k =
        let mv = item.puts (signed_decimal z) (item.focus_on completed s) in
        later w (Q mv) (record { rest = Jump put_int ∷ []; held = left m }) 9 600
        (sound w (Later w 600 (Q mv)) (Jump put_int ∷ []) (left m) (inr (routine_puts put_int 600 (signed_decimal z) (kind.Int z) m k (help.puts_ints w z (signed_decimal z) (left m) sel.routines k.good k.datum refl))))
    goes_put puts.Char (kind.Char c) m k =
        let small = k.good in
        let is = k.datum in
        let byte : m.datum % 256 ≡ c = omega arith in
        let mv = item.puts (c ∷ []) (item.focus_on completed s) in
        wider w (Q mv) 18 609 (record { rest = put_block puts.Char; held = left m }) (omega arith)
        (sound w (Q mv) (put_block puts.Char) (left m)
        (went_completed code w s.newest s.items (record (left m) { output = e.output ++ (m.datum % 256) ∷ [] }) e.input (e.output ++ c ∷ []) (length e.words)
        (record { newest_is = k.context ∙ h.newest_is; top_is = k.top ∙ h.top_is; memory = h.memory; bytes = h.bytes })
        (record { input_is = refl; output_is = ap (λ b. e.output ++ b ∷ []) byte; size_is = refl })))
    goes_put puts.Bool (kind.Bool b) m k =
        wider w (Q (item.puts (truth_text b) (item.focus_on completed s))) 118 609 (record { rest = put_block puts.Bool; held = left m }) (omega arith) (puts_truth b m k)
    goes_put puts.Int (kind.Bool b) m k = puts_nothing puts.Int m
    goes_put puts.Int (kind.Char c) m k = puts_nothing puts.Int m
    goes_put puts.Char (kind.Int z) m k = puts_nothing puts.Char m
    goes_put puts.Char (kind.Bool b) m k = puts_nothing puts.Char m
    goes_put puts.Bool (kind.Int z) m k = puts_nothing puts.Bool m
    goes_put puts.Bool (kind.Char c) m k = puts_nothing puts.Bool m

    -- ---- for a purpose

    -- the context of its body, where it is a loop's
    abbrev pub IsAgain : Purpose → Type 0
    IsAgain (purpose.Repeat y) = (w3 : ℕ) → HasParts code (frames_from s.items) (body_c here) (entry_word (entry_number code here.address + 1)) (frame_word here.frame) w3
    IsAgain u = Unit {0}

    pub goes_for : (u : Purpose) (v : DatumType) (m : Named) → Leaves v m → All (λ a. LeadsTo code d a) (served_by u) → IsAgain u → Goes (item.datum_meets code v (waiting u here) s) 609 (purpose_block code here.address d u) m
    goes_for (purpose.Choose y z) v m k leads again =
        wider w (Q (item.chosen v (item.focused (code_at (record here { address = y })) s) (item.focused (code_at (record here { address = z })) s))) 18 609
        (record { rest = Test Beq Datum Zero (label_of code z) ∷ Jump (label_of code y) ∷ []; held = left m }) (omega arith) (goes_choice v m y z k (leads 0 0 (omega arith)) (leads 1 0 (omega arith)))
    goes_for (purpose.Repeat y) v m k leads again =
        wider w (Q (item.chosen v (item.pushed (body_c here) (record here { address = y }) s) (item.focused completed s))) 100 609 (record { rest = turn_code y; held = left m }) (omega arith)
        (goes_turn v m y k (leads 0 0 (omega arith)) again)
    goes_for (purpose.Store x) v m k leads again =
        wider w (Q (item.pushed (store_c v) (record here { address = x }) s)) 73 609 (record { rest = store_code x; held = left m }) (omega arith) (goes_store v m x k (leads 0 0 (omega arith)))
    goes_for (purpose.Write p) v m k leads again = goes_put p v m k
