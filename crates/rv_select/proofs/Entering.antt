-- A variable's thunk is entered at a shape, through the table.
use Rattle.std.proofs.Common.{◌≡◌, ℕ, zero, suc, ◌+◌, ◌*◌, ◌<◌, ◌≤◌, Bool, true, false, List, [], ◌∷◌, length, All, Some, None, refl, sym, ap, ◌∙◌, subst, inl, inr, arith}
use Rattle.std.proofs.lemmas.Bool.{cond-true, cond-false, cond_both, and_parts, eqb-true, eqb-false}
use Rattle.std.proofs.lemmas.Option.{same_Some, slice_get_within, get_or_from_slice_get}
use Rattle.std.proofs.lemmas.List.{get_or-map}
use Rattle.std.proofs.lemmas.List.Elements.{All-head, All-tail}
use Rattle.std.specs.Prelude.{slice_get, slice_index, nat_eq, ◌==◌, ◌&&◌}
use Rattle.std.specs.declared.option.Option.{Option}
use Rattle.fy_base.specs.declared.data.Datum.{Datum as DatumType}
use Rattle.fy_phrase.specs.Contexts.{store_c}
use Rattle.fy_phrase.specs.Copy.{Which, own}
use Rattle.pe_code.specs.declared.code.Entry.{Entry}
use Rattle.pe_code.specs.declared.code.PeCode.{PeCode}
use Rattle.pe_code.specs.Code.{address_in, entry_of}
use Rattle.pe_code.specs.Valid.{LeadsTo}
use Rattle.pe_machine.specs.States.{Thunk, source, datum, cell_of, jump_of, sequence_of, value, PeContext}
use Rattle.pe_machine.specs.Step.{is_assignment}
use Rattle.pe_items.specs.Items as stack
use Rattle.pe_items.specs.Items.{Item, address_on, FoundContext, context_at, escape_at, value_at, ItemState}
use Rattle.pe_items.specs.Step.{ItemMove, sticks, focused, loaded, assigned, assignment_meets, cell_entered, left_by, jumped, at_entry, entered_plain, taken, newest_of}
use Rattle.rv_insn.specs.declared.instructions.RegOp.TheVariants as reg
use Rattle.rv_word.specs.declared.micros.Register.TheVariants.{Frame, Context, Top, Datum, Second, Third}
use Rattle.rv_word.specs.declared.micros.Micro.{Micro}
use Rattle.rv_word.specs.declared.micros.Micro.TheVariants.{Set, Alu, Window, Get, Look, Jump, Enter}
use Rattle.rv_word.specs.Word.{Data, Code, State, Led, word_address, table_address, block}
use Rattle.rv_operators.specs.Operators.{word_of}
use Rattle.rv_select.specs.Numbers.{meet, datum_label, read_label, write_label, leave_label, pop_label, datum_entry, read_entry, write_entry, leave_entry, label_of, entry_number, entry_word, row_words, place_in, column_word, column_of, row_address}
use Rattle.rv_select.specs.Blocks.{move, read_block, write_block}
use Rattle.rv_select.specs.Program.{node_word, row}
use Rattle.rv_select.specs.Layout.{frames_from, column, payload, IsGoodThunk, HoldsItems}
use Rattle.rv_select.proofs.Runs.{Reach, Later, wider}
use Rattle.rv_select.proofs.Wp.{Wp, at, with_value, any_step, by_block, by_blocks}
use Rattle.rv_select.proofs.Values.{moves, adds}
use Rattle.rv_select.proofs.Around.{alike_with}
use Rattle.rv_select.proofs.Memory.{StandsAt, stands_at, EscapeIs, escape_is, cell_spot, value_is, laid_value}
use Rattle.rv_select.proofs.SelectedCode.{IsEntry, IsSelected}
use Rattle.rv_select.proofs.ItemSteps.{Follows}
use Rattle.rv_select.proofs.Landing.{Keeps, went_code, went_value, went_completed}
use Rattle.rv_select.proofs.Reaching.{word_small}

-- ---- the table

-- where the entry of a node leads
pub entry_leads : (code : PeCode) (depth node shape a : ℕ) (es : List Entry) → All (λ e. e.node ≡ node → LeadsTo code depth e.address) es → address_in es node shape ≡ Some a → LeadsTo code depth a
entry_leads code depth node shape a [] h e = absurd (cc)
entry_leads code depth node shape a (x ∷ es) h e =
    cond_both ((x.node == node) && (x.shape == shape)) (Some x.address) (address_in es node shape) (λ o. o ≡ Some a → LeadsTo code depth a)
    (λ t k. subst (LeadsTo code depth) (same_Some x.address a k) (All-head (λ z. z.node ≡ node → LeadsTo code depth z.address) x es h (eqb-true x.node node (and_parts (x.node == node) (x.shape == shape) t).0)))
    (λ f k. entry_leads code depth node shape a es (All-tail (λ z. z.node ≡ node → LeadsTo code depth z.address) x es h) k)
    e

-- the place of a node that is listed
pub place_listed : (nodes : List ℕ) (node k : ℕ) → slice_get nodes k ≡ Some node → slice_get nodes (place_in nodes node) ≡ Some node
place_listed [] node k h = absurd (cc)
place_listed (n ∷ nodes) node k h =
    cond_both (nat_eq n node) 0 (suc (place_in nodes node)) (λ p. slice_get (n ∷ nodes) p ≡ Some node)
    (λ t. ap Some (eqb-true n node t))
    (λ f. rest k h f (λ j g. place_listed nodes node j g))
  where
    rest : (k : ℕ) → slice_get (n ∷ nodes) k ≡ Some node → nat_eq n node ≡ false → ((j : ℕ) → slice_get nodes j ≡ Some node → slice_get nodes (place_in nodes node) ≡ Some node)
        → slice_get nodes (place_in nodes node) ≡ Some node
    rest zero h f go = absurd (eqb-false n node f (same_Some n node h))
    rest (suc k) h f go = go k h

-- the column of a node that is listed
pub column_inside : (code : PeCode) (node k : ℕ) → slice_get code.thunks k ≡ Some node → column_of code node < row_words code
column_inside code node k h = let lt = slice_get_within code.thunks (place_in code.thunks node) node (place_listed code.thunks node k h) in omega arith

pub node_found : (code : PeCode) (node shape k : ℕ) → slice_get code.thunks k ≡ Some node → slice_index (row code shape) (column_of code node) ≡ node_word code (entry_of code node shape)
node_found code node shape k h =
    let p = place_in code.thunks node in
    let listed = place_listed code.thunks node k h in
    let four : 4 + p ≡ suc (suc (suc (suc p))) = omega arith in
    ap (λ j. slice_index (row code shape) j) four
    ∙ get_or-map (λ n. node_word code (entry_of code n shape)) code.thunks p 0 0 (slice_get_within code.thunks p node listed)
    ∙ ap (λ n. node_word code (entry_of code n shape)) (get_or_from_slice_get code.thunks p node 0 listed)

-- what ends a block where a cell is written or read
abbrev pub cell_block : Bool → List Micro
cell_block true = write_block
cell_block false = read_block

module _ (code : PeCode) (w : Code) (sel : IsSelected code w) where
  -- the word of the table is looked up and entered
  pub looked : (Q : Led → Type 0) (shape col k label : ℕ) (e : Data) → shape < code.shapes → col < row_words code → slice_index (row code shape) col ≡ entry_word k → IsEntry w k label
      → e.named.second ≡ column_word col → Q (at w label (with_value Second (entry_word k) (with_value Third (row_address code shape) e)))
      → Wp w Q (Set Third (row_address code shape) ∷ Alu reg.Add Second Second Third ∷ Look Second Second ∷ Enter Second ∷ []) e
  looked Q shape col k label e lt inside found entry second go =
      let r = sel.rows shape col lt inside in
      let few = sel.few_rows in
      let ri = r.inside in (
        table_address (shape * row_words code + col),
        adds e.named.second (row_address code shape) (table_address (shape * row_words code + col)) (omega arith) (omega arith),
        (shape * row_words code + col, entry_word k, refl, r.inside, r.value ∙ found, (k, label, refl, entry.inside, entry.leads, go)),
      )

  module _ (s : ItemState) (e0 : Data) where
    -- an item's block ends as the step says
    abbrev pub Q : ItemMove → Led → Type 0
    Q mv = Follows code w e0 mv

    pub nothing : (n : ℕ) (t : State) → 9 ≤ n → Reach w (Q sticks) n t
    nothing n t le = wider w (Q sticks) 9 n t le (any_step w (Q sticks) t (λ r. tt))

    -- a cell of either sort is entered
    module _ (which : Which) (x : ℕ) (e : Data) (h : HoldsItems code s.newest s.items e) (keeps : Keeps e0.input e0.output (length e0.words) e) (f : e.named.frame ≡ word_address (cell_spot which x)) where
      -- it is read
      reads : (n : ℕ) (v : DatumType) → value_at which x s.items ≡ Some v → Wp w (Later w n (Q (loaded (Some v) s))) read_block e
      reads n v is =
          let c = value_is code e.words s.items which x v is h.memory.laid in
          let within = c.within in
          let fits = h.memory.fits in (
            cell_spot which x,
            f,
            omega arith,
            (
              cell_spot which x,
              word_of v,
              f,
              omega arith,
              c.value_is,
              inl (
                  went_value code w s.newest s.items v (with_value Datum (word_of v) e) e0.input e0.output (length e0.words) (record { newest_is = h.newest_is; top_is = h.top_is; memory = h.memory; bytes = h.bytes }) refl c.good
                  (record { input_is = keeps.input_is; output_is = keeps.output_is; size_is = keeps.size_is })),
            ),
          )

      -- or written
      writes : (n : ℕ) (v : DatumType) (outside : ℕ) (older : List Item) → StandsAt code e.words s.items s.newest (record { content = store_c v; outside = outside; older = older }) → (u : DatumType) → value_at which x s.items ≡ Some u
          → Wp w (Later w n (Q (assigned (Some u) which x v (record s { newest = outside })))) write_block e
      writes n v outside older at u is =
          let c = value_is code e.words s.items which x u is h.memory.laid in
          let within = c.within in
          let fits = h.memory.fits in
          let inside = at.within in
          let spot = at.spot in
          let newest = h.newest_is ∙ ap word_address spot in (
            address_on older,
            newest,
            omega arith,
            (
              address_on older,
              word_of v,
              newest,
              omega arith,
              at.here.parts.0,
              (
                address_on older,
                word_address outside,
                newest,
                omega arith,
                at.here.outside_is,
                (
                  cell_spot which x,
                  f,
                  omega arith,
                  (
                    cell_spot which x,
                    f,
                    omega arith,
                    λ n1 w1. inl (
                        went_completed code w outside (stack.with_value which x v s.items) (record (with_value Context (word_address outside) (with_value Datum (word_of v) e)) { words = n1 }) e0.input e0.output (length e0.words)
                        (record {
                          newest_is = refl;
                          top_is = h.top_is ∙ ap word_address (sym (alike_with which x v s.items).address);
                          memory = record {
                            foot = w1.else 0 (λ q. omega arith) ∙ h.memory.foot;
                            fits = (let z = w1.size in let a = (alike_with which x v s.items).address in omega arith);
                            few = (let z = w1.size in let k = h.memory.few in omega arith);
                            laid = laid_value code e.words n1 which x u v s.items is w1 at.here.parts.1 h.memory.laid;
                          };
                          bytes = h.bytes;
                        })
                        (record { input_is = keeps.input_is; output_is = keeps.output_is; size_is = w1.size ∙ keeps.size_is })),
                  ),
                ),
              ),
            ),
          )

      -- by what is asked, at the end of whatever block
      module _ (n : ℕ) (Goal : ItemMove → Type 0) (stuck : Goal sticks) where
        read_by : (o : Option DatumType) → value_at which x s.items ≡ o → ((mv : ItemMove) → Wp w (Later w n (Q mv)) read_block e → Goal mv) → Goal (loaded o s)
        read_by None is go = stuck
        read_by (Some v) is go = go (loaded (Some v) s) (reads n v is)

        written_by : (v : DatumType) (outside : ℕ) (older : List Item) → StandsAt code e.words s.items s.newest (record { content = store_c v; outside = outside; older = older }) → (o : Option DatumType) → value_at which x s.items ≡ o
            → ((mv : ItemMove) → Wp w (Later w n (Q mv)) write_block e → Goal mv) → Goal (assigned o which x v (record s { newest = outside }))
        written_by v outside older at None is go = stuck
        written_by v outside older at (Some u) is go = go (assigned (Some u) which x v (record s { newest = outside })) (writes n v outside older at u is)

        assigned_by : (c : PeContext) (outside : ℕ) (older : List Item) → StandsAt code e.words s.items s.newest (record { content = c; outside = outside; older = older })
            → ((mv : ItemMove) → Wp w (Later w n (Q mv)) write_block e → Goal mv) → Goal (assignment_meets which x c (record s { newest = outside }))
        assigned_by (store_c v) outside older at go = written_by v outside older at (value_at which x s.items) refl go
        assigned_by _ outside older at go = stuck

        assigned_at : (o : Option FoundContext) → newest_of s ≡ o → ((mv : ItemMove) → Wp w (Later w n (Q mv)) write_block e → Goal mv) → Goal (taken (assignment_meets which x) o s)
        assigned_at None is go = stuck
        assigned_at (Some c) is go = assigned_by c.content c.outside c.older (stands_at code e.words s.items s.newest c is h.memory.laid) go

        pub cell_by : (b : Bool) → ((mv : ItemMove) → Wp w (Later w n (Q mv)) (cell_block b) e → Goal mv) → Goal (cell_entered b which x s)
        cell_by true go = assigned_at (newest_of s) refl go
        cell_by false go = read_by (value_at which x s.items) refl go

    -- an escape is entered, and leaves the newest contexts
    module _ (x : ℕ) (e : Data) (h : HoldsItems code s.newest s.items e) (keeps : Keeps e0.input e0.output (length e0.words) e) (f : e.named.frame ≡ word_address x) where
      pub left : (c : ℕ) → EscapeIs e.words s.items x c → (o : Option FoundContext) → context_at c s.items ≡ o → Reach w (Q (left_by o s)) 90 (record { rest = block w leave_label; held = e })
      left c esc None is = nothing 90 (record { rest = block w leave_label; held = e }) (omega arith)
      left c esc (Some k) is =
          let within = esc.within in
          let fits = h.memory.fits in
          let few = h.memory.few in
          let at = stands_at code e.words s.items c k is h.memory.laid in
          let inside = at.within in
          let e1 = with_value Context (word_address (address_on k.older)) e in
          by_blocks w (Q (left_by (Some k) s)) leave_label (Window Frame 3 ∷ Get Context Frame 2 ∷ Jump pop_label ∷ []) e 50 90 (sel.own 5 (omega arith)) (omega arith) (
            x,
            f,
            omega arith,
            (
              x,
              word_address (address_on k.older),
              f,
              omega arith,
              esc.context_is ∙ ap word_address at.spot,
              inr (
                  by_block w (Q (left_by (Some k) s)) pop_label (Window Context 2 ∷ move Top Context ∷ Get Context Context 1 ∷ Jump meet ∷ []) e1 50 (sel.own 6 (omega arith)) (omega arith) (
                    address_on k.older,
                    refl,
                    omega arith,
                    (
                      word_address (address_on k.older),
                      moves (word_address (address_on k.older)) (word_address (address_on k.older)) refl (omega arith),
                      (
                        address_on k.older,
                        word_address k.outside,
                        refl,
                        omega arith,
                        at.here.outside_is,
                        went_completed code w k.outside k.older (with_value Context (word_address k.outside) (with_value Top (word_address (address_on k.older)) e1)) e0.input e0.output (length e0.words)
                            (record { newest_is = refl; top_is = refl; memory = record { foot = h.memory.foot; fits = omega arith; few = h.memory.few; laid = at.older }; bytes = h.bytes })
                            (record { input_is = keeps.input_is; output_is = keeps.output_is; size_is = keeps.size_is }),
                      ),
                    ),
                  )),
            ),
          )

      left_at : (o : Option ℕ) → escape_at x s.items ≡ o → Reach w (Q (jumped o s)) 90 (record { rest = block w leave_label; held = e })
      left_at None is = nothing 90 (record { rest = block w leave_label; held = e }) (omega arith)
      left_at (Some c) is = left c (escape_is code e.words s.items x c is h.memory.laid) (context_at c s.items) refl

    -- a thunk has an entry at the shape
    abbrev pub HasEntry : Thunk → ℕ → Type 0
    HasEntry (source node around) shape = (a : ℕ) × (entry_of code node shape ≡ Some a)
    HasEntry (datum v) shape = Unit {0}
    HasEntry (cell_of x) shape = Unit {0}
    HasEntry (jump_of x) shape = Unit {0}
    HasEntry (sequence_of x) shape = ⊥

    module _ (shape n : ℕ) (lt : shape < code.shapes) (enough : 90 ≤ n) where
      abbrev pub Enters : Thunk → Data → Type 0
      Enters t e = Wp w (Later w n (Q (entered_plain code shape t s))) (Set Third (row_address code shape) ∷ Alu reg.Add Second Second Third ∷ Look Second Second ∷ Enter Second ∷ []) e

      cell_enters : (x : ℕ) (e : Data) (b : Bool) → is_assignment code.assignment shape ≡ b → HoldsItems code s.newest s.items e → Keeps e0.input e0.output (length e0.words) e → e.named.second ≡ column_word 1 → e.named.frame ≡ word_address x
          → Wp w (Later w n (Q (cell_entered b own x s))) (Set Third (row_address code shape) ∷ Alu reg.Add Second Second Third ∷ Look Second Second ∷ Enter Second ∷ []) e
      cell_enters x e true is h keeps second f =
          let e1 = with_value Second (entry_word write_entry) (with_value Third (row_address code shape) e) in
          looked (Later w n (Q (cell_entered true own x s))) shape 1 write_entry write_label e lt (omega arith) (cond-true (is_assignment code.assignment shape) (entry_word write_entry) (entry_word read_entry) is) (sel.fixed 4 (omega arith)) second
          (inr (cell_by own x e1 (record { newest_is = h.newest_is; top_is = h.top_is; memory = h.memory; bytes = h.bytes }) (record { input_is = keeps.input_is; output_is = keeps.output_is; size_is = keeps.size_is }) f 0
          (λ (mv : ItemMove). Reach w (Q mv) n (record { rest = block w write_label; held = e1 })) (nothing n (record { rest = block w write_label; held = e1 }) (omega arith)) true
          (λ mv go. by_blocks w (Q mv) write_label write_block e1 0 n (sel.own 4 (omega arith)) (omega arith) go)))
      cell_enters x e false is h keeps second f =
          let e1 = with_value Second (entry_word read_entry) (with_value Third (row_address code shape) e) in
          looked (Later w n (Q (cell_entered false own x s))) shape 1 read_entry read_label e lt (omega arith) (cond-false (is_assignment code.assignment shape) (entry_word write_entry) (entry_word read_entry) is) (sel.fixed 3 (omega arith)) second
          (inr (cell_by own x e1 (record { newest_is = h.newest_is; top_is = h.top_is; memory = h.memory; bytes = h.bytes }) (record { input_is = keeps.input_is; output_is = keeps.output_is; size_is = keeps.size_is }) f 0
          (λ (mv : ItemMove). Reach w (Q mv) n (record { rest = block w read_label; held = e1 })) (nothing n (record { rest = block w read_label; held = e1 }) (omega arith)) false
          (λ mv go. by_blocks w (Q mv) read_label read_block e1 0 n (sel.own 3 (omega arith)) (omega arith) go)))

      pub enters : (t : Thunk) (e : Data) → HasEntry t shape → HoldsItems code s.newest s.items e → Keeps e0.input e0.output (length e0.words) e → e.named.second ≡ column_word (column code t) → e.named.frame ≡ payload t
          → IsGoodThunk code (frames_from s.items) t → Enters t e
      enters (source node around) e he h keeps second f good =
          let e1 = with_value Second (entry_word (entry_number code he.0)) (with_value Third (row_address code shape) e) in
          let leads = entry_leads code good.0 node shape he.0 code.entries good.1.led he.1 in
          subst (λ (o : Option ℕ). Wp w (Later w n (Q (at_entry o around s))) (Set Third (row_address code shape) ∷ Alu reg.Add Second Second Third ∷ Look Second Second ∷ Enter Second ∷ []) e) (sym he.1)
          (looked (Later w n (Q (at_entry (Some he.0) around s))) shape (column_of code node) (entry_number code he.0) (label_of code he.0) e lt (column_inside code node good.1.place good.1.listed)
          (node_found code node shape good.1.place good.1.listed ∙ ap (node_word code) he.1) (sel.first_entry he.0 leads.item leads.stands) second
          (inl (went_code code w s.newest s.items (record { address = he.0; frame = around }) good.0 e1 e0.input e0.output (length e0.words)
          (record { newest_is = h.newest_is; top_is = h.top_is; memory = h.memory; bytes = h.bytes }) f leads good.2 (record { input_is = keeps.input_is; output_is = keeps.output_is; size_is = keeps.size_is }))))
      enters (datum v) e he h keeps second f good =
          let e1 = with_value Second (entry_word datum_entry) (with_value Third (row_address code shape) e) in
          looked (Later w n (Q (focused (value v) s))) shape 0 datum_entry datum_label e lt (omega arith) refl (sel.fixed 2 (omega arith)) second
          (inr (by_block w (Q (focused (value v) s)) datum_label (move Datum Frame ∷ Jump meet ∷ []) e1 n (sel.own 2 (omega arith)) (omega arith) (
            word_of v,
            moves e1.named.frame (word_of v) f (word_small v good),
            went_value code w s.newest s.items v (with_value Datum (word_of v) e1) e0.input e0.output (length e0.words) (record { newest_is = h.newest_is; top_is = h.top_is; memory = h.memory; bytes = h.bytes }) refl good
                (record { input_is = keeps.input_is; output_is = keeps.output_is; size_is = keeps.size_is }),
          )))
      enters (cell_of x) e he h keeps second f good =
          by (is_assignment code.assignment shape) refl
        where
          by : (b : Bool) → is_assignment code.assignment shape ≡ b
              → Wp w (Later w n (Q (cell_entered b own x s))) (Set Third (row_address code shape) ∷ Alu reg.Add Second Second Third ∷ Look Second Second ∷ Enter Second ∷ []) e
          by b is = cell_enters x e b is h keeps second f
      enters (sequence_of x) e he h keeps second f good = absurd he
      enters (jump_of x) e he h keeps second f good =
          let e1 = with_value Second (entry_word leave_entry) (with_value Third (row_address code shape) e) in
          looked (Later w n (Q (jumped (escape_at x s.items) s))) shape 2 leave_entry leave_label e lt (omega arith) refl (sel.fixed 5 (omega arith)) second
          (inr (wider w (Q (jumped (escape_at x s.items) s)) 90 n (record { rest = block w leave_label; held = e1 }) enough
          (left_at x e1 (record { newest_is = h.newest_is; top_is = h.top_is; memory = h.memory; bytes = h.bytes }) (record { input_is = keeps.input_is; output_is = keeps.output_is; size_is = keeps.size_is }) f (escape_at x s.items) refl)))
