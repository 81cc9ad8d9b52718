-- The block of an item does what the item does.
use Rattle.std.proofs.Common.{◌≡◌, ℕ, ◌+◌, ◌-◌, ◌*◌, ◌^◌, ◌<◌, ◌≤◌, List, [], ◌∷◌, ◌++◌, length, drop, Some, None, refl, sym, ap, ◌∙◌, subst, inl, inr, arith, length-append}
use Rattle.std.proofs.lemmas.Bool.{cond_both, le-leb}
use Rattle.std.proofs.lemmas.Option.{slice_get_within, get_or_from_slice_get}
use Rattle.std.proofs.lemmas.List.Elements.{All-drop}
use Rattle.std.specs.Prelude.{slice_get, nat_eq}
use Rattle.std.specs.Option.{ForSome}
use Rattle.std.specs.declared.option.Option.{Option}
use Rattle.fy_base.specs.Outside.{Bytes}
use Rattle.fy_base.specs.declared.data.Place.{Place}
use Rattle.fy_base.specs.declared.data.Datum.{Datum as DatumType}
use Rattle.fy_base.specs.declared.data.UnOp.{UnOp}
use Rattle.fy_base.specs.declared.data.BinOp.{BinOp}
use Rattle.fy_base.specs.declared.data.PutKind.{PutKind}
use Rattle.fy_phrase.specs.Contexts.{op_1, op_l, if_c, case_c, arg_c, pick_c, then_c, assign_c, store_c, while_c, loop_c, new_c, put_c, esc_c, cells_c}
use Rattle.fy_phrase.specs.Copy.{byte_or_end}
use Rattle.pe_code.specs.declared.code.PeInsn.{PeInsn}
use Rattle.pe_code.specs.declared.code.PeInsn.TheVariants as insn
use Rattle.pe_code.specs.declared.code.Purpose.{Purpose}
use Rattle.pe_code.specs.declared.code.Purpose.TheVariants as purpose
use Rattle.pe_code.specs.declared.code.StraightPart.{StraightPart}
use Rattle.pe_code.specs.declared.code.PeCode.{PeCode}
use Rattle.pe_code.specs.Code.{item_at, body_of, straight_of}
use Rattle.pe_code.specs.Valid.{LeadsTo, IsThunkNode, IsSoundItem}
use Rattle.pe_frame.specs.Frames.{frame_words}
use Rattle.pe_machine.specs.States.{Pointer, Thunk, source, datum, code_at, value, PeContext}
use Rattle.pe_machine.specs.Step.{waiting}
use Rattle.pe_items.specs.Items.{to_thunk, to_escape, Item, frame, context, address_on, FoundContext, FoundFrame, frame_from, handed_by, ItemState}
use Rattle.pe_items.specs.Step as item
use Rattle.pe_items.specs.Step.{ItemMove, bind_meets, field_meets, accept_meets, taken, newest_of, with_variable, own_cell_set, executed}
use Rattle.rv_word.specs.declared.micros.Register.TheVariants.{Frame, Context, Top, Datum, First, Second, Third}
use Rattle.rv_word.specs.declared.micros.Micro.{Micro}
use Rattle.rv_word.specs.declared.micros.Micro.TheVariants.{Set, Window, Get, Save, Jump}
use Rattle.rv_word.specs.Word.{Data, Code, Led, word_address, taken_in, block}
use Rattle.rv_operators.specs.Operators.{word_of}
use Rattle.rv_operators.specs.Laws.{IsDatum}
use Rattle.rv_straight.specs.Laws.{AreInRange}
use Rattle.rv_straight.specs.Straight.{straight_code, fault_blocks}
use Rattle.rv_select.specs.Numbers.{meet, label_of, entry_number, entry_word, pop_entry, column_word, datum_column, escape_column, column_of}
use Rattle.rv_select.specs.Blocks.{move, reach, at_top, open_context, open_frame, bind, put_entry, purpose_block, main_block, again_block, blocks_of}
use Rattle.rv_select.specs.Layout.{word_in, frame_word, frames_from, column, payload, IsGoodThunk, ContextIsLaid, HasItems, HoldsItems}
use Rattle.rv_select.specs.Laws.{value_of}
use Rattle.rv_select.proofs.Runs.{Reach, Later, wider}
use Rattle.rv_select.proofs.Wp.{Wrote, Wp, with_value, any_step, by_blocks}
use Rattle.rv_select.proofs.Values.{moves, moves_on}
use Rattle.rv_select.proofs.Around.{frame_room, frames_more, thunk_deeper}
use Rattle.rv_select.proofs.Memory.{IsSameBelow, same_then, same_wrote, unwritten, hands_on, StandsAt, stands_at}
use Rattle.rv_select.proofs.SelectedCode.{IsSelected}
use Rattle.rv_select.proofs.ItemSteps.{Helpers, ComesTo, Follows}
use Rattle.rv_select.proofs.Landing.{AreBytes, Keeps, has_same, has_more, went_code, went_value, went_completed, no_room, opened, pushed, pushed_frame}
use Rattle.rv_select.proofs.Making.{open_length, framed, bound}
use Rattle.rv_select.proofs.Reaching.{frame_small, reach_length, reached}
use Rattle.rv_select.proofs.Indexing.{used}
use Rattle.rv_select.proofs.Evaluating.{IsAgain, goes_value, taken_by, goes_set, goes_for, runs_straight}

-- ---- a byte of input

byte_word : (o : Option ℕ) → taken_in o ≡ word_of (byte_or_end o)
byte_word None = refl
byte_word (Some b) = refl

byte_good : (o : Option ℕ) → ((b : ℕ) → o ≡ Some b → b < 256) → IsDatum (byte_or_end o)
byte_good None h = refl
byte_good (Some b) h = let small = h b refl in le-leb b (2 ^ 63 - 1) (omega arith)

first_small : (input : Bytes) → AreBytes input → (b : ℕ) → slice_get input 0 ≡ Some b → b < 256
first_small input h b is = subst (λ n. n < 256) (get_or_from_slice_get input 0 b 0 is) (h 0 0 (slice_get_within input 0 b is))

module _ (code : PeCode) (w : Code) (sel : IsSelected code w) (help : Helpers) where
  -- a thunk whose two words were saved behind the address of the context outside is the newest context's
  passed : (newest : ℕ) (is : List Item) (t : Thunk) (p : Pointer) (depth n v2 v3 : ℕ) (input output : Bytes) (size : ℕ) (m n1 n2 n3 : List ℕ) (e : Data) → HasItems code m is → AreBytes e.input
      → Wrote m n1 (address_on is + 1) (word_address newest) → Wrote n1 n2 (address_on is + 2) v2 → Wrote n2 n3 (address_on is + 3) v3 → v2 ≡ column_word (column code t) → v3 ≡ payload t → IsGoodThunk code (frames_from is) t
      → address_on is + 4 ≤ length m → e.words ≡ n3 → e.named.top ≡ word_address (address_on is) → e.named.frame ≡ frame_word p.frame → Keeps input output size e → LeadsTo code depth p.address → frames_from is p.frame ≡ Some depth
      → Wp w (Later w n (ComesTo code w (record { focus = code_at p; newest = address_on is; items = context (arg_c t) newest ∷ is }) input output size)) (open_context (label_of code p.address)) e
  passed newest is t p depth n v2 v3 input output size m n1 n2 n3 e h bytes w1 w2 w3 col pay good room words top f keeps leads deep =
      let same1 = same_wrote (address_on is) m n1 (address_on is + 1) (word_address newest) w1 (omega arith) in
      let same2 = same_wrote (address_on is) n1 n2 (address_on is + 2) v2 w2 (omega arith) in
      let same3 = same_wrote (address_on is) n2 n3 (address_on is + 3) v3 w3 (omega arith) in
      let out = unwritten n2 n3 (address_on is) 3 1 v3 (word_address newest) w3 (λ q. omega (arith, q)) (unwritten n1 n2 (address_on is) 2 1 v2 (word_address newest) w2 (λ q. omega (arith, q)) w1.here) in
      let two = unwritten n2 n3 (address_on is) 3 2 v3 (column_word (column code t)) w3 (λ q. omega (arith, q)) (w2.here ∙ col) in
      let same = same_then (address_on is) m n2 n3 (same_then (address_on is) m n1 n2 same1 same2) same3 in
      opened code w sel help newest is (arg_c t) p depth n input output size m e h
      (subst (λ (k : List ℕ). IsSameBelow (address_on is) m k) (sym words) same)
      (subst (λ (k : List ℕ). ContextIsLaid code k is (arg_c t) newest) (sym words) (record { outside_is = out; parts = (two, w3.here ∙ pay, good) }))
      room top f bytes keeps leads deep

  module _ (s : ItemState) (e : Data) (h : HoldsItems code s.newest s.items e) (here : Pointer) (d : ℕ) (at : Place) (f : e.named.frame ≡ frame_word here.frame) (deep : frames_from s.items here.frame ≡ Some d) (most : d ≤ 512) (c : ℕ) (enough : 600 ≤ c) where
    abbrev pub Stands : PeInsn → Type 0
    Stands i = item_at code here.address ≡ Some (record { insn = i; depth = d; place = at })

    abbrev pub Sound : PeInsn → Type 0
    Sound i = IsSoundItem code (record { insn = i; depth = d; place = at })

    abbrev Q : ItemMove → Led → Type 0
    Q mv = Follows code w e mv

    abbrev Runs : ItemMove → Type 0
    Runs mv = Reach w (Q mv) (300 + c) (record { rest = block w (label_of code here.address); held = e })

    -- where nothing is said
    none : Runs item.sticks
    none = wider w (Q item.sticks) 9 (300 + c) (record { rest = block w (label_of code here.address); held = e }) (omega arith) (any_step w (Q item.sticks) (record { rest = block w (label_of code here.address); held = e }) (λ r. tt))

    runs_by : (mv : ItemMove) (ops : List Micro) → block w (label_of code here.address) ≡ ops → length ops ≤ 24 → Wp w (Later w (c) (Q mv)) ops e → Runs mv
    runs_by mv ops is short h = by_blocks w (Q mv) (label_of code here.address) ops e (c) (300 + c) is (omega arith) h

    -- ---- pushes

    runs_op_1 : (op : UnOp) (x : ℕ) → Stands (insn.Op1 op x) → Sound (insn.Op1 op x) → Runs (executed code (insn.Op1 op x) d at here s)
    runs_op_1 op x stands sound =
        runs_by (executed code (insn.Op1 op x) d at here s) (main_block code here.address d (insn.Op1 op x)) (sel.main here.address _ stands) (omega arith)
        (pushed code w sel help s.newest s.items (op_1 op at) (record here { address = x }) d (c) (entry_number code here.address + 1) e (omega arith) h f (sound.beside_it 0 0 (omega arith)) deep
        (λ w2 w3. (here.address, d, x, record { stands = stands; entry = refl })))

    runs_op_2 : (op : BinOp) (x y : ℕ) → Stands (insn.Op2 op x y) → Sound (insn.Op2 op x y) → Runs (executed code (insn.Op2 op x y) d at here s)
    runs_op_2 op x y stands sound =
        runs_by (executed code (insn.Op2 op x y) d at here s) (main_block code here.address d (insn.Op2 op x y)) (sel.main here.address _ stands) (omega arith)
        (pushed_frame code w sel help s.newest s.items (op_l op (record here { address = y }) at) (record here { address = x }) d (c) (entry_number code here.address + 1) e (omega arith) h f (sound.beside_it 0 0 (omega arith)) deep
        (λ w3. (here.address, d, x, record { entry = record { stands = stands; entry = refl }; deep = deep; frame = refl })))

    runs_cond : (x y z : ℕ) → Stands (insn.Cond x y z) → Sound (insn.Cond x y z) → Runs (executed code (insn.Cond x y z) d at here s)
    runs_cond x y z stands sound =
        runs_by (executed code (insn.Cond x y z) d at here s) (main_block code here.address d (insn.Cond x y z)) (sel.main here.address _ stands) (omega arith)
        (pushed_frame code w sel help s.newest s.items (if_c (record here { address = y }) (record here { address = z })) (record here { address = x }) d (c) (entry_number code here.address + 1) e (omega arith) h f
        (sound.beside_it 0 0 (omega arith)) deep
        (λ w3. (here.address, d, x, at, record { entry = record { stands = stands; entry = refl }; deep = deep; frame = refl }, refl)))

    runs_case : (x : ℕ) (ys : List ℕ) → Stands (insn.Case x ys) → Sound (insn.Case x ys) → Runs (executed code (insn.Case x ys) d at here s)
    runs_case x ys stands sound =
        runs_by (executed code (insn.Case x ys) d at here s) (main_block code here.address d (insn.Case x ys)) (sel.main here.address _ stands) (omega arith)
        (pushed_frame code w sel help s.newest s.items (case_c here at) (record here { address = x }) d (c) (entry_number code here.address + 1) e (omega arith) h f (sound.beside_it 0 0 (omega arith)) deep
        (λ w3. (d, x, ys, record { entry = record { stands = stands; entry = refl }; deep = deep; frame = refl })))

    runs_seq : (x y : ℕ) → Stands (insn.Seq x y) → Sound (insn.Seq x y) → Runs (executed code (insn.Seq x y) d at here s)
    runs_seq x y stands sound =
        runs_by (executed code (insn.Seq x y) d at here s) (main_block code here.address d (insn.Seq x y)) (sel.main here.address _ stands) (omega arith)
        (pushed_frame code w sel help s.newest s.items (then_c (record here { address = y })) (record here { address = x }) d (c) (entry_number code here.address + 1) e (omega arith) h f (sound.beside_it 0 0 (omega arith)) deep
        (λ w3. (here.address, d, x, at, record { entry = record { stands = stands; entry = refl }; deep = deep; frame = refl })))

    runs_assign : (x y : ℕ) → Stands (insn.Assign x y) → Sound (insn.Assign x y) → Runs (executed code (insn.Assign x y) d at here s)
    runs_assign x y stands sound =
        runs_by (executed code (insn.Assign x y) d at here s) (main_block code here.address d (insn.Assign x y)) (sel.main here.address _ stands) (omega arith)
        (pushed_frame code w sel help s.newest s.items (assign_c (record here { address = x })) (record here { address = y }) d (c) (entry_number code here.address + 1) e (omega arith) h f (sound.beside_it 1 0 (omega arith)) deep
        (λ w3. (here.address, d, y, at, record { entry = record { stands = stands; entry = refl }; deep = deep; frame = refl })))

    runs_while : (x y : ℕ) → Stands (insn.While x y) → Sound (insn.While x y) → Runs (executed code (insn.While x y) d at here s)
    runs_while x y stands sound =
        runs_by (executed code (insn.While x y) d at here s) (main_block code here.address d (insn.While x y)) (sel.main here.address _ stands) (omega arith)
        (pushed_frame code w sel help s.newest s.items (while_c here (record here { address = y })) (record here { address = x }) d (c) (entry_number code here.address + 1) e (omega arith) h f (sound.beside_it 0 0 (omega arith)) deep
        (λ w3. (d, x, at, record { entry = record { stands = stands; entry = refl }; deep = deep; frame = refl }, refl)))

    runs_loop : (x : ℕ) → Stands (insn.Loop x) → Sound (insn.Loop x) → Runs (executed code (insn.Loop x) d at here s)
    runs_loop x stands sound =
        runs_by (executed code (insn.Loop x) d at here s) (main_block code here.address d (insn.Loop x)) (sel.main here.address _ stands) (omega arith)
        (pushed_frame code w sel help s.newest s.items (loop_c here) (record here { address = x }) d (c) (entry_number code here.address + 1) e (omega arith) h f (sound.beside_it 0 0 (omega arith)) deep
        (λ w3. (d, x, at, record { entry = record { stands = stands; entry = refl }; deep = deep; frame = refl })))

    runs_new : (x y : ℕ) → Stands (insn.New x y) → Sound (insn.New x y) → Runs (executed code (insn.New x y) d at here s)
    runs_new x y stands sound =
        runs_by (executed code (insn.New x y) d at here s) (main_block code here.address d (insn.New x y)) (sel.main here.address _ stands) (omega arith)
        (pushed_frame code w sel help s.newest s.items (new_c d (record here { address = y })) (record here { address = x }) d (c) (entry_number code here.address + 1) e (omega arith) h f (sound.beside_it 0 0 (omega arith)) deep
        (λ w3. (here.address, x, at, record { entry = record { stands = stands; entry = refl }; deep = deep; frame = refl })))

    runs_cells : (x y : ℕ) → Stands (insn.Cells x y) → Sound (insn.Cells x y) → Runs (executed code (insn.Cells x y) d at here s)
    runs_cells x y stands sound =
        runs_by (executed code (insn.Cells x y) d at here s) (main_block code here.address d (insn.Cells x y)) (sel.main here.address _ stands) (omega arith)
        (pushed_frame code w sel help s.newest s.items (cells_c d (record here { address = y }) at) (record here { address = x }) d (c) (entry_number code here.address + 1) e (omega arith) h f (sound.beside_it 0 0 (omega arith)) deep
        (λ w3. (here.address, x, record { entry = record { stands = stands; entry = refl }; deep = deep; frame = refl })))

    runs_put : (kind : PutKind) (x : ℕ) → Stands (insn.Put kind x) → Sound (insn.Put kind x) → Runs (executed code (insn.Put kind x) d at here s)
    runs_put kind x stands sound =
        runs_by (executed code (insn.Put kind x) d at here s) (main_block code here.address d (insn.Put kind x)) (sel.main here.address _ stands) (omega arith)
        (pushed code w sel help s.newest s.items (put_c kind) (record here { address = x }) d (c) (put_entry kind) e (omega arith) h f (sound.beside_it 0 0 (omega arith)) deep (λ w2 w3. refl))

    -- ---- contexts that are never met

    runs_pick : (i x : ℕ) → Stands (insn.Pick i x) → Sound (insn.Pick i x) → Runs (executed code (insn.Pick i x) d at here s)
    runs_pick i x stands sound =
        let x' = address_on s.items in
        runs_by (executed code (insn.Pick i x) d at here s) (main_block code here.address d (insn.Pick i x)) (sel.main here.address _ stands) (omega arith) (
          x',
          h.top_is,
          λ lt. no_room code w sel help (record { focus = code_at (record here { address = x }); newest = x'; items = context (pick_c i) s.newest ∷ s.items }) e.input e.output (length e.words) (c) e (omega arith) refl (omega arith),
          λ le. (
            x',
            h.top_is,
            le,
            (
              x',
              h.top_is,
              omega arith,
              λ n1 w1. opened code w sel help s.newest s.items (pick_c i) (record here { address = x }) d (c) e.input e.output (length e.words) e.words (record e { words = n1 }) h.memory
                  (same_wrote x' e.words n1 (x' + 1) e.named.context w1 (omega arith)) (record { outside_is = w1.here ∙ h.newest_is; parts = tt }) le h.top_is f h.bytes (record { input_is = refl; output_is = refl; size_is = w1.size })
                  (sound.beside_it 0 0 (omega arith)) deep,
            ),
          ),
        )

    runs_pass : (n y : ℕ) → Stands (insn.Pass n y) → Sound (insn.Pass n y) → Runs (executed code (insn.Pass n y) d at here s)
    runs_pass n y stands sound =
        let x' = address_on s.items in
        let col = column_word (column_of code n) in
        runs_by (executed code (insn.Pass n y) d at here s) (main_block code here.address d (insn.Pass n y)) (sel.main here.address _ stands) (omega arith) (
          x',
          h.top_is,
          λ lt. no_room code w sel help (record { focus = code_at (record here { address = y }); newest = x'; items = context (arg_c (source n here.frame)) s.newest ∷ s.items }) e.input e.output (length e.words) (c) e (omega arith) refl (omega arith),
          λ le. (
            x',
            h.top_is,
            le,
            (
              x',
              h.top_is,
              omega arith,
              λ n1 w1. (
                x',
                h.top_is,
                (let z = w1.size in omega arith),
                λ n2 w2. (
                  x',
                  h.top_is,
                  (let z = w1.size in let y = w2.size in omega arith),
                  λ n3 w3. passed s.newest s.items (source n here.frame) (record here { address = y }) d (c) col e.named.frame e.input e.output (length e.words) e.words n1 n2 n3 (record (with_value First col e) { words = n3 }) h.memory h.bytes
                      (subst (λ v. Wrote e.words n1 (x' + 1) v) h.newest_is w1) w2 w3 refl f (d, sound.thunk n refl, deep) le refl h.top_is f (record { input_is = refl; output_is = refl; size_is = w3.size ∙ w2.size ∙ w1.size })
                      (sound.beside_it 0 0 (omega arith)) deep,
                ),
              ),
            ),
          ),
        )

    passvar_found : (k y : ℕ) (g : FoundFrame) → frame_from s.items k here.frame ≡ Some g → Stands (insn.PassVar k y) → Sound (insn.PassVar k y)
        → Runs (item.pushed (arg_c (handed_by g)) (record here { address = y }) s)
    passvar_found k y g found stands sound =
        let x' = address_on s.items in
        let rest = Window First 2 ∷ Get Second First 0 ∷ Get Third First 1 ∷ at_top ++ (Save Top 1 Context ∷ Save Top 2 Second ∷ Save Top 3 Third ∷ open_context (label_of code y)) in
        let hands = hands_on code e.words s.items k here.frame g found h.memory.laid in
        let inside = hands.within in
        let fits = h.memory.fits in
        let col = column_word (column code (handed_by g)) in
        let pay = payload (handed_by g) in
        let e1 = with_value Third pay (with_value Second col (with_value First (word_address g.address) e)) in
        runs_by (item.pushed (arg_c (handed_by g)) (record here { address = y }) s) (reach k ++ rest) (sel.main here.address _ stands) (let a = reach_length k in let b = length-append (reach k) rest in omega arith)
        (reached code w (Later w (c) (Q (item.pushed (arg_c (handed_by g)) (record here { address = y }) s))) rest s.items k d here.frame g e h.memory f deep (sound.variable k refl) found (
          g.address,
          refl,
          omega arith,
          (
            g.address,
            col,
            refl,
            omega arith,
            hands.column_is,
            (
              g.address,
              pay,
              refl,
              omega arith,
              hands.payload_is,
              (
                x',
                h.top_is,
                λ lt. no_room code w sel help (record { focus = code_at (record here { address = y }); newest = x'; items = context (arg_c (handed_by g)) s.newest ∷ s.items }) e.input e.output (length e.words) (c) e1 (omega arith) refl (omega arith),
                λ le. (
                  x',
                  h.top_is,
                  le,
                  (
                    x',
                    h.top_is,
                    omega arith,
                    λ n1 w1. (
                      x',
                      h.top_is,
                      (let z = w1.size in omega arith),
                      λ n2 w2. (
                        x',
                        h.top_is,
                        (let z = w1.size in let y = w2.size in omega arith),
                        λ n3 w3. passed s.newest s.items (handed_by g) (record here { address = y }) d (c) col pay e.input e.output (length e.words) e.words n1 n2 n3 (record e1 { words = n3 }) h.memory h.bytes
                            (subst (λ v. Wrote e.words n1 (x' + 1) v) h.newest_is w1) w2 w3 refl refl hands.good le refl h.top_is f (record { input_is = refl; output_is = refl; size_is = w3.size ∙ w2.size ∙ w1.size })
                            (sound.beside_it 0 0 (omega arith)) deep,
                      ),
                    ),
                  ),
                ),
              ),
            ),
          ),
        ))

    runs_passvar : (k y : ℕ) (o : Option FoundFrame) → frame_from s.items k here.frame ≡ o → Stands (insn.PassVar k y) → Sound (insn.PassVar k y)
        → Runs (with_variable o (λ t. item.pushed (arg_c t) (record here { address = y }) s))
    runs_passvar k y None found stands sound = none
    runs_passvar k y (Some g) found stands sound = passvar_found k y g found stands sound

    runs_passdata : (v : DatumType) (y : ℕ) → IsDatum v → Stands (insn.PassData v y) → Sound (insn.PassData v y) → Runs (executed code (insn.PassData v y) d at here s)
    runs_passdata v y good stands sound =
        let x' = address_on s.items in
        let e1 = with_value Second (word_of v) (with_value First (column_word datum_column) e) in
        runs_by (executed code (insn.PassData v y) d at here s) (main_block code here.address d (insn.PassData v y)) (sel.main here.address _ stands) (omega arith) (
          x',
          h.top_is,
          λ lt. no_room code w sel help (record { focus = code_at (record here { address = y }); newest = x'; items = context (arg_c (datum v)) s.newest ∷ s.items }) e.input e.output (length e.words) (c) e (omega arith) refl (omega arith),
          λ le. (
            x',
            h.top_is,
            le,
            (
              x',
              h.top_is,
              omega arith,
              λ n1 w1. (
                x',
                h.top_is,
                (let z = w1.size in omega arith),
                λ n2 w2. (
                  x',
                  h.top_is,
                  (let z = w1.size in let y = w2.size in omega arith),
                  λ n3 w3. passed s.newest s.items (datum v) (record here { address = y }) d (c) (column_word datum_column) (word_of v) e.input e.output (length e.words) e.words n1 n2 n3 (record e1 { words = n3 }) h.memory h.bytes
                      (subst (λ u. Wrote e.words n1 (x' + 1) u) h.newest_is w1) w2 w3 refl refl good le refl h.top_is f (record { input_is = refl; output_is = refl; size_is = w3.size ∙ w2.size ∙ w1.size })
                      (sound.beside_it 0 0 (omega arith)) deep,
                ),
              ),
            ),
          ),
        )

    runs_read : (x : ℕ) → Stands (insn.Read x) → Sound (insn.Read x) → Runs (executed code (insn.Read x) d at here s)
    runs_read x stands sound =
        let x' = address_on s.items in
        let o = slice_get e.input 0 in
        let v = byte_or_end o in
        let e1 = record (with_value First (taken_in o) e) { input = drop 1 e.input } in
        runs_by (executed code (insn.Read x) d at here s) (main_block code here.address d (insn.Read x)) (sel.main here.address _ stands) (omega arith) (
          x',
          h.top_is,
          λ lt. no_room code w sel help (record { focus = code_at (record here { address = x }); newest = address_on s.items; items = context (store_c (byte_or_end (slice_get e.input 0))) s.newest ∷ s.items }) (drop 1 e.input) e.output (length e.words) (c) e (omega arith) refl (omega arith),
          λ le. (
            x',
            h.top_is,
            le,
            (
              x',
              h.top_is,
              omega arith,
              λ n1 w1. (
                x',
                h.top_is,
                (let z = w1.size in omega arith),
                λ n2 w2.
                    let same1 = same_wrote x' e.words n1 (x' + 1) e.named.context w1 (omega arith) in
                    let same2 = same_wrote x' n1 n2 (x' + 2) (taken_in o) w2 (omega arith) in
                    let out = unwritten n1 n2 x' 2 1 (taken_in o) (word_address s.newest) w2 (λ q. omega (arith, q)) (w1.here ∙ h.newest_is) in
                    opened code w sel help s.newest s.items (store_c v) (record here { address = x }) d (c) (drop 1 e.input) e.output (length e.words) e.words (record e1 { words = n2 }) h.memory (same_then x' e.words n1 n2 same1 same2)
                    (record { outside_is = out; parts = (w2.here ∙ byte_word o, byte_good o (first_small e.input h.bytes)) }) le h.top_is f (All-drop (λ byte. byte < 256) 1 e.input h.bytes)
                    (record { input_is = refl; output_is = refl; size_is = w2.size ∙ w1.size }) (sound.beside_it 0 0 (omega arith)) deep,
              ),
            ),
          ),
        )

    -- ---- the newest context is taken

    bind_by : (y : ℕ) (k : PeContext) (outside : ℕ) (older : List Item) → StandsAt code e.words s.items s.newest (record { content = k; outside = outside; older = older }) → Stands (insn.Bind y) → Sound (insn.Bind y) → 109 + 16 * d ≤ c
        → Runs (bind_meets d y here.frame k (record s { newest = outside }))
    bind_by y (arg_c t) outside older found stands sound cost =
        let inside = found.within in
        let fits = h.memory.fits in
        let newest = h.newest_is ∙ ap word_address found.spot in
        let e1 = with_value Context (word_address outside) (with_value Second (payload t) (with_value First (column_word (column code t)) e)) in
        runs_by (bind_meets d y here.frame (arg_c t) (record s { newest = outside })) (main_block code here.address d (insn.Bind y)) (sel.main here.address _ stands) (let l = open_length d (label_of code y) (entry_number code y) in omega arith) (
          address_on older,
          newest,
          omega arith,
          (
            address_on older,
            column_word (column code t),
            newest,
            omega arith,
            found.here.parts.0,
            (
              address_on older,
              payload t,
              newest,
              omega arith,
              found.here.parts.1,
              (
                address_on older,
                word_address outside,
                newest,
                omega arith,
                found.here.outside_is,
                bound code w sel help outside s.items t d y (c) here.frame e1 (omega arith) (record { newest_is = refl; top_is = h.top_is; memory = h.memory; bytes = h.bytes }) f refl refl
                    (thunk_deeper code (frames_from older) (frames_from s.items) found.deeper t found.here.parts.2) deep most (sound.body y refl) (omega arith),
              ),
            ),
          ),
        )
    bind_by y _ outside older found stands sound cost = none

    runs_bind : (y : ℕ) (o : Option FoundContext) → newest_of s ≡ o → Stands (insn.Bind y) → Sound (insn.Bind y) → 109 + 16 * d ≤ c → Runs (taken (bind_meets d y here.frame) o s)
    runs_bind y None found stands sound cost = none
    runs_bind y (Some k) found stands sound cost = bind_by y k.content k.outside k.older (stands_at code e.words s.items s.newest k found h.memory.laid) stands sound cost

    accept_by : (y : ℕ) (k : PeContext) (outside : ℕ) (older : List Item) → StandsAt code e.words s.items s.newest (record { content = k; outside = outside; older = older }) → Stands (insn.Accept y) → Sound (insn.Accept y) → 109 + 16 * d ≤ c
        → Runs (accept_meets d y here.frame k (record s { newest = outside }))
    accept_by y (store_c v) outside older found stands sound cost =
        let inside = found.within in
        let fits = h.memory.fits in
        let newest = h.newest_is ∙ ap word_address found.spot in
        let e1 = with_value First (column_word datum_column) (with_value Context (word_address outside) (with_value Second (word_of v) e)) in
        runs_by (accept_meets d y here.frame (store_c v) (record s { newest = outside })) (main_block code here.address d (insn.Accept y)) (sel.main here.address _ stands) (let l = open_length d (label_of code y) (entry_number code y) in omega arith) (
          address_on older,
          newest,
          omega arith,
          (
            address_on older,
            word_of v,
            newest,
            omega arith,
            found.here.parts.0,
            (
              address_on older,
              word_address outside,
              newest,
              omega arith,
              found.here.outside_is,
              bound code w sel help outside s.items (datum v) d y (c) here.frame e1 (omega arith) (record { newest_is = refl; top_is = h.top_is; memory = h.memory; bytes = h.bytes }) f refl refl
                  found.here.parts.1 deep most (sound.body y refl) (omega arith),
            ),
          ),
        )
    accept_by y _ outside older found stands sound cost = none

    runs_accept : (y : ℕ) (o : Option FoundContext) → newest_of s ≡ o → Stands (insn.Accept y) → Sound (insn.Accept y) → 109 + 16 * d ≤ c → Runs (taken (accept_meets d y here.frame) o s)
    runs_accept y None found stands sound cost = none
    runs_accept y (Some k) found stands sound cost = accept_by y k.content k.outside k.older (stands_at code e.words s.items s.newest k found h.memory.laid) stands sound cost

    field_by : (i x : ℕ) (k : PeContext) (outside : ℕ) (older : List Item) → StandsAt code e.words s.items s.newest (record { content = k; outside = outside; older = older }) → Stands (insn.Field i x) → Sound (insn.Field i x)
        → Runs (field_meets i (record here { address = x }) k (record s { newest = outside }))
    field_by i x (pick_c j) outside older found stands sound =
        let inside = found.within in
        let fits = h.memory.fits in
        let newest = h.newest_is ∙ ap word_address found.spot in
        cond_both (nat_eq i j) (item.focused (code_at (record here { address = x })) (record s { newest = outside })) item.sticks Runs
        (λ same. runs_by (item.focused (code_at (record here { address = x })) (record s { newest = outside })) (main_block code here.address d (insn.Field i x)) (sel.main here.address _ stands) (omega arith) (
          address_on older,
          newest,
          omega arith,
          (
            address_on older,
            word_address outside,
            newest,
            omega arith,
            found.here.outside_is,
            inl (went_code code w outside s.items (record here { address = x }) d (with_value Context (word_address outside) e) e.input e.output (length e.words)
                (record { newest_is = refl; top_is = h.top_is; memory = h.memory; bytes = h.bytes }) f (sound.beside_it 0 0 (omega arith)) deep (record { input_is = refl; output_is = refl; size_is = refl })),
          ),
        ))
        (λ other. none)
    field_by i x _ outside older found stands sound = none

    runs_field : (i x : ℕ) (o : Option FoundContext) → newest_of s ≡ o → Stands (insn.Field i x) → Sound (insn.Field i x) → Runs (taken (field_meets i (record here { address = x })) o s)
    runs_field i x None found stands sound = none
    runs_field i x (Some k) found stands sound = field_by i x k.content k.outside k.older (stands_at code e.words s.items s.newest k found h.memory.laid) stands sound

    -- ---- frames

    runs_let : (i : PeInsn) (n y : ℕ) → block w (label_of code here.address) ≡ Set First (column_word (column_of code n)) ∷ move Second Frame ∷ bind d (label_of code y) (entry_number code y)
        → IsThunkNode code d n → LeadsTo code (d + 1) y → 109 + 16 * d ≤ c → Runs (item.bound d (to_thunk (source n here.frame)) y here.frame s)
    runs_let i n y is node leads cost =
        let e1 = with_value Second (frame_word here.frame) (with_value First (column_word (column_of code n)) e) in
        runs_by (item.bound d (to_thunk (source n here.frame)) y here.frame s) (Set First (column_word (column_of code n)) ∷ move Second Frame ∷ bind d (label_of code y) (entry_number code y)) is
        (let l = open_length d (label_of code y) (entry_number code y) in omega arith) (
          frame_word here.frame,
          moves e.named.frame (frame_word here.frame) f (frame_small code e.words s.items here.frame d h.memory deep),
          bound code w sel help s.newest s.items (source n here.frame) d y (c) here.frame e1 (omega arith) (record { newest_is = h.newest_is; top_is = h.top_is; memory = h.memory; bytes = h.bytes }) f refl refl
              (d, node, deep) deep most leads (omega arith),
        )

    letvar_found : (k y : ℕ) (g : FoundFrame) → frame_from s.items k here.frame ≡ Some g → Stands (insn.LetVar k y) → Sound (insn.LetVar k y) → 109 + 16 * d ≤ c → Runs (item.bound d (to_thunk (handed_by g)) y here.frame s)
    letvar_found k y g found stands sound cost =
        let rest = Window First 2 ∷ Get Second First 1 ∷ Get First First 0 ∷ bind d (label_of code y) (entry_number code y) in
        let hands = hands_on code e.words s.items k here.frame g found h.memory.laid in
        let inside = hands.within in
        let fits = h.memory.fits in
        let col = column_word (column code (handed_by g)) in
        let pay = payload (handed_by g) in
        let e1 = with_value First col (with_value Second pay (with_value First (word_address g.address) e)) in
        runs_by (item.bound d (to_thunk (handed_by g)) y here.frame s) (reach k ++ rest) (sel.main here.address _ stands)
        (let a = reach_length k in let b = length-append (reach k) rest in let l = open_length d (label_of code y) (entry_number code y) in omega arith)
        (reached code w (Later w (c) (Q (item.bound d (to_thunk (handed_by g)) y here.frame s))) rest s.items k d here.frame g e h.memory f deep (sound.variable k refl) found (
          g.address,
          refl,
          omega arith,
          (
            g.address,
            pay,
            refl,
            omega arith,
            hands.payload_is,
            (
              g.address,
              col,
              refl,
              omega arith,
              hands.column_is,
              bound code w sel help s.newest s.items (handed_by g) d y (c) here.frame e1 (omega arith) (record { newest_is = h.newest_is; top_is = h.top_is; memory = h.memory; bytes = h.bytes }) f refl refl
                  hands.good deep most (sound.body y refl) (omega arith),
            ),
          ),
        ))

    runs_letvar : (k y : ℕ) (o : Option FoundFrame) → frame_from s.items k here.frame ≡ o → Stands (insn.LetVar k y) → Sound (insn.LetVar k y) → 109 + 16 * d ≤ c
        → Runs (with_variable o (λ t. item.bound d (to_thunk t) y here.frame s))
    runs_letvar k y None found stands sound cost = none
    runs_letvar k y (Some g) found stands sound cost = letvar_found k y g found stands sound cost

    runs_letdata : (v : DatumType) (y : ℕ) → IsDatum v → Stands (insn.LetData v y) → Sound (insn.LetData v y) → 109 + 16 * d ≤ c → Runs (executed code (insn.LetData v y) d at here s)
    runs_letdata v y good stands sound cost =
        let e1 = with_value Second (word_of v) (with_value First (column_word datum_column) e) in
        runs_by (executed code (insn.LetData v y) d at here s) (main_block code here.address d (insn.LetData v y)) (sel.main here.address _ stands) (let l = open_length d (label_of code y) (entry_number code y) in omega arith)
        (bound code w sel help s.newest s.items (datum v) d y (c) here.frame e1 (omega arith) (record { newest_is = h.newest_is; top_is = h.top_is; memory = h.memory; bytes = h.bytes }) f refl refl good deep most (sound.body y refl) (omega arith))

    runs_escape : (y : ℕ) → Stands (insn.Escape y) → Sound (insn.Escape y) → 109 + 16 * d ≤ c → Runs (executed code (insn.Escape y) d at here s)
    runs_escape y stands sound cost =
        let x1 = address_on s.items in
        let is2 = context (esc_c 0) s.newest ∷ s.items in
        let x2 = address_on is2 in
        let b = to_escape x1 in
        let few = h.memory.few in
        let enough = frame_room d in
        runs_by (executed code (insn.Escape y) d at here s) (main_block code here.address d (insn.Escape y)) (sel.main here.address _ stands) (let l = open_length d (label_of code y) (entry_number code y) in omega arith) (
          x1,
          h.top_is,
          λ lt. no_room code w sel help (record { focus = code_at (record { address = y; frame = Some (address_on (context (esc_c 0) s.newest ∷ s.items)) }); newest = address_on s.items; items = frame d (to_escape (address_on s.items)) here.frame ∷ context (esc_c 0) s.newest ∷ s.items })
              e.input e.output (length e.words) (c) e (omega arith) refl (omega arith),
          λ le. (
            x1,
            h.top_is,
            omega arith,
            (
              x1,
              h.top_is,
              omega arith,
              λ n1 w1. (
                x1,
                h.top_is,
                (let z = w1.size in omega arith),
                λ n2 w2. (
                  word_address x1,
                  moves e.named.top (word_address x1) h.top_is (omega arith),
                  (
                    word_address x2,
                    moves_on e.named.top x1 x2 32 h.top_is (omega arith) (omega arith),
                    (
                      x2,
                      refl,
                      (let z = w1.size in let y = w2.size in omega arith),
                      λ n3 w3. (
                        x2,
                        refl,
                        (let z = w1.size in let y = w2.size in let u = w3.size in omega arith),
                        λ n4 w4. (
                          x2,
                          refl,
                          (let z = w1.size in let y = w2.size in let u = w3.size in let v = w4.size in omega arith),
                          λ n5 w5. escaped y sound n1 n2 n3 n4 n5 w1 w2 w3 w4 w5 (omega arith),
                        ),
                      ),
                    ),
                  ),
                ),
              ),
            ),
          ),
        )
      where
        escaped : (y : ℕ) → Sound (insn.Escape y) → (n1 n2 n3 n4 n5 : List ℕ) → Wrote e.words n1 (address_on s.items + 0) (entry_word pop_entry) → Wrote n1 n2 (address_on s.items + 1) e.named.context
            → Wrote n2 n3 (address_on (context (esc_c 0) s.newest ∷ s.items) + 0) (column_word escape_column) → Wrote n3 n4 (address_on (context (esc_c 0) s.newest ∷ s.items) + 1) (word_address (address_on (context (esc_c 0) s.newest ∷ s.items)))
            → Wrote n4 n5 (address_on (context (esc_c 0) s.newest ∷ s.items) + 2) (word_address (address_on s.items)) → address_on (context (esc_c 0) s.newest ∷ s.items) + frame_words d ≤ length e.words
            → Wp w (Later w (c) (Q (executed code (insn.Escape y) d at here s))) (open_frame d (label_of code y) (entry_number code y))
            (record (with_value First (column_word escape_column) (with_value Top (word_address (address_on (context (esc_c 0) s.newest ∷ s.items))) (with_value Context (word_address (address_on s.items)) e))) { words = n5 })
        escaped y sound n1 n2 n3 n4 n5 w1 w2 w3 w4 w5 room =
            let x1 = address_on s.items in
            let is2 = context (esc_c 0) s.newest ∷ s.items in
            let x2 = address_on is2 in
            let enough = frame_room d in
            let same1 = same_wrote x1 e.words n1 (x1 + 0) (entry_word pop_entry) w1 (omega arith) in
            let same2 = same_wrote x1 n1 n2 (x1 + 1) e.named.context w2 (omega arith) in
            let here0 : word_in n2 x1 0 ≡ entry_word pop_entry = unwritten n1 n2 x1 1 0 e.named.context (entry_word pop_entry) w2 (λ q. omega (arith, q)) w1.here in
            let memory2 = has_more code s.items (esc_c 0) s.newest e.words n2 h.memory (same_then x1 e.words n1 n2 same1 same2) (record { outside_is = w2.here ∙ h.newest_is; parts = here0 }) (omega arith) in
            let same3 = same_wrote x2 n2 n3 (x2 + 0) (column_word escape_column) w3 (omega arith) in
            let same4 = same_wrote x2 n3 n4 (x2 + 1) (word_address x2) w4 (omega arith) in
            let same5 = same_wrote x2 n4 n5 (x2 + 2) (word_address x1) w5 (omega arith) in
            let same = same_then x2 n2 n4 n5 (same_then x2 n2 n3 n4 same3 same4) same5 in
            let size = w5.size ∙ w4.size ∙ w3.size ∙ w2.size ∙ w1.size in
            framed code w sel help x1 is2 (to_escape x1) y (c) e.input e.output (length e.words) d here.frame
            (record (with_value First (column_word escape_column) (with_value Top (word_address x2) (with_value Context (word_address x1) e))) { words = n5 })
            (record { newest_is = refl; top_is = refl; memory = has_same code is2 n2 n5 same memory2; bytes = h.bytes }) f
            (record {
              column_is = unwritten n4 n5 x2 2 0 (word_address x1) (column_word escape_column) w5 (λ q. omega (arith, q)) (unwritten n3 n4 x2 1 0 (word_address x2) (column_word escape_column) w4 (λ q. omega (arith, q)) w3.here);
              payload_is = unwritten n4 n5 x2 2 1 (word_address x1) (word_address x2) w5 (λ q. omega (arith, q)) w4.here;
              third = w5.here;
              below = (let lt : x1 < x2 = omega arith in lt);
              good = tt;
            })
            (frames_more (context (esc_c 0) s.newest) s.items here.frame d deep) most (sound.body y refl) (omega arith) (record { input_is = refl; output_is = refl; size_is = size }) (omega arith)

    -- ---- straight code

    runs_eval : (ss : List StraightPart) → Stands (insn.Eval ss) → Sound (insn.Eval ss) → AreInRange ss → Runs (executed code (insn.Eval ss) d at here s)
    runs_eval ss stands sound range =
        runs_straight code w sel help s e h here d f deep (record { insn = insn.Eval ss; depth = d; place = at }) (main_block code here.address d (insn.Eval ss) ∷ []) ss (Jump meet ∷ []) (λ v. item.focused (value v) s) 9 (300 + c) stands
        (sound.straight ss refl) range refl refl (omega arith) (omega arith) (λ v m k. goes_value code w sel help s e h here d f deep v m k)

    runs_set : (k : ℕ) (ss : List StraightPart) → Stands (insn.Set k ss) → Sound (insn.Set k ss) → AreInRange ss → Runs (executed code (insn.Set k ss) d at here s)
    runs_set k ss stands sound range =
        runs_straight code w sel help s e h here d f deep (record { insn = insn.Set k ss; depth = d; place = at }) (main_block code here.address d (insn.Set k ss) ∷ []) ss (taken_by code w sel help s e h here d f deep k)
        (λ v. own_cell_set (frame_from s.items k here.frame) v s) 63 (300 + c) stands (sound.straight ss refl) range refl refl (omega arith) (omega arith)
        (λ v m l. goes_set code w sel help s e h here d f deep k v m (sound.variable k refl) l)

    for_purpose : (ss : List StraightPart) (u : Purpose) (before : List (List Micro)) → Stands (insn.EvalFor ss u) → Sound (insn.EvalFor ss u) → AreInRange ss
        → main_block code here.address d (insn.EvalFor ss u) ≡ straight_code ss 0 (label_of code here.address + length before) ++ purpose_block code here.address d u → blocks_of code here.address d (insn.EvalFor ss u) ≡ before ++ fault_blocks ss
        → IsAgain code w sel help s e h here d f deep u → Runs (executed code (insn.EvalFor ss u) d at here s)
    for_purpose ss u before stands sound range main blocks again =
        runs_straight code w sel help s e h here d f deep (record { insn = insn.EvalFor ss u; depth = d; place = at }) before ss (purpose_block code here.address d u) (λ v. item.datum_meets code v (waiting u here) s) 609 (300 + c) stands
        (sound.straight ss refl) range main blocks (omega arith) (omega arith) (λ v m k. goes_for code w sel help s e h here d f deep u v m k sound.beside_it again)

    runs_for : (ss : List StraightPart) (u : Purpose) → Stands (insn.EvalFor ss u) → Sound (insn.EvalFor ss u) → AreInRange ss → Runs (executed code (insn.EvalFor ss u) d at here s)
    runs_for ss (purpose.Repeat y) stands sound range =
        for_purpose ss (purpose.Repeat y) (main_block code here.address d (insn.EvalFor ss (purpose.Repeat y)) ∷ again_block code here.address d ∷ []) stands sound range refl refl
        (λ w3. inr (d, y, ss, at, record { entry = record { stands = stands; entry = refl }; deep = deep; frame = refl }))
    runs_for ss (purpose.Choose y z) stands sound range = for_purpose ss (purpose.Choose y z) (main_block code here.address d (insn.EvalFor ss (purpose.Choose y z)) ∷ []) stands sound range refl refl tt
    runs_for ss (purpose.Store x) stands sound range = for_purpose ss (purpose.Store x) (main_block code here.address d (insn.EvalFor ss (purpose.Store x)) ∷ []) stands sound range refl refl tt
    runs_for ss (purpose.Write kind) stands sound range = for_purpose ss (purpose.Write kind) (main_block code here.address d (insn.EvalFor ss (purpose.Write kind)) ∷ []) stands sound range refl refl tt

    -- ---- all of them

    pub runs : (i : PeInsn) → Stands i → Sound i → ForSome (value_of i) IsDatum → ForSome (straight_of i) AreInRange → ((y : ℕ) → body_of i ≡ Some y → 109 + 16 * d ≤ c) → Runs (executed code i d at here s)
    runs (insn.UseVar k shape) stands sound good range cost =
        wider w (Q (executed code (insn.UseVar k shape) d at here s)) 400 (300 + c) (record { rest = block w (label_of code here.address); held = e }) (omega arith)
        (used code w sel help s e k shape d (label_of code here.address) here.frame h f deep (sound.variable k refl) (sound.shape shape refl) (sel.main here.address _ stands))
    runs (insn.Answer v) stands sound good range cost =
        runs_by (executed code (insn.Answer v) d at here s) (main_block code here.address d (insn.Answer v)) (sel.main here.address _ stands) (omega arith)
        (inl (went_value code w s.newest s.items v (with_value Datum (word_of v) e) e.input e.output (length e.words) (record { newest_is = h.newest_is; top_is = h.top_is; memory = h.memory; bytes = h.bytes }) refl (good v refl)
        (record { input_is = refl; output_is = refl; size_is = refl })))
    runs (insn.Op1 op x) stands sound good range cost = runs_op_1 op x stands sound
    runs (insn.Op2 op x y) stands sound good range cost = runs_op_2 op x y stands sound
    runs (insn.Cond x y z) stands sound good range cost = runs_cond x y z stands sound
    runs (insn.Case x ys) stands sound good range cost = runs_case x ys stands sound
    runs (insn.Bind y) stands sound good range cost = runs_bind y (newest_of s) refl stands sound (cost y refl)
    runs (insn.Pass n y) stands sound good range cost = runs_pass n y stands sound
    runs (insn.PassVar k y) stands sound good range cost = runs_passvar k y (frame_from s.items k here.frame) refl stands sound
    runs (insn.PassData v y) stands sound good range cost = runs_passdata v y (good v refl) stands sound
    runs (insn.Field i x) stands sound good range cost = runs_field i x (newest_of s) refl stands sound
    runs (insn.Pick i x) stands sound good range cost = runs_pick i x stands sound
    runs (insn.Let n y) stands sound good range cost = runs_let (insn.Let n y) n y (sel.main here.address _ stands) (sound.thunk n refl) (sound.body y refl) (cost y refl)
    runs (insn.LetVar k y) stands sound good range cost = runs_letvar k y (frame_from s.items k here.frame) refl stands sound (cost y refl)
    runs (insn.LetData v y) stands sound good range cost = runs_letdata v y (good v refl) stands sound (cost y refl)
    runs (insn.Knot n y) stands sound good range cost = runs_let (insn.Knot n y) n y (sel.main here.address _ stands) (sound.thunk n refl) (sound.body y refl) (cost y refl)
    runs insn.Done stands sound good range cost =
        runs_by (executed code insn.Done d at here s) (main_block code here.address d insn.Done) (sel.main here.address _ stands) (omega arith)
        (inl (went_completed code w s.newest s.items e e.input e.output (length e.words) h (record { input_is = refl; output_is = refl; size_is = refl })))
    runs (insn.Seq x y) stands sound good range cost = runs_seq x y stands sound
    runs (insn.Assign x y) stands sound good range cost = runs_assign x y stands sound
    runs (insn.While x y) stands sound good range cost = runs_while x y stands sound
    runs (insn.Loop x) stands sound good range cost = runs_loop x stands sound
    runs (insn.New x y) stands sound good range cost = runs_new x y stands sound
    runs (insn.Cells x y) stands sound good range cost = runs_cells x y stands sound
    runs (insn.Escape y) stands sound good range cost = runs_escape y stands sound (cost y refl)
    runs (insn.Accept y) stands sound good range cost = runs_accept y (newest_of s) refl stands sound (cost y refl)
    runs (insn.Put kind x) stands sound good range cost = runs_put kind x stands sound
    runs (insn.Read x) stands sound good range cost = runs_read x stands sound
    runs (insn.Eval ss) stands sound good range cost = runs_eval ss stands sound (range ss refl)
    runs (insn.Set k ss) stands sound good range cost = runs_set k ss stands sound (range ss refl)
    runs (insn.EvalFor ss u) stands sound good range cost = runs_for ss u stands sound (range ss refl)
