-- How items stand for the frames and contexts of the push-enter machine.
use Rattle.std.proofs.Common.{ℕ, ◌+◌, ◌*◌, ◌<◌, ◌≤◌, ◌≡◌, ◌⊎◌, Bool, List, [], ◌∷◌, length, replicate, Option, Some, None}
use Rattle.std.specs.Prelude.{pos}
use Rattle.fy_base.specs.declared.data.Place.{Place}
use Rattle.fy_base.specs.declared.data.Datum.{Datum}
use Rattle.fy_base.specs.declared.data.Datum.TheVariants as datum_kind
use Rattle.fy_base.specs.declared.data.UnOp.{UnOp}
use Rattle.fy_base.specs.declared.data.BinOp.{BinOp}
use Rattle.fy_base.specs.declared.data.PutKind.{PutKind}
use Rattle.fy_phrase.specs.Contexts.{op_1, op_l, op_r, if_c, case_c, arg_c, pick_c, then_c, assign_c, store_c, while_c, body_c, loop_c, new_c, drop_c, put_c, esc_c, cells_c, fill_c, element_c}
use Rattle.fy_phrase.specs.Copy.{Which, own, element}
use Rattle.pe_frame.specs.Frames.{words_of_context}
use Rattle.pe_machine.specs.States.{Thunk, source, datum, cell_of, jump_of, sequence_of, Sequence, Binding, to_thunk, to_cell, to_escape, to_sequence, Frame, Focus, code_at, value, completed, PeContext, Held, PeState, handed_on}
use Rattle.pe_machine.specs.Sound.{IsNumbered}
use Rattle.pe_items.specs.Items as items
use Rattle.pe_items.specs.Items.{ItemBinding, Item, frame, context, sequence, words, address_on, FoundFrame, handed_by, ItemState}

-- the words, and two more for each item
abbrev pub cost : List Item → ℕ
cost is = words is + 2 * length is

-- ---- frames by their numbers and by their addresses

-- which frames are meant: all, or those that hold an escape
pub data Sort : Type 0 where
  any_frame : Sort
  escape_frame : Sort

abbrev pub Fits : Sort → Binding → Type 0
Fits any_frame b = Unit {0}
Fits escape_frame (to_thunk t) = ⊥
Fits escape_frame (to_cell v) = ⊥
Fits escape_frame to_escape = Unit {0}
Fits escape_frame (to_sequence c) = ⊥

-- frame n is of the sort, and stands at address x
abbrev pub IsAt : Sort → List Frame → List Item → ℕ → ℕ → Type 0
IsAt k fs (context content outside ∷ is) n x = IsAt k fs is n x
IsAt k fs (sequence c ∷ is) n x = IsAt k fs is n x
IsAt k [] [] n x = ⊥
IsAt k (f ∷ fs) [] n x = ⊥
IsAt k [] (frame depth binding around ∷ is) n x = ⊥
IsAt k (f ∷ fs) (frame depth binding around ∷ is) n x =
    ((n ≡ f.number) × (x ≡ address_on is) × Fits k f.binding) ⊎ ((n < f.number) × (x < address_on is) × IsAt k fs is n x)

-- no frame is named, or one is by its number and by its address
abbrev pub AreAt : List Frame → List Item → Option ℕ → Option ℕ → Type 0
AreAt fs is None None = Unit {0}
AreAt fs is (Some n) (Some x) = IsAt any_frame fs is n x
AreAt fs is None (Some x) = ⊥
AreAt fs is (Some n) None = ⊥

-- a frame that binds a sequence, and on the stack the thunk that names the sequence by the address of its context
abbrev pub Sits : Binding → ItemBinding → ℕ → Type 0
Sits (to_sequence c) (items.to_thunk (sequence_of y)) x = x ≡ y
Sits b u x = ⊥

-- frame n binds a sequence, which stands on the context at address x
abbrev pub IsSequenceAt : List Frame → List Item → ℕ → ℕ → Type 0
IsSequenceAt fs (context content outside ∷ is) n x = IsSequenceAt fs is n x
IsSequenceAt fs (sequence c ∷ is) n x = IsSequenceAt fs is n x
IsSequenceAt [] [] n x = ⊥
IsSequenceAt (f ∷ fs) [] n x = ⊥
IsSequenceAt [] (frame depth binding around ∷ is) n x = ⊥
IsSequenceAt (f ∷ fs) (frame depth binding around ∷ is) n x = ((n ≡ f.number) × Sits f.binding binding x) ⊎ ((n < f.number) × IsSequenceAt fs is n x)

-- a cell of a frame, or one of its sequence
abbrev pub IsCellAt : Which → List Frame → List Item → ℕ → ℕ → Type 0
IsCellAt own fs is n x = IsAt any_frame fs is n x
IsCellAt (element i) fs is n x = IsSequenceAt fs is n x

-- ---- what names frames

pub data ThunkStands (fs : List Frame) (is : List Item) : Thunk → Thunk → Type 0 where
  a_source : {node : ℕ} {r x : Option ℕ} → AreAt fs is r x → ThunkStands fs is (source node r) (source node x)
  a_datum : {v : Datum} → ThunkStands fs is (datum v) (datum v)
  a_cell : {n x : ℕ} → IsAt any_frame fs is n x → ThunkStands fs is (cell_of n) (cell_of x)
  a_jump : {n x : ℕ} → IsAt escape_frame fs is n x → ThunkStands fs is (jump_of n) (jump_of x)
  a_sequence : {n x : ℕ} → IsSequenceAt fs is n x → ThunkStands fs is (sequence_of n) (sequence_of x)

-- what a variable hands on; where the push-enter machine finds no frame, anything may be found
pub data VariableStands (fs : List Frame) (is : List Item) : Option Frame → Option FoundFrame → Type 0 where
  no_variable : {o : Option FoundFrame} → VariableStands fs is None o
  a_variable : {f : Frame} {g : FoundFrame} → ThunkStands fs is (handed_on f.number f.binding) (handed_by g) → VariableStands fs is (Some f) (Some g)

-- a context's parts are at the same addresses of the code, in the same frames
pub data ContextStands (fs : List Frame) (is : List Item) : PeContext → PeContext → Type 0 where
  at_op_1 : {op : UnOp} {at : Place} → ContextStands fs is (op_1 op at) (op_1 op at)
  at_op_l : {op : BinOp} {at : Place} {a : ℕ} {r x : Option ℕ} → AreAt fs is r x →
      ContextStands fs is (op_l op (record { address = a; frame = r }) at) (op_l op (record { address = a; frame = x }) at)
  at_op_r : {op : BinOp} {u : Datum} {at : Place} → ContextStands fs is (op_r op u at) (op_r op u at)
  at_if : {a b : ℕ} {r x q y : Option ℕ} → AreAt fs is r x → AreAt fs is q y →
      ContextStands fs is (if_c (record { address = a; frame = r }) (record { address = b; frame = q })) (if_c (record { address = a; frame = x }) (record { address = b; frame = y }))
  at_case : {a : ℕ} {r x : Option ℕ} {at : Place} → AreAt fs is r x →
      ContextStands fs is (case_c (record { address = a; frame = r }) at) (case_c (record { address = a; frame = x }) at)
  at_arg : {t u : Thunk} → ThunkStands fs is t u → ContextStands fs is (arg_c t) (arg_c u)
  at_pick : {i : ℕ} → ContextStands fs is (pick_c i) (pick_c i)
  at_then : {a : ℕ} {r x : Option ℕ} → AreAt fs is r x →
      ContextStands fs is (then_c (record { address = a; frame = r })) (then_c (record { address = a; frame = x }))
  at_assign : {a : ℕ} {r x : Option ℕ} → AreAt fs is r x →
      ContextStands fs is (assign_c (record { address = a; frame = r })) (assign_c (record { address = a; frame = x }))
  at_store : {v : Datum} → ContextStands fs is (store_c v) (store_c v)
  at_while : {a b : ℕ} {r x q y : Option ℕ} → AreAt fs is r x → AreAt fs is q y →
      ContextStands fs is (while_c (record { address = a; frame = r }) (record { address = b; frame = q })) (while_c (record { address = a; frame = x }) (record { address = b; frame = y }))
  at_body : {a : ℕ} {r x : Option ℕ} → AreAt fs is r x →
      ContextStands fs is (body_c (record { address = a; frame = r })) (body_c (record { address = a; frame = x }))
  at_loop : {a : ℕ} {r x : Option ℕ} → AreAt fs is r x →
      ContextStands fs is (loop_c (record { address = a; frame = r })) (loop_c (record { address = a; frame = x }))
  at_new : {d a : ℕ} {r x : Option ℕ} → AreAt fs is r x →
      ContextStands fs is (new_c d (record { address = a; frame = r })) (new_c d (record { address = a; frame = x }))
  at_cells : {d a : ℕ} {r x : Option ℕ} {at : Place} → AreAt fs is r x →
      ContextStands fs is (cells_c d (record { address = a; frame = r }) at) (cells_c d (record { address = a; frame = x }) at)
  at_element : {b : Bool} {n x : ℕ} → IsSequenceAt fs is n x →
      ContextStands fs is (element_c (record { is_written = b; number = n })) (element_c (record { is_written = b; number = x }))
  at_drop : {n : ℕ} → ContextStands fs is (drop_c n) (drop_c 0)
  at_put : {kind : PutKind} → ContextStands fs is (put_c kind) (put_c kind)
  -- its frame is made next, so its number is above those of the frames that stand
  at_escape : {n : ℕ} → IsNumbered n fs → ContextStands fs is (esc_c n) (esc_c 0)

pub data FocusStands (fs : List Frame) (is : List Item) : Focus → Focus → Type 0 where
  at_code : {a : ℕ} {r x : Option ℕ} → AreAt fs is r x →
      FocusStands fs is (code_at (record { address = a; frame = r })) (code_at (record { address = a; frame = x }))
  at_value : {v : Datum} → FocusStands fs is (value v) (value v)
  at_end : FocusStands fs is completed completed

-- ---- frames and contexts on one stack

-- the newest context is that of escape n
abbrev pub IsEscapeOf : ℕ → List Held → Type 0
IsEscapeOf n [] = ⊥
IsEscapeOf n (c ∷ cs) = c.context ≡ esc_c n

-- an escape's context is the newest when its frame is made, and a sequence's cells are the newest item, which stands on their context
pub data BindingStands (fs : List Frame) (is : List Item) (cs : List Held) (newest n : ℕ) : Binding → ItemBinding → Type 0 where
  thunk_bound : {t u : Thunk} → ThunkStands fs is t u → BindingStands fs is cs newest n (to_thunk t) (items.to_thunk u)
  cell_bound : {v : Datum} → BindingStands fs is cs newest n (to_cell v) (items.to_cell v)
  escape_bound : IsEscapeOf n cs → BindingStands fs is cs newest n to_escape (items.to_escape newest)
  sequence_bound : {c : Sequence} {js : List Item} {x : ℕ} → is ≡ sequence c ∷ js → x + words_of_context ≡ address_on js →
      BindingStands fs is cs newest n (to_sequence c) (items.to_thunk (sequence_of x))

-- the items are the frames, the contexts and the cells of sequences in order of making, and contexts that were taken
pub data Lays : List Frame → List Held → ℕ → List Item → Type 0 where
  nothing : Lays [] [] 0 []
  newer_frame : {f : Frame} {fs : List Frame} {cs : List Held} {newest : ℕ} {is : List Item} {u : ItemBinding} {x : Option ℕ} →
      BindingStands fs is cs newest f.number f.binding u → AreAt fs is f.around x → Lays fs cs newest is → Lays (f ∷ fs) cs newest (frame f.depth u x ∷ is)
  live_context : {c : Held} {fs : List Frame} {cs : List Held} {newest : ℕ} {is : List Item} {e : PeContext} →
      c.frames ≡ length fs → cost is ≤ c.base → ContextStands fs is c.context e → Lays fs cs newest is → Lays fs (c ∷ cs) (address_on is) (context e newest ∷ is)
  taken_context : {fs : List Frame} {cs : List Held} {newest outside : ℕ} {is : List Item} {e : PeContext} →
      Lays fs cs newest is → Lays fs cs newest (context e outside ∷ is)
  laid_cells : {fs : List Frame} {cs : List Held} {newest : ℕ} {is : List Item} {c : Sequence} → Lays fs cs newest is → Lays fs cs newest (sequence c ∷ is)

-- ---- states

-- the stack stands for the frames and contexts, and the load pays for it
pub record Under (fs : List Frame) (cs : List Held) (paid next newest : ℕ) (is : List Item) : Type 0 where
  pub lays : Lays fs cs newest is
  pub load : cost is ≤ paid
  pub numbers : IsNumbered next fs

abbrev pub UnderState : PeState → ItemState → Type 0
UnderState s t = Under s.frames s.contexts s.load s.next t.newest t.items

pub record StateStands (s : PeState) (t : ItemState) : Type 0 where
  pub focus : FocusStands s.frames t.items s.focus t.focus
  pub under : UnderState s t

-- a sequence with as many cells as the datum in focus says, on the newest context; no frame holds it yet
pub data Stands : PeState → ItemState → Type 0 where
  at_rest : {s : PeState} {t : ItemState} → StateStands s t → Stands s t
  at_fill : {fs : List Frame} {cs : List Held} {n k m d a base load next outside : ℕ} {at : Place} {r x : Option ℕ} {is : List Item} →
      load ≡ base + 8 + k → AreAt fs is r x → Under fs cs base next outside is →
      Stands
      (record {
        focus = value (datum_kind.Int (pos k));
        contexts = (record { base = base; frames = length fs; context = fill_c n m d (record { address = a; frame = r }) at }) ∷ cs;
        frames = fs;
        next = next;
        load = load;
      })
      (record {
        focus = value (datum_kind.Int (pos k));
        newest = address_on is;
        items = sequence (record { place = at; values = replicate k (datum_kind.Int (pos 0)) }) ∷ context (fill_c 0 m d (record { address = a; frame = x }) at) outside ∷ is;
      })
