-- A step of the machine of items keeps the links.
use Rattle.std.proofs.Common.{ℕ, ◌+◌, ◌≡◌, Bool, true, false, cond, List, [], ◌∷◌, length, replicate, Option, Some, None, refl, inl, inr, arith, slice_get, nat_eq, nat_lt}
use Rattle.std.specs.Prelude.{pos, negsuc}
use Rattle.fy_base.specs.declared.data.Place.{Place}
use Rattle.fy_base.specs.declared.data.Datum.{Datum}
use Rattle.fy_base.specs.declared.data.Datum.TheVariants as datum_kind
use Rattle.fy_base.specs.declared.data.BinOp.{BinOp}
use Rattle.fy_base.specs.declared.data.BinOp.TheVariants.{And, Or}
use Rattle.fy_base.specs.declared.data.FaultKind.{FaultKind}
use Rattle.fy_base.specs.declared.data.FaultKind.TheVariants.{Range}
use Rattle.fy_base.specs.declared.arithmetic.Applied.{Applied}
use Rattle.fy_base.specs.declared.arithmetic.Applied.TheVariants.{Gives, Faults, NoSense}
use Rattle.fy_base.specs.Outside.{Bytes}
use Rattle.fy_base.specs.Arithmetic.{unary_result, binary_result, written_text}
use Rattle.fy_phrase.specs.Contexts.{op_1, op_l, op_r, if_c, case_c, arg_c, pick_c, then_c, assign_c, store_c, while_c, body_c, loop_c, new_c, drop_c, put_c, esc_c, cells_c, fill_c, element_c}
use Rattle.fy_phrase.specs.Copy.{Which, own, element, byte_or_end}
use Rattle.pe_code.specs.declared.code.PeInsn.{PeInsn}
use Rattle.pe_code.specs.declared.code.PeInsn.TheVariants as insn
use Rattle.pe_code.specs.declared.code.Purpose.{Purpose}
use Rattle.pe_code.specs.declared.code.Purpose.TheVariants as purpose
use Rattle.pe_code.specs.declared.code.PeItem.{PeItem}
use Rattle.pe_code.specs.declared.code.PeCode.{PeCode}
use Rattle.pe_code.specs.Code.{item_at, entry_of}
use Rattle.pe_code.specs.Straight.{Outcome, leaves, fails, has_none, misses, outcome_after}
use Rattle.pe_machine.specs.States.{Pointer, Thunk, source, datum, cell_of, jump_of, sequence_of, Sequence, Focus, code_at, value, completed, Wanted, PeContext}
use Rattle.pe_machine.specs.Step.{is_assignment, parts_at, waiting, Asked, a_cell, a_length, no_part, asked_at}
use Rattle.pe_items.specs.Items.{ItemBinding, to_thunk, to_cell, to_escape, Item, frame, context, sequence, address_on, FoundContext, context_at, FoundFrame, frame_from, datum_in, handed_by, escape_at, sequence_at, value_at, ItemState}
use Rattle.pe_items.specs.Step.{ItemMove, goes, puts, takes, faults, sticks, focused, push, pushed, bound, answered, taken, newest_of, operated, left_meets, chosen, focused_if_some, indexed, written, loaded, assigned, assignment_meets, cell_entered, element_picked, with_cells, counted, one_more, bound_filled, filled, datum_meets, completion_meets, bind_meets, field_meets, accept_meets, left_by, jumped, at_entry, entered_plain, index_entered, index_meets, length_meets, sequence_asked, entered, with_variable, own_cell, cell_set, own_cell_set, faults_at, outcome_move, executed, item_executed, step_at, item_step}
use Rattle.pe_items.specs.Links.{LeadsToFrame, LeadsToContext, HasSequence, IsThunkLinked, IsBindingLinked, IsContextLinked, AreLinked, IsFocusLinked, IsLinked}
use Rattle.pe_items.proofs.LinkLemmas.{extends-newer, extends-both, has-pushed, has-laid, name-extends, foot-extends, thunk-extends, content-extends, linked-with_cell, foot-with_cell, linked-with_element, foot-with_element, FoundLinked, found-linked, IsVariableLinked, variable-linked}

-- a step leads to linked states
abbrev pub IsMoveLinked : ItemMove → Type 0
IsMoveLinked (goes s) = IsLinked s
IsMoveLinked (puts text s) = IsLinked s
IsMoveLinked (takes go) = (byte : Option ℕ) → IsLinked (go byte)
IsMoveLinked (faults kind at) = Unit {0}
IsMoveLinked sticks = Unit {0}

-- a state without its focus
pub record Rooted (newest : ℕ) (is : List Item) : Type 0 where
  pub newest_is : LeadsToContext is newest
  pub items : AreLinked is

abbrev pub IsRooted : ItemState → Type 0
IsRooted s = Rooted s.newest s.items

-- ---- changes of state

focused-linked : (f : Focus) (s : ItemState) → IsFocusLinked s.items f → IsRooted s → IsMoveLinked (focused f s)
focused-linked f s h u = record { focus = h; newest = u.newest_is; items = u.items }

push-rooted : (c : PeContext) (s : ItemState) → IsContextLinked s.items c → IsRooted s → IsRooted (push c s)
push-rooted c s h u = record { newest_is = inr (has-pushed c s.newest s.items); items = ((h, u.newest_is), u.items) }

pushed-linked : (c : PeContext) (p : Pointer) (s : ItemState) → IsContextLinked s.items c → LeadsToFrame s.items p.frame → IsRooted s → IsMoveLinked (pushed c p s)
pushed-linked c p s h k u =
    focused-linked (code_at p) (push c s) (name-extends (extends-newer (context c s.newest) s.items) p.frame k) (push-rooted c s h u)

bound-linked : (d : ℕ) (b : ItemBinding) (a : ℕ) (o : Option ℕ) (s : ItemState) → IsBindingLinked s.items b → LeadsToFrame s.items o → IsRooted s → IsMoveLinked (bound d b a o s)
bound-linked d b a o s h k u =
    record { focus = inl (refl, tt); newest = foot-extends (extends-newer (frame d b o) s.items) s.newest u.newest_is; items = ((h, k), u.items) }

-- ---- the newest context

answered-by : (meets : PeContext → ItemState → ItemMove) (s : ItemState) (o : Option FoundContext) →
    ((c : PeContext) (t : ItemState) → IsContextLinked t.items c → IsRooted t → IsMoveLinked (meets c t)) → ((c : FoundContext) → o ≡ Some c → FoundLinked c s.items) →
    IsMoveLinked (answered meets o s)
answered-by meets s None f found = tt
answered-by meets s (Some c) f found =
    let h = found c refl in f c.content (record s { newest = c.outside; items = c.older }) h.content (record { newest_is = h.outside; items = h.older })

answered-linked : (meets : PeContext → ItemState → ItemMove) (s : ItemState) →
    ((c : PeContext) (t : ItemState) → IsContextLinked t.items c → IsRooted t → IsMoveLinked (meets c t)) → IsRooted s → IsMoveLinked (answered meets (newest_of s) s)
answered-linked meets s f u = answered-by meets s (newest_of s) f (λ c e. found-linked s.newest s.items c u.items e)

-- what is taken leaves the items
abbrev TakenLinked : (PeContext → ItemState → ItemMove) → ItemState → Type 0
TakenLinked meets s =
    (c : PeContext) (outside : ℕ) → IsContextLinked s.items c → IsRooted (record s { newest = outside }) → IsMoveLinked (meets c (record s { newest = outside }))

taken-by : (meets : PeContext → ItemState → ItemMove) (s : ItemState) (o : Option FoundContext) → TakenLinked meets s → AreLinked s.items →
    ((c : FoundContext) → o ≡ Some c → FoundLinked c s.items) → IsMoveLinked (taken meets o s)
taken-by meets s None f l found = tt
taken-by meets s (Some c) f l found =
    let h = found c refl in
    f c.content c.outside (content-extends h.extends c.content h.content) (record { newest_is = foot-extends h.extends c.outside h.outside; items = l })

taken-linked : (meets : PeContext → ItemState → ItemMove) (s : ItemState) → TakenLinked meets s → IsRooted s → IsMoveLinked (taken meets (newest_of s) s)
taken-linked meets s f u = taken-by meets s (newest_of s) f u.items (λ c e. found-linked s.newest s.items c u.items e)

-- ---- cells

loaded-linked : (o : Option Datum) (s : ItemState) → IsRooted s → IsMoveLinked (loaded o s)
loaded-linked (Some v) s u = focused-linked (value v) s tt u
loaded-linked None s u = tt

assigned-linked : (o : Option Datum) (which : Which) (x : ℕ) (v : Datum) (s : ItemState) → IsRooted s → IsMoveLinked (assigned o which x v s)
assigned-linked (Some w) own x v s u = record { focus = tt; newest = foot-with_cell s.newest x v s.items u.newest_is; items = linked-with_cell x v s.items u.items }
assigned-linked (Some w) (element i) x v s u =
    record { focus = tt; newest = foot-with_element s.newest x i v s.items u.newest_is; items = linked-with_element x i v s.items u.items }
assigned-linked None which x v s u = tt

assignment-linked : (which : Which) (x : ℕ) (s : ItemState) → TakenLinked (assignment_meets which x) s
assignment-linked which x s (store_c v) outside h u = assigned-linked (value_at which x s.items) which x v (record s { newest = outside }) u
assignment-linked which x s c outside h u = tt

cell-linked : (b : Bool) (which : Which) (x : ℕ) (s : ItemState) → IsRooted s → IsMoveLinked (cell_entered b which x s)
cell-linked true which x s u = taken-linked (assignment_meets which x) s (assignment-linked which x s) u
cell-linked false which x s u = loaded-linked (value_at which x s.items) s u

if_faulted : (b : Bool) (m : ItemMove) (kind : FaultKind) (at : Place) → IsMoveLinked m → IsMoveLinked (cond b m (faults kind at))
if_faulted true m kind at h = h
if_faulted false m kind at h = tt

element-linked : (v : Datum) (w : Wanted) (o : Option Sequence) (s : ItemState) → IsRooted s → IsMoveLinked (element_picked v w o s)
element-linked (datum_kind.Int (pos i)) w (Some c) s u =
    if_faulted (nat_lt i (length c.values)) (cell_entered w.is_written (element i) w.number s) Range c.place (cell-linked w.is_written (element i) w.number s u)
element-linked (datum_kind.Int (negsuc i)) w (Some c) s u = tt
element-linked v w (Some c) s u = tt
element-linked v w None s u = tt

-- ---- sequences that get their cells

-- a context without its cells, and then with them
laid-linked : (c : PeContext) (at : Place) (k : ℕ) (f : Focus) (s : ItemState) → IsContextLinked s.items c → IsFocusLinked (with_cells c at k s).items f → IsRooted s →
    IsMoveLinked (focused f (with_cells c at k s))
laid-linked c at k f s h g u =
    let q : Sequence = record { place = at; values = replicate k (datum_kind.Int (pos 0)) } in
    record {
      focus = g;
      newest = foot-extends (extends-newer (sequence q) (context c s.newest ∷ s.items)) (address_on s.items) (inr (has-pushed c s.newest s.items));
      items = (tt, ((h, u.newest_is), u.items));
    }

counted-linked : (v : Datum) (d : ℕ) (body : Pointer) (at : Place) (s : ItemState) → LeadsToFrame s.items body.frame → IsRooted s → IsMoveLinked (counted v d body at s)
counted-linked (datum_kind.Int (pos m)) d body at s k u = laid-linked (fill_c 0 m d body at) at 0 (value (datum_kind.Int (pos 0))) s k tt u
counted-linked (datum_kind.Int (negsuc m)) d body at s k u = tt
counted-linked v d body at s k u = tt

filled-linked : (v : Datum) (m : ℕ) (more : ℕ → ItemMove) (all : ItemMove) → ((k : ℕ) → IsMoveLinked (more k)) → IsMoveLinked all → IsMoveLinked (filled v m more all)
filled-linked (datum_kind.Int (pos k)) m more all h g = either (nat_lt k m) (more k) (cond (nat_eq k m) all sticks) (h k) (either (nat_eq k m) all sticks g tt)
  where
    either : (b : Bool) (m : ItemMove) (n : ItemMove) → IsMoveLinked m → IsMoveLinked n → IsMoveLinked (cond b m n)
    either true m n h k = h
    either false m n h k = k
filled-linked v m more all h g = tt

bound_filled-linked : (m d : ℕ) (body : Pointer) (at : Place) (s : ItemState) → LeadsToFrame s.items body.frame → IsRooted s → IsMoveLinked (bound_filled m d body at s)
bound_filled-linked m d body at s k u =
    let q : Sequence = record { place = at; values = replicate m (datum_kind.Int (pos 0)) } in
    let under : List Item = context (drop_c 0) s.newest ∷ s.items in
    let newer = extends-newer (sequence q) under in
    bound-linked d (to_thunk (sequence_of (address_on s.items))) body.address body.frame (with_cells (drop_c 0) at m s) (has-laid q under (address_on s.items) (omega arith))
    (name-extends (extends-both (extends-newer (context (drop_c 0) s.newest) s.items) newer) body.frame k)
    (record {
      newest_is = foot-extends newer (address_on s.items) (inr (has-pushed (drop_c 0) s.newest s.items));
      items = (tt, ((tt, u.newest_is), u.items));
    })

-- ---- a datum

operated-linked : (o : Applied) (at : Place) (s : ItemState) → IsRooted s → IsMoveLinked (operated o at s)
operated-linked (Gives v) at s u = focused-linked (value v) s tt u
operated-linked (Faults kind) at s u = tt
operated-linked NoSense at s u = tt

left-linked : (op : BinOp) (v : Datum) (q : Pointer) (at : Place) (s : ItemState) → LeadsToFrame s.items q.frame → IsRooted s → IsMoveLinked (left_meets op v q at s)
left-linked And (datum_kind.Bool true) q at s k u = focused-linked (code_at q) s k u
left-linked And (datum_kind.Bool false) q at s k u = focused-linked (value (datum_kind.Bool false)) s tt u
left-linked And v q at s k u = tt
left-linked Or (datum_kind.Bool true) q at s k u = focused-linked (value (datum_kind.Bool true)) s tt u
left-linked Or (datum_kind.Bool false) q at s k u = focused-linked (code_at q) s k u
left-linked Or v q at s k u = tt
left-linked op v q at s k u = pushed-linked (op_r op v at) q s tt k u

chosen-linked : (v : Datum) (m n : ItemMove) → IsMoveLinked m → IsMoveLinked n → IsMoveLinked (chosen v m n)
chosen-linked (datum_kind.Bool true) m n h k = h
chosen-linked (datum_kind.Bool false) m n h k = k
chosen-linked v m n h k = tt

part-linked : (o r : Option ℕ) (at : Place) (s : ItemState) → LeadsToFrame s.items r → IsRooted s → IsMoveLinked (focused_if_some o r at s)
part-linked (Some a) r at s k u = focused-linked (code_at (record { address = a; frame = r })) s k u
part-linked None r at s k u = tt

indexed-linked : (v : Datum) (parts : List ℕ) (r : Option ℕ) (at : Place) (s : ItemState) → LeadsToFrame s.items r → IsRooted s → IsMoveLinked (indexed v parts r at s)
indexed-linked (datum_kind.Int (pos n)) parts r at s k u = part-linked (slice_get parts n) r at s k u
indexed-linked (datum_kind.Int (negsuc n)) parts r at s k u = tt
indexed-linked v parts r at s k u = tt

written-linked : (o : Option Bytes) (s : ItemState) → IsRooted s → IsMoveLinked (written o s)
written-linked (Some text) s u = focused-linked completed s tt u
written-linked None s u = tt

datum-linked : (code : PeCode) (v : Datum) (c : PeContext) (s : ItemState) → IsContextLinked s.items c → IsRooted s → IsMoveLinked (datum_meets code v c s)
datum-linked code v (op_1 op at) s h u = operated-linked (unary_result op v) at s u
datum-linked code v (op_l op q at) s h u = left-linked op v q at s h u
datum-linked code v (op_r op w at) s h u = operated-linked (binary_result op w v) at s u
datum-linked code v (if_c p q) s h u = chosen-linked v (focused (code_at p) s) (focused (code_at q) s) (focused-linked (code_at p) s h.0 u) (focused-linked (code_at q) s h.1 u)
datum-linked code v (case_c parts at) s h u = indexed-linked v (parts_at (item_at code parts.address)) parts.frame at s h u
datum-linked code v (while_c loop c) s h u =
    chosen-linked v (pushed (body_c loop) c s) (focused completed s) (pushed-linked (body_c loop) c s h.0 h.1 u) (focused-linked completed s tt u)
datum-linked code v (new_c d body) s h u =
    bound-linked d (to_cell v) body.address body.frame (push (drop_c 0) s) tt (name-extends (extends-newer (context (drop_c 0) s.newest) s.items) body.frame h) (push-rooted (drop_c 0) s tt u)
datum-linked code v (assign_c p) s h u = pushed-linked (store_c v) p s tt h u
datum-linked code v (put_c kind) s h u = written-linked (written_text kind v) s u
datum-linked code v (cells_c d body at) s h u = counted-linked v d body at s h u
datum-linked code v (fill_c n m d body at) s h u =
    filled-linked v m (λ k. one_more k m d body at s) (bound_filled m d body at s)
    (λ k. laid-linked (fill_c 0 m d body at) at (k + 1) (value (datum_kind.Int (pos (k + 1)))) s h tt u) (bound_filled-linked m d body at s h u)
datum-linked code v (element_c w) s h u = element-linked v w (sequence_at w.number s.items) s u
datum-linked code v c s h u = tt

-- ---- a finished command, a procedure, a field and an acceptor

completion-linked : (c : PeContext) (s : ItemState) → IsContextLinked s.items c → IsRooted s → IsMoveLinked (completion_meets c s)
completion-linked (then_c q) s h u = focused-linked (code_at q) s h u
completion-linked (body_c loop) s h u = focused-linked (code_at loop) s h u
completion-linked (loop_c loop) s h u = focused-linked (code_at loop) s h u
completion-linked (drop_c n) s h u = focused-linked completed s tt u
completion-linked (esc_c n) s h u = focused-linked completed s tt u
completion-linked c s h u = tt

bind-linked : (d a : ℕ) (o : Option ℕ) (s : ItemState) → LeadsToFrame s.items o → TakenLinked (bind_meets d a o) s
bind-linked d a o s k (arg_c t) outside h u = bound-linked d (to_thunk t) a o (record s { newest = outside }) h k u
bind-linked d a o s k c outside h u = tt

if_linked : (b : Bool) (m : ItemMove) → IsMoveLinked m → IsMoveLinked (cond b m sticks)
if_linked true m h = h
if_linked false m h = tt

field-linked : (i : ℕ) (p : Pointer) (s : ItemState) → LeadsToFrame s.items p.frame → TakenLinked (field_meets i p) s
field-linked i p s k (pick_c j) outside h u =
    if_linked (nat_eq i j) (focused (code_at p) (record s { newest = outside })) (focused-linked (code_at p) (record s { newest = outside }) k u)
field-linked i p s k c outside h u = tt

accept-linked : (d a : ℕ) (o : Option ℕ) (s : ItemState) → LeadsToFrame s.items o → TakenLinked (accept_meets d a o) s
accept-linked d a o s k (store_c v) outside h u = bound-linked d (to_thunk (datum v)) a o (record s { newest = outside }) tt k u
accept-linked d a o s k c outside h u = tt

-- ---- a thunk is entered

left_by-linked : (o : Option FoundContext) (s : ItemState) → ((c : FoundContext) → o ≡ Some c → FoundLinked c s.items) → IsMoveLinked (left_by o s)
left_by-linked (Some c) s found = let h = found c refl in record { focus = tt; newest = h.outside; items = h.older }
left_by-linked None s found = tt

jumped-linked : (o : Option ℕ) (s : ItemState) → IsRooted s → IsMoveLinked (jumped o s)
jumped-linked (Some c) s u = left_by-linked (context_at c s.items) s (λ f e. found-linked c s.items f u.items e)
jumped-linked None s u = tt

entry-linked : (o r : Option ℕ) (s : ItemState) → LeadsToFrame s.items r → IsRooted s → IsMoveLinked (at_entry o r s)
entry-linked (Some a) r s k u = focused-linked (code_at (record { address = a; frame = r })) s k u
entry-linked None r s k u = tt

plain-linked : (code : PeCode) (shape : ℕ) (t : Thunk) (s : ItemState) → IsThunkLinked s.items t → IsRooted s → IsMoveLinked (entered_plain code shape t s)
plain-linked code shape (source node r) s h u = entry-linked (entry_of code node shape) r s h u
plain-linked code shape (datum v) s h u = focused-linked (value v) s tt u
plain-linked code shape (cell_of x) s h u = cell-linked (is_assignment code.assignment shape) own x s u
plain-linked code shape (jump_of x) s h u = jumped-linked (escape_at x s.items) s u
plain-linked code shape (sequence_of x) s h u = tt

index_entered-linked : (code : PeCode) (o : Option ℕ) (w : Wanted) (t : Thunk) (s : ItemState) → HasSequence s.items w.number → IsThunkLinked s.items t → IsRooted s →
    IsMoveLinked (index_entered code o w t s)
index_entered-linked code (Some shape) w t s has h u =
    plain-linked code shape t (push (element_c w) s) (thunk-extends (extends-newer (context (element_c w) s.newest) s.items) t h) (push-rooted (element_c w) s has u)
index_entered-linked code None w t s has h u = tt

index-linked : (code : PeCode) (w : Wanted) (s : ItemState) → HasSequence s.items w.number → TakenLinked (index_meets code w) s
index-linked code w s has (arg_c t) outside h u = index_entered-linked code code.sequences.value w t (record s { newest = outside }) has h u
index-linked code w s has c outside h u = tt

length-linked : (n : ℕ) (s : ItemState) → TakenLinked (length_meets n) s
length-linked n s (pick_c i) outside h u =
    let v : Datum = datum_kind.Int (pos n) in
    if_linked (nat_eq i 0) (focused (value v) (record s { newest = outside })) (focused-linked (value v) (record s { newest = outside }) tt u)
length-linked n s e outside h u = tt

asked-linked : (code : PeCode) (k : Asked) (x : ℕ) (o : Option Sequence) (s : ItemState) → HasSequence s.items x → IsRooted s → IsMoveLinked (sequence_asked code k x o s)
asked-linked code (a_cell b) x (Some c) s has u =
    taken-linked (index_meets code (record { is_written = b; number = x })) s (index-linked code (record { is_written = b; number = x }) s has) u
asked-linked code a_length x (Some c) s has u = taken-linked (length_meets (length c.values)) s (length-linked (length c.values) s) u
asked-linked code no_part x (Some c) s has u = tt
asked-linked code k x None s has u = tt

entered-linked : (code : PeCode) (shape : ℕ) (t : Thunk) (s : ItemState) → IsThunkLinked s.items t → IsRooted s → IsMoveLinked (entered code shape t s)
entered-linked code shape (source node r) s h u = plain-linked code shape (source node r) s h u
entered-linked code shape (datum v) s h u = plain-linked code shape (datum v) s h u
entered-linked code shape (cell_of x) s h u = plain-linked code shape (cell_of x) s h u
entered-linked code shape (jump_of x) s h u = plain-linked code shape (jump_of x) s h u
entered-linked code shape (sequence_of x) s h u = asked-linked code (asked_at code.sequences shape) x (sequence_at x s.items) s h u

with-variable : (is : List Item) (o : Option FoundFrame) (go : Thunk → ItemMove) → IsVariableLinked is o → ((t : Thunk) → IsThunkLinked is t → IsMoveLinked (go t)) →
    IsMoveLinked (with_variable o go)
with-variable is (Some f) go h g = g (handed_by f) h
with-variable is None go h g = tt

-- ---- straight code

set-linked : (o : Option Datum) (x : ℕ) (v : Datum) (s : ItemState) → IsRooted s → IsMoveLinked (cell_set o x v s)
set-linked (Some w) x v s u = record { focus = tt; newest = foot-with_cell s.newest x v s.items u.newest_is; items = linked-with_cell x v s.items u.items }
set-linked None x v s u = tt

own-set-linked : (o : Option FoundFrame) (v : Datum) (s : ItemState) → IsRooted s → IsMoveLinked (own_cell_set o v s)
own-set-linked (Some f) v s u = set-linked (datum_in f.binding) f.address v s u
own-set-linked None v s u = tt

faults-linked : (kind : FaultKind) (o : Option PeItem) → IsMoveLinked (faults_at kind o)
faults-linked kind (Some i) = tt
faults-linked kind None = tt

outcome-linked : (code : PeCode) (o : Outcome) (go : Datum → ItemMove) → ((v : Datum) → IsMoveLinked (go v)) → IsMoveLinked (outcome_move code o go)
outcome-linked code (leaves []) go h = tt
outcome-linked code (leaves (v ∷ [])) go h = h v
outcome-linked code (leaves (v ∷ u ∷ stack)) go h = tt
outcome-linked code (fails kind a) go h = faults-linked kind (item_at code a)
outcome-linked code has_none go h = tt
outcome-linked code misses go h = tt

-- ---- instructions

waiting-linked : (is : List Item) (w : Purpose) (p : Pointer) → LeadsToFrame is p.frame → IsContextLinked is (waiting w p)
waiting-linked is (purpose.Choose y z) p k = (k, k)
waiting-linked is (purpose.Repeat y) p k = (k, k)
waiting-linked is (purpose.Store y) p k = k
waiting-linked is (purpose.Write kind) p k = tt

module _ (code : PeCode) where
  executed-linked : (i : PeInsn) (d : ℕ) (at : Place) (p : Pointer) (s : ItemState) → LeadsToFrame s.items p.frame → IsRooted s → IsMoveLinked (executed code i d at p s)
  executed-linked (insn.UseVar j shape) d at p s k u =
      with-variable s.items (frame_from s.items j p.frame) (λ t. entered code shape t s) (variable-linked s.items j p.frame u.items) (λ t h. entered-linked code shape t s h u)
  executed-linked (insn.Answer v) d at p s k u = focused-linked (value v) s tt u
  executed-linked (insn.Op1 op y) d at p s k u = pushed-linked (op_1 op at) (record p { address = y }) s tt k u
  executed-linked (insn.Op2 op y z) d at p s k u = pushed-linked (op_l op (record p { address = z }) at) (record p { address = y }) s k k u
  executed-linked (insn.Cond y z w) d at p s k u =
      pushed-linked (if_c (record p { address = z }) (record p { address = w })) (record p { address = y }) s (k, k) k u
  executed-linked (insn.Case y ys) d at p s k u = pushed-linked (case_c p at) (record p { address = y }) s k k u
  executed-linked (insn.Bind y) d at p s k u = taken-linked (bind_meets d y p.frame) s (bind-linked d y p.frame s k) u
  executed-linked (insn.Pass n y) d at p s k u = pushed-linked (arg_c (source n p.frame)) (record p { address = y }) s k k u
  executed-linked (insn.PassVar j y) d at p s k u =
      with-variable s.items (frame_from s.items j p.frame) (λ t. pushed (arg_c t) (record p { address = y }) s) (variable-linked s.items j p.frame u.items)
      (λ t h. pushed-linked (arg_c t) (record p { address = y }) s h k u)
  executed-linked (insn.PassData v y) d at p s k u = pushed-linked (arg_c (datum v)) (record p { address = y }) s tt k u
  executed-linked (insn.Field i y) d at p s k u =
      taken-linked (field_meets i (record p { address = y })) s (field-linked i (record p { address = y }) s k) u
  executed-linked (insn.Pick i y) d at p s k u = pushed-linked (pick_c i) (record p { address = y }) s tt k u
  executed-linked (insn.Let n y) d at p s k u = bound-linked d (to_thunk (source n p.frame)) y p.frame s k k u
  executed-linked (insn.LetVar j y) d at p s k u =
      with-variable s.items (frame_from s.items j p.frame) (λ t. bound d (to_thunk t) y p.frame s) (variable-linked s.items j p.frame u.items)
      (λ t h. bound-linked d (to_thunk t) y p.frame s h k u)
  executed-linked (insn.LetData v y) d at p s k u = bound-linked d (to_thunk (datum v)) y p.frame s tt k u
  executed-linked (insn.Knot n y) d at p s k u = bound-linked d (to_thunk (source n p.frame)) y p.frame s k k u
  executed-linked insn.Done d at p s k u = focused-linked completed s tt u
  executed-linked (insn.Seq y z) d at p s k u = pushed-linked (then_c (record p { address = z })) (record p { address = y }) s k k u
  executed-linked (insn.Assign y z) d at p s k u = pushed-linked (assign_c (record p { address = y })) (record p { address = z }) s k k u
  executed-linked (insn.While y z) d at p s k u = pushed-linked (while_c p (record p { address = z })) (record p { address = y }) s (k, k) k u
  executed-linked (insn.Loop y) d at p s k u = pushed-linked (loop_c p) (record p { address = y }) s k k u
  executed-linked (insn.New y z) d at p s k u = pushed-linked (new_c d (record p { address = z })) (record p { address = y }) s k k u
  executed-linked (insn.Cells y z) d at p s k u = pushed-linked (cells_c d (record p { address = z }) at) (record p { address = y }) s k k u
  executed-linked (insn.Escape y) d at p s k u =
      bound-linked d (to_escape (address_on s.items)) y p.frame (push (esc_c 0) s) (has-pushed (esc_c 0) s.newest s.items)
      (name-extends (extends-newer (context (esc_c 0) s.newest) s.items) p.frame k) (push-rooted (esc_c 0) s tt u)
  executed-linked (insn.Accept y) d at p s k u = taken-linked (accept_meets d y p.frame) s (accept-linked d y p.frame s k) u
  executed-linked (insn.Put kind y) d at p s k u = pushed-linked (put_c kind) (record p { address = y }) s tt k u
  executed-linked (insn.Read y) d at p s k u = λ byte. pushed-linked (store_c (byte_or_end byte)) (record p { address = y }) s tt k u
  executed-linked (insn.Eval ss) d at p s k u =
      outcome-linked code (outcome_after (λ j. own_cell (frame_from s.items j p.frame)) ss []) (λ v. focused (value v) s) (λ v. focused-linked (value v) s tt u)
  executed-linked (insn.Set j ss) d at p s k u =
      outcome-linked code (outcome_after (λ i. own_cell (frame_from s.items i p.frame)) ss []) (λ v. own_cell_set (frame_from s.items j p.frame) v s) (λ v. own-set-linked (frame_from s.items j p.frame) v s u)
  executed-linked (insn.EvalFor ss w) d at p s k u =
      outcome-linked code (outcome_after (λ j. own_cell (frame_from s.items j p.frame)) ss []) (λ v. datum_meets code v (waiting w p) s) (λ v. datum-linked code v (waiting w p) s (waiting-linked s.items w p k) u)

  item-linked : (o : Option PeItem) (p : Pointer) (s : ItemState) → LeadsToFrame s.items p.frame → IsRooted s → IsMoveLinked (item_executed code o p s)
  item-linked (Some i) p s k u = executed-linked i.insn i.depth i.place p s k u
  item-linked None p s k u = tt

  step-by : (f : Focus) (s : ItemState) → IsFocusLinked s.items f → IsRooted s → IsMoveLinked (step_at code f s)
  step-by (code_at p) s h u = item-linked (item_at code p.address) p s h u
  step-by (value v) s h u = answered-linked (datum_meets code v) s (datum-linked code v) u
  step-by completed s h u = answered-linked completion_meets s completion-linked u

  -- a step from a linked state leads to linked ones
  pub step-linked : (s : ItemState) → IsLinked s → IsMoveLinked (item_step code s)
  step-linked s h = step-by s.focus s h.focus (record { newest_is = h.newest; items = h.items })
