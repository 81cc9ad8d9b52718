-- The copy rule: what a phrase does, step by step. After Reynolds, "Design of the Programming Language Forsythe" (1996), where call by
-- name is explained by copying; the order of evaluation, the places of faults and the load are this project's.
use Rattle.std.specs.Prelude.{◌≡◌, ◌≢◌, ℕ, zero, suc, ◌+◌, Bool, true, false, nat_eq, nat_lt, if◌then◌else◌, List, [], ◌∷◌, ◌++◌, length, set, slice_get, Some, None, pos, negsuc}
use Rattle.std.specs.declared.option.Option.{Option}
use Rattle.fy_base.specs.declared.data.Place.{Place}
use Rattle.fy_base.specs.declared.data.Datum.{Datum}
use Rattle.fy_base.specs.declared.data.Datum.TheVariants as datum
use Rattle.fy_base.specs.declared.data.BinOp.{BinOp}
use Rattle.fy_base.specs.declared.data.BinOp.TheVariants.{And, Or}
use Rattle.fy_base.specs.declared.data.FaultKind.{FaultKind}
use Rattle.fy_base.specs.declared.data.FaultKind.TheVariants.{Range}
use Rattle.fy_base.specs.declared.arithmetic.Applied.{Applied}
use Rattle.fy_base.specs.declared.arithmetic.Applied.TheVariants.{Gives, Faults, NoSense}
use Rattle.fy_base.specs.Outside.{Bytes}
use Rattle.fy_base.specs.Arithmetic.{unary_result, binary_result, written_text}
use Rattle.std.proofs.Common.{refl}
use Rattle.fy_runs.specs.Runs as runs
use Rattle.fy_runs.specs.Runs.{Move, Machine, Run}
use Rattle.fy_phrase.specs.declared.phrase.MarkKind.TheVariants as marks
use Rattle.fy_phrase.specs.Tree.{Tree, Trees, var, lit, unary, binary, cond, case, lam, app, field, sel, merge, let_in, rec, skip, seq, assign, while_do, forever, new, cells, escape, accept, put, read, mark, no_trees, and_tree}
use Rattle.fy_phrase.specs.Closing.{closed_with}
use Rattle.fy_phrase.specs.Contexts.{CopyContext, op_1, op_l, op_r, if_c, case_c, arg_c, pick_c, then_c, assign_c, store_c, while_c, body_c, loop_c, new_c, drop_c, put_c, esc_c, cells_c, fill_c, element_c, Pushed}

-- what the store holds at a number: the value of a cell, or the values of a sequence of cells, with the place of its `Cells`
pub data Content : Type 0 where
  single : (v : Datum) → Content
  several : (at : Place) (vs : List Datum) → Content

-- a row of the store
pub record Row : Type 0 where
  pub number : ℕ
  pub content : Content

-- which cell of a row: its single one, or the one of an index from 0
pub data Which : Type 0 where
  own : Which
  element : (i : ℕ) → Which

-- what a step changes: the closed phrase in focus, the contexts with the newest first, the store with the newest row first,
-- the number that the next binding takes, and the load
pub record CopyState : Type 0 where
  pub focus : Tree
  pub contexts : List (Pushed CopyContext)
  pub store : List Row
  pub next : ℕ
  pub load : ℕ

-- where a step leads
pub data CopyMove : Type 0 where
  -- on to a state
  goes : (s : CopyState) → CopyMove
  -- bytes are put, and on to a state
  puts : (text : Bytes) (s : CopyState) → CopyMove
  -- the next byte of input is taken, or none at its end, and on to the state that it gives
  takes : (go : Option ℕ → CopyState) → CopyMove
  faults : (kind : FaultKind) (at : Place) → CopyMove
  sticks : CopyMove

-- ---- the store

-- what the store holds at number n
abbrev pub content_of : ℕ → List Row → Option Content
content_of n [] = None
content_of n (r ∷ rs) = if nat_eq r.number n then Some r.content else content_of n rs

-- the store where a change was made at number n
abbrev pub with_content : ℕ → (Content → Content) → List Row → List Row
with_content n change [] = []
with_content n change (r ∷ rs) = if nat_eq r.number n then (record { number = n; content = change r.content }) ∷ rs else r ∷ with_content n change rs

-- the store without what it holds at number n
abbrev pub without_row : ℕ → List Row → List Row
without_row n [] = []
without_row n (r ∷ rs) = if nat_eq r.number n then rs else r ∷ without_row n rs

-- the value of a cell, where there is one
abbrev pub value_in : Which → Option Content → Option Datum
value_in own (Some (single v)) = Some v
value_in (element i) (Some (several at vs)) = slice_get vs i
value_in which _ = None

-- v in a cell
abbrev pub with_value_in : Which → Datum → Content → Content
with_value_in own v (single u) = single v
with_value_in (element i) v (several at vs) = several at (set vs i v)
with_value_in which v content = content

-- one more cell at the end of a sequence, that holds 0
abbrev pub lengthened : Content → Content
lengthened (several at vs) = several at (vs ++ datum.Int (pos 0) ∷ [])
lengthened content = content

-- the value of a cell at number n
abbrev pub value_of : Which → ℕ → List Row → Option Datum
value_of which n store = value_in which (content_of n store)

-- the store with v in a cell at number n
abbrev pub with_value : Which → ℕ → Datum → List Row → List Row
with_value which n v store = with_content n (with_value_in which v) store

-- ---- words of the table

-- the focus changes alone
abbrev pub focus_on : Tree → CopyState → CopyState
focus_on p s = record s { focus = p }

-- a context is pushed: it keeps the load before it, to which it adds 8
abbrev pub push : CopyContext → CopyState → CopyState
push c s = record s { contexts = (record { base = s.load; context = c }) ∷ s.contexts; load = s.load + 8 }

-- a binding at depth d takes the next number and adds 8 + d to the load
abbrev pub bind : ℕ → CopyState → CopyState
bind d s = record s { next = s.next + 1; load = s.load + (8 + d) }

abbrev pub focused : Tree → CopyState → CopyMove
focused p s = goes (focus_on p s)

abbrev pub pushed : CopyContext → Tree → CopyState → CopyMove
pushed c p s = goes (focus_on p (push c s))

-- a binding at depth d, and on with the body, in which the bound phrase stands for its variable
abbrev pub bound : ℕ → Tree → Tree → CopyState → CopyMove
bound d a body s = goes (focus_on (closed_with body a) (bind d s))

-- an answer takes the newest context off and sets the load to its base; without a context the state is stuck
abbrev pub answered : (CopyContext → CopyState → CopyMove) → List (Pushed CopyContext) → CopyState → CopyMove
answered meets [] s = sticks
answered meets (c ∷ cs) s = meets c.context (record s { contexts = cs; load = c.base })

-- the newest context is taken off, and the load stays
abbrev pub taken : (CopyContext → CopyState → CopyMove) → List (Pushed CopyContext) → CopyState → CopyMove
taken meets [] s = sticks
taken meets (c ∷ cs) s = meets c.context (record s { contexts = cs })

-- ---- a datum meets a context

-- the result of an operator, or its fault
abbrev pub operated : Applied → Place → CopyState → CopyMove
operated (Gives v) at s = focused (lit v at) s
operated (Faults kind) at s = faults kind at
operated NoSense at s = sticks

-- the left operand's value: of `and` and `or` it may decide
abbrev pub left_meets : BinOp → Datum → Place → Tree → Place → CopyState → CopyMove
left_meets And (datum.Bool true) here q at s = focused q s
left_meets And (datum.Bool false) here q at s = focused (lit (datum.Bool false) here) s
left_meets And _ here q at s = sticks
left_meets Or (datum.Bool true) here q at s = focused (lit (datum.Bool true) here) s
left_meets Or (datum.Bool false) here q at s = focused q s
left_meets Or _ here q at s = sticks
left_meets op v here q at s = pushed (op_r op v at) q s

-- a condition's value chooses
abbrev pub chosen : Datum → CopyMove → CopyMove → CopyMove
chosen (datum.Bool true) m n = m
chosen (datum.Bool false) m n = n
chosen _ m n = sticks

-- the part of a number, from 0
abbrev pub part_at : Trees → ℕ → Option Tree
part_at no_trees n = None
part_at (and_tree p ps) zero = Some p
part_at (and_tree p ps) (suc n) = part_at ps n

abbrev pub focused_if_some : Option Tree → Place → CopyState → CopyMove
focused_if_some (Some p) at s = focused p s
focused_if_some None at s = faults Range at

-- the part that an index picks, or the fault where there is none
abbrev pub indexed : Datum → Trees → Place → CopyState → CopyMove
indexed (datum.Int (pos n)) parts at s = focused_if_some (part_at parts n) at s
indexed (datum.Int (negsuc n)) parts at s = faults Range at
indexed _ parts at s = sticks

-- the text of a datum, or none where it is of another kind
abbrev pub written : Option Bytes → Place → CopyState → CopyMove
written (Some text) at s = puts text (record s { focus = skip at })
written None at s = sticks

-- a new cell holds v as long as the body runs
abbrev pub stored : Datum → ℕ → Tree → Place → CopyState → CopyMove
stored v d body at s =
    bound d (mark (marks.Cell s.next) at) body (record (push (drop_c s.next) s) { store = (record { number = s.next; content = single v }) ∷ s.store })

-- so many cells are wanted of a new sequence, which has none yet; or the fault of a negative number
abbrev pub counted : Datum → ℕ → Tree → Place → CopyState → CopyMove
counted (datum.Int (pos v)) d body at s =
    pushed (fill_c s.next v d body at) (lit (datum.Int (pos 0)) at) (record s { store = (record { number = s.next; content = several at [] }) ∷ s.store })
counted (datum.Int (negsuc v)) d body at s = faults Range at
counted _ d body at s = sticks

-- the cell of sequence n that an index picks, or the fault where there is none
abbrev pub element_picked : Datum → ℕ → Option Content → Place → CopyState → CopyMove
element_picked (datum.Int (pos i)) n (Some (several at vs)) here s = if nat_lt i (length vs) then focused (mark (marks.Element n i) here) s else faults Range at
element_picked (datum.Int (negsuc i)) n (Some (several at vs)) here s = faults Range at
element_picked _ n _ here s = sticks

abbrev pub datum_meets : Datum → Place → CopyContext → CopyState → CopyMove
datum_meets v here (op_1 op at) s = operated (unary_result op v) at s
datum_meets v here (op_l op q at) s = left_meets op v here q at s
datum_meets v here (op_r op u at) s = operated (binary_result op u v) at s
datum_meets v here (if_c p q) s = chosen v (focused p s) (focused q s)
datum_meets v here (case_c parts at) s = indexed v parts at s
datum_meets v here (while_c loop c) s = chosen v (pushed (body_c loop) c s) (focused (skip here) s)
datum_meets v here (new_c d body) s = stored v d body here s
datum_meets v here (assign_c p) s = pushed (store_c v) p s
datum_meets v here (put_c kind) s = written (written_text kind v) here s
datum_meets v here (cells_c d body at) s = counted v d body at s
datum_meets v here (element_c n) s = element_picked v n (content_of n s.store) here s
datum_meets v here _ s = sticks

-- sequence n, which has k cells, gains one, which adds 1 to the load
abbrev pub one_more : ℕ → ℕ → Place → CopyState → CopyMove
one_more n k here s = goes (record s { focus = lit (datum.Int (pos (k + 1))) here; store = with_content n lengthened s.store; load = s.load + 1 })

-- sequence n has all its cells, as long as the body runs
abbrev pub bound_filled : ℕ → ℕ → Tree → Place → ℕ → List (Pushed CopyContext) → CopyState → CopyMove
bound_filled n d body at base cs s = bound d (mark (marks.Sequence n) at) body (record s { contexts = (record { base = base; context = drop_c n }) ∷ cs })

-- of v cells so many are there: one more is made, or all are there
abbrev pub filled : Datum → ℕ → (ℕ → CopyMove) → CopyMove → CopyMove
filled (datum.Int (pos k)) v more all = if nat_lt k v then more k else (if nat_eq k v then all else sticks)
filled _ v more all = sticks

-- a datum answers each context but that of a sequence, which stays until its cells are there, and then keeps its base as that of the body
abbrev pub datum_under : Datum → Place → CopyContext → ℕ → List (Pushed CopyContext) → CopyState → CopyMove
datum_under v here (fill_c n m d body at) base cs s = filled v m (λ k. one_more n k here s) (bound_filled n d body at base cs s)
datum_under v here c base cs s = datum_meets v here c (record s { contexts = cs; load = base })

abbrev pub datum_focused : Datum → Place → List (Pushed CopyContext) → CopyState → CopyMove
datum_focused v here [] s = sticks
datum_focused v here (c ∷ cs) s = datum_under v here c.context c.base cs s

-- ---- a finished command meets a context

abbrev pub skip_meets : Place → CopyContext → CopyState → CopyMove
skip_meets here (then_c q) s = focused q s
skip_meets here (body_c loop) s = focused loop s
skip_meets here (loop_c loop) s = focused loop s
skip_meets here (drop_c n) s = focused (skip here) (record s { store = without_row n s.store })
skip_meets here (esc_c n) s = focused (skip here) s
skip_meets here _ s = sticks

-- ---- a procedure, a field and an acceptor meet the context that demands them

abbrev pub lam_meets : ℕ → Tree → CopyContext → CopyState → CopyMove
lam_meets d body (arg_c q) s = bound d q body s
lam_meets d body _ s = sticks

abbrev pub field_meets : ℕ → Tree → CopyContext → CopyState → CopyMove
field_meets i p (pick_c j) s = if nat_eq i j then focused p s else sticks
field_meets i p _ s = sticks

abbrev pub accept_meets : ℕ → Tree → Place → CopyContext → CopyState → CopyMove
accept_meets d body here (store_c v) s = bound d (lit v here) body s
accept_meets d body here _ s = sticks

-- whether a context demands what a merge's right operand has: a call, the field, or an assignment
abbrev pub demands : CopyContext → Tree → Bool
demands (arg_c q) (lam d alternatives body at) = true
demands (pick_c j) (field i p at) = nat_eq i j
demands (store_c v) (accept d D body at) = true
demands _ _ = false

-- the operand of a merge that the newest context demands
abbrev pub demanded : Tree → Tree → List (Pushed CopyContext) → Tree
demanded p q [] = p
demanded p q (c ∷ cs) = if demands c.context q then q else p

-- ---- marks

-- a cell in focus gives its value
abbrev pub loaded : Option Datum → Place → CopyState → CopyMove
loaded (Some v) here s = focused (lit v here) s
loaded None here s = sticks

-- or takes a new one, where the store has the cell
abbrev pub assigned : Option Datum → Which → ℕ → Datum → Place → CopyState → CopyMove
assigned (Some u) which n v here s = focused (skip here) (record s { store = with_value which n v s.store })
assigned None which n v here s = sticks

abbrev pub cell_meets : Which → ℕ → Place → CopyContext → List (Pushed CopyContext) → CopyState → CopyMove
cell_meets which n here (store_c v) cs s = assigned (value_of which n s.store) which n v here (record s { contexts = cs })
cell_meets which n here _ cs s = loaded (value_of which n s.store) here s

abbrev pub cell_under : Which → ℕ → Place → List (Pushed CopyContext) → CopyState → CopyMove
cell_under which n here [] s = loaded (value_of which n s.store) here s
cell_under which n here (c ∷ cs) s = cell_meets which n here c.context cs s

-- the length of a sequence in focus
abbrev pub measured : Option Content → Place → CopyState → CopyMove
measured (Some (several at vs)) here s = focused (lit (datum.Int (pos (length vs))) here) s
measured _ here s = sticks

-- a sequence takes an index, or the selection of `len`, whose name has the number 0
abbrev pub sequence_meets : ℕ → Place → CopyContext → CopyState → CopyMove
sequence_meets n here (arg_c q) s = pushed (element_c n) q s
sequence_meets n here (pick_c i) s = if nat_eq i 0 then measured (content_of n s.store) here s else sticks
sequence_meets n here _ s = sticks

-- whether a context is that of jump n
abbrev pub is_target : ℕ → CopyContext → Bool
is_target n (esc_c m) = nat_eq m n
is_target n _ = false

-- a cell or a sequence is lost with its context
abbrev pub store_after : CopyContext → List Row → List Row
store_after (drop_c n) rows = without_row n rows
store_after _ rows = rows

-- a jump takes off the contexts before its own and that one too, and sets the load to its base
abbrev pub jumped : ℕ → Place → List (Pushed CopyContext) → CopyState → CopyMove
jumped n here [] s = sticks
jumped n here (c ∷ cs) s =
    if is_target n c.context then goes (record s { focus = skip here; contexts = cs; load = c.base })
    else jumped n here cs (record s { store = store_after c.context s.store })

-- ---- one step, by the focus

-- a byte of input as a number, or -1 at the end
abbrev pub byte_or_end : Option ℕ → Datum
byte_or_end (Some b) = datum.Int (pos b)
byte_or_end None = datum.Int (negsuc 0)

abbrev pub step_at : Tree → CopyState → CopyMove
step_at (var k at) s = sticks
step_at (lit v at) s = datum_focused v at s.contexts s
step_at (unary op p at) s = pushed (op_1 op at) p s
step_at (binary op p q at) s = pushed (op_l op q at) p s
step_at (cond b p q at) s = pushed (if_c p q) b s
step_at (case e parts at) s = pushed (case_c parts at) e s
step_at (lam d alternatives body at) s = taken (lam_meets d body) s.contexts s
step_at (app p q at) s = pushed (arg_c q) p s
step_at (field i p at) s = taken (field_meets i p) s.contexts s
step_at (sel p i at) s = pushed (pick_c i) p s
step_at (merge p q at) s = focused (demanded p q s.contexts) s
step_at (let_in d p body at) s = bound d p body s
step_at (rec d T body at) s = bound d (rec d T body at) body s
step_at (skip at) s = answered (skip_meets at) s.contexts s
step_at (seq p q at) s = pushed (then_c q) p s
step_at (assign p q at) s = pushed (assign_c p) q s
step_at (while_do b c at) s = pushed (while_c (while_do b c at) c) b s
step_at (forever c at) s = pushed (loop_c (forever c at)) c s
step_at (new d D e body at) s = pushed (new_c d body) e s
step_at (cells d e body at) s = pushed (cells_c d body at) e s
step_at (escape d body at) s = bound d (mark (marks.Jump s.next) at) body (push (esc_c s.next) s)
step_at (accept d D body at) s = taken (accept_meets d body at) s.contexts s
step_at (put kind p at) s = pushed (put_c kind) p s
step_at (read p at) s = takes (λ byte. focus_on p (push (store_c (byte_or_end byte)) s))
step_at (mark (marks.Cell n) at) s = cell_under own n at s.contexts s
step_at (mark (marks.Jump n) at) s = jumped n at s.contexts s
step_at (mark (marks.Sequence n) at) s = taken (sequence_meets n at) s.contexts s
step_at (mark (marks.Element n i) at) s = cell_under (element i) n at s.contexts s

abbrev pub copy_step : CopyState → CopyMove
copy_step s = step_at s.focus s

-- ---- runs

-- a phrase in focus, and nothing else
abbrev pub start : Tree → CopyState
start p = record { focus = p; contexts = []; store = []; next = 0; load = 0 }

-- how a run stands
pub data Standing : Type 0 where
  going : Standing
  ended : Standing
  faulted : (kind : FaultKind) (at : Place) → Standing
  stuck : Standing

-- a finished command without a context is the end; that isn't a step
abbrev pub standing_at : Tree → List (Pushed CopyContext) → Standing
standing_at (skip at) [] = ended
standing_at p cs = going

abbrev pub standing_of : CopyState → Standing
standing_of s = standing_at s.focus s.contexts

-- the test of a run that goes on
abbrev pub goes_on : Standing → Bool
goes_on going = true
goes_on _ = false

pub off_going : (t : Standing) → t ≢ going → goes_on t ≡ false
off_going going other = absurd (other refl)
off_going _ other = refl

-- a step in the words of all machines: one that faults or is stuck leaves the state
abbrev pub move_of : CopyState → CopyMove → Move CopyState Standing
move_of old (goes s) = runs.goes s
move_of old (puts text s) = runs.puts text s
move_of old (takes go) = runs.takes go
move_of old (faults kind at) = runs.stops (faulted kind at) old
move_of old sticks = runs.stops stuck old

-- the copy rule among all machines
abbrev pub copy_machine : Machine CopyState Standing
copy_machine = record { step = λ s. move_of s (copy_step s); standing = standing_of; going = going; goes_on = goes_on; on = refl; off = off_going }

-- a run: the state, the rest of the input, the output so far, and how it stands
abbrev pub CopyRun : Type 0
CopyRun = Run CopyState Standing

-- what a step leads to, on the input that is left
abbrev pub settled : CopyMove → CopyRun → CopyRun
settled m r = runs.settled standing_of (move_of r.state m) r

-- one more step of a run that is going; another stays
abbrev pub ticked : Standing → CopyRun → CopyRun
ticked t r = runs.ticked copy_machine t r

abbrev pub tick : CopyRun → CopyRun
tick r = runs.tick copy_machine r

-- the run after m more steps
abbrev pub after_more : ℕ → CopyRun → CopyRun
after_more m r = runs.after copy_machine m r

abbrev pub start_run : Tree → Bytes → CopyRun
start_run p input = runs.start_run standing_of (start p) input

-- the run of a phrase on an input after m steps
abbrev pub copy_after : Tree → Bytes → ℕ → CopyRun
copy_after p input m = after_more m (start_run p input)

-- the load of a state
abbrev pub load_of : CopyState → ℕ
load_of s = s.load

-- the greatest load among the states 0 to m
abbrev pub peak_load : Tree → Bytes → ℕ → ℕ
peak_load p input m = runs.peak load_of copy_machine (start_run p input) m
