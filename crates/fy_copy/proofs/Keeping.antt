-- A step keeps depths, loads and numbers.
use Rattle.std.proofs.Common.{◌≡◌, ℕ, zero, suc, ◌+◌, ◌-◌, ◌*◌, ◌^◌, ◌≤◌, Bool, true, false, max, List, [], ◌∷◌, length, subst, arith, pos, negsuc, Some, None}
use Rattle.std.specs.Prelude.{nat_eq, nat_lt, if◌then◌else◌}
use Rattle.std.specs.declared.option.Option.{Option}
use Rattle.fy_base.specs.declared.data.Place.{Place}
use Rattle.fy_base.specs.declared.data.Datum.{Datum}
use Rattle.fy_base.specs.declared.data.Datum.TheVariants as datum
use Rattle.fy_base.specs.declared.data.BinOp.{BinOp}
use Rattle.fy_base.specs.declared.data.BinOp.TheVariants.{Add, Sub, Mul, Div, Rem, Eq, Ne, Lt, Le, Gt, Ge, And, Or}
use Rattle.fy_base.specs.declared.arithmetic.Applied.{Applied}
use Rattle.fy_base.specs.declared.arithmetic.Applied.TheVariants.{Gives, Faults, NoSense}
use Rattle.fy_base.specs.declared.data.FaultKind.TheVariants.{Range}
use Rattle.fy_base.specs.Outside.{Bytes}
use Rattle.fy_base.specs.Arithmetic.{unary_result, binary_result, written_text}
use Rattle.fy_phrase.specs.declared.phrase.MarkKind.TheVariants as marks
use Rattle.fy_phrase.specs.Tree.{Tree, Trees, var, lit, unary, binary, cond, case, lam, app, field, sel, merge, let_in, rec, skip, seq, assign, while_do, forever, new, cells, escape, accept, put, read, mark, no_trees, and_tree}
use Rattle.fy_phrase.specs.Sizes.{depth, all_depth}
use Rattle.fy_phrase.specs.Closing.{closed_at, all_closed_at}
use Rattle.fy_phrase.specs.Contexts.{CopyContext, op_1, op_l, op_r, if_c, case_c, arg_c, pick_c, then_c, assign_c, store_c, while_c, body_c, loop_c, new_c, drop_c, put_c, esc_c, cells_c, fill_c, element_c, Pushed}
use Rattle.fy_phrase.specs.Copy.{Content, single, several, Which, own, element, CopyState, CopyMove, goes, puts, takes, faults, sticks, focus_on, push, focused, pushed, bound, answered, taken, operated, left_meets, chosen, part_at, focused_if_some, indexed, written, counted, element_picked, datum_meets, one_more, bound_filled, filled, datum_under, datum_focused, skip_meets, lam_meets, field_meets, accept_meets, demands, demanded, loaded, assigned, cell_meets, cell_under, measured, sequence_meets, is_target, store_after, jumped, content_of, value_of, byte_or_end, step_at, copy_step}
use Rattle.fy_copy.specs.Low.{AreLow, IsLow}
use Rattle.fy_copy.specs.Kept.{context_depth, contexts_depth, greatest_base, IsKept, IsMoveKept}

-- ---- substitution

compared_depth : (b c : Bool) (below same above : Tree) (m : ℕ) → depth below ≤ m → depth same ≤ m → depth above ≤ m → depth (if b then below else (if c then same else above)) ≤ m
compared_depth true c below same above m hb hs ha = hb
compared_depth false true below same above m hb hs ha = hs
compared_depth false false below same above m hb hs ha = ha

mutual
  closed_depth : (p : Tree) (n : ℕ) (a : Tree) → depth (closed_at n a p) ≤ max (depth p) (depth a)
  closed_depth (var k at) n a = compared_depth (nat_lt k n) (nat_eq k n) (var k at) a (var (k - 1) at) (max 0 (depth a)) (omega arith) (omega arith) (omega arith)
  closed_depth (lit v at) n a = omega (arith)
  closed_depth (unary op p at) n a = omega (arith, closed_depth p n a)
  closed_depth (binary op p q at) n a = omega (arith, closed_depth p n a, closed_depth q n a)
  closed_depth (cond b p q at) n a = omega (arith, closed_depth b n a, closed_depth p n a, closed_depth q n a)
  closed_depth (case e parts at) n a = omega (arith, closed_depth e n a, all_closed_depth parts n a)
  closed_depth (lam d alternatives body at) n a = omega (arith, closed_depth body (n + 1) a)
  closed_depth (app p q at) n a = omega (arith, closed_depth p n a, closed_depth q n a)
  closed_depth (field i p at) n a = omega (arith, closed_depth p n a)
  closed_depth (sel p i at) n a = omega (arith, closed_depth p n a)
  closed_depth (merge p q at) n a = omega (arith, closed_depth p n a, closed_depth q n a)
  closed_depth (let_in d p body at) n a = omega (arith, closed_depth p n a, closed_depth body (n + 1) a)
  closed_depth (rec d T body at) n a = omega (arith, closed_depth body (n + 1) a)
  closed_depth (skip at) n a = omega (arith)
  closed_depth (seq p q at) n a = omega (arith, closed_depth p n a, closed_depth q n a)
  closed_depth (assign p q at) n a = omega (arith, closed_depth p n a, closed_depth q n a)
  closed_depth (while_do b c at) n a = omega (arith, closed_depth b n a, closed_depth c n a)
  closed_depth (forever c at) n a = omega (arith, closed_depth c n a)
  closed_depth (new d D e body at) n a = omega (arith, closed_depth e n a, closed_depth body (n + 1) a)
  closed_depth (cells d e body at) n a = omega (arith, closed_depth e n a, closed_depth body (n + 1) a)
  closed_depth (escape d body at) n a = omega (arith, closed_depth body (n + 1) a)
  closed_depth (accept d D body at) n a = omega (arith, closed_depth body (n + 1) a)
  closed_depth (put kind p at) n a = omega (arith, closed_depth p n a)
  closed_depth (read p at) n a = omega (arith, closed_depth p n a)
  closed_depth (mark m at) n a = omega (arith)

  all_closed_depth : (ps : Trees) (n : ℕ) (a : Tree) → all_depth (all_closed_at n a ps) ≤ max (all_depth ps) (depth a)
  all_closed_depth no_trees n a = omega arith
  all_closed_depth (and_tree p ps) n a = omega (arith, closed_depth p n a, all_closed_depth ps n a)

-- ---- what is kept, context by context

-- no binder in a context is deeper than 1,023
abbrev IsShallow : CopyContext → Type 0
IsShallow (op_1 op at) = Unit {0}
IsShallow (op_l op q at) = depth q ≤ 1023
IsShallow (op_r op u at) = Unit {0}
IsShallow (if_c p q) = (depth p ≤ 1023) × (depth q ≤ 1023)
IsShallow (case_c parts at) = all_depth parts ≤ 1023
IsShallow (arg_c q) = depth q ≤ 1023
IsShallow (pick_c i) = Unit {0}
IsShallow (then_c q) = depth q ≤ 1023
IsShallow (assign_c p) = depth p ≤ 1023
IsShallow (store_c v) = Unit {0}
IsShallow (while_c loop c) = (depth loop ≤ 1023) × (depth c ≤ 1023)
IsShallow (body_c loop) = depth loop ≤ 1023
IsShallow (loop_c loop) = depth loop ≤ 1023
IsShallow (new_c d body) = (d ≤ 1023) × (depth body ≤ 1023)
IsShallow (drop_c n) = Unit {0}
IsShallow (put_c kind) = Unit {0}
IsShallow (esc_c n) = Unit {0}
IsShallow (cells_c d body at) = (d ≤ 1023) × (depth body ≤ 1023)
IsShallow (fill_c n v d body at) = (d ≤ 1023) × (depth body ≤ 1023)
IsShallow (element_c n) = Unit {0}

abbrev AreKept : ℕ → List (Pushed CopyContext) → Type 0
AreKept n [] = Unit {0}
AreKept n (c ∷ cs) = (c.base ≤ 1039 * n) × IsShallow c.context × AreKept n cs

record Keeps (n : ℕ) (s : CopyState) : Type 0 where
  focus : depth s.focus ≤ 1023
  contexts : AreKept n s.contexts
  next : s.next ≤ n
  load : s.load ≤ 1039 * n

abbrev MoveKeeps : ℕ → CopyMove → Type 0
MoveKeeps n (goes s) = Keeps n s
MoveKeeps n (puts text s) = Keeps n s
MoveKeeps n (takes go) = (byte : Option ℕ) → Keeps n (go byte)
MoveKeeps n (faults kind at) = Unit {0}
MoveKeeps n sticks = Unit {0}

shallow_by : (c : CopyContext) → context_depth c ≤ 1023 → IsShallow c
shallow_by (op_1 op at) le = tt
shallow_by (op_l op q at) le = le
shallow_by (op_r op u at) le = tt
shallow_by (if_c p q) le = (omega arith, omega arith)
shallow_by (case_c parts at) le = le
shallow_by (arg_c q) le = le
shallow_by (pick_c i) le = tt
shallow_by (then_c q) le = le
shallow_by (assign_c p) le = le
shallow_by (store_c v) le = tt
shallow_by (while_c loop c) le = (omega arith, omega arith)
shallow_by (body_c loop) le = le
shallow_by (loop_c loop) le = le
shallow_by (new_c d body) le = (omega arith, omega arith)
shallow_by (drop_c n) le = tt
shallow_by (put_c kind) le = tt
shallow_by (esc_c n) le = tt
shallow_by (cells_c d body at) le = (omega arith, omega arith)
shallow_by (fill_c n v d body at) le = (omega arith, omega arith)
shallow_by (element_c n) le = tt

depth_by : (c : CopyContext) → IsShallow c → context_depth c ≤ 1023
depth_by (op_1 op at) is = omega arith
depth_by (op_l op q at) is = is
depth_by (op_r op u at) is = omega arith
depth_by (if_c p q) is = let first = is.0 in let other = is.1 in omega arith
depth_by (case_c parts at) is = is
depth_by (arg_c q) is = is
depth_by (pick_c i) is = omega arith
depth_by (then_c q) is = is
depth_by (assign_c p) is = is
depth_by (store_c v) is = omega arith
depth_by (while_c loop c) is = let first = is.0 in let other = is.1 in omega arith
depth_by (body_c loop) is = is
depth_by (loop_c loop) is = is
depth_by (new_c d body) is = let first = is.0 in let other = is.1 in omega arith
depth_by (drop_c n) is = omega arith
depth_by (put_c kind) is = omega arith
depth_by (esc_c n) is = omega arith
depth_by (cells_c d body at) is = let first = is.0 in let other = is.1 in omega arith
depth_by (fill_c n v d body at) is = let first = is.0 in let other = is.1 in omega arith
depth_by (element_c n) is = omega arith

kept_by : (n : ℕ) (cs : List (Pushed CopyContext)) → contexts_depth cs ≤ 1023 → greatest_base cs ≤ 1039 * n → AreKept n cs
kept_by n [] le small = tt
kept_by n (c ∷ cs) le small = (omega arith, shallow_by c.context (omega arith), kept_by n cs (omega arith) (omega arith))

depths_by : (n : ℕ) (cs : List (Pushed CopyContext)) → AreKept n cs → contexts_depth cs ≤ 1023
depths_by n [] are = omega arith
depths_by n (c ∷ cs) are = let first = depth_by c.context are.1 in let others = depths_by n cs are.2 in omega arith

bases_by : (n : ℕ) (cs : List (Pushed CopyContext)) → AreKept n cs → greatest_base cs ≤ 1039 * n
bases_by n [] are = omega arith
bases_by n (c ∷ cs) are = let first = are.0 in let others = bases_by n cs are.2 in omega arith

keeps : (n : ℕ) (s : CopyState) → IsKept n s → Keeps n s
keeps n s is = record { focus = is.focus; contexts = kept_by n s.contexts is.contexts is.bases; next = is.next; load = is.load }

is_kept : (n : ℕ) (s : CopyState) → Keeps n s → IsKept n s
is_kept n s is = record { focus = is.focus; contexts = depths_by n s.contexts is.contexts; bases = bases_by n s.contexts is.contexts; next = is.next; load = is.load }

is_move_kept : (n : ℕ) (m : CopyMove) → MoveKeeps n m → IsMoveKept n m
is_move_kept n (goes s) is = is_kept n s is
is_move_kept n (puts text s) is = is_kept n s is
is_move_kept n (takes go) is = λ byte. is_kept n (go byte) (is byte)
is_move_kept n (faults kind at) is = tt
is_move_kept n sticks is = tt

-- ---- words of the table

later : (n : ℕ) (cs : List (Pushed CopyContext)) → AreKept n cs → AreKept (n + 1) cs
later n [] are = tt
later n (c ∷ cs) are = let base = are.0 in (omega arith, are.1, later n cs are.2)

on_focus : (n : ℕ) (s : CopyState) (p : Tree) → Keeps n s → depth p ≤ 1023 → Keeps (n + 1) (focus_on p s)
on_focus n s p is h = let load = is.load in let next = is.next in record { focus = h; contexts = later n s.contexts is.contexts; next = omega arith; load = omega arith }

on_pushed : (n : ℕ) (s : CopyState) (c : CopyContext) (p : Tree) → Keeps n s → IsShallow c → depth p ≤ 1023 → Keeps (n + 1) (focus_on p (push c s))
on_pushed n s c p is shallow h =
    let load = is.load in
    let next = is.next in
    record { focus = h; contexts = (omega arith, shallow, later n s.contexts is.contexts); next = omega arith; load = omega arith }

on_bound : (n d : ℕ) (s : CopyState) (a body : Tree) → Keeps n s → d ≤ 1023 → depth a ≤ 1023 → depth body ≤ 1023 → MoveKeeps (n + 1) (bound d a body s)
on_bound n d s a body is small ha hb =
    let load = is.load in
    let next = is.next in
    let closed = closed_depth body 0 a in
    record { focus = omega arith; contexts = later n s.contexts is.contexts; next = omega arith; load = omega arith }

-- a context is pushed, and a binding follows
on_both : (n d : ℕ) (s : CopyState) (c : CopyContext) (a body : Tree) → Keeps n s → IsShallow c → d ≤ 1023 → depth a ≤ 1023 → depth body ≤ 1023 → MoveKeeps (n + 1) (bound d a body (push c s))
on_both n d s c a body is shallow small ha hb =
    let load = is.load in
    let next = is.next in
    let closed = closed_depth body 0 a in
    record { focus = omega arith; contexts = (omega arith, shallow, later n s.contexts is.contexts); next = omega arith; load = omega arith }

answers : (n : ℕ) (meets : CopyContext → CopyState → CopyMove) (cs : List (Pushed CopyContext)) (s : CopyState) → AreKept n cs → s.next ≤ n → depth s.focus ≤ 1023
    → ((c : CopyContext) (t : CopyState) → IsShallow c → Keeps n t → MoveKeeps (n + 1) (meets c t)) → MoveKeeps (n + 1) (answered meets cs s)
answers n meets [] s are next focus each = tt
answers n meets (c ∷ cs) s are next focus each =
    each c.context (record s { contexts = cs; load = c.base }) are.1 (record { focus = focus; contexts = are.2; next = next; load = are.0 })

takes_off : (n : ℕ) (meets : CopyContext → CopyState → CopyMove) (cs : List (Pushed CopyContext)) (s : CopyState) → AreKept n cs → Keeps n s
    → ((c : CopyContext) (t : CopyState) → IsShallow c → Keeps n t → MoveKeeps (n + 1) (meets c t)) → MoveKeeps (n + 1) (taken meets cs s)
takes_off n meets [] s are is each = tt
takes_off n meets (c ∷ cs) s are is each =
    each c.context (record s { contexts = cs }) are.1 (record { focus = is.focus; contexts = are.2; next = is.next; load = is.load })

-- ---- a datum meets a context

on_operated : (n : ℕ) (a : Applied) (at : Place) (s : CopyState) → Keeps n s → MoveKeeps (n + 1) (operated a at s)
on_operated n (Gives v) at s is = on_focus n s (lit v at) is (omega arith)
on_operated n (Faults kind) at s is = tt
on_operated n NoSense at s is = tt

on_left : (n : ℕ) (op : BinOp) (v : Datum) (here : Place) (q : Tree) (at : Place) (s : CopyState) → Keeps n s → depth q ≤ 1023 → MoveKeeps (n + 1) (left_meets op v here q at s)
on_left n And (datum.Bool true) here q at s is h = on_focus n s q is h
on_left n And (datum.Bool false) here q at s is h = on_focus n s (lit (datum.Bool false) here) is (omega arith)
on_left n And (datum.Int z) here q at s is h = tt
on_left n And (datum.Char c) here q at s is h = tt
on_left n Or (datum.Bool true) here q at s is h = on_focus n s (lit (datum.Bool true) here) is (omega arith)
on_left n Or (datum.Bool false) here q at s is h = on_focus n s q is h
on_left n Or (datum.Int z) here q at s is h = tt
on_left n Or (datum.Char c) here q at s is h = tt
on_left n Add v here q at s is h = on_pushed n s (op_r Add v at) q is tt h
on_left n Sub v here q at s is h = on_pushed n s (op_r Sub v at) q is tt h
on_left n Mul v here q at s is h = on_pushed n s (op_r Mul v at) q is tt h
on_left n Div v here q at s is h = on_pushed n s (op_r Div v at) q is tt h
on_left n Rem v here q at s is h = on_pushed n s (op_r Rem v at) q is tt h
on_left n Eq v here q at s is h = on_pushed n s (op_r Eq v at) q is tt h
on_left n Ne v here q at s is h = on_pushed n s (op_r Ne v at) q is tt h
on_left n Lt v here q at s is h = on_pushed n s (op_r Lt v at) q is tt h
on_left n Le v here q at s is h = on_pushed n s (op_r Le v at) q is tt h
on_left n Gt v here q at s is h = on_pushed n s (op_r Gt v at) q is tt h
on_left n Ge v here q at s is h = on_pushed n s (op_r Ge v at) q is tt h

on_chosen : (n : ℕ) (v : Datum) (m o : CopyMove) → MoveKeeps n m → MoveKeeps n o → MoveKeeps n (chosen v m o)
on_chosen n (datum.Bool true) m o hm ho = hm
on_chosen n (datum.Bool false) m o hm ho = ho
on_chosen n (datum.Int z) m o hm ho = tt
on_chosen n (datum.Char c) m o hm ho = tt

on_part : (n : ℕ) (parts : Trees) (i : ℕ) (at : Place) (s : CopyState) → Keeps n s → all_depth parts ≤ 1023 → MoveKeeps (n + 1) (focused_if_some (part_at parts i) at s)
on_part n no_trees i at s is h = tt
on_part n (and_tree p ps) zero at s is h = on_focus n s p is (omega arith)
on_part n (and_tree p ps) (suc i) at s is h = on_part n ps i at s is (omega arith)

on_indexed : (n : ℕ) (v : Datum) (parts : Trees) (at : Place) (s : CopyState) → Keeps n s → all_depth parts ≤ 1023 → MoveKeeps (n + 1) (indexed v parts at s)
on_indexed n (datum.Int (pos i)) parts at s is h = on_part n parts i at s is h
on_indexed n (datum.Int (negsuc i)) parts at s is h = tt
on_indexed n (datum.Bool b) parts at s is h = tt
on_indexed n (datum.Char c) parts at s is h = tt

on_written : (n : ℕ) (text : Option Bytes) (at : Place) (s : CopyState) → Keeps n s → MoveKeeps (n + 1) (written text at s)
on_written n (Some text) at s is = on_focus n s (skip at) is (omega arith)
on_written n None at s is = tt

on_counted : (n : ℕ) (v : Datum) (d : ℕ) (body : Tree) (at : Place) (s : CopyState) → Keeps n s → d ≤ 1023 → depth body ≤ 1023 → MoveKeeps (n + 1) (counted v d body at s)
on_counted n (datum.Int (pos k)) d body at s is small h =
    on_pushed n (record s { store = (record { number = s.next; content = several at [] }) ∷ s.store }) (fill_c s.next k d body at) (lit (datum.Int (pos 0)) at)
    (record { focus = is.focus; contexts = is.contexts; next = is.next; load = is.load }) (small, h) (omega arith)
on_counted n (datum.Int (negsuc k)) d body at s is small h = tt
on_counted n (datum.Bool b) d body at s is small h = tt
on_counted n (datum.Char c) d body at s is small h = tt

within_or_fault : (n : ℕ) (b : Bool) (p : Tree) (at : Place) (s : CopyState) → Keeps n s → depth p ≤ 1023 → MoveKeeps (n + 1) (if b then focused p s else faults Range at)
within_or_fault n true p at s is h = on_focus n s p is h
within_or_fault n false p at s is h = tt

on_element : (n : ℕ) (v : Datum) (k : ℕ) (o : Option Content) (here : Place) (s : CopyState) → Keeps n s → MoveKeeps (n + 1) (element_picked v k o here s)
on_element n (datum.Int (pos i)) k (Some (several at vs)) here s is = within_or_fault n (nat_lt i (length vs)) (mark (marks.Element k i) here) at s is (omega arith)
on_element n (datum.Int (negsuc i)) k (Some (several at vs)) here s is = tt
on_element n v k o here s is = tt

on_datum : (n : ℕ) (v : Datum) (here : Place) (c : CopyContext) (s : CopyState) → IsShallow c → Keeps n s → MoveKeeps (n + 1) (datum_meets v here c s)
on_datum n v here (op_1 op at) s shallow is = on_operated n (unary_result op v) at s is
on_datum n v here (op_l op q at) s shallow is = on_left n op v here q at s is shallow
on_datum n v here (op_r op u at) s shallow is = on_operated n (binary_result op u v) at s is
on_datum n v here (if_c p q) s shallow is = on_chosen (n + 1) v (focused p s) (focused q s) (on_focus n s p is shallow.0) (on_focus n s q is shallow.1)
on_datum n v here (case_c parts at) s shallow is = on_indexed n v parts at s is shallow
on_datum n v here (arg_c q) s shallow is = tt
on_datum n v here (pick_c i) s shallow is = tt
on_datum n v here (then_c q) s shallow is = tt
on_datum n v here (assign_c p) s shallow is = on_pushed n s (store_c v) p is tt shallow
on_datum n v here (store_c w) s shallow is = tt
on_datum n v here (while_c loop c) s shallow is = on_chosen (n + 1) v (pushed (body_c loop) c s) (focused (skip here) s) (on_pushed n s (body_c loop) c is shallow.0 shallow.1) (on_focus n s (skip here) is (omega arith))
on_datum n v here (body_c loop) s shallow is = tt
on_datum n v here (loop_c loop) s shallow is = tt
on_datum n v here (new_c d body) s shallow is = on_both n d (record s { store = (record { number = s.next; content = single v }) ∷ s.store }) (drop_c s.next) (mark (marks.Cell s.next) here) body (record { focus = is.focus; contexts = is.contexts; next = is.next; load = is.load }) tt shallow.0 (omega arith) shallow.1
on_datum n v here (drop_c m) s shallow is = tt
on_datum n v here (put_c kind) s shallow is = on_written n (written_text kind v) here s is
on_datum n v here (esc_c m) s shallow is = tt
on_datum n v here (cells_c d body at) s shallow is = on_counted n v d body at s is shallow.0 shallow.1
on_datum n v here (fill_c m k d body at) s shallow is = tt
on_datum n v here (element_c m) s shallow is = on_element n v m (content_of m s.store) here s is

-- ---- a sequence gets its cells

on_filled : (n : ℕ) (v : Datum) (m : ℕ) (more : ℕ → CopyMove) (all : CopyMove) → ((k : ℕ) → MoveKeeps n (more k)) → MoveKeeps n all → MoveKeeps n (filled v m more all)
on_filled n (datum.Int (pos k)) m more all each last = by_tests (nat_lt k m) (nat_eq k m)
  where
    by_tests : (fewer same : Bool) → MoveKeeps n (if fewer then more k else (if same then all else sticks))
    by_tests true same = each k
    by_tests false true = last
    by_tests false false = tt
on_filled n (datum.Int (negsuc k)) m more all each last = tt
on_filled n (datum.Bool b) m more all each last = tt
on_filled n (datum.Char c) m more all each last = tt

on_one_more : (n m k : ℕ) (here : Place) (s : CopyState) → Keeps n s → MoveKeeps (n + 1) (one_more m k here s)
on_one_more n m k here s is = let load = is.load in let next = is.next in record { focus = omega arith; contexts = later n s.contexts is.contexts; next = omega arith; load = omega arith }

on_under : (n : ℕ) (v : Datum) (here : Place) (c : CopyContext) (base : ℕ) (cs : List (Pushed CopyContext)) (s : CopyState) → IsShallow c → base ≤ 1039 * n → AreKept n cs → Keeps n s
    → MoveKeeps (n + 1) (datum_under v here c base cs s)
on_under n v here (fill_c m k d body at) base cs s shallow low are is =
    on_filled (n + 1) v k (λ j. one_more m j here s) (bound_filled m d body at base cs s) (λ j. on_one_more n m j here s is)
    (on_bound n d (record s { contexts = (record { base = base; context = drop_c m }) ∷ cs }) (mark (marks.Sequence m) at) body
    (record { focus = is.focus; contexts = (low, tt, are); next = is.next; load = is.load }) shallow.0 (omega arith) shallow.1)
on_under n v here c base cs s shallow low are is = on_datum n v here c (record s { contexts = cs; load = base }) shallow (record { focus = is.focus; contexts = are; next = is.next; load = low })

on_focused : (n : ℕ) (v : Datum) (here : Place) (cs : List (Pushed CopyContext)) (s : CopyState) → AreKept n cs → Keeps n s → MoveKeeps (n + 1) (datum_focused v here cs s)
on_focused n v here [] s are is = tt
on_focused n v here (c ∷ cs) s are is = on_under n v here c.context c.base cs s are.1 are.0 are.2 is

-- ---- the other meetings

on_skip : (n : ℕ) (here : Place) (c : CopyContext) (s : CopyState) → IsShallow c → Keeps n s → MoveKeeps (n + 1) (skip_meets here c s)
on_skip n here (op_1 op at) s shallow is = tt
on_skip n here (op_l op q at) s shallow is = tt
on_skip n here (op_r op u at) s shallow is = tt
on_skip n here (if_c p q) s shallow is = tt
on_skip n here (case_c parts at) s shallow is = tt
on_skip n here (arg_c q) s shallow is = tt
on_skip n here (pick_c i) s shallow is = tt
on_skip n here (then_c q) s shallow is = on_focus n s q is shallow
on_skip n here (assign_c p) s shallow is = tt
on_skip n here (store_c v) s shallow is = tt
on_skip n here (while_c loop c) s shallow is = tt
on_skip n here (body_c loop) s shallow is = on_focus n s loop is shallow
on_skip n here (loop_c loop) s shallow is = on_focus n s loop is shallow
on_skip n here (new_c d body) s shallow is = tt
on_skip n here (drop_c m) s shallow is = let load = is.load in let next = is.next in record { focus = omega arith; contexts = later n s.contexts is.contexts; next = omega arith; load = omega arith }
on_skip n here (put_c kind) s shallow is = tt
on_skip n here (esc_c m) s shallow is = on_focus n s (skip here) is (omega arith)
on_skip n here (cells_c e other at) s shallow is = tt
on_skip n here (fill_c j k e other at) s shallow is = tt
on_skip n here (element_c m) s shallow is = tt

on_lam : (n d : ℕ) (body : Tree) → d ≤ 1023 → depth body ≤ 1023 → (c : CopyContext) (s : CopyState) → IsShallow c → Keeps n s → MoveKeeps (n + 1) (lam_meets d body c s)
on_lam n d body small h (op_1 op at) s shallow is = tt
on_lam n d body small h (op_l op q at) s shallow is = tt
on_lam n d body small h (op_r op u at) s shallow is = tt
on_lam n d body small h (if_c p q) s shallow is = tt
on_lam n d body small h (case_c parts at) s shallow is = tt
on_lam n d body small h (arg_c q) s shallow is = on_bound n d s q body is small shallow h
on_lam n d body small h (pick_c i) s shallow is = tt
on_lam n d body small h (then_c q) s shallow is = tt
on_lam n d body small h (assign_c p) s shallow is = tt
on_lam n d body small h (store_c v) s shallow is = tt
on_lam n d body small h (while_c loop c) s shallow is = tt
on_lam n d body small h (body_c loop) s shallow is = tt
on_lam n d body small h (loop_c loop) s shallow is = tt
on_lam n d body small h (new_c e other) s shallow is = tt
on_lam n d body small h (drop_c m) s shallow is = tt
on_lam n d body small h (put_c kind) s shallow is = tt
on_lam n d body small h (esc_c m) s shallow is = tt
on_lam n d body small h (cells_c e other at) s shallow is = tt
on_lam n d body small h (fill_c j k e other at) s shallow is = tt
on_lam n d body small h (element_c m) s shallow is = tt

on_accept : (n d : ℕ) (body : Tree) (here : Place) → d ≤ 1023 → depth body ≤ 1023 → (c : CopyContext) (s : CopyState) → IsShallow c → Keeps n s → MoveKeeps (n + 1) (accept_meets d body here c s)
on_accept n d body here small h (op_1 op at) s shallow is = tt
on_accept n d body here small h (op_l op q at) s shallow is = tt
on_accept n d body here small h (op_r op u at) s shallow is = tt
on_accept n d body here small h (if_c p q) s shallow is = tt
on_accept n d body here small h (case_c parts at) s shallow is = tt
on_accept n d body here small h (arg_c q) s shallow is = tt
on_accept n d body here small h (pick_c i) s shallow is = tt
on_accept n d body here small h (then_c q) s shallow is = tt
on_accept n d body here small h (assign_c p) s shallow is = tt
on_accept n d body here small h (store_c w) s shallow is = on_bound n d s (lit w here) body is small (omega arith) h
on_accept n d body here small h (while_c loop c) s shallow is = tt
on_accept n d body here small h (body_c loop) s shallow is = tt
on_accept n d body here small h (loop_c loop) s shallow is = tt
on_accept n d body here small h (new_c e other) s shallow is = tt
on_accept n d body here small h (drop_c m) s shallow is = tt
on_accept n d body here small h (put_c kind) s shallow is = tt
on_accept n d body here small h (esc_c m) s shallow is = tt
on_accept n d body here small h (cells_c e other at) s shallow is = tt
on_accept n d body here small h (fill_c j k e other at) s shallow is = tt
on_accept n d body here small h (element_c m) s shallow is = tt

picked : (n : ℕ) (b : Bool) (p : Tree) (s : CopyState) → Keeps n s → depth p ≤ 1023 → MoveKeeps (n + 1) (if b then focused p s else sticks)
picked n true p s is h = on_focus n s p is h
picked n false p s is h = tt

on_field : (n i : ℕ) (p : Tree) → depth p ≤ 1023 → (c : CopyContext) (s : CopyState) → IsShallow c → Keeps n s → MoveKeeps (n + 1) (field_meets i p c s)
on_field n i p h (op_1 op at) s shallow is = tt
on_field n i p h (op_l op q at) s shallow is = tt
on_field n i p h (op_r op u at) s shallow is = tt
on_field n i p h (if_c r q) s shallow is = tt
on_field n i p h (case_c parts at) s shallow is = tt
on_field n i p h (arg_c q) s shallow is = tt
on_field n i p h (pick_c j) s shallow is = picked n (nat_eq i j) p s is h
on_field n i p h (then_c q) s shallow is = tt
on_field n i p h (assign_c r) s shallow is = tt
on_field n i p h (store_c v) s shallow is = tt
on_field n i p h (while_c loop c) s shallow is = tt
on_field n i p h (body_c loop) s shallow is = tt
on_field n i p h (loop_c loop) s shallow is = tt
on_field n i p h (new_c d body) s shallow is = tt
on_field n i p h (drop_c m) s shallow is = tt
on_field n i p h (put_c kind) s shallow is = tt
on_field n i p h (esc_c m) s shallow is = tt
on_field n i p h (cells_c e other at) s shallow is = tt
on_field n i p h (fill_c j k e other at) s shallow is = tt
on_field n i p h (element_c m) s shallow is = tt

if_depth : (b : Bool) (p q : Tree) → depth p ≤ 1023 → depth q ≤ 1023 → depth (if b then q else p) ≤ 1023
if_depth true p q hp hq = hq
if_depth false p q hp hq = hp

on_demanded : (p q : Tree) (cs : List (Pushed CopyContext)) → depth p ≤ 1023 → depth q ≤ 1023 → depth (demanded p q cs) ≤ 1023
on_demanded p q [] hp hq = hp
on_demanded p q (c ∷ cs) hp hq = if_depth (demands c.context q) p q hp hq

on_loaded : (n : ℕ) (v : Option Datum) (here : Place) (s : CopyState) → Keeps n s → MoveKeeps (n + 1) (loaded v here s)
on_loaded n (Some v) here s is = on_focus n s (lit v here) is (omega arith)
on_loaded n None here s is = tt

on_assigned : (n : ℕ) (u : Option Datum) (which : Which) (k : ℕ) (v : Datum) (here : Place) (s : CopyState) → Keeps n s → MoveKeeps (n + 1) (assigned u which k v here s)
on_assigned n (Some u) which k v here s is = let load = is.load in let next = is.next in record { focus = omega arith; contexts = later n s.contexts is.contexts; next = omega arith; load = omega arith }
on_assigned n None which k v here s is = tt

on_cell : (n : ℕ) (which : Which) (k : ℕ) (here : Place) (c : CopyContext) (cs : List (Pushed CopyContext)) (s : CopyState) → AreKept n cs → Keeps n s → MoveKeeps (n + 1) (cell_meets which k here c cs s)
on_cell n which k here (op_1 op at) cs s are is = on_loaded n (value_of which k s.store) here s is
on_cell n which k here (op_l op q at) cs s are is = on_loaded n (value_of which k s.store) here s is
on_cell n which k here (op_r op u at) cs s are is = on_loaded n (value_of which k s.store) here s is
on_cell n which k here (if_c p q) cs s are is = on_loaded n (value_of which k s.store) here s is
on_cell n which k here (case_c parts at) cs s are is = on_loaded n (value_of which k s.store) here s is
on_cell n which k here (arg_c q) cs s are is = on_loaded n (value_of which k s.store) here s is
on_cell n which k here (pick_c i) cs s are is = on_loaded n (value_of which k s.store) here s is
on_cell n which k here (then_c q) cs s are is = on_loaded n (value_of which k s.store) here s is
on_cell n which k here (assign_c p) cs s are is = on_loaded n (value_of which k s.store) here s is
on_cell n which k here (store_c v) cs s are is = on_assigned n (value_of which k s.store) which k v here (record s { contexts = cs }) (record { focus = is.focus; contexts = are; next = is.next; load = is.load })
on_cell n which k here (while_c loop c) cs s are is = on_loaded n (value_of which k s.store) here s is
on_cell n which k here (body_c loop) cs s are is = on_loaded n (value_of which k s.store) here s is
on_cell n which k here (loop_c loop) cs s are is = on_loaded n (value_of which k s.store) here s is
on_cell n which k here (new_c d body) cs s are is = on_loaded n (value_of which k s.store) here s is
on_cell n which k here (drop_c m) cs s are is = on_loaded n (value_of which k s.store) here s is
on_cell n which k here (put_c kind) cs s are is = on_loaded n (value_of which k s.store) here s is
on_cell n which k here (esc_c m) cs s are is = on_loaded n (value_of which k s.store) here s is
on_cell n which k here (cells_c e other at) cs s are is = on_loaded n (value_of which k s.store) here s is
on_cell n which k here (fill_c j m e other at) cs s are is = on_loaded n (value_of which k s.store) here s is
on_cell n which k here (element_c m) cs s are is = on_loaded n (value_of which k s.store) here s is

on_cell_under : (n : ℕ) (which : Which) (k : ℕ) (here : Place) (cs : List (Pushed CopyContext)) (s : CopyState) → AreKept n cs → Keeps n s → MoveKeeps (n + 1) (cell_under which k here cs s)
on_cell_under n which k here [] s are is = on_loaded n (value_of which k s.store) here s is
on_cell_under n which k here (c ∷ cs) s are is = on_cell n which k here c.context cs s are.2 is

on_measured : (n : ℕ) (o : Option Content) (here : Place) (s : CopyState) → Keeps n s → MoveKeeps (n + 1) (measured o here s)
on_measured n (Some (several at vs)) here s is = on_focus n s (lit (datum.Int (pos (length vs))) here) is (omega arith)
on_measured n o here s is = tt

where_chosen : (n : ℕ) (b : Bool) (m : CopyMove) → MoveKeeps n m → MoveKeeps n (if b then m else sticks)
where_chosen n true m is = is
where_chosen n false m is = tt

on_sequence : (n k : ℕ) (here : Place) (c : CopyContext) (s : CopyState) → IsShallow c → Keeps n s → MoveKeeps (n + 1) (sequence_meets k here c s)
on_sequence n k here (arg_c q) s shallow is = on_pushed n s (element_c k) q is tt shallow
on_sequence n k here (pick_c i) s shallow is = where_chosen (n + 1) (nat_eq i 0) (measured (content_of k s.store) here s) (on_measured n (content_of k s.store) here s is)
on_sequence n k here c s shallow is = tt

on_target : (n : ℕ) (b : Bool) (t : CopyState) (m : CopyMove) → Keeps (n + 1) t → MoveKeeps (n + 1) m → MoveKeeps (n + 1) (if b then goes t else m)
on_target n true t m here others = here
on_target n false t m here others = others

on_jumped : (n k : ℕ) (here : Place) (cs : List (Pushed CopyContext)) (s : CopyState) → AreKept n cs → s.next ≤ n → MoveKeeps (n + 1) (jumped k here cs s)
on_jumped n k here [] s are next = tt
on_jumped n k here (c ∷ cs) s are next =
    let base = are.0 in
    on_target n (is_target k c.context) (record s { focus = skip here; contexts = cs; load = c.base }) (jumped k here cs (record s { store = store_after c.context s.store }))
    (record { focus = omega arith; contexts = later n cs are.2; next = omega arith; load = omega arith })
    (on_jumped n k here cs (record s { store = store_after c.context s.store }) are.2 next)

-- ---- a step

kept_at : (n : ℕ) (p : Tree) (s : CopyState) → depth p ≤ 1023 → Keeps n s → MoveKeeps (n + 1) (step_at p s)
kept_at n (var k at) s h is = tt
kept_at n (lit v at) s h is = on_focused n v at s.contexts s is.contexts is
kept_at n (unary op p at) s h is = on_pushed n s (op_1 op at) p is tt h
kept_at n (binary op p q at) s h is = on_pushed n s (op_l op q at) p is (omega arith) (omega arith)
kept_at n (cond b p q at) s h is = on_pushed n s (if_c p q) b is (omega arith, omega arith) (omega arith)
kept_at n (case e parts at) s h is = on_pushed n s (case_c parts at) e is (omega arith) (omega arith)
kept_at n (lam d alternatives body at) s h is = takes_off n (lam_meets d body) s.contexts s is.contexts is (on_lam n d body (omega arith) (omega arith))
kept_at n (app p q at) s h is = on_pushed n s (arg_c q) p is (omega arith) (omega arith)
kept_at n (field i p at) s h is = takes_off n (field_meets i p) s.contexts s is.contexts is (on_field n i p h)
kept_at n (sel p i at) s h is = on_pushed n s (pick_c i) p is tt h
kept_at n (merge p q at) s h is = on_focus n s (demanded p q s.contexts) is (on_demanded p q s.contexts (omega arith) (omega arith))
kept_at n (let_in d p body at) s h is = on_bound n d s p body is (omega arith) (omega arith) (omega arith)
kept_at n (rec d T body at) s h is = on_bound n d s (rec d T body at) body is (omega arith) h (omega arith)
kept_at n (skip at) s h is = answers n (skip_meets at) s.contexts s is.contexts is.next is.focus (on_skip n at)
kept_at n (seq p q at) s h is = on_pushed n s (then_c q) p is (omega arith) (omega arith)
kept_at n (assign p q at) s h is = on_pushed n s (assign_c p) q is (omega arith) (omega arith)
kept_at n (while_do b c at) s h is = on_pushed n s (while_c (while_do b c at) c) b is (h, omega arith) (omega arith)
kept_at n (forever c at) s h is = on_pushed n s (loop_c (forever c at)) c is h h
kept_at n (new d D e body at) s h is = on_pushed n s (new_c d body) e is (omega arith, omega arith) (omega arith)
kept_at n (cells d e body at) s h is = on_pushed n s (cells_c d body at) e is (omega arith, omega arith) (omega arith)
kept_at n (escape d body at) s h is = on_both n d s (esc_c s.next) (mark (marks.Jump s.next) at) body is tt (omega arith) (omega arith) (omega arith)
kept_at n (accept d D body at) s h is = takes_off n (accept_meets d body at) s.contexts s is.contexts is (on_accept n d body at (omega arith) (omega arith))
kept_at n (put kind p at) s h is = on_pushed n s (put_c kind) p is tt h
kept_at n (read p at) s h is = λ byte. on_pushed n s (store_c (byte_or_end byte)) p is tt h
kept_at n (mark (marks.Cell k) at) s h is = on_cell_under n own k at s.contexts s is.contexts is
kept_at n (mark (marks.Jump k) at) s h is = on_jumped n k at s.contexts s is.contexts is.next
kept_at n (mark (marks.Sequence k) at) s h is = takes_off n (sequence_meets k at) s.contexts s is.contexts is (on_sequence n k at)
kept_at n (mark (marks.Element k i) at) s h is = on_cell_under n (element i) k at s.contexts s is.contexts is

-- a step of a kept state
pub kept_step : (n : ℕ) (s : CopyState) → IsKept n s → IsMoveKept (n + 1) (copy_step s)
kept_step n s is = is_move_kept (n + 1) (copy_step s) (kept_at n s.focus s is.focus (keeps n s is))

-- a kept state is low for 2^48 steps
low_contexts : (n : ℕ) (cs : List (Pushed CopyContext)) → n ≤ 2 ^ 48 → AreKept n cs → AreLow cs
low_contexts n [] lt are = tt
low_contexts n (c ∷ cs) lt are = let base = are.0 in (omega arith, low_contexts n cs lt are.2)

pub kept_low : (n : ℕ) (s : CopyState) → n ≤ 2 ^ 48 → IsKept n s → IsLow s
kept_low n s lt is =
    let load = is.load in
    let next = is.next in
    record { load = omega arith; bases = low_contexts n s.contexts lt (keeps n s is).contexts; next = omega arith }

-- the steps that moves tell
pub kept_goes : (n : ℕ) (s t : CopyState) → IsKept n s → copy_step s ≡ goes t → IsKept (n + 1) t
kept_goes n s t is move = subst (IsMoveKept (n + 1)) move (kept_step n s is)

pub kept_puts : (n : ℕ) (s t : CopyState) (text : Bytes) → IsKept n s → copy_step s ≡ puts text t → IsKept (n + 1) t
kept_puts n s t text is move = subst (IsMoveKept (n + 1)) move (kept_step n s is)

-- a byte is stored
pub kept_given : (n : ℕ) (s : CopyState) (v : Datum) → IsKept n s → IsKept (n + 1) (push (store_c v) s)
kept_given n s v is = is_kept (n + 1) (push (store_c v) s) (on_pushed n s (store_c v) s.focus (keeps n s is) tt is.focus)
