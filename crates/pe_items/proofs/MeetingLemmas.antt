-- What meets the newest context: a datum and a finished command cut the stack, a procedure, a field and an acceptor take the context off.
use Rattle.std.proofs.Common.{ℕ, ◌+◌, ◌≡◌, true, false, List, ◌∷◌, length, replicate, Option, Some, None, refl, sym, subst, arith, nat_eq, nat_lt, eq-eqb, eqb-true}
use Rattle.fy_base.specs.declared.data.Place.{Place}
use Rattle.fy_base.specs.declared.data.Datum.{Datum}
use Rattle.fy_base.specs.declared.data.Datum.TheVariants as datum_kind
use Rattle.fy_base.specs.declared.data.BinOp.{BinOp}
use Rattle.fy_base.specs.declared.data.BinOp.TheVariants.{And, Or}
use Rattle.fy_base.specs.declared.arithmetic.Applied.{Applied}
use Rattle.fy_base.specs.declared.arithmetic.Applied.TheVariants.{Gives, Faults, NoSense}
use Rattle.fy_base.specs.Outside.{Bytes}
use Rattle.fy_base.specs.Arithmetic.{unary_result, binary_result, written_text}
use Rattle.std.specs.Prelude.{slice_get, pos, negsuc}
use Rattle.std.proofs.lemmas.Bool.{cond-true}
use Rattle.std.proofs.lemmas.List.{length-replicate}
use Rattle.fy_phrase.specs.Contexts.{op_r, store_c, body_c, drop_c, fill_c}
use Rattle.pe_code.specs.declared.code.PeCode.{PeCode}
use Rattle.pe_code.specs.Code.{item_at}
use Rattle.pe_machine.specs.States.{datum, sequence_of, Sequence, to_thunk, to_cell, to_sequence, Frame, code_at, value, completed, PeContext, Held, PeState}
use Rattle.pe_machine.specs.Step as machine
use Rattle.pe_machine.specs.Step.{PeMove, parts_at}
use Rattle.pe_items.specs.Items as items
use Rattle.pe_items.specs.Items.{Item, context, sequence, address_on, FoundContext, context_at, ItemState}
use Rattle.pe_items.specs.Step as moves
use Rattle.pe_items.specs.Step.{ItemMove}
use Rattle.pe_items.proofs.Lays.{AreAt, a_datum, ContextStands, at_op_1, at_op_l, at_op_r, at_if, at_case, at_arg, at_pick, at_then, at_assign, at_store, at_while, at_body, at_loop, at_new, at_cells, at_element, at_drop, at_put, at_escape, at_code, at_value, at_end, thunk_bound, cell_bound, sequence_bound, live_context, laid_cells, Under, UnderState, at_fill}
use Rattle.pe_items.proofs.Standing.{kept-context, kept-cells, kept-both, names-kept, thunk-kept}
use Rattle.pe_items.proofs.CellLemmas.{element-alike}
use Rattle.pe_items.proofs.Alike.{Alike, both_go, both_put, both_fault, one_sticks, focused-alike, pushed-under, pushed-alike, bound-alike, if_alike, either-alike, TakenAlike}

-- ---- a datum

operated-alike : (o : Applied) (at : Place) (s : PeState) (t : ItemState) → UnderState s t → Alike (machine.operated o at s) (moves.operated o at t)
operated-alike (Gives v) at s t u = focused-alike (value v) (value v) s t at_value u
operated-alike (Faults kind) at s t u = both_fault
operated-alike NoSense at s t u = one_sticks

left-alike : (op : BinOp) (v : Datum) (a : ℕ) (r x : Option ℕ) (at : Place) (s : PeState) (t : ItemState) → AreAt s.frames t.items r x → UnderState s t →
    Alike (machine.left_meets op v (record { address = a; frame = r }) at s) (moves.left_meets op v (record { address = a; frame = x }) at t)
left-alike And (datum_kind.Bool true) a r x at s t k u = focused-alike (code_at (record { address = a; frame = r })) (code_at (record { address = a; frame = x })) s t (at_code k) u
left-alike And (datum_kind.Bool false) a r x at s t k u = focused-alike (value (datum_kind.Bool false)) (value (datum_kind.Bool false)) s t at_value u
left-alike And v a r x at s t k u = one_sticks
left-alike Or (datum_kind.Bool true) a r x at s t k u = focused-alike (value (datum_kind.Bool true)) (value (datum_kind.Bool true)) s t at_value u
left-alike Or (datum_kind.Bool false) a r x at s t k u = focused-alike (code_at (record { address = a; frame = r })) (code_at (record { address = a; frame = x })) s t (at_code k) u
left-alike Or v a r x at s t k u = one_sticks
left-alike op v a r x at s t k u = pushed-alike (op_r op v at) (op_r op v at) a r x s t at_op_r k u

chosen-alike : (v : Datum) (m n : PeMove) (p q : ItemMove) → Alike m p → Alike n q → Alike (machine.chosen v m n) (moves.chosen v p q)
chosen-alike (datum_kind.Bool true) m n p q h k = h
chosen-alike (datum_kind.Bool false) m n p q h k = k
chosen-alike v m n p q h k = one_sticks

part-alike : (o : Option ℕ) (r x : Option ℕ) (at : Place) (s : PeState) (t : ItemState) → AreAt s.frames t.items r x → UnderState s t →
    Alike (machine.focused_if_some o r at s) (moves.focused_if_some o x at t)
part-alike (Some a) r x at s t k u = focused-alike (code_at (record { address = a; frame = r })) (code_at (record { address = a; frame = x })) s t (at_code k) u
part-alike None r x at s t k u = both_fault

indexed-alike : (v : Datum) (parts : List ℕ) (r x : Option ℕ) (at : Place) (s : PeState) (t : ItemState) → AreAt s.frames t.items r x → UnderState s t →
    Alike (machine.indexed v parts r at s) (moves.indexed v parts x at t)
indexed-alike (datum_kind.Int (pos n)) parts r x at s t k u = part-alike (slice_get parts n) r x at s t k u
indexed-alike (datum_kind.Int (negsuc n)) parts r x at s t k u = both_fault
indexed-alike v parts r x at s t k u = one_sticks

written-alike : (o : Option Bytes) (s : PeState) (t : ItemState) → UnderState s t → Alike (machine.written o s) (moves.written o t)
written-alike (Some text) s t u = both_put (record { focus = at_end; under = u })
written-alike None s t u = one_sticks

-- so many cells are wanted
counted-alike : (v : Datum) (d a : ℕ) (r x : Option ℕ) (at : Place) (s : PeState) (t : ItemState) → AreAt s.frames t.items r x → UnderState s t →
    Alike (machine.counted v d (record { address = a; frame = r }) at s) (moves.counted v d (record { address = a; frame = x }) at t)
counted-alike (datum_kind.Int (pos m)) d a r x at s t k u = both_go (at_fill {fs = s.frames} {cs = s.contexts} {k = 0} {base = s.load} {is = t.items} (omega arith) k u)
counted-alike (datum_kind.Int (negsuc m)) d a r x at s t k u = both_fault
counted-alike v d a r x at s t k u = one_sticks

pub datum-alike : (code : PeCode) (v : Datum) (c e : PeContext) (s : PeState) (t : ItemState) → ContextStands s.frames t.items c e → UnderState s t →
    Alike (machine.datum_meets code v c s) (moves.datum_meets code v e t)
datum-alike code v c e s t (at_op_1 {op = op} {at = at}) u = operated-alike (unary_result op v) at s t u
datum-alike code v c e s t (at_op_l {op = op} {at = at} {a = a} {r = r} {x = x} k) u = left-alike op v a r x at s t k u
datum-alike code v c e s t (at_op_r {op = op} {u = w} {at = at}) u = operated-alike (binary_result op w v) at s t u
datum-alike code v c e s t (at_if {a = a} {b = b} {r = r} {x = x} {q = q} {y = y} k l) u =
    chosen-alike v _ _ _ _ (focused-alike (code_at (record { address = a; frame = r })) (code_at (record { address = a; frame = x })) s t (at_code k) u)
    (focused-alike (code_at (record { address = b; frame = q })) (code_at (record { address = b; frame = y })) s t (at_code l) u)
datum-alike code v c e s t (at_case {a = a} {r = r} {x = x} {at = at} k) u = indexed-alike v (parts_at (item_at code a)) r x at s t k u
datum-alike code v c e s t (at_while {a = a} {b = b} {r = r} {x = x} {q = q} {y = y} k l) u =
    chosen-alike v _ _ _ _ (pushed-alike (body_c (record { address = a; frame = r })) (body_c (record { address = a; frame = x })) b q y s t (at_body k) l u)
    (focused-alike completed completed s t at_end u)
datum-alike code v c e s t (at_new {d = d} {a = a} {r = r} {x = x} k) u =
    bound-alike d (to_cell v) (items.to_cell v) a r x (machine.push (drop_c s.next) s) (moves.push (drop_c 0) t) cell_bound
    (names-kept (kept-context s.frames t.items (drop_c 0) t.newest) r x k) (pushed-under (drop_c s.next) (drop_c 0) s t at_drop u)
datum-alike code v c e s t (at_assign {a = a} {r = r} {x = x} k) u = pushed-alike (store_c v) (store_c v) a r x s t at_store k u
datum-alike code v c e s t (at_put {kind = kind}) u = written-alike (written_text kind v) s t u
datum-alike code v c e s t (at_cells {d = d} {a = a} {r = r} {x = x} {at = at} k) u = counted-alike v d a r x at s t k u
datum-alike code v c e s t (at_element {b = b} {n = n} {x = x} a) u = element-alike v b n x s t a u
datum-alike code v c e s t h u = one_sticks

-- ---- a sequence that has k of its m cells

module _ (fs : List Frame) (cs : List Held) (n k m d a base load next outside : ℕ) (at : Place) (r x : Option ℕ) (is : List Item) (paid : load ≡ base + 8 + k) (around : AreAt fs is r x)
    (under : Under fs cs base next outside is) where
  abbrev filling : PeState
  filling = record {
    focus = value (datum_kind.Int (pos k));
    contexts = (record { base = base; frames = length fs; context = fill_c n m d (record { address = a; frame = r }) at }) ∷ cs;
    frames = fs;
    next = next;
    load = load;
  }

  -- the items below its context
  abbrev cut_back : ItemState
  cut_back = record { focus = value (datum_kind.Int (pos k)); newest = outside; items = is }

  more-alike : Alike (machine.one_more k filling) (moves.one_more k m d (record { address = a; frame = x }) at cut_back)
  more-alike = both_go (at_fill {fs = fs} {cs = cs} {k = k + 1} {base = base} {is = is} (omega (arith, paid)) around under)

  all-alike : k ≡ m →
      Alike (machine.bound_filled m d (record { address = a; frame = r }) at (record { base = base; frames = length fs; context = fill_c n m d (record { address = a; frame = r }) at }) cs filling)
      (moves.bound_filled m d (record { address = a; frame = x }) at cut_back)
  all-alike last =
      let cells : Sequence = record { place = at; values = replicate m (datum_kind.Int (pos 0)) } in
      let body : Held = record { base = base; frames = length fs; context = drop_c next } in
      let many = length-replicate m (datum_kind.Int (pos 0)) in
      let small = under.load in
      bound-alike d (to_sequence cells) (items.to_thunk (sequence_of (address_on is))) a r x (record filling { contexts = body ∷ cs }) (moves.with_cells (drop_c 0) at m cut_back)
      (sequence_bound refl (omega arith))
      (names-kept (kept-both (kept-context fs is (drop_c 0) outside) (kept-cells fs (context (drop_c 0) outside ∷ is) cells)) r x around)
      (record { lays = laid_cells (live_context {c = body} refl small at_drop under.lays); load = omega (arith, paid, last, many, small); numbers = under.numbers })

  pub filling-alike : (code : PeCode) →
      Alike (machine.step_at code (value (datum_kind.Int (pos k))) filling)
      (moves.step_at code (value (datum_kind.Int (pos k)))
      (record {
        focus = value (datum_kind.Int (pos k));
        newest = address_on is;
        items = sequence (record { place = at; values = replicate k (datum_kind.Int (pos 0)) }) ∷ context (fill_c 0 m d (record { address = a; frame = x }) at) outside ∷ is;
      }))
  filling-alike code =
      let found : FoundContext = record { content = fill_c 0 m d (record { address = a; frame = x }) at; outside = outside; older = is } in
      let t : ItemState = record {
        focus = value (datum_kind.Int (pos k));
        newest = address_on is;
        items = sequence (record { place = at; values = replicate k (datum_kind.Int (pos 0)) }) ∷ context (fill_c 0 m d (record { address = a; frame = x }) at) outside ∷ is;
      } in
      subst (λ (o : Option FoundContext). Alike (machine.step_at code (value (datum_kind.Int (pos k))) filling) (moves.answered (moves.datum_meets code (datum_kind.Int (pos k))) o t))
      (sym (cond-true (nat_eq (address_on is) (address_on is)) (Some found) (context_at (address_on is) is) (eq-eqb (address_on is) (address_on is) refl)))
      (either-alike (nat_lt k m) _ _ _ _ (λ q. more-alike) (λ q. either-alike (nat_eq k m) _ _ _ _ (λ p. all-alike (eqb-true k m p)) (λ p. one_sticks)))

-- ---- a finished command

pub completion-alike : (c e : PeContext) (s : PeState) (t : ItemState) → ContextStands s.frames t.items c e → UnderState s t →
    Alike (machine.completion_meets c s) (moves.completion_meets e t)
completion-alike c e s t (at_then {a = a} {r = r} {x = x} k) u =
    focused-alike (code_at (record { address = a; frame = r })) (code_at (record { address = a; frame = x })) s t (at_code k) u
completion-alike c e s t (at_body {a = a} {r = r} {x = x} k) u =
    focused-alike (code_at (record { address = a; frame = r })) (code_at (record { address = a; frame = x })) s t (at_code k) u
completion-alike c e s t (at_loop {a = a} {r = r} {x = x} k) u =
    focused-alike (code_at (record { address = a; frame = r })) (code_at (record { address = a; frame = x })) s t (at_code k) u
completion-alike c e s t at_drop u = focused-alike completed completed s t at_end u
completion-alike c e s t (at_escape h) u = focused-alike completed completed s t at_end u
completion-alike c e s t h u = one_sticks

-- ---- a procedure, a field and an acceptor

pub bind-alike : (d a : ℕ) (r x : Option ℕ) (s : PeState) (t : ItemState) → AreAt s.frames t.items r x → TakenAlike (machine.bind_meets d a r) (moves.bind_meets d a x) s t
bind-alike d a r x s t k c e cs outside ks old (at_arg {t = th} {u = tu} h) w left =
    bound-alike d (to_thunk th) (items.to_thunk tu) a r x (record s { contexts = cs }) (record t { newest = outside }) (thunk_bound (thunk-kept w h)) k (left (λ n q. cc))
bind-alike d a r x s t k c e cs outside ks old h w left = one_sticks

pub field-alike : (i a : ℕ) (r x : Option ℕ) (s : PeState) (t : ItemState) → AreAt s.frames t.items r x →
    TakenAlike (machine.field_meets i (record { address = a; frame = r })) (moves.field_meets i (record { address = a; frame = x })) s t
field-alike i a r x s t k c e cs outside ks old (at_pick {i = j}) w left =
    if_alike (nat_eq i j) _ _
    (focused-alike (code_at (record { address = a; frame = r })) (code_at (record { address = a; frame = x })) (record s { contexts = cs }) (record t { newest = outside }) (at_code k)
    (left (λ n q. cc)))
field-alike i a r x s t k c e cs outside ks old h w left = one_sticks

pub accept-alike : (d a : ℕ) (r x : Option ℕ) (s : PeState) (t : ItemState) → AreAt s.frames t.items r x → TakenAlike (machine.accept_meets d a r) (moves.accept_meets d a x) s t
accept-alike d a r x s t k c e cs outside ks old (at_store {v = v}) w left =
    bound-alike d (to_thunk (datum v)) (items.to_thunk (datum v)) a r x (record s { contexts = cs }) (record t { newest = outside }) (thunk_bound a_datum) k (left (λ n q. cc))
accept-alike d a r x s t k c e cs outside ks old h w left = one_sticks
