-- One line on the machine.
use Rattle.std.proofs.Common.{◌≡◌, ℕ, suc, ◌+◌, ◌-◌, ◌*◌, ◌%◌, ◌^◌, ◌<◌, ◌≤◌, ℤ, pos, Bool, true, false, nat_eq, nat_lt, ◌&&◌, if◌then◌else◌, List, [], ◌∷◌, ◌++◌, length, drop, slice_index, slice_set, Option, Some, None, Ok, refl, sym, ◌∙◌, ap, subst, arith, length-set}
use Rattle.std.specs.List.{slice_get}
use Rattle.std.specs.Int.{cast_unsigned, w64}
use Rattle.std.proofs.lemmas.Bool.{and_parts}
use Rattle.std.proofs.lemmas.List.Elements.{All-get_or}
use Rattle.fy_base.specs.declared.data.Place.{Place}
use Rattle.fy_base.specs.declared.data.FaultKind.TheVariants as fault
use Rattle.rv_insn.specs.declared.events.Event.{Event}
use Rattle.rv_insn.specs.declared.events.Event.TheVariants as event
use Rattle.rv_insn.specs.declared.events.Status.TheVariants.{Waiting}
use Rattle.rv_insn.specs.declared.instructions.RegOp.{RegOp}
use Rattle.rv_insn.specs.declared.instructions.ImmOp.{ImmOp}
use Rattle.rv_insn.specs.declared.instructions.ShiftOp.{ShiftOp}
use Rattle.rv_insn.specs.declared.instructions.BranchOp.{BranchOp}
use Rattle.rv_insn.specs.declared.instructions.LoadOp.TheVariants.{Ld}
use Rattle.rv_insn.specs.declared.instructions.StoreOp.TheVariants.{Sd}
use Rattle.rv_insn.specs.declared.instructions.Insn.{Insn}
use Rattle.rv_insn.specs.declared.instructions.Insn.TheVariants as insn
use Rattle.rv_insn.specs.Operations.{reg_value, imm_value, shift_value, is_taken, upper_value}
use Rattle.rv_insn.specs.Program.{Program, table_start, stack_start}
use Rattle.rv_insn.specs.Memory.{load, store, doublewords}
use Rattle.rv_insn.specs.Step.{Core, Outcome, reg, with_reg, displaced, jumped, advanced, going, stopped, given, fault_at, service, execute, instruction_step}
use Rattle.rv_insn.specs.Run.{World, tick, run, settled}
use Rattle.rv_insn.proofs.Runs.{run_none, run_more, ticks_from}
use Rattle.rv_insn.specs.Laws.{StoresDoubleword}
use Rattle.rv_insn.proofs.Doublewords.{load_doubleword, store_doubleword}
use Rattle.rv_insn.proofs.Regions.{load_from_table}
use Rattle.rv_asm.specs.declared.items.Item.TheVariants.{Plain}
use Rattle.rv_word.specs.declared.micros.Register.TheVariants.{Zero}
use Rattle.rv_word.specs.Word.{Data, Code, word_number, table_number, has_window, is_in_table, taken_in}
use Rattle.rv_word.proofs.Windows.{IsWindow, window_is}
use Rattle.rv_flow.specs.Lowering.{items_of}
use Rattle.rv_flow.specs.Laws.{IsSameOutside}
use Rattle.rv_flow.proofs.Shown.{Dest, N, X10, X11, X17, Source, R, X3, dest_number, View, read, put, Shows, length-set_reg, written_reads}
use Rattle.rv_flow.proofs.Lines.{Line, Op, Num, Lift, Upper, Stay, Load, Fetch, Store, Call, insn_of, Did, Still, Over, Unsaid, faulted_by, called, line_does}
use Rattle.rv_flow.proofs.Reached.{IsAt, IsPlaced, IsReached, later, sticks_now, reached_either}

pub stands_at : (w : World) (address : ℕ) (v : View) → Shows w address v → IsAt address w.core
stands_at w address v s = record { pc_is = s.pc_is; count = s.count; zero_is = s.regs (R (N Zero)) }

-- the first step of a run
pub first_step : (p : Program) (w : World) (o : Outcome) → w.ending ≡ event.Going → instruction_step p w.core ≡ o → run p 1 w ≡ settled o.event o.core w
first_step p w o h e = run_more p 0 w ∙ ap (tick p) (run_none p w) ∙ ticks_from p w h ∙ ap (λ x. settled x.event x.core w) e

-- ---- what instructions execute

pub moved_to : (p : Program) (w : World) (core : Core) → w.ending ≡ event.Going → instruction_step p w.core ≡ going core → run p 1 w ≡ record w { core = core }
moved_to p w core h e = first_step p w (going core) h e

put_shows : (w : World) (address next : ℕ) (v : View) (d : Dest) (x : ℕ) → next ≡ address + 4 → Shows w address v → Shows (record w { core = advanced (with_reg (dest_number d) x w.core) }) next (put v d x)
put_shows w address next v d x n s = record {
  pc_is = ap (λ a. a + 4) s.pc_is ∙ sym n;
  running = s.running;
  going = s.going;
  count = length-set_reg w.core.regs (dest_number d) x ∙ s.count;
  regs = λ r. written_reads w.core.regs v d x r s.count (s.regs r);
  words = s.words;
  size = s.size;
  few = s.few;
  input = s.input;
  output = s.output;
}

pub jumped_shows : (w : World) (address to pc : ℕ) (v : View) → pc ≡ to → Shows w address v → Shows (record w { core = jumped pc w.core }) to v
jumped_shows w address to pc v e s = record { pc_is = e; running = s.running; going = s.going; count = s.count; regs = s.regs; words = s.words; size = s.size; few = s.few; input = s.input; output = s.output }

op_does : (p : Program) (w : World) (address : ℕ) (v : View) (op : RegOp) (d : Dest) (a b : Source) → Shows w address v → execute p (insn_of (Op op d a b)) w.core ≡ going (advanced (with_reg (dest_number d) (reg_value op (read v a) (read v b)) w.core))
unfolding execute
op_does p w address v op d a b s = rw (s.regs a, s.regs b) refl

num_does : (p : Program) (w : World) (address : ℕ) (v : View) (op : ImmOp) (d : Dest) (a : Source) (imm : ℤ) → Shows w address v → execute p (insn_of (Num op d a imm)) w.core ≡ going (advanced (with_reg (dest_number d) (imm_value op (read v a) (cast_unsigned w64 imm)) w.core))
unfolding execute
num_does p w address v op d a imm s = rw (s.regs a) refl

lift_does : (p : Program) (w : World) (address : ℕ) (v : View) (op : ShiftOp) (d : Dest) (a : Source) (amount : ℕ) → Shows w address v → execute p (insn_of (Lift op d a amount)) w.core ≡ going (advanced (with_reg (dest_number d) (shift_value op (read v a) amount) w.core))
unfolding execute
lift_does p w address v op d a amount s = rw (s.regs a) refl

upper_does : (p : Program) (w : World) (d : Dest) (high : ℕ) → execute p (insn_of (Upper d high)) w.core ≡ going (advanced (with_reg (dest_number d) (upper_value high) w.core))
unfolding execute
upper_does p w d high = refl

-- a branch to itself
stay_does : (p : Program) (w : World) (address : ℕ) (v : View) (op : BranchOp) (a b : Source) (t : Bool) → Shows w address v → is_taken op (read v a) (read v b) ≡ t
    → execute p (insn_of (Stay op a b)) w.core ≡ going (if t then jumped (displaced w.core.pc (pos 0)) w.core else advanced w.core)
unfolding execute
stay_does p w address v op a b true s e = rw (s.regs a, s.regs b, e) refl
stay_does p w address v op a b false s e = rw (s.regs a, s.regs b, e) refl

-- loads
load_address : (e : Data) (x k : ℕ) → length e.words ≤ 2 ^ 27 → IsWindow e x (k + 1) → displaced x (pos (8 * k)) ≡ stack_start + 8 * (word_number x + k)
load_address e x k size i =
    let low = i.low in
    let high = i.high in
    let even = i.even in
    omega arith

load_inside : (e : Data) (x k : ℕ) → IsWindow e x (k + 1) → word_number x + k < length e.words
load_inside e x k i =
    let low = i.low in
    let high = i.high in
    let even = i.even in
    omega arith

load_does : (p : Program) (w : World) (address : ℕ) (v : View) (d : Dest) (a : Source) (k : ℕ) → Shows w address v → has_window v.held (read v a) (k + 1) ≡ true
    → execute p (insn_of (Load d a k)) w.core ≡ going (advanced (with_reg (dest_number d) (slice_index v.held.words (word_number (read v a) + k)) w.core))
unfolding execute
load_does p w address v d a k s h =
    let x : ℕ = read v a in
    let i : IsWindow v.held x (k + 1) = window_is v.held x (k + 1) h in
    let inside : word_number x + k < length v.held.words = load_inside v.held x k i in
    let size = s.size in
    let loaded : load p w.core.stack Ld (displaced x (pos (8 * k))) ≡ Ok (slice_index v.held.words (word_number x + k)) =
    ap (load p w.core.stack Ld) (load_address v.held x k s.few i) ∙ load_doubleword p w.core.stack (word_number x + k) (omega arith) ∙ ap (λ l. Ok (slice_index l (word_number x + k))) s.words in
    rw (s.regs a, loaded) refl

pub record IsInTable (code : Code) (x : ℕ) : Type 0 where
  pub place : displaced x (pos 0) ≡ table_start + 8 * table_number x
  pub below : table_number x < length code.table

in_table_is : (code : Code) (x : ℕ) → length code.table ≤ 1048576 → is_in_table code x ≡ true → IsInTable code x
in_table_is code x few h =
    let low : table_start ≤ x = grind arith in
    let high : x < table_start + 8 * length code.table = grind arith in
    let even : x % 8 ≡ 0 = grind arith in
    record { place = omega arith; below = omega arith }

fetch_does : (code : Code) (p : Program) (at label_at : ℕ → ℕ) (w : World) (address : ℕ) (v : View) (d : Dest) (a : Source) → IsPlaced code p at label_at → Shows w address v → is_in_table code (read v a) ≡ true
    → execute p (insn_of (Fetch d a)) w.core ≡ going (advanced (with_reg (dest_number d) (slice_index code.table (table_number (read v a))) w.core))
unfolding execute
fetch_does code p at label_at w address v d a placed s h =
    let x : ℕ = read v a in
    let k : ℕ = table_number x in
    let few = placed.table_few in
    let i : IsInTable code x = in_table_is code x few h in
    let below = i.below in
    let many : length p.table ≡ length code.table = ap length placed.table_is in
    let same : slice_index p.table k ≡ slice_index code.table k = ap (λ l. slice_index l k) placed.table_is in
    let fits : slice_index code.table k < 2 ^ 64 = All-get_or (λ w. w < 2 ^ 64) code.table k 0 below placed.table_fits in
    let loaded : load p w.core.stack Ld (displaced x (pos 0)) ≡ Ok (slice_index code.table k) =
    ap (load p w.core.stack Ld) i.place ∙ load_from_table p w.core.stack k (omega arith) (omega arith) (omega arith) ∙ ap Ok same in
    rw (s.regs a, loaded) refl

-- ---- stores

abbrev replaced : View → ℕ → ℕ → View
replaced v k x = record v { held = record v.held { words = slice_set v.held.words k x } }

same_reads : (v : View) (k x : ℕ) (s : Source) → read v s ≡ read (replaced v k x) s
same_reads v k x X3 = ap (λ n. stack_start + 8 * n) (sym (length-set v.held.words k x))
same_reads v k x s = refl

store_shows : (w : World) (address next : ℕ) (v : View) (k x : ℕ) (now : List ℕ) → next ≡ address + 4 → Shows w address v → length now ≡ length w.core.stack → doublewords now ≡ slice_set (doublewords w.core.stack) k x
    → Shows (record w { core = advanced (record w.core { stack = now }) }) next (replaced v k x)
store_shows w address next v k x now n s size words = record {
  pc_is = ap (λ a. a + 4) s.pc_is ∙ sym n;
  running = s.running;
  going = s.going;
  count = s.count;
  regs = λ r. s.regs r ∙ same_reads v k x r;
  words = words ∙ ap (λ l. slice_set l k x) s.words;
  size = size ∙ s.size ∙ ap (λ m. 8 * m) (sym (length-set v.held.words k x));
  few = (let long = length-set v.held.words k x in let few = s.few in omega arith);
  input = s.input;
  output = s.output;
}

store_does : (p : Program) (w : World) (address : ℕ) (v : View) (a : Source) (k : ℕ) (b : Source) (now : List ℕ) → Shows w address v → store w.core.stack Sd (displaced (read v a) (pos (8 * k))) (read v b) ≡ Ok now
    → execute p (insn_of (Store a k b)) w.core ≡ going (advanced (record w.core { stack = now }))
unfolding execute
store_does p w address v a k b now s h = rw (s.regs a, s.regs b, h) refl

-- ---- services

ended_does : (p : Program) (w : World) (m : ℕ) → reg w.core 17 ≡ m → nat_eq m 0 ≡ true → execute p insn.Ecall w.core ≡ stopped event.Ended w.core
unfolding execute service
ended_does p w m e b = rw (e, b) refl

put_does : (p : Program) (w : World) (m x : ℕ) → reg w.core 17 ≡ m → reg w.core 10 ≡ x → nat_eq m 0 ≡ false → nat_eq m 1 ≡ true → execute p insn.Ecall w.core ≡ record { event = event.Put (x % 256); core = advanced w.core }
unfolding execute service
put_does p w m x e f b0 b1 = rw (e, b0, b1, f) refl

take_does : (p : Program) (w : World) (m : ℕ) → reg w.core 17 ≡ m → nat_eq m 0 ≡ false → nat_eq m 1 ≡ false → nat_eq m 2 ≡ true
    → execute p insn.Ecall w.core ≡ record { event = event.WantByte; core = record (advanced w.core) { status = Waiting } }
unfolding execute service
take_does p w m e b0 b1 b2 = rw (e, b0, b1, b2) refl

fault_does : (p : Program) (w : World) (m x y : ℕ) → reg w.core 17 ≡ m → reg w.core 10 ≡ x → reg w.core 11 ≡ y → nat_eq m 0 ≡ false → nat_eq m 1 ≡ false → nat_eq m 2 ≡ false → nat_eq m 3 ≡ true
    → execute p insn.Ecall w.core ≡ fault_at (slice_get p.places y) x w.core
unfolding execute service
fault_does p w m x y e f g b0 b1 b2 b3 = rw (e, b0, b1, b2, b3, f, g) refl

exhausted_does : (p : Program) (w : World) (m : ℕ) → reg w.core 17 ≡ m → nat_eq m 0 ≡ false → nat_eq m 1 ≡ false → nat_eq m 2 ≡ false → nat_eq m 3 ≡ false → nat_eq m 4 ≡ true
    → execute p insn.Ecall w.core ≡ stopped event.Exhausted w.core
unfolding execute service
exhausted_does p w m e b0 b1 b2 b3 b4 = rw (e, b0, b1, b2, b3, b4) refl

faults_overflow : (place : Place) (kind : ℕ) (c : Core) → nat_eq kind 1 ≡ true → fault_at (Some place) kind c ≡ stopped (event.Fault fault.Overflow place) c
faults_overflow place kind c a = rw a refl

faults_zero : (place : Place) (kind : ℕ) (c : Core) → nat_eq kind 1 ≡ false → nat_eq kind 2 ≡ true → fault_at (Some place) kind c ≡ stopped (event.Fault fault.Zero place) c
faults_zero place kind c a b = rw (a, b) refl

faults_range : (place : Place) (kind : ℕ) (c : Core) → nat_eq kind 1 ≡ false → nat_eq kind 2 ≡ false → nat_eq kind 3 ≡ true → fault_at (Some place) kind c ≡ stopped (event.Fault fault.Range place) c
faults_range place kind c a b d = rw (a, b, d) refl

put_out : (w : World) (address next : ℕ) (v : View) → next ≡ address + 4 → Shows w address v
    → Shows (record w { core = advanced w.core; output = w.output ++ (v.scratch.x10 % 256) ∷ [] }) next (record v { held = record v.held { output = v.held.output ++ (v.scratch.x10 % 256) ∷ [] } })
put_out w address next v n s = record {
  pc_is = ap (λ a. a + 4) s.pc_is ∙ sym n;
  running = s.running;
  going = s.going;
  count = s.count;
  regs = s.regs;
  words = s.words;
  size = s.size;
  few = s.few;
  input = s.input;
  output = ap (λ l. l ++ (v.scratch.x10 % 256) ∷ []) s.output;
}

-- what is given in x10
given_shows : (w : World) (address next : ℕ) (v : View) (o : Option ℕ) → next ≡ address + 4 → Shows w address v
    → Shows (record w { core = given o (record (advanced w.core) { status = Waiting }); input = drop 1 w.input }) next (put (record v { held = record v.held { input = drop 1 v.held.input } }) X10 (taken_in o))
given_shows w address next v None n s = record {
  pc_is = ap (λ a. a + 4) s.pc_is ∙ sym n;
  running = refl;
  going = s.going;
  count = length-set_reg w.core.regs 10 (2 ^ 64 - 1) ∙ s.count;
  regs = λ r. written_reads w.core.regs v X10 (2 ^ 64 - 1) r s.count (s.regs r);
  words = s.words;
  size = s.size;
  few = s.few;
  input = ap (drop 1) s.input;
  output = s.output;
}
given_shows w address next v (Some byte) n s = record {
  pc_is = ap (λ a. a + 4) s.pc_is ∙ sym n;
  running = refl;
  going = s.going;
  count = length-set_reg w.core.regs 10 byte ∙ s.count;
  regs = λ r. written_reads w.core.regs v X10 byte r s.count (s.regs r);
  words = s.words;
  size = s.size;
  few = s.few;
  input = ap (drop 1) s.input;
  output = s.output;
}

outside : (w : World) (address : ℕ) (v : View) → Shows w address v → IsSameOutside w v.held
outside w address v s = record { output = s.output; input = s.input }

module _ (code : Code) (p : Program) (at label_at : ℕ → ℕ) (placed : IsPlaced code p at label_at) where
  -- the instruction of an item is executed
  pub executes : (w : World) (k : ℕ) (v : View) (i : Insn) (o : Outcome) → Shows w (at k) v → slice_get (items_of code) k ≡ Some (Plain i) → execute p i w.core ≡ o → run p 1 w ≡ settled o.event o.core w
  executes w k v i o s is e = first_step p w o s.going (placed.does k (Plain i) w.core is (stands_at w (at k) v s) ∙ e)

  -- what is reached from the world behind an instruction
  behind : (w u : World) (next least most : ℕ) (d : Did) → run p 1 w ≡ u → IsReached code p label_at next u least most d → IsReached code p label_at next w (suc least) (suc most) d
  behind w u next least most d e r =
      let P : World → Type 0 = λ x. IsReached code p label_at next x least most d in
      later code p label_at next w 1 least most d (suc least) (suc most) (subst P (sym e) r) (omega arith) (omega arith)

  over : (w : World) (k : ℕ) (v : View) (i : Insn) (how : Event) (c : Core) (next least most : ℕ) → Shows w (at k) v → slice_get (items_of code) k ≡ Some (Plain i) → execute p i w.core ≡ record { event = how; core = c }
      → settled how c w ≡ record w { core = c; ending = how } → IsReached code p label_at next w least (suc most) (Over how v.held)
  over w k v i how c next least most s is e settles =
      let r : run p 1 w ≡ record w { core = c; ending = how } = executes w k v i (record { event = how; core = c }) s is e ∙ settles in
      let P : World → Type 0 = λ x. IsSameOutside x v.held in
      let held : IsSameOutside (record w { core = c; ending = how }) v.held = record { output = s.output; input = s.input } in
      record { count = 1; below = omega arith; ends = ap (λ x. x.ending) r; same = subst P (sym r) held }

  -- a line goes on to what `rest` does, where that reaches so far
  abbrev pub Rests : ℕ → ℕ → ℕ → ℕ → (View → Did) → Type 0
  Rests k next least most rest = (u : World) (v : View) → Shows u (at (k + 1)) v → IsReached code p label_at next u least most (rest v)

  -- a register is written
  puts : (w : World) (k : ℕ) (v : View) (i : Insn) (d : Dest) (x : ℕ) (next least most : ℕ) (rest : View → Did) → Shows w (at k) v → slice_get (items_of code) k ≡ Some (Plain i)
      → execute p i w.core ≡ going (advanced (with_reg (dest_number d) x w.core)) → Rests k next least most rest → IsReached code p label_at next w (suc least) (suc most) (rest (put v d x))
  puts w k v i d x next least most rest s is e then_so =
      let u : World = record w { core = advanced (with_reg (dest_number d) x w.core) } in
      behind w u next least most (rest (put v d x)) (executes w k v i (going (advanced (with_reg (dest_number d) x w.core))) s is e)
      (then_so u (put v d x) (put_shows w (at k) (at (k + 1)) v d x (placed.behind k i is) s))

  stays : (w : World) (k : ℕ) (v : View) (op : BranchOp) (a b : Source) (next least most : ℕ) (rest : View → Did) → Shows w (at k) v → slice_get (items_of code) k ≡ Some (Plain (insn_of (Stay op a b)))
      → Rests k next least most rest → IsReached code p label_at next w (suc least) (suc most) (if is_taken op (read v a) (read v b) then Still v.held else rest v)
  stays w k v op a b next least most rest s is then_so =
      reached_either (λ d. IsReached code p label_at next w (suc least) (suc most) d) (is_taken op (read v a) (read v b)) (Still v.held) (rest v)
      (λ t.
      let low = placed.low k in
      let same : displaced w.core.pc (pos 0) ≡ w.core.pc = (let pc_is = s.pc_is in omega arith) in
      let still : run p 1 w ≡ w = executes w k v (insn_of (Stay op a b)) _ s is (stay_does p w (at k) v op a b true s t) ∙ ap (λ pc. record w { core = jumped pc w.core }) same in
      sticks_now p w (suc most) v.held still s.going (outside w (at k) v s))
      (λ t.
      let u : World = record w { core = advanced w.core } in
      let to : w.core.pc + 4 ≡ at (k + 1) = ap (λ x. x + 4) s.pc_is ∙ sym (placed.behind k (insn_of (Stay op a b)) is) in
      behind w u next least most (rest v) (executes w k v (insn_of (Stay op a b)) (going (advanced w.core)) s is (stay_does p w (at k) v op a b false s t))
      (then_so u v (jumped_shows w (at k) (at (k + 1)) (w.core.pc + 4) v to s)))

  loads : (w : World) (k : ℕ) (v : View) (d : Dest) (a : Source) (j : ℕ) (next least most : ℕ) (rest : View → Did) → Shows w (at k) v → slice_get (items_of code) k ≡ Some (Plain (insn_of (Load d a j)))
      → Rests k next least most rest → IsReached code p label_at next w (suc least) (suc most) (line_does code (Load d a j) v rest)
  loads w k v d a j next least most rest s is then_so =
      reached_either (λ r. IsReached code p label_at next w (suc least) (suc most) r) (has_window v.held (read v a) (j + 1)) (rest (put v d (slice_index v.held.words (word_number (read v a) + j)))) Unsaid
      (λ t. puts w k v (insn_of (Load d a j)) d (slice_index v.held.words (word_number (read v a) + j)) next least most rest s is (load_does p w (at k) v d a j s t) then_so) (λ t. tt)

  fetches : (w : World) (k : ℕ) (v : View) (d : Dest) (a : Source) (next least most : ℕ) (rest : View → Did) → Shows w (at k) v → slice_get (items_of code) k ≡ Some (Plain (insn_of (Fetch d a)))
      → Rests k next least most rest → IsReached code p label_at next w (suc least) (suc most) (line_does code (Fetch d a) v rest)
  fetches w k v d a next least most rest s is then_so =
      reached_either (λ r. IsReached code p label_at next w (suc least) (suc most) r) (is_in_table code (read v a)) (rest (put v d (slice_index code.table (table_number (read v a))))) Unsaid
      (λ t. puts w k v (insn_of (Fetch d a)) d (slice_index code.table (table_number (read v a))) next least most rest s is (fetch_does code p at label_at w (at k) v d a placed s t) then_so) (λ t. tt)

  stores : (w : World) (k : ℕ) (v : View) (a : Source) (j : ℕ) (b : Source) (next least most : ℕ) (rest : View → Did) → Shows w (at k) v → slice_get (items_of code) k ≡ Some (Plain (insn_of (Store a j b)))
      → Rests k next least most rest → IsReached code p label_at next w (suc least) (suc most) (line_does code (Store a j b) v rest)
  stores w k v a j b next least most rest s is then_so =
      let x : ℕ = read v a in
      let y : ℕ = read v b in
      let i : ℕ = word_number x + j in
      reached_either (λ r. IsReached code p label_at next w (suc least) (suc most) r) (has_window v.held x (j + 1) && nat_lt y (2 ^ 64)) (rest (replaced v i y)) Unsaid
      (λ t.
      let both = and_parts (has_window v.held x (j + 1)) (nat_lt y (2 ^ 64)) t in
      let window : IsWindow v.held x (j + 1) = window_is v.held x (j + 1) both.0 in
      let second : nat_lt y (2 ^ 64) ≡ true = both.1 in
      let small : y < 2 ^ 64 = grind arith in
      let inside : i < length v.held.words = load_inside v.held x j window in
      let size = s.size in
      let d : StoresDoubleword w.core.stack i y = store_doubleword w.core.stack i y (omega arith) small in
      let stored : store w.core.stack Sd (displaced x (pos (8 * j))) y ≡ Ok d.now = ap (λ n. store w.core.stack Sd n y) (load_address v.held x j s.few window) ∙ d.stored in
      let u : World = record w { core = advanced (record w.core { stack = d.now }) } in
      behind w u next least most (rest (replaced v i y)) (executes w k v (insn_of (Store a j b)) (going (advanced (record w.core { stack = d.now }))) s is (store_does p w (at k) v a j b d.now s stored))
      (then_so u (replaced v i y) (store_shows w (at k) (at (k + 1)) v i y d.now (placed.behind k (insn_of (Store a j b)) is) s d.size d.replaced)))
      (λ t. tt)

  faults : (w : World) (k : ℕ) (v : View) (o : Option Place) (kind next least most : ℕ) → Shows w (at k) v → slice_get (items_of code) k ≡ Some (Plain insn.Ecall) → execute p insn.Ecall w.core ≡ fault_at o kind w.core
      → IsReached code p label_at next w least (suc most) (faulted_by o kind v.held)
  faults w k v None kind next least most s is e = tt
  faults w k v (Some place) kind next least most s is e =
      let P : Did → Type 0 = λ d. IsReached code p label_at next w least (suc most) d in
      reached_either P (nat_eq kind 1) _ _ (λ b1. over w k v insn.Ecall _ _ next least most s is (e ∙ faults_overflow place kind w.core b1) refl) (λ b1.
      reached_either P (nat_eq kind 2) _ _ (λ b2. over w k v insn.Ecall _ _ next least most s is (e ∙ faults_zero place kind w.core b1 b2) refl) (λ b2.
      reached_either P (nat_eq kind 3) _ _ (λ b3. over w k v insn.Ecall _ _ next least most s is (e ∙ faults_range place kind w.core b1 b2 b3) refl) (λ b3. tt)))

  takes : (w : World) (k : ℕ) (v : View) (next least most : ℕ) (rest : View → Did) → Shows w (at k) v → slice_get (items_of code) k ≡ Some (Plain insn.Ecall)
      → execute p insn.Ecall w.core ≡ record { event = event.WantByte; core = record (advanced w.core) { status = Waiting } } → Rests k next least most rest
      → IsReached code p label_at next w (suc least) (suc most) (rest (put (record v { held = record v.held { input = drop 1 v.held.input } }) X10 (taken_in (slice_get v.held.input 0))))
  takes w k v next least most rest s is e then_so =
      let to : View = put (record v { held = record v.held { input = drop 1 v.held.input } }) X10 (taken_in (slice_get v.held.input 0)) in
      let same : slice_get v.held.input 0 ≡ slice_get w.input 0 = ap (λ l. slice_get l 0) (sym s.input) in
      let u : World = record w { core = given (slice_get w.input 0) (record (advanced w.core) { status = Waiting }); input = drop 1 w.input } in
      let P : Option ℕ → Type 0 = λ o. Shows (record w { core = given o (record (advanced w.core) { status = Waiting }); input = drop 1 w.input }) (at (k + 1)) to in
      behind w u next least most (rest to) (executes w k v insn.Ecall _ s is e)
      (then_so u to (subst P same (given_shows w (at k) (at (k + 1)) v (slice_get v.held.input 0) (placed.behind k insn.Ecall is) s)))

  calls : (w : World) (k : ℕ) (v : View) (next least most : ℕ) (rest : View → Did) → Shows w (at k) v → slice_get (items_of code) k ≡ Some (Plain insn.Ecall) → Rests k next least most rest
      → IsReached code p label_at next w (suc least) (suc most) (called code v.scratch.x17 v rest)
  calls w k v next least most rest s is then_so =
      let P : Did → Type 0 = λ d. IsReached code p label_at next w (suc least) (suc most) d in
      let m : ℕ = v.scratch.x17 in
      let r17 : reg w.core 17 ≡ m = s.regs (R X17) in
      let r10 : reg w.core 10 ≡ v.scratch.x10 = s.regs (R X10) in
      let r11 : reg w.core 11 ≡ v.scratch.x11 = s.regs (R X11) in
      let Q : List Place → Type 0 = λ places. IsReached code p label_at next w (suc least) (suc most) (faulted_by (slice_get places v.scratch.x11) v.scratch.x10 v.held) in
      reached_either P (nat_eq m 0) _ _ (λ b0. over w k v insn.Ecall _ _ next (suc least) most s is (ended_does p w m r17 b0) refl) (λ b0.
      reached_either P (nat_eq m 1) _ _ (λ b1.
      let to : View = record v { held = record v.held { output = v.held.output ++ (v.scratch.x10 % 256) ∷ [] } } in
      let u : World = record w { core = advanced w.core; output = w.output ++ (v.scratch.x10 % 256) ∷ [] } in
      behind w u next least most (rest to) (executes w k v insn.Ecall _ s is (put_does p w m v.scratch.x10 r17 r10 b0 b1)) (then_so u to (put_out w (at k) (at (k + 1)) v (placed.behind k insn.Ecall is) s))) (λ b1.
      reached_either P (nat_eq m 2) _ _ (λ b2. takes w k v next least most rest s is (take_does p w m r17 b0 b1 b2) then_so) (λ b2.
      reached_either P (nat_eq m 3) _ _ (λ b3.
      subst Q placed.places_are (faults w k v (slice_get p.places v.scratch.x11) v.scratch.x10 next (suc least) most s is (fault_does p w m v.scratch.x10 v.scratch.x11 r17 r10 r11 b0 b1 b2 b3))) (λ b3.
      reached_either P (nat_eq m 4) _ _ (λ b4. over w k v insn.Ecall _ _ next (suc least) most s is (exhausted_does p w m r17 b0 b1 b2 b3 b4) refl) (λ b4. tt)))))

  -- what a line does, the machine does in one instruction
  pub line_reached : (w : World) (k : ℕ) (v : View) (i : Line) (next least most : ℕ) (rest : View → Did) → Shows w (at k) v → slice_get (items_of code) k ≡ Some (Plain (insn_of i)) → Rests k next least most rest
      → IsReached code p label_at next w (suc least) (suc most) (line_does code i v rest)
  line_reached w k v (Op op d a b) next least most rest s is then_so = puts w k v (insn_of (Op op d a b)) d _ next least most rest s is (op_does p w (at k) v op d a b s) then_so
  line_reached w k v (Num op d a imm) next least most rest s is then_so = puts w k v (insn_of (Num op d a imm)) d _ next least most rest s is (num_does p w (at k) v op d a imm s) then_so
  line_reached w k v (Lift op d a amount) next least most rest s is then_so = puts w k v (insn_of (Lift op d a amount)) d _ next least most rest s is (lift_does p w (at k) v op d a amount s) then_so
  line_reached w k v (Upper d high) next least most rest s is then_so = puts w k v (insn_of (Upper d high)) d _ next least most rest s is (upper_does p w d high) then_so
  line_reached w k v (Stay op a b) next least most rest s is then_so = stays w k v op a b next least most rest s is then_so
  line_reached w k v (Load d a j) next least most rest s is then_so = loads w k v d a j next least most rest s is then_so
  line_reached w k v (Fetch d a) next least most rest s is then_so = fetches w k v d a next least most rest s is then_so
  line_reached w k v (Store a j b) next least most rest s is then_so = stores w k v a j b next least most rest s is then_so
  line_reached w k v Call next least most rest s is then_so = calls w k v next least most rest s is then_so
