-- Lines one behind the other, and the item behind them.
use Rattle.std.proofs.Common.{◌≡◌, ◌≢◌, ℕ, zero, suc, ◌+◌, ◌*◌, ◌/◌, ◌%◌, ◌<◌, ◌≤◌, pos, Bool, true, false, nat_eq, nat_lt, if◌then◌else◌, List, [], ◌∷◌, ◌++◌, length, drop, map, slice_index, Some, inl, refl, sym, ◌∙◌, ap, subst, arith, add-zero}
use Rattle.std.specs.List.{slice_get}
use Rattle.std.specs.Int.{cast_unsigned, w64}
use Rattle.rv_insn.specs.declared.events.Event.TheVariants.{Going}
use Rattle.rv_insn.specs.declared.instructions.Insn.TheVariants as insn
use Rattle.rv_insn.specs.Operations.{is_taken}
use Rattle.rv_insn.specs.Program.{Program, code_start}
use Rattle.rv_insn.specs.Memory.{doublewords}
use Rattle.rv_insn.specs.Step.{Core, reg, with_reg, displaced, jumped, going, execute, instruction_step}
use Rattle.rv_insn.specs.Run.{World, settled, tick, run}
use Rattle.rv_insn.proofs.Runs.{run_none, run_first, ticks_from}
use Rattle.rv_asm.specs.declared.items.Item.{Item}
use Rattle.rv_asm.specs.declared.items.Item.TheVariants.{Plain, BranchTo, JumpTo, FarTo, Constant}
use Rattle.rv_asm.specs.Forms.{constant_words}
use Rattle.rv_asm.specs.Meaning.{GoesOn, Writes}
use Rattle.rv_word.specs.declared.micros.Register.{Register}
use Rattle.rv_word.specs.declared.micros.Register.TheVariants.{Zero}
use Rattle.rv_word.specs.Word.{Data, Code, set}
use Rattle.rv_flow.specs.Lowering.{number_of, items_of}
use Rattle.rv_flow.proofs.Lists.{first_is, rest_is}
use Rattle.rv_flow.proofs.Shown.{N, X31, Source, R, source_number, Scratch, View, view, read, put, Shows, written_reads}
use Rattle.rv_flow.proofs.Lines.{Line, Last, Open, Value, Branch, To, Entry, line_item, last_items, Behind, Away, Unsaid, to_label, entry_number, is_entry, entered, last_does, lines_do, last_least, last_most, lines_least, lines_most, lines_count}
use Rattle.rv_flow.proofs.Reached.{IsPlaced, entry_item, Comes, comes_later, comes_now, IsReached, reached_either}
use Rattle.rv_flow.proofs.Steps.{stands_at, jumped_shows, executes, line_reached}

-- ---- items that take more than one instruction

ticks : (p : Program) (w : World) → w.ending ≡ Going → (instruction_step p w.core).event ≡ Going → tick p w ≡ record w { core = (instruction_step p w.core).core }
ticks p w h e = ticks_from p w h ∙ ap (λ x. settled x (instruction_step p w.core).core w) e

goes_runs : (p : Program) (n : ℕ) (w : World) (after : Core) → w.ending ≡ Going → GoesOn p n w.core after → run p n w ≡ record w { core = after }
goes_runs p zero w after h g = run_none p w ∙ ap (λ c. record w { core = c }) g
goes_runs p (suc n) w after h g =
    run_first p n w ∙ ap (run p n) (ticks p w h g.0) ∙ goes_runs p n (record w { core = (instruction_step p w.core).core }) after h g.1

not_x31 : (n : ℕ) → nat_eq n 31 ≡ false → n ≢ 31
not_x31 n h = λ e. grind arith

named_not_x31 : (r : Register) → nat_eq (number_of r) 31 ≡ false
named_not_x31 Zero = refl
named_not_x31 r = refl

-- a register is written, and x31 may be
writes_come : (p : Program) (w : World) (address : ℕ) (v : View) (r : Register) (most x pc : ℕ) → Shows w address v → Writes p most (number_of r) x pc w.core
    → Comes p w 1 most pc (record v.held { named = set v.held.named r x })
writes_come p w address v r most x pc s c =
    let e : Data = record v.held { named = set v.held.named r x } in
    let h : Scratch = record v.scratch { x31 = reg c.after 31 } in
    let u : World = record w { core = c.after } in
    let reads : (q : Source) → reg (with_reg (number_of r) x w.core) (source_number q) ≡ read (put v (N r) x) q = λ q. written_reads w.core.regs v (N r) x q s.count (s.regs q) in
    let shows : Shows u pc (view e h) = record {
      pc_is = c.written.pc_is;
      running = c.written.status ∙ s.running;
      going = s.going;
      count = c.written.count ∙ s.count;
      regs = seen reads;
      words = ap doublewords c.written.stack ∙ s.words;
      size = ap length c.written.stack ∙ s.size;
      few = s.few;
      input = s.input;
      output = s.output;
    } in
    let P : World → Type 0 = λ z. Shows z pc (view e h) in
    record { count = c.count; above = c.least; below = c.below; scratch = h; shows = subst P (sym (goes_runs p c.count w c.after s.going c.goes)) shows }
  where
    seen : ((q : Source) → reg (with_reg (number_of r) x w.core) (source_number q) ≡ read (put v (N r) x) q)
        → (q : Source) → reg c.after (source_number q) ≡ read (view (record v.held { named = set v.held.named r x }) (record v.scratch { x31 = reg c.after 31 })) q
    seen reads (R X31) = refl
    seen reads (R (N q)) = c.written.regs (number_of q) (inl (not_x31 (number_of q) (named_not_x31 q))) ∙ reads (R (N q))
    seen reads q = c.written.regs (source_number q) (inl (not_x31 (source_number q) refl)) ∙ reads q

pub record IsEntryAt (code : Code) (address : ℕ) : Type 0 where
  pub below : entry_number address < length code.entries
  pub place : address ≡ code_start + 8 * entry_number address

entry_is : (code : Code) (address : ℕ) → is_entry code address ≡ true → IsEntryAt code address
entry_is code address h =
    let low : code_start ≤ address = grind arith in
    let even : address % 8 ≡ 0 = grind arith in
    record { below = grind arith; place = omega arith }

jalr_does : (p : Program) (w : World) (address : ℕ) (v : View) → Shows w address v → execute p (insn.Jalr 0 31 (pos 0)) w.core ≡ going (jumped (displaced v.scratch.x31 (pos 0) / 2 * 2) w.core)
unfolding execute
jalr_does p w address v s = rw (s.regs (R X31)) refl

module _ (code : Code) (p : Program) (at label_at : ℕ → ℕ) (placed : IsPlaced code p at label_at) where
  label_reached : (w : World) (next least most label : ℕ) (e : Data) → Comes p w least most (label_at label) e → IsReached code p label_at next w least most (to_label code label e)
  label_reached w next least most label e c =
      reached_either (λ d. IsReached code p label_at next w least most d) (nat_lt label (length code.blocks)) (Away label e) Unsaid
      (λ t. record { within = grind arith; comes = c }) (λ t. tt)

  branch_reached : (w : World) (k next : ℕ) (v : View) (label : ℕ) (t : Bool) → Shows w (at k) v → Writes p 3 0 0 (if t then label_at label else next) w.core
      → IsReached code p label_at next w 1 3 (if t then to_label code label v.held else Behind v.held)
  branch_reached w k next v label true s c = label_reached w next 1 3 label v.held (writes_come p w (at k) v Zero 3 0 (label_at label) s c)
  branch_reached w k next v label false s c = writes_come p w (at k) v Zero 3 0 next s c

  -- a far jump among the first items
  pub entry_comes : (w : World) (k : ℕ) (v : View) → k < length code.entries → Shows w (code_start + 8 * k) v → Comes p w 1 2 (label_at (slice_index code.entries k)) v.held
  entry_comes w k v below s =
      let label : ℕ = slice_index code.entries k in
      let P : ℕ → Type 0 = λ a. Shows w a v in
      let there : Shows w (at k) v = subst P (sym (placed.entries k (omega arith))) s in
      writes_come p w (at k) v Zero 2 0 (label_at label) there (placed.does k (FarTo label) w.core (entry_item code k below) (stands_at w (at k) v there))

  enter_reached : (w : World) (k next : ℕ) (v : View) → Shows w (at k) v → slice_get (items_of code) k ≡ Some (Plain (insn.Jalr 0 31 (pos 0)))
      → IsReached code p label_at next w 1 3 (entered code (displaced v.scratch.x31 (pos 0) / 2 * 2) v.held)
  enter_reached w k next v s is =
      let address : ℕ = displaced v.scratch.x31 (pos 0) / 2 * 2 in
      let i : ℕ = entry_number address in
      let label : ℕ = slice_index code.entries i in
      let u : World = record w { core = jumped address w.core } in
      let r : run p 1 w ≡ u = executes code p at label_at placed w k v (insn.Jalr 0 31 (pos 0)) (going (jumped address w.core)) s is (jalr_does p w (at k) v s) in
      reached_either (λ d. IsReached code p label_at next w 1 3 d) (is_entry code address) (to_label code label v.held) Unsaid
      (λ t.
      let there : IsEntryAt code address = entry_is code address t in
      let far : Comes p u 1 2 (label_at label) v.held = entry_comes u i v there.below (jumped_shows w (at k) (code_start + 8 * i) address v there.place s) in
      let P : World → Type 0 = λ x. Comes p x 1 2 (label_at label) v.held in
      label_reached w next 1 3 label v.held (comes_later p w 1 1 2 (label_at label) v.held 1 3 (subst P (sym r) far) (omega arith) (omega arith)))
      (λ t. tt)

  last_reached : (w : World) (k : ℕ) (v : View) (last : Last) (tail : List Item) (n : ℕ) → Shows w (at k) v → drop k (items_of code) ≡ last_items last ++ tail → n ≡ k + length (last_items last)
      → IsReached code p label_at (at n) w (last_least last) (last_most last) (last_does code last v)
  last_reached w k v Open tail n s is e =
      let P : ℕ → Type 0 = λ x. Shows w (at x) v in
      comes_now p w 0 (at n) v.held v.scratch (subst P (sym (e ∙ add-zero k)) s)
  last_reached w k v (Value r z) tail n s is e =
      let here = first_is (items_of code) k (Constant (number_of r) z) tail is in
      let P : ℕ → Type 0 = λ x. Comes p w 1 (constant_words z) (at x) (record v.held { named = set v.held.named r (cast_unsigned w64 z) }) in
      subst P (sym e) (writes_come p w (at k) v r (constant_words z) (cast_unsigned w64 z) (at (k + 1)) s (placed.does k (Constant (number_of r) z) w.core here (stands_at w (at k) v s)))
  last_reached w k v (Branch op a b label) tail n s is e =
      let here = first_is (items_of code) k (BranchTo op (source_number a) (source_number b) label) tail is in
      let c : Writes p 3 0 0 (if is_taken op (reg w.core (source_number a)) (reg w.core (source_number b)) then label_at label else at (k + 1)) w.core =
      placed.does k (BranchTo op (source_number a) (source_number b) label) w.core here (stands_at w (at k) v s) in
      let P : ℕ → Type 0 = λ x. Writes p 3 0 0 (if is_taken op x (reg w.core (source_number b)) then label_at label else at (k + 1)) w.core in
      let Q : ℕ → Type 0 = λ x. Writes p 3 0 0 (if is_taken op (read v a) x then label_at label else at (k + 1)) w.core in
      let S : ℕ → Type 0 = λ x. Writes p 3 0 0 (if is_taken op (read v a) (read v b) then label_at label else at x) w.core in
      branch_reached w k (at n) v label (is_taken op (read v a) (read v b)) s (subst S (sym e) (subst Q (s.regs b) (subst P (s.regs a) c)))
  last_reached w k v (To label) tail n s is e =
      let here = first_is (items_of code) k (JumpTo label) tail is in
      label_reached w (at n) 1 2 label v.held (writes_come p w (at k) v Zero 2 0 (label_at label) s (placed.does k (JumpTo label) w.core here (stands_at w (at k) v s)))
  last_reached w k v Entry tail n s is e = enter_reached w k (at n) v s (first_is (items_of code) k (Plain (insn.Jalr 0 31 (pos 0))) tail is)

  -- lines do what they say
  pub lines_reached : (w : World) (k : ℕ) (v : View) (is : List Line) (last : Last) (tail : List Item) (n : ℕ) → Shows w (at k) v → drop k (items_of code) ≡ map line_item is ++ (last_items last ++ tail) → n ≡ k + lines_count is last
      → IsReached code p label_at (at n) w (lines_least is last) (lines_most is last) (lines_do code is last v)
  lines_reached w k v [] last tail n s here e = last_reached w k v last tail n s here e
  lines_reached w k v (i ∷ is) last tail n s here e =
      let rest : List Item = map line_item is ++ (last_items last ++ tail) in
      line_reached code p at label_at placed w k v i (at n) (lines_least is last) (lines_most is last) (λ x. lines_do code is last x) s (first_is (items_of code) k (line_item i) rest here)
      (λ u x t. lines_reached u (k + 1) x is last tail n t (rest_is (items_of code) k (line_item i) rest here) (omega arith))
