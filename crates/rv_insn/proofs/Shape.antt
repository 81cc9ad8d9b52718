-- What a step keeps of a machine: its number of registers, x0, and the size of its stack.
use Rattle.std.proofs.Common.{◌≡◌, ℕ, zero, Bool, true, false, not, nat_eq, if◌then◌else◌, Option, Some, None, ◌+◌, ◌-◌, ◌/◌, ◌%◌, ◌≤◌, List, ◌++◌, length, take, drop, Result, Ok, Err, refl, ◌∙◌, ap, arith}
use Rattle.std.specs.List.{slice_get, slice_index, slice_set}
use Rattle.std.proofs.lemmas.List.{get_or-set_other, length-set, length-drop, length-append, length-take}
use Rattle.fy_base.specs.declared.data.Place.{Place}
use Rattle.fy_base.specs.declared.data.TrapKind.{TrapKind}
use Rattle.fy_base.specs.declared.data.TrapKind.TheVariants.{StoreAlign, StoreRange}
use Rattle.rv_insn.specs.declared.events.Event.{Event}
use Rattle.rv_insn.specs.declared.events.Event.TheVariants.{Going, WantByte}
use Rattle.rv_insn.specs.declared.instructions.Insn.{Insn}
use Rattle.rv_insn.specs.declared.instructions.Insn.TheVariants.{Reg, Imm, Shift, Load, Store, Branch, Lui, Auipc, Jal, Jalr, Fence, Ecall}
use Rattle.rv_insn.specs.declared.instructions.StoreOp.{StoreOp}
use Rattle.rv_insn.specs.declared.instructions.StoreOp.TheVariants.{Sb}
use Rattle.rv_insn.specs.Operations.{is_taken}
use Rattle.rv_insn.specs.Program.{Program, code_start, stack_start}
use Rattle.rv_insn.specs.Memory.{load, store, store_size, store_bytes, lies_in, overwritten}
use Rattle.rv_insn.specs.Step.{Core, reg, set_reg, displaced, jumped, advanced, given, after_load, after_store, fault_at, service, execute, after_fetch, instruction_step}
use Rattle.fy_runs.specs.Runs.{Run, settled, ticked, tick}
use Rattle.fy_runs.proofs.Runs.{along}
use Rattle.rv_insn.specs.Run.{World, run_of, move_of, standing_of, insn_machine, run}
use Rattle.rv_insn.specs.Laws.{KeepsShape}

length-set_reg : (regs : List ℕ) (rd v : ℕ) → length (set_reg regs rd v) ≡ length regs
length-set_reg regs rd v = elim (nat_eq rd 0) as (λ b. length (if b then regs else slice_set regs rd v) ≡ length regs) [
  | true ↦ refl
  | false ↦ length-set regs rd v
]

zero-set_reg : (regs : List ℕ) (rd v : ℕ) → slice_index (set_reg regs rd v) 0 ≡ slice_index regs 0
zero-set_reg regs rd v = grind (arith, get_or-set_other {A = ℕ})

same : (c : Core) → KeepsShape c c
same c = record { count = refl; zero = refl; size = refl }

-- where registers and stack are the same
still : (c d : Core) → d.regs ≡ c.regs → d.stack ≡ c.stack → KeepsShape c d
still c d e f = record { count = ap length e; zero = ap (λ regs. slice_index regs 0) e; size = ap length f }

writes : (c : Core) (rd v pc : ℕ) → KeepsShape c (record c { regs = set_reg c.regs rd v; pc = pc })
writes c rd v pc = record { count = length-set_reg c.regs rd v; zero = zero-set_reg c.regs rd v; size = refl }

loaded : (r : Result ℕ TrapKind) (rd : ℕ) (c : Core) → KeepsShape c (after_load r rd c).core
loaded (Ok v) rd c = writes c rd v (c.pc + 4)
loaded (Err t) rd c = still c _ refl refl

length-store_bytes : (op : StoreOp) (v : ℕ) → length (store_bytes op v) ≡ store_size op
unfolding store_bytes store_size
length-store_bytes Sb v = refl
length-store_bytes op v = refl

length-overwritten : (place : ℕ) (bytes list : List ℕ) → place + length bytes ≤ length list → length (overwritten place bytes list) ≡ length list
length-overwritten place bytes list h =
    omega (arith, length-append (take place list) (bytes ++ drop (place + length bytes) list), length-append bytes (drop (place + length bytes) list), length-take place list, length-drop (place + length bytes) list)

-- a store that isn't trapped keeps the size of the stack
abbrev pub KeepsSize : List ℕ → Result (List ℕ) TrapKind → Type 0
KeepsSize stack (Ok now) = length now ≡ length stack
KeepsSize stack (Err t) = Unit {0}

lies_below : (start count address size : ℕ) → lies_in start count address size ≡ true → (start ≤ address) × (address + size ≤ start + count)
lies_below start count address size e = grind arith

sized : (b d : Bool) (stack now : List ℕ) (s t : TrapKind) → (d ≡ true → length now ≡ length stack) → KeepsSize stack (if b then Err s else (if d then Ok now else Err t))
sized true d stack now s t h = tt
sized false true stack now s t h = h refl
sized false false stack now s t h = tt

pub store_keeps : (stack : List ℕ) (op : StoreOp) (address v : ℕ) → KeepsSize stack (store stack op address v)
unfolding store
store_keeps stack op address v =
    sized (not (nat_eq (address % store_size op) 0)) (lies_in stack_start (length stack) address (store_size op)) stack
    (overwritten (address - stack_start) (store_bytes op v) stack) StoreAlign StoreRange
    (λ inside. let l = lies_below stack_start (length stack) address (store_size op) inside in
    length-overwritten (address - stack_start) (store_bytes op v) stack (omega (arith, l.0, l.1, length-store_bytes op v)))

stored : (r : Result (List ℕ) TrapKind) (c : Core) → KeepsSize c.stack r → KeepsShape c (after_store r c).core
stored (Ok stack) c h = record { count = refl; zero = refl; size = h }
stored (Err t) c h = still c _ refl refl

branched : (b : Bool) (pc : ℕ) (c : Core) → KeepsShape c (if b then jumped pc c else advanced c)
branched true pc c = still c _ refl refl
branched false pc c = still c _ refl refl

faulted_at : (place : Place) (kind : ℕ) (c : Core) → KeepsShape c (fault_at (Some place) kind c).core
faulted_at place kind c = record { count = grind arith; zero = grind arith; size = grind arith }

faulted : (o : Option Place) (kind : ℕ) (c : Core) → KeepsShape c (fault_at o kind c).core
faulted None kind c = still c _ refl refl
faulted (Some place) kind c = faulted_at place kind c

served : (p : Program) (c : Core) → KeepsShape c (service p c).core
unfolding service
served p c =
    let f = faulted (slice_get p.places (reg c 11)) (reg c 10) c in
    record { count = grind (arith, f.count); zero = grind (arith, f.zero); size = grind (arith, f.size) }

executed : (p : Program) (i : Insn) (c : Core) → KeepsShape c (execute p i c).core
unfolding execute
executed p (Lui rd high) c = writes c rd _ _
executed p (Auipc rd high) c = writes c rd _ _
executed p (Jal rd offset) c = writes c rd _ _
executed p (Jalr rd base imm) c = writes c rd _ _
executed p (Branch op rs1 rs2 offset) c = branched (is_taken op (reg c rs1) (reg c rs2)) (displaced c.pc offset) c
executed p (Load op rd base imm) c = loaded (load p c.stack op (displaced (reg c base) imm)) rd c
executed p (Store op rs2 base imm) c =
    stored (store c.stack op (displaced (reg c base) imm) (reg c rs2)) c (store_keeps c.stack op (displaced (reg c base) imm) (reg c rs2))
executed p (Imm op rd rs1 imm) c = writes c rd _ _
executed p (Shift op rd rs1 amount) c = writes c rd _ _
executed p (Reg op rd rs1 rs2) c = writes c rd _ _
executed p (Fence rd rs1 imm) c = still c _ refl refl
executed p Ecall c = served p c

fetched : (o : Option (Option Insn)) (p : Program) (c : Core) → KeepsShape c (after_fetch o p c).core
fetched None p c = still c _ refl refl
fetched (Some None) p c = still c _ refl refl
fetched (Some (Some i)) p c = executed p i c

pub step_keeps : (p : Program) (c : Core) → KeepsShape c (instruction_step p c).core
unfolding instruction_step
step_keeps p c =
    let f = fetched (slice_get p.instructions ((c.pc - code_start) / 4)) p c in
    record { count = grind (arith, f.count); zero = grind (arith, f.zero); size = grind (arith, f.size) }

through : (a b c : Core) → KeepsShape a b → KeepsShape b c → KeepsShape a c
through a b c h k = record { count = k.count ∙ h.count; zero = k.zero ∙ h.zero; size = k.size ∙ h.size }

gave : (o : Option ℕ) (c : Core) → KeepsShape c (given o c)
gave None c = record { count = length-set c.regs 10 _; zero = get_or-set_other c.regs 10 0 _ 0 (λ e. omega (arith, e)); size = refl }
gave (Some b) c = record { count = length-set c.regs 10 b; zero = get_or-set_other c.regs 10 0 b 0 (λ e. omega (arith, e)); size = refl }

settles : (e : Event) (c : Core) (r : Run Core Event) → KeepsShape r.state c → KeepsShape r.state (settled standing_of (move_of e c) r).state
settles WantByte c r h = through r.state c (given (slice_get r.input 0) c) h (gave (slice_get r.input 0) c)
settles e c r h = h

ticks : (e : Event) (p : Program) (r : Run Core Event) → KeepsShape r.state (ticked (insn_machine p) e r).state
ticks Going p r = settles (instruction_step p r.state).event (instruction_step p r.state).core r (step_keeps p r.state)
ticks e p r = same r.state

pub run_keeps : (p : Program) (n : ℕ) (w : World) → KeepsShape w.core (run p n w).core
run_keeps p n w =
    along (λ (r : Run Core Event). KeepsShape w.core r.state) (insn_machine p) (λ r h. through w.core r.state (tick (insn_machine p) r).state h (ticks r.standing p r)) n (run_of w) (same w.core)
