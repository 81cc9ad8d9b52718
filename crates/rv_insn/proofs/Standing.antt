-- How a machine stands after a step.
use Rattle.std.proofs.Common.{◌≡◌, ℕ, Bool, true, false, if◌then◌else◌, Option, Some, None, ◌-◌, ◌/◌, List, Result, Ok, Err, refl, arith}
use Rattle.std.specs.List.{slice_get}
use Rattle.fy_base.specs.declared.data.Place.{Place}
use Rattle.fy_base.specs.declared.data.TrapKind.{TrapKind}
use Rattle.rv_insn.specs.declared.events.Status.TheVariants.{Running}
use Rattle.rv_insn.specs.declared.instructions.Insn.{Insn}
use Rattle.rv_insn.specs.declared.instructions.Insn.TheVariants.{Load, Store, Branch, Ecall}
use Rattle.rv_insn.specs.Operations.{is_taken}
use Rattle.rv_insn.specs.Program.{Program, code_start}
use Rattle.rv_insn.specs.Memory.{load, store}
use Rattle.rv_insn.specs.Step.{Core, Outcome, reg, displaced, jumped, advanced, going, after_load, after_store, fault_at, service, execute, after_fetch, instruction_step, status_after}

record Follows (o : Outcome) : Type 0 where
  is : o.core.status ≡ status_after o.event

by : (o : Outcome) → o.core.status ≡ status_after o.event → Follows o
by o h = record { is = h }

loaded : (r : Result ℕ TrapKind) (rd : ℕ) (c : Core) → c.status ≡ Running → Follows (after_load r rd c)
loaded (Ok v) rd c h = by _ h
loaded (Err t) rd c h = by _ refl

stored : (r : Result (List ℕ) TrapKind) (c : Core) → c.status ≡ Running → Follows (after_store r c)
stored (Ok s) c h = by _ h
stored (Err t) c h = by _ refl

branched : (b : Bool) (pc : ℕ) (c : Core) → c.status ≡ Running → Follows (going (if b then jumped pc c else advanced c))
branched true pc c h = by _ h
branched false pc c h = by _ h

faulted_at : (place : Place) (kind : ℕ) (c : Core) → (fault_at (Some place) kind c).core.status ≡ status_after (fault_at (Some place) kind c).event
faulted_at place kind c = grind arith

faulted : (o : Option Place) (kind : ℕ) (c : Core) → Follows (fault_at o kind c)
faulted None kind c = by _ refl
faulted (Some place) kind c = by _ (faulted_at place kind c)

served_by : (p : Program) (c : Core) → c.status ≡ Running → (fault_at (slice_get p.places (reg c 11)) (reg c 10) c).core.status ≡ status_after (fault_at (slice_get p.places (reg c 11)) (reg c 10) c).event
    → (service p c).core.status ≡ status_after (service p c).event
unfolding service
served_by p c h f = grind arith

served : (p : Program) (c : Core) → c.status ≡ Running → Follows (service p c)
served p c h = by _ (served_by p c h (faulted (slice_get p.places (reg c 11)) (reg c 10) c).is)

executed : (p : Program) (i : Insn) (c : Core) → c.status ≡ Running → Follows (execute p i c)
unfolding execute
executed p (Branch op rs1 rs2 offset) c h = branched (is_taken op (reg c rs1) (reg c rs2)) (displaced c.pc offset) c h
executed p (Load op rd base imm) c h = loaded (load p c.stack op (displaced (reg c base) imm)) rd c h
executed p (Store op rs2 base imm) c h = stored (store c.stack op (displaced (reg c base) imm) (reg c rs2)) c h
executed p Ecall c h = served p c h
executed p i c h = by _ h

fetched : (o : Option (Option Insn)) (p : Program) (c : Core) → c.status ≡ Running → Follows (after_fetch o p c)
fetched None p c h = by _ refl
fetched (Some None) p c h = by _ refl
fetched (Some (Some i)) p c h = executed p i c h

pub status_follows : (p : Program) (c : Core) → c.status ≡ Running → (instruction_step p c).core.status ≡ status_after (instruction_step p c).event
unfolding instruction_step
status_follows p c h = let f = (fetched (slice_get p.instructions ((c.pc - code_start) / 4)) p c h).is in grind arith
