use Rattle.std.proofs.Common.{None, refl, ap, ◌∙◌}
use Rattle.pe_machine.specs.Run.{standing_of}
use Rattle.pe_machine.specs.Seen.{seen}
use Rattle.pe_machine.specs.Step.{faults, loses, sticks}
use Rattle.pe_machine.specs.Turns.{change_move, kept_of, state_of, turn_move}
use Rattle.pe_machine.specs.declared.turns.Turn.TheVariants.{On, Fill, Put, Read, Fault, Stuck, Gone}
use Rattle.pe_machine.proofs.FillingLemmas.{state_with, still_both, still_halts, still_step, turn_is}
use Rattle.pe_machine.proofs.machine.PeState.step.Goals as goal

pub returns-then-is_at_end : goal.returns-then-is_at_end
returns-then-is_at_end c = record { over = ap standing_of (state_with c.args.self.now None c.in_default.is) ∙ c.if-is_at_end.ensures; is = refl }

pub returns-in-On : goal.returns-in-On
returns-in-On c =
    let s = c.args.self.now in
    let plan = c.plan_step-plan.result in
    still_both c.args.code.now s c.in_default.is c.go_on.result (change_move c.in-On.change (kept_of plan.kept (state_of s.core))) c.go_on.new.self c.go_on.ensures.still
    (turn_is c.args.code.now plan (On c.in-On.change) (state_of s.core) c.in-On.is c.plan_step-plan.ensures.moves) c.go_on.ensures.step

pub returns-in-Fill : goal.returns-in-Fill
returns-in-Fill c =
    let s = c.args.self.now in
    let plan = c.plan_step-plan.result in
    let turn = Fill c.in-Fill.count c.in-Fill.depth c.in-Fill.body c.in-Fill.place in
    still_step c.args.code.now s c.in_default.is c.begin.result (turn_move turn (kept_of plan.kept (state_of s.core))) (seen c.begin.new.self)
    (turn_is c.args.code.now plan turn (state_of s.core) c.in-Fill.is c.plan_step-plan.ensures.moves) c.begin.ensures

pub returns-in-Put : goal.returns-in-Put
returns-in-Put c =
    let s = c.args.self.now in
    let plan = c.plan_step-plan.result in
    let turn = Put c.in-Put.kind c.in-Put.v in
    still_both c.args.code.now s c.in_default.is c.put.result (turn_move turn (kept_of plan.kept (state_of s.core))) c.put.new.self c.put.ensures.still
    (turn_is c.args.code.now plan turn (state_of s.core) c.in-Put.is c.plan_step-plan.ensures.moves) c.put.ensures.step

pub returns-in-Read : goal.returns-in-Read
returns-in-Read c =
    let s = c.args.self.now in
    let plan = c.plan_step-plan.result in
    let turn = Read c.in-Read.acceptor in
    still_both c.args.code.now s c.in_default.is c.ask.result (turn_move turn (kept_of plan.kept (state_of s.core))) c.ask.new.self c.ask.ensures.still
    (turn_is c.args.code.now plan turn (state_of s.core) c.in-Read.is c.plan_step-plan.ensures.moves) c.ask.ensures.step

pub returns-in-Fault : goal.returns-in-Fault
returns-in-Fault c =
    let s = c.args.self.now in
    still_halts c.args.code.now s c.in_default.is (faults c.in-Fault.kind c.in-Fault.place) (seen c.halt.new.self) c.if-is_at_end.ensures
    (turn_is c.args.code.now c.plan_step-plan.result (Fault c.in-Fault.kind c.in-Fault.place) (state_of s.core) c.in-Fault.is c.plan_step-plan.ensures.moves) c.halt.ensures.seen

pub returns-in-Stuck : goal.returns-in-Stuck
returns-in-Stuck c =
    let s = c.args.self.now in
    still_halts c.args.code.now s c.in_default.is sticks (seen c.halt-in-Stuck.new.self) c.if-is_at_end.ensures
    (turn_is c.args.code.now c.plan_step-plan.result Stuck (state_of s.core) c.in-Stuck.is c.plan_step-plan.ensures.moves) c.halt-in-Stuck.ensures.seen

pub returns-in-Gone : goal.returns-in-Gone
returns-in-Gone c =
    let s = c.args.self.now in
    still_halts c.args.code.now s c.in_default.is loses (seen c.halt-in-Gone.new.self) c.if-is_at_end.ensures
    (turn_is c.args.code.now c.plan_step-plan.result Gone (state_of s.core) c.in-Gone.is c.plan_step-plan.ensures.moves) c.halt-in-Gone.ensures.seen
