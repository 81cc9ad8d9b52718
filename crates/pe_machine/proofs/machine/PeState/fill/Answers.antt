use Rattle.std.proofs.Common.{sym, arith}
use Rattle.pe_machine.specs.Seen.{seen}
use Rattle.pe_machine.specs.Step.{one_more, pe_step}
use Rattle.pe_machine.specs.Turns.{filled_move, state_of}
use Rattle.pe_machine.proofs.FillingLemmas.{moves_all, moves_more, moves_past, seen_goes, step_by}
use Rattle.pe_machine.proofs.machine.PeState.fill.Goals as goal

pub returns-then-made-count : goal.returns-then-made-count
returns-then-made-count c code =
    let s = c.args.self.now in
    let f = c.args.filling in
    step_by c.add_cell.result (one_more f.made (seen s).state) (pe_step code (seen s).state) (seen s) (seen c.add_cell.new.self) (sym (moves_more f s c.requires.filling code c.if-made-count.true)) c.add_cell.ensures

pub returns-then-made-count-2 : goal.returns-then-made-count-2
returns-then-made-count-2 c code =
    let s = c.args.self.now in
    let f = c.args.filling in
    step_by c.complete.result (filled_move f (state_of s.core)) (pe_step code (seen s).state) (seen s) (seen c.complete.new.self) (sym (moves_all f s c.requires.filling code c.if-made-count-2.true)) c.complete.ensures

pub returns : goal.returns
returns c code =
    let s = c.args.self.now in
    let f = c.args.filling in
    record { going = seen_goes f s c.requires.filling; move_is = moves_past f s c.requires.filling code (omega (arith, c.if-made-count.false, c.if-made-count-2.false)); is = c.halt.ensures.seen }
