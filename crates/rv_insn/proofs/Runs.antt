-- Runs, instruction by instruction: the laws of all runs.
use Rattle.std.proofs.Common.{◌≡◌, ◌≢◌, ℕ, suc, ◌+◌, ◌≤◌, sym, ap, ◌∙◌, arith}
use Rattle.fy_base.specs.Outside.{IsPrefix}
use Rattle.fy_runs.specs.Runs.{settled as settled_run}
use Rattle.fy_runs.proofs.Runs as laws
use Rattle.rv_insn.specs.declared.events.Event.TheVariants.{Going}
use Rattle.rv_insn.specs.Program.{Program}
use Rattle.rv_insn.specs.Step.{instruction_step}
use Rattle.rv_insn.specs.Run.{World, run_of, world_of, move_of, insn_machine, settled, tick, run}

pub run_none : (p : Program) (w : World) → run p 0 w ≡ w
run_none p w = ap world_of (laws.after_zero (insn_machine p) (run_of w))

-- one instruction more, at the end and at the beginning
pub run_more : (p : Program) (n : ℕ) (w : World) → run p (suc n) w ≡ tick p (run p n w)
run_more p n w = ap world_of (laws.after_suc (insn_machine p) n (run_of w))

pub run_first : (p : Program) (n : ℕ) (w : World) → run p (suc n) w ≡ run p n (tick p w)
run_first p n w = ap world_of (laws.after_first (insn_machine p) n (run_of w))

pub run_splits : (p : Program) (n m : ℕ) (w : World) → run p (n + m) w ≡ run p m (run p n w)
run_splits p n m w = ap world_of (laws.after_both (insn_machine p) n m (run_of w))

-- the step of a run that goes on
pub ticks_from : (p : Program) (w : World) → w.ending ≡ Going → tick p w ≡ settled (instruction_step p w.core).event (instruction_step p w.core).core w
ticks_from p w going =
    let step = instruction_step p w.core in
    ap world_of (laws.ticks_from (insn_machine p) (run_of w) going) ∙ ap (λ e. world_of (settled_run (λ now. e) (move_of step.event step.core) (run_of w))) (sym going)

pub outputs_grow : (p : Program) (n m : ℕ) (w : World) → n ≤ m → IsPrefix (run p n w).output (run p m w).output
outputs_grow p n m w le = laws.outputs_grow (insn_machine p) (run_of w) n m le

pub output_grows : (p : Program) (n m : ℕ) (w : World) → IsPrefix (run p n w).output (run p (n + m) w).output
output_grows p n m w = outputs_grow p n (n + m) w (omega arith)

pub ended_stays : (p : Program) (n : ℕ) (w : World) → w.ending ≢ Going → run p n w ≡ w
ended_stays p n w h = ap world_of (laws.over_stays (insn_machine p) n (run_of w) h)

pub ended_later : (p : Program) (n m : ℕ) (w : World) → (run p n w).ending ≢ Going → n ≤ m → run p m w ≡ run p n w
ended_later p n m w h le = ap world_of (laws.over_later (insn_machine p) n m (run_of w) h le)
