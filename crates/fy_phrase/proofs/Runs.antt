-- Runs of the copy rule, step by step.
use Rattle.std.proofs.Common.{◌≡◌, ◌≢◌, ℕ, zero, suc, ◌+◌, ◌≤◌, max}
use Rattle.fy_base.specs.Outside.{Bytes, IsPrefix}
use Rattle.fy_runs.proofs.Runs as laws
use Rattle.fy_phrase.specs.Tree.{Tree}
use Rattle.fy_phrase.specs.Copy.{going, copy_machine, CopyRun, tick, after_more, start_run, copy_after, load_of, peak_load}

pub after_zero : (r : CopyRun) → after_more zero r ≡ r
after_zero r = laws.after_zero copy_machine r

pub after_suc : (m : ℕ) (r : CopyRun) → after_more (suc m) r ≡ tick (after_more m r)
after_suc m r = laws.after_suc copy_machine m r

-- k steps and then m
pub after_both : (k m : ℕ) (r : CopyRun) → after_more (k + m) r ≡ after_more m (after_more k r)
after_both k m r = laws.after_both copy_machine k m r

-- a step and then m
pub after_first : (m : ℕ) (r : CopyRun) → after_more (suc m) r ≡ after_more m (tick r)
after_first m r = laws.after_first copy_machine m r

pub over_later : (k m : ℕ) (r : CopyRun) → (after_more k r).standing ≢ going → k ≤ m → after_more m r ≡ after_more k r
over_later k m r over le = laws.over_later copy_machine k m r over le

pub outputs_grow : (p : Tree) (input : Bytes) (k m : ℕ) → k ≤ m → IsPrefix (copy_after p input k).output (copy_after p input m).output
outputs_grow p input k m le = laws.outputs_grow copy_machine (start_run p input) k m le

-- ---- the greatest load

pub peak_zero : (p : Tree) (input : Bytes) → peak_load p input 0 ≡ (copy_after p input 0).state.load
peak_zero p input = laws.peak_zero load_of copy_machine (start_run p input)

pub peak_suc : (p : Tree) (input : Bytes) (m : ℕ) → peak_load p input (suc m) ≡ max (peak_load p input m) (copy_after p input (suc m)).state.load
peak_suc p input m = laws.peak_suc load_of copy_machine (start_run p input) m

-- a state's load is at most the greatest of as many steps and more
pub load_within : (p : Tree) (input : Bytes) (k m : ℕ) → k ≤ m → (copy_after p input k).state.load ≤ peak_load p input m
load_within p input k m le = laws.measure_within load_of copy_machine (start_run p input) k m le
