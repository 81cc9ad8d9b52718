-- Runs of the machine, step by step.
use Rattle.std.proofs.Common.{◌≡◌, ℕ, zero, suc, ◌+◌, ◌≤◌, max}
use Rattle.fy_base.specs.Outside.{Bytes}
use Rattle.fy_runs.proofs.Runs as laws
use Rattle.pe_code.specs.declared.code.PeCode.{PeCode}
use Rattle.pe_machine.specs.Run.{PeRun, code_machine, tick, after_more, start_run, pe_after, load_of, pe_peak_load}

pub after_zero : (code : PeCode) (r : PeRun) → after_more code zero r ≡ r
after_zero code r = laws.after_zero (code_machine code) r

pub after_suc : (code : PeCode) (m : ℕ) (r : PeRun) → after_more code (suc m) r ≡ tick code (after_more code m r)
after_suc code m r = laws.after_suc (code_machine code) m r

-- k steps and then m
pub after_both : (code : PeCode) (k m : ℕ) (r : PeRun) → after_more code (k + m) r ≡ after_more code m (after_more code k r)
after_both code k m r = laws.after_both (code_machine code) k m r

-- ---- the greatest load

pub peak_zero : (code : PeCode) (input : Bytes) → pe_peak_load code input 0 ≡ (pe_after code input 0).state.load
peak_zero code input = laws.peak_zero load_of (code_machine code) (start_run input)

pub peak_suc : (code : PeCode) (input : Bytes) (n : ℕ) → pe_peak_load code input (suc n) ≡ max (pe_peak_load code input n) (pe_after code input (suc n)).state.load
peak_suc code input n = laws.peak_suc load_of (code_machine code) (start_run input) n

-- a state's load is at most the greatest of as many steps and more
pub load_within : (code : PeCode) (input : Bytes) (k n : ℕ) → k ≤ n → (pe_after code input k).state.load ≤ pe_peak_load code input n
load_within code input k n le = laws.measure_within load_of (code_machine code) (start_run input) k n le
