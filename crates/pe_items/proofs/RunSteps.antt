-- Runs of items, step by step.
use Rattle.std.proofs.Common.{ℕ, zero, suc, ◌≡◌}
use Rattle.fy_runs.proofs.Runs as laws
use Rattle.pe_code.specs.declared.code.PeCode.{PeCode}
use Rattle.pe_items.specs.Run.{ItemRun, item_machine, tick, after_more}

pub items_zero : (code : PeCode) (r : ItemRun) → after_more code zero r ≡ r
items_zero code r = laws.after_zero (item_machine code) r

pub items_suc : (code : PeCode) (n : ℕ) (r : ItemRun) → after_more code (suc n) r ≡ tick code (after_more code n r)
items_suc code n r = laws.after_suc (item_machine code) n r
