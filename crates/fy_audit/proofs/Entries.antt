-- When the conditions of an entry hold.
use Rattle.std.proofs.Common.{◌≡◌, ℕ, ◌/◌, ◌%◌, ◌≤◌, List, arith}
use Rattle.rv_insn.specs.declared.instructions.Insn.{Insn}
use Rattle.rv_guard.specs.Patterns.{IsEntry}
use Rattle.fy_audit.specs.Words.{IsHeadCount, setting}

pub entry_yes : (code : List Insn) (heads t p v : ℕ) → IsHeadCount heads code → v % 8 ≡ 0 → 8 ≤ v → v / 8 ≤ heads → IsEntry (setting code t p) v
entry_yes code heads t p v h e l m = record { g = v / 8; some = omega (arith, l); is = omega (arith, e); head = h.fewer (v / 8) m }

pub entry_eight : (code : List Insn) (heads t p v : ℕ) → IsHeadCount heads code → IsEntry (setting code t p) v → v % 8 ≡ 0
entry_eight code heads t p v h e = omega (arith, e.is)

pub entry_least : (code : List Insn) (heads t p v : ℕ) → IsHeadCount heads code → IsEntry (setting code t p) v → 8 ≤ v
entry_least code heads t p v h e = omega (arith, e.is, e.some)

pub entry_most : (code : List Insn) (heads t p v : ℕ) → IsHeadCount heads code → IsEntry (setting code t p) v → v / 8 ≤ heads
entry_most code heads t p v h e = omega (arith, e.is, h.most e.g e.head)
