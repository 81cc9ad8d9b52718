use Rattle.std.proofs.Common.{◌≡◌, ◌⊎◌, ℕ, true, IsTrue, to_z-of_z, sym, subst, SFits, w16, rules}
use Rattle.rv_insn.specs.declared.instructions.Insn.{Insn}
use Rattle.rv_guard.specs.declared.pieces.Piece.TheVariants.{Single}
use Rattle.rv_guard.specs.Windows.{is_multiple, HasWindow, CoversStack, CoversTable}
use Rattle.rv_guard.specs.Rules.{HasAccess}
use Rattle.fy_audit.proofs.rules.insn_access.Goals as goal

pub returns-in-Load : goal.returns-in-Load
returns-in-Load c =
    let fits : SFits w16 c.in-Load.imm = search rules in
    let e = to_z-of_z fits in
    let P : Insn → Type 0 = λ i. (IsTrue c.load_access.result → HasAccess c.args.windows.now (Single i)) × (HasAccess c.args.windows.now (Single i) → IsTrue c.load_access.result) in
    let Q : ℕ → Type 0 = λ s. (IsTrue c.load_access.result → (is_multiple s c.in-Load.imm ≡ true) × (HasWindow (CoversStack c.in-Load.base c.in-Load.imm s) c.args.windows.now ⊎ HasWindow (CoversTable c.in-Load.base c.in-Load.imm s) c.args.windows.now))
    × ((is_multiple s c.in-Load.imm ≡ true) × (HasWindow (CoversStack c.in-Load.base c.in-Load.imm s) c.args.windows.now ⊎ HasWindow (CoversTable c.in-Load.base c.in-Load.imm s) c.args.windows.now) → IsTrue c.load_access.result) in
    subst P (sym c.in-Load.is) (subst Q c.load_bytes.ensures.size (rw e at c.load_access.ensures))

pub returns-in-Store : goal.returns-in-Store
returns-in-Store c =
    let fits : SFits w16 c.in-Store.imm = search rules in
    let e = to_z-of_z fits in
    let P : Insn → Type 0 = λ i. (IsTrue c.store_access.result → HasAccess c.args.windows.now (Single i)) × (HasAccess c.args.windows.now (Single i) → IsTrue c.store_access.result) in
    let Q : ℕ → Type 0 = λ s. (IsTrue c.store_access.result → (is_multiple s c.in-Store.imm ≡ true) × HasWindow (CoversStack c.in-Store.base c.in-Store.imm s) c.args.windows.now)
    × ((is_multiple s c.in-Store.imm ≡ true) × HasWindow (CoversStack c.in-Store.base c.in-Store.imm s) c.args.windows.now → IsTrue c.store_access.result) in
    subst P (sym c.in-Store.is) (subst Q c.store_bytes.ensures.size (rw e at c.store_access.ensures))
