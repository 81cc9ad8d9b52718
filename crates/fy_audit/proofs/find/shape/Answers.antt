use Rattle.rv_guard.specs.declared.pieces.Piece.TheVariants.{FarJump, StackCheck, NearCheck, TableCheck, Entry, ServiceCall, FaultCall, Single}
use Rattle.fy_audit.proofs.find.shape.Goals as goal

pub returns-clause-complete : goal.returns-clause-complete
returns-clause-complete c = elim [
  | FarJump a b l ↦ λ m e. absurd (let f = c.far_jump.ensures.complete a b l e in let g = c.in_default.not-Some in search)
  | StackCheck a b l ↦ λ m e. absurd (let f = c.stack_check.ensures.complete a b l e in let g = c.in_default-stack_check.not-Some in search)
  | NearCheck a l ↦ λ m e. absurd (let f = c.near_check.ensures.complete a l e in let g = c.in_default-near_check.not-Some in search)
  | TableCheck a b l ↦ λ m e. absurd (let f = c.table_check.ensures.complete a b l e in let g = c.in_default-table_check.not-Some in search)
  | Entry a b l ↦ λ m e. absurd (let f = c.entry.ensures.complete a b l e in let g = c.in_default-entry.not-Some in search)
  | ServiceCall a ↦ λ m e. absurd (let f = c.service.ensures.complete a e in let g = c.in_default-service.not-Some in search)
  | FaultCall a b l ↦ λ m e. c.fault.ensures.complete a b l e
  | Single insn ↦ λ m e. absurd m
]
