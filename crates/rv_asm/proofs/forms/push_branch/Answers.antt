use Rattle.std.proofs.Common.{sym, subst, [], ◌∷◌}
use Rattle.rv_insn.specs.declared.instructions.Insn.{Insn}
use Rattle.rv_asm.proofs.Encodable.{AreEncodable, one_encodable, near_branch_encodable, far_branch_encodable, near_reaches}
use Rattle.rv_asm.proofs.forms.push_branch.Goals as goal

pub push_words-requires : goal.push_words-requires
push_words-requires c =
    let E : Insn → Type 0 = λ i. AreEncodable (i ∷ []) in
    let reached = near_reaches c.args.near _ c.if-near.true c.requires.reach in
    subst E (sym c.near_branch.ensures) (one_encodable _ (near_branch_encodable c.args.op c.args.rs1 c.args.rs2 c.args.here c.args.to c.requires.rs1 c.requires.rs2 reached))

pub push_words-requires-else-near : goal.push_words-requires-else-near
push_words-requires-else-near c = subst AreEncodable (sym c.far_branch.ensures) (far_branch_encodable c.args.op c.args.rs1 c.args.rs2 c.args.here c.args.to c.requires.rs1 c.requires.rs2)
