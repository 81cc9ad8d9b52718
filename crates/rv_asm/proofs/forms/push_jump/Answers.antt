use Rattle.std.proofs.Common.{sym, subst, [], ◌∷◌}
use Rattle.rv_insn.specs.declared.instructions.Insn.{Insn}
use Rattle.rv_asm.proofs.Encodable.{AreEncodable, one_encodable, near_jump_encodable, far_jump_encodable, near_reaches}
use Rattle.rv_asm.proofs.forms.push_jump.Goals as goal

pub push_words-requires : goal.push_words-requires
push_words-requires c =
    let E : Insn → Type 0 = λ i. AreEncodable (i ∷ []) in
    let reached = near_reaches c.args.near _ c.if-near.true c.requires.reach in
    subst E (sym c.near_jump.ensures) (one_encodable _ (near_jump_encodable c.args.rd c.args.here c.args.to c.requires.rd reached))

pub push_words-requires-else-near : goal.push_words-requires-else-near
push_words-requires-else-near c = subst AreEncodable (sym c.far_jump.ensures) (far_jump_encodable c.args.rd c.args.here c.args.to c.requires.rd)
