use Rattle.std.proofs.Common.{sym, ap, subst, rules, ℤ, FitsSigned}
use Rattle.std.specs.Int.{w16, w32}
use Rattle.std.proofs.lemmas.Int.{to_z-of_z}
use Rattle.rv_insn.specs.declared.instructions.Insn.TheVariants as insn
use Rattle.rv_asm.proofs.Encodable.{offset_fits}
use Rattle.rv_asm.proofs.forms.near_branch.Goals as goal

pub overflow_cast-offset : goal.overflow_cast-offset
overflow_cast-offset c =
    let wide : FitsSigned w32 c.offset-offset.result = search rules in
    let fits : FitsSigned w16 c.offset-offset.result = (let P : ℤ → Type 0 = λ z. FitsSigned w16 z in subst P (sym c.offset-offset.ensures) (offset_fits c.args.here c.args.to c.requires.reach)) in
    rw (to_z-of_z w32 c.offset-offset.result wide) fits

pub returns : goal.returns
returns c =
    let wide : FitsSigned w32 c.offset-offset.result = search rules in
    let fits : FitsSigned w16 c.offset-offset.result = (let P : ℤ → Type 0 = λ z. FitsSigned w16 z in subst P (sym c.offset-offset.ensures) (offset_fits c.args.here c.args.to c.requires.reach)) in
    rw (to_z-of_z w32 c.offset-offset.result wide, to_z-of_z w16 c.offset-offset.result fits) (ap (λ z. insn.Branch c.args.op c.args.rs1 c.args.rs2 z) c.offset-offset.ensures)
