use Rattle.std.proofs.Common.{subst}
use Rattle.rv_asm.specs.Assembly.{IsRefusal}
use Rattle.rv_asm.specs.declared.error.AsmError.{AsmError}
use Rattle.fy_build.proofs.building.words_of.Goals as goal

pub unreachable-requires-in-Err-UnknownLabel : goal.unreachable-requires-in-Err-UnknownLabel
unreachable-requires-in-Err-UnknownLabel c =
    let refused = subst (λ (e : AsmError). IsRefusal c.args.items.now e) c.in-Err-UnknownLabel.field-0-is c.in-Err-UnknownLabel.ensures.err in
    c.requires.known refused.1.k c.in-Err-UnknownLabel.field-0-0 refused.1.is
