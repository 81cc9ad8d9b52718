use Rattle.std.proofs.Common.{Some, None, cond, sym, ap, ◌∙◌, arith}
use Rattle.fy_types.specs.declared.types.Atom.TheVariants.{Comm}
use Rattle.fy_types.specs.Reading.{plain_type}
use Rattle.fy_derive.specs.Rules.{is_atom}
use Rattle.fy_link.specs.declared.error.LinkError.TheVariants.{NotMain}
use Rattle.fy_link.specs.declared.unit.Unit.{Unit as UnitValue}
use Rattle.fy_link.proofs.CauseLemmas.{main-at}
use Rattle.fy_link.proofs.causes.judge_main.Goals as goal

pub returns-then-is_command-clause-ok : goal.returns-then-is_command-clause-ok
returns-then-is_command-clause-ok c =
    main-at c.args.units.now _ c.index-units-units.result (omega (arith, c.if-units-eq0.false)) c.index-units-units.is
    ∙ ap (λ b. cond b None (Some NotMain))
    (ap (λ (x : UnitValue). is_atom Comm (plain_type x.said.own.ty)) c.index-units-units.is ∙ (sym c.is_command.ensures ∙ c.if-is_command.true))

pub returns-else-is_command-clause-err : goal.returns-else-is_command-clause-err
returns-else-is_command-clause-err c =
    main-at c.args.units.now _ c.index-units-units.result (omega (arith, c.if-units-eq0.false)) c.index-units-units.is
    ∙ ap (λ b. cond b None (Some NotMain))
    (ap (λ (x : UnitValue). is_atom Comm (plain_type x.said.own.ty)) c.index-units-units.is ∙ (sym c.is_command.ensures ∙ c.if-is_command.false))
