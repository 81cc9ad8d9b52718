use Rattle.std.proofs.Common.{List, map, sym, subst, arith}
use Rattle.std.proofs.lemmas.List.{take_all}
use Rattle.std.proofs.lemmas.Result.{IfOk-weaker}
use Rattle.fy_link.specs.declared.joined.Part.{Part}
use Rattle.fy_link.specs.declared.unit.Unit.{Unit as UnitValue}
use Rattle.fy_link.specs.Joined.{AreTextParts, IsJoinedText}
use Rattle.fy_link.specs.Read.{plain_part}
use Rattle.fy_link.proofs.SaidLemmas.{parts-more}
use Rattle.fy_link.proofs.linking.text_of.Goals as goal

pub loop-unit-preserved : goal.loop-unit-preserved
loop-unit-preserved c =
    parts-more c.args.names.now c.args.units.now c.loop-unit.unit-index c.unit-item.result c.loop-unit.parts.items c.push.new.self.items c.part_of.result
    c.loop-unit.invariant c.loop-unit-test.true c.unit-item.is c.part_of.ensures c.in_ok-push.ensures.items

pub returns : goal.returns
returns c =
    let names = c.args.names.now in
    let units = c.args.units.now in
    let are = subst (λ (vs : List UnitValue). AreTextParts names vs (map plain_part c.loop-unit.parts.items))
    (take_all c.loop-unit.unit-index units (omega (arith, c.loop-unit-test.false))) c.loop-unit.invariant in
    IfOk-weaker c.joined_text.result _ (λ text. IsJoinedText names units text.items)
    (λ text e. record {
      parts = map plain_part c.deref.result.now;
      are = subst (λ (ps : List Part). AreTextParts names units (map plain_part ps)) (sym c.deref.ensures.value) are;
      is = e;
    })
    c.joined_text.ensures
