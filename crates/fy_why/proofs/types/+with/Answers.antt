use Rattle.std.proofs.Common.{◌≡◌, ◌≤◌, drop, length, map, sym, ap, ◌∙◌, arith}
use Rattle.std.proofs.lemmas.List.{length-map, take_all}
use Rattle.fy_types.specs.declared.types.Ty.{Ty-F, fold-roll-Ty}
use Rattle.fy_types.specs.declared.types.Ty.TheVariants.{rolls-Meet}
use Rattle.fy_types.specs.Types.{PlainType, PlainTypes}
use Rattle.fy_types.specs.Types as types
use Rattle.fy_types.specs.Paths.{end}
use Rattle.fy_types.specs.Reading.{fronted, plain_elem, plain_path, plain_type, ty_step, types_from, types_step}
use Rattle.fy_types.proofs.ReadLemmas.{plain_path-at, plain_types-at}
use Rattle.fy_why.specs.Types.{type_along}
use Rattle.fy_why.proofs.TypeLemmas.{types-each, with-many}
use Rattle.fy_why.proofs.types.+with.Goals as goal

pub type_along-returns : goal.type_along-returns
type_along-returns t c =
    let p = c.args.path.now in
    let zero : c.loop-i.i ≡ 0 = omega (arith, c.loop-i-test.false) in
    c.loop-i.invariant
    ∙ (ap (λ n. type_along (fronted (map plain_elem (drop n c.as_slice-elems.result.now)) (end p.end))) zero
    ∙ ap type_along (sym (plain_path-at p ∙ ap (λ zs. fronted zs (end p.end)) c.as_slice-elems.ensures.reading)))

pub type_with-returns-in_ok-types_with-in_default : goal.type_with-returns-in_ok-types_with-in_default
type_with-returns-in_ok-types_with-in_default t c =
    let l = c.in_ok-types_with-in_default.field-0 in
    let made = ap plain_type (sym (rolls-Meet l)) ∙ fold-roll-Ty PlainType PlainTypes ty_step types_step (Ty-F.Meet l) in
    let many : 2 ≤ length (map plain_path c.args.list.now) = omega (arith, c.in_default.len_at_least, length-map c.args.list.now plain_path) in
    made ∙ (ap types.meet c.in_ok-types_with-in_default.ensures ∙ sym (with-many (map plain_path c.args.list.now) many))

pub types_with-returns : goal.types_with-returns
types_with-returns t c =
    plain_types-at c.loop-path.all
    ∙ (ap types_from (c.loop-path.invariant ∙ ap (λ ps. map type_along (map plain_path ps)) (take_all c.loop-path.path-index c.args.list.now c.loop-path-test.false))
    ∙ sym (types-each (map plain_path c.args.list.now)))
