use Rattle.std.proofs.Common.{◌≡◌, ◌+◌, ℕ, List, length, get_or, Some, false, refl, sym, ap, subst, arith}
use Rattle.std.specs.List.{slice_get}
use Rattle.std.proofs.lemmas.Option.{slice_get-get_or}
use Rattle.std.proofs.lemmas.Result.{err_from_is_err_and}
use Rattle.rv_asm.specs.declared.items.Item.{Item}
use Rattle.rv_asm.specs.declared.items.Item.TheVariants.{Mark}
use Rattle.rv_asm.specs.declared.planning.Choice.{Choice}
use Rattle.rv_asm.specs.Planning.{IsTargetOf, IsUnknownIn}
use Rattle.rv_asm.proofs.Labels.{marks_most}
use Rattle.rv_asm.proofs.Refusals.{AimedTo, aimed_more, aimed_all, all_known, refused}
use Rattle.rv_asm.proofs.marks.far_choices.Goals as goal

pub target_of-requires : goal.target_of-requires
target_of-requires c = omega (arith, ap (λ (ls : List ℕ). length ls) c.requires.labels, marks_most c.args.items.now, c.requires.items.few)

pub returns-in_err-target-clause-err : goal.returns-in_err-target-clause-err
returns-in_err-target-clause-err c =
    let items = c.args.items.now in
    let k = c.loop-item.item-index in
    let item : Item = get_or items k (Mark 0) in
    let there : slice_get items k ≡ Some item = slice_get-get_or items k (Mark 0) c.loop-item-test.true in
    let U : List ℕ → Type 0 = λ ls. IsUnknownIn ls item c.in_err-target.field-0.0 in
    let p = err_from_is_err_and c.from_residual.result c.from_residual.ensures.1 in
    rw (p.1, p.2) (refused items k c.loop-item.choices.items item c.in_err-target.field-0.0 c.requires.distinct c.loop-item.invariant there (subst U c.requires.labels c.in_err-target.ensures.err))

pub loop-item-preserved : goal.loop-item-preserved
loop-item-preserved c =
    let items = c.args.items.now in
    let k = c.loop-item.item-index in
    let choice : Choice = record { near = false; target = c.in_ok-target.target } in
    let there : slice_get items k ≡ Some (get_or items k (Mark 0)) = slice_get-get_or items k (Mark 0) c.loop-item-test.true in
    let L : List ℕ → Type 0 = λ ls. IsTargetOf ls (get_or items k (Mark 0)) c.in_ok-target.target in
    let P : List Choice → Type 0 = λ cs. AimedTo items (k + 1) cs in
    subst P (sym c.in_ok-push.ensures.items) (aimed_more items k c.loop-item.choices.items choice (get_or items k (Mark 0)) c.loop-item.invariant there refl (subst L c.requires.labels c.in_ok-target.ensures.ok))

pub returns-clause-aimed : goal.returns-clause-aimed
returns-clause-aimed c = aimed_all c.args.items.now c.loop-item.item-index c.loop-item.choices.items (omega arith) c.loop-item.invariant

pub returns-clause-known : goal.returns-clause-known
returns-clause-known c = all_known c.args.items.now _ (aimed_all c.args.items.now c.loop-item.item-index c.loop-item.choices.items (omega arith) c.loop-item.invariant)
