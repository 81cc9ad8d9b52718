use Rattle.std.proofs.Common.{◌≡◌, ◌&&◌, ◌||◌, not, false, eqb, get_or, sym, ap, ◌∙◌, arith}
use Rattle.fy_types.specs.Paths.{paths}
use Rattle.fy_derive.specs.Tables.{reach}
use Rattle.fy_derive.specs.Standing.{plain_kind}
use Rattle.fy_derive.specs.Shown.{shown}
use Rattle.fy_derive.specs.Clear.{has_none}
use Rattle.fy_derive.proofs.RuleLemmas.{eqb_apart}
use Rattle.fy_derive.proofs.ClearLemmas.{field_clear-called, call_clear-picked, field_clear-picked, assignment_clear-called, assignment_clear-picked, both_clear}
use Rattle.fy_derive.proofs.kind.is_node_clear.Goals as goal

pub returns-in-Field-demand-2 : goal.returns-in-Field-demand-2
returns-in-Field-demand-2 c =
    rw (c.in-Arrow.is, c.in-Field-demand-2.is)
    (sym (field_clear-called c.in-Field-demand-2.field-0 (paths (shown c.args.table.now c.in-Arrow.field-0)) (paths (shown c.args.table.now c.in-Arrow.r))))

pub returns-in-Assignment-demand : goal.returns-in-Assignment-demand
returns-in-Assignment-demand c =
    rw (c.in-Arrow.is, c.in-Assignment-demand.is)
    (sym (assignment_clear-called (paths (shown c.args.table.now c.in-Arrow.field-0)) (paths (shown c.args.table.now c.in-Arrow.r))))

pub returns-in-Call-demand-2 : goal.returns-in-Call-demand-2
returns-in-Call-demand-2 c =
    rw (c.in-Field.is, c.in-Call-demand-2.is) (sym (call_clear-picked c.in-Field.i (paths (shown c.args.table.now c.in-Field.r))))

pub returns-in-Assignment-demand-2 : goal.returns-in-Assignment-demand-2
returns-in-Assignment-demand-2 c =
    rw (c.in-Field.is, c.in-Assignment-demand-2.is) (sym (assignment_clear-picked c.in-Field.i (paths (shown c.args.table.now c.in-Field.r))))

pub returns-then-j-i : goal.returns-then-j-i
returns-then-j-i c =
    let j = c.in-Field-demand-3.j in
    let i = c.in-Field.i in
    let e : eqb j i ≡ false = eqb_apart j i (λ f. c.if-j-i.true (sym f)) in
    rw (c.in-Field.is, c.in-Field-demand-3.is)
    (ap not e ∙ sym (field_clear-picked j i (paths (shown c.args.table.now c.in-Field.r)) ∙ ap (λ b. not b || has_none (paths (shown c.args.table.now c.in-Field.r))) e))

pub returns-then-clear-first : goal.returns-then-clear-first
returns-then-clear-first c =
    let b = ap reach c.in-AndType.is in
    sym (both_clear (plain_kind c.args.demand) c.args.table.now c.args.clear.now c.args.node c.in-AndType.first c.in-AndType.rest c.requires.clear c.in-AndType.is c.requires.meet
    (omega (arith, b, c.requires.parts, c.requires.all)) (omega (arith, b, c.requires.parts, c.requires.all))
    ∙ ap (λ x. x && get_or c.args.clear.now c.in-AndType.rest false) c.if-clear-first.true)

pub returns-else-clear-first : goal.returns-else-clear-first
returns-else-clear-first c =
    let b = ap reach c.in-AndType.is in
    c.if-clear-first.false
    ∙ sym (both_clear (plain_kind c.args.demand) c.args.table.now c.args.clear.now c.args.node c.in-AndType.first c.in-AndType.rest c.requires.clear c.in-AndType.is c.requires.meet
    (omega (arith, b, c.requires.parts, c.requires.all)) (omega (arith, b, c.requires.parts, c.requires.all))
    ∙ ap (λ x. x && get_or c.args.clear.now c.in-AndType.rest false) c.if-clear-first.false)
