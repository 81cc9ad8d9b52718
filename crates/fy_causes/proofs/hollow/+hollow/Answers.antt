use Rattle.std.proofs.Common.{◌≡◌, option_map, sym, ap, ◌∙◌, subst}
use Rattle.std.specs.Prelude.{IfOk}
use Rattle.fy_phrase.specs.Reads.{reads}
use Rattle.fy_derive.specs.Clear.{has_none}
use Rattle.fy_derive.specs.Standing.{plain_kind}
use Rattle.fy_derive.proofs.FormLemmas.{Merge-tree, Var-tree}
use Rattle.fy_causes.specs.Hollow.{definition_of, hollow}
use Rattle.fy_causes.specs.Readings.{around_read, occurrence_read}
use Rattle.fy_causes.proofs.FailLemmas.{through-merge, through-name}
use Rattle.fy_causes.proofs.hollow.+hollow.Goals as goal

pub returns-else-is_hollow : goal.returns-else-is_hollow
returns-else-is_hollow t c =
    let G = around_read c.args.around.now.value in
    let k = option_map plain_kind c.args.demand in
    let shape = Merge-tree c.args.p.now c.in-Merge.first c.in-Merge.second c.in-Merge.field-2 c.in-Merge.is in
    let taken = rw (c.deref.ensures, c.deref-in-Merge.ensures) at c.taker-operand.ensures in
    let full = sym (c.is_hollow.ensures ∙ ap has_none c.in_ok-found_in-in-Merge.ensures.least) ∙ c.if-is_hollow.false in
    subst (λ X. IfOk c.hollow.result (λ o. option_map occurrence_read o ≡ X))
    (through-merge c.args.left k G (reads c.in-Merge.first.value) (reads c.in-Merge.second.value) (reads c.taker-operand.result.now) c.in-Merge.field-2
    c.if-left-eq0.false taken full
    ∙ sym (ap (hollow c.args.left k G) shape)) c.hollow.ensures

pub returns-in-Some : goal.returns-in-Some
returns-in-Some t c =
    let G = around_read c.args.around.now.value in
    let k = option_map plain_kind c.args.demand in
    let i = c.in-Var.number in
    let shape = Var-tree c.args.p.now i c.in-Var.field-1 c.in-Var.is in
    let known =
    sym (c.in_ok-definition_of-in-Var.ensures ∙ ap (λ a. definition_of (around_read a) i) c.deref-in-Var.ensures)
    ∙ ap (option_map occurrence_read) c.in-Some.is in
    subst (λ X. IfOk c.hollow-in-Some.result (λ o. option_map occurrence_read o ≡ X))
    (through-name c.args.left k G i (occurrence_read c.in-Some.defined) c.in-Var.field-1 c.if-left-eq0.false known
    ∙ sym (ap (hollow c.args.left k G) shape)) c.hollow-in-Some.ensures
