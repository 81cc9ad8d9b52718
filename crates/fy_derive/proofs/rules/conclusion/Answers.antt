use Rattle.std.proofs.Common.{◌≡◌, ◌<◌, ◌&&◌, ap, sym, ◌∙◌, refl, Some, get_or, IfSome, option_map, subst}
use Rattle.std.proofs.lemmas.Result.{IfOk-weaker}
use Rattle.fy_types.specs.declared.types.Atom.TheVariants.{Bool as Truth, Comm}
use Rattle.fy_derive.specs.Rules.{conclusion, is_atom, command_behind}
use Rattle.fy_derive.specs.Shown.{shown, total, all_shown}
use Rattle.fy_derive.specs.Contexts.{numbers}
use Rattle.fy_derive.proofs.RuleLemmas.{slice_get-shown, slice_get-in, by_test}
use Rattle.fy_derive.proofs.FormLemmas.{Var-tree, Unary-concludes, Binary-concludes, Cond-concludes, App-concludes, Field-concludes, Sel-concludes, LetIn-concludes, Rec-concludes, Seq-concludes, Assign-concludes, WhileDo-concludes, Forever-concludes, New-concludes, Cells-concludes, Escape-concludes, Accept-concludes, Put-concludes, Read-concludes}
use Rattle.fy_derive.proofs.rules.conclusion.Goals as goal
use Rattle.fy_derive.proofs.rules.conclusion.Goals.{then-is_atom, else-is_atom}

pub returns-in-Var-clause-shown : goal.returns-in-Var-clause-shown
returns-in-Var-clause-shown c =
    ap (option_map (shown c.args.table.now)) c.number_at.ensures
    ∙ (sym (slice_get-shown c.args.table.now (numbers c.args.context.now) c.in-Var.k)
    ∙ ap (λ T. conclusion (all_shown c.args.table.now (numbers c.args.context.now)) T (all_shown c.args.table.now c.args.done.now))
    (sym (Var-tree c.args.p.now c.in-Var.k _ c.in-Var.is)))

pub returns-in-Var-clause-within : goal.returns-in-Var-clause-within
returns-in-Var-clause-within c =
    subst (λ o. IfSome o (λ k. k < total c.args.table.now)) (sym c.number_at.ensures) (slice_get-in _ _ c.in-Var.k c.requires.context)

pub returns-in-Unary-clause-shown : goal.returns-in-Unary-clause-shown
returns-in-Unary-clause-shown c =
    by_test c.provided_atom-in-Unary.result c.provided_atom-in-Unary.new.table _ _ _ _ _
    (c.is_atom-fits.ensures ∙ ap (λ a. is_atom a (shown c.args.table.now (get_or c.args.done.now 0 0))) c.operand_atom.ensures) c.unary_atom.ensures
    (Unary-concludes c.args.table.now (all_shown c.args.table.now (numbers c.args.context.now)) c.args.p.now _ _ _ c.args.done.now c.in-Unary.is c.requires.all) c.provided_atom-in-Unary.ensures.shown

pub returns-in-Binary-clause-shown : goal.returns-in-Binary-clause-shown
returns-in-Binary-clause-shown c =
    by_test c.provided_atom-in-Binary.result c.provided_atom-in-Binary.new.table _ _ _ _ _
    c.fits_operator-fits.ensures c.binary_atom.ensures
    (Binary-concludes c.args.table.now (all_shown c.args.table.now (numbers c.args.context.now)) c.args.p.now _ _ _ _ c.args.done.now c.in-Binary.is c.requires.all) c.provided_atom-in-Binary.ensures.shown

pub returns-in-Cond-clause-shown : goal.returns-in-Cond-clause-shown
returns-in-Cond-clause-shown c =
    c.chosen.ensures.shown ∙ (Cond-concludes c.args.table.now (all_shown c.args.table.now (numbers c.args.context.now)) c.args.p.now _ _ _ _ c.args.done.now c.in-Cond.is c.requires.all)

pub returns-in-App-clause-shown : goal.returns-in-App-clause-shown
returns-in-App-clause-shown c =
    c.applied.ensures.shown ∙ (App-concludes c.args.table.now (all_shown c.args.table.now (numbers c.args.context.now)) c.args.p.now _ _ _ c.args.done.now c.in-App.is c.requires.all)

pub returns-in_ok-number-in-Field-clause-shown : goal.returns-in_ok-number-in-Field-clause-shown
returns-in_ok-number-in-Field-clause-shown c =
    ap Some c.in_ok-number-in-Field.ensures.stands ∙ (Field-concludes c.args.table.now (all_shown c.args.table.now (numbers c.args.context.now)) c.args.p.now _ _ _ c.args.done.now c.in-Field.is c.requires.all)

pub returns-in-Sel-clause-shown : goal.returns-in-Sel-clause-shown
returns-in-Sel-clause-shown c =
    c.selected.ensures.shown ∙ (Sel-concludes c.args.table.now (all_shown c.args.table.now (numbers c.args.context.now)) c.args.p.now _ _ _ c.args.done.now c.in-Sel.is c.requires.all)

pub returns-in-LetIn-clause-shown : goal.returns-in-LetIn-clause-shown
returns-in-LetIn-clause-shown c =
    LetIn-concludes c.args.table.now (all_shown c.args.table.now (numbers c.args.context.now)) c.args.p.now _ _ _ _ c.args.done.now c.in-LetIn.is c.requires.all

pub returns-in-Rec-clause-shown : goal.returns-in-Rec-clause-shown
returns-in-Rec-clause-shown c =
    IfOk-weaker c.same_as_written.result _ _ (λ o h. h ∙ (Rec-concludes c.args.table.now (all_shown c.args.table.now (numbers c.args.context.now)) c.args.p.now _ _ _ _ c.args.done.now c.in-Rec.is c.requires.all)) c.same_as_written.ensures.shown

pub returns-in-Seq-clause-shown : goal.returns-in-Seq-clause-shown
returns-in-Seq-clause-shown c =
    c.command_behind.ensures.shown ∙ (Seq-concludes c.args.table.now (all_shown c.args.table.now (numbers c.args.context.now)) c.args.p.now _ _ _ c.args.done.now c.in-Seq.is c.requires.all)

pub returns-in-Assign-clause-shown : goal.returns-in-Assign-clause-shown
returns-in-Assign-clause-shown c =
    by_test c.provided_atom-in-Assign.result c.provided_atom-in-Assign.new.table _ _ _ _ _
    c.fits_assignment-fits.ensures refl
    (Assign-concludes c.args.table.now (all_shown c.args.table.now (numbers c.args.context.now)) c.args.p.now _ _ _ c.args.done.now c.in-Assign.is c.requires.all) c.provided_atom-in-Assign.ensures.shown

pub returns-after-is_atom-clause-shown : goal.returns-after-is_atom-clause-shown
returns-after-is_atom-clause-shown c =
    let test : c.if-is_atom.fits ≡ is_atom Truth (shown c.args.table.now (get_or c.args.done.now 0 0)) && is_atom Comm (shown c.args.table.now (get_or c.args.done.now 1 0)) =
    elim c.if-is_atom.branch [
      | then-is_atom w ↦ w.fits-is ∙ (w.is_atom-fits-then-is_atom.ensures ∙ ap (λ b. b && is_atom Comm (shown c.args.table.now (get_or c.args.done.now 1 0))) (sym w.if-is_atom.true ∙ c.is_atom.ensures))
      | else-is_atom w ↦ w.fits-is ∙ (w.if-is_atom.false ∙ ap (λ b. b && is_atom Comm (shown c.args.table.now (get_or c.args.done.now 1 0))) (sym w.if-is_atom.false ∙ c.is_atom.ensures))
    ] in
    by_test c.provided_atom-in-WhileDo.result c.provided_atom-in-WhileDo.new.table _ _ _ _ _
    test refl
    (WhileDo-concludes c.args.table.now (all_shown c.args.table.now (numbers c.args.context.now)) c.args.p.now _ _ _ c.args.done.now c.in-WhileDo.is c.requires.all) c.provided_atom-in-WhileDo.ensures.shown

pub returns-in-Forever-clause-shown : goal.returns-in-Forever-clause-shown
returns-in-Forever-clause-shown c =
    by_test c.provided_atom-in-Forever.result c.provided_atom-in-Forever.new.table _ _ _ _ _
    c.is_atom-fits-in-Forever.ensures refl
    (Forever-concludes c.args.table.now (all_shown c.args.table.now (numbers c.args.context.now)) c.args.p.now _ _ c.args.done.now c.in-Forever.is c.requires.all) c.provided_atom-in-Forever.ensures.shown

pub returns-in-Escape-clause-shown : goal.returns-in-Escape-clause-shown
returns-in-Escape-clause-shown c =
    by_test c.provided_atom-in-Escape.result c.provided_atom-in-Escape.new.table _ _ _ _ _
    c.is_atom-fits-in-Escape.ensures refl
    (Escape-concludes c.args.table.now (all_shown c.args.table.now (numbers c.args.context.now)) c.args.p.now _ _ _ c.args.done.now c.in-Escape.is c.requires.all) c.provided_atom-in-Escape.ensures.shown

pub returns-in-Read-clause-shown : goal.returns-in-Read-clause-shown
returns-in-Read-clause-shown c =
    by_test c.provided_atom-in-Read.result c.provided_atom-in-Read.new.table _ _ _ _ _
    c.is_atom-fits-in-Read.ensures refl
    (Read-concludes c.args.table.now (all_shown c.args.table.now (numbers c.args.context.now)) c.args.p.now _ _ c.args.done.now c.in-Read.is c.requires.all) c.provided_atom-in-Read.ensures.shown

pub returns-in-Accept-clause-shown : goal.returns-in-Accept-clause-shown
returns-in-Accept-clause-shown c =
    by_test c.provided_atom-in-Accept.result c.provided_atom-in-Accept.new.table _ _ _ _ _
    c.is_atom-fits-in-Accept.ensures c.acceptor_atom.ensures
    (Accept-concludes c.args.table.now (all_shown c.args.table.now (numbers c.args.context.now)) c.args.p.now _ _ _ _ c.args.done.now c.in-Accept.is c.requires.all) c.provided_atom-in-Accept.ensures.shown

pub returns-in-Put-clause-shown : goal.returns-in-Put-clause-shown
returns-in-Put-clause-shown c =
    by_test c.provided_atom-in-Put.result c.provided_atom-in-Put.new.table _ _ _ _ _
    (c.is_atom-fits-in-Put.ensures ∙ ap (λ a. is_atom a (shown c.args.table.now (get_or c.args.done.now 0 0))) c.put_atom.ensures) refl
    (Put-concludes c.args.table.now (all_shown c.args.table.now (numbers c.args.context.now)) c.args.p.now _ _ _ c.args.done.now c.in-Put.is c.requires.all) c.provided_atom-in-Put.ensures.shown

pub returns-in-New-clause-shown : goal.returns-in-New-clause-shown
returns-in-New-clause-shown c =
    c.command_behind-in-New.ensures.shown
    ∙ (ap (λ a. command_behind a (shown c.args.table.now (get_or c.args.done.now 0 0)) (shown c.args.table.now (get_or c.args.done.now 1 0))) c.data_atom.ensures ∙ (New-concludes c.args.table.now (all_shown c.args.table.now (numbers c.args.context.now)) c.args.p.now _ _ _ _ _ c.args.done.now c.in-New.is c.requires.all))

pub returns-in-Cells-clause-shown : goal.returns-in-Cells-clause-shown
returns-in-Cells-clause-shown c =
    c.command_behind-in-Cells.ensures.shown ∙ (Cells-concludes c.args.table.now (all_shown c.args.table.now (numbers c.args.context.now)) c.args.p.now _ _ _ _ c.args.done.now c.in-Cells.is c.requires.all)
