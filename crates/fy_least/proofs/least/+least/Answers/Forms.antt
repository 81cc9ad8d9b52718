use Rattle.std.proofs.Common.{refl, sym, subst}
use Rattle.fy_phrase.specs.Tree.{var, lit, skip}
use Rattle.fy_derive.proofs.FormLemmas.{Var-tree, Unary-tree, Binary-tree, Cond-tree, Case-tree, Lam-tree, App-tree, Field-tree, Sel-tree, Merge-tree, LetIn-tree, Rec-tree, Seq-tree, Assign-tree, WhileDo-tree, Forever-tree, New-tree, Escape-tree, Accept-tree, Put-tree, Read-tree, Cells-tree}
use Rattle.fy_least.specs.Scopes.{scope_forms}
use Rattle.fy_least.specs.Visited.{IsFound}
use Rattle.fy_least.proofs.ArmLemmas.{Lit-tree, Skip-tree, Mark-tree, ok-of, same-ok, large-of}
use Rattle.fy_least.proofs.FormFound.{var-found}
use Rattle.fy_least.proofs.RefusedLemmas.{none-refused}
use Rattle.fy_least.proofs.RuleFound.{lit-found, skip-found, mark-found}
use Rattle.fy_least.proofs.least.+least.Goals as goal

pub found_in-returns-in-Var-clause-ok : goal.found_in-returns-in-Var-clause-ok
found_in-returns-in-Var-clause-ok t c =
    let G = scope_forms c.args.scope.now in
    let shape = Var-tree c.args.p.now c.in-Var.number c.in-Var.at c.in-Var.is in
    ok-of c.variable.result shape (λ r. var-found G c.in-Var.number c.in-Var.at r) c.variable.ensures.made c.variable.ensures.derived

pub found_in-returns-in-Var-clause-large : goal.found_in-returns-in-Var-clause-large
found_in-returns-in-Var-clause-large t c =
    let G = scope_forms c.args.scope.now in
    let shape = Var-tree c.args.p.now c.in-Var.number c.in-Var.at c.in-Var.is in
    λ e. large-of G shape (none-refused G (var c.in-Var.number c.in-Var.at) refl (λ m. refl) (c.variable.ensures.large e))

pub found_in-returns-in-Lit-clause-ok : goal.found_in-returns-in-Lit-clause-ok
found_in-returns-in-Lit-clause-ok t c =
    let G = scope_forms c.args.scope.now in
    let shape = Lit-tree c.args.p.now c.in-Lit.datum c.in-Lit.at c.in-Lit.is in
    ok-of c.axiom.result shape (λ r. lit-found G c.in-Lit.datum c.in-Lit.at r) (rw c.datum_atom.ensures at c.axiom.ensures.made)
    c.axiom.ensures.derived

pub found_in-returns-in-Lit-clause-large : goal.found_in-returns-in-Lit-clause-large
found_in-returns-in-Lit-clause-large t c =
    let G = scope_forms c.args.scope.now in
    let shape = Lit-tree c.args.p.now c.in-Lit.datum c.in-Lit.at c.in-Lit.is in
    λ e. large-of G shape (none-refused G (lit c.in-Lit.datum c.in-Lit.at) refl (λ m. refl) (c.axiom.ensures.large e))

pub found_in-returns-in-Unary-clause-ok : goal.found_in-returns-in-Unary-clause-ok
found_in-returns-in-Unary-clause-ok t c =
    let G = scope_forms c.args.scope.now in
    let shape = Unary-tree c.args.p.now c.in-Unary.op c.in-Unary.part c.in-Unary.at c.in-Unary.is in
    same-ok G c.found_in_unary.result shape (rw c.deref.ensures at c.found_in_unary.ensures.ok)

pub found_in-returns-in-Unary-clause-large : goal.found_in-returns-in-Unary-clause-large
found_in-returns-in-Unary-clause-large t c =
    let G = scope_forms c.args.scope.now in
    let shape = Unary-tree c.args.p.now c.in-Unary.op c.in-Unary.part c.in-Unary.at c.in-Unary.is in
    λ e. large-of G shape (rw c.deref.ensures at (c.found_in_unary.ensures.large e))

pub found_in-returns-in-Binary-clause-ok : goal.found_in-returns-in-Binary-clause-ok
found_in-returns-in-Binary-clause-ok t c =
    let G = scope_forms c.args.scope.now in
    let shape = Binary-tree c.args.p.now c.in-Binary.op c.in-Binary.left c.in-Binary.right c.in-Binary.at c.in-Binary.is in
    same-ok G c.found_in_binary.result shape (rw (c.deref-in-Binary.ensures, c.deref-in-Binary-2.ensures) at c.found_in_binary.ensures.ok)

pub found_in-returns-in-Binary-clause-large : goal.found_in-returns-in-Binary-clause-large
found_in-returns-in-Binary-clause-large t c =
    let G = scope_forms c.args.scope.now in
    let shape = Binary-tree c.args.p.now c.in-Binary.op c.in-Binary.left c.in-Binary.right c.in-Binary.at c.in-Binary.is in
    λ e. large-of G shape (rw (c.deref-in-Binary.ensures, c.deref-in-Binary-2.ensures) at (c.found_in_binary.ensures.large e))

pub found_in-returns-in-Cond-clause-ok : goal.found_in-returns-in-Cond-clause-ok
found_in-returns-in-Cond-clause-ok t c =
    let G = scope_forms c.args.scope.now in
    let shape = Cond-tree c.args.p.now c.in-Cond.test c.in-Cond.first c.in-Cond.second c.in-Cond.at c.in-Cond.is in
    same-ok G c.found_in_conditional.result shape (rw (c.deref-in-Cond.ensures, c.deref-in-Cond-2.ensures, c.deref-in-Cond-3.ensures) at
    c.found_in_conditional.ensures.ok)

pub found_in-returns-in-Cond-clause-large : goal.found_in-returns-in-Cond-clause-large
found_in-returns-in-Cond-clause-large t c =
    let G = scope_forms c.args.scope.now in
    let shape = Cond-tree c.args.p.now c.in-Cond.test c.in-Cond.first c.in-Cond.second c.in-Cond.at c.in-Cond.is in
    λ e. large-of G shape (rw (c.deref-in-Cond.ensures, c.deref-in-Cond-2.ensures, c.deref-in-Cond-3.ensures) at
    (c.found_in_conditional.ensures.large e))

pub found_in-returns-in-Case-clause-ok : goal.found_in-returns-in-Case-clause-ok
found_in-returns-in-Case-clause-ok t c =
    let G = scope_forms c.args.scope.now in
    let shape = Case-tree c.args.p.now c.in-Case.index c.in-Case.parts c.in-Case.at c.in-Case.is in
    same-ok G c.found_in_case.result shape (rw c.deref-in-Case.ensures at c.found_in_case.ensures.ok)

pub found_in-returns-in-Case-clause-large : goal.found_in-returns-in-Case-clause-large
found_in-returns-in-Case-clause-large t c =
    let G = scope_forms c.args.scope.now in
    let shape = Case-tree c.args.p.now c.in-Case.index c.in-Case.parts c.in-Case.at c.in-Case.is in
    λ e. large-of G shape (rw c.deref-in-Case.ensures at (c.found_in_case.ensures.large e))

pub found_in-returns-in-Lam-clause-ok : goal.found_in-returns-in-Lam-clause-ok
found_in-returns-in-Lam-clause-ok t c =
    let G = scope_forms c.args.scope.now in
    let shape = Lam-tree c.args.p.now c.in-Lam.field-0 c.in-Lam.types c.in-Lam.body c.in-Lam.at c.in-Lam.is in
    same-ok G c.found_in_abstraction.result shape (rw c.deref-in-Lam.ensures at (c.found_in_abstraction.ensures.ok c.in-Lam.field-0))

pub found_in-returns-in-Lam-clause-large : goal.found_in-returns-in-Lam-clause-large
found_in-returns-in-Lam-clause-large t c =
    let G = scope_forms c.args.scope.now in
    let shape = Lam-tree c.args.p.now c.in-Lam.field-0 c.in-Lam.types c.in-Lam.body c.in-Lam.at c.in-Lam.is in
    λ e. large-of G shape (rw c.deref-in-Lam.ensures at (c.found_in_abstraction.ensures.large c.in-Lam.field-0 e))

pub found_in-returns-in-App-clause-ok : goal.found_in-returns-in-App-clause-ok
found_in-returns-in-App-clause-ok t c =
    let G = scope_forms c.args.scope.now in
    let shape = App-tree c.args.p.now c.in-App.procedure c.in-App.argument c.in-App.at c.in-App.is in
    same-ok G c.found_in_application.result shape (rw (c.deref-in-App.ensures, c.deref-in-App-2.ensures) at c.found_in_application.ensures.ok)

pub found_in-returns-in-App-clause-large : goal.found_in-returns-in-App-clause-large
found_in-returns-in-App-clause-large t c =
    let G = scope_forms c.args.scope.now in
    let shape = App-tree c.args.p.now c.in-App.procedure c.in-App.argument c.in-App.at c.in-App.is in
    λ e. large-of G shape (rw (c.deref-in-App.ensures, c.deref-in-App-2.ensures) at (c.found_in_application.ensures.large e))

pub found_in-returns-in-Field-clause-ok : goal.found_in-returns-in-Field-clause-ok
found_in-returns-in-Field-clause-ok t c =
    let G = scope_forms c.args.scope.now in
    let shape = Field-tree c.args.p.now c.in-Field.name c.in-Field.part c.in-Field.at c.in-Field.is in
    same-ok G c.found_in_field.result shape (rw c.deref-in-Field.ensures at c.found_in_field.ensures.ok)

pub found_in-returns-in-Field-clause-large : goal.found_in-returns-in-Field-clause-large
found_in-returns-in-Field-clause-large t c =
    let G = scope_forms c.args.scope.now in
    let shape = Field-tree c.args.p.now c.in-Field.name c.in-Field.part c.in-Field.at c.in-Field.is in
    λ e. large-of G shape (rw c.deref-in-Field.ensures at (c.found_in_field.ensures.large e))

pub found_in-returns-in-Sel-clause-ok : goal.found_in-returns-in-Sel-clause-ok
found_in-returns-in-Sel-clause-ok t c =
    let G = scope_forms c.args.scope.now in
    let shape = Sel-tree c.args.p.now c.in-Sel.part c.in-Sel.name c.in-Sel.at c.in-Sel.is in
    same-ok G c.found_in_selection.result shape (rw c.deref-in-Sel.ensures at c.found_in_selection.ensures.ok)

pub found_in-returns-in-Sel-clause-large : goal.found_in-returns-in-Sel-clause-large
found_in-returns-in-Sel-clause-large t c =
    let G = scope_forms c.args.scope.now in
    let shape = Sel-tree c.args.p.now c.in-Sel.part c.in-Sel.name c.in-Sel.at c.in-Sel.is in
    λ e. large-of G shape (rw c.deref-in-Sel.ensures at (c.found_in_selection.ensures.large e))

pub found_in-returns-in-Merge-clause-ok : goal.found_in-returns-in-Merge-clause-ok
found_in-returns-in-Merge-clause-ok t c =
    let G = scope_forms c.args.scope.now in
    let shape = Merge-tree c.args.p.now c.in-Merge.left c.in-Merge.right c.in-Merge.at c.in-Merge.is in
    same-ok G c.found_in_merge.result shape (rw (c.deref-in-Merge.ensures, c.deref-in-Merge-2.ensures) at c.found_in_merge.ensures.ok)

pub found_in-returns-in-Merge-clause-large : goal.found_in-returns-in-Merge-clause-large
found_in-returns-in-Merge-clause-large t c =
    let G = scope_forms c.args.scope.now in
    let shape = Merge-tree c.args.p.now c.in-Merge.left c.in-Merge.right c.in-Merge.at c.in-Merge.is in
    λ e. large-of G shape (rw (c.deref-in-Merge.ensures, c.deref-in-Merge-2.ensures) at (c.found_in_merge.ensures.large e))

pub found_in-returns-in-LetIn-clause-ok : goal.found_in-returns-in-LetIn-clause-ok
found_in-returns-in-LetIn-clause-ok t c =
    let G = scope_forms c.args.scope.now in
    let shape = LetIn-tree c.args.p.now c.in-LetIn.field-0 c.in-LetIn.defined c.in-LetIn.body c.in-LetIn.at c.in-LetIn.is in
    same-ok G c.found_in_definition.result shape (rw (c.deref-in-LetIn.ensures, c.deref-in-LetIn-2.ensures) at
    (c.found_in_definition.ensures.ok c.in-LetIn.field-0))

pub found_in-returns-in-LetIn-clause-large : goal.found_in-returns-in-LetIn-clause-large
found_in-returns-in-LetIn-clause-large t c =
    let G = scope_forms c.args.scope.now in
    let shape = LetIn-tree c.args.p.now c.in-LetIn.field-0 c.in-LetIn.defined c.in-LetIn.body c.in-LetIn.at c.in-LetIn.is in
    λ e. large-of G shape (rw (c.deref-in-LetIn.ensures, c.deref-in-LetIn-2.ensures) at (c.found_in_definition.ensures.large c.in-LetIn.field-0 e))

pub found_in-returns-in-Rec-clause-ok : goal.found_in-returns-in-Rec-clause-ok
found_in-returns-in-Rec-clause-ok t c =
    let G = scope_forms c.args.scope.now in
    let shape = Rec-tree c.args.p.now c.in-Rec.field-0 c.in-Rec.ty c.in-Rec.body c.in-Rec.at c.in-Rec.is in
    same-ok G c.found_in_recursion.result shape (rw c.deref-in-Rec.ensures at (c.found_in_recursion.ensures.ok c.in-Rec.field-0))

pub found_in-returns-in-Rec-clause-large : goal.found_in-returns-in-Rec-clause-large
found_in-returns-in-Rec-clause-large t c =
    let G = scope_forms c.args.scope.now in
    let shape = Rec-tree c.args.p.now c.in-Rec.field-0 c.in-Rec.ty c.in-Rec.body c.in-Rec.at c.in-Rec.is in
    λ e. large-of G shape (rw c.deref-in-Rec.ensures at (c.found_in_recursion.ensures.large c.in-Rec.field-0 e))

pub found_in-returns-in-Skip-clause-ok : goal.found_in-returns-in-Skip-clause-ok
found_in-returns-in-Skip-clause-ok t c =
    let G = scope_forms c.args.scope.now in
    let shape = Skip-tree c.args.p.now c.in-Skip.at c.in-Skip.is in
    ok-of c.axiom-in-Skip.result shape (λ r. skip-found G c.in-Skip.at r) c.axiom-in-Skip.ensures.made c.axiom-in-Skip.ensures.derived

pub found_in-returns-in-Skip-clause-large : goal.found_in-returns-in-Skip-clause-large
found_in-returns-in-Skip-clause-large t c =
    let G = scope_forms c.args.scope.now in
    let shape = Skip-tree c.args.p.now c.in-Skip.at c.in-Skip.is in
    λ e. large-of G shape (none-refused G (skip c.in-Skip.at) refl (λ m. refl) (c.axiom-in-Skip.ensures.large e))

pub found_in-returns-in-Seq-clause-ok : goal.found_in-returns-in-Seq-clause-ok
found_in-returns-in-Seq-clause-ok t c =
    let G = scope_forms c.args.scope.now in
    let shape = Seq-tree c.args.p.now c.in-Seq.first c.in-Seq.second c.in-Seq.at c.in-Seq.is in
    same-ok G c.found_in_sequence.result shape (rw (c.deref-in-Seq.ensures, c.deref-in-Seq-2.ensures) at c.found_in_sequence.ensures.ok)

pub found_in-returns-in-Seq-clause-large : goal.found_in-returns-in-Seq-clause-large
found_in-returns-in-Seq-clause-large t c =
    let G = scope_forms c.args.scope.now in
    let shape = Seq-tree c.args.p.now c.in-Seq.first c.in-Seq.second c.in-Seq.at c.in-Seq.is in
    λ e. large-of G shape (rw (c.deref-in-Seq.ensures, c.deref-in-Seq-2.ensures) at (c.found_in_sequence.ensures.large e))

pub found_in-returns-in-Assign-clause-ok : goal.found_in-returns-in-Assign-clause-ok
found_in-returns-in-Assign-clause-ok t c =
    let G = scope_forms c.args.scope.now in
    let shape = Assign-tree c.args.p.now c.in-Assign.acceptor c.in-Assign.value c.in-Assign.at c.in-Assign.is in
    same-ok G c.found_in_assignment.result shape (rw (c.deref-in-Assign.ensures, c.deref-in-Assign-2.ensures) at c.found_in_assignment.ensures.ok)

pub found_in-returns-in-Assign-clause-large : goal.found_in-returns-in-Assign-clause-large
found_in-returns-in-Assign-clause-large t c =
    let G = scope_forms c.args.scope.now in
    let shape = Assign-tree c.args.p.now c.in-Assign.acceptor c.in-Assign.value c.in-Assign.at c.in-Assign.is in
    λ e. large-of G shape (rw (c.deref-in-Assign.ensures, c.deref-in-Assign-2.ensures) at (c.found_in_assignment.ensures.large e))

pub found_in-returns-in-WhileDo-clause-ok : goal.found_in-returns-in-WhileDo-clause-ok
found_in-returns-in-WhileDo-clause-ok t c =
    let G = scope_forms c.args.scope.now in
    let shape = WhileDo-tree c.args.p.now c.in-WhileDo.test c.in-WhileDo.body c.in-WhileDo.at c.in-WhileDo.is in
    same-ok G c.found_in_loop.result shape (rw (c.deref-in-WhileDo.ensures, c.deref-in-WhileDo-2.ensures) at c.found_in_loop.ensures.ok)

pub found_in-returns-in-WhileDo-clause-large : goal.found_in-returns-in-WhileDo-clause-large
found_in-returns-in-WhileDo-clause-large t c =
    let G = scope_forms c.args.scope.now in
    let shape = WhileDo-tree c.args.p.now c.in-WhileDo.test c.in-WhileDo.body c.in-WhileDo.at c.in-WhileDo.is in
    λ e. large-of G shape (rw (c.deref-in-WhileDo.ensures, c.deref-in-WhileDo-2.ensures) at (c.found_in_loop.ensures.large e))

pub found_in-returns-in-Forever-clause-ok : goal.found_in-returns-in-Forever-clause-ok
found_in-returns-in-Forever-clause-ok t c =
    let G = scope_forms c.args.scope.now in
    let shape = Forever-tree c.args.p.now c.in-Forever.body c.in-Forever.at c.in-Forever.is in
    same-ok G c.found_in_endless_loop.result shape (rw c.deref-in-Forever.ensures at c.found_in_endless_loop.ensures.ok)

pub found_in-returns-in-Forever-clause-large : goal.found_in-returns-in-Forever-clause-large
found_in-returns-in-Forever-clause-large t c =
    let G = scope_forms c.args.scope.now in
    let shape = Forever-tree c.args.p.now c.in-Forever.body c.in-Forever.at c.in-Forever.is in
    λ e. large-of G shape (rw c.deref-in-Forever.ensures at (c.found_in_endless_loop.ensures.large e))

pub found_in-returns-in-New-clause-ok : goal.found_in-returns-in-New-clause-ok
found_in-returns-in-New-clause-ok t c =
    let G = scope_forms c.args.scope.now in
    let shape = New-tree c.args.p.now c.in-New.field-0 c.in-New.ty c.in-New.first c.in-New.body c.in-New.at c.in-New.is in
    same-ok G c.found_in_cell.result shape (rw (c.deref-in-New.ensures, c.deref-in-New-2.ensures) at (c.found_in_cell.ensures.ok c.in-New.field-0))

pub found_in-returns-in-New-clause-large : goal.found_in-returns-in-New-clause-large
found_in-returns-in-New-clause-large t c =
    let G = scope_forms c.args.scope.now in
    let shape = New-tree c.args.p.now c.in-New.field-0 c.in-New.ty c.in-New.first c.in-New.body c.in-New.at c.in-New.is in
    λ e. large-of G shape (rw (c.deref-in-New.ensures, c.deref-in-New-2.ensures) at (c.found_in_cell.ensures.large c.in-New.field-0 e))

pub found_in-returns-in-Escape-clause-ok : goal.found_in-returns-in-Escape-clause-ok
found_in-returns-in-Escape-clause-ok t c =
    let G = scope_forms c.args.scope.now in
    let shape = Escape-tree c.args.p.now c.in-Escape.field-0 c.in-Escape.body c.in-Escape.at c.in-Escape.is in
    same-ok G c.found_in_escape.result shape (rw c.deref-in-Escape.ensures at (c.found_in_escape.ensures.ok c.in-Escape.field-0))

pub found_in-returns-in-Escape-clause-large : goal.found_in-returns-in-Escape-clause-large
found_in-returns-in-Escape-clause-large t c =
    let G = scope_forms c.args.scope.now in
    let shape = Escape-tree c.args.p.now c.in-Escape.field-0 c.in-Escape.body c.in-Escape.at c.in-Escape.is in
    λ e. large-of G shape (rw c.deref-in-Escape.ensures at (c.found_in_escape.ensures.large c.in-Escape.field-0 e))

pub found_in-returns-in-Accept-clause-ok : goal.found_in-returns-in-Accept-clause-ok
found_in-returns-in-Accept-clause-ok t c =
    let G = scope_forms c.args.scope.now in
    let shape = Accept-tree c.args.p.now c.in-Accept.field-0 c.in-Accept.ty c.in-Accept.body c.in-Accept.at c.in-Accept.is in
    same-ok G c.found_in_acceptor.result shape (rw c.deref-in-Accept.ensures at (c.found_in_acceptor.ensures.ok c.in-Accept.field-0))

pub found_in-returns-in-Accept-clause-large : goal.found_in-returns-in-Accept-clause-large
found_in-returns-in-Accept-clause-large t c =
    let G = scope_forms c.args.scope.now in
    let shape = Accept-tree c.args.p.now c.in-Accept.field-0 c.in-Accept.ty c.in-Accept.body c.in-Accept.at c.in-Accept.is in
    λ e. large-of G shape (rw c.deref-in-Accept.ensures at (c.found_in_acceptor.ensures.large c.in-Accept.field-0 e))

pub found_in-returns-in-Put-clause-ok : goal.found_in-returns-in-Put-clause-ok
found_in-returns-in-Put-clause-ok t c =
    let G = scope_forms c.args.scope.now in
    let shape = Put-tree c.args.p.now c.in-Put.kind c.in-Put.part c.in-Put.at c.in-Put.is in
    same-ok G c.found_in_output.result shape (rw c.deref-in-Put.ensures at c.found_in_output.ensures.ok)

pub found_in-returns-in-Put-clause-large : goal.found_in-returns-in-Put-clause-large
found_in-returns-in-Put-clause-large t c =
    let G = scope_forms c.args.scope.now in
    let shape = Put-tree c.args.p.now c.in-Put.kind c.in-Put.part c.in-Put.at c.in-Put.is in
    λ e. large-of G shape (rw c.deref-in-Put.ensures at (c.found_in_output.ensures.large e))

pub found_in-returns-in-Read-clause-ok : goal.found_in-returns-in-Read-clause-ok
found_in-returns-in-Read-clause-ok t c =
    let G = scope_forms c.args.scope.now in
    let shape = Read-tree c.args.p.now c.in-Read.part c.in-Read.at c.in-Read.is in
    same-ok G c.found_in_input.result shape (rw c.deref-in-Read.ensures at c.found_in_input.ensures.ok)

pub found_in-returns-in-Read-clause-large : goal.found_in-returns-in-Read-clause-large
found_in-returns-in-Read-clause-large t c =
    let G = scope_forms c.args.scope.now in
    let shape = Read-tree c.args.p.now c.in-Read.part c.in-Read.at c.in-Read.is in
    λ e. large-of G shape (rw c.deref-in-Read.ensures at (c.found_in_input.ensures.large e))

pub found_in-returns-in-Mark-clause-ok : goal.found_in-returns-in-Mark-clause-ok
found_in-returns-in-Mark-clause-ok t c =
    let G = scope_forms c.args.scope.now in
    let shape = Mark-tree c.args.p.now c.in-Mark.field-0 c.in-Mark.at c.in-Mark.is in
    let h = mark-found G c.in-Mark.field-0 c.in-Mark.at c.none.result c.none.ensures.made c.none.ensures.derived in
    subst (λ q. IsFound G q c.none.result) (sym shape) h

pub found_in-returns-in-Cells-clause-ok : goal.found_in-returns-in-Cells-clause-ok
found_in-returns-in-Cells-clause-ok t c =
    let G = scope_forms c.args.scope.now in
    let shape = Cells-tree c.args.p.now c.in-Cells.field-0 c.in-Cells.count c.in-Cells.body c.in-Cells.at c.in-Cells.is in
    same-ok G c.found_in_cells.result shape (rw (c.deref-in-Cells.ensures, c.deref-in-Cells-2.ensures) at (c.found_in_cells.ensures.ok c.in-Cells.field-0))

pub found_in-returns-in-Cells-clause-large : goal.found_in-returns-in-Cells-clause-large
found_in-returns-in-Cells-clause-large t c =
    let G = scope_forms c.args.scope.now in
    let shape = Cells-tree c.args.p.now c.in-Cells.field-0 c.in-Cells.count c.in-Cells.body c.in-Cells.at c.in-Cells.is in
    λ e. large-of G shape (rw (c.deref-in-Cells.ensures, c.deref-in-Cells-2.ensures) at (c.found_in_cells.ensures.large c.in-Cells.field-0 e))
