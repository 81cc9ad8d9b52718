use Rattle.std.proofs.Common.{◌+◌, Some, inl, inr, sym, ap, ◌∙◌, subst}
use Rattle.fy_types.specs.Reading.{plain_type, plain_types}
use Rattle.fy_phrase.specs.declared.shapes.ShapeElem.TheVariants as elem
use Rattle.fy_phrase.specs.Reads.{reads, reads_parts}
use Rattle.fy_phrase.specs.Sizes.{nodes}
use Rattle.fy_phrase.specs.Tree.{var, lit, unary, binary, cond, case, lam, app, field, sel, let_in, rec, skip, seq, assign, while_do, forever, new, cells, escape, accept, put, read, mark}
use Rattle.fy_derive.specs.Shapes.{at_end, a_value, a_run}
use Rattle.fy_derive.specs.ShapeTables.{HasPairOf}
use Rattle.fy_derive.proofs.FormLemmas.{Var-tree, Unary-tree, Binary-tree, Cond-tree, Case-tree, Lam-tree, App-tree, Field-tree, Sel-tree, Merge-tree, LetIn-tree, Rec-tree, Seq-tree, Assign-tree, WhileDo-tree, Forever-tree, New-tree, Escape-tree, Accept-tree, Put-tree, Read-tree, Cells-tree}
use Rattle.pe_code.specs.declared.code.PeInsn.TheVariants as insn
use Rattle.pe_gen.specs.Plan.{nodes_in, AreDue}
use Rattle.pe_right.specs.Right.{is_variable}
use Rattle.pe_gen.specs.Sites.{is_merge, IsListed}
use Rattle.pe_gen.proofs.Gets.{some_same}
use Rattle.pe_gen.proofs.InsnLemmas.{form-asks, form-insn, Lit-tree, Skip-tree, Mark-tree, var-insn, lit-insn, unary-insn, binary-insn, cond-insn, case-insn, lam-insn, app-insn, app-variable-insn, field-insn, sel-insn, let-insn, let-variable-insn, rec-insn, skip-insn, seq-insn, assign-insn, while-insn, forever-insn, new-insn, cells-insn, escape-insn, accept-insn, put-insn, read-insn}
use Rattle.pe_gen.proofs.items.insn_of.Goals as goal

pub entry_at_end-operand-requires-clause-asked : goal.entry_at_end-operand-requires-clause-asked
entry_at_end-operand-requires-clause-asked c =
    let a = form-asks c.args.plan.now c.args.site.node c.args.site.shape (reads c.args.phrase.now) (unary c.in-Unary.op (reads c.in-Unary.field-1.value) c.in-Unary.field-2) (Unary-tree c.args.phrase.now c.in-Unary.op c.in-Unary.field-1 c.in-Unary.field-2 c.in-Unary.is) c.requires.asked in
    a.1

pub entry_at_end-requires-clause-asked : goal.entry_at_end-requires-clause-asked
entry_at_end-requires-clause-asked c =
    let a = form-asks c.args.plan.now c.args.site.node c.args.site.shape (reads c.args.phrase.now) (forever (reads c.in-Forever.field-0.value) c.in-Forever.field-1) (Forever-tree c.args.phrase.now c.in-Forever.field-0 c.in-Forever.field-1 c.in-Forever.is) c.requires.asked in
    a.1

pub entry_at_end-requires-in-Escape-clause-asked : goal.entry_at_end-requires-in-Escape-clause-asked
entry_at_end-requires-in-Escape-clause-asked c =
    let a = form-asks c.args.plan.now c.args.site.node c.args.site.shape (reads c.args.phrase.now) (escape c.in-Escape.field-0 (reads c.in-Escape.field-1.value) c.in-Escape.field-2) (Escape-tree c.args.phrase.now c.in-Escape.field-0 c.in-Escape.field-1 c.in-Escape.field-2 c.in-Escape.is) c.requires.asked in
    a.1

pub entry_at_end-body-requires-in-Accept-clause-asked : goal.entry_at_end-body-requires-in-Accept-clause-asked
entry_at_end-body-requires-in-Accept-clause-asked c =
    let a = form-asks c.args.plan.now c.args.site.node c.args.site.shape (reads c.args.phrase.now) (accept c.in-Accept.field-0 c.in-Accept.field-1 (reads c.in-Accept.field-2.value) c.in-Accept.field-3) (Accept-tree c.args.phrase.now c.in-Accept.field-0 c.in-Accept.field-1 c.in-Accept.field-2 c.in-Accept.field-3 c.in-Accept.is) c.requires.asked in
    a.1

pub entry_at_end-value-requires-in-Put-clause-asked : goal.entry_at_end-value-requires-in-Put-clause-asked
entry_at_end-value-requires-in-Put-clause-asked c =
    let a = form-asks c.args.plan.now c.args.site.node c.args.site.shape (reads c.args.phrase.now) (put c.in-Put.kind (reads c.in-Put.field-1.value) c.in-Put.field-2) (Put-tree c.args.phrase.now c.in-Put.kind c.in-Put.field-1 c.in-Put.field-2 c.in-Put.is) c.requires.asked in
    a.1

pub entry_at_end-target-requires-in-Read-clause-asked : goal.entry_at_end-target-requires-in-Read-clause-asked
entry_at_end-target-requires-in-Read-clause-asked c =
    let a = form-asks c.args.plan.now c.args.site.node c.args.site.shape (reads c.args.phrase.now) (read (reads c.in-Read.field-0.value) c.in-Read.field-1) (Read-tree c.args.phrase.now c.in-Read.field-0 c.in-Read.field-1 c.in-Read.is) c.requires.asked in
    a.1

pub entry_at_end-left-requires-clause-asked : goal.entry_at_end-left-requires-clause-asked
entry_at_end-left-requires-clause-asked c =
    let a = form-asks c.args.plan.now c.args.site.node c.args.site.shape (reads c.args.phrase.now) (binary c.in-Binary.op (reads c.in-Binary.field-1.value) (reads c.in-Binary.field-2.value) c.in-Binary.field-3) (Binary-tree c.args.phrase.now c.in-Binary.op c.in-Binary.field-1 c.in-Binary.field-2 c.in-Binary.field-3 c.in-Binary.is) c.requires.asked in
    a.0.1

pub behind-requires-clause-listed : goal.behind-requires-clause-listed
behind-requires-clause-listed c =
    let a = form-asks c.args.plan.now c.args.site.node c.args.site.shape (reads c.args.phrase.now) (binary c.in-Binary.op (reads c.in-Binary.field-1.value) (reads c.in-Binary.field-2.value) c.in-Binary.field-3) (Binary-tree c.args.phrase.now c.in-Binary.op c.in-Binary.field-1 c.in-Binary.field-2 c.in-Binary.field-3 c.in-Binary.is) c.requires.asked in
    ((reads c.in-Binary.field-1.value), a.0.0)

pub entry_at_end-right-requires-clause-asked : goal.entry_at_end-right-requires-clause-asked
entry_at_end-right-requires-clause-asked c =
    let a = form-asks c.args.plan.now c.args.site.node c.args.site.shape (reads c.args.phrase.now) (binary c.in-Binary.op (reads c.in-Binary.field-1.value) (reads c.in-Binary.field-2.value) c.in-Binary.field-3) (Binary-tree c.args.phrase.now c.in-Binary.op c.in-Binary.field-1 c.in-Binary.field-2 c.in-Binary.field-3 c.in-Binary.is) c.requires.asked in
    let second = c.behind.ensures (reads c.in-Binary.field-1.value) a.0.0 in
    subst (λ m. HasPairOf c.args.plan.now.table.now m (at_end a_value)) (sym second) a.1.1

pub entry_at_end-one-requires-clause-asked : goal.entry_at_end-one-requires-clause-asked
entry_at_end-one-requires-clause-asked c =
    let a = form-asks c.args.plan.now c.args.site.node c.args.site.shape (reads c.args.phrase.now) (seq (reads c.in-Seq.field-0.value) (reads c.in-Seq.field-1.value) c.in-Seq.field-2) (Seq-tree c.args.phrase.now c.in-Seq.field-0 c.in-Seq.field-1 c.in-Seq.field-2 c.in-Seq.is) c.requires.asked in
    a.0.1

pub behind-requires-in-Seq-clause-listed : goal.behind-requires-in-Seq-clause-listed
behind-requires-in-Seq-clause-listed c =
    let a = form-asks c.args.plan.now c.args.site.node c.args.site.shape (reads c.args.phrase.now) (seq (reads c.in-Seq.field-0.value) (reads c.in-Seq.field-1.value) c.in-Seq.field-2) (Seq-tree c.args.phrase.now c.in-Seq.field-0 c.in-Seq.field-1 c.in-Seq.field-2 c.in-Seq.is) c.requires.asked in
    ((reads c.in-Seq.field-0.value), a.0.0)

pub entry_at_end-other-requires-clause-asked : goal.entry_at_end-other-requires-clause-asked
entry_at_end-other-requires-clause-asked c =
    let a = form-asks c.args.plan.now c.args.site.node c.args.site.shape (reads c.args.phrase.now) (seq (reads c.in-Seq.field-0.value) (reads c.in-Seq.field-1.value) c.in-Seq.field-2) (Seq-tree c.args.phrase.now c.in-Seq.field-0 c.in-Seq.field-1 c.in-Seq.field-2 c.in-Seq.is) c.requires.asked in
    let second = c.behind-in-Seq.ensures (reads c.in-Seq.field-0.value) a.0.0 in
    subst (λ m. HasPairOf c.args.plan.now.table.now m (at_end a_run)) (sym second) a.1.1

pub entry_at_end-target-requires-clause-asked : goal.entry_at_end-target-requires-clause-asked
entry_at_end-target-requires-clause-asked c =
    let a = form-asks c.args.plan.now c.args.site.node c.args.site.shape (reads c.args.phrase.now) (assign (reads c.in-Assign.field-0.value) (reads c.in-Assign.field-1.value) c.in-Assign.field-2) (Assign-tree c.args.phrase.now c.in-Assign.field-0 c.in-Assign.field-1 c.in-Assign.field-2 c.in-Assign.is) c.requires.asked in
    a.0.1

pub behind-requires-in-Assign-clause-listed : goal.behind-requires-in-Assign-clause-listed
behind-requires-in-Assign-clause-listed c =
    let a = form-asks c.args.plan.now c.args.site.node c.args.site.shape (reads c.args.phrase.now) (assign (reads c.in-Assign.field-0.value) (reads c.in-Assign.field-1.value) c.in-Assign.field-2) (Assign-tree c.args.phrase.now c.in-Assign.field-0 c.in-Assign.field-1 c.in-Assign.field-2 c.in-Assign.is) c.requires.asked in
    ((reads c.in-Assign.field-0.value), a.0.0)

pub entry_at_end-value-requires-clause-asked : goal.entry_at_end-value-requires-clause-asked
entry_at_end-value-requires-clause-asked c =
    let a = form-asks c.args.plan.now c.args.site.node c.args.site.shape (reads c.args.phrase.now) (assign (reads c.in-Assign.field-0.value) (reads c.in-Assign.field-1.value) c.in-Assign.field-2) (Assign-tree c.args.phrase.now c.in-Assign.field-0 c.in-Assign.field-1 c.in-Assign.field-2 c.in-Assign.is) c.requires.asked in
    let second = c.behind-in-Assign.ensures (reads c.in-Assign.field-0.value) a.0.0 in
    subst (λ m. HasPairOf c.args.plan.now.table.now m (at_end a_value)) (sym second) a.1.1

pub entry_at_end-test-requires-in-WhileDo-clause-asked : goal.entry_at_end-test-requires-in-WhileDo-clause-asked
entry_at_end-test-requires-in-WhileDo-clause-asked c =
    let a = form-asks c.args.plan.now c.args.site.node c.args.site.shape (reads c.args.phrase.now) (while_do (reads c.in-WhileDo.field-0.value) (reads c.in-WhileDo.field-1.value) c.in-WhileDo.field-2) (WhileDo-tree c.args.phrase.now c.in-WhileDo.field-0 c.in-WhileDo.field-1 c.in-WhileDo.field-2 c.in-WhileDo.is) c.requires.asked in
    a.0.1

pub behind-requires-in-WhileDo-clause-listed : goal.behind-requires-in-WhileDo-clause-listed
behind-requires-in-WhileDo-clause-listed c =
    let a = form-asks c.args.plan.now c.args.site.node c.args.site.shape (reads c.args.phrase.now) (while_do (reads c.in-WhileDo.field-0.value) (reads c.in-WhileDo.field-1.value) c.in-WhileDo.field-2) (WhileDo-tree c.args.phrase.now c.in-WhileDo.field-0 c.in-WhileDo.field-1 c.in-WhileDo.field-2 c.in-WhileDo.is) c.requires.asked in
    ((reads c.in-WhileDo.field-0.value), a.0.0)

pub entry_at_end-body-requires-clause-asked : goal.entry_at_end-body-requires-clause-asked
entry_at_end-body-requires-clause-asked c =
    let a = form-asks c.args.plan.now c.args.site.node c.args.site.shape (reads c.args.phrase.now) (while_do (reads c.in-WhileDo.field-0.value) (reads c.in-WhileDo.field-1.value) c.in-WhileDo.field-2) (WhileDo-tree c.args.phrase.now c.in-WhileDo.field-0 c.in-WhileDo.field-1 c.in-WhileDo.field-2 c.in-WhileDo.is) c.requires.asked in
    let second = c.behind-in-WhileDo.ensures (reads c.in-WhileDo.field-0.value) a.0.0 in
    subst (λ m. HasPairOf c.args.plan.now.table.now m (at_end a_run)) (sym second) a.1.1

pub entry_at_end-value-requires-in-New-clause-asked : goal.entry_at_end-value-requires-in-New-clause-asked
entry_at_end-value-requires-in-New-clause-asked c =
    let a = form-asks c.args.plan.now c.args.site.node c.args.site.shape (reads c.args.phrase.now) (new c.in-New.field-0 c.in-New.field-1 (reads c.in-New.field-2.value) (reads c.in-New.field-3.value) c.in-New.field-4) (New-tree c.args.phrase.now c.in-New.field-0 c.in-New.field-1 c.in-New.field-2 c.in-New.field-3 c.in-New.field-4 c.in-New.is) c.requires.asked in
    a.0.1

pub entry_at_end-value-requires-in-Cells-clause-asked : goal.entry_at_end-value-requires-in-Cells-clause-asked
entry_at_end-value-requires-in-Cells-clause-asked c =
    let a = form-asks c.args.plan.now c.args.site.node c.args.site.shape (reads c.args.phrase.now) (cells c.in-Cells.field-0 (reads c.in-Cells.field-1.value) (reads c.in-Cells.field-2.value) c.in-Cells.field-3) (Cells-tree c.args.phrase.now c.in-Cells.field-0 c.in-Cells.field-1 c.in-Cells.field-2 c.in-Cells.field-3 c.in-Cells.is) c.requires.asked in
    a.0.1

pub behind-requires-in-New-clause-listed : goal.behind-requires-in-New-clause-listed
behind-requires-in-New-clause-listed c =
    let a = form-asks c.args.plan.now c.args.site.node c.args.site.shape (reads c.args.phrase.now) (new c.in-New.field-0 c.in-New.field-1 (reads c.in-New.field-2.value) (reads c.in-New.field-3.value) c.in-New.field-4) (New-tree c.args.phrase.now c.in-New.field-0 c.in-New.field-1 c.in-New.field-2 c.in-New.field-3 c.in-New.field-4 c.in-New.is) c.requires.asked in
    ((reads c.in-New.field-2.value), a.0.0)

pub behind-requires-in-Cells-clause-listed : goal.behind-requires-in-Cells-clause-listed
behind-requires-in-Cells-clause-listed c =
    let a = form-asks c.args.plan.now c.args.site.node c.args.site.shape (reads c.args.phrase.now) (cells c.in-Cells.field-0 (reads c.in-Cells.field-1.value) (reads c.in-Cells.field-2.value) c.in-Cells.field-3) (Cells-tree c.args.phrase.now c.in-Cells.field-0 c.in-Cells.field-1 c.in-Cells.field-2 c.in-Cells.field-3 c.in-Cells.is) c.requires.asked in
    ((reads c.in-Cells.field-1.value), a.0.0)

pub entry_at_end-body-requires-in-New-clause-asked : goal.entry_at_end-body-requires-in-New-clause-asked
entry_at_end-body-requires-in-New-clause-asked c =
    let a = form-asks c.args.plan.now c.args.site.node c.args.site.shape (reads c.args.phrase.now) (new c.in-New.field-0 c.in-New.field-1 (reads c.in-New.field-2.value) (reads c.in-New.field-3.value) c.in-New.field-4) (New-tree c.args.phrase.now c.in-New.field-0 c.in-New.field-1 c.in-New.field-2 c.in-New.field-3 c.in-New.field-4 c.in-New.is) c.requires.asked in
    let second = c.behind-in-New.ensures (reads c.in-New.field-2.value) a.0.0 in
    subst (λ m. HasPairOf c.args.plan.now.table.now m (at_end a_run)) (sym second) a.1.1

pub entry_at_end-body-requires-in-Cells-clause-asked : goal.entry_at_end-body-requires-in-Cells-clause-asked
entry_at_end-body-requires-in-Cells-clause-asked c =
    let a = form-asks c.args.plan.now c.args.site.node c.args.site.shape (reads c.args.phrase.now) (cells c.in-Cells.field-0 (reads c.in-Cells.field-1.value) (reads c.in-Cells.field-2.value) c.in-Cells.field-3) (Cells-tree c.args.phrase.now c.in-Cells.field-0 c.in-Cells.field-1 c.in-Cells.field-2 c.in-Cells.field-3 c.in-Cells.is) c.requires.asked in
    let second = c.behind-in-Cells.ensures (reads c.in-Cells.field-1.value) a.0.0 in
    subst (λ m. HasPairOf c.args.plan.now.table.now m (at_end a_run)) (sym second) a.1.1

pub behind-second-requires-clause-listed : goal.behind-second-requires-clause-listed
behind-second-requires-clause-listed c =
    let a = form-asks c.args.plan.now c.args.site.node c.args.site.shape (reads c.args.phrase.now) (cond (reads c.in-Cond.field-0.value) (reads c.in-Cond.field-1.value) (reads c.in-Cond.field-2.value) c.in-Cond.field-3) (Cond-tree c.args.phrase.now c.in-Cond.field-0 c.in-Cond.field-1 c.in-Cond.field-2 c.in-Cond.field-3 c.in-Cond.is) c.requires.asked in
    ((reads c.in-Cond.field-0.value), a.0.0)

pub entry_at_end-test-requires-clause-asked : goal.entry_at_end-test-requires-clause-asked
entry_at_end-test-requires-clause-asked c =
    let a = form-asks c.args.plan.now c.args.site.node c.args.site.shape (reads c.args.phrase.now) (cond (reads c.in-Cond.field-0.value) (reads c.in-Cond.field-1.value) (reads c.in-Cond.field-2.value) c.in-Cond.field-3) (Cond-tree c.args.phrase.now c.in-Cond.field-0 c.in-Cond.field-1 c.in-Cond.field-2 c.in-Cond.field-3 c.in-Cond.is) c.requires.asked in
    a.0.1

pub entry_at-yes-requires-clause-asked : goal.entry_at-yes-requires-clause-asked
entry_at-yes-requires-clause-asked c =
    let a = form-asks c.args.plan.now c.args.site.node c.args.site.shape (reads c.args.phrase.now) (cond (reads c.in-Cond.field-0.value) (reads c.in-Cond.field-1.value) (reads c.in-Cond.field-2.value) c.in-Cond.field-3) (Cond-tree c.args.phrase.now c.in-Cond.field-0 c.in-Cond.field-1 c.in-Cond.field-2 c.in-Cond.field-3 c.in-Cond.is) c.requires.asked in
    let second = c.behind-second.ensures (reads c.in-Cond.field-0.value) a.0.0 in
    (c.requires.asked.0, c.requires.asked.1, subst (λ m. HasPairOf c.args.plan.now.table.now m c.requires.asked.0) (sym second) a.1.1)

pub behind-requires-in-Cond-clause-listed : goal.behind-requires-in-Cond-clause-listed
behind-requires-in-Cond-clause-listed c =
    let a = form-asks c.args.plan.now c.args.site.node c.args.site.shape (reads c.args.phrase.now) (cond (reads c.in-Cond.field-0.value) (reads c.in-Cond.field-1.value) (reads c.in-Cond.field-2.value) c.in-Cond.field-3) (Cond-tree c.args.phrase.now c.in-Cond.field-0 c.in-Cond.field-1 c.in-Cond.field-2 c.in-Cond.field-3 c.in-Cond.is) c.requires.asked in
    let second = c.behind-second.ensures (reads c.in-Cond.field-0.value) a.0.0 in
    ((reads c.in-Cond.field-1.value), subst (λ m. IsListed (nodes_in c.args.plan.now) m (reads c.in-Cond.field-1.value)) (sym second) a.1.0)

pub entry_at-no-requires-clause-asked : goal.entry_at-no-requires-clause-asked
entry_at-no-requires-clause-asked c =
    let a = form-asks c.args.plan.now c.args.site.node c.args.site.shape (reads c.args.phrase.now) (cond (reads c.in-Cond.field-0.value) (reads c.in-Cond.field-1.value) (reads c.in-Cond.field-2.value) c.in-Cond.field-3) (Cond-tree c.args.phrase.now c.in-Cond.field-0 c.in-Cond.field-1 c.in-Cond.field-2 c.in-Cond.field-3 c.in-Cond.is) c.requires.asked in
    let second = c.behind-second.ensures (reads c.in-Cond.field-0.value) a.0.0 in
    let third = c.behind-in-Cond.ensures (reads c.in-Cond.field-1.value) (subst (λ m. IsListed (nodes_in c.args.plan.now) m (reads c.in-Cond.field-1.value)) (sym second) a.1.0) in
    (c.requires.asked.0, c.requires.asked.1, subst (λ m. HasPairOf c.args.plan.now.table.now m c.requires.asked.0) (sym (third ∙ ap (λ m. m + nodes (reads c.in-Cond.field-1.value)) second)) a.2.1)

pub entry_at_end-index-requires-clause-asked : goal.entry_at_end-index-requires-clause-asked
entry_at_end-index-requires-clause-asked c =
    let a = form-asks c.args.plan.now c.args.site.node c.args.site.shape (reads c.args.phrase.now) (case (reads c.in-Case.field-0.value) (reads_parts c.in-Case.parts) c.in-Case.field-2) (Case-tree c.args.phrase.now c.in-Case.field-0 c.in-Case.parts c.in-Case.field-2 c.in-Case.is) c.requires.asked in
    a.0.1

pub behind-requires-in-Case-clause-listed : goal.behind-requires-in-Case-clause-listed
behind-requires-in-Case-clause-listed c =
    let a = form-asks c.args.plan.now c.args.site.node c.args.site.shape (reads c.args.phrase.now) (case (reads c.in-Case.field-0.value) (reads_parts c.in-Case.parts) c.in-Case.field-2) (Case-tree c.args.phrase.now c.in-Case.field-0 c.in-Case.parts c.in-Case.field-2 c.in-Case.is) c.requires.asked in
    ((reads c.in-Case.field-0.value), a.0.0)

pub entries_of_all-requires-clause-asked : goal.entries_of_all-requires-clause-asked
entries_of_all-requires-clause-asked c =
    let a = form-asks c.args.plan.now c.args.site.node c.args.site.shape (reads c.args.phrase.now) (case (reads c.in-Case.field-0.value) (reads_parts c.in-Case.parts) c.in-Case.field-2) (Case-tree c.args.phrase.now c.in-Case.field-0 c.in-Case.parts c.in-Case.field-2 c.in-Case.is) c.requires.asked in
    let second = c.behind-in-Case.ensures (reads c.in-Case.field-0.value) a.0.0 in
    (c.requires.asked.0, c.requires.asked.1, subst (λ m. AreDue c.args.plan.now m (reads_parts c.in-Case.parts) c.requires.asked.0) (sym second) a.1)

pub entry_at_rest-requires-clause-asked : goal.entry_at_rest-requires-clause-asked
entry_at_rest-requires-clause-asked c =
    let a = form-asks c.args.plan.now c.args.site.node c.args.site.shape (reads c.args.phrase.now) (lam c.in-Lam.field-0 (plain_types c.in-Lam.field-1) (reads c.in-Lam.field-2.value) c.in-Lam.field-3) (Lam-tree c.args.phrase.now c.in-Lam.field-0 c.in-Lam.field-1 c.in-Lam.field-2 c.in-Lam.field-3 c.in-Lam.is) c.requires.asked in
    (elem.Call, a.0, c.requires.asked.1 ∙ ap Some a.1, a.2.1)

pub entry_at_rest-requires-in-Field-clause-asked : goal.entry_at_rest-requires-in-Field-clause-asked
entry_at_rest-requires-in-Field-clause-asked c =
    let a = form-asks c.args.plan.now c.args.site.node c.args.site.shape (reads c.args.phrase.now) (field c.in-Field.i (reads c.in-Field.field-1.value) c.in-Field.field-2) (Field-tree c.args.phrase.now c.in-Field.i c.in-Field.field-1 c.in-Field.field-2 c.in-Field.is) c.requires.asked in
    (elem.Field c.in-Field.i, a.0, c.requires.asked.1 ∙ ap Some a.1, a.2.1)

pub entry_before-procedure-requires-clause-asked : goal.entry_before-procedure-requires-clause-asked
entry_before-procedure-requires-clause-asked c =
    let a = form-asks c.args.plan.now c.args.site.node c.args.site.shape (reads c.args.phrase.now) (app (reads c.in-App.field-0.value) (reads c.in-App.argument.value) c.in-App.field-2) (App-tree c.args.phrase.now c.in-App.field-0 c.in-App.argument c.in-App.field-2 c.in-App.is) c.requires.asked in
    (c.requires.asked.0, c.requires.asked.1, a.1)

pub behind-requires-in-None-clause-listed : goal.behind-requires-in-None-clause-listed
behind-requires-in-None-clause-listed c =
    let a = form-asks c.args.plan.now c.args.site.node c.args.site.shape (reads c.args.phrase.now) (app (reads c.in-App.field-0.value) (reads c.in-App.argument.value) c.in-App.field-2) (App-tree c.args.phrase.now c.in-App.field-0 c.in-App.argument c.in-App.field-2 c.in-App.is) c.requires.asked in
    ((reads c.in-App.field-0.value), a.0)

pub entry_before-whole-requires-clause-asked : goal.entry_before-whole-requires-clause-asked
entry_before-whole-requires-clause-asked c =
    let a = form-asks c.args.plan.now c.args.site.node c.args.site.shape (reads c.args.phrase.now) (sel (reads c.in-Sel.field-0.value) c.in-Sel.i c.in-Sel.field-2) (Sel-tree c.args.phrase.now c.in-Sel.field-0 c.in-Sel.i c.in-Sel.field-2 c.in-Sel.is) c.requires.asked in
    (c.requires.asked.0, c.requires.asked.1, a.1)

pub behind-requires-in-LetIn-clause-listed : goal.behind-requires-in-LetIn-clause-listed
behind-requires-in-LetIn-clause-listed c =
    let a = form-asks c.args.plan.now c.args.site.node c.args.site.shape (reads c.args.phrase.now) (let_in c.in-LetIn.field-0 (reads c.in-LetIn.defined.value) (reads c.in-LetIn.field-2.value) c.in-LetIn.field-3) (LetIn-tree c.args.phrase.now c.in-LetIn.field-0 c.in-LetIn.defined c.in-LetIn.field-2 c.in-LetIn.field-3 c.in-LetIn.is) c.requires.asked in
    ((reads c.in-LetIn.defined.value), a.0)

pub entry_at-body-requires-clause-asked : goal.entry_at-body-requires-clause-asked
entry_at-body-requires-clause-asked c =
    let a = form-asks c.args.plan.now c.args.site.node c.args.site.shape (reads c.args.phrase.now) (let_in c.in-LetIn.field-0 (reads c.in-LetIn.defined.value) (reads c.in-LetIn.field-2.value) c.in-LetIn.field-3) (LetIn-tree c.args.phrase.now c.in-LetIn.field-0 c.in-LetIn.defined c.in-LetIn.field-2 c.in-LetIn.field-3 c.in-LetIn.is) c.requires.asked in
    let second = c.behind-in-LetIn.ensures (reads c.in-LetIn.defined.value) a.0 in
    (c.requires.asked.0, c.requires.asked.1, subst (λ m. HasPairOf c.args.plan.now.table.now m c.requires.asked.0) (sym second) a.1.1)

pub entry_at-requires-clause-asked : goal.entry_at-requires-clause-asked
entry_at-requires-clause-asked c =
    let a = form-asks c.args.plan.now c.args.site.node c.args.site.shape (reads c.args.phrase.now) (rec c.in-Rec.field-0 (plain_type c.in-Rec.field-1) (reads c.in-Rec.field-2.value) c.in-Rec.field-3) (Rec-tree c.args.phrase.now c.in-Rec.field-0 c.in-Rec.field-1 c.in-Rec.field-2 c.in-Rec.field-3 c.in-Rec.is) c.requires.asked in
    (c.requires.asked.0, c.requires.asked.1, a.1)

pub unreachable-requires : goal.unreachable-requires
unreachable-requires c =
    elim c.in-Merge.is [
      | inl x ↦ let e = sym (ap is_merge (Merge-tree c.args.phrase.now x.0 x.1 x.2 x.3)) ∙ c.requires.whole in absurd cc
      | inr x ↦ form-asks c.args.plan.now c.args.site.node c.args.site.shape (reads c.args.phrase.now) (mark x.0 x.1) (Mark-tree c.args.phrase.now x.0 x.1 x.2) c.requires.asked
    ]

pub returns-in-Var : goal.returns-in-Var
returns-in-Var c = λ s is.
    form-insn c.args.plan.now c.args.site.node (reads c.args.phrase.now) (var c.in-Var.k c.in-Var.field-1) s (insn.UseVar c.in-Var.k c.args.site.shape) (Var-tree c.args.phrase.now c.in-Var.k c.in-Var.field-1 c.in-Var.is)
    (var-insn c.args.plan.now c.args.site.node c.in-Var.k c.args.site.shape c.in-Var.field-1 s is)

pub returns-in-Lit : goal.returns-in-Lit
returns-in-Lit c = λ s is.
    form-insn c.args.plan.now c.args.site.node (reads c.args.phrase.now) (lit c.in-Lit.v c.in-Lit.field-1) s (insn.Answer c.in-Lit.v) (Lit-tree c.args.phrase.now c.in-Lit.v c.in-Lit.field-1 c.in-Lit.is)
    (lit-insn c.args.plan.now c.args.site.node c.in-Lit.v c.in-Lit.field-1 s)

pub returns-in-Unary : goal.returns-in-Unary
returns-in-Unary c = λ s is.
    form-insn c.args.plan.now c.args.site.node (reads c.args.phrase.now) (unary c.in-Unary.op (reads c.in-Unary.field-1.value) c.in-Unary.field-2) s (insn.Op1 c.in-Unary.op c.entry_at_end-operand.result) (Unary-tree c.args.phrase.now c.in-Unary.op c.in-Unary.field-1 c.in-Unary.field-2 c.in-Unary.is)
    (unary-insn c.args.plan.now c.args.site.node c.in-Unary.op (reads c.in-Unary.field-1.value) c.in-Unary.field-2 s c.entry_at_end-operand.result c.entry_at_end-operand.ensures)

pub returns-in-Binary : goal.returns-in-Binary
returns-in-Binary c = λ s is.
    let a = form-asks c.args.plan.now c.args.site.node c.args.site.shape (reads c.args.phrase.now) (binary c.in-Binary.op (reads c.in-Binary.field-1.value) (reads c.in-Binary.field-2.value) c.in-Binary.field-3) (Binary-tree c.args.phrase.now c.in-Binary.op c.in-Binary.field-1 c.in-Binary.field-2 c.in-Binary.field-3 c.in-Binary.is) c.requires.asked in
    let second = c.behind.ensures (reads c.in-Binary.field-1.value) a.0.0 in
    form-insn c.args.plan.now c.args.site.node (reads c.args.phrase.now) (binary c.in-Binary.op (reads c.in-Binary.field-1.value) (reads c.in-Binary.field-2.value) c.in-Binary.field-3) s (insn.Op2 c.in-Binary.op c.entry_at_end-left.result c.entry_at_end-right.result) (Binary-tree c.args.phrase.now c.in-Binary.op c.in-Binary.field-1 c.in-Binary.field-2 c.in-Binary.field-3 c.in-Binary.is)
    (binary-insn c.args.plan.now c.args.site.node c.in-Binary.op (reads c.in-Binary.field-1.value) (reads c.in-Binary.field-2.value) c.in-Binary.field-3 s c.behind.result c.entry_at_end-left.result c.entry_at_end-right.result second c.entry_at_end-left.ensures c.entry_at_end-right.ensures)

pub returns-in-Seq : goal.returns-in-Seq
returns-in-Seq c = λ s is.
    let a = form-asks c.args.plan.now c.args.site.node c.args.site.shape (reads c.args.phrase.now) (seq (reads c.in-Seq.field-0.value) (reads c.in-Seq.field-1.value) c.in-Seq.field-2) (Seq-tree c.args.phrase.now c.in-Seq.field-0 c.in-Seq.field-1 c.in-Seq.field-2 c.in-Seq.is) c.requires.asked in
    let second = c.behind-in-Seq.ensures (reads c.in-Seq.field-0.value) a.0.0 in
    form-insn c.args.plan.now c.args.site.node (reads c.args.phrase.now) (seq (reads c.in-Seq.field-0.value) (reads c.in-Seq.field-1.value) c.in-Seq.field-2) s (insn.Seq c.entry_at_end-one.result c.entry_at_end-other.result) (Seq-tree c.args.phrase.now c.in-Seq.field-0 c.in-Seq.field-1 c.in-Seq.field-2 c.in-Seq.is)
    (seq-insn c.args.plan.now c.args.site.node (reads c.in-Seq.field-0.value) (reads c.in-Seq.field-1.value) c.in-Seq.field-2 s c.behind-in-Seq.result c.entry_at_end-one.result c.entry_at_end-other.result second c.entry_at_end-one.ensures c.entry_at_end-other.ensures)

pub returns-in-Assign : goal.returns-in-Assign
returns-in-Assign c = λ s is.
    let a = form-asks c.args.plan.now c.args.site.node c.args.site.shape (reads c.args.phrase.now) (assign (reads c.in-Assign.field-0.value) (reads c.in-Assign.field-1.value) c.in-Assign.field-2) (Assign-tree c.args.phrase.now c.in-Assign.field-0 c.in-Assign.field-1 c.in-Assign.field-2 c.in-Assign.is) c.requires.asked in
    let second = c.behind-in-Assign.ensures (reads c.in-Assign.field-0.value) a.0.0 in
    form-insn c.args.plan.now c.args.site.node (reads c.args.phrase.now) (assign (reads c.in-Assign.field-0.value) (reads c.in-Assign.field-1.value) c.in-Assign.field-2) s (insn.Assign c.entry_at_end-target.result c.entry_at_end-value.result) (Assign-tree c.args.phrase.now c.in-Assign.field-0 c.in-Assign.field-1 c.in-Assign.field-2 c.in-Assign.is)
    (assign-insn c.args.plan.now c.args.site.node (reads c.in-Assign.field-0.value) (reads c.in-Assign.field-1.value) c.in-Assign.field-2 s c.behind-in-Assign.result c.entry_at_end-target.result c.entry_at_end-value.result second c.entry_at_end-target.ensures c.entry_at_end-value.ensures)

pub returns-in-WhileDo : goal.returns-in-WhileDo
returns-in-WhileDo c = λ s is.
    let a = form-asks c.args.plan.now c.args.site.node c.args.site.shape (reads c.args.phrase.now) (while_do (reads c.in-WhileDo.field-0.value) (reads c.in-WhileDo.field-1.value) c.in-WhileDo.field-2) (WhileDo-tree c.args.phrase.now c.in-WhileDo.field-0 c.in-WhileDo.field-1 c.in-WhileDo.field-2 c.in-WhileDo.is) c.requires.asked in
    let second = c.behind-in-WhileDo.ensures (reads c.in-WhileDo.field-0.value) a.0.0 in
    form-insn c.args.plan.now c.args.site.node (reads c.args.phrase.now) (while_do (reads c.in-WhileDo.field-0.value) (reads c.in-WhileDo.field-1.value) c.in-WhileDo.field-2) s (insn.While c.entry_at_end-test-in-WhileDo.result c.entry_at_end-body.result) (WhileDo-tree c.args.phrase.now c.in-WhileDo.field-0 c.in-WhileDo.field-1 c.in-WhileDo.field-2 c.in-WhileDo.is)
    (while-insn c.args.plan.now c.args.site.node (reads c.in-WhileDo.field-0.value) (reads c.in-WhileDo.field-1.value) c.in-WhileDo.field-2 s c.behind-in-WhileDo.result c.entry_at_end-test-in-WhileDo.result c.entry_at_end-body.result second c.entry_at_end-test-in-WhileDo.ensures c.entry_at_end-body.ensures)

pub returns-in-New : goal.returns-in-New
returns-in-New c = λ s is.
    let a = form-asks c.args.plan.now c.args.site.node c.args.site.shape (reads c.args.phrase.now) (new c.in-New.field-0 c.in-New.field-1 (reads c.in-New.field-2.value) (reads c.in-New.field-3.value) c.in-New.field-4) (New-tree c.args.phrase.now c.in-New.field-0 c.in-New.field-1 c.in-New.field-2 c.in-New.field-3 c.in-New.field-4 c.in-New.is) c.requires.asked in
    let second = c.behind-in-New.ensures (reads c.in-New.field-2.value) a.0.0 in
    form-insn c.args.plan.now c.args.site.node (reads c.args.phrase.now) (new c.in-New.field-0 c.in-New.field-1 (reads c.in-New.field-2.value) (reads c.in-New.field-3.value) c.in-New.field-4) s (insn.New c.entry_at_end-value-in-New.result c.entry_at_end-body-in-New.result) (New-tree c.args.phrase.now c.in-New.field-0 c.in-New.field-1 c.in-New.field-2 c.in-New.field-3 c.in-New.field-4 c.in-New.is)
    (new-insn c.args.plan.now c.args.site.node c.in-New.field-0 c.in-New.field-1 (reads c.in-New.field-2.value) (reads c.in-New.field-3.value) c.in-New.field-4 s c.behind-in-New.result c.entry_at_end-value-in-New.result c.entry_at_end-body-in-New.result second c.entry_at_end-value-in-New.ensures c.entry_at_end-body-in-New.ensures)

pub returns-in-Cells : goal.returns-in-Cells
returns-in-Cells c = λ s is.
    let a = form-asks c.args.plan.now c.args.site.node c.args.site.shape (reads c.args.phrase.now) (cells c.in-Cells.field-0 (reads c.in-Cells.field-1.value) (reads c.in-Cells.field-2.value) c.in-Cells.field-3) (Cells-tree c.args.phrase.now c.in-Cells.field-0 c.in-Cells.field-1 c.in-Cells.field-2 c.in-Cells.field-3 c.in-Cells.is) c.requires.asked in
    let second = c.behind-in-Cells.ensures (reads c.in-Cells.field-1.value) a.0.0 in
    form-insn c.args.plan.now c.args.site.node (reads c.args.phrase.now) (cells c.in-Cells.field-0 (reads c.in-Cells.field-1.value) (reads c.in-Cells.field-2.value) c.in-Cells.field-3) s (insn.Cells c.entry_at_end-value-in-Cells.result c.entry_at_end-body-in-Cells.result) (Cells-tree c.args.phrase.now c.in-Cells.field-0 c.in-Cells.field-1 c.in-Cells.field-2 c.in-Cells.field-3 c.in-Cells.is)
    (cells-insn c.args.plan.now c.args.site.node c.in-Cells.field-0 (reads c.in-Cells.field-1.value) (reads c.in-Cells.field-2.value) c.in-Cells.field-3 s c.behind-in-Cells.result c.entry_at_end-value-in-Cells.result c.entry_at_end-body-in-Cells.result second c.entry_at_end-value-in-Cells.ensures c.entry_at_end-body-in-Cells.ensures)

pub returns-in-Cond : goal.returns-in-Cond
returns-in-Cond c = λ s is.
    let a = form-asks c.args.plan.now c.args.site.node c.args.site.shape (reads c.args.phrase.now) (cond (reads c.in-Cond.field-0.value) (reads c.in-Cond.field-1.value) (reads c.in-Cond.field-2.value) c.in-Cond.field-3) (Cond-tree c.args.phrase.now c.in-Cond.field-0 c.in-Cond.field-1 c.in-Cond.field-2 c.in-Cond.field-3 c.in-Cond.is) c.requires.asked in
    let second = c.behind-second.ensures (reads c.in-Cond.field-0.value) a.0.0 in
    let third = c.behind-in-Cond.ensures (reads c.in-Cond.field-1.value) (subst (λ m. IsListed (nodes_in c.args.plan.now) m (reads c.in-Cond.field-1.value)) (sym second) a.1.0) in
    form-insn c.args.plan.now c.args.site.node (reads c.args.phrase.now) (cond (reads c.in-Cond.field-0.value) (reads c.in-Cond.field-1.value) (reads c.in-Cond.field-2.value) c.in-Cond.field-3) s (insn.Cond c.entry_at_end-test.result c.entry_at-yes.result c.entry_at-no.result) (Cond-tree c.args.phrase.now c.in-Cond.field-0 c.in-Cond.field-1 c.in-Cond.field-2 c.in-Cond.field-3 c.in-Cond.is)
    (cond-insn c.args.plan.now c.args.site.node (reads c.in-Cond.field-0.value) (reads c.in-Cond.field-1.value) (reads c.in-Cond.field-2.value) c.in-Cond.field-3 s c.behind-second.result c.behind-in-Cond.result c.entry_at_end-test.result c.entry_at-yes.result c.entry_at-no.result second third c.entry_at_end-test.ensures (c.entry_at-yes.ensures s is) (c.entry_at-no.ensures s is))

pub returns-in_ok-addresses-in-Case : goal.returns-in_ok-addresses-in-Case
returns-in_ok-addresses-in-Case c = λ s is.
    let a = form-asks c.args.plan.now c.args.site.node c.args.site.shape (reads c.args.phrase.now) (case (reads c.in-Case.field-0.value) (reads_parts c.in-Case.parts) c.in-Case.field-2) (Case-tree c.args.phrase.now c.in-Case.field-0 c.in-Case.parts c.in-Case.field-2 c.in-Case.is) c.requires.asked in
    let second = c.behind-in-Case.ensures (reads c.in-Case.field-0.value) a.0.0 in
    form-insn c.args.plan.now c.args.site.node (reads c.args.phrase.now) (case (reads c.in-Case.field-0.value) (reads_parts c.in-Case.parts) c.in-Case.field-2) s (insn.Case c.entry_at_end-index.result c.in_ok-addresses-in-Case.addresses) (Case-tree c.args.phrase.now c.in-Case.field-0 c.in-Case.parts c.in-Case.field-2 c.in-Case.is)
    (case-insn c.args.plan.now c.args.site.node (reads c.in-Case.field-0.value) (reads_parts c.in-Case.parts) c.in-Case.field-2 s c.behind-in-Case.result c.entry_at_end-index.result c.in_ok-addresses-in-Case.addresses second c.entry_at_end-index.ensures (c.in_ok-addresses-in-Case.ensures s is))

pub returns-in-Lam : goal.returns-in-Lam
returns-in-Lam c = λ s is.
    let a = form-asks c.args.plan.now c.args.site.node c.args.site.shape (reads c.args.phrase.now) (lam c.in-Lam.field-0 (plain_types c.in-Lam.field-1) (reads c.in-Lam.field-2.value) c.in-Lam.field-3) (Lam-tree c.args.phrase.now c.in-Lam.field-0 c.in-Lam.field-1 c.in-Lam.field-2 c.in-Lam.field-3 c.in-Lam.is) c.requires.asked in
    let same = some_same (sym is ∙ (c.requires.asked.1 ∙ ap Some a.1)) in
    form-insn c.args.plan.now c.args.site.node (reads c.args.phrase.now) (lam c.in-Lam.field-0 (plain_types c.in-Lam.field-1) (reads c.in-Lam.field-2.value) c.in-Lam.field-3) s (insn.Bind c.entry_at_rest.result) (Lam-tree c.args.phrase.now c.in-Lam.field-0 c.in-Lam.field-1 c.in-Lam.field-2 c.in-Lam.field-3 c.in-Lam.is)
    (lam-insn c.args.plan.now c.args.site.node c.in-Lam.field-0 (plain_types c.in-Lam.field-1) (reads c.in-Lam.field-2.value) c.in-Lam.field-3 s a.0 c.entry_at_rest.result same (c.entry_at_rest.ensures elem.Call a.0 (is ∙ ap Some same)))

pub returns-in-Field : goal.returns-in-Field
returns-in-Field c = λ s is.
    let a = form-asks c.args.plan.now c.args.site.node c.args.site.shape (reads c.args.phrase.now) (field c.in-Field.i (reads c.in-Field.field-1.value) c.in-Field.field-2) (Field-tree c.args.phrase.now c.in-Field.i c.in-Field.field-1 c.in-Field.field-2 c.in-Field.is) c.requires.asked in
    let same = some_same (sym is ∙ (c.requires.asked.1 ∙ ap Some a.1)) in
    form-insn c.args.plan.now c.args.site.node (reads c.args.phrase.now) (field c.in-Field.i (reads c.in-Field.field-1.value) c.in-Field.field-2) s (insn.Field c.in-Field.i c.entry_at_rest-in-Field.result) (Field-tree c.args.phrase.now c.in-Field.i c.in-Field.field-1 c.in-Field.field-2 c.in-Field.is)
    (field-insn c.args.plan.now c.args.site.node c.in-Field.i (reads c.in-Field.field-1.value) c.in-Field.field-2 s a.0 c.entry_at_rest-in-Field.result same (c.entry_at_rest-in-Field.ensures (elem.Field c.in-Field.i) a.0 (is ∙ ap Some same)))

pub returns-in-Some : goal.returns-in-Some
returns-in-Some c = λ s is.
    form-insn c.args.plan.now c.args.site.node (reads c.args.phrase.now) (app (reads c.in-App.field-0.value) (reads c.in-App.argument.value) c.in-App.field-2) s (insn.PassVar c.in-Some.k c.entry_before-procedure.result) (App-tree c.args.phrase.now c.in-App.field-0 c.in-App.argument c.in-App.field-2 c.in-App.is)
    (app-variable-insn c.args.plan.now c.args.site.node (reads c.in-App.field-0.value) (reads c.in-App.argument.value) c.in-App.field-2 s c.in-Some.k c.entry_before-procedure.result (ap (λ x. is_variable (reads x)) (sym c.deref.ensures) ∙ sym c.in-Some.ensures) (c.entry_before-procedure.ensures s is))

pub returns-in-None : goal.returns-in-None
returns-in-None c = λ s is.
    let a = form-asks c.args.plan.now c.args.site.node c.args.site.shape (reads c.args.phrase.now) (app (reads c.in-App.field-0.value) (reads c.in-App.argument.value) c.in-App.field-2) (App-tree c.args.phrase.now c.in-App.field-0 c.in-App.argument c.in-App.field-2 c.in-App.is) c.requires.asked in
    let second = c.behind-in-None.ensures (reads c.in-App.field-0.value) a.0 in
    form-insn c.args.plan.now c.args.site.node (reads c.args.phrase.now) (app (reads c.in-App.field-0.value) (reads c.in-App.argument.value) c.in-App.field-2) s (insn.Pass c.behind-in-None.result c.entry_before-procedure.result) (App-tree c.args.phrase.now c.in-App.field-0 c.in-App.argument c.in-App.field-2 c.in-App.is)
    (app-insn c.args.plan.now c.args.site.node (reads c.in-App.field-0.value) (reads c.in-App.argument.value) c.in-App.field-2 s c.behind-in-None.result c.entry_before-procedure.result (ap (λ x. is_variable (reads x)) (sym c.deref.ensures) ∙ sym c.in-None.ensures) second (c.entry_before-procedure.ensures s is))

pub returns-in-Sel : goal.returns-in-Sel
returns-in-Sel c = λ s is.
    form-insn c.args.plan.now c.args.site.node (reads c.args.phrase.now) (sel (reads c.in-Sel.field-0.value) c.in-Sel.i c.in-Sel.field-2) s (insn.Pick c.in-Sel.i c.entry_before-whole.result) (Sel-tree c.args.phrase.now c.in-Sel.field-0 c.in-Sel.i c.in-Sel.field-2 c.in-Sel.is)
    (sel-insn c.args.plan.now c.args.site.node (reads c.in-Sel.field-0.value) c.in-Sel.i c.in-Sel.field-2 s c.entry_before-whole.result (c.entry_before-whole.ensures s is))

pub returns-in-Some-variable_of : goal.returns-in-Some-variable_of
returns-in-Some-variable_of c = λ s is.
    let a = form-asks c.args.plan.now c.args.site.node c.args.site.shape (reads c.args.phrase.now) (let_in c.in-LetIn.field-0 (reads c.in-LetIn.defined.value) (reads c.in-LetIn.field-2.value) c.in-LetIn.field-3) (LetIn-tree c.args.phrase.now c.in-LetIn.field-0 c.in-LetIn.defined c.in-LetIn.field-2 c.in-LetIn.field-3 c.in-LetIn.is) c.requires.asked in
    let second = c.behind-in-LetIn.ensures (reads c.in-LetIn.defined.value) a.0 in
    form-insn c.args.plan.now c.args.site.node (reads c.args.phrase.now) (let_in c.in-LetIn.field-0 (reads c.in-LetIn.defined.value) (reads c.in-LetIn.field-2.value) c.in-LetIn.field-3) s (insn.LetVar c.in-Some-variable_of.k c.entry_at-body.result) (LetIn-tree c.args.phrase.now c.in-LetIn.field-0 c.in-LetIn.defined c.in-LetIn.field-2 c.in-LetIn.field-3 c.in-LetIn.is)
    (let-variable-insn c.args.plan.now c.args.site.node c.in-LetIn.field-0 (reads c.in-LetIn.defined.value) (reads c.in-LetIn.field-2.value) c.in-LetIn.field-3 s c.in-Some-variable_of.k c.behind-in-LetIn.result c.entry_at-body.result (ap (λ x. is_variable (reads x)) (sym c.deref-in-LetIn.ensures) ∙ sym c.in-Some-variable_of.ensures) second (c.entry_at-body.ensures s is))

pub returns-in-None-variable_of : goal.returns-in-None-variable_of
returns-in-None-variable_of c = λ s is.
    let a = form-asks c.args.plan.now c.args.site.node c.args.site.shape (reads c.args.phrase.now) (let_in c.in-LetIn.field-0 (reads c.in-LetIn.defined.value) (reads c.in-LetIn.field-2.value) c.in-LetIn.field-3) (LetIn-tree c.args.phrase.now c.in-LetIn.field-0 c.in-LetIn.defined c.in-LetIn.field-2 c.in-LetIn.field-3 c.in-LetIn.is) c.requires.asked in
    let second = c.behind-in-LetIn.ensures (reads c.in-LetIn.defined.value) a.0 in
    form-insn c.args.plan.now c.args.site.node (reads c.args.phrase.now) (let_in c.in-LetIn.field-0 (reads c.in-LetIn.defined.value) (reads c.in-LetIn.field-2.value) c.in-LetIn.field-3) s (insn.Let (c.args.site.node + 1) c.entry_at-body.result) (LetIn-tree c.args.phrase.now c.in-LetIn.field-0 c.in-LetIn.defined c.in-LetIn.field-2 c.in-LetIn.field-3 c.in-LetIn.is)
    (let-insn c.args.plan.now c.args.site.node c.in-LetIn.field-0 (reads c.in-LetIn.defined.value) (reads c.in-LetIn.field-2.value) c.in-LetIn.field-3 s c.behind-in-LetIn.result c.entry_at-body.result (ap (λ x. is_variable (reads x)) (sym c.deref-in-LetIn.ensures) ∙ sym c.in-None-variable_of.ensures) second (c.entry_at-body.ensures s is))

pub returns-in-Rec : goal.returns-in-Rec
returns-in-Rec c = λ s is.
    form-insn c.args.plan.now c.args.site.node (reads c.args.phrase.now) (rec c.in-Rec.field-0 (plain_type c.in-Rec.field-1) (reads c.in-Rec.field-2.value) c.in-Rec.field-3) s (insn.Knot c.args.site.node c.entry_at.result) (Rec-tree c.args.phrase.now c.in-Rec.field-0 c.in-Rec.field-1 c.in-Rec.field-2 c.in-Rec.field-3 c.in-Rec.is)
    (rec-insn c.args.plan.now c.args.site.node c.in-Rec.field-0 (plain_type c.in-Rec.field-1) (reads c.in-Rec.field-2.value) c.in-Rec.field-3 s c.entry_at.result (c.entry_at.ensures s is))

pub returns-in-Skip : goal.returns-in-Skip
returns-in-Skip c = λ s is.
    form-insn c.args.plan.now c.args.site.node (reads c.args.phrase.now) (skip c.in-Skip.field-0) s (insn.Done) (Skip-tree c.args.phrase.now c.in-Skip.field-0 c.in-Skip.is)
    (skip-insn c.args.plan.now c.args.site.node c.in-Skip.field-0 s)

pub returns-in-Forever : goal.returns-in-Forever
returns-in-Forever c = λ s is.
    form-insn c.args.plan.now c.args.site.node (reads c.args.phrase.now) (forever (reads c.in-Forever.field-0.value) c.in-Forever.field-1) s (insn.Loop c.entry_at_end.result) (Forever-tree c.args.phrase.now c.in-Forever.field-0 c.in-Forever.field-1 c.in-Forever.is)
    (forever-insn c.args.plan.now c.args.site.node (reads c.in-Forever.field-0.value) c.in-Forever.field-1 s c.entry_at_end.result c.entry_at_end.ensures)

pub returns-in-Escape : goal.returns-in-Escape
returns-in-Escape c = λ s is.
    form-insn c.args.plan.now c.args.site.node (reads c.args.phrase.now) (escape c.in-Escape.field-0 (reads c.in-Escape.field-1.value) c.in-Escape.field-2) s (insn.Escape c.entry_at_end-in-Escape.result) (Escape-tree c.args.phrase.now c.in-Escape.field-0 c.in-Escape.field-1 c.in-Escape.field-2 c.in-Escape.is)
    (escape-insn c.args.plan.now c.args.site.node c.in-Escape.field-0 (reads c.in-Escape.field-1.value) c.in-Escape.field-2 s c.entry_at_end-in-Escape.result c.entry_at_end-in-Escape.ensures)

pub returns-in-Accept : goal.returns-in-Accept
returns-in-Accept c = λ s is.
    form-insn c.args.plan.now c.args.site.node (reads c.args.phrase.now) (accept c.in-Accept.field-0 c.in-Accept.field-1 (reads c.in-Accept.field-2.value) c.in-Accept.field-3) s (insn.Accept c.entry_at_end-body-in-Accept.result) (Accept-tree c.args.phrase.now c.in-Accept.field-0 c.in-Accept.field-1 c.in-Accept.field-2 c.in-Accept.field-3 c.in-Accept.is)
    (accept-insn c.args.plan.now c.args.site.node c.in-Accept.field-0 c.in-Accept.field-1 (reads c.in-Accept.field-2.value) c.in-Accept.field-3 s c.entry_at_end-body-in-Accept.result c.entry_at_end-body-in-Accept.ensures)

pub returns-in-Put : goal.returns-in-Put
returns-in-Put c = λ s is.
    form-insn c.args.plan.now c.args.site.node (reads c.args.phrase.now) (put c.in-Put.kind (reads c.in-Put.field-1.value) c.in-Put.field-2) s (insn.Put c.in-Put.kind c.entry_at_end-value-in-Put.result) (Put-tree c.args.phrase.now c.in-Put.kind c.in-Put.field-1 c.in-Put.field-2 c.in-Put.is)
    (put-insn c.args.plan.now c.args.site.node c.in-Put.kind (reads c.in-Put.field-1.value) c.in-Put.field-2 s c.entry_at_end-value-in-Put.result c.entry_at_end-value-in-Put.ensures)

pub returns-in-Read : goal.returns-in-Read
returns-in-Read c = λ s is.
    form-insn c.args.plan.now c.args.site.node (reads c.args.phrase.now) (read (reads c.in-Read.field-0.value) c.in-Read.field-1) s (insn.Read c.entry_at_end-target-in-Read.result) (Read-tree c.args.phrase.now c.in-Read.field-0 c.in-Read.field-1 c.in-Read.is)
    (read-insn c.args.plan.now c.args.site.node (reads c.in-Read.field-0.value) c.in-Read.field-1 s c.entry_at_end-target-in-Read.result c.entry_at_end-target-in-Read.ensures)
