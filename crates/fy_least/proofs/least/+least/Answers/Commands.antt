use Rattle.std.proofs.Common.{◌+◌, ◌∷◌, refl, sym, subst}
use Rattle.std.proofs.lemmas.Result.{err_from_is_err_and}
use Rattle.fy_types.specs.declared.types.Atom.TheVariants.{Int, Comm, Compl}
use Rattle.fy_types.specs.Paths.{paths}
use Rattle.fy_phrase.specs.Tree.{seq, assign, while_do, forever, new, cells, escape, accept, put, read}
use Rattle.fy_phrase.specs.Reads.{reads}
use Rattle.fy_phrase.specs.Sizes as sizes
use Rattle.fy_derive.specs.Atoms.{data_atom, cell_type, sequence_type}
use Rattle.fy_derive.specs.Least.{has, one_end, least_type, visits}
use Rattle.fy_least.specs.Scopes.{scope_forms}
use Rattle.fy_least.specs.Visited.{IsRefused}
use Rattle.fy_least.proofs.ArmLemmas.{ok-of, scope-under}
use Rattle.fy_least.proofs.RefusedLemmas.{one-refused, two-refused, only-part, first-part, second-part}
use Rattle.fy_least.proofs.RuleFound.{forever-found, escape-found, accept-found, put-found, read-found, while-found, command-same, seq-found, new-found, cells-found, assign-found}
use Rattle.fy_least.proofs.least.+least.Goals as goal

pub found_in_sequence-returns-in_err-first-clause-large : goal.found_in_sequence-returns-in_err-first-clause-large
found_in_sequence-returns-in_err-first-clause-large t c =
    let G = scope_forms c.args.scope.now in
    let p = reads c.args.first.now in
    let q = reads c.args.second.now in
    let err = err_from_is_err_and c.from_residual.result c.from_residual.ensures.1 in
    rw (err.1, err.2) (λ e. first-part G p (seq p q c.args.at)
    (λ m. visits (m + 1 + sizes.nodes p) G q) (λ m. refl) (c.in_err-first.ensures.large e))

pub found_in_sequence-returns-in_err-second-clause-large : goal.found_in_sequence-returns-in_err-second-clause-large
found_in_sequence-returns-in_err-second-clause-large t c =
    let G = scope_forms c.args.scope.now in
    let p = reads c.args.first.now in
    let q = reads c.args.second.now in
    let err = err_from_is_err_and c.from_residual-in_err-second.result c.from_residual-in_err-second.ensures.1 in
    rw (err.1, err.2) (λ e. second-part G G p q (seq p q c.args.at) (λ m. refl)
    (c.in_err-second.ensures.large e))

pub found_in_sequence-returns-clause-ok : goal.found_in_sequence-returns-clause-ok
found_in_sequence-returns-clause-ok t c =
    let G = scope_forms c.args.scope.now in
    let p = reads c.args.first.now in
    let q = reads c.args.second.now in
    let f = c.in_ok-first.first in
    let g = c.in_ok-second.second in
    let hf = c.in_ok-first.ensures.ok in
    let hg = c.in_ok-second.ensures.ok in
    ok-of c.command.result refl (λ r. seq-found G p q c.args.at f g r hf hg)
    c.command.ensures.made c.command.ensures.derived

pub found_in_sequence-returns-clause-large : goal.found_in_sequence-returns-clause-large
found_in_sequence-returns-clause-large t c =
    let G = scope_forms c.args.scope.now in
    let p = reads c.args.first.now in
    let q = reads c.args.second.now in
    let f = c.in_ok-first.first in
    let g = c.in_ok-second.second in
    let hf = c.in_ok-first.ensures.ok in
    let hg = c.in_ok-second.ensures.ok in
    λ e. two-refused G G p q (seq p q c.args.at) f g hf hg refl (λ m. refl)
    (subst (λ P. IsRefused P (f.total + g.total))
    (sym (command-same (has (least_type G p) Comm) (least_type G q)))
    (rw (hf.paths, hg.paths) at (c.command.ensures.large e)))

pub found_in_assignment-returns-in_err-acceptor-clause-large : goal.found_in_assignment-returns-in_err-acceptor-clause-large
found_in_assignment-returns-in_err-acceptor-clause-large t c =
    let G = scope_forms c.args.scope.now in
    let p = reads c.args.acceptor.now in
    let q = reads c.args.value.now in
    let err = err_from_is_err_and c.from_residual.result c.from_residual.ensures.1 in
    rw (err.1, err.2) (λ e. first-part G p (assign p q c.args.at)
    (λ m. visits (m + 1 + sizes.nodes p) G q) (λ m. refl) (c.in_err-acceptor.ensures.large e))

pub found_in_assignment-returns-in_err-value-clause-large : goal.found_in_assignment-returns-in_err-value-clause-large
found_in_assignment-returns-in_err-value-clause-large t c =
    let G = scope_forms c.args.scope.now in
    let p = reads c.args.acceptor.now in
    let q = reads c.args.value.now in
    let err = err_from_is_err_and c.from_residual-in_err-value.result c.from_residual-in_err-value.ensures.1 in
    rw (err.1, err.2) (λ e. second-part G G p q (assign p q c.args.at) (λ m. refl)
    (c.in_err-value.ensures.large e))

pub found_in_assignment-returns-clause-ok : goal.found_in_assignment-returns-clause-ok
found_in_assignment-returns-clause-ok t c =
    let G = scope_forms c.args.scope.now in
    let p = reads c.args.acceptor.now in
    let q = reads c.args.value.now in
    let f = c.in_ok-acceptor.acceptor in
    let g = c.in_ok-value.value in
    let hf = c.in_ok-acceptor.ensures.ok in
    let hg = c.in_ok-value.ensures.ok in
    ok-of c.assignment.result refl (λ r. assign-found G p q c.args.at f g r hf hg)
    c.assignment.ensures.made c.assignment.ensures.derived

pub found_in_assignment-returns-clause-large : goal.found_in_assignment-returns-clause-large
found_in_assignment-returns-clause-large t c =
    let G = scope_forms c.args.scope.now in
    let p = reads c.args.acceptor.now in
    let q = reads c.args.value.now in
    let f = c.in_ok-acceptor.acceptor in
    let g = c.in_ok-value.value in
    let hf = c.in_ok-acceptor.ensures.ok in
    let hg = c.in_ok-value.ensures.ok in
    λ e. two-refused G G p q (assign p q c.args.at) f g hf hg refl (λ m. refl)
    (rw (hf.paths, hg.paths) at (c.assignment.ensures.large e))

pub found_in_loop-returns-in_err-test-clause-large : goal.found_in_loop-returns-in_err-test-clause-large
found_in_loop-returns-in_err-test-clause-large t c =
    let G = scope_forms c.args.scope.now in
    let p = reads c.args.test.now in
    let q = reads c.args.body.now in
    let err = err_from_is_err_and c.from_residual.result c.from_residual.ensures.1 in
    rw (err.1, err.2) (λ e. first-part G p (while_do p q c.args.at)
    (λ m. visits (m + 1 + sizes.nodes p) G q) (λ m. refl) (c.in_err-test.ensures.large e))

pub found_in_loop-returns-in_err-body-clause-large : goal.found_in_loop-returns-in_err-body-clause-large
found_in_loop-returns-in_err-body-clause-large t c =
    let G = scope_forms c.args.scope.now in
    let p = reads c.args.test.now in
    let q = reads c.args.body.now in
    let err = err_from_is_err_and c.from_residual-in_err-body.result c.from_residual-in_err-body.ensures.1 in
    rw (err.1, err.2) (λ e. second-part G G p q (while_do p q c.args.at) (λ m. refl)
    (c.in_err-body.ensures.large e))

pub found_in_loop-returns-clause-ok : goal.found_in_loop-returns-clause-ok
found_in_loop-returns-clause-ok t c =
    let G = scope_forms c.args.scope.now in
    let p = reads c.args.test.now in
    let q = reads c.args.body.now in
    let f = c.in_ok-test.test in
    let g = c.in_ok-body.body in
    let hf = c.in_ok-test.ensures.ok in
    let hg = c.in_ok-body.ensures.ok in
    ok-of c.with_two.result refl (λ r. while-found G p q c.args.at f g r hf hg)
    c.with_two.ensures.made c.with_two.ensures.derived

pub found_in_loop-returns-clause-large : goal.found_in_loop-returns-clause-large
found_in_loop-returns-clause-large t c =
    let G = scope_forms c.args.scope.now in
    let p = reads c.args.test.now in
    let q = reads c.args.body.now in
    let f = c.in_ok-test.test in
    let g = c.in_ok-body.body in
    let hf = c.in_ok-test.ensures.ok in
    let hg = c.in_ok-body.ensures.ok in
    λ e. two-refused G G p q (while_do p q c.args.at) f g hf hg refl (λ m. refl)
    (rw (hf.paths, hg.paths) at (c.with_two.ensures.large e))

pub found_in_endless_loop-returns-in_err-body-clause-large : goal.found_in_endless_loop-returns-in_err-body-clause-large
found_in_endless_loop-returns-in_err-body-clause-large t c =
    let G = scope_forms c.args.scope.now in
    let p = reads c.args.body.now in
    let err = err_from_is_err_and c.from_residual.result c.from_residual.ensures.1 in
    rw (err.1, err.2) (λ e. only-part G G p (forever p c.args.at) (λ m. refl)
    (c.in_err-body.ensures.large e))

pub found_in_endless_loop-returns-clause-ok : goal.found_in_endless_loop-returns-clause-ok
found_in_endless_loop-returns-clause-ok t c =
    let G = scope_forms c.args.scope.now in
    let p = reads c.args.body.now in
    let part = c.in_ok-body.body in
    let h = c.in_ok-body.ensures.ok in
    ok-of c.with_one.result refl (λ r. forever-found G p c.args.at part r h)
    c.with_one.ensures.made c.with_one.ensures.derived

pub found_in_endless_loop-returns-clause-large : goal.found_in_endless_loop-returns-clause-large
found_in_endless_loop-returns-clause-large t c =
    let G = scope_forms c.args.scope.now in
    let p = reads c.args.body.now in
    let part = c.in_ok-body.body in
    let h = c.in_ok-body.ensures.ok in
    λ e. one-refused G G p (forever p c.args.at) part h refl (λ m. refl)
    (rw h.paths at (c.with_one.ensures.large e))

pub found_in_cell-returns-in_err-first-clause-large : goal.found_in_cell-returns-in_err-first-clause-large
found_in_cell-returns-in_err-first-clause-large t c =
    let G = scope_forms c.args.scope.now in
    let p = reads c.args.first.now in
    let q = reads c.args.body.now in
    let err = err_from_is_err_and c.from_residual.result c.from_residual.ensures.1 in
    rw (err.1, err.2) (λ d e. first-part G p (new d c.args.ty p q c.args.at)
    (λ m. visits (m + 1 + sizes.nodes p) (paths (cell_type c.args.ty) ∷ G) q) (λ m. refl) (c.in_err-first.ensures.large e))

pub found_in_cell-returns-in_err-body-clause-large : goal.found_in_cell-returns-in_err-body-clause-large
found_in_cell-returns-in_err-body-clause-large t c =
    let G = scope_forms c.args.scope.now in
    let p = reads c.args.first.now in
    let q = reads c.args.body.now in
    let err = err_from_is_err_and c.from_residual-in_err-body.result c.from_residual-in_err-body.ensures.1 in
    rw (err.1, err.2) (λ d e. second-part G (paths (cell_type c.args.ty) ∷ G) p q (new d c.args.ty p q c.args.at) (λ m. refl)
    (rw (scope-under, c.of_distinct-bound.ensures, c.in_ok-cell.ensures) at (c.in_err-body.ensures.large e)))

pub found_in_cell-returns-clause-ok : goal.found_in_cell-returns-clause-ok
found_in_cell-returns-clause-ok t c =
    let G = scope_forms c.args.scope.now in
    let p = reads c.args.first.now in
    let q = reads c.args.body.now in
    let f = c.in_ok-first.first in
    let g = c.in_ok-body.body in
    let hf = c.in_ok-first.ensures.ok in
    let hg = rw (scope-under, c.of_distinct-bound.ensures, c.in_ok-cell.ensures) at c.in_ok-body.ensures.ok in
    λ d. ok-of c.command.result refl (λ r. new-found G d c.args.ty p q c.args.at f g r hf hg)
    (rw c.data_atom.ensures at c.command.ensures.made) (rw c.data_atom.ensures at c.command.ensures.derived)

pub found_in_cell-returns-clause-large : goal.found_in_cell-returns-clause-large
found_in_cell-returns-clause-large t c =
    let G = scope_forms c.args.scope.now in
    let p = reads c.args.first.now in
    let q = reads c.args.body.now in
    let f = c.in_ok-first.first in
    let g = c.in_ok-body.body in
    let hf = c.in_ok-first.ensures.ok in
    let hg = rw (scope-under, c.of_distinct-bound.ensures, c.in_ok-cell.ensures) at c.in_ok-body.ensures.ok in
    λ d e. two-refused G (paths (cell_type c.args.ty) ∷ G) p q (new d c.args.ty p q c.args.at) f g hf hg refl (λ m. refl)
    (subst (λ P. IsRefused P (f.total + g.total))
    (sym (command-same (has (least_type G p) (data_atom c.args.ty)) (least_type (paths (cell_type c.args.ty) ∷ G) q)))
    (rw (c.data_atom.ensures, hf.paths, hg.paths) at (c.command.ensures.large e)))

pub found_in_cells-returns-in_err-count-clause-large : goal.found_in_cells-returns-in_err-count-clause-large
found_in_cells-returns-in_err-count-clause-large t c =
    let G = scope_forms c.args.scope.now in
    let p = reads c.args.count.now in
    let q = reads c.args.body.now in
    let err = err_from_is_err_and c.from_residual.result c.from_residual.ensures.1 in
    rw (err.1, err.2) (λ d e. first-part G p (cells d p q c.args.at)
    (λ m. visits (m + 1 + sizes.nodes p) (paths sequence_type ∷ G) q) (λ m. refl) (c.in_err-count.ensures.large e))

pub found_in_cells-returns-in_err-body-clause-large : goal.found_in_cells-returns-in_err-body-clause-large
found_in_cells-returns-in_err-body-clause-large t c =
    let G = scope_forms c.args.scope.now in
    let p = reads c.args.count.now in
    let q = reads c.args.body.now in
    let err = err_from_is_err_and c.from_residual-in_err-body.result c.from_residual-in_err-body.ensures.1 in
    rw (err.1, err.2) (λ d e. second-part G (paths sequence_type ∷ G) p q (cells d p q c.args.at) (λ m. refl)
    (rw (scope-under, c.of_distinct-bound.ensures, c.in_ok-sequence.ensures) at (c.in_err-body.ensures.large e)))

pub found_in_cells-returns-clause-ok : goal.found_in_cells-returns-clause-ok
found_in_cells-returns-clause-ok t c =
    let G = scope_forms c.args.scope.now in
    let p = reads c.args.count.now in
    let q = reads c.args.body.now in
    let f = c.in_ok-count.count in
    let g = c.in_ok-body.body in
    let hf = c.in_ok-count.ensures.ok in
    let hg = rw (scope-under, c.of_distinct-bound.ensures, c.in_ok-sequence.ensures) at c.in_ok-body.ensures.ok in
    λ d. ok-of c.command.result refl (λ r. cells-found G d p q c.args.at f g r hf hg)
    c.command.ensures.made c.command.ensures.derived

pub found_in_cells-returns-clause-large : goal.found_in_cells-returns-clause-large
found_in_cells-returns-clause-large t c =
    let G = scope_forms c.args.scope.now in
    let p = reads c.args.count.now in
    let q = reads c.args.body.now in
    let f = c.in_ok-count.count in
    let g = c.in_ok-body.body in
    let hf = c.in_ok-count.ensures.ok in
    let hg = rw (scope-under, c.of_distinct-bound.ensures, c.in_ok-sequence.ensures) at c.in_ok-body.ensures.ok in
    λ d e. two-refused G (paths sequence_type ∷ G) p q (cells d p q c.args.at) f g hf hg refl (λ m. refl)
    (subst (λ P. IsRefused P (f.total + g.total))
    (sym (command-same (has (least_type G p) Int) (least_type (paths sequence_type ∷ G) q)))
    (rw (hf.paths, hg.paths) at (c.command.ensures.large e)))

pub found_in_escape-returns-in_err-body-clause-large : goal.found_in_escape-returns-in_err-body-clause-large
found_in_escape-returns-in_err-body-clause-large t c =
    let G = scope_forms c.args.scope.now in
    let p = reads c.args.body.now in
    let err = err_from_is_err_and c.from_residual-in_err-body.result c.from_residual-in_err-body.ensures.1 in
    rw (err.1, err.2) (λ d e. only-part G (one_end Compl ∷ G) p (escape d p c.args.at) (λ m. refl)
    (rw (scope-under, c.of_distinct-bound.ensures, c.in_ok-end.ensures) at (c.in_err-body.ensures.large e)))

pub found_in_escape-returns-clause-ok : goal.found_in_escape-returns-clause-ok
found_in_escape-returns-clause-ok t c =
    let G = scope_forms c.args.scope.now in
    let p = reads c.args.body.now in
    let part = c.in_ok-body.body in
    let h = rw (scope-under, c.of_distinct-bound.ensures, c.in_ok-end.ensures) at c.in_ok-body.ensures.ok in
    λ d. ok-of c.with_one.result refl (λ r. escape-found G d p c.args.at part r h)
    c.with_one.ensures.made c.with_one.ensures.derived

pub found_in_escape-returns-clause-large : goal.found_in_escape-returns-clause-large
found_in_escape-returns-clause-large t c =
    let G = scope_forms c.args.scope.now in
    let p = reads c.args.body.now in
    let part = c.in_ok-body.body in
    let h = rw (scope-under, c.of_distinct-bound.ensures, c.in_ok-end.ensures) at c.in_ok-body.ensures.ok in
    λ d e. one-refused G (one_end Compl ∷ G) p (escape d p c.args.at) part h refl (λ m. refl)
    (rw h.paths at (c.with_one.ensures.large e))

pub found_in_acceptor-returns-in_err-body-clause-large : goal.found_in_acceptor-returns-in_err-body-clause-large
found_in_acceptor-returns-in_err-body-clause-large t c =
    let G = scope_forms c.args.scope.now in
    let p = reads c.args.body.now in
    let err = err_from_is_err_and c.from_residual-in_err-body.result c.from_residual-in_err-body.ensures.1 in
    rw (err.1, err.2) (λ d e. only-part G (one_end (data_atom c.args.ty) ∷ G) p (accept d c.args.ty p c.args.at) (λ m. refl)
    (rw (scope-under, c.of_distinct-bound.ensures, c.in_ok-value.ensures, c.data_atom.ensures) at (c.in_err-body.ensures.large e)))

pub found_in_acceptor-returns-clause-ok : goal.found_in_acceptor-returns-clause-ok
found_in_acceptor-returns-clause-ok t c =
    let G = scope_forms c.args.scope.now in
    let p = reads c.args.body.now in
    let part = c.in_ok-body.body in
    let h = rw (scope-under, c.of_distinct-bound.ensures, c.in_ok-value.ensures, c.data_atom.ensures) at c.in_ok-body.ensures.ok in
    λ d. ok-of c.with_one.result refl (λ r. accept-found G d c.args.ty p c.args.at part r h)
    (rw c.acceptor_atom.ensures at c.with_one.ensures.made) c.with_one.ensures.derived

pub found_in_acceptor-returns-clause-large : goal.found_in_acceptor-returns-clause-large
found_in_acceptor-returns-clause-large t c =
    let G = scope_forms c.args.scope.now in
    let p = reads c.args.body.now in
    let part = c.in_ok-body.body in
    let h = rw (scope-under, c.of_distinct-bound.ensures, c.in_ok-value.ensures, c.data_atom.ensures) at c.in_ok-body.ensures.ok in
    λ d e. one-refused G (one_end (data_atom c.args.ty) ∷ G) p (accept d c.args.ty p c.args.at) part h refl (λ m. refl)
    (rw (c.acceptor_atom.ensures, h.paths) at (c.with_one.ensures.large e))

pub found_in_output-returns-in_err-part-clause-large : goal.found_in_output-returns-in_err-part-clause-large
found_in_output-returns-in_err-part-clause-large t c =
    let G = scope_forms c.args.scope.now in
    let p = reads c.args.part.now in
    let err = err_from_is_err_and c.from_residual.result c.from_residual.ensures.1 in
    rw (err.1, err.2) (λ e. only-part G G p (put c.args.kind p c.args.at) (λ m. refl)
    (c.in_err-part.ensures.large e))

pub found_in_output-returns-clause-ok : goal.found_in_output-returns-clause-ok
found_in_output-returns-clause-ok t c =
    let G = scope_forms c.args.scope.now in
    let p = reads c.args.part.now in
    let part = c.in_ok-part.part in
    let h = c.in_ok-part.ensures.ok in
    ok-of c.with_one.result refl (λ r. put-found G c.args.kind p c.args.at part r h)
    (rw c.put_atom.ensures at c.with_one.ensures.made) (rw c.put_atom.ensures at c.with_one.ensures.derived)

pub found_in_output-returns-clause-large : goal.found_in_output-returns-clause-large
found_in_output-returns-clause-large t c =
    let G = scope_forms c.args.scope.now in
    let p = reads c.args.part.now in
    let part = c.in_ok-part.part in
    let h = c.in_ok-part.ensures.ok in
    λ e. one-refused G G p (put c.args.kind p c.args.at) part h refl (λ m. refl)
    (rw (c.put_atom.ensures, h.paths) at (c.with_one.ensures.large e))

pub found_in_input-returns-in_err-part-clause-large : goal.found_in_input-returns-in_err-part-clause-large
found_in_input-returns-in_err-part-clause-large t c =
    let G = scope_forms c.args.scope.now in
    let p = reads c.args.part.now in
    let err = err_from_is_err_and c.from_residual.result c.from_residual.ensures.1 in
    rw (err.1, err.2) (λ e. only-part G G p (read p c.args.at) (λ m. refl)
    (c.in_err-part.ensures.large e))

pub found_in_input-returns-clause-ok : goal.found_in_input-returns-clause-ok
found_in_input-returns-clause-ok t c =
    let G = scope_forms c.args.scope.now in
    let p = reads c.args.part.now in
    let part = c.in_ok-part.part in
    let h = c.in_ok-part.ensures.ok in
    ok-of c.with_one.result refl (λ r. read-found G p c.args.at part r h)
    c.with_one.ensures.made c.with_one.ensures.derived

pub found_in_input-returns-clause-large : goal.found_in_input-returns-clause-large
found_in_input-returns-clause-large t c =
    let G = scope_forms c.args.scope.now in
    let p = reads c.args.part.now in
    let part = c.in_ok-part.part in
    let h = c.in_ok-part.ensures.ok in
    λ e. one-refused G G p (read p c.args.at) part h refl (λ m. refl)
    (rw h.paths at (c.with_one.ensures.large e))
