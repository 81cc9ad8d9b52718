mod Commands
mod Forms
use Rattle.std.proofs.Common.{◌+◌, ◌∷◌, ◌++◌, map, inl, inr, refl, sym, ap, ◌∙◌, subst, arith, IfOk}
use Rattle.std.proofs.lemmas.List.{length-map}
use Rattle.std.proofs.lemmas.Result.{err_from_is_err_and}
use Rattle.fy_types.specs.Types.{no_types}
use Rattle.fy_types.specs.Paths.{paths}
use Rattle.fy_types.specs.Reading.{plain_paths, plain_type, types_from}
use Rattle.fy_phrase.specs.Tree.{no_trees, unary, binary, cond, case, lam, app, field, sel, merge, let_in, rec}
use Rattle.fy_phrase.specs.Reads.{reads, reads_parts}
use Rattle.fy_phrase.specs.Sizes as sizes
use Rattle.fy_derive.specs.Least.{merge_of, least_type, visits, visits_of_all}
use Rattle.fy_derive.specs.Reading.{plain_derivation}
use Rattle.fy_least.specs.Counts.{this_form}
use Rattle.fy_least.specs.Forms.{IsMerged}
use Rattle.fy_least.specs.Many.{AreFound, no_parts, AreFoundUnder, no_alternatives}
use Rattle.fy_least.specs.Scopes.{scope_forms}
use Rattle.fy_least.specs.Visited.{IsFound, IsMade, IsRefused, blame_at}
use Rattle.fy_least.proofs.ArmLemmas.{ok-of, large-of, turned, too-large, scope-under}
use Rattle.fy_least.proofs.EachFound.{part-more, parts-all, part-refused, alternative-more, alternatives-all, alternative-passes}
use Rattle.fy_least.proofs.FormFound.{app-found, field-found, sel-found, let-found, rec-found, merge-found, cond-found}
use Rattle.fy_least.proofs.LamFound.{bodies-once, bodies-length, found-once, lam-found}
use Rattle.fy_least.proofs.ManyFound.{case-found}
use Rattle.fy_least.proofs.RefusedLemmas.{one-refused, two-refused, three-refused, only-part, first-part, other-parts, second-part, cond-part, written-refused, under-refused, lam-refused, case-refused}
use Rattle.fy_least.proofs.RuleFound.{unary-found, binary-found}
use Rattle.fy_least.proofs.least.+least.Goals as goal
use Rattle.fy_least.proofs.least.+least.Answers.Forms as forms
use Rattle.fy_least.proofs.least.+least.Answers.Commands as commands

pub found_in-returns-in-Var-clause-ok : goal.found_in-returns-in-Var-clause-ok
found_in-returns-in-Var-clause-ok = forms.found_in-returns-in-Var-clause-ok

pub found_in-returns-in-Var-clause-large : goal.found_in-returns-in-Var-clause-large
found_in-returns-in-Var-clause-large = forms.found_in-returns-in-Var-clause-large

pub found_in-returns-in-Lit-clause-ok : goal.found_in-returns-in-Lit-clause-ok
found_in-returns-in-Lit-clause-ok = forms.found_in-returns-in-Lit-clause-ok

pub found_in-returns-in-Lit-clause-large : goal.found_in-returns-in-Lit-clause-large
found_in-returns-in-Lit-clause-large = forms.found_in-returns-in-Lit-clause-large

pub found_in-returns-in-Unary-clause-ok : goal.found_in-returns-in-Unary-clause-ok
found_in-returns-in-Unary-clause-ok = forms.found_in-returns-in-Unary-clause-ok

pub found_in-returns-in-Unary-clause-large : goal.found_in-returns-in-Unary-clause-large
found_in-returns-in-Unary-clause-large = forms.found_in-returns-in-Unary-clause-large

pub found_in-returns-in-Binary-clause-ok : goal.found_in-returns-in-Binary-clause-ok
found_in-returns-in-Binary-clause-ok = forms.found_in-returns-in-Binary-clause-ok

pub found_in-returns-in-Binary-clause-large : goal.found_in-returns-in-Binary-clause-large
found_in-returns-in-Binary-clause-large = forms.found_in-returns-in-Binary-clause-large

pub found_in-returns-in-Cond-clause-ok : goal.found_in-returns-in-Cond-clause-ok
found_in-returns-in-Cond-clause-ok = forms.found_in-returns-in-Cond-clause-ok

pub found_in-returns-in-Cond-clause-large : goal.found_in-returns-in-Cond-clause-large
found_in-returns-in-Cond-clause-large = forms.found_in-returns-in-Cond-clause-large

pub found_in-returns-in-Case-clause-ok : goal.found_in-returns-in-Case-clause-ok
found_in-returns-in-Case-clause-ok = forms.found_in-returns-in-Case-clause-ok

pub found_in-returns-in-Case-clause-large : goal.found_in-returns-in-Case-clause-large
found_in-returns-in-Case-clause-large = forms.found_in-returns-in-Case-clause-large

pub found_in-returns-in-Lam-clause-ok : goal.found_in-returns-in-Lam-clause-ok
found_in-returns-in-Lam-clause-ok = forms.found_in-returns-in-Lam-clause-ok

pub found_in-returns-in-Lam-clause-large : goal.found_in-returns-in-Lam-clause-large
found_in-returns-in-Lam-clause-large = forms.found_in-returns-in-Lam-clause-large

pub found_in-returns-in-App-clause-ok : goal.found_in-returns-in-App-clause-ok
found_in-returns-in-App-clause-ok = forms.found_in-returns-in-App-clause-ok

pub found_in-returns-in-App-clause-large : goal.found_in-returns-in-App-clause-large
found_in-returns-in-App-clause-large = forms.found_in-returns-in-App-clause-large

pub found_in-returns-in-Field-clause-ok : goal.found_in-returns-in-Field-clause-ok
found_in-returns-in-Field-clause-ok = forms.found_in-returns-in-Field-clause-ok

pub found_in-returns-in-Field-clause-large : goal.found_in-returns-in-Field-clause-large
found_in-returns-in-Field-clause-large = forms.found_in-returns-in-Field-clause-large

pub found_in-returns-in-Sel-clause-ok : goal.found_in-returns-in-Sel-clause-ok
found_in-returns-in-Sel-clause-ok = forms.found_in-returns-in-Sel-clause-ok

pub found_in-returns-in-Sel-clause-large : goal.found_in-returns-in-Sel-clause-large
found_in-returns-in-Sel-clause-large = forms.found_in-returns-in-Sel-clause-large

pub found_in-returns-in-Merge-clause-ok : goal.found_in-returns-in-Merge-clause-ok
found_in-returns-in-Merge-clause-ok = forms.found_in-returns-in-Merge-clause-ok

pub found_in-returns-in-Merge-clause-large : goal.found_in-returns-in-Merge-clause-large
found_in-returns-in-Merge-clause-large = forms.found_in-returns-in-Merge-clause-large

pub found_in-returns-in-LetIn-clause-ok : goal.found_in-returns-in-LetIn-clause-ok
found_in-returns-in-LetIn-clause-ok = forms.found_in-returns-in-LetIn-clause-ok

pub found_in-returns-in-LetIn-clause-large : goal.found_in-returns-in-LetIn-clause-large
found_in-returns-in-LetIn-clause-large = forms.found_in-returns-in-LetIn-clause-large

pub found_in-returns-in-Rec-clause-ok : goal.found_in-returns-in-Rec-clause-ok
found_in-returns-in-Rec-clause-ok = forms.found_in-returns-in-Rec-clause-ok

pub found_in-returns-in-Rec-clause-large : goal.found_in-returns-in-Rec-clause-large
found_in-returns-in-Rec-clause-large = forms.found_in-returns-in-Rec-clause-large

pub found_in-returns-in-Skip-clause-ok : goal.found_in-returns-in-Skip-clause-ok
found_in-returns-in-Skip-clause-ok = forms.found_in-returns-in-Skip-clause-ok

pub found_in-returns-in-Skip-clause-large : goal.found_in-returns-in-Skip-clause-large
found_in-returns-in-Skip-clause-large = forms.found_in-returns-in-Skip-clause-large

pub found_in-returns-in-Seq-clause-ok : goal.found_in-returns-in-Seq-clause-ok
found_in-returns-in-Seq-clause-ok = forms.found_in-returns-in-Seq-clause-ok

pub found_in-returns-in-Seq-clause-large : goal.found_in-returns-in-Seq-clause-large
found_in-returns-in-Seq-clause-large = forms.found_in-returns-in-Seq-clause-large

pub found_in-returns-in-Assign-clause-ok : goal.found_in-returns-in-Assign-clause-ok
found_in-returns-in-Assign-clause-ok = forms.found_in-returns-in-Assign-clause-ok

pub found_in-returns-in-Assign-clause-large : goal.found_in-returns-in-Assign-clause-large
found_in-returns-in-Assign-clause-large = forms.found_in-returns-in-Assign-clause-large

pub found_in-returns-in-WhileDo-clause-ok : goal.found_in-returns-in-WhileDo-clause-ok
found_in-returns-in-WhileDo-clause-ok = forms.found_in-returns-in-WhileDo-clause-ok

pub found_in-returns-in-WhileDo-clause-large : goal.found_in-returns-in-WhileDo-clause-large
found_in-returns-in-WhileDo-clause-large = forms.found_in-returns-in-WhileDo-clause-large

pub found_in-returns-in-Forever-clause-ok : goal.found_in-returns-in-Forever-clause-ok
found_in-returns-in-Forever-clause-ok = forms.found_in-returns-in-Forever-clause-ok

pub found_in-returns-in-Forever-clause-large : goal.found_in-returns-in-Forever-clause-large
found_in-returns-in-Forever-clause-large = forms.found_in-returns-in-Forever-clause-large

pub found_in-returns-in-New-clause-ok : goal.found_in-returns-in-New-clause-ok
found_in-returns-in-New-clause-ok = forms.found_in-returns-in-New-clause-ok

pub found_in-returns-in-New-clause-large : goal.found_in-returns-in-New-clause-large
found_in-returns-in-New-clause-large = forms.found_in-returns-in-New-clause-large

pub found_in-returns-in-Escape-clause-ok : goal.found_in-returns-in-Escape-clause-ok
found_in-returns-in-Escape-clause-ok = forms.found_in-returns-in-Escape-clause-ok

pub found_in-returns-in-Escape-clause-large : goal.found_in-returns-in-Escape-clause-large
found_in-returns-in-Escape-clause-large = forms.found_in-returns-in-Escape-clause-large

pub found_in-returns-in-Accept-clause-ok : goal.found_in-returns-in-Accept-clause-ok
found_in-returns-in-Accept-clause-ok = forms.found_in-returns-in-Accept-clause-ok

pub found_in-returns-in-Accept-clause-large : goal.found_in-returns-in-Accept-clause-large
found_in-returns-in-Accept-clause-large = forms.found_in-returns-in-Accept-clause-large

pub found_in-returns-in-Put-clause-ok : goal.found_in-returns-in-Put-clause-ok
found_in-returns-in-Put-clause-ok = forms.found_in-returns-in-Put-clause-ok

pub found_in-returns-in-Put-clause-large : goal.found_in-returns-in-Put-clause-large
found_in-returns-in-Put-clause-large = forms.found_in-returns-in-Put-clause-large

pub found_in-returns-in-Read-clause-ok : goal.found_in-returns-in-Read-clause-ok
found_in-returns-in-Read-clause-ok = forms.found_in-returns-in-Read-clause-ok

pub found_in-returns-in-Read-clause-large : goal.found_in-returns-in-Read-clause-large
found_in-returns-in-Read-clause-large = forms.found_in-returns-in-Read-clause-large

pub found_in-returns-in-Mark-clause-ok : goal.found_in-returns-in-Mark-clause-ok
found_in-returns-in-Mark-clause-ok = forms.found_in-returns-in-Mark-clause-ok

pub found_in-returns-in-Cells-clause-ok : goal.found_in-returns-in-Cells-clause-ok
found_in-returns-in-Cells-clause-ok = forms.found_in-returns-in-Cells-clause-ok

pub found_in-returns-in-Cells-clause-large : goal.found_in-returns-in-Cells-clause-large
found_in-returns-in-Cells-clause-large = forms.found_in-returns-in-Cells-clause-large

pub found_in_unary-returns-in_err-part-clause-large : goal.found_in_unary-returns-in_err-part-clause-large
found_in_unary-returns-in_err-part-clause-large t c =
    let G = scope_forms c.args.scope.now in
    let p = reads c.args.part.now in
    let err = err_from_is_err_and c.from_residual.result c.from_residual.ensures.1 in
    rw (err.1, err.2) (λ e. only-part G G p (unary c.args.op p c.args.at) (λ m. refl)
    (c.in_err-part.ensures.large e))

pub found_in_unary-returns-clause-ok : goal.found_in_unary-returns-clause-ok
found_in_unary-returns-clause-ok t c =
    let G = scope_forms c.args.scope.now in
    let p = reads c.args.part.now in
    let part = c.in_ok-part.part in
    let h = c.in_ok-part.ensures.ok in
    ok-of c.with_one.result refl (λ r. unary-found G c.args.op p c.args.at part r h)
    (rw (c.operand_atom.ensures, c.unary_atom.ensures) at c.with_one.ensures.made) (rw c.operand_atom.ensures at c.with_one.ensures.derived)

pub found_in_unary-returns-clause-large : goal.found_in_unary-returns-clause-large
found_in_unary-returns-clause-large t c =
    let G = scope_forms c.args.scope.now in
    let p = reads c.args.part.now in
    let part = c.in_ok-part.part in
    let h = c.in_ok-part.ensures.ok in
    λ e. one-refused G G p (unary c.args.op p c.args.at) part h refl (λ m. refl)
    (rw (c.operand_atom.ensures, c.unary_atom.ensures, h.paths) at (c.with_one.ensures.large e))

pub found_in_binary-returns-in_err-left-clause-large : goal.found_in_binary-returns-in_err-left-clause-large
found_in_binary-returns-in_err-left-clause-large t c =
    let G = scope_forms c.args.scope.now in
    let p = reads c.args.left.now in
    let q = reads c.args.right.now in
    let err = err_from_is_err_and c.from_residual.result c.from_residual.ensures.1 in
    rw (err.1, err.2) (λ e. first-part G p (binary c.args.op p q c.args.at)
    (λ m. visits (m + 1 + sizes.nodes p) G q) (λ m. refl) (c.in_err-left.ensures.large e))

pub found_in_binary-returns-in_err-right-clause-large : goal.found_in_binary-returns-in_err-right-clause-large
found_in_binary-returns-in_err-right-clause-large t c =
    let G = scope_forms c.args.scope.now in
    let p = reads c.args.left.now in
    let q = reads c.args.right.now in
    let err = err_from_is_err_and c.from_residual-in_err-right.result c.from_residual-in_err-right.ensures.1 in
    rw (err.1, err.2) (λ e. second-part G G p q (binary c.args.op p q c.args.at) (λ m. refl)
    (c.in_err-right.ensures.large e))

pub found_in_binary-returns-clause-ok : goal.found_in_binary-returns-clause-ok
found_in_binary-returns-clause-ok t c =
    let G = scope_forms c.args.scope.now in
    let p = reads c.args.left.now in
    let q = reads c.args.right.now in
    let f = c.in_ok-left.left in
    let g = c.in_ok-right.right in
    let hf = c.in_ok-left.ensures.ok in
    let hg = c.in_ok-right.ensures.ok in
    ok-of c.binary.result refl (λ r. binary-found G c.args.op p q c.args.at f g r hf hg)
    c.binary.ensures.made c.binary.ensures.derived

pub found_in_binary-returns-clause-large : goal.found_in_binary-returns-clause-large
found_in_binary-returns-clause-large t c =
    let G = scope_forms c.args.scope.now in
    let p = reads c.args.left.now in
    let q = reads c.args.right.now in
    let f = c.in_ok-left.left in
    let g = c.in_ok-right.right in
    let hf = c.in_ok-left.ensures.ok in
    let hg = c.in_ok-right.ensures.ok in
    λ e. two-refused G G p q (binary c.args.op p q c.args.at) f g hf hg refl (λ m. refl)
    (rw (hf.paths, hg.paths) at (c.binary.ensures.large e))

pub found_in_conditional-returns-in_err-test-clause-large : goal.found_in_conditional-returns-in_err-test-clause-large
found_in_conditional-returns-in_err-test-clause-large t c =
    let G = scope_forms c.args.scope.now in
    let b = reads c.args.test.now in
    let p = reads c.args.first.now in
    let q = reads c.args.second.now in
    let err = err_from_is_err_and c.from_residual.result c.from_residual.ensures.1 in
    rw (err.1, err.2) (λ e. first-part G b (cond b p q c.args.at)
    (λ m. visits (m + 1 + sizes.nodes b) G p ++ visits (m + 1 + sizes.nodes b + sizes.nodes p) G q) (λ m. refl) (c.in_err-test.ensures.large e))

pub found_in_conditional-returns-in_err-first-clause-large : goal.found_in_conditional-returns-in_err-first-clause-large
found_in_conditional-returns-in_err-first-clause-large t c =
    let G = scope_forms c.args.scope.now in
    let b = reads c.args.test.now in
    let p = reads c.args.first.now in
    let q = reads c.args.second.now in
    let err = err_from_is_err_and c.from_residual-in_err-first.result c.from_residual-in_err-first.ensures.1 in
    rw (err.1, err.2) (λ e. cond-part G b p q c.args.at (inl (c.in_err-first.ensures.large e)))

pub found_in_conditional-returns-in_err-second-clause-large : goal.found_in_conditional-returns-in_err-second-clause-large
found_in_conditional-returns-in_err-second-clause-large t c =
    let G = scope_forms c.args.scope.now in
    let b = reads c.args.test.now in
    let p = reads c.args.first.now in
    let q = reads c.args.second.now in
    let err = err_from_is_err_and c.from_residual-in_err-second.result c.from_residual-in_err-second.ensures.1 in
    rw (err.1, err.2) (λ e. cond-part G b p q c.args.at (inr (c.in_err-second.ensures.large e)))

pub found_in_conditional-returns-clause-ok : goal.found_in_conditional-returns-clause-ok
found_in_conditional-returns-clause-ok t c =
    let G = scope_forms c.args.scope.now in
    let b = reads c.args.test.now in
    let p = reads c.args.first.now in
    let q = reads c.args.second.now in
    let e = c.in_ok-test.test in
    let f = c.in_ok-first.first in
    let g = c.in_ok-second.second in
    let he = c.in_ok-test.ensures.ok in
    let hf = c.in_ok-first.ensures.ok in
    let hg = c.in_ok-second.ensures.ok in
    ok-of c.conditional.result refl (λ r. cond-found G b p q c.args.at e f g r he hf hg) c.conditional.ensures.made c.conditional.ensures.derived

pub found_in_conditional-returns-clause-large : goal.found_in_conditional-returns-clause-large
found_in_conditional-returns-clause-large t c =
    let G = scope_forms c.args.scope.now in
    let b = reads c.args.test.now in
    let p = reads c.args.first.now in
    let q = reads c.args.second.now in
    let e = c.in_ok-test.test in
    let f = c.in_ok-first.first in
    let g = c.in_ok-second.second in
    let he = c.in_ok-test.ensures.ok in
    let hf = c.in_ok-first.ensures.ok in
    let hg = c.in_ok-second.ensures.ok in
    λ x. three-refused G b p q c.args.at e f g he hf hg (rw (he.paths, hf.paths, hg.paths) at (c.conditional.ensures.large x))

pub found_in_case-returns-in_err-index-clause-large : goal.found_in_case-returns-in_err-index-clause-large
found_in_case-returns-in_err-index-clause-large t c =
    let G = scope_forms c.args.scope.now in
    let p = reads c.args.index.now in
    let ps = reads_parts c.args.parts.now in
    let err = err_from_is_err_and c.from_residual.result c.from_residual.ensures.1 in
    rw (err.1, err.2) (λ e. first-part G p (case p ps c.args.at) (λ m. visits_of_all (m + 1 + sizes.nodes p) G ps) (λ m. refl)
    (c.in_err-index.ensures.large e))

pub found_in_case-returns-in_err-parts-clause-large : goal.found_in_case-returns-in_err-parts-clause-large
found_in_case-returns-in_err-parts-clause-large t c =
    let G = scope_forms c.args.scope.now in
    let p = reads c.args.index.now in
    let ps = reads_parts c.args.parts.now in
    let err = err_from_is_err_and c.from_residual-in_err-parts.result c.from_residual-in_err-parts.ensures.1 in
    rw (err.1, err.2) (λ e. other-parts G p (case p ps c.args.at) (λ m. visits_of_all (m + 1 + sizes.nodes p) G ps) (λ m. refl)
    (λ m. c.in_err-parts.ensures.large (turned _ _ e) (m + 1 + sizes.nodes p)))

pub found_in_case-returns-clause-ok : goal.found_in_case-returns-clause-ok
found_in_case-returns-clause-ok t c =
    let G = scope_forms c.args.scope.now in
    let p = reads c.args.index.now in
    let ps = reads_parts c.args.parts.now in
    let f = c.in_ok-index.index in
    let fs = c.in_ok-parts.parts.items in
    let hf = c.in_ok-index.ensures.ok in
    let hs = c.in_ok-parts.ensures.ok in
    ok-of c.case.result refl (λ r. case-found G p ps c.args.at f r fs hf hs) c.case.ensures.made c.case.ensures.derived

pub found_in_case-returns-clause-large : goal.found_in_case-returns-clause-large
found_in_case-returns-clause-large t c =
    let G = scope_forms c.args.scope.now in
    let p = reads c.args.index.now in
    let ps = reads_parts c.args.parts.now in
    let f = c.in_ok-index.index in
    let fs = c.in_ok-parts.parts.items in
    let hf = c.in_ok-index.ensures.ok in
    let hs = c.in_ok-parts.ensures.ok in
    λ e. case-refused G p ps c.args.at f fs hf hs (c.case.ensures.large e)

pub found_in_abstraction-returns-in_err-bodies-clause-large : goal.found_in_abstraction-returns-in_err-bodies-clause-large
found_in_abstraction-returns-in_err-bodies-clause-large t c =
    let G = scope_forms c.args.scope.now in
    let p = reads c.args.body.now in
    let As = types_from (map plain_type c.as_slice-types.result.now) in
    let err = err_from_is_err_and c.from_residual.result c.from_residual.ensures.1 in
    rw (err.1, err.2) (λ d e. large-of G (ap (λ As. lam d As p c.args.at) c.as_slice-types.ensures.reading)
    (under-refused G d As p c.args.at (c.in_err-bodies.ensures.large (turned _ _ e))))

pub found_in_abstraction-abstraction-requires-clause-same : goal.found_in_abstraction-abstraction-requires-clause-same
found_in_abstraction-abstraction-requires-clause-same t c =
    let hs = c.in_ok-bodies.ensures.ok in
    omega (arith, bodies-length (map plain_type c.as_slice-types.result.now) hs, length-map c.as_slice-types.result.now plain_type)

pub found_in_abstraction-abstraction-requires-clause-once : goal.found_in_abstraction-abstraction-requires-clause-once
found_in_abstraction-abstraction-requires-clause-once t c =
    bodies-once c.in_ok-bodies.ensures.ok

pub found_in_abstraction-returns-clause-ok : goal.found_in_abstraction-returns-clause-ok
found_in_abstraction-returns-clause-ok t c =
    let G = scope_forms c.args.scope.now in
    let p = reads c.args.body.now in
    let As = types_from (map plain_type c.as_slice-types.result.now) in
    let fs = c.in_ok-bodies.bodies.items in
    let hs = c.in_ok-bodies.ensures.ok in
    λ d. ok-of c.abstraction.result (ap (λ As. lam d As p c.args.at) c.as_slice-types.ensures.reading)
    (λ r m k. lam-found G d As p c.args.at fs r hs m k) c.abstraction.ensures.made c.abstraction.ensures.derived

pub found_in_abstraction-returns-clause-large : goal.found_in_abstraction-returns-clause-large
found_in_abstraction-returns-clause-large t c =
    let G = scope_forms c.args.scope.now in
    let p = reads c.args.body.now in
    let As = types_from (map plain_type c.as_slice-types.result.now) in
    let fs = c.in_ok-bodies.bodies.items in
    let hs = c.in_ok-bodies.ensures.ok in
    λ d e. large-of G (ap (λ As. lam d As p c.args.at) c.as_slice-types.ensures.reading)
    (lam-refused G d As p c.args.at fs hs (c.abstraction.ensures.large e))

pub found_in_application-returns-in_err-procedure-clause-large : goal.found_in_application-returns-in_err-procedure-clause-large
found_in_application-returns-in_err-procedure-clause-large t c =
    let G = scope_forms c.args.scope.now in
    let p = reads c.args.procedure.now in
    let q = reads c.args.argument.now in
    let err = err_from_is_err_and c.from_residual.result c.from_residual.ensures.1 in
    rw (err.1, err.2) (λ e. first-part G p (app p q c.args.at)
    (λ m. visits (m + 1 + sizes.nodes p) G q) (λ m. refl) (c.in_err-procedure.ensures.large e))

pub found_in_application-returns-in_err-argument-clause-large : goal.found_in_application-returns-in_err-argument-clause-large
found_in_application-returns-in_err-argument-clause-large t c =
    let G = scope_forms c.args.scope.now in
    let p = reads c.args.procedure.now in
    let q = reads c.args.argument.now in
    let err = err_from_is_err_and c.from_residual-in_err-argument.result c.from_residual-in_err-argument.ensures.1 in
    rw (err.1, err.2) (λ e. second-part G G p q (app p q c.args.at) (λ m. refl)
    (c.in_err-argument.ensures.large e))

pub found_in_application-returns-clause-ok : goal.found_in_application-returns-clause-ok
found_in_application-returns-clause-ok t c =
    let G = scope_forms c.args.scope.now in
    let p = reads c.args.procedure.now in
    let q = reads c.args.argument.now in
    let f = c.in_ok-procedure.procedure in
    let g = c.in_ok-argument.argument in
    let hf = c.in_ok-procedure.ensures.ok in
    let hg = c.in_ok-argument.ensures.ok in
    ok-of c.application.result refl (λ r. app-found G p q c.args.at f g r hf hg)
    c.application.ensures.made c.application.ensures.derived

pub found_in_application-returns-clause-large : goal.found_in_application-returns-clause-large
found_in_application-returns-clause-large t c =
    let G = scope_forms c.args.scope.now in
    let p = reads c.args.procedure.now in
    let q = reads c.args.argument.now in
    let f = c.in_ok-procedure.procedure in
    let g = c.in_ok-argument.argument in
    let hf = c.in_ok-procedure.ensures.ok in
    let hg = c.in_ok-argument.ensures.ok in
    λ e. two-refused G G p q (app p q c.args.at) f g hf hg refl (λ m. refl)
    (rw (hf.paths, hg.paths) at (c.application.ensures.large e))

pub found_in_field-returns-in_err-part-clause-large : goal.found_in_field-returns-in_err-part-clause-large
found_in_field-returns-in_err-part-clause-large t c =
    let G = scope_forms c.args.scope.now in
    let p = reads c.args.part.now in
    let err = err_from_is_err_and c.from_residual.result c.from_residual.ensures.1 in
    rw (err.1, err.2) (λ e. only-part G G p (field c.args.name p c.args.at) (λ m. refl)
    (c.in_err-part.ensures.large e))

pub found_in_field-returns-clause-ok : goal.found_in_field-returns-clause-ok
found_in_field-returns-clause-ok t c =
    let G = scope_forms c.args.scope.now in
    let p = reads c.args.part.now in
    let part = c.in_ok-part.part in
    let h = c.in_ok-part.ensures.ok in
    ok-of c.field.result refl (λ r. field-found G c.args.name p c.args.at part r h)
    c.field.ensures.made c.field.ensures.derived

pub found_in_field-returns-clause-large : goal.found_in_field-returns-clause-large
found_in_field-returns-clause-large t c =
    let G = scope_forms c.args.scope.now in
    let p = reads c.args.part.now in
    let part = c.in_ok-part.part in
    let h = c.in_ok-part.ensures.ok in
    λ e. one-refused G G p (field c.args.name p c.args.at) part h refl (λ m. refl)
    (rw h.paths at (c.field.ensures.large e))

pub found_in_selection-returns-in_err-part-clause-large : goal.found_in_selection-returns-in_err-part-clause-large
found_in_selection-returns-in_err-part-clause-large t c =
    let G = scope_forms c.args.scope.now in
    let p = reads c.args.part.now in
    let err = err_from_is_err_and c.from_residual.result c.from_residual.ensures.1 in
    rw (err.1, err.2) (λ e. only-part G G p (sel p c.args.name c.args.at) (λ m. refl)
    (c.in_err-part.ensures.large e))

pub found_in_selection-returns-clause-ok : goal.found_in_selection-returns-clause-ok
found_in_selection-returns-clause-ok t c =
    let G = scope_forms c.args.scope.now in
    let p = reads c.args.part.now in
    let part = c.in_ok-part.part in
    let h = c.in_ok-part.ensures.ok in
    ok-of c.selection.result refl (λ r. sel-found G c.args.name p c.args.at part r h)
    c.selection.ensures.made c.selection.ensures.derived

pub found_in_selection-returns-clause-large : goal.found_in_selection-returns-clause-large
found_in_selection-returns-clause-large t c =
    let G = scope_forms c.args.scope.now in
    let p = reads c.args.part.now in
    let part = c.in_ok-part.part in
    let h = c.in_ok-part.ensures.ok in
    λ e. one-refused G G p (sel p c.args.name c.args.at) part h refl (λ m. refl)
    (rw h.paths at (c.selection.ensures.large e))

pub found_in_merge-returns-in_err-left-clause-large : goal.found_in_merge-returns-in_err-left-clause-large
found_in_merge-returns-in_err-left-clause-large t c =
    let G = scope_forms c.args.scope.now in
    let p = reads c.args.left.now in
    let q = reads c.args.right.now in
    let err = err_from_is_err_and c.from_residual.result c.from_residual.ensures.1 in
    rw (err.1, err.2) (λ e. first-part G p (merge p q c.args.at)
    (λ m. visits (m + 1 + sizes.nodes p) G q) (λ m. refl) (c.in_err-left.ensures.large e))

pub found_in_merge-returns-in_err-right-clause-large : goal.found_in_merge-returns-in_err-right-clause-large
found_in_merge-returns-in_err-right-clause-large t c =
    let G = scope_forms c.args.scope.now in
    let p = reads c.args.left.now in
    let q = reads c.args.right.now in
    let err = err_from_is_err_and c.from_residual-in_err-right.result c.from_residual-in_err-right.ensures.1 in
    rw (err.1, err.2) (λ e. second-part G G p q (merge p q c.args.at) (λ m. refl)
    (c.in_err-right.ensures.large e))

pub found_in_merge-merge-requires : goal.found_in_merge-merge-requires
found_in_merge-merge-requires t c = found-once (scope_forms c.args.scope.now) (reads c.args.left.now) c.in_ok-left.left c.in_ok-left.ensures.ok

pub found_in_merge-returns-clause-ok : goal.found_in_merge-returns-clause-ok
found_in_merge-returns-clause-ok t c =
    let G = scope_forms c.args.scope.now in
    let p = reads c.args.left.now in
    let q = reads c.args.right.now in
    let f = c.in_ok-left.left in
    let g = c.in_ok-right.right in
    let hf = c.in_ok-left.ensures.ok in
    let hg = c.in_ok-right.ensures.ok in
    let k = c.demand_of-demand.ensures in
    ok-of c.merge.result refl (λ r. merge-found G p q c.args.at f g r hf hg)
    (subst (λ o. IfOk c.merge.result
    (λ r. IsMade (merge_of o (plain_paths f.paths) (plain_paths g.paths)) (blame_at f (blame_at g c.args.at)) (f.total + g.total) r))
    k c.merge.ensures.made)
    (subst (λ o. IfOk c.merge.result (λ r. IsMerged o f g (plain_derivation r.derivation))) k c.merge.ensures.derived)

pub found_in_merge-returns-clause-large : goal.found_in_merge-returns-clause-large
found_in_merge-returns-clause-large t c =
    let G = scope_forms c.args.scope.now in
    let p = reads c.args.left.now in
    let q = reads c.args.right.now in
    let f = c.in_ok-left.left in
    let g = c.in_ok-right.right in
    let hf = c.in_ok-left.ensures.ok in
    let hg = c.in_ok-right.ensures.ok in
    let k = c.demand_of-demand.ensures in
    λ e. two-refused G G p q (merge p q c.args.at) f g hf hg refl (λ m. refl)
    (rw (hf.paths, hg.paths) at
    (subst (λ o. IsRefused (merge_of o (plain_paths f.paths) (plain_paths g.paths)) (f.total + g.total)) k (c.merge.ensures.large e)))

pub found_in_definition-returns-in_err-defined-clause-large : goal.found_in_definition-returns-in_err-defined-clause-large
found_in_definition-returns-in_err-defined-clause-large t c =
    let G = scope_forms c.args.scope.now in
    let p = reads c.args.defined.now in
    let q = reads c.args.body.now in
    let err = err_from_is_err_and c.from_residual.result c.from_residual.ensures.1 in
    rw (err.1, err.2) (λ d e. first-part G p (let_in d p q c.args.at)
    (λ m. visits (m + 1 + sizes.nodes p) (least_type G p ∷ G) q) (λ m. refl) (c.in_err-defined.ensures.large e))

pub found_in_definition-of_distinct-bound-requires : goal.found_in_definition-of_distinct-bound-requires
found_in_definition-of_distinct-bound-requires t c =
    found-once (scope_forms c.args.scope.now) (reads c.args.defined.now) c.in_ok-defined.defined c.in_ok-defined.ensures.ok

pub found_in_definition-returns-in_err-body-clause-large : goal.found_in_definition-returns-in_err-body-clause-large
found_in_definition-returns-in_err-body-clause-large t c =
    let G = scope_forms c.args.scope.now in
    let p = reads c.args.defined.now in
    let q = reads c.args.body.now in
    let hf = c.in_ok-defined.ensures.ok in
    let err = err_from_is_err_and c.from_residual-in_err-body.result c.from_residual-in_err-body.ensures.1 in
    rw (err.1, err.2) (λ d e. second-part G (least_type G p ∷ G) p q (let_in d p q c.args.at) (λ m. refl)
    (rw (scope-under, c.of_distinct-bound.ensures, hf.paths) at (c.in_err-body.ensures.large e)))

pub found_in_definition-returns-clause-ok : goal.found_in_definition-returns-clause-ok
found_in_definition-returns-clause-ok t c =
    let G = scope_forms c.args.scope.now in
    let p = reads c.args.defined.now in
    let q = reads c.args.body.now in
    let f = c.in_ok-defined.defined in
    let g = c.in_ok-body.body in
    let hf = c.in_ok-defined.ensures.ok in
    let hg = rw (scope-under, c.of_distinct-bound.ensures) at c.in_ok-body.ensures.ok in
    λ d. ok-of c.definition.result refl (λ r. let-found G d p q c.args.at f g r hf hg)
    c.definition.ensures.made c.definition.ensures.derived

pub found_in_definition-returns-clause-large : goal.found_in_definition-returns-clause-large
found_in_definition-returns-clause-large t c =
    let G = scope_forms c.args.scope.now in
    let p = reads c.args.defined.now in
    let q = reads c.args.body.now in
    let f = c.in_ok-defined.defined in
    let g = c.in_ok-body.body in
    let hf = c.in_ok-defined.ensures.ok in
    let hg = rw (scope-under, c.of_distinct-bound.ensures) at c.in_ok-body.ensures.ok in
    let inner : IsFound (least_type G p ∷ G) q g = rw hf.paths at hg in
    λ d e. two-refused G (least_type G p ∷ G) p q (let_in d p q c.args.at) f g hf inner refl (λ m. refl)
    (rw inner.paths at (c.definition.ensures.large e))

pub found_in_recursion-returns-in_err-form-in-None-clause-large : goal.found_in_recursion-returns-in_err-form-in-None-clause-large
found_in_recursion-returns-in_err-form-in-None-clause-large t c =
    let G = scope_forms c.args.scope.now in
    let T = plain_type c.args.ty.now in
    let p = reads c.args.body.now in
    let err = err_from_is_err_and c.from_residual.result c.from_residual.ensures.1 in
    rw (err.1, err.2) (λ d e. written-refused G (rec d T p c.args.at) (λ m. visits (m + 1) (paths T ∷ G) p) (λ m. refl)
    (this_form (c.in_err-form-in-None.ensures.large (too-large _ e))))

pub found_in_fixed-returns-in_err-body-clause-large : goal.found_in_fixed-returns-in_err-body-clause-large
found_in_fixed-returns-in_err-body-clause-large t c =
    let G = scope_forms c.args.scope.now in
    let T = plain_type c.args.ty.now in
    let p = reads c.args.body.now in
    let err = err_from_is_err_and c.from_residual.result c.from_residual.ensures.1 in
    rw (err.1, err.2) (λ d e. only-part G (paths T ∷ G) p (rec d T p c.args.at) (λ m. refl)
    (rw (scope-under, c.of_form-bound.ensures, c.requires.form) at (c.in_err-body.ensures.large e)))

pub found_in_fixed-returns-clause-ok : goal.found_in_fixed-returns-clause-ok
found_in_fixed-returns-clause-ok t c =
    let G = scope_forms c.args.scope.now in
    let T = plain_type c.args.ty.now in
    let p = reads c.args.body.now in
    let part = c.in_ok-body.body in
    let h = rw (scope-under, c.of_form-bound.ensures, c.requires.form) at c.in_ok-body.ensures.ok in
    λ d. ok-of c.recursion.result refl (λ r. rec-found G d T p c.args.at (plain_paths c.args.form.now.paths) part r c.requires.form c.requires.within h)
    c.recursion.ensures.made c.recursion.ensures.derived

pub found_in_fixed-returns-clause-large : goal.found_in_fixed-returns-clause-large
found_in_fixed-returns-clause-large t c =
    let G = scope_forms c.args.scope.now in
    let T = plain_type c.args.ty.now in
    let p = reads c.args.body.now in
    let part = c.in_ok-body.body in
    let h = rw (scope-under, c.of_form-bound.ensures, c.requires.form) at c.in_ok-body.ensures.ok in
    λ d e. one-refused G (paths T ∷ G) p (rec d T p c.args.at) part h refl (λ m. refl)
    (rw (h.paths, c.requires.form) at (c.recursion.ensures.large e))

pub found_in_sequence-returns-in_err-first-clause-large : goal.found_in_sequence-returns-in_err-first-clause-large
found_in_sequence-returns-in_err-first-clause-large = commands.found_in_sequence-returns-in_err-first-clause-large

pub found_in_sequence-returns-in_err-second-clause-large : goal.found_in_sequence-returns-in_err-second-clause-large
found_in_sequence-returns-in_err-second-clause-large = commands.found_in_sequence-returns-in_err-second-clause-large

pub found_in_sequence-returns-clause-ok : goal.found_in_sequence-returns-clause-ok
found_in_sequence-returns-clause-ok = commands.found_in_sequence-returns-clause-ok

pub found_in_sequence-returns-clause-large : goal.found_in_sequence-returns-clause-large
found_in_sequence-returns-clause-large = commands.found_in_sequence-returns-clause-large

pub found_in_assignment-returns-in_err-acceptor-clause-large : goal.found_in_assignment-returns-in_err-acceptor-clause-large
found_in_assignment-returns-in_err-acceptor-clause-large = commands.found_in_assignment-returns-in_err-acceptor-clause-large

pub found_in_assignment-returns-in_err-value-clause-large : goal.found_in_assignment-returns-in_err-value-clause-large
found_in_assignment-returns-in_err-value-clause-large = commands.found_in_assignment-returns-in_err-value-clause-large

pub found_in_assignment-returns-clause-ok : goal.found_in_assignment-returns-clause-ok
found_in_assignment-returns-clause-ok = commands.found_in_assignment-returns-clause-ok

pub found_in_assignment-returns-clause-large : goal.found_in_assignment-returns-clause-large
found_in_assignment-returns-clause-large = commands.found_in_assignment-returns-clause-large

pub found_in_loop-returns-in_err-test-clause-large : goal.found_in_loop-returns-in_err-test-clause-large
found_in_loop-returns-in_err-test-clause-large = commands.found_in_loop-returns-in_err-test-clause-large

pub found_in_loop-returns-in_err-body-clause-large : goal.found_in_loop-returns-in_err-body-clause-large
found_in_loop-returns-in_err-body-clause-large = commands.found_in_loop-returns-in_err-body-clause-large

pub found_in_loop-returns-clause-ok : goal.found_in_loop-returns-clause-ok
found_in_loop-returns-clause-ok = commands.found_in_loop-returns-clause-ok

pub found_in_loop-returns-clause-large : goal.found_in_loop-returns-clause-large
found_in_loop-returns-clause-large = commands.found_in_loop-returns-clause-large

pub found_in_endless_loop-returns-in_err-body-clause-large : goal.found_in_endless_loop-returns-in_err-body-clause-large
found_in_endless_loop-returns-in_err-body-clause-large = commands.found_in_endless_loop-returns-in_err-body-clause-large

pub found_in_endless_loop-returns-clause-ok : goal.found_in_endless_loop-returns-clause-ok
found_in_endless_loop-returns-clause-ok = commands.found_in_endless_loop-returns-clause-ok

pub found_in_endless_loop-returns-clause-large : goal.found_in_endless_loop-returns-clause-large
found_in_endless_loop-returns-clause-large = commands.found_in_endless_loop-returns-clause-large

pub found_in_cell-returns-in_err-first-clause-large : goal.found_in_cell-returns-in_err-first-clause-large
found_in_cell-returns-in_err-first-clause-large = commands.found_in_cell-returns-in_err-first-clause-large

pub found_in_cell-returns-in_err-body-clause-large : goal.found_in_cell-returns-in_err-body-clause-large
found_in_cell-returns-in_err-body-clause-large = commands.found_in_cell-returns-in_err-body-clause-large

pub found_in_cell-returns-clause-ok : goal.found_in_cell-returns-clause-ok
found_in_cell-returns-clause-ok = commands.found_in_cell-returns-clause-ok

pub found_in_cell-returns-clause-large : goal.found_in_cell-returns-clause-large
found_in_cell-returns-clause-large = commands.found_in_cell-returns-clause-large

pub found_in_cells-returns-in_err-count-clause-large : goal.found_in_cells-returns-in_err-count-clause-large
found_in_cells-returns-in_err-count-clause-large = commands.found_in_cells-returns-in_err-count-clause-large

pub found_in_cells-returns-in_err-body-clause-large : goal.found_in_cells-returns-in_err-body-clause-large
found_in_cells-returns-in_err-body-clause-large = commands.found_in_cells-returns-in_err-body-clause-large

pub found_in_cells-returns-clause-ok : goal.found_in_cells-returns-clause-ok
found_in_cells-returns-clause-ok = commands.found_in_cells-returns-clause-ok

pub found_in_cells-returns-clause-large : goal.found_in_cells-returns-clause-large
found_in_cells-returns-clause-large = commands.found_in_cells-returns-clause-large

pub found_in_escape-returns-in_err-body-clause-large : goal.found_in_escape-returns-in_err-body-clause-large
found_in_escape-returns-in_err-body-clause-large = commands.found_in_escape-returns-in_err-body-clause-large

pub found_in_escape-returns-clause-ok : goal.found_in_escape-returns-clause-ok
found_in_escape-returns-clause-ok = commands.found_in_escape-returns-clause-ok

pub found_in_escape-returns-clause-large : goal.found_in_escape-returns-clause-large
found_in_escape-returns-clause-large = commands.found_in_escape-returns-clause-large

pub found_in_acceptor-returns-in_err-body-clause-large : goal.found_in_acceptor-returns-in_err-body-clause-large
found_in_acceptor-returns-in_err-body-clause-large = commands.found_in_acceptor-returns-in_err-body-clause-large

pub found_in_acceptor-returns-clause-ok : goal.found_in_acceptor-returns-clause-ok
found_in_acceptor-returns-clause-ok = commands.found_in_acceptor-returns-clause-ok

pub found_in_acceptor-returns-clause-large : goal.found_in_acceptor-returns-clause-large
found_in_acceptor-returns-clause-large = commands.found_in_acceptor-returns-clause-large

pub found_in_output-returns-in_err-part-clause-large : goal.found_in_output-returns-in_err-part-clause-large
found_in_output-returns-in_err-part-clause-large = commands.found_in_output-returns-in_err-part-clause-large

pub found_in_output-returns-clause-ok : goal.found_in_output-returns-clause-ok
found_in_output-returns-clause-ok = commands.found_in_output-returns-clause-ok

pub found_in_output-returns-clause-large : goal.found_in_output-returns-clause-large
found_in_output-returns-clause-large = commands.found_in_output-returns-clause-large

pub found_in_input-returns-in_err-part-clause-large : goal.found_in_input-returns-in_err-part-clause-large
found_in_input-returns-in_err-part-clause-large = commands.found_in_input-returns-in_err-part-clause-large

pub found_in_input-returns-clause-ok : goal.found_in_input-returns-clause-ok
found_in_input-returns-clause-ok = commands.found_in_input-returns-clause-ok

pub found_in_input-returns-clause-large : goal.found_in_input-returns-clause-large
found_in_input-returns-clause-large = commands.found_in_input-returns-clause-large

pub found_in_each-loop-part-init : goal.found_in_each-loop-part-init
found_in_each-loop-part-init t c = subst (AreFound (scope_forms c.args.scope.now) no_trees) (sym c.new-made.ensures.items) no_parts

pub found_under-loop-ty-init : goal.found_under-loop-ty-init
found_under-loop-ty-init t c =
    subst (AreFoundUnder (scope_forms c.args.scope.now) (reads c.args.body.now) no_types) (sym c.new-made.ensures.items) no_alternatives

pub found_in_each-loop-part-preserved : goal.found_in_each-loop-part-preserved
found_in_each-loop-part-preserved t c =
    part-more (scope_forms c.args.scope.now) c.as_slice-part-items.result.now c.loop-part.part-index c.part-item.result c.loop-part.made.items _
    c.in_ok-found_in.field-0 c.loop-part-test.true c.part-item.is c.in_ok-push.ensures.items c.loop-part.invariant c.in_ok-found_in.ensures.ok

pub found_in_each-returns-clause-ok : goal.found_in_each-returns-clause-ok
found_in_each-returns-clause-ok t c =
    parts-all (scope_forms c.args.scope.now) c.as_slice-part-items.result.now (reads_parts c.args.parts.now) c.loop-part.part-index
    c.loop-part.made.items
    c.as_slice-part-items.ensures.reading c.loop-part-test.false c.loop-part.invariant

pub found_in_each-returns-in_err-found_in-clause-large : goal.found_in_each-returns-in_err-found_in-clause-large
found_in_each-returns-in_err-found_in-clause-large t c =
    let p = err_from_is_err_and c.from_residual.result c.from_residual.ensures.1 in
    rw (p.1, p.2) (λ e. rw c.as_slice-part-items.ensures.reading
    (part-refused (scope_forms c.args.scope.now) c.as_slice-part-items.result.now c.loop-part.part-index c.part-item.result
    c.loop-part-test.true c.part-item.is (c.in_err-found_in.ensures.large (turned _ _ e))))

pub found_under-loop-ty-preserved : goal.found_under-loop-ty-preserved
found_under-loop-ty-preserved t c =
    alternative-more (scope_forms c.args.scope.now) (reads c.args.body.now) c.args.alternatives.now c.loop-ty.ty-index c.ty-item.result
    c.loop-ty.made.items _ c.in_ok-found_with.field-0 c.loop-ty-test.true c.ty-item.is c.in_ok-push.ensures.items c.loop-ty.invariant
    c.in_ok-found_with.ensures.within c.in_ok-found_with.ensures.ok

pub found_under-returns-clause-ok : goal.found_under-returns-clause-ok
found_under-returns-clause-ok t c =
    alternatives-all (scope_forms c.args.scope.now) (reads c.args.body.now) c.args.alternatives.now c.loop-ty.ty-index c.loop-ty.made.items
    c.loop-ty-test.false c.loop-ty.invariant

pub found_under-returns-in_err-found_with-clause-large : goal.found_under-returns-in_err-found_with-clause-large
found_under-returns-in_err-found_with-clause-large t c =
    let p = err_from_is_err_and c.from_residual.result c.from_residual.ensures.1 in
    rw (p.1, p.2) (λ e. alternative-passes (scope_forms c.args.scope.now) (reads c.args.body.now) c.args.alternatives.now
    c.loop-ty.ty-index c.ty-item.result c.loop-ty-test.true c.ty-item.is (c.in_err-found_with.ensures.large (turned _ _ e)))
