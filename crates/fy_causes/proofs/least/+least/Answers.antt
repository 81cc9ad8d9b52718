use Rattle.std.proofs.Common.{◌<◌, ◌≤◌, ◌≡◌, List, [], ◌∷◌, length, map, sym, ap, ◌∙◌, subst, arith}
use Rattle.std.specs.Prelude.{IfOk}
use Rattle.fy_types.specs.declared.types.Atom.TheVariants.{Int}
use Rattle.fy_types.specs.Paths.{PlainPaths, paths}
use Rattle.fy_types.specs.Once.{once}
use Rattle.fy_types.specs.Reading.{plain_paths, plain_type, plain_types}
use Rattle.fy_phrase.specs.Reads.{reads, reads_parts}
use Rattle.fy_derive.specs.Clear.{has_none}
use Rattle.fy_derive.specs.Least.{alternatives_of, has, if_passed, least_type}
use Rattle.fy_derive.proofs.FormLemmas.{Case-tree, Lam-tree}
use Rattle.fy_causes.specs.Occurrences.{Variable, bound_by, each_occurs, forms_around, least_in, occurs}
use Rattle.fy_causes.specs.Blamed.{blamed}
use Rattle.fy_causes.specs.Readings.{around_read, blame_from, first_under, found_at, found_read, joined, occurrence_read}
use Rattle.fy_causes.proofs.ArmLemmas.{case_blamed, case_least}
use Rattle.fy_causes.proofs.BodyLemmas.{alternatives-all, new-none, under-first}
use Rattle.fy_causes.proofs.EmptyLemmas.{called-none}
use Rattle.fy_causes.proofs.LoopLemmas.{alternative-met, both-found, pushed-all, pushed-more}
use Rattle.fy_causes.proofs.least.+least.Goals as goal

pub found_in-returns-in-Case-clause-least : goal.found_in-returns-in-Case-clause-least
found_in-returns-in-Case-clause-least t c =
    let G = around_read c.args.around.now.value in
    let ps = reads_parts c.in-Case.parts in
    let shape = Case-tree c.args.p.now c.in-Case.index c.in-Case.parts c.in-Case.field-2 c.in-Case.is in
    subst (λ P. IfOk c.found_in_case.result (λ f. plain_paths f.paths ≡ P))
    (ap (λ q. if_passed (has (least_in G (reads q)) Int) (joined (map found_at (each_occurs G ps)))) c.deref-in-Case.ensures
    ∙ sym (ap (least_in G) shape ∙ case_least G (reads c.in-Case.index.value) ps c.in-Case.field-2)) c.found_in_case.ensures.least

pub found_in-returns-in-Case-clause-blamed : goal.found_in-returns-in-Case-clause-blamed
found_in-returns-in-Case-clause-blamed t c =
    let G = around_read c.args.around.now.value in
    let e = reads c.in-Case.index.value in
    let ps = reads_parts c.in-Case.parts in
    let shape = Case-tree c.args.p.now c.in-Case.index c.in-Case.parts c.in-Case.field-2 c.in-Case.is in
    subst (λ o. IfOk c.found_in_case.result (λ f. occurrence_read f.blamed ≡ o))
    (ap (λ q. blame_from (found_at (occurs G (reads q)) ∷ map found_at (each_occurs G ps)) (occurs G (reads c.args.p.now))) c.deref-in-Case.ensures
    ∙ (ap (λ x. blame_from (found_at (occurs G e) ∷ map found_at (each_occurs G ps)) (occurs G x)) shape
    ∙ sym (ap (blamed G) shape ∙ case_blamed G e ps c.in-Case.field-2))) c.found_in_case.ensures.blamed

pub found_in-returns-in-Lam-clause-least : goal.found_in-returns-in-Lam-clause-least
found_in-returns-in-Lam-clause-least t c =
    let G = around_read c.args.around.now.value in
    let shape = Lam-tree c.args.p.now c.in-Lam.field-0 c.in-Lam.types c.in-Lam.body c.in-Lam.field-3 c.in-Lam.is in
    subst (λ P. IfOk c.found_in_abstraction.result (λ f. plain_paths f.paths ≡ P))
    (ap (λ q. once (alternatives_of (plain_types c.in-Lam.types) (λ D. least_type (D ∷ forms_around G) (reads q)))) c.deref-in-Lam.ensures
    ∙ sym (ap (least_in G) shape)) c.found_in_abstraction.ensures.least

pub found_with-returns-then-is_hollow-clause-called : goal.found_with-returns-then-is_hollow-clause-called
found_with-returns-then-is_hollow-clause-called t c =
    let D = paths (plain_type c.args.ty.now) in
    let b = reads c.args.body.now in
    let same = c.in_ok-found.ensures.least ∙ ap (λ (G : List Variable). least_in G b) c.in_ok-inside.ensures in
    c.no_path.ensures
    ∙ called-none D (least_in (bound_by (reads c.args.p.now) D ∷ around_read c.args.around.now.value) b)
    (sym (c.is_hollow.ensures ∙ ap has_none same) ∙ c.if-is_hollow.true)

pub found_in_each-loop-part-preserved : goal.found_in_each-loop-part-preserved
found_in_each-loop-part-preserved t c =
    let G = around_read c.args.around.now.value in
    let f = c.in_ok-found_in.field-0 in
    pushed-more found_read found_at G c.as_slice-part-items.result.now c.loop-part.part-index c.part-item.result c.loop-part.made.items _ f
    c.loop-part-test.true c.part-item.is c.in_ok-push.ensures.items [] c.loop-part.invariant
    (both-found f (occurs G (reads c.part-item.result)) c.in_ok-found_in.ensures.least c.in_ok-found_in.ensures.blamed)

pub found_in_each-returns : goal.found_in_each-returns
found_in_each-returns t c =
    c.loop-part.invariant
    ∙ pushed-all found_at (around_read c.args.around.now.value) c.as_slice-part-items.result.now (reads_parts c.args.parts.now) c.loop-part.part-index
    c.as_slice-part-items.ensures.reading c.loop-part-test.false

pub found_in_abstraction-loop-i-init : goal.found_in_abstraction-loop-i-init
found_in_abstraction-loop-i-init t c =
    let xs = c.as_slice-types.result.now in
    let f : PlainPaths → PlainPaths = λ D. least_type (D ∷ forms_around (around_read c.args.around.now.value)) (reads c.args.body.now) in
    let within : 0 < length xs = omega arith in
    c.in_ok-paths.ensures.ok
    ∙ alternative-met xs 0 c.index-types-0.result f (plain_paths c.new.result) (plain_paths c.in_ok-called.called) within c.index-types-0.is
    (new-none c.new.result c.new.ensures) c.in_ok-called.ensures.called

pub found_in_abstraction-loop-i-preserved : goal.found_in_abstraction-loop-i-preserved
found_in_abstraction-loop-i-preserved t c =
    let f : PlainPaths → PlainPaths = λ D. least_type (D ∷ forms_around (around_read c.args.around.now.value)) (reads c.args.body.now) in
    c.in_ok-paths-2.ensures.ok
    ∙ alternative-met c.as_slice-types.result.now c.loop-i.i c.index-types-i.result f (plain_paths c.loop-i.paths)
    (plain_paths c.in_ok-called-2.called) c.loop-i-test.true c.index-types-i.is c.loop-i.invariant c.in_ok-called-2.ensures.called

pub found_in_abstraction-returns-clause-least : goal.found_in_abstraction-returns-clause-least
found_in_abstraction-returns-clause-least t c =
    let xs = c.as_slice-types.result.now in
    let f : PlainPaths → PlainPaths = λ D. least_type (D ∷ forms_around (around_read c.args.around.now.value)) (reads c.args.body.now) in
    let past : length xs ≤ c.loop-i.i = omega arith in
    ap plain_paths c.in_ok-of_one.ensures.paths
    ∙ (c.loop-i.invariant ∙ alternatives-all xs c.loop-i.i (plain_types c.args.types.now) f c.as_slice-types.ensures.reading past)

pub found_in_abstraction-returns-clause-blamed : goal.found_in_abstraction-returns-clause-blamed
found_in_abstraction-returns-clause-blamed t c =
    let G = around_read c.args.around.now.value in
    let p = reads c.args.p.now in
    let b = reads c.args.body.now in
    let xs = c.as_slice-types.result.now in
    let within : 0 < length xs = omega arith in
    c.in_ok-of_one.ensures.blamed
    ∙ (ap (λ x. blame_from (x ∷ []) (occurs G p)) c.in_ok-called.ensures.found
    ∙ sym (ap (λ As. blame_from (map found_at (first_under G p As b)) (occurs G p)) c.as_slice-types.ensures.reading
    ∙ ap (λ us. blame_from (map found_at us) (occurs G p)) (under-first G p xs c.index-types-0.result b within c.index-types-0.is)))
