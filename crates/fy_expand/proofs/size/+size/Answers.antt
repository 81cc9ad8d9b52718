use Rattle.std.proofs.Common.{◌≡◌, ◌+◌, [], ◌∷◌, ◌++◌, length, map, drop, sym, ap, ◌∙◌, append_assoc, arith, rules}
use Rattle.fy_syntax.specs.Trees as written
use Rattle.fy_syntax.specs.declared.surface.Surface.{the_lemmas}
use Rattle.fy_syntax.specs.declared.surface.Def.{out-Def}
use Rattle.fy_syntax.specs.Reading.{decl_tree, def_of, defs_of, defs_from, links_of, tree_of, trees_of}
use Rattle.fy_expand.specs.declared.frame.Frame.TheViews as view
use Rattle.fy_expand.specs.Scope.{behind, under_defs, under_members}
use Rattle.fy_expand.specs.Core.{core, declared, meet_of, parts_of, trees_count}
use Rattle.fy_expand.specs.Measures.{measure, type_measure, over, under_nodes, with_nodes, grouped, grouped_all, halved, nested, all_beside, indexed_measure, text_measure, trees_measures, links_measures, fields_measures, defs_measures}
use Rattle.fy_expand.specs.Frames.{behind_all, scope_of}
use Rattle.fy_expand.proofs.ScopeLemmas.{scope_of-Defs, scope_of-Members, scope_of-Hidden, AreSized-Hidden}
use Rattle.fy_expand.proofs.MeasureLemmas.{measure-merged_all, measure-sequence, measure-lets, measure-linked, measure-applied, measure-prefixed, measure-selected, measure-seq_of, measure-string}
use Rattle.fy_expand.proofs.MeasureForms.{measure-letrec, defs_measures-more}
use Rattle.fy_expand.proofs.size.+size.Goals as goal

pub phrase_size-returns-in_ok-sizes-in-Merge : goal.phrase_size-returns-in_ok-sizes-in-Merge
phrase_size-returns-in_ok-sizes-in-Merge t c =
    let s = scope_of c.args.frame.now in
    let members = trees_of c.in-Merge.members in
    let read : tree_of c.args.tree.now ≡ written.Tree.merge members c.in-Merge.field-1 = search (rules, the_lemmas) in
    c.grouped_all.ensures
    ∙ ap grouped_all (c.deref.ensures.value ∙ c.in_ok-sizes-in-Merge.ensures)
    ∙ sym (ap (λ p. measure (core s p)) read ∙ measure-merged_all s c.in-Merge.field-1 members)

pub phrase_size-returns-in_ok-sizes-in-Sequence : goal.phrase_size-returns-in_ok-sizes-in-Sequence
phrase_size-returns-in_ok-sizes-in-Sequence t c =
    let s = scope_of c.args.frame.now in
    let items = trees_of c.in-Sequence.items in
    let read : tree_of c.args.tree.now ≡ written.Tree.sequence items c.in-Sequence.field-1 = search (rules, the_lemmas) in
    c.halved.ensures
    ∙ ap halved (c.deref-in-Sequence.ensures.value ∙ c.in_ok-sizes-in-Sequence.ensures)
    ∙ sym (ap (λ p. measure (core s p)) read ∙ measure-sequence s c.in-Sequence.field-1 items)

pub phrase_size-returns-in_ok-sizes-in-Let : goal.phrase_size-returns-in_ok-sizes-in-Let
phrase_size-returns-in_ok-sizes-in-Let t c =
    let s = scope_of c.args.frame.now in
    let defs = defs_of c.in-Let.defs in
    let inner = under_defs defs s in
    let read : tree_of c.args.tree.now ≡ written.Tree.let_in defs (tree_of c.in-Let.body.value) c.in-Let.field-2 = search (rules, the_lemmas) in
    let scope : scope_of (view.Defs c.as_slice.result c.args.frame) ≡ inner = scope_of-Defs c.as_slice.result c.args.frame ∙ ap (λ d. under_defs d s) (sym c.as_slice.ensures.reading) in
    let body : c.in_ok-body-in-Let.body ≡ measure (core inner (tree_of c.in-Let.body.value)) =
    c.in_ok-body-in-Let.ensures ∙ ap (λ i. measure (core i (tree_of c.deref-in-Let.result.now))) scope ∙ ap (λ p. measure (core inner (tree_of p))) c.deref-in-Let.ensures in
    c.nested.ensures
    ∙ ap (λ sizes. nested sizes c.in_ok-body-in-Let.body) (c.deref-in-Let-2.ensures.value ∙ c.in_ok-sizes-in-Let.ensures)
    ∙ ap (nested (defs_measures s defs)) body
    ∙ sym (ap (λ p. measure (core s p)) read ∙ measure-lets s c.in-Let.field-2 defs (core inner (tree_of c.in-Let.body.value)))

pub phrase_size-returns-in_ok-body-in-Letrec : goal.phrase_size-returns-in_ok-body-in-Letrec
phrase_size-returns-in_ok-body-in-Letrec t c =
    let s = scope_of c.args.frame.now in
    let decls = map decl_tree c.in-Letrec.decls in
    let defs = defs_of c.in-Letrec.defs in
    let inner = under_members decls s in
    let type = meet_of (declared s.types decls) in
    let read : tree_of c.args.tree.now ≡ written.Tree.letrec decls defs c.in-Letrec.field-2 (tree_of c.in-Letrec.body.value) c.in-Letrec.field-4 = search (rules, the_lemmas) in
    let scope : scope_of (view.Members c.as_slice-in-Letrec.result c.args.frame) ≡ inner =
    scope_of-Members c.as_slice-in-Letrec.result c.args.frame ∙ ap (λ ds. under_members (map decl_tree ds) s) c.as_slice-in-Letrec.ensures in
    let nodes : c.declared_size-types.result ≡ type_measure type =
    c.declared_size-types.ensures ∙ ap (λ ds. type_measure (meet_of (declared s.types (map decl_tree ds)))) c.as_slice-in-Letrec-2.ensures in
    let all : c.grouped_all-in-Letrec.result ≡ grouped_all (fields_measures inner defs) =
    c.grouped_all-in-Letrec.ensures ∙ ap grouped_all (c.deref-in-Letrec.ensures.value ∙ c.in_ok-sizes-in-Letrec.ensures ∙ ap (λ i. fields_measures i defs) scope) in
    let fixed : c.with_nodes-fixed.result ≡ with_nodes (type_measure type).nodes (under_nodes 1 (grouped_all (fields_measures inner defs))) =
    c.with_nodes-fixed.ensures
    ∙ ap (with_nodes c.declared_size-types.result.nodes) (c.under-in-Letrec.ensures ∙ ap (under_nodes 1) all)
    ∙ ap (λ m. with_nodes m.nodes (under_nodes 1 (grouped_all (fields_measures inner defs)))) nodes in
    let body : c.in_ok-body-in-Letrec.body ≡ measure (core inner (tree_of c.in-Letrec.body.value)) =
    c.in_ok-body-in-Letrec.ensures ∙ ap (λ i. measure (core i (tree_of c.deref-in-Letrec-2.result.now))) scope ∙ ap (λ p. measure (core inner (tree_of p))) c.deref-in-Letrec-2.ensures in
    c.over.ensures
    ∙ ap (λ m. over m c.in_ok-body-in-Letrec.body) fixed
    ∙ ap (over (with_nodes (type_measure type).nodes (under_nodes 1 (grouped_all (fields_measures inner defs))))) body
    ∙ sym (ap (λ p. measure (core s p)) read ∙ measure-letrec s decls defs c.in-Letrec.field-2 (tree_of c.in-Letrec.body.value) c.in-Letrec.field-4)

pub phrase_size-returns-in_ok-sizes-in-Chain : goal.phrase_size-returns-in_ok-sizes-in-Chain
phrase_size-returns-in_ok-sizes-in-Chain t c =
    let s = scope_of c.args.frame.now in
    let first = tree_of c.in-Chain.first.value in
    let links = links_of c.in-Chain.links in
    let read : tree_of c.args.tree.now ≡ written.Tree.chain first links c.in-Chain.field-2 = search (rules, the_lemmas) in
    c.grouped.ensures
    ∙ ap (grouped c.in_ok-first-in-Chain.first) (c.deref-in-Chain-2.ensures.value ∙ c.in_ok-sizes-in-Chain.ensures)
    ∙ ap (λ m. grouped m (links_measures s links)) (c.in_ok-first-in-Chain.ensures ∙ ap (λ p. measure (core s (tree_of p))) c.deref-in-Chain.ensures)
    ∙ sym (ap (λ p. measure (core s p)) read ∙ measure-linked s (core s first) links)

pub phrase_size-returns-in_ok-sizes-in-Apply : goal.phrase_size-returns-in_ok-sizes-in-Apply
phrase_size-returns-in_ok-sizes-in-Apply t c =
    let s = scope_of c.args.frame.now in
    let first = tree_of c.in-Apply.first.value in
    let arguments = trees_of c.in-Apply.arguments in
    let read : tree_of c.args.tree.now ≡ written.Tree.apply first arguments c.in-Apply.field-2 = search (rules, the_lemmas) in
    c.grouped-in-Apply.ensures
    ∙ ap (grouped c.in_ok-first-in-Apply.first) (c.deref-in-Apply-2.ensures.value ∙ c.in_ok-sizes-in-Apply.ensures)
    ∙ ap (λ m. grouped m (trees_measures s arguments)) (c.in_ok-first-in-Apply.ensures ∙ ap (λ p. measure (core s (tree_of p))) c.deref-in-Apply.ensures)
    ∙ sym (ap (λ p. measure (core s p)) read ∙ measure-applied s c.in-Apply.field-2 (core s first) arguments)

pub phrase_size-returns-in_ok-part-in-Prefix : goal.phrase_size-returns-in_ok-part-in-Prefix
phrase_size-returns-in_ok-part-in-Prefix t c =
    let s = scope_of c.args.frame.now in
    let part = tree_of c.in-Prefix.part.value in
    let read : tree_of c.args.tree.now ≡ written.Tree.prefixed c.in-Prefix.operators part c.in-Prefix.field-2 = search (rules, the_lemmas) in
    c.under-in-Prefix.ensures
    ∙ ap (λ n. under_nodes n c.in_ok-part-in-Prefix.part) c.len.ensures
    ∙ ap (under_nodes (length c.in-Prefix.operators)) (c.in_ok-part-in-Prefix.ensures ∙ ap (λ p. measure (core s (tree_of p))) c.deref-in-Prefix.ensures)
    ∙ sym (ap (λ p. measure (core s p)) read ∙ measure-prefixed c.in-Prefix.operators (core s part))

pub phrase_size-returns-in_ok-part-in-Select : goal.phrase_size-returns-in_ok-part-in-Select
phrase_size-returns-in_ok-part-in-Select t c =
    let s = scope_of c.args.frame.now in
    let part = tree_of c.in-Select.part.value in
    let read : tree_of c.args.tree.now ≡ written.Tree.select part c.in-Select.names c.in-Select.field-2 = search (rules, the_lemmas) in
    c.under-in-Select.ensures
    ∙ ap (λ n. under_nodes n c.in_ok-part-in-Select.part) c.len-in-Select.ensures
    ∙ ap (under_nodes (length c.in-Select.names)) (c.in_ok-part-in-Select.ensures ∙ ap (λ p. measure (core s (tree_of p))) c.deref-in-Select.ensures)
    ∙ sym (ap (λ p. measure (core s p)) read ∙ measure-selected c.in-Select.field-2 c.in-Select.names (core s part))

pub phrase_size-returns-in_ok-sizes-in-SeqOf : goal.phrase_size-returns-in_ok-sizes-in-SeqOf
phrase_size-returns-in_ok-sizes-in-SeqOf t c =
    let s = scope_of c.args.frame.now in
    let parts = trees_of c.in-SeqOf.parts in
    let read : tree_of c.args.tree.now ≡ written.Tree.seq_of parts c.in-SeqOf.field-1 = search (rules, the_lemmas) in
    let scope : scope_of (view.Hidden 1 c.args.frame) ≡ behind s = scope_of-Hidden 1 c.args.frame in
    c.indexed_size.ensures
    ∙ ap indexed_measure (c.all_beside.ensures ∙ ap all_beside (c.deref-in-SeqOf.ensures.value ∙ c.in_ok-sizes-in-SeqOf.ensures ∙ ap (λ i. trees_measures i parts) scope))
    ∙ sym (ap (λ p. measure (core s p)) read ∙ measure-seq_of (behind s) s.depth c.in-SeqOf.field-1 (trees_count (parts_of (behind s) parts)) parts)

pub phrase_size-returns-in-Str : goal.phrase_size-returns-in-Str
phrase_size-returns-in-Str t c =
    let s = scope_of c.args.frame.now in
    let read : tree_of c.args.tree.now ≡ written.Tree.string c.in-Str.bytes c.in-Str.field-1 = search (rules, the_lemmas) in
    c.indexed_size-in-Str.ensures
    ∙ ap indexed_measure (c.text_size.ensures ∙ ap text_measure c.len-in-Str.ensures)
    ∙ sym (ap (λ p. measure (core s p)) read ∙ measure-string s.depth c.in-Str.field-1 c.in-Str.bytes)

pub sizes_of_defs-phrase_size-requires : goal.sizes_of_defs-phrase_size-requires
sizes_of_defs-phrase_size-requires t c = (search (rules, the_lemmas), AreSized-Hidden c.loop-i.i c.args.frame c.requires)

pub sizes_of_defs-loop-i-preserved : goal.sizes_of_defs-loop-i-preserved
sizes_of_defs-loop-i-preserved t c =
    let s = scope_of c.args.frame.now in
    let i = c.loop-i.i in
    let defs = c.as_slice-def-items.result.now in
    let before = c.loop-i.sizes.items in
    let part = tree_of (out-Def c.def-item.result).body in
    let rest = defs_measures (behind_all (i + 1) s) (defs_from (map def_of (drop (i + 1) defs))) in
    let made : c.in_ok-phrase_size.field-0 ≡ measure (core (behind_all i s) part) = c.in_ok-phrase_size.ensures ∙ ap (λ k. measure (core k part)) (scope_of-Hidden i c.args.frame) in
    ap (λ sizes. sizes ++ rest) c.in_ok-push.ensures.items
    ∙ append_assoc before (c.in_ok-phrase_size.field-0 ∷ []) rest
    ∙ ap (λ m. before ++ m ∷ rest) made
    ∙ ap (λ sizes. before ++ sizes) (sym (defs_measures-more s defs i (i + 1) c.def-item.result (omega arith) c.loop-i-test.true c.def-item.is))
    ∙ c.loop-i.invariant
