use Rattle.std.proofs.Common.{◌≡◌, ◌+◌, ◌-◌, ◌≤◌, [], ◌∷◌, ◌++◌, map, get_or, take, drop, sym, ap, ap₂, ◌∙◌, subst, arith, rules}
use Rattle.std.specs.Result.{IfOk}
use Rattle.std.proofs.lemmas.List.{take_all}
use Rattle.fy_base.specs.declared.data.Place.{Place}
use Rattle.fy_syntax.specs.declared.surface.Surface.{the_lemmas}
use Rattle.fy_syntax.specs.declared.surface.Link.{out-Link}
use Rattle.fy_syntax.specs.declared.surface.Def.{out-Def}
use Rattle.fy_syntax.specs.Trees as written
use Rattle.fy_syntax.specs.Reading.{tree_of, trees_of, trees_from, def_of, defs_of, defs_from, link_of, links_of, links_from}
use Rattle.fy_phrase.specs.declared.phrase.Phrase.{the_lemmas as phrase_lemmas}
use Rattle.fy_phrase.specs.declared.phrase.Phrase.TheViews as phrase
use Rattle.fy_phrase.specs.Tree.{Tree, app, binary, field, let_in}
use Rattle.fy_phrase.specs.Sizes.{greatest_u32}
use Rattle.fy_phrase.specs.Reads.{reads}
use Rattle.fy_expand.specs.Scope.{Scope, under_defs}
use Rattle.fy_expand.specs.Front.{front}
use Rattle.fy_expand.specs.Core.{Item, core, linked, applied, merged_all, all_fields, lets, items_of, parts_of}
use Rattle.fy_expand.specs.Frames.{scope_of, behind_all}
use Rattle.fy_expand.specs.declared.frame.Frame.TheViews as view
use Rattle.fy_expand.specs.Built.{IsShallow, item_of, items_nesting, with_field}
use Rattle.fy_phrase.specs.Sizes.{all_nesting}
use Rattle.fy_expand.proofs.ScopeLemmas.{scope_of-Defs, scope_of-Hidden}
use Rattle.fy_expand.proofs.ShallowLemmas.{shallow-sequence, shallow-let, shallow-linked, shallow-applied, shallow-prefixed, shallow-selected}
use Rattle.fy_expand.proofs.LoopLemmas.{shallow-link, shallow-argument, shallow-member, shallow-field, shallow-item, shallow-part, shallow-def, lets-more, linked-more, applied-more, fields-more, items_of-more, items-pushed, shallow-depth}
use Rattle.fy_expand.proofs.PartLemmas.{seq-built, reads-parts}
use Rattle.fy_expand.proofs.build.+build.Goals as goal

pub build-build_items-requires : goal.build-build_items-requires
build-build_items-requires t c =
    let s = scope_of c.args.frame.now in
    let items = c.in-Sequence.items in
    let read : tree_of c.args.tree.now ≡ written.Tree.sequence (trees_of items) c.in-Sequence.at = search (rules, the_lemmas) in
    (search (rules, the_lemmas), shallow-sequence s c.in-Sequence.at (items_of s (trees_of items)) (subst (λ q. IsShallow s (core s q)) read c.requires))

pub build-build-requires : goal.build-build-requires
build-build-requires t c =
    let s = scope_of c.args.frame.now in
    let defs = defs_of c.in-Let.defs in
    let read : tree_of c.args.tree.now ≡ written.Tree.let_in defs (tree_of c.in-Let.body.value) c.in-Let.at = search (rules, the_lemmas) in
    let here : c.deref-in-Let.result.now ≡ c.in-Let.body.value = search rules in
    let scope = ap (λ d. under_defs d s) c.as_slice.ensures.reading ∙ sym (scope_of-Defs c.as_slice.result c.args.frame) in
    let small = shallow-let s c.in-Let.at defs (tree_of c.in-Let.body.value) (subst (λ q. IsShallow s (core s q)) read c.requires) in
    let inner = scope_of (view.Defs c.as_slice.result c.args.frame) in
    let there = subst (λ (u : Scope). IsShallow u (core u (tree_of c.in-Let.body.value))) scope small in
    (search (rules, the_lemmas), subst (λ p. IsShallow inner (core inner (tree_of p))) (sym here) there)

pub build-build-requires-in-Chain : goal.build-build-requires-in-Chain
build-build-requires-in-Chain t c =
    let s = scope_of c.args.frame.now in
    let first = c.in-Chain.first.value in
    let read : tree_of c.args.tree.now ≡ written.Tree.chain (tree_of first) (links_of c.in-Chain.links) c.in-Chain.field-2 = search (rules, the_lemmas) in
    let here : c.deref-in-Chain.result.now ≡ first = search rules in
    (search (rules, the_lemmas), subst (λ p. IsShallow s (core s (tree_of p))) (sym here) (shallow-linked s (core s (tree_of first)) (links_of c.in-Chain.links) (subst (λ q. IsShallow s (core s q)) read c.requires)))

pub build-build-requires-in-Apply : goal.build-build-requires-in-Apply
build-build-requires-in-Apply t c =
    let s = scope_of c.args.frame.now in
    let first = c.in-Apply.first.value in
    let read : tree_of c.args.tree.now ≡ written.Tree.apply (tree_of first) (trees_of c.in-Apply.arguments) c.in-Apply.at = search (rules, the_lemmas) in
    let here : c.deref-in-Apply.result.now ≡ first = search rules in
    (search (rules, the_lemmas), subst (λ p. IsShallow s (core s (tree_of p))) (sym here) (shallow-applied s c.in-Apply.at (core s (tree_of first)) (trees_of c.in-Apply.arguments) (subst (λ q. IsShallow s (core s q)) read c.requires)))

pub build-build-requires-in-Prefix : goal.build-build-requires-in-Prefix
build-build-requires-in-Prefix t c =
    let s = scope_of c.args.frame.now in
    let part = c.in-Prefix.part.value in
    let read : tree_of c.args.tree.now ≡ written.Tree.prefixed c.in-Prefix.operators (tree_of part) c.in-Prefix.field-2 = search (rules, the_lemmas) in
    let here : c.deref-in-Prefix.result.now ≡ part = search rules in
    (search (rules, the_lemmas), subst (λ p. IsShallow s (core s (tree_of p))) (sym here) (shallow-prefixed s c.in-Prefix.operators (core s (tree_of part)) (subst (λ q. IsShallow s (core s q)) read c.requires)))

pub build-build-requires-in-Select : goal.build-build-requires-in-Select
build-build-requires-in-Select t c =
    let s = scope_of c.args.frame.now in
    let part = c.in-Select.part.value in
    let read : tree_of c.args.tree.now ≡ written.Tree.select (tree_of part) c.in-Select.names c.in-Select.at = search (rules, the_lemmas) in
    let here : c.deref-in-Select.result.now ≡ part = search rules in
    (search (rules, the_lemmas), subst (λ p. IsShallow s (core s (tree_of p))) (sym here) (shallow-selected s c.in-Select.at (core s (tree_of part)) c.in-Select.names (subst (λ q. IsShallow s (core s q)) read c.requires)))

pub build-returns-in_ok-parts-in-SeqOf : goal.build-returns-in_ok-parts-in-SeqOf
build-returns-in_ok-parts-in-SeqOf t c =
    let s = scope_of c.args.frame.now in
    let parts = trees_of c.in-SeqOf.parts in
    let read : tree_of c.args.tree.now ≡ written.Tree.seq_of parts c.in-SeqOf.at = search (rules, the_lemmas) in
    let few = shallow-depth s (core s (tree_of c.args.tree.now)) c.requires in
    let deep : c.depth_in-in-SeqOf.result ≡ s.depth = omega (arith, c.depth_in-in-SeqOf.ensures, few) in
    let made = c.in_ok-parts-in-SeqOf.ensures ∙ ap (λ (u : Scope). parts_of u parts) (scope_of-Hidden 1 c.args.frame) in
    let whole = seq-built s c.in-SeqOf.at c.depth_in-in-SeqOf.result c.len-count.result c.in_ok-parts-in-SeqOf.parts parts deep c.len-count.ensures made ∙ ap (core s) (sym read) in
    subst (λ q. IfOk c.by_index.result (λ p. reads p ≡ q)) whole c.by_index.ensures

pub build_arguments-boxed-requires : goal.build_arguments-boxed-requires
build_arguments-boxed-requires t c =
    let s = scope_of c.args.frame.now in (
      search (rules, the_lemmas),
      shallow-argument s c.args.at (reads c.loop-argument.made) c.as_slice-argument-items.result.now c.loop-argument.argument-index c.argument-item.result
          (applied s c.args.at (reads c.args.first) (trees_of c.args.arguments.now)) (omega arith) c.argument-item.is c.loop-argument.invariant c.requires,
    )

pub build_arguments-loop-argument-preserved : goal.build_arguments-loop-argument-preserved
build_arguments-loop-argument-preserved t c =
    let s = scope_of c.args.frame.now in
    let at = c.args.at in
    let i = c.loop-argument.argument-index in
    let xs = c.as_slice-argument-items.result.now in
    let x = c.argument-item.result in
    let made = c.loop-argument.made in
    let left = c.in_ok-left.left in
    let right = c.in_ok-right.right in
    let shape : reads (phrase.App left right at) ≡ app (reads left.value) (reads right.value) at = search (rules, phrase_lemmas) in
    let inner : left.value ≡ made = search rules in
    let outer : reads right.value ≡ core s (tree_of x) = c.in_ok-right.ensures in
    ap (λ p. applied s at p (trees_from (map tree_of (drop (i + 1) xs)))) (shape ∙ ap (λ q. app (reads q) (reads right.value) at) inner ∙ ap (λ q. app (reads made) q at) outer)
    ∙ sym (applied-more s at (reads made) xs i x (omega arith) c.argument-item.is)
    ∙ c.loop-argument.invariant

pub build_links-boxed-requires : goal.build_links-boxed-requires
build_links-boxed-requires t c =
    let s = scope_of c.args.frame.now in (
      search (rules, the_lemmas),
      shallow-link s (reads c.loop-link.made) c.as_slice-link-items.result.now c.loop-link.link-index c.link-item.result
          (linked s (reads c.args.first) (links_of c.args.links.now)) (omega arith) c.link-item.is c.loop-link.invariant c.requires,
    )

pub build_links-loop-link-preserved : goal.build_links-loop-link-preserved
build_links-loop-link-preserved t c =
    let s = scope_of c.args.frame.now in
    let i = c.loop-link.link-index in
    let xs = c.as_slice-link-items.result.now in
    let x = c.link-item.result in
    let op = (out-Link x).op in
    let at = (out-Link x).at in
    let made = c.loop-link.made in
    let left = c.in_ok-left.left in
    let right = c.in_ok-right.right in
    let shape : reads (phrase.Binary op left right at) ≡ binary op (reads left.value) (reads right.value) at = search (rules, phrase_lemmas) in
    let inner : left.value ≡ made = search rules in
    let outer : reads right.value ≡ core s (tree_of (out-Link x).item) = c.in_ok-right.ensures in
    ap (λ p. linked s p (links_from (map link_of (drop (i + 1) xs)))) (shape ∙ ap (λ q. binary op (reads q) (reads right.value) at) inner ∙ ap (λ q. binary op (reads made) q at) outer)
    ∙ sym (linked-more s (reads made) xs i x (omega arith) c.link-item.is)
    ∙ c.loop-link.invariant

pub build_merge-build-requires : goal.build_merge-build-requires
build_merge-build-requires t c =
    let s = scope_of c.args.frame.now in (
      search (rules, the_lemmas),
      shallow-member c.loop-member.is_first s c.args.at (reads c.loop-member.made) c.as_slice-member-items.result.now c.loop-member.member-index c.member-item.result
          (merged_all s c.args.at (trees_of c.args.members.now)) (omega arith) c.member-item.is c.loop-member.invariant c.requires,
    )

pub build_fields-boxed-requires : goal.build_fields-boxed-requires
build_fields-boxed-requires t c =
    let s = scope_of c.args.frame.now in (
      search (rules, the_lemmas),
      shallow-field c.loop-def.is_first s c.loop-def.made.front (reads c.loop-def.made.phrase) c.as_slice-def-items.result.now c.loop-def.def-index c.def-item.result
          (all_fields s c.args.at (defs_of c.args.defs.now)) (omega arith) c.def-item.is c.loop-def.invariant c.requires,
    )

pub build_fields-loop-def-preserved : goal.build_fields-loop-def-preserved
build_fields-loop-def-preserved t c =
    let s = scope_of c.args.frame.now in
    let xs = c.as_slice-def-items.result.now in
    let x = c.def-item.result in
    let name = (out-Def x).name in
    let at = (out-Def x).at in
    let b = c.loop-def.is_first in
    let made = item_of c.loop-def.made in
    let part = c.in_ok-part.part in
    let shape : reads (phrase.Field name part at) ≡ field name (reads part.value) at = search (rules, phrase_lemmas) in
    let outer : reads part.value ≡ core s (tree_of (out-Def x).body) = c.in_ok-part.ensures in
    let joined = c.in_ok-joined.ensures ∙ ap (λ q. with_field b made q at) (shape ∙ ap (λ q. field name q at) outer) in
    fields-more b s made (item_of c.in_ok-joined.joined) xs c.loop-def.def-index x (omega arith) c.def-item.is joined ∙ c.loop-def.invariant

pub build_items-build-requires : goal.build_items-build-requires
build_items-build-requires t c =
    let s = scope_of c.args.frame.now in
    let few = subst (λ ps. s.depth + items_nesting (items_of s ps) ≤ 1024) c.as_slice-item-items.ensures.reading c.requires in
    (search (rules, the_lemmas), shallow-item s c.as_slice-item-items.result.now c.loop-item.item-index c.item-item.result (omega arith) c.item-item.is few)

pub build_items-loop-item-preserved : goal.build_items-loop-item-preserved
build_items-loop-item-preserved t c =
    let s = scope_of c.args.frame.now in
    let i = c.loop-item.item-index in
    let xs = c.as_slice-item-items.result.now in
    let x = c.item-item.result in
    let made = c.in_ok-phrase.phrase in
    let place = c.place_of-front.result in
    let item : Tree → Place → Item = λ p f. record { phrase = p; front = f } in
    let pushed : c.push.new.self.items ≡ c.loop-item.made.items ++ record { phrase = made; front = place } ∷ [] = search rules in
    let last : item (reads made) place ≡ item (core s (tree_of x)) (front (tree_of x)) = ap₂ item c.in_ok-phrase.ensures c.place_of-front.ensures in
    items-pushed c.loop-item.made.items c.push.new.self.items (record { phrase = made; front = place }) (items_of s (trees_from (map tree_of (take i xs)))) (item (core s (tree_of x)) (front (tree_of x)))
    pushed c.loop-item.invariant last
    ∙ sym (items_of-more s xs i x (omega arith) c.item-item.is)

pub build_parts-build-requires : goal.build_parts-build-requires
build_parts-build-requires t c =
    let s = scope_of c.args.frame.now in
    let few = subst (λ ps. s.depth + all_nesting (parts_of s ps) ≤ 1024) c.as_slice-part-items.ensures.reading c.requires in
    (search (rules, the_lemmas), shallow-part s c.as_slice-part-items.result.now c.loop-part.part-index c.part-item.result (omega arith) c.part-item.is few)

pub build_parts-returns : goal.build_parts-returns
build_parts-returns t c =
    let s = scope_of c.args.frame.now in
    let xs = c.as_slice-part-items.result.now in
    let all : take c.loop-part.part-index xs ≡ xs = take_all c.loop-part.part-index xs (omega arith) in
    reads-parts c.loop-part.made s xs (c.loop-part.invariant ∙ ap (map (λ p. core s (tree_of p))) all) ∙ ap (parts_of s) (sym c.as_slice-part-items.ensures.reading)

pub build_lets-boxed-requires : goal.build_lets-boxed-requires
build_lets-boxed-requires t c =
    let s = scope_of c.args.frame.now in
    let xs = c.as_slice-items.result.now in
    let i = c.loop-i.i - 1 in
    let x = get_or xs i c.index-items-i.result in
    let is : x ≡ get_or xs i x = ap (λ z. get_or xs i z) c.index-items-i.is in
    let whole = subst (λ ds. IsShallow s (lets s c.args.at ds (reads c.args.body))) c.as_slice-items.ensures.reading c.requires in
    let small = shallow-def s c.args.at xs (reads c.args.body) i x (omega arith) is whole in
    (search (rules, the_lemmas), subst (λ (u : Scope). IsShallow u (core u (tree_of (out-Def x).body))) (sym (scope_of-Hidden i c.args.frame)) small)

pub build_lets-loop-i-preserved : goal.build_lets-loop-i-preserved
build_lets-loop-i-preserved t c =
    let s = scope_of c.args.frame.now in
    let at = c.args.at in
    let xs = c.as_slice-items.result.now in
    let body = reads c.args.body in
    let i = c.loop-i.i - 1 in
    let x = get_or xs i c.index-items-i.result in
    let is : x ≡ get_or xs i x = ap (λ z. get_or xs i z) c.index-items-i.is in
    let here = behind_all i s in
    let part = tree_of (out-Def x).body in
    let hidden = scope_of-Hidden i c.args.frame in
    let whole = subst (λ ds. IsShallow s (lets s at ds body)) c.as_slice-items.ensures.reading c.requires in
    let few = shallow-depth here (core here part) (shallow-def s at xs body i x (omega arith) is whole) in
    let capped = c.depth_in.ensures ∙ ap (λ (u : Scope). greatest_u32 u.depth) hidden in
    let deep : c.depth_in.result ≡ here.depth = omega (arith, capped, few) in
    let p = c.in_ok-phrase.phrase in
    let q = c.in_ok-inner.inner in
    let shape : reads (phrase.LetIn c.depth_in.result p q at) ≡ let_in c.depth_in.result (reads p.value) (reads q.value) at = search (rules, phrase_lemmas) in
    let outer = c.in_ok-phrase.ensures ∙ ap (λ (u : Scope). core u part) hidden in
    let next : c.loop-i.i ≡ i + 1 = omega arith in
    let made : q.value ≡ c.loop-i.made = search rules in
    let inner = ap reads made ∙ c.loop-i.invariant ∙ ap (λ n. lets (behind_all n s) at (defs_from (map def_of (drop n xs))) body) next in
    shape
    ∙ ap (λ d. let_in d (reads p.value) (reads q.value) at) deep
    ∙ ap (λ a. let_in here.depth a (reads q.value) at) outer
    ∙ ap (λ a. let_in here.depth (core here part) a at) inner
    ∙ sym (lets-more s at xs body i x (omega arith) is)
