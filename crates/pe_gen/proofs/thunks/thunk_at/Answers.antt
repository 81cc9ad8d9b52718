use Rattle.std.proofs.Common.{◌≡◌, ◌+◌, [], ◌∷◌, map, Some, None, refl, sym, ap, ◌∙◌, arith}
use Rattle.std.proofs.lemmas.List.{length-map}
use Rattle.fy_phrase.specs.Reads.{reads}
use Rattle.pe_gen.specs.declared.thunks.ThunkOf.TheVariants.{Argument, Definition, Itself}
use Rattle.pe_gen.specs.Preorder.{own_thunks, seen}
use Rattle.pe_gen.specs.Thunks.{thunk_of as thunk_of_form}
use Rattle.pe_gen.proofs.Gets.{some_same, pair_second, get-within}
use Rattle.pe_gen.proofs.NodeLists.{listed-node, node-listed, first-part}
use Rattle.pe_gen.proofs.SeenLemmas.{seen-at}
use Rattle.pe_gen.proofs.ThunkLemmas.{argument-form, definition-form, itself-form, no-form}
use Rattle.pe_gen.proofs.thunks.thunk_at.Goals as goal

pub number_behind-requires-clause-listed : goal.number_behind-requires-clause-listed
number_behind-requires-clause-listed c =
    let n = c.index-nodes-number.result in
    let ns = map seen c.args.nodes.now in
    let here = seen-at c.args.nodes.now c.args.number n c.requires.within c.index-nodes-number.is in
    let e = c.in-Some-Argument.ensures in
    let f = c.in-Some-Argument.field-0-is in
    let i = c.index-nodes-number.is in
    let kind : Some Argument ≡ thunk_of_form (reads n.phrase.now) = cc in
    let form = argument-form (reads n.phrase.now) kind in
    let node = listed-node c.requires.listing.0 ns c.requires.listing.1 c.args.number n.depth _ (here ∙ ap (λ q. Some (n.depth, q)) form.3) in
    let part = node-listed c.requires.listing.0 ns c.requires.listing.1 (c.args.number + 1) n.depth form.0 (first-part ((n.depth, form.1) ∷ []) node refl) in
    omega (arith, get-within ns (c.args.number + 1) _ part, length-map c.args.nodes.now seen)

pub returns-in-Some-Argument : goal.returns-in-Some-Argument
returns-in-Some-Argument c = λ d q at.
    let n = c.index-nodes-number.result in
    let ns = map seen c.args.nodes.now in
    let here = seen-at c.args.nodes.now c.args.number n c.requires.within c.index-nodes-number.is in
    let e = c.in-Some-Argument.ensures in
    let f = c.in-Some-Argument.field-0-is in
    let i = c.index-nodes-number.is in
    let kind : Some Argument ≡ thunk_of_form (reads n.phrase.now) = cc in
    let form = argument-form (reads n.phrase.now) kind in
    let node = listed-node c.requires.listing.0 ns c.requires.listing.1 c.args.number n.depth _ (here ∙ ap (λ q. Some (n.depth, q)) form.3) in
    let part = node-listed c.requires.listing.0 ns c.requires.listing.1 (c.args.number + 1) n.depth form.0 (first-part ((n.depth, form.1) ∷ []) node refl) in
    let same = pair_second (some_same (sym here ∙ at)) in
    ap (λ k. k ∷ []) (c.number_behind.ensures n.depth form.0 part) ∙ ap (own_thunks c.args.number) (sym form.3 ∙ same)

pub returns-in-Some-Definition : goal.returns-in-Some-Definition
returns-in-Some-Definition c = λ d q at.
    let n = c.index-nodes-number.result in
    let here = seen-at c.args.nodes.now c.args.number n c.requires.within c.index-nodes-number.is in
    let e = c.in-Some-Definition.ensures in
    let f = c.in-Some-Definition.field-0-is in
    let i = c.index-nodes-number.is in
    let kind : Some Definition ≡ thunk_of_form (reads n.phrase.now) = cc in
    let form = definition-form (reads n.phrase.now) kind in
    ap (own_thunks c.args.number) (sym form.4 ∙ pair_second (some_same (sym here ∙ at)))

pub returns-in-Some-Itself : goal.returns-in-Some-Itself
returns-in-Some-Itself c = λ d q at.
    let n = c.index-nodes-number.result in
    let here = seen-at c.args.nodes.now c.args.number n c.requires.within c.index-nodes-number.is in
    let e = c.in-Some-Itself.ensures in
    let f = c.in-Some-Itself.field-0-is in
    let i = c.index-nodes-number.is in
    let kind : Some Itself ≡ thunk_of_form (reads n.phrase.now) = cc in
    itself-form (reads n.phrase.now) c.args.number kind ∙ ap (own_thunks c.args.number) (pair_second (some_same (sym here ∙ at)))

pub returns-in-None : goal.returns-in-None
returns-in-None c = λ d q at.
    let n = c.index-nodes-number.result in
    let here = seen-at c.args.nodes.now c.args.number n c.requires.within c.index-nodes-number.is in
    let e = c.in-None.ensures in
    let i = c.index-nodes-number.is in
    let kind : None ≡ thunk_of_form (reads n.phrase.now) = cc in
    no-form (reads n.phrase.now) c.args.number kind ∙ ap (own_thunks c.args.number) (pair_second (some_same (sym here ∙ at)))
