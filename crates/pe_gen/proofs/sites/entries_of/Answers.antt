use Rattle.std.proofs.Common.{◌+◌, ◌≡◌, map, get_or, refl, sym, ap, ◌∙◌, subst, arith}
use Rattle.std.proofs.lemmas.List.{length-map}
use Rattle.std.proofs.lemmas.Option.{slice_get-get_or, get_or_from_slice_get}
use Rattle.std.specs.Prelude.{slice_get}
use Rattle.pe_code.specs.declared.code.Entry.{Entry}
use Rattle.pe_gen.specs.Preorder.{seen}
use Rattle.pe_gen.specs.Sites.{pair, IsEntryOf}
use Rattle.pe_gen.proofs.EntryLists.{AreEntriesTo, one-entry, all-entries}
use Rattle.pe_gen.proofs.Gets.{get-some}
use Rattle.pe_gen.proofs.StepLemmas.{shape-at}
use Rattle.pe_gen.proofs.sites.entries_of.Goals as goal

pub loop-i-preserved : goal.loop-i-preserved
loop-i-preserved c =
    let i = c.loop-i.i in
    let x = get_or c.args.pairs.now i (pair 0 0) in
    let at = slice_get-get_or c.args.pairs.now i (pair 0 0) c.loop-i-test.true in
    let ns = map seen c.args.nodes.now in
    let node = get-some ns x.node (omega (arith, c.requires.within i x at, length-map c.args.nodes.now seen)) in
    let shape = shape-at c.args.shapes.now x.shape (c.requires.shapes i x at) in
    let its = c.in_ok-addresses.ensures.each i x (omega arith) at in
    let value : c.index.result.now ≡ its.0 = c.index.ensures ∙ get_or_from_slice_get c.in_ok-addresses.addresses.items i its.0 c.index.result.now its.1 in
    let item : Entry = record { node = x.node; shape = x.shape; address = c.index.result.now } in
    let entry : IsEntryOf ns c.args.shapes.now c.args.pairs.now c.args.sites.now.keys item = record {
      stands = (i, at);
      node = node.0.1;
      shape = shape.0;
      listed = (node.0.0, node.1);
      is = shape.1;
      leads = ap (slice_get c.args.sites.now.keys) value ∙ its.2 node.0.1 shape.0 (node.0.0, node.1) shape.1;
    } in
    subst (λ es. AreEntriesTo ns c.args.shapes.now c.args.pairs.now c.args.sites.now.keys (i + 1) es) (sym c.in_ok-push.ensures.ok)
    (one-entry ns c.args.shapes.now c.args.pairs.now c.args.sites.now.keys i c.loop-i.entries x item c.requires.once c.loop-i.invariant at entry refl refl)

pub returns : goal.returns
returns c =
    all-entries (map seen c.args.nodes.now) c.args.shapes.now c.args.pairs.now c.args.sites.now.keys c.loop-i.i c.loop-i.entries c.loop-i.invariant c.loop-i-test.false
