use Rattle.std.proofs.Common.{map, refl, ap, ◌∙◌}
use Rattle.fy_phrase.specs.Reads.{reads}
use Rattle.pe_code.specs.declared.code.PeCode.{PeCode}
use Rattle.pe_gen.specs.Handing.{item_with_data}
use Rattle.pe_gen.specs.Preorder.{seen}
use Rattle.pe_gen.proofs.DirectLemmas.{code-kept, direct-follows, direct-ahead}
use Rattle.pe_gen.proofs.HandingLemmas.{direct-of}
use Rattle.pe_gen.proofs.KeptLemmas.{valid-kept, sizes-kept, layout-kept}
use Rattle.pe_gen.proofs.handing.direct.Goals as goal

pub returns-clause-direct : goal.returns-clause-direct
returns-clause-direct c =
    let nodes = c.in_ok-nodes.nodes.items in
    let code = c.args.code.now in
    let made : PeCode = record { items = c.in_ok-items.items; entries = c.in_ok-entries.entries; shapes = code.shapes; assignment = code.assignment; sequences = code.sequences; thunks = c.in_ok-thunks.thunks } in
    direct-of (reads c.args.p.now) (map seen nodes) c.in_ok-nodes.ensures code made
    (c.in_ok-items.ensures
    ∙ (ap (λ xs. map (item_with_data (map seen xs)) c.as_slice.result.now) c.deref.ensures.value
    ∙ ap (λ xs. map (item_with_data (map seen nodes)) xs) c.as_slice.ensures))
    (c.in_ok-entries.ensures ∙ c.as_slice-2.ensures.entries) refl refl refl (c.in_ok-thunks.ensures ∙ c.as_slice-3.ensures)

pub returns-clause-right : goal.returns-clause-right
returns-clause-right c =
    let code = c.args.code.now in
    let made : PeCode = record { items = c.in_ok-items.items; entries = c.in_ok-entries.entries; shapes = code.shapes; assignment = code.assignment; sequences = code.sequences; thunks = c.in_ok-thunks.thunks } in
    λ table right. code-kept (reads c.args.p.now) table code made (returns-clause-direct c) right

pub returns-clause-valid : goal.returns-clause-valid
returns-clause-valid c =
    let code = c.args.code.now in
    let made : PeCode = record { items = c.in_ok-items.items; entries = c.in_ok-entries.entries; shapes = code.shapes; assignment = code.assignment; sequences = code.sequences; thunks = c.in_ok-thunks.thunks } in
    valid-kept (reads c.args.p.now) code made (returns-clause-direct c) c.requires.generated.valid

pub returns-clause-follows : goal.returns-clause-follows
returns-clause-follows c =
    let code = c.args.code.now in
    let made : PeCode = record { items = c.in_ok-items.items; entries = c.in_ok-entries.entries; shapes = code.shapes; assignment = code.assignment; sequences = code.sequences; thunks = c.in_ok-thunks.thunks } in
    direct-follows (reads c.args.p.now) code made c.requires.generated (returns-clause-direct c)

pub returns-clause-sizes : goal.returns-clause-sizes
returns-clause-sizes c =
    let code = c.args.code.now in
    let made : PeCode = record { items = c.in_ok-items.items; entries = c.in_ok-entries.entries; shapes = code.shapes; assignment = code.assignment; sequences = code.sequences; thunks = c.in_ok-thunks.thunks } in
    sizes-kept (reads c.args.p.now) code made (returns-clause-direct c) c.requires.generated.sizes

pub returns-clause-laid_out : goal.returns-clause-laid_out
returns-clause-laid_out c =
    let code = c.args.code.now in
    let made : PeCode = record { items = c.in_ok-items.items; entries = c.in_ok-entries.entries; shapes = code.shapes; assignment = code.assignment; sequences = code.sequences; thunks = c.in_ok-thunks.thunks } in
    λ laid. layout-kept (reads c.args.p.now) code made (returns-clause-direct c) laid

pub returns-clause-ahead : goal.returns-clause-ahead
returns-clause-ahead c =
    let code = c.args.code.now in
    let made : PeCode = record { items = c.in_ok-items.items; entries = c.in_ok-entries.entries; shapes = code.shapes; assignment = code.assignment; sequences = code.sequences; thunks = c.in_ok-thunks.thunks } in
    (direct-ahead (reads c.args.p.now) code made c.requires.generated (returns-clause-direct c)).ahead

pub returns-clause-frames : goal.returns-clause-frames
returns-clause-frames c =
    let code = c.args.code.now in
    let made : PeCode = record { items = c.in_ok-items.items; entries = c.in_ok-entries.entries; shapes = code.shapes; assignment = code.assignment; sequences = code.sequences; thunks = c.in_ok-thunks.thunks } in
    (direct-ahead (reads c.args.p.now) code made c.requires.generated (returns-clause-direct c)).frames
