use Rattle.std.proofs.Common.{◌≡◌, Some, length, map, refl, sym, ap, ◌∙◌, subst, arith}
use Rattle.std.specs.Prelude.{slice_get}
use Rattle.std.proofs.lemmas.List.{length-map}
use Rattle.std.proofs.lemmas.Option.{MatchOption-at_some}
use Rattle.fy_phrase.specs.declared.shapes.ShapeEnd.TheVariants as ending
use Rattle.fy_phrase.specs.Reads.{reads}
use Rattle.pe_code.specs.declared.code.PeCode.{PeCode}
use Rattle.pe_gen.specs.declared.plan.Plan.{Plan}
use Rattle.pe_gen.specs.declared.steps.ShapeStep.TheVariants.{End}
use Rattle.pe_gen.specs.Preorder.{seen, thunks_from}
use Rattle.pe_gen.specs.Sites.{pair, Stands, IsPlain, ArePairsInOrder, AreSites, LandAmong, ArePassed, AreEntries}
use Rattle.pe_gen.proofs.BegunLemmas.{some-from, begun-of, run-step, begun-within, begun-shapes, begun-once, begun-land, begun-passed, begun-few, program-stands, program-plain, plan-of, site-asked, code-made}
use Rattle.pe_gen.proofs.CodeLemmas.{code-of, laid-out, items-few}
use Rattle.pe_gen.proofs.FrameLemmas.{sizes-of}
use Rattle.pe_gen.proofs.OrderLemmas.{pairs-in-order}
use Rattle.pe_gen.proofs.SeenLemmas.{nodes-few}
use Rattle.pe_gen.proofs.SoundLemmas.{valid-of}
use Rattle.pe_right.specs.Constants.{no_data}
use Rattle.pe_right.specs.Entered.{none_straight}
use Rattle.pe_right.proofs.RunLemmas.{follows}
use Rattle.pe_gen.proofs.generating.generate.Goals as goal

pub unwrap-requires : goal.unwrap-requires
unwrap-requires c =
    let b = begun-of (reads c.args.p.now) c.args.table.now (map seen c.in_ok-nodes.nodes.items) c.in_ok-steps.steps.keys c.in_ok-pairs.pairs.items c.as_slice-shapes.result.now c.as_slice.result.now
    c.requires.table c.requires.whole c.requires.closed c.requires.depths c.requires.made c.requires.depth c.in_ok-nodes.ensures
    c.as_slice-shapes.ensures c.in_ok-steps.ensures c.as_slice.ensures c.in_ok-pairs.ensures.moved in
    some-from c.number_of_step.result _ _ c.number_of_step.ensures (run-step (reads c.args.p.now) c.args.table.now (map seen c.in_ok-nodes.nodes.items) c.in_ok-steps.steps.keys c.in_ok-pairs.pairs.items b)

pub sites_of-requires-clause-within : goal.sites_of-requires-clause-within
sites_of-requires-clause-within c =
    let b = begun-of (reads c.args.p.now) c.args.table.now (map seen c.in_ok-nodes.nodes.items) c.in_ok-steps.steps.keys c.in_ok-pairs.pairs.items c.as_slice-shapes.result.now c.as_slice.result.now
    c.requires.table c.requires.whole c.requires.closed c.requires.depths c.requires.made c.requires.depth c.in_ok-nodes.ensures
    c.as_slice-shapes.ensures c.in_ok-steps.ensures c.as_slice.ensures c.in_ok-pairs.ensures.moved in
    λ i x at.
    let within = begun-within (reads c.args.p.now) c.args.table.now (map seen c.in_ok-nodes.nodes.items) c.in_ok-steps.steps.keys c.in_ok-pairs.pairs.items b i x (sym (ap (λ xs. slice_get xs i) c.deref-2.ensures.value) ∙ at) in
    omega (arith, within, length-map c.in_ok-nodes.nodes.items seen, ap length c.deref.ensures.value)

pub sites_of-requires-clause-program : goal.sites_of-requires-clause-program
sites_of-requires-clause-program c =
    let b = begun-of (reads c.args.p.now) c.args.table.now (map seen c.in_ok-nodes.nodes.items) c.in_ok-steps.steps.keys c.in_ok-pairs.pairs.items c.as_slice-shapes.result.now c.as_slice.result.now
    c.requires.table c.requires.whole c.requires.closed c.requires.depths c.requires.made c.requires.depth c.in_ok-nodes.ensures
    c.as_slice-shapes.ensures c.in_ok-steps.ensures c.as_slice.ensures c.in_ok-pairs.ensures.moved in
    let run = MatchOption-at_some _ (λ n. slice_get c.in_ok-steps.steps.keys n ≡ Some (End ending.Run)) c.unwrap.result c.unwrap.ensures c.number_of_step.ensures in
    subst (λ xs. Stands xs (pair 0 c.unwrap.result)) (sym c.deref-2.ensures.value) (program-stands (reads c.args.p.now) c.args.table.now (map seen c.in_ok-nodes.nodes.items) c.in_ok-steps.steps.keys c.in_ok-pairs.pairs.items b c.unwrap.result run)

pub sites_of-requires-clause-plain : goal.sites_of-requires-clause-plain
sites_of-requires-clause-plain c =
    let b = begun-of (reads c.args.p.now) c.args.table.now (map seen c.in_ok-nodes.nodes.items) c.in_ok-steps.steps.keys c.in_ok-pairs.pairs.items c.as_slice-shapes.result.now c.as_slice.result.now
    c.requires.table c.requires.whole c.requires.closed c.requires.depths c.requires.made c.requires.depth c.in_ok-nodes.ensures
    c.as_slice-shapes.ensures c.in_ok-steps.ensures c.as_slice.ensures c.in_ok-pairs.ensures.moved in
    subst (λ xs. IsPlain (map seen xs) (pair 0 c.unwrap.result)) (sym c.deref.ensures.value) (program-plain (reads c.args.p.now) c.args.table.now (map seen c.in_ok-nodes.nodes.items) c.in_ok-steps.steps.keys c.in_ok-pairs.pairs.items b c.unwrap.result)

pub sites_of-requires-clause-ordered : goal.sites_of-requires-clause-ordered
sites_of-requires-clause-ordered c =
    let b = begun-of (reads c.args.p.now) c.args.table.now (map seen c.in_ok-nodes.nodes.items) c.in_ok-steps.steps.keys c.in_ok-pairs.pairs.items c.as_slice-shapes.result.now c.as_slice.result.now
    c.requires.table c.requires.whole c.requires.closed c.requires.depths c.requires.made c.requires.depth c.in_ok-nodes.ensures
    c.as_slice-shapes.ensures c.in_ok-steps.ensures c.as_slice.ensures c.in_ok-pairs.ensures.moved in
    let once = begun-once (reads c.args.p.now) c.args.table.now (map seen c.in_ok-nodes.nodes.items) c.in_ok-steps.steps.keys c.in_ok-pairs.pairs.items b in
    subst ArePairsInOrder (sym c.deref-2.ensures.value) (pairs-in-order c.in_ok-pairs.pairs.items c.in_ok-pairs.ensures.rising once)

pub entries_of-requires-clause-few : goal.entries_of-requires-clause-few
entries_of-requires-clause-few c =
    let few = nodes-few (reads c.args.p.now) c.in_ok-nodes.nodes.items c.in_ok-nodes.ensures c.requires.nodes in
    omega (arith, few, ap length c.deref-3.ensures.value)

pub entries_of-requires-clause-small : goal.entries_of-requires-clause-small
entries_of-requires-clause-small c =
    let b = begun-of (reads c.args.p.now) c.args.table.now (map seen c.in_ok-nodes.nodes.items) c.in_ok-steps.steps.keys c.in_ok-pairs.pairs.items c.as_slice-shapes.result.now c.as_slice.result.now
    c.requires.table c.requires.whole c.requires.closed c.requires.depths c.requires.made c.requires.depth c.in_ok-nodes.ensures
    c.as_slice-shapes.ensures c.in_ok-steps.ensures c.as_slice.ensures c.in_ok-pairs.ensures.moved in
    let program = pair 0 c.unwrap.result in
    let places = c.in_ok-sites.sites.keys in
    let all = subst (λ xs. AreSites (map seen xs) c.in_ok-pairs.pairs.items program places) c.deref.ensures.value
    (subst (λ xs. AreSites (map seen c.deref.result.now) xs program places) c.deref-2.ensures.value c.in_ok-sites.ensures) in
    begun-few (reads c.args.p.now) c.args.table.now (map seen c.in_ok-nodes.nodes.items) c.in_ok-steps.steps.keys c.in_ok-pairs.pairs.items b program places all c.requires.pairs

pub entries_of-requires-clause-within : goal.entries_of-requires-clause-within
entries_of-requires-clause-within c =
    let b = begun-of (reads c.args.p.now) c.args.table.now (map seen c.in_ok-nodes.nodes.items) c.in_ok-steps.steps.keys c.in_ok-pairs.pairs.items c.as_slice-shapes.result.now c.as_slice.result.now
    c.requires.table c.requires.whole c.requires.closed c.requires.depths c.requires.made c.requires.depth c.in_ok-nodes.ensures
    c.as_slice-shapes.ensures c.in_ok-steps.ensures c.as_slice.ensures c.in_ok-pairs.ensures.moved in
    λ i x at.
    let within = begun-within (reads c.args.p.now) c.args.table.now (map seen c.in_ok-nodes.nodes.items) c.in_ok-steps.steps.keys c.in_ok-pairs.pairs.items b i x (sym (ap (λ xs. slice_get xs i) c.deref-4.ensures.value) ∙ at) in
    omega (arith, within, length-map c.in_ok-nodes.nodes.items seen, ap length c.deref-3.ensures.value)

pub entries_of-requires-clause-shapes : goal.entries_of-requires-clause-shapes
entries_of-requires-clause-shapes c =
    let b = begun-of (reads c.args.p.now) c.args.table.now (map seen c.in_ok-nodes.nodes.items) c.in_ok-steps.steps.keys c.in_ok-pairs.pairs.items c.as_slice-shapes.result.now c.as_slice.result.now
    c.requires.table c.requires.whole c.requires.closed c.requires.depths c.requires.made c.requires.depth c.in_ok-nodes.ensures
    c.as_slice-shapes.ensures c.in_ok-steps.ensures c.as_slice.ensures c.in_ok-pairs.ensures.moved in
    λ i x at.
    let within = begun-shapes (reads c.args.p.now) c.args.table.now (map seen c.in_ok-nodes.nodes.items) c.in_ok-steps.steps.keys c.in_ok-pairs.pairs.items b i x (sym (ap (λ xs. slice_get xs i) c.deref-4.ensures.value) ∙ at) in
    omega (arith, within, ap length c.as_slice-shapes.ensures)

pub entries_of-requires-clause-once : goal.entries_of-requires-clause-once
entries_of-requires-clause-once c =
    let b = begun-of (reads c.args.p.now) c.args.table.now (map seen c.in_ok-nodes.nodes.items) c.in_ok-steps.steps.keys c.in_ok-pairs.pairs.items c.as_slice-shapes.result.now c.as_slice.result.now
    c.requires.table c.requires.whole c.requires.closed c.requires.depths c.requires.made c.requires.depth c.in_ok-nodes.ensures
    c.as_slice-shapes.ensures c.in_ok-steps.ensures c.as_slice.ensures c.in_ok-pairs.ensures.moved in
    λ i j x d e.
    begun-once (reads c.args.p.now) c.args.table.now (map seen c.in_ok-nodes.nodes.items) c.in_ok-steps.steps.keys c.in_ok-pairs.pairs.items b i j x (sym (ap (λ xs. slice_get xs i) c.deref-4.ensures.value) ∙ d) (sym (ap (λ xs. slice_get xs j) c.deref-4.ensures.value) ∙ e)

pub entries_of-requires-clause-passed : goal.entries_of-requires-clause-passed
entries_of-requires-clause-passed c =
    let b = begun-of (reads c.args.p.now) c.args.table.now (map seen c.in_ok-nodes.nodes.items) c.in_ok-steps.steps.keys c.in_ok-pairs.pairs.items c.as_slice-shapes.result.now c.as_slice.result.now
    c.requires.table c.requires.whole c.requires.closed c.requires.depths c.requires.made c.requires.depth c.in_ok-nodes.ensures
    c.as_slice-shapes.ensures c.in_ok-steps.ensures c.as_slice.ensures c.in_ok-pairs.ensures.moved in
    subst (λ xs. ArePassed (map seen xs) c.as_slice-shapes.result.now c.deref-4.result.now) (sym c.deref-3.ensures.value)
    (subst (λ ss. ArePassed (map seen c.in_ok-nodes.nodes.items) ss c.deref-4.result.now) (sym c.as_slice-shapes.ensures)
    (subst (λ xs. ArePassed (map seen c.in_ok-nodes.nodes.items) c.args.table.now.shapes xs) (sym c.deref-4.ensures.value) (begun-passed (reads c.args.p.now) c.args.table.now (map seen c.in_ok-nodes.nodes.items) c.in_ok-steps.steps.keys c.in_ok-pairs.pairs.items b c.in_ok-pairs.ensures.ordered)))

pub entries_of-requires-clause-land : goal.entries_of-requires-clause-land
entries_of-requires-clause-land c =
    let b = begun-of (reads c.args.p.now) c.args.table.now (map seen c.in_ok-nodes.nodes.items) c.in_ok-steps.steps.keys c.in_ok-pairs.pairs.items c.as_slice-shapes.result.now c.as_slice.result.now
    c.requires.table c.requires.whole c.requires.closed c.requires.depths c.requires.made c.requires.depth c.in_ok-nodes.ensures
    c.as_slice-shapes.ensures c.in_ok-steps.ensures c.as_slice.ensures c.in_ok-pairs.ensures.moved in
    let program = pair 0 c.unwrap.result in
    let places = c.in_ok-sites.sites.keys in
    let all = subst (λ xs. AreSites (map seen xs) c.in_ok-pairs.pairs.items program places) c.deref.ensures.value
    (subst (λ xs. AreSites (map seen c.deref.result.now) xs program places) c.deref-2.ensures.value c.in_ok-sites.ensures) in
    subst (λ xs. LandAmong (map seen xs) c.as_slice-shapes.result.now c.deref-4.result.now places) (sym c.deref-3.ensures.value)
    (subst (λ ss. LandAmong (map seen c.in_ok-nodes.nodes.items) ss c.deref-4.result.now places) (sym c.as_slice-shapes.ensures)
    (subst (λ xs. LandAmong (map seen c.in_ok-nodes.nodes.items) c.args.table.now.shapes xs places) (sym c.deref-4.ensures.value) (begun-land (reads c.args.p.now) c.args.table.now (map seen c.in_ok-nodes.nodes.items) c.in_ok-steps.steps.keys c.in_ok-pairs.pairs.items b program places all)))

pub thunks_of-requires-clause-few : goal.thunks_of-requires-clause-few
thunks_of-requires-clause-few c =
    let few = nodes-few (reads c.args.p.now) c.in_ok-nodes.nodes.items c.in_ok-nodes.ensures c.requires.nodes in
    omega (arith, few, ap length c.deref-5.ensures.value)

pub items_of-requires-clause-plan : goal.items_of-requires-clause-plan
items_of-requires-clause-plan c =
    let b = begun-of (reads c.args.p.now) c.args.table.now (map seen c.in_ok-nodes.nodes.items) c.in_ok-steps.steps.keys c.in_ok-pairs.pairs.items c.as_slice-shapes.result.now c.as_slice.result.now
    c.requires.table c.requires.whole c.requires.closed c.requires.depths c.requires.made c.requires.depth c.in_ok-nodes.ensures
    c.as_slice-shapes.ensures c.in_ok-steps.ensures c.as_slice.ensures c.in_ok-pairs.ensures.moved in
    let program = pair 0 c.unwrap.result in
    let places = c.in_ok-sites.sites.keys in
    let all = subst (λ xs. AreSites (map seen xs) c.in_ok-pairs.pairs.items program places) c.deref.ensures.value
    (subst (λ xs. AreSites (map seen c.deref.result.now) xs program places) c.deref-2.ensures.value c.in_ok-sites.ensures) in
    let entries = subst (λ xs. AreEntries (map seen xs) c.args.table.now.shapes c.in_ok-pairs.pairs.items places c.in_ok-entries.entries) c.deref-3.ensures.value
    (subst (λ ss. AreEntries (map seen c.deref-3.result.now) ss c.in_ok-pairs.pairs.items places c.in_ok-entries.entries) c.as_slice-shapes.ensures
    (subst (λ xs. AreEntries (map seen c.deref-3.result.now) c.as_slice-shapes.result.now xs places c.in_ok-entries.entries) c.deref-4.ensures.value c.in_ok-entries.ensures)) in
    let few = nodes-few (reads c.args.p.now) c.in_ok-nodes.nodes.items c.in_ok-nodes.ensures c.requires.nodes in
    let plan : Plan = record { nodes = c.in_ok-nodes.nodes; table = c.args.table; steps = c.in_ok-steps.steps; entries = c.in_ok-entries.entries } in
    plan-of (reads c.args.p.now) c.args.table.now (map seen c.in_ok-nodes.nodes.items) c.in_ok-steps.steps.keys c.in_ok-pairs.pairs.items b plan refl refl refl program places all entries few c.requires.shapes

pub items_of-requires-clause-sites : goal.items_of-requires-clause-sites
items_of-requires-clause-sites c =
    let b = begun-of (reads c.args.p.now) c.args.table.now (map seen c.in_ok-nodes.nodes.items) c.in_ok-steps.steps.keys c.in_ok-pairs.pairs.items c.as_slice-shapes.result.now c.as_slice.result.now
    c.requires.table c.requires.whole c.requires.closed c.requires.depths c.requires.made c.requires.depth c.in_ok-nodes.ensures
    c.as_slice-shapes.ensures c.in_ok-steps.ensures c.as_slice.ensures c.in_ok-pairs.ensures.moved in
    let program = pair 0 c.unwrap.result in
    let places = c.in_ok-sites.sites.keys in
    let all = subst (λ xs. AreSites (map seen xs) c.in_ok-pairs.pairs.items program places) c.deref.ensures.value
    (subst (λ xs. AreSites (map seen c.deref.result.now) xs program places) c.deref-2.ensures.value c.in_ok-sites.ensures) in
    let entries = subst (λ xs. AreEntries (map seen xs) c.args.table.now.shapes c.in_ok-pairs.pairs.items places c.in_ok-entries.entries) c.deref-3.ensures.value
    (subst (λ ss. AreEntries (map seen c.deref-3.result.now) ss c.in_ok-pairs.pairs.items places c.in_ok-entries.entries) c.as_slice-shapes.ensures
    (subst (λ xs. AreEntries (map seen c.deref-3.result.now) c.as_slice-shapes.result.now xs places c.in_ok-entries.entries) c.deref-4.ensures.value c.in_ok-entries.ensures)) in
    let plan : Plan = record { nodes = c.in_ok-nodes.nodes; table = c.args.table; steps = c.in_ok-steps.steps; entries = c.in_ok-entries.entries } in
    λ i x at.
    site-asked (reads c.args.p.now) c.args.table.now (map seen c.in_ok-nodes.nodes.items) c.in_ok-steps.steps.keys c.in_ok-pairs.pairs.items b plan refl refl refl program places all entries i x (sym (ap (λ xs. slice_get xs i) c.as_slice-2.ensures.keys) ∙ at)

pub returns-clause-right : goal.returns-clause-right
returns-clause-right c =
    let b = begun-of (reads c.args.p.now) c.args.table.now (map seen c.in_ok-nodes.nodes.items) c.in_ok-steps.steps.keys c.in_ok-pairs.pairs.items c.as_slice-shapes.result.now c.as_slice.result.now
    c.requires.table c.requires.whole c.requires.closed c.requires.depths c.requires.made c.requires.depth c.in_ok-nodes.ensures
    c.as_slice-shapes.ensures c.in_ok-steps.ensures c.as_slice.ensures c.in_ok-pairs.ensures.moved in
    let run = MatchOption-at_some _ (λ n. slice_get c.in_ok-steps.steps.keys n ≡ Some (End ending.Run)) c.unwrap.result c.unwrap.ensures c.number_of_step.ensures in
    let program = pair 0 c.unwrap.result in
    let places = c.in_ok-sites.sites.keys in
    let all = subst (λ xs. AreSites (map seen xs) c.in_ok-pairs.pairs.items program places) c.deref.ensures.value
    (subst (λ xs. AreSites (map seen c.deref.result.now) xs program places) c.deref-2.ensures.value c.in_ok-sites.ensures) in
    let entries = subst (λ xs. AreEntries (map seen xs) c.args.table.now.shapes c.in_ok-pairs.pairs.items places c.in_ok-entries.entries) c.deref-3.ensures.value
    (subst (λ ss. AreEntries (map seen c.deref-3.result.now) ss c.in_ok-pairs.pairs.items places c.in_ok-entries.entries) c.as_slice-shapes.ensures
    (subst (λ xs. AreEntries (map seen c.deref-3.result.now) c.as_slice-shapes.result.now xs places c.in_ok-entries.entries) c.deref-4.ensures.value c.in_ok-entries.ensures)) in
    let plan : Plan = record { nodes = c.in_ok-nodes.nodes; table = c.args.table; steps = c.in_ok-steps.steps; entries = c.in_ok-entries.entries } in
    let code : PeCode = record { items = c.in_ok-items.items; entries = c.in_ok-entries.entries; shapes = length c.as_slice-shapes.result.now; assignment = c.number_of_step-assignment.result; sequences = c.sequence_shapes.result; thunks = c.in_ok-thunks.thunks } in
    let made = code-made (reads c.args.p.now) c.args.table.now (map seen c.in_ok-nodes.nodes.items) c.in_ok-steps.steps.keys c.in_ok-pairs.pairs.items b plan refl refl refl program places all entries code refl refl run
    (c.in_ok-items.ensures.all ∙ ap length c.as_slice-2.ensures.keys)
    (λ i x item at here. c.in_ok-items.ensures.each i x item (ap (λ xs. slice_get xs i) c.as_slice-2.ensures.keys ∙ at) here)
    (ap length c.as_slice-shapes.ensures) c.number_of_step-assignment.ensures c.sequence_shapes.ensures
    (c.in_ok-thunks.ensures ∙ ap (λ xs. thunks_from 0 (map seen xs)) c.deref-5.ensures.value) in
    code-of (reads c.args.p.now) c.args.table.now code made

pub returns-clause-valid : goal.returns-clause-valid
returns-clause-valid c =
    let b = begun-of (reads c.args.p.now) c.args.table.now (map seen c.in_ok-nodes.nodes.items) c.in_ok-steps.steps.keys c.in_ok-pairs.pairs.items c.as_slice-shapes.result.now c.as_slice.result.now
    c.requires.table c.requires.whole c.requires.closed c.requires.depths c.requires.made c.requires.depth c.in_ok-nodes.ensures
    c.as_slice-shapes.ensures c.in_ok-steps.ensures c.as_slice.ensures c.in_ok-pairs.ensures.moved in
    let run = MatchOption-at_some _ (λ n. slice_get c.in_ok-steps.steps.keys n ≡ Some (End ending.Run)) c.unwrap.result c.unwrap.ensures c.number_of_step.ensures in
    let program = pair 0 c.unwrap.result in
    let places = c.in_ok-sites.sites.keys in
    let all = subst (λ xs. AreSites (map seen xs) c.in_ok-pairs.pairs.items program places) c.deref.ensures.value
    (subst (λ xs. AreSites (map seen c.deref.result.now) xs program places) c.deref-2.ensures.value c.in_ok-sites.ensures) in
    let entries = subst (λ xs. AreEntries (map seen xs) c.args.table.now.shapes c.in_ok-pairs.pairs.items places c.in_ok-entries.entries) c.deref-3.ensures.value
    (subst (λ ss. AreEntries (map seen c.deref-3.result.now) ss c.in_ok-pairs.pairs.items places c.in_ok-entries.entries) c.as_slice-shapes.ensures
    (subst (λ xs. AreEntries (map seen c.deref-3.result.now) c.as_slice-shapes.result.now xs places c.in_ok-entries.entries) c.deref-4.ensures.value c.in_ok-entries.ensures)) in
    let plan : Plan = record { nodes = c.in_ok-nodes.nodes; table = c.args.table; steps = c.in_ok-steps.steps; entries = c.in_ok-entries.entries } in
    let code : PeCode = record { items = c.in_ok-items.items; entries = c.in_ok-entries.entries; shapes = length c.as_slice-shapes.result.now; assignment = c.number_of_step-assignment.result; sequences = c.sequence_shapes.result; thunks = c.in_ok-thunks.thunks } in
    let made = code-made (reads c.args.p.now) c.args.table.now (map seen c.in_ok-nodes.nodes.items) c.in_ok-steps.steps.keys c.in_ok-pairs.pairs.items b plan refl refl refl program places all entries code refl refl run
    (c.in_ok-items.ensures.all ∙ ap length c.as_slice-2.ensures.keys)
    (λ i x item at here. c.in_ok-items.ensures.each i x item (ap (λ xs. slice_get xs i) c.as_slice-2.ensures.keys ∙ at) here)
    (ap length c.as_slice-shapes.ensures) c.number_of_step-assignment.ensures c.sequence_shapes.ensures
    (c.in_ok-thunks.ensures ∙ ap (λ xs. thunks_from 0 (map seen xs)) c.deref-5.ensures.value) in
    valid-of (reads c.args.p.now) c.args.table.now code made c.requires.pairs c.requires.words

pub returns-clause-sizes : goal.returns-clause-sizes
returns-clause-sizes c =
    let b = begun-of (reads c.args.p.now) c.args.table.now (map seen c.in_ok-nodes.nodes.items) c.in_ok-steps.steps.keys c.in_ok-pairs.pairs.items c.as_slice-shapes.result.now c.as_slice.result.now
    c.requires.table c.requires.whole c.requires.closed c.requires.depths c.requires.made c.requires.depth c.in_ok-nodes.ensures
    c.as_slice-shapes.ensures c.in_ok-steps.ensures c.as_slice.ensures c.in_ok-pairs.ensures.moved in
    let run = MatchOption-at_some _ (λ n. slice_get c.in_ok-steps.steps.keys n ≡ Some (End ending.Run)) c.unwrap.result c.unwrap.ensures c.number_of_step.ensures in
    let program = pair 0 c.unwrap.result in
    let places = c.in_ok-sites.sites.keys in
    let all = subst (λ xs. AreSites (map seen xs) c.in_ok-pairs.pairs.items program places) c.deref.ensures.value
    (subst (λ xs. AreSites (map seen c.deref.result.now) xs program places) c.deref-2.ensures.value c.in_ok-sites.ensures) in
    let entries = subst (λ xs. AreEntries (map seen xs) c.args.table.now.shapes c.in_ok-pairs.pairs.items places c.in_ok-entries.entries) c.deref-3.ensures.value
    (subst (λ ss. AreEntries (map seen c.deref-3.result.now) ss c.in_ok-pairs.pairs.items places c.in_ok-entries.entries) c.as_slice-shapes.ensures
    (subst (λ xs. AreEntries (map seen c.deref-3.result.now) c.as_slice-shapes.result.now xs places c.in_ok-entries.entries) c.deref-4.ensures.value c.in_ok-entries.ensures)) in
    let plan : Plan = record { nodes = c.in_ok-nodes.nodes; table = c.args.table; steps = c.in_ok-steps.steps; entries = c.in_ok-entries.entries } in
    let code : PeCode = record { items = c.in_ok-items.items; entries = c.in_ok-entries.entries; shapes = length c.as_slice-shapes.result.now; assignment = c.number_of_step-assignment.result; sequences = c.sequence_shapes.result; thunks = c.in_ok-thunks.thunks } in
    let made = code-made (reads c.args.p.now) c.args.table.now (map seen c.in_ok-nodes.nodes.items) c.in_ok-steps.steps.keys c.in_ok-pairs.pairs.items b plan refl refl refl program places all entries code refl refl run
    (c.in_ok-items.ensures.all ∙ ap length c.as_slice-2.ensures.keys)
    (λ i x item at here. c.in_ok-items.ensures.each i x item (ap (λ xs. slice_get xs i) c.as_slice-2.ensures.keys ∙ at) here)
    (ap length c.as_slice-shapes.ensures) c.number_of_step-assignment.ensures c.sequence_shapes.ensures
    (c.in_ok-thunks.ensures ∙ ap (λ xs. thunks_from 0 (map seen xs)) c.deref-5.ensures.value) in
    sizes-of (reads c.args.p.now) c.args.table.now code made

pub returns-clause-laid_out : goal.returns-clause-laid_out
returns-clause-laid_out c =
    let b = begun-of (reads c.args.p.now) c.args.table.now (map seen c.in_ok-nodes.nodes.items) c.in_ok-steps.steps.keys c.in_ok-pairs.pairs.items c.as_slice-shapes.result.now c.as_slice.result.now
    c.requires.table c.requires.whole c.requires.closed c.requires.depths c.requires.made c.requires.depth c.in_ok-nodes.ensures
    c.as_slice-shapes.ensures c.in_ok-steps.ensures c.as_slice.ensures c.in_ok-pairs.ensures.moved in
    let run = MatchOption-at_some _ (λ n. slice_get c.in_ok-steps.steps.keys n ≡ Some (End ending.Run)) c.unwrap.result c.unwrap.ensures c.number_of_step.ensures in
    let program = pair 0 c.unwrap.result in
    let places = c.in_ok-sites.sites.keys in
    let all = subst (λ xs. AreSites (map seen xs) c.in_ok-pairs.pairs.items program places) c.deref.ensures.value
    (subst (λ xs. AreSites (map seen c.deref.result.now) xs program places) c.deref-2.ensures.value c.in_ok-sites.ensures) in
    let entries = subst (λ xs. AreEntries (map seen xs) c.args.table.now.shapes c.in_ok-pairs.pairs.items places c.in_ok-entries.entries) c.deref-3.ensures.value
    (subst (λ ss. AreEntries (map seen c.deref-3.result.now) ss c.in_ok-pairs.pairs.items places c.in_ok-entries.entries) c.as_slice-shapes.ensures
    (subst (λ xs. AreEntries (map seen c.deref-3.result.now) c.as_slice-shapes.result.now xs places c.in_ok-entries.entries) c.deref-4.ensures.value c.in_ok-entries.ensures)) in
    let plan : Plan = record { nodes = c.in_ok-nodes.nodes; table = c.args.table; steps = c.in_ok-steps.steps; entries = c.in_ok-entries.entries } in
    let code : PeCode = record { items = c.in_ok-items.items; entries = c.in_ok-entries.entries; shapes = length c.as_slice-shapes.result.now; assignment = c.number_of_step-assignment.result; sequences = c.sequence_shapes.result; thunks = c.in_ok-thunks.thunks } in
    let made = code-made (reads c.args.p.now) c.args.table.now (map seen c.in_ok-nodes.nodes.items) c.in_ok-steps.steps.keys c.in_ok-pairs.pairs.items b plan refl refl refl program places all entries code refl refl run
    (c.in_ok-items.ensures.all ∙ ap length c.as_slice-2.ensures.keys)
    (λ i x item at here. c.in_ok-items.ensures.each i x item (ap (λ xs. slice_get xs i) c.as_slice-2.ensures.keys ∙ at) here)
    (ap length c.as_slice-shapes.ensures) c.number_of_step-assignment.ensures c.sequence_shapes.ensures
    (c.in_ok-thunks.ensures ∙ ap (λ xs. thunks_from 0 (map seen xs)) c.deref-5.ensures.value) in
    laid-out (reads c.args.p.now) c.args.table.now code made

pub returns-clause-few : goal.returns-clause-few
returns-clause-few c =
    let b = begun-of (reads c.args.p.now) c.args.table.now (map seen c.in_ok-nodes.nodes.items) c.in_ok-steps.steps.keys c.in_ok-pairs.pairs.items c.as_slice-shapes.result.now c.as_slice.result.now
    c.requires.table c.requires.whole c.requires.closed c.requires.depths c.requires.made c.requires.depth c.in_ok-nodes.ensures
    c.as_slice-shapes.ensures c.in_ok-steps.ensures c.as_slice.ensures c.in_ok-pairs.ensures.moved in
    let run = MatchOption-at_some _ (λ n. slice_get c.in_ok-steps.steps.keys n ≡ Some (End ending.Run)) c.unwrap.result c.unwrap.ensures c.number_of_step.ensures in
    let program = pair 0 c.unwrap.result in
    let places = c.in_ok-sites.sites.keys in
    let all = subst (λ xs. AreSites (map seen xs) c.in_ok-pairs.pairs.items program places) c.deref.ensures.value
    (subst (λ xs. AreSites (map seen c.deref.result.now) xs program places) c.deref-2.ensures.value c.in_ok-sites.ensures) in
    let entries = subst (λ xs. AreEntries (map seen xs) c.args.table.now.shapes c.in_ok-pairs.pairs.items places c.in_ok-entries.entries) c.deref-3.ensures.value
    (subst (λ ss. AreEntries (map seen c.deref-3.result.now) ss c.in_ok-pairs.pairs.items places c.in_ok-entries.entries) c.as_slice-shapes.ensures
    (subst (λ xs. AreEntries (map seen c.deref-3.result.now) c.as_slice-shapes.result.now xs places c.in_ok-entries.entries) c.deref-4.ensures.value c.in_ok-entries.ensures)) in
    let plan : Plan = record { nodes = c.in_ok-nodes.nodes; table = c.args.table; steps = c.in_ok-steps.steps; entries = c.in_ok-entries.entries } in
    let code : PeCode = record { items = c.in_ok-items.items; entries = c.in_ok-entries.entries; shapes = length c.as_slice-shapes.result.now; assignment = c.number_of_step-assignment.result; sequences = c.sequence_shapes.result; thunks = c.in_ok-thunks.thunks } in
    let made = code-made (reads c.args.p.now) c.args.table.now (map seen c.in_ok-nodes.nodes.items) c.in_ok-steps.steps.keys c.in_ok-pairs.pairs.items b plan refl refl refl program places all entries code refl refl run
    (c.in_ok-items.ensures.all ∙ ap length c.as_slice-2.ensures.keys)
    (λ i x item at here. c.in_ok-items.ensures.each i x item (ap (λ xs. slice_get xs i) c.as_slice-2.ensures.keys ∙ at) here)
    (ap length c.as_slice-shapes.ensures) c.number_of_step-assignment.ensures c.sequence_shapes.ensures
    (c.in_ok-thunks.ensures ∙ ap (λ xs. thunks_from 0 (map seen xs)) c.deref-5.ensures.value) in
    items-few (reads c.args.p.now) c.args.table.now code made

pub returns-clause-follows : goal.returns-clause-follows
returns-clause-follows c =
    let code : PeCode = record { items = c.in_ok-items.items; entries = c.in_ok-entries.entries; shapes = length c.as_slice-shapes.result.now; assignment = c.number_of_step-assignment.result; sequences = c.sequence_shapes.result; thunks = c.in_ok-thunks.thunks } in
    follows (record { phrase = reads c.args.p.now; table = c.args.table.now; code = code; closed = c.requires.closed; depths = c.requires.depths; typed = c.requires.table; handed = no_data; straight = none_straight; constants = λ q v e. absurd cc; right = returns-clause-right c })
