use Rattle.std.proofs.Common.{◌≡◌, ◌+◌, ◌++◌, [], ◌∷◌, map, drop, ap, sym, ◌∙◌, arith, inl, Err, IsErrOf}
use Rattle.std.proofs.lemmas.List.{map-append}
use Rattle.std.proofs.lemmas.Result.{err_from_is_err_and}
use Rattle.fy_types.specs.Paths.{end, and_path, no_paths}
use Rattle.fy_types.specs.Reading.{plain_elem, plain_path, elems_in, fronted}
use Rattle.fy_types.specs.Bounds.{common}
use Rattle.fy_types.specs.Keeping.{all_fronted, sum_nodes}
use Rattle.fy_forms.specs.Merging.{merged}
use Rattle.fy_types.proofs.Steps.{drop_item, drop_end}
use Rattle.fy_types.proofs.ReadLemmas.{plain_path-made, plain_elems-at}
use Rattle.fy_forms.proofs.CommonLemmas.{some-left, some-alike, within-both, past-both, common-more, common-nodes, large-merged, sum_nodes-push, all_fronted-one}
use Rattle.fy_forms.proofs.join_forms.common_path.Goals as goal

pub bounds-ys-i : goal.bounds-ys-i
bounds-ys-i c =
    within-both (common (plain_path c.args.p.now) (plain_path c.args.q.now)) (map plain_elem (elems_in c.loop-i.elems))
    c.as_slice-xs.result.now c.as_slice-ys.result.now c.loop-i.i c.args.p.now.end c.args.q.now.end c.loop-i.invariant.made c.requires c.loop-i-test.true

pub merged_elem-requires : goal.merged_elem-requires
merged_elem-requires c =
    let within = within-both (common (plain_path c.args.p.now) (plain_path c.args.q.now)) (map plain_elem (elems_in c.loop-i.elems))
    c.as_slice-xs.result.now c.as_slice-ys.result.now c.loop-i.i c.args.p.now.end c.args.q.now.end c.loop-i.invariant.made c.requires c.loop-i-test.true in
    let xs = drop_item plain_elem c.as_slice-xs.result.now c.loop-i.i c.index-xs-i.result c.loop-i-test.true c.index-xs-i.is in
    let ys = drop_item plain_elem c.as_slice-ys.result.now c.loop-i.i c.index-ys-i.result within c.index-ys-i.is in
    let made = rw (xs, ys) at c.loop-i.invariant.made in
    some-alike (plain_elem c.index-xs-i.result) (plain_elem c.index-ys-i.result)
    (fronted (map plain_elem (drop (c.loop-i.i + 1) c.as_slice-xs.result.now)) (end c.args.p.now.end))
    (fronted (map plain_elem (drop (c.loop-i.i + 1) c.as_slice-ys.result.now)) (end c.args.q.now.end))
    (some-left (common (plain_path c.args.p.now) (plain_path c.args.q.now)) (map plain_elem (elems_in c.loop-i.elems)) _ made c.requires)

-- an error is the same at another type of results
turned : {S T E : Type 0} (x y : E) → IsErrOf {T = S} (Err x) y → IsErrOf {T = T} (Err x) y
turned x y e = ap Err (cc)

pub returns-in_err-merged-clause-large : goal.returns-in_err-merged-clause-large
returns-in_err-merged-clause-large c =
    let p = err_from_is_err_and c.from_residual-in_err-merged.result c.from_residual-in_err-merged.ensures.1 in
    let within = within-both (common (plain_path c.args.p.now) (plain_path c.args.q.now)) (map plain_elem (elems_in c.loop-i.elems))
    c.as_slice-xs.result.now c.as_slice-ys.result.now c.loop-i.i c.args.p.now.end c.args.q.now.end c.loop-i.invariant.made c.requires c.loop-i-test.true in
    let xs = drop_item plain_elem c.as_slice-xs.result.now c.loop-i.i c.index-xs-i.result c.loop-i-test.true c.index-xs-i.is in
    let ys = drop_item plain_elem c.as_slice-ys.result.now c.loop-i.i c.index-ys-i.result within c.index-ys-i.is in
    let made = rw (xs, ys) at c.loop-i.invariant.made in
    rw (p.1, p.2) (λ e. large-merged (common (plain_path c.args.p.now) (plain_path c.args.q.now)) (map plain_elem (elems_in c.loop-i.elems))
    (plain_elem c.index-xs-i.result) (plain_elem c.index-ys-i.result)
    (fronted (map plain_elem (drop (c.loop-i.i + 1) c.as_slice-xs.result.now)) (end c.args.p.now.end))
    (fronted (map plain_elem (drop (c.loop-i.i + 1) c.as_slice-ys.result.now)) (end c.args.q.now.end))
    made c.requires (c.in_err-merged.ensures.large (turned _ _ e)))

pub returns-then-nodes-gt-MOST_NODES-clause-large : goal.returns-then-nodes-gt-MOST_NODES-clause-large
returns-then-nodes-gt-MOST_NODES-clause-large c =
    let within = within-both (common (plain_path c.args.p.now) (plain_path c.args.q.now)) (map plain_elem (elems_in c.loop-i.elems))
    c.as_slice-xs.result.now c.as_slice-ys.result.now c.loop-i.i c.args.p.now.end c.args.q.now.end c.loop-i.invariant.made c.requires c.loop-i-test.true in
    let xs = drop_item plain_elem c.as_slice-xs.result.now c.loop-i.i c.index-xs-i.result c.loop-i-test.true c.index-xs-i.is in
    let ys = drop_item plain_elem c.as_slice-ys.result.now c.loop-i.i c.index-ys-i.result within c.index-ys-i.is in
    let made = rw (xs, ys) at c.loop-i.invariant.made in
    let C = common (plain_path c.args.p.now) (plain_path c.args.q.now) in
    let zs = map plain_elem (elems_in c.loop-i.elems) in
    let p = fronted (map plain_elem (drop (c.loop-i.i + 1) c.as_slice-xs.result.now)) (end c.args.p.now.end) in
    let q = fronted (map plain_elem (drop (c.loop-i.i + 1) c.as_slice-ys.result.now)) (end c.args.q.now.end) in
    let alike = some-alike (plain_elem c.index-xs-i.result) (plain_elem c.index-ys-i.result) p q (some-left C zs _ made c.requires) in
    let more = common-more C zs (plain_elem c.index-xs-i.result) (plain_elem c.index-ys-i.result) p q made alike in
    let few = common-nodes C (zs ++ (merged (plain_elem c.index-xs-i.result) (plain_elem c.index-ys-i.result) ∷ [])) (common p q) more c.requires in
    let sum = sum_nodes-push zs (merged (plain_elem c.index-xs-i.result) (plain_elem c.index-ys-i.result)) in
    λ e. inl (omega (arith, few, sum, c.in_ok-merged.ensures.ok.nodes, c.loop-i.invariant.nodes, c.if-nodes-gt-MOST_NODES.true))

pub loop-i-preserved : goal.loop-i-preserved
loop-i-preserved c =
    let within = within-both (common (plain_path c.args.p.now) (plain_path c.args.q.now)) (map plain_elem (elems_in c.loop-i.elems))
    c.as_slice-xs.result.now c.as_slice-ys.result.now c.loop-i.i c.args.p.now.end c.args.q.now.end c.loop-i.invariant.made c.requires c.loop-i-test.true in
    let xs = drop_item plain_elem c.as_slice-xs.result.now c.loop-i.i c.index-xs-i.result c.loop-i-test.true c.index-xs-i.is in
    let ys = drop_item plain_elem c.as_slice-ys.result.now c.loop-i.i c.index-ys-i.result within c.index-ys-i.is in
    let made = rw (xs, ys) at c.loop-i.invariant.made in
    let C = common (plain_path c.args.p.now) (plain_path c.args.q.now) in
    let zs = map plain_elem (elems_in c.loop-i.elems) in
    let p = fronted (map plain_elem (drop (c.loop-i.i + 1) c.as_slice-xs.result.now)) (end c.args.p.now.end) in
    let q = fronted (map plain_elem (drop (c.loop-i.i + 1) c.as_slice-ys.result.now)) (end c.args.q.now.end) in
    let alike = some-alike (plain_elem c.index-xs-i.result) (plain_elem c.index-ys-i.result) p q (some-left C zs _ made c.requires) in
    let more = common-more C zs (plain_elem c.index-xs-i.result) (plain_elem c.index-ys-i.result) p q made alike in
    let sum = sum_nodes-push zs (merged (plain_elem c.index-xs-i.result) (plain_elem c.index-ys-i.result)) in
    let new : map plain_elem (elems_in c.push.new.self) ≡ zs ++ (merged (plain_elem c.index-xs-i.result) (plain_elem c.index-ys-i.result) ∷ []) =
    ap (map plain_elem) c.in_ok-push.ensures.ok
    ∙ (map-append plain_elem (elems_in c.loop-i.elems) (c.in_ok-merged.merged.elem ∷ [])
    ∙ ap (λ x. zs ++ (x ∷ [])) c.in_ok-merged.ensures.ok.elem) in record {
      made = more ∙ ap (λ ws. all_fronted ws (common p q)) (sym new);
      nodes = omega (arith, ap sum_nodes new, sum, c.in_ok-merged.ensures.ok.nodes, c.loop-i.invariant.nodes);
      few = c.if-nodes-gt-MOST_NODES.false;
    }

pub common_end-requires : goal.common_end-requires
common_end-requires c =
    let xs = drop_end plain_elem c.as_slice-xs.result.now c.loop-i.i c.loop-i-test.false in
    let past = past-both (common (plain_path c.args.p.now) (plain_path c.args.q.now)) (map plain_elem (elems_in c.loop-i.elems))
    c.as_slice-xs.result.now c.as_slice-ys.result.now c.loop-i.i c.args.p.now.end c.args.q.now.end c.loop-i.invariant.made c.requires c.loop-i-test.false in
    let ys = drop_end plain_elem c.as_slice-ys.result.now c.loop-i.i past in
    let made = rw (xs, ys) at c.loop-i.invariant.made in
    some-left (common (plain_path c.args.p.now) (plain_path c.args.q.now)) (map plain_elem (elems_in c.loop-i.elems)) _ made c.requires

pub returns-clause-ok : goal.returns-clause-ok
returns-clause-ok c =
    let xs = drop_end plain_elem c.as_slice-xs.result.now c.loop-i.i c.loop-i-test.false in
    let past = past-both (common (plain_path c.args.p.now) (plain_path c.args.q.now)) (map plain_elem (elems_in c.loop-i.elems))
    c.as_slice-xs.result.now c.as_slice-ys.result.now c.loop-i.i c.args.p.now.end c.args.q.now.end c.loop-i.invariant.made c.requires c.loop-i-test.false in
    let ys = drop_end plain_elem c.as_slice-ys.result.now c.loop-i.i past in
    let made = rw (xs, ys) at c.loop-i.invariant.made in
    ap (λ p. and_path p no_paths) (plain_path-made c.loop-i.elems c.common_end.result ∙ ap (λ zs. fronted zs (end c.common_end.result)) (plain_elems-at c.loop-i.elems))
    ∙ (sym (all_fronted-one (map plain_elem (elems_in c.loop-i.elems)) (end c.common_end.result))
    ∙ (ap (all_fronted (map plain_elem (elems_in c.loop-i.elems))) (sym c.common_end.ensures) ∙ sym made))
