use Rattle.std.proofs.Common.{ℕ, ◌+◌, ◌++◌, ◌∷◌, [], List, map, drop, sym, subst}
use Rattle.fy_types.specs.Reading.{plain_path, paths_from}
use Rattle.fy_types.proofs.Steps.{drop_item, drop_end}
use Rattle.fy_order.specs.Levels.{PlainTagged, AreAt, all_tagged, met_in}
use Rattle.fy_order.proofs.LevelLemmas.{ArePlaced, are_at-grown, are_at-push, placed-none, placed-more, placed-at, placed-grown}
use Rattle.fy_order.proofs.levels.add_places.Goals as goal

pub loop-path-init : goal.loop-path-init
loop-path-init c = placed-none (met_in c.args.met.now) c.args.places.now.items (all_tagged c.args.tag (paths_from (map plain_path c.args.paths.now)))

pub loop-path-preserved : goal.loop-path-preserved
loop-path-preserved c =
    let x : PlainTagged = record { tag = c.args.tag; path = plain_path c.path-item.result } in
    let U = met_in c.loop-path.met in
    let V = met_in c.place_of.new.self in
    let js = c.loop-path.places.items in
    let grown = c.in_ok-place_of.ensures.grown in
    let rest = drop_item plain_path c.args.paths.now c.loop-path.path-index c.path-item.result c.loop-path-test.true c.path-item.is in
    placed-more (met_in c.args.met.now) U V c.args.places.now.items js c.push.new.self.items (x ∷ [])
    (all_tagged c.args.tag (paths_from (map plain_path (drop (c.loop-path.path-index + 1) c.args.paths.now))))
    (all_tagged c.args.tag (paths_from (map plain_path c.args.paths.now)))
    (subst (λ ps. ArePlaced (met_in c.args.met.now) U c.args.places.now.items js (all_tagged c.args.tag (paths_from ps)) (all_tagged c.args.tag (paths_from (map plain_path c.args.paths.now)))) rest c.loop-path.invariant)
    (λ ts are. subst (λ ks. AreAt V ks (ts ++ (x ∷ []))) (sym {A = List ℕ} c.in_ok-push.ensures.items)
    (are_at-push V js ts c.in_ok-place_of.field-0 x (are_at-grown U V (x ∷ []) grown js ts are) c.in_ok-place_of.ensures.at))
    grown

pub returns-clause-at : goal.returns-clause-at
returns-clause-at c =
    let none = drop_end plain_path c.args.paths.now c.loop-path.path-index c.loop-path-test.false in
    placed-at (met_in c.args.met.now) (met_in c.loop-path.met) c.args.places.now.items c.loop-path.places.items
    (all_tagged c.args.tag (paths_from (map plain_path c.args.paths.now)))
    (rw none at c.loop-path.invariant)

pub returns-clause-grown : goal.returns-clause-grown
returns-clause-grown c =
    let none = drop_end plain_path c.args.paths.now c.loop-path.path-index c.loop-path-test.false in
    placed-grown (met_in c.args.met.now) (met_in c.loop-path.met) c.args.places.now.items c.loop-path.places.items
    (all_tagged c.args.tag (paths_from (map plain_path c.args.paths.now)))
    (rw none at c.loop-path.invariant)
