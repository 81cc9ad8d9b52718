use Rattle.std.proofs.Common.{◌+◌, ◌++◌, ◌≡◌, [], map, drop, sym, ap, ◌∙◌, subst, add-one}
use Rattle.fy_types.specs.Paths.{end}
use Rattle.fy_types.specs.Reading.{plain_elem, plain_path, plain_paths, paths_from, front, fronted, a_call, a_field}
use Rattle.fy_types.proofs.ReadLemmas.{plain_path-at, plain_elem-Call, plain_elem-Field}
use Rattle.fy_types.proofs.Steps.{drop_item, drop_end}
use Rattle.fy_order.specs.Levels.{AreAt, IsGrown, all_tagged, inner_from, met_in}
use Rattle.fy_order.proofs.LevelLemmas.{ArePlaced, placed-none, placed-more, placed-at, placed-grown}
use Rattle.fy_order.proofs.levels.places_of.Goals as goal
use Rattle.fy_order.proofs.levels.places_of.Goals.{in-Call+in_ok-reserve_exact+in_ok-add_places, in_default}

pub loop-tag-init : goal.loop-tag-init
loop-tag-init c =
    rw (c.new-places.ensures.items, plain_path-at c.args.path.now, c.as_slice-elem-items.ensures.reading)
    (placed-none (met_in c.args.met.now) [] (inner_from 0 (fronted (map plain_elem c.as_slice-elem-items.result.now) (end c.args.path.now.end))))

pub loop-tag-preserved : goal.loop-tag-preserved
loop-tag-preserved c =
    let n = c.loop-tag.tag in
    let T = met_in c.args.met.now in
    let U = met_in c.loop-tag.met in
    let all = inner_from 0 (plain_path c.args.path.now) in
    let more = fronted (map plain_elem (drop (n + 1) c.as_slice-elem-items.result.now)) (end c.args.path.now.end) in
    let rest = drop_item plain_elem c.as_slice-elem-items.result.now n c.elem-item.result c.loop-tag-test.true c.elem-item.is in
    let now : ArePlaced T U [] c.loop-tag.places.items (inner_from n (front (plain_elem c.elem-item.result) more)) all = rw rest at c.loop-tag.invariant in
    elim c.match-elem.branch [
      | in-Call+in_ok-reserve_exact+in_ok-add_places w ↦
          let V = met_in w.add_places.new.met in
          let D = plain_paths w.in-Call.domain.value in
          let is : plain_elem c.elem-item.result ≡ a_call D = rw w.in-Call.is (plain_elem-Call w.in-Call.domain) in
          let reads : paths_from (map plain_path w.as_slice.result.now) ≡ D = sym w.as_slice.ensures.reading ∙ ap plain_paths w.deref-in-Call.ensures in
          let left = subst (λ k. ArePlaced T U [] c.loop-tag.places.items (all_tagged n D ++ inner_from k more) all) (sym (add-one n)) (rw is at now) in
          let grown = subst (λ P. IsGrown U V (all_tagged n P)) reads w.in_ok-add_places.ensures.grown in
          rw (w.met-is, w.places-is)
          (placed-more T U V [] c.loop-tag.places.items w.add_places.new.places.items (all_tagged n D) (inner_from (n + 1) more) all left
          (λ ts are. subst (λ P. AreAt V w.add_places.new.places.items (ts ++ all_tagged n P)) reads
          (w.in_ok-add_places.ensures.at ts (subst (λ ks. AreAt U ks ts) (sym w.in_ok-reserve_exact.ensures.items) are))) grown)
      | in_default w ↦
          let is : plain_elem c.elem-item.result ≡ a_field w.in_default.field-0 = rw w.in_default.is (plain_elem-Field w.in_default.field-0) in
          rw (w.met-is, w.places-is)
          (subst (λ k. ArePlaced T U [] c.loop-tag.places.items (inner_from k more) all) (sym (add-one n)) (rw is at now))
    ]

pub returns-clause-at : goal.returns-clause-at
returns-clause-at c =
    let none = drop_end plain_elem c.as_slice-elem-items.result.now c.loop-tag.tag c.loop-tag-test.false in
    placed-at (met_in c.args.met.now) (met_in c.loop-tag.met) [] c.loop-tag.places.items (inner_from 0 (plain_path c.args.path.now))
    (rw none at c.loop-tag.invariant) [] tt

pub returns-clause-grown : goal.returns-clause-grown
returns-clause-grown c =
    let none = drop_end plain_elem c.as_slice-elem-items.result.now c.loop-tag.tag c.loop-tag-test.false in
    placed-grown (met_in c.args.met.now) (met_in c.loop-tag.met) [] c.loop-tag.places.items (inner_from 0 (plain_path c.args.path.now))
    (rw none at c.loop-tag.invariant)
