use Rattle.std.proofs.Common.{Bool, false, get_or, length, ◌≡◌, ◌+◌, map, drop, sym, ap, ◌∙◌, arith}
use Rattle.fy_types.specs.Paths.{append}
use Rattle.fy_types.specs.Reading.{plain_path, plain_paths, paths_in, paths_from}
use Rattle.fy_types.proofs.Laws.{append-none}
use Rattle.fy_types.proofs.ReadLemmas.{plain_paths-at}
use Rattle.fy_types.proofs.Steps.{drop_item, drop_end}
use Rattle.fy_derive.specs.Least.{rests_of_call}
use Rattle.fy_order.specs.Demands.{takes, takes_argument}
use Rattle.fy_order.proofs.DemandLemmas.{kept-one, rest-taken, rest-left, takes-at, takes-length}
use Rattle.fy_order.proofs.demands.rests_of_takers.Goals as goal
use Rattle.fy_order.proofs.demands.rests_of_takers.Goals.{then-place-taken+then-taken-place+in_ok-copy_from+in_ok-push, else-place-taken}
use Rattle.fy_order.proofs.demands.rests_of_takers.Goals.{else-place-taken-via-then-place-taken+else-taken-place, else-place-taken-via-else-place-taken}

pub loop-place-preserved : goal.loop-place-preserved
loop-place-preserved c Q e =
    let items = c.as_slice-path-items.result.now in
    let k = c.loop-place.place in
    let p = plain_path c.path-item.result in
    let more = rests_of_call Q (paths_from (map plain_path (drop (k + 1) items))) in
    let old = paths_from (map plain_path (paths_in c.loop-place.rests)) in
    let flags : c.args.taken.now ≡ takes Q (paths_from (map plain_path items)) = e ∙ ap (takes Q) c.as_slice-path-items.ensures.reading in
    let long : length c.args.taken.now ≡ length items = ap length flags ∙ takes-length Q items in
    let flag : (b : Bool) → get_or c.args.taken.now k b ≡ takes_argument Q p =
    λ b. ap (λ ts. get_or ts k b) flags ∙ takes-at Q items k c.path-item.result b c.loop-place-test.true c.path-item.is in
    let split = ap (λ ps. append old (rests_of_call Q (paths_from ps)))
    (drop_item plain_path items k c.path-item.result c.loop-place-test.true c.path-item.is) in
    let left : takes_argument Q p ≡ false → append old more ≡ rests_of_call Q (plain_paths c.args.paths.now) =
    λ no_call. ap (λ P. append old (append P more)) (sym (rest-left Q p (sym no_call))) ∙ (sym split ∙ c.loop-place.invariant Q e) in
    elim c.if-place-taken.branch [
      | then-place-taken+then-taken-place+in_ok-copy_from+in_ok-push w ↦
          ap (λ xs. append (paths_from (map plain_path xs)) more) (ap paths_in w.rests-is ∙ w.in_ok-push.ensures.ok)
          ∙ (kept-one (paths_in c.loop-place.rests) w.in_ok-copy_from.field-0 _ more w.in_ok-copy_from.ensures
          ∙ (ap (λ P. append old (append P more)) (sym (rest-taken Q p (sym w.if-taken-place.true ∙ flag _)))
          ∙ (sym split ∙ c.loop-place.invariant Q e)))
      | else-place-taken w ↦
          ap (λ xs. append (paths_from (map plain_path xs)) more) (ap paths_in w.rests-is)
          ∙ elim w.else-place-taken.branch [
            | else-place-taken-via-then-place-taken+else-taken-place v ↦ left (sym (flag _) ∙ v.if-taken-place.false)
            | else-place-taken-via-else-place-taken v ↦ absurd (omega (arith, long, v.if-place-taken.false, c.loop-place-test.true))
          ]
    ]

pub returns : goal.returns
returns c Q e =
    plain_paths-at c.loop-place.rests
    ∙ (sym (append-none (paths_from (map plain_path (paths_in c.loop-place.rests))))
    ∙ (ap (λ ps. append (paths_from (map plain_path (paths_in c.loop-place.rests))) (rests_of_call Q (paths_from ps)))
    (sym (drop_end plain_path c.as_slice-path-items.result.now c.loop-place.place c.loop-place-test.false))
    ∙ c.loop-place.invariant Q e))
