use Rattle.std.proofs.Common.{◌<◌, ◌≡◌, length, map, drop, sym, ap, ◌∙◌, arith, rules}
use Rattle.fy_types.specs.declared.paths.Path.{out-Path}
use Rattle.fy_types.specs.Paths.{append, end}
use Rattle.fy_types.specs.Reading.{a_call, fronted, plain_elem, plain_paths}
use Rattle.fy_types.proofs.Laws.{append-none}
use Rattle.fy_types.proofs.ReadLemmas.{plain_elem-Call}
use Rattle.fy_order.proofs.DemandLemmas.{path-end, path-front}
use Rattle.fy_causes.specs.Causes.{head_of}
use Rattle.fy_causes.proofs.WalkLemmas.{head-made, head-pushed}
use Rattle.fy_causes.proofs.causes.add_head.Goals as goal
use Rattle.fy_causes.proofs.causes.add_head.Goals.{in-Call+in_ok-clone-in-Call, in-Field}

pub returns-then-elems-eq0 : goal.returns-then-elems-eq0
returns-then-elems-eq0 c =
    let ends = path-end c.args.path.now c.as_slice-elems.result.now c.as_slice-elems.ensures.reading (omega arith) in
    sym (ap (λ p. append (plain_paths c.args.heads.now) (head_of p)) ends ∙ append-none (plain_paths c.args.heads.now))

pub returns : goal.returns
returns c =
    let xs = c.as_slice-elems.result.now in
    let x = c.index-elems-0.result in
    let some : 0 < length xs = omega arith in
    let same : plain_elem c.match-elems.elem ≡ plain_elem x = elim c.match-elems.branch [
      | in-Call+in_ok-clone-in-Call w ↦ (let d : w.in_ok-clone-in-Call.field-0.value ≡ w.in-Call.domain.value = search rules in
          ap plain_elem w.elem-is
          ∙ (plain_elem-Call w.in_ok-clone-in-Call.field-0
          ∙ (ap (λ y. a_call (plain_paths y)) d ∙ sym (ap plain_elem w.in-Call.is ∙ plain_elem-Call w.in-Call.domain))))
      | in-Field w ↦ ap plain_elem (w.elem-is ∙ sym w.in-Field.is)
    ] in
    let begins = path-front c.args.path.now xs x c.as_slice-elems.ensures.reading some c.index-elems-0.is in
    head-pushed c.args.heads.now c.push.new.self c.args.path.now c.in_ok-after.field-0 (plain_elem x)
    (fronted (map plain_elem (drop 1 xs)) (end (out-Path c.args.path.now).end)) c.in_ok-push.ensures.ok
    (head-made c.new.result c.in_ok-after.field-0 (plain_elem c.match-elems.elem) (plain_elem x) c.new.ensures c.in_ok-after.ensures same) begins
