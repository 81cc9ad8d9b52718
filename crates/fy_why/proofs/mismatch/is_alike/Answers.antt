use Rattle.std.proofs.Common.{◌≡◌, ◌≤◌, length, map, sym, ap, ◌∙◌, arith}
use Rattle.std.proofs.lemmas.List.{length-map}
use Rattle.fy_types.specs.Paths.{PlainPath, end}
use Rattle.fy_types.specs.Reading.{fronted, plain_elem, plain_path}
use Rattle.fy_types.proofs.ReadLemmas.{plain_path-at}
use Rattle.fy_why.specs.Types.{is_alike}
use Rattle.fy_why.proofs.MismatchLemmas.{alike-end, alike-lengths, ends-low}
use Rattle.fy_why.proofs.mismatch.is_alike.Goals as goal

pub returns-then-xs-ys : goal.returns-then-xs-ys
returns-then-xs-ys c =
    let p = c.args.p.now in
    let q = c.args.q.now in
    let xs = c.as_slice-xs.result.now in
    let ys = c.as_slice-ys.result.now in
    let at_p : plain_path p ≡ fronted (map plain_elem xs) (end p.end) = plain_path-at p ∙ ap (λ zs. fronted zs (end p.end)) c.as_slice-xs.ensures.reading in
    let at_q : plain_path q ≡ fronted (map plain_elem ys) (end q.end) = plain_path-at q ∙ ap (λ zs. fronted zs (end q.end)) c.as_slice-ys.ensures.reading in
    sym (ap (λ (x : PlainPath). is_alike x (plain_path q)) at_p
    ∙ (ap (is_alike (fronted (map plain_elem xs) (end p.end))) at_q
    ∙ alike-lengths (map plain_elem xs) (map plain_elem ys) p.end q.end (λ same. c.if-xs-ys.true (sym (length-map xs plain_elem) ∙ (same ∙ length-map ys plain_elem)))))

pub returns : goal.returns
returns c =
    let xs = c.as_slice-xs.result.now in
    let ys = c.as_slice-ys.result.now in
    let i = c.loop-i.i in
    let h : length xs ≤ i = omega (arith, c.loop-i-test.false) in
    let g : length ys ≤ i = omega (arith, c.loop-i-test.false, c.if-xs-ys.false) in
    ends-low c.is_end_below.result c.args.p.now.end c.args.q.now.end c.is_end_below.ensures
    ∙ (sym (alike-end xs ys i c.args.p.now.end c.args.q.now.end h g) ∙ c.loop-i.invariant)
