use Rattle.fy_image.proofs.Judging.{header_judged}
use Rattle.fy_image.proofs.read.read_header.Goals as goal

pub returns-clause-judged : goal.returns-clause-judged
returns-clause-judged c =
    let s = c.in_ok-stack_words in
    let w = c.in_ok-code_words in
    let t = c.in_ok-table_words in
    let n = c.in_ok-places in
    let z = c.in_ok-number_in in
    header_judged c.args.version _ _ _ _ _ _ s.stack_words w.code_words t.table_words n.places
    (s.ensures.taken, w.ensures.taken, t.ensures.taken, n.ensures.taken) (w.ensures.fits, t.ensures.fits, n.ensures.fits)
    (s.ensures.judged, w.ensures.judged, t.ensures.judged, n.ensures.judged, z.ensures.judged)
