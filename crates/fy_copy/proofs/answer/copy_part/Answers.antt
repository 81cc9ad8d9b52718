use Rattle.std.proofs.Common.{sym, ap, ◌∙◌}
use Rattle.std.specs.Prelude.{Some}
use Rattle.fy_phrase.specs.Reads.{reads}
use Rattle.fy_phrase.specs.Copy.{part_at}
use Rattle.fy_copy.proofs.StoreLemmas.{part_at-in, part_at-past}
use Rattle.fy_copy.proofs.answer.copy_part.Goals as goal

pub returns-in_ok-copy_phrase-in-Some : goal.returns-in_ok-copy_phrase-in-Some
returns-in_ok-copy_phrase-in-Some c =
    let h = c.in-Some.ensures.lookup in
    ap Some c.in_ok-copy_phrase-in-Some.ensures ∙ ap (λ p. Some (reads p)) h.1 ∙ sym (part_at-in c.as_slice.result.now _ _ h.3.0) ∙ ap (λ ts. part_at ts c.args.i) (sym c.as_slice.ensures.reading)

pub returns-in-None : goal.returns-in-None
returns-in-None c =
    sym (part_at-past c.as_slice.result.now _ c.in-None.ensures.lookup.3) ∙ ap (λ ts. part_at ts c.args.i) (sym c.as_slice.ensures.reading)
