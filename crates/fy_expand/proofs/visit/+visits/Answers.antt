use Rattle.std.proofs.Common.{◌≡◌, suc, ◌+◌, ◌*◌, sym, ap, ◌∙◌, rules}
use Rattle.fy_types.specs.Reading.{plain_types}
use Rattle.fy_phrase.specs.declared.phrase.Phrase.{the_lemmas}
use Rattle.fy_phrase.specs.Reads.{reads}
use Rattle.fy_phrase.specs.Sizes.{greatest_u64}
use Rattle.fy_phrase.specs.CoreLimits.{types_count, visits_of}
use Rattle.fy_expand.proofs.MeasureVisits.{types_count-at, visits-lam}
use Rattle.fy_expand.proofs.visit.+visits.Goals as goal

pub visits-returns-in-Lam : goal.visits-returns-in-Lam
visits-returns-in-Lam t c =
    let many = types_count (plain_types c.in-Lam.types) in
    let inner = visits_of (reads c.in-Lam.body.value) in
    let whole : visits_of (reads c.args.p.now) ≡ suc (many * inner) = search (rules, the_lemmas) in
    c.saturating_add.ensures
    ∙ ap (λ m. greatest_u64 (m + 1)) (c.saturating_mul.ensures ∙ ap (λ v. greatest_u64 (c.len.result * v)) (c.visits.ensures ∙ ap (λ p. greatest_u64 (visits_of (reads p))) c.deref.ensures))
    ∙ visits-lam c.len.result many inner (c.len.ensures ∙ sym (types_count-at c.in-Lam.types))
    ∙ sym (ap greatest_u64 whole)
