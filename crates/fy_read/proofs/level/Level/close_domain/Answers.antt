use Rattle.std.proofs.Common.{map, sym, ap, ◌∙◌}
use Rattle.std.proofs.lemmas.List.{map_push}
use Rattle.fy_types.specs.Reading.{plain_type}
use Rattle.fy_read.specs.OpenTypes.{meet_all, arrows_nesting}
use Rattle.fy_read.proofs.LevelLemmas.{closed_arrows}
use Rattle.fy_read.proofs.level.Level.close_domain.Goals as goal

pub invariant_of-self-2-clause-arrows_nest : goal.invariant_of-self-2-clause-arrows_nest
invariant_of-self-2-clause-arrows_nest c =
    let s = c.args.self.now in
    closed_arrows (map plain_type s.domains.items) (map plain_type s.members.items)
    (plain_type c.in_ok-domain.domain) s.arrows c.arrow_nesting-nesting.result c.max-self.result
    c.requires.some (c.in_ok-domain.ensures.ok
    ∙ ap (λ v. meet_all (map plain_type v.items)) c.replace-members.ensures.value) s.arrows_nest c.arrow_nesting-nesting.ensures c.max-self.ensures
    ∙ ap (arrows_nesting 0) (sym (ap (map plain_type) c.in_ok-push.ensures.items ∙ map_push plain_type s.domains.items c.in_ok-domain.domain))
