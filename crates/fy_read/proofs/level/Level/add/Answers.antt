use Rattle.std.proofs.Common.{◌≡◌, ◌+◌, length, map, sym, ap, ◌∙◌, arith, rules}
use Rattle.std.proofs.lemmas.List.{map_push}
use Rattle.fy_types.specs.Reading.{plain_type}
use Rattle.fy_read.specs.OpenTypes.{in_fields, greatest_nesting}
use Rattle.fy_types.specs.Nested.{type_nesting}
use Rattle.fy_read.proofs.LevelLemmas.{added_greatest}
use Rattle.fy_read.proofs.level.Level.add.Goals as goal

pub invariant_of-self-2-clause-members_nest : goal.invariant_of-self-2-clause-members_nest
invariant_of-self-2-clause-members_nest c =
    let s = c.args.self.now in
    let fields : c.len.result ≡ length c.args.self.now.fields.items = search rules in
    let nests : c.args.nesting + c.len.result ≡ type_nesting (plain_type c.args.part) + length c.args.self.now.fields.items = omega
    (arith, fields, c.requires.measured) in
    added_greatest (map plain_type s.members.items) s.fields.items (plain_type c.args.part) (plain_type c.in_ok-part.part) s.nesting
    (c.args.nesting + c.len.result) c.max-self.result
    (c.in_ok-part.ensures.ok ∙ ap
    (λ v. in_fields v.items (plain_type c.args.part)) c.replace-fields.ensures.value) s.members_nest nests c.max-self.ensures
    ∙ ap greatest_nesting (sym (ap (map plain_type) c.in_ok-push.ensures.items ∙ map_push plain_type s.members.items c.in_ok-part.part))
