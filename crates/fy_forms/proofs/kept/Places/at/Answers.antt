use Rattle.std.proofs.Common.{◌≡◌, ◌%◌, length, get_or, ap, ◌∙◌, subst, rules}
use Rattle.std.proofs.lemmas.Nat.{mod_below}
use Rattle.fy_forms.proofs.KeyLemmas.{list-found}
use Rattle.fy_forms.proofs.kept.Places.at.Goals as goal

pub returns : goal.returns
returns c =
    let lists = c.args.self.now.lists.items in
    let number = c.args.number in
    let v = c.index.result.now in
    let long : c.len.result ≡ length lists = search rules in
    let is : c.slot_of.result ≡ number % length lists = c.slot_of.ensures ∙ ap (λ n. number % n) long in
    c.as_slice.ensures.value
    ∙ list-found lists (number % length lists) v (mod_below number (length lists) c.requires)
    (subst (λ i. v ≡ get_or lists i v) is c.index.ensures)
