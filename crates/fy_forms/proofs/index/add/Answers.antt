use Rattle.std.proofs.Common.{◌≡◌, ◌%◌, length, get_or, set, sym, ap, ◌∙◌, subst, rules}
use Rattle.fy_forms.specs.Keys.{IsGrown}
use Rattle.fy_forms.proofs.KeyLemmas.{grown-slot}
use Rattle.fy_forms.proofs.index.add.Goals as goal

pub returns : goal.returns
returns c =
    let lists = c.args.lists.now.items in
    let v = c.index_mut.result.now in
    let long : c.len.result ≡ length lists = search rules in
    let is : c.slot_of-slot.result ≡ c.key_of.result % length lists = c.slot_of-slot.ensures ∙ ap (λ n. c.key_of.result % n) long in
    subst (λ i. IsGrown lists (set lists i c.push.new.self) c.args.path) (sym is)
    (grown-slot lists c.key_of.result c.args.path v c.push.new.self c.requires c.key_of.ensures
    (subst (λ i. v ≡ get_or lists i v) is c.index_mut.ensures.value) c.in_ok-push.ensures.items)
