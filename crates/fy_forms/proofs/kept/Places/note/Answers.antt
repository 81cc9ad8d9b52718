use Rattle.std.proofs.Common.{◌≡◌, ◌%◌, length, get_or, set, sym, ap, ◌∙◌, subst, rules}
use Rattle.fy_forms.specs.Keys.{IsNoted}
use Rattle.fy_forms.proofs.KeyLemmas.{noted-slot}
use Rattle.fy_forms.proofs.kept.Places.note.Goals as goal

pub returns : goal.returns
returns c =
    let lists = c.args.self.now.lists.items in
    let number = c.args.number in
    let v = c.index_mut.result.now in
    let long : c.len.result ≡ length lists = search rules in
    let is : c.slot_of-slot.result ≡ number % length lists = c.slot_of-slot.ensures ∙ ap (λ n. number % n) long in
    subst (λ i. IsNoted lists (set lists i c.push.new.self) number c.args.place) (sym is)
    (noted-slot lists number c.args.place v c.push.new.self c.requires
    (subst (λ i. v ≡ get_or lists i v) is c.index_mut.ensures.value) c.in_ok-push.ensures.items)
