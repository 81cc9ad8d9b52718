use Rattle.std.proofs.Common.{◌≡◌, ◌<◌, ◌%◌, length, get_or, ap, ◌∙◌, subst, arith}
use Rattle.std.proofs.lemmas.Nat.{mod_below}
use Rattle.fy_forms.specs.Keys.{slot_at}
use Rattle.fy_forms.proofs.KeyLemmas.{list-found}
use Rattle.fy_forms.proofs.index.candidates.Goals as goal

pub returns : goal.returns
returns c =
    let lists = c.as_slice-lists.result.now in
    let key = c.args.key in
    let v = c.index-lists-slot_of.result in
    let some : 0 < length lists = omega (arith, c.if-lists-eq0.false) in
    c.as_slice.ensures.value
    ∙ (list-found lists (key % length lists) v (mod_below key (length lists) some)
    (subst (λ i. v ≡ get_or lists i v) c.slot_of.ensures c.index-lists-slot_of.is)
    ∙ ap (λ xs. slot_at xs key) c.as_slice-lists.ensures.value)
