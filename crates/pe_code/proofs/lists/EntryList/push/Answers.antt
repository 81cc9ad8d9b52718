use Rattle.std.proofs.Common.{◌≡◌, sym, ◌∙◌, subst, ap}
use Rattle.std.specs.List.{insert}
use Rattle.pe_code.specs.Entries.{AreInOrder, with_entry}
use Rattle.pe_code.proofs.EntryLemmas.{with_entry-insert, order-with_entry}
use Rattle.pe_code.proofs.lists.EntryList.push.Goals as goal
use Rattle.pe_code.proofs.lists.EntryList.push.Goals.{In_ok-insert}

-- the vector behind the call
pushed : (c : In_ok-insert) → c.insert.new.self.items ≡ with_entry c.args.item c.self.inside.items.items
pushed c =
    let whole = c.as_slice.ensures.value in
    let place = with_entry-insert c.args.item c.as_slice.result.now c.place_of-place.result c.place_of-place.ensures.within c.place_of-place.ensures.splits.0 c.place_of-place.ensures.splits.1 in
    c.in_ok-insert.ensures.items ∙ (sym (ap (λ l. insert l c.place_of-place.result c.args.item) whole) ∙ (sym place ∙ ap (with_entry c.args.item) whole))

pub invariant_of-self-2 : goal.invariant_of-self-2
invariant_of-self-2 c = subst AreInOrder (sym (pushed c)) (order-with_entry c.args.item c.self.inside.items.items c.self.invariant)

pub returns-clause-ok : goal.returns-clause-ok
returns-clause-ok c = pushed c ∙ ap (with_entry c.args.item) c.self.view_is
