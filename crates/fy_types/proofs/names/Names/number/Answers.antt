use Rattle.std.proofs.Common.{sym, subst, ◌∙◌}
use Rattle.std.proofs.lemmas.List.{length-map}
use Rattle.fy_types.specs.Names.{AreNames, texts_of}
use Rattle.fy_types.proofs.NameLemmas.{number_of-found, has-texts, with_name-old, AreNames-with_name, number_of-new}
use Rattle.fy_types.proofs.names.Names.number.Goals as goal

pub returns-in-Some-clause-number : goal.returns-in-Some-clause-number
returns-in-Some-clause-number c = rw (← c.self.view_is) (number_of-found c.self.inside.texts.keys c.args.text.now c.in-Some.place c.in-Some.ensures.index)

pub returns-in-Some-clause-names : goal.returns-in-Some-clause-names
returns-in-Some-clause-names c =
    rw (← c.self.view_is) (sym (with_name-old _ c.args.text.now (sym (has-texts c.self.inside.texts.keys c.args.text.now) ∙ sym c.in-Some.ensures.found)))

pub invariant_of-self-2 : goal.invariant_of-self-2
invariant_of-self-2 c = subst AreNames (sym c.in_ok-add.ensures.ok) (AreNames-with_name _ c.args.text.now c.self.invariant)

pub returns-clause-number : goal.returns-clause-number
returns-clause-number c =
    let new = number_of-new (texts_of c.self.inside.texts.keys) c.args.text.now (sym (has-texts c.self.inside.texts.keys c.args.text.now) ∙ sym c.in_default.ensures.found) in
    rw (← c.self.view_is) (c.len-place.ensures.len ∙ sym (length-map c.self.inside.texts.keys _) ∙ sym new)

pub returns-clause-valid : goal.returns-clause-valid
returns-clause-valid c = invariant_of-self-2 c
