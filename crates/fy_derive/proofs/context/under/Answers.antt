use Rattle.std.proofs.Common.{◌∷◌, refl, sym, ap, ◌∙◌, subst}
use Rattle.fy_phrase.specs.Premises.{given_type, plain_binder}
use Rattle.fy_derive.specs.Judging.{under}
use Rattle.fy_derive.specs.Shown.{AreIn, shown, all_shown}
use Rattle.fy_derive.specs.Contexts.{numbers}
use Rattle.fy_derive.proofs.Standings.{AreIn-kept, AreIn-cons, all_shown-kept}
use Rattle.fy_derive.proofs.ContextLemmas.{numbers-under}
use Rattle.fy_derive.proofs.StepLemmas.{under-first, under-none, first-in}
use Rattle.fy_derive.proofs.context.under.Goals as goal

pub returns-in-Nothing-clause-shown : goal.returns-in-Nothing-clause-shown
returns-in-Nothing-clause-shown c =
    let t = c.args.table.now in
    ap (λ b. under (plain_binder b) (all_shown t c.args.done.now) (all_shown t (numbers c.args.context.now))) (sym c.in-Nothing.is)

pub returns-in-Some-clause-shown : goal.returns-in-Some-clause-shown
returns-in-Some-clause-shown c =
    let t = c.args.table.now in
    let As = all_shown t (numbers c.args.context.now) in
    ap (all_shown t) (numbers-under _ c.in-Some.number.now _ refl)
    ∙ (under-first t c.args.done.now c.in-Some.number.now As c.in-Some.ensures.value
    ∙ ap (λ b. under (plain_binder b) (all_shown t c.args.done.now) As) (sym c.in-First.is))

pub returns-in-Some-clause-within : goal.returns-in-Some-clause-within
returns-in-Some-clause-within c =
    let t = c.args.table.now in
    subst (AreIn t) (sym (numbers-under _ c.in-Some.number.now _ refl))
    (AreIn-cons c.in-Some.number.now (first-in t c.args.done.now c.in-Some.number.now c.in-Some.ensures.value c.requires.done) c.requires.context)

pub returns-in-None-clause-shown : goal.returns-in-None-clause-shown
returns-in-None-clause-shown c =
    let t = c.args.table.now in
    let As = all_shown t (numbers c.args.context.now) in
    under-none t c.args.done.now As c.in-None.ensures.value
    ∙ ap (λ b. under (plain_binder b) (all_shown t c.args.done.now) As) (sym c.in-First.is)

pub returns-in_ok-number-in-Given-clause-shown : goal.returns-in_ok-number-in-Given-clause-shown
returns-in_ok-number-in-Given-clause-shown c =
    let u = c.number_of_given.new.table in
    let one = c.in_ok-number-in-Given.ensures in
    let As = all_shown c.args.table.now (numbers c.args.context.now) in
    ap (all_shown u) (numbers-under _ c.in_ok-number-in-Given.number _ refl)
    ∙ (ap (λ A. A ∷ all_shown u (numbers c.args.context.now)) one.stands
    ∙ (ap (λ Bs. given_type c.in-Given.given ∷ Bs) (all_shown-kept (numbers c.args.context.now) one.extends c.requires.context)
    ∙ ap (λ b. under (plain_binder b) (all_shown c.args.table.now c.args.done.now) As) (sym c.in-Given.is)))

pub returns-in_ok-number-in-Given-clause-within : goal.returns-in_ok-number-in-Given-clause-within
returns-in_ok-number-in-Given-clause-within c =
    let one = c.in_ok-number-in-Given.ensures in
    subst (AreIn c.number_of_given.new.table) (sym (numbers-under _ c.in_ok-number-in-Given.number _ refl))
    (AreIn-cons c.in_ok-number-in-Given.number one.within (AreIn-kept one.extends c.requires.context))
