use Rattle.std.proofs.Common.{◌≡◌, Some, slice_get, sym, ap, ◌∙◌, subst}
use Rattle.fy_phrase.specs.Premises.{given_type}
use Rattle.pe_shapes.specs.Contexts.{by_shapes, by_type, plain_bound, bounds}
use Rattle.pe_shapes.specs.Shown.{all_shown, AreIn}
use Rattle.pe_shapes.specs.Standing.{AreJust, AreMade}
use Rattle.pe_shapes.proofs.Standings.{AreFit-at, AreFit-past, bound-at}
use Rattle.pe_shapes.proofs.conclusion.shapes_of_variable.Goals as goal

pub returns-in_ok-all-in-Some-Shapes-clause-made : goal.returns-in_ok-all-in-Some-Shapes-clause-made
returns-in_ok-all-in-Some-Shapes-clause-made c =
    let set = c.in-Some-Shapes.set.now in
    let at : slice_get (bounds c.args.context.now) c.args.variable ≡ Some (by_shapes set) =
    sym c.in-Some-Shapes.ensures ∙ ap (λ b. Some (plain_bound b)) c.in-Some-Shapes.field-0-is in
    λ G A fit e. subst (λ ks. AreJust (all_shown c.args.numbers.now ks) A) (sym c.in_ok-all-in-Some-Shapes.ensures) (AreFit-at c.args.variable (by_shapes set) A fit at e)

pub returns-in_ok-all-in-Some-Shapes-clause-within : goal.returns-in_ok-all-in-Some-Shapes-clause-within
returns-in_ok-all-in-Some-Shapes-clause-within c =
    let set = c.in-Some-Shapes.set.now in
    let at : slice_get (bounds c.args.context.now) c.args.variable ≡ Some (by_shapes set) =
    sym c.in-Some-Shapes.ensures ∙ ap (λ b. Some (plain_bound b)) c.in-Some-Shapes.field-0-is in
    subst (AreIn c.args.numbers.now) (sym c.in_ok-all-in-Some-Shapes.ensures) (bound-at c.args.numbers.now (bounds c.args.context.now) c.args.variable (by_shapes set) c.requires at)

pub returns-in-Some-Given-clause-made : goal.returns-in-Some-Given-clause-made
returns-in-Some-Given-clause-made c =
    let T = given_type c.in-Some-Given.given in
    let at : slice_get (bounds c.args.context.now) c.args.variable ≡ Some (by_type T) =
    sym c.in-Some-Given.ensures ∙ ap (λ b. Some (plain_bound b)) c.in-Some-Given.field-0-is in
    λ G A fit e. subst (AreMade c.shapes_of_given.result c.shapes_of_given.new.numbers) (AreFit-at c.args.variable (by_type T) A fit at e) c.shapes_of_given.ensures.made

pub returns-in-None-clause-made : goal.returns-in-None-clause-made
returns-in-None-clause-made c = λ G A fit e. absurd (AreFit-past c.args.variable A fit (sym c.in-None.ensures) e)
