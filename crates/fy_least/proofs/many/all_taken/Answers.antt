use Rattle.std.proofs.Common.{ap, ◌∙◌}
use Rattle.std.proofs.lemmas.Iterator.Adapters.{YieldsList-from_vec}
use Rattle.std.proofs.lemmas.Iterator.Consumers.{YieldsList-end}
use Rattle.fy_types.specs.declared.types.Atom.TheVariants.{Int}
use Rattle.fy_types.specs.Types.{atom}
use Rattle.fy_types.specs.Reading.{plain_type}
use Rattle.fy_derive.specs.Derivations.{sub}
use Rattle.fy_derive.specs.Reading.{derivations_in, plain_derivation}
use Rattle.fy_least.proofs.MadeLemmas.{all-given, all-parts, first-part, part-more}
use Rattle.fy_least.proofs.many.all_taken.Goals as goal

pub loop-part-init : goal.loop-part-init
loop-part-init c =
    first-part (plain_type c.args.ty.now) (sub (atom Int) (plain_derivation c.args.index)) (derivations_in c.new-premises.result) _
    c.in_ok-to_atom.field-0 c.new-premises.ensures c.in_ok-push.ensures.ok c.in_ok-to_atom.ensures

pub loop-part-preserved : goal.loop-part-preserved
loop-part-preserved c =
    part-more (plain_type c.args.ty.now) (sub (atom Int) (plain_derivation c.args.index)) c.loop-part.yielded c.in-Some.part
    (derivations_in c.loop-part.premises) _ c.in_ok-premise.premise c.loop-part.invariant c.in_ok-push-2.ensures.ok
    (c.in_ok-premise.ensures ∙ ap (λ T. sub T (plain_derivation c.in-Some.part.derivation)) c.in_ok-own.ensures)

pub returns : goal.returns
returns c =
    let began = c.into_iter-part-iterator.ensures.into_iter_gives in
    let all = (YieldsList-end (YieldsList-from_vec c.args.parts.items began.0 (began.1 ∙ c.args.parts.ok.0)) c.loop-part.yielded
    c.loop-part.part-iterator
    c.loop-part.yielded_by c.next.result c.next.new.self c.in-None.is c.next.ensures.steps).0 in
    all-parts (plain_type c.args.ty.now) (sub (atom Int) (plain_derivation c.args.index)) c.loop-part.yielded c.args.parts.items c.loop-part.premises
    c.loop-part.invariant (all-given c.loop-part.yielded c.args.parts.items all)
