use Rattle.std.proofs.Common.{map, sym, ◌∙◌, subst}
use Rattle.fy_phrase.specs.Reads.{reads}
use Rattle.fy_derive.specs.Tables.{type_at}
use Rattle.pe_shapes.specs.Contexts.{numbers_of}
use Rattle.pe_shapes.specs.Origins.{ComesFrom}
use Rattle.pe_shapes.specs.Shown.{all_shown, AreIn}
use Rattle.pe_shapes.specs.Standing.{AreJust}
use Rattle.pe_shapes.proofs.OriginLemmas.{comes_from}
use Rattle.pe_shapes.proofs.ShapeLemmas.{AreJust-as, AreJust-behind, AreJust-end, AreJust-fronted}
use Rattle.pe_shapes.proofs.Standings.{AreJust-set, set-in}
use Rattle.pe_shapes.proofs.conclusion.concluded.Goals as goal

pub fronted-requires : goal.fronted-requires
fronted-requires c = subst (AreIn c.args.numbers.now) (sym c.set_at.ensures) (set-in c.args.numbers.now (map numbers_of c.args.done.now) 0 c.requires.done)

pub rests-requires : goal.rests-requires
rests-requires c = subst (AreIn c.args.numbers.now) (sym c.set_at-in-Behind.ensures) (set-in c.args.numbers.now (map numbers_of c.args.done.now) 0 c.requires.done)

pub returns-in_ok-all-in-End-clause-made : goal.returns-in_ok-all-in-End-clause-made
returns-in_ok-all-in-End-clause-made c = λ G As A fit each e.
    let x = subst (λ o. ComesFrom o G As A) (sym c.in-End.ensures) (comes_from G (reads c.args.p.now) As A e) in
    AreJust-end (all_shown c.single.new.numbers c.in_ok-all-in-End.all.items) c.in-End.end x.0 A x.1 x.2 c.in_ok-all-in-End.ensures.shown

pub returns-in_ok-all-in-Front-clause-made : goal.returns-in_ok-all-in-Front-clause-made
returns-in_ok-all-in-Front-clause-made c = λ G As A fit each e.
    let x = subst (λ o. ComesFrom o G As A) (sym c.in-Front.ensures) (comes_from G (reads c.args.p.now) As A e) in
    AreJust-fronted c.in-Front.elem A (type_at As 0) x (all_shown c.args.numbers.now c.set_at.result.now) (all_shown c.fronted.new.numbers c.in_ok-all-in-Front.all.items)
    (subst (λ ks. AreJust (all_shown c.args.numbers.now ks) (type_at As 0)) (sym c.set_at.ensures) (AreJust-set 0 each)) c.in_ok-all-in-Front.ensures.shown

pub returns-in_ok-all-in-Behind-clause-made : goal.returns-in_ok-all-in-Behind-clause-made
returns-in_ok-all-in-Behind-clause-made c = λ G As A fit each e.
    let x = subst (λ o. ComesFrom o G As A) (sym c.in-Behind.ensures) (comes_from G (reads c.args.p.now) As A e) in
    let u = c.args.numbers.now in
    AreJust-behind c.in-Behind.elem (type_at As 0) A x (all_shown u c.set_at-in-Behind.result.now) (all_shown u c.in_ok-all-in-Behind.all.items)
    (subst (λ ks. AreJust (all_shown u ks) (type_at As 0)) (sym c.set_at-in-Behind.ensures) (AreJust-set 0 each))
    c.in_ok-all-in-Behind.ensures.has c.in_ok-all-in-Behind.ensures.known

pub returns-in_ok-all-in-First-clause-made : goal.returns-in_ok-all-in-First-clause-made
returns-in_ok-all-in-First-clause-made c = λ G As A fit each e.
    let x = subst (λ o. ComesFrom o G As A) (sym c.in-First.ensures) (comes_from G (reads c.args.p.now) As A e) in
    AreJust-as x (subst (λ ks. AreJust (all_shown c.args.numbers.now ks) (type_at As 0)) (sym (c.in_ok-all-in-First.ensures ∙ c.set_at-in-First.ensures)) (AreJust-set 0 each))

pub returns-in_ok-all-in-First-clause-within : goal.returns-in_ok-all-in-First-clause-within
returns-in_ok-all-in-First-clause-within c =
    subst (AreIn c.args.numbers.now) (sym (c.in_ok-all-in-First.ensures ∙ c.set_at-in-First.ensures)) (set-in c.args.numbers.now (map numbers_of c.args.done.now) 0 c.requires.done)

pub returns-in_ok-all-in-Second-clause-made : goal.returns-in_ok-all-in-Second-clause-made
returns-in_ok-all-in-Second-clause-made c = λ G As A fit each e.
    let x = subst (λ o. ComesFrom o G As A) (sym c.in-Second.ensures) (comes_from G (reads c.args.p.now) As A e) in
    AreJust-as x (subst (λ ks. AreJust (all_shown c.args.numbers.now ks) (type_at As 1)) (sym (c.in_ok-all-in-Second.ensures ∙ c.set_at-in-Second.ensures)) (AreJust-set 1 each))

pub returns-in_ok-all-in-Second-clause-within : goal.returns-in_ok-all-in-Second-clause-within
returns-in_ok-all-in-Second-clause-within c =
    subst (AreIn c.args.numbers.now) (sym (c.in_ok-all-in-Second.ensures ∙ c.set_at-in-Second.ensures)) (set-in c.args.numbers.now (map numbers_of c.args.done.now) 1 c.requires.done)
