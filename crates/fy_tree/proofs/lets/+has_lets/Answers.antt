use Rattle.std.proofs.Common.{◌≡◌, ◌+◌, ◌-◌, ◌<◌, ℕ, Bor, Option, Some, None, refl, sym, ap, ◌∙◌, arith}
use Rattle.std.specs.Prelude.{option_map}
use Rattle.fy_phrase.specs.Reads.{reads}
use Rattle.fy_phrase.specs.declared.phrase.Phrase.{Phrase}
use Rattle.fy_derive.specs.declared.derivation.Derivation.{Derivation}
use Rattle.fy_derive.specs.Derivations.{PlainDerivation}
use Rattle.fy_derive.specs.Reading.{plain_derivation}
use Rattle.fy_tree.specs.Reading.{raised_part, two_below, let_parts}
use Rattle.fy_tree.specs.Whole.{has_lets}
use Rattle.fy_tree.proofs.TreeLemmas.{part-nodes}
use Rattle.fy_tree.proofs.WholeLemmas.{lets-raised, lets-next, lets-other, lets-no_let, two-nodes}
use Rattle.fy_tree.proofs.lets.+has_lets.Goals as goal

pub has_lets-returns-then-count-eq0 : goal.has_lets-returns-then-count-eq0
has_lets-returns-then-count-eq0 t c = sym (ap (λ (n : ℕ). has_lets n (plain_derivation c.args.d.now) (reads c.args.p.now)) c.if-count-eq0.true)

pub has_lets-has_lets-requires : goal.has_lets-has_lets-requires
has_lets-has_lets-requires t c =
    let part : raised_part (plain_derivation c.args.d.now) ≡ Some (plain_derivation c.in-Some.inner.now) =
    sym c.part_of.ensures.part ∙ ap (option_map (λ (x : Bor Derivation). plain_derivation x.now)) c.in-Some.is in
    omega (arith, part-nodes (plain_derivation c.args.d.now) (plain_derivation c.in-Some.inner.now) part, c.decreases)

pub has_lets-has_let-requires : goal.has_lets-has_let-requires
has_lets-has_let-requires t c =
    let none : raised_part (plain_derivation c.args.d.now) ≡ None = sym c.part_of.ensures.part ∙ ap (option_map (λ (x : Bor Derivation). plain_derivation x.now)) c.in-None.is in
    (omega (arith, c.decreases), (omega (arith, c.if-count-eq0.false), none))

pub has_lets-returns-in-Some : goal.has_lets-returns-in-Some
has_lets-returns-in-Some t c =
    let d = plain_derivation c.args.d.now in
    let e = plain_derivation c.in-Some.inner.now in
    let part : raised_part d ≡ Some e = sym c.part_of.ensures.part ∙ ap (option_map (λ (x : Bor Derivation). plain_derivation x.now)) c.in-Some.is in
    let some : 0 < c.args.count = omega (arith, c.if-count-eq0.false) in
    c.has_lets.ensures ∙ lets-raised c.args.count d e (reads c.args.p.now) some part

pub has_let-has_lets-requires : goal.has_let-has_lets-requires
has_let-has_lets-requires t c =
    omega (arith, two-nodes (plain_derivation c.args.d.now) (plain_derivation c.in-Some.field-0-0.now) (plain_derivation c.in-Some.below.now) (sym c.in-Some.ensures), c.decreases)

pub has_let-returns-in_default : goal.has_let-returns-in_default
has_let-returns-in_default t c =
    let none : two_below (plain_derivation c.args.d.now) ≡ None =
    sym c.two_below.ensures ∙ ap (option_map (λ (x : Bor Derivation × Bor Derivation). (plain_derivation x.0.now, plain_derivation x.1.now))) c.in_default.is in
    lets-other c.args.count (plain_derivation c.args.d.now) (reads c.args.p.now) c.requires.some c.requires.own none

pub has_let-returns-in_default-let_parts : goal.has_let-returns-in_default-let_parts
has_let-returns-in_default-let_parts t c =
    let none : let_parts (reads c.args.p.now) ≡ None =
    sym c.let_parts.ensures ∙ ap (option_map (λ (x : Bor Phrase × Bor Phrase). (reads x.0.now, reads x.1.now))) c.in_default-let_parts.is in
    lets-no_let c.args.count (plain_derivation c.args.d.now) (reads c.args.p.now) c.requires.some c.requires.own none

pub has_let-returns : goal.has_let-returns
has_let-returns t c =
    c.has_lets.ensures
    ∙ lets-next c.args.count (c.args.count - 1) (plain_derivation c.args.d.now) (plain_derivation c.in-Some.field-0-0.now) (plain_derivation c.in-Some.below.now) (reads c.args.p.now)
    (reads c.in-Some-let_parts.field-0-0.now) (reads c.in-Some-let_parts.body.now) c.requires.some refl (sym c.in-Some.ensures) (sym c.in-Some-let_parts.ensures)
