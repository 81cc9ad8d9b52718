use Rattle.std.proofs.Common.{List, ℕ, Bor, sym, ap, ◌∙◌, subst}
use Rattle.std.specs.Prelude.{Option}
use Rattle.std.specs.Option.{option_copied}
use Rattle.fy_base.specs.Outside.{Bytes}
use Rattle.fy_link.specs.Joined.{IsTail}
use Rattle.fy_link.proofs.SaidLemmas.{said-name, said-tail, said-part}
use Rattle.fy_link.proofs.linking.part_of.Goals as goal

pub unreachable-requires : goal.unreachable-requires
unreachable-requires c =
    let there = said-name c.args.names.now c.args.unit.now c.requires in
    let none = sym (ap (λ (o : Option (Bor (List ℕ))). option_copied o) c.in_default.is) ∙ (c.text.ensures.text ∙ there) in
    cc

pub tail-requires-clause-tail : goal.tail-requires-clause-tail
tail-requires-clause-tail c =
    subst (λ (t : Bytes). (x : Bytes) × IsTail t c.args.unit.now.said.equals_at x) (sym c.as_slice.ensures)
    (said-tail c.args.names.now c.args.unit.now c.requires)

pub returns : goal.returns
returns c =
    said-part c.args.names.now c.args.unit.now _ c.requires
    (sym c.text.ensures.text ∙ ap (λ (o : Option (Bor (List ℕ))). option_copied o) c.in-Some.is)
    (subst (λ (t : Bytes). IsTail t c.args.unit.now.said.equals_at c.in-Some-tail.tail.now) c.as_slice.ensures c.in-Some-tail.ensures.tail)
