use Rattle.std.proofs.Common.{◌≡◌, Some, sym, ap, ◌∙◌, subst, refl}
use Rattle.fy_phrase.specs.Reads.{reads}
use Rattle.fy_derive.specs.Reading.{plain_derivation}
use Rattle.fy_derive.specs.Shown.{AreIn, shown, all_shown}
use Rattle.fy_derive.proofs.ContextLemmas.{numbers-outside}
use Rattle.fy_derive.proofs.Standings.{AreIn-none}
use Rattle.fy_reasons.specs.declared.reasons.Why.TheVariants as why
use Rattle.fy_reasons.proofs.WalkLemmas.{accepted-whole, refused-as-whole, stop-made}
use Rattle.fy_reasons.proofs.reasons.refusal_of.Goals as goal

pub returns-then-is_atom-clause-stop : goal.returns-then-is_atom-clause-stop
returns-then-is_atom-clause-stop c =
    accepted-whole (plain_derivation c.args.d.now) _ (reads c.args.p.now) (shown c.judge.new.table c.in-Ok.number) c.in-Ok.ensures.judged.1
    (ap (all_shown c.args.table.now) (numbers-outside _ _ refl)) (sym c.is_atom.ensures ∙ c.if-is_atom.true)

pub returns-in_ok-stop-in-Ok-clause-stop : goal.returns-in_ok-stop-in-Ok-clause-stop
returns-in_ok-stop-in-Ok-clause-stop c =
    let s = c.in_ok-stop-in-Ok.ensures in
    ap Some (stop-made c.args.table.now c.judge.new.table _ c.in_ok-stop-in-Ok.stop 0 (plain_derivation c.args.d.now) (reads c.args.p.now) (why.NoCommand c.in-Ok.number)
    c.in-Ok.ensures.extends (subst (AreIn c.args.table.now) (sym (numbers-outside _ _ refl)) (AreIn-none c.args.table.now)) s.number s.node s.types s.phrase s.why)
    ∙ refused-as-whole (plain_derivation c.args.d.now) _ (reads c.args.p.now) (shown c.judge.new.table c.in-Ok.number) c.in-Ok.ensures.judged.1
    (ap (all_shown c.args.table.now) (numbers-outside _ _ refl)) (sym c.is_atom.ensures ∙ c.if-is_atom.false)
