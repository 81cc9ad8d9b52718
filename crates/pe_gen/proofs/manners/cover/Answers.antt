use Rattle.std.proofs.Common.{◌+◌, List, ap, refl, ◌∙◌, arith}
use Rattle.std.proofs.Math.ListN.{set}
use Rattle.pe_gen.specs.declared.manners.Manner.{Manner}
use Rattle.pe_gen.specs.declared.manners.Manner.TheVariants as manner
use Rattle.pe_gen.proofs.MannerLemmas.{set-covered}
use Rattle.pe_gen.proofs.RangeLemmas.{covered-nothing}
use Rattle.pe_gen.proofs.manners.cover.Goals as goal

pub loop-i-init : goal.loop-i-init
loop-i-init c = covered-nothing c.args.start c.args.manners.now.items

pub loop-i-preserved : goal.loop-i-preserved
loop-i-preserved c =
    let place = c.args.start + c.loop-i.i in
    ap (λ (xs : List Manner). set xs place manner.Inside) c.loop-i.invariant
    ∙ set-covered c.args.manners.now.items c.args.start c.loop-i.i place refl (omega (arith, c.loop-i-test.true, c.requires))
