use Rattle.std.proofs.Common.{ap, ◌∙◌, List}
use Rattle.rv_asm.specs.declared.planning.Choice.{Choice}
use Rattle.rv_asm.specs.Planning.{places_of}
use Rattle.rv_asm.proofs.Choices.{far_reach}
use Rattle.rv_asm.proofs.planning.planned.Goals as goal

pub returns : goal.returns
returns c = record {
  aimed = c.requires.aimed;
  places_are = c.in_ok-longest.ensures ∙ ap (λ (cs : List Choice). places_of 0 c.args.items.now cs) c.deref.ensures.value;
  reach = far_reach c.in_ok-longest.longest.items 0 c.args.items.now c.args.far.items c.requires.far;
}
