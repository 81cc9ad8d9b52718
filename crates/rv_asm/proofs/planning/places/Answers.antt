use Rattle.std.proofs.Common.{◌+◌, ◌<◌, false, length, get_or, ap, arith}
use Rattle.std.proofs.lemmas.List.{drop_more}
use Rattle.rv_asm.specs.declared.items.Item.TheVariants.{Mark}
use Rattle.rv_asm.specs.declared.planning.Choice.{Choice}
use Rattle.rv_asm.specs.Planning.{places_of}
use Rattle.rv_asm.proofs.Loops.{places_more}
use Rattle.rv_asm.proofs.planning.places.Goals as goal

pub loop-k-preserved : goal.loop-k-preserved
loop-k-preserved c =
    let items = c.args.items.now in
    let choices = c.args.choices.now in
    let k = c.loop-k.k in
    let none : Choice = record { near = false; target = 0 } in
    let within : k < length choices = omega (arith, c.requires.choices) in
    record {
      rest = places_more items choices k c.loop-k.here _ (get_or items k (Mark 0)) (get_or choices k none) c.loop-k.places.items c.note_place.new.places.items (places_of 0 items choices)
          (drop_more items k (Mark 0) c.loop-k-test.true) (drop_more choices k none within) c.in_ok-note_place.ensures (ap (λ n. c.loop-k.here + n) c.size-here.ensures.size) c.loop-k.invariant.rest;
      most = omega (arith, c.size-here.ensures.most, c.loop-k.invariant.most);
    }
