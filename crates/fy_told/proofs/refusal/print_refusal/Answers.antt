use Rattle.std.proofs.Common.{arith, sym}
use Rattle.fy_phrase.specs.Reads.{reads}
use Rattle.fy_derive.specs.Reading.{plain_derivation}
use Rattle.fy_reasons.specs.Stopping.{stop_read}
use Rattle.fy_told.proofs.RoomLemmas.{refused-fits}
use Rattle.fy_told.proofs.refusal.print_refusal.Goals as goal

pub put_at-requires-clause-fits : goal.put_at-requires-clause-fits
put_at-requires-clause-fits c =
    let is = sym (rw c.in-Some.is at c.in_ok-refusal_of.ensures.stop) in
    omega (arith, refused-fits (plain_derivation c.args.d.now) (reads c.args.p.now) (stop_read c.refusal_of.new.table c.in-Some.stop) is, c.requires.few)
