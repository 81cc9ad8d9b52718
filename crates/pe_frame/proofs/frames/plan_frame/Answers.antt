use Rattle.std.proofs.Common.{arith}
use Rattle.pe_frame.proofs.Words.{Fits, frame_fits}
use Rattle.pe_frame.proofs.frames.plan_frame.Goals as goal

pub returns-clause-fit : goal.returns-clause-fit
returns-clause-fit c =
    let fits : Fits c.args.depth = frame_fits c.args.depth in
    record { small = omega arith; thunk_first = omega arith; display_inside = omega arith }
