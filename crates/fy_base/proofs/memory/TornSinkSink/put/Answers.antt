use Rattle.std.proofs.Common.{Some, subst, sym, ap}
use Rattle.fy_base.specs.Outside.{Bytes, IsPrefix}
use Rattle.fy_base.proofs.Parts.{first_begin, all_begin, gained_part}
use Rattle.fy_base.proofs.memory.TornSinkSink.put.Goals as goal
use Rattle.fy_base.proofs.memory.TornSinkSink.put.Goals.{then-tears, else-tears}

pub returns-clause-part : goal.returns-clause-part
returns-clause-part c =
    let begins : IsPrefix c.if-tears.part.now c.args.piece.now =
    elim c.if-tears.branch [
      | then-tears w ↦ subst (λ (b : Bytes). IsPrefix b c.args.piece.now) (sym (ap (λ x. x.now) w.part-is)) (first_begin w.min.result c.args.piece.now)
      | else-tears w ↦ subst (λ (b : Bytes). IsPrefix b c.args.piece.now) (sym (ap (λ x. x.now) w.part-is)) (all_begin c.args.piece.now)
    ] in
    gained_part c.put.result (Some c.args.self.now.steady.bytes.items) (Some c.put.new.self.bytes.items) c.if-tears.part.now c.args.piece.now begins c.put.ensures.gained c.put.ensures.part
