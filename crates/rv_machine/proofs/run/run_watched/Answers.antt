use Rattle.std.proofs.Common.{◌∙◌, refl, arith}
use Rattle.rv_machine.proofs.Striding.{gone_start, gone_ends, gone_on, gone_spent, few_kept, strode_of, does_of}
use Rattle.rv_machine.proofs.run.run_watched.Goals as goal

pub turns-init : goal.turns-init
turns-init g c = record {
  running = c.requires.running;
  program = refl;
  few = omega arith;
  fewer = omega arith;
  gone = gone_start _ _ _ _ _ _ _ (λ was. cc) c.requires.room;
  room = refl;
  input_quiet = refl;
  output_quiet = refl;
}

pub stride-row-requires-clause-room : goal.stride-row-requires-clause-room
stride-row-requires-clause-room g c = few_kept _ _ _ _ _ _ _ _ _ _ _ _ _ _ c.turns.invariant.room c.turns.invariant.gone

pub returns-in-Some-clause-did : goal.returns-in-Some-clause-did
returns-in-Some-clause-did g c =
    let i = c.turns.invariant in
    gone_ends c.in-Some.end c.stride-row.result.event _ _ _ _ _ _ _ _ _ _ _ _ _ _ _ _ _ _ _ _ _ i.gone
    (strode_of _ c.args.m.now.program c.turns.m.program _ _ _ _ _ _ _ i.program i.room c.stride-row.ensures.strode) (omega (arith, c.stride-row.ensures.few)) (λ going. (c.in-Some.ensures.same going).0)
    (does_of _ _ c.args.m.now.program c.stride-row.new.self.program _ _ _ _ _ _ _ _ (c.stride-row.ensures.program ∙ i.program) c.in-Some.ensures.did)

pub turns-preserved : goal.turns-preserved
turns-preserved g c =
    let i = c.turns.invariant in
    record {
      running = c.in_default.ensures.status;
      program = c.exchange.ensures.program ∙ c.stride-row.ensures.program ∙ i.program;
      few = omega (arith, c.stride-row.ensures.few);
      fewer = omega (arith, c.stride-row.ensures.some);
      gone = gone_on c.stride-row.result.event _ _ _ _ _ _ _ _ _ _ _ _ _ _ _ _ _ _ _ _ _ i.gone (strode_of _ c.args.m.now.program c.turns.m.program _ _ _ _ _ _ _ i.program i.room c.stride-row.ensures.strode)
          (λ going. let s = c.in_default.ensures.same going in record { core = s.1; left = s.2; over = s.3; held = s.4 })
          (does_of _ _ c.args.m.now.program c.stride-row.new.self.program _ _ _ _ _ _ _ _ (c.stride-row.ensures.program ∙ i.program) c.in_default.ensures.did)
          c.put_count-bytes.ensures.count;
      room = c.stride-row.ensures.room ∙ i.room;
      input_quiet = c.in_default.ensures.input_quiet (λ fault. cc) ∙ i.input_quiet;
      output_quiet = c.in_default.ensures.output_quiet (λ fault. cc) ∙ i.output_quiet;
    }

pub returns-clause-did : goal.returns-clause-did
returns-clause-did g c = gone_spent _ _ c.turns.done _ c.args.steps _ _ _ _ _ _ _ _ _ (omega arith) c.turns.invariant.gone
