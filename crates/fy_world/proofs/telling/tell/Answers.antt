use Rattle.std.proofs.Common.{◌∙◌}
use Rattle.fy_world.proofs.Lines.{put_line, part_line_err, some_at_err}
use Rattle.fy_world.proofs.telling.tell.Goals as goal

pub returns-in_err-note-clause-part : goal.returns-in_err-note-clause-part
returns-in_err-note-clause-part g c =
    part_line_err _ _ (g.W.World.holds c.loop-note.world) _ c.args.notes.now c.loop-note.note-index c.note-item.result c.as_bytes.result.now c.loop-note-test.true
    c.note-item.is
    (c.as_bytes.ensures.value ∙ c.as_str.ensures.value ∙ c.line_of-line.ensures)
    c.loop-note.invariant.told c.in_err-note.ensures.part

pub returns-in_err-note-clause-untold : goal.returns-in_err-note-clause-untold
returns-in_err-note-clause-untold g c = some_at_err _ c.args.notes.now c.loop-note.note-index c.loop-note-test.true

pub loop-note-preserved : goal.loop-note-preserved
loop-note-preserved g c = record {
  told = put_line (g.W.World.holds c.args.world.now) (g.W.World.holds c.loop-note.world) _ c.args.notes.now c.loop-note.note-index c.note-item.result c.as_bytes.result.now c.loop-note-test.true
      c.note-item.is
      (c.as_bytes.ensures.value ∙ c.as_str.ensures.value ∙ c.line_of-line.ensures)
      c.loop-note.invariant.told c.in_ok-note.ensures.put;
  counts = c.in_ok-note.ensures.counted ∙ c.loop-note.invariant.counts;
  same = c.in_ok-note.ensures.same ∙ c.loop-note.invariant.same;
  calls = c.in_ok-note.ensures.called ∙ c.loop-note.invariant.calls;
}
