use Rattle.std.proofs.Common.{◌∙◌, refl, sym, ap, inl, inr}
use Rattle.fy_world.specs.World.{Contents}
use Rattle.fy_world.specs.declared.world.Stop.TheVariants.{Memory}
use Rattle.fy_world.proofs.Tracing.{told_first, told_next, told_short, told_part, told_all, none_left}
use Rattle.fy_world.proofs.runs.tell_trace.Goals as goal

pub loop-fetched-init : goal.loop-fetched-init
loop-fetched-init g c = record { told = λ program f. told_first program c.args.trace.words.items _; rest = refl; counts = refl; same = refl; calls = refl }

pub returns-in-Err-clause-told : goal.returns-in-Err-clause-told
returns-in-Err-clause-told g c = λ program f. told_short program c.args.trace.words.items c.loop-fetched.trace.words.items _ _ Memory (c.loop-fetched.invariant.told program f)

pub returns-in-Err-note-clause-told : goal.returns-in-Err-note-clause-told
returns-in-Err-note-clause-told g c = λ program f.
    told_part program c.args.trace.words.items c.loop-fetched.trace.words.items c.pop.new.self.words.items c.in-Some.fetched c.as_slice.result.now c.in-Ok.ensures.0 _ (g.W.World.holds c.loop-fetched.world) (g.W.World.holds c.note.new.self) c.in-Err-note.stop f
    (sym c.in-Some.is ∙ c.pop.ensures.word) c.in-Ok.ensures.1 (c.as_slice.ensures.value ∙ c.in-Ok.ensures.2) (c.loop-fetched.invariant.told program f) c.in-Err-note.ensures.part c.in-Err-note.ensures.stop

pub loop-fetched-preserved : goal.loop-fetched-preserved
loop-fetched-preserved g c = record {
  told = λ program f.
      told_next program c.args.trace.words.items c.loop-fetched.trace.words.items c.pop.new.self.words.items c.in-Some.fetched c.as_slice.result.now c.in-Ok.ensures.0 _ (g.W.World.holds c.loop-fetched.world) (g.W.World.holds c.note.new.self) f
      (sym c.in-Some.is ∙ c.pop.ensures.word) c.pop.ensures.rest c.in-Ok.ensures.1 (c.as_slice.ensures.value ∙ c.in-Ok.ensures.2) (c.loop-fetched.invariant.told program f) c.in_default-note.ensures.put;
  rest = c.in_default-note.ensures.rest ∙ ap (λ (x : Contents). record x { notes = (g.W.World.holds c.note.new.self).notes }) c.loop-fetched.invariant.rest;
  counts = c.in_default-note.ensures.counted ∙ c.loop-fetched.invariant.counts;
  same = c.in_default-note.ensures.same ∙ c.loop-fetched.invariant.same;
  calls = c.in_default-note.ensures.called ∙ c.loop-fetched.invariant.calls;
}

pub returns-clause-told : goal.returns-clause-told
returns-clause-told g c = λ program f.
    told_all program c.args.trace.words.items c.loop-fetched.trace.words.items _ _ (none_left c.loop-fetched.trace.words.items (sym c.pop.ensures.word ∙ c.in_default.is)) (c.loop-fetched.invariant.told program f)

pub returns-in-Err-clause-stop : goal.returns-in-Err-clause-stop
returns-in-Err-clause-stop g c = inr refl

pub returns-in-Err-note-clause-stop : goal.returns-in-Err-note-clause-stop
returns-in-Err-note-clause-stop g c = inl c.in-Err-note.ensures.stop
