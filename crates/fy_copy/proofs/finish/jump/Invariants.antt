use Rattle.std.proofs.Common.{◌≡◌, [], vec_len}
use Rattle.fy_phrase.specs.Copy.{jumped}
use Rattle.fy_copy.specs.Shown.{contexts_onto, rows_onto, state_of}
use Rattle.fy_copy.proofs.finish.jump.Given as goal

abbrev pub invariant-loop-frame : goal.invariant-loop-frame
invariant-loop-frame l = record {
  jumps :
      jumped l.n l.here (state_of l.initial.core).contexts (state_of l.initial.core)
      ≡ jumped l.n l.here (contexts_onto [] l.core.contexts.items) (record (state_of l.initial.core) { store = rows_onto [] l.core.store.items });
  next : l.core.next ≡ l.initial.core.next;
}

abbrev pub decreases-loop-frame : goal.decreases-loop-frame
decreases-loop-frame l = vec_len l.core.contexts
