use Rattle.std.proofs.Common.{◌<◌, length, sym, ap, ◌∙◌, subst}
use Rattle.fy_read.specs.declared.level.Level.{Level}
use Rattle.fy_read.specs.Levels.{plain_level}
use Rattle.fy_types.specs.Nested.{type_nesting}
use Rattle.fy_read.proofs.LevelLemmas.{nesting-whole}
use Rattle.fy_read.proofs.levels.Levels.close.Goals as goal

pub add-requires-clause-measured : goal.add-requires-clause-measured
add-requires-clause-measured c =
    let some = subst (λ (l : Level). 0 < length (plain_level l).members) (sym c.replace-level.ensures.value) c.requires.levels.inner.some in
    c.whole_nesting-nesting.ensures ∙ sym (ap type_nesting c.in_ok-part.ensures.ok ∙ nesting-whole (plain_level c.replace-level.result) some)
