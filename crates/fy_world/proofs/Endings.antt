-- The note that is told of an end.
use Rattle.std.proofs.Common.{◌≡◌, ◌∷◌, [], ◌++◌, subst}
use Rattle.std.specs.Prelude.{OnOk, OnErr}
use Rattle.std.specs.Option.{option_to_list}
use Rattle.std.specs.declared.option.Option.{Option}
use Rattle.std.specs.declared.result.Result.{Result}
use Rattle.fy_base.specs.Outside.{appended, GainedPart}
use Rattle.fy_world.specs.World.{Contents}
use Rattle.fy_world.specs.Note.{texts, ended_lines}
use Rattle.fy_world.specs.declared.note.Note.{Note}
use Rattle.fy_world.specs.declared.world.Stop.{Stop}

-- the note that was told is that of the end
pub told_by : (before now : Contents) (result : Result (Unit {0}) Stop) (found given : Option Note) (count : Note) → found ≡ given
    → OnOk result (now ≡ record before { notes = appended before.notes (ended_lines (texts (option_to_list found ++ count ∷ []))) })
    → OnOk result (now ≡ record before { notes = appended before.notes (ended_lines (texts (option_to_list given ++ count ∷ []))) })
told_by before now result found given count is told = subst (λ n. OnOk result (now ≡ record before { notes = appended before.notes (ended_lines (texts (option_to_list n ++ count ∷ []))) })) is told

pub part_by : (before now : Contents) (result : Result (Unit {0}) Stop) (found given : Option Note) (count : Note) → found ≡ given
    → OnErr result (GainedPart before.notes now.notes (ended_lines (texts (option_to_list found ++ count ∷ []))))
    → OnErr result (GainedPart before.notes now.notes (ended_lines (texts (option_to_list given ++ count ∷ []))))
part_by before now result found given count is part = subst (λ n. OnErr result (GainedPart before.notes now.notes (ended_lines (texts (option_to_list n ++ count ∷ []))))) is part
