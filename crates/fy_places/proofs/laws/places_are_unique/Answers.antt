use Rattle.fy_places.proofs.OnePlace.{fewer_begin, syntax_unique, depth_unique, syntax_or_depth, program_not_bad}
use Rattle.fy_places.proofs.laws.places_are_unique.Goals as goal

pub returns-clause-fewer : goal.returns-clause-fewer
returns-clause-fewer c depth tokens more w = fewer_begin depth tokens more w

pub returns-clause-syntax : goal.returns-clause-syntax
returns-clause-syntax c depth tokens place other f g = syntax_unique depth tokens place other f g

pub returns-clause-depth : goal.returns-clause-depth
returns-clause-depth c depth tokens place other f g = depth_unique depth tokens place other f g

pub returns-clause-apart : goal.returns-clause-apart
returns-clause-apart c depth tokens place other f g = syntax_or_depth depth tokens place other f g

pub returns-clause-program : goal.returns-clause-program
returns-clause-program c depth tokens before bad tree spelled within first = program_not_bad depth tokens before bad tree spelled within first
