-- Lists of paths that are made and looked through.
use Rattle.std.proofs.Common.{◌≡◌, ◌≢◌, true, false, length, refl, sym, ◌∙◌, arith}
use Rattle.fy_types.specs.declared.paths.Paths.{Paths}
use Rattle.fy_types.specs.Paths.{PlainPaths, no_paths, and_path}
use Rattle.fy_types.specs.Reading.{paths_in, plain_paths}
use Rattle.fy_types.proofs.Making.{count-in}
use Rattle.fy_types.proofs.Sizes.{count}
use Rattle.fy_derive.specs.Clear.{has_none}

some-there : (P : PlainPaths) → count P ≢ 0 → has_none P ≡ false
some-there no_paths some = absurd (some refl)
some-there (and_path p P) some = refl

none-there : (P : PlainPaths) → count P ≡ 0 → has_none P ≡ true
none-there no_paths none = refl
none-there (and_path p P) none = absurd (omega arith)

pub hollow_none : (l : Paths) → length (paths_in l) ≡ 0 → has_none (plain_paths l) ≡ true
hollow_none l none = none-there (plain_paths l) (sym (count-in l) ∙ none)

pub hollow_some : (l : Paths) → length (paths_in l) ≢ 0 → has_none (plain_paths l) ≡ false
hollow_some l some = some-there (plain_paths l) (λ e. some (count-in l ∙ e))

pub ruleset hollow_rules = (hollow_none, hollow_some)
