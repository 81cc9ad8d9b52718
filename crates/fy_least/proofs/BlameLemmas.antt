-- Where a part is blamed.
use Rattle.std.proofs.Common.{◌≡◌, ◌≢◌, false, true, length, refl, sym, ap, ◌∙◌, arith, if◌then◌else◌}
use Rattle.fy_base.specs.declared.data.Place.{Place}
use Rattle.fy_types.specs.declared.paths.Paths.{Paths}
use Rattle.fy_types.specs.Paths.{PlainPaths, no_paths, and_path}
use Rattle.fy_types.specs.Reading.{paths_in, plain_paths}
use Rattle.fy_types.proofs.Making.{count-in}
use Rattle.fy_types.proofs.Sizes.{count}
use Rattle.fy_derive.specs.Clear.{has_none}
use Rattle.fy_least.specs.Blame.{if_empty}

some-there : (P : PlainPaths) → count P ≢ 0 → has_none P ≡ false
some-there no_paths some = absurd (some refl)
some-there (and_path p P) some = refl

none-there : (P : PlainPaths) → count P ≡ 0 → has_none P ≡ true
none-there no_paths none = refl
none-there (and_path p P) none = absurd (omega arith)

-- a list with a path isn't blamed, and one without is
pub not-blamed : (l : Paths) (here there : Place) → length (paths_in l) ≢ 0 → if_empty (plain_paths l) here there ≡ there
not-blamed l here there some =
    ap (λ b. if b then here else there) (some-there (plain_paths l) (λ e. some (count-in l ∙ e)))

pub blamed : (l : Paths) (here there : Place) → length (paths_in l) ≡ 0 → if_empty (plain_paths l) here there ≡ here
blamed l here there none = ap (λ b. if b then here else there) (none-there (plain_paths l) (sym (count-in l) ∙ none))
