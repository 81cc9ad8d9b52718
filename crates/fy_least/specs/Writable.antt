-- The phrases whose derivations are written as texts.
use Rattle.std.specs.Prelude.{ℕ, ◌≤◌, List, [], ◌∷◌}
use Rattle.fy_base.specs.Outside.{Bytes}
use Rattle.fy_types.specs.Paths.{PlainPaths}
use Rattle.fy_types.specs.Fields.{IsNamed, AllFormFields}
use Rattle.fy_phrase.specs.Tree.{Tree}
use Rattle.fy_phrase.specs.CoreLimits.{visits_of}
use Rattle.fy_phrase.specs.PhraseNames.{AllNames, HasFullTypes}

-- each field that the paths of a context demand has the property
abbrev pub AllContextFields : (ℕ → Type 0) → List PlainPaths → Type 0
AllContextFields P [] = Unit {0}
AllContextFields P (F ∷ G) = AllFormFields P F × AllContextFields P G

-- the names in the phrase and in its context are those of identifiers, its types have full meets, and its visits are within the limit
pub record IsWritable (names : List Bytes) (G : List PlainPaths) (p : Tree) : Type 0 where
  pub around : AllContextFields (IsNamed names) G
  pub named : AllNames (IsNamed names) p
  pub full : HasFullTypes p
  pub few : visits_of p ≤ 65536
