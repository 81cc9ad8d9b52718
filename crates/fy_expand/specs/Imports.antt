-- A phrase under names that are given from outside, and the same phrase where these stand among more names.
use Rattle.std.specs.Prelude.{ℕ, zero, suc, ◌≡◌, ◌==◌, if◌then◌else◌, IsTrue, List, [], ◌∷◌, None}
use Rattle.std.specs.List.{list_any}
use Rattle.fy_syntax.specs.Trees as written
use Rattle.fy_syntax.specs.Places.{without_places}
use Rattle.fy_phrase.specs.Alike.{Alike}
use Rattle.fy_expand.specs.Scope.{Scope, under, program_scope}
use Rattle.fy_expand.specs.Core.{core}
use Rattle.fy_expand.specs.Faults.{fault}

-- under binders of these names, the innermost first, within the prelude
abbrev pub scope_in : List ℕ → Scope
scope_in [] = program_scope
scope_in (name ∷ more) = under name (scope_in more)

-- each import is one of the earlier names
abbrev pub AreAmong : List ℕ → List ℕ → Type 0
AreAmong [] earlier = Unit {0}
AreAmong (name ∷ more) earlier = IsTrue (list_any (λ other. name == other) earlier) × AreAmong more earlier

-- none of the names is the prelude's
abbrev pub HideNothing : List ℕ → Type 0
HideNothing [] = Unit {0}
HideNothing (name ∷ more) = (program_scope.phrases name ≡ None) × HideNothing more

-- the variable of the first of that name
abbrev pub index_of : ℕ → List ℕ → ℕ
index_of name [] = 0
index_of name (other ∷ more) = if name == other then 0 else suc (index_of name more)

-- the variable outside all of these
abbrev pub past_all : List ℕ → ℕ → ℕ
past_all [] k = k
past_all (name ∷ more) k = suc (past_all more k)

-- the number under the earlier names of a variable under the imports
abbrev pub renumbered : List ℕ → List ℕ → ℕ → ℕ
renumbered [] earlier k = past_all earlier k
renumbered (name ∷ imports) earlier zero = index_of name earlier
renumbered (name ∷ imports) earlier (suc k) = renumbered imports earlier k

-- a phrase without a fault under its imports has none under the earlier names, at any places, and means the same there but for its variables' numbers
pub record PhrasesMeanTheSame : Type 0 where
  pub means : (imports earlier : List ℕ) (tree other : written.Tree) → AreAmong imports earlier → HideNothing earlier → fault (scope_in imports) tree ≡ None →
      without_places tree ≡ without_places other → Alike (renumbered imports earlier) (core (scope_in imports) tree) (core (scope_in earlier) other)
  pub clear : (imports earlier : List ℕ) (tree other : written.Tree) → AreAmong imports earlier → HideNothing earlier → fault (scope_in imports) tree ≡ None →
      without_places tree ≡ without_places other → fault (scope_in earlier) other ≡ None
