-- Of what images are built, how large their tables are, and why no image is built.
use Rattle.std.specs.Prelude.{◌≡◌, false, ℕ, ◌+◌, ◌≤◌, None, Some}
use Rattle.fy_phrase.specs.Tree.{Tree}
use Rattle.fy_phrase.specs.Sizes.{nodes, depth}
use Rattle.fy_phrase.specs.WellMade.{IsClosed, HasDepths, IsWellMade}
use Rattle.fy_derive.specs.Derivations.{PlainDerivation}
use Rattle.fy_derive.specs.Judging.{conclusion_of, refusal}
use Rattle.fy_derive.specs.Shapes.{table_words}
use Rattle.pe_shapes.specs.Counts.{HasMany, HasAtMost, IsCount}
use Rattle.pe_shapes.specs.Shaping.{most_shapes, most_pairs, IsShapeOf, IsPairOf, PassesWords}
use Rattle.pe_gen.specs.Sites.{is_merge}
use Rattle.fy_build.specs.declared.error.BuildError.{BuildError}
use Rattle.fy_build.specs.declared.error.BuildError.TheVariants.{Wrong, TooManyShapes, TooManyEntries, TablesTooLarge, OutOfMemory}

-- the core phrase of a program, as expansion gives it within its limits
pub record IsProgramPhrase (p : Tree) : Type 0 where
  pub whole : is_merge p ≡ false
  pub closed : IsClosed p
  pub depths : HasDepths p
  pub well_made : IsWellMade p
  pub few : nodes p ≤ 65536
  pub shallow : depth p ≤ 511

-- how many words the stack of an image may have
pub record IsStackSize (words : ℕ) : Type 0 where
  pub least : 1024 ≤ words
  pub most : words ≤ 67108864

-- so many words has a table with a row for each shape of the derivation
pub record HasTableWords (p : Tree) (d : PlainDerivation) (words : ℕ) : Type 0 where
  pub shapes : ℕ
  pub counted : IsCount (IsShapeOf p d) shapes
  pub words_are : words ≡ table_words p shapes

-- the derivation shows that the phrase is a command
abbrev pub IsAccepted : Tree → PlainDerivation → Type 0
IsAccepted p d = refusal (conclusion_of p d) ≡ None

-- why no image is built: judging stops at a node; or the derivation is accepted, and the first limit that it passes is that on shapes, on pairs of a node and a shape, or on the words of tables
abbrev pub IsRefused : Tree → PlainDerivation → BuildError → Type 0
IsRefused p d (Wrong node) = refusal (conclusion_of p d) ≡ Some node
IsRefused p d TooManyShapes = IsAccepted p d × HasMany (most_shapes + 1) (IsShapeOf p d)
IsRefused p d TooManyEntries = IsAccepted p d × HasAtMost most_shapes (IsShapeOf p d) × HasMany (most_pairs + 1) (IsPairOf p d)
IsRefused p d TablesTooLarge = IsAccepted p d × PassesWords p d × HasAtMost most_pairs (IsPairOf p d)
IsRefused p d OutOfMemory = ⊥
