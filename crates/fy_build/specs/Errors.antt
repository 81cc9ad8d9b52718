-- The errors of building that the errors of its parts are.
use Rattle.fy_derive.specs.declared.error.DeriveError.{DeriveError}
use Rattle.fy_derive.specs.declared.error.DeriveError.TheVariants as judging
use Rattle.pe_shapes.specs.declared.error.ShapeError.{ShapeError}
use Rattle.pe_shapes.specs.declared.error.ShapeError.TheVariants as shaping
use Rattle.fy_build.specs.declared.error.BuildError.{BuildError}
use Rattle.fy_build.specs.declared.error.BuildError.TheVariants.{Wrong, TooManyShapes, TooManyEntries, TablesTooLarge, OutOfMemory}

abbrev pub of_judging : DeriveError → BuildError
of_judging (judging.Wrong node) = Wrong node
of_judging judging.OutOfMemory = OutOfMemory

abbrev pub of_shaping : ShapeError → BuildError
of_shaping shaping.TooManyShapes = TooManyShapes
of_shaping shaping.TooManyEntries = TooManyEntries
of_shaping shaping.TablesTooLarge = TablesTooLarge
of_shaping shaping.OutOfMemory = OutOfMemory
