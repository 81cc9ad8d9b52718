-- The error of a text in which reading stops.
use Rattle.std.specs.Prelude.{ℕ}
use Rattle.fy_read.specs.declared.error.ReadError.{ReadError}
use Rattle.fy_read.specs.declared.error.ReadError.TheVariants as errors
use Rattle.fy_read.specs.declared.stop.Stop.{Stop}
use Rattle.fy_read.specs.declared.stop.Stop.TheVariants as stops

-- why reading stops, and at which offset
abbrev pub error_at : Stop → ℕ → ReadError
error_at stops.Misfit k = errors.BadText k
error_at stops.TooLarge k = errors.TooLarge
error_at stops.TooDeep k = errors.TooDeep
error_at stops.OutOfMemory k = errors.OutOfMemory
