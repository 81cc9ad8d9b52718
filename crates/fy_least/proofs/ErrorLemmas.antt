-- A refusal that is handed on as it is.
use Rattle.std.proofs.Common.{refl}
use Rattle.std.specs.Prelude.{IsErrOf, Err}
use Rattle.fy_least.specs.declared.error.LeastError.{LeastError}
use Rattle.fy_least.specs.declared.error.LeastError.TheVariants.{TypeTooLarge, OutOfMemory}

pub large-again : {X Y : Type 0} (e : LeastError) → IsErrOf {T = X} (Err e) TypeTooLarge → IsErrOf {T = Y} (Err e) TypeTooLarge
large-again TypeTooLarge h = refl
large-again OutOfMemory h = absurd (cc)
