-- What a refusal of a type is as one of a least type, and what that is as one of finding.
use Rattle.fy_forms.specs.declared.error.TypeError.{TypeError}
use Rattle.fy_forms.specs.declared.error.TypeError.TheVariants as types
use Rattle.fy_least.specs.declared.error.LeastError.{LeastError}
use Rattle.fy_least.specs.declared.error.LeastError.TheVariants as least
use Rattle.fy_least.specs.declared.error.FindError.{FindError}
use Rattle.fy_least.specs.declared.error.FindError.TheVariants.{TypeTooLarge, OutOfMemory}

abbrev pub of_type : TypeError → LeastError
of_type types.TypeTooLarge = least.TypeTooLarge
of_type types.OutOfMemory = least.OutOfMemory

abbrev pub of_least : LeastError → FindError
of_least least.TypeTooLarge = TypeTooLarge
of_least least.OutOfMemory = OutOfMemory
