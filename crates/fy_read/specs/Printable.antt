-- What is printed of a derivation is a text of it.
use Rattle.std.specs.Prelude.{List}
use Rattle.fy_base.specs.Outside.{Bytes}
use Rattle.fy_derive.specs.Derivations.{PlainDerivation}
use Rattle.fy_derive.specs.Print.{derivation_text}
use Rattle.fy_derive.specs.Printable.{IsPrintable}
use Rattle.fy_read.specs.Spelling.{IsTextOf}

-- with identifiers as names, full meets, and lists of the lengths that texts have
abbrev pub PrintedIsText : Type 0
PrintedIsText = (names : List Bytes) (d : PlainDerivation) → IsPrintable names d → IsTextOf names d (derivation_text names d)
