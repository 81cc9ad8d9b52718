-- What stepping through bytes says of texts.
use Rattle.std.specs.Prelude.{◌≡◌, ◌↔◌, Some, IsSome, IsTrue, List}
use Rattle.fy_base.specs.Outside.{Bytes}
use Rattle.fy_types.specs.Names.{are_distinct}
use Rattle.fy_derive.specs.Derivations.{PlainDerivation}
use Rattle.fy_derive.specs.Print.{derivation_text}
use Rattle.fy_lexer.specs.Tokens.{HasAdded}
use Rattle.fy_read.specs.declared.error.ReadError.{ReadError}
use Rattle.fy_read.specs.declared.error.ReadError.TheVariants.{OutOfMemory}
use Rattle.fy_derive.specs.Printable.{IsPrintable}
use Rattle.fy_read.specs.Refusals.{Begins, IsText, IsReadFault}
use Rattle.fy_derive.specs.Limits.{KeepsLimits}
use Rattle.fy_read.specs.Spelling.{IsTextOf}
use Rattle.fy_read.specs.Steps.{start, finish, steps, ended_fit}

-- bytes begin a derivation's text exactly where they lead somewhere, step by step, and are one exactly where they lead to the end
abbrev pub StepsAreTexts : Type 0
StepsAreTexts =
    (text : Bytes) → (IsSome (steps (Some start) text) ↔ Begins text) × ((ended_fit (steps (Some start) text) ≡ Some finish) ↔ IsText text)

-- under distinct names a text is that of one derivation
abbrev pub TextsAreUnique : Type 0
TextsAreUnique =
    (names : List Bytes) (d e : PlainDerivation) (text : Bytes) → IsTrue (are_distinct names) → IsTextOf names d text → IsTextOf names e text → d ≡ e

-- and so what is printed of a derivation is no other's text
abbrev pub PrintedIsUnique : Type 0
PrintedIsUnique =
    (names : List Bytes) (d e : PlainDerivation) → IsTrue (are_distinct names) → IsPrintable names d → IsTextOf names e (derivation_text names d) → e ≡ d

-- a text is read as that derivation: it is no other's, and is refused for want of memory alone
pub record IsReadAs (names : List Bytes) (text : Bytes) (d : PlainDerivation) : Type 0 where
  pub only : (e : PlainDerivation) → IsTextOf names e text → e ≡ d
  pub taken : (fault : ReadError) → IsReadFault text fault → fault ≡ OutOfMemory

-- what is printed of a derivation within the limits is read as that derivation, also where names were added since
abbrev pub PrintedIsRead : Type 0
PrintedIsRead =
    (names later : List Bytes) (d : PlainDerivation) → IsTrue (are_distinct later) → HasAdded names later → IsPrintable names d → KeepsLimits d →
    IsReadAs later (derivation_text names d) d
