-- What finding answers.
use Rattle.std.specs.Prelude.{◌≡◌, List, [], None, Result, Ok, Err}
use Rattle.fy_types.specs.declared.types.Atom.TheVariants.{Comm}
use Rattle.fy_types.specs.Types.{PlainType, atom}
use Rattle.fy_phrase.specs.Tree.{Tree}
use Rattle.fy_derive.specs.declared.derivation.Derivation.{Derivation}
use Rattle.fy_derive.specs.Typing.{HasType}
use Rattle.fy_derive.specs.Judging.{judged, refusal_at}
use Rattle.fy_derive.specs.Reading.{plain_derivation}
use Rattle.fy_derive.specs.Least.{forms_of, visits}
use Rattle.fy_least.specs.declared.error.FindError.{FindError}
use Rattle.fy_least.specs.declared.error.FindError.TheVariants.{NoType, TypeTooLarge, OutOfMemory}
use Rattle.fy_least.specs.Blame.{blame_of}
use Rattle.fy_least.specs.Limits.{KeepTypeLimits, PassTypeLimits}

-- a derivation of the type, in the context of types, that judging accepts; or a refusal: of a type that passes a limit, else of a phrase
-- that hasn't the type, with its place
abbrev pub IsFindingOf : List PlainType → Tree → PlainType → Result Derivation FindError → Type 0
IsFindingOf G p T (Ok d) =
    KeepTypeLimits (visits 0 (forms_of G) p) × (refusal_at T (judged (plain_derivation d) 0 G p) ≡ None)
IsFindingOf G p T (Err (NoType at)) =
    KeepTypeLimits (visits 0 (forms_of G) p) × (HasType G p T → ⊥) × (at ≡ blame_of (forms_of G) p)
IsFindingOf G p T (Err TypeTooLarge) = PassTypeLimits (visits 0 (forms_of G) p)
IsFindingOf G p T (Err OutOfMemory) = Unit {0}

-- the same of a command, with no variable in scope
abbrev pub IsFinding : Tree → Result Derivation FindError → Type 0
IsFinding p = IsFindingOf [] p (atom Comm)
