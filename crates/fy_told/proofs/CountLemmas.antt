-- How many alternatives an abstraction has, and how many premises a part of a sequence.
use Rattle.std.proofs.Common.{◌+◌, ◌-◌, ◌≡◌, List, [], ◌∷◌, length, map, refl, sym, ap, ◌∙◌, arith}
use Rattle.fy_types.specs.declared.types.Ty.{Ty}
use Rattle.fy_types.specs.Types.{PlainTypes}
use Rattle.fy_types.specs.Reading.{plain_type, types_from}
use Rattle.fy_phrase.specs.declared.phrase.Phrase.{Phrase}
use Rattle.fy_phrase.specs.Tree.{Trees}
use Rattle.fy_phrase.specs.Reads.{reads, trees_from}
use Rattle.fy_derive.specs.Rules.{of_parts, Premise}
use Rattle.fy_told.specs.ReasonTexts.{types_count}

types_count-from : (xs : List Ty) → types_count (types_from (map plain_type xs)) ≡ length xs
types_count-from [] = refl
types_count-from (x ∷ xs) = omega (arith, types_count-from xs)

parts-from : (xs : List Phrase) → length (of_parts (trees_from (map reads xs))) ≡ length xs
parts-from [] = refl
parts-from (x ∷ xs) = omega (arith, parts-from xs)

-- the last alternative's index, and the parts' premises with the selector's
pub last-alternative : (As : PlainTypes) (xs : List Ty) → As ≡ types_from (map plain_type xs) → length xs - 1 ≡ types_count As - 1
last-alternative As xs e = sym (ap (λ Bs. types_count Bs - 1) e ∙ ap (λ n. n - 1) (types_count-from xs))

pub part-premises : (P : Premise) (ps : Trees) (xs : List Phrase) → ps ≡ trees_from (map reads xs) → length xs + 1 ≡ length (P ∷ of_parts ps)
part-premises P ps xs e = sym (ap (λ qs. length (P ∷ of_parts qs)) e ∙ omega (arith, parts-from xs))
