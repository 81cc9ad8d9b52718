-- Parts and types by how many there are.
use Rattle.std.proofs.Common.{◌≡◌, ◌≤◌, false, List, [], ◌∷◌, length, map, refl, ap, ◌∙◌, arith}
use Rattle.fy_types.specs.declared.types.Ty.{Ty}
use Rattle.fy_types.specs.Reading.{plain_type, types_from}
use Rattle.fy_phrase.specs.declared.phrase.Phrase.{Phrase}
use Rattle.fy_phrase.specs.declared.phrase.Parts.{Parts}
use Rattle.fy_phrase.specs.Reads.{phrases_in, reads, reads_parts, trees_from}
use Rattle.fy_phrase.proofs.ReadLemmas.{reads_parts-at}
use Rattle.fy_show.specs.Texts.{is_empty_string, is_int_alone, parts_count}

-- two parts or more are no empty string, and two types no `int` alone
pub many-parts : (xs : List Phrase) → 2 ≤ length xs → is_empty_string (trees_from (map reads xs)) ≡ false
many-parts [] h = absurd (omega arith)
many-parts (x ∷ []) h = absurd (omega arith)
many-parts (x ∷ y ∷ xs) h = refl

pub many-types : (xs : List Ty) → 2 ≤ length xs → is_int_alone (types_from (map plain_type xs)) ≡ false
many-types [] h = absurd (omega arith)
many-types (x ∷ []) h = absurd (omega arith)
many-types (x ∷ y ∷ xs) h = refl

count-from : (xs : List Phrase) → parts_count (trees_from (map reads xs)) ≡ length xs
count-from [] = refl
count-from (x ∷ xs) = let e = count-from xs in omega (arith, e)

pub count-parts : (l : Parts) → parts_count (reads_parts l) ≡ length (phrases_in l)
count-parts l = ap parts_count (reads_parts-at l) ∙ count-from (phrases_in l)

pub ruleset lengths = (many-parts, many-types, count-parts)
