-- A record by how many fields it has.
use Rattle.std.proofs.Common.{◌≡◌, ◌≢◌, ◌<◌, ◌≤◌, List, [], ◌∷◌, ◌++◌, length, codes, refl, arith}
use Rattle.fy_show.specs.declared.entries.FieldText.{FieldText}
use Rattle.fy_show.specs.declared.manner.Manner.TheVariants.{Whole}
use Rattle.fy_show.specs.Entries.{all}
use Rattle.fy_show.specs.Reading.{fields_read}
use Rattle.fy_show.specs.Texts.{entry_shown, fields_text}

pub level-of_one : (fs : List FieldText) → length fs ≡ 1 → (entry_shown (all (fields_read fs))).0 ≡ 3
level-of_one [] h = absurd (omega arith)
level-of_one (f ∷ []) h = refl
level-of_one (f ∷ g ∷ fs) h = absurd (omega arith)

pub level-of_others : (fs : List FieldText) → length fs ≢ 1 → (entry_shown (all (fields_read fs))).0 ≡ 12
level-of_others [] h = refl
level-of_others (f ∷ []) h = absurd (h refl)
level-of_others (f ∷ g ∷ fs) h = refl

pub text-of_few : (fs : List FieldText) → length fs < 2 → (entry_shown (all (fields_read fs))).1 Whole ≡ fields_text [] (fields_read fs)
text-of_few [] h = refl
text-of_few (f ∷ []) h = refl
text-of_few (f ∷ g ∷ fs) h = absurd (omega arith)

pub text-of_many : (fs : List FieldText) → 2 ≤ length fs → (entry_shown (all (fields_read fs))).1 Whole ≡ codes "(" ++ fields_text [] (fields_read fs) ++ codes ")"
text-of_many [] h = absurd (omega arith)
text-of_many (f ∷ []) h = absurd (omega arith)
text-of_many (f ∷ g ∷ fs) h = refl

pub ruleset records = (level-of_one, level-of_others, text-of_few, text-of_many)
