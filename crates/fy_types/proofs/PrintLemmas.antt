-- One more member in the text of a meet.
use Rattle.std.proofs.Common.{ℕ, suc, ◌+◌, ◌<◌, ◌≡◌, List, [], ◌∷◌, ◌++◌, length, map, take, get_or, codes, Bool, true, false, eqb, eqb-true, if◌then◌else◌, refl, ap, sym, ◌∙◌, append_assoc, arith}
use Rattle.std.proofs.lemmas.List.{map-append, length-map, length-take, take_more, append-nil}
use Rattle.fy_base.specs.Outside.{Bytes}
use Rattle.fy_types.specs.declared.types.Ty.{Ty}
use Rattle.fy_types.specs.Types.{PlainType}
use Rattle.fy_types.specs.Reading.{plain_type, types_from}
use Rattle.fy_types.specs.Print.{enclosed, type_text, members_text, further_text, separator_text}

pub regrouped : (a b c d : Bytes) → a ++ ((b ++ c) ++ d) ≡ ((a ++ b) ++ c) ++ d
regrouped a b c d = simp append_assoc

separator-later : (n : ℕ) → separator_text (suc n) ≡ codes " & "
separator-later n = cases (eqb (suc n) 0) refl
  where
    cases : (b : Bool) → eqb (suc n) 0 ≡ b → (if b then [] else codes " & ") ≡ codes " & "
    cases true e = let h = eqb-true (suc n) 0 e in absurd (omega arith)
    cases false e = refl

further-push : (names : List Bytes) (As : List PlainType) (A : PlainType) →
    further_text names (types_from (As ++ (A ∷ []))) ≡ (further_text names (types_from As) ++ codes " & ") ++ enclosed A (type_text names A)
further-push names [] A = simp append-nil refl
further-push names (B ∷ As) A =
    ap (λ t. (codes " & " ++ enclosed B (type_text names B)) ++ t) (further-push names As A)
    ∙ regrouped (codes " & " ++ enclosed B (type_text names B)) (further_text names (types_from As)) (codes " & ") (enclosed A (type_text names A))

members-push : (names : List Bytes) (As : List PlainType) (A : PlainType) →
    members_text names (types_from (As ++ (A ∷ [])))
    ≡ (members_text names (types_from As) ++ separator_text (length As)) ++ enclosed A (type_text names A)
members-push names [] A = simp append-nil refl
members-push names (B ∷ As) A =
    ap (λ t. enclosed B (type_text names B) ++ t) (further-push names As A)
    ∙ (regrouped (enclosed B (type_text names B)) (further_text names (types_from As)) (codes " & ") (enclosed A (type_text names A))
    ∙ ap (λ s. ((enclosed B (type_text names B) ++ further_text names (types_from As)) ++ s) ++ enclosed A (type_text names A))
    (sym (separator-later (length As))))

-- the text of the first i members, and of one more
pub members-more : (names : List Bytes) (xs : List Ty) (i : ℕ) (x : Ty) → i < length xs → x ≡ get_or xs i x →
    members_text names (types_from (map plain_type (take (i + 1) xs)))
    ≡ (members_text names (types_from (map plain_type (take i xs))) ++ separator_text i) ++ enclosed (plain_type x) (type_text names (plain_type x))
members-more names xs i x within is =
    let long : length (map plain_type (take i xs)) ≡ i = length-map (take i xs) plain_type ∙ omega (arith, length-take i xs) in
    ap (λ ys. members_text names (types_from (map plain_type ys))) (take_more xs i x within ∙ ap (λ y. take i xs ++ (y ∷ [])) (sym is))
    ∙ (ap (λ ys. members_text names (types_from ys)) (map-append plain_type (take i xs) (x ∷ []))
    ∙ (members-push names (map plain_type (take i xs)) (plain_type x)
    ∙ ap (λ n. (members_text names (types_from (map plain_type (take i xs))) ++ separator_text n) ++ enclosed (plain_type x) (type_text names (plain_type x))) long))
