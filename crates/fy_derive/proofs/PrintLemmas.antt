-- One more derivation in the text of a list.
use Rattle.std.proofs.Common.{ℕ, ◌+◌, ◌<◌, ◌≡◌, List, [], ◌∷◌, ◌++◌, length, map, take, get_or, refl, ap, sym, ◌∙◌, append_assoc}
use Rattle.std.proofs.lemmas.List.{take_more, append-nil}
use Rattle.fy_base.specs.Outside.{Bytes}
use Rattle.fy_derive.specs.declared.derivation.Derivation.{Derivation}
use Rattle.fy_derive.specs.Reading.{plain_derivation, derivations_from}
use Rattle.fy_derive.specs.Print.{derivation_text, derivations_text}

texts-push : (names : List Bytes) (ds : List Derivation) (d : Derivation) →
    derivations_text names (derivations_from (map plain_derivation (ds ++ d ∷ [])))
    ≡ derivations_text names (derivations_from (map plain_derivation ds)) ++ derivation_text names (plain_derivation d)
texts-push names [] d = simp append-nil refl
texts-push names (e ∷ ds) d =
    ap (λ t. derivation_text names (plain_derivation e) ++ t) (texts-push names ds d)
    ∙ sym (append_assoc (derivation_text names (plain_derivation e)) (derivations_text names (derivations_from (map plain_derivation ds))) (derivation_text names (plain_derivation d)))

-- the text of the first i derivations, and of one more
pub texts-more : (names : List Bytes) (ds : List Derivation) (i : ℕ) (d : Derivation) → i < length ds → d ≡ get_or ds i d →
    derivations_text names (derivations_from (map plain_derivation (take (i + 1) ds)))
    ≡ derivations_text names (derivations_from (map plain_derivation (take i ds))) ++ derivation_text names (plain_derivation d)
texts-more names ds i d within is =
    ap (λ es. derivations_text names (derivations_from (map plain_derivation es))) (take_more ds i d within ∙ ap (λ e. take i ds ++ (e ∷ [])) (sym is))
    ∙ texts-push names (take i ds) d
