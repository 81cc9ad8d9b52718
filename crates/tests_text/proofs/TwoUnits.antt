-- Two units of which the first was made with fewer names.
use Rattle.std.proofs.Common.{◌≡◌, List, [], ◌∷◌, ◌++◌, sym, ap, ◌∙◌, subst}
use Rattle.std.specs.Prelude.{All}
use Rattle.std.proofs.lemmas.List.Elements.{All-nil, All-push}
use Rattle.fy_base.specs.Outside.{Bytes}
use Rattle.fy_lexer.specs.Tokens.{HasAdded}
use Rattle.fy_link.specs.declared.unit.Unit.{Unit as UnitValue}
use Rattle.fy_link.specs.Units.{IsUnit}
use Rattle.fy_link.proofs.Made.{unit-later}

pub two_units : (names later : List Bytes) (first second : UnitValue) (none one both : List UnitValue) → none ≡ [] → one ≡ none ++ first ∷ [] → both ≡ one ++ second ∷ [] →
    HasAdded names later → IsUnit names first → IsUnit later second → All (IsUnit later) both
two_units names later first second none one both e f g more h k =
    let is : both ≡ ([] ++ first ∷ []) ++ second ∷ [] = g ∙ ap (λ us. us ++ second ∷ []) (f ∙ ap (λ us. us ++ first ∷ []) e) in
    subst (All (IsUnit later)) (sym is)
    (All-push (IsUnit later) ([] ++ first ∷ []) second (All-push (IsUnit later) [] first (All-nil (IsUnit later)) (unit-later names later first more h)) k)
