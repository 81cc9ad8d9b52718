-- `meet` is a greatest lower bound, and `join` a least upper bound.
use Rattle.std.proofs.Common.{◌≡◌, Bool, true, false, ◌&&◌, ◌||◌, eqb, if◌then◌else◌, refl, subst, eqb-true, eq-eqb}
use Rattle.fy_types.specs.declared.types.Atom.{Atom}
use Rattle.fy_types.specs.declared.types.Atom.TheVariants.{Comm, Compl}
use Rattle.fy_types.specs.Types.{PlainType}
use Rattle.fy_types.specs.Subtyping.{IsSubtype}
use Rattle.fy_types.specs.Paths.{PlainPath, PlainPaths, end, call, pick, no_paths, and_path, append, picked, paths, type_of_paths}
use Rattle.fy_types.specs.PathOrder.{IsEndBelow, same_end, compl_below, IsPathBelow, ends, calls, picks, ArePathsBelow, none_left, and_above, HasBelow, here, there}
use Rattle.fy_types.specs.Once.{place}
use Rattle.fy_types.specs.Bounds.{meet_of, is_end_low, common_end, common, commons_with, commons, join_of, IsGreatestLowerBound, IsLeastUpperBound}
use Rattle.fy_types.proofs.Order.{ArePathsBelow-refl, ArePathsBelow-trans}
use Rattle.fy_types.proofs.Laws.{append-left, append-right, append-greatest, HasBelow-left, HasBelow-right, called-below, picked-below, HasBelow-called, HasBelow-picked}
use Rattle.fy_types.proofs.Central.{subtype-iff, paths-of_types}
use Rattle.fy_types.proofs.OnceLemmas.{both_true, place-same, once-below, below-once, once-some}

pub meet_of-left : (P Q : PlainPaths) → ArePathsBelow (meet_of P Q) P
meet_of-left P Q = ArePathsBelow-trans (append P Q) (once-below (append P Q)) (append-left P Q)

pub meet_of-right : (P Q : PlainPaths) → ArePathsBelow (meet_of P Q) Q
meet_of-right P Q = ArePathsBelow-trans (append P Q) (once-below (append P Q)) (append-right P Q)

pub meet_of-greatest : (R P Q : PlainPaths) → ArePathsBelow R P → ArePathsBelow R Q → ArePathsBelow R (meet_of P Q)
meet_of-greatest R P Q low next = ArePathsBelow-trans (append P Q) (append-greatest low next) (below-once (append P Q))

or_cases : {C : Type 0} (a b : Bool) → a || b ≡ true → (a ≡ true → C) → (b ≡ true → C) → C
or_cases true b e f g = f refl
or_cases false b e f g = g e

-- the test of ends is their order
pub is_end_low-sound : (a b : Atom) → is_end_low a b ≡ true → IsEndBelow a b
is_end_low-sound a b e = or_cases (eqb (place a) (place b)) ((eqb (place a) 4) && (eqb (place b) 3)) e
    (λ h. subst (λ x. IsEndBelow a x) (place-same a b (eqb-true (place a) (place b) h)) same_end)
    (λ h. let both = both_true (eqb (place a) 4) (eqb (place b) 3) h in
    rw (place-same a Compl (eqb-true (place a) 4 both.0), place-same b Comm (eqb-true (place b) 3 both.1)) compl_below)

or_left : (a b : Bool) → a ≡ true → a || b ≡ true
or_left a b e = rw e refl

is_end_low-refl : (a : Atom) → is_end_low a a ≡ true
is_end_low-refl a = or_left (eqb (place a) (place a)) _ (eq-eqb (place a) (place a) refl)

pub is_end_low-complete : {a b : Atom} → IsEndBelow a b → is_end_low a b ≡ true
is_end_low-complete (same_end {a = a}) = is_end_low-refl a
is_end_low-complete compl_below = refl

if-cases : (C : PlainPaths → Type 0) (b : Bool) (P Q : PlainPaths) → (b ≡ true → C P) → (b ≡ false → C Q) → C (if b then P else Q)
if-cases C true P Q f g = f refl
if-cases C false P Q f g = g refl

ends-below : {a b : Atom} → IsEndBelow a b → ArePathsBelow (and_path (end a) no_paths) (and_path (end b) no_paths)
ends-below low = and_above (here (ends low)) none_left

common_end-left : (a b : Atom) → ArePathsBelow (and_path (end a) no_paths) (common_end a b)
common_end-left a b =
    if-cases (λ X. ArePathsBelow (and_path (end a) no_paths) X) (is_end_low a b) _ _ (λ e. ends-below (is_end_low-sound a b e))
    (λ e. if-cases (λ X. ArePathsBelow (and_path (end a) no_paths) X) (is_end_low b a) _ _
    (λ f. ArePathsBelow-refl (and_path (end a) no_paths)) (λ f. none_left))

common_end-right : (a b : Atom) → ArePathsBelow (and_path (end b) no_paths) (common_end a b)
common_end-right a b =
    if-cases (λ X. ArePathsBelow (and_path (end b) no_paths) X) (is_end_low a b) _ _ (λ e. ArePathsBelow-refl (and_path (end b) no_paths))
    (λ e. if-cases (λ X. ArePathsBelow (and_path (end b) no_paths) X) (is_end_low b a) _ _
    (λ f. ends-below (is_end_low-sound b a f)) (λ f. none_left))

common_end-least : {a b c : Atom} → IsEndBelow a c → IsEndBelow b c → HasBelow (common_end a b) (end c)
common_end-least (same_end {a = a}) same_end = rw (is_end_low-refl a) (here (ends same_end))
common_end-least same_end compl_below = here (ends same_end)
common_end-least compl_below same_end = here (ends same_end)
common_end-least compl_below compl_below = here (ends compl_below)

common-left : (p q : PlainPath) → ArePathsBelow (and_path p no_paths) (common p q)
common-left (end a) (end b) = common_end-left a b
common-left (end a) (call E q) = none_left
common-left (end a) (pick j q) = none_left
common-left (call D p) (end b) = none_left
common-left (call D p) (call E q) = called-below {P = and_path p no_paths} (meet_of-left D E) (common-left p q)
common-left (call D p) (pick j q) = none_left
common-left (pick i p) (end b) = none_left
common-left (pick i p) (call E q) = none_left
common-left (pick i p) (pick j q) =
    if-cases (λ X. ArePathsBelow (and_path (pick i p) no_paths) X) (eqb i j) _ _ (λ e. picked-below i (common-left p q)) (λ e. none_left)

common-right : (p q : PlainPath) → ArePathsBelow (and_path q no_paths) (common p q)
common-right (end a) (end b) = common_end-right a b
common-right (end a) (call E q) = none_left
common-right (end a) (pick j q) = none_left
common-right (call D p) (end b) = none_left
common-right (call D p) (call E q) = called-below {P = and_path q no_paths} (meet_of-right D E) (common-right p q)
common-right (call D p) (pick j q) = none_left
common-right (pick i p) (end b) = none_left
common-right (pick i p) (call E q) = none_left
common-right (pick i p) (pick j q) =
    if-cases (λ X. ArePathsBelow (and_path (pick j q) no_paths) X) (eqb i j) _ _
    (λ e. subst (λ k. ArePathsBelow (and_path (pick k q) no_paths) (picked i (common p q))) (eqb-true i j e) (picked-below i (common-right p q)))
    (λ e. none_left)

common-least : (r : PlainPath) {p q : PlainPath} → IsPathBelow p r → IsPathBelow q r → HasBelow (common p q) r
common-least (end c) (ends low) (ends next) = common_end-least low next
common-least (call F r) (calls {D = D} wide low) (calls {D = E} wider next) =
    HasBelow-called (meet_of-greatest F D E wide wider) (common-least r low next)
common-least (pick i r) (picks low) (picks next) = rw (eq-eqb i i refl) (HasBelow-picked (common-least r low next))

commons_with-left : (T : PlainPaths) (p : PlainPath) (Q : PlainPaths) → HasBelow T p → ArePathsBelow T (commons_with p Q)
commons_with-left T p no_paths some = none_left
commons_with-left T p (and_path q Q) some =
    append-greatest (ArePathsBelow-trans (and_path p no_paths) (and_above some none_left) (common-left p q)) (commons_with-left T p Q some)

commons-left : (T P Q : PlainPaths) → ArePathsBelow T P → ArePathsBelow T (commons P Q)
commons-left T no_paths Q below = none_left
commons-left T (and_path p P) Q (and_above some rest) = append-greatest (commons_with-left T p Q some) (commons-left T P Q rest)

commons_with-right : (T : PlainPaths) (p : PlainPath) (Q : PlainPaths) → ArePathsBelow T Q → ArePathsBelow T (commons_with p Q)
commons_with-right T p no_paths below = none_left
commons_with-right T p (and_path q Q) (and_above some rest) =
    append-greatest (ArePathsBelow-trans (and_path q no_paths) (and_above some none_left) (common-right p q)) (commons_with-right T p Q rest)

commons-right : (T P Q : PlainPaths) → ArePathsBelow T Q → ArePathsBelow T (commons P Q)
commons-right T no_paths Q below = none_left
commons-right T (and_path p P) Q below = append-greatest (commons_with-right T p Q below) (commons-right T P Q below)

commons_with-some : {p r : PlainPath} (Q : PlainPaths) → IsPathBelow p r → HasBelow Q r → HasBelow (commons_with p Q) r
commons_with-some no_paths low some = elim some [ ]
commons_with-some {p = p} {r = r} (and_path q Q) low (here next) = HasBelow-left (commons_with p Q) (common-least r low next)
commons_with-some {p = p} (and_path q Q) low (there some) = HasBelow-right (common p q) (commons_with-some Q low some)

commons-some : {r : PlainPath} (P Q : PlainPaths) → HasBelow P r → HasBelow Q r → HasBelow (commons P Q) r
commons-some no_paths Q some next = elim some [ ]
commons-some (and_path p P) Q (here low) next = HasBelow-left (commons P Q) (commons_with-some Q low next)
commons-some (and_path p P) Q (there some) next = HasBelow-right (commons_with p Q) (commons-some P Q some next)

pub join_of-left : (P Q : PlainPaths) → ArePathsBelow P (join_of P Q)
join_of-left P Q = ArePathsBelow-trans (commons P Q) (commons-left P P Q (ArePathsBelow-refl P)) (below-once (commons P Q))

pub join_of-right : (P Q : PlainPaths) → ArePathsBelow Q (join_of P Q)
join_of-right P Q = ArePathsBelow-trans (commons P Q) (commons-right Q P Q (ArePathsBelow-refl Q)) (below-once (commons P Q))

pub join_of-least : (P Q : PlainPaths) {R : PlainPaths} → ArePathsBelow P R → ArePathsBelow Q R → ArePathsBelow (join_of P Q) R
join_of-least P Q none_left below = none_left
join_of-least P Q (and_above some rest) (and_above next more) =
    and_above (once-some (commons P Q) (commons-some P Q some next)) (join_of-least P Q rest more)

-- the same on the types
to_type : (A : PlainType) (P : PlainPaths) → ArePathsBelow (paths A) P → IsSubtype A (type_of_paths P)
to_type A P below = (subtype-iff A (type_of_paths P)).1 (rw (paths-of_types P) below)

to_paths : (A : PlainType) (P : PlainPaths) → IsSubtype A (type_of_paths P) → ArePathsBelow (paths A) P
to_paths A P low = rw (paths-of_types P) at ((subtype-iff A (type_of_paths P)).0 low)

from_type : (A : PlainType) (P : PlainPaths) → ArePathsBelow P (paths A) → IsSubtype (type_of_paths P) A
from_type A P below = (subtype-iff (type_of_paths P) A).1 (rw (paths-of_types P) below)

from_paths : (A : PlainType) (P : PlainPaths) → IsSubtype (type_of_paths P) A → ArePathsBelow P (paths A)
from_paths A P low = rw (paths-of_types P) at ((subtype-iff (type_of_paths P) A).0 low)

of_forms : (P Q : PlainPaths) → ArePathsBelow P Q → IsSubtype (type_of_paths P) (type_of_paths Q)
of_forms P Q below = to_type (type_of_paths P) Q (rw (paths-of_types P) below)

pub meet_of-bound : (P Q : PlainPaths) → IsGreatestLowerBound (type_of_paths (meet_of P Q)) (type_of_paths P) (type_of_paths Q)
meet_of-bound P Q = record {
  first = of_forms (meet_of P Q) P (meet_of-left P Q);
  second = of_forms (meet_of P Q) Q (meet_of-right P Q);
  greatest = λ C low next. to_type C (meet_of P Q) (meet_of-greatest (paths C) P Q (to_paths C P low) (to_paths C Q next));
}

pub join_of-bound : (P Q : PlainPaths) → IsLeastUpperBound (type_of_paths (join_of P Q)) (type_of_paths P) (type_of_paths Q)
join_of-bound P Q = record {
  first = of_forms P (join_of P Q) (join_of-left P Q);
  second = of_forms Q (join_of P Q) (join_of-right P Q);
  least = λ C low next. from_type C (join_of P Q) (join_of-least P Q (from_paths C P low) (from_paths C Q next));
}
