-- What is found of the first of several phrases, or under the first of several alternatives, and of one more.
use Rattle.std.proofs.Common.{ℕ, zero, suc, ◌+◌, ◌<◌, ◌≤◌, ◌≡◌, List, [], ◌∷◌, ◌++◌, ◌⊎◌, inl, inr, length, map, take, get_or, sym, ap, ◌∙◌, subst, arith}
use Rattle.std.proofs.lemmas.List.{map-append, take_more, take_all}
use Rattle.fy_types.specs.declared.types.Ty.{Ty}
use Rattle.fy_types.specs.Paths.{PlainPaths, paths}
use Rattle.fy_types.specs.Limits.{IsWithinLimits, IsTooLarge}
use Rattle.fy_types.specs.Reading.{plain_type, types_from}
use Rattle.fy_phrase.specs.declared.phrase.Phrase.{Phrase}
use Rattle.fy_phrase.specs.Tree.{Tree, Trees}
use Rattle.fy_phrase.specs.Reads.{reads, trees_from}
use Rattle.fy_phrase.specs.Sizes as sizes
use Rattle.fy_derive.specs.Least.{visits, visits_of_all, visits_under}
use Rattle.fy_least.specs.declared.found.Found.{Found}
use Rattle.fy_least.specs.Limits.{forms}
use Rattle.fy_least.specs.Counts.{SomeTooLarge, this_form, later_form, PassLimits}
use Rattle.fy_least.specs.Many.{AreFound, AreFoundUnder}
use Rattle.fy_least.specs.Visited.{IsFound}
use Rattle.fy_least.proofs.CountLemmas.{pass-left, pass-right}
use Rattle.fy_least.proofs.PartLemmas.{found-push, under-push}

first-more : {A B : Type 0} (f : A → B) (xs : List A) (i : ℕ) (x : A) → i < length xs → x ≡ get_or xs i x →
    map f (take (i + 1) xs) ≡ map f (take i xs) ++ f x ∷ []
first-more f xs i x within is =
    ap (map f) (take_more xs i x within ∙ ap (λ y. take i xs ++ (y ∷ [])) (sym is)) ∙ map-append f (take i xs) (x ∷ [])

-- the parts of a case
pub part-more : (G : List PlainPaths) (xs : List Phrase) (i : ℕ) (x : Phrase) (fs gs : List Found) (f : Found) → i < length xs → x ≡ get_or xs i x →
    gs ≡ fs ++ f ∷ [] → AreFound G (trees_from (map reads (take i xs))) fs → IsFound G (reads x) f →
    AreFound G (trees_from (map reads (take (i + 1) xs))) gs
part-more G xs i x fs gs f within is pushed hs h =
    subst (λ ts. AreFound G (trees_from ts) gs) (sym (first-more reads xs i x within is))
    (subst (AreFound G (trees_from (map reads (take i xs) ++ reads x ∷ []))) (sym pushed)
    (found-push G (map reads (take i xs)) fs (reads x) f hs h))

pub parts-all : (G : List PlainPaths) (xs : List Phrase) (ps : Trees) (i : ℕ) (fs : List Found) → ps ≡ trees_from (map reads xs) → length xs ≤ i →
    AreFound G (trees_from (map reads (take i xs))) fs → AreFound G ps fs
parts-all G xs ps i fs read past hs =
    subst (λ ts. AreFound G ts fs) (ap (λ ys. trees_from (map reads ys)) (take_all i xs past) ∙ sym read) hs

pub part-refused : (G : List PlainPaths) (xs : List Phrase) (i : ℕ) (x : Phrase) → i < length xs → x ≡ get_or xs i x →
    ((m : ℕ) → PassLimits (visits m G (reads x))) → (m : ℕ) → PassLimits (visits_of_all m G (trees_from (map reads xs)))
part-refused G [] i x within is h m = absurd (omega arith)
part-refused G (y ∷ ys) zero x within is h m =
    pass-left (visits m G (reads y)) (visits_of_all (m + sizes.nodes (reads y)) G (trees_from (map reads ys)))
    (subst (λ z. PassLimits (visits m G (reads z))) is (h m))
part-refused G (y ∷ ys) (suc i) x within is h m =
    let earlier : i < length ys = omega arith in
    pass-right (visits m G (reads y)) (visits_of_all (m + sizes.nodes (reads y)) G (trees_from (map reads ys)))
    (part-refused G ys i x earlier is h (m + sizes.nodes (reads y)))

-- the alternatives of an abstraction
pub alternative-more : (G : List PlainPaths) (b : Tree) (xs : List Ty) (i : ℕ) (x : Ty) (fs gs : List Found) (f : Found) → i < length xs →
    x ≡ get_or xs i x → gs ≡ fs ++ f ∷ [] → AreFoundUnder G b (types_from (map plain_type (take i xs))) fs → IsWithinLimits (paths (plain_type x)) →
    IsFound (paths (plain_type x) ∷ G) b f → AreFoundUnder G b (types_from (map plain_type (take (i + 1) xs))) gs
alternative-more G b xs i x fs gs f within is pushed hs low h =
    subst (λ As. AreFoundUnder G b (types_from As) gs) (sym (first-more plain_type xs i x within is))
    (subst (AreFoundUnder G b (types_from (map plain_type (take i xs) ++ plain_type x ∷ []))) (sym pushed)
    (under-push G b (map plain_type (take i xs)) fs (plain_type x) f hs low h))

pub alternatives-all : (G : List PlainPaths) (b : Tree) (xs : List Ty) (i : ℕ) (fs : List Found) → length xs ≤ i →
    AreFoundUnder G b (types_from (map plain_type (take i xs))) fs → AreFoundUnder G b (types_from (map plain_type xs)) fs
alternatives-all G b xs i fs past hs = subst (λ ys. AreFoundUnder G b (types_from (map plain_type ys)) fs) (take_all i xs past) hs

alternative-large : (xs : List Ty) (i : ℕ) (x : Ty) → i < length xs → x ≡ get_or xs i x → IsTooLarge (paths (plain_type x)) →
    SomeTooLarge (forms (types_from (map plain_type xs)))
alternative-large [] i x within is h = absurd (omega arith)
alternative-large (y ∷ ys) zero x within is h = this_form (subst (λ z. IsTooLarge (paths (plain_type z))) is h)
alternative-large (y ∷ ys) (suc i) x within is h =
    let earlier : i < length ys = omega arith in
    later_form (alternative-large ys i x earlier is h)

alternative-refused : (G : List PlainPaths) (b : Tree) (xs : List Ty) (i : ℕ) (x : Ty) → i < length xs → x ≡ get_or xs i x →
    ((m : ℕ) → PassLimits (visits m (paths (plain_type x) ∷ G) b)) → (m : ℕ) →
    PassLimits (visits_under (types_from (map plain_type xs)) (λ D. visits m (D ∷ G) b))
alternative-refused G b [] i x within is h m = absurd (omega arith)
alternative-refused G b (y ∷ ys) zero x within is h m =
    pass-left (visits m (paths (plain_type y) ∷ G) b) (visits_under (types_from (map plain_type ys)) (λ D. visits m (D ∷ G) b))
    (subst (λ z. PassLimits (visits m (paths (plain_type z) ∷ G) b)) is (h m))
alternative-refused G b (y ∷ ys) (suc i) x within is h m =
    let earlier : i < length ys = omega arith in
    pass-right (visits m (paths (plain_type y) ∷ G) b) (visits_under (types_from (map plain_type ys)) (λ D. visits m (D ∷ G) b))
    (alternative-refused G b ys i x earlier is h m)

-- an alternative that is refused, or under which the body is
pub alternative-passes : (G : List PlainPaths) (b : Tree) (xs : List Ty) (i : ℕ) (x : Ty) → i < length xs → x ≡ get_or xs i x →
    IsTooLarge (paths (plain_type x)) ⊎ ((m : ℕ) → PassLimits (visits m (paths (plain_type x) ∷ G) b)) →
    SomeTooLarge (forms (types_from (map plain_type xs)))
    ⊎ ((m : ℕ) → PassLimits (visits_under (types_from (map plain_type xs)) (λ D. visits m (D ∷ G) b)))
alternative-passes G b xs i x within is (inl large) = inl (alternative-large xs i x within is large)
alternative-passes G b xs i x within is (inr passes) = inr (alternative-refused G b xs i x within is passes)
