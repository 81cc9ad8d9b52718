-- What is advised is above, and is what is asked.
use Rattle.std.proofs.Common.{◌≡◌, Bool, true, false, ◌||◌, ◌&&◌, List, [], ◌∷◌, ◌++◌, cond, Some, refl, sym, ap, ◌∙◌}
use Rattle.std.specs.Prelude.{find}
use Rattle.std.specs.List.{list_any, list_all, filter}
use Rattle.fy_types.specs.Types.{PlainType, ns, atom, arrow, field, meet}
use Rattle.fy_derive.specs.Subsumption.{is_below}
use Rattle.fy_derive.specs.Rules.{same_type}
use Rattle.fy_reasons.specs.Expected.{Asked, anything, one_of, an_arrow, a_field, is_asked, has_domain, members, wanted, advised, AdviceIsTaken}
use Rattle.fy_derive.proofs.RuleLemmas.{same_type-refl}

pub and-both : (a b : Bool) → a ≡ true → b ≡ true → (a && b) ≡ true
and-both a b e f = ap (λ x. x && b) e ∙ f

pub and-first : (a b : Bool) → (a && b) ≡ true → a ≡ true
and-first true b e = refl
and-first false b e = e

pub and-second : (a b : Bool) → (a && b) ≡ true → b ≡ true
and-second true b e = e
and-second false b e = absurd cc

or-left : (a b : Bool) → a ≡ true → (a || b) ≡ true
or-left a b e = ap (λ x. x || b) e

or-right : (a b : Bool) → b ≡ true → (a || b) ≡ true
or-right true b e = refl
or-right false b e = e

-- what is found passes the test, and what all pass
found-step : (f g : PlainType → Bool) (x : PlainType) (xs : List PlainType) (C : PlainType) → list_all g (x ∷ xs) ≡ true →
    (find f xs ≡ Some C → (f C ≡ true) × (g C ≡ true)) → (b : Bool) → f x ≡ b → cond b (Some x) (find f xs) ≡ Some C → (f C ≡ true) × (g C ≡ true)
found-step f g x xs C h later true is i =
    let same : x ≡ C = cc in (ap f (sym same) ∙ is, ap g (sym same) ∙ and-first (g x) (list_all g xs) h)
found-step f g x xs C h later false is i = later i

found : (f g : PlainType → Bool) (xs : List PlainType) (C : PlainType) → list_all g xs ≡ true → find f xs ≡ Some C → (f C ≡ true) × (g C ≡ true)
found f g [] C h e = absurd cc
found f g (x ∷ xs) C h e = found-step f g x xs C h (λ i. found f g xs C (and-second (g x) (list_all g xs) h) i) (f x) refl e

filter-step : (f g : PlainType → Bool) (x : PlainType) (xs : List PlainType) → (f x ≡ true → g x ≡ true) → list_all g (filter f xs) ≡ true →
    (b : Bool) → f x ≡ b → list_all g (cond b (x ∷ filter f xs) (filter f xs)) ≡ true
filter-step f g x xs h later true e = and-both (g x) (list_all g (filter f xs)) (h e) later
filter-step f g x xs h later false e = later

all-filter : (f g : PlainType → Bool) → ((x : PlainType) → f x ≡ true → g x ≡ true) → (xs : List PlainType) → list_all g (filter f xs) ≡ true
all-filter f g h [] = refl
all-filter f g h (x ∷ xs) = filter-step f g x xs (h x) (all-filter f g h xs) (f x) refl

all-append : (g : PlainType → Bool) (xs ys : List PlainType) → list_all g xs ≡ true → list_all g ys ≡ true → list_all g (xs ++ ys) ≡ true
all-append g [] ys e f = f
all-append g (x ∷ xs) ys e f =
    and-both (g x) (list_all g (xs ++ ys)) (and-first (g x) (list_all g xs) e) (all-append g xs ys (and-second (g x) (list_all g xs) e) f)

-- each type of a list is one of them
all-among : (Bs Cs : List PlainType) → ((C : PlainType) → list_any (same_type C) Bs ≡ true → list_any (same_type C) Cs ≡ true) →
    list_all (λ C. list_any (same_type C) Cs) Bs ≡ true
all-among [] Cs h = refl
all-among (B ∷ Bs) Cs h =
    and-both (list_any (same_type B) Cs) (list_all (λ C. list_any (same_type C) Cs) Bs)
    (h B (or-left (same_type B B) (list_any (same_type B) Bs) (same_type-refl B)))
    (all-among Bs Cs (λ C e. h C (or-right (same_type C B) (list_any (same_type C) Bs) e)))

domain-arrow : (B C : PlainType) → has_domain B C ≡ true → is_asked an_arrow C ≡ true
domain-arrow B ns e = absurd cc
domain-arrow B (atom a) e = absurd cc
domain-arrow B (arrow A C) e = refl
domain-arrow B (field i A) e = absurd cc
domain-arrow B (meet As) e = absurd cc

all-wanted : (a : Asked) (A B : PlainType) → list_all (is_asked a) (wanted a A B) ≡ true
all-wanted anything A B = refl
all-wanted (one_of Bs) A B = all-among Bs Bs (λ C e. e)
all-wanted an_arrow A B =
    all-append (is_asked an_arrow) (filter (has_domain B) (members A)) (filter (is_asked an_arrow) (members A))
    (all-filter (has_domain B) (is_asked an_arrow) (domain-arrow B) (members A)) (all-filter (is_asked an_arrow) (is_asked an_arrow) (λ x e. e) (members A))
all-wanted (a_field i) A B = all-filter (is_asked (a_field i)) (is_asked (a_field i)) (λ x e. e) (members A)

pub advice-taken : AdviceIsTaken
advice-taken a A B C e = found (λ D. is_below A D) (is_asked a) (wanted a A B) C (all-wanted a A B) e
