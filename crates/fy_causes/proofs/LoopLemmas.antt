-- What loops have done so far, and what is left.
use Rattle.std.proofs.Common.{ℕ, ◌+◌, ◌<◌, ◌≤◌, ◌≡◌, Bool, true, List, [], ◌∷◌, ◌++◌, length, map, take, drop, get_or, Option, Some, None, option_map, Vec, Global, refl, sym, ap, ◌∙◌}
use Rattle.std.specs.Prelude.{if◌then◌else◌}
use Rattle.std.proofs.lemmas.List.{append_assoc as list_assoc, map-append, take_all, take_more, drop_more}
use Rattle.fy_types.specs.declared.types.Atom.{Atom}
use Rattle.fy_types.specs.declared.types.Ty.{Ty}
use Rattle.fy_types.specs.Types.{PlainType}
use Rattle.fy_types.specs.Paths.{PlainPaths, append, called, paths}
use Rattle.fy_types.specs.Bounds.{meet_of}
use Rattle.fy_types.specs.Once.{once}
use Rattle.fy_types.specs.Reading.{plain_paths, plain_type, types_from}
use Rattle.fy_types.proofs.Laws.{append_assoc, append-none}
use Rattle.fy_phrase.specs.declared.phrase.Phrase.{Phrase}
use Rattle.fy_phrase.specs.Tree.{Tree, Trees}
use Rattle.fy_phrase.specs.Reads.{reads, trees_from}
use Rattle.fy_derive.specs.Least.{alternatives_of}
use Rattle.fy_least.proofs.CallLemmas.{meet-once}
use Rattle.fy_causes.specs.declared.found.Found.{Found}
use Rattle.fy_causes.specs.declared.parts.Part.{Part}
use Rattle.fy_causes.specs.Occurrences.{Variable, Occurrence, occurs, each_occurs, least_of}
use Rattle.fy_causes.specs.Blamed.{blamed}
use Rattle.fy_causes.specs.Causes.{first_wanting, has_some, taken_at, unless_had, with_index}
use Rattle.fy_causes.specs.Readings.{found_at, found_read, part_type}

-- the first members and one more, and what is left behind one
pub first_more : {A B : Type 0} (f : A → B) (xs : List A) (i : ℕ) (x : A) → i < length xs → x ≡ get_or xs i x →
    map f (take (i + 1) xs) ≡ map f (take i xs) ++ f x ∷ []
first_more f xs i x within is =
    ap (map f) (take_more xs i x within ∙ ap (λ y. take i xs ++ (y ∷ [])) (sym is)) ∙ map-append f (take i xs) (x ∷ [])

pub left_more : {A B : Type 0} (f : A → B) (xs : List A) (i : ℕ) (x : A) → i < length xs → x ≡ get_or xs i x →
    map f (drop i xs) ≡ f x ∷ map f (drop (i + 1) xs)
left_more f xs i x within is = ap (map f) (drop_more xs i x within ∙ ap (λ y. y ∷ drop (i + 1) xs) (sym is))

-- phrases and one more
pub occurs-more : (G : List Variable) (ts : List Tree) (t : Tree) → each_occurs G (trees_from (ts ++ t ∷ [])) ≡ each_occurs G (trees_from ts) ++ occurs G t ∷ []
occurs-more G [] t = refl
occurs-more G (s ∷ ts) t = ap (λ os. occurs G s ∷ os) (occurs-more G ts t)

-- alternatives and one more
alternatives-more : (As : List PlainType) (A : PlainType) (f : PlainPaths → PlainPaths) →
    alternatives_of (types_from (As ++ A ∷ [])) f ≡ append (alternatives_of (types_from As) f) (called (paths A) (f (paths A)))
alternatives-more [] A f = append-none (called (paths A) (f (paths A)))
alternatives-more (B ∷ As) A f =
    ap (append (called (paths B) (f (paths B)))) (alternatives-more As A f)
    ∙ sym (append_assoc (called (paths B) (f (paths B))) (alternatives_of (types_from As) f) (called (paths A) (f (paths A))))

pub alternative-met : (xs : List Ty) (i : ℕ) (x : Ty) (f : PlainPaths → PlainPaths) (P C : PlainPaths) → i < length xs → x ≡ get_or xs i x →
    P ≡ once (alternatives_of (types_from (map plain_type (take i xs))) f) → C ≡ called (paths (plain_type x)) (f (paths (plain_type x))) →
    meet_of P C ≡ once (alternatives_of (types_from (map plain_type (take (i + 1) xs))) f)
alternative-met xs i x f P C within is so_far here =
    ap (λ X. meet_of X C) so_far
    ∙ (ap (meet_of (once (alternatives_of (types_from (map plain_type (take i xs))) f))) here
    ∙ (meet-once (alternatives_of (types_from (map plain_type (take i xs))) f) (called (paths (plain_type x)) (f (paths (plain_type x))))
    ∙ ap once (sym (ap (λ As. alternatives_of (types_from As) f) (first_more plain_type xs i x within is)
    ∙ alternatives-more (map plain_type (take i xs)) (plain_type x) f))))

-- the first part that has none of the atoms that its rule takes
pub wanting-later : (p : Tree) (ps : List Part) (i : ℕ) (x : Part) (o : Option (ℕ × List Atom)) → i < length ps → x ≡ get_or ps i x →
    unless_had (part_type x) (taken_at p i) ≡ None → first_wanting p i (map part_type (drop i ps)) ≡ o →
    first_wanting p (i + 1) (map part_type (drop (i + 1) ps)) ≡ o
wanting-later p ps i x o within is had so_far =
    sym (ap (first_wanting p i) (left_more part_type ps i x within is)
    ∙ ap (λ w. with_index i w (first_wanting p (i + 1) (map part_type (drop (i + 1) ps)))) had)
    ∙ so_far

pub had-none : (P : PlainPaths) (o : Option (List Atom)) (us vs : List Atom) (b : Bool) → o ≡ Some us → vs ≡ us → b ≡ has_some P vs → b ≡ true →
    unless_had P o ≡ None
had-none P o us vs b taken same had some =
    ap (unless_had P) taken ∙ ap (λ c. if c then None else Some us) (ap (has_some P) (sym same) ∙ (sym had ∙ some))

pub none-taken : (P : PlainPaths) (o : Option (Vec Atom Global)) (u : Option (List Atom)) → option_map (λ (v : Vec Atom Global). v.items) o ≡ u →
    ((v : Vec Atom Global) → o ≡ Some v → ⊥) → unless_had P u ≡ None
none-taken P None u taken none = ap (unless_had P) (sym taken)
none-taken P (Some v) u taken none = absurd (none v refl)

-- what is found of a phrase, by both clauses
pub both-found : (f : Found) (o : Occurrence) → plain_paths f.paths ≡ least_of o → (found_read f).1 ≡ blamed o.around o.phrase → found_read f ≡ found_at o
both-found f o e g = ap (λ P. (P, (found_read f).1)) e ∙ ap (λ b. (least_of o, b)) g

-- phrases so far, and one more
occurs-first : (G : List Variable) (xs : List Phrase) (i : ℕ) (x : Phrase) → i < length xs → x ≡ get_or xs i x →
    each_occurs G (trees_from (map reads (take (i + 1) xs))) ≡ each_occurs G (trees_from (map reads (take i xs))) ++ occurs G (reads x) ∷ []
occurs-first G xs i x within is =
    ap (λ ts. each_occurs G (trees_from ts)) (first_more reads xs i x within is) ∙ occurs-more G (map reads (take i xs)) (reads x)

pub pushed-more : {A B : Type 0} (f : A → B) (g : Occurrence → B) (G : List Variable) (xs : List Phrase) (i : ℕ) (x : Phrase) (us bs : List A) (a : A) →
    i < length xs → x ≡ get_or xs i x → bs ≡ us ++ a ∷ [] → (front : List B) →
    map f us ≡ front ++ map g (each_occurs G (trees_from (map reads (take i xs)))) → f a ≡ g (occurs G (reads x)) →
    map f bs ≡ front ++ map g (each_occurs G (trees_from (map reads (take (i + 1) xs))))
pushed-more f g G xs i x us bs a within is pushed front so_far same =
    let os = each_occurs G (trees_from (map reads (take i xs))) in
    ap (map f) pushed
    ∙ (map-append f us (a ∷ [])
    ∙ (ap (λ ys. ys ++ f a ∷ []) so_far
    ∙ (list_assoc front (map g os) (f a ∷ [])
    ∙ (ap (λ y. front ++ (map g os ++ y ∷ [])) same
    ∙ sym (ap (λ ys. front ++ map g ys) (occurs-first G xs i x within is)
    ∙ ap (λ ys. front ++ ys) (map-append g os (occurs G (reads x) ∷ [])))))))

pub pushed-all : {B : Type 0} (g : Occurrence → B) (G : List Variable) (xs : List Phrase) (ps : Trees) (i : ℕ) → ps ≡ trees_from (map reads xs) →
    length xs ≤ i → map g (each_occurs G (trees_from (map reads (take i xs)))) ≡ map g (each_occurs G ps)
pushed-all g G xs ps i read past =
    ap (λ ys. map g (each_occurs G (trees_from (map reads ys)))) (take_all i xs past) ∙ ap (λ ts. map g (each_occurs G ts)) (sym read)

-- occurrences so far, and one more
pub listed-more : {A : Type 0} (f : A → Occurrence) (G : List Variable) (xs : List Phrase) (i : ℕ) (x : Phrase) (us bs : List A) (a : A) →
    i < length xs → x ≡ get_or xs i x → bs ≡ us ++ a ∷ [] → (front : List Occurrence) →
    map f us ≡ front ++ each_occurs G (trees_from (map reads (take i xs))) → f a ≡ occurs G (reads x) →
    map f bs ≡ front ++ each_occurs G (trees_from (map reads (take (i + 1) xs)))
listed-more f G xs i x us bs a within is pushed front so_far same =
    let os = each_occurs G (trees_from (map reads (take i xs))) in
    ap (map f) pushed
    ∙ (map-append f us (a ∷ [])
    ∙ (ap (λ ys. ys ++ f a ∷ []) so_far
    ∙ (list_assoc front os (f a ∷ [])
    ∙ (ap (λ y. front ++ (os ++ y ∷ [])) same
    ∙ sym (ap (λ ys. front ++ ys) (occurs-first G xs i x within is))))))
