-- The joins of a case's parts, from the left.
use Rattle.std.proofs.Common.{ℕ, zero, suc, ◌+◌, ◌<◌, ◌≤◌, ◌≡◌, ◌≢◌, ◌⊎◌, Bool, true, false, List, [], ◌∷◌, ◌++◌, length, take, drop, get_or, inl, inr, refl, sym, ap, ◌∙◌, subst, arith, if◌then◌else◌}
use Rattle.std.proofs.lemmas.List.{append-nil, length-take, take-append-drop, take_more}
use Rattle.fy_base.specs.declared.data.Place.{Place}
use Rattle.fy_types.specs.declared.types.Atom.TheVariants.{Int}
use Rattle.fy_types.specs.Types.{PlainType, atom}
use Rattle.fy_types.specs.Paths.{PlainPaths, no_paths}
use Rattle.fy_types.specs.Reading.{plain_paths}
use Rattle.fy_types.specs.Limits.{all_nodes, IsWithinLimits, IsTooLarge}
use Rattle.fy_types.specs.Bounds.{join_of}
use Rattle.fy_types.specs.Keeping.{capped}
use Rattle.fy_types.specs.Nested.{IsTypeOf}
use Rattle.fy_derive.specs.Derivations.{PlainDerivation, by_ns, sub, rule, and_derivation}
use Rattle.fy_derive.specs.Least.{if_passed}
use Rattle.fy_least.specs.declared.found.Found.{Found}
use Rattle.fy_least.specs.Counts.{nodes_of_forms, AreWithin, no_forms, and_form, SomeTooLarge, this_form, later_form}
use Rattle.fy_least.specs.Limits.{most_together}
use Rattle.fy_least.specs.Many.{IsCase, IsCased, all_at, blame_at_some, case_forms, joined_with, joined, joins_before, earlier_joined, total_of}
use Rattle.fy_least.specs.Visited.{IsMade, IsRefused, blame_at, derivation_of, has_atom}

pub nodes_of_forms-append : (Ps Qs : List PlainPaths) → nodes_of_forms (Ps ++ Qs) ≡ nodes_of_forms Ps + nodes_of_forms Qs
nodes_of_forms-append [] Qs = omega arith
nodes_of_forms-append (P ∷ Ps) Qs = omega (arith, nodes_of_forms-append Ps Qs)

pub AreWithin-append : {Ps Qs : List PlainPaths} → AreWithin Ps → AreWithin Qs → AreWithin (Ps ++ Qs)
AreWithin-append no_forms k = k
AreWithin-append (and_form w h) k = and_form w (AreWithin-append h k)

-- one part more
with-more : (P : PlainPaths) (fs : List Found) (f : Found) → joined_with P (fs ++ f ∷ []) ≡ join_of (joined_with P fs) (plain_paths f.paths)
with-more P [] f = refl
with-more P (g ∷ fs) f = with-more (join_of P (plain_paths g.paths)) fs f

before-more : (P : PlainPaths) (fs : List Found) (f : Found) → 0 < length fs →
    joins_before P (fs ++ f ∷ []) ≡ joins_before P fs ++ joined_with P fs ∷ []
before-more P [] f some = absurd (omega arith)
before-more P (g ∷ []) f some = refl
before-more P (g ∷ h ∷ fs) f some =
    ap (λ Ps. join_of P (plain_paths g.paths) ∷ Ps) (before-more (join_of P (plain_paths g.paths)) (h ∷ fs) f (omega arith))

pub joined-more : (fs : List Found) (i : ℕ) (f : Found) → 0 < i → i < length fs → f ≡ get_or fs i f →
    joined (take (i + 1) fs) ≡ join_of (joined (take i fs)) (plain_paths f.paths)
joined-more [] i f pos within is = absurd (omega arith)
joined-more (g ∷ fs) zero f pos within is = absurd (omega arith)
joined-more (g ∷ fs) (suc i) f pos within is =
    let here : i < length fs = omega arith in
    let next : suc i + 1 ≡ suc (i + 1) = omega arith in
    ap (λ n. joined (take n (g ∷ fs))) next
    ∙ (ap (joined_with (plain_paths g.paths)) (take_more fs i f here ∙ ap (λ x. take i fs ++ x ∷ []) (sym is))
    ∙ with-more (plain_paths g.paths) (take i fs) f)

pub earlier-more : (fs : List Found) (i : ℕ) → 1 < i → i < length fs →
    earlier_joined (take (i + 1) fs) ≡ earlier_joined (take i fs) ++ joined (take i fs) ∷ []
earlier-more [] i pos within = absurd (omega arith)
earlier-more (g ∷ fs) zero pos within = absurd (omega arith)
earlier-more (g ∷ fs) (suc i) pos within =
    let here : i < length fs = omega arith in
    let some : 0 < length (take i fs) = omega (arith, length-take i fs) in
    let next : suc i + 1 ≡ suc (i + 1) = omega arith in
    ap (λ n. earlier_joined (take n (g ∷ fs))) next
    ∙ (ap (joins_before (plain_paths g.paths)) (take_more fs i g here)
    ∙ before-more (plain_paths g.paths) (take i fs) (get_or fs i g) some)

-- one part, and the first two
pub one-joined : (fs : List Found) (f : Found) → length fs ≡ 1 → f ≡ get_or fs 0 f → plain_paths f.paths ≡ joined fs
one-joined [] f one is = absurd (omega arith)
one-joined (g ∷ []) f one is = ap (λ x. plain_paths x.paths) is
one-joined (g ∷ h ∷ fs) f one is = absurd (omega arith)

pub one-earlier : (fs : List Found) → length fs ≡ 1 → earlier_joined fs ≡ []
one-earlier [] one = refl
one-earlier (g ∷ []) one = refl
one-earlier (g ∷ h ∷ fs) one = absurd (omega arith)

pub two-joined : (fs : List Found) (f g : Found) → 1 < length fs → f ≡ get_or fs 0 f → g ≡ get_or fs 1 g →
    join_of (plain_paths f.paths) (plain_paths g.paths) ≡ joined (take 2 fs)
two-joined [] f g some is is' = absurd (omega arith)
two-joined (x ∷ []) f g some is is' = absurd (omega arith)
two-joined (x ∷ y ∷ fs) f g some is is' =
    ap (λ z. join_of (plain_paths z.paths) (plain_paths g.paths)) is ∙ ap (λ z. join_of (plain_paths x.paths) (plain_paths z.paths)) is'

pub two-earlier : (fs : List Found) → earlier_joined (take 2 fs) ≡ []
two-earlier [] = refl
two-earlier (f ∷ []) = refl
two-earlier (f ∷ g ∷ fs) = refl

-- what the first parts pass, all do
before-nodes : (P : PlainPaths) (fs gs : List Found) → nodes_of_forms (joins_before P fs) ≤ nodes_of_forms (joins_before P (fs ++ gs))
before-nodes P [] gs = omega arith
before-nodes P (f ∷ []) gs = omega arith
before-nodes P (f ∷ g ∷ fs) gs = omega (arith, before-nodes (join_of P (plain_paths f.paths)) (g ∷ fs) gs)

pub earlier-nodes : (fs : List Found) (i : ℕ) → nodes_of_forms (earlier_joined (take i fs)) ≤ nodes_of_forms (earlier_joined fs)
earlier-nodes [] zero = omega arith
earlier-nodes [] (suc i) = omega arith
earlier-nodes (f ∷ fs) zero = omega arith
earlier-nodes (f ∷ fs) (suc i) =
    subst (λ xs. nodes_of_forms (joins_before (plain_paths f.paths) (take i fs)) ≤ nodes_of_forms (joins_before (plain_paths f.paths) xs))
    (take-append-drop i fs) (before-nodes (plain_paths f.paths) (take i fs) (drop i fs))

large-before : (P : PlainPaths) (fs gs : List Found) (g : Found) → 0 < length fs → IsTooLarge (joined_with P fs) →
    SomeTooLarge (joins_before P (fs ++ g ∷ gs))
large-before P [] gs g some large = absurd (omega arith)
large-before P (f ∷ []) gs g some large = this_form large
large-before P (f ∷ h ∷ fs) gs g some large = later_form (large-before (join_of P (plain_paths f.paths)) (h ∷ fs) gs g (omega arith) large)

large-with : (P : PlainPaths) (fs gs : List Found) → 0 < length fs → IsTooLarge (joined_with P fs) →
    SomeTooLarge (joins_before P (fs ++ gs)) ⊎ IsTooLarge (joined_with P (fs ++ gs))
large-with P fs [] some large = inr (subst (λ xs. IsTooLarge (joined_with P xs)) (sym (append-nil fs)) large)
large-with P fs (g ∷ gs) some large = inl (large-before P fs gs g some large)

pub large-joined : (fs : List Found) (i : ℕ) → 1 < i → i ≤ length fs → IsTooLarge (joined (take i fs)) →
    SomeTooLarge (earlier_joined fs) ⊎ IsTooLarge (joined fs)
large-joined [] i pos within large = absurd (omega arith)
large-joined (f ∷ fs) zero pos within large = absurd (omega arith)
large-joined (f ∷ fs) (suc i) pos within large =
    let some : 0 < length (take i fs) = omega (arith, length-take i fs) in
    subst (λ xs. SomeTooLarge (joins_before (plain_paths f.paths) xs) ⊎ IsTooLarge (joined_with (plain_paths f.paths) xs)) (take-append-drop i fs)
    (large-with (plain_paths f.paths) (take i fs) (drop i fs) some large)

pub joined-refused : (fs : List Found) (i : ℕ) → 1 < i → i ≤ length fs → IsTooLarge (joined (take i fs)) →
    SomeTooLarge (earlier_joined fs) ⊎ (IsTooLarge (joined fs) ⊎ (most_together < nodes_of_forms (earlier_joined fs)))
joined-refused fs i pos within large = wider (large-joined fs i pos within large)
  where
    wider : SomeTooLarge (earlier_joined fs) ⊎ IsTooLarge (joined fs) →
        SomeTooLarge (earlier_joined fs) ⊎ (IsTooLarge (joined fs) ⊎ (most_together < nodes_of_forms (earlier_joined fs)))
    wider (inl some) = inl some
    wider (inr all) = inr (inl all)

nodes-more : (fs : List Found) (i : ℕ) → 1 < i → i < length fs →
    nodes_of_forms (earlier_joined (take (i + 1) fs)) ≡ nodes_of_forms (earlier_joined (take i fs)) + all_nodes (joined (take i fs))
nodes-more fs i pos within =
    omega (
      arith,
      ap nodes_of_forms (earlier-more fs i pos within),
      nodes_of_forms-append (earlier_joined (take i fs)) (joined (take i fs) ∷ []),
    )

-- the nodes of the join so far, where it keeps the limits
pub earlier-counted : (fs : List Found) (i n s : ℕ) (P : PlainPaths) → 1 < i → i < length fs → n ≡ nodes_of_forms (earlier_joined (take i fs)) →
    P ≡ joined (take i fs) → IsWithinLimits (joined (take i fs)) → s ≡ capped (all_nodes P) →
    n + s ≡ nodes_of_forms (earlier_joined (take (i + 1) fs))
earlier-counted fs i n s P pos within e f keeps g =
    let same = ap all_nodes f in
    let few : all_nodes (joined (take i fs)) ≤ 4096 = keeps.few in
    omega (arith, nodes-more fs i pos within, same, few, e, g)

pub earlier-refused : (fs : List Found) (i n s : ℕ) (P : PlainPaths) → 1 < i → i < length fs → n ≡ nodes_of_forms (earlier_joined (take i fs)) →
    P ≡ joined (take i fs) → IsWithinLimits (joined (take i fs)) → s ≡ capped (all_nodes P) → most_together < n + s →
    SomeTooLarge (earlier_joined fs) ⊎ (IsTooLarge (joined fs) ⊎ (most_together < nodes_of_forms (earlier_joined fs)))
earlier-refused fs i n s P pos within e f keeps g many =
    inr (inr (omega (arith, earlier-counted fs i n s P pos within e f keeps g, earlier-nodes fs (i + 1), many)))

pub earlier-within : (fs : List Found) (i : ℕ) → 1 < i → i < length fs → AreWithin (earlier_joined (take i fs)) →
    IsWithinLimits (joined (take i fs)) →
    AreWithin (earlier_joined (take (i + 1) fs))
earlier-within fs i pos within so_far keeps =
    subst AreWithin (sym (earlier-more fs i pos within)) (AreWithin-append so_far (and_form keeps no_forms))

-- the least types that count at a case
SomeTooLarge-left : {Ps : List PlainPaths} (Qs : List PlainPaths) → SomeTooLarge Ps → SomeTooLarge (Ps ++ Qs)
SomeTooLarge-left Qs (this_form large) = this_form large
SomeTooLarge-left Qs (later_form some) = later_form (SomeTooLarge-left Qs some)

SomeTooLarge-last : (Ps : List PlainPaths) (P : PlainPaths) → IsTooLarge P → SomeTooLarge (Ps ++ P ∷ [])
SomeTooLarge-last [] P large = this_form large
SomeTooLarge-last (Q ∷ Ps) P large = later_form (SomeTooLarge-last Ps P large)

forms-counted : (e : Found) (fs : List Found) → has_atom e Int ≡ true → case_forms e fs ≡ earlier_joined fs ++ joined fs ∷ []
forms-counted e fs h = ap (λ b. if b then earlier_joined fs ++ joined fs ∷ [] else no_paths ∷ []) h

forms-empty : (e : Found) (fs : List Found) → has_atom e Int ≡ false → case_forms e fs ≡ no_paths ∷ []
forms-empty e fs h = ap (λ b. if b then earlier_joined fs ++ joined fs ∷ [] else no_paths ∷ []) h

nodes-counted : (e : Found) (fs : List Found) → has_atom e Int ≡ true →
    nodes_of_forms (case_forms e fs) ≡ nodes_of_forms (earlier_joined fs) + all_nodes (joined fs)
nodes-counted e fs h =
    omega (arith, ap nodes_of_forms (forms-counted e fs h), nodes_of_forms-append (earlier_joined fs) (joined fs ∷ []))

pub case-joined_large : (e : Found) (fs : List Found) → has_atom e Int ≡ true →
    SomeTooLarge (earlier_joined fs) ⊎ (IsTooLarge (joined fs) ⊎ (most_together < nodes_of_forms (earlier_joined fs))) →
    SomeTooLarge (case_forms e fs) ⊎ (most_together < e.total + total_of fs + nodes_of_forms (case_forms e fs))
case-joined_large e fs h (inl some) = inl (subst SomeTooLarge (sym (forms-counted e fs h)) (SomeTooLarge-left (joined fs ∷ []) some))
case-joined_large e fs h (inr (inl large)) = inl (subst SomeTooLarge (sym (forms-counted e fs h))
    (SomeTooLarge-last (earlier_joined fs) (joined fs) large))
case-joined_large e fs h (inr (inr many)) = inr (omega (arith, nodes-counted e fs h))

pub case-earlier_many : (e : Found) (fs : List Found) → has_atom e Int ≡ true →
    most_together < e.total + total_of fs + nodes_of_forms (earlier_joined fs) →
    SomeTooLarge (case_forms e fs) ⊎ (most_together < e.total + total_of fs + nodes_of_forms (case_forms e fs))
case-earlier_many e fs h many = inr (omega (arith, nodes-counted e fs h))

pub case-refused : (e : Found) (fs : List Found) (n : ℕ) → has_atom e Int ≡ true → n ≡ e.total + total_of fs + nodes_of_forms (earlier_joined fs) →
    IsRefused (joined fs) n →
    SomeTooLarge (case_forms e fs) ⊎ (most_together < e.total + total_of fs + nodes_of_forms (case_forms e fs))
case-refused e fs n h s (inl large) = case-joined_large e fs h (inr (inl large))
case-refused e fs n h s (inr many) = inr (omega (arith, nodes-counted e fs h))

-- a case without a type, and one that has the join of its parts
pub case-none : (e : Found) (fs : List Found) (at to : Place) (n : ℕ) (f : Found) → to ≡ blame_at e (blame_at_some fs at) → has_atom e Int ≡ false →
    n ≡ e.total + total_of fs →
    IsMade no_paths to n f → IsCase e fs at f
case-none e fs at to n f g h s made =
    let nodes = ap nodes_of_forms (forms-empty e fs h) in
    record {
      least = made.paths ∙ sym (ap (λ b. if_passed b (joined fs)) h);
      blame = made.blame ∙ g;
      total = omega (arith, nodes, made.total);
      low = made.low;
      within = subst AreWithin (sym (forms-empty e fs h)) (and_form made.within no_forms);
    }

pub case-made : (e : Found) (fs : List Found) (at to : Place) (n : ℕ) (f : Found) → to ≡ blame_at e (blame_at_some fs at) → has_atom e Int ≡ true →
    n ≡ e.total + total_of fs + nodes_of_forms (earlier_joined fs) → AreWithin (earlier_joined fs) →
    IsMade (joined fs) to n f → IsCase e fs at f
case-made e fs at to n f g h s within made =
    record {
      least = made.paths ∙ sym (ap (λ b. if_passed b (joined fs)) h);
      blame = made.blame ∙ g;
      total = omega (arith, nodes-counted e fs h, made.total);
      low = made.low;
      within = subst AreWithin (sym (forms-counted e fs h)) (AreWithin-append within (and_form made.within no_forms));
    }

pub case-no_parts : (e : Found) (fs : List Found) (at to : Place) (n : ℕ) (f : Found) → to ≡ blame_at e (blame_at_some fs at) → length fs ≡ 0 →
    n ≡ e.total + total_of fs →
    IsMade no_paths to n f → IsCase e fs at f
case-no_parts e [] at to n f g none s made = cases (has_atom e Int) refl
  where
    cases : (b : Bool) → has_atom e Int ≡ b → IsCase e [] at f
    cases true h = case-made e [] at to n f g h (omega arith) no_forms made
    cases false h = case-none e [] at to n f g h s made
case-no_parts e (k ∷ fs) at to n f g none s made = absurd (omega arith)

pub cased-none : (e : Found) (fs : List Found) (d : PlainDerivation) → has_atom e Int ≡ false → d ≡ by_ns → IsCased e fs d
cased-none e [] d h s = s
cased-none e (f ∷ fs) d h s = inl (h, s)

pub cased-no_parts : (e : Found) (fs : List Found) (d : PlainDerivation) → length fs ≡ 0 → d ≡ by_ns → IsCased e fs d
cased-no_parts e [] d none s = s
cased-no_parts e (f ∷ fs) d none s = absurd (omega arith)

pub cased-parts : (e : Found) (fs : List Found) (d : PlainDerivation) (A : PlainType) → length fs ≢ 0 → has_atom e Int ≡ true →
    IsTypeOf (joined fs) A → d ≡ rule (and_derivation (sub (atom Int) (derivation_of e)) (all_at A fs)) → IsCased e fs d
cased-parts e [] d A some h p s = absurd (some refl)
cased-parts e (f ∷ fs) d A some h p s = inr (h, A, p, s)
