-- Why a phrase whose parts keep the limits is refused, and a phrase with a part that is.
use Rattle.std.proofs.Common.{ℕ, ◌+◌, ◌<◌, ◌≡◌, ◌⊎◌, List, [], ◌∷◌, ◌++◌, inl, inr, refl, sym, ap, subst, arith}
use Rattle.fy_base.specs.declared.data.Place.{Place}
use Rattle.fy_types.specs.Types.{PlainTypes}
use Rattle.fy_types.specs.Paths.{PlainPaths}
use Rattle.fy_types.specs.Once.{once}
use Rattle.fy_phrase.specs.Tree.{Tree, Trees, cond, case, lam}
use Rattle.fy_phrase.specs.Sizes as sizes
use Rattle.fy_derive.specs.Least.{least_type, Visit, visit, visits, visits_of_all, visits_under}
use Rattle.fy_least.specs.declared.found.Found.{Found}
use Rattle.fy_least.specs.Limits.{earlier_joins, forms, written_in, most_together}
use Rattle.fy_least.specs.Counts.{nodes_of_forms, nodes_of_visits, SomeTooLarge, least_large, written_large, PassLimits}
use Rattle.fy_least.specs.Many.{AreFound, AreFoundUnder, total_of, called_bodies, case_forms}
use Rattle.fy_least.specs.Visited.{IsFound, IsRefused}
use Rattle.fy_least.proofs.CountLemmas.{nodes-append, pass-left, pass-right, pass-behind, visit-passes}
use Rattle.fy_least.proofs.LamFound.{bodies-same, under-total}
use Rattle.fy_least.proofs.ManyFound.{parts-total, counted}

-- a form of no part, of one, of two or of three, whose own least type is refused
pub none-refused : (G : List PlainPaths) (q : Tree) → earlier_joins G q ≡ [] → ((m : ℕ) → visits m G q ≡ visit m G q ∷ []) →
    IsRefused (least_type G q) 0 → (m : ℕ) → PassLimits (visits m G q)
none-refused G q early split x m = subst PassLimits (sym (split m)) (visit-passes m G q [] 0 early refl x)

pub one-refused : (G G' : List PlainPaths) (p q : Tree) (part : Found) → IsFound G' p part → earlier_joins G q ≡ [] →
    ((m : ℕ) → visits m G q ≡ visit m G q ∷ visits (m + 1) G' p) → IsRefused (least_type G q) part.total → (m : ℕ) → PassLimits (visits m G q)
one-refused G G' p q part h early split x m =
    subst PassLimits (sym (split m)) (visit-passes m G q (visits (m + 1) G' p) part.total early (h.total (m + 1)) x)

pub two-refused : (G G' : List PlainPaths) (p q t : Tree) (f g : Found) → IsFound G p f → IsFound G' q g → earlier_joins G t ≡ [] →
    ((m : ℕ) → visits m G t ≡ visit m G t ∷ visits (m + 1) G p ++ visits (m + 1 + sizes.nodes p) G' q) →
    IsRefused (least_type G t) (f.total + g.total) → (m : ℕ) → PassLimits (visits m G t)
two-refused G G' p q t f g hf hg early split x m =
    let sum : f.total + g.total ≡ nodes_of_visits (visits (m + 1) G p ++ visits (m + 1 + sizes.nodes p) G' q) =
    omega (arith, hf.total (m + 1), hg.total (m + 1 + sizes.nodes p), nodes-append (visits (m + 1) G p) (visits (m + 1 + sizes.nodes p) G' q)) in
    subst PassLimits (sym (split m))
    (visit-passes m G t (visits (m + 1) G p ++ visits (m + 1 + sizes.nodes p) G' q) (f.total + g.total) early sum x)

pub three-refused : (G : List PlainPaths) (b p q : Tree) (at : Place) (c f g : Found) → IsFound G b c → IsFound G p f → IsFound G q g →
    IsRefused (least_type G (cond b p q at)) (c.total + f.total + g.total) → (m : ℕ) → PassLimits (visits m G (cond b p q at))
three-refused G b p q at c f g hc hf hg x m =
    let i = m + 1 + sizes.nodes b in
    let j = m + 1 + sizes.nodes b + sizes.nodes p in
    let sum : c.total + f.total + g.total ≡ nodes_of_visits (visits (m + 1) G b ++ (visits i G p ++ visits j G q)) =
    omega (
      arith,
      hc.total (m + 1),
      hf.total i,
      hg.total j,
      nodes-append (visits (m + 1) G b) (visits i G p ++ visits j G q),
      nodes-append (visits i G p) (visits j G q),
    ) in
    visit-passes m G (cond b p q at) (visits (m + 1) G b ++ (visits i G p ++ visits j G q)) (c.total + f.total + g.total) refl sum x

-- a part that is refused
pub only-part : (G G' : List PlainPaths) (p q : Tree) → ((m : ℕ) → visits m G q ≡ visit m G q ∷ visits (m + 1) G' p) →
    ((m : ℕ) → PassLimits (visits m G' p)) → (m : ℕ) → PassLimits (visits m G q)
only-part G G' p q split x m = subst PassLimits (sym (split m)) (pass-behind (visit m G q) (visits (m + 1) G' p) (x (m + 1)))

pub first-part : (G : List PlainPaths) (p t : Tree) (rest : ℕ → List Visit) → ((m : ℕ) → visits m G t ≡ visit m G t ∷ visits (m + 1) G p ++ rest m) →
    ((m : ℕ) → PassLimits (visits m G p)) → (m : ℕ) → PassLimits (visits m G t)
first-part G p t rest split x m =
    subst PassLimits (sym (split m))
    (pass-behind (visit m G t) (visits (m + 1) G p ++ rest m) (pass-left (visits (m + 1) G p) (rest m) (x (m + 1))))

pub other-parts : (G : List PlainPaths) (p t : Tree) (rest : ℕ → List Visit) → ((m : ℕ) → visits m G t ≡ visit m G t ∷ visits (m + 1) G p ++ rest m) →
    ((m : ℕ) → PassLimits (rest m)) → (m : ℕ) → PassLimits (visits m G t)
other-parts G p t rest split x m =
    subst PassLimits (sym (split m))
    (pass-behind (visit m G t) (visits (m + 1) G p ++ rest m) (pass-right (visits (m + 1) G p) (rest m) (x m)))

pub second-part : (G G' : List PlainPaths) (p q t : Tree) →
    ((m : ℕ) → visits m G t ≡ visit m G t ∷ visits (m + 1) G p ++ visits (m + 1 + sizes.nodes p) G' q) →
    ((m : ℕ) → PassLimits (visits m G' q)) → (m : ℕ) → PassLimits (visits m G t)
second-part G G' p q t split x = other-parts G p t (λ m. visits (m + 1 + sizes.nodes p) G' q) split (λ m. x (m + 1 + sizes.nodes p))

pub cond-part : (G : List PlainPaths) (b p q : Tree) (at : Place) → ((m : ℕ) → PassLimits (visits m G p)) ⊎ ((m : ℕ) → PassLimits (visits m G q)) →
    (m : ℕ) → PassLimits (visits m G (cond b p q at))
cond-part G b p q at x =
    other-parts G b (cond b p q at) (λ m. visits (m + 1 + sizes.nodes b) G p ++ visits (m + 1 + sizes.nodes b + sizes.nodes p) G q) (λ m. refl)
    (later x)
  where
    later : ((m : ℕ) → PassLimits (visits m G p)) ⊎ ((m : ℕ) → PassLimits (visits m G q)) → (m : ℕ) →
        PassLimits (visits (m + 1 + sizes.nodes b) G p ++ visits (m + 1 + sizes.nodes b + sizes.nodes p) G q)
    later (inl y) m =
        pass-left (visits (m + 1 + sizes.nodes b) G p) (visits (m + 1 + sizes.nodes b + sizes.nodes p) G q) (y (m + 1 + sizes.nodes b))
    later (inr y) m =
        pass-right (visits (m + 1 + sizes.nodes b) G p) (visits (m + 1 + sizes.nodes b + sizes.nodes p) G q)
        (y (m + 1 + sizes.nodes b + sizes.nodes p))

-- a type that is written at the phrase
pub written-refused : (G : List PlainPaths) (q : Tree) (vs : ℕ → List Visit) → ((m : ℕ) → visits m G q ≡ visit m G q ∷ vs m) →
    SomeTooLarge (written_in q) → (m : ℕ) → PassLimits (visits m G q)
written-refused G q vs split x m = subst PassLimits (sym (split m)) (inl (written_large x))

-- an abstraction whose alternatives, or bodies under them, are refused, or its own least type
pub under-refused : (G : List PlainPaths) (d : ℕ) (As : PlainTypes) (b : Tree) (at : Place) →
    SomeTooLarge (forms As) ⊎ ((m : ℕ) → PassLimits (visits_under As (λ D. visits m (D ∷ G) b))) → (m : ℕ) → PassLimits (visits m G (lam d As b at))
under-refused G d As b at (inl x) m = inl (written_large x)
under-refused G d As b at (inr x) m = pass-behind (visit m G (lam d As b at)) (visits_under As (λ D. visits (m + 1) (D ∷ G) b)) (x (m + 1))

pub lam-refused : (G : List PlainPaths) (d : ℕ) (As : PlainTypes) (b : Tree) (at : Place) (fs : List Found) → AreFoundUnder G b As fs →
    IsRefused (once (called_bodies As fs)) (total_of fs) → (m : ℕ) → PassLimits (visits m G (lam d As b at))
lam-refused G d As b at fs hs x m =
    visit-passes m G (lam d As b at) (visits_under As (λ D. visits (m + 1) (D ∷ G) b)) (total_of fs) refl (under-total hs (m + 1))
    (subst (λ P. IsRefused (once P) (total_of fs)) (bodies-same hs) x)

-- a case whose joins are refused, or all its least types with those of its parts
pub case-refused : (G : List PlainPaths) (e : Tree) (ps : Trees) (at : Place) (c : Found) (fs : List Found) → IsFound G e c → AreFound G ps fs →
    SomeTooLarge (case_forms c fs) ⊎ (most_together < c.total + total_of fs + nodes_of_forms (case_forms c fs)) →
    (m : ℕ) → PassLimits (visits m G (case e ps at))
case-refused G e ps at c fs hc hs (inl large) m = inl (least_large (subst SomeTooLarge (counted G e ps at c fs hc hs) large))
case-refused G e ps at c fs hc hs (inr many) m = inr (omega (
  arith,
  hc.total (m + 1),
  parts-total hs (m + 1 + sizes.nodes e),
  nodes-append (visits (m + 1) G e) (visits_of_all (m + 1 + sizes.nodes e) G ps),
  ap nodes_of_forms (counted G e ps at c fs hc hs),
))
