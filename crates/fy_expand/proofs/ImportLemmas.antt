-- What a phrase under its imports means under the earlier names.
use Rattle.std.proofs.Common.{ℕ, zero, suc, ◌-◌, ◌<◌, ◌≡◌, Bool, true, false, ◌||◌, List, [], ◌∷◌, cond, eqb, eqb-true, Option, Some, None, refl, sym, ap, ◌∙◌, subst, arith}
use Rattle.std.specs.List.{list_any}
use Rattle.fy_syntax.specs.Trees as written
use Rattle.fy_syntax.specs.Places.{without_places}
use Rattle.fy_phrase.specs.Tree.{Tree, Trees}
use Rattle.fy_phrase.specs.Alike as alike
use Rattle.fy_phrase.specs.Alike.{Alike, AllAlike, lifted}
use Rattle.fy_expand.specs.declared.frame.Standing.{Standing}
use Rattle.fy_expand.specs.declared.frame.Standing.TheVariants.{Variable, Member}
use Rattle.fy_expand.specs.Scope.{Scope, under, outermost, program_scope}
use Rattle.fy_expand.specs.Core.{core}
use Rattle.fy_expand.specs.Faults.{fault}
use Rattle.fy_expand.specs.Imports.{scope_in, AreAmong, HideNothing, index_of, past_all, renumbered}
use Rattle.fy_expand.proofs.AlikeScopes.{IsSameBinder, IsSameStanding, IsSameScope, scope-under, known-refl}
use Rattle.fy_expand.proofs.AlikeLemmas.{core-alike}

-- the same under renumberings that agree
binder-change : (f g : ℕ → ℕ) (d e i j : ℕ) → ((k : ℕ) → f k ≡ g k) → IsSameBinder f d e i j → IsSameBinder g d e i j
binder-change f g d e i j a h = (h.0, h.1, h.2 ∙ a (d - i - 1))

standing-change : (c : Bool) (f g : ℕ → ℕ) (d e : ℕ) (o r : Option Standing) → ((k : ℕ) → f k ≡ g k) → IsSameStanding c f d e o r → IsSameStanding c g d e o r
standing-change true f g d e None r a h = tt
standing-change false f g d e None r a h = h
standing-change c f g d e (Some (Variable i)) r a h = (h.0, h.1, binder-change f g d e i h.0 a h.2)
standing-change c f g d e (Some (Member i)) r a h = (h.0, h.1, binder-change f g d e i h.0 a h.2)

-- one more binder around the second, which isn't used
binder-outer : (f g : ℕ → ℕ) (d e i j : ℕ) → ((k : ℕ) → g k ≡ suc (f k)) → IsSameBinder f d e i j → IsSameBinder g d (suc e) i j
binder-outer f g d e i j a h =
    let x : suc e - j - 1 ≡ suc (e - j - 1) = omega (arith, h.1) in
    (h.0, omega (arith, h.1), x ∙ ap suc h.2 ∙ sym (a (d - i - 1)))

standing-outer : (f g : ℕ → ℕ) (d e : ℕ) (o r : Option Standing) → ((k : ℕ) → g k ≡ suc (f k)) → IsSameStanding true f d e o r → IsSameStanding true g d (suc e) o r
standing-outer f g d e None r a h = tt
standing-outer f g d e (Some (Variable i)) r a h = (h.0, h.1, binder-outer f g d e i h.0 a h.2)
standing-outer f g d e (Some (Member i)) r a h = (h.0, h.1, binder-outer f g d e i h.0 a h.2)

-- one more binder around the first
binder-inner : (f g : ℕ → ℕ) (d e i j : ℕ) → ((k : ℕ) → g (suc k) ≡ f k) → IsSameBinder f d e i j → IsSameBinder g (suc d) e i j
binder-inner f g d e i j a h =
    let y : suc d - i - 1 ≡ suc (d - i - 1) = omega (arith, h.0) in
    (omega (arith, h.0), h.1, h.2 ∙ sym (a (d - i - 1)) ∙ ap g (sym y))

standing-inner : (f g : ℕ → ℕ) (d e : ℕ) (o r : Option Standing) → ((k : ℕ) → g (suc k) ≡ f k) → IsSameStanding true f d e o r → IsSameStanding true g (suc d) e o r
standing-inner f g d e None r a h = tt
standing-inner f g d e (Some (Variable i)) r a h = (h.0, h.1, binder-inner f g d e i h.0 a h.2)
standing-inner f g d e (Some (Member i)) r a h = (h.0, h.1, binder-inner f g d e i h.0 a h.2)

pub types-in : (I : List ℕ) → (scope_in I).types ≡ program_scope.types
types-in [] = refl
types-in (x ∷ I) = types-in I

-- each scope is the same as itself
lifted-same : (g : ℕ → ℕ) → ((k : ℕ) → g k ≡ k) → (k : ℕ) → lifted g k ≡ k
lifted-same g a zero = refl
lifted-same g a (suc k) = ap suc (a k)

same-under : (c : Bool) (s : Scope) (x : ℕ) → IsSameScope c (λ k. k) s s → IsSameScope c (λ k. k) (under x s) (under x s)
same-under c s x h = record {
  types = refl;
  phrases = λ n. standing-change c (lifted (λ k. k)) (λ k. k) (suc s.depth) (suc s.depth) ((under x s).phrases n) ((under x s).phrases n)
      (lifted-same (λ k. k) (λ k. refl)) ((scope-under c (λ k. k) s s x h).phrases n);
}

same-program : (c : Bool) → IsSameScope c (λ k. k) program_scope program_scope
same-program c =
    let s1 = under 1 outermost in
    let s2 = under 2 s1 in
    let s3 = under 3 s2 in
    let s4 = under 4 s3 in
    same-under c s4 11 (same-under c s3 4 (same-under c s2 3 (same-under c s1 2 (same-under c outermost 1 (record { types = refl; phrases = λ n. none c })))))
  where
    none : (c : Bool) → IsSameStanding c (λ k. k) 0 0 None None
    none true = tt
    none false = refl

scope-same : (E : List ℕ) → IsSameScope false (λ k. k) (scope_in E) (scope_in E)
scope-same [] = same-program false
scope-same (x ∷ E) = same-under false (scope_in E) x (scope-same E)

-- under the earlier names the prelude's stand for the same
prelude-standing : (n : ℕ) (E : List ℕ) → HideNothing E → IsSameStanding true (past_all E) program_scope.depth (scope_in E).depth (program_scope.phrases n) ((scope_in E).phrases n)
prelude-standing n [] h = standing-change true (λ k. k) (past_all []) program_scope.depth program_scope.depth (program_scope.phrases n) (program_scope.phrases n) (λ k. refl) ((same-program true).phrases n)
prelude-standing n (x ∷ E) h = by (prelude-standing n E h.1) (eqb n x) refl
  where
    by : IsSameStanding true (past_all E) program_scope.depth (scope_in E).depth (program_scope.phrases n) ((scope_in E).phrases n) → (t : Bool) → eqb n x ≡ t →
        IsSameStanding true (past_all (x ∷ E)) program_scope.depth (suc (scope_in E).depth) (program_scope.phrases n) (cond t (Some (Variable (scope_in E).depth)) ((scope_in E).phrases n))
    by go true e =
        subst (λ o. IsSameStanding true (past_all (x ∷ E)) program_scope.depth (suc (scope_in E).depth) o (Some (Variable (scope_in E).depth)))
        (sym (ap program_scope.phrases (eqb-true n x e) ∙ h.0)) tt
    by go false e = standing-outer (past_all E) (past_all (x ∷ E)) program_scope.depth (scope_in E).depth (program_scope.phrases n) ((scope_in E).phrases n) (λ k. refl) go

import-standing : (n : ℕ) (E : List ℕ) → list_any (λ other. eqb n other) E ≡ true →
    (j : ℕ) × ((scope_in E).phrases n ≡ Some (Variable j)) × (j < (scope_in E).depth) × ((scope_in E).depth - j - 1 ≡ index_of n E)
import-standing n [] l = absurd cc
import-standing n (x ∷ E) l = by (eqb n x) (λ h. import-standing n E h) l
  where
    by : (t : Bool) → (list_any (λ other. eqb n other) E ≡ true →
        (j : ℕ) × ((scope_in E).phrases n ≡ Some (Variable j)) × (j < (scope_in E).depth) × ((scope_in E).depth - j - 1 ≡ index_of n E)) →
        t || list_any (λ other. eqb n other) E ≡ true →
        (j : ℕ) × (cond t (Some (Variable (scope_in E).depth)) ((scope_in E).phrases n) ≡ Some (Variable j)) × (j < suc (scope_in E).depth)
        × (suc (scope_in E).depth - j - 1 ≡ cond t 0 (suc (index_of n E)))
    by true go l = ((scope_in E).depth, refl, omega arith, omega arith)
    by false go l =
        let y = go l in
        let z : suc (scope_in E).depth - y.0 - 1 ≡ suc ((scope_in E).depth - y.0 - 1) = omega (arith, y.2) in
        (y.0, y.1, omega (arith, y.2), z ∙ ap suc y.3)

pub scope-among : (I E : List ℕ) → AreAmong I E → HideNothing E → IsSameScope true (renumbered I E) (scope_in I) (scope_in E)
scope-among I E l h = record { types = types-in I ∙ sym (types-in E); phrases = λ n. at n I l }
  where
    at : (n : ℕ) (I : List ℕ) → AreAmong I E → IsSameStanding true (renumbered I E) (scope_in I).depth (scope_in E).depth ((scope_in I).phrases n) ((scope_in E).phrases n)
    at n [] l = standing-change true (past_all E) (renumbered [] E) program_scope.depth (scope_in E).depth (program_scope.phrases n) ((scope_in E).phrases n) (λ k. refl) (prelude-standing n E h)
    at n (x ∷ I) l = by (at n I l.1) (eqb n x) refl
      where
        by : IsSameStanding true (renumbered I E) (scope_in I).depth (scope_in E).depth ((scope_in I).phrases n) ((scope_in E).phrases n) → (t : Bool) → eqb n x ≡ t →
            IsSameStanding true (renumbered (x ∷ I) E) (suc (scope_in I).depth) (scope_in E).depth (cond t (Some (Variable (scope_in I).depth)) ((scope_in I).phrases n)) ((scope_in E).phrases n)
        by go true e =
            let y = import-standing x E l.0 in
            let i : suc (scope_in I).depth - (scope_in I).depth - 1 ≡ 0 = omega arith in
            (y.0, ap (scope_in E).phrases (eqb-true n x e) ∙ y.1, (omega arith, y.2, y.3 ∙ ap (renumbered (x ∷ I) E) (sym i)))
        by go false e = standing-inner (renumbered I E) (renumbered (x ∷ I) E) (scope_in I).depth (scope_in E).depth ((scope_in I).phrases n) ((scope_in E).phrases n) (λ k. refl) go

-- back to the places of the second
mutual
  back : {f g : ℕ → ℕ} {p q u : Tree} → ((k : ℕ) → g k ≡ k) → Alike g u q → Alike f p q → Alike f p u
  back a (alike.var i) (alike.var j) = alike.var (sym (a _) ∙ sym i ∙ j)
  back a alike.lit alike.lit = alike.lit
  back a (alike.unary h) (alike.unary x) = alike.unary (back a h x)
  back a (alike.binary h k) (alike.binary x y) = alike.binary (back a h x) (back a k y)
  back a (alike.cond h k l) (alike.cond x y z) = alike.cond (back a h x) (back a k y) (back a l z)
  back a (alike.case h hs) (alike.case x xs) = alike.case (back a h x) (all-back a hs xs)
  back a (alike.lam h) (alike.lam x) = alike.lam (back (lifted-same _ a) h x)
  back a (alike.app h k) (alike.app x y) = alike.app (back a h x) (back a k y)
  back a (alike.field h) (alike.field x) = alike.field (back a h x)
  back a (alike.sel h) (alike.sel x) = alike.sel (back a h x)
  back a (alike.merge h k) (alike.merge x y) = alike.merge (back a h x) (back a k y)
  back a (alike.let_in h k) (alike.let_in x y) = alike.let_in (back a h x) (back (lifted-same _ a) k y)
  back a (alike.rec h) (alike.rec x) = alike.rec (back (lifted-same _ a) h x)
  back a alike.skip alike.skip = alike.skip
  back a (alike.seq h k) (alike.seq x y) = alike.seq (back a h x) (back a k y)
  back a (alike.assign h k) (alike.assign x y) = alike.assign (back a h x) (back a k y)
  back a (alike.while_do h k) (alike.while_do x y) = alike.while_do (back a h x) (back a k y)
  back a (alike.forever h) (alike.forever x) = alike.forever (back a h x)
  back a (alike.new h k) (alike.new x y) = alike.new (back a h x) (back (lifted-same _ a) k y)
  back a (alike.cells h k) (alike.cells x y) = alike.cells (back a h x) (back (lifted-same _ a) k y)
  back a (alike.escape h) (alike.escape x) = alike.escape (back (lifted-same _ a) h x)
  back a (alike.accept h) (alike.accept x) = alike.accept (back (lifted-same _ a) h x)
  back a (alike.put h) (alike.put x) = alike.put (back a h x)
  back a (alike.read h) (alike.read x) = alike.read (back a h x)

  all-back : {f g : ℕ → ℕ} {ps qs us : Trees} → ((k : ℕ) → g k ≡ k) → AllAlike g us qs → AllAlike f ps qs → AllAlike f ps us
  all-back a alike.no_parts alike.no_parts = alike.no_parts
  all-back a (alike.and_part h hs) (alike.and_part x xs) = alike.and_part (back a h x) (all-back a hs xs)

pub means-the-same : (I E : List ℕ) (t u : written.Tree) → AreAmong I E → HideNothing E → fault (scope_in I) t ≡ None → without_places t ≡ without_places u →
    Alike (renumbered I E) (core (scope_in I) t) (core (scope_in E) u)
means-the-same I E t u l h g e =
    let x = core-alike t true (renumbered I E) (scope_in I) (scope_in I) (scope_in E) (scope-among I E l h) (known-refl (scope_in I)) g in
    let y = core-alike u false (λ k. k) (scope_in E) (scope_in E) (scope_in E) (scope-same E) (known-refl (scope_in E)) tt in
    back (λ k. refl) y (subst (λ v. Alike (renumbered I E) (core (scope_in I) t) (core (scope_in E) v)) e x)
