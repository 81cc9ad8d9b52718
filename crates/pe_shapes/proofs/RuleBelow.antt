-- Below the subsumptions and meets of a derivation stand rules of the phrase's own form: each path of what it concludes has a path below
-- it of what such a rule concludes. Paths below one another have one shape.
use Rattle.std.proofs.Common.{ℕ, zero, suc, ◌+◌, ◌≡◌, List, [], ◌∷◌, ◌++◌, replicate, ◌⊎◌, inl, inr, refl, sym, ap, subst}
use Rattle.fy_types.specs.declared.types.Atom.{Atom}
use Rattle.fy_types.specs.Types.{PlainType}
use Rattle.fy_types.specs.Paths.{PlainPath, PlainPaths, call, pick, no_paths, and_path, append, called, picked, paths, all_paths}
use Rattle.fy_types.specs.PathOrder.{IsEndBelow, same_end, compl_below, IsPathBelow, ends, calls, picks, ArePathsBelow, none_left, and_above, HasBelow, here, there}
use Rattle.fy_types.specs.Reading.{types_from}
use Rattle.fy_types.proofs.Order.{IsPathBelow-refl, IsPathBelow-trans}
use Rattle.fy_phrase.specs.Tree.{Tree}
use Rattle.fy_derive.specs.Derivations.{PlainDerivation, PlainDerivations, by_ns, sub, meets, alt, left, right, rule, no_derivations, and_derivation, count, nodes}
use Rattle.fy_derive.specs.Rules.{nothing}
use Rattle.fy_derive.specs.Judging.{concludes, all_conclude, judged, each_judged}
use Rattle.fy_derive.specs.Shapes.{end_shape, at_end, a_call, a_field, erase, HasPath, first_path, later_path}
use Rattle.fy_derive.proofs.SubsumptionLemmas.{paths_below-iff}
use Rattle.pe_shapes.proofs.JudgedLemmas.{concluded_same, all_same_concluded, others-inner, judged-keeps, sub-inner, meets-inner}

-- ---- paths

no-path : {q : PlainPath} → HasPath no_paths q → ⊥
no-path among = elim among [ ]

not-path : {q : PlainPath} {X : Type 0} → HasPath no_paths q ⊎ X → X
not-path (inl among) = absurd (no-path among)
not-path (inr x) = x

append-path : (P Q : PlainPaths) {q : PlainPath} → HasPath (append P Q) q → HasPath P q ⊎ HasPath Q q
append-path no_paths Q among = inr among
append-path (and_path p P) Q first_path = inl first_path
append-path (and_path p P) Q (later_path among) = elim (append-path P Q among) [ inl x ↦ inl (later_path x) | inr y ↦ inr y ]

pub called-path : (D : PlainPaths) {P : PlainPaths} {q : PlainPath} → HasPath P q → HasPath (called D P) (call D q)
called-path D first_path = first_path
called-path D (later_path among) = later_path (called-path D among)

pub picked-path : (i : ℕ) {P : PlainPaths} {q : PlainPath} → HasPath P q → HasPath (picked i P) (pick i q)
picked-path i first_path = first_path
picked-path i (later_path among) = later_path (picked-path i among)

pub path-called : (D P : PlainPaths) {q : PlainPath} → HasPath (called D P) q → (r : PlainPath) × HasPath P r × (q ≡ call D r)
path-called D no_paths among = absurd (no-path among)
path-called D (and_path p P) first_path = (p, first_path, refl)
path-called D (and_path p P) (later_path among) = let x = path-called D P among in (x.0, later_path x.1, x.2)

pub path-picked : (i : ℕ) (P : PlainPaths) {q : PlainPath} → HasPath (picked i P) q → (r : PlainPath) × HasPath P r × (q ≡ pick i r)
path-picked i no_paths among = absurd (no-path among)
path-picked i (and_path p P) first_path = (p, first_path, refl)
path-picked i (and_path p P) (later_path among) = let x = path-picked i P among in (x.0, later_path x.1, x.2)

path-below : {P : PlainPaths} {q : PlainPath} → HasBelow P q → (r : PlainPath) × HasPath P r × IsPathBelow r q
path-below (here {p = p} low) = (p, first_path, low)
path-below (there some) = let x = path-below some in (x.0, later_path x.1, x.2)

below-path : {P Q : PlainPaths} {q : PlainPath} → ArePathsBelow P Q → HasPath Q q → HasBelow P q
below-path none_left among = absurd (no-path among)
below-path (and_above some rest) first_path = some
below-path (and_above some rest) (later_path among) = below-path rest among

-- the order of paths keeps shapes
end_shape-below : {a b : Atom} → IsEndBelow a b → end_shape a ≡ end_shape b
end_shape-below same_end = refl
end_shape-below compl_below = refl

pub erase-below : {p q : PlainPath} → IsPathBelow p q → erase p ≡ erase q
erase-below (ends low) = ap at_end (end_shape-below low)
erase-below (calls wide low) = ap a_call (erase-below low)
erase-below (picks {i = i} low) = ap (a_field i) (erase-below low)

-- ---- rules below subsumptions and meets

mutual
  -- the second derivation is a rule of a phrase's form in the first, with subsumptions and meets alone above it
  pub data IsRuleBelow : PlainDerivation → PlainDerivation → Type 0 where
    this_alt : {i : ℕ} {d : PlainDerivation} → IsRuleBelow (alt i d) (alt i d)
    this_left : {d : PlainDerivation} → IsRuleBelow (left d) (left d)
    this_right : {d : PlainDerivation} → IsRuleBelow (right d) (right d)
    this_rule : {ds : PlainDerivations} → IsRuleBelow (rule ds) (rule ds)
    below_sub : {B : PlainType} {d e : PlainDerivation} → IsRuleBelow d e → IsRuleBelow (sub B d) e
    below_meet : {ds : PlainDerivations} {e : PlainDerivation} → IsRuleAmong ds e → IsRuleBelow (meets ds) e

  pub data IsRuleAmong : PlainDerivations → PlainDerivation → Type 0 where
    below_this : {d e : PlainDerivation} {ds : PlainDerivations} → IsRuleBelow d e → IsRuleAmong (and_derivation d ds) e
    below_other : {d e : PlainDerivation} {ds : PlainDerivations} → IsRuleAmong ds e → IsRuleAmong (and_derivation d ds) e

-- one of these rules concludes for the phrase a type with a path that is below the path
pub record HasRule (IsOne : PlainDerivation → Type 0) (G : List PlainType) (p : Tree) (P : PlainPath) : Type 0 where
  pub its : PlainDerivation
  pub stands : IsOne its
  pub concluded : PlainType
  pub so : judged its 0 G p ≡ concludes concluded
  pub path : PlainPath
  pub among : HasPath (paths concluded) path
  pub low : IsPathBelow path P

rule-itself : (Is : PlainDerivation → Type 0) (d : PlainDerivation) {G : List PlainType} {p : Tree} {A : PlainType} {P : PlainPath} → Is d →
    judged d 0 G p ≡ concludes A → HasPath (paths A) P → HasRule Is G p P
rule-itself Is d {A = A} {P = P} is e among = record { its = d; stands = is; concluded = A; so = e; path = P; among = among; low = IsPathBelow-refl P }

rule-moved : (Is Of : PlainDerivation → Type 0) {G : List PlainType} {p : Tree} {P Q : PlainPath} → ((d : PlainDerivation) → Is d → Of d) →
    IsPathBelow P Q → HasRule Is G p P → HasRule Of G p Q
rule-moved Is Of {P = P} f low r = record {
  its = r.its;
  stands = f r.its r.stands;
  concluded = r.concluded;
  so = r.so;
  path = r.path;
  among = r.among;
  low = IsPathBelow-trans P r.low low;
}

-- the paths of a meet with one more member
pushed-path : (As : List PlainType) (B : PlainType) {q : PlainPath} → HasPath (all_paths (types_from (As ++ B ∷ []))) q →
    HasPath (all_paths (types_from As)) q ⊎ HasPath (paths B) q
pushed-path [] B among = elim (append-path (paths B) no_paths among) [ inl x ↦ inr x | inr y ↦ inl y ]
pushed-path (A ∷ As) B among = elim (append-path (paths A) (all_paths (types_from (As ++ B ∷ []))) among) [
  | inl x ↦ inl (path-left (all_paths (types_from As)) x)
  | inr y ↦ elim (pushed-path As B y) [ inl z ↦ inl (path-right (paths A) (all_paths (types_from As)) z) | inr z ↦ inr z ]
]
  where
    path-left : {P : PlainPaths} (Q : PlainPaths) {q : PlainPath} → HasPath P q → HasPath (append P Q) q
    path-left Q first_path = first_path
    path-left Q (later_path x) = later_path (path-left Q x)

    path-right : (P Q : PlainPaths) {q : PlainPath} → HasPath Q q → HasPath (append P Q) q
    path-right no_paths Q x = x
    path-right (and_path p P) Q x = later_path (path-right P Q x)

mutual
  -- each path that is concluded has one below it that a rule concludes
  pub rule-below : (d : PlainDerivation) {G : List PlainType} {p : Tree} {A : PlainType} {P : PlainPath} → judged d 0 G p ≡ concludes A →
      HasPath (paths A) P → HasRule (IsRuleBelow d) G p P
  rule-below by_ns {P = P} e among = absurd (no-path (subst (λ B. HasPath (paths B) P) (sym (concluded_same e)) among))
  rule-below (sub B d) {G = G} {p = p} {A = A} {P = P} e among =
      let x = sub-inner B d G p A e in
      let y = path-below (below-path ((paths_below-iff (paths x.0) (paths A)).0 x.2) among) in
      rule-moved (IsRuleBelow d) (IsRuleBelow (sub B d)) (λ f is. below_sub is) y.2 (rule-below d x.1 y.1)
  rule-below (meets ds) {G = G} {p = p} {A = A} {P = P} e among =
      let x = meets-inner ds G p A e in
      rule-moved (IsRuleAmong ds) (IsRuleBelow (meets ds)) (λ f is. below_meet is) (IsPathBelow-refl P)
      (not-path (rule-among ds (count ds) 1 {G = G} {p = p} [] x.0 {P = P} x.1 (subst (λ B. HasPath (paths B) P) (sym x.2) among)))
  rule-below (alt i d) e among = rule-itself (IsRuleBelow (alt i d)) (alt i d) this_alt e among
  rule-below (left d) e among = rule-itself (IsRuleBelow (left d)) (left d) this_left e among
  rule-below (right d) e among = rule-itself (IsRuleBelow (right d)) (right d) this_right e among
  rule-below (rule ds) e among = rule-itself (IsRuleBelow (rule ds)) (rule ds) this_rule e among

  rule-among : (ds : PlainDerivations) (k n : ℕ) {G : List PlainType} {p : Tree} (As Bs : List PlainType) {P : PlainPath} →
      each_judged ds n G (replicate k (nothing, p)) As ≡ all_conclude Bs → HasPath (all_paths (types_from Bs)) P →
      HasPath (all_paths (types_from As)) P ⊎ HasRule (IsRuleAmong ds) G p P
  rule-among no_derivations k n As Bs {P = P} e among =
      inl (subst (λ Cs. HasPath (all_paths (types_from Cs)) P) (sym (all_same_concluded e)) among)
  rule-among (and_derivation d ds) zero n As Bs {P = P} e among =
      inl (subst (λ Cs. HasPath (all_paths (types_from Cs)) P) (sym (all_same_concluded e)) among)
  rule-among (and_derivation d ds) (suc k) n {G = G} {p = p} As Bs {P = P} e among =
      let x = others-inner (judged d n G p) (λ A. each_judged ds (n + nodes d) G (replicate k (nothing, p)) (As ++ A ∷ [])) Bs e in
      elim (rule-among ds k (n + nodes d) {G = G} {p = p} (As ++ x.0 ∷ []) Bs {P = P} x.2 among) [
        | inl y ↦ elim (pushed-path As x.0 y) [
          | inl z ↦ inl z
          | inr z ↦ inr (rule-moved (IsRuleBelow d) (IsRuleAmong (and_derivation d ds)) (λ f is. below_this is) (IsPathBelow-refl P) (rule-below d (judged-keeps d n 0 G p x.0 x.1) z))
        ]
        | inr r ↦ inr (rule-moved (IsRuleAmong ds) (IsRuleAmong (and_derivation d ds)) (λ f is. below_other is) (IsPathBelow-refl P) r)
      ]
