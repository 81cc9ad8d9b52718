-- The pairs of a derivation: those of its own conclusion, and those of the derivations in it.
use Rattle.std.proofs.Common.{ℕ, ◌+◌, ◌≡◌, ◌⊎◌, inl, inr, List, [], ◌∷◌, ◌++◌, Some, refl, sym, ◌∙◌, subst}
use Rattle.fy_types.specs.Types.{PlainType}
use Rattle.fy_types.specs.Paths.{PlainPath, paths}
use Rattle.fy_phrase.specs.Tree.{Tree}
use Rattle.fy_phrase.specs.Sizes.{nodes}
use Rattle.fy_derive.specs.Derivations.{PlainDerivation, PlainDerivations, by_ns, sub, meets, alt, left, right, rule, no_derivations, and_derivation}
use Rattle.fy_derive.specs.Kinds.{Kind}
use Rattle.fy_derive.specs.Rules.{Premise, premises}
use Rattle.fy_derive.specs.Judging.{Judged, concludes, judged, alternative, operands, under}
use Rattle.fy_derive.specs.Shapes.{PlainShape, erase, HasPath, HasPair, own, in_sub, in_meet, in_alt, in_left, in_right, in_rule, OneHasPair, this_one, other_one, PremiseHasPair, this_premise, later_premise}
use Rattle.pe_shapes.specs.Standing.{HasShape}
use Rattle.pe_shapes.proofs.JudgedLemmas.{some_same, concluded_same}

-- the pairs of a node's own conclusion
pub record IsOwn (m : ℕ) (A : PlainType) (k : ℕ) (s : PlainShape) : Type 0 where
  pub node : k ≡ m
  pub shape : HasShape A s

pub own-pair : {d : PlainDerivation} {m : ℕ} {G : List PlainType} {p : Tree} {A : PlainType} → judged d 0 G p ≡ concludes A →
    (s : PlainShape) → HasShape A s → HasPair d m G p m s
own-pair {d = d} {m = m} {G = G} {p = p} e s h = subst (HasPair d m G p m) h.shape_is (own e h.stands)

its-own : (j : Judged) (m : ℕ) (A C : PlainType) → j ≡ concludes A → j ≡ concludes C → (q : PlainPath) → HasPath (paths C) q → IsOwn m A m (erase q)
its-own j m A C e f q h = record { node = refl; shape = record { path = q; stands = subst (λ T. HasPath (paths T) q) (concluded_same (sym f ∙ e)) h; shape_is = refl } }

pub pair-ns : {m k : ℕ} {G : List PlainType} {p : Tree} {A : PlainType} {s : PlainShape} → judged by_ns 0 G p ≡ concludes A →
    HasPair by_ns m G p k s → IsOwn m A k s
pair-ns {m = m} {G = G} {p = p} {A = A} e (own {A = C} {q = q} f h) = its-own (judged by_ns 0 G p) m A C e f q h

pub pair-sub : {B : PlainType} {d : PlainDerivation} {m k : ℕ} {G : List PlainType} {p : Tree} {A : PlainType} {s : PlainShape} →
    judged (sub B d) 0 G p ≡ concludes A → HasPair (sub B d) m G p k s → HasPair d m G p k s ⊎ IsOwn m A k s
pair-sub {B = B} {d = d} {m = m} {G = G} {p = p} {A = A} e (own {A = C} {q = q} f h) = inr (its-own (judged (sub B d) 0 G p) m A C e f q h)
pair-sub e (in_sub x) = inl x

pub pair-meet : {ds : PlainDerivations} {m k : ℕ} {G : List PlainType} {p : Tree} {A : PlainType} {s : PlainShape} →
    judged (meets ds) 0 G p ≡ concludes A → HasPair (meets ds) m G p k s → OneHasPair ds m G p k s ⊎ IsOwn m A k s
pair-meet {ds = ds} {m = m} {G = G} {p = p} {A = A} e (own {A = C} {q = q} f h) = inr (its-own (judged (meets ds) 0 G p) m A C e f q h)
pair-meet e (in_meet x) = inl x

pub pair-alt : {i : ℕ} {d : PlainDerivation} {m k : ℕ} {G : List PlainType} {p : Tree} {A : PlainType} {s : PlainShape} (x : PlainType × Tree) →
    judged (alt i d) 0 G p ≡ concludes A → alternative i p ≡ Some x → HasPair (alt i d) m G p k s → HasPair d (m + 1) (x.0 ∷ G) x.1 k s ⊎ IsOwn m A k s
pair-alt {i = i} {d = d} {m = m} {G = G} {p = p} {A = A} x e a (own {A = C} {q = q} f h) = inr (its-own (judged (alt i d) 0 G p) m A C e f q h)
pair-alt {d = d} {m = m} {k = k} {G = G} {s = s} x e a (in_alt b y) =
    inl (subst (λ z. HasPair d (m + 1) (z.0 ∷ G) z.1 k s) (some_same (sym b ∙ a)) y)

pub pair-left : {d : PlainDerivation} {m k : ℕ} {G : List PlainType} {p : Tree} {A : PlainType} {s : PlainShape} (x : Tree × Tree × Kind) →
    judged (left d) 0 G p ≡ concludes A → operands p ≡ Some x → HasPair (left d) m G p k s → HasPair d (m + 1) G x.0 k s ⊎ IsOwn m A k s
pair-left {d = d} {m = m} {G = G} {p = p} {A = A} x e a (own {A = C} {q = q} f h) = inr (its-own (judged (left d) 0 G p) m A C e f q h)
pair-left {d = d} {m = m} {k = k} {G = G} {s = s} x e a (in_left b y) =
    inl (subst (λ z. HasPair d (m + 1) G z.0 k s) (some_same (sym b ∙ a)) y)

pub pair-right : {d : PlainDerivation} {m k : ℕ} {G : List PlainType} {p : Tree} {A : PlainType} {s : PlainShape} (x : Tree × Tree × Kind) →
    judged (right d) 0 G p ≡ concludes A → operands p ≡ Some x → HasPair (right d) m G p k s → HasPair d (m + 1 + nodes x.0) G x.1 k s ⊎ IsOwn m A k s
pair-right {d = d} {m = m} {G = G} {p = p} {A = A} x e a (own {A = C} {q = q} f h) = inr (its-own (judged (right d) 0 G p) m A C e f q h)
pair-right {d = d} {m = m} {k = k} {G = G} {s = s} x e a (in_right b y) =
    inl (subst (λ z. HasPair d (m + 1 + nodes z.0) G z.1 k s) (some_same (sym b ∙ a)) y)

pub pair-rule : {ds : PlainDerivations} {m k : ℕ} {G : List PlainType} {p : Tree} {A : PlainType} {s : PlainShape} (Ps : List Premise) →
    judged (rule ds) 0 G p ≡ concludes A → premises p ≡ Some Ps → HasPair (rule ds) m G p k s → PremiseHasPair ds (m + 1) G Ps [] k s ⊎ IsOwn m A k s
pair-rule {ds = ds} {m = m} {G = G} {p = p} {A = A} Ps e a (own {A = C} {q = q} f h) = inr (its-own (judged (rule ds) 0 G p) m A C e f q h)
pair-rule {ds = ds} {m = m} {k = k} {G = G} {s = s} Ps e a (in_rule b y) =
    inl (subst (λ Qs. PremiseHasPair ds (m + 1) G Qs [] k s) (some_same (sym b ∙ a)) y)

-- ---- lists

pub no_one : {m k : ℕ} {G : List PlainType} {p : Tree} {s : PlainShape} → OneHasPair no_derivations m G p k s → ⊥
no_one x = elim x [ ]

pub one-pair : {d : PlainDerivation} {ds : PlainDerivations} {m k : ℕ} {G : List PlainType} {p : Tree} {s : PlainShape} →
    OneHasPair (and_derivation d ds) m G p k s → HasPair d m G p k s ⊎ OneHasPair ds m G p k s
one-pair (this_one x) = inl x
one-pair (other_one x) = inr x

pub no_premise : {m k : ℕ} {G As : List PlainType} {Ps : List Premise} {s : PlainShape} → PremiseHasPair no_derivations m G Ps As k s → ⊥
no_premise x = elim x [ ]

pub premise-pair : {d : PlainDerivation} {ds : PlainDerivations} {m k : ℕ} {G As : List PlainType} {P : Premise} {Ps : List Premise} {A : PlainType} {s : PlainShape} →
    judged d 0 (under P.0 As G) P.1 ≡ concludes A → PremiseHasPair (and_derivation d ds) m G (P ∷ Ps) As k s →
    HasPair d m (under P.0 As G) P.1 k s ⊎ PremiseHasPair ds (m + nodes P.1) G Ps (As ++ A ∷ []) k s
premise-pair e (this_premise x) = inl x
premise-pair {ds = ds} {m = m} {k = k} {G = G} {As = As} {P = P} {Ps = Ps} {s = s} e (later_premise f x) =
    inr (subst (λ C. PremiseHasPair ds (m + nodes P.1) G Ps (As ++ C ∷ []) k s) (concluded_same (sym f ∙ e)) x)
