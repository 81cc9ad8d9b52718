-- Each pair of node and shape of a derivation is a pair of the least types.
use Rattle.std.proofs.Common.{ℕ, zero, suc, ◌+◌, List, [], ◌∷◌, ◌++◌, ◌≡◌, Option, option_map, Some, None, MatchOption, ◌⊎◌, inl, inr, refl, sym, ap, subst}
use Rattle.std.specs.Bool.{⊤}
use Rattle.std.proofs.lemmas.List.{append-nil}
use Rattle.fy_types.specs.declared.types.Atom.{Atom}
use Rattle.fy_types.specs.declared.types.Atom.TheVariants.{Compl}
use Rattle.fy_types.specs.Types.{PlainType, PlainTypes, no_types, and_type}
use Rattle.fy_types.specs.Paths.{PlainPath, PlainPaths, paths}
use Rattle.fy_types.specs.PathOrder.{IsEndBelow, same_end, compl_below, IsPathBelow, ends, calls, picks, ArePathsBelow, none_left, and_above, HasBelow, here, there}
use Rattle.fy_types.proofs.Order.{ArePathsBelow-refl, ArePathsBelow-trans}
use Rattle.fy_phrase.specs.Tree.{Tree, Trees, no_trees, and_tree, var, lit, unary, binary, cond, case, lam, app, field, sel, merge, let_in, rec, skip, seq, assign, while_do, forever, new, cells, escape, accept, put, read, mark}
use Rattle.fy_phrase.specs.Sizes.{nodes}
use Rattle.fy_derive.specs.Atoms.{data_atom, cell_type, sequence_type}
use Rattle.fy_derive.specs.Kinds.{Kind, kind_of}
use Rattle.fy_derive.specs.Derivations.{PlainDerivation, PlainDerivations}
use Rattle.fy_derive.specs.Rules.{Binder, nothing, first, given, Premise, of_parts, premises}
use Rattle.fy_derive.specs.Judging.{judged, concludes, member, alternative, operands, under}
use Rattle.fy_derive.specs.Shapes.{PlainShape, at_end, a_call, a_field, end_shape, erase, HasPath, first_path, later_path, HasPair, own, in_sub, in_meet, in_alt, in_left, in_right, in_rule, OneHasPair, this_one, other_one, PremiseHasPair, this_premise, later_premise}
use Rattle.fy_derive.specs.Least.{forms_of, one_end, least_type, Visit, visit, visits_under, visits, visits_of_all, HasLeastPair, this_visit, later_visit}
use Rattle.fy_derive.proofs.SoundLemmas.{judged-sound}
use Rattle.fy_least.specs.Pairs.{AreContextsBelow, no_variables, and_variable}
use Rattle.fy_least.proofs.LeastLemmas.{least-mono, HasType-least}

-- the order of paths keeps shapes
end_shape-same : {a b : Atom} → IsEndBelow a b → end_shape a ≡ end_shape b
end_shape-same same_end = refl
end_shape-same compl_below = refl

erase-same : {p q : PlainPath} → IsPathBelow p q → erase p ≡ erase q
erase-same (ends low) = ap at_end (end_shape-same low)
erase-same (calls wide low) = ap a_call (erase-same low)
erase-same (picks {i = i} low) = ap (a_field i) (erase-same low)

pub path-below : {P : PlainPaths} {q : PlainPath} → HasBelow P q → (r : PlainPath) × HasPath P r × (erase r ≡ erase q)
path-below (here {p = p} low) = (p, first_path, erase-same low)
path-below (there some) = let found = path-below some in (found.0, later_path found.1, found.2)

pub below-path : {P Q : PlainPaths} {q : PlainPath} → ArePathsBelow P Q → HasPath Q q → HasBelow P q
below-path (and_above some rest) first_path = some
below-path (and_above some rest) (later_path among) = below-path rest among
below-path none_left among = elim among [ ]

-- pairs of visits that are put together
pair-left : {vs : List Visit} {k : ℕ} {s : PlainShape} (ws : List Visit) → HasLeastPair vs k s → HasLeastPair (vs ++ ws) k s
pair-left ws (this_visit among) = this_visit among
pair-left ws (later_visit pair) = later_visit (pair-left ws pair)

pair-right : (vs : List Visit) {ws : List Visit} {k : ℕ} {s : PlainShape} → HasLeastPair ws k s → HasLeastPair (vs ++ ws) k s
pair-right [] pair = pair
pair-right (v ∷ vs) pair = later_visit (pair-right vs pair)

pair-under : (As : PlainTypes) (i : ℕ) (A : PlainType) (f : PlainPaths → List Visit) {k : ℕ} {s : PlainShape} → member As i ≡ Some A →
    HasLeastPair (f (paths A)) k s → HasLeastPair (visits_under As f) k s
pair-under no_types i A f e pair = absurd (cc)
pair-under (and_type B As) zero A f {k = k} {s = s} e pair =
    let is : B ≡ A = cc in pair-left (visits_under As f) (subst (λ X. HasLeastPair (f (paths X)) k s) (sym is) pair)
pair-under (and_type B As) (suc i) A f e pair = pair-right (f (paths B)) (pair-under As i A f e pair)

-- a phrase's own visit
pair-own : (p : Tree) (m : ℕ) (G : List PlainPaths) {q : PlainPath} → HasPath (least_type G p) q → HasLeastPair (visits m G p) m (erase q)
pair-own (var k at) m G among = this_visit among
pair-own p m G among = this_visit among

pair-alternative : (p : Tree) (i m : ℕ) (G : List PlainPaths) (x : PlainType × Tree) {k : ℕ} {s : PlainShape} → alternative i p ≡ Some x →
    HasLeastPair (visits (m + 1) (paths x.0 ∷ G) x.1) k s → HasLeastPair (visits m G p) k s
pair-alternative (lam d As c at) i m G x {k = k} {s = s} e pair = found (member As i) refl e
  where
    found : (o : Option PlainType) → member As i ≡ o → option_map {U = PlainType × Tree} (λ X. (X, c)) o ≡ Some x →
        HasLeastPair (visits m G (lam d As c at)) k s
    found None f g = absurd (cc)
    found (Some B) f g =
        let same : x ≡ (B, c) = cc in
        later_visit
        (pair-under As i B (λ D. visits (m + 1) (D ∷ G) c) f
        (subst (λ y. HasLeastPair (visits (m + 1) (paths y.0 ∷ G) y.1) k s) same pair))
pair-alternative p i m G x e pair = absurd (cc)

pair-operand : (p : Tree) (m : ℕ) (G : List PlainPaths) (x : Tree × Tree × Kind) {k : ℕ} {s : PlainShape} → operands p ≡ Some x →
    HasLeastPair (visits (m + 1) G x.0) k s ⊎ HasLeastPair (visits (m + 1 + nodes x.0) G x.1) k s → HasLeastPair (visits m G p) k s
pair-operand (merge q r at) m G x {k = k} {s = s} e pair = found (kind_of r) e
  where
    either : HasLeastPair (visits (m + 1) G q) k s ⊎ HasLeastPair (visits (m + 1 + nodes q) G r) k s → HasLeastPair (visits m G (merge q r at)) k s
    either (inl one) = later_visit (pair-left (visits (m + 1 + nodes q) G r) one)
    either (inr one) = later_visit (pair-right (visits (m + 1) G q) one)

    found : (o : Option Kind) → option_map {U = Tree × Tree × Kind} (λ j. (q, r, j)) o ≡ Some x → HasLeastPair (visits m G (merge q r at)) k s
    found None f = absurd (cc)
    found (Some j) f =
        let same : x ≡ (q, r, j) = cc in
        either (subst (λ y. HasLeastPair (visits (m + 1) G y.0) k s ⊎ HasLeastPair (visits (m + 1 + nodes y.0) G y.1) k s) same pair)
pair-operand p m G x e pair = absurd (cc)

-- the visits of premises, behind the least types of those before
abbrev forms_under : Binder → List PlainPaths → List PlainPaths → List PlainPaths
forms_under nothing Ls G = G
forms_under first [] G = G
forms_under first (L ∷ Ls) G = L ∷ G
forms_under (given T) Ls G = paths T ∷ G

abbrev premise_visits : ℕ → List PlainPaths → List Premise → List PlainPaths → List Visit
premise_visits m G [] Ls = []
premise_visits m G (P ∷ Ps) Ls =
    visits m (forms_under P.0 Ls G) P.1 ++ premise_visits (m + nodes P.1) G Ps (Ls ++ least_type (forms_under P.0 Ls G) P.1 ∷ [])

parts-visits : (ps : Trees) (m : ℕ) (G Ls : List PlainPaths) → premise_visits m G (of_parts ps) Ls ≡ visits_of_all m G ps
parts-visits no_trees m G Ls = refl
parts-visits (and_tree p ps) m G Ls = ap (λ vs. visits m G p ++ vs) (parts-visits ps (m + nodes p) G (Ls ++ least_type G p ∷ []))

-- the visits of a phrase with a rule are its own and those of the premises
abbrev IsVisited : Tree → ℕ → List PlainPaths → List Premise → Type 0
IsVisited p m G Ps = visits m G p ≡ visit m G p ∷ premise_visits (m + 1) G Ps []

one_part : (p : Tree) (m : ℕ) (G : List PlainPaths) (v : Visit) → v ∷ visits m G p ≡ v ∷ (visits m G p ++ [])
one_part p m G v = ap (λ vs. v ∷ vs) (sym (append-nil (visits m G p)))

two_parts : (us vs : List Visit) (v : Visit) → v ∷ (us ++ vs) ≡ v ∷ (us ++ (vs ++ []))
two_parts us vs v = ap (λ ws. v ∷ (us ++ ws)) (sym (append-nil vs))

visits-premises : (p : Tree) (m : ℕ) (G : List PlainPaths) → MatchOption (premises p) ⊤ (IsVisited p m G)
visits-premises (var k at) m G = refl
visits-premises (lit v at) m G = refl
visits-premises (unary op p at) m G = one_part p (m + 1) G _
visits-premises (binary op p q at) m G = two_parts (visits (m + 1) G p) (visits (m + 1 + nodes p) G q) _
visits-premises (cond b p q at) m G =
    ap (λ ws. visit m G (cond b p q at) ∷ (visits (m + 1) G b ++ (visits (m + 1 + nodes b) G p ++ ws)))
    (sym (append-nil (visits (m + 1 + nodes b + nodes p) G q)))
visits-premises (case e parts at) m G =
    ap (λ ws. visit m G (case e parts at) ∷ (visits (m + 1) G e ++ ws)) (sym (parts-visits parts (m + 1 + nodes e) G (least_type G e ∷ [])))
visits-premises (lam d As b at) m G = tt
visits-premises (app p q at) m G = two_parts (visits (m + 1) G p) (visits (m + 1 + nodes p) G q) _
visits-premises (field i p at) m G = one_part p (m + 1) G _
visits-premises (sel p i at) m G = one_part p (m + 1) G _
visits-premises (merge p q at) m G = tt
visits-premises (let_in d p b at) m G = two_parts (visits (m + 1) G p) (visits (m + 1 + nodes p) (least_type G p ∷ G) b) _
visits-premises (rec d T b at) m G = one_part b (m + 1) (paths T ∷ G) _
visits-premises (skip at) m G = refl
visits-premises (seq p q at) m G = two_parts (visits (m + 1) G p) (visits (m + 1 + nodes p) G q) _
visits-premises (assign p q at) m G = two_parts (visits (m + 1) G p) (visits (m + 1 + nodes p) G q) _
visits-premises (while_do b c at) m G = two_parts (visits (m + 1) G b) (visits (m + 1 + nodes b) G c) _
visits-premises (forever c at) m G = one_part c (m + 1) G _
visits-premises (new d D e b at) m G = two_parts (visits (m + 1) G e) (visits (m + 1 + nodes e) (paths (cell_type D) ∷ G) b) _
visits-premises (cells d e b at) m G = two_parts (visits (m + 1) G e) (visits (m + 1 + nodes e) (paths sequence_type ∷ G) b) _
visits-premises (escape d b at) m G = one_part b (m + 1) (one_end Compl ∷ G) _
visits-premises (accept d D b at) m G = one_part b (m + 1) (one_end (data_atom D) ∷ G) _
visits-premises (put kind p at) m G = one_part p (m + 1) G _
visits-premises (read p at) m G = one_part p (m + 1) G _
visits-premises (mark a at) m G = tt

pair-premises : (p : Tree) (m : ℕ) (G : List PlainPaths) (Ps : List Premise) {k : ℕ} {s : PlainShape} → premises p ≡ Some Ps →
    HasLeastPair (premise_visits (m + 1) G Ps []) k s → HasLeastPair (visits m G p) k s
pair-premises p m G Ps {k = k} {s = s} e pair =
    let is : visits m G p ≡ visit m G p ∷ premise_visits (m + 1) G Ps [] = subst (λ o. MatchOption o ⊤ (IsVisited p m G)) e (visits-premises p m G) in
    subst (λ vs. HasLeastPair vs k s) (sym is) (later_visit pair)

-- contexts of premises
context-push : (Ls : List PlainPaths) (As : List PlainType) (L : PlainPaths) (A : PlainType) → AreContextsBelow Ls (forms_of As) →
    ArePathsBelow L (paths A) →
    AreContextsBelow (Ls ++ L ∷ []) (forms_of (As ++ A ∷ []))
context-push [] [] L A c low = and_variable low no_variables
context-push [] (B ∷ As) L A c low = elim c [ ]
context-push (M ∷ Ls) [] L A c low = elim c [ ]
context-push (M ∷ Ls) (B ∷ As) L A (and_variable next c) low = and_variable next (context-push Ls As L A c low)

context-under : (x : Binder) (Ls : List PlainPaths) (As : List PlainType) (H : List PlainPaths) (G : List PlainType) →
    AreContextsBelow Ls (forms_of As) → AreContextsBelow H (forms_of G) → AreContextsBelow (forms_under x Ls H) (forms_of (under x As G))
context-under nothing Ls As H G c low = low
context-under first [] [] H G c low = low
context-under first [] (A ∷ As) H G c low = elim c [ ]
context-under first (L ∷ Ls) [] H G c low = elim c [ ]
context-under first (L ∷ Ls) (A ∷ As) H G (and_variable next c) low = and_variable next low
context-under (given T) Ls As H G c low = and_variable (ArePathsBelow-refl (paths T)) low

-- what a derivation concludes is above the least type under a context that is below
pub concluded-above : (d : PlainDerivation) (n : ℕ) (p : Tree) (H : List PlainPaths) (G : List PlainType) (A : PlainType) → AreContextsBelow H (forms_of G) →
    judged d n G p ≡ concludes A → ArePathsBelow (least_type H p) (paths A)
concluded-above d n p H G A low e =
    ArePathsBelow-trans (least_type (forms_of G) p) (least-mono p H (forms_of G) low) (HasType-least (judged-sound d n G p A e))

mutual
  HasPair-least : {d : PlainDerivation} {m k : ℕ} {G : List PlainType} {p : Tree} {s : PlainShape} (H : List PlainPaths) →
      AreContextsBelow H (forms_of G) →
      HasPair d m G p k s → HasLeastPair (visits m H p) k s
  HasPair-least H low (own {d = d} {m = m} {G = G} {p = p} {A = A} {q = q} e among) =
      let found = path-below (below-path (concluded-above d 0 p H G A low e) among) in
      subst (λ x. HasLeastPair (visits m H p) m x) found.2 (pair-own p m H found.1)
  HasPair-least H low (in_sub pair) = HasPair-least H low pair
  HasPair-least H low (in_meet pair) = OneHasPair-least H low pair
  HasPair-least H low (in_alt {i = i} {m = m} {p = p} {b = b} {A = A} e pair) =
      pair-alternative p i m H (A, b) e (HasPair-least (paths A ∷ H) (and_variable (ArePathsBelow-refl (paths A)) low) pair)
  HasPair-least H low (in_left {m = m} {p = p} {q = q} {r = r} {kind = kind} e pair) =
      pair-operand p m H (q, r, kind) e (inl (HasPair-least H low pair))
  HasPair-least H low (in_right {m = m} {p = p} {q = q} {r = r} {kind = kind} e pair) =
      pair-operand p m H (q, r, kind) e (inr (HasPair-least H low pair))
  HasPair-least H low (in_rule {m = m} {p = p} {Ps = Ps} e pair) =
      pair-premises p m H Ps e (PremiseHasPair-least H [] low no_variables pair)

  OneHasPair-least : {ds : PlainDerivations} {m k : ℕ} {G : List PlainType} {p : Tree} {s : PlainShape} (H : List PlainPaths) →
      AreContextsBelow H (forms_of G) →
      OneHasPair ds m G p k s → HasLeastPair (visits m H p) k s
  OneHasPair-least H low (this_one pair) = HasPair-least H low pair
  OneHasPair-least H low (other_one pair) = OneHasPair-least H low pair

  PremiseHasPair-least : {ds : PlainDerivations} {m k : ℕ} {G As : List PlainType} {Ps : List Premise} {s : PlainShape} (H Ls : List PlainPaths) →
      AreContextsBelow H (forms_of G) → AreContextsBelow Ls (forms_of As) → PremiseHasPair ds m G Ps As k s →
      HasLeastPair (premise_visits m H Ps Ls) k s
  PremiseHasPair-least H Ls low c (this_premise {m = m} {G = G} {As = As} {P = P} {Ps = Ps} pair) =
      pair-left (premise_visits (m + nodes P.1) H Ps (Ls ++ least_type (forms_under P.0 Ls H) P.1 ∷ []))
      (HasPair-least (forms_under P.0 Ls H) (context-under P.0 Ls As H G c low) pair)
  PremiseHasPair-least H Ls low c (later_premise {d = d} {m = m} {G = G} {As = As} {P = P} {A = A} e pair) =
      pair-right (visits m (forms_under P.0 Ls H) P.1)
      (PremiseHasPair-least H (Ls ++ least_type (forms_under P.0 Ls H) P.1 ∷ []) low
      (context-push Ls As (least_type (forms_under P.0 Ls H) P.1) A c
      (concluded-above d 0 P.1 (forms_under P.0 Ls H) (under P.0 As G) A (context-under P.0 Ls As H G c low) e)) pair)

-- with no variable in scope
pub shapes-least : (p : Tree) (d : PlainDerivation) (k : ℕ) (s : PlainShape) → HasPair d 0 [] p k s → HasLeastPair (visits 0 [] p) k s
shapes-least p d k s pair = HasPair-least [] no_variables pair
