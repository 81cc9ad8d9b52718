-- Each pair of an accepted derivation fits its node's form: an abstraction is asked for a call, a definition for its field, and no mark is asked for anything.
use Rattle.std.proofs.Common.{ℕ, ◌+◌, ◌≡◌, List, [], Some, refl, sym, ap, subst}
use Rattle.fy_types.specs.Types.{PlainType, field as field_type}
use Rattle.fy_types.specs.Paths.{PlainPath, paths}
use Rattle.fy_phrase.specs.Tree.{Tree, lam, field, merge, mark}
use Rattle.fy_derive.specs.Kinds.{Kind}
use Rattle.fy_derive.specs.Tables.{type_at}
use Rattle.fy_derive.specs.Derivations.{PlainDerivation, PlainDerivations, alt, rule}
use Rattle.fy_derive.specs.Rules.{Premise, premises, conclusion}
use Rattle.fy_derive.specs.Judging.{concludes, alternative, operands, judged}
use Rattle.fy_derive.specs.Shapes.{PlainShape, a_call, a_field, erase, HasPath, HasPair, own, in_sub, in_meet, in_alt, in_left, in_right, in_rule, OneHasPair, this_one, other_one, PremiseHasPair, this_premise, later_premise, IsNodeAt, itself, in_part, IsNodeAmong, in_first, in_later, shape_table, subjects}
use Rattle.fy_derive.proofs.PartLemmas.{alternative-parts, operands-parts, rule-parts}
use Rattle.pe_shapes.proofs.NodeNumbers.{one-node}
use Rattle.pe_shapes.proofs.JudgedLemmas.{some_same, rule-inner, alt-inner, left-inner, right-inner}
use Rattle.pe_shapes.proofs.RuleBelow.{erase-below, path-called, path-picked, IsRuleBelow, this_alt, this_left, this_right, this_rule, below_sub, below_meet, IsRuleAmong, below_this, below_other, rule-below}

abbrev pub Fits : Tree → PlainShape → Type 0
Fits (lam d As b at) s = (t : PlainShape) × (s ≡ a_call t)
Fits (field i p at) s = (t : PlainShape) × (s ≡ a_field i t)
Fits (mark m at) s = ⊥
Fits p s = Unit {0}

-- ---- the pair of a rule's own conclusion

alt-fits : (i : ℕ) (d : PlainDerivation) (G : List PlainType) (p : Tree) (A : PlainType) (P : PlainPath) → judged (alt i d) 0 G p ≡ concludes A →
    HasPath (paths A) P → Fits p (erase P)
alt-fits i d G p A P e among =
    let x = alt-inner i d G p A e in
    let y = path-called (paths x.0.0) (paths x.1) (subst (λ B. HasPath (paths B) P) (sym x.4) among) in
    by p x.0 x.2 (erase y.0) (ap erase y.2)
  where
    by : (p : Tree) (x : PlainType × Tree) → alternative i p ≡ Some x → (t : PlainShape) → erase P ≡ a_call t → Fits p (erase P)
    by (lam n As b at) x f t g = (t, g)
    by p x f t g = absurd cc

operands-fit : (p : Tree) (x : Tree × Tree × Kind) (s : PlainShape) → operands p ≡ Some x → Fits p s
operands-fit (merge q r at) x s f = tt
operands-fit p x s f = absurd cc

rule-fits : (ds : PlainDerivations) (G : List PlainType) (p : Tree) (A : PlainType) (P : PlainPath) → judged (rule ds) 0 G p ≡ concludes A →
    HasPath (paths A) P → Fits p (erase P)
rule-fits ds G p A P e among = let x = rule-inner ds G p A e in by p x.0 x.2 x.1 x.4
  where
    defined : (i : ℕ) (B : PlainType) → Some (field_type i B) ≡ Some A → (t : PlainShape) × (erase P ≡ a_field i t)
    defined i B g =
        let y = path-picked i (paths B) (subst (λ C. HasPath (paths C) P) (sym (some_same g)) among) in
        (erase y.0, ap erase y.2)

    by : (p : Tree) (Ps : List Premise) → premises p ≡ Some Ps → (Bs : List PlainType) → conclusion G p Bs ≡ Some A → Fits p (erase P)
    by (lam n As b at) Ps f Bs g = absurd cc
    by (field i b at) Ps f Bs g = defined i (type_at Bs 0) g
    by (mark m at) Ps f Bs g = absurd cc
    by p Ps f Bs g = tt

mutual
  below-fits : {d r : PlainDerivation} → IsRuleBelow d r → (G : List PlainType) (p : Tree) (A : PlainType) (P : PlainPath) → judged r 0 G p ≡ concludes A →
      HasPath (paths A) P → Fits p (erase P)
  below-fits (this_alt {i = i} {d = d}) G p A P e among = alt-fits i d G p A P e among
  below-fits (this_left {d = d}) G p A P e among = let x = left-inner d G p A e in operands-fit p x.0 (erase P) x.1
  below-fits (this_right {d = d}) G p A P e among = let x = right-inner d G p A e in operands-fit p x.0 (erase P) x.1
  below-fits (this_rule {ds = ds}) G p A P e among = rule-fits ds G p A P e among
  below-fits (below_sub is) G p A P e among = below-fits is G p A P e among
  below-fits (below_meet is) G p A P e among = among-fits is G p A P e among

  among-fits : {ds : PlainDerivations} {r : PlainDerivation} → IsRuleAmong ds r → (G : List PlainType) (p : Tree) (A : PlainType) (P : PlainPath) →
      judged r 0 G p ≡ concludes A → HasPath (paths A) P → Fits p (erase P)
  among-fits (below_this is) G p A P e among = below-fits is G p A P e among
  among-fits (below_other is) G p A P e among = among-fits is G p A P e among

own-fits : (d : PlainDerivation) (G : List PlainType) (p : Tree) (A : PlainType) (P : PlainPath) → judged d 0 G p ≡ concludes A → HasPath (paths A) P →
    Fits p (erase P)
own-fits d G p A P e among =
    let r = rule-below d e among in
    subst (λ s. Fits p s) (erase-below r.low) (below-fits r.stands G p r.concluded r.path r.so r.among)

-- ---- each pair

-- the number is that of a node, which the shape fits
record HasFit (IsNode : Tree → Type 0) (s : PlainShape) : Type 0 where
  pub node : Tree
  pub stands : IsNode node
  pub fits : Fits node s

fit-in : {IsPart IsNode : Tree → Type 0} {s : PlainShape} → HasFit IsPart s → ((q : Tree) → IsPart q → IsNode q) → HasFit IsNode s
fit-in x f = record { node = x.node; stands = f x.node x.stands; fits = x.fits }

mutual
  pair-fits : {d : PlainDerivation} {m k : ℕ} {G : List PlainType} {p : Tree} {s : PlainShape} → HasPair d m G p k s → HasFit (λ q. IsNodeAt m p k q) s
  pair-fits (own {d = d} {G = G} {p = p} {A = A} {q = P} e among) = record { node = p; stands = itself; fits = own-fits d G p A P e among }
  pair-fits (in_sub pair) = pair-fits pair
  pair-fits (in_meet pair) = one-fits pair
  pair-fits (in_alt {i = i} {m = m} {k = k} {p = p} {b = b} {A = A} e pair) =
      fit-in (pair-fits pair) (λ o n. in_part (subst (λ ps. IsNodeAmong (m + 1) ps k o) (sym (alternative-parts i p (A, b) e)) (in_first n)))
  pair-fits (in_left {m = m} {k = k} {p = p} {q = q} {r = r} {kind = kind} e pair) =
      fit-in (pair-fits pair) (λ o n. in_part (subst (λ ps. IsNodeAmong (m + 1) ps k o) (sym (operands-parts p (q, r, kind) e)) (in_first n)))
  pair-fits (in_right {m = m} {k = k} {p = p} {q = q} {r = r} {kind = kind} e pair) =
      fit-in (pair-fits pair) (λ o n. in_part (subst (λ ps. IsNodeAmong (m + 1) ps k o) (sym (operands-parts p (q, r, kind) e)) (in_later (in_first n))))
  pair-fits (in_rule {m = m} {k = k} {p = p} {Ps = Ps} e pair) =
      fit-in (premise-fits pair) (λ o n. in_part (subst (λ ps. IsNodeAmong (m + 1) ps k o) (sym (rule-parts p Ps e)) n))

  one-fits : {ds : PlainDerivations} {m k : ℕ} {G : List PlainType} {p : Tree} {s : PlainShape} → OneHasPair ds m G p k s → HasFit (λ q. IsNodeAt m p k q) s
  one-fits (this_one pair) = pair-fits pair
  one-fits (other_one pair) = one-fits pair

  premise-fits : {ds : PlainDerivations} {m k : ℕ} {G As : List PlainType} {Ps : List Premise} {s : PlainShape} → PremiseHasPair ds m G Ps As k s →
      HasFit (λ q. IsNodeAmong m (subjects Ps) k q) s
  premise-fits (this_premise pair) = fit-in (pair-fits pair) (λ q n. in_first n)
  premise-fits (later_premise e pair) = fit-in (premise-fits pair) (λ q n. in_later n)

pub table-fits : (p : Tree) (d : PlainDerivation) (k : ℕ) (q : Tree) (s : PlainShape) → IsNodeAt 0 p k q → shape_table p d k s → Fits q s
table-fits p d k q s node pair = let x = pair-fits pair in subst (λ r. Fits r s) (one-node x.stands node refl) x.fits

pub table-node : (p : Tree) (d : PlainDerivation) (k : ℕ) (s : PlainShape) → shape_table p d k s → (q : Tree) × IsNodeAt 0 p k q
table-node p d k s pair = let x = pair-fits pair in (x.node, x.stands)
