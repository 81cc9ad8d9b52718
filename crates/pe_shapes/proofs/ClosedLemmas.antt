-- The shape table of a derivation is closed: a pair's node stands in the phrase, and what its form passes is in the table. A pair of a
-- rule's own conclusion is found again in what the rule's premises conclude; each other pair stands in a part.
use Rattle.std.proofs.Common.{ℕ, ◌+◌, ◌≡◌, Bool, true, false, if◌then◌else◌, List, [], Some, None, IfSome, refl, sym, ap, ◌∙◌, subst}
use Rattle.fy_types.specs.declared.types.Atom.TheVariants.{Comm}
use Rattle.fy_types.specs.Types.{PlainType, atom}
use Rattle.fy_types.specs.Paths.{PlainPath, end, paths}
use Rattle.fy_phrase.specs.Tree.{Tree, lam}
use Rattle.fy_derive.specs.Derivations.{PlainDerivation, PlainDerivations, alt, left, right, rule}
use Rattle.fy_derive.specs.Rules.{Premise, is_atom}
use Rattle.fy_derive.specs.Judging.{Judged, concludes, stops, alternative, operands, judged, conclusion_of, refusal}
use Rattle.fy_derive.specs.Shapes.{PlainShape, erase, HasPath, first_path, HasPair, own, in_sub, in_meet, in_alt, in_left, in_right, in_rule, OneHasPair, this_one, other_one, PremiseHasPair, this_premise, later_premise, shape_begins, IsNodeAt, itself, in_part, IsNodeAmong, in_first, in_later, Passes, subjects}
use Rattle.fy_derive.proofs.PartLemmas.{alternative-parts, operands-parts, rule-parts}
use Rattle.fy_derive.proofs.RuleLemmas.{same_type-true}
use Rattle.pe_shapes.specs.Closed.{ShapeTablesAreClosed}
use Rattle.pe_shapes.proofs.NodeNumbers.{one-node}
use Rattle.pe_shapes.proofs.JudgedLemmas.{ArePremisesJudged, rule-inner, alt-inner, left-inner, right-inner}
use Rattle.pe_shapes.proofs.RuleBelow.{erase-below, path-called, IsRuleBelow, this_alt, this_left, this_right, this_rule, below_sub, below_meet, IsRuleAmong, below_this, below_other, rule-below}
use Rattle.pe_shapes.proofs.FormPasses.{asked, rule-passes, lam-passes, left-passes, right-passes, erase-begins, clear-begins, operands-kind, right-begins}

-- ---- the pair of a rule's own conclusion

alt-passed : (i : ℕ) (d : PlainDerivation) (G : List PlainType) (p : Tree) (A : PlainType) (P : PlainPath) {m j : ℕ} {s t : PlainShape} →
    judged (alt i d) 0 G p ≡ concludes A → HasPath (paths A) P → erase P ≡ s → Passes m p s j t → HasPair (alt i d) m G p j t
alt-passed i d G p A P {m = m} e among f pass =
    let x = alt-inner i d G p A e in
    let y = path-called (paths x.0.0) (paths x.1) (subst (λ B. HasPath (paths B) P) (sym x.4) among) in
    lam-passes (HasPair (alt i d) m G p) pass i x.0 (erase y.0) x.2 (sym f ∙ ap erase y.2) (in_alt x.2 (own x.3 y.1))

left-passed : (d : PlainDerivation) (G : List PlainType) (p : Tree) (A : PlainType) (P : PlainPath) {m j : ℕ} {s t : PlainShape} →
    judged (left d) 0 G p ≡ concludes A → HasPath (paths A) P → erase P ≡ s → Passes m p s j t → HasPair (left d) m G p j t
left-passed d G p A P {m = m} e among f pass =
    let x = left-inner d G p A e in
    let clear = ap (shape_begins x.0.2) (sym f) ∙ erase-begins x.0.2 P ∙ clear-begins x.0.2 among x.3 in
    left-passes (HasPair (left d) m G p) pass x.0 x.1 clear (in_left x.1 (asked A P refl x.2 among f))

right-passed : (d : PlainDerivation) (G : List PlainType) (p : Tree) (A : PlainType) (P : PlainPath) {m j : ℕ} {s t : PlainShape} →
    judged (right d) 0 G p ≡ concludes A → HasPath (paths A) P → erase P ≡ s → Passes m p s j t → HasPair (right d) m G p j t
right-passed d G p A P {m = m} e among f pass =
    let x = right-inner d G p A e in
    let taken = right-begins d G x.0.1 x.0.2 A (operands-kind p x.0 x.1) x.2 among in
    let begun = ap (shape_begins x.0.2) (sym f) ∙ erase-begins x.0.2 P ∙ taken in
    right-passes (HasPair (right d) m G p) pass x.0 x.1 begun (in_right x.1 (asked A P refl x.2 among f))

rule-passed : (ds : PlainDerivations) (G : List PlainType) (p : Tree) (A : PlainType) (P : PlainPath) {m j : ℕ} {s t : PlainShape} →
    judged (rule ds) 0 G p ≡ concludes A → HasPath (paths A) P → erase P ≡ s → Passes m p s j t → HasPair (rule ds) m G p j t
rule-passed ds G p A P {m = m} {j = j} {t = t} e among f pass =
    let x = rule-inner ds G p A e in
    let passes : ArePremisesJudged ds G x.0 [] x.1 → PremiseHasPair ds (m + 1) G x.0 [] j t =
    subst (λ o. IfSome o (λ Ps. ArePremisesJudged ds G Ps [] x.1 → PremiseHasPair ds (m + 1) G Ps [] j t)) x.2
    (rule-passes pass ds G x.1 A P x.4 among f) in
    in_rule x.2 (passes x.3)

mutual
  below-passed : {d r : PlainDerivation} → IsRuleBelow d r → (G : List PlainType) (p : Tree) (A : PlainType) (P : PlainPath) {m j : ℕ} {s t : PlainShape} →
      judged r 0 G p ≡ concludes A → HasPath (paths A) P → erase P ≡ s → Passes m p s j t → HasPair d m G p j t
  below-passed (this_alt {i = i} {d = d}) G p A P e among f pass = alt-passed i d G p A P e among f pass
  below-passed (this_left {d = d}) G p A P e among f pass = left-passed d G p A P e among f pass
  below-passed (this_right {d = d}) G p A P e among f pass = right-passed d G p A P e among f pass
  below-passed (this_rule {ds = ds}) G p A P e among f pass = rule-passed ds G p A P e among f pass
  below-passed (below_sub is) G p A P e among f pass = in_sub (below-passed is G p A P e among f pass)
  below-passed (below_meet is) G p A P e among f pass = in_meet (among-passed is G p A P e among f pass)

  among-passed : {ds : PlainDerivations} {r : PlainDerivation} → IsRuleAmong ds r → (G : List PlainType) (p : Tree) (A : PlainType) (P : PlainPath) {m j : ℕ} {s t : PlainShape} →
      judged r 0 G p ≡ concludes A → HasPath (paths A) P → erase P ≡ s → Passes m p s j t → OneHasPair ds m G p j t
  among-passed (below_this is) G p A P e among f pass = this_one (below-passed is G p A P e among f pass)
  among-passed (below_other is) G p A P e among f pass = other_one (among-passed is G p A P e among f pass)

-- what is passed of a shape that a derivation concludes for a phrase, it concludes for the parts
pub own-passed : (d : PlainDerivation) (G : List PlainType) (p : Tree) (A : PlainType) (P : PlainPath) {m j : ℕ} {t : PlainShape} →
    judged d 0 G p ≡ concludes A → HasPath (paths A) P → Passes m p (erase P) j t → HasPair d m G p j t
own-passed d G p A P e among pass =
    let r = rule-below d e among in
    below-passed r.stands G p r.concluded r.path r.so r.among (erase-below r.low) pass

-- ---- each pair

-- the number is that of a node, and what its form passes of the shape is among the pairs
pub record IsPassed (IsNode : Tree → Type 0) (pairs : ℕ → PlainShape → Type 0) (k : ℕ) (s : PlainShape) : Type 0 where
  pub node : Tree
  pub stands : IsNode node
  pub passed : (j : ℕ) (t : PlainShape) → Passes k node s j t → pairs j t

passed-in : {IsPart IsNode : Tree → Type 0} {few many : ℕ → PlainShape → Type 0} {k : ℕ} {s : PlainShape} → IsPassed IsPart few k s →
    ((q : Tree) → IsPart q → IsNode q) → ((j : ℕ) (t : PlainShape) → few j t → many j t) → IsPassed IsNode many k s
passed-in x f g = record { node = x.node; stands = f x.node x.stands; passed = λ j t pass. g j t (x.passed j t pass) }

mutual
  pub pair-passed : {d : PlainDerivation} {m k : ℕ} {G : List PlainType} {p : Tree} {s : PlainShape} → HasPair d m G p k s →
      IsPassed (λ q. IsNodeAt m p k q) (HasPair d m G p) k s
  pair-passed (own {d = d} {G = G} {p = p} {A = A} {q = P} e among) =
      record { node = p; stands = itself; passed = λ j t pass. own-passed d G p A P e among pass }
  pair-passed (in_sub pair) = passed-in (pair-passed pair) (λ q n. n) (λ j t x. in_sub x)
  pair-passed (in_meet pair) = passed-in (one-passed pair) (λ q n. n) (λ j t x. in_meet x)
  pair-passed (in_alt {i = i} {m = m} {k = k} {p = p} {b = b} {A = A} e pair) =
      passed-in (pair-passed pair)
      (λ o n. in_part (subst (λ ps. IsNodeAmong (m + 1) ps k o) (sym (alternative-parts i p (A, b) e)) (in_first n)))
      (λ j t x. in_alt e x)
  pair-passed (in_left {m = m} {k = k} {p = p} {q = q} {r = r} {kind = kind} e pair) =
      passed-in (pair-passed pair)
      (λ o n. in_part (subst (λ ps. IsNodeAmong (m + 1) ps k o) (sym (operands-parts p (q, r, kind) e)) (in_first n)))
      (λ j t x. in_left e x)
  pair-passed (in_right {m = m} {k = k} {p = p} {q = q} {r = r} {kind = kind} e pair) =
      passed-in (pair-passed pair)
      (λ o n. in_part (subst (λ ps. IsNodeAmong (m + 1) ps k o) (sym (operands-parts p (q, r, kind) e)) (in_later (in_first n))))
      (λ j t x. in_right e x)
  pair-passed (in_rule {m = m} {k = k} {p = p} {Ps = Ps} e pair) =
      passed-in (premise-passed pair)
      (λ o n. in_part (subst (λ ps. IsNodeAmong (m + 1) ps k o) (sym (rule-parts p Ps e)) n))
      (λ j t x. in_rule e x)

  one-passed : {ds : PlainDerivations} {m k : ℕ} {G : List PlainType} {p : Tree} {s : PlainShape} → OneHasPair ds m G p k s →
      IsPassed (λ q. IsNodeAt m p k q) (OneHasPair ds m G p) k s
  one-passed (this_one pair) = passed-in (pair-passed pair) (λ q n. n) (λ j t x. this_one x)
  one-passed (other_one pair) = passed-in (one-passed pair) (λ q n. n) (λ j t x. other_one x)

  premise-passed : {ds : PlainDerivations} {m k : ℕ} {G As : List PlainType} {Ps : List Premise} {s : PlainShape} → PremiseHasPair ds m G Ps As k s →
      IsPassed (λ q. IsNodeAmong m (subjects Ps) k q) (PremiseHasPair ds m G Ps As) k s
  premise-passed (this_premise pair) = passed-in (pair-passed pair) (λ q n. in_first n) (λ j t x. this_premise x)
  premise-passed (later_premise e pair) = passed-in (premise-passed pair) (λ q n. in_later n) (λ j t x. later_premise e x)

-- ---- the law

-- what is refused at no node concludes `comm`
pub accepted-concludes : (j : Judged) → refusal j ≡ None → j ≡ concludes (atom Comm)
accepted-concludes (stops n) e = absurd cc
accepted-concludes (concludes A) e = by (is_atom Comm A) refl
  where
    by : (b : Bool) → is_atom Comm A ≡ b → concludes A ≡ concludes (atom Comm)
    by true is = ap concludes (same_type-true A (atom Comm) is)
    by false is = let f = ap (λ b. if b then None else Some 0) (sym is) ∙ e in absurd cc

pub tables-closed : ShapeTablesAreClosed
tables-closed p d e = record {
  program = asked (atom Comm) (end Comm) refl (accepted-concludes (conclusion_of p d) e) first_path refl;
  passed = λ k j q s t n pair pass. let x = pair-passed pair in x.passed j t (subst (λ r. Passes k r s j t) (one-node n x.stands refl) pass);
}
