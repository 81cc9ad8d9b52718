-- Where a derivation concludes a type, judging concludes at each of its nodes.
use Rattle.std.proofs.Common.{ℕ, ◌+◌, ◌≡◌, ◌==◌, Bool, true, false, if◌then◌else◌, List, [], ◌∷◌, ◌++◌, length, ap, refl, sym, subst, ◌∙◌}
use Rattle.std.specs.Prelude.{All, nat_le, replicate, Option, Some, None}
use Rattle.std.proofs.lemmas.List.Elements.{All-nil, All-cons, All-append}
use Rattle.fy_base.specs.Outside.{Bytes}
use Rattle.fy_types.specs.Types.{PlainType, arrow, meet}
use Rattle.fy_types.specs.Paths.{paths}
use Rattle.fy_types.specs.Reading.{types_from}
use Rattle.fy_phrase.specs.Tree.{Tree}
use Rattle.fy_derive.specs.Derivations.{PlainDerivation, PlainDerivations, by_ns, sub, meets, alt, left, right, rule, no_derivations, and_derivation, count, nodes}
use Rattle.fy_derive.specs.Judging.{Judged, concludes, stops, AllJudged, all_conclude, one_stops, judged, each_judged, then_judge, then_others, at_node, from_premises, if_count, alternative, operands, under}
use Rattle.fy_derive.specs.Judging as judging
use Rattle.fy_derive.specs.Kinds.{none_begins}
use Rattle.fy_derive.specs.Rules.{Premise, nothing, given, premises, provided, conclusion}
use Rattle.fy_derive.specs.Subsumption.{is_below}
use Rattle.fy_show.specs.Entries.{Scope, Known}
use Rattle.fy_told.specs.ReasonTexts.{whole_premises}
use Rattle.fy_tree.specs.Annotated.{Row, Annotated, AnnotatedList, no_annotated, and_annotated, concluded, row_at, at_premise, if_form, if_premises, shown_of, each_shown, conclusion_of}
use Rattle.fy_tree.specs.Laws.{rows, all_rows, IsJudgedRow, ShowsJudging}

row-judged : (d : PlainDerivation) (n : ℕ) (G : List PlainType) (s : Scope) (added : Bytes) (p : Tree) (A : PlainType) → judged d n G p ≡ concludes A → IsJudgedRow (row_at d n G s added p)
row-judged d n G s added p A e = e ∙ ap (λ (j : Judged). concludes (concluded j)) (sym e)

then-in : (j : Judged) (f : PlainType → Judged) (A : PlainType) → then_judge j f ≡ concludes A → (B : PlainType) × (j ≡ concludes B)
then-in (concludes B) f A e = (B, refl)
then-in (stops n) f A e = absurd cc

others-in : (j : Judged) (f : PlainType → AllJudged) (Bs : List PlainType) → then_others j f ≡ all_conclude Bs → (A : PlainType) × (j ≡ concludes A) × (f A ≡ all_conclude Bs)
others-in (concludes A) f Bs e = (A, refl, e)
others-in (stops n) f Bs e = absurd cc

from-in : (n : ℕ) (r : AllJudged) (f : List PlainType → Option PlainType) (A : PlainType) → from_premises n r f ≡ concludes A → (Bs : List PlainType) × (r ≡ all_conclude Bs)
from-in n (all_conclude Bs) f A e = (Bs, refl)
from-in n (one_stops k) f A e = absurd cc

if-in : (b : Bool) (j : Judged) (n : ℕ) (A : PlainType) → (if b then j else stops n) ≡ concludes A → j ≡ concludes A
if-in true j n A e = e
if-in false j n A e = absurd cc

form-rows : {X : Type 0} (o : Option X) (f : X → Judged) (g : X → Annotated) (n : ℕ) (A : PlainType) → judging.if_form n o f ≡ concludes A
    → ((x : X) → f x ≡ concludes A → All IsJudgedRow (rows (g x))) → All IsJudgedRow (all_rows (if_form o g))
form-rows None f g n A e h = absurd cc
form-rows (Some x) f g n A e h = All-append IsJudgedRow (rows (g x)) [] (h x e) (All-nil IsJudgedRow)

count-rows : (b : Bool) (j : Judged) (more : AnnotatedList) (n : ℕ) (A : PlainType) → (if b then j else stops n) ≡ concludes A → (j ≡ concludes A → All IsJudgedRow (all_rows more))
    → All IsJudgedRow (all_rows (if b then more else no_annotated))
count-rows true j more n A e h = h e
count-rows false j more n A e h = absurd cc

premises-rows : (o : Option (List Premise)) (f : List Premise → Judged) (g : List Premise → AnnotatedList) (k n : ℕ) (A : PlainType)
    → judging.if_form n o (λ Ps. if_count n k Ps (f Ps)) ≡ concludes A
    → ((Ps : List Premise) → f Ps ≡ concludes A → All IsJudgedRow (all_rows (g Ps))) → All IsJudgedRow (all_rows (if_premises k o g))
premises-rows None f g k n A e h = absurd cc
premises-rows (Some Ps) f g k n A e h = count-rows (k == length Ps) (f Ps) (g Ps) n A e (h Ps)

mutual
  pub rows-judged : (k : Known) (d : PlainDerivation) (n : ℕ) (G : List PlainType) (s : Scope) (added : Bytes) (p : Tree) (A : PlainType) → judged d n G p ≡ concludes A
      → All IsJudgedRow (rows (shown_of k d n G s added p))
  rows-judged k by_ns n G s added p A e = All-cons IsJudgedRow (row_at by_ns n G s added p) [] (row-judged by_ns n G s added p A e) (All-nil IsJudgedRow)
  rows-judged k (sub B d) n G s added p A e =
      let h = then-in (judged d (n + 1) G p) (λ C. at_node n (provided (is_below C B) B)) A e in
      All-cons IsJudgedRow (row_at (sub B d) n G s added p) (rows (shown_of k d (n + 1) G s added p)) (row-judged (sub B d) n G s added p A e)
      (rows-judged k d (n + 1) G s added p h.0 h.1)
  rows-judged k (meets ds) n G s added p A e =
      let Ps : List Premise = whole_premises (count ds) p in
      let r : AllJudged = each_judged ds (n + 1) G Ps [] in
      let f : List PlainType → Option PlainType = λ As. Some (meet (types_from As)) in
      let h = from-in n r f A (if-in (nat_le 2 (count ds)) (from_premises n r f) n A e) in
      All-cons IsJudgedRow (row_at (meets ds) n G s added p) (all_rows (each_shown k ds (n + 1) G s p Ps [])) (row-judged (meets ds) n G s added p A e)
      (each-judged k ds (n + 1) G s p Ps [] h.0 h.1)
  rows-judged k (alt i d) n G s added p A e =
      let f : PlainType × Tree → Judged = λ x. then_judge (judged d (n + 1) (x.0 ∷ G) x.1) (λ C. concludes (arrow x.0 C)) in
      let g : PlainType × Tree → Annotated = λ x. at_premise k G s p [] (given x.0, x.1) (shown_of k d (n + 1)) in
      All-cons IsJudgedRow (row_at (alt i d) n G s added p) (all_rows (if_form (alternative i p) g)) (row-judged (alt i d) n G s added p A e)
      (form-rows (alternative i p) f g n A e
      (λ x i. let h = then-in (judged d (n + 1) (x.0 ∷ G) x.1) (λ C. concludes (arrow x.0 C)) A i in
      rows-judged k d (n + 1) (x.0 ∷ G) _ _ x.1 h.0 h.1))
  rows-judged k (left d) n G s added p A e =
      All-cons IsJudgedRow (row_at (left d) n G s added p) _ (row-judged (left d) n G s added p A e)
      (form-rows (operands p) (λ x. then_judge (judged d (n + 1) G x.0) (λ B. at_node n (provided (none_begins x.2 (paths B)) B)))
      (λ x. at_premise k G s p [] (nothing, x.0) (shown_of k d (n + 1))) n A e
      (λ x i. let h = then-in (judged d (n + 1) G x.0) (λ B. at_node n (provided (none_begins x.2 (paths B)) B)) A i in
      rows-judged k d (n + 1) G s [] x.0 h.0 h.1))
  rows-judged k (right d) n G s added p A e =
      All-cons IsJudgedRow (row_at (right d) n G s added p) _ (row-judged (right d) n G s added p A e)
      (form-rows (operands p) (λ x. judged d (n + 1) G x.1) (λ x. at_premise k G s p [] (nothing, x.1) (shown_of k d (n + 1))) n A e
      (λ x i. rows-judged k d (n + 1) G s [] x.1 A i))
  rows-judged k (rule ds) n G s added p A e =
      All-cons IsJudgedRow (row_at (rule ds) n G s added p) _ (row-judged (rule ds) n G s added p A e)
      (premises-rows (premises p) (λ Ps. from_premises n (each_judged ds (n + 1) G Ps []) (conclusion G p)) (λ Ps. each_shown k ds (n + 1) G s p Ps []) (count ds) n A e
      (λ Ps i. let h = from-in n (each_judged ds (n + 1) G Ps []) (conclusion G p) A i in
      each-judged k ds (n + 1) G s p Ps [] h.0 h.1))

  each-judged : (k : Known) (ds : PlainDerivations) (n : ℕ) (G : List PlainType) (s : Scope) (p : Tree) (Ps : List Premise) (As Bs : List PlainType) → each_judged ds n G Ps As ≡ all_conclude Bs
      → All IsJudgedRow (all_rows (each_shown k ds n G s p Ps As))
  each-judged k no_derivations n G s p Ps As Bs e = All-nil IsJudgedRow
  each-judged k (and_derivation d ds) n G s p [] As Bs e = All-nil IsJudgedRow
  each-judged k (and_derivation d ds) n G s p (P ∷ Ps) As Bs e =
      let j : Judged = judged d n (under P.0 As G) P.1 in
      let h = others-in j (λ A. each_judged ds (n + nodes d) G Ps (As ++ A ∷ [])) Bs e in
      let same : each_judged ds (n + nodes d) G Ps (As ++ concluded j ∷ []) ≡ all_conclude Bs =
      ap (λ (i : Judged). each_judged ds (n + nodes d) G Ps (As ++ concluded i ∷ [])) h.1 ∙ h.2 in
      All-append IsJudgedRow (rows (at_premise k G s p As P (shown_of k d n))) (all_rows (each_shown k ds (n + nodes d) G s p Ps (As ++ concluded j ∷ [])))
      (rows-judged k d n (under P.0 As G) _ _ P.1 h.0 h.1)
      (each-judged k ds (n + nodes d) G s p Ps (As ++ concluded j ∷ []) Bs same)

pub root-conclusion : (k : Known) (d : PlainDerivation) (n : ℕ) (G : List PlainType) (s : Scope) (added : Bytes) (p : Tree) → conclusion_of (shown_of k d n G s added p) ≡ concluded (judged d n G p)
root-conclusion k by_ns n G s added p = refl
root-conclusion k (sub B d) n G s added p = refl
root-conclusion k (meets ds) n G s added p = refl
root-conclusion k (alt i d) n G s added p = refl
root-conclusion k (left d) n G s added p = refl
root-conclusion k (right d) n G s added p = refl
root-conclusion k (rule ds) n G s added p = refl

pub shows-judging : (k : Known) (d : PlainDerivation) (n : ℕ) (G : List PlainType) (s : Scope) (added : Bytes) (p : Tree) (A : PlainType) → judged d n G p ≡ concludes A
    → ShowsJudging k d n G s added p A
shows-judging k d n G s added p A e = record {
  root = root-conclusion k d n G s added p ∙ ap concluded e;
  all = rows-judged k d n G s added p A e;
}
