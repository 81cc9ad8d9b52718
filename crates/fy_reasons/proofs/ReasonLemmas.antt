-- Without its reasons, judging is as it was.
use Rattle.std.proofs.Common.{◌≡◌, ℕ, ◌+◌, ◌==◌, Bool, true, false, if◌then◌else◌, List, [], ◌∷◌, ◌++◌, length, refl, ap, ◌∙◌}
use Rattle.std.specs.Prelude.{nat_le, replicate, Option, Some, None}
use Rattle.fy_types.specs.Types.{PlainType, arrow, meet}
use Rattle.fy_types.specs.Paths.{paths}
use Rattle.fy_types.specs.Reading.{types_from}
use Rattle.fy_phrase.specs.Tree.{Tree}
use Rattle.fy_derive.specs.Derivations.{PlainDerivation, PlainDerivations, by_ns, sub, meets, alt, left, right, rule, no_derivations, and_derivation, count, nodes}
use Rattle.fy_derive.specs.Subsumption.{is_below}
use Rattle.fy_derive.specs.Kinds.{none_begins}
use Rattle.fy_derive.specs.Rules.{nothing, Premise, premises, provided, conclusion}
use Rattle.fy_derive.specs.Judging.{Judged, AllJudged, judged, each_judged, alternative, operands, under}
use Rattle.fy_derive.specs.Judging as plain
use Rattle.fy_reasons.specs.Reasons.{Reason, Stop, stop_at, Reasoned, concludes, stops, AllReasoned, all_conclude, one_stops, then_judge, then_others, at_node, from_premises, if_form, no_alternative_of, other_form, other_count, few_parts, not_below, taken_right, other_types, judged_so, each_so, without_reason, Forgets}

abbrev pub all_without : AllReasoned → AllJudged
all_without (all_conclude As) = plain.all_conclude As
all_without (one_stops s) = plain.one_stops s.number

then-forgets : (r : Reasoned) (f : PlainType → Reasoned) (g : PlainType → Judged) → ((A : PlainType) → without_reason (f A) ≡ g A) →
    without_reason (then_judge r f) ≡ plain.then_judge (without_reason r) g
then-forgets (concludes A) f g h = h A
then-forgets (stops s) f g h = refl

others-forgets : (r : Reasoned) (f : PlainType → AllReasoned) (g : PlainType → AllJudged) → ((A : PlainType) → all_without (f A) ≡ g A) →
    all_without (then_others r f) ≡ plain.then_others (without_reason r) g
others-forgets (concludes A) f g h = h A
others-forgets (stops s) f g h = refl

at-forgets : (s : Stop) (o : Option PlainType) → without_reason (at_node s o) ≡ plain.at_node s.number o
at-forgets s None = refl
at-forgets s (Some A) = refl

premises-forgets : (r : AllReasoned) (f : List PlainType → Reasoned) (n : ℕ) (g : List PlainType → Option PlainType) →
    ((As : List PlainType) → without_reason (f As) ≡ plain.at_node n (g As)) → without_reason (from_premises r f) ≡ plain.from_premises n (all_without r) g
premises-forgets (all_conclude As) f n g h = h As
premises-forgets (one_stops s) f n g h = refl

form-forgets : {X : Type 0} (s : Stop) (o : Option X) (f : X → Reasoned) (g : X → Judged) → ((x : X) → without_reason (f x) ≡ g x) →
    without_reason (if_form s o f) ≡ plain.if_form s.number o g
form-forgets s None f g h = refl
form-forgets s (Some x) f g h = h x

if-forgets : (b : Bool) (r : Reasoned) (s : Stop) (j : Judged) → without_reason r ≡ j → without_reason (if b then r else stops s) ≡ (if b then j else plain.stops s.number)
if-forgets true r s j h = h
if-forgets false r s j h = refl

mutual
  forgets : (d : PlainDerivation) (n : ℕ) (G : List PlainType) (p : Tree) → without_reason (judged_so d n G p) ≡ judged d n G p
  forgets by_ns n G p = refl
  forgets (sub B d) n G p =
      let g : PlainType → Judged = λ A. plain.at_node n (provided (is_below A B) B) in
      then-forgets (judged_so d (n + 1) G p) (λ A. at_node (stop_at n (sub B d) G p (not_below A)) (provided (is_below A B) B)) g
      (λ A. at-forgets (stop_at n (sub B d) G p (not_below A)) (provided (is_below A B) B))
      ∙ ap (λ j. plain.then_judge j g) (forgets d (n + 1) G p)
  forgets (meets ds) n G p =
      let Ps : List Premise = replicate (count ds) (nothing, p) in
      if-forgets (nat_le 2 (count ds)) (from_premises (each_so ds (n + 1) G Ps []) (λ As. concludes (meet (types_from As)))) (stop_at n (meets ds) G p few_parts)
      (plain.from_premises n (each_judged ds (n + 1) G Ps []) (λ As. Some (meet (types_from As))))
      (premises-forgets (each_so ds (n + 1) G Ps []) (λ As. concludes (meet (types_from As))) n (λ As. Some (meet (types_from As))) (λ As. refl)
      ∙ ap (λ j. plain.from_premises n j (λ As. Some (meet (types_from As)))) (each_forgets ds (n + 1) G Ps []))
  forgets (alt i d) n G p =
      form-forgets (stop_at n (alt i d) G p (no_alternative_of p)) (alternative i p)
      (λ x. then_judge (judged_so d (n + 1) (x.0 ∷ G) x.1) (λ C. concludes (arrow x.0 C)))
      (λ x. plain.then_judge (judged d (n + 1) (x.0 ∷ G) x.1) (λ C. plain.concludes (arrow x.0 C)))
      (λ x. then-forgets (judged_so d (n + 1) (x.0 ∷ G) x.1) (λ C. concludes (arrow x.0 C)) (λ C. plain.concludes (arrow x.0 C)) (λ C. refl)
      ∙ ap (λ j. plain.then_judge j (λ C. plain.concludes (arrow x.0 C))) (forgets d (n + 1) (x.0 ∷ G) x.1))
  forgets (left d) n G p =
      form-forgets (stop_at n (left d) G p other_form) (operands p)
      (λ x. then_judge (judged_so d (n + 1) G x.0) (λ A. at_node (stop_at n (left d) G p (taken_right A)) (provided (none_begins x.2 (paths A)) A)))
      (λ x. plain.then_judge (judged d (n + 1) G x.0) (λ A. plain.at_node n (provided (none_begins x.2 (paths A)) A)))
      (λ x. then-forgets (judged_so d (n + 1) G x.0) (λ A. at_node (stop_at n (left d) G p (taken_right A)) (provided (none_begins x.2 (paths A)) A))
      (λ A. plain.at_node n (provided (none_begins x.2 (paths A)) A)) (λ A. at-forgets (stop_at n (left d) G p (taken_right A)) (provided (none_begins x.2 (paths A)) A))
      ∙ ap (λ j. plain.then_judge j (λ A. plain.at_node n (provided (none_begins x.2 (paths A)) A))) (forgets d (n + 1) G x.0))
  forgets (right d) n G p =
      form-forgets (stop_at n (right d) G p other_form) (operands p) (λ x. judged_so d (n + 1) G x.1) (λ x. judged d (n + 1) G x.1) (λ x. forgets d (n + 1) G x.1)
  forgets (rule ds) n G p =
      form-forgets (stop_at n (rule ds) G p other_form) (premises p)
      (λ Ps. if count ds == length Ps
      then from_premises (each_so ds (n + 1) G Ps []) (λ As. at_node (stop_at n (rule ds) G p (other_types As)) (conclusion G p As))
      else stops (stop_at n (rule ds) G p other_count))
      (λ Ps. plain.if_count n (count ds) Ps (plain.from_premises n (each_judged ds (n + 1) G Ps []) (conclusion G p)))
      (λ Ps. if-forgets (count ds == length Ps) (from_premises (each_so ds (n + 1) G Ps []) (λ As. at_node (stop_at n (rule ds) G p (other_types As)) (conclusion G p As)))
      (stop_at n (rule ds) G p other_count) (plain.from_premises n (each_judged ds (n + 1) G Ps []) (conclusion G p))
      (premises-forgets (each_so ds (n + 1) G Ps []) (λ As. at_node (stop_at n (rule ds) G p (other_types As)) (conclusion G p As)) n (conclusion G p)
      (λ As. at-forgets (stop_at n (rule ds) G p (other_types As)) (conclusion G p As))
      ∙ ap (λ j. plain.from_premises n j (conclusion G p)) (each_forgets ds (n + 1) G Ps [])))

  pub each_forgets : (ds : PlainDerivations) (n : ℕ) (G : List PlainType) (Ps : List Premise) (As : List PlainType) → all_without (each_so ds n G Ps As) ≡ each_judged ds n G Ps As
  each_forgets no_derivations n G Ps As = refl
  each_forgets (and_derivation d ds) n G [] As = refl
  each_forgets (and_derivation d ds) n G (P ∷ Ps) As =
      let g : PlainType → AllJudged = λ A. each_judged ds (n + nodes d) G Ps (As ++ A ∷ []) in
      others-forgets (judged_so d n (under P.0 As G) P.1) (λ A. each_so ds (n + nodes d) G Ps (As ++ A ∷ [])) g (λ A. each_forgets ds (n + nodes d) G Ps (As ++ A ∷ []))
      ∙ ap (λ j. plain.then_others j g) (forgets d n (under P.0 As G) P.1)

pub reasons-forgotten : Forgets
reasons-forgotten d n G p = forgets d n G p
