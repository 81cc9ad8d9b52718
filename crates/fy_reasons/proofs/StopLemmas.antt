-- Where judging stops: below which node, and for which reason.
use Rattle.std.proofs.Common.{ℕ, ◌+◌, ◌<◌, ◌≤◌, ◌≡◌, ◌≢◌, ◌==◌, Bool, true, false, if◌then◌else◌, List, [], ◌∷◌, ◌++◌, length, cond, refl, sym, ap, ◌∙◌, eq-eqb, arith}
use Rattle.std.specs.Prelude.{nat_le, replicate, Option, Some, None}
use Rattle.fy_types.specs.Types.{PlainType, ns, arrow, meet}
use Rattle.fy_types.specs.Paths.{paths}
use Rattle.fy_types.specs.Reading.{types_from}
use Rattle.fy_phrase.specs.Tree.{Tree}
use Rattle.fy_derive.specs.Derivations.{PlainDerivation, PlainDerivations, by_ns, sub, meets, alt, left, right, rule, no_derivations, and_derivation, count, nodes, all_nodes}
use Rattle.fy_derive.specs.Subsumption.{is_below}
use Rattle.fy_derive.specs.Kinds.{Kind, none_begins}
use Rattle.fy_derive.specs.Rules.{nothing, Premise, premises, provided, conclusion}
use Rattle.fy_derive.specs.Judging.{Judged, concludes, stops, AllJudged, all_conclude, one_stops, then_judge, then_others, at_node, from_premises, if_form, if_count, judged, each_judged, alternative, operands, under}
use Rattle.fy_reasons.specs.Reasons.{Reason, Stop, stop_at, Reasoned, AllReasoned, no_alternative_of, other_form, other_count, few_parts, not_below, taken_right, other_types, judged_so, each_so, without_reason}
use Rattle.fy_reasons.specs.Reasons as so
use Rattle.fy_derive.proofs.RuleLemmas.{eqb_apart}
use Rattle.fy_derive.proofs.JudgeLemmas.{rule_judged}
use Rattle.fy_reasons.proofs.ReasonLemmas.{all_without, each_forgets, reasons-forgotten}

-- the numbers of the nodes below
record IsAmong (n m w : ℕ) : Type 0 where
  from : n ≤ w
  to : w < n + m

stops-same : (k w : ℕ) → stops k ≡ stops w → k ≡ w
stops-same k w e = cc

one-same : (k w : ℕ) → one_stops k ≡ one_stops w → k ≡ w
one-same k w e = cc

concludes-apart : (A : PlainType) (w : ℕ) → concludes A ≡ stops w → ⊥
concludes-apart A w e = cc

all-apart : (As : List PlainType) (w : ℕ) → all_conclude As ≡ one_stops w → ⊥
all-apart As w e = cc

one-more : (n m w : ℕ) → IsAmong (n + 1) m w → IsAmong n (1 + m) w
one-more n m w i = record { from = omega (arith, i.from); to = omega (arith, i.to) }

at-stops : (o : Option PlainType) (n w : ℕ) → at_node n o ≡ stops w → w ≡ n
at-stops None n w e = sym (stops-same n w e)
at-stops (Some A) n w e = absurd (concludes-apart A w e)

judge-among : (j : Judged) (f : PlainType → Judged) (n m w : ℕ) → then_judge j f ≡ stops w →
    (j ≡ stops w → IsAmong (n + 1) m w) → ((A : PlainType) → f A ≡ stops w → w ≡ n) → IsAmong n (1 + m) w
judge-among (concludes A) f n m w e g h = let k = h A e in record { from = omega (arith, k); to = omega (arith, k) }
judge-among (stops k) f n m w e g h = let i = g e in record { from = omega (arith, i.from); to = omega (arith, i.to) }

premises-among : (j : AllJudged) (f : List PlainType → Option PlainType) (n m w : ℕ) → from_premises n j f ≡ stops w →
    (j ≡ one_stops w → IsAmong (n + 1) m w) → IsAmong n (1 + m) w
premises-among (all_conclude As) f n m w e g = let k = at-stops (f As) n w e in record { from = omega (arith, k); to = omega (arith, k) }
premises-among (one_stops k) f n m w e g =
    let same : k ≡ w = stops-same k w e in let i = g (ap one_stops same) in record { from = omega (arith, i.from); to = omega (arith, i.to) }

form-among : {X : Type 0} (o : Option X) (f : X → Judged) (n m w : ℕ) → if_form n o f ≡ stops w → ((x : X) → f x ≡ stops w → IsAmong n (1 + m) w) → IsAmong n (1 + m) w
form-among None f n m w e g = let same : n ≡ w = stops-same n w e in record { from = omega (arith, same); to = omega (arith, same) }
form-among (Some x) f n m w e g = g x e

test-among : (b : Bool) (j : Judged) (n m w : ℕ) → cond b j (stops n) ≡ stops w → (j ≡ stops w → IsAmong n (1 + m) w) → IsAmong n (1 + m) w
test-among true j n m w e g = g e
test-among false j n m w e g = let same : n ≡ w = stops-same n w e in record { from = omega (arith, same); to = omega (arith, same) }

others-among : (j : Judged) (f : PlainType → AllJudged) (n m k w : ℕ) → then_others j f ≡ one_stops w →
    (j ≡ stops w → IsAmong n m w) → ((A : PlainType) → f A ≡ one_stops w → IsAmong (n + m) k w) → IsAmong n (m + k) w
others-among (concludes A) f n m k w e g h = let i = h A e in record { from = omega (arith, i.from); to = omega (arith, i.to) }
others-among (stops x) f n m k w e g h =
    let same : x ≡ w = one-same x w e in let i = g (ap stops same) in record { from = omega (arith, i.from); to = omega (arith, i.to) }

mutual
  stops-among : (d : PlainDerivation) (n : ℕ) (G : List PlainType) (p : Tree) (w : ℕ) → judged d n G p ≡ stops w → IsAmong n (nodes d) w
  stops-among by_ns n G p w e = absurd (concludes-apart ns w e)
  stops-among (sub B d) n G p w e =
      judge-among (judged d (n + 1) G p) (λ A. at_node n (provided (is_below A B) B)) n (nodes d) w e
      (λ i. stops-among d (n + 1) G p w i) (λ A i. at-stops (provided (is_below A B) B) n w i)
  stops-among (meets ds) n G p w e =
      let j : AllJudged = each_judged ds (n + 1) G (replicate (count ds) (nothing, p)) [] in
      test-among (nat_le 2 (count ds)) (from_premises n j (λ As. Some (meet (types_from As)))) n (all_nodes ds) w e
      (λ i. premises-among j (λ As. Some (meet (types_from As))) n (all_nodes ds) w i
      (λ h. each-among ds (n + 1) G (replicate (count ds) (nothing, p)) [] w h))
  stops-among (alt i d) n G p w e =
      form-among (alternative i p) (λ x. then_judge (judged d (n + 1) (x.0 ∷ G) x.1) (λ C. concludes (arrow x.0 C))) n (nodes d) w e
      (λ x h. judge-among (judged d (n + 1) (x.0 ∷ G) x.1) (λ C. concludes (arrow x.0 C)) n (nodes d) w h
      (λ k. stops-among d (n + 1) (x.0 ∷ G) x.1 w k) (λ A k. absurd (concludes-apart (arrow x.0 A) w k)))
  stops-among (left d) n G p w e =
      form-among (operands p) (λ x. then_judge (judged d (n + 1) G x.0) (λ A. at_node n (provided (none_begins x.2 (paths A)) A))) n (nodes d) w e
      (λ x h. judge-among (judged d (n + 1) G x.0) (λ A. at_node n (provided (none_begins x.2 (paths A)) A)) n (nodes d) w h
      (λ k. stops-among d (n + 1) G x.0 w k) (λ A k. at-stops (provided (none_begins x.2 (paths A)) A) n w k))
  stops-among (right d) n G p w e =
      form-among (operands p) (λ x. judged d (n + 1) G x.1) n (nodes d) w e (λ x h. one-more n (nodes d) w (stops-among d (n + 1) G x.1 w h))
  stops-among (rule ds) n G p w e =
      form-among (premises p) (λ Ps. if_count n (count ds) Ps (from_premises n (each_judged ds (n + 1) G Ps []) (conclusion G p))) n (all_nodes ds) w e
      (λ Ps h. test-among (count ds == length Ps) (from_premises n (each_judged ds (n + 1) G Ps []) (conclusion G p)) n (all_nodes ds) w h
      (λ i. premises-among (each_judged ds (n + 1) G Ps []) (conclusion G p) n (all_nodes ds) w i (λ k. each-among ds (n + 1) G Ps [] w k)))

  each-among : (ds : PlainDerivations) (n : ℕ) (G : List PlainType) (Ps : List Premise) (As : List PlainType) (w : ℕ) →
      each_judged ds n G Ps As ≡ one_stops w → IsAmong n (all_nodes ds) w
  each-among no_derivations n G Ps As w e = absurd (all-apart As w e)
  each-among (and_derivation d ds) n G [] As w e = absurd (all-apart As w e)
  each-among (and_derivation d ds) n G (P ∷ Ps) As w e =
      others-among (judged d n (under P.0 As G) P.1) (λ A. each_judged ds (n + nodes d) G Ps (As ++ A ∷ [])) n (nodes d) (all_nodes ds) w e
      (λ i. stops-among d n (under P.0 As G) P.1 w i) (λ A i. each-among ds (n + nodes d) G Ps (As ++ A ∷ []) w i)

-- below a node that isn't the one
judge-inner : (j : Judged) (f : PlainType → Judged) (n w : ℕ) → then_judge j f ≡ stops w → w ≢ n → ((A : PlainType) → f A ≡ stops w → w ≡ n) → j ≡ stops w
judge-inner (concludes A) f n w e a h = absurd (a (h A e))
judge-inner (stops k) f n w e a h = e

premises-inner : (j : AllJudged) (f : List PlainType → Option PlainType) (n w : ℕ) → from_premises n j f ≡ stops w → w ≢ n → j ≡ one_stops w
premises-inner (all_conclude As) f n w e a = absurd (a (at-stops (f As) n w e))
premises-inner (one_stops k) f n w e a = ap one_stops (stops-same k w e)

pub sub-inner : (B : PlainType) (d : PlainDerivation) (n w : ℕ) (G : List PlainType) (p : Tree) → judged (sub B d) n G p ≡ stops w → w ≢ n → judged d (n + 1) G p ≡ stops w
sub-inner B d n w G p e a =
    judge-inner (judged d (n + 1) G p) (λ A. at_node n (provided (is_below A B) B)) n w e a (λ A i. at-stops (provided (is_below A B) B) n w i)

meets-inner-step : (b : Bool) (j : AllJudged) (f : List PlainType → Option PlainType) (n w : ℕ) → cond b (from_premises n j f) (stops n) ≡ stops w → w ≢ n → j ≡ one_stops w
meets-inner-step true j f n w e a = premises-inner j f n w e a
meets-inner-step false j f n w e a = absurd (a (sym (stops-same n w e)))

pub meets-inner : (ds : PlainDerivations) (n w : ℕ) (G : List PlainType) (p : Tree) → judged (meets ds) n G p ≡ stops w → w ≢ n →
    each_judged ds (n + 1) G (replicate (count ds) (nothing, p)) [] ≡ one_stops w
meets-inner ds n w G p e a =
    meets-inner-step (nat_le 2 (count ds)) (each_judged ds (n + 1) G (replicate (count ds) (nothing, p)) []) (λ As. Some (meet (types_from As))) n w e a

pub alt-inner : (i : ℕ) (d : PlainDerivation) (n w : ℕ) (G : List PlainType) (p : Tree) (A : PlainType) (b : Tree) → alternative i p ≡ Some (A, b) →
    judged (alt i d) n G p ≡ stops w → judged d (n + 1) (A ∷ G) b ≡ stops w
alt-inner i d n w G p A b o e =
    alt-inner-step (judged d (n + 1) (A ∷ G) b) A w
    (sym (ap (λ y. if_form n y (λ x. then_judge (judged d (n + 1) (x.0 ∷ G) x.1) (λ C. concludes (arrow x.0 C)))) o) ∙ e)
  where
    alt-inner-step : (j : Judged) (A : PlainType) (w : ℕ) → then_judge j (λ C. concludes (arrow A C)) ≡ stops w → j ≡ stops w
    alt-inner-step (concludes C) A w e = absurd (concludes-apart (arrow A C) w e)
    alt-inner-step (stops k) A w e = e

pub left-inner : (d : PlainDerivation) (n w : ℕ) (G : List PlainType) (p q r : Tree) (k : Kind) → operands p ≡ Some (q, r, k) →
    judged (left d) n G p ≡ stops w → w ≢ n → judged d (n + 1) G q ≡ stops w
left-inner d n w G p q r k o e a =
    judge-inner (judged d (n + 1) G q) (λ A. at_node n (provided (none_begins k (paths A)) A)) n w
    (sym (ap (λ y. if_form n y (λ x. then_judge (judged d (n + 1) G x.0) (λ A. at_node n (provided (none_begins x.2 (paths A)) A)))) o) ∙ e)
    a (λ A i. at-stops (provided (none_begins k (paths A)) A) n w i)

pub right-inner : (d : PlainDerivation) (n w : ℕ) (G : List PlainType) (p q r : Tree) (k : Kind) → operands p ≡ Some (q, r, k) →
    judged (right d) n G p ≡ stops w → judged d (n + 1) G r ≡ stops w
right-inner d n w G p q r k o e = sym (ap (λ y. if_form n y (λ x. judged d (n + 1) G x.1)) o) ∙ e

pub rule-inner : (ds : PlainDerivations) (n w : ℕ) (G : List PlainType) (p : Tree) (Ps : List Premise) → premises p ≡ Some Ps → count ds ≡ length Ps →
    judged (rule ds) n G p ≡ stops w → w ≢ n → each_judged ds (n + 1) G Ps [] ≡ one_stops w
rule-inner ds n w G p Ps o l e a =
    premises-inner (each_judged ds (n + 1) G Ps []) (conclusion G p) n w (sym (rule_judged ds n G p Ps (each_judged ds (n + 1) G Ps []) o l refl) ∙ e) a

-- the reason below is the reason
pub sub-so : (B : PlainType) (d : PlainDerivation) (n : ℕ) (G : List PlainType) (p : Tree) (s : Stop) → judged_so d (n + 1) G p ≡ so.stops s → judged_so (sub B d) n G p ≡ so.stops s
sub-so B d n G p s e = ap (λ r. so.then_judge r (λ A. so.at_node (stop_at n (sub B d) G p (not_below A)) (provided (is_below A B) B))) e

meets-so-step : (b : Bool) (r : AllReasoned) (f : List PlainType → Reasoned) (n w : ℕ) (s z : Stop) (j : Judged) → r ≡ so.one_stops s →
    cond b j (stops n) ≡ stops w → w ≢ n → (if b then so.from_premises r f else so.stops z) ≡ so.stops s
meets-so-step true r f n w s z j e h a = ap (λ x. so.from_premises x f) e
meets-so-step false r f n w s z j e h a = absurd (a (sym (stops-same n w h)))

pub meets-so : (ds : PlainDerivations) (n w : ℕ) (G : List PlainType) (p : Tree) (s : Stop) → judged (meets ds) n G p ≡ stops w → w ≢ n →
    each_so ds (n + 1) G (replicate (count ds) (nothing, p)) [] ≡ so.one_stops s → judged_so (meets ds) n G p ≡ so.stops s
meets-so ds n w G p s h a e =
    meets-so-step (nat_le 2 (count ds)) (each_so ds (n + 1) G (replicate (count ds) (nothing, p)) []) (λ As. so.concludes (meet (types_from As))) n w s
    (stop_at n (meets ds) G p few_parts) (from_premises n (each_judged ds (n + 1) G (replicate (count ds) (nothing, p)) []) (λ As. Some (meet (types_from As)))) e h a

pub alt-so : (i : ℕ) (d : PlainDerivation) (n : ℕ) (G : List PlainType) (p : Tree) (A : PlainType) (b : Tree) (s : Stop) → alternative i p ≡ Some (A, b) →
    judged_so d (n + 1) (A ∷ G) b ≡ so.stops s → judged_so (alt i d) n G p ≡ so.stops s
alt-so i d n G p A b s o e =
    ap (λ y. so.if_form (stop_at n (alt i d) G p (no_alternative_of p)) y (λ x. so.then_judge (judged_so d (n + 1) (x.0 ∷ G) x.1) (λ C. so.concludes (arrow x.0 C)))) o
    ∙ ap (λ r. so.then_judge r (λ C. so.concludes (arrow A C))) e

pub left-so : (d : PlainDerivation) (n : ℕ) (G : List PlainType) (p q r : Tree) (k : Kind) (s : Stop) → operands p ≡ Some (q, r, k) →
    judged_so d (n + 1) G q ≡ so.stops s → judged_so (left d) n G p ≡ so.stops s
left-so d n G p q r k s o e =
    ap (λ y. so.if_form (stop_at n (left d) G p other_form) y
    (λ x. so.then_judge (judged_so d (n + 1) G x.0) (λ A. so.at_node (stop_at n (left d) G p (taken_right A)) (provided (none_begins x.2 (paths A)) A)))) o
    ∙ ap (λ z. so.then_judge z (λ A. so.at_node (stop_at n (left d) G p (taken_right A)) (provided (none_begins k (paths A)) A))) e

pub right-so : (d : PlainDerivation) (n : ℕ) (G : List PlainType) (p q r : Tree) (k : Kind) (s : Stop) → operands p ≡ Some (q, r, k) →
    judged_so d (n + 1) G r ≡ so.stops s → judged_so (right d) n G p ≡ so.stops s
right-so d n G p q r k s o e = ap (λ y. so.if_form (stop_at n (right d) G p other_form) y (λ x. judged_so d (n + 1) G x.1)) o ∙ e

-- a rule by the premises of its form
abbrev rule-form : PlainDerivations → ℕ → List PlainType → Tree → Option (List Premise) → Reasoned
rule-form ds n G p y =
    so.if_form (stop_at n (rule ds) G p other_form) y
    (λ Qs. if count ds == length Qs
    then so.from_premises (each_so ds (n + 1) G Qs []) (λ As. so.at_node (stop_at n (rule ds) G p (other_types As)) (conclusion G p As))
    else so.stops (stop_at n (rule ds) G p other_count))

rule-opens : (ds : PlainDerivations) (n : ℕ) (G : List PlainType) (p : Tree) (Ps : List Premise) → premises p ≡ Some Ps → count ds ≡ length Ps →
    judged_so (rule ds) n G p ≡ so.from_premises (each_so ds (n + 1) G Ps []) (λ As. so.at_node (stop_at n (rule ds) G p (other_types As)) (conclusion G p As))
rule-opens ds n G p Ps o l =
    ap (rule-form ds n G p) o
    ∙ ap (λ b. cond b (so.from_premises (each_so ds (n + 1) G Ps []) (λ As. so.at_node (stop_at n (rule ds) G p (other_types As)) (conclusion G p As)))
    (so.stops (stop_at n (rule ds) G p other_count))) (eq-eqb (count ds) (length Ps) l)

pub rule-so : (ds : PlainDerivations) (n : ℕ) (G : List PlainType) (p : Tree) (Ps : List Premise) (s : Stop) → premises p ≡ Some Ps → count ds ≡ length Ps →
    each_so ds (n + 1) G Ps [] ≡ so.one_stops s → judged_so (rule ds) n G p ≡ so.stops s
rule-so ds n G p Ps s o l e =
    rule-opens ds n G p Ps o l ∙ ap (λ r. so.from_premises r (λ As. so.at_node (stop_at n (rule ds) G p (other_types As)) (conclusion G p As))) e

concluded-same : (A B : PlainType) → concludes A ≡ concludes B → A ≡ B
concluded-same A B e = cc

all-same : (As Bs : List PlainType) → all_conclude As ≡ all_conclude Bs → As ≡ Bs
all-same As Bs e = cc

-- what concludes, concludes the same with reasons
so-concludes-step : (r : Reasoned) (A : PlainType) → without_reason r ≡ concludes A → r ≡ so.concludes A
so-concludes-step (so.concludes B) A e = ap so.concludes (concluded-same B A e)
so-concludes-step (so.stops s) A e = absurd (concludes-apart A s.number (sym e))

pub so-concludes : (d : PlainDerivation) (n : ℕ) (G : List PlainType) (p : Tree) (A : PlainType) → judged d n G p ≡ concludes A → judged_so d n G p ≡ so.concludes A
so-concludes d n G p A e = so-concludes-step (judged_so d n G p) A (reasons-forgotten d n G p ∙ e)

-- of several premises the first whose numbers go so far
here-step : (j : Judged) (f : PlainType → AllJudged) (n w : ℕ) → then_others j f ≡ one_stops w → ((A : PlainType) → f A ≡ one_stops w → n ≤ w) → w < n → j ≡ stops w
here-step (concludes A) f n w e h l = absurd (omega (arith, h A e))
here-step (stops k) f n w e h l = ap stops (one-same k w e)

pub stops-here : (d : PlainDerivation) (ds : PlainDerivations) (n w : ℕ) (G : List PlainType) (P : Premise) (Ps : List Premise) (As : List PlainType) →
    then_others (judged d n (under P.0 As G) P.1) (λ A. each_judged ds (n + nodes d) G Ps (As ++ A ∷ [])) ≡ one_stops w → w < n + nodes d →
    judged d n (under P.0 As G) P.1 ≡ stops w
stops-here d ds n w G P Ps As e l =
    here-step (judged d n (under P.0 As G) P.1) (λ A. each_judged ds (n + nodes d) G Ps (As ++ A ∷ [])) (n + nodes d) w e
    (λ A i. (each-among ds (n + nodes d) G Ps (As ++ A ∷ []) w i).from) l

-- the node's own reason
own-step : (z : Stop) (o : Option PlainType) (w : ℕ) → at_node w o ≡ stops w → so.at_node z o ≡ so.stops z
own-step z None w e = refl
own-step z (Some A) w e = absurd (concludes-apart A w e)

pub sub-own : (B : PlainType) (d : PlainDerivation) (n : ℕ) (G : List PlainType) (p : Tree) (A : PlainType) → judged d (n + 1) G p ≡ concludes A →
    judged (sub B d) n G p ≡ stops n → judged_so (sub B d) n G p ≡ so.stops (stop_at n (sub B d) G p (not_below A))
sub-own B d n G p A e h =
    let z : Stop = stop_at n (sub B d) G p (not_below A) in
    ap (λ r. so.then_judge r (λ A. so.at_node (stop_at n (sub B d) G p (not_below A)) (provided (is_below A B) B))) (so-concludes d (n + 1) G p A e)
    ∙ own-step z (provided (is_below A B) B) n (sym (ap (λ j. then_judge j (λ A. at_node n (provided (is_below A B) B))) e) ∙ h)

pub meets-own : (ds : PlainDerivations) (n : ℕ) (G : List PlainType) (p : Tree) → nat_le 2 (count ds) ≡ false →
    judged_so (meets ds) n G p ≡ so.stops (stop_at n (meets ds) G p few_parts)
meets-own ds n G p e =
    ap (λ b. if b then so.from_premises (each_so ds (n + 1) G (replicate (count ds) (nothing, p)) []) (λ As. so.concludes (meet (types_from As)))
    else so.stops (stop_at n (meets ds) G p few_parts)) e

pub alt-own : (i : ℕ) (d : PlainDerivation) (n : ℕ) (G : List PlainType) (p : Tree) → alternative i p ≡ None →
    judged_so (alt i d) n G p ≡ so.stops (stop_at n (alt i d) G p (no_alternative_of p))
alt-own i d n G p o =
    ap (λ y. so.if_form (stop_at n (alt i d) G p (no_alternative_of p)) y (λ x. so.then_judge (judged_so d (n + 1) (x.0 ∷ G) x.1) (λ C. so.concludes (arrow x.0 C)))) o

pub left-none : (d : PlainDerivation) (n : ℕ) (G : List PlainType) (p : Tree) → operands p ≡ None →
    judged_so (left d) n G p ≡ so.stops (stop_at n (left d) G p other_form)
left-none d n G p o =
    ap (λ y. so.if_form (stop_at n (left d) G p other_form) y
    (λ x. so.then_judge (judged_so d (n + 1) G x.0) (λ A. so.at_node (stop_at n (left d) G p (taken_right A)) (provided (none_begins x.2 (paths A)) A)))) o

pub left-own : (d : PlainDerivation) (n : ℕ) (G : List PlainType) (p q r : Tree) (k : Kind) (A : PlainType) → operands p ≡ Some (q, r, k) →
    judged d (n + 1) G q ≡ concludes A → judged (left d) n G p ≡ stops n → judged_so (left d) n G p ≡ so.stops (stop_at n (left d) G p (taken_right A))
left-own d n G p q r k A o e h =
    let z : Stop = stop_at n (left d) G p (taken_right A) in
    ap (λ y. so.if_form (stop_at n (left d) G p other_form) y
    (λ x. so.then_judge (judged_so d (n + 1) G x.0) (λ A. so.at_node (stop_at n (left d) G p (taken_right A)) (provided (none_begins x.2 (paths A)) A)))) o
    ∙ (ap (λ r. so.then_judge r (λ A. so.at_node (stop_at n (left d) G p (taken_right A)) (provided (none_begins k (paths A)) A))) (so-concludes d (n + 1) G q A e)
    ∙ own-step z (provided (none_begins k (paths A)) A) n
    (sym (ap (λ y. if_form n y (λ x. then_judge (judged d (n + 1) G x.0) (λ A. at_node n (provided (none_begins x.2 (paths A)) A)))) o
    ∙ ap (λ j. then_judge j (λ A. at_node n (provided (none_begins k (paths A)) A))) e) ∙ h))

pub right-own : (d : PlainDerivation) (n : ℕ) (G : List PlainType) (p : Tree) → operands p ≡ None →
    judged_so (right d) n G p ≡ so.stops (stop_at n (right d) G p other_form)
right-own d n G p o = ap (λ y. so.if_form (stop_at n (right d) G p other_form) y (λ x. judged_so d (n + 1) G x.1)) o

pub rule-none : (ds : PlainDerivations) (n : ℕ) (G : List PlainType) (p : Tree) → premises p ≡ None →
    judged_so (rule ds) n G p ≡ so.stops (stop_at n (rule ds) G p other_form)
rule-none ds n G p o = ap (rule-form ds n G p) o

pub rule-count : (ds : PlainDerivations) (n : ℕ) (G : List PlainType) (p : Tree) (Ps : List Premise) → premises p ≡ Some Ps → count ds ≢ length Ps →
    judged_so (rule ds) n G p ≡ so.stops (stop_at n (rule ds) G p other_count)
rule-count ds n G p Ps o l =
    ap (rule-form ds n G p) o
    ∙ ap (λ b. cond b (so.from_premises (each_so ds (n + 1) G Ps []) (λ As. so.at_node (stop_at n (rule ds) G p (other_types As)) (conclusion G p As)))
    (so.stops (stop_at n (rule ds) G p other_count))) (eqb_apart (count ds) (length Ps) (λ f. l (sym f)))

each-concludes-step : (r : AllReasoned) (As : List PlainType) → all_without r ≡ all_conclude As → r ≡ so.all_conclude As
each-concludes-step (so.all_conclude Bs) As e = ap so.all_conclude (all-same Bs As e)
each-concludes-step (so.one_stops s) As e = absurd (all-apart As s.number (sym e))

each-concludes : (ds : PlainDerivations) (n : ℕ) (G : List PlainType) (Ps : List Premise) (As Bs : List PlainType) → each_judged ds n G Ps As ≡ all_conclude Bs →
    each_so ds n G Ps As ≡ so.all_conclude Bs
each-concludes ds n G Ps As Bs e = each-concludes-step (each_so ds n G Ps As) Bs (each_forgets ds n G Ps As ∙ e)

pub rule-own : (ds : PlainDerivations) (n : ℕ) (G : List PlainType) (p : Tree) (Ps : List Premise) (As : List PlainType) → premises p ≡ Some Ps → count ds ≡ length Ps →
    each_judged ds (n + 1) G Ps [] ≡ all_conclude As → judged (rule ds) n G p ≡ stops n →
    judged_so (rule ds) n G p ≡ so.stops (stop_at n (rule ds) G p (other_types As))
rule-own ds n G p Ps As o l e h =
    let z : Stop = stop_at n (rule ds) G p (other_types As) in
    rule-opens ds n G p Ps o l
    ∙ (ap (λ r. so.from_premises r (λ As. so.at_node (stop_at n (rule ds) G p (other_types As)) (conclusion G p As))) (each-concludes ds (n + 1) G Ps [] As e)
    ∙ own-step z (conclusion G p As) n (sym (rule_judged ds n G p Ps (all_conclude As) o l e) ∙ h))
