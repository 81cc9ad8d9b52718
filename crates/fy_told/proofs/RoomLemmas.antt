-- The numbers of the nodes below that at which judging stops are numbers of the derivation's nodes.
use Rattle.std.proofs.Common.{ℕ, ◌+◌, ◌≤◌, ◌≡◌, ◌==◌, Bool, true, false, if◌then◌else◌, List, [], ◌∷◌, ◌++◌, length, ap, subst, arith}
use Rattle.std.specs.Prelude.{nat_le, replicate, Option, Some, None}
use Rattle.fy_types.specs.declared.types.Atom.TheVariants.{Comm}
use Rattle.fy_types.specs.Types.{PlainType, atom, arrow, meet}
use Rattle.fy_types.specs.Paths.{paths}
use Rattle.fy_types.specs.Reading.{types_from}
use Rattle.fy_phrase.specs.Tree.{Tree}
use Rattle.fy_derive.specs.Derivations.{PlainDerivation, PlainDerivations, by_ns, sub, meets, alt, left, right, rule, no_derivations, and_derivation, count, nodes, all_nodes}
use Rattle.fy_derive.specs.Subsumption.{is_below}
use Rattle.fy_derive.specs.Kinds.{none_begins}
use Rattle.fy_derive.specs.Rules.{nothing, Premise, premises, provided, same_type, conclusion}
use Rattle.fy_derive.specs.Judging.{alternative, operands, under}
use Rattle.fy_reasons.specs.Reasons.{Reason, Stop, stop_at, Reasoned, AllReasoned, concludes, stops, all_conclude, one_stops, then_judge, then_others, at_node, from_premises, if_form, no_alternative_of, other_form, other_count, few_parts, not_below, taken_right, other_types, no_command, judged_so, each_so, refused_whole, reason_of}

abbrev Fits : Stop → ℕ → Type 0
Fits s k = s.number + nodes s.node ≤ k

stops-same : (a b : Stop) → stops a ≡ stops b → a ≡ b
stops-same a b e = cc

one-same : (a b : Stop) → one_stops a ≡ one_stops b → a ≡ b
one-same a b e = cc

some-same : (a b : Stop) → Some a ≡ Some b → a ≡ b
some-same a b e = cc

own-fits : (n : ℕ) (d : PlainDerivation) (G : List PlainType) (p : Tree) (w : Reason) → Fits (stop_at n d G p w) (n + nodes d)
own-fits n d G p w = omega arith

moved : (z s : Stop) (k : ℕ) → stops z ≡ stops s → Fits z k → Fits s k
moved z s k e h = subst (λ (x : Stop). Fits x k) (stops-same z s e) h

node-fits : (z : Stop) (o : Option PlainType) (s : Stop) (k : ℕ) → at_node z o ≡ stops s → Fits z k → Fits s k
node-fits z None s k e h = moved z s k e h
node-fits z (Some A) s k e h = absurd cc

judge-fits : (r : Reasoned) (f : PlainType → Reasoned) (s : Stop) (k : ℕ) → then_judge r f ≡ stops s → (r ≡ stops s → Fits s k) → ((A : PlainType) → f A ≡ stops s → Fits s k) → Fits s k
judge-fits (concludes A) f s k e g h = h A e
judge-fits (stops z) f s k e g h = g e

premises-fits : (r : AllReasoned) (f : List PlainType → Reasoned) (s : Stop) (k : ℕ) → from_premises r f ≡ stops s → (r ≡ one_stops s → Fits s k) → ((As : List PlainType) → f As ≡ stops s → Fits s k) →
    Fits s k
premises-fits (all_conclude As) f s k e g h = h As e
premises-fits (one_stops z) f s k e g h = g (ap one_stops (stops-same z s e))

others-fits : (r : Reasoned) (f : PlainType → AllReasoned) (s : Stop) (k : ℕ) → then_others r f ≡ one_stops s → (r ≡ stops s → Fits s k) → ((A : PlainType) → f A ≡ one_stops s → Fits s k) → Fits s k
others-fits (concludes A) f s k e g h = h A e
others-fits (stops z) f s k e g h = g (ap stops (one-same z s e))

form-fits : {X : Type 0} (z : Stop) (o : Option X) (f : X → Reasoned) (s : Stop) (k : ℕ) → if_form z o f ≡ stops s → Fits z k → ((x : X) → f x ≡ stops s → Fits s k) → Fits s k
form-fits z None f s k e h g = moved z s k e h
form-fits z (Some x) f s k e h g = g x e

test-fits : (b : Bool) (r : Reasoned) (z s : Stop) (k : ℕ) → (if b then r else stops z) ≡ stops s → Fits z k → (r ≡ stops s → Fits s k) → Fits s k
test-fits true r z s k e h g = g e
test-fits false r z s k e h g = moved z s k e h

mutual
  stop-fits : (d : PlainDerivation) (n : ℕ) (G : List PlainType) (p : Tree) (s : Stop) → judged_so d n G p ≡ stops s → Fits s (n + nodes d)
  stop-fits by_ns n G p s e = absurd cc
  stop-fits (sub B d) n G p s e =
      judge-fits (judged_so d (n + 1) G p) (λ A. at_node (stop_at n (sub B d) G p (not_below A)) (provided (is_below A B) B)) s (n + nodes (sub B d)) e
      (λ i. omega (arith, stop-fits d (n + 1) G p s i))
      (λ A i. node-fits (stop_at n (sub B d) G p (not_below A)) (provided (is_below A B) B) s (n + nodes (sub B d)) i (own-fits n (sub B d) G p (not_below A)))
  stop-fits (meets ds) n G p s e =
      let r : AllReasoned = each_so ds (n + 1) G (replicate (count ds) (nothing, p)) [] in
      test-fits (nat_le 2 (count ds)) (from_premises r (λ As. concludes (meet (types_from As)))) (stop_at n (meets ds) G p few_parts) s (n + nodes (meets ds)) e
      (own-fits n (meets ds) G p few_parts)
      (λ i. premises-fits r (λ As. concludes (meet (types_from As))) s (n + nodes (meets ds)) i
      (λ h. omega (arith, each-fits ds (n + 1) G (replicate (count ds) (nothing, p)) [] s h)) (λ As h. absurd cc))
  stop-fits (alt i d) n G p s e =
      form-fits (stop_at n (alt i d) G p (no_alternative_of p)) (alternative i p) (λ x. then_judge (judged_so d (n + 1) (x.0 ∷ G) x.1) (λ C. concludes (arrow x.0 C))) s (n + nodes (alt i d)) e
      (own-fits n (alt i d) G p (no_alternative_of p))
      (λ x h. judge-fits (judged_so d (n + 1) (x.0 ∷ G) x.1) (λ C. concludes (arrow x.0 C)) s (n + nodes (alt i d)) h
      (λ k. omega (arith, stop-fits d (n + 1) (x.0 ∷ G) x.1 s k)) (λ A k. absurd cc))
  stop-fits (left d) n G p s e =
      form-fits (stop_at n (left d) G p other_form) (operands p)
      (λ x. then_judge (judged_so d (n + 1) G x.0) (λ A. at_node (stop_at n (left d) G p (taken_right A)) (provided (none_begins x.2 (paths A)) A))) s (n + nodes (left d)) e
      (own-fits n (left d) G p other_form)
      (λ x h. judge-fits (judged_so d (n + 1) G x.0) (λ A. at_node (stop_at n (left d) G p (taken_right A)) (provided (none_begins x.2 (paths A)) A)) s (n + nodes (left d)) h
      (λ k. omega (arith, stop-fits d (n + 1) G x.0 s k))
      (λ A k. node-fits (stop_at n (left d) G p (taken_right A)) (provided (none_begins x.2 (paths A)) A) s (n + nodes (left d)) k (own-fits n (left d) G p (taken_right A))))
  stop-fits (right d) n G p s e =
      form-fits (stop_at n (right d) G p other_form) (operands p) (λ x. judged_so d (n + 1) G x.1) s (n + nodes (right d)) e
      (own-fits n (right d) G p other_form)
      (λ x h. omega (arith, stop-fits d (n + 1) G x.1 s h))
  stop-fits (rule ds) n G p s e =
      form-fits (stop_at n (rule ds) G p other_form) (premises p)
      (λ Ps. if count ds == length Ps
      then from_premises (each_so ds (n + 1) G Ps []) (λ As. at_node (stop_at n (rule ds) G p (other_types As)) (conclusion G p As))
      else stops (stop_at n (rule ds) G p other_count)) s (n + nodes (rule ds)) e
      (own-fits n (rule ds) G p other_form)
      (λ Ps h. test-fits (count ds == length Ps) (from_premises (each_so ds (n + 1) G Ps []) (λ As. at_node (stop_at n (rule ds) G p (other_types As)) (conclusion G p As)))
      (stop_at n (rule ds) G p other_count) s (n + nodes (rule ds)) h (own-fits n (rule ds) G p other_count)
      (λ i. premises-fits (each_so ds (n + 1) G Ps []) (λ As. at_node (stop_at n (rule ds) G p (other_types As)) (conclusion G p As)) s (n + nodes (rule ds)) i
      (λ k. omega (arith, each-fits ds (n + 1) G Ps [] s k))
      (λ As k. node-fits (stop_at n (rule ds) G p (other_types As)) (conclusion G p As) s (n + nodes (rule ds)) k (own-fits n (rule ds) G p (other_types As)))))

  each-fits : (ds : PlainDerivations) (n : ℕ) (G : List PlainType) (Ps : List Premise) (As : List PlainType) (s : Stop) → each_so ds n G Ps As ≡ one_stops s → Fits s (n + all_nodes ds)
  each-fits no_derivations n G Ps As s e = absurd cc
  each-fits (and_derivation d ds) n G [] As s e = absurd cc
  each-fits (and_derivation d ds) n G (P ∷ Ps) As s e =
      others-fits (judged_so d n (under P.0 As G) P.1) (λ A. each_so ds (n + nodes d) G Ps (As ++ A ∷ [])) s (n + all_nodes (and_derivation d ds)) e
      (λ i. omega (arith, stop-fits d n (under P.0 As G) P.1 s i))
      (λ A i. omega (arith, each-fits ds (n + nodes d) G Ps (As ++ A ∷ []) s i))

whole-test : (b : Bool) (z s : Stop) (k : ℕ) → (if b then None else Some z) ≡ Some s → Fits z k → Fits s k
whole-test true z s k e h = absurd cc
whole-test false z s k e h = subst (λ (x : Stop). Fits x k) (some-same z s e) h

whole-fits : (d : PlainDerivation) (p : Tree) (r : Reasoned) (s : Stop) → refused_whole d p r ≡ Some s → (r ≡ stops s → Fits s (0 + nodes d)) → Fits s (0 + nodes d)
whole-fits d p (concludes A) s e g = whole-test (same_type A (atom Comm)) (stop_at 0 d [] p (no_command A)) s (0 + nodes d) e (own-fits 0 d [] p (no_command A))
whole-fits d p (stops z) s e g = g (ap stops (some-same z s e))

pub refused-fits : (d : PlainDerivation) (p : Tree) (s : Stop) → reason_of d p ≡ Some s → s.number + nodes s.node ≤ nodes d
refused-fits d p s e = omega (arith, whole-fits d p (judged_so d 0 [] p) s e (λ h. stop-fits d 0 [] p s h))
