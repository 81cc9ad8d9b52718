-- Why judging stops: `judged` with a reason at the node where it stops. `Forgets` is the law: without the reason it is `judged`.
use Rattle.std.specs.Prelude.{ℕ, ◌+◌, ◌==◌, ◌≡◌, nat_le, List, [], ◌∷◌, ◌++◌, length, replicate, Option, Some, None, if◌then◌else◌}
use Rattle.fy_types.specs.declared.types.Atom.TheVariants.{Comm}
use Rattle.fy_types.specs.Types.{PlainType, ns, atom, arrow, meet}
use Rattle.fy_types.specs.Paths.{paths}
use Rattle.fy_types.specs.Reading.{types_from}
use Rattle.fy_phrase.specs.Tree.{Tree, lam}
use Rattle.fy_derive.specs.Derivations.{PlainDerivation, PlainDerivations, by_ns, sub, meets, alt, left, right, rule, no_derivations, and_derivation, count, nodes}
use Rattle.fy_derive.specs.Subsumption.{is_below}
use Rattle.fy_derive.specs.Kinds.{none_begins}
use Rattle.fy_derive.specs.Rules.{nothing, Premise, premises, provided, same_type, conclusion}
use Rattle.fy_derive.specs.Judging.{Judged, judged, alternative, operands, under}
use Rattle.fy_derive.specs.Judging as plain

-- why judging stops at a node
pub data Reason : Type 0 where
  -- the phrase is of another form
  other_form : Reason
  -- the rule has another number of premises
  other_count : Reason
  -- the abstraction has no such alternative
  no_alternative : Reason
  -- a meet of fewer than two
  few_parts : Reason
  -- the part concludes this type, which isn't below that of the subsumption
  not_below : PlainType → Reason
  -- the left operand concludes this type, which has what the right operand takes
  taken_right : PlainType → Reason
  -- the premises conclude these types, from which the rule concludes nothing
  other_types : List PlainType → Reason
  -- the whole concludes this type, and not that of a command
  no_command : PlainType → Reason

-- the node at which judging stops, its number, the types in scope there, and the phrase
pub record Stop : Type 0 where
  pub number : ℕ
  pub node : PlainDerivation
  pub types : List PlainType
  pub phrase : Tree
  pub reason : Reason

abbrev pub stop_at : ℕ → PlainDerivation → List PlainType → Tree → Reason → Stop
stop_at n d G p why = record { number = n; node = d; types = G; phrase = p; reason = why }

-- a conclusion, or where judging stops
pub data Reasoned : Type 0 where
  concludes : PlainType → Reasoned
  stops : Stop → Reasoned

pub data AllReasoned : Type 0 where
  all_conclude : List PlainType → AllReasoned
  one_stops : Stop → AllReasoned

abbrev pub then_judge : Reasoned → (PlainType → Reasoned) → Reasoned
then_judge (concludes A) f = f A
then_judge (stops s) f = stops s

abbrev pub then_others : Reasoned → (PlainType → AllReasoned) → AllReasoned
then_others (concludes A) f = f A
then_others (stops s) f = one_stops s

abbrev pub at_node : Stop → Option PlainType → Reasoned
at_node s None = stops s
at_node s (Some A) = concludes A

abbrev pub from_premises : AllReasoned → (List PlainType → Reasoned) → Reasoned
from_premises (all_conclude As) f = f As
from_premises (one_stops s) f = stops s

abbrev pub if_form : {X : Type 0} → Stop → Option X → (X → Reasoned) → Reasoned
if_form s None f = stops s
if_form s (Some x) f = f x

-- an abstraction has not the alternative, and any other phrase is of another form
abbrev pub no_alternative_of : Tree → Reason
no_alternative_of (lam d As b at) = no_alternative
no_alternative_of p = other_form

abbrev mutual
  -- what the derivation concludes for the phrase in the context, or where judging stops and why
  pub judged_so : PlainDerivation → ℕ → List PlainType → Tree → Reasoned
  judged_so by_ns n G p = concludes ns
  judged_so (sub B d) n G p =
      then_judge (judged_so d (n + 1) G p) (λ A. at_node (stop_at n (sub B d) G p (not_below A)) (provided (is_below A B) B))
  judged_so (meets ds) n G p =
      if nat_le 2 (count ds)
      then from_premises (each_so ds (n + 1) G (replicate (count ds) (nothing, p)) []) (λ As. concludes (meet (types_from As)))
      else stops (stop_at n (meets ds) G p few_parts)
  judged_so (alt i d) n G p =
      if_form (stop_at n (alt i d) G p (no_alternative_of p)) (alternative i p)
      (λ x. then_judge (judged_so d (n + 1) (x.0 ∷ G) x.1) (λ C. concludes (arrow x.0 C)))
  judged_so (left d) n G p =
      if_form (stop_at n (left d) G p other_form) (operands p)
      (λ x. then_judge (judged_so d (n + 1) G x.0) (λ A. at_node (stop_at n (left d) G p (taken_right A)) (provided (none_begins x.2 (paths A)) A)))
  judged_so (right d) n G p =
      if_form (stop_at n (right d) G p other_form) (operands p) (λ x. judged_so d (n + 1) G x.1)
  judged_so (rule ds) n G p =
      if_form (stop_at n (rule ds) G p other_form) (premises p)
      (λ Ps. if count ds == length Ps
      then from_premises (each_so ds (n + 1) G Ps []) (λ As. at_node (stop_at n (rule ds) G p (other_types As)) (conclusion G p As))
      else stops (stop_at n (rule ds) G p other_count))

  -- the premises' conclusions, behind those of the premises before them
  pub each_so : PlainDerivations → ℕ → List PlainType → List Premise → List PlainType → AllReasoned
  each_so no_derivations n G Ps As = all_conclude As
  each_so (and_derivation d ds) n G [] As = all_conclude As
  each_so (and_derivation d ds) n G (P ∷ Ps) As =
      then_others (judged_so d n (under P.0 As G) P.1) (λ A. each_so ds (n + nodes d) G Ps (As ++ A ∷ []))

-- the whole is refused where it concludes another type
abbrev pub refused_whole : PlainDerivation → Tree → Reasoned → Option Stop
refused_whole d p (concludes A) = if same_type A (atom Comm) then None else Some (stop_at 0 d [] p (no_command A))
refused_whole d p (stops s) = Some s

-- where a derivation of a program is refused, and why
abbrev pub reason_of : PlainDerivation → Tree → Option Stop
reason_of d p = refused_whole d p (judged_so d 0 [] p)

-- without the reason
abbrev pub without_reason : Reasoned → Judged
without_reason (concludes A) = plain.concludes A
without_reason (stops s) = plain.stops s.number

abbrev pub Forgets : Type 0
Forgets = (d : PlainDerivation) (n : ℕ) (G : List PlainType) (p : Tree) → without_reason (judged_so d n G p) ≡ judged d n G p
