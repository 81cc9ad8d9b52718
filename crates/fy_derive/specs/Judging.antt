-- What a derivation concludes for a phrase, judged from left to right: a node's form first, then its premises in order, then its
-- conclusion. Types are compared as trees.
use Rattle.std.specs.Prelude.{ℕ, zero, suc, ◌+◌, ◌==◌, nat_le, List, [], ◌∷◌, ◌++◌, length, replicate, map, reverse, Option, Some, None, option_map, if◌then◌else◌}
use Rattle.fy_types.specs.declared.types.Atom.TheVariants.{Comm}
use Rattle.fy_types.specs.declared.types.TyList.{TyList}
use Rattle.fy_types.specs.Types.{PlainType, PlainTypes, ns, atom, arrow, meet, no_types, and_type}
use Rattle.fy_types.specs.Paths.{paths}
use Rattle.fy_types.specs.Reading.{types_in, plain_type, types_from}
use Rattle.fy_phrase.specs.Tree.{Tree, lam, merge}
use Rattle.fy_derive.specs.Derivations.{PlainDerivation, PlainDerivations, by_ns, sub, meets, alt, left, right, rule, no_derivations, and_derivation, count, nodes}
use Rattle.fy_derive.specs.Subsumption.{is_below}
use Rattle.fy_derive.specs.Kinds.{Kind, kind_of, none_begins}
use Rattle.fy_derive.specs.Rules.{Binder, nothing, first, given, Premise, premises, provided, same_type, conclusion}

-- a conclusion, or the number of the node at which judging stops
pub data Judged : Type 0 where
  concludes : PlainType → Judged
  stops : ℕ → Judged

-- the same of several premises, with all their conclusions
pub data AllJudged : Type 0 where
  all_conclude : List PlainType → AllJudged
  one_stops : ℕ → AllJudged

abbrev pub then_judge : Judged → (PlainType → Judged) → Judged
then_judge (concludes A) f = f A
then_judge (stops n) f = stops n

abbrev pub then_others : Judged → (PlainType → AllJudged) → AllJudged
then_others (concludes A) f = f A
then_others (stops n) f = one_stops n

-- a node's own conclusion, or a stop at the node
abbrev pub at_node : ℕ → Option PlainType → Judged
at_node n None = stops n
at_node n (Some A) = concludes A

abbrev pub from_premises : ℕ → AllJudged → (List PlainType → Option PlainType) → Judged
from_premises n (all_conclude As) f = at_node n (f As)
from_premises n (one_stops k) f = stops k

-- judging goes on where the phrase is of the form
abbrev pub if_form : {X : Type 0} → ℕ → Option X → (X → Judged) → Judged
if_form n None f = stops n
if_form n (Some x) f = f x

-- judging goes on where the rule has so many premises
abbrev pub if_count : ℕ → ℕ → List Premise → Judged → Judged
if_count n k Ps j = if k == length Ps then j else stops n

-- the member with the index
abbrev pub member : PlainTypes → ℕ → Option PlainType
member no_types i = None
member (and_type A As) zero = Some A
member (and_type A As) (suc i) = member As i

-- an abstraction's alternative and its body
abbrev pub alternative : ℕ → Tree → Option (PlainType × Tree)
alternative i (lam d As b at) = option_map (λ A. (A, b)) (member As i)
alternative i p = None

-- a merge's operands, whose right one has a kind
abbrev pub operands : Tree → Option (Tree × Tree × Kind)
operands (merge p q at) = option_map (λ k. (p, q, k)) (kind_of q)
operands p = None

-- the context of a premise, from the conclusions of the premises before it
abbrev pub under : Binder → List PlainType → List PlainType → List PlainType
under nothing As G = G
under first [] G = G
under first (A ∷ As) G = A ∷ G
under (given T) As G = T ∷ G

abbrev mutual
  -- what the derivation, whose first node has the number n, concludes for the phrase in the context
  pub judged : PlainDerivation → ℕ → List PlainType → Tree → Judged
  judged by_ns n G p = concludes ns
  judged (sub B d) n G p = then_judge (judged d (n + 1) G p) (λ A. at_node n (provided (is_below A B) B))
  judged (meets ds) n G p =
      if nat_le 2 (count ds)
      then from_premises n (each_judged ds (n + 1) G (replicate (count ds) (nothing, p)) []) (λ As. Some (meet (types_from As)))
      else stops n
  judged (alt i d) n G p =
      if_form n (alternative i p) (λ x. then_judge (judged d (n + 1) (x.0 ∷ G) x.1) (λ C. concludes (arrow x.0 C)))
  judged (left d) n G p =
      if_form n (operands p) (λ x. then_judge (judged d (n + 1) G x.0) (λ A. at_node n (provided (none_begins x.2 (paths A)) A)))
  judged (right d) n G p = if_form n (operands p) (λ x. judged d (n + 1) G x.1)
  judged (rule ds) n G p =
      if_form n (premises p) (λ Ps. if_count n (count ds) Ps (from_premises n (each_judged ds (n + 1) G Ps []) (conclusion G p)))

  -- the premises' conclusions, behind those of the premises before them
  pub each_judged : PlainDerivations → ℕ → List PlainType → List Premise → List PlainType → AllJudged
  each_judged no_derivations n G Ps As = all_conclude As
  each_judged (and_derivation d ds) n G [] As = all_conclude As
  each_judged (and_derivation d ds) n G (P ∷ Ps) As =
      then_others (judged d n (under P.0 As G) P.1) (λ A. each_judged ds (n + nodes d) G Ps (As ++ A ∷ []))

-- the types of the variables in scope, the innermost first, where the list has the outermost first
abbrev pub in_scope : TyList → List PlainType
in_scope context = reverse (map plain_type (types_in context))

-- what the derivation concludes for the phrase with no variable in scope
abbrev pub conclusion_of : Tree → PlainDerivation → Judged
conclusion_of p d = judged d 0 [] p

-- the node at which a derivation of the type is refused: the first at which judging stops, or the whole
abbrev pub refusal_at : PlainType → Judged → Option ℕ
refusal_at T (concludes A) = if same_type A T then None else Some 0
refusal_at T (stops n) = Some n

-- the same of a derivation of a command
abbrev pub refusal : Judged → Option ℕ
refusal = refusal_at (atom Comm)
