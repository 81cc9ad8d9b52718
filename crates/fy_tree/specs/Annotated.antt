-- A derivation with what each of its nodes is about: the tree that is shown.
use Rattle.std.specs.Prelude.{ℕ, ◌+◌, ◌==◌, List, [], ◌∷◌, ◌++◌, length, Option, Some, None, if◌then◌else◌}
use Rattle.fy_base.specs.Outside.{Bytes}
use Rattle.fy_types.specs.Types.{PlainType, ns}
use Rattle.fy_phrase.specs.Tree.{Tree}
use Rattle.fy_derive.specs.Derivations.{PlainDerivation, PlainDerivations, by_ns, sub, meets, alt, left, right, rule, no_derivations, and_derivation, count, nodes}
use Rattle.fy_derive.specs.Judging.{Judged, concludes, stops, judged, alternative, operands, under}
use Rattle.fy_derive.specs.Rules.{Binder, nothing, given, Premise, premises}
use Rattle.fy_derive.specs.Tables.{type_at}
use Rattle.fy_short.specs.Cut.{cut}
use Rattle.fy_show.specs.Entries.{Scope, Known}
use Rattle.fy_show.specs.Fresh.{bound}
use Rattle.fy_told.specs.ReasonTexts.{is_bound, names_under, variable_text, whole_premises}

-- what is shown of a node: its number, the names in scope, the phrase, the name that its premise adds with the type of that, and what it concludes
pub record Spot : Type 0 where
  pub number : ℕ
  pub node : PlainDerivation
  pub scope : Scope
  pub phrase : Tree
  pub added : Bytes
  pub conclusion : PlainType

-- the same with the types of the variables in scope, the innermost first
pub record Row : Type 0 where
  pub types : List PlainType
  pub spot : Spot

mutual
  pub data Annotated : Type 0 where
    -- a subsumption above its part
    raised : Row → Annotated → Annotated
    -- any other node above its premises
    node : Row → AnnotatedList → Annotated

  pub data AnnotatedList : Type 0 where
    no_annotated : AnnotatedList
    and_annotated : Annotated → AnnotatedList → AnnotatedList

-- what is concluded, and `ns` where judging stops, as it does nowhere in a derivation that is accepted
abbrev pub concluded : Judged → PlainType
concluded (concludes A) = A
concluded (stops n) = ns

-- what is shown of a node: it concludes what judging concludes there
abbrev pub spot_at : PlainDerivation → ℕ → List PlainType → Scope → Bytes → Tree → Spot
spot_at d n G s added p =
    record { number = n; node = d; scope = s; phrase = p; added = added; conclusion = concluded (judged d n G p) }

abbrev pub row_at : PlainDerivation → ℕ → List PlainType → Scope → Bytes → Tree → Row
row_at d n G s added p = record { types = G; spot = spot_at d n G s added p }

-- `x: A`: the phrase's variable, which a premise adds to the types in scope
abbrev pub added_text : Known → Scope → Tree → Binder → List PlainType → Bytes
added_text k s p b H = if is_bound b then cut 60 (variable_text k (bound k s p) (type_at H 0)) else []

-- what stands at a premise of the phrase, where the types in scope are these
abbrev pub beneath : Known → List PlainType → Scope → Tree → Premise → (List PlainType → Scope → Bytes → Tree → Annotated) → Annotated
beneath k H s p P f = f H (names_under k s p (is_bound P.0)) (added_text k s p P.0 H) P.1

-- the same behind premises with these conclusions
abbrev pub at_premise : Known → List PlainType → Scope → Tree → List PlainType → Premise → (List PlainType → Scope → Bytes → Tree → Annotated) → Annotated
at_premise k G s p As P f = beneath k (under P.0 As G) s p P f

-- the one premise, where the phrase is of the form
abbrev pub if_form : {X : Type 0} → Option X → (X → Annotated) → AnnotatedList
if_form None f = no_annotated
if_form (Some x) f = and_annotated (f x) no_annotated

-- the premises, where the phrase has a rule with so many
abbrev pub if_premises : ℕ → Option (List Premise) → (List Premise → AnnotatedList) → AnnotatedList
if_premises n None f = no_annotated
if_premises n (Some Ps) f = if n == length Ps then f Ps else no_annotated

abbrev mutual
  -- the derivation for the phrase, whose first node has the number n, below a premise that adds this
  pub shown_of : Known → PlainDerivation → ℕ → List PlainType → Scope → Bytes → Tree → Annotated
  shown_of k by_ns n G s added p = node (row_at by_ns n G s added p) no_annotated
  shown_of k (sub B d) n G s added p = raised (row_at (sub B d) n G s added p) (shown_of k d (n + 1) G s added p)
  shown_of k (meets ds) n G s added p =
      node (row_at (meets ds) n G s added p) (each_shown k ds (n + 1) G s p (whole_premises (count ds) p) [])
  shown_of k (alt i d) n G s added p =
      node (row_at (alt i d) n G s added p)
      (if_form (alternative i p) (λ x. at_premise k G s p [] (given x.0, x.1) (shown_of k d (n + 1))))
  shown_of k (left d) n G s added p =
      node (row_at (left d) n G s added p) (if_form (operands p) (λ x. at_premise k G s p [] (nothing, x.0) (shown_of k d (n + 1))))
  shown_of k (right d) n G s added p =
      node (row_at (right d) n G s added p) (if_form (operands p) (λ x. at_premise k G s p [] (nothing, x.1) (shown_of k d (n + 1))))
  shown_of k (rule ds) n G s added p =
      node (row_at (rule ds) n G s added p) (if_premises (count ds) (premises p) (λ Ps. each_shown k ds (n + 1) G s p Ps []))

  -- the derivations of the phrase's premises, behind premises with these conclusions
  pub each_shown : Known → PlainDerivations → ℕ → List PlainType → Scope → Tree → List Premise → List PlainType → AnnotatedList
  each_shown k no_derivations n G s p Ps As = no_annotated
  each_shown k (and_derivation d ds) n G s p [] As = no_annotated
  each_shown k (and_derivation d ds) n G s p (P ∷ Ps) As =
      and_annotated (at_premise k G s p As P (shown_of k d n))
      (each_shown k ds (n + nodes d) G s p Ps (As ++ concluded (judged d n (under P.0 As G) P.1) ∷ []))

-- what the root concludes
abbrev pub conclusion_of : Annotated → PlainType
conclusion_of (raised r a) = r.spot.conclusion
conclusion_of (node r more) = r.spot.conclusion

-- the trees of its premises
abbrev pub below_of : Annotated → AnnotatedList
below_of (raised r a) = and_annotated a no_annotated
below_of (node r more) = more
