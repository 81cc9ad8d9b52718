-- A derivation in another context, where some variables have types below those that it was made for.
use Rattle.std.specs.Prelude.{ℕ, zero, suc, ◌+◌, ◌*◌, ◌≤◌, ◌≡◌, IsTrue, List, [], ◌∷◌, replicate, Option, Some, None, slice_get}
use Rattle.fy_types.specs.Types.{PlainType}
use Rattle.fy_phrase.specs.Tree.{Tree, var, lam, merge}
use Rattle.fy_phrase.specs.Alike.{lifted, Alike}
use Rattle.fy_derive.specs.Derivations.{PlainDerivation, PlainDerivations, by_ns, sub, meets, alt, left, right, rule, no_derivations, and_derivation, count, nodes, nesting}
use Rattle.fy_derive.specs.Subsumption.{is_below}
use Rattle.fy_derive.specs.Rules.{Binder, nothing, first, given, Premise, premises}
use Rattle.fy_derive.specs.Judging.{judged, concludes}

-- the type to which each variable's type is to be raised, where it is another
abbrev pub Wanted : Type 0
Wanted = ℕ → Option PlainType

-- below one more binder, whose variable is used as it is
abbrev pub behind : Wanted → Wanted
behind wanted zero = None
behind wanted (suc k) = wanted k

abbrev pub behind_binder : Binder → Wanted → Wanted
behind_binder nothing wanted = wanted
behind_binder first wanted = behind wanted
behind_binder (given T) wanted = behind wanted

-- raised to the type, if one is wanted
abbrev pub raised : Option PlainType → PlainDerivation → PlainDerivation
raised None d = d
raised (Some T) d = sub T d

-- the rule of a phrase, raised where the phrase is a variable
abbrev pub raised_use : Wanted → Tree → PlainDerivation → PlainDerivation
raised_use wanted (var k at) d = raised (wanted k) d
raised_use wanted p d = d

-- the premises of a phrase's own rule, if it has one
abbrev pub those_of : Option (List Premise) → List Premise
those_of None = []
those_of (Some Ps) = Ps

-- what a node about one alternative, or about one operand of a merge, goes on with
abbrev pub body_of : Tree → Tree
body_of (lam d As body at) = body
body_of p = p

abbrev pub left_of : Tree → Tree
left_of (merge p q at) = p
left_of p = p

abbrev pub right_of : Tree → Tree
right_of (merge p q at) = q
right_of p = p

abbrev mutual
  -- the derivation for the phrase with a subsumption directly above each node `rule` that judges a variable for which a type is wanted
  pub placed : Wanted → Tree → PlainDerivation → PlainDerivation
  placed wanted p by_ns = by_ns
  placed wanted p (sub B d) = sub B (placed wanted p d)
  placed wanted p (meets ds) = meets (all_placed wanted (replicate (count ds) (nothing, p)) ds)
  placed wanted p (alt i d) = alt i (placed (behind wanted) (body_of p) d)
  placed wanted p (left d) = left (placed wanted (left_of p) d)
  placed wanted p (right d) = right (placed wanted (right_of p) d)
  placed wanted p (rule ds) = raised_use wanted p (rule (all_placed wanted (those_of (premises p)) ds))

  -- each about the part of its premise
  pub all_placed : Wanted → List Premise → PlainDerivations → PlainDerivations
  all_placed wanted Ps no_derivations = no_derivations
  all_placed wanted [] (and_derivation d ds) = and_derivation d ds
  all_placed wanted (P ∷ Ps) (and_derivation d ds) = and_derivation (placed (behind_binder P.0 wanted) P.1 d) (all_placed wanted Ps ds)

-- a variable of type A has this type there too, or, where A is wanted, one below it
abbrev pub FitsAt : Option PlainType → PlainType → Option PlainType → Type 0
FitsAt None A there = there ≡ Some A
FitsAt (Some T) A there = (T ≡ A) × ((B : PlainType) × (there ≡ Some B) × IsTrue (is_below B A))

-- variable k of the context G is variable f k of the context H
pub record Fits (f : ℕ → ℕ) (wanted : Wanted) (G H : List PlainType) : Type 0 where
  pub each : (k : ℕ) (A : PlainType) → slice_get G k ≡ Some A → FitsAt (wanted k) A (slice_get H (f k))

-- a derivation that is placed so concludes the same for an alike phrase
abbrev pub PlacedConcludes : Type 0
PlacedConcludes =
    (f : ℕ → ℕ) (wanted : Wanted) (G H : List PlainType) (p q : Tree) (A : PlainType) (d : PlainDerivation) (n m : ℕ) →
    Alike f p q → Fits f wanted G H → judged d n G p ≡ concludes A → judged (placed wanted p d) m H q ≡ concludes A

-- it has at most twice the nodes, and nests at most one more
pub record PlacedIsSmall : Type 0 where
  pub few : (wanted : Wanted) (p : Tree) (d : PlainDerivation) → nodes (placed wanted p d) ≤ 2 * nodes d
  pub flat : (wanted : Wanted) (p : Tree) (d : PlainDerivation) → nesting (placed wanted p d) ≤ nesting d + 1
