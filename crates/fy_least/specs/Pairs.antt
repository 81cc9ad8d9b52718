-- Derivations that have each pair of phrase node and shape that some derivation of the phrase has.
use Rattle.std.specs.Prelude.{ℕ, ◌≡◌, List, [], ◌∷◌}
use Rattle.fy_types.specs.Types.{PlainType}
use Rattle.fy_types.specs.Paths.{PlainPaths}
use Rattle.fy_types.specs.PathOrder.{ArePathsBelow}
use Rattle.fy_phrase.specs.Tree.{Tree}
use Rattle.fy_derive.specs.Derivations.{PlainDerivation}
use Rattle.fy_derive.specs.Judging.{judged, concludes}
use Rattle.fy_derive.specs.Least.{forms_of}
use Rattle.fy_derive.specs.Shapes.{PlainShape, HasPair}

-- each path form of the first context is below that in its place in the second
pub data AreContextsBelow : List PlainPaths → List PlainPaths → Type 0 where
  no_variables : AreContextsBelow [] []
  and_variable : {P Q : PlainPaths} {G H : List PlainPaths} → ArePathsBelow P Q → AreContextsBelow G H → AreContextsBelow (P ∷ G) (Q ∷ H)

-- in each context of types with these path forms, the derivation has each pair that some derivation of the phrase has in a context above
abbrev pub HasPairsAbove : List PlainPaths → Tree → PlainDerivation → Type 0
HasPairsAbove G p d = (H I : List PlainType) → forms_of H ≡ G → AreContextsBelow G (forms_of I) → (e : PlainDerivation) (A : PlainType) →
    judged e 0 I p ≡ concludes A → (m k : ℕ) (s : PlainShape) → HasPair e m I p k s → HasPair d m H p k s

-- the derivation has each pair that some derivation of the phrase has in the context
abbrev pub HasAllPairs : List PlainType → Tree → PlainDerivation → Type 0
HasAllPairs G p d = (e : PlainDerivation) (A : PlainType) → judged e 0 G p ≡ concludes A → (k : ℕ) (s : PlainShape) →
    HasPair e 0 G p k s → HasPair d 0 G p k s
