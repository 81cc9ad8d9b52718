-- Judging is typing.
use Rattle.std.specs.Prelude.{ℕ, ◌≡◌, ◌↔◌, IsTrue, List}
use Rattle.fy_types.specs.Types.{PlainType}
use Rattle.fy_types.specs.Subtyping.{IsSubtype}
use Rattle.fy_phrase.specs.Tree.{Tree}
use Rattle.fy_derive.specs.Derivations.{PlainDerivation}
use Rattle.fy_derive.specs.Typing.{HasType}
use Rattle.fy_derive.specs.Subsumption.{is_below}
use Rattle.fy_derive.specs.Judging.{judged, concludes}

-- what a derivation concludes for a phrase is a type of the phrase
abbrev pub ConcludedIsTyped : Type 0
ConcludedIsTyped =
    (d : PlainDerivation) (n : ℕ) (G : List PlainType) (p : Tree) (A : PlainType) → judged d n G p ≡ concludes A → HasType G p A

-- each type of a phrase is concluded by some derivation
abbrev pub TypedIsConcluded : Type 0
TypedIsConcluded =
    (G : List PlainType) (p : Tree) (A : PlainType) → HasType G p A → (d : PlainDerivation) × ((n : ℕ) → judged d n G p ≡ concludes A)

-- the test by which subsumption is judged is subtyping
abbrev pub BelowIsSubtype : Type 0
BelowIsSubtype = (A B : PlainType) → IsTrue (is_below A B) ↔ IsSubtype A B
