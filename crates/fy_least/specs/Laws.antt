-- The laws of least types.
use Rattle.std.specs.Prelude.{ℕ, ◌≡◌, ◌↔◌, List, [], None}
use Rattle.fy_types.specs.Types.{PlainType}
use Rattle.fy_types.specs.Subtyping.{IsSubtype}
use Rattle.fy_types.specs.Paths.{type_of_paths}
use Rattle.fy_phrase.specs.Tree.{Tree}
use Rattle.fy_derive.specs.Derivations.{PlainDerivation}
use Rattle.fy_derive.specs.Judging.{refusal, conclusion_of}
use Rattle.fy_derive.specs.Typing.{HasType}
use Rattle.fy_derive.specs.Shapes.{PlainShape, shape_table}
use Rattle.fy_derive.specs.Least.{forms_of, least_type, least_shape_table}
use Rattle.fy_least.specs.Pairs.{HasAllPairs}

-- a phrase has a type exactly where its least type is below it
abbrev pub LeastTypeIsPrincipal : Type 0
LeastTypeIsPrincipal =
    (G : List PlainType) (p : Tree) (A : PlainType) → HasType G p A ↔ IsSubtype (type_of_paths (least_type (forms_of G) p)) A

-- each pair of node and shape of a derivation is a pair of the least types
abbrev pub ShapesAreLeast : Type 0
ShapesAreLeast = (p : Tree) (d : PlainDerivation) (k : ℕ) (s : PlainShape) → shape_table p d k s → least_shape_table p k s

-- two accepted derivations of a phrase, each with all pairs, have the same
abbrev pub FoundShapesAreSame : Type 0
FoundShapesAreSame = (p : Tree) (d e : PlainDerivation) → refusal (conclusion_of p d) ≡ None → refusal (conclusion_of p e) ≡ None →
    HasAllPairs [] p d → HasAllPairs [] p e → (k : ℕ) (s : PlainShape) → shape_table p d k s ↔ shape_table p e k s
