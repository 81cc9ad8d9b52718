-- The text of a derivation: in preorder, a line for each node.
use Rattle.std.specs.Prelude.{List, [], ◌∷◌, ◌++◌, codes, decimal}
use Rattle.fy_base.specs.Outside.{Bytes}
use Rattle.fy_types.specs.Types.{PlainType}
use Rattle.fy_types.specs.Print.{type_text}
use Rattle.fy_derive.specs.Derivations.{PlainDerivation, PlainDerivations, by_ns, sub, meets, alt, left, right, rule, no_derivations, and_derivation, count}

-- the parts, and the byte that ends a line
abbrev pub line : Bytes → Bytes
line parts = parts ++ 10 ∷ []

abbrev pub type_line : List Bytes → PlainType → Bytes
type_line names T = line (codes "sub [" ++ type_text names T ++ codes "]")

abbrev mutual
  pub derivation_text : List Bytes → PlainDerivation → Bytes
  derivation_text names by_ns = line (codes "ns")
  derivation_text names (sub T d) = type_line names T ++ derivation_text names d
  derivation_text names (meets ds) = line (codes "meet " ++ decimal (count ds)) ++ derivations_text names ds
  derivation_text names (alt i d) = line (codes "alt " ++ decimal i) ++ derivation_text names d
  derivation_text names (left d) = line (codes "left") ++ derivation_text names d
  derivation_text names (right d) = line (codes "right") ++ derivation_text names d
  derivation_text names (rule ds) = line (codes "rule " ++ decimal (count ds)) ++ derivations_text names ds

  pub derivations_text : List Bytes → PlainDerivations → Bytes
  derivations_text names no_derivations = []
  derivations_text names (and_derivation d ds) = derivation_text names d ++ derivations_text names ds
