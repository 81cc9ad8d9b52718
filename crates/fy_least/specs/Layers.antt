-- How a derivation is layered: above each rule stands at most one meet, and above that at most one subsumption.
use Rattle.std.specs.Prelude.{ℕ}
use Rattle.fy_types.specs.Types.{PlainType}
use Rattle.fy_derive.specs.Derivations.{PlainDerivation, PlainDerivations, by_ns, sub, meets, alt, left, right, rule, no_derivations, and_derivation}

-- what may stand on top: a subsumption, or only a meet, or only a rule
pub data Layer : Type 0 where
  subsumed : Layer
  met : Layer
  ruled : Layer

mutual
  pub data IsLayered : Layer → PlainDerivation → Type 0 where
    one_sub : {T : PlainType} {d : PlainDerivation} → IsLayered met d → IsLayered subsumed (sub T d)
    no_sub : {d : PlainDerivation} → IsLayered met d → IsLayered subsumed d
    one_meet : {ds : PlainDerivations} → AreLayered ruled ds → IsLayered met (meets ds)
    no_meet : {d : PlainDerivation} → IsLayered ruled d → IsLayered met d
    a_ns : IsLayered ruled by_ns
    an_alt : {i : ℕ} {d : PlainDerivation} → IsLayered subsumed d → IsLayered ruled (alt i d)
    a_left : {d : PlainDerivation} → IsLayered subsumed d → IsLayered ruled (left d)
    a_right : {d : PlainDerivation} → IsLayered subsumed d → IsLayered ruled (right d)
    a_rule : {ds : PlainDerivations} → AreLayered subsumed ds → IsLayered ruled (rule ds)

  -- each of the derivations is
  pub data AreLayered : Layer → PlainDerivations → Type 0 where
    no_layers : {l : Layer} → AreLayered l no_derivations
    and_layers : {l : Layer} {d : PlainDerivation} {ds : PlainDerivations} → IsLayered l d → AreLayered l ds → AreLayered l (and_derivation d ds)
