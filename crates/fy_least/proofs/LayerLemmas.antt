-- The layers of derivations that are made of others.
use Rattle.std.proofs.Common.{Bool, true, false}
use Rattle.fy_types.specs.Types.{PlainType}
use Rattle.fy_derive.specs.Derivations.{PlainDerivation, PlainDerivations, by_ns, sub, meets, left, right, rule, no_derivations, and_derivation}
use Rattle.fy_least.specs.Derived.{rule_of, rule_of_both, derived_if}
use Rattle.fy_least.specs.Many.{meet_of_all}
use Rattle.fy_least.specs.Layers.{met, ruled, IsLayered, one_sub, no_sub, one_meet, no_meet, a_ns, a_left, a_right, a_rule, AreLayered, no_layers, and_layers}

pub ns-layered : IsLayered met by_ns
ns-layered = no_meet a_ns

pub none-layered : IsLayered met (rule no_derivations)
none-layered = no_meet (a_rule no_layers)

pub bare-layered : (d : PlainDerivation) → IsLayered met d → IsLayered met (rule_of d)
bare-layered d h = no_meet (a_rule (and_layers (no_sub h) no_layers))

pub one-layered : (A : PlainType) (d : PlainDerivation) → IsLayered met d → IsLayered met (rule_of (sub A d))
one-layered A d h = no_meet (a_rule (and_layers (one_sub h) no_layers))

pub two-layered : (A B : PlainType) (d e : PlainDerivation) → IsLayered met d → IsLayered met e → IsLayered met (rule_of_both (sub A d) (sub B e))
two-layered A B d e h k = no_meet (a_rule (and_layers (one_sub h) (and_layers (one_sub k) no_layers)))

pub defined-layered : (A : PlainType) (d e : PlainDerivation) → IsLayered met d → IsLayered met e → IsLayered met (rule_of_both (sub A d) e)
defined-layered A d e h k = no_meet (a_rule (and_layers (one_sub h) (and_layers (no_sub k) no_layers)))

pub three-layered : (A B C : PlainType) (d e f : PlainDerivation) → IsLayered met d → IsLayered met e → IsLayered met f →
    IsLayered met (rule (and_derivation (sub A d) (and_derivation (sub B e) (and_derivation (sub C f) no_derivations))))
three-layered A B C d e f h k l = no_meet (a_rule (and_layers (one_sub h) (and_layers (one_sub k) (and_layers (one_sub l) no_layers))))

pub merge-layered : (A : PlainType) (d e : PlainDerivation) → IsLayered met d → IsLayered met e →
    IsLayered met (meets (and_derivation (left (sub A d)) (and_derivation (right e) no_derivations)))
merge-layered A d e h k = one_meet (and_layers (a_left (one_sub h)) (and_layers (a_right (no_sub k)) no_layers))

pub if-layered : (b : Bool) (d : PlainDerivation) → IsLayered met d → IsLayered met (derived_if b d)
if-layered true d h = h
if-layered false d h = ns-layered

pub meet-layered : (ds : PlainDerivations) → AreLayered ruled ds → IsLayered met (meet_of_all ds)
meet-layered no_derivations h = ns-layered
meet-layered (and_derivation d no_derivations) (and_layers h r) = no_meet h
meet-layered (and_derivation d (and_derivation e ds)) h = one_meet h
