-- The derivations that are made of others are written as texts where these are.
use Rattle.std.proofs.Common.{◌≤◌, Bool, true, false, List, arith}
use Rattle.fy_base.specs.Outside.{Bytes}
use Rattle.fy_types.specs.Types.{PlainType, arrow}
use Rattle.fy_types.specs.Paths.{PlainPaths}
use Rattle.fy_types.specs.Nested.{IsTypeOf}
use Rattle.fy_types.specs.Fields.{IsNamed, AllFields, AllFormFields, HasFullMeets}
use Rattle.fy_types.proofs.FieldLemmas.{AllFields-form}
use Rattle.fy_derive.specs.Derivations.{PlainDerivation, PlainDerivations, sub, meets, left, right, rule, no_derivations, and_derivation, count}
use Rattle.fy_derive.specs.Printable.{IsPrintable, ArePrintable}
use Rattle.fy_least.specs.Derived.{rule_of, rule_of_both, derived_if}
use Rattle.fy_least.specs.Many.{meet_of_all}

-- a type as in a derivation that is written as a text
abbrev pub IsPrintableType : List Bytes → PlainType → Type 0
IsPrintableType names A = AllFields (IsNamed names) A × HasFullMeets A

pub made-printable : (names : List Bytes) (F : PlainPaths) (A : PlainType) → IsTypeOf F A → AllFormFields (IsNamed names) F → IsPrintableType names A
made-printable names F A x h = (AllFields-form (IsNamed names) F A x.3 h, x.2)

pub arrow-printable : (names : List Bytes) (A B : PlainType) → IsPrintableType names A → IsPrintableType names B → IsPrintableType names (arrow A B)
arrow-printable names A B a b = ((a.0, b.0), (a.1, b.1))

pub none-printable : (names : List Bytes) → IsPrintable names (rule no_derivations)
none-printable names = (omega arith, tt)

pub bare-printable : (names : List Bytes) (d : PlainDerivation) → IsPrintable names d → IsPrintable names (rule_of d)
bare-printable names d h = (omega arith, (h, tt))

pub one-printable : (names : List Bytes) (A : PlainType) (d : PlainDerivation) → IsPrintableType names A → IsPrintable names d →
    IsPrintable names (rule_of (sub A d))
one-printable names A d a h = (omega arith, ((a.0, a.1, h), tt))

pub two-printable : (names : List Bytes) (A B : PlainType) (d e : PlainDerivation) → IsPrintableType names A → IsPrintableType names B →
    IsPrintable names d → IsPrintable names e → IsPrintable names (rule_of_both (sub A d) (sub B e))
two-printable names A B d e a b h k = (omega arith, ((a.0, a.1, h), ((b.0, b.1, k), tt)))

pub defined-printable : (names : List Bytes) (A : PlainType) (d e : PlainDerivation) → IsPrintableType names A → IsPrintable names d →
    IsPrintable names e → IsPrintable names (rule_of_both (sub A d) e)
defined-printable names A d e a h k = (omega arith, ((a.0, a.1, h), (k, tt)))

pub three-printable : (names : List Bytes) (A B C : PlainType) (d e f : PlainDerivation) → IsPrintableType names A → IsPrintableType names B →
    IsPrintableType names C → IsPrintable names d → IsPrintable names e → IsPrintable names f →
    IsPrintable names (rule (and_derivation (sub A d) (and_derivation (sub B e) (and_derivation (sub C f) no_derivations))))
three-printable names A B C d e f a b c h k l = (omega arith, ((a.0, a.1, h), ((b.0, b.1, k), ((c.0, c.1, l), tt))))

pub merge-printable : (names : List Bytes) (A : PlainType) (d e : PlainDerivation) → IsPrintableType names A → IsPrintable names d →
    IsPrintable names e → IsPrintable names (meets (and_derivation (left (sub A d)) (and_derivation (right e) no_derivations)))
merge-printable names A d e a h k = (omega arith, omega arith, ((a.0, a.1, h), (k, tt)))

pub if-printable : (names : List Bytes) (b : Bool) (d : PlainDerivation) → IsPrintable names d → IsPrintable names (derived_if b d)
if-printable names true d h = h
if-printable names false d h = tt

pub meet-printable : (names : List Bytes) (ds : PlainDerivations) → count ds ≤ 65536 → ArePrintable names ds → IsPrintable names (meet_of_all ds)
meet-printable names no_derivations low h = tt
meet-printable names (and_derivation d no_derivations) low h = h.0
meet-printable names (and_derivation d (and_derivation e ds)) low h = (omega arith, low, h)
