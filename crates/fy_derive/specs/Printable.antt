-- The derivations that are written as texts: with identifiers as names, full meets, and lists of the lengths that texts have.
use Rattle.std.specs.Prelude.{ℕ, ◌^◌, ◌<◌, ◌≤◌, List}
use Rattle.fy_base.specs.Outside.{Bytes}
use Rattle.fy_types.specs.Fields.{IsNamed, AllFields, HasFullMeets}
use Rattle.fy_derive.specs.Derivations.{PlainDerivation, PlainDerivations, by_ns, sub, meets, alt, left, right, rule, no_derivations, and_derivation, count}

abbrev mutual
  -- the names of its types are those of identifiers, their meets are full, and its numbers and lists are within their bounds
  pub IsPrintable : List Bytes → PlainDerivation → Type 0
  IsPrintable names by_ns = Unit {0}
  IsPrintable names (sub T d) = AllFields (IsNamed names) T × HasFullMeets T × IsPrintable names d
  IsPrintable names (meets ds) = (2 ≤ count ds) × (count ds ≤ 65536) × ArePrintable names ds
  IsPrintable names (alt i d) = (i < 2 ^ 32) × IsPrintable names d
  IsPrintable names (left d) = IsPrintable names d
  IsPrintable names (right d) = IsPrintable names d
  IsPrintable names (rule ds) = (count ds ≤ 65536) × ArePrintable names ds

  pub ArePrintable : List Bytes → PlainDerivations → Type 0
  ArePrintable names no_derivations = Unit {0}
  ArePrintable names (and_derivation d ds) = IsPrintable names d × ArePrintable names ds
