-- The central theorem: comparing path forms is exactly the least relation with the seven laws.
use Rattle.std.proofs.Common.{ℕ, ◌≡◌, ◌↔◌, refl}
use Rattle.fy_types.specs.Types.{PlainType, PlainTypes, ns, atom, arrow, field, meet, no_types, and_type}
use Rattle.fy_types.specs.Subtyping.{IsMember, first, later, both_of, IsSubtype, same, chain, below_member, below_meet, below_ns, ns_below_arrow, ns_below_field, arrows, fields, arrow_of_meet, field_of_meet, compl_below_comm, IsBelowEach, none, also}
use Rattle.fy_types.specs.Paths.{PlainPath, PlainPaths, end, call, pick, no_paths, and_path, append, called, picked, paths, all_paths, type_of_path, types_of_paths, type_of_paths}
use Rattle.fy_types.specs.PathOrder.{same_end, compl_below, IsPathBelow, ends, calls, picks, ArePathsBelow, none_left, and_above, HasBelow, here, there}
use Rattle.fy_types.proofs.Laws.{IsSubtype-paths}

IsBelowEach-of : {C : PlainType} (As : PlainTypes) → ((B : PlainType) → IsMember As B → IsSubtype C B) → IsBelowEach C As
IsBelowEach-of no_types f = none
IsBelowEach-of (and_type A As) f = also (f A first) (IsBelowEach-of As (λ B among. f B (later among)))

IsBelowEach-chain : {B C : PlainType} {As : PlainTypes} → IsSubtype B C → IsBelowEach C As → IsBelowEach B As
IsBelowEach-chain low none = none
IsBelowEach-chain low (also next rest) = also (chain low next) (IsBelowEach-chain low rest)

-- a meet is below each of its members
members : (As : PlainTypes) → IsBelowEach (meet As) As
members As = IsBelowEach-of As (λ B among. below_member among)

-- what is below a meet is below each of its members
each : {C : PlainType} (As : PlainTypes) → IsSubtype C (meet As) → IsBelowEach C As
each As low = IsBelowEach-chain low (members As)

tail : (A : PlainType) (As : PlainTypes) → IsSubtype (meet (and_type A As)) (meet As)
tail A As = below_meet (IsBelowEach-of As (λ B among. below_member (later among)))

pair : {C A B : PlainType} → IsSubtype C A → IsSubtype C B → IsSubtype C (both_of A B)
pair low next = below_meet (also low (also next none))

each-append : {C : PlainType} (P Q : PlainPaths) →
    IsBelowEach C (types_of_paths P) → IsBelowEach C (types_of_paths Q) → IsBelowEach C (types_of_paths (append P Q))
each-append no_paths Q low next = next
each-append (and_path p P) Q (also low rest) next = also low (each-append P Q rest next)

each-called : {C : PlainType} (D P : PlainPaths) →
    IsBelowEach C (types_of_paths P) → IsBelowEach (arrow (type_of_paths D) C) (types_of_paths (called D P))
each-called D no_paths low = none
each-called D (and_path p P) (also low rest) = also (arrows same low) (each-called D P rest)

each-picked : {C : PlainType} (i : ℕ) (P : PlainPaths) →
    IsBelowEach C (types_of_paths P) → IsBelowEach (field i C) (types_of_paths (picked i P))
each-picked i no_paths low = none
each-picked i (and_path p P) (also low rest) = also (fields low) (each-picked i P rest)

-- the paths behind a call, or a field, are below the arrow, or the field, of them all
called-arrow : (D P : PlainPaths) → IsSubtype (type_of_paths (called D P)) (arrow (type_of_paths D) (type_of_paths P))
called-arrow D no_paths = chain below_ns (chain ns_below_arrow (arrows same (below_meet none)))
called-arrow D (and_path p P) =
    chain (pair (below_member first) (chain (tail (type_of_path (call D p)) (types_of_paths (called D P))) (called-arrow D P)))
    (chain arrow_of_meet (arrows same (below_meet (also (below_member first) (each (types_of_paths P) (below_member (later first)))))))

picked-field : (i : ℕ) (P : PlainPaths) → IsSubtype (type_of_paths (picked i P)) (field i (type_of_paths P))
picked-field i no_paths = chain below_ns (chain ns_below_field (fields (below_meet none)))
picked-field i (and_path p P) =
    chain (pair (below_member first) (chain (tail (type_of_path (pick i p)) (types_of_paths (picked i P))) (picked-field i P)))
    (chain field_of_meet (fields (below_meet (also (below_member first) (each (types_of_paths P) (below_member (later first)))))))

type-left : (P Q : PlainPaths) → IsSubtype (type_of_paths (append P Q)) (type_of_paths P)
type-left no_paths Q = below_meet none
type-left (and_path p P) Q =
    below_meet (also (below_member first)
    (each (types_of_paths P) (chain (tail (type_of_path p) (types_of_paths (append P Q))) (type-left P Q))))

type-right : (P Q : PlainPaths) → IsSubtype (type_of_paths (append P Q)) (type_of_paths Q)
type-right no_paths Q = same
type-right (and_path p P) Q = chain (tail (type_of_path p) (types_of_paths (append P Q))) (type-right P Q)

-- a type and the meet of its paths are below each other
mutual
  to-paths : (A : PlainType) → IsSubtype A (type_of_paths (paths A))
  to-paths ns = below_meet none
  to-paths (atom a) = below_meet (also same none)
  to-paths (arrow A B) =
      chain (arrows (from-paths A) (to-paths B))
      (below_meet (each-called (paths A) (paths B) (members (types_of_paths (paths B)))))
  to-paths (field i A) = chain (fields (to-paths A)) (below_meet (each-picked i (paths A) (members (types_of_paths (paths A)))))
  to-paths (meet As) = below_meet (each-to_paths As (members As))

  from-paths : (A : PlainType) → IsSubtype (type_of_paths (paths A)) A
  from-paths ns = below_ns
  from-paths (atom a) = below_member first
  from-paths (arrow A B) = chain (called-arrow (paths A) (paths B)) (arrows (to-paths A) (from-paths B))
  from-paths (field i A) = chain (picked-field i (paths A)) (fields (from-paths A))
  from-paths (meet As) = below_meet (each-from_paths As)

  each-to_paths : {C : PlainType} (As : PlainTypes) → IsBelowEach C As → IsBelowEach C (types_of_paths (all_paths As))
  each-to_paths no_types low = none
  each-to_paths (and_type A As) (also low rest) =
      each-append (paths A) (all_paths As) (each (types_of_paths (paths A)) (chain low (to-paths A))) (each-to_paths As rest)

  each-from_paths : (As : PlainTypes) → IsBelowEach (type_of_paths (all_paths As)) As
  each-from_paths no_types = none
  each-from_paths (and_type A As) =
      also (chain (type-left (paths A) (all_paths As)) (from-paths A))
      (IsBelowEach-chain (type-right (paths A) (all_paths As)) (each-from_paths As))

-- an order of paths is an order of the types that they stand for
mutual
  IsPathBelow-types : {p q : PlainPath} → IsPathBelow p q → IsSubtype (type_of_path p) (type_of_path q)
  IsPathBelow-types (ends same_end) = same
  IsPathBelow-types (ends compl_below) = compl_below_comm
  IsPathBelow-types (calls wide low) = arrows (below_meet (ArePathsBelow-each wide)) (IsPathBelow-types low)
  IsPathBelow-types (picks low) = fields (IsPathBelow-types low)

  ArePathsBelow-each : {P Q : PlainPaths} → ArePathsBelow P Q → IsBelowEach (type_of_paths P) (types_of_paths Q)
  ArePathsBelow-each none_left = none
  ArePathsBelow-each (and_above some rest) = also (HasBelow-types some) (ArePathsBelow-each rest)

  HasBelow-types : {P : PlainPaths} {q : PlainPath} → HasBelow P q → IsSubtype (type_of_paths P) (type_of_path q)
  HasBelow-types (here low) = chain (below_member first) (IsPathBelow-types low)
  HasBelow-types (there {p = p} {P = P} some) = chain (tail (type_of_path p) (types_of_paths P)) (HasBelow-types some)

pub ArePathsBelow-types : {P Q : PlainPaths} → ArePathsBelow P Q → IsSubtype (type_of_paths P) (type_of_paths Q)
ArePathsBelow-types below = below_meet (ArePathsBelow-each below)

-- the path form of the type of a list of paths is that list
mutual
  paths-of_path : (p : PlainPath) → paths (type_of_path p) ≡ and_path p no_paths
  paths-of_path (end a) = refl
  paths-of_path (call D p) = rw (paths-of_types D, paths-of_path p) refl
  paths-of_path (pick i p) = rw (paths-of_path p) refl

  pub paths-of_types : (P : PlainPaths) → all_paths (types_of_paths P) ≡ P
  paths-of_types no_paths = refl
  paths-of_types (and_path p P) = rw (paths-of_path p, paths-of_types P) refl

-- types are in the relation exactly where their path forms are in order
pub subtype-iff : (A B : PlainType) → IsSubtype A B ↔ ArePathsBelow (paths A) (paths B)
subtype-iff A B = (IsSubtype-paths, λ below. chain (to-paths A) (chain (ArePathsBelow-types below) (from-paths B)))

-- path forms are in order exactly where the types that they stand for are in the relation
pub forms-iff : (P Q : PlainPaths) → IsSubtype (type_of_paths P) (type_of_paths Q) ↔ ArePathsBelow P Q
forms-iff P Q = (λ low. rw (paths-of_types P, paths-of_types Q) at (IsSubtype-paths low), ArePathsBelow-types)
