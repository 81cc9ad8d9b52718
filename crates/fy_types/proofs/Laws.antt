-- Each law of subtyping holds of path forms.
use Rattle.std.proofs.Common.{ℕ, ◌≡◌, refl, ap}
use Rattle.fy_types.specs.Types.{PlainType, PlainTypes}
use Rattle.fy_types.specs.Subtyping.{IsMember, first, later, IsSubtype, same, chain, below_member, below_meet, below_ns, ns_below_arrow, ns_below_field, arrows, fields, arrow_of_meet, field_of_meet, compl_below_comm, IsBelowEach, none, also}
use Rattle.fy_types.specs.Paths.{PlainPath, PlainPaths, call, pick, no_paths, and_path, append, called, picked, paths, all_paths}
use Rattle.fy_types.specs.PathOrder.{compl_below, ends, calls, picks, ArePathsBelow, none_left, and_above, HasBelow, here, there}
use Rattle.fy_types.proofs.Order.{paths-widened, ArePathsBelow-refl, ArePathsBelow-trans}

pub append-none : (P : PlainPaths) → append P no_paths ≡ P
append-none no_paths = refl
append-none (and_path p P) = ap (and_path p) (append-none P)

pub append_assoc : (P Q R : PlainPaths) → append (append P Q) R ≡ append P (append Q R)
append_assoc no_paths Q R = refl
append_assoc (and_path p P) Q R = ap (and_path p) (append_assoc P Q R)

pub called-append : (D P Q : PlainPaths) → called D (append P Q) ≡ append (called D P) (called D Q)
called-append D no_paths Q = refl
called-append D (and_path p P) Q = ap (and_path (call D p)) (called-append D P Q)

pub picked-append : (i : ℕ) (P Q : PlainPaths) → picked i (append P Q) ≡ append (picked i P) (picked i Q)
picked-append i no_paths Q = refl
picked-append i (and_path p P) Q = ap (and_path (pick i p)) (picked-append i P Q)

pub HasBelow-left : {P : PlainPaths} (Q : PlainPaths) {r : PlainPath} → HasBelow P r → HasBelow (append P Q) r
HasBelow-left Q (here below) = here below
HasBelow-left Q (there some) = there (HasBelow-left Q some)

pub HasBelow-right : (P : PlainPaths) {Q : PlainPaths} {r : PlainPath} → HasBelow Q r → HasBelow (append P Q) r
HasBelow-right no_paths some = some
HasBelow-right (and_path p P) some = there (HasBelow-right P some)

pub append-left : (P Q : PlainPaths) → ArePathsBelow (append P Q) P
append-left P Q = paths-widened (λ r some. HasBelow-left Q some) (ArePathsBelow-refl P)

pub append-right : (P Q : PlainPaths) → ArePathsBelow (append P Q) Q
append-right P Q = paths-widened (λ r some. HasBelow-right P some) (ArePathsBelow-refl Q)

pub append-greatest : {P Q R : PlainPaths} → ArePathsBelow P Q → ArePathsBelow P R → ArePathsBelow P (append Q R)
append-greatest none_left below = below
append-greatest (and_above some rest) below = and_above some (append-greatest rest below)

pub HasBelow-called : {D E P : PlainPaths} {q : PlainPath} → ArePathsBelow E D → HasBelow P q → HasBelow (called D P) (call E q)
HasBelow-called wide (here below) = here (calls wide below)
HasBelow-called wide (there some) = there (HasBelow-called wide some)

pub called-below : {D E P Q : PlainPaths} → ArePathsBelow E D → ArePathsBelow P Q → ArePathsBelow (called D P) (called E Q)
called-below wide none_left = none_left
called-below wide (and_above some rest) = and_above (HasBelow-called wide some) (called-below wide rest)

pub HasBelow-picked : {i : ℕ} {P : PlainPaths} {q : PlainPath} → HasBelow P q → HasBelow (picked i P) (pick i q)
HasBelow-picked (here below) = here (picks below)
HasBelow-picked (there some) = there (HasBelow-picked some)

pub picked-below : (i : ℕ) {P Q : PlainPaths} → ArePathsBelow P Q → ArePathsBelow (picked i P) (picked i Q)
picked-below i none_left = none_left
picked-below i (and_above some rest) = and_above (HasBelow-picked some) (picked-below i rest)

member-below : {As : PlainTypes} {A : PlainType} → IsMember As A → ArePathsBelow (all_paths As) (paths A)
member-below (first {A = A} {As = As}) = append-left (paths A) (all_paths As)
member-below (later {A = A} {B = B} {As = As} among) =
    ArePathsBelow-trans (all_paths As) (append-right (paths B) (all_paths As)) (member-below among)

law_of_arrows : (D P Q : PlainPaths) →
    ArePathsBelow (append (called D P) (append (called D Q) no_paths)) (called D (append P (append Q no_paths)))
law_of_arrows D P Q = rw (append-none Q, append-none (called D Q), called-append D P Q) (ArePathsBelow-refl _)

law_of_fields : (i : ℕ) (P Q : PlainPaths) →
    ArePathsBelow (append (picked i P) (append (picked i Q) no_paths)) (picked i (append P (append Q no_paths)))
law_of_fields i P Q = rw (append-none Q, append-none (picked i Q), picked-append i P Q) (ArePathsBelow-refl _)

mutual
  -- the paths of a subtype are below those of the type
  pub IsSubtype-paths : {A B : PlainType} → IsSubtype A B → ArePathsBelow (paths A) (paths B)
  IsSubtype-paths (same {A = A}) = ArePathsBelow-refl (paths A)
  IsSubtype-paths (chain {B = B} low high) = ArePathsBelow-trans (paths B) (IsSubtype-paths low) (IsSubtype-paths high)
  IsSubtype-paths (below_member among) = member-below among
  IsSubtype-paths (below_meet each) = IsBelowEach-paths each
  IsSubtype-paths below_ns = none_left
  IsSubtype-paths ns_below_arrow = none_left
  IsSubtype-paths ns_below_field = none_left
  IsSubtype-paths (arrows wide low) = called-below (IsSubtype-paths wide) (IsSubtype-paths low)
  IsSubtype-paths (fields {i = i} low) = picked-below i (IsSubtype-paths low)
  IsSubtype-paths (arrow_of_meet {A = A} {B = B} {C = C}) = law_of_arrows (paths A) (paths B) (paths C)
  IsSubtype-paths (field_of_meet {i = i} {A = A} {B = B}) = law_of_fields i (paths A) (paths B)
  IsSubtype-paths compl_below_comm = and_above (here (ends compl_below)) none_left

  IsBelowEach-paths : {C : PlainType} {As : PlainTypes} → IsBelowEach C As → ArePathsBelow (paths C) (all_paths As)
  IsBelowEach-paths none = none_left
  IsBelowEach-paths (also low rest) = append-greatest (IsSubtype-paths low) (IsBelowEach-paths rest)
