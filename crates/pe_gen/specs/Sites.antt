-- Where the items of code stand, and where nodes are entered.
use Rattle.std.specs.Prelude.{ℕ, ◌+◌, ◌<◌, ◌≤◌, ◌≡◌, ◌⊎◌, Bool, true, false, if◌then◌else◌, List, length, slice_get, Option, Some, None}
use Rattle.fy_phrase.specs.declared.shapes.Pair.{Pair}
use Rattle.fy_phrase.specs.declared.shapes.Shape.{Shape}
use Rattle.fy_phrase.specs.Sizes.{nodes}
use Rattle.fy_phrase.specs.Tree.{Tree, merge}
use Rattle.fy_derive.specs.Kinds.{Kind, kind_of}
use Rattle.fy_derive.specs.Shapes.{PlainShape, shape_begins}
use Rattle.pe_code.specs.declared.code.Entry.{Entry}
use Rattle.pe_code.specs.Entries.{AreInOrder}
use Rattle.pe_code.specs.Valid.{AreOnce}
use Rattle.pe_gen.specs.Preorder.{preorder}
use Rattle.pe_gen.specs.Steps.{shape_in}

abbrev pub is_merge : Tree → Bool
is_merge (merge p q at) = true
is_merge p = false

-- the right operand of a merge
abbrev pub right_of : Tree → Option Tree
right_of (merge p q at) = Some q
right_of p = None

-- whether a right operand of the kind takes demands of the shape
abbrev pub taken : Option Kind → PlainShape → Bool
taken None s = false
taken (Some kind) s = shape_begins kind s

abbrev pub taken_by : Tree → PlainShape → Bool
taken_by q s = taken (kind_of q) s

-- the node at which a demand of node k lands: of a merge's operands the one that takes it, and so on down
abbrev pub landing : ℕ → Tree → PlainShape → ℕ
landing k (merge p q at) s = if taken_by q s then landing (k + 1 + nodes p) q s else landing (k + 1) p s
landing k p s = k

-- of node k, where it is a merge, the operand that takes demands of the shape
abbrev pub operand_at : ℕ → Tree → PlainShape → Option ℕ
operand_at k (merge p q at) s = Some (if taken_by q s then k + 1 + nodes p else k + 1)
operand_at k p s = None

abbrev pub pair : ℕ → ℕ → Pair
pair k n = record { node = k; shape = n }

-- one pair stands before another: by node, then by shape
abbrev pub IsBefore : Pair → Pair → Type 0
IsBefore x y = (x.node < y.node) ⊎ (x.node ≡ y.node) × (x.shape < y.shape)

-- each pair of the list stands before those behind it
abbrev pub ArePairsInOrder : List Pair → Type 0
ArePairsInOrder pairs = (i j : ℕ) (x y : Pair) → i < j → slice_get pairs i ≡ Some x → slice_get pairs j ≡ Some y → IsBefore x y

-- no pair of the list stands before an earlier one
abbrev pub AreNotBefore : List Pair → Type 0
AreNotBefore pairs = (i j : ℕ) (x y : Pair) → i < j → slice_get pairs i ≡ Some x → slice_get pairs j ≡ Some y → (x.node < y.node) ⊎ (x.node ≡ y.node) × (x.shape ≤ y.shape)

-- the value is in the list
abbrev pub Stands : {X : Type 0} → List X → X → Type 0
Stands xs x = (i : ℕ) × (slice_get xs i ≡ Some x)

-- node k of the list is the phrase
abbrev pub IsListed : List (ℕ × Tree) → ℕ → Tree → Type 0
IsListed ns k p = (d : ℕ) × (slice_get ns k ≡ Some (d, p))

-- the list has the nodes of a phrase in preorder
abbrev pub IsListing : List (ℕ × Tree) → Type 0
IsListing ns = (p : Tree) × (ns ≡ preorder 0 p)

-- the pair's node is no merge
abbrev pub IsPlain : List (ℕ × Tree) → Pair → Type 0
IsPlain ns x = (p : Tree) × IsListed ns x.node p × (is_merge p ≡ false)

-- the nodes of the pairs are below the number
abbrev pub AreWithin : ℕ → List Pair → Type 0
AreWithin n pairs = (i : ℕ) (x : Pair) → slice_get pairs i ≡ Some x → x.node < n

-- the sites are just the pairs whose nodes are no merges, each once; the program's is the first, and the others are in order
pub record AreSites (ns : List (ℕ × Tree)) (pairs : List Pair) (program : Pair) (sites : List Pair) : Type 0 where
  pub first : slice_get sites 0 ≡ Some program
  pub known : (i : ℕ) (x : Pair) → slice_get sites i ≡ Some x → Stands pairs x × IsPlain ns x
  pub has : (x : Pair) → Stands pairs x → IsPlain ns x → Stands sites x
  pub apart : (i j : ℕ) (x : Pair) → slice_get sites i ≡ Some x → slice_get sites j ≡ Some x → i ≡ j
  pub order : (i j : ℕ) (x y : Pair) → 1 ≤ i → i < j → slice_get sites i ≡ Some x → slice_get sites j ≡ Some y → IsBefore x y

-- each pair lands at a site
abbrev pub LandAmong : List (ℕ × Tree) → List Shape → List Pair → List Pair → Type 0
LandAmong ns shapes pairs sites =
    (x : Pair) (p : Tree) (s : PlainShape) → Stands pairs x → IsListed ns x.node p → shape_in shapes x.shape ≡ Some s →
    Stands sites (pair (landing x.node p s) x.shape)

-- behind a merge's pair stands that of the operand to which it passes the demand
abbrev pub ArePassed : List (ℕ × Tree) → List Shape → List Pair → Type 0
ArePassed ns shapes pairs =
    (i : ℕ) (x : Pair) (p : Tree) (s : PlainShape) (k : ℕ) → slice_get pairs i ≡ Some x → IsListed ns x.node p → shape_in shapes x.shape ≡ Some s →
    operand_at x.node p s ≡ Some k → (j : ℕ) × (i < j) × (slice_get pairs j ≡ Some (pair k x.shape))

-- the address is that of the site at which the pair lands
abbrev pub LeadsTo : List (ℕ × Tree) → List Shape → List Pair → Pair → ℕ → Type 0
LeadsTo ns shapes sites x a =
    (p : Tree) (s : PlainShape) → IsListed ns x.node p → shape_in shapes x.shape ≡ Some s → slice_get sites a ≡ Some (pair (landing x.node p s) x.shape)

-- from place i on, the addresses of the pairs in their order
pub record AreAddressesFrom (ns : List (ℕ × Tree)) (shapes : List Shape) (pairs sites : List Pair) (i : ℕ) (addresses : List ℕ) : Type 0 where
  pub all : length addresses ≡ length pairs
  pub each : (j : ℕ) (x : Pair) → i ≤ j → slice_get pairs j ≡ Some x → (a : ℕ) × (slice_get addresses j ≡ Some a) × LeadsTo ns shapes sites x a

-- the entry is that of a pair, and leads to the site at which the pair lands
pub record IsEntryOf (ns : List (ℕ × Tree)) (shapes : List Shape) (pairs sites : List Pair) (entry : Entry) : Type 0 where
  pub stands : Stands pairs (pair entry.node entry.shape)
  pub node : Tree
  pub shape : PlainShape
  pub listed : IsListed ns entry.node node
  pub is : shape_in shapes entry.shape ≡ Some shape
  pub leads : slice_get sites entry.address ≡ Some (pair (landing entry.node node shape) entry.shape)

-- there is one entry for each pair, in order
pub record AreEntries (ns : List (ℕ × Tree)) (shapes : List Shape) (pairs sites : List Pair) (entries : List Entry) : Type 0 where
  pub known : (i : ℕ) (e : Entry) → slice_get entries i ≡ Some e → IsEntryOf ns shapes pairs sites e
  pub has : (x : Pair) → Stands pairs x → (e : Entry) × Stands entries e × (e.node ≡ x.node) × (e.shape ≡ x.shape)
  pub once : AreOnce entries
  pub ordered : AreInOrder entries
