-- The members of the domains of a path, the indexes that stand for them, and lists of paths whose common paths are enough.
use Rattle.std.specs.Prelude.{◌≡◌, ℕ, suc, zero, ◌+◌, Bool, true, false, not, Some, List, [], ◌∷◌, ◌++◌, map, filter, All, Contains, slice_index_or, if◌then◌else◌}
use Rattle.std.specs.Borrow.{Bor}
use Rattle.std.specs.BTreeMap.{BTreeMap, get}
use Rattle.std.specs.Ordering.{nat_cmp}
use Rattle.fy_types.specs.declared.types.Atom.{Atom}
use Rattle.fy_types.specs.declared.types.Atom.TheVariants.{Int}
use Rattle.fy_types.specs.declared.paths.Path.{Path}
use Rattle.fy_types.specs.Paths.{PlainPath, PlainPaths, end, call, pick, no_paths, and_path}
use Rattle.fy_types.specs.Reading.{plain_path}
use Rattle.fy_types.specs.Once.{contains}
use Rattle.fy_types.specs.Bounds.{common, commons_with}
use Rattle.fy_types.specs.Keeping.{all_added, is_some}
use Rattle.fy_forms.specs.declared.rows.Member.{Member}
use Rattle.fy_forms.specs.declared.rows.Listed.{Listed}
use Rattle.fy_forms.specs.declared.rows.Table.{Table}
use Rattle.fy_forms.specs.declared.rows.Row.{Row}
use Rattle.fy_forms.specs.declared.rows.Rows.{Rows}
use Rattle.fy_forms.specs.declared.fresh.Known.{Known}
use Rattle.fy_forms.specs.declared.fresh.Found.{Found}
use Rattle.fy_forms.specs.declared.index.Groups.{Groups}
use Rattle.fy_forms.specs.Keys.{group_at, lent}

-- a member of a domain, with the number of elements before the call
abbrev pub PlainMember : Type 0
PlainMember = ℕ × PlainPath

abbrev pub plain_member : Member → PlainMember
plain_member m = (m.place, plain_path m.path.now)

abbrev pub tagged : ℕ → PlainPaths → List PlainMember
tagged k no_paths = []
tagged k (and_path p P) = (k, p) ∷ tagged k P

-- the members of the domains of a path that has so many elements before it
abbrev pub members : ℕ → PlainPath → List PlainMember
members k (end a) = []
members k (call D p) = tagged k D ++ members (k + 1) p
members k (pick i p) = members (k + 1) p

-- the members are the path's
abbrev pub IsListed : Listed → Type 0
IsListed x = map plain_member x.members.items ≡ members 0 (plain_path x.path.now)

-- the domain of the call that has so many elements before it
abbrev pub domain_at : PlainPath → ℕ → PlainPaths
domain_at (end a) k = no_paths
domain_at (call D p) zero = D
domain_at (call D p) (suc k) = domain_at p k
domain_at (pick i p) zero = no_paths
domain_at (pick i p) (suc k) = domain_at p k

-- the second list without the members of the first
abbrev pub minus : PlainPaths → PlainPaths → PlainPaths
minus D no_paths = no_paths
minus D (and_path e E) = if contains D e then minus D E else and_path e (minus D E)

-- the path lacks the member
abbrev pub is_new : PlainPath → PlainMember → Bool
is_new p m = not (contains (domain_at p m.0) m.1)

-- the end of a path
abbrev pub last : PlainPath → Atom
last (end a) = a
last (call D p) = last p
last (pick i p) = last p

-- the member that the index stands for
abbrev pub stands_for : Table → ℕ → PlainMember
stands_for t i = slice_index_or (map plain_member t.members.items) i (0, end Int)

-- the indexes, where they are whole, stand for the path's members
abbrev pub IsRow : Table → Row → Type 0
IsRow t r = r.is_whole ≡ true → map (stands_for t) r.indexes.items ≡ members 0 (plain_path r.path.now)

-- the rows are those of the paths
pub record AreRows (r : Rows) (list : List (Bor Path)) : Type 0 where
  pub each : All (IsRow r.table) r.rows.items
  pub paths : map (λ x. x.path) r.rows.items ≡ list

abbrev pub flag_at : List Bool → ℕ → Bool
flag_at F i = slice_index_or F i false

abbrev pub lacks_flag : List Bool → ℕ → Bool
lacks_flag F i = not (flag_at F i)

-- the path has each member with a flag
abbrev pub IsFlagged : Table → List Bool → PlainPath → Type 0
IsFlagged t F p = (i : ℕ) → flag_at F i ≡ true → is_new p (stands_for t i) ≡ false

-- the common paths of the path with the first list are those with the second, each once
abbrev pub IsEnoughFor : PlainPath → PlainPaths → PlainPaths → Type 0
IsEnoughFor p S Q = (K : PlainPaths) → all_added K (commons_with p S) ≡ all_added K (commons_with p Q)

-- so it is for each path that has each member with a flag
abbrev pub IsEnough : Table → List Bool → PlainPaths → PlainPaths → Type 0
IsEnough t F S Q = (p : PlainPath) → IsFlagged t F p → IsEnoughFor p S Q

-- the news, where they are whole, are the path's members but for some with a flag
abbrev pub IsFound : Table → List Bool → Found → Type 0
IsFound t F f =
    f.is_whole ≡ true → (p : PlainPath) → IsFlagged t F p →
    filter (is_new p) (map (stands_for t) f.news.items) ≡ filter (is_new p) (members 0 (plain_path f.path.now))

-- the path that was found has the news, the elements and the end of the row's
pub record IsAgain (f : Found) (r : Row) (is : List ℕ) : Type 0 where
  pub found : f.is_whole ≡ true
  pub whole : r.is_whole ≡ true
  pub ends : r.path.now.end ≡ f.path.now.end
  pub news : f.news.items ≡ is
  pub alike : is_some (common (plain_path r.path.now) (plain_path f.path.now)) ≡ true

-- some path that was found is such
abbrev pub IsMet : List Found → Row → List ℕ → Type 0
IsMet fs r news = (f : Found) × Contains fs f × IsAgain f r news

-- it has the rows of the list, and what was met is enough
pub record IsKnown (k : Known) (list : List (Bor Path)) : Type 0 where
  pub rows : AreRows k.rows list
  pub met : All (λ e. IsEnough k.rows.table e.flags.items (lent e.fresh.items) (lent list)) k.met.items

abbrev pub KnownKeys : Type 0
KnownKeys = BTreeMap ℕ Known

-- what is known at a key is known of the list that the key has
abbrev pub AreKnown : KnownKeys → Groups → Type 0
AreKnown m g = (k : ℕ) (x : Known) → get nat_cmp m k ≡ Some x → IsKnown x (group_at g k)
