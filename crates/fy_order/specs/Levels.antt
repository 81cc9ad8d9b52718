-- The paths of a form and, level by level, those in their domains, of which those alike are one.
use Rattle.std.specs.Prelude.{◌≡◌, ◌<◌, ◌+◌, ◌⊎◌, ⊤, ℕ, zero, suc, Bool, true, false, not, List, [], ◌∷◌, ◌++◌, length, map, All, Contains, get_or, if◌then◌else◌}
use Rattle.std.specs.BTreeMap.{BTreeMap, get}
use Rattle.std.specs.Option.{option_map_or}
use Rattle.std.specs.Ordering.{is_eq, nat_cmp}
use Rattle.std.specs.declared.alloc.Global.{Global}
use Rattle.std.specs.declared.vec.Vec.{Vec}
use Rattle.fy_types.specs.declared.types.Atom.{Atom}
use Rattle.fy_types.specs.Once.{place}
use Rattle.fy_types.specs.Paths.{PlainPath, PlainPaths, end, call, pick, no_paths, and_path}
use Rattle.fy_types.specs.PathOrder.{IsPathBelow}
use Rattle.fy_types.specs.Reading.{plain_path}
use Rattle.fy_forms.specs.Numbers.{mixed}
use Rattle.fy_order.specs.declared.index.Index.{Index}
use Rattle.fy_order.specs.declared.index.Indexed.{Indexed}
use Rattle.fy_order.specs.declared.levels.Level.{Level}
use Rattle.fy_order.specs.declared.levels.Met.{Met}
use Rattle.fy_order.specs.declared.sign.Tagged.{Tagged}

-- a path, and the place of the call in whose domain it stands
pub record PlainTagged : Type 0 where
  pub tag : ℕ
  pub path : PlainPath

abbrev pub plain_tagged : Tagged → PlainTagged
plain_tagged t = record { tag = t.tag; path = plain_path t.path.now }

-- the paths of a list, each with the tag
abbrev pub all_tagged : ℕ → PlainPaths → List PlainTagged
all_tagged n no_paths = []
all_tagged n (and_path p P) = record { tag = n; path = p } ∷ all_tagged n P

-- the paths in the domains of a path's calls, in order, where its first element has the place n
abbrev pub inner_from : ℕ → PlainPath → List PlainTagged
inner_from n (end a) = []
inner_from n (call D p) = all_tagged n D ++ inner_from (suc n) p
inner_from n (pick i p) = inner_from (suc n) p

abbrev pub inner : PlainTagged → List PlainTagged
inner t = inner_from 0 t.path

-- those in the domains of each path of the list, in order
abbrev pub next : List PlainTagged → List PlainTagged
next [] = []
next (t ∷ ts) = inner t ++ next ts

-- the path has the other's tag and is below it
abbrev pub IsBelow : PlainTagged → PlainTagged → Type 0
IsBelow t u = (t.tag ≡ u.tag) × IsPathBelow t.path u.path

-- a number that is made of a tag, the calls and fields, and an end
abbrev pub sign_from : ℕ → Atom → PlainPath → ℕ
sign_from n b (end a) = mixed n (place b)
sign_from n b (call D p) = sign_from (mixed n 0) b p
sign_from n b (pick i p) = sign_from (mixed n (i + 1)) b p

abbrev pub sign : PlainTagged → Atom → ℕ
sign t b = sign_from t.tag b t.path

abbrev pub end_of : PlainPath → Atom
end_of (end a) = a
end_of (call D p) = end_of p
end_of (pick i p) = end_of p

abbrev pub own_sign : PlainTagged → ℕ
own_sign t = sign t (end_of t.path)

-- the list has the path at the place
abbrev pub IsAt : List PlainTagged → ℕ → PlainTagged → Type 0
IsAt [] k t = ⊥
IsAt (x ∷ xs) zero t = x ≡ t
IsAt (x ∷ xs) (suc k) t = IsAt xs k t

abbrev pub Signs : Type 0
Signs = BTreeMap ℕ (Vec ℕ Global)

-- the places that the map has at the sign
abbrev pub places_at : Signs → ℕ → List ℕ
places_at m s = option_map_or (λ l. l.items) (get nat_cmp m s) []

-- the second map has the place besides, after those of the sign
abbrev pub IsNotedToo : Signs → Signs → ℕ → ℕ → Type 0
IsNotedToo m n s k = (q : ℕ) → places_at n q ≡ places_at m q ++ (if is_eq (nat_cmp s q) then k ∷ [] else [])

-- the list at the place, or nothing where there is none
abbrev pub list_at : List (Vec ℕ Global) → ℕ → List ℕ
list_at [] k = []
list_at (v ∷ vs) zero = v.items
list_at (v ∷ vs) (suc k) = list_at vs k

-- the lists have only places below the number
abbrev pub AreWithin : ℕ → List (Vec ℕ Global) → Type 0
AreWithin n lists = All (λ (list : Vec ℕ Global). All (λ k. k < n) list.items) lists

-- the list has at the place a path that is below the other one and above it
pub record StandsAlike (U : List PlainTagged) (k : ℕ) (t : PlainTagged) : Type 0 where
  pub node : PlainTagged
  pub at : IsAt U k node
  pub low : IsBelow node t
  pub high : IsBelow t node

-- at the places stand paths alike, one for each in order
abbrev pub AreAt : List PlainTagged → List ℕ → List PlainTagged → Type 0
AreAt U [] [] = ⊤
AreAt U [] (t ∷ ts) = ⊥
AreAt U (k ∷ ks) [] = ⊥
AreAt U (k ∷ ks) (t ∷ ts) = StandsAlike U k t × AreAt U ks ts

-- of each path the places are those of the paths in its domains
abbrev pub AreInner : List PlainTagged → List (Vec ℕ Global) → List PlainTagged → Type 0
AreInner U [] [] = ⊤
AreInner U [] (t ∷ ts) = ⊥
AreInner U (v ∷ vs) [] = ⊥
AreInner U (v ∷ vs) (t ∷ ts) = AreAt U v.items (inner t) × AreInner U vs ts

-- the second list has the first one, and then paths of the third alone
pub record IsGrown (T U ts : List PlainTagged) : Type 0 where
  pub more : List PlainTagged
  pub is : U ≡ T ++ more
  pub from : (t : PlainTagged) → Contains more t → Contains ts t

abbrev pub met_in : Met → List PlainTagged
met_in m = map plain_tagged m.nodes.items

-- the level's paths have their signs, and those in their domains stand on the list U
pub record IsLevel (l : Level) (U : List PlainTagged) : Type 0 where
  pub signs : l.signs.items ≡ map own_sign (map plain_tagged l.nodes.items)
  pub inner : AreInner U l.inner.items (map plain_tagged l.nodes.items)

-- the paths of the first level
abbrev pub nodes : List Level → List PlainTagged
nodes [] = []
nodes (l ∷ ls) = map plain_tagged l.nodes.items

-- the paths in the domains of each level's stand on the next one
abbrev pub AreLevels : List Level → Type 0
AreLevels [] = ⊤
AreLevels (l ∷ ls) = IsLevel l (nodes ls) × AreLevels ls

-- the second lists have the place besides, in the one at the other place
pub record IsOwnedToo (before after : List (Vec ℕ Global)) (inner place : ℕ) : Type 0 where
  pub long : length after ≡ length before
  pub kept : (j k : ℕ) → Contains (list_at before j) k → Contains (list_at after j) k
  pub owned : Contains (list_at after inner) place

-- each path is found by one that stands in its domains, or by its sign
abbrev pub IsByOne : Level → Index → Type 0
IsByOne l i = (k : ℕ) → k < length l.signs.items →
    Contains (places_at i.places (get_or l.signs.items k 0)) k
    ⊎ ((j : ℕ) × Contains (list_at l.inner.items k) j × Contains (list_at i.owners.items j) k)

-- each path is found by its sign, and by each that stands in its domains
pub record IsByAll (l : Level) (i : Index) : Type 0 where
  pub signed : (k : ℕ) → k < length l.signs.items → Contains (places_at i.places (get_or l.signs.items k 0)) k
  pub owned : (k j : ℕ) → k < length l.signs.items → Contains (list_at l.inner.items k) j → Contains (list_at i.owners.items j) k

abbrev pub IsIndexed : Bool → Level → Index → Type 0
IsIndexed true l i = IsByAll l i
IsIndexed false l i = IsByOne l i

abbrev pub indexed_nodes : List Indexed → List PlainTagged
indexed_nodes [] = []
indexed_nodes (x ∷ xs) = map plain_tagged x.level.nodes.items

-- the same of levels with indexes, of which every second one has each path by all
abbrev pub AreIndexed : Bool → List Indexed → Type 0
AreIndexed all [] = ⊤
AreIndexed all (x ∷ xs) = IsLevel x.level (indexed_nodes xs) × (IsIndexed all x.level x.index × AreIndexed (not all) xs)

-- there are none, or they are those of the form's paths
abbrev pub MayBeLevels : List Indexed → PlainPaths → Type 0
MayBeLevels xs P = (xs ≡ []) ⊎ ((indexed_nodes xs ≡ all_tagged 0 P) × AreIndexed false xs)

-- the places have all paths of the list that are below the path
abbrev pub HaveBelow : List PlainTagged → PlainTagged → List ℕ → Type 0
HaveBelow T u ks = (k : ℕ) (t : PlainTagged) → IsAt T k t → IsBelow t u → Contains ks k

-- the places have all paths of the list that are above the path
abbrev pub HaveAbove : List PlainTagged → PlainTagged → List ℕ → Type 0
HaveAbove T t ks = (k : ℕ) (u : PlainTagged) → IsAt T k u → IsBelow t u → Contains ks k

-- the same for each path of the second list, with the list at its place
abbrev pub AreBelow : List PlainTagged → List PlainTagged → List (Vec ℕ Global) → Type 0
AreBelow T U lists = (i : ℕ) (u : PlainTagged) → IsAt U i u → HaveBelow T u (list_at lists i)

abbrev pub AreAbove : List PlainTagged → List PlainTagged → List (Vec ℕ Global) → Type 0
AreAbove T U lists = (i : ℕ) (t : PlainTagged) → IsAt U i t → HaveAbove T t (list_at lists i)

-- the lists have what is above each path of the second levels but the first, of those of the first levels but the first
abbrev pub AreCovers : List Indexed → List Level → List (Vec ℕ Global) → Type 0
AreCovers [] ls lists = ⊤
AreCovers (x ∷ xs) [] lists = ⊤
AreCovers (x ∷ xs) (l ∷ ls) lists = AreAbove (indexed_nodes xs) (nodes ls) lists
