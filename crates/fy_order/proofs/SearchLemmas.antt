-- What is below a path, or above it, has its signs, and what stands in the domains the other way round.
use Rattle.std.proofs.Common.{take, drop, Vec, Global, ℕ, zero, suc, ◌+◌, ◌-◌, ◌<◌, ◌≤◌, ◌≡◌, ◌⊎◌, inl, inr, List, [], ◌∷◌, ◌++◌, length, get_or, Contains, map, refl, sym, ap, ◌∙◌, subst, arith, zero-add, below_more, Bool, true, false}
use Rattle.std.proofs.Math.Seq.{take-length}
use Rattle.std.proofs.lemmas.List.{get_or_default, length-map}
use Rattle.std.proofs.lemmas.List.Elements.{Contains-append_left, Contains-push}
use Rattle.fy_types.specs.declared.types.Atom.{Atom}
use Rattle.fy_types.specs.declared.types.Atom.TheVariants.{Comm, Compl}
use Rattle.fy_types.specs.Paths.{PlainPath, PlainPaths, end, call, pick, no_paths, and_path}
use Rattle.fy_types.specs.PathOrder.{IsEndBelow, same_end, compl_below, IsPathBelow, ends, calls, picks, ArePathsBelow, and_above, HasBelow, here, there}
use Rattle.fy_types.proofs.Order.{IsPathBelow-trans}
use Rattle.fy_forms.specs.Numbers.{mixed}
use Rattle.fy_order.specs.Levels.{PlainTagged, AreAbove, AreBelow, AreCovers, AreIndexed, AreInner, AreLevels, HaveAbove, HaveBelow, IsAt, IsBelow, IsIndexed, IsLevel, indexed_nodes, inner, nodes, plain_tagged, inner_from, all_tagged, list_at, sign, sign_from, own_sign, end_of}
use Rattle.fy_order.specs.declared.index.Indexed.{Indexed}
use Rattle.fy_order.specs.declared.levels.Level.{Level}
use Rattle.fy_order.specs.declared.sign.Tagged.{Tagged}
use Rattle.fy_order.specs.declared.sign.Wanted.{Wanted}
use Rattle.fy_order.specs.Searching.{AreCovered, AreMet, IsWanted}
use Rattle.fy_order.proofs.LevelLemmas.{at-before, at-within, tagged-at, inner-has, inner-is, inner-list}

-- paths below one another have the same signs but for the end
sign-alike : (n : ℕ) (b : Atom) (p q : PlainPath) → IsPathBelow p q → sign_from n b p ≡ sign_from n b q
sign-alike n b (end a) (end c) (ends low) = refl
sign-alike n b (call D p) (call E q) (calls wide low) = sign-alike (mixed n 0) b p q low
sign-alike n b (pick i p) (pick j q) (picks low) = sign-alike (mixed n (i + 1)) b p q low
sign-alike n b (end a) (call E q) low = elim low [ ]
sign-alike n b (end a) (pick j q) low = elim low [ ]
sign-alike n b (call D p) (end c) low = elim low [ ]
sign-alike n b (call D p) (pick j q) low = elim low [ ]
sign-alike n b (pick i p) (end c) low = elim low [ ]
sign-alike n b (pick i p) (call E q) low = elim low [ ]

end-below : {p q : PlainPath} → IsPathBelow p q → IsEndBelow (end_of p) (end_of q)
end-below (ends low) = low
end-below (calls wide low) = end-below low
end-below (picks low) = end-below low

own-below : (t u : PlainTagged) → IsBelow t u → (own_sign t ≡ sign u (end_of t.path)) × IsEndBelow (end_of t.path) (end_of u.path)
own-below t u low =
    (ap (λ n. sign_from n (end_of t.path) t.path) low.0 ∙ sign-alike u.tag (end_of t.path) t.path u.path low.1, end-below low.1)

own-above : (t u : PlainTagged) → IsBelow t u → (own_sign u ≡ sign t (end_of u.path)) × IsEndBelow (end_of t.path) (end_of u.path)
own-above t u low =
    (sym (ap (λ n. sign_from n (end_of u.path) t.path) low.0 ∙ sign-alike u.tag (end_of u.path) t.path u.path low.1), end-below low.1)

wanted-low : {x y : Atom} (f : Atom → ℕ) (s : ℕ) (a b : Atom) → IsEndBelow x y → s ≡ f x → y ≡ a → (a ≡ Comm → b ≡ Compl) → (s ≡ f a) ⊎ (s ≡ f b)
wanted-low f s a b same_end e is turn = inl (e ∙ ap f is)
wanted-low f s a b compl_below e is turn = inr (e ∙ ap f (sym (turn (sym is))))

wanted-high : {x y : Atom} (f : Atom → ℕ) (s : ℕ) (a b : Atom) → IsEndBelow x y → s ≡ f y → x ≡ a → (a ≡ Compl → b ≡ Comm) → (s ≡ f a) ⊎ (s ≡ f b)
wanted-high f s a b same_end e is turn = inl (e ∙ ap f is)
wanted-high f s a b compl_below e is turn = inr (e ∙ ap f (sym (turn (sym is))))

-- what is below a path has its sign, or the one with `compl` for `comm`
pub wanted-below : (t u : PlainTagged) (a b : Atom) → IsBelow t u → end_of u.path ≡ a → (a ≡ Comm → b ≡ Compl) → (own_sign t ≡ sign u a) ⊎ (own_sign t ≡ sign u b)
wanted-below t u a b low is turn = let h = own-below t u low in wanted-low (sign u) (own_sign t) a b h.1 h.0 is turn

-- what is above a path has its sign, or the one with `comm` for `compl`
pub wanted-above : (t u : PlainTagged) (a b : Atom) → IsBelow t u → end_of t.path ≡ a → (a ≡ Compl → b ≡ Comm) → (own_sign u ≡ sign t a) ⊎ (own_sign u ≡ sign t b)
wanted-above t u a b low is turn = let h = own-above t u low in wanted-high (sign t) (own_sign u) a b h.1 h.0 is turn

-- some path of the list is below the path
abbrev pub SomeBelow : List PlainTagged → PlainTagged → Type 0
SomeBelow L d = (i : ℕ) × (e : PlainTagged) × IsAt L i e × IsBelow e d

some-before : (xs ys : List PlainTagged) (d : PlainTagged) → SomeBelow xs d → SomeBelow (xs ++ ys) d
some-before xs ys d h = (h.0, h.1, at-before xs ys h.0 h.1 h.2, h.3)

pub at-after : (xs ys : List PlainTagged) (i : ℕ) (d : PlainTagged) → IsAt ys i d → IsAt (xs ++ ys) (length xs + i) d
at-after [] ys i d at = rw (zero-add i) at
at-after (x ∷ xs) ys i d at = let e : suc (length xs) + i ≡ suc (length xs + i) = omega arith in rw e (at-after xs ys i d at)

some-after : (xs ys : List PlainTagged) (d : PlainTagged) → SomeBelow ys d → SomeBelow (xs ++ ys) d
some-after xs ys d h = (length xs + h.0, h.1, at-after xs ys h.0 h.1 h.2, h.3)

some-tagged : (n : ℕ) (E : PlainPaths) (p : PlainPath) → HasBelow E p → SomeBelow (all_tagged n E) (record { tag = n; path = p })
some-tagged n (and_path e E) p (here low) = (0, record { tag = n; path = e }, refl, (refl, low))
some-tagged n (and_path e E) p (there some) = let h = some-tagged n E p some in (suc h.0, h.1, h.2, h.3)
some-tagged n no_paths p some = elim some [ ]

each-tagged : (n : ℕ) (E D : PlainPaths) → ArePathsBelow E D → (i : ℕ) (d : PlainTagged) → IsAt (all_tagged n D) i d → SomeBelow (all_tagged n E) d
each-tagged n E no_paths wide i d at = absurd at
each-tagged n E (and_path p D) (and_above some wide) zero d at = subst (SomeBelow (all_tagged n E)) at (some-tagged n E p some)
each-tagged n E (and_path p D) (and_above some wide) (suc i) d at = each-tagged n E D wide i d at

at-split : (xs ys : List PlainTagged) (i : ℕ) (d : PlainTagged) → IsAt (xs ++ ys) i d → IsAt xs i d ⊎ ((j : ℕ) × IsAt ys j d)
at-split [] ys i d at = inr (i, at)
at-split (x ∷ xs) ys zero d at = inl at
at-split (x ∷ xs) ys (suc i) d at = at-split xs ys i d at

each-from : (n : ℕ) (p q : PlainPath) → IsPathBelow p q → (i : ℕ) (d : PlainTagged) → IsAt (inner_from n p) i d → SomeBelow (inner_from n q) d
each-from n (end a) (end b) (ends low) i d at = absurd at
each-from n (call D p) (call E q) (calls wide low) i d at = elim (at-split (all_tagged n D) (inner_from (suc n) p) i d at) [
  | inl h ↦ some-before (all_tagged n E) (inner_from (suc n) q) d (each-tagged n E D wide i d h)
  | inr h ↦ some-after (all_tagged n E) (inner_from (suc n) q) d (each-from (suc n) p q low h.0 d h.1)
]
each-from n (pick k p) (pick j q) (picks low) i d at = each-from (suc n) p q low i d at
each-from n (end a) (call E q) low i d at = elim low [ ]
each-from n (end a) (pick j q) low i d at = elim low [ ]
each-from n (call D p) (end c) low i d at = elim low [ ]
each-from n (call D p) (pick j q) low i d at = elim low [ ]
each-from n (pick k p) (end c) low i d at = elim low [ ]
each-from n (pick k p) (call E q) low i d at = elim low [ ]

-- of a path below another, each path in the domains is above some path in the other's
pub each-inner : (t u : PlainTagged) → IsBelow t u → (i : ℕ) (d : PlainTagged) → IsAt (inner t) i d → SomeBelow (inner u) d
each-inner t u low i d at = each-from 0 t.path u.path low.1 i d at

below-then : (t u v : PlainTagged) → IsBelow t u → IsBelow u v → IsBelow t v
below-then t u v low high = (low.0 ∙ high.0, IsPathBelow-trans u.path low.1 high.1)

pub sign-at : (T : List PlainTagged) (k : ℕ) (t : PlainTagged) → IsAt T k t → get_or (map own_sign T) k 0 ≡ own_sign t
sign-at [] k t at = absurd at
sign-at (x ∷ T) zero t at = ap own_sign at
sign-at (x ∷ T) (suc k) t at = sign-at T k t at

-- what stands in the domains of a path that is below another one is covered by what is above those in the other's
pub covered-below : (U V T W : List PlainTagged) (vs ws covers : List (Vec ℕ Global)) → AreInner U vs T → AreInner V ws W → AreAbove U V covers →
    (k i : ℕ) (t u : PlainTagged) → IsAt T k t → IsAt W i u → IsBelow t u → AreCovered covers (list_at ws i) (list_at vs k)
covered-below U V T W vs ws covers inner_t inner_u above k i t u at_t at_u low e has =
    let one = inner-is U (list_at vs k) (inner t) (inner-list U vs T inner_t k t at_t) e has in
    let some = each-inner t u low one.0 one.1 one.2 in
    let two = inner-has V (list_at ws i) (inner u) (inner-list V ws W inner_u i u at_u) some.0 some.1 some.2 in
    let x = one.3 in
    let y = two.2 in (
      two.0,
      two.1,
      above two.0 y.node y.at e x.node x.at
          (below-then y.node some.1 x.node y.low (below-then some.1 one.1 x.node some.3 x.high)),
    )

-- each of those in the domains of a path that is below another one has one below it in the other's
pub met-above : (U V T W : List PlainTagged) (vs ws lows : List (Vec ℕ Global)) → AreInner U vs T → AreInner V ws W → AreBelow U V lows →
    (k i : ℕ) (t u : PlainTagged) → IsAt T k u → IsAt W i t → IsBelow t u → AreMet lows (list_at ws i) (list_at vs k)
met-above U V T W vs ws lows inner_u inner_t below k i t u at_u at_t low j has =
    let one = inner-is V (list_at ws i) (inner t) (inner-list V ws W inner_t i t at_t) j has in
    let some = each-inner t u low one.0 one.1 one.2 in
    let two = inner-has U (list_at vs k) (inner u) (inner-list U vs T inner_u k u at_u) some.0 some.1 some.2 in
    let x = one.3 in
    let y = two.2 in (
      two.0,
      two.1,
      below j x.node x.at two.0 y.node y.at
          (below-then y.node some.1 x.node y.low (below-then some.1 one.1 x.node some.3 x.high)),
    )

-- all but the first
abbrev pub rest : {A : Type 0} → List A → List A
rest xs = take (length xs - 1) (drop 1 xs)

pub first-rest : {A : Type 0} (xs : List A) (x : A) → x ≡ get_or xs 0 x → 1 ≤ length xs → xs ≡ x ∷ rest xs
first-rest [] x is some = absurd (omega arith)
first-rest (y ∷ ys) x is some =
    let e : length (y ∷ ys) - 1 ≡ length ys = omega arith in rw (e, take-length ys) (ap (λ z. z ∷ ys) (sym is))

-- Lists that are walked through, and those that grow by one.

-- what holds at each place of the list holds of all that it has
pub each-has : (P : ℕ → Type 0) (list : List ℕ) (i : ℕ) → length list ≤ i → ((j : ℕ) → j < i → P (get_or list j 0)) → (k : ℕ) → Contains list k → P k
each-has P list i all each k has =
    subst P (get_or_default list has.0 0 k has.1 ∙ has.2) (each has.0 (omega (arith, has.1)))

pub pushed-kept : (xs ys : List ℕ) (x k : ℕ) → ys ≡ xs ++ (x ∷ []) → Contains xs k → Contains ys k
pushed-kept xs ys x k is has = subst (λ zs. Contains zs k) (sym is) (Contains-append_left xs (x ∷ []) k has)

pub pushed-has : (xs ys : List ℕ) (x : ℕ) → ys ≡ xs ++ (x ∷ []) → Contains ys x
pushed-has xs ys x is = subst (λ zs. Contains zs x) (sym is) (Contains-push xs x)

-- if the path at the place has one of the signs, and all in its domains are covered, the place is on the list
abbrev pub IsTaken : Level → Wanted → List ℕ → List ℕ → ℕ → Type 0
IsTaken level wanted covered found k = k < length level.signs.items → IsWanted wanted (get_or level.signs.items k 0)
    → ((j : ℕ) → Contains (list_at level.inner.items k) j → Contains covered j) → Contains found k

-- if the path at the place has one of the signs, and each list at the domains has one in its own, the place is on the list
abbrev pub IsHigh : Level → Wanted → List ℕ → List (Vec ℕ Global) → List ℕ → ℕ → Type 0
IsHigh level wanted domains lists found k = k < length level.signs.items → IsWanted wanted (get_or level.signs.items k 0)
    → AreMet lists domains (list_at level.inner.items k) → Contains found k

-- what is below a path, or above it, is found by its sign, and by what stands in the domains

pub sign-on : (l : Level) (U : List PlainTagged) → IsLevel l U → (k : ℕ) (t : PlainTagged) → IsAt (map plain_tagged l.nodes.items) k t → get_or l.signs.items k 0 ≡ own_sign t
sign-on l U level k t at = rw level.signs (sign-at (map plain_tagged l.nodes.items) k t at)

pub sign-few : (l : Level) (U : List PlainTagged) → IsLevel l U → (k : ℕ) (t : PlainTagged) → IsAt (map plain_tagged l.nodes.items) k t → k < length l.signs.items
sign-few l U level k t at =
    let T = map plain_tagged l.nodes.items in
    omega (arith, at-within T k t at, ap length level.signs, length-map T own_sign)

pub below-found : (low : Indexed) (more : List Indexed) (high : Level) (deeper : List Level) (covers : List (Vec ℕ Global)) (place : ℕ) (path : Tagged) (u : PlainTagged) (found : List ℕ) →
    AreIndexed false (low ∷ more) → AreLevels (high ∷ deeper) → AreCovers (low ∷ more) (high ∷ deeper) covers → path ≡ get_or high.nodes.items place path →
    IsAt (map plain_tagged high.nodes.items) place u →
    ((k : ℕ) (t : PlainTagged) → k < length low.level.signs.items → get_or low.level.signs.items k 0 ≡ own_sign t → IsBelow t (plain_tagged path) →
    AreCovered covers (list_at high.inner.items place) (list_at low.level.inner.items k) → Contains found k) →
    HaveBelow (map plain_tagged low.level.nodes.items) u found
below-found low more high deeper covers place path u found indexed levels above is at has k t at_t below =
    let U = indexed_nodes more in
    let V = nodes deeper in
    has k t (sign-few low.level U indexed.0 k t at_t) (sign-on low.level U indexed.0 k t at_t)
    (subst (IsBelow t) (sym (tagged-at high.nodes.items place path u is at)) below)
    (covered-below U V (map plain_tagged low.level.nodes.items) (map plain_tagged high.nodes.items) low.level.inner.items high.inner.items covers
    indexed.0.inner levels.0.inner above k place t u at_t at below)

pub above-found : (high : Indexed) (more : List Indexed) (low : Level) (deeper : List Level) (lows : List (Vec ℕ Global)) (place : ℕ) (path : Tagged) (t : PlainTagged) (found : List ℕ) →
    AreIndexed true (high ∷ more) → AreLevels (low ∷ deeper) → AreBelow (indexed_nodes more) (nodes deeper) lows → path ≡ get_or low.nodes.items place path →
    IsAt (map plain_tagged low.nodes.items) place t →
    ((k : ℕ) (u : PlainTagged) → k < length high.level.signs.items → get_or high.level.signs.items k 0 ≡ own_sign u → IsBelow (plain_tagged path) u →
    AreMet lows (list_at low.inner.items place) (list_at high.level.inner.items k) → Contains found k) →
    HaveAbove (map plain_tagged high.level.nodes.items) t found
above-found high more low deeper lows place path t found indexed levels are_below is at has k u at_u below =
    let U = indexed_nodes more in
    let V = nodes deeper in
    has k u (sign-few high.level U indexed.0 k u at_u) (sign-on high.level U indexed.0 k u at_u)
    (subst (λ x. IsBelow x u) (sym (tagged-at low.nodes.items place path t is at)) below)
    (met-above U V (map plain_tagged high.level.nodes.items) (map plain_tagged low.nodes.items) high.level.inner.items low.inner.items lows
    indexed.0.inner levels.0.inner are_below k place t u at_u at below)

-- Levels but the first.

pub rest-of : {A : Type 0} (x : A) (xs : List A) → rest (x ∷ xs) ≡ xs
rest-of x xs = let e : length (x ∷ xs) - 1 ≡ length xs = omega arith in rw e (take-length xs)

pub covers-rest : (a : List Indexed) (b : List Level) (covers : List (Vec ℕ Global)) → AreAbove (indexed_nodes (rest a)) (nodes (rest b)) covers → AreCovers a b covers
covers-rest [] b covers above = tt
covers-rest (x ∷ xs) [] covers above = tt
covers-rest (x ∷ xs) (l ∷ ls) covers above =
    subst (λ zs. AreAbove (indexed_nodes xs) (nodes zs) covers) (rest-of l ls) (subst (λ zs. AreAbove (indexed_nodes zs) (nodes (rest (l ∷ ls))) covers) (rest-of x xs) above)

-- Lists of lists that grow by one.

lists-last : (xs : List (Vec ℕ Global)) (v : Vec ℕ Global) → list_at (xs ++ (v ∷ [])) (length xs) ≡ v.items
lists-last [] v = refl
lists-last (x ∷ xs) v = lists-last xs v

lists-kept : (xs : List (Vec ℕ Global)) (v : Vec ℕ Global) (j : ℕ) → j < length xs → list_at (xs ++ (v ∷ [])) j ≡ list_at xs j
lists-kept [] v j few = absurd (omega arith)
lists-kept (x ∷ xs) v zero few = refl
lists-kept (x ∷ xs) v (suc j) few = lists-kept xs v j (omega arith)

-- what holds of each list so far and of the next one holds of each of both
pub lists-pushed : (P : ℕ → List ℕ → Type 0) (xs ys : List (Vec ℕ Global)) (v : Vec ℕ Global) (i : ℕ) → ys ≡ xs ++ (v ∷ []) → length xs ≡ i →
    ((j : ℕ) → j < i → P j (list_at xs j)) → P i v.items → (j : ℕ) → j < i + 1 → P j (list_at ys j)
lists-pushed P xs ys v i is long each last =
    rw is (below_more (λ j. P j (list_at (xs ++ (v ∷ [])) j)) i
    (λ j few. subst (P j) (sym (lists-kept xs v j (rw long few))) (each j few))
    (subst (λ n. P n (list_at (xs ++ (v ∷ [])) n)) long (subst (P (length xs)) (sym (lists-last xs v)) (subst (λ n. P n v.items) (sym long) last))))

-- The first of the levels.

pub nodes-first : (b : List Level) (high : Level) → high ≡ get_or b 0 high → 1 ≤ length b → nodes b ≡ map plain_tagged high.nodes.items
nodes-first b high is some = ap nodes (first-rest b high is some)

pub is_indexed-first : (all : Bool) (a : List Indexed) (low : Indexed) → low ≡ get_or a 0 low → 1 ≤ length a → AreIndexed all a → IsIndexed all low.level low.index
is_indexed-first all a low is some are = let now = subst (AreIndexed all) (first-rest a low is some) are in now.1.0

-- the same of lists of which only the first is named
pub first-below : (a : List Indexed) (b : List Level) (low : Indexed) (high : Level) (covers : List (Vec ℕ Global)) (place : ℕ) (path : Tagged) (u : PlainTagged) (found : List ℕ) →
    low ≡ get_or a 0 low → 1 ≤ length a → high ≡ get_or b 0 high → 1 ≤ length b →
    AreIndexed false a → AreLevels b → AreCovers a b covers → path ≡ get_or high.nodes.items place path → IsAt (nodes b) place u →
    ((k : ℕ) (t : PlainTagged) → k < length low.level.signs.items → get_or low.level.signs.items k 0 ≡ own_sign t → IsBelow t (plain_tagged path) →
    AreCovered covers (list_at high.inner.items place) (list_at low.level.inner.items k) → Contains found k) →
    HaveBelow (indexed_nodes a) u found
first-below a b low high covers place path u found is_low some_low is_high some_high indexed levels above is at has =
    let split_a = first-rest a low is_low some_low in
    let split_b = first-rest b high is_high some_high in
    subst (λ xs. HaveBelow (indexed_nodes xs) u found) (sym split_a)
    (below-found low (rest a) high (rest b) covers place path u found (subst (AreIndexed false) split_a indexed) (subst AreLevels split_b levels)
    (subst (λ ys. AreCovers (low ∷ rest a) ys covers) split_b (subst (λ xs. AreCovers xs b covers) split_a above)) is
    (subst (λ ys. IsAt (nodes ys) place u) split_b at) has)

pub first-above : (a : List Indexed) (b : List Level) (high : Indexed) (low : Level) (lows : List (Vec ℕ Global)) (place : ℕ) (path : Tagged) (t : PlainTagged) (found : List ℕ) →
    high ≡ get_or a 0 high → 1 ≤ length a → low ≡ get_or b 0 low → 1 ≤ length b →
    AreIndexed true a → AreLevels b → AreBelow (indexed_nodes (rest a)) (nodes (rest b)) lows → path ≡ get_or low.nodes.items place path → IsAt (nodes b) place t →
    ((k : ℕ) (u : PlainTagged) → k < length high.level.signs.items → get_or high.level.signs.items k 0 ≡ own_sign u → IsBelow (plain_tagged path) u →
    AreMet lows (list_at low.inner.items place) (list_at high.level.inner.items k) → Contains found k) →
    HaveAbove (indexed_nodes a) t found
first-above a b high low lows place path t found is_high some_high is_low some_low indexed levels are_below is at has =
    let split_a = first-rest a high is_high some_high in
    let split_b = first-rest b low is_low some_low in
    subst (λ xs. HaveAbove (indexed_nodes xs) t found) (sym split_a)
    (above-found high (rest a) low (rest b) lows place path t found (subst (AreIndexed true) split_a indexed) (subst AreLevels split_b levels) are_below is
    (subst (λ ys. IsAt (nodes ys) place t) split_b at) has)
