-- Paths of a list that are enough for the common paths with it.
use Rattle.std.proofs.Common.{ℕ, ◌+◌, ◌<◌, ◌≡◌, zero, suc, Bool, true, false, not, cond, Some, None, List, [], ◌∷◌, ◌++◌, length, map, filter, take, get_or, refl, ap, sym, ◌∙◌, subst, arith}
use Rattle.std.proofs.lemmas.List.{map-append, take_more}
use Rattle.std.proofs.lemmas.List.Elements.{All-push}
use Rattle.std.specs.Prelude.{All}
use Rattle.std.specs.Borrow.{Bor}
use Rattle.std.specs.BTreeMap.{get, is_at}
use Rattle.std.specs.Map.{lookup}
use Rattle.std.specs.Ordering.{nat_cmp}
use Rattle.fy_types.specs.declared.paths.Path.{Path}
use Rattle.fy_types.specs.Paths.{PlainPath, PlainPaths, no_paths, and_path, append}
use Rattle.fy_types.specs.Reading.{plain_path, plain_elems}
use Rattle.fy_types.specs.Once.{contains}
use Rattle.fy_types.specs.Bounds.{common, commons_with}
use Rattle.fy_types.specs.Keeping.{all_added}
use Rattle.fy_types.proofs.Laws.{append-none}
use Rattle.fy_types.proofs.ReadLemmas.{plain_path-at}
use Rattle.fy_forms.specs.declared.rows.Table.{Table}
use Rattle.fy_forms.specs.declared.rows.Row.{Row}
use Rattle.fy_forms.specs.declared.fresh.Found.{Found}
use Rattle.fy_forms.specs.declared.fresh.Known.{Known}
use Rattle.fy_forms.specs.declared.index.Groups.{Groups}
use Rattle.fy_forms.specs.Keys.{group_at, lent}
use Rattle.fy_forms.specs.Rows.{members, is_new, last, stands_for, IsRow, flag_at, lacks_flag, IsFlagged, IsEnough, IsFound, IsMet, IsKnown, KnownKeys, AreKnown}
use Rattle.fy_forms.proofs.KeepLemmas.{commons_with-append, all_added-append}
use Rattle.fy_forms.proofs.KeyLemmas.{lent-append, is_equal, group-alike}
use Rattle.fy_forms.proofs.RowLemmas.{contains-append, contains-behind, contains-all_behind, all-known, common-same, new-same, filter-known, last-fronted}

pub path-last : (p : Path) → last (plain_path p) ≡ p.end
path-last p = rw (plain_path-at p) (last-fronted (plain_elems p.elems) p.end)

commons_lent-push : (K : PlainPaths) (p : PlainPath) (xs : List (Bor Path)) (x : Bor Path) →
    all_added K (commons_with p (lent (xs ++ (x ∷ [])))) ≡ all_added (all_added K (commons_with p (lent xs))) (common p (plain_path x.now))
commons_lent-push K p xs x =
    ap (λ X. all_added K (commons_with p X)) (lent-append xs (x ∷ []))
    ∙ (ap (all_added K) (commons_with-append p (lent xs) (and_path (plain_path x.now) no_paths)
    ∙ ap (append (commons_with p (lent xs))) (append-none (common p (plain_path x.now))))
    ∙ all_added-append K (commons_with p (lent xs)) (common p (plain_path x.now)))

pub enough-more : (t : Table) (F : List Bool) (xs ys : List (Bor Path)) (x : Bor Path) → IsEnough t F (lent xs) (lent ys) →
    IsEnough t F (lent (xs ++ (x ∷ []))) (lent (ys ++ (x ∷ [])))
enough-more t F xs ys x enough p flagged K =
    commons_lent-push K p xs x
    ∙ (ap (λ P. all_added P (common p (plain_path x.now))) (enough p flagged K) ∙ sym (commons_lent-push K p ys x))

not-false : (b : Bool) → not b ≡ false → b ≡ true
not-false true e = refl
not-false false e = absurd (cc)

news-whole : (t : Table) (F : List Bool) (p : PlainPath) → IsFlagged t F p → (is : List ℕ) →
    filter (is_new p) (map (stands_for t) is) ≡ filter (is_new p) (map (stands_for t) (filter (lacks_flag F) is))
news-whole t F p flagged is = filter-known (stands_for t) (lacks_flag F) (is_new p) (λ i e. flagged i (not-false (flag_at F i) e)) is

-- the news of a row are right
pub found-row : (t : Table) (F : List Bool) (r : Row) (f : Found) → IsRow t r → f.path ≡ r.path → f.is_whole ≡ r.is_whole →
    f.news.items ≡ filter (lacks_flag F) r.indexes.items → IsFound t F f
found-row t F r f row path whole news is p flagged =
    ap (λ is. filter (is_new p) (map (stands_for t) is)) news
    ∙ (sym (news-whole t F p flagged r.indexes.items)
    ∙ (ap (filter (is_new p)) (row (sym whole ∙ is)) ∙ ap (λ (x : Bor Path). filter (is_new p) (members 0 (plain_path x.now))) (sym path)))

member-common : (p : PlainPath) (fs : List Found) (k : ℕ) (f : Found) (x : PlainPath) → k < length fs → get_or fs k f ≡ f →
    contains (common p (plain_path f.path.now)) x ≡ true → contains (commons_with p (lent (map (λ (y : Found). y.path) fs))) x ≡ true
member-common p [] k f x within at e = absurd (omega arith)
member-common p (g ∷ fs) zero f x within at e =
    contains-append (common p (plain_path g.path.now)) (commons_with p (lent (map (λ (y : Found). y.path) fs))) x
    (subst (λ (y : Found). contains (common p (plain_path y.path.now)) x ≡ true) (sym at) e)
member-common p (g ∷ fs) (suc k) f x within at e =
    contains-behind (common p (plain_path g.path.now)) (commons_with p (lent (map (λ (y : Found). y.path) fs))) x
    (member-common p fs k f x (omega arith) at e)

-- a path with the elements, the end and the news of one that was found adds nothing
met-known : (t : Table) (F : List Bool) (fs : List Found) (r : Row) (news : List ℕ) → All (IsFound t F) fs → IsRow t r →
    news ≡ filter (lacks_flag F) r.indexes.items → IsMet fs r news → (p : PlainPath) → IsFlagged t F p → (K : PlainPaths) →
    all_added (all_added K (commons_with p (lent (map (λ (y : Found). y.path) fs)))) (common p (plain_path r.path.now))
    ≡ all_added K (commons_with p (lent (map (λ (y : Found). y.path) fs)))
met-known t F fs r news each row is (f, (k, within, at), again) p flagged K =
    let found : IsFound t F f = subst (IsFound t F) at (each k f within) in
    let new : filter (is_new p) (members 0 (plain_path r.path.now)) ≡ filter (is_new p) (members 0 (plain_path f.path.now)) =
    ap (filter (is_new p)) (sym (row again.whole))
    ∙ (news-whole t F p flagged r.indexes.items
    ∙ (ap (λ is. filter (is_new p) (map (stands_for t) is)) (sym is ∙ sym again.news) ∙ found again.found p flagged)) in
    let same : common p (plain_path r.path.now) ≡ common p (plain_path f.path.now) =
    common-same (plain_path r.path.now) (plain_path f.path.now) p again.alike
    (path-last r.path.now ∙ (again.ends ∙ sym (path-last f.path.now))) (new-same (plain_path r.path.now) (plain_path f.path.now) p new) in
    let C = commons_with p (lent (map (λ (y : Found). y.path) fs)) in
    ap (all_added (all_added K C)) same
    ∙ all-known (all_added K C) (common p (plain_path f.path.now)) (λ x e. contains-all_behind K C x (member-common p fs k f x within at e))

pub enough-met : (t : Table) (F : List Bool) (fs : List Found) (ys : List (Bor Path)) (r : Row) (news : List ℕ) →
    IsEnough t F (lent (map (λ (y : Found). y.path) fs)) (lent ys) → All (IsFound t F) fs → IsRow t r →
    news ≡ filter (lacks_flag F) r.indexes.items → IsMet fs r news →
    IsEnough t F (lent (map (λ (y : Found). y.path) fs)) (lent (ys ++ (r.path ∷ [])))
enough-met t F fs ys r news enough each row is met p flagged K =
    sym (met-known t F fs r news each row is met p flagged K)
    ∙ (ap (λ P. all_added P (common p (plain_path r.path.now))) (enough p flagged K) ∙ sym (commons_lent-push K p ys r.path))

pub rows-more : (xs : List Row) (i : ℕ) (x : Row) → i < length xs → x ≡ get_or xs i x →
    map (λ (y : Row). y.path) (take (i + 1) xs) ≡ map (λ (y : Row). y.path) (take i xs) ++ (x.path ∷ [])
rows-more xs i x within is =
    ap (map (λ (y : Row). y.path)) (take_more xs i x within ∙ ap (λ y. take i xs ++ (y ∷ [])) (sym is))
    ∙ map-append (λ (y : Row). y.path) (take i xs) (x ∷ [])

pub row-at : (t : Table) (rows xs : List Row) (i : ℕ) (x : Row) → xs ≡ rows → All (IsRow t) rows → i < length xs → x ≡ get_or xs i x → IsRow t x
row-at t rows xs i x same each within is =
    subst (IsRow t) (sym is) (subst (λ ys. All (IsRow t) ys) (sym same) each i x within)

-- one more path is found
pub found-push : (t : Table) (F : List Bool) (fs gs : List Found) (f : Found) (r : Row) (ys zs : List (Bor Path)) → gs ≡ fs ++ (f ∷ []) →
    f.path ≡ r.path → f.is_whole ≡ r.is_whole → f.news.items ≡ filter (lacks_flag F) r.indexes.items → IsRow t r → zs ≡ ys ++ (r.path ∷ []) →
    IsEnough t F (lent (map (λ (y : Found). y.path) fs)) (lent ys) → All (IsFound t F) fs →
    IsEnough t F (lent (map (λ (y : Found). y.path) gs)) (lent zs) × All (IsFound t F) gs
found-push t F fs gs f r ys zs push path whole news row more enough each =
    let paths : map (λ (y : Found). y.path) gs ≡ map (λ (y : Found). y.path) fs ++ (r.path ∷ []) =
    ap (map (λ (y : Found). y.path)) push
    ∙ (map-append (λ (y : Found). y.path) fs (f ∷ []) ∙ ap (λ x. map (λ (y : Found). y.path) fs ++ (x ∷ [])) path) in (
      subst (λ X. IsEnough t F (lent X) (lent zs)) (sym paths)
          (subst (λ Z. IsEnough t F (lent (map (λ (y : Found). y.path) fs ++ (r.path ∷ []))) (lent Z)) (sym more)
          (enough-more t F (map (λ (y : Found). y.path) fs) ys r.path enough)),
      subst (All (IsFound t F)) (sym push) (All-push (IsFound t F) fs f each (found-row t F r f row path whole news)),
    )

-- a path that adds nothing isn't
pub found-kept : (t : Table) (F : List Bool) (fs gs : List Found) (r : Row) (news : List ℕ) (ys zs : List (Bor Path)) → gs ≡ fs →
    news ≡ filter (lacks_flag F) r.indexes.items → IsMet fs r news → IsRow t r → zs ≡ ys ++ (r.path ∷ []) →
    IsEnough t F (lent (map (λ (y : Found). y.path) fs)) (lent ys) → All (IsFound t F) fs →
    IsEnough t F (lent (map (λ (y : Found). y.path) gs)) (lent zs) × All (IsFound t F) gs
found-kept t F fs gs r news ys zs same is met row more enough each = (
  subst (λ X. IsEnough t F (lent (map (λ (y : Found). y.path) X)) (lent zs)) (sym same)
      (subst (λ Z. IsEnough t F (lent (map (λ (y : Found). y.path) fs)) (lent Z)) (sym more)
      (enough-met t F fs ys r news enough each row is met)),
  subst (All (IsFound t F)) (sym same) each,
)

-- what is known at a key, with the others as they were
pub known-by : (old mid new : KnownKeys) (g : Groups) (key : ℕ) (now : Known) → AreKnown old g →
    ((q : ℕ) → get nat_cmp mid q ≡ cond (is_at (nat_cmp key) q) None (get nat_cmp old q)) →
    ((q : ℕ) → get nat_cmp new q ≡ cond (is_at (nat_cmp key) q) (Some now) (get nat_cmp mid q)) →
    IsKnown now (group_at g key) → AreKnown new g
known-by old mid new g key now known taken put is k x at = step (is_at (nat_cmp key) k) refl
  where
    step : (b : Bool) → is_at (nat_cmp key) k ≡ b → IsKnown x (group_at g k)
    step true here =
        let same : Some x ≡ Some now = sym at ∙ (put k ∙ ap (λ b. cond b (Some now) (get nat_cmp mid k)) here) in
        let equal : now ≡ x = cc in
        subst (λ l. IsKnown x l) (group-alike g key k (is_equal (nat_cmp key k) here)) (subst (λ y. IsKnown y (group_at g key)) equal is)
    step false here =
        known k x (sym (put k ∙ (ap (λ b. cond b (Some now) (get nat_cmp mid k)) here
        ∙ (taken k ∙ ap (λ b. cond b None (get nat_cmp old k)) here))) ∙ at)

-- nothing is known
pub known-none : (m : KnownKeys) (g : Groups) → m.entries ≡ [] → AreKnown m g
known-none m g none k x at = let e : None ≡ Some x = sym (ap (λ es. lookup (is_at (nat_cmp k)) es) none) ∙ at in absurd (cc)
