-- The paths of a level, and where those in their domains stand on the next one.
use Rattle.std.proofs.Common.{Vec, Global, ℕ, zero, suc, ◌+◌, ◌<◌, ◌≡◌, List, [], ◌∷◌, ◌++◌, length, get_or, map, take, All, Contains, inl, inr, refl, sym, ap, ◌∙◌, subst, arith, append-nil, append_assoc}
use Rattle.std.proofs.lemmas.List.{length-map, map-append, take_more}
use Rattle.std.proofs.lemmas.List.Elements.{Contains-append_left, Contains-append_right, Contains-append_cases}
use Rattle.fy_types.specs.declared.types.Atom.{Atom}
use Rattle.fy_types.specs.declared.paths.Path.{Path}
use Rattle.fy_types.specs.Paths.{PlainPath, end}
use Rattle.fy_types.specs.Reading.{PlainElem, a_call, a_field, front, fronted, plain_elems, plain_path}
use Rattle.fy_types.specs.PathOrder.{IsPathBelow}
use Rattle.fy_types.proofs.Order.{IsPathBelow-refl}
use Rattle.fy_types.proofs.ReadLemmas.{plain_path-at}
use Rattle.fy_forms.specs.Numbers.{mixed, mark}
use Rattle.fy_order.specs.declared.sign.Tagged.{Tagged}
use Rattle.fy_order.specs.Levels.{PlainTagged, AreAt, AreInner, AreWithin, IsAt, IsGrown, StandsAlike, end_of, inner, list_at, next, plain_tagged, sign_from}

-- Places in lists.

pub at-before : (xs ys : List PlainTagged) (i : ℕ) (d : PlainTagged) → IsAt xs i d → IsAt (xs ++ ys) i d
at-before [] ys i d at = absurd at
at-before (x ∷ xs) ys zero d at = at
at-before (x ∷ xs) ys (suc i) d at = at-before xs ys i d at

pub at-within : (xs : List PlainTagged) (i : ℕ) (d : PlainTagged) → IsAt xs i d → i < length xs
at-within [] i d at = absurd at
at-within (x ∷ xs) zero d at = omega arith
at-within (x ∷ xs) (suc i) d at = omega (arith, at-within xs i d at)

-- at one place stands one path
pub at-once : (xs : List PlainTagged) (i : ℕ) (c d : PlainTagged) → IsAt xs i c → IsAt xs i d → c ≡ d
at-once [] i c d one two = absurd one
at-once (x ∷ xs) zero c d one two = sym one ∙ two
at-once (x ∷ xs) (suc i) c d one two = at-once xs i c d one two

-- at each place of the list stands a path
pub at-some : (xs : List PlainTagged) (i : ℕ) → i < length xs → (d : PlainTagged) × IsAt xs i d
at-some [] i within = absurd (omega arith)
at-some (x ∷ xs) zero within = (x, refl)
at-some (x ∷ xs) (suc i) within = at-some xs i (omega arith)

-- what stands at a place is in the list, and what is in the list stands at a place
pub at-contained : (xs : List PlainTagged) (i : ℕ) (d : PlainTagged) → IsAt xs i d → Contains xs d
at-contained [] i d at = absurd at
at-contained (x ∷ xs) zero d at = (0, omega arith, at)
at-contained (x ∷ xs) (suc i) d at = let h = at-contained xs i d at in (suc h.0, omega (arith, h.1), h.2)

pub tagged-at : (xs : List Tagged) (j : ℕ) (x : Tagged) (e : PlainTagged) → x ≡ get_or xs j x → IsAt (map plain_tagged xs) j e → plain_tagged x ≡ e
tagged-at [] j x e is at = absurd at
tagged-at (y ∷ xs) zero x e is at = ap plain_tagged is ∙ at
tagged-at (y ∷ xs) (suc j) x e is at = tagged-at xs j x e is at

pub at-few : (xs : List Tagged) (j : ℕ) (e : PlainTagged) → IsAt (map plain_tagged xs) j e → j < length xs
at-few xs j e at = omega (arith, at-within (map plain_tagged xs) j e at, length-map xs plain_tagged)

pub at-index : (xs : List Tagged) (i : ℕ) (x : Tagged) → i < length xs → x ≡ get_or xs i x → IsAt (map plain_tagged xs) i (plain_tagged x)
at-index [] i x few is = absurd (omega arith)
at-index (y ∷ xs) zero x few is = ap plain_tagged (sym is)
at-index (y ∷ xs) (suc i) x few is = at-index xs i x (omega arith) is

-- the sign of a path from its first element on
pub sign-front : (n : ℕ) (b : Atom) (x : PlainElem) (p : PlainPath) → sign_from n b (front x p) ≡ sign_from (mixed n (mark x)) b p
sign-front n b (a_call D) p = refl
sign-front n b (a_field i) p = refl

pub end-fronted : (xs : List PlainElem) (a : Atom) → end_of (fronted xs (end a)) ≡ a
end-fronted [] a = refl
end-fronted (a_call D ∷ xs) a = end-fronted xs a
end-fronted (a_field i ∷ xs) a = end-fronted xs a

-- the end of a path that a value is
pub end-of_path : (p : Path) → end_of (plain_path p) ≡ p.end
end-of_path p = rw (plain_path-at p) (end-fronted (plain_elems p.elems) p.end)

-- Lists that grow.

pub grown-none : (T ts : List PlainTagged) → IsGrown T T ts
grown-none T ts = record { more = []; is = sym (append-nil T); from = λ t has. absurd (let (i, within, is) = has in omega arith) }

pub grown-then : (T U V ts us : List PlainTagged) → IsGrown T U ts → IsGrown U V us → IsGrown T V (ts ++ us)
grown-then T U V ts us one two = record {
  more = one.more ++ two.more;
  is = two.is ∙ (ap (λ xs. xs ++ two.more) one.is ∙ append_assoc T one.more two.more);
  from = λ t has. elim (Contains-append_cases one.more two.more t has) [
    | inl h ↦ Contains-append_left ts us t (one.from t h)
    | inr h ↦ Contains-append_right ts us t (two.from t h)
  ];
}

pub at-grown : (T U ts : List PlainTagged) → IsGrown T U ts → (k : ℕ) (u : PlainTagged) → IsAt T k u → IsAt U k u
at-grown T U ts grown k u at = subst (λ xs. IsAt xs k u) (sym grown.is) (at-before T grown.more k u at)

pub alike-grown : (T U ts : List PlainTagged) → IsGrown T U ts → (k : ℕ) (t : PlainTagged) → StandsAlike T k t → StandsAlike U k t
alike-grown T U ts grown k t one = record { node = one.node; at = at-grown T U ts grown k one.node one.at; low = one.low; high = one.high }

pub are_at-grown : (T U ts : List PlainTagged) → IsGrown T U ts → (ks : List ℕ) (xs : List PlainTagged) → AreAt T ks xs → AreAt U ks xs
are_at-grown T U ts grown [] [] are = are
are_at-grown T U ts grown [] (x ∷ xs) are = absurd are
are_at-grown T U ts grown (k ∷ ks) [] are = absurd are
are_at-grown T U ts grown (k ∷ ks) (x ∷ xs) are = (alike-grown T U ts grown k x are.0, are_at-grown T U ts grown ks xs are.1)

pub are_at-push : (U : List PlainTagged) (ks : List ℕ) (xs : List PlainTagged) (k : ℕ) (t : PlainTagged) → AreAt U ks xs → StandsAlike U k t →
    AreAt U (ks ++ (k ∷ [])) (xs ++ (t ∷ []))
are_at-push U [] [] k t are one = (one, are)
are_at-push U [] (x ∷ xs) k t are one = absurd are
are_at-push U (j ∷ ks) [] k t are one = absurd are
are_at-push U (j ∷ ks) (x ∷ xs) k t are one = (are.0, are_at-push U ks xs k t are.1 one)

pub are_inner-grown : (T U ts : List PlainTagged) → IsGrown T U ts → (vs : List (Vec ℕ Global)) (xs : List PlainTagged) → AreInner T vs xs → AreInner U vs xs
are_inner-grown T U ts grown [] [] are = are
are_inner-grown T U ts grown [] (x ∷ xs) are = absurd are
are_inner-grown T U ts grown (v ∷ vs) [] are = absurd are
are_inner-grown T U ts grown (v ∷ vs) (x ∷ xs) are =
    (are_at-grown T U ts grown v.items (inner x) are.0, are_inner-grown T U ts grown vs xs are.1)

pub are_inner-push : (U : List PlainTagged) (vs : List (Vec ℕ Global)) (xs : List PlainTagged) (v : Vec ℕ Global) (t : PlainTagged) → AreInner U vs xs → AreAt U v.items (inner t) →
    AreInner U (vs ++ (v ∷ [])) (xs ++ (t ∷ []))
are_inner-push U [] [] v t are one = (one, are)
are_inner-push U [] (x ∷ xs) v t are one = absurd are
are_inner-push U (w ∷ vs) [] v t are one = absurd are
are_inner-push U (w ∷ vs) (x ∷ xs) v t are one = (are.0, are_inner-push U vs xs v t are.1 one)

-- What stands in the domains.

-- one alike each path stands at one of the places
pub inner-has : (U : List PlainTagged) (ks : List ℕ) (ts : List PlainTagged) → AreAt U ks ts → (i : ℕ) (d : PlainTagged) → IsAt ts i d →
    (k : ℕ) × Contains ks k × StandsAlike U k d
inner-has U [] [] are i d at = absurd at
inner-has U [] (t ∷ ts) are i d at = absurd are
inner-has U (k ∷ ks) [] are i d at = absurd at
inner-has U (k ∷ ks) (t ∷ ts) are zero d at = (k, (0, omega arith, refl), subst (StandsAlike U k) at are.0)
inner-has U (k ∷ ks) (t ∷ ts) are (suc i) d at =
    let h = inner-has U ks ts are.1 i d at in
    (h.0, (suc h.1.0, omega (arith, h.1.1), h.1.2), h.2)

-- and at each of the places stands one alike one of the paths
pub inner-is : (U : List PlainTagged) (ks : List ℕ) (ts : List PlainTagged) → AreAt U ks ts → (k : ℕ) → Contains ks k →
    (i : ℕ) × (d : PlainTagged) × IsAt ts i d × StandsAlike U k d
inner-is U [] ts are k has = let (i, within, is) = has in absurd (omega arith)
inner-is U (j ∷ ks) [] are k has = absurd are
inner-is U (j ∷ ks) (t ∷ ts) are k (zero, within, is) = (0, t, refl, subst (λ n. StandsAlike U n t) is are.0)
inner-is U (j ∷ ks) (t ∷ ts) are k (suc i, within, is) =
    let h = inner-is U ks ts are.1 k (i, omega arith, is) in
    (suc h.0, h.1, h.2, h.3)

-- the list at a path's place has those in its domains
pub inner-list : (U : List PlainTagged) (vs : List (Vec ℕ Global)) (T : List PlainTagged) → AreInner U vs T → (k : ℕ) (t : PlainTagged) → IsAt T k t →
    AreAt U (list_at vs k) (inner t)
inner-list U [] [] are k t at = absurd at
inner-list U [] (x ∷ T) are k t at = absurd are
inner-list U (v ∷ vs) [] are k t at = absurd at
inner-list U (v ∷ vs) (x ∷ T) are zero t at = subst (λ y. AreAt U v.items (inner y)) at are.0
inner-list U (v ∷ vs) (x ∷ T) are (suc k) t at = inner-list U vs T are.1 k t at

at-all-within : (U : List PlainTagged) (ks : List ℕ) (ts : List PlainTagged) → AreAt U ks ts → All (λ k. k < length U) ks
at-all-within U [] ts are i d lt = absurd (omega arith)
at-all-within U (k ∷ ks) [] are i d lt = absurd are
at-all-within U (k ∷ ks) (t ∷ ts) are zero d lt = at-within U k are.0.node are.0.at
at-all-within U (k ∷ ks) (t ∷ ts) are (suc i) d lt = at-all-within U ks ts are.1 i d (omega arith)

-- all places are on the next level
pub inner-within : (U : List PlainTagged) (vs : List (Vec ℕ Global)) (T : List PlainTagged) → AreInner U vs T → AreWithin (length U) vs
inner-within U [] T are i d lt = absurd (omega arith)
inner-within U (v ∷ vs) [] are i d lt = absurd are
inner-within U (v ∷ vs) (t ∷ T) are zero d lt = at-all-within U v.items (inner t) are.0
inner-within U (v ∷ vs) (t ∷ T) are (suc i) d lt = inner-within U vs T are.1 i d (omega arith)

-- Lists that are made.

pub at-last : (xs : List Tagged) (x : Tagged) → IsAt (map plain_tagged (xs ++ (x ∷ []))) (length xs) (plain_tagged x)
at-last [] x = refl
at-last (y ∷ xs) x = at-last xs x

-- the first paths of a list and the one at the index
pub tagged-more : (xs : List Tagged) (i : ℕ) (x : Tagged) → i < length xs → x ≡ get_or xs i x →
    map plain_tagged (take (i + 1) xs) ≡ map plain_tagged (take i xs) ++ (plain_tagged x ∷ [])
tagged-more xs i x within is =
    ap (map plain_tagged) (take_more xs i x within ∙ ap (λ y. take i xs ++ (y ∷ [])) (sym is))
    ∙ map-append plain_tagged (take i xs) (x ∷ [])

pub next-push : (T : List PlainTagged) (t : PlainTagged) → next (T ++ (t ∷ [])) ≡ next T ++ inner t
next-push [] t = append-nil (inner t)
next-push (x ∷ T) t = ap (λ xs. inner x ++ xs) (next-push T t) ∙ sym (append_assoc (inner x) (next T) (inner t))

pub none-alike : (T : List PlainTagged) (p : PlainTagged) (k : ℕ) → IsAt T k p → StandsAlike T k p
none-alike T p k at = record { node = p; at = at; low = (refl, IsPathBelow-refl p.path); high = (refl, IsPathBelow-refl p.path) }

-- what a list that grew from nothing has
pub grown-from : (U ts : List PlainTagged) → IsGrown [] U ts → (t : PlainTagged) → Contains U t → Contains ts t
grown-from U ts grown t has = grown.from t (subst (λ xs. Contains xs t) grown.is has)

-- the places of some of the paths were added, and the rest of them are left
pub record ArePlaced (T U : List PlainTagged) (ks js : List ℕ) (rest all : List PlainTagged) : Type 0 where
  pub before : List PlainTagged
  pub is : before ++ rest ≡ all
  pub at : (ts : List PlainTagged) → AreAt T ks ts → AreAt U js (ts ++ before)
  pub grown : IsGrown T U before

pub placed-none : (T : List PlainTagged) (ks : List ℕ) (all : List PlainTagged) → ArePlaced T T ks ks all all
placed-none T ks all = record {
  before = [];
  is = refl;
  at = λ ts are. subst (AreAt T ks) (sym (append-nil ts)) are;
  grown = grown-none T [];
}

pub placed-more : (T U V : List PlainTagged) (ks js is : List ℕ) (more rest all : List PlainTagged) → ArePlaced T U ks js (more ++ rest) all →
    ((ts : List PlainTagged) → AreAt U js ts → AreAt V is (ts ++ more)) → IsGrown U V more → ArePlaced T V ks is rest all
placed-more T U V ks js is more rest all placed at grown = record {
  before = placed.before ++ more;
  is = append_assoc placed.before more rest ∙ placed.is;
  at = λ ts are. subst (AreAt V is) (append_assoc ts placed.before more) (at (ts ++ placed.before) (placed.at ts are));
  grown = grown-then T U V placed.before more placed.grown grown;
}

pub placed-at : (T U : List PlainTagged) (ks js : List ℕ) (all : List PlainTagged) → ArePlaced T U ks js [] all →
    (ts : List PlainTagged) → AreAt T ks ts → AreAt U js (ts ++ all)
placed-at T U ks js all placed ts are =
    subst (λ xs. AreAt U js (ts ++ xs)) (sym (append-nil placed.before) ∙ placed.is) (placed.at ts are)

pub placed-grown : (T U : List PlainTagged) (ks js : List ℕ) (all : List PlainTagged) → ArePlaced T U ks js [] all → IsGrown T U all
placed-grown T U ks js all placed = subst (IsGrown T U) (sym (append-nil placed.before) ∙ placed.is) placed.grown

-- one with the path's tag that is below it and above it stands at the place
pub alike-at : (xs : List Tagged) (i : ℕ) (x y t : Tagged) → i < length xs → x ≡ get_or xs i x → y ≡ get_or xs i y → x.tag ≡ t.tag →
    IsPathBelow (plain_path y.path.now) (plain_path t.path.now) → IsPathBelow (plain_path t.path.now) (plain_path y.path.now) →
    StandsAlike (map plain_tagged xs) i (plain_tagged t)
alike-at xs i x y t few isx isy tag low high =
    let at = at-index xs i y few isy in
    let same = ap (λ (u : PlainTagged). u.tag) (at-once (map plain_tagged xs) i (plain_tagged y) (plain_tagged x) at (at-index xs i x few isx)) ∙ tag in
    record { node = plain_tagged y; at = at; low = (same, low); high = (sym same, high) }
