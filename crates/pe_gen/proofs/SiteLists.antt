-- The sites, as far as they are made.
use Rattle.std.proofs.Common.{ℕ, zero, suc, ◌+◌, ◌<◌, ◌≤◌, ◌≡◌, Bool, true, false, cond, inl, inr, List, [], ◌∷◌, ◌++◌, length, Some, refl, ap, sym, ◌∙◌, subst, arith}
use Rattle.std.specs.List.{list_any}
use Rattle.std.specs.Prelude.{slice_get}
use Rattle.std.proofs.lemmas.Bool.{cases_lt}
use Rattle.indexmap.specs.IndexSet.{insert_key}
use Rattle.fy_phrase.specs.declared.shapes.Pair.{Pair}
use Rattle.fy_phrase.specs.Tree.{Tree}
use Rattle.pe_gen.specs.Sites.{is_merge, Stands, IsPlain, IsBefore, ArePairsInOrder, AreSites}
use Rattle.pe_gen.proofs.Gets.{some_same, pair_second, get-within}
use Rattle.pe_gen.proofs.KeyLists.{AreKeysOnce, pushed-member, insert-member, insert-new, insert-old, insert-once}

module _ (ns : List (ℕ × Tree)) (pairs : List Pair) (program : Pair) where
  -- the sites are the program's and those of the first i pairs
  pub record AreSitesTo (i : ℕ) (sites : List Pair) : Type 0 where
    pub first : slice_get sites 0 ≡ Some program
    pub known : (j : ℕ) (x : Pair) → slice_get sites j ≡ Some x → Stands pairs x × IsPlain ns x
    pub has : (m : ℕ) (x : Pair) → m < i → slice_get pairs m ≡ Some x → IsPlain ns x → Stands sites x
    pub apart : AreKeysOnce sites
    -- those behind the program's are of the first i pairs, in their order
    pub behind : (j : ℕ) (x : Pair) → 1 ≤ j → slice_get sites j ≡ Some x → (m : ℕ) × (m < i) × (slice_get pairs m ≡ Some x)
    pub order : (j k : ℕ) (x y : Pair) → 1 ≤ j → j < k → slice_get sites j ≡ Some x → slice_get sites k ≡ Some y → IsBefore x y

  pub first-site : Stands pairs program → IsPlain ns program → AreSitesTo 0 (program ∷ [])
  first-site at plain = record {
    first = refl;
    known = λ j x is. by j x is;
    has = λ m x h is p. absurd (omega arith);
    apart = λ i j x a b. once i j x a b;
    behind = λ j x one is. alone j x one is;
    order = λ j k x y one l a b. let none = alone k y (omega arith) b in absurd (omega (arith, none.1));
  }
    where
      by : (j : ℕ) (x : Pair) → slice_get (program ∷ []) j ≡ Some x → Stands pairs x × IsPlain ns x
      by zero x is = subst (λ y. Stands pairs y × IsPlain ns y) (some_same is) (at, plain)
      by (suc j) x is = absurd cc

      once : (i j : ℕ) (x : Pair) → slice_get (program ∷ []) i ≡ Some x → slice_get (program ∷ []) j ≡ Some x → i ≡ j
      once zero zero x a b = refl
      once zero (suc j) x a b = absurd cc
      once (suc i) j x a b = absurd cc

      alone : (j : ℕ) (x : Pair) → 1 ≤ j → slice_get (program ∷ []) j ≡ Some x → (m : ℕ) × (m < 0) × (slice_get pairs m ≡ Some x)
      alone zero x one is = absurd (omega arith)
      alone (suc j) x one is = absurd cc

  next-behind : (eq : Pair → Pair → Bool) (i : ℕ) (sites : List Pair) (x : Pair) → AreSitesTo i sites → slice_get pairs i ≡ Some x →
      (j : ℕ) (y : Pair) → 1 ≤ j → slice_get (insert_key eq sites x) j ≡ Some y → (m : ℕ) × (m < i + 1) × (slice_get pairs m ≡ Some y)
  next-behind eq i sites x r is j y one at = by (list_any (eq x) sites) at
    where
      by : (b : Bool) → slice_get (cond b sites (sites ++ x ∷ [])) j ≡ Some y → (m : ℕ) × (m < i + 1) × (slice_get pairs m ≡ Some y)
      by true g = let o = r.behind j y one g in (o.0, omega (arith, o.1), o.2)
      by false g = elim (pushed-member sites x y j g) [
        | inl m ↦ let o = r.behind j y one m.1 in (o.0, omega (arith, o.1), o.2)
        | inr e ↦ (i, omega arith, is ∙ ap Some e.1)
      ]

  next-order : (eq : Pair → Pair → Bool) (i : ℕ) (sites : List Pair) (x : Pair) → ArePairsInOrder pairs → AreSitesTo i sites → slice_get pairs i ≡ Some x →
      (j k : ℕ) (y z : Pair) → 1 ≤ j → j < k → slice_get (insert_key eq sites x) j ≡ Some y → slice_get (insert_key eq sites x) k ≡ Some z → IsBefore y z
  next-order eq i sites x ordered r is j k y z one l at behind = by (list_any (eq x) sites) at behind
    where
      by : (b : Bool) → slice_get (cond b sites (sites ++ x ∷ [])) j ≡ Some y → slice_get (cond b sites (sites ++ x ∷ [])) k ≡ Some z → IsBefore y z
      by true f g = r.order j k y z one l f g
      by false f g = elim (pushed-member sites x y j f) [
        | inl m ↦ elim (pushed-member sites x z k g) [
          | inl n ↦ r.order j k y z one l m.1 n.1
          | inr e ↦ let o = r.behind j y one m.1 in subst (λ w. IsBefore y w) e.1 (ordered o.0 i y x o.1 o.2 is)
        ]
        | inr d ↦ elim (pushed-member sites x z k g) [
          | inl n ↦ absurd (omega (arith, d.0, n.0, l))
          | inr e ↦ absurd (omega (arith, d.0, e.0, l))
        ]
      ]

  pub next-site : (eq : Pair → Pair → Bool) → ((x y : Pair) → eq x y ≡ true → x ≡ y) → ((x : Pair) → eq x x ≡ true) → ArePairsInOrder pairs → (i : ℕ) (sites : List Pair) (x : Pair) →
      AreSitesTo i sites → slice_get pairs i ≡ Some x → IsPlain ns x → AreSitesTo (i + 1) (insert_key eq sites x)
  next-site eq same reflexive ordered i sites x r is plain = record {
    first = insert-old eq same reflexive sites x program 0 r.first;
    known = λ j y at. elim (insert-member eq same reflexive sites x y j at) [
      | inl s ↦ r.known s.0 y s.1
      | inr e ↦ subst (λ z. Stands pairs z × IsPlain ns z) e ((i, is), plain)
    ];
    has = λ m y h at p. elim (cases_lt m i) [
      | inl l ↦ let s = r.has m y l at p in (s.0, insert-old eq same reflexive sites x y s.0 s.1)
      | inr g ↦
          let here : m ≡ i = omega arith in
          let e : x ≡ y = some_same (sym is ∙ (ap (slice_get pairs) (sym here) ∙ at)) in
          subst (λ z. Stands (insert_key eq sites x) z) e (insert-new eq same reflexive sites x)
    ];
    apart = insert-once eq same reflexive sites x r.apart;
    behind = λ j y one at. next-behind eq i sites x r is j y one at;
    order = λ j k y z one l a b. next-order eq i sites x ordered r is j k y z one l a b;
  }

  -- a pair whose node is a merge has no site
  pub no-site : (i : ℕ) (sites : List Pair) (x : Pair) (d : ℕ) (q : Tree) → AreSitesTo i sites → slice_get pairs i ≡ Some x →
      slice_get ns x.node ≡ Some (d, q) → is_merge q ≡ true → AreSitesTo (i + 1) sites
  no-site i sites x d q r is listed merged = record {
    first = r.first;
    known = r.known;
    has = λ m y h at p. elim (cases_lt m i) [
      | inl l ↦ r.has m y l at p
      | inr g ↦
          let here : m ≡ i = omega arith in
          let e : y ≡ x = some_same (sym at ∙ (ap (slice_get pairs) here ∙ is)) in
          let form : p.0 ≡ q = pair_second (some_same (sym p.1.1 ∙ (ap (λ (z : Pair). slice_get ns z.node) e ∙ listed))) in
          let no : is_merge q ≡ false = subst (λ t. is_merge t ≡ false) form p.2 in
          absurd cc
    ];
    apart = r.apart;
    behind = λ j y one at. let o = r.behind j y one at in (o.0, omega (arith, o.1), o.2);
    order = r.order;
  }

  pub all-sites : (i : ℕ) (sites : List Pair) → AreSitesTo i sites → length pairs ≤ i → AreSites ns pairs program sites
  all-sites i sites r all = record {
    first = r.first;
    known = r.known;
    has = λ x at plain. r.has at.0 x (let h = get-within pairs at.0 x at.1 in omega arith) at.1 plain;
    apart = r.apart;
    order = r.order;
  }
