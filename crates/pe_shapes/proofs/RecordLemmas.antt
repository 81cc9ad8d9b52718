-- One shape of a node is recorded.
use Rattle.std.proofs.Common.{ℕ, zero, suc, ◌<◌, ◌≤◌, ◌≡◌, ◌⊎◌, inl, inr, Bool, true, false, cond, eqb, eqb-true, eq-eqb, List, [], ◌∷◌, ◌++◌, length, slice_get, Some, refl, sym, ap, ◌∙◌, subst, arith}
use Rattle.std.specs.List.{All, Contains, IsDistinct, list_any}
use Rattle.std.proofs.lemmas.List.{append-nil, length-append, length_push, map-append, length-map}
use Rattle.std.proofs.lemmas.List.Elements.{All-append, All-weaker, All-contains, All-cons, All-nil, Contains-append_left, Contains-append_cases}
use Rattle.std.proofs.lemmas.Option.{slice_get_within}
use Rattle.indexmap.specs.IndexSet.{insert_key}
use Rattle.indexmap.proofs.CallerLemmas.{Contains-insert_key}
use Rattle.fy_phrase.specs.declared.shapes.Pair.{Pair}
use Rattle.fy_phrase.specs.contracts.shapes.PairPartialEq.TheImpl as pair_test
use Rattle.fy_phrase.specs.contracts.shapes.PairEq.TheImpl.Laws as pair_laws
use Rattle.fy_types.proofs.OnceLemmas.{both_true}
use Rattle.fy_derive.specs.Shapes.{PlainShape}
use Rattle.pe_shapes.specs.declared.error.ShapeError.TheVariants.{TooManyShapes}
use Rattle.pe_shapes.specs.declared.found.Found.{Found}
use Rattle.pe_shapes.specs.Counts.{StandOnce}
use Rattle.pe_shapes.specs.Finding.{used_shapes, pair_of, IsRecorded, IsFull, IsFound, IsSeen, Adds, NoPair, IsWalkStop, OnePair}
use Rattle.pe_shapes.specs.Shown.{total, shown, all_shown, Extends, AreIn}
use Rattle.pe_shapes.proofs.JudgedLemmas.{some_same}
use Rattle.pe_shapes.proofs.Members.{Contains-none, Contains-split, Contains-unmap, Contains-at, mapped, StandOnce-distinct, HasMany-from}
use Rattle.pe_shapes.proofs.Standings.{AreIn-contained, all_shown-kept, StandOnce-shown}

abbrev pub same_pair : Pair → Pair → Bool
same_pair = (pair_test.ghosts).eq

pub same_pair-refl : (p : Pair) → same_pair p p ≡ true
same_pair-refl p = (pair_laws.lawful).laws.refl p

pub same_pair-true : (p q : Pair) → same_pair p q ≡ true → p ≡ q
same_pair-true p q e =
    let h = both_true _ _ e in
    ap (λ n. pair_of n p.shape) (eqb-true p.node q.node h.0) ∙ ap (pair_of q.node) (eqb-true p.shape q.shape h.1)

pub same_number-refl : (n : ℕ) → eqb n n ≡ true
same_number-refl n = eq-eqb n n refl

-- a list after an insert is the list with nothing or one more behind it
pub record IsInserted {X : Type 0} (xs ys : List X) (x : X) : Type 0 where
  pub more : List X
  pub is : ys ≡ xs ++ more
  pub one : (more ≡ []) ⊎ (more ≡ x ∷ [])

pub inserted-split : {X : Type 0} (eq : X → X → Bool) (xs ys : List X) (x : X) → ys ≡ insert_key eq xs x → IsInserted xs ys x
inserted-split eq xs ys x e = by (list_any (eq x) xs) e
  where
    by : (b : Bool) → ys ≡ cond b xs (xs ++ x ∷ []) → IsInserted xs ys x
    by true f = record { more = []; is = f ∙ sym (append-nil xs); one = inl refl }
    by false f = record { more = x ∷ []; is = f; one = inr refl }

more-is : {X : Type 0} (more : List X) (x y : X) → (more ≡ []) ⊎ (more ≡ x ∷ []) → Contains more y → x ≡ y
more-is more x y one h = elim one [
  | inl e ↦ absurd (Contains-none y (subst (λ m. Contains m y) e h))
  | inr e ↦ elim (Contains-split x y [] (subst (λ m. Contains m y) e h)) [ inl f ↦ f | inr t ↦ absurd (Contains-none y t) ]
]

slice_get-left : {X : Type 0} (xs ys : List X) (i : ℕ) (x : X) → slice_get xs i ≡ Some x → slice_get (xs ++ ys) i ≡ Some x
slice_get-left [] ys i x e = absurd cc
slice_get-left (y ∷ xs) ys zero x e = e
slice_get-left (y ∷ xs) ys (suc i) x e = slice_get-left xs ys i x e

slice_get-within : {X : Type 0} (xs ys : List X) (i : ℕ) → i < length xs → slice_get (xs ++ ys) i ≡ slice_get xs i
slice_get-within [] ys i h = absurd (omega arith)
slice_get-within (y ∷ xs) ys zero h = refl
slice_get-within (y ∷ xs) ys (suc i) h = slice_get-within xs ys i (omega arith)

slice_get-last : {X : Type 0} (xs : List X) (x : X) → slice_get (xs ++ x ∷ []) (length xs) ≡ Some x
slice_get-last [] x = refl
slice_get-last (y ∷ xs) x = slice_get-last xs x

-- what one insert makes of what was found
pub record IsOneMore (f g : Found) (node n place : ℕ) : Type 0 where
  pub extends : Extends f.numbers g.numbers
  pub within : n < total f.numbers
  pub used : IsInserted f.used.keys g.used.keys n
  pub at : slice_get g.used.keys place ≡ Some n
  pub pairs : IsInserted f.pairs.keys g.pairs.keys (pair_of node place)
  pub seen : Contains g.pairs.keys (pair_of node place) ⊎ IsFull g

-- the shapes in use, with those behind them
used-split : (f g : Found) (n : ℕ) → IsFound f → Extends f.numbers g.numbers → (i : IsInserted f.used.keys g.used.keys n) →
    used_shapes g ≡ used_shapes f ++ all_shown g.numbers i.more
used-split f g n s e i =
    ap (all_shown g.numbers) i.is
    ∙ (map-append (shown g.numbers) f.used.keys i.more ∙ ap (λ S. S ++ all_shown g.numbers i.more) (all_shown-kept f.used.keys e s.used_in))

used-either : (f g : Found) (n : ℕ) → IsFound f → Extends f.numbers g.numbers → n < total f.numbers → IsInserted f.used.keys g.used.keys n →
    (s : PlainShape) → Contains (used_shapes g) s → Contains (used_shapes f) s ⊎ (shown f.numbers n ≡ s)
used-either f g n sound e l i s h =
    elim (Contains-append_cases (used_shapes f) (all_shown g.numbers i.more) s (subst (λ S. Contains S s) (used-split f g n sound e i) h)) [
      | inl x ↦ inl x
      | inr x ↦ (let r = Contains-unmap (shown g.numbers) i.more s x in
          inr (sym (e.same n l) ∙ (ap (shown g.numbers) (more-is i.more n r.0 i.one r.1) ∙ r.2)))
    ]

pub one-added : (f g : Found) (node n place : ℕ) → IsFound f → IsOneMore f g node n place → Adds f g (OnePair node (shown f.numbers n)) NoPair
one-added f g node n place sound h = record {
  extends = h.extends;
  places = λ i s e. ap (λ S. slice_get S i) split ∙ slice_get-left (used_shapes f) (all_shown g.numbers h.used.more) i s e;
  kept = λ p x. subst (λ ps. Contains ps p) (sym h.pairs.is) (Contains-append_left f.pairs.keys h.pairs.more p x);
  fuller = omega (arith, ap length h.pairs.is, length-append f.pairs.keys h.pairs.more);
  used = λ s x. elim (used-either f g n sound h.extends h.within h.used s x) [ inl y ↦ inl y | inr y ↦ inr (node, (refl, y)) ];
  known = λ k s r. known k s r;
  seen = λ k s x. inl (subst (λ z. IsSeen g z s) (sym x.0) (subst (IsSeen g node) x.1 seen));
}
  where
    split : used_shapes g ≡ used_shapes f ++ all_shown g.numbers h.used.more
    split = used-split f g n sound h.extends h.used

    here : slice_get (used_shapes g) place ≡ Some (shown f.numbers n)
    here = mapped (shown g.numbers) g.used.keys place n h.at ∙ ap Some (h.extends.same n h.within)

    seen : IsSeen g node (shown f.numbers n)
    seen = record {
      used = Contains-at (used_shapes g) place (shown f.numbers n) here;
      recorded = elim h.seen [ inl c ↦ inl (record { place = place; shape = here; pair = c }) | inr full ↦ inr full ];
    }

    known : (k : ℕ) (s : PlainShape) → IsRecorded g k s → IsRecorded f k s ⊎ OnePair node (shown f.numbers n) k s
    known k s r = elim (Contains-append_cases f.pairs.keys h.pairs.more (pair_of k r.place) (subst (λ ps. Contains ps (pair_of k r.place)) h.pairs.is r.pair)) [
      | inl x ↦ (let b : r.place < length f.used.keys = All-contains (λ p. p.shape < length f.used.keys) f.pairs.keys (pair_of k r.place) sound.pairs_in x in
          inl (record {
            place = r.place;
            shape = sym (slice_get-within (used_shapes f) (all_shown g.numbers h.used.more) r.place (omega (arith, length-map f.used.keys (shown f.numbers))))
                ∙ (ap (λ S. slice_get S r.place) (sym split) ∙ r.shape);
            pair = x;
          }))
      | inr x ↦ (let e = more-is h.pairs.more (pair_of node place) (pair_of k r.place) h.pairs.one x in
          inr (ap (λ p. p.node) (sym e), some_same (sym here ∙ (ap (λ p. slice_get (used_shapes g) p.shape) e ∙ r.shape))))
    ]

length-more : {X : Type 0} (more : List X) (x : X) → (more ≡ []) ⊎ (more ≡ x ∷ []) → length more ≤ 1
length-more more x one = elim one [ inl e ↦ omega (arith, ap length e) | inr e ↦ omega (arith, ap length e) ]

-- the number of shapes, by the place of the last
few-used : (us vs : List ℕ) (n place : ℕ) → IsInserted us vs n → slice_get vs place ≡ Some n → StandOnce vs → length us ≤ 256 → place < 256 → length vs ≤ 256
few-used us vs n place i at once few low = elim i.one [
  | inl e ↦ omega (arith, ap length i.is, length-append us i.more, ap length e)
  | inr e ↦ (let whole : vs ≡ us ++ n ∷ [] = i.is ∙ ap (λ m. us ++ m) e in
      let last : slice_get vs (length us) ≡ Some n = ap (λ x. slice_get x (length us)) whole ∙ slice_get-last us n in
      let same = once (length us) place n last at in
      omega (arith, ap length whole, length_push us n))
]

pub one-found : (f g : Found) (node n place : ℕ) → IsFound f → IsOneMore f g node n place → IsDistinct eqb g.used.keys → IsDistinct same_pair g.pairs.keys →
    place < 256 → length g.pairs.keys ≤ 65537 → IsFound g
one-found f g node n place sound h apart pairs_apart low few = record {
  used_in = AreIn-contained g.numbers g.used.keys (λ k c. elim (Contains-append_cases f.used.keys h.used.more k (subst (λ ks. Contains ks k) h.used.is c)) [
    | inl x ↦ omega (arith, All-contains (λ k. k < total f.numbers) f.used.keys k sound.used_in.below x, h.extends.more)
    | inr x ↦ (let e = more-is h.used.more n k h.used.one x in omega (arith, h.within, h.extends.more))
  ]);
  used_once = once;
  few = few-used f.used.keys g.used.keys n place h.used h.at once sound.few low;
  pairs_in = subst (All (λ p. p.shape < length g.used.keys)) (sym h.pairs.is) (All-append (λ p. p.shape < length g.used.keys) f.pairs.keys h.pairs.more
      (All-weaker (λ p. p.shape < length f.used.keys) (λ p. p.shape < length g.used.keys) (λ p l. omega (arith, longer)) f.pairs.keys sound.pairs_in)
      new_in);
  pairs_once = StandOnce-distinct same_pair same_pair-refl g.pairs.keys pairs_apart;
  few_pairs = few;
}
  where
    once : StandOnce g.used.keys
    once = StandOnce-distinct eqb same_number-refl g.used.keys apart

    longer : length f.used.keys ≤ length g.used.keys
    longer = omega (arith, ap length h.used.is, length-append f.used.keys h.used.more)

    new_in : All (λ p. p.shape < length g.used.keys) h.pairs.more
    new_in = elim h.pairs.one [
      | inl e ↦ subst (λ m. All (λ p. p.shape < length g.used.keys) m) (sym e) (All-nil (λ p. p.shape < length g.used.keys))
      | inr e ↦ subst (λ m. All (λ p. p.shape < length g.used.keys) m) (sym e)
          (All-cons (λ p. p.shape < length g.used.keys) (pair_of node place) [] (slice_get_within g.used.keys place n h.at) (All-nil (λ p. p.shape < length g.used.keys)))
    ]

-- more shapes in use than there may be
pub one-stops : (f g : Found) (node n : ℕ) → IsFound f → Extends f.numbers g.numbers → n < total f.numbers → IsInserted f.used.keys g.used.keys n →
    IsDistinct eqb g.used.keys → 257 ≤ length g.used.keys → IsWalkStop TooManyShapes f (OnePair node (shown f.numbers n))
one-stops f g node n sound e l i apart many =
    HasMany-from 257 (λ s. Contains (used_shapes f) s ⊎ ((k : ℕ) × OnePair node (shown f.numbers n) k s)) (used_shapes g)
    (omega (arith, length-map g.used.keys (shown g.numbers)))
    (StandOnce-shown g.numbers g.used.keys within (StandOnce-distinct eqb same_number-refl g.used.keys apart))
    (λ s h. elim (used-either f g n sound e l i s h) [ inl x ↦ inl x | inr x ↦ inr (node, (refl, x)) ])
  where
    within : AreIn g.numbers g.used.keys
    within = AreIn-contained g.numbers g.used.keys (λ k c. elim (Contains-append_cases f.used.keys i.more k (subst (λ ks. Contains ks k) i.is c)) [
      | inl x ↦ omega (arith, All-contains (λ k. k < total f.numbers) f.used.keys k sound.used_in.below x, e.more)
      | inr x ↦ (let same = more-is i.more n k i.one x in omega (arith, e.more))
    ])

-- ---- as they are made

pub one-more : (f g : Found) (node n place : ℕ) → Extends f.numbers g.numbers → n < total f.numbers → g.used.keys ≡ insert_key eqb f.used.keys n →
    ((k : ℕ) × (slice_get g.used.keys place ≡ Some k) × (eqb n k ≡ true)) → g.pairs.keys ≡ insert_key same_pair f.pairs.keys (pair_of node place) → IsOneMore f g node n place
one-more f g node n place e l used stored pairs = record {
  extends = e;
  within = l;
  used = inserted-split eqb f.used.keys g.used.keys n used;
  at = stored.1 ∙ ap Some (sym (eqb-true n stored.0 stored.2));
  pairs = inserted-split same_pair f.pairs.keys g.pairs.keys (pair_of node place) pairs;
  seen = inl (subst (λ ps. Contains ps (pair_of node place)) (sym pairs) (Contains-insert_key same_pair same_pair-true f.pairs.keys (pair_of node place)));
}

pub one-more-full : (f g : Found) (node n place : ℕ) → Extends f.numbers g.numbers → n < total f.numbers → g.used.keys ≡ insert_key eqb f.used.keys n →
    ((k : ℕ) × (slice_get g.used.keys place ≡ Some k) × (eqb n k ≡ true)) → g.pairs.keys ≡ f.pairs.keys → 65536 < length g.pairs.keys → IsOneMore f g node n place
one-more-full f g node n place e l used stored pairs full = record {
  extends = e;
  within = l;
  used = inserted-split eqb f.used.keys g.used.keys n used;
  at = stored.1 ∙ ap Some (sym (eqb-true n stored.0 stored.2));
  pairs = record { more = []; is = pairs ∙ sym (append-nil f.pairs.keys); one = inl refl };
  seen = inr (record { more = full });
}

pub longer-by_one : (f g : Found) (node n place : ℕ) → IsOneMore f g node n place → length f.pairs.keys ≤ 65536 → length g.pairs.keys ≤ 65537
longer-by_one f g node n place h l =
    omega (arith, ap length h.pairs.is, length-append f.pairs.keys h.pairs.more, length-more h.pairs.more (pair_of node place) h.pairs.one)
