-- The paths of the types with listed numbers.
use Rattle.std.proofs.Common.{ℕ, zero, suc, ◌+◌, ◌<◌, ◌≤◌, ◌≡◌, ◌≢◌, Bool, true, false, Some, slice_get, List, [], ◌∷◌, ◌++◌, length, get_or, take, cond, eqb, eqb-true, refl, sym, ap, ◌∙◌, subst, arith, inl, inr, ◌⊎◌}
use Rattle.std.specs.List.{Contains, list_any}
use Rattle.std.proofs.lemmas.Bool.{cases_lt}
use Rattle.std.proofs.lemmas.List.{map_push, length_push, get_or_append_left, get_or_default, take_more}
use Rattle.std.proofs.lemmas.List.Elements.{All-push, All-contains, All-from_get_or, Contains-get_or, Contains-append_left, Contains-append_right, Contains-push, Contains-push_cases}
use Rattle.indexmap.specs.IndexSet.{insert_key}
use Rattle.indexmap.proofs.CallerLemmas.{Contains-insert_key}
use Rattle.fy_types.specs.Types.{PlainType, meet}
use Rattle.fy_types.specs.Paths.{PlainPaths, append, paths, all_paths}
use Rattle.fy_types.specs.PathOrder.{ArePathsBelow, none_left}
use Rattle.fy_types.specs.Reading.{types_from}
use Rattle.fy_types.proofs.Order.{ArePathsBelow-trans}
use Rattle.fy_types.proofs.Laws.{append-left, append-right, append-greatest, append-none}
use Rattle.fy_types.proofs.Making.{all_paths-append}
use Rattle.fy_derive.specs.declared.node.TypeNode.{TypeNode}
use Rattle.fy_derive.specs.declared.node.TypeNode.TheVariants as node
use Rattle.fy_derive.specs.declared.table.TypeTable.{TypeTable}
use Rattle.fy_derive.specs.Tables.{in_front, is_meet, node_at, node_type, reach, is_meet_behind}
use Rattle.fy_derive.specs.Shown.{shown, total, types_in, all_shown}
use Rattle.fy_derive.proofs.TableLemmas.{type_at-node}
use Rattle.fy_derive.specs.Covers.{covered, AreAlike, AreUnder, is_single, IsOpened, as_single, as_meet, AreMet}

pub covered-push : (t : TypeTable) (ks : List ℕ) (k : ℕ) → covered t (ks ++ k ∷ []) ≡ append (covered t ks) (paths (shown t k))
covered-push t ks k =
    ap (λ As. all_paths (types_from As)) (map_push (shown t) ks k)
    ∙ (all_paths-append (all_shown t ks) (shown t k ∷ [])
    ∙ ap (append (covered t ks)) (append-none (paths (shown t k))))

covered-at : (t : TypeTable) (ks : List ℕ) (i : ℕ) → i < length ks → ArePathsBelow (covered t ks) (paths (shown t (get_or ks i 0)))
covered-at t [] i h = absurd (omega arith)
covered-at t (k ∷ ks) zero h = append-left (paths (shown t k)) (covered t ks)
covered-at t (k ∷ ks) (suc i) h = ArePathsBelow-trans (covered t ks) (append-right (paths (shown t k)) (covered t ks)) (covered-at t ks i (omega arith))

-- what is covered is below each type of the list
pub covered-member : (t : TypeTable) (ks : List ℕ) (k : ℕ) → Contains ks k → ArePathsBelow (covered t ks) (paths (shown t k))
covered-member t ks k h =
    subst (λ j. ArePathsBelow (covered t ks) (paths (shown t j))) (get_or_default ks h.0 0 k h.1 ∙ h.2) (covered-at t ks h.0 h.1)

-- and whatever is below each is below what is covered
pub covered-all : (t : TypeTable) (ks : List ℕ) (P : PlainPaths) → ((k : ℕ) → Contains ks k → ArePathsBelow P (paths (shown t k))) →
    ArePathsBelow P (covered t ks)
covered-all t [] P f = none_left
covered-all t (k ∷ ks) P f =
    append-greatest (f k (Contains-get_or (k ∷ ks) 0 k (omega arith)))
    (covered-all t ks P (λ j h. f j (Contains-append_right (k ∷ []) ks j h)))

pub covered-contained : (t : TypeTable) (ks ms : List ℕ) → ((k : ℕ) → Contains ms k → Contains ks k) → ArePathsBelow (covered t ks) (covered t ms)
covered-contained t ks ms f = covered-all t ms (covered t ks) (λ k h. covered-member t ks k (f k h))

pub in_front-paths : (A B : PlainType) → is_meet B ≡ true → paths (in_front A B) ≡ append (paths A) (paths B)
in_front-paths A (meet Bs) e = refl
in_front-paths A B e = absurd cc

-- a list after an insert is the list, or has one number more
insert-either : (P : List ℕ → Type 0) (ks : List ℕ) (k : ℕ) → P ks → P (ks ++ k ∷ []) → P (insert_key eqb ks k)
insert-either P ks k old new = by (list_any (eqb k) ks)
  where
    by : (b : Bool) → P (cond b ks (ks ++ k ∷ []))
    by true = old
    by false = new

pub insert-keeps : (ks : List ℕ) (k j : ℕ) → Contains ks j → Contains (insert_key eqb ks k) j
insert-keeps ks k j h = insert-either (λ ms. Contains ms j) ks k h (Contains-append_left ks (k ∷ []) j h)

pub insert-has : (ks : List ℕ) (k : ℕ) → Contains (insert_key eqb ks k) k
insert-has ks k = Contains-insert_key eqb (λ x y e. eqb-true x y e) ks k

pub insert-at : (ks : List ℕ) (k j : ℕ) → j < length ks → get_or (insert_key eqb ks k) j 0 ≡ get_or ks j 0
insert-at ks k j h = insert-either (λ ms. get_or ms j 0 ≡ get_or ks j 0) ks k refl (get_or_append_left ks (k ∷ []) 0 j h)

pub insert-under : (bound : ℕ) (ks : List ℕ) (k : ℕ) → AreUnder bound ks → k ≤ bound → AreUnder bound (insert_key eqb ks k)
insert-under bound ks k h l = insert-either (AreUnder bound) ks k h (record { each = All-push (λ n. n ≤ bound) ks k h.each l })

pub insert-from : (ks : List ℕ) (k j : ℕ) → Contains (insert_key eqb ks k) j → Contains ks j ⊎ (k ≡ j)
insert-from ks k j = insert-either (λ ms. Contains ms j → Contains ks j ⊎ (k ≡ j)) ks k (λ h. inl h) (λ h. Contains-push_cases ks k j h)

insert-covers : (t : TypeTable) (P : PlainPaths) (ks : List ℕ) (k : ℕ) → ArePathsBelow P (covered t ks) → ArePathsBelow P (paths (shown t k)) →
    ArePathsBelow P (covered t (insert_key eqb ks k))
insert-covers t P ks k h l =
    insert-either (λ ms. ArePathsBelow P (covered t ms)) ks k h (rw (covered-push t ks k) (append-greatest h l))

under-at : (bound : ℕ) (ks : List ℕ) (i : ℕ) → AreUnder bound ks → i < length ks → get_or ks i 0 ≤ bound
under-at bound ks i h l = h.each i 0 l

opened-later : (t : TypeTable) (met now singles after : List ℕ) (k : ℕ) → ((j : ℕ) → Contains met j → Contains now j) →
    ((j : ℕ) → Contains singles j → Contains after j) → IsOpened t met singles k → IsOpened t now after k
opened-later t met now singles after k f g (as_single h) = as_single (g k h)
opened-later t met now singles after k f g (as_meet m r e hm hr) = as_meet m r e (f m hm) (f r hr)

-- what holds below i and at i holds below i + 1
below_next : (P : ℕ → Type 0) (i : ℕ) → ((j : ℕ) → j < i → P j) → P i → (j : ℕ) → j < i + 1 → P j
below_next P i below here j h = elim (cases_lt j i) [ inl l ↦ below j l | inr l ↦ let e : i ≡ j = omega arith in subst P e here ]

-- nothing is opened at first
pub met-first : (t : TypeTable) (bound : ℕ) (list met : List ℕ) → AreUnder bound list →
    ((k : ℕ) → Contains list k → Contains met k) → ((k : ℕ) → Contains met k → Contains list k) → AreMet t bound list met [] 0
met-first t bound list met under to from = record {
  has = to;
  cover = covered-contained t list met from;
  under = record {
    each = All-from_get_or (λ k. k ≤ bound) met 0 (λ i h.
        All-contains (λ k. k ≤ bound) list (get_or met i 0) under.each (from (get_or met i 0) (Contains-get_or met i 0 h)));
  };
  known = λ k h. absurd (omega (arith, h.1));
  single = record { each = λ k d h. absurd (omega arith) };
  opened = λ j h. absurd (omega arith);
}

-- a type that is no meet with a member is one of the singles
pub met-single : (t : TypeTable) (bound : ℕ) (list met singles after : List ℕ) (i k : ℕ) → AreMet t bound list met singles i → i < length met →
    k ≡ get_or met i 0 → is_single (node_at t.nodes.keys k) ≡ true → after ≡ singles ++ k ∷ [] → AreMet t bound list met after (i + 1)
met-single t bound list met singles after i k s l e single pushed = subst (λ ks. AreMet t bound list met ks (i + 1)) (sym pushed) (record {
  has = s.has;
  cover = s.cover;
  under = s.under;
  known = λ j h. elim (Contains-push_cases singles k j h) [
    | inl old ↦ s.known j old
    | inr same ↦ subst (Contains met) (sym e ∙ same) (Contains-get_or met i 0 l)
  ];
  single = record { each = All-push (λ j. is_single (node_at t.nodes.keys j) ≡ true) singles k s.single.each single };
  opened = below_next (λ j. IsOpened t met (singles ++ k ∷ []) (get_or met j 0)) i
      (λ j h. opened-later t met met singles (singles ++ k ∷ []) (get_or met j 0) (λ n x. x) (λ n x. Contains-append_left singles (k ∷ []) n x) (s.opened j h))
      (as_single (subst (Contains (singles ++ k ∷ [])) e (Contains-push singles k)));
})

-- the parts of a meet with a member are met
pub met-opened : (t : TypeTable) (bound : ℕ) (list met now singles : List ℕ) (i k m r : ℕ) → AreMet t bound list met singles i → i < length met →
    k ≡ get_or met i 0 → node_at t.nodes.keys k ≡ node.AndType m r → m < k → r < k →
    paths (shown t k) ≡ append (paths (shown t m)) (paths (shown t r)) → now ≡ insert_key eqb (insert_key eqb met m) r →
    AreMet t bound list now singles (i + 1)
met-opened t bound list met now singles i k m r s l e n lm lr split is = subst (λ ks. AreMet t bound list ks singles (i + 1)) (sym is) (record {
  has = λ j h. keeps j (s.has j h);
  cover = insert-covers t (covered t list) (insert_key eqb met m) r
      (insert-covers t (covered t list) met m s.cover (ArePathsBelow-trans (paths (shown t k)) whole first)) (ArePathsBelow-trans (paths (shown t k)) whole rest);
  under = insert-under bound (insert_key eqb met m) r (insert-under bound met m s.under (omega (arith, inside))) (omega (arith, inside));
  known = λ j h. keeps j (s.known j h);
  single = s.single;
  opened = λ j h. subst (IsOpened t both singles) (sym (stays j (omega arith))) (below_next (λ j. IsOpened t both singles (get_or met j 0)) i
      (λ j h. opened-later t met both singles singles (get_or met j 0) keeps (λ n x. x) (s.opened j h))
      (subst (IsOpened t both singles) e (as_meet m r n (insert-keeps (insert_key eqb met m) r m (insert-has met m)) (insert-has (insert_key eqb met m) r)))
      j h);
})
  where
    both : List ℕ
    both = insert_key eqb (insert_key eqb met m) r

    inside : k ≤ bound
    inside = rw e (under-at bound met i s.under l)

    whole : ArePathsBelow (covered t list) (paths (shown t k))
    whole = ArePathsBelow-trans (covered t met) s.cover (subst (λ j. ArePathsBelow (covered t met) (paths (shown t j))) (sym e) (covered-at t met i l))

    first : ArePathsBelow (paths (shown t k)) (paths (shown t m))
    first = rw split (append-left (paths (shown t m)) (paths (shown t r)))

    rest : ArePathsBelow (paths (shown t k)) (paths (shown t r))
    rest = rw split (append-right (paths (shown t m)) (paths (shown t r)))

    keeps : (j : ℕ) → Contains met j → Contains both j
    keeps j h = insert-keeps (insert_key eqb met m) r j (insert-keeps met m j h)

    stays : (j : ℕ) → j < length met → get_or both j 0 ≡ get_or met j 0
    stays j h = insert-at (insert_key eqb met m) r j (insert-either (λ ms. j < length ms) met m h (omega (arith, length_push met m))) ∙ insert-at met m j h

-- a meet with a member has the paths of its parts
pub split-paths : (t : TypeTable) (k m r : ℕ) → k < total t → node_at t.nodes.keys k ≡ node.AndType m r →
    paths (shown t k) ≡ append (paths (shown t m)) (paths (shown t r))
split-paths t k m r h e =
    ap paths (type_at-node t.nodes.keys k t.sound h ∙ ap (node_type (types_in t)) e)
    ∙ in_front-paths (shown t m) (shown t r) (sym (ap (is_meet_behind (types_in t)) e) ∙ t.sound.meets k h)

-- what is covered is below a meet where it is below each of its parts that were met
parts-cover : (t : TypeTable) (met singles : List ℕ) (k : ℕ) →
    ((j : ℕ) → j < k → Contains met j → ArePathsBelow (covered t singles) (paths (shown t j))) → k < total t → IsOpened t met singles k →
    ArePathsBelow (covered t singles) (paths (shown t k))
parts-cover t met singles k rec within (as_single y) = covered-member t singles k y
parts-cover t met singles k rec within (as_meet m r is hm hr) =
    let deep : reach (node.AndType m r) ≤ k = subst (λ n. reach n ≤ k) is (t.sound.parts k within) in
    rw (split-paths t k m r within is) (append-greatest (rec m (omega (arith, deep)) hm) (rec r (omega (arith, deep)) hr))

opened-covers : (t : TypeTable) (bound : ℕ) (list met singles : List ℕ) (i : ℕ) → AreMet t bound list met singles i → length met ≤ i → bound < total t →
    (n k : ℕ) → k < n → Contains met k → ArePathsBelow (covered t singles) (paths (shown t k))
opened-covers t bound list met singles i s all low zero k h x = absurd (omega arith)
opened-covers t bound list met singles i s all low (suc n) k h x =
    parts-cover t met singles k
    (λ j l y. opened-covers t bound list met singles i s all low n j (omega arith) y)
    (omega (arith, All-contains (λ j. j ≤ bound) met k s.under.each x))
    (subst (IsOpened t met singles) (get_or_default met x.0 0 k x.1 ∙ x.2) (s.opened x.0 (omega (arith, x.1))))

-- when all that was met is opened, the singles cover what the list does
pub met-alike : (t : TypeTable) (bound : ℕ) (list met singles : List ℕ) (i : ℕ) → AreMet t bound list met singles i → length met ≤ i → bound < total t →
    AreAlike (covered t singles) (covered t list)
met-alike t bound list met singles i s all low = record {
  to = covered-all t list (covered t singles) (λ k h. opened-covers t bound list met singles i s all low (suc k) k (omega arith) (s.has k h));
  from = ArePathsBelow-trans (covered t met) s.cover (covered-contained t met singles s.known);
}

pub met-under : (t : TypeTable) (bound : ℕ) (list met singles : List ℕ) (i : ℕ) → AreMet t bound list met singles i → AreUnder bound singles
met-under t bound list met singles i s = record {
  each = All-from_get_or (λ k. k ≤ bound) singles 0 (λ j h.
      All-contains (λ k. k ≤ bound) met (get_or singles j 0) s.under.each (s.known (get_or singles j 0) (Contains-get_or singles j 0 h)));
}

pub single-other : (n : TypeNode) → ((m r : ℕ) → n ≢ node.AndType m r) → is_single n ≡ true
single-other (node.AndType m r) h = absurd (h m r refl)
single-other n h = refl

-- one number more of a list is met
pub met-more : (list met now : List ℕ) (i : ℕ) → i < length list → now ≡ insert_key eqb met (get_or list i 0) →
    ((k : ℕ) → Contains (take i list) k → Contains met k) → (k : ℕ) → Contains (take (i + 1) list) k → Contains now k
met-more list met now i l is f k h =
    subst (λ ks. Contains ks k) (sym is) (elim (Contains-push_cases (take i list) (get_or list i 0) k (subst (λ ks. Contains ks k) (take_more list i 0 l) h)) [
      | inl old ↦ insert-keeps met (get_or list i 0) k (f k old)
      | inr same ↦ subst (Contains (insert_key eqb met (get_or list i 0))) same (insert-has met (get_or list i 0))
    ])

pub met-known : (list met now : List ℕ) (i : ℕ) → i < length list → now ≡ insert_key eqb met (get_or list i 0) →
    ((k : ℕ) → Contains met k → Contains (take i list) k) → (k : ℕ) → Contains now k → Contains (take (i + 1) list) k
met-known list met now i l is f k h =
    subst (λ ks. Contains ks k) (sym (take_more list i 0 l)) (elim (insert-from met (get_or list i 0) k (subst (λ ks. Contains ks k) is h)) [
      | inl old ↦ Contains-append_left (take i list) (get_or list i 0 ∷ []) k (f k old)
      | inr same ↦ subst (Contains (take i list ++ get_or list i 0 ∷ [])) same (Contains-push (take i list) (get_or list i 0))
    ])

-- what is read at an index
pub number_at : (ks : List ℕ) (k i : ℕ) → slice_get ks i ≡ Some k → k ≡ get_or ks i 0
number_at [] k i h = absurd cc
number_at (x ∷ ks) k zero h = cc
number_at (x ∷ ks) k (suc i) h = number_at ks k i h
