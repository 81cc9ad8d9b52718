-- Names under binders: what is used from outside stands for what it stood for.
use Rattle.std.proofs.Common.{◌≡◌, ℕ, zero, suc, ◌+◌, ◌-◌, ◌==◌, Bool, true, false, ◌||◌, if◌then◌else◌, Some, is_none, List, [], ◌∷◌, refl, sym, ap, subst, ◌∙◌, arith, inl, inr, ◌⊎◌}
use Rattle.std.specs.Str.{bytes_eq}
use Rattle.std.proofs.lemmas.Bool.{false≢true, eq-eqb, ne_eqb}
use Rattle.std.proofs.lemmas.Slice.Eq.{bytes_eq-Decides}
use Rattle.fy_base.specs.Outside.{Bytes}
use Rattle.fy_base.specs.declared.data.Place.{Place}
use Rattle.fy_types.specs.Names.{has, number_of}
use Rattle.fy_types.specs.Types.{PlainType}
use Rattle.fy_phrase.specs.Tree as plain
use Rattle.fy_phrase.specs.Alike.{lifted}
use Rattle.fy_expand.specs.Core.{used}
use Rattle.fy_expand.specs.Scope.{Scope, under, with_members}
use Rattle.fy_show.specs.declared.binders.Binder.{Binder}
use Rattle.fy_show.specs.Entries.{Entry, unnamed, one, all, entry_at, field_name, has_name}
use Rattle.fy_show.specs.Fresh.{fields_shown, field_used_as, uses, any_uses}
use Rattle.fy_again.specs.Phrases.{plainly, IsAmong}
use Rattle.fy_again.proofs.PhraseLemmas.{IsShown}
use Rattle.fy_again.proofs.FaultLemmas.{with_same, with_other}
use Rattle.fy_again.proofs.LetrecLemmas.{plain_decls}

-- ---- one variable of a scope

-- a scope of that one variable
abbrev pub alone : ℕ → Entry → List Entry
alone zero e = e ∷ []
alone (suc j) e = unnamed ∷ alone j e

pub entry_later : (e : Entry) (s : List Entry) (j : ℕ) → entry_at (e ∷ s) (suc j) ≡ entry_at s j
entry_later e s j =
    let other : (suc j == 0) ≡ false = ne_eqb (suc j) 0 (λ i. omega (arith, i)) in
    let less : suc j - 1 ≡ j = omega arith in
    ap (λ b. if b then e else entry_at s (suc j - 1)) other ∙ ap (λ n. entry_at s n) less

pub entry_alone : (j : ℕ) (e : Entry) → entry_at (alone j e) j ≡ e
entry_alone zero e = refl
entry_alone (suc j) e = entry_later unnamed (alone j e) j ∙ entry_alone j e

-- a scope of some of the variables
abbrev pub Below : List Entry → List Entry → Type 0
Below a s = (n : ℕ) → (entry_at a n ≡ unnamed) ⊎ (entry_at a n ≡ entry_at s n)

below_under : (a s : List Entry) → Below a s → Below (unnamed ∷ a) (unnamed ∷ s)
below_under a s h zero = inl refl
below_under a s h (suc n) = elim (h n) [ inl e ↦ inl (entry_later unnamed a n ∙ e) | inr e ↦ inr (entry_later unnamed a n ∙ (e ∙ sym (entry_later unnamed s n))) ]

pub below_alone : (j : ℕ) (s : List Entry) (e : Entry) → e ≡ entry_at s j → Below (alone j e) s
below_alone zero s e h zero = inr h
below_alone zero s e h (suc n) = inl (entry_later e [] n)
below_alone (suc j) s e h zero = inl refl
below_alone (suc j) [] e h (suc n) =
    elim (below_alone j [] e h n) [ inl i ↦ inl (entry_later unnamed (alone j e) n ∙ i) | inr i ↦ inr (entry_later unnamed (alone j e) n ∙ i) ]
below_alone (suc j) (x ∷ s) e h (suc n) =
    elim (below_alone j s e (h ∙ entry_later x s j) n)
    [ inl i ↦ inl (entry_later unnamed (alone j e) n ∙ i) | inr i ↦ inr (entry_later unnamed (alone j e) n ∙ (i ∙ sym (entry_later x s n))) ]

pub or_left : (a b : Bool) → a ≡ true → (a || b) ≡ true
or_left a b h = ap (λ c. c || b) h

pub or_right : (a b : Bool) → b ≡ true → (a || b) ≡ true
or_right true b h = refl
or_right false b h = h

or_both : (a b c d : Bool) → (a ≡ true → c ≡ true) → (b ≡ true → d ≡ true) → (a || b) ≡ true → (c || d) ≡ true
or_both true b c d f g h = or_left c d (f refl)
or_both false b c d f g h = or_right c d (g h)

mutual
  -- what is used with some variables is used with all
  pub uses_more : (names : List Bytes) (binders : List Binder) (t : Bytes) (a s : List Entry) → Below a s → (p : plain.Tree) → uses (plainly names binders) t a p ≡ true → uses (plainly names binders) t s p ≡ true
  uses_more names binders t a s h (plain.Tree.var n at) e =
      elim (h n) [ inl i ↦ absurd (false≢true (sym (ap (λ w. has_name t w) i) ∙ e)) | inr i ↦ sym (ap (λ w. has_name t w) i) ∙ e ]
  uses_more names binders t a s h (plain.Tree.lit v at) e = e
  uses_more names binders t a s h (plain.Tree.unary op p at) e = uses_more names binders t a s h p e
  uses_more names binders t a s h (plain.Tree.binary op p q at) e = or_both _ _ _ _ (uses_more names binders t a s h p) (uses_more names binders t a s h q) e
  uses_more names binders t a s h (plain.Tree.cond b p q at) e =
      or_both _ _ _ _ (uses_more names binders t a s h b) (λ i. or_both _ _ _ _ (uses_more names binders t a s h p) (uses_more names binders t a s h q) i) e
  uses_more names binders t a s h (plain.Tree.case c parts at) e = or_both _ _ _ _ (uses_more names binders t a s h c) (any_uses_more names binders t a s h parts) e
  uses_more names binders t a s h (plain.Tree.lam d As b at) e = uses_more names binders t (unnamed ∷ a) (unnamed ∷ s) (below_under a s h) b e
  uses_more names binders t a s h (plain.Tree.app p q at) e = or_both _ _ _ _ (uses_more names binders t a s h p) (uses_more names binders t a s h q) e
  uses_more names binders t a s h (plain.Tree.field i p at) e = uses_more names binders t a s h p e
  uses_more names binders t a s h (plain.Tree.sel (plain.Tree.var n here) i at) e =
      elim (h n)
      [ inl j ↦ absurd (false≢true (sym (ap (λ w. field_used_as t i (fields_shown (Some w)) (has_name t w)) j) ∙ e)) | inr j ↦ sym (ap (λ w. field_used_as t i (fields_shown (Some w)) (has_name t w)) j) ∙ e ]
  uses_more names binders t a s h (plain.Tree.sel p i at) e = uses_more names binders t a s h p e
  uses_more names binders t a s h (plain.Tree.merge p q at) e = or_both _ _ _ _ (uses_more names binders t a s h p) (uses_more names binders t a s h q) e
  uses_more names binders t a s h (plain.Tree.let_in d p b at) e =
      or_both _ _ _ _ (uses_more names binders t a s h p) (uses_more names binders t (unnamed ∷ a) (unnamed ∷ s) (below_under a s h) b) e
  uses_more names binders t a s h (plain.Tree.rec d T b at) e = uses_more names binders t (unnamed ∷ a) (unnamed ∷ s) (below_under a s h) b e
  uses_more names binders t a s h (plain.Tree.skip at) e = e
  uses_more names binders t a s h (plain.Tree.seq p q at) e = or_both _ _ _ _ (uses_more names binders t a s h p) (uses_more names binders t a s h q) e
  uses_more names binders t a s h (plain.Tree.assign p q at) e = or_both _ _ _ _ (uses_more names binders t a s h p) (uses_more names binders t a s h q) e
  uses_more names binders t a s h (plain.Tree.while_do b c at) e = or_both _ _ _ _ (uses_more names binders t a s h b) (uses_more names binders t a s h c) e
  uses_more names binders t a s h (plain.Tree.forever c at) e = uses_more names binders t a s h c e
  uses_more names binders t a s h (plain.Tree.new d D c b at) e =
      or_both _ _ _ _ (uses_more names binders t a s h c) (uses_more names binders t (unnamed ∷ a) (unnamed ∷ s) (below_under a s h) b) e
  uses_more names binders t a s h (plain.Tree.cells d c b at) e =
      or_both _ _ _ _ (λ i. i) (λ i. or_both _ _ _ _ (uses_more names binders t a s h c) (uses_more names binders t (unnamed ∷ a) (unnamed ∷ s) (below_under a s h) b) i) e
  uses_more names binders t a s h (plain.Tree.escape d b at) e = uses_more names binders t (unnamed ∷ a) (unnamed ∷ s) (below_under a s h) b e
  uses_more names binders t a s h (plain.Tree.accept d D b at) e = uses_more names binders t (unnamed ∷ a) (unnamed ∷ s) (below_under a s h) b e
  uses_more names binders t a s h (plain.Tree.put kind p at) e = or_both _ _ _ _ (λ i. i) (uses_more names binders t a s h p) e
  uses_more names binders t a s h (plain.Tree.read p at) e = or_both _ _ _ _ (λ i. i) (uses_more names binders t a s h p) e
  uses_more names binders t a s h (plain.Tree.mark m at) e = e

  any_uses_more : (names : List Bytes) (binders : List Binder) (t : Bytes) (a s : List Entry) → Below a s → (ps : plain.Trees) → any_uses (plainly names binders) t a ps ≡ true → any_uses (plainly names binders) t s ps ≡ true
  any_uses_more names binders t a s h plain.Trees.no_trees e = e
  any_uses_more names binders t a s h (plain.Trees.and_tree p more) e = or_both _ _ _ _ (uses_more names binders t a s h p) (any_uses_more names binders t a s h more) e

-- ---- what names stand for

-- the name is shown, and stands for the variable or for a field of it, under further binders too
abbrev pub Stands : List Bytes → Scope → Bytes → ℕ → Entry → Type 0
Stands names x t q unnamed = Unit {0}
Stands names x t q (one y) =
    IsShown names t × (is_none (x.phrases (number_of names t)) ≡ false) × ((more : ℕ) (here : Place) → used (more + x.depth) (number_of names t) here (x.phrases (number_of names t)) ≡ plain.Tree.var (more + q) here)
Stands names x t q (all fs) =
    IsShown names t × (is_none (x.phrases (number_of names t)) ≡ false) × ((i : ℕ) → field_name fs i ≡ Some t → number_of names t ≡ i)
    × ((more : ℕ) (here : Place) → used (more + x.depth) (number_of names t) here (x.phrases (number_of names t)) ≡ plain.Tree.sel (plain.Tree.var (more + q) here) (number_of names t) here)

-- each name that the phrase uses stands for the variable that it is a name of
abbrev pub AllStand : List Bytes → List Binder → List Entry → Scope → (ℕ → ℕ) → plain.Tree → Type 0
AllStand names binders s x v p =
    (j : ℕ) (t : Bytes) → has_name t (entry_at s j) ≡ true → uses (plainly names binders) t (alone j (entry_at s j)) p ≡ true → Stands names x t (v j) (entry_at s j)

shown_of : (names : List Bytes) (x : Scope) (t : Bytes) (q : ℕ) (e : Entry) → has_name t e ≡ true → Stands names x t q e → IsShown names t
shown_of names x t q unnamed h st = absurd (false≢true h)
shown_of names x t q (one y) h st = st.0
shown_of names x t q (all fs) h st = st.0

-- under one more binder
stands_later : (names : List Bytes) (x y : Scope) (t : Bytes) (q : ℕ) (e : Entry) → y.depth ≡ suc x.depth → y.phrases (number_of names t) ≡ x.phrases (number_of names t) →
    Stands names x t q e → Stands names y t (suc q) e
stands_later names x y t q unnamed d same st = tt
stands_later names x y t q (one z) d same st = (
  st.0,
  ap (λ o. is_none o) same ∙ st.1,
  λ more here.
      let deep : more + y.depth ≡ suc more + x.depth = omega (arith, d) in
      let far : suc more + q ≡ more + suc q = omega arith in
      ap (λ n. used n (number_of names t) here (y.phrases (number_of names t))) deep
      ∙ (ap (λ o. used (suc more + x.depth) (number_of names t) here o) same ∙ (st.2 (suc more) here ∙ ap (λ k. plain.Tree.var k here) far)),
)
stands_later names x y t q (all fs) d same st = (
  st.0,
  ap (λ o. is_none o) same ∙ st.1,
  st.2,
  λ more here.
      let deep : more + y.depth ≡ suc more + x.depth = omega (arith, d) in
      let far : suc more + q ≡ more + suc q = omega arith in
      ap (λ n. used n (number_of names t) here (y.phrases (number_of names t))) deep
      ∙ (ap (λ o. used (suc more + x.depth) (number_of names t) here o) same ∙ (st.3 (suc more) here ∙ ap (λ k. plain.Tree.sel (plain.Tree.var k here) (number_of names t) here) far)),
)

-- inside a binder of that entry
pub stand_inside : (names : List Bytes) (binders : List Binder) (s : List Entry) (x y : Scope) (v : ℕ → ℕ) (p b : plain.Tree) (e : Entry) → y.depth ≡ suc x.depth →
    ((t : Bytes) → has_name t e ≡ true → uses (plainly names binders) t (alone 0 e) b ≡ true → Stands names y t 0 e) →
    ((t : Bytes) → IsShown names t → uses (plainly names binders) t (unnamed ∷ s) b ≡ true → y.phrases (number_of names t) ≡ x.phrases (number_of names t)) →
    ((j : ℕ) (t : Bytes) → uses (plainly names binders) t (alone (suc j) (entry_at s j)) b ≡ true → uses (plainly names binders) t (alone j (entry_at s j)) p ≡ true) →
    AllStand names binders s x v p → AllStand names binders (e ∷ s) y (lifted v) b
stand_inside names binders s x y v p b e d first others up good zero t h u = first t h u
stand_inside names binders s x y v p b e d first others up good (suc j) t h u =
    let k = plainly names binders in
    let later = entry_later e s j in
    let named : has_name t (entry_at s j) ≡ true = sym (ap (λ w. has_name t w) later) ∙ h in
    let inner : uses k t (alone (suc j) (entry_at s j)) b ≡ true = sym (ap (λ w. uses k t (alone (suc j) w) b) later) ∙ u in
    let st = good j t named (up j t inner) in
    let outer = uses_more names binders t (unnamed ∷ alone j (entry_at s j)) (unnamed ∷ s) (below_under (alone j (entry_at s j)) s (below_alone j s (entry_at s j) refl)) b inner in
    subst (λ w. Stands names y t (suc (v j)) w) (sym later)
    (stands_later names x y t (v j) (entry_at s j) d (others t (shown_of names x t (v j) (entry_at s j) named st) outer) st)

-- ---- numbers of names

-- names of one number are the same
pub number_same : (names : List Bytes) (t y : Bytes) → has names t ≡ true → has names y ≡ true → number_of names t ≡ number_of names y → t ≡ y
number_same [] t y h g e = absurd (false≢true h)
number_same (name ∷ names) t y h g e = by (number_same names t y) (bytes_eq t name) (bytes_eq y name) refl refl h g e
  where
    later : number_of names t + 1 ≡ number_of names y + 1 → number_of names t ≡ number_of names y
    later i = omega (arith, i)

    by : (has names t ≡ true → has names y ≡ true → number_of names t ≡ number_of names y → t ≡ y) → (a b : Bool) → bytes_eq t name ≡ a → bytes_eq y name ≡ b → (a || has names t) ≡ true → (b || has names y) ≡ true →
        (if a then 0 else number_of names t + 1) ≡ (if b then 0 else number_of names y + 1) → t ≡ y
    by rest true true one_is other_is h g e = (bytes_eq-Decides t name).0 one_is ∙ sym ((bytes_eq-Decides y name).0 other_is)
    by rest true false one_is other_is h g e = absurd (omega (arith, e))
    by rest false true one_is other_is h g e = absurd (omega (arith, e))
    by rest false false one_is other_is h g e = rest h g (later e)

-- ---- binders

-- a binder of one name
under_here : (x : Scope) (n more : ℕ) (here : Place) → used (more + suc x.depth) n here ((under n x).phrases n) ≡ plain.Tree.var (more + 0) here
under_here x n more here =
    let far : more + suc x.depth - x.depth - 1 ≡ more + 0 = omega arith in
    subst (λ o. used (more + suc x.depth) n here o ≡ plain.Tree.var (more + 0) here) (sym (with_same n _ x.phrases n (eq-eqb n n refl))) (ap (λ k. plain.Tree.var k here) far)

under_known : (x : Scope) (n : ℕ) → is_none ((under n x).phrases n) ≡ false
under_known x n = ap (λ o. is_none o) (with_same n _ x.phrases n (eq-eqb n n refl))

-- the names of a binder that is shown by one name
pub stand_under : (names : List Bytes) (binders : List Binder) (s : List Entry) (x : Scope) (v : ℕ → ℕ) (p b : plain.Tree) (y : Bytes) → IsShown names y →
    ((t : Bytes) → has_name t (one y) ≡ true → uses (plainly names binders) t (unnamed ∷ s) b ≡ false) →
    ((j : ℕ) (t : Bytes) → uses (plainly names binders) t (alone (suc j) (entry_at s j)) b ≡ true → uses (plainly names binders) t (alone j (entry_at s j)) p ≡ true) →
    AllStand names binders s x v p → AllStand names binders (one y ∷ s) (under (number_of names y) x) (lifted v) b
stand_under names binders s x v p b y is none up good =
    stand_inside names binders s x (under (number_of names y) x) v p b (one y) refl
    (λ t h u.
    subst (λ z. Stands names (under (number_of names y) x) z 0 (one y)) (sym ((bytes_eq-Decides t y).0 h)) (is, under_known x (number_of names y), λ more here. under_here x (number_of names y) more here))
    (λ t shown u.
    let differ : number_of names t ≡ number_of names y → ⊥ =
    λ i. false≢true (sym (none t ((bytes_eq-Decides t y).1 (number_same names t y shown.known is.known i))) ∙ u) in
    with_other (number_of names y) _ x.phrases (number_of names t) (ne_eqb (number_of names t) (number_of names y) differ))
    up good

-- ---- the fields of a `letrec`

pub members_other : (d : ℕ) (fs : List (ℕ × PlainType)) (x : Scope) (m : ℕ) → (IsAmong m fs → ⊥) → with_members d (plain_decls fs) x.phrases m ≡ x.phrases m
members_other d [] x m h = refl
members_other d (f ∷ fs) x m h =
    with_other f.0 _ (with_members d (plain_decls fs) x.phrases) m (ne_eqb m f.0 (λ i. h (inl i))) ∙ members_other d fs x m (λ i. h (inr i))

pub members_here : (d more : ℕ) (fs : List (ℕ × PlainType)) (x : Scope) (i : ℕ) (here : Place) → IsAmong i fs →
    used (more + suc d) i here (with_members d (plain_decls fs) x.phrases i) ≡ plain.Tree.sel (plain.Tree.var (more + 0) here) i here
members_here d more [] x i here h = absurd h
members_here d more (f ∷ fs) x i here h = by (λ among. members_here d more fs x i here among) (i == f.0) refl
  where
    far : more + suc d - d - 1 ≡ more + 0
    far = omega arith

    later : (i == f.0) ≡ false → (i ≡ f.0) ⊎ IsAmong i fs → IsAmong i fs
    later e (inl same) = absurd (false≢true (sym e ∙ eq-eqb i f.0 same))
    later e (inr j) = j

    by : (IsAmong i fs → used (more + suc d) i here (with_members d (plain_decls fs) x.phrases i) ≡ plain.Tree.sel (plain.Tree.var (more + 0) here) i here) →
        (b : Bool) → (i == f.0) ≡ b → used (more + suc d) i here (with_members d (plain_decls (f ∷ fs)) x.phrases i) ≡ plain.Tree.sel (plain.Tree.var (more + 0) here) i here
    by rest true e =
        subst (λ o. used (more + suc d) i here o ≡ plain.Tree.sel (plain.Tree.var (more + 0) here) i here)
        (sym (with_same f.0 _ (with_members d (plain_decls fs) x.phrases) i e)) (ap (λ k. plain.Tree.sel (plain.Tree.var k here) i here) far)
    by rest false e = ap (λ o. used (more + suc d) i here o) (with_other f.0 _ (with_members d (plain_decls fs) x.phrases) i e) ∙ rest (later e h)

pub members_there : (d : ℕ) (fs : List (ℕ × PlainType)) (x : Scope) (i : ℕ) → IsAmong i fs → is_none (with_members d (plain_decls fs) x.phrases i) ≡ false
members_there d [] x i h = absurd h
members_there d (f ∷ fs) x i h = by (λ among. members_there d fs x i among) (i == f.0) refl
  where
    later : (i == f.0) ≡ false → (i ≡ f.0) ⊎ IsAmong i fs → IsAmong i fs
    later e (inl same) = absurd (false≢true (sym e ∙ eq-eqb i f.0 same))
    later e (inr j) = j

    by : (IsAmong i fs → is_none (with_members d (plain_decls fs) x.phrases i) ≡ false) → (b : Bool) → (i == f.0) ≡ b → is_none (with_members d (plain_decls (f ∷ fs)) x.phrases i) ≡ false
    by rest true e = ap (λ o. is_none o) (with_same f.0 _ (with_members d (plain_decls fs) x.phrases) i e)
    by rest false e = ap (λ o. is_none o) (with_other f.0 _ (with_members d (plain_decls fs) x.phrases) i e) ∙ rest (later e h)
