-- What the rules say of the types that numbers stand for.
use Rattle.std.proofs.Common.{ℕ, zero, suc, rules, ◌+◌, ◌<◌, ◌≡◌, ◌≢◌, Bool, true, false, ◌&&◌, List, [], ◌∷◌, length, get_or, drop, refl, sym, ap, ◌∙◌, arith, eqb, eqb-true, eq-eqb, Option, None, Result, Ok, Err, IfOk, option_map, slice_get, IfSome}
use Rattle.std.proofs.lemmas.List.{get_or-map, drop_more}
use Rattle.std.proofs.lemmas.Option.{slice_get-map}
use Rattle.std.proofs.lemmas.List.Elements.{All-head, All-tail}
use Rattle.fy_base.specs.declared.error.OutOfMemory.{OutOfMemory}
use Rattle.fy_types.specs.declared.types.Atom.{Atom}
use Rattle.fy_types.specs.Types.{PlainType, PlainTypes, ns, atom, arrow, field, meet, no_types, and_type}
use Rattle.fy_types.specs.Once.{place}
use Rattle.fy_types.proofs.OnceLemmas.{place-same, both_true}
use Rattle.fy_derive.specs.declared.node.TypeNode.{TypeNode}
use Rattle.fy_derive.specs.declared.node.TypeNode.TheVariants as node
use Rattle.fy_derive.specs.declared.table.TypeTable.{TypeTable}
use Rattle.fy_derive.specs.Tables.{type_at, node_type, in_front, is_meet, is_meet_behind}
use Rattle.fy_derive.specs.Shown.{total, shown, all_shown, Extends, AreIn}
use Rattle.fy_derive.specs.Rules.{same_type, same_types, applied, selected, provided, all_same}
use Rattle.fy_derive.proofs.Apart.{same_number}

pub eqb_apart : (a b : ℕ) → (b ≡ a → ⊥) → eqb a b ≡ false
eqb_apart a b f = cases (eqb a b) refl
  where
    cases : (t : Bool) → eqb a b ≡ t → eqb a b ≡ false
    cases true e = absurd (f (sym (eqb-true a b e)))
    cases false e = e

mutual
  pub same_type-refl : (A : PlainType) → same_type A A ≡ true
  same_type-refl ns = refl
  same_type-refl (atom a) = eq-eqb (place a) (place a) refl
  same_type-refl (arrow A B) = rw (same_type-refl A, same_type-refl B) refl
  same_type-refl (field i A) = rw (eq-eqb i i refl, same_type-refl A) refl
  same_type-refl (meet As) = same_types-refl As

  pub same_types-refl : (As : PlainTypes) → same_types As As ≡ true
  same_types-refl no_types = refl
  same_types-refl (and_type A As) = rw (same_type-refl A, same_types-refl As) refl

mutual
  pub same_type-true : (A B : PlainType) → same_type A B ≡ true → A ≡ B
  same_type-true ns ns e = refl
  same_type-true (atom a) (atom b) e = ap atom (place-same a b (eqb-true (place a) (place b) e))
  same_type-true (arrow A B) (arrow C D) e =
      let h = both_true _ _ e in ap (λ x. arrow x B) (same_type-true A C h.0) ∙ ap (arrow C) (same_type-true B D h.1)
  same_type-true (field i A) (field j B) e =
      let h = both_true _ _ e in ap (λ x. field x A) (eqb-true i j h.0) ∙ ap (field j) (same_type-true A B h.1)
  same_type-true (meet As) (meet Bs) e = ap meet (same_types-true As Bs e)
  same_type-true A B e = absurd cc

  pub same_types-true : (As Bs : PlainTypes) → same_types As Bs ≡ true → As ≡ Bs
  same_types-true no_types no_types e = refl
  same_types-true (and_type A As) (and_type B Bs) e =
      let h = both_true _ _ e in ap (λ x. and_type x As) (same_type-true A B h.0) ∙ ap (and_type B) (same_types-true As Bs h.1)
  same_types-true As Bs e = absurd cc

-- types are compared by their numbers
pub same_shown : (t : TypeTable) (i j : ℕ) → i < total t → j < total t → same_type (shown t i) (shown t j) ≡ eqb i j
same_shown t i j h k = cases (eqb i j) refl (same_type (shown t i) (shown t j)) refl
  where
    cases : (b : Bool) → eqb i j ≡ b → (s : Bool) → same_type (shown t i) (shown t j) ≡ s → s ≡ b
    cases true e true f = refl
    cases true e false f =
        sym f ∙ (ap (λ n. same_type (shown t i) (shown t n)) (sym (eqb-true i j e)) ∙ same_type-refl (shown t i))
    cases false e true f =
        sym (eq-eqb i j (same_number t.nodes.keys t.sound i j h k (same_type-true (shown t i) (shown t j) f))) ∙ e
    cases false e false f = refl

-- the same where the second type stands in a larger table
pub same_later : {t u : TypeTable} (k m : ℕ) (T : PlainType) → Extends t u → k < total t → m < total u → shown u m ≡ T → same_type (shown t k) T ≡ eqb k m
same_later {t = t} {u = u} k m T e h l s =
    ap (λ A. same_type A T) (sym (e.same k h)) ∙ (ap (same_type (shown u k)) (sym s) ∙ same_shown u k m (omega (arith, e.more)) l)

-- a call with an argument of another type
pub applied-apart : (t : TypeTable) (F : PlainType) (d r a : ℕ) → F ≡ arrow (shown t d) (shown t r) → d < total t → a < total t → d ≢ a →
    applied F (shown t a) ≡ None
applied-apart t F d r a f h k n =
    ap (λ F. applied F (shown t a)) f ∙ ap (λ b. provided b (shown t r)) (same_shown t d a h k ∙ eqb_apart d a (λ e. n (sym e)))

-- a number that a context has
pub slice_get-in : (t : TypeTable) (ks : List ℕ) (i : ℕ) → AreIn t ks → IfSome (slice_get ks i) (λ k. k < total t)
slice_get-in t [] i h = search rules
slice_get-in t (k ∷ ks) zero h = All-head (λ k. k < total t) k ks h.below
slice_get-in t (k ∷ ks) (suc i) h = slice_get-in t ks i (record { below = All-tail (λ k. k < total t) k ks h.below })

-- the type of a listed number
pub type_at-shown : (t : TypeTable) (ks : List ℕ) (i : ℕ) → i < length ks → type_at (all_shown t ks) i ≡ shown t (get_or ks i 0)
type_at-shown t ks i h = get_or-map (shown t) ks i 0 ns h

pub slice_get-shown : (t : TypeTable) (ks : List ℕ) (i : ℕ) → slice_get (all_shown t ks) i ≡ option_map (shown t) (slice_get ks i)
slice_get-shown t ks i = slice_get-map (shown t) ks i

applied-in_front : (A B C : PlainType) → is_meet B ≡ true → applied (in_front A B) C ≡ None
applied-in_front A (meet Bs) C e = refl
applied-in_front A B C e = absurd cc

pub applied-other : (As : List PlainType) (n : TypeNode) (B : PlainType) → is_meet_behind As n ≡ true → ((d r : ℕ) → n ≢ node.Arrow d r) → applied (node_type As n) B ≡ None
applied-other As (node.Arrow d r) B l h = absurd (h d r refl)
applied-other As (node.AndType p q) B l h = applied-in_front (type_at As p) (type_at As q) B l
applied-other As n B l h = refl

selected-in_front : (A B : PlainType) (i : ℕ) → is_meet B ≡ true → selected (in_front A B) i ≡ None
selected-in_front A (meet Bs) i e = refl
selected-in_front A B i e = absurd cc

pub selected-other : (As : List PlainType) (n : TypeNode) (i : ℕ) → is_meet_behind As n ≡ true → ((j r : ℕ) → n ≢ node.Field j r) → selected (node_type As n) i ≡ None
selected-other As (node.Field j r) i l h = absurd (h j r refl)
selected-other As (node.AndType p q) i l h = selected-in_front (type_at As p) (type_at As q) i l
selected-other As n i l h = refl

atom-in_front : (A B : PlainType) (a : Atom) → is_meet B ≡ true → same_type (in_front A B) (atom a) ≡ false
atom-in_front A (meet Bs) a e = refl
atom-in_front A B a e = absurd cc

pub atom-other : (As : List PlainType) (n : TypeNode) (a : Atom) → is_meet_behind As n ≡ true → ((b : Atom) → n ≢ node.Atom b) → same_type (node_type As n) (atom a) ≡ false
atom-other As (node.Atom b) a l h = absurd (h b refl)
atom-other As (node.AndType p q) a l h = atom-in_front (type_at As p) (type_at As q) a l
atom-other As n a l h = refl

all_same-cons : (A B : PlainType) (Bs : List PlainType) → all_same A (B ∷ Bs) ≡ same_type A B && all_same A Bs
all_same-cons A B Bs = refl

-- the other types of a list, as numbers
pub all_same-next : (t : TypeTable) (first : ℕ) (ks : List ℕ) (i : ℕ) → i < length ks →
    all_same (shown t first) (all_shown t (drop i ks)) ≡ same_type (shown t first) (shown t (get_or ks i 0)) && all_same (shown t first) (all_shown t (drop (i + 1) ks))
all_same-next t first ks i h = ap (λ ms. all_same (shown t first) (all_shown t ms)) (drop_more ks i 0 h)
    ∙ all_same-cons (shown t first) (shown t (get_or ks i 0)) (all_shown t (drop (i + 1) ks))

-- an atom's number, where a test is passed
pub by_test : (r : Result (Option ℕ) OutOfMemory) (t : TypeTable) (b b' : Bool) (a a' : Atom) (C : Option PlainType) → b ≡ b' → a ≡ a' →
    provided b' (atom a') ≡ C → IfOk r (λ o. option_map (shown t) o ≡ provided b (atom a)) → IfOk r (λ o. option_map (shown t) o ≡ C)
by_test (Ok o) t b b' a a' C e f g h = h ∙ (ap (λ x. provided x (atom a)) e ∙ (ap (λ x. provided b' (atom x)) f ∙ g))
by_test (Err x) t b b' a a' C e f g h = h

pub ruleset rule_rules = (same_shown, type_at-shown, slice_get-shown, applied-other, selected-other, atom-other)
