-- What is asked, by the numbers of a table.
use Rattle.std.proofs.Common.{ℕ, zero, suc, ◌+◌, ◌<◌, ◌≤◌, ◌≡◌, ◌≢◌, Bool, true, false, List, [], ◌∷◌, ◌++◌, length, get_or, drop, cond, Option, Some, None, refl, sym, ap, ◌∙◌, arith, eqb, eqb-true, eq-eqb, IsTrue}
use Rattle.std.specs.Prelude.{◌||◌, ◌&&◌, find}
use Rattle.std.specs.Option.{option_or}
use Rattle.std.specs.List.{list_any, list_all, filter}
use Rattle.std.proofs.lemmas.List.{drop_more, get_or_past, length-map}
use Rattle.std.proofs.lemmas.List.Elements.{All-head, All-tail}
use Rattle.std.proofs.lemmas.List.Folds.{find-append}
use Rattle.fy_types.specs.Types.{PlainType, PlainTypes, ns, atom, arrow, field, meet, no_types, and_type}
use Rattle.fy_types.specs.declared.types.Atom.{Atom}
use Rattle.fy_types.specs.Subtyping.{IsMember, first, later, IsSubtype, same, below_member}
use Rattle.fy_phrase.specs.Tree.{Tree}
use Rattle.fy_derive.specs.declared.node.TypeNode.{TypeNode}
use Rattle.fy_derive.specs.declared.node.TypeNode.TheVariants as node
use Rattle.fy_derive.specs.declared.table.TypeTable.{TypeTable}
use Rattle.fy_derive.specs.Tables.{type_at, node_type, in_front, is_meet, is_meet_behind}
use Rattle.fy_derive.specs.Shown.{total, shown, all_shown, AreIn}
use Rattle.fy_derive.specs.Subsumption.{is_below}
use Rattle.fy_derive.specs.Rules.{same_type}
use Rattle.fy_derive.proofs.RuleLemmas.{eqb_apart, same_shown, type_at-shown}
use Rattle.fy_derive.proofs.SubsumptionLemmas.{is_below-iff}
use Rattle.fy_reasons.specs.Expected.{Asked, anything, one_of, an_arrow, a_field, asked_third, accepted_by, domain_of, asked, is_asked, first_wrong, has_domain, members, members_of, advised}
use Rattle.fy_reasons.proofs.AdviceLemmas.{and-both, and-first, and-second}

pub asked-past : (i : ℕ) (a b c : Asked) → i ≢ 0 → i ≢ 1 → asked_third i a b c ≡ c
asked-past zero a b c h k = absurd (h refl)
asked-past (suc zero) a b c h k = absurd (k refl)
asked-past (suc (suc i)) a b c h k = refl

-- past the last type stands `ns`
pub type_at-past : (t : TypeTable) (ks : List ℕ) (i : ℕ) → length ks ≤ i → type_at (all_shown t ks) i ≡ ns
type_at-past t ks i h = get_or_past (all_shown t ks) i ns (omega (arith, h, length-map ks (shown t)))

eqb-turned-step : (a b : ℕ) (s : Bool) → eqb a b ≡ s → eqb b a ≡ s
eqb-turned-step a b true e = eq-eqb b a (sym (eqb-true a b e))
eqb-turned-step a b false e = eqb_apart b a (λ f. differ (sym (eq-eqb a b f) ∙ e))
  where
    differ : true ≡ false → ⊥
    differ e = cc

eqb-turned : (a b : ℕ) → eqb b a ≡ eqb a b
eqb-turned a b = eqb-turned-step a b (eqb a b) refl

-- a number stands among others just where its type does
pub contains-shown : (t : TypeTable) (n : ℕ) (ks : List ℕ) → n < total t → AreIn t ks → list_any (λ y. eqb y n) ks ≡ list_any (same_type (shown t n)) (all_shown t ks)
contains-shown t n [] h l = refl
contains-shown t n (k ∷ ks) h l =
    ap (λ b. b || list_any (λ y. eqb y n) ks) (eqb-turned n k ∙ sym (same_shown t n k h (All-head (λ k. k < total t) k ks l.below)))
    ∙ ap (λ b. same_type (shown t n) (shown t k) || b) (contains-shown t n ks h (record { below = All-tail (λ k. k < total t) k ks l.below }))

arrow-in_front : (A B : PlainType) → is_meet B ≡ true → is_asked an_arrow (in_front A B) ≡ false
arrow-in_front A (meet Bs) e = refl
arrow-in_front A B e = absurd cc

pub arrow-other : (As : List PlainType) (n : TypeNode) → is_meet_behind As n ≡ true → ((d r : ℕ) → n ≢ node.Arrow d r) → is_asked an_arrow (node_type As n) ≡ false
arrow-other As (node.Arrow d r) l h = absurd (h d r refl)
arrow-other As (node.AndType p q) l h = arrow-in_front (type_at As p) (type_at As q) l
arrow-other As n l h = refl

field-in_front : (A B : PlainType) (i : ℕ) → is_meet B ≡ true → is_asked (a_field i) (in_front A B) ≡ false
field-in_front A (meet Bs) i e = refl
field-in_front A B i e = absurd cc

pub field-other : (As : List PlainType) (n : TypeNode) (i : ℕ) → is_meet_behind As n ≡ true → ((j r : ℕ) → n ≢ node.Field j r) → is_asked (a_field i) (node_type As n) ≡ false
field-other As (node.Field j r) i l h = absurd (h j r refl)
field-other As (node.AndType p q) i l h = field-in_front (type_at As p) (type_at As q) i l
field-other As n i l h = refl

domain-in_front : (A B : PlainType) → is_meet B ≡ true → domain_of (in_front A B) ≡ anything
domain-in_front A (meet Bs) e = refl
domain-in_front A B e = absurd cc

pub domain-other : (As : List PlainType) (n : TypeNode) → is_meet_behind As n ≡ true → ((d r : ℕ) → n ≢ node.Arrow d r) → domain_of (node_type As n) ≡ anything
domain-other As (node.Arrow d r) l h = absurd (h d r refl)
domain-other As (node.AndType p q) l h = domain-in_front (type_at As p) (type_at As q) l
domain-other As n l h = refl

accepted-in_front : (A B : PlainType) → is_meet B ≡ true → accepted_by (in_front A B) ≡ anything
accepted-in_front A (meet Bs) e = refl
accepted-in_front A B e = absurd cc

pub accepted-other : (As : List PlainType) (n : TypeNode) → is_meet_behind As n ≡ true → ((a : Atom) → n ≢ node.Atom a) → accepted_by (node_type As n) ≡ anything
accepted-other As (node.Atom a) l h = absurd (h a refl)
accepted-other As (node.AndType p q) l h = accepted-in_front (type_at As p) (type_at As q) l
accepted-other As n l h = refl

from-in_front : (A B C : PlainType) → is_meet B ≡ true → has_domain C (in_front A B) ≡ false
from-in_front A (meet Bs) C e = refl
from-in_front A B C e = absurd cc

pub from-other : (As : List PlainType) (n : TypeNode) (C : PlainType) → is_meet_behind As n ≡ true → ((d r : ℕ) → n ≢ node.Arrow d r) → has_domain C (node_type As n) ≡ false
from-other As (node.Arrow d r) C l h = absurd (h d r refl)
from-other As (node.AndType p q) C l h = from-in_front (type_at As p) (type_at As q) C l
from-other As n C l h = refl

-- an arrow, by its domain
pub from-arrow : (t : TypeTable) (F : PlainType) (d r b : ℕ) → F ≡ arrow (shown t d) (shown t r) → d < total t → b < total t → has_domain (shown t b) F ≡ eqb d b
from-arrow t F d r b f h k = ap (has_domain (shown t b)) f ∙ same_shown t d b h k

-- the members of a type, by its node
members-in_front : (A B : PlainType) → is_meet B ≡ true → members (in_front A B) ≡ A ∷ members B
members-in_front A (meet Bs) e = refl
members-in_front A B e = absurd cc

pub members-front : (t : TypeTable) (n i j : ℕ) → shown t n ≡ in_front (shown t i) (shown t j) → is_meet (shown t j) ≡ true → members (shown t n) ≡ shown t i ∷ members (shown t j)
members-front t n i j e h = ap members e ∙ members-in_front (shown t i) (shown t j) h

pub members-other : (As : List PlainType) (n : TypeNode) → ((i j : ℕ) → n ≢ node.AndType i j) → n ≢ node.NoTypes → members (node_type As n) ≡ node_type As n ∷ []
members-other As (node.AndType p q) h k = absurd (h p q refl)
members-other As node.NoTypes h k = absurd (k refl)
members-other As n h k = refl

-- the first of those that are left
pub find-step : (f : PlainType → Bool) (t : TypeTable) (ks : List ℕ) (i : ℕ) → i < length ks →
    find f (all_shown t (drop i ks)) ≡ cond (f (shown t (get_or ks i 0))) (Some (shown t (get_or ks i 0))) (find f (all_shown t (drop (i + 1) ks)))
find-step f t ks i h = ap (λ ms. find f (all_shown t ms)) (drop_more ks i 0 h)

pub find-next : (f : PlainType → Bool) (t : TypeTable) (ks : List ℕ) (i : ℕ) (o : Option PlainType) → i < length ks → f (shown t (get_or ks i 0)) ≡ false →
    find f (all_shown t (drop i ks)) ≡ o → find f (all_shown t (drop (i + 1) ks)) ≡ o
find-next f t ks i o h e g =
    sym (find-step f t ks i h ∙ ap (λ b. cond b (Some (shown t (get_or ks i 0))) (find f (all_shown t (drop (i + 1) ks)))) e) ∙ g

pub find-here : (f : PlainType → Bool) (t : TypeTable) (ks : List ℕ) (i : ℕ) (o : Option PlainType) → i < length ks → f (shown t (get_or ks i 0)) ≡ true →
    find f (all_shown t (drop i ks)) ≡ o → Some (shown t (get_or ks i 0)) ≡ o
find-here f t ks i o h e g =
    sym (find-step f t ks i h ∙ ap (λ b. cond b (Some (shown t (get_or ks i 0))) (find f (all_shown t (drop (i + 1) ks)))) e) ∙ g

pub find-past : (f : PlainType → Bool) (t : TypeTable) (ks : List ℕ) (i : ℕ) (o : Option PlainType) → drop i ks ≡ [] → find f (all_shown t (drop i ks)) ≡ o → None ≡ o
find-past f t ks i o e g = sym (ap (λ ms. find f (all_shown t ms)) e) ∙ g

-- the first premise that isn't what is asked
wrong-step : (p : Tree) (As : List PlainType) (t : TypeTable) (ks : List ℕ) (i : ℕ) → i < length ks →
    first_wrong p As i (all_shown t (drop i ks)) ≡ cond (is_asked (asked p As i) (shown t (get_or ks i 0))) (first_wrong p As (i + 1) (all_shown t (drop (i + 1) ks))) (Some (i, asked p As i))
wrong-step p As t ks i h = ap (λ ms. first_wrong p As i (all_shown t ms)) (drop_more ks i 0 h)

pub wrong-next : (p : Tree) (As : List PlainType) (t : TypeTable) (ks : List ℕ) (i : ℕ) (o : Option (ℕ × Asked)) → i < length ks →
    is_asked (asked p As i) (shown t (get_or ks i 0)) ≡ true → first_wrong p As i (all_shown t (drop i ks)) ≡ o → first_wrong p As (i + 1) (all_shown t (drop (i + 1) ks)) ≡ o
wrong-next p As t ks i o h e g =
    sym (wrong-step p As t ks i h ∙ ap (λ b. cond b (first_wrong p As (i + 1) (all_shown t (drop (i + 1) ks))) (Some (i, asked p As i))) e) ∙ g

pub wrong-here : (p : Tree) (As : List PlainType) (t : TypeTable) (ks : List ℕ) (i : ℕ) (o : Option (ℕ × Asked)) → i < length ks →
    is_asked (asked p As i) (shown t (get_or ks i 0)) ≡ false → first_wrong p As i (all_shown t (drop i ks)) ≡ o → Some (i, asked p As i) ≡ o
wrong-here p As t ks i o h e g =
    sym (wrong-step p As t ks i h ∙ ap (λ b. cond b (first_wrong p As (i + 1) (all_shown t (drop (i + 1) ks))) (Some (i, asked p As i))) e) ∙ g

-- a type is below its members
all-members : (B : PlainType) (As : PlainTypes) → ((A : PlainType) → IsMember As A → IsSubtype B A) → list_all (λ C. is_below B C) (members_of As) ≡ true
all-members B no_types h = refl
all-members B (and_type A As) h =
    and-both (is_below B A) (list_all (λ C. is_below B C) (members_of As)) ((is_below-iff B A).1 (h A first)) (all-members B As (λ C m. h C (later m)))

itself : (A : PlainType) → list_all (λ C. is_below A C) (A ∷ []) ≡ true
itself A = and-both (is_below A A) true ((is_below-iff A A).1 same) refl

members-above : (A : PlainType) → list_all (λ C. is_below A C) (members A) ≡ true
members-above ns = itself ns
members-above (atom a) = itself (atom a)
members-above (arrow A B) = itself (arrow A B)
members-above (field i A) = itself (field i A)
members-above (meet As) = all-members (meet As) As (λ C m. below_member m)

filter-first-step : (f : PlainType → Bool) (x : PlainType) (ys : List PlainType) (o : Option PlainType) (b : Bool) → f x ≡ true → find f ys ≡ o →
    find f (cond b (x ∷ ys) ys) ≡ cond b (Some x) o
filter-first-step f x ys o true e h = ap (λ c. cond c (Some x) (find f ys)) e
filter-first-step f x ys o false e h = h

-- where all pass one test, the first that passes both is the first that passes the other
filter-first : (f g : PlainType → Bool) (xs : List PlainType) → list_all f xs ≡ true → find f (filter g xs) ≡ find g xs
filter-first f g [] h = refl
filter-first f g (x ∷ xs) h =
    filter-first-step f x (filter g xs) (find g xs) (g x) (and-first (f x) (list_all f xs) h) (filter-first f g xs (and-second (f x) (list_all f xs) h))

pub advised-arrow : (A B : PlainType) → advised an_arrow A B ≡ option_or (find (has_domain B) (members A)) (find (is_asked an_arrow) (members A))
advised-arrow A B =
    let f : PlainType → Bool = λ C. is_below A C in
    find-append f (filter (has_domain B) (members A)) (filter (is_asked an_arrow) (members A))
    ∙ (ap (λ o. option_or o (find f (filter (is_asked an_arrow) (members A)))) (filter-first f (has_domain B) (members A) (members-above A))
    ∙ ap (option_or (find (has_domain B) (members A))) (filter-first f (is_asked an_arrow) (members A) (members-above A)))

pub advised-field : (A B : PlainType) (i : ℕ) → advised (a_field i) A B ≡ find (is_asked (a_field i)) (members A)
advised-field A B i = filter-first (λ C. is_below A C) (is_asked (a_field i)) (members A) (members-above A)

pub ruleset ask_rules = (asked-past, type_at-shown, type_at-past, contains-shown, arrow-other, field-other, domain-other, accepted-other, from-other, members-other)
