-- What types are by their nodes.
use Rattle.std.proofs.Common.{ℕ, ◌≡◌, ◌≢◌, ◌==◌, ◌&&◌, true, false, cond, List, Option, None, is_some, refl, sym, ap, ◌∙◌}
use Rattle.fy_base.specs.Outside.{Bytes}
use Rattle.fy_types.specs.declared.types.Atom.{Atom}
use Rattle.fy_types.specs.Types.{PlainType, atom, arrow, field, meet, no_types, and_type}
use Rattle.fy_derive.specs.declared.node.TypeNode.{TypeNode}
use Rattle.fy_derive.specs.declared.node.TypeNode.TheVariants as node
use Rattle.fy_derive.specs.Tables.{type_at, node_type, in_front, is_meet, is_meet_behind}
use Rattle.fy_short.specs.ShortTypes.{is_arrow, is_int, is_length, is_short, meet_name, members_in, predefined_name, sequence_name}

-- ---- a meet with one more member

arrow-in_front : (A B : PlainType) → is_meet B ≡ true → is_arrow (in_front A B) ≡ false
arrow-in_front A (meet Bs) e = refl
arrow-in_front A B e = absurd cc

int-in_front : (A B : PlainType) → is_meet B ≡ true → is_int (in_front A B) ≡ false
int-in_front A (meet Bs) e = refl
int-in_front A B e = absurd cc

length-in_front : (A B : PlainType) → is_meet B ≡ true → is_length (in_front A B) ≡ false
length-in_front A (meet Bs) e = refl
length-in_front A B e = absurd cc

sequence-in_front : (A B : PlainType) → is_meet B ≡ true → sequence_name (in_front A B) ≡ None
sequence-in_front A (meet Bs) e = refl
sequence-in_front A B e = absurd cc

second-in_front : (a : Atom) (A B : PlainType) → is_meet B ≡ true → meet_name (atom a) (in_front A B) ≡ None
second-in_front a A (meet Bs) e = refl
second-in_front a A B e = absurd cc

first-in_front : (A B C : PlainType) → is_meet B ≡ true → meet_name (in_front A B) C ≡ None
first-in_front A (meet Bs) C e = refl
first-in_front A B C e = absurd cc

more-in_front : (A B C D : PlainType) → is_meet D ≡ true → predefined_name (members_in (in_front A (in_front B (in_front C D)))) ≡ None
more-in_front A B C (meet Ds) e = refl
more-in_front A B C D e = absurd cc

pub members-front : (A B : PlainType) → is_meet B ≡ true → members_in (in_front A B) ≡ and_type A (members_in B)
members-front A (meet Bs) e = refl
members-front A B e = absurd cc

pub short-front : (A B : PlainType) → is_meet B ≡ true → (o : Option Bytes) → o ≡ predefined_name (members_in (in_front A B)) → is_short (in_front A B) ≡ is_some o
short-front A (meet Bs) e o h = sym (ap is_some h)
short-front A B e o h = absurd cc

-- ---- a node that is no such one

pub arrow-other : (As : List PlainType) (n : TypeNode) → is_meet_behind As n ≡ true → ((d r : ℕ) → n ≢ node.Arrow d r) → is_arrow (node_type As n) ≡ false
arrow-other As (node.Arrow d r) l h = absurd (h d r refl)
arrow-other As (node.AndType p q) l h = arrow-in_front (type_at As p) (type_at As q) l
arrow-other As n l h = refl

pub int-other : (As : List PlainType) (n : TypeNode) → is_meet_behind As n ≡ true → ((a : Atom) → n ≢ node.Atom a) → is_int (node_type As n) ≡ false
int-other As (node.Atom a) l h = absurd (h a refl)
int-other As (node.AndType p q) l h = int-in_front (type_at As p) (type_at As q) l
int-other As n l h = refl

pub length-other : (As : List PlainType) (n : TypeNode) → is_meet_behind As n ≡ true → ((i r : ℕ) → n ≢ node.Field i r) → is_length (node_type As n) ≡ false
length-other As (node.Field i r) l h = absurd (h i r refl)
length-other As (node.AndType p q) l h = length-in_front (type_at As p) (type_at As q) l
length-other As n l h = refl

pub sequence-other : (As : List PlainType) (n : TypeNode) → is_meet_behind As n ≡ true → ((a : Atom) → n ≢ node.Atom a) → None ≡ sequence_name (node_type As n)
sequence-other As (node.Atom a) l h = absurd (h a refl)
sequence-other As (node.AndType p q) l h = sym (sequence-in_front (type_at As p) (type_at As q) l)
sequence-other As n l h = refl

pub second-other : (a : Atom) (As : List PlainType) (n : TypeNode) → is_meet_behind As n ≡ true → ((b : Atom) → n ≢ node.Atom b) → None ≡ meet_name (atom a) (node_type As n)
second-other a As (node.Atom b) l h = absurd (h b refl)
second-other a As (node.AndType p q) l h = sym (second-in_front a (type_at As p) (type_at As q) l)
second-other a As n l h = refl

pub first-other : (As : List PlainType) (n : TypeNode) (C : PlainType) → is_meet_behind As n ≡ true → ((a : Atom) → n ≢ node.Atom a) → ((d r : ℕ) → n ≢ node.Arrow d r) →
    None ≡ meet_name (node_type As n) C
first-other As (node.Atom a) C l h k = absurd (h a refl)
first-other As (node.Arrow d r) C l h k = absurd (k d r refl)
first-other As (node.AndType p q) C l h k = sym (first-in_front (type_at As p) (type_at As q) C l)
first-other As n C l h k = refl

pub members-other : (As : List PlainType) (n : TypeNode) → ((p q : ℕ) → n ≢ node.AndType p q) → members_in (node_type As n) ≡ no_types
members-other As (node.AndType p q) h = absurd (h p q refl)
members-other As n h = refl

pub name-other : (A : PlainType) (As : List PlainType) (n : TypeNode) → ((p q : ℕ) → n ≢ node.AndType p q) → None ≡ predefined_name (members_in (in_front A (node_type As n)))
name-other A As (node.AndType p q) h = absurd (h p q refl)
name-other A As n h = refl

pub name-more : (A B : PlainType) (As : List PlainType) (n : TypeNode) → is_meet_behind As n ≡ true → is_meet (node_type As n) ≡ true → n ≢ node.NoTypes →
    None ≡ predefined_name (members_in (in_front A (in_front B (node_type As n))))
name-more A B As (node.AndType p q) l e h = sym (more-in_front A B (type_at As p) (type_at As q) l)
name-more A B As node.NoTypes l e h = absurd (h refl)
name-more A B As n l e h = absurd cc

-- a meet of just two
pub name-two : (A B C : PlainType) → C ≡ meet no_types → meet_name A B ≡ predefined_name (members_in (in_front A (in_front B C)))
name-two A B C e = sym (ap (λ (D : PlainType). predefined_name (members_in (in_front A (in_front B D)))) e)

-- `len : int`, by the field's node
pub length-field : (C A : PlainType) (i : ℕ) → C ≡ field i A → ((i == 0) && is_int A) ≡ is_length C
length-field C A i e = sym (ap is_length e)

pub named-sequence : (A B F C : PlainType) → F ≡ arrow A B → is_int A ≡ true → is_length C ≡ true → sequence_name B ≡ meet_name F C
named-sequence A B F C e h k =
    sym (ap (λ (X : PlainType). meet_name X C) e ∙ ap (λ b. cond (b && is_length C) (sequence_name B) None) h ∙ ap (λ b. cond b (sequence_name B) None) k)

pub unnamed-sequence : (A B F C : PlainType) → F ≡ arrow A B → (is_int A && is_length C) ≡ false → None ≡ meet_name F C
unnamed-sequence A B F C e h = sym (ap (λ (X : PlainType). meet_name X C) e ∙ ap (λ b. cond b (sequence_name B) None) h)

pub ruleset node_rules = (arrow-other, int-other, length-other, sequence-other, second-other, first-other, name-other, name-more, name-two, short-front, length-field, named-sequence, unnamed-sequence)
