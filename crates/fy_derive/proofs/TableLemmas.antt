-- A list of nodes: the type of each, and one node more.
use Rattle.std.proofs.Common.{ℕ, zero, suc, ◌+◌, ◌<◌, ◌≤◌, ◌≡◌, ◌≢◌, ◌||◌, Bool, true, false, IsTrue, List, [], ◌∷◌, ◌++◌, length, refl, sym, ap, ◌∙◌, subst, arith, Result, Ok, Err, cond, IfOk, OnErr, inl, inr}
use Rattle.std.proofs.lemmas.Bool.{cases_lt}
use Rattle.std.proofs.lemmas.List.{length_push, get_or_append_left, get_or_push}
use Rattle.std.specs.List.{list_any}
use Rattle.indexmap.specs.IndexSet.{insert_key}
use Rattle.fy_types.specs.Types.{PlainType, ns, arrow, field}
use Rattle.fy_derive.specs.declared.node.TypeNode.{TypeNode}
use Rattle.fy_derive.specs.declared.node.TypeNode.TheVariants as node
use Rattle.fy_derive.specs.Tables.{type_at, node_at, in_front, is_meet, node_type, reach, is_meet_behind, types_after, types_of, IsTable}

pub types_after-append : (As : List PlainType) (xs ys : List TypeNode) → types_after As (xs ++ ys) ≡ types_after (types_after As xs) ys
types_after-append As [] ys = refl
types_after-append As (x ∷ xs) ys = types_after-append (As ++ node_type As x ∷ []) xs ys

pub types_of-push : (xs : List TypeNode) (n : TypeNode) → types_of (xs ++ n ∷ []) ≡ types_of xs ++ node_type (types_of xs) n ∷ []
types_of-push xs n = types_after-append [] xs (n ∷ [])

length-types_after : (As : List PlainType) (xs : List TypeNode) → length (types_after As xs) ≡ length As + length xs
length-types_after As [] = omega arith
length-types_after As (x ∷ xs) = omega (arith, length-types_after (As ++ node_type As x ∷ []) xs, length_push As (node_type As x))

pub length-types_of : (xs : List TypeNode) → length (types_of xs) ≡ length xs
length-types_of xs = omega (arith, length-types_after [] xs)

types_after-kept : (As : List PlainType) (xs : List TypeNode) (k : ℕ) → k < length As → type_at (types_after As xs) k ≡ type_at As k
types_after-kept As [] k h = refl
types_after-kept As (x ∷ xs) k h =
    types_after-kept (As ++ node_type As x ∷ []) xs k (omega (arith, length_push As (node_type As x)))
    ∙ get_or_append_left As (node_type As x ∷ []) ns k h

pub node_type-kept : (As Bs : List PlainType) (n : TypeNode) → ((j : ℕ) → j < reach n → type_at Bs j ≡ type_at As j) → node_type Bs n ≡ node_type As n
node_type-kept As Bs node.Ns h = refl
node_type-kept As Bs (node.Atom a) h = refl
node_type-kept As Bs (node.Arrow d r) h = ap (λ x. arrow x (type_at Bs r)) (h d (omega arith)) ∙ ap (arrow (type_at As d)) (h r (omega arith))
node_type-kept As Bs (node.Field i r) h = ap (field i) (h r (omega arith))
node_type-kept As Bs node.NoTypes h = refl
node_type-kept As Bs (node.AndType d r) h = ap (λ x. in_front x (type_at Bs r)) (h d (omega arith)) ∙ ap (in_front (type_at As d)) (h r (omega arith))

pub is_meet_behind-kept : (As Bs : List PlainType) (n : TypeNode) → ((j : ℕ) → j < reach n → type_at Bs j ≡ type_at As j) → is_meet_behind Bs n ≡ is_meet_behind As n
is_meet_behind-kept As Bs node.Ns h = refl
is_meet_behind-kept As Bs (node.Atom a) h = refl
is_meet_behind-kept As Bs (node.Arrow d r) h = refl
is_meet_behind-kept As Bs (node.Field i r) h = refl
is_meet_behind-kept As Bs node.NoTypes h = refl
is_meet_behind-kept As Bs (node.AndType d r) h = ap is_meet (h r (omega arith))

-- the type with a number is that of its node
type_at-types_after : (As : List PlainType) (xs : List TypeNode) (j k : ℕ) → k ≡ length As + j → j < length xs → reach (node_at xs j) ≤ k →
    type_at (types_after As xs) k ≡ node_type (types_after As xs) (node_at xs j)
type_at-types_after As [] j k e h r = absurd (omega arith)
type_at-types_after As (x ∷ xs) zero k e h r =
    let new = node_type As x in
    types_after-kept (As ++ new ∷ []) xs k (omega (arith, length_push As new))
    ∙ (get_or_push As new ns k (omega arith)
    ∙ sym (node_type-kept As (types_after As (x ∷ xs)) x (λ i l. types_after-kept As (x ∷ xs) i (omega arith))))
type_at-types_after As (x ∷ xs) (suc j) k e h r =
    type_at-types_after (As ++ node_type As x ∷ []) xs j k (omega (arith, length_push As (node_type As x))) (omega arith) r

pub type_at-node : (xs : List TypeNode) (k : ℕ) → IsTable xs → k < length xs → type_at (types_of xs) k ≡ node_type (types_of xs) (node_at xs k)
type_at-node xs k s h = type_at-types_after [] xs k k (omega arith) h (s.parts k h)

-- numbers keep their types
pub types_of-kept : (xs : List TypeNode) (n : TypeNode) (k : ℕ) → k < length xs → type_at (types_of (xs ++ n ∷ [])) k ≡ type_at (types_of xs) k
types_of-kept xs n k h =
    ap (λ As. type_at As k) (types_of-push xs n)
    ∙ get_or_append_left (types_of xs) (node_type (types_of xs) n ∷ []) ns k (omega (arith, length-types_of xs))

pub types_of-new : (xs : List TypeNode) (n : TypeNode) → type_at (types_of (xs ++ n ∷ [])) (length xs) ≡ node_type (types_of xs) n
types_of-new xs n =
    ap (λ As. type_at As (length xs)) (types_of-push xs n)
    ∙ get_or_push (types_of xs) (node_type (types_of xs) n) ns (length xs) (length-types_of xs)

-- what holds below n and at n holds below n + 1
pub old_or_last : (P : ℕ → Type 0) (n k : ℕ) → k < n + 1 → ((k < n) → P k) → (k ≡ n → P k) → P k
old_or_last P n k h f g = elim (cases_lt k n) [ inl l ↦ f l | inr l ↦ g (omega arith) ]

old_node : (xs : List TypeNode) (n : TypeNode) (k : ℕ) → k < length xs → node_at (xs ++ n ∷ []) k ≡ node_at xs k
old_node xs n k h = get_or_append_left xs (n ∷ []) node.Ns k h

last_node : (xs : List TypeNode) (n : TypeNode) (k : ℕ) → k ≡ length xs → node_at (xs ++ n ∷ []) k ≡ n
last_node xs n k h = get_or_push xs n node.Ns k (sym h)

pub IsTable-push : (xs : List TypeNode) (n : TypeNode) → IsTable xs → reach n ≤ length xs → IsTrue (is_meet_behind (types_of xs) n) →
    ((k : ℕ) → k < length xs → node_at xs k ≢ n) → IsTable (xs ++ n ∷ [])
IsTable-push xs n s r l new = record {
  parts = λ k h. old_or_last (λ k. reach (node_at (xs ++ n ∷ []) k) ≤ k) (length xs) k (omega (arith, length_push xs n))
      (λ b. rw (old_node xs n k b) (s.parts k b))
      (λ e. rw (last_node xs n k e) (omega arith));
  meets = λ k h. old_or_last (λ k. IsTrue (is_meet_behind (types_of (xs ++ n ∷ [])) (node_at (xs ++ n ∷ []) k))) (length xs) k (omega (arith, length_push xs n))
      (λ b. rw (old_node xs n k b)
      (is_meet_behind-kept (types_of xs) (types_of (xs ++ n ∷ [])) (node_at xs k) (λ j i. types_of-kept xs n j (omega (arith, s.parts k b)))
      ∙ s.meets k b))
      (λ e. rw (last_node xs n k e)
      (is_meet_behind-kept (types_of xs) (types_of (xs ++ n ∷ [])) n (λ j i. types_of-kept xs n j (omega arith)) ∙ l));
  apart = λ i j h b. old_or_last (λ j. i < j → node_at (xs ++ n ∷ []) i ≢ node_at (xs ++ n ∷ []) j) (length xs) j (omega (arith, length_push xs n))
      (λ b h. rw (old_node xs n i (omega arith), old_node xs n j b) (s.apart i j h b))
      (λ e h. rw (old_node xs n i (omega arith), last_node xs n j e) (new i (omega arith)))
      h;
}

pub neither : (a b : Bool) → a || b ≡ false → (a ≡ false) × (b ≡ false)
neither true b e = absurd cc
neither false b e = (refl, e)

pub true_not_false : true ≡ false → ⊥
true_not_false e = cc

-- a node that the test finds nowhere is new
none_same : (eq : TypeNode → TypeNode → Bool) → ((x : TypeNode) → eq x x ≡ true) → (xs : List TypeNode) (n : TypeNode) (k : ℕ) →
    list_any (eq n) xs ≡ false → k < length xs → node_at xs k ≢ n
none_same eq e [] n k f h = λ s. omega arith
none_same eq e (x ∷ xs) n zero f h = λ s. let g : eq n x ≡ true = ap (eq n) s ∙ e n in true_not_false (sym g ∙ (neither _ _ f).0)
none_same eq e (x ∷ xs) n (suc k) f h = none_same eq e xs n k (neither _ _ f).1 (omega arith)

pub IsTable-insert : (eq : TypeNode → TypeNode → Bool) → ((x : TypeNode) → eq x x ≡ true) → (xs : List TypeNode) (n : TypeNode) →
    IsTable xs → reach n ≤ length xs → IsTrue (is_meet_behind (types_of xs) n) → IsTable (insert_key eq xs n)
IsTable-insert eq e xs n s r l = cases (list_any (eq n) xs) refl
  where
    cases : (b : Bool) → list_any (eq n) xs ≡ b → IsTable (cond b xs (xs ++ n ∷ []))
    cases true f = s
    cases false f = IsTable-push xs n s r l (λ k h. none_same eq e xs n k f h)

-- the list after an insert that may fail
pub IsTable-after : {E : Type 0} (eq : TypeNode → TypeNode → Bool) (out : Result (ℕ × Bool) E) (xs ys : List TypeNode) (n : TypeNode) →
    ((x : TypeNode) → eq x x ≡ true) → IsTable xs → reach n ≤ length xs → IsTrue (is_meet_behind (types_of xs) n) →
    IfOk out (λ _. ys ≡ insert_key eq xs n) → OnErr out (ys ≡ xs) → IsTable ys
IsTable-after eq (Ok v) xs ys n e s r l done failed = subst IsTable (sym done) (IsTable-insert eq e xs n s r l)
IsTable-after eq (Err v) xs ys n e s r l done failed = subst IsTable (sym failed) s

-- every number of the old list keeps its type
pub kept-insert : (eq : TypeNode → TypeNode → Bool) (xs : List TypeNode) (n : TypeNode) (k : ℕ) → k < length xs →
    type_at (types_of (insert_key eq xs n)) k ≡ type_at (types_of xs) k
kept-insert eq xs n k h = cases (list_any (eq n) xs)
  where
    cases : (b : Bool) → type_at (types_of (cond b xs (xs ++ n ∷ []))) k ≡ type_at (types_of xs) k
    cases true = refl
    cases false = types_of-kept xs n k h

pub longer-insert : (eq : TypeNode → TypeNode → Bool) (xs : List TypeNode) (n : TypeNode) → length xs ≤ length (insert_key eq xs n)
longer-insert eq xs n = cases (list_any (eq n) xs)
  where
    cases : (b : Bool) → length xs ≤ length (cond b xs (xs ++ n ∷ []))
    cases true = omega arith
    cases false = omega (arith, length_push xs n)

-- the type of the number that an insert gave
pub inserted : (eq : TypeNode → TypeNode → Bool) (xs ys : List TypeNode) (n : TypeNode) (k : ℕ) →
    IsTable ys → reach n ≤ length xs → ys ≡ insert_key eq xs n → k < length ys → node_at ys k ≡ n →
    type_at (types_of ys) k ≡ node_type (types_of xs) n
inserted eq xs ys n k s r e h f =
    type_at-node ys k s h
    ∙ (ap (node_type (types_of ys)) f
    ∙ node_type-kept (types_of xs) (types_of ys) n
    (λ j l. ap (λ zs. type_at (types_of zs) j) e ∙ kept-insert eq xs n j (omega arith)))
