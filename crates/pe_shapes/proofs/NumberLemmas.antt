-- A list of nodes: the shape of each, and one node more.
use Rattle.std.proofs.Common.{ℕ, zero, suc, ◌+◌, ◌<◌, ◌≤◌, ◌≡◌, ◌≢◌, Bool, true, false, List, [], ◌∷◌, ◌++◌, length, refl, sym, ap, ◌∙◌, subst, arith, Result, Ok, Err, cond, IfOk, OnErr}
use Rattle.std.proofs.lemmas.List.{length_push, get_or_append_left, get_or_push}
use Rattle.std.specs.List.{list_any}
use Rattle.indexmap.specs.IndexSet.{insert_key}
use Rattle.fy_derive.specs.Shapes.{PlainShape, a_value, at_end}
use Rattle.fy_derive.proofs.TableLemmas.{old_or_last, neither, true_not_false}
use Rattle.pe_shapes.specs.declared.node.ShapeNode.{ShapeNode}
use Rattle.pe_shapes.specs.declared.node.ShapeNode.TheVariants as node
use Rattle.pe_shapes.specs.Numbering.{in_front, numbered_shape, node_at, node_shape, reach, shapes_after, shapes_of, IsNumbering}

shapes_after-append : (S : List PlainShape) (xs ys : List ShapeNode) → shapes_after S (xs ++ ys) ≡ shapes_after (shapes_after S xs) ys
shapes_after-append S [] ys = refl
shapes_after-append S (x ∷ xs) ys = shapes_after-append (S ++ node_shape S x ∷ []) xs ys

shapes_of-push : (xs : List ShapeNode) (n : ShapeNode) → shapes_of (xs ++ n ∷ []) ≡ shapes_of xs ++ node_shape (shapes_of xs) n ∷ []
shapes_of-push xs n = shapes_after-append [] xs (n ∷ [])

length-shapes_after : (S : List PlainShape) (xs : List ShapeNode) → length (shapes_after S xs) ≡ length S + length xs
length-shapes_after S [] = omega arith
length-shapes_after S (x ∷ xs) = omega (arith, length-shapes_after (S ++ node_shape S x ∷ []) xs, length_push S (node_shape S x))

length-shapes_of : (xs : List ShapeNode) → length (shapes_of xs) ≡ length xs
length-shapes_of xs = omega (arith, length-shapes_after [] xs)

shapes_after-kept : (S : List PlainShape) (xs : List ShapeNode) (k : ℕ) → k < length S → numbered_shape (shapes_after S xs) k ≡ numbered_shape S k
shapes_after-kept S [] k h = refl
shapes_after-kept S (x ∷ xs) k h =
    shapes_after-kept (S ++ node_shape S x ∷ []) xs k (omega (arith, length_push S (node_shape S x)))
    ∙ get_or_append_left S (node_shape S x ∷ []) (at_end a_value) k h

node_shape-kept : (S T : List PlainShape) (n : ShapeNode) → ((j : ℕ) → j < reach n → numbered_shape T j ≡ numbered_shape S j) → node_shape T n ≡ node_shape S n
node_shape-kept S T (node.End e) h = refl
node_shape-kept S T (node.Front x k) h = ap (in_front x) (h k (omega arith))

-- the shape with a number is that of its node
numbered_shape-after : (S : List PlainShape) (xs : List ShapeNode) (j k : ℕ) → k ≡ length S + j → j < length xs → reach (node_at xs j) ≤ k →
    numbered_shape (shapes_after S xs) k ≡ node_shape (shapes_after S xs) (node_at xs j)
numbered_shape-after S [] j k e h r = absurd (omega arith)
numbered_shape-after S (x ∷ xs) zero k e h r =
    let new = node_shape S x in
    shapes_after-kept (S ++ new ∷ []) xs k (omega (arith, length_push S new))
    ∙ (get_or_push S new (at_end a_value) k (omega arith)
    ∙ sym (node_shape-kept S (shapes_after S (x ∷ xs)) x (λ i l. shapes_after-kept S (x ∷ xs) i (omega arith))))
numbered_shape-after S (x ∷ xs) (suc j) k e h r =
    numbered_shape-after (S ++ node_shape S x ∷ []) xs j k (omega (arith, length_push S (node_shape S x))) (omega arith) r

pub numbered_shape-node : (xs : List ShapeNode) (k : ℕ) → IsNumbering xs → k < length xs →
    numbered_shape (shapes_of xs) k ≡ node_shape (shapes_of xs) (node_at xs k)
numbered_shape-node xs k s h = numbered_shape-after [] xs k k (omega arith) h (s.parts k h)

-- numbers keep their shapes
shapes_of-kept : (xs : List ShapeNode) (n : ShapeNode) (k : ℕ) → k < length xs → numbered_shape (shapes_of (xs ++ n ∷ [])) k ≡ numbered_shape (shapes_of xs) k
shapes_of-kept xs n k h =
    ap (λ S. numbered_shape S k) (shapes_of-push xs n)
    ∙ get_or_append_left (shapes_of xs) (node_shape (shapes_of xs) n ∷ []) (at_end a_value) k (omega (arith, length-shapes_of xs))

old_node : (xs : List ShapeNode) (n : ShapeNode) (k : ℕ) → k < length xs → node_at (xs ++ n ∷ []) k ≡ node_at xs k
old_node xs n k h = get_or_append_left xs (n ∷ []) (node_at [] 0) k h

last_node : (xs : List ShapeNode) (n : ShapeNode) (k : ℕ) → k ≡ length xs → node_at (xs ++ n ∷ []) k ≡ n
last_node xs n k h = get_or_push xs n (node_at [] 0) k (sym h)

IsNumbering-push : (xs : List ShapeNode) (n : ShapeNode) → IsNumbering xs → reach n ≤ length xs →
    ((k : ℕ) → k < length xs → node_at xs k ≢ n) → IsNumbering (xs ++ n ∷ [])
IsNumbering-push xs n s r new = record {
  parts = λ k h. old_or_last (λ k. reach (node_at (xs ++ n ∷ []) k) ≤ k) (length xs) k (omega (arith, length_push xs n))
      (λ b. rw (old_node xs n k b) (s.parts k b))
      (λ e. rw (last_node xs n k e) (omega arith));
  apart = λ i j h b. old_or_last (λ j. i < j → node_at (xs ++ n ∷ []) i ≢ node_at (xs ++ n ∷ []) j) (length xs) j (omega (arith, length_push xs n))
      (λ b h. rw (old_node xs n i (omega arith), old_node xs n j b) (s.apart i j h b))
      (λ e h. rw (old_node xs n i (omega arith), last_node xs n j e) (new i (omega arith)))
      h;
}

-- a node that the test finds nowhere is new
none_same : (eq : ShapeNode → ShapeNode → Bool) → ((x : ShapeNode) → eq x x ≡ true) → (xs : List ShapeNode) (n : ShapeNode) (k : ℕ) →
    list_any (eq n) xs ≡ false → k < length xs → node_at xs k ≢ n
none_same eq e [] n k f h = λ s. omega arith
none_same eq e (x ∷ xs) n zero f h = λ s. let g : eq n x ≡ true = ap (eq n) s ∙ e n in true_not_false (sym g ∙ (neither _ _ f).0)
none_same eq e (x ∷ xs) n (suc k) f h = none_same eq e xs n k (neither _ _ f).1 (omega arith)

IsNumbering-insert : (eq : ShapeNode → ShapeNode → Bool) → ((x : ShapeNode) → eq x x ≡ true) → (xs : List ShapeNode) (n : ShapeNode) →
    IsNumbering xs → reach n ≤ length xs → IsNumbering (insert_key eq xs n)
IsNumbering-insert eq e xs n s r = cases (list_any (eq n) xs) refl
  where
    cases : (b : Bool) → list_any (eq n) xs ≡ b → IsNumbering (cond b xs (xs ++ n ∷ []))
    cases true f = s
    cases false f = IsNumbering-push xs n s r (λ k h. none_same eq e xs n k f h)

-- the list after an insert that may fail
pub IsNumbering-after : {E : Type 0} (eq : ShapeNode → ShapeNode → Bool) (out : Result (ℕ × Bool) E) (xs ys : List ShapeNode) (n : ShapeNode) →
    ((x : ShapeNode) → eq x x ≡ true) → IsNumbering xs → reach n ≤ length xs →
    IfOk out (λ _. ys ≡ insert_key eq xs n) → OnErr out (ys ≡ xs) → IsNumbering ys
IsNumbering-after eq (Ok v) xs ys n e s r done failed = subst IsNumbering (sym done) (IsNumbering-insert eq e xs n s r)
IsNumbering-after eq (Err v) xs ys n e s r done failed = subst IsNumbering (sym failed) s

-- every number of the old list keeps its shape
pub kept-insert : (eq : ShapeNode → ShapeNode → Bool) (xs : List ShapeNode) (n : ShapeNode) (k : ℕ) → k < length xs →
    numbered_shape (shapes_of (insert_key eq xs n)) k ≡ numbered_shape (shapes_of xs) k
kept-insert eq xs n k h = cases (list_any (eq n) xs)
  where
    cases : (b : Bool) → numbered_shape (shapes_of (cond b xs (xs ++ n ∷ []))) k ≡ numbered_shape (shapes_of xs) k
    cases true = refl
    cases false = shapes_of-kept xs n k h

pub longer-insert : (eq : ShapeNode → ShapeNode → Bool) (xs : List ShapeNode) (n : ShapeNode) → length xs ≤ length (insert_key eq xs n)
longer-insert eq xs n = cases (list_any (eq n) xs)
  where
    cases : (b : Bool) → length xs ≤ length (cond b xs (xs ++ n ∷ []))
    cases true = omega arith
    cases false = omega (arith, length_push xs n)

-- the shape of the number that an insert gave
pub inserted : (eq : ShapeNode → ShapeNode → Bool) (xs ys : List ShapeNode) (n : ShapeNode) (k : ℕ) →
    IsNumbering ys → reach n ≤ length xs → ys ≡ insert_key eq xs n → k < length ys → node_at ys k ≡ n →
    numbered_shape (shapes_of ys) k ≡ node_shape (shapes_of xs) n
inserted eq xs ys n k s r e h f =
    numbered_shape-node ys k s h
    ∙ (ap (node_shape (shapes_of ys)) f
    ∙ node_shape-kept (shapes_of xs) (shapes_of ys) n
    (λ j l. ap (λ zs. numbered_shape (shapes_of zs) j) e ∙ kept-insert eq xs n j (omega arith)))
