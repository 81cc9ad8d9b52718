-- The parts that the items of cases pick from are entered at different addresses.
use Rattle.std.proofs.Common.{ℕ, zero, suc, ◌+◌, ◌<◌, ◌≤◌, ◌≡◌, Bool, true, false, if◌then◌else◌, ◌⊎◌, inl, inr, List, [], ◌∷◌, ◌++◌, length, Some, refl, ap, sym, ◌∙◌, subst, arith}
use Rattle.std.specs.Prelude.{slice_get}
use Rattle.std.proofs.lemmas.List.{length-append}
use Rattle.fy_phrase.specs.declared.shapes.Pair.{Pair}
use Rattle.fy_phrase.specs.declared.shapes.ShapeTable.{ShapeTable}
use Rattle.fy_phrase.specs.Sizes.{nodes}
use Rattle.fy_phrase.specs.Tree.{Tree, Trees, no_trees, and_tree, merge}
use Rattle.fy_derive.specs.Shapes.{PlainShape}
use Rattle.fy_derive.specs.ShapeTables.{shape_at}
use Rattle.pe_code.specs.declared.code.PeCode.{PeCode}
use Rattle.pe_code.specs.declared.code.PeInsn.{PeInsn}
use Rattle.pe_code.specs.declared.code.PeItem.{PeItem}
use Rattle.pe_code.specs.Code.{picked_from}
use Rattle.pe_code.specs.Valid.{all_picked_from}
use Rattle.pe_right.specs.Constants.{no_data}
use Rattle.pe_right.specs.Right.{with_depth, parts_under, IsNodeUnder, itself, in_part, IsNodeAmongUnder, in_first, in_later, Enters, EachEnters, no_parts, and_part, IsInsnOf, of_case}
use Rattle.pe_gen.specs.Sites.{is_merge, taken_by, landing, pair, Stands}
use Rattle.pe_gen.proofs.CodeLemmas.{IsMade, leads, site-of}
use Rattle.pe_gen.proofs.EntryLists.{pair_same}
use Rattle.pe_gen.proofs.Gets.{some_same, get-within}
use Rattle.pe_gen.proofs.Injections.{few-below, stands-either, once-append}
use Rattle.pe_gen.proofs.KeyLists.{AreKeysOnce}
use Rattle.pe_gen.proofs.LandLemmas.{landing-from, landing-before}
use Rattle.pe_gen.proofs.NodeLists.{parts-total, node-from, among-from, node-range, among-range, part-within}

-- ---- ranges of numbers

-- the number is that of a node of the phrase, which is node k
abbrev pub IsIn : ℕ → ℕ → Tree → Type 0
IsIn j k p = (k ≤ j) × (j < k + nodes p)

-- two nodes with a number in both: one is in the other
abbrev AreNested : ℕ → ℕ → Tree → ℕ → ℕ → Tree → Type 0
AreNested d k p e j q = IsNodeUnder d k p e j q ⊎ IsNodeUnder e j q d k p

mutual
  pub nested : {d m e f j k : ℕ} {p q r : Tree} → IsNodeUnder d m p e j q → IsNodeUnder d m p f k r → (n : ℕ) → IsIn n j q → IsIn n k r → AreNested e j q f k r
  nested itself other n a b = inl other
  nested (in_part among) itself n a b = inr (in_part among)
  nested (in_part among) (in_part other) n a b = nested-among among other n a b

  nested-among : {m e f j k : ℕ} {ps : List (ℕ × Tree)} {q r : Tree} → IsNodeAmongUnder m ps e j q → IsNodeAmongUnder m ps f k r → (n : ℕ) → IsIn n j q → IsIn n k r →
      AreNested e j q f k r
  nested-among (in_first node) (in_first other) n a b = nested node other n a b
  nested-among (in_first node) (in_later other) n a b = absurd (omega (arith, node-range node, among-from other))
  nested-among (in_later among) (in_first other) n a b = absurd (omega (arith, among-from among, node-range other))
  nested-among (in_later among) (in_later other) n a b = nested-among among other n a b

-- a direct part
pub data IsPartOf : ℕ → List (ℕ × Tree) → ℕ → ℕ → Tree → Type 0 where
  this_part : {m d : ℕ} {p : Tree} {ps : List (ℕ × Tree)} → IsPartOf m ((d, p) ∷ ps) d m p
  later_part : {m d e k : ℕ} {p q : Tree} {ps : List (ℕ × Tree)} → IsPartOf (m + nodes p) ps e k q → IsPartOf m ((d, p) ∷ ps) e k q

pub part-among : {m e k : ℕ} {ps : List (ℕ × Tree)} {q : Tree} → IsPartOf m ps e k q → IsNodeAmongUnder m ps e k q
part-among this_part = in_first itself
part-among (later_part part) = in_later (part-among part)

-- a node among the parts with a number that a direct part has is in that part
in-part : {m e f j k : ℕ} {ps : List (ℕ × Tree)} {q r : Tree} → IsPartOf m ps e j q → IsNodeAmongUnder m ps f k r → (n : ℕ) → IsIn n j q → IsIn n k r → IsNodeUnder e j q f k r
in-part this_part (in_first node) n a b = node
in-part this_part (in_later among) n a b = absurd (omega (arith, among-from among))
in-part (later_part part) (in_first node) n a b = absurd (omega (arith, among-from (part-among part), node-range node))
in-part (later_part part) (in_later among) n a b = in-part part among n a b

-- ---- what lands at a node

no-among : {m e k : ℕ} {q : Tree} → IsNodeAmongUnder m [] e k q → ⊥
no-among among = elim among [ ]

-- a node that is no merge and has the number at which a demand lands is where it lands
lands-clear : (q : Tree) (d k e c : ℕ) (r : Tree) (s : PlainShape) → IsNodeUnder d k q e c r → is_merge r ≡ false → IsIn (landing k q s) c r → landing k q s ≡ c
lands-clear (merge p q at) d k e c r s itself whole at_it = absurd cc
lands-clear (merge p q at) d k e c r s (in_part (in_first node)) whole at_it =
    by (taken_by q s) at_it (λ h. lands-clear p d (k + 1) e c r s node whole h)
  where
    by : (b : Bool) → IsIn (if b then landing (k + 1 + nodes p) q s else landing (k + 1) p s) c r → (IsIn (landing (k + 1) p s) c r → landing (k + 1) p s ≡ c) →
        (if b then landing (k + 1 + nodes p) q s else landing (k + 1) p s) ≡ c
    by true h rest = absurd (omega (arith, node-range node, landing-from (k + 1 + nodes p) q s))
    by false h rest = rest h
lands-clear (merge p q at) d k e c r s (in_part (in_later (in_first node))) whole at_it =
    by (taken_by q s) at_it (λ h. lands-clear q d (k + 1 + nodes p) e c r s node whole h)
  where
    by : (b : Bool) → IsIn (if b then landing (k + 1 + nodes p) q s else landing (k + 1) p s) c r →
        (IsIn (landing (k + 1 + nodes p) q s) c r → landing (k + 1 + nodes p) q s ≡ c) →
        (if b then landing (k + 1 + nodes p) q s else landing (k + 1) p s) ≡ c
    by true h rest = rest h
    by false h rest = absurd (omega (arith, node-from node, landing-before (k + 1) p s))
lands-clear (merge p q at) d k e c r s (in_part (in_later (in_later among))) whole at_it = absurd (no-among among)
lands-clear q d k e c r s node whole at_it = let low = node-from node in omega arith

-- two parts of cases at which demands land alike are parts of one
same-case : (p : Tree) (d f k j u v n : ℕ) (q r a b : Tree) (s : PlainShape) → IsNodeUnder 0 0 p d k q → IsNodeUnder 0 0 p f j r →
    is_merge q ≡ false → is_merge r ≡ false → IsPartOf (k + 1) (parts_under d q) d u a → IsPartOf (j + 1) (parts_under f r) f v b →
    landing u a s ≡ n → landing v b s ≡ n → k ≡ j
same-case p d f k j u v n q r a b s one other whole more part of_other la lb =
    let in_a : IsIn n u a = (omega (arith, landing-from u a s), omega (arith, landing-before u a s)) in
    let in_b : IsIn n v b = (omega (arith, landing-from v b s), omega (arith, landing-before v b s)) in
    let au = among-from (part-among part) in
    let av = among-from (part-among of_other) in
    let ru = among-range (part-among part) in
    let rv = among-range (part-among of_other) in
    let in_q : IsIn n k q = (omega arith, omega (arith, parts-total d q)) in
    let in_r : IsIn n j r = (omega arith, omega (arith, parts-total f r)) in
    elim (nested one other n in_q in_r) [
      | inl below ↦ inner d f k j u v n q r a b s below part la in_a in_r more in_b av
      | inr below ↦ sym (inner f d j k v u n r q b a s below of_other lb in_b in_q whole in_a au)
    ]
  where
    inner : (d f k j u v n : ℕ) (q r a b : Tree) (s : PlainShape) → IsNodeUnder d k q f j r → IsPartOf (k + 1) (parts_under d q) d u a → landing u a s ≡ n → IsIn n u a →
        IsIn n j r → is_merge r ≡ false → IsIn n v b → j + 1 ≤ v → k ≡ j
    inner d f k j u v n q r a b s itself part la in_a in_r more in_b low = refl
    inner d f k j u v n q r a b s (in_part among) part la in_a in_r more in_b low =
        let within = in-part part among n in_a in_r in
        let clear = lands-clear a d u f j r s within more (subst (λ m. IsIn m j r) (sym la) in_r) in
        absurd (omega (arith, clear, la, in_b.0))

-- ---- what an item picks from

none-stands : {X : Type 0} {x : X} → Stands [] x → ⊥
none-stands s = let e = s.1 in absurd cc

once-cons : (y : ℕ) (ys : List ℕ) → (Stands ys y → ⊥) → AreKeysOnce ys → AreKeysOnce (y ∷ ys)
once-cons y ys new once zero zero x a b = refl
once-cons y ys new once zero (suc j) x a b = absurd (new (j, b ∙ sym a))
once-cons y ys new once (suc i) zero x a b = absurd (new (i, a ∙ sym b))
once-cons y ys new once (suc i) (suc j) x a b = ap suc (once i j x a b)

-- the addresses that the items pick from, one after another
abbrev all_picked : List PeItem → List ℕ
all_picked [] = []
all_picked (i ∷ is) = picked_from i.insn ++ all_picked is

length-all_picked : (is : List PeItem) → length (all_picked is) ≡ all_picked_from is
length-all_picked [] = refl
length-all_picked (i ∷ is) = omega (arith, length-append (picked_from i.insn) (all_picked is), length-all_picked is)

picked-member : (is : List PeItem) (x : ℕ) → Stands (all_picked is) x → (i : ℕ) × (item : PeItem) × (slice_get is i ≡ Some item) × Stands (picked_from item.insn) x
picked-member [] x s = absurd (none-stands s)
picked-member (i ∷ is) x s = elim (stands-either (picked_from i.insn) (all_picked is) x s) [
  | inl a ↦ (0, i, refl, a)
  | inr b ↦ let r = picked-member is x b in (suc r.0, r.1, r.2, r.3)
]

picked-once : (is : List PeItem) → ((i : ℕ) (item : PeItem) → slice_get is i ≡ Some item → AreKeysOnce (picked_from item.insn)) →
    ((i j x : ℕ) (a b : PeItem) → slice_get is i ≡ Some a → slice_get is j ≡ Some b → Stands (picked_from a.insn) x → Stands (picked_from b.insn) x → i ≡ j) →
    AreKeysOnce (all_picked is)
picked-once [] one apart = λ i j x a b. absurd cc
picked-once (c ∷ is) one apart =
    once-append (picked_from c.insn) (all_picked is) (one 0 c refl)
    (picked-once is (λ i item at. one (suc i) item at)
    (λ i j x a b at bt pa pb. let e : suc i ≡ suc j = apart (suc i) (suc j) x a b at bt pa pb in omega arith))
    (λ x pa more.
    let r = picked-member is x more in
    let e : zero ≡ suc r.0 = apart zero (suc r.0) x c r.1 refl r.2 pa r.3 in
    omega arith)

-- ---- what the items of code pick from

module _ (p : Tree) (table : ShapeTable) (code : PeCode) (made : IsMade p table code) where
  each-part : (d k : ℕ) (ps : Trees) (s : PlainShape) (ys : List ℕ) → EachEnters table code k ps s ys → (x : ℕ) → Stands ys x →
      (u : ℕ) × (a : Tree) × IsPartOf k (with_depth d ps) d u a × Enters table code u s x
  each-part d k no_trees s [] no_parts x at = absurd (none-stands at)
  each-part d k no_trees s (y ∷ ys) each x at = elim each [ ]
  each-part d k (and_tree q ps) s [] each x at = elim each [ ]
  each-part d k (and_tree q ps) s (y ∷ ys) (and_part enters rest) x at = by at.0 at.1 (λ i h. each-part d (k + nodes q) ps s ys rest x (i, h))
    where
      by : (i : ℕ) → slice_get (y ∷ ys) i ≡ Some x →
          ((j : ℕ) → slice_get ys j ≡ Some x → (u : ℕ) × (a : Tree) × IsPartOf (k + nodes q) (with_depth d ps) d u a × Enters table code u s x) →
          (u : ℕ) × (a : Tree) × IsPartOf k (with_depth d (and_tree q ps)) d u a × Enters table code u s x
      by zero h more = (k, q, this_part, subst (λ z. Enters table code k s z) (some_same h) enters)
      by (suc i) h more = let r = more i h in (r.0, r.1, later_part r.2, r.3)

  -- two nodes that are entered at one address at a shape land alike
  land-alike : (d e k j x : ℕ) (q r : Tree) (s t : PlainShape) → IsNodeUnder 0 0 p d k q → IsNodeUnder 0 0 p e j r → Enters table code k s x → Enters table code j t x →
      (landing k q s ≡ landing j r t) × (s ≡ t)
  land-alike d e k j x q r s t one other a b =
      let f = leads p table code made d k a.0 x q s one a.1 a.2 in
      let g = leads p table code made e j b.0 x r t other b.1 b.2 in
      let same : pair (landing k q s) a.0 ≡ pair (landing j r t) b.0 = some_same (sym f ∙ g) in
      (ap (λ (y : Pair). y.node) same, some_same (sym a.1 ∙ (ap (shape_at table) (ap (λ (y : Pair). y.shape) same) ∙ b.1)))

  each-once : (d k : ℕ) (ps : Trees) (s : PlainShape) (ys : List ℕ) → EachEnters table code k ps s ys →
      ((u : ℕ) (a : Tree) → IsPartOf k (with_depth d ps) d u a → IsNodeUnder 0 0 p d u a) → AreKeysOnce ys
  each-once d k no_trees s [] no_parts here = λ i j x a b. absurd cc
  each-once d k no_trees s (y ∷ ys) each here = elim each [ ]
  each-once d k (and_tree q ps) s [] each here = elim each [ ]
  each-once d k (and_tree q ps) s (y ∷ ys) (and_part enters rest) here =
      once-cons y ys
      (λ at.
      let r = each-part d (k + nodes q) ps s ys rest y at in
      let alike = land-alike d d k r.0 y q r.1 s s (here k q this_part) (here r.0 r.1 (later_part r.2)) enters r.3 in
      omega (arith, alike.0, landing-before k q s, landing-from r.0 r.1 s, among-from (part-among r.2)))
      (each-once d (k + nodes q) ps s ys rest (λ u a part. here u a (later_part part)))

  -- what an instruction picks from are parts of its form
  picked-part : (d k : ℕ) (q : Tree) (s : PlainShape) (o : PeInsn) → IsInsnOf no_data table code k q s o → (x : ℕ) → Stands (picked_from o) x →
      (u : ℕ) × (a : Tree) × IsPartOf (k + 1) (parts_under d q) d u a × Enters table code u s x
  picked-part d k q s o (of_case {ys = ys} {e = e} {parts = parts} enters each) x at =
      let r = each-part d (k + 1 + nodes e) parts s ys each x at in (r.0, r.1, later_part r.2, r.3)
  picked-part d k q s o its x at = absurd (none-stands at)

  picked-apart : (d k : ℕ) (q : Tree) (s : PlainShape) (o : PeInsn) → IsNodeUnder 0 0 p d k q → IsInsnOf no_data table code k q s o → AreKeysOnce (picked_from o)
  picked-apart d k q s o node (of_case {ys = ys} {e = e} {parts = parts} enters each) =
      each-once d (k + 1 + nodes e) parts s ys each (λ u a part. part-within ((d, e) ∷ with_depth d parts) node refl (in_later (part-among part)))
  picked-apart d k q s o node its = λ m n x a b. absurd cc

  pub parts-few : all_picked_from code.items ≤ length code.items
  parts-few =
      let once = picked-once code.items
      (λ i item at. let x = site-of p table code made i item at in picked-apart x.depth x.site.node x.form x.shape item.insn x.node x.its.insn)
      (λ i j x a b at bt pa pb.
      let y = site-of p table code made i a at in
      let z = site-of p table code made j b bt in
      let u = picked-part y.depth y.site.node y.form y.shape a.insn y.its.insn x pa in
      let v = picked-part z.depth z.site.node z.form z.shape b.insn z.its.insn x pb in
      let one = part-within (parts_under y.depth y.form) y.node refl (part-among u.2) in
      let other = part-within (parts_under z.depth z.form) z.node refl (part-among v.2) in
      let alike = land-alike y.depth z.depth u.0 v.0 x u.1 v.1 y.shape z.shape one other u.3 v.3 in
      let number = same-case p y.depth z.depth y.site.node z.site.node u.0 v.0 (landing u.0 u.1 y.shape) y.form z.form u.1 v.1 y.shape y.node z.node y.whole z.whole u.2 v.2
      refl (ap (landing v.0 v.1) alike.1 ∙ sym alike.0) in
      let shape = made.sound.shapes_once y.site.shape z.site.shape y.shape y.is (z.is ∙ ap Some (sym alike.1)) in
      made.sites.apart i j y.site y.at (z.at ∙ ap Some (sym (pair_same y.site z.site number shape)))) in
      let short = few-below (all_picked code.items) (length code.items) once (λ i x at.
      let r = picked-member code.items x (i, at) in
      let y = site-of p table code made r.0 r.1 r.2 in
      let u = picked-part y.depth y.site.node y.form y.shape r.1.insn y.its.insn x r.3 in
      let node = part-within (parts_under y.depth y.form) y.node refl (part-among u.2) in
      let there = leads p table code made y.depth u.0 u.3.0 x u.1 y.shape node u.3.1 u.3.2 in
      omega (arith, made.all, get-within made.places x _ there)) in
      omega (arith, length-all_picked code.items)
