-- Closed phrases copied in for all variables: nothing can be replaced in what is closed, and one more phrase for the innermost variable is one more copied in.
use Rattle.std.proofs.Common.{ℕ, zero, suc, ◌+◌, ◌-◌, ◌≤◌, ◌≡◌, List, [], ◌∷◌, Some, None, refl, sym, ap, ap₂, ◌∙◌, subst, inl, inr, arith, add-one, lt-ltb, le-ltb, eq-eqb}
use Rattle.std.proofs.lemmas.Bool.{cases_eq, cases_lt}
use Rattle.fy_base.specs.declared.data.Place.{Place}
use Rattle.fy_base.specs.declared.data.Datum.{Datum}
use Rattle.fy_phrase.specs.declared.phrase.MarkKind.{MarkKind}
use Rattle.fy_phrase.specs.Tree.{Tree, Trees, var, lit, unary, binary, cond as conditional, case, lam, app, field, sel, merge, let_in, rec, skip, seq, assign, while_do, forever, new, cells, escape, accept, put, read, mark, no_trees, and_tree}
use Rattle.fy_phrase.specs.Closing.{closed_at, all_closed_at, closed_with}
use Rattle.fy_phrase.specs.Copy.{part_at}
use Rattle.fy_phrase.specs.WellMade.{IsClosedUnder, AreClosedUnder}
use Rattle.fy_derive.specs.Kinds.{Kind, kind_of}
use Rattle.pe_right.specs.Closing.{phrase_at, closed_by, all_closed_by}

-- a phrase in which no variable can be replaced
abbrev pub Shut : Tree → Type 0
Shut q = (n : ℕ) (r : Tree) → closed_at n r q ≡ q

abbrev pub AllShut : List Tree → Type 0
AllShut [] = Unit {0}
AllShut (q ∷ qs) = Shut q × AllShut qs

pub lit-shut : (v : Datum) (at : Place) → Shut (lit v at)
lit-shut v at n r = refl

pub mark-shut : (m : MarkKind) (at : Place) → Shut (mark m at)
mark-shut m at n r = refl

pub phrase_at-shut : (qs : List Tree) (k : ℕ) (at : Place) → AllShut qs → Shut (phrase_at qs k at)
phrase_at-shut [] k at all n r = refl
phrase_at-shut (q ∷ qs) zero at all n r = all.0 n r
phrase_at-shut (q ∷ qs) (suc k) at all n r = phrase_at-shut qs k at all.1 n r

ap3 : (f : Tree → Tree → Tree → Tree) {a b c x y z : Tree} → a ≡ x → b ≡ y → c ≡ z → f a b c ≡ f x y z
ap3 f {b = b} {c = c} {x = x} e g h = ap (λ (t : Tree). f t b c) e ∙ ap₂ (f x) g h

-- ---- nothing is replaced from n on in a phrase that is closed from n on

var-closed : (k n j : ℕ) (at : Place) (qs : List Tree) (z : Tree) → AllShut qs → n ≤ j → closed_at j z (closed_by n qs (var k at)) ≡ closed_by n qs (var k at)
var-closed k n j at qs z all le =
    elim (cases_lt k n) [
      | inl l ↦ rw (lt-ltb k n l, lt-ltb k j (omega arith)) refl
      | inr g ↦ rw (le-ltb k n g) (phrase_at-shut qs (k - n) at all j z)
    ]

mutual
  pub closed_by-shut : (p : Tree) (n j : ℕ) (qs : List Tree) (z : Tree) → AllShut qs → n ≤ j → closed_at j z (closed_by n qs p) ≡ closed_by n qs p
  closed_by-shut (var k at) n j qs z all le = var-closed k n j at qs z all le
  closed_by-shut (lit v at) n j qs z all le = refl
  closed_by-shut (unary op p at) n j qs z all le = ap (λ (x0 : Tree). unary op x0 at) (closed_by-shut p n j qs z all le)
  closed_by-shut (binary op p q at) n j qs z all le =
      ap₂ (λ (x0 : Tree) (x1 : Tree). binary op x0 x1 at) (closed_by-shut p n j qs z all le) (closed_by-shut q n j qs z all le)
  closed_by-shut (conditional b p q at) n j qs z all le =
      ap3 (λ (x0 x1 x2 : Tree). conditional x0 x1 x2 at) (closed_by-shut b n j qs z all le) (closed_by-shut p n j qs z all le) (closed_by-shut q n j qs z all le)
  closed_by-shut (case e parts at) n j qs z all le =
      ap₂ (λ (x0 : Tree) (x1 : Trees). case x0 x1 at) (closed_by-shut e n j qs z all le) (all_closed_by-shut parts n j qs z all le)
  closed_by-shut (lam d As b at) n j qs z all le = ap (λ (x0 : Tree). lam d As x0 at) (closed_by-shut b (n + 1) (j + 1) qs z all (omega arith))
  closed_by-shut (app p q at) n j qs z all le =
      ap₂ (λ (x0 : Tree) (x1 : Tree). app x0 x1 at) (closed_by-shut p n j qs z all le) (closed_by-shut q n j qs z all le)
  closed_by-shut (field i p at) n j qs z all le = ap (λ (x0 : Tree). field i x0 at) (closed_by-shut p n j qs z all le)
  closed_by-shut (sel p i at) n j qs z all le = ap (λ (x0 : Tree). sel x0 i at) (closed_by-shut p n j qs z all le)
  closed_by-shut (merge p q at) n j qs z all le =
      ap₂ (λ (x0 : Tree) (x1 : Tree). merge x0 x1 at) (closed_by-shut p n j qs z all le) (closed_by-shut q n j qs z all le)
  closed_by-shut (let_in d p b at) n j qs z all le =
      ap₂ (λ (x0 : Tree) (x1 : Tree). let_in d x0 x1 at) (closed_by-shut p n j qs z all le) (closed_by-shut b (n + 1) (j + 1) qs z all (omega arith))
  closed_by-shut (rec d T b at) n j qs z all le = ap (λ (x0 : Tree). rec d T x0 at) (closed_by-shut b (n + 1) (j + 1) qs z all (omega arith))
  closed_by-shut (skip at) n j qs z all le = refl
  closed_by-shut (seq p q at) n j qs z all le =
      ap₂ (λ (x0 : Tree) (x1 : Tree). seq x0 x1 at) (closed_by-shut p n j qs z all le) (closed_by-shut q n j qs z all le)
  closed_by-shut (assign p q at) n j qs z all le =
      ap₂ (λ (x0 : Tree) (x1 : Tree). assign x0 x1 at) (closed_by-shut p n j qs z all le) (closed_by-shut q n j qs z all le)
  closed_by-shut (while_do b c at) n j qs z all le =
      ap₂ (λ (x0 : Tree) (x1 : Tree). while_do x0 x1 at) (closed_by-shut b n j qs z all le) (closed_by-shut c n j qs z all le)
  closed_by-shut (forever c at) n j qs z all le = ap (λ (x0 : Tree). forever x0 at) (closed_by-shut c n j qs z all le)
  closed_by-shut (new d D e b at) n j qs z all le =
      ap₂ (λ (x0 : Tree) (x1 : Tree). new d D x0 x1 at) (closed_by-shut e n j qs z all le) (closed_by-shut b (n + 1) (j + 1) qs z all (omega arith))
  closed_by-shut (cells d e b at) n j qs z all le =
      ap₂ (λ (x0 : Tree) (x1 : Tree). cells d x0 x1 at) (closed_by-shut e n j qs z all le) (closed_by-shut b (n + 1) (j + 1) qs z all (omega arith))
  closed_by-shut (escape d b at) n j qs z all le = ap (λ (x0 : Tree). escape d x0 at) (closed_by-shut b (n + 1) (j + 1) qs z all (omega arith))
  closed_by-shut (accept d D b at) n j qs z all le = ap (λ (x0 : Tree). accept d D x0 at) (closed_by-shut b (n + 1) (j + 1) qs z all (omega arith))
  closed_by-shut (put kind p at) n j qs z all le = ap (λ (x0 : Tree). put kind x0 at) (closed_by-shut p n j qs z all le)
  closed_by-shut (read p at) n j qs z all le = ap (λ (x0 : Tree). read x0 at) (closed_by-shut p n j qs z all le)
  closed_by-shut (mark m at) n j qs z all le = refl

  pub all_closed_by-shut : (ps : Trees) (n j : ℕ) (qs : List Tree) (z : Tree) → AllShut qs → n ≤ j → all_closed_at j z (all_closed_by n qs ps) ≡ all_closed_by n qs ps
  all_closed_by-shut no_trees n j qs z all le = refl
  all_closed_by-shut (and_tree p ps) n j qs z all le = ap₂ and_tree (closed_by-shut p n j qs z all le) (all_closed_by-shut ps n j qs z all le)

-- a phrase closed by shut phrases is shut
pub shut-closed_by : (p : Tree) (qs : List Tree) → AllShut qs → Shut (closed_by 0 qs p)
shut-closed_by p qs all n r = closed_by-shut p 0 n qs r all (omega arith)

-- ---- one more phrase

var-more : (k n : ℕ) (at : Place) (z : Tree) (qs : List Tree) → AllShut qs → closed_at n z (closed_by (n + 1) qs (var k at)) ≡ closed_by n (z ∷ qs) (var k at)
var-more k n at z qs all =
    elim (cases_lt k n) [
      | inl l ↦ rw (lt-ltb k (n + 1) (omega arith), lt-ltb k n l) refl
      | inr g ↦
          elim (cases_eq k n) [
            | inl e ↦
                let first : k - n ≡ 0 = omega arith in
                rw (lt-ltb k (n + 1) (omega arith), le-ltb k n g, eq-eqb k n e, first) refl
            | inr d ↦
                let later : k - n ≡ suc (k - (n + 1)) = omega arith in
                rw (le-ltb k (n + 1) (omega arith), le-ltb k n g, later) (phrase_at-shut qs (k - (n + 1)) at all n z)
          ]
    ]

mutual
  pub closed-more : (p : Tree) (n : ℕ) (z : Tree) (qs : List Tree) → AllShut qs → closed_at n z (closed_by (n + 1) qs p) ≡ closed_by n (z ∷ qs) p
  closed-more (var k at) n z qs all = var-more k n at z qs all
  closed-more (lit v at) n z qs all = refl
  closed-more (unary op p at) n z qs all = ap (λ (x0 : Tree). unary op x0 at) (closed-more p n z qs all)
  closed-more (binary op p q at) n z qs all = ap₂ (λ (x0 : Tree) (x1 : Tree). binary op x0 x1 at) (closed-more p n z qs all) (closed-more q n z qs all)
  closed-more (conditional b p q at) n z qs all =
      ap3 (λ (x0 x1 x2 : Tree). conditional x0 x1 x2 at) (closed-more b n z qs all) (closed-more p n z qs all) (closed-more q n z qs all)
  closed-more (case e parts at) n z qs all = ap₂ (λ (x0 : Tree) (x1 : Trees). case x0 x1 at) (closed-more e n z qs all) (all_closed-more parts n z qs all)
  closed-more (lam d As b at) n z qs all = ap (λ (x0 : Tree). lam d As x0 at) (closed-more b (n + 1) z qs all)
  closed-more (app p q at) n z qs all = ap₂ (λ (x0 : Tree) (x1 : Tree). app x0 x1 at) (closed-more p n z qs all) (closed-more q n z qs all)
  closed-more (field i p at) n z qs all = ap (λ (x0 : Tree). field i x0 at) (closed-more p n z qs all)
  closed-more (sel p i at) n z qs all = ap (λ (x0 : Tree). sel x0 i at) (closed-more p n z qs all)
  closed-more (merge p q at) n z qs all = ap₂ (λ (x0 : Tree) (x1 : Tree). merge x0 x1 at) (closed-more p n z qs all) (closed-more q n z qs all)
  closed-more (let_in d p b at) n z qs all = ap₂ (λ (x0 : Tree) (x1 : Tree). let_in d x0 x1 at) (closed-more p n z qs all) (closed-more b (n + 1) z qs all)
  closed-more (rec d T b at) n z qs all = ap (λ (x0 : Tree). rec d T x0 at) (closed-more b (n + 1) z qs all)
  closed-more (skip at) n z qs all = refl
  closed-more (seq p q at) n z qs all = ap₂ (λ (x0 : Tree) (x1 : Tree). seq x0 x1 at) (closed-more p n z qs all) (closed-more q n z qs all)
  closed-more (assign p q at) n z qs all = ap₂ (λ (x0 : Tree) (x1 : Tree). assign x0 x1 at) (closed-more p n z qs all) (closed-more q n z qs all)
  closed-more (while_do b c at) n z qs all = ap₂ (λ (x0 : Tree) (x1 : Tree). while_do x0 x1 at) (closed-more b n z qs all) (closed-more c n z qs all)
  closed-more (forever c at) n z qs all = ap (λ (x0 : Tree). forever x0 at) (closed-more c n z qs all)
  closed-more (new d D e b at) n z qs all = ap₂ (λ (x0 : Tree) (x1 : Tree). new d D x0 x1 at) (closed-more e n z qs all) (closed-more b (n + 1) z qs all)
  closed-more (cells d e b at) n z qs all = ap₂ (λ (x0 : Tree) (x1 : Tree). cells d x0 x1 at) (closed-more e n z qs all) (closed-more b (n + 1) z qs all)
  closed-more (escape d b at) n z qs all = ap (λ (x0 : Tree). escape d x0 at) (closed-more b (n + 1) z qs all)
  closed-more (accept d D b at) n z qs all = ap (λ (x0 : Tree). accept d D x0 at) (closed-more b (n + 1) z qs all)
  closed-more (put kind p at) n z qs all = ap (λ (x0 : Tree). put kind x0 at) (closed-more p n z qs all)
  closed-more (read p at) n z qs all = ap (λ (x0 : Tree). read x0 at) (closed-more p n z qs all)
  closed-more (mark m at) n z qs all = refl

  pub all_closed-more : (ps : Trees) (n : ℕ) (z : Tree) (qs : List Tree) → AllShut qs → all_closed_at n z (all_closed_by (n + 1) qs ps) ≡ all_closed_by n (z ∷ qs) ps
  all_closed-more no_trees n z qs all = refl
  all_closed-more (and_tree p ps) n z qs all = ap₂ and_tree (closed-more p n z qs all) (all_closed-more ps n z qs all)

pub closed_with-more : (b : Tree) (z : Tree) (qs : List Tree) → AllShut qs → closed_with (closed_by 1 qs b) z ≡ closed_by 0 (z ∷ qs) b
closed_with-more b z qs all = closed-more b 0 z qs all

-- ---- a phrase with no variable of a binder farther out stays

one_more : (n : ℕ) (p : Tree) → IsClosedUnder (suc n) p → IsClosedUnder (n + 1) p
one_more n p h = subst (λ m. IsClosedUnder m p) (sym (add-one n)) h

mutual
  pub closed_by-nothing : (p : Tree) (n : ℕ) → IsClosedUnder n p → closed_by n [] p ≡ p
  closed_by-nothing (var k at) n h = rw (lt-ltb k n h) refl
  closed_by-nothing (lit v at) n h = refl
  closed_by-nothing (unary op p at) n h = ap (λ (x0 : Tree). unary op x0 at) (closed_by-nothing p n h)
  closed_by-nothing (binary op p q at) n h = ap₂ (λ (x0 : Tree) (x1 : Tree). binary op x0 x1 at) (closed_by-nothing p n h.0) (closed_by-nothing q n h.1)
  closed_by-nothing (conditional b p q at) n h =
      ap3 (λ (x0 x1 x2 : Tree). conditional x0 x1 x2 at) (closed_by-nothing b n h.0) (closed_by-nothing p n h.1) (closed_by-nothing q n h.2)
  closed_by-nothing (case e parts at) n h = ap₂ (λ (x0 : Tree) (x1 : Trees). case x0 x1 at) (closed_by-nothing e n h.0) (all_closed_by-nothing parts n h.1)
  closed_by-nothing (lam d As b at) n h = ap (λ (x0 : Tree). lam d As x0 at) (closed_by-nothing b (n + 1) (one_more n b h))
  closed_by-nothing (app p q at) n h = ap₂ (λ (x0 : Tree) (x1 : Tree). app x0 x1 at) (closed_by-nothing p n h.0) (closed_by-nothing q n h.1)
  closed_by-nothing (field i p at) n h = ap (λ (x0 : Tree). field i x0 at) (closed_by-nothing p n h)
  closed_by-nothing (sel p i at) n h = ap (λ (x0 : Tree). sel x0 i at) (closed_by-nothing p n h)
  closed_by-nothing (merge p q at) n h = ap₂ (λ (x0 : Tree) (x1 : Tree). merge x0 x1 at) (closed_by-nothing p n h.0) (closed_by-nothing q n h.1)
  closed_by-nothing (let_in d p b at) n h =
      ap₂ (λ (x0 : Tree) (x1 : Tree). let_in d x0 x1 at) (closed_by-nothing p n h.0) (closed_by-nothing b (n + 1) (one_more n b h.1))
  closed_by-nothing (rec d T b at) n h = ap (λ (x0 : Tree). rec d T x0 at) (closed_by-nothing b (n + 1) (one_more n b h))
  closed_by-nothing (skip at) n h = refl
  closed_by-nothing (seq p q at) n h = ap₂ (λ (x0 : Tree) (x1 : Tree). seq x0 x1 at) (closed_by-nothing p n h.0) (closed_by-nothing q n h.1)
  closed_by-nothing (assign p q at) n h = ap₂ (λ (x0 : Tree) (x1 : Tree). assign x0 x1 at) (closed_by-nothing p n h.0) (closed_by-nothing q n h.1)
  closed_by-nothing (while_do b c at) n h = ap₂ (λ (x0 : Tree) (x1 : Tree). while_do x0 x1 at) (closed_by-nothing b n h.0) (closed_by-nothing c n h.1)
  closed_by-nothing (forever c at) n h = ap (λ (x0 : Tree). forever x0 at) (closed_by-nothing c n h)
  closed_by-nothing (new d D e b at) n h =
      ap₂ (λ (x0 : Tree) (x1 : Tree). new d D x0 x1 at) (closed_by-nothing e n h.0) (closed_by-nothing b (n + 1) (one_more n b h.1))
  closed_by-nothing (cells d e b at) n h =
      ap₂ (λ (x0 : Tree) (x1 : Tree). cells d x0 x1 at) (closed_by-nothing e n h.0) (closed_by-nothing b (n + 1) (one_more n b h.1))
  closed_by-nothing (escape d b at) n h = ap (λ (x0 : Tree). escape d x0 at) (closed_by-nothing b (n + 1) (one_more n b h))
  closed_by-nothing (accept d D b at) n h = ap (λ (x0 : Tree). accept d D x0 at) (closed_by-nothing b (n + 1) (one_more n b h))
  closed_by-nothing (put kind p at) n h = ap (λ (x0 : Tree). put kind x0 at) (closed_by-nothing p n h)
  closed_by-nothing (read p at) n h = ap (λ (x0 : Tree). read x0 at) (closed_by-nothing p n h)
  closed_by-nothing (mark m at) n h = refl

  pub all_closed_by-nothing : (ps : Trees) (n : ℕ) → AreClosedUnder n ps → all_closed_by n [] ps ≡ ps
  all_closed_by-nothing no_trees n h = refl
  all_closed_by-nothing (and_tree p ps) n h = ap₂ and_tree (closed_by-nothing p n h.0) (all_closed_by-nothing ps n h.1)

-- ---- forms

-- a variable outside all binders is the phrase with its number
pub closed_by-var : (qs : List Tree) (k : ℕ) (at : Place) → closed_by 0 qs (var k at) ≡ phrase_at qs k at
closed_by-var qs k at =
    let same : k - 0 ≡ k = omega arith in
    rw (le-ltb k 0 (omega arith), same) refl

-- a right operand keeps its kind
pub kind-closed : (p : Tree) (n : ℕ) (qs : List Tree) (kind : Kind) → kind_of p ≡ Some kind → kind_of (closed_by n qs p) ≡ Some kind
kind-closed (lam d As b at) n qs kind e = e
kind-closed (field i p at) n qs kind e = e
kind-closed (accept d D b at) n qs kind e = e
kind-closed p n qs kind e = absurd cc

-- the parts of a case
pub part_at-closed : (ps : Trees) (i n : ℕ) (qs : List Tree) (q : Tree) → part_at ps i ≡ Some q → part_at (all_closed_by n qs ps) i ≡ Some (closed_by n qs q)
part_at-closed no_trees i n qs q e = absurd cc
part_at-closed (and_tree p ps) zero n qs q e = let same : p ≡ q = cc in ap (λ (t : Tree). Some (closed_by n qs t)) same
part_at-closed (and_tree p ps) (suc i) n qs q e = part_at-closed ps i n qs q e

pub no_part_at-closed : (ps : Trees) (i n : ℕ) (qs : List Tree) → part_at ps i ≡ None → part_at (all_closed_by n qs ps) i ≡ None
no_part_at-closed no_trees i n qs e = refl
no_part_at-closed (and_tree p ps) zero n qs e = absurd cc
no_part_at-closed (and_tree p ps) (suc i) n qs e = no_part_at-closed ps i n qs e
