-- Nodes of a phrase: a part of a node is one, it is no larger, and each has its number in preorder.
use Rattle.std.proofs.Common.{ℕ, suc, ◌+◌, ◌≤◌, ◌≡◌, List, [], ◌∷◌, length, Option, Some, None, refl, sym, ap, ◌∙◌, subst, inl, arith}
use Rattle.fy_phrase.specs.Tree.{Tree, Trees, no_trees, and_tree, case, lam, let_in, rec, new, cells, escape, accept}
use Rattle.fy_phrase.specs.Sizes.{nodes, all_nodes}
use Rattle.fy_phrase.specs.WellMade.{IsClosedUnder, HasDepthsUnder}
use Rattle.fy_derive.specs.Shapes.{of_trees, parts_of, IsNodeAt, IsNodeAmong, itself as itself_at, in_part as in_part_at, in_first as in_first_at, in_later as in_later_at}
use Rattle.pe_right.specs.Right.{with_depth, parts_under, IsNodeUnder, IsNodeAmongUnder, itself, in_part, in_first, in_later}
use Rattle.pe_right.proofs.Merges.{merges, all_merges, merges-few, spare}
use Rattle.pe_right.specs.Entered.{BinderKind, with_binders, parts_within, Entering, every, no_part, later, first_alone, but_first, the_first, behind_first, entered_parts, first_entered, none_straight, IsEntered, is_entered, within_part, IsEnteredAmong, within_first, within_later}
use Rattle.pe_machine.specs.States.{Frame}
use Rattle.pe_right.proofs.Invariants.{Compiled, IsBoundBy, IsNode, IsBody}

-- ---- parts of parts

mutual
  pub under-part : {d m e k i j : ℕ} {p q r : Tree} → IsNodeUnder d m p e k q → IsNodeAmongUnder (k + 1) (parts_under e q) i j r → IsNodeUnder d m p i j r
  under-part itself a = in_part a
  under-part (in_part b) a = in_part (among-part b a)

  pub among-part : {m e k i j : ℕ} {ps : List (ℕ × Tree)} {q r : Tree} → IsNodeAmongUnder m ps e k q → IsNodeAmongUnder (k + 1) (parts_under e q) i j r →
      IsNodeAmongUnder m ps i j r
  among-part (in_first u) a = in_first (under-part u a)
  among-part (in_later b) a = in_later (among-part b a)

-- ---- numbers in preorder

abbrev trees_in : List (ℕ × Tree) → List Tree
trees_in [] = []
trees_in (x ∷ xs) = x.1 ∷ trees_in xs

with_depth-trees : (d : ℕ) (ps : Trees) → trees_in (with_depth d ps) ≡ of_trees ps
with_depth-trees d no_trees = refl
with_depth-trees d (and_tree p ps) = ap (λ (qs : List Tree). p ∷ qs) (with_depth-trees d ps)

parts-trees : (d : ℕ) (p : Tree) → trees_in (parts_under d p) ≡ parts_of p
parts-trees d (case e parts at) = ap (λ (qs : List Tree). e ∷ qs) (with_depth-trees d parts)
parts-trees d p = refl

mutual
  pub under-at : {d m e k : ℕ} {p q : Tree} → IsNodeUnder d m p e k q → IsNodeAt m p k q
  under-at itself = itself_at
  under-at (in_part {d = d} {m = m} {e = e} {k = k} {p = p} {q = q} a) =
      in_part_at (subst (λ (ps : List Tree). IsNodeAmong (m + 1) ps k q) (parts-trees d p) (among-at a))

  among-at : {m e k : ℕ} {ps : List (ℕ × Tree)} {q : Tree} → IsNodeAmongUnder m ps e k q → IsNodeAmong m (trees_in ps) k q
  among-at (in_first u) = in_first_at (under-at u)
  among-at (in_later a) = in_later_at (among-at a)

-- ---- sizes

abbrev sizes : List (ℕ × Tree) → ℕ
sizes [] = 0
sizes (x ∷ xs) = nodes x.1 + sizes xs

with_depth-sizes : (d : ℕ) (ps : Trees) → sizes (with_depth d ps) ≡ all_nodes ps
with_depth-sizes d no_trees = refl
with_depth-sizes d (and_tree p ps) = let e = with_depth-sizes d ps in omega arith

parts-sizes : (d : ℕ) (p : Tree) → sizes (parts_under d p) + 1 ≡ nodes p
parts-sizes d (case e parts at) = let h = with_depth-sizes d parts in omega arith
parts-sizes d p = omega arith

mutual
  under-size : {d m e k : ℕ} {p q : Tree} → IsNodeUnder d m p e k q → nodes q ≤ nodes p
  under-size itself = omega arith
  under-size (in_part {d = d} {p = p} a) = let l = among-size a in let e = parts-sizes d p in omega arith

  among-size : {m e k : ℕ} {ps : List (ℕ × Tree)} {q : Tree} → IsNodeAmongUnder m ps e k q → nodes q ≤ sizes ps
  among-size (in_first u) = let l = under-size u in omega arith
  among-size (in_later a) = let l = among-size a in omega arith

-- ---- merges

abbrev merges_in : List (ℕ × Tree) → ℕ
merges_in [] = 0
merges_in (x ∷ xs) = merges x.1 + merges_in xs

merges_in-few : (xs : List (ℕ × Tree)) → merges_in xs ≤ sizes xs
merges_in-few [] = omega arith
merges_in-few (x ∷ xs) = let h = merges-few x.1 in let k = merges_in-few xs in omega arith

with_depth-merges : (d : ℕ) (ps : Trees) → merges_in (with_depth d ps) ≡ all_merges ps
with_depth-merges d no_trees = refl
with_depth-merges d (and_tree p ps) = let e = with_depth-merges d ps in omega arith

parts-merges : (d : ℕ) (p : Tree) → (merges_in (parts_under d p) ≤ merges p) × (merges p ≤ merges_in (parts_under d p) + 1)
parts-merges d (case e parts at) = let h = with_depth-merges d parts in (omega arith, omega arith)
parts-merges d p = (omega arith, omega arith)

mutual
  pub under-merges : {d m e k : ℕ} {p q : Tree} → IsNodeUnder d m p e k q → merges q ≤ merges p
  under-merges itself = omega arith
  under-merges (in_part {d = d} {p = p} a) = let l = among-merges a in let e = (parts-merges d p).0 in omega arith

  among-merges : {m e k : ℕ} {ps : List (ℕ × Tree)} {q : Tree} → IsNodeAmongUnder m ps e k q → merges q ≤ merges_in ps
  among-merges (in_first u) = let l = under-merges u in omega arith
  among-merges (in_later a) = let l = among-merges a in omega arith

-- a node's own nodes are beside the merges that are not its own
mutual
  under-spare : {d m e k : ℕ} {p q : Tree} → IsNodeUnder d m p e k q → nodes q + merges p ≤ nodes p + merges q
  under-spare itself = omega arith
  under-spare (in_part {d = d} {p = p} a) = let l = among-spare a in let e = (parts-merges d p).1 in let f = parts-sizes d p in omega arith

  among-spare : {m e k : ℕ} {ps : List (ℕ × Tree)} {q : Tree} → IsNodeAmongUnder m ps e k q → nodes q + merges_in ps ≤ sizes ps + merges q
  among-spare (in_first {ps = ps} u) = let l = under-spare u in let h = merges_in-few ps in omega arith
  among-spare (in_later {p = p} a) = let l = among-spare a in let h = merges-few p in omega arith

pub constant-spare : {d m e k : ℕ} {p q : Tree} → IsNodeUnder d m p e k q → merges q ≡ 0 → nodes q ≤ spare p + 1
constant-spare {p = p} u z = let l = under-spare u in let h = merges-few p in omega arith

-- what stands beside other nodes of a node is smaller than what is spare
pub part-spare : {d m e k : ℕ} {p q : Tree} (n : ℕ) → IsNodeUnder d m p e k q → n + merges q + 1 ≤ nodes q → n ≤ spare p
part-spare {p = p} n u few = let l = under-spare u in let h = merges-few p in omega arith

-- ---- nodes that are entered

abbrev lengths : List (List BinderKind × Tree) → List (ℕ × Tree)
lengths [] = []
lengths (x ∷ xs) = (length x.0, x.1) ∷ lengths xs

one-more : (w : List BinderKind) → suc (length w) ≡ length w + 1
one-more w = omega arith

binders-lengths : (w : List BinderKind) (ps : Trees) → lengths (with_binders w ps) ≡ with_depth (length w) ps
binders-lengths w no_trees = refl
binders-lengths w (and_tree p ps) = ap (λ (xs : List (ℕ × Tree)). (length w, p) ∷ xs) (binders-lengths w ps)

parts-lengths : (w : List BinderKind) (p : Tree) → lengths (parts_within w p) ≡ parts_under (length w) p
parts-lengths w (case e parts at) = ap (λ (xs : List (ℕ × Tree)). (length w, e) ∷ xs) (binders-lengths w parts)
parts-lengths w (lam n As b at) = ap (λ (d : ℕ). (d, b) ∷ []) (one-more w)
parts-lengths w (let_in n p b at) = ap (λ (d : ℕ). (length w, p) ∷ (d, b) ∷ []) (one-more w)
parts-lengths w (rec n T b at) = ap (λ (d : ℕ). (d, b) ∷ []) (one-more w)
parts-lengths w (new n D e b at) = ap (λ (d : ℕ). (length w, e) ∷ (d, b) ∷ []) (one-more w)
parts-lengths w (cells n e b at) = ap (λ (d : ℕ). (length w, e) ∷ (d, b) ∷ []) (one-more w)
parts-lengths w (escape n b at) = ap (λ (d : ℕ). (d, b) ∷ []) (one-more w)
parts-lengths w (accept n D b at) = ap (λ (d : ℕ). (d, b) ∷ []) (one-more w)
parts-lengths w p = refl

among-but-first : (n : ℕ) (xs : List (List BinderKind × Tree)) {d k : ℕ} {q : Tree} → IsNodeAmongUnder (behind_first n xs) (lengths (but_first xs)) d k q → IsNodeAmongUnder n (lengths xs) d k q
among-but-first n [] a = a
among-but-first n (x ∷ xs) a = in_later a

among-the-first : (n : ℕ) (xs : List (List BinderKind × Tree)) {d k : ℕ} {q : Tree} → IsNodeAmongUnder n (lengths (the_first xs)) d k q → IsNodeAmongUnder n (lengths xs) d k q
among-the-first n [] a = a
among-the-first n (x ∷ xs) (in_first u) = in_first u
among-the-first n (x ∷ xs) (in_later a) = elim a [ ]

among-parts-within : (n : ℕ) (w : List BinderKind) (p : Tree) {d k : ℕ} {q : Tree} → IsNodeAmongUnder n (lengths (parts_within w p)) d k q → IsNodeAmongUnder n (parts_under (length w) p) d k q
among-parts-within n w p {d = d} {k = k} {q = q} a = subst (λ (ps : List (ℕ × Tree)). IsNodeAmongUnder n ps d k q) (parts-lengths w p) a

among-entered-parts : (e : Entering) (w : List BinderKind) (m : ℕ) (p : Tree) {d k : ℕ} {q : Tree} → IsNodeAmongUnder (first_entered e m w p) (lengths (entered_parts e w p)) d k q →
    IsNodeAmongUnder (m + 1) (parts_under (length w) p) d k q
among-entered-parts every w m p a = among-parts-within (m + 1) w p a
among-entered-parts no_part w m p a = elim a [ ]
among-entered-parts later w m p a = among-parts-within (m + 1) w p (among-but-first (m + 1) (parts_within w p) a)
among-entered-parts first_alone w m p a = among-parts-within (m + 1) w p (among-the-first (m + 1) (parts_within w p) a)

module _ (straight : ℕ → Entering) where
  mutual
    pub entered-node : {w v : List BinderKind} {m k : ℕ} {p q : Tree} → IsEntered straight w m p v k q → IsNodeUnder (length w) m p (length v) k q
    entered-node is_entered = itself
    entered-node (within_part {w = w} {m = m} {p = p} a) = in_part (among-entered-parts (straight m) w m p (entered-among a))

    entered-among : {v : List BinderKind} {m k : ℕ} {ps : List (List BinderKind × Tree)} {q : Tree} → IsEnteredAmong straight m ps v k q → IsNodeAmongUnder m (lengths ps) (length v) k q
    entered-among (within_first u) = in_first (entered-node u)
    entered-among (within_later a) = in_later (entered-among a)

  -- parts of a node that is entered
  mutual
    within-node : {w v u : List BinderKind} {m k j : ℕ} {p q r : Tree} → IsEntered straight w m p v k q → IsEnteredAmong straight (first_entered (straight k) k v q) (entered_parts (straight k) v q) u j r →
        IsEntered straight w m p u j r
    within-node is_entered a = within_part a
    within-node (within_part b) a = within_part (within-among b a)

    within-among : {v u : List BinderKind} {m k j : ℕ} {ps : List (List BinderKind × Tree)} {q r : Tree} → IsEnteredAmong straight m ps v k q →
        IsEnteredAmong straight (first_entered (straight k) k v q) (entered_parts (straight k) v q) u j r →
        IsEnteredAmong straight m ps u j r
    within-among (within_first n) a = within_first (within-node n a)
    within-among (within_later b) a = within_later (within-among b a)

  pub part-entered-as : {v u : List BinderKind} {k j : ℕ} {p q r : Tree} (e : Entering) → IsEntered straight [] 0 p v k q → straight k ≡ e → IsEnteredAmong straight (first_entered e k v q) (entered_parts e v q) u j r →
      IsEntered straight [] 0 p u j r
  part-entered-as {v = v} {u = u} {k = k} {j = j} {q = q} {r = r} e n is a =
      within-node n (subst (λ (x : Entering). IsEnteredAmong straight (first_entered x k v q) (entered_parts x v q) u j r) (sym is) a)

  pub part-entered : {v u : List BinderKind} {k j : ℕ} {p q r : Tree} → IsEntered straight [] 0 p v k q → straight k ≡ every → IsEnteredAmong straight (k + 1) (parts_within v q) u j r →
      IsEntered straight [] 0 p u j r
  part-entered n plain a = part-entered-as every n plain a

-- where no node is evaluated in one step, each is entered
mutual
  pub node-entered : {d m e k : ℕ} {p q : Tree} (w : List BinderKind) → length w ≡ d → IsNodeUnder d m p e k q → (v : List BinderKind) × (length v ≡ e) × IsEntered none_straight w m p v k q
  node-entered w same itself = (w, same, is_entered)
  node-entered w same (in_part {p = p} a) =
      let x = among-entered (parts_within w p) (parts-lengths w p ∙ ap (λ (n : ℕ). parts_under n p) same) a in
      (x.0, x.1, within_part x.2)

  among-entered : {m e k : ℕ} {ps : List (ℕ × Tree)} {q : Tree} (xs : List (List BinderKind × Tree)) → lengths xs ≡ ps → IsNodeAmongUnder m ps e k q →
      (v : List BinderKind) × (length v ≡ e) × IsEnteredAmong none_straight m xs v k q
  among-entered [] same (in_first u) = absurd cc
  among-entered [] same (in_later a) = absurd cc
  among-entered {m = m} {k = k} {q = q} (x ∷ xs) same (in_first {d = d} {p = p} u) =
      let first : ◌≡◌ {A = ℕ × Tree} (length x.0, x.1) (d, p) = cc in
      let y = node-entered x.0 (ap (λ (z : ℕ × Tree). z.0) first) u in
      (y.0, y.1, within_first (subst (λ (r : Tree). IsEntered none_straight x.0 m r y.0 k q) (sym (ap (λ (z : ℕ × Tree). z.1) first)) y.2))
  among-entered {m = m} {k = k} {q = q} (x ∷ xs) same (in_later {d = d} {p = p} {ps = ps} a) =
      let first : ◌≡◌ {A = ℕ × Tree} (length x.0, x.1) (d, p) = cc in
      let rest : lengths xs ≡ ps = cc in
      let y = among-entered xs rest a in
      (y.0, y.1, within_later (subst (λ (r : Tree). IsEnteredAmong none_straight (m + nodes r) xs y.0 k q) (sym (ap (λ (z : ℕ × Tree). z.1) first)) y.2))

-- ---- nodes of the phrase

module _ (g : Compiled) where
  -- by the number of the binders around it
  pub under : {fs : List Frame} {r : Option ℕ} {d k : ℕ} {q : Tree} → IsNode g fs r d k q → IsNodeUnder 0 0 g.phrase d k q
  under {d = d} {k = k} {q = q} n = subst (λ (e : ℕ). IsNodeUnder 0 0 g.phrase e k q) n.many (entered-node g.straight n.stands)

  pub node-size : {fs : List Frame} {r : Option ℕ} {d k : ℕ} {q : Tree} → IsNode g fs r d k q → nodes q ≤ nodes g.phrase
  node-size n = under-size (under n)

  -- a part under no binder of the node's own, where it is entered
  pub part-as : {fs : List Frame} {x : Option ℕ} {d k j : ℕ} {q r : Tree} (e : Entering) (n : IsNode g fs x d k q) → g.straight k ≡ e →
      IsEnteredAmong g.straight (first_entered e k n.binders q) (entered_parts e n.binders q) n.binders j r → IsClosedUnder d r → HasDepthsUnder d r → IsNode g fs x d j r
  part-as e n is a closed depths = record { binders = n.binders; stands = part-entered-as g.straight e n.stands is a; many = n.many; bound = n.bound; closed = closed; depths = depths }

  -- where the node is evaluated by parts
  pub part : {fs : List Frame} {x : Option ℕ} {d k j : ℕ} {q r : Tree} (n : IsNode g fs x d k q) → g.straight k ≡ every → IsEnteredAmong g.straight (k + 1) (parts_within n.binders q) n.binders j r →
      IsClosedUnder d r → HasDepthsUnder d r → IsNode g fs x d j r
  part n plain a closed depths = record { binders = n.binders; stands = part-entered g.straight n.stands plain a; many = n.many; bound = n.bound; closed = closed; depths = depths }

  -- the body under its binder
  pub body : {fs : List Frame} {x : Option ℕ} {y : BinderKind} {d k j : ℕ} {q r : Tree} (n : IsNode g fs x d k q) → g.straight k ≡ every →
      IsEnteredAmong g.straight (k + 1) (parts_within n.binders q) (y ∷ n.binders) j r → IsClosedUnder (suc d) r → HasDepthsUnder (suc d) r → IsBody g fs x y d j r
  body n plain a closed depths = record { binders = n.binders; stands = part-entered g.straight n.stands plain a; many = n.many; bound = n.bound; closed = closed; depths = depths }

  -- a body in the frame of its binder
  pub body-bound : {fs : List Frame} {y : BinderKind} {d k : ℕ} {q : Tree} (f : Frame) → IsBoundBy y f.binding → IsBody g fs f.around y d k q → IsNode g (f ∷ fs) (Some f.number) (suc d) k q
  body-bound {y = y} f is n = record {
    binders = y ∷ n.binders;
    stands = n.stands;
    many = ap suc n.many;
    bound = inl (refl, (y, n.binders, refl, is, n.bound));
    closed = n.closed;
    depths = n.depths;
  }

  pub whole : IsNode g [] None 0 0 g.phrase
  whole = record { binders = []; stands = is_entered; many = refl; bound = (refl, refl); closed = g.closed; depths = g.depths }
