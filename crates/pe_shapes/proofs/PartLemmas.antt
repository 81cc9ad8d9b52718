-- The parts of phrases, and their sizes.
use Rattle.std.proofs.Common.{ℕ, zero, suc, ◌+◌, ◌<◌, ◌≤◌, ◌≡◌, ◌≢◌, ◌⊎◌, inl, inr, List, [], ◌∷◌, ◌++◌, length, get_or, set, map, take, drop, slice_get, Option, Some, None, option_map, unwrap_or, refl, sym, ap, ◌∙◌, subst, arith}
use Rattle.std.proofs.lemmas.List.{length-set, length-map, get_or-map, get_or-set_same, map_push, take_more, take_all}
use Rattle.std.proofs.lemmas.Option.{slice_get_within, slice_get-get_or, get_or_from_slice_get}
use Rattle.fy_types.specs.Types.{PlainType}
use Rattle.fy_types.proofs.Steps.{drop_item}
use Rattle.fy_phrase.specs.Tree.{Tree, lam, merge}
use Rattle.fy_phrase.specs.Reads.{reads}
use Rattle.fy_phrase.specs.Sizes.{nodes}
use Rattle.fy_derive.specs.Kinds.{Kind, kind_of}
use Rattle.fy_derive.specs.Judging.{alternative, operands}
use Rattle.fy_derive.specs.Rules.{nothing, Premise, premises}
use Rattle.fy_derive.specs.Shapes.{parts_of, IsNodeAt, itself, in_part, IsNodeAmong, in_first, in_later}
use Rattle.fy_phrase.specs.declared.premise.Premise.{Premise as PremiseValue}
use Rattle.fy_phrase.specs.Premises.{merged, premise_shown}
use Rattle.pe_shapes.specs.Parts.{bound_parts, parts_in, total_nodes, AreSizes, Keeps}
use Rattle.fy_derive.proofs.PartLemmas.{alternative-parts}
use Rattle.pe_shapes.proofs.JudgedLemmas.{some_same}
use Rattle.pe_shapes.proofs.NodeNumbers.{among-from, nodes-parts}

bound_parts-trees : (p : Tree) → map (λ P. P.1) (bound_parts p) ≡ parts_of p
bound_parts-trees (lam d As b at) = refl
bound_parts-trees p = refl

parts_in-shown : (Ps : List PremiseValue) → parts_in Ps ≡ map (λ P. P.1) (map premise_shown Ps)
parts_in-shown [] = refl
parts_in-shown (P ∷ Ps) = ap (λ xs. reads P.part.now ∷ xs) (parts_in-shown Ps)

-- the phrases of the parts that were made
pub parts_in-made : (Ps : List PremiseValue) (p : Tree) → map premise_shown Ps ≡ bound_parts p → parts_in Ps ≡ parts_of p
parts_in-made Ps p e = parts_in-shown Ps ∙ (ap (map (λ P. P.1)) e ∙ bound_parts-trees p)

pub premises-made : (Ps : List PremiseValue) (p : Tree) (Qs : List Premise) → map premise_shown Ps ≡ bound_parts p → premises p ≡ Some Qs → map premise_shown Ps ≡ Qs
premises-made Ps p Qs e f = e ∙ ap (λ o. unwrap_or o (map (λ q. (nothing, q)) (parts_of p))) f

-- a merge's operands are its parts
pub merged-parts : (p : Tree) (x : Tree × Tree) → merged p ≡ Some x → parts_of p ≡ x.0 ∷ x.1 ∷ []
merged-parts (merge p q at) x e = ap (λ y. y.0 ∷ y.1 ∷ []) (some_same e)
merged-parts p x e = absurd cc

abbrev pub both : Tree → Tree → Tree × Tree
both p q = (p, q)

pub operands-merged : (p : Tree) (x : Tree × Tree × Kind) → operands p ≡ Some x → merged p ≡ Some (both x.0 x.1)
operands-merged (merge p q at) x e = by (kind_of q) e
  where
    by : (o : Option Kind) → option_map (λ k. (p, q, k)) o ≡ Some x → Some (both p q) ≡ Some (both x.0 x.1)
    by None f = absurd cc
    by (Some k) f = ap (λ (y : Tree × Tree × Kind). Some (both y.0 y.1)) (some_same f)
operands-merged p x e = absurd cc

-- ---- sizes

-- the nodes of a part are fewer
total-at : (ps : List Tree) (i : ℕ) (d : Tree) → i < length ps → nodes (get_or ps i d) ≤ total_nodes ps
total-at [] i d h = absurd (omega arith)
total-at (p ∷ ps) zero d h = omega arith
total-at (p ∷ ps) (suc i) d h = omega (arith, total-at ps i d (omega arith))

pub nodes-part : (p : Tree) (ps : List Tree) (i : ℕ) (d : Tree) → ps ≡ parts_of p → i < length ps → nodes (get_or ps i d) < nodes p
nodes-part p ps i d e h = omega (arith, total-at ps i d h, nodes-parts p, ap total_nodes e)

none_among : {m k : ℕ} {q : Tree} → IsNodeAmong m [] k q → ⊥
none_among x = elim x [ ]

pub sizes-here : {S : List ℕ} {m : ℕ} {p : Tree} {ps : List Tree} → AreSizes S m (p ∷ ps) → slice_get S m ≡ Some (nodes p)
sizes-here {m = m} {p = p} s = s.each m p (in_first itself)

pub sizes-within : {S : List ℕ} {m : ℕ} {p : Tree} {ps : List Tree} → AreSizes S m (p ∷ ps) → m < length S
sizes-within {S = S} {m = m} {p = p} s = slice_get_within S m (nodes p) (sizes-here s)

pub sizes-first : {S : List ℕ} {m : ℕ} {p : Tree} {ps : List Tree} → AreSizes S m (p ∷ ps) → AreSizes S m (p ∷ [])
sizes-first {S = S} {m = m} {p = p} {ps = ps} s = record { each = λ k q h. s.each k q (wider h); fits = omega (arith, s.fits) }
  where
    wider : {k : ℕ} {q : Tree} → IsNodeAmong m (p ∷ []) k q → IsNodeAmong m (p ∷ ps) k q
    wider (in_first x) = in_first x
    wider (in_later x) = absurd (none_among x)

pub sizes-rest : {S : List ℕ} {m : ℕ} {p : Tree} {ps : List Tree} → AreSizes S m (p ∷ ps) → AreSizes S (m + nodes p) ps
sizes-rest s = record { each = λ k q h. s.each k q (in_later h); fits = omega (arith, s.fits) }

pub sizes-parts : {S : List ℕ} {m : ℕ} {p : Tree} → AreSizes S m (p ∷ []) → AreSizes S (m + 1) (parts_of p)
sizes-parts {p = p} s = record { each = λ k q h. s.each k q (in_first (in_part h)); fits = omega (arith, s.fits, nodes-parts p) }

-- ---- making them

pub Keeps-itself : (S : List ℕ) → Keeps S S
Keeps-itself S = record { more = omega arith; same = λ k h. refl }

pub Keeps-trans : {S T U : List ℕ} → Keeps S T → Keeps T U → Keeps S U
Keeps-trans a b = record { more = omega (arith, a.more, b.more); same = λ k h. b.same k (omega (arith, a.more)) ∙ a.same k h }

kept : (S T : List ℕ) (k n : ℕ) → Keeps S T → slice_get S k ≡ Some n → slice_get T k ≡ Some n
kept S T k n h e = h.same k (slice_get_within S k n e) ∙ e

among-pushed : {k : ℕ} {q : Tree} (m : ℕ) (ps : List Tree) (p : Tree) → IsNodeAmong m (ps ++ p ∷ []) k q → IsNodeAmong m ps k q ⊎ IsNodeAmong (m + total_nodes ps) (p ∷ []) k q
among-pushed {k = k} {q = q} m [] p x = inr (subst (λ n. IsNodeAmong n (p ∷ []) k q) (omega arith) x)
among-pushed m (r ∷ ps) p (in_first x) = inl (in_first x)
among-pushed {k = k} {q = q} m (r ∷ ps) p (in_later x) = elim (among-pushed (m + nodes r) ps p x) [
  | inl y ↦ inl (in_later y)
  | inr y ↦ inr (subst (λ n. IsNodeAmong n (p ∷ []) k q) (omega arith) y)
]

total-push : (ps : List Tree) (p : Tree) → total_nodes (ps ++ p ∷ []) ≡ total_nodes ps + nodes p
total-push [] p = omega arith
total-push (r ∷ ps) p = omega (arith, total-push ps p)

pub sizes-none : (S : List ℕ) (m : ℕ) → m ≤ length S → AreSizes S m []
sizes-none S m l = record { each = λ k q h. absurd (none_among h); fits = omega arith }

pub sizes-push : (S T : List ℕ) (m : ℕ) (ps : List Tree) (p : Tree) → AreSizes S m ps → Keeps S T → AreSizes T (m + total_nodes ps) (p ∷ []) → AreSizes T m (ps ++ p ∷ [])
sizes-push S T m ps p s h t = record {
  each = λ k q x. elim (among-pushed m ps p x) [ inl y ↦ kept S T k (nodes q) h (s.each k q y) | inr y ↦ t.each k q y ];
  fits = omega (arith, t.fits, total-push ps p);
}

set_other : (S : List ℕ) (i k v : ℕ) → k ≢ i → slice_get (set S i v) k ≡ slice_get S k
set_other [] i k v ne = refl
set_other (x ∷ S) zero zero v ne = absurd (ne refl)
set_other (x ∷ S) zero (suc k) v ne = refl
set_other (x ∷ S) (suc i) zero v ne = refl
set_other (x ∷ S) (suc i) (suc k) v ne = set_other S i k v (λ e. ne (ap suc e))

set_same : (S : List ℕ) (i v : ℕ) → i < length S → slice_get (set S i v) i ≡ Some v
set_same S i v h = slice_get-get_or (set S i v) i v (omega (arith, length-set S i v)) ∙ ap Some (get_or-set_same S i v v h)

pub Keeps-set : (S T : List ℕ) (v : ℕ) → Keeps S T → Keeps S (set T (length S) v)
Keeps-set S T v h = record {
  more = omega (arith, h.more, length-set T (length S) v);
  same = λ k l. set_other T (length S) k v (omega arith) ∙ h.same k l;
}

-- the phrase's own size, put before those of its parts
pub sizes-whole : (S : List ℕ) (m : ℕ) (p : Tree) → AreSizes S (m + 1) (parts_of p) → AreSizes (set S m (nodes p)) m (p ∷ [])
sizes-whole S m p s = record {
  each = λ k q x. at x;
  fits = omega (arith, s.fits, nodes-parts p, length-set S m (nodes p));
}
  where
    at_node : {k : ℕ} {q : Tree} → IsNodeAt m p k q → slice_get (set S m (nodes p)) k ≡ Some (nodes q)
    at_node itself = set_same S m (nodes p) (omega (arith, s.fits))
    at_node (in_part {k = k} {q = q} x) = set_other S m k (nodes p) (omega (arith, among-from x)) ∙ s.each k q x

    at : {k : ℕ} {q : Tree} → IsNodeAmong m (p ∷ []) k q → slice_get (set S m (nodes p)) k ≡ Some (nodes q)
    at (in_first x) = at_node x
    at (in_later x) = absurd (none_among x)

-- ---- one part after another

next-part : (Ps : List PremiseValue) (i : ℕ) (P : PremiseValue) → i < length Ps → P ≡ get_or Ps i P → parts_in (take (i + 1) Ps) ≡ parts_in (take i Ps) ++ reads P.part.now ∷ []
next-part Ps i P h e =
    ap parts_in (take_more Ps i P h) ∙ (map_push (λ Q. reads Q.part.now) (take i Ps) (get_or Ps i P) ∙ ap (λ Q. parts_in (take i Ps) ++ reads Q.part.now ∷ []) (sym e))

pub part-fewer : (Ps : List PremiseValue) (i : ℕ) (P : PremiseValue) (p : Tree) → i < length Ps → P ≡ get_or Ps i P → map premise_shown Ps ≡ bound_parts p → nodes (reads P.part.now) < nodes p
part-fewer Ps i P p h e made =
    let fewer = nodes-part p (parts_in Ps) i (reads P.part.now) (parts_in-made Ps p made) (omega (arith, length-map Ps (λ Q. reads Q.part.now))) in
    let at : get_or (parts_in Ps) i (reads P.part.now) ≡ reads P.part.now =
    get_or-map (λ Q. reads Q.part.now) Ps i P (reads P.part.now) h ∙ ap (λ Q. reads Q.part.now) (sym e) in
    subst (λ q. nodes q < nodes p) at fewer

pub sizes-next : (S T : List ℕ) (m : ℕ) (Ps : List PremiseValue) (i : ℕ) (P : PremiseValue) → i < length Ps → P ≡ get_or Ps i P → AreSizes S m (parts_in (take i Ps)) → Keeps S T →
    length S ≡ m + total_nodes (parts_in (take i Ps)) → AreSizes T (length S) (reads P.part.now ∷ []) → AreSizes T m (parts_in (take (i + 1) Ps))
sizes-next S T m Ps i P h e s k l t =
    subst (AreSizes T m) (sym (next-part Ps i P h e))
    (sizes-push S T m (parts_in (take i Ps)) (reads P.part.now) s k (subst (λ n. AreSizes T n (reads P.part.now ∷ [])) l t))

pub length-next : (s t m : ℕ) (Ps : List PremiseValue) (i : ℕ) (P : PremiseValue) → i < length Ps → P ≡ get_or Ps i P → s ≡ m + total_nodes (parts_in (take i Ps)) →
    t ≡ s + nodes (reads P.part.now) → t ≡ m + total_nodes (parts_in (take (i + 1) Ps))
length-next s t m Ps i P h e a b =
    omega (arith, ap total_nodes (next-part Ps i P h e), total-push (parts_in (take i Ps)) (reads P.part.now))

pub record AreSizesMade (F T : List ℕ) (p : Tree) : Type 0 where
  pub kept : Keeps F T
  pub many : length T ≡ length F + nodes p
  pub sizes : AreSizes T (length F) (p ∷ [])

pub sizes-made : (F S : List ℕ) (at count : ℕ) (p : Tree) (Ps : List PremiseValue) (n : ℕ) → at ≡ length F → Keeps F S → length S ≡ at + 1 + total_nodes (parts_in (take n Ps)) →
    AreSizes S (at + 1) (parts_in (take n Ps)) → length Ps ≤ n → map premise_shown Ps ≡ bound_parts p → count + at ≡ length S → AreSizesMade F (set S at count) p
sizes-made F S at count p Ps n here k l s all made counted =
    let whole : parts_in (take n Ps) ≡ parts_of p = ap parts_in (take_all n Ps all) ∙ parts_in-made Ps p made in
    let own : count ≡ nodes p = omega (arith, ap total_nodes whole, nodes-parts p) in
    subst (λ i. AreSizesMade F (set S i count) p) (sym here) (subst (λ v. AreSizesMade F (set S (length F) v) p) (sym own) (record {
      kept = Keeps-set F S (nodes p) k;
      many = omega (arith, length-set S (length F) (nodes p), ap total_nodes whole, nodes-parts p);
      sizes = sizes-whole S (length F) p (subst (AreSizes S (length F + 1)) whole (subst (λ i. AreSizes S (i + 1) (parts_in (take n Ps))) here s));
    }))

-- the parts, as they are read
pub made-read : (Ps Qs : List PremiseValue) (p : Tree) → Qs ≡ Ps → map premise_shown Ps ≡ bound_parts p → map premise_shown Qs ≡ bound_parts p
made-read Ps Qs p e made = ap (map premise_shown) e ∙ made

-- ---- the parts that a walk goes to

pub sizes-body : (S : List ℕ) (m i : ℕ) (p : Tree) (x : PlainType × Tree) → alternative i p ≡ Some x → AreSizes S m (p ∷ []) → AreSizes S (m + 1) (x.1 ∷ [])
sizes-body S m i p x e s = subst (AreSizes S (m + 1)) (alternative-parts i p x e) (sizes-parts s)

pub sizes-left : (S : List ℕ) (m : ℕ) (p : Tree) (x : Tree × Tree) → merged p ≡ Some x → AreSizes S m (p ∷ []) → AreSizes S (m + 1) (x.0 ∷ x.1 ∷ [])
sizes-left S m p x e s = subst (AreSizes S (m + 1)) (merged-parts p x e) (sizes-parts s)

pub sizes-at : (S : List ℕ) (m : ℕ) (p : Tree) (ps : List Tree) → AreSizes S m (p ∷ ps) → get_or S m 0 ≡ nodes p
sizes-at S m p ps s = get_or_from_slice_get S m (nodes p) 0 (sizes-here s)

pub sizes-right : (S : List ℕ) (m n : ℕ) (p : Tree) (x : Tree × Tree) → merged p ≡ Some x → AreSizes S m (p ∷ []) → n ≡ m + 1 + nodes x.0 → AreSizes S n (x.1 ∷ [])
sizes-right S m n p x e s is = subst (λ k. AreSizes S k (x.1 ∷ [])) (sym is) (sizes-rest (sizes-left S m p x e s))

-- the parts that are left, one after another
pub parts_in-next : (Ps : List PremiseValue) (i : ℕ) (P : PremiseValue) → i < length Ps → P ≡ get_or Ps i P → parts_in (drop i Ps) ≡ reads P.part.now ∷ parts_in (drop (i + 1) Ps)
parts_in-next Ps i P h e = drop_item (λ Q. reads Q.part.now) Ps i P h e
