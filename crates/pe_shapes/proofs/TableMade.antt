-- What all that was found says of the pairs of the derivation.
use Rattle.std.proofs.Common.{ℕ, ◌<◌, ◌≤◌, ◌≡◌, ◌⊎◌, inl, inr, length, true, false, get_or, map, slice_get, Some, sym, ap, ◌∙◌, subst, arith}
use Rattle.std.specs.List.{Contains}
use Rattle.std.proofs.lemmas.List.{length-map}
use Rattle.std.proofs.lemmas.List.Elements.{All-contains}
use Rattle.std.proofs.lemmas.Option.{slice_get-map, get_or_from_slice_get, slice_get-get_or, slice_get_within}
use Rattle.fy_phrase.specs.declared.shapes.Pair.{Pair}
use Rattle.fy_phrase.specs.declared.shapes.ShapeTable.{ShapeTable}
use Rattle.fy_phrase.specs.Tree.{Tree}
use Rattle.fy_derive.specs.Derivations.{PlainDerivation}
use Rattle.fy_derive.specs.Shapes.{PlainShape, a_value, a_run, at_end, shape_table, IsClosed}
use Rattle.fy_derive.specs.ShapeTables.{plain_shape, shape_at, HasPairOf, HasJustPairs}
use Rattle.pe_shapes.specs.declared.found.Found.{Found}
use Rattle.pe_shapes.specs.Counts.{StandOnce, HasMany, HasAtMost, IsCount}
use Rattle.pe_shapes.specs.Finding.{used_shapes, pair_of, IsRecorded, IsFound, IsEmpty, IsSeen, Adds, NoPair}
use Rattle.pe_shapes.specs.Order.{comes_before, IsPairBefore}
use Rattle.pe_shapes.specs.Placing.{IsTableFound}
use Rattle.pe_shapes.specs.Shaping.{IsShapeOf, IsPairOf}
use Rattle.pe_shapes.specs.Shown.{shown, all_shown}
use Rattle.pe_shapes.proofs.Members.{Contains-none, Contains-at, Contains-map, Contains-unmap, StandOnce-map, HasMany-from}
use Rattle.pe_shapes.proofs.OrderLemmas.{before-itself}
use Rattle.pe_shapes.proofs.Sorting.{StandOnce-ordered}
use Rattle.pe_shapes.proofs.Standings.{StandOnce-shown}
use Rattle.pe_shapes.proofs.TableLemmas.{pair-never}

-- what was found is that of the whole derivation
pub record IsWhole (p : Tree) (d : PlainDerivation) (f : Found) : Type 0 where
  pub sound : IsFound f
  pub used : (s : PlainShape) → Contains (used_shapes f) s → IsShapeOf p d s
  pub known : (k : ℕ) (s : PlainShape) → IsRecorded f k s → shape_table p d k s
  pub seen : (k : ℕ) (s : PlainShape) → shape_table p d k s → IsSeen f k s

nothing_recorded : (e : Found) (k : ℕ) (s : PlainShape) → IsEmpty e → IsRecorded e k s → ⊥
nothing_recorded e k s h r = Contains-none (pair_of k r.place) (subst (λ ps. Contains ps (pair_of k r.place)) h.no_pairs r.pair)

nothing_used : (e : Found) (s : PlainShape) → IsEmpty e → Contains (used_shapes e) s → ⊥
nothing_used e s h c = Contains-none s (subst (λ ks. Contains (all_shown e.numbers ks) s) h.no_shapes c)

pub whole : (p : Tree) (d : PlainDerivation) (e f : Found) → IsEmpty e → IsFound f → Adds e f (shape_table p d) NoPair → IsWhole p d f
whole p d e f none sound h = record {
  sound = sound;
  used = λ s c. elim (h.used s c) [ inl x ↦ absurd (nothing_used e s none x) | inr x ↦ x ];
  known = λ k s r. elim (h.known k s r) [ inl x ↦ absurd (nothing_recorded e k s none x) | inr x ↦ x ];
  seen = λ k s x. elim (h.seen k s x) [ inl y ↦ y | inr y ↦ absurd y ];
}

pub stopped : (p : Tree) (d : PlainDerivation) (e : Found) → IsEmpty e → (s : PlainShape) → Contains (used_shapes e) s ⊎ IsShapeOf p d s → IsShapeOf p d s
stopped p d e none s x = elim x [ inl y ↦ absurd (nothing_used e s none y) | inr y ↦ y ]

pub IsFound-empty : (e : Found) → IsEmpty e → IsFound e
IsFound-empty e h = record {
  used_in = record { below = λ k d l. absurd (omega (arith, ap length h.no_shapes)) };
  used_once = λ i j x a b. absurd (omega (arith, slice_get_within e.used.keys i x a, ap length h.no_shapes));
  few = omega (arith, ap length h.no_shapes);
  pairs_in = λ k d l. absurd (omega (arith, ap length h.no_pairs));
  pairs_once = λ i j x a b. absurd (omega (arith, slice_get_within e.pairs.keys i x a, ap length h.no_pairs));
  few_pairs = omega (arith, ap length h.no_pairs);
}

-- ---- counts

used-once : (f : Found) → IsFound f → StandOnce (used_shapes f)
used-once f s = StandOnce-shown f.numbers f.used.keys s.used_in s.used_once

pub shapes-counted : (p : Tree) (d : PlainDerivation) (f : Found) → IsWhole p d f → IsCount (IsShapeOf p d) (length f.used.keys)
shapes-counted p d f w = record {
  members = used_shapes f;
  number = length-map f.used.keys (shown f.numbers);
  distinct = used-once f w.sound;
  each = w.used;
  all = λ s x. (w.seen x.0 s x.1).used;
}

pub shapes-few : (p : Tree) (d : PlainDerivation) (f : Found) → IsWhole p d f → HasAtMost 256 (IsShapeOf p d)
shapes-few p d f w = record {
  members = used_shapes f;
  number = omega (arith, length-map f.used.keys (shown f.numbers), w.sound.few);
  all = λ s x. (w.seen x.0 s x.1).used;
}

-- the node and the shape that a pair names
named : Found → Pair → ℕ × PlainShape
named f q = (q.node, get_or (used_shapes f) q.shape (at_end a_value))

named-at : (f : Found) (q : Pair) → IsFound f → Contains f.pairs.keys q → slice_get (used_shapes f) q.shape ≡ Some (get_or (used_shapes f) q.shape (at_end a_value))
named-at f q s c =
    let b : q.shape < length f.used.keys = All-contains (λ p. p.shape < length f.used.keys) f.pairs.keys q s.pairs_in c in
    slice_get-get_or (used_shapes f) q.shape (at_end a_value) (omega (arith, length-map f.used.keys (shown f.numbers)))

named-once : (f : Found) → IsFound f → StandOnce (map (named f) f.pairs.keys)
unfolding named
named-once f s = StandOnce-map (named f) f.pairs.keys (λ x y a b e.
    let place : x.shape ≡ y.shape = used-once f s x.shape y.shape (get_or (used_shapes f) x.shape (at_end a_value)) (named-at f x s a)
    (named-at f y s b ∙ ap (λ z. Some z.1) (sym e)) in
    ap (λ n. pair_of n x.shape) (ap (λ z. z.0) e) ∙ ap (pair_of y.node) place) s.pairs_once

named-pair : (p : Tree) (d : PlainDerivation) (f : Found) → IsWhole p d f → (x : ℕ × PlainShape) → Contains (map (named f) f.pairs.keys) x → IsPairOf p d x
unfolding named
named-pair p d f w x c =
    let r = Contains-unmap (named f) f.pairs.keys x c in
    subst (IsPairOf p d) r.2 (w.known r.0.node (get_or (used_shapes f) r.0.shape (at_end a_value)) (record { place = r.0.shape; shape = named-at f r.0 w.sound r.1; pair = r.1 }))

pub pairs-many : (p : Tree) (d : PlainDerivation) (f : Found) → IsWhole p d f → 65537 ≤ length f.pairs.keys → HasMany 65537 (IsPairOf p d)
pairs-many p d f w l =
    HasMany-from 65537 (IsPairOf p d) (map (named f) f.pairs.keys) (omega (arith, length-map f.pairs.keys (named f))) (named-once f w.sound) (named-pair p d f w)

not_full : (f : Found) (k : ℕ) (s : PlainShape) → length f.pairs.keys ≤ 65536 → IsSeen f k s → IsRecorded f k s
not_full f k s l x = elim x.recorded [ inl r ↦ r | inr full ↦ absurd (omega (arith, full.more)) ]

pub pairs-few : (p : Tree) (d : PlainDerivation) (f : Found) → IsWhole p d f → length f.pairs.keys ≤ 65536 → HasAtMost 65536 (IsPairOf p d)
unfolding named
pairs-few p d f w l = record {
  members = map (named f) f.pairs.keys;
  number = omega (arith, length-map f.pairs.keys (named f));
  all = λ x h.
      let r = not_full f x.0 x.1 l (w.seen x.0 x.1 h) in
      let at : get_or (used_shapes f) r.place (at_end a_value) ≡ x.1 = get_or_from_slice_get (used_shapes f) r.place x.1 (at_end a_value) r.shape in
      subst (Contains (map (named f) f.pairs.keys)) (ap (λ s. (x.0, s)) at) (Contains-map (named f) f.pairs.keys (pair_of x.0 r.place) r.pair);
}

-- ---- the table

shape-there : (t : ShapeTable) (n : ℕ) (s : PlainShape) → shape_at t n ≡ Some s → slice_get (map plain_shape t.shapes) n ≡ Some s
shape-there t n s e = slice_get-map plain_shape t.shapes n ∙ e

pub table-made : (p : Tree) (d : PlainDerivation) (f : Found) (t : ShapeTable) → IsWhole p d f → length f.pairs.keys ≤ 65536 → IsTableFound f t → HasJustPairs t (shape_table p d)
table-made p d f t w l h = record {
  sound = record {
    shapes_once = λ i j s a b. StandOnce-ordered (λ r s. comes_before r s ≡ true) (λ s e. let f : true ≡ false = sym e ∙ before-itself s in cc) (map plain_shape t.shapes) h.ordered.shapes
        i j s (shape-there t i s a) (shape-there t j s b);
    pairs_once = StandOnce-ordered IsPairBefore pair-never t.pairs h.ordered.pairs;
    pairs_within = λ i q a. All-contains (λ p. p.shape < length t.shapes) t.pairs q h.within (Contains-at t.pairs i q a);
    shapes_used = λ n s a.
        let x = w.used s (h.shapes s (Contains-at (map plain_shape t.shapes) n s (shape-there t n s a))) in
        (x.0, (h.same x.0 s).1 (not_full f x.0 s l (w.seen x.0 s x.1)));
  };
  same = λ k s. (λ y. w.known k s ((h.same k s).0 y), λ y. (h.same k s).1 (not_full f k s l (w.seen k s y)));
}

-- a table with just the pairs of a closed one is closed
pub closed-table : (p : Tree) (pairs : ℕ → PlainShape → Type 0) (t : ShapeTable) → HasJustPairs t pairs → IsClosed p pairs → IsClosed p (HasPairOf t)
closed-table p pairs t h c = record {
  program = (h.same 0 (at_end a_run)).1 c.program;
  passed = λ k j q s u node has pass. (h.same j u).1 (c.passed k j q s u node ((h.same k s).0 has) pass);
}
