-- Why a derivation is refused: for one cause, and never where a table of its shapes keeps the limits.
use Rattle.std.proofs.Common.{◌≡◌, ◌⊎◌, inl, inr, ℕ, ◌+◌, ◌≤◌, length, map, Option, Some, None, unwrap_or, Result, Ok, Err, IsErrAnd, refl, sym, ap, ◌∙◌, subst, arith}
use Rattle.std.proofs.lemmas.List.{length-map}
use Rattle.std.proofs.lemmas.Option.{same_Some, slice_get-map}
use Rattle.std.specs.Prelude.{Contains}
use Rattle.fy_phrase.specs.Tree.{Tree}
use Rattle.fy_phrase.specs.declared.shapes.Pair.{Pair}
use Rattle.fy_phrase.specs.declared.shapes.ShapeTable.{ShapeTable}
use Rattle.fy_derive.specs.Derivations.{PlainDerivation}
use Rattle.fy_derive.specs.Judging.{conclusion_of, refusal}
use Rattle.fy_derive.specs.Shapes.{PlainShape, at_end, a_value, shape_table, table_words}
use Rattle.fy_derive.specs.ShapeTables.{plain_shape, shape_at, HasJustPairs}
use Rattle.fy_derive.specs.Standing.{IsVerdict}
use Rattle.fy_derive.specs.declared.error.DeriveError.{DeriveError}
use Rattle.fy_derive.specs.declared.error.DeriveError.TheVariants as judging
use Rattle.pe_shapes.specs.Counts.{HasMany, HasAtMost, IsCount}
use Rattle.pe_shapes.specs.Shaping.{IsShapeOf, IsPairOf, KeepsLimits, PassesWords, IsShaping}
use Rattle.pe_shapes.specs.declared.error.ShapeError.{ShapeError}
use Rattle.pe_shapes.specs.declared.error.ShapeError.TheVariants as shaping
use Rattle.pe_shapes.proofs.Members.{Contains-at, Contains-map, place_of}
use Rattle.pe_gen.proofs.Injections.{few-among}
use Rattle.fy_build.specs.declared.error.BuildError.{BuildError}
use Rattle.fy_build.specs.declared.error.BuildError.TheVariants.{Wrong, TooManyShapes, TooManyEntries, TablesTooLarge, OutOfMemory}
use Rattle.fy_build.specs.Building.{IsAccepted, IsRefused}
use Rattle.fy_build.specs.Errors.{of_judging, of_shaping}

-- ---- counts

-- not more than n are at most n
too_many : {X : Type 0} (n : ℕ) (F : X → Type 0) → HasAtMost n F → HasMany (n + 1) F → ⊥
too_many n F most many =
    let few = few-among most.members many.members many.distinct (λ i x at. place_of most.members x (most.all x (many.each x (Contains-at many.members i x at)))) in
    let number = most.number in
    let all = many.number in
    omega arith

at_most : {X : Type 0} (n m : ℕ) (F : X → Type 0) → IsCount F n → n ≤ m → HasAtMost m F
at_most n m F count le = record { members = count.members; number = (let all = count.number in omega arith); all = count.all }

counted_below : {X : Type 0} (n m : ℕ) (F : X → Type 0) → IsCount F n → IsCount F m → n ≤ m
counted_below n m F one other =
    let few = few-among other.members one.members one.distinct (λ i x at. place_of other.members x (other.all x (one.each x (Contains-at one.members i x at)))) in
    let number = one.number in
    let all = other.number in
    omega arith

-- ---- the table of a derivation has its shapes and its pairs

module _ (p : Tree) (d : PlainDerivation) (table : ShapeTable) (just : HasJustPairs table (shape_table p d)) where
  pub shapes_counted : IsCount (IsShapeOf p d) (length table.shapes)
  shapes_counted = record {
    members = map plain_shape table.shapes;
    number = length-map table.shapes plain_shape;
    distinct = λ i j s a b. just.sound.shapes_once i j s (sym (slice_get-map plain_shape table.shapes i) ∙ a) (sym (slice_get-map plain_shape table.shapes j) ∙ b);
    each = λ s c.
        let at = place_of (map plain_shape table.shapes) s c in
        let used = just.sound.shapes_used at.0 s (sym (slice_get-map plain_shape table.shapes at.0) ∙ at.1) in
        (used.0, (just.same used.0 s).0 used.1);
    all = λ s x.
        let pair = (just.same x.0 s).1 x.1 in
        Contains-at (map plain_shape table.shapes) pair.pair.shape s (slice_get-map plain_shape table.shapes pair.pair.shape ∙ pair.shape_is);
  }

  abbrev named : Pair → ℕ × PlainShape
  named q = (q.node, unwrap_or (shape_at table q.shape) (at_end a_value))

  pairs_few : HasAtMost (length table.pairs) (IsPairOf p d)
  pairs_few = record {
    members = map named table.pairs;
    number = omega (arith, length-map table.pairs named);
    all = λ x h.
        let pair = (just.same x.0 x.1).1 h in
        let here = Contains-map named table.pairs pair.pair (Contains-at table.pairs pair.place pair.pair pair.stands) in
        let node : named pair.pair ≡ (x.0, unwrap_or (shape_at table pair.pair.shape) (at_end a_value)) =
        ap (λ n. (n, unwrap_or (shape_at table pair.pair.shape) (at_end a_value))) pair.node_is in
        let shape : (x.0, unwrap_or (shape_at table pair.pair.shape) (at_end a_value)) ≡ x = ap (λ (o : Option PlainShape). (x.0, unwrap_or o (at_end a_value))) pair.shape_is in
        subst (λ y. Contains (map named table.pairs) y) (node ∙ shape) here;
  }

  -- it keeps the limits, so it isn't refused
  not_refused : IsAccepted p d → KeepsLimits p table → (why : BuildError) → IsRefused p d why → ⊥
  not_refused accepted limits (Wrong node) h = let clash : None ≡ Some node = sym accepted ∙ h in cc
  not_refused accepted limits TooManyShapes h = too_many 256 (IsShapeOf p d) (at_most (length table.shapes) 256 (IsShapeOf p d) shapes_counted limits.shapes) h.1
  not_refused accepted limits TooManyEntries h =
      too_many 65536 (IsPairOf p d) (record { members = pairs_few.members; number = (let few = pairs_few.number in let le = limits.pairs in omega arith); all = pairs_few.all }) h.2
  not_refused accepted limits TablesTooLarge h =
      let words = h.1 in
      let below = counted_below words.shapes (length table.shapes) (IsShapeOf p d) words.counted shapes_counted in
      let above = counted_below (length table.shapes) words.shapes (IsShapeOf p d) shapes_counted words.counted in
      let same : words.shapes ≡ length table.shapes = omega arith in
      let large = words.large in
      let few = limits.words in
      let both = ap (table_words p) same in
      omega (arith, large, few, both)
  not_refused accepted limits OutOfMemory h = h

-- ---- one cause

module _ (p : Tree) (d : PlainDerivation) where
  stops_once : {A : Type 0} (node : ℕ) → refusal (conclusion_of p d) ≡ Some node → IsAccepted p d → A
  stops_once node stops accepted = let clash : None ≡ Some node = sym accepted ∙ stops in absurd (cc)

  few_of_words : PassesWords p d → HasAtMost 256 (IsShapeOf p d)
  few_of_words words = at_most words.shapes 256 (IsShapeOf p d) words.counted words.few

  refused_once : (why other : BuildError) → IsRefused p d why → IsRefused p d other → why ≡ other
  refused_once (Wrong node) (Wrong other) h k = ap (λ n. Wrong n) (same_Some node other (sym h ∙ k))
  refused_once (Wrong node) TooManyShapes h k = stops_once node h k.0
  refused_once (Wrong node) TooManyEntries h k = stops_once node h k.0
  refused_once (Wrong node) TablesTooLarge h k = stops_once node h k.0
  refused_once (Wrong node) OutOfMemory h k = absurd k
  refused_once TooManyShapes (Wrong node) h k = stops_once node k h.0
  refused_once TooManyShapes TooManyShapes h k = refl
  refused_once TooManyShapes TooManyEntries h k = absurd (too_many 256 (IsShapeOf p d) k.1 h.1)
  refused_once TooManyShapes TablesTooLarge h k = absurd (too_many 256 (IsShapeOf p d) (few_of_words k.1) h.1)
  refused_once TooManyShapes OutOfMemory h k = absurd k
  refused_once TooManyEntries (Wrong node) h k = stops_once node k h.0
  refused_once TooManyEntries TooManyShapes h k = absurd (too_many 256 (IsShapeOf p d) h.1 k.1)
  refused_once TooManyEntries TooManyEntries h k = refl
  refused_once TooManyEntries TablesTooLarge h k = absurd (too_many 65536 (IsPairOf p d) k.2 h.2)
  refused_once TooManyEntries OutOfMemory h k = absurd k
  refused_once TablesTooLarge (Wrong node) h k = stops_once node k h.0
  refused_once TablesTooLarge TooManyShapes h k = absurd (too_many 256 (IsShapeOf p d) (few_of_words h.1) k.1)
  refused_once TablesTooLarge TooManyEntries h k = absurd (too_many 65536 (IsPairOf p d) h.2 k.2)
  refused_once TablesTooLarge TablesTooLarge h k = refl
  refused_once TablesTooLarge OutOfMemory h k = absurd k
  refused_once OutOfMemory other h k = absurd h

  -- ---- the errors of judging and of shaping

  pub judging_refuses : (error : DeriveError) → IsVerdict (Err error) (refusal (conclusion_of p d)) → (of_judging error ≡ OutOfMemory) ⊎ IsRefused p d (of_judging error)
  judging_refuses (judging.Wrong node) is = inr is
  judging_refuses judging.OutOfMemory is = inl refl

  pub shaping_refuses : (error : ShapeError) → IsAccepted p d → IsShaping (Err error) p d → (of_shaping error ≡ OutOfMemory) ⊎ IsRefused p d (of_shaping error)
  shaping_refuses shaping.TooManyShapes accepted is = inr (accepted, is)
  shaping_refuses shaping.TooManyEntries accepted is = inr (accepted, is.0, is.1)
  shaping_refuses shaping.TablesTooLarge accepted is = inr (accepted, is.0, is.1)
  shaping_refuses shaping.OutOfMemory accepted is = inl refl

  -- an error is the cause, or want of memory
  pub exact_error : {A : Type 0} (error : BuildError) (result : Result A BuildError) → result ≡ Err error → (error ≡ OutOfMemory) ⊎ IsRefused p d error
      → (why : BuildError) → IsRefused p d why → (result ≡ Err why) ⊎ (result ≡ Err OutOfMemory)
  exact_error error result is (inl memory) why h = inr (is ∙ ap (λ (e : BuildError). Err e) memory)
  exact_error error result is (inr refused) why h = inl (is ∙ ap (λ (e : BuildError). Err e) (refused_once error why refused h))

-- what an error was made into
pub given_error : {A : Type 0} (result : Result A BuildError) (error : BuildError) → IsErrAnd result (λ e. e ≡ error) → result ≡ Err error
given_error (Ok x) error h = absurd h
given_error (Err e) error h = ap (λ (y : BuildError). Err y) h

-- an image is made only where nothing is refused
pub exact_image : {A : Type 0} (p : Tree) (d : PlainDerivation) (table : ShapeTable) (result : Result A BuildError) → IsAccepted p d → IsShaping (Ok table) p d
    → (why : BuildError) → IsRefused p d why → (result ≡ Err why) ⊎ (result ≡ Err OutOfMemory)
exact_image p d table result accepted is why h = absurd (not_refused p d table is.0 accepted is.1 why h)
