-- Derivations of a phrase with the same demand shapes keep and pass the same limits.
use Rattle.std.proofs.Common.{◌≡◌, ℕ, ◌+◌, ◌≤◌, ◌∙◌, refl, sym, ap, arith, Some}
use Rattle.std.specs.Prelude.{◌↔◌, Err}
use Rattle.std.proofs.lemmas.Nat.{mul-le}
use Rattle.fy_phrase.specs.Tree.{Tree}
use Rattle.fy_derive.specs.Derivations.{PlainDerivation}
use Rattle.fy_derive.specs.Shapes.{PlainShape, shape_table, table_words, thunks}
use Rattle.pe_shapes.specs.Counts.{HasMany, HasAtMost, IsCount}
use Rattle.pe_shapes.specs.Shaping.{most_shapes, most_pairs, IsShapeOf, IsPairOf, IsShaping}
use Rattle.pe_shapes.specs.declared.error.ShapeError.{ShapeError}
use Rattle.pe_shapes.specs.declared.error.ShapeError.TheVariants as shaping
use Rattle.fy_front.specs.declared.refusal.Refusal.{Refusal}
use Rattle.fy_front.specs.Checked.{IsInUse, shapes_refusal}
use Rattle.fy_front.proofs.Checking.{many_more}
use Rattle.fy_tool.proofs.Pigeons.{many_few, counted_few, many_counted, table_shapes, table_pairs}

-- the words of a table grow with its shapes
pub words_grow : (p : Tree) (m n : ℕ) → m ≤ n → table_words p m ≤ table_words p n
words_grow p m n le = mul-le m (4 + thunks p) n (4 + thunks p) le (omega arith)

few_less : {X : Type 0} (n : ℕ) (F G : X → Type 0) → ((x : X) → G x → F x) → HasAtMost n F → HasAtMost n G
few_less n F G g few = record { members = few.members; number = few.number; all = λ x has. few.all x (g x has) }

count_same : {X : Type 0} (n : ℕ) (F G : X → Type 0) → ((x : X) → F x → G x) → ((x : X) → G x → F x) → IsCount F n → IsCount G n
count_same n F G f g count = record {
  members = count.members;
  number = count.number;
  distinct = count.distinct;
  each = λ x here. f x (count.each x here);
  all = λ x has. count.all x (g x has);
}

-- two derivations with the same pairs pass the same limit
pub shaping_same : (p : Tree) (d e : PlainDerivation) → ((k : ℕ) (s : PlainShape) → shape_table p d k s ↔ shape_table p e k s) → (error : ShapeError) →
    IsShaping (Err error) p d → IsShaping (Err error) p e
shaping_same p d e same shaping.TooManyShapes many =
    many_more (most_shapes + 1) (IsShapeOf p d) (IsShapeOf p e) (λ s has. (has.0, (same has.0 s).0 has.1)) many
shaping_same p d e same shaping.TooManyEntries (few, many) = (
  few_less most_shapes (IsShapeOf p d) (IsShapeOf p e) (λ s has. (has.0, (same has.0 s).1 has.1)) few,
  many_more (most_pairs + 1) (IsPairOf p d) (IsPairOf p e) (λ x has. (same x.0 x.1).0 has) many,
)
shaping_same p d e same shaping.TablesTooLarge (passes, few) = (
  record {
    shapes = passes.shapes;
    counted = count_same passes.shapes (IsShapeOf p d) (IsShapeOf p e) (λ s has. (has.0, (same has.0 s).0 has.1)) (λ s has. (has.0, (same has.0 s).1 has.1))
        passes.counted;
    few = passes.few;
    large = passes.large;
  },
  few_less most_pairs (IsPairOf p d) (IsPairOf p e) (λ x has. (same x.0 x.1).1 has) few,
)
shaping_same p d e same shaping.OutOfMemory shaped = tt

told_alike : (error other : ShapeError) (why told : Refusal) → error ≡ other → shapes_refusal error ≡ Some why → shapes_refusal other ≡ Some told → why ≡ told
told_alike error other why told same is is' = let e : Some why ≡ Some told = sym is ∙ (ap shapes_refusal same ∙ is') in cc

many_or_few : (p : Tree) (d : PlainDerivation) → HasMany (most_shapes + 1) (IsShapeOf p d) → HasAtMost most_shapes (IsShapeOf p d) → ⊥
many_or_few p d many few = let le = many_few (most_shapes + 1) most_shapes (IsShapeOf p d) many few in omega arith

many_or_counted : (p : Tree) (d : PlainDerivation) (n : ℕ) → HasMany (most_shapes + 1) (IsShapeOf p d) → IsCount (IsShapeOf p d) n → n ≤ most_shapes → ⊥
many_or_counted p d n many count few = let le = many_counted (most_shapes + 1) n (IsShapeOf p d) many count in omega arith

pairs_or_few : (p : Tree) (d : PlainDerivation) → HasMany (most_pairs + 1) (IsPairOf p d) → HasAtMost most_pairs (IsPairOf p d) → ⊥
pairs_or_few p d many few = let le = many_few (most_pairs + 1) most_pairs (IsPairOf p d) many few in omega arith

-- the shapes of a derivation pass one limit
pub one_shaping : (p : Tree) (d : PlainDerivation) (error other : ShapeError) (why told : Refusal) → IsShaping (Err error) p d → IsShaping (Err other) p d →
    shapes_refusal error ≡ Some why → shapes_refusal other ≡ Some told → why ≡ told
one_shaping p d shaping.TooManyShapes shaping.TooManyShapes why told many many' is is' = told_alike shaping.TooManyShapes shaping.TooManyShapes why told refl is is'
one_shaping p d shaping.TooManyShapes shaping.TooManyEntries why told many (few, pairs) is is' = absurd (many_or_few p d many few)
one_shaping p d shaping.TooManyShapes shaping.TablesTooLarge why told many (passes, few) is is' =
    absurd (many_or_counted p d passes.shapes many passes.counted passes.few)
one_shaping p d shaping.TooManyEntries shaping.TooManyShapes why told (few, pairs) many is is' = absurd (many_or_few p d many few)
one_shaping p d shaping.TooManyEntries shaping.TooManyEntries why told (few, pairs) (few', pairs') is is' = told_alike shaping.TooManyEntries shaping.TooManyEntries why told refl is is'
one_shaping p d shaping.TooManyEntries shaping.TablesTooLarge why told (few, pairs) (passes, fits) is is' = absurd (pairs_or_few p d pairs fits)
one_shaping p d shaping.TablesTooLarge shaping.TooManyShapes why told (passes, few) many is is' =
    absurd (many_or_counted p d passes.shapes many passes.counted passes.few)
one_shaping p d shaping.TablesTooLarge shaping.TooManyEntries why told (passes, fits) (few, pairs) is is' = absurd (pairs_or_few p d pairs fits)
one_shaping p d shaping.TablesTooLarge shaping.TablesTooLarge why told (passes, fits) (passes', fits') is is' = told_alike shaping.TablesTooLarge shaping.TablesTooLarge why told refl is is'
one_shaping p d shaping.OutOfMemory other why told shaped shaped' is is' = absurd cc
one_shaping p d error shaping.OutOfMemory why told shaped shaped' is is' = absurd cc

-- no limit on shapes is passed where a table keeps them
pub shapes_kept : (p : Tree) (d : PlainDerivation) (error : ShapeError) (why : Refusal) → IsInUse p d → IsShaping (Err error) p d → shapes_refusal error ≡ Some why → ⊥
shapes_kept p d shaping.TooManyShapes why used many told =
    let le = many_few (most_shapes + 1) _ (IsShapeOf p d) many (table_shapes p d used.table used.just) in
    let few = used.limits.shapes in
    omega arith
shapes_kept p d shaping.TooManyEntries why used (few, many) told =
    let le = many_few (most_pairs + 1) _ (IsPairOf p d) many (table_pairs p d used.table used.just) in
    let few_pairs = used.limits.pairs in
    omega arith
shapes_kept p d shaping.TablesTooLarge why used (passes, few) told =
    let le = counted_few passes.shapes _ (IsShapeOf p d) passes.counted (table_shapes p d used.table used.just) in
    let grown = words_grow p passes.shapes _ le in
    let large = passes.large in
    let words = used.limits.words in
    omega arith
shapes_kept p d shaping.OutOfMemory why used shaping told = absurd cc
