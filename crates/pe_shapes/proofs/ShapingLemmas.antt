-- The answers of the whole.
use Rattle.std.proofs.Common.{ℕ, ◌+◌, ◌*◌, ◌^◌, ◌<◌, ◌≤◌, ◌≡◌, ◌⊎◌, length, None, Err, refl, sym, ap, ◌∙◌, subst, arith}
use Rattle.std.specs.List.{Contains}
use Rattle.std.proofs.Math.Nat.{mul-le-mul_left}
use Rattle.fy_types.specs.Types.{PlainType}
use Rattle.fy_phrase.specs.declared.shapes.ShapeTable.{ShapeTable}
use Rattle.fy_phrase.specs.Tree.{Tree}
use Rattle.fy_phrase.specs.Sizes.{nodes, greatest_u32}
use Rattle.fy_derive.specs.Derivations.{PlainDerivation}
use Rattle.fy_derive.specs.Judging.{Judged, concludes, stops, refusal}
use Rattle.fy_derive.specs.Shapes.{thunks, shape_table, table_words}
use Rattle.pe_shapes.specs.declared.error.ShapeError.{ShapeError}
use Rattle.pe_shapes.specs.declared.error.ShapeError.TheVariants.{TooManyShapes, TooManyEntries, TablesTooLarge, OutOfMemory}
use Rattle.pe_shapes.specs.declared.found.Found.{Found}
use Rattle.pe_shapes.specs.Finding.{used_shapes, IsEmpty, IsWalkStop}
use Rattle.pe_shapes.specs.Placing.{IsTableFound}
use Rattle.pe_shapes.specs.Shaping.{IsShapeOf, IsShaping, KeepsLimits}
use Rattle.pe_shapes.proofs.Members.{HasMany-weaker}
use Rattle.pe_shapes.proofs.TableMade.{IsWhole, stopped, shapes-counted, shapes-few, pairs-many, pairs-few}
use Rattle.pe_shapes.proofs.ThunkLemmas.{thunks-exact}

-- what is refused at no node concludes something
pub accepted : (j : Judged) → refusal j ≡ None → (A : PlainType) × (j ≡ concludes A)
accepted (concludes A) e = (A, refl)
accepted (stops n) e = absurd cc

pub walk-stop : (x : ShapeError) (p : Tree) (d : PlainDerivation) (f : Found) → IsEmpty f → IsWalkStop x f (shape_table p d) → IsShaping (Err x) p d
walk-stop TooManyShapes p d f none m =
    HasMany-weaker (λ s. Contains (used_shapes f) s ⊎ IsShapeOf p d s) (IsShapeOf p d) (λ s y. stopped p d f none s y) m
walk-stop TooManyEntries p d f none m = absurd m
walk-stop TablesTooLarge p d f none m = absurd m
walk-stop OutOfMemory p d f none m = tt

pub small_product : (a b : ℕ) → a ≤ 256 → b < 2 ^ 32 → a * (4 + b) < 2 ^ 64
small_product a b h k =
    let l : 4 + b ≤ 4294967300 = omega arith in
    omega (arith, mul-le-mul_left a l)

-- the words as they are counted
pub words-exact : (p : Tree) (count words : ℕ) → nodes p ≤ 65536 → words ≡ count * (4 + greatest_u32 (thunks p)) → words ≡ table_words p count
words-exact p count words h e = e ∙ ap (λ n. count * (4 + n)) (thunks-exact p h)

pub entries-stop : (p : Tree) (d : PlainDerivation) (f : Found) → IsWhole p d f → 65536 < length f.pairs.keys → IsShaping (Err TooManyEntries) p d
entries-stop p d f w l = (shapes-few p d f w, pairs-many p d f w (omega arith))

pub words-stop : (p : Tree) (d : PlainDerivation) (f : Found) (words : ℕ) → IsWhole p d f → length f.pairs.keys ≤ 65536 → words ≡ table_words p (length f.used.keys) →
    1048576 < words → IsShaping (Err TablesTooLarge) p d
words-stop p d f words w l e many = (
  record {
    shapes = length f.used.keys;
    counted = shapes-counted p d f w;
    few = w.sound.few;
    large = omega (arith, e);
  },
  pairs-few p d f w l,
)

pub limits-kept : (p : Tree) (d : PlainDerivation) (f : Found) (words : ℕ) (t : ShapeTable) → IsWhole p d f → length f.pairs.keys ≤ 65536 →
    words ≡ table_words p (length f.used.keys) → words ≤ 1048576 → IsTableFound f t → KeepsLimits p t
limits-kept p d f words t w l e few h = record {
  shapes = omega (arith, h.number, w.sound.few);
  pairs = omega (arith, h.few, l);
  words = subst (λ n. table_words p n ≤ 1048576) (sym h.number) (omega (arith, e));
}
