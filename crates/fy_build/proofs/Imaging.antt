-- The image of the code of a phrase.
use Rattle.std.proofs.Common.{◌≡◌, ℕ, ◌+◌, ◌*◌, ◌≤◌, List, [], ◌∷◌, length, Option, Some, None, refl, ap, ◌∙◌, arith}
use Rattle.std.proofs.lemmas.List.Elements.{All-head, All-tail}
use Rattle.std.proofs.Math.Nat.{mul-le-mul_right}
use Rattle.std.specs.Prelude.{slice_get, is_some, if◌then◌else◌, All}
use Rattle.std.specs.Option.{ForSome, option_map}
use Rattle.fy_phrase.specs.Tree.{Tree}
use Rattle.fy_phrase.specs.declared.shapes.Shape.{Shape}
use Rattle.fy_phrase.specs.declared.shapes.ShapeTable.{ShapeTable}
use Rattle.fy_derive.specs.Derivations.{PlainDerivation}
use Rattle.fy_derive.specs.Shapes.{PlainShape, shape_table, table_words}
use Rattle.fy_derive.specs.ShapeTables.{plain_shape, HasJustPairs}
use Rattle.fy_image.specs.declared.image.Image.{Image}
use Rattle.pe_code.specs.declared.code.PeCode.{PeCode}
use Rattle.pe_code.specs.declared.code.PeItem.{PeItem}
use Rattle.pe_code.specs.Code.{body_of, straight_of}
use Rattle.pe_code.specs.Valid.{IsValid}
use Rattle.pe_right.specs.Entered.{Entering}
use Rattle.pe_right.specs.Constants.{constant}
use Rattle.pe_right.specs.Right.{IsCodeOf}
use Rattle.pe_gen.specs.Sizes.{HasSizesOf}
use Rattle.rv_operators.specs.Laws.{IsDatum}
use Rattle.rv_select.specs.Images.{IsSelectionImage}
use Rattle.rv_flow.specs.Laws.{CodeIsShort}
use Rattle.rv_straight.specs.Laws.{AreInRange}
use Rattle.rv_select.specs.Laws.{value_of, IsSelectable, deepest, SelectionIsShort}
use Rattle.rv_select.specs.Program.{word_code}
use Rattle.rv_select.specs.Sizes.{IsCounted}
use Rattle.fy_build.specs.Building.{HasTableWords}
use Rattle.fy_build.proofs.Refusals.{shapes_counted}

-- ---- code of a phrase can be selected

some_shapes : (shapes : List Shape) (n : ℕ) (s : PlainShape) → option_map plain_shape (slice_get shapes n) ≡ Some s → 1 ≤ length shapes
some_shapes [] n s h = absurd (cc)
some_shapes (x ∷ shapes) n s h = omega arith

-- the program's own entry has a shape
pub has_shapes : (straight : ℕ → Entering) (p : Tree) (table : ShapeTable) (code : PeCode) → IsCodeOf constant straight p table code → 1 ≤ code.shapes
has_shapes straight p table code right =
    let run = right.program in
    let some = some_shapes table.shapes run.0 _ run.1 in
    let all = right.shapes in
    omega arith

pub selectable : (code : PeCode) → 1 ≤ code.shapes → IsValid code → All (λ item. ForSome (value_of item.insn) IsDatum) code.items → All (λ item. ForSome (straight_of item.insn) AreInRange) code.items → IsSelectable code
selectable code some valid values straight =
    let words = valid.words in
    let one : 1 * (4 + length code.thunks) ≤ code.shapes * (4 + length code.thunks) = mul-le-mul_right (4 + length code.thunks) (omega arith) in
    record { valid = valid; thunks = omega arith; values = values; straight = straight }

-- ---- its frames

frame_below : (o : Option ℕ) (depth n : ℕ) → ForSome o (λ body. depth ≤ n) → (if is_some o then depth else 0) ≤ n
frame_below None depth n h = omega arith
frame_below (Some body) depth n h = h body refl

pub deepest_below : (n : ℕ) (is : List PeItem) → All (λ item. ForSome (body_of item.insn) (λ body. item.depth ≤ n)) is → deepest is ≤ n
deepest_below n [] h = omega arith
deepest_below n (i ∷ is) h =
    let P : PeItem → Type 0 = λ item. ForSome (body_of item.insn) (λ body. item.depth ≤ n) in
    let here = frame_below (body_of i.insn) i.depth n (All-head P i is h) in
    let rest = deepest_below n is (All-tail P i is h) in
    omega arith

-- ---- its table

pub has_table_words : (p : Tree) (d : PlainDerivation) (table : ShapeTable) (code : PeCode) (image : Image) → code.shapes ≡ length table.shapes → HasSizesOf p code → IsCounted code → IsSelectionImage code image
    → HasJustPairs table (shape_table p d) → HasTableWords p d (length image.table)
has_table_words p d table code image shapes sizes counted is just =
    let made = ap length is.image_of.table_is ∙ counted.table in
    let words : code.shapes * (4 + length code.thunks) ≡ table_words p (length table.shapes) =
    ap (λ n. n * (4 + length code.thunks)) shapes ∙ ap (λ n. length table.shapes * (4 + n)) sizes.thunk_nodes in
    record { shapes = length table.shapes; counted = shapes_counted p d table just; words_are = made ∙ words }

-- ---- its words

pub few_words : (table : ShapeTable) (code : PeCode) (image : Image) → SelectionIsShort → CodeIsShort → length code.items ≤ length table.pairs
    → IsSelectionImage code image → length image.code ≤ 60 * length table.pairs + 4096
few_words table code image short brief few is =
    let its = is.image_of in
    let words = (short code is.selectable).words in
    let most = brief (word_code code) its.assembled its.assembly in
    let made = ap length its.words_are in
    omega arith
