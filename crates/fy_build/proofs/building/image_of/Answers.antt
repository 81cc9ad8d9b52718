use Rattle.std.proofs.Common.{List, subst}
use Rattle.std.specs.Prelude.{All}
use Rattle.std.specs.Option.{ForSome}
use Rattle.fy_phrase.specs.Reads.{reads}
use Rattle.fy_phrase.specs.Sizes.{depth}
use Rattle.pe_code.specs.declared.code.PeItem.{PeItem}
use Rattle.pe_right.specs.Constants.{constant}
use Rattle.rv_operators.specs.Laws.{IsDatum}
use Rattle.pe_code.specs.Code.{straight_of}
use Rattle.rv_straight.specs.Laws.{AreInRange}
use Rattle.rv_select.specs.Laws.{value_of}
use Rattle.rv_select.specs.Program.{word_code}
use Rattle.fy_build.proofs.Imaging.{has_shapes, selectable, deepest_below, has_table_words, few_words}
use Rattle.fy_build.proofs.building.image_of.Goals as goal

pub image_of_code-requires-clause-selectable : goal.image_of_code-requires-clause-selectable
image_of_code-requires-clause-selectable c =
    let code = c.in_ok-code.code in
    let is = c.in_ok-code.ensures.right in
    let values = subst (λ (items : List PeItem). All (λ item. ForSome (value_of item.insn) IsDatum) items) c.as_slice.ensures c.read_values.ensures.values in
    let straight = subst (λ (items : List PeItem). All (λ item. ForSome (straight_of item.insn) AreInRange) items) c.as_slice.ensures c.read_values.ensures.straight in
    selectable code (has_shapes is.right.0 (reads c.args.p.now) c.args.table.now code is.right.1) is.valid values straight

pub returns-clause-runs : goal.returns-clause-runs
returns-clause-runs c =
    let p = reads c.args.p.now in
    let code = c.in_ok-code.code in
    let made = c.in_ok-code.ensures in
    c.code_runs_as_copy_rule.ensures constant p code c.in_ok-image.image made.right.follows (deepest_below (depth p) code.items made.sizes.frames) c.in_ok-image.ensures.selection

pub returns-clause-table : goal.returns-clause-table
returns-clause-table c = λ d just.
    let code = c.in_ok-code.code in
    let made = c.in_ok-code.ensures in
    let is = c.in_ok-image.ensures.selection in
    has_table_words (reads c.args.p.now) d c.args.table.now code c.in_ok-image.image made.right.right.1.shapes made.sizes (c.selection_is_counted.ensures code is.selectable) is just

pub returns-clause-selected : goal.returns-clause-selected
returns-clause-selected c =
    let code = c.in_ok-code.code in
    let made = c.in_ok-code.ensures in
    let is = c.in_ok-image.ensures.selection in
    record {
      code = made.right.direct;
      right = made.right.its.right;
      laid_out = made.right.its.laid_out;
      hands_no_constant = made.right.its.hands_no_constant;
      straight = code;
      straightened = made.right.straightened;
      selection = is;
      short = few_words c.args.table.now code c.in_ok-image.image c.selection_is_short.ensures c.code_is_short.ensures made.few is;
    }

pub returns-clause-ranges : goal.returns-clause-ranges
returns-clause-ranges c = c.in_ok-image.ensures.selection.image_of.ranges

pub returns-clause-guarded : goal.returns-clause-guarded
returns-clause-guarded c = c.images_are_guarded.ensures (word_code c.in_ok-code.code) c.in_ok-image.image c.in_ok-image.ensures.selection.image_of
