-- The law of the headline: the image of the code of a phrase runs as the copy rule.
use Rattle.std.specs.Prelude.{◌≤◌, Option}
use Rattle.fy_base.specs.declared.data.Datum.{Datum}
use Rattle.fy_phrase.specs.Tree.{Tree}
use Rattle.fy_phrase.specs.Sizes.{depth}
use Rattle.fy_image.specs.declared.image.Image.{Image}
use Rattle.pe_code.specs.declared.code.PeCode.{PeCode}
use Rattle.pe_right.specs.Follows.{FollowsCopyRule}
use Rattle.rv_select.specs.Laws.{deepest}
use Rattle.rv_select.specs.Images.{IsSelectionImage}
use Rattle.fy_build.specs.Headline.{RunsAsCopyRule}

-- an image of code that follows the copy rule, whatever constants it hands as data, and makes its frames no deeper than the phrase's binders, runs as the copy rule
abbrev pub CodeRunsAsCopyRule : Type 0
CodeRunsAsCopyRule =
    (handed : Tree → Option Datum) (p : Tree) (code : PeCode) (image : Image) → FollowsCopyRule handed p code → deepest code.items ≤ depth p → IsSelectionImage code image → RunsAsCopyRule p image
