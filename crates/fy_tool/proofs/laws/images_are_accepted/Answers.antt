use Rattle.std.proofs.Common.{◌≡◌, sym, ◌∙◌, Some, None}
use Rattle.fy_image.proofs.Unique.{image_accepted}
use Rattle.fy_tool.proofs.laws.images_are_accepted.Goals as goal

pub returns : goal.returns
returns c = λ image bytes error is refused. let clash : None ≡ Some error = sym (image_accepted image bytes is) ∙ refused in cc
