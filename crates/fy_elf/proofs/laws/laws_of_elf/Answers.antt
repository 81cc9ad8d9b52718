use Rattle.std.proofs.Common.{◌∙◌, sym}
use Rattle.fy_elf.proofs.Loading.{image_loads}
use Rattle.fy_elf.proofs.Unique.{image_same, image_accepted}
use Rattle.fy_elf.proofs.laws.laws_of_elf.Goals as goal

pub returns : goal.returns
returns c = record {
  one_spelling = λ image a b ia ib. ia.spelled ∙ sym ib.spelled;
  one_image = image_same;
  accepted = image_accepted;
  loads = image_loads;
}
