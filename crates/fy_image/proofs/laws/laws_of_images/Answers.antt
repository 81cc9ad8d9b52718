use Rattle.std.proofs.Common.{◌∙◌, sym}
use Rattle.fy_image.specs.declared.version.Version.TheVariants.{Two}
use Rattle.fy_image.proofs.Groups.{is_short_short, grouped_short}
use Rattle.fy_image.proofs.Unique.{image_same, image_accepted}
use Rattle.fy_image.proofs.laws.laws_of_images.Goals as goal

pub returns : goal.returns
returns c = record {
  one_spelling = λ version image a b ia ib. ia.spelled ∙ sym ib.spelled;
  one_image = image_same;
  accepted = image_accepted;
  migrated = λ image other old new was is read. image_same other image new read (record { version = Two; spelled = is });
  short_numbers = λ n some fits. (is_short_short n some fits, grouped_short n some);
}
