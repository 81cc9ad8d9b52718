-- The ranges of an image's fields.
use Rattle.std.specs.Prelude.{◌≤◌, length}
use Rattle.fy_image.specs.declared.image.Image.{Image}

-- an image that keeps every range
pub record IsImage (image : Image) : Type 0 where
  pub stack_least : 1024 ≤ image.stack_words
  pub stack_most : image.stack_words ≤ 67108864
  pub code_least : 1 ≤ length image.code
  pub code_most : length image.code ≤ 4194304
  pub table_most : length image.table ≤ 1048576
  pub places_most : length image.places ≤ 524288
