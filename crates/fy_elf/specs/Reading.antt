-- Reading field by field: what each part of the reader tells of the first refusal.
use Rattle.std.specs.Prelude.{◌≡◌, ◌+◌, ◌≤◌, ◌++◌, length, None}
use Rattle.std.specs.declared.option.Option.{Option}
use Rattle.std.specs.declared.result.Result.{Result}
use Rattle.std.specs.declared.result.Result.TheVariants.{Ok, Err}
use Rattle.fy_base.specs.Outside.{Bytes}
use Rattle.fy_elf.specs.declared.error.ElfError.{ElfError}
use Rattle.fy_elf.specs.declared.headers.Sizes.{Sizes}
use Rattle.fy_image.specs.declared.image.Image.{Image}
use Rattle.fy_image.specs.Form.{FitsFields}
use Rattle.fy_elf.specs.Elf.{contents_of, sizes_of}
use Rattle.fy_elf.specs.Refusals.{Rest, Judge, IsCause}

-- these bytes stood first in what was left, and the rest is left now
pub record IsTaken (bytes : Bytes) (before now : Rest) : Type 0 where
  pub bytes_are : before.bytes ≡ bytes ++ now.bytes
  pub offset_is : now.offset ≡ before.offset + length bytes

-- what a result tells of the refusal of fields that were taken
abbrev pub Judges : {T : Type 0} → Result T ElfError → (Judge → Judge) → Rest → Rest → Type 0
Judges (Ok value) fields before now = (next : Judge) → fields next before ≡ next now
Judges (Err error) fields before now = (next : Judge) → IsCause error (fields next before)

-- the same of fields whose value tells what is behind them
abbrev pub JudgesBy : {T : Type 0} → Result T ElfError → ((T → Judge) → Judge) → Rest → Rest → Type 0
JudgesBy {T = T} (Ok value) fields before now = (next : T → Judge) → fields next before ≡ next value now
JudgesBy {T = T} (Err error) fields before now = (next : T → Judge) → IsCause error (fields next before)

-- what a result tells of the refusal of all that was read
abbrev pub IsJudged : {T : Type 0} → Result T ElfError → Option ElfError → Type 0
IsJudged (Ok value) refusal = refusal ≡ None
IsJudged (Err error) refusal = IsCause error refusal

-- each in its range
pub record SizesFit (sizes : Sizes) : Type 0 where
  pub code_least : 1 ≤ sizes.code_words
  pub code_most : sizes.code_words ≤ 4194304
  pub table_most : sizes.table_words ≤ 1048576
  pub stack_least : 1024 ≤ sizes.stack_words
  pub stack_most : sizes.stack_words ≤ 67108864
  pub places_most : sizes.places ≤ 524288

-- what was left behind the headers is what stands there for the image, whose parts have these sizes
pub record IsContents (sizes : Sizes) (image : Image) (rest : Rest) : Type 0 where
  pub fits : FitsFields image
  pub sizes_are : sizes ≡ sizes_of image
  pub spelled : rest.bytes ≡ contents_of image
