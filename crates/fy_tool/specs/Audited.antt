-- What `audit` did with an image.
use Rattle.std.specs.Prelude.{ℕ, [], ◌∷◌, ◌⊎◌}
use Rattle.std.specs.declared.result.Result.{Result}
use Rattle.fy_image.specs.declared.image.Image.{Image}
use Rattle.rv_guard.specs.Guarded.{IsGuarded, IsUnguardedAt}
use Rattle.fy_world.specs.World.{Contents}
use Rattle.fy_world.specs.Runs.{told}
use Rattle.fy_world.specs.Did.{Did}
use Rattle.fy_world.specs.Working.{IsUnbegun}
use Rattle.fy_world.specs.declared.note.Note.TheVariants as note
use Rattle.fy_world.specs.declared.world.Stop.{Stop}
use Rattle.fy_tool.specs.Due.{audited}

-- the image is guarded, and that was written, or a part of it
pub record WasPassed (image : Image) (before now : Contents) (result : Result ℕ Stop) : Type 0 where
  pub guarded : IsGuarded image
  pub did : Did audited before now result

-- the image isn't guarded, and the word at which it isn't was told, or a part of that
pub record WasRefused (image : Image) (before now : Contents) (result : Result ℕ Stop) : Type 0 where
  pub word : ℕ
  pub unguarded : IsUnguardedAt image word
  pub did : Did (told 12 (note.Audit word ∷ [])) before now result

-- an image was judged, or memory was wanting before anything was done
abbrev pub Audits : Image → Contents → Contents → Result ℕ Stop → Type 0
Audits image before now result = IsUnbegun before now result ⊎ WasPassed image before now result ⊎ WasRefused image before now result
