use Rattle.std.proofs.Common.{refl, sym, subst}
use Rattle.fy_base.specs.Outside.{Bytes}
use Rattle.fy_image.specs.Form.{IsSpelled}
use Rattle.fy_image.specs.declared.version.Version.TheVariants.{Two}
use Rattle.fy_world.proofs.Counting.{called_same}
use Rattle.fy_world.proofs.Keeping.{kept_such}
use Rattle.fy_world.proofs.images.keep_image.Goals as goal

pub returns-in-Ok-clause-keeps : goal.returns-in-Ok-clause-keeps
returns-in-Ok-clause-keeps g c =
    kept_such c.as_slice.result.now (IsSpelled Two c.args.image.now) c.args.name.now _ _ c.keep_bytes.result
    (subst (λ (bytes : Bytes). IsSpelled Two c.args.image.now bytes) (sym c.as_slice.ensures.value) c.in-Ok.ensures.version_2) c.keep_bytes.ensures.keeps

pub returns-in-Err-clause-called : goal.returns-in-Err-clause-called
returns-in-Err-clause-called g c = called_same 0 1 _ _ refl
