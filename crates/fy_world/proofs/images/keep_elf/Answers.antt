use Rattle.std.proofs.Common.{refl, sym, subst}
use Rattle.fy_world.specs.Working.{IsLoaded}
use Rattle.fy_world.proofs.Counting.{called_same}
use Rattle.fy_world.proofs.Keeping.{kept_such}
use Rattle.fy_world.proofs.images.keep_elf.Goals as goal

pub returns-in-Ok-clause-keeps : goal.returns-in-Ok-clause-keeps
returns-in-Ok-clause-keeps g c =
    kept_such c.as_slice.result.now (IsLoaded c.args.image.now) c.args.name.now _ _ c.keep_bytes.result
    (subst (IsLoaded c.args.image.now) (sym c.as_slice.ensures.value) (record { elf = c.in-Ok.ensures.elf; loads = c.in-Ok.ensures.loads })) c.keep_bytes.ensures.keeps

pub returns-in-Err-clause-called : goal.returns-in-Err-clause-called
returns-in-Err-clause-called g c = called_same 0 1 _ _ refl
