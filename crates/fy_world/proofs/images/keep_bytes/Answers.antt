use Rattle.std.proofs.Common.{◌≡◌, refl, ap, inr, Err}
use Rattle.fy_base.specs.Outside.{Bytes}
use Rattle.fy_world.proofs.Counting.{called_keep}
use Rattle.fy_world.proofs.Keeping.{was_kept, keeps_failed}
use Rattle.fy_world.proofs.images.keep_bytes.Goals as goal

pub returns-in-Ok-clause-keeps : goal.returns-in-Ok-clause-keeps
returns-in-Ok-clause-keeps g c = inr (was_kept (λ (held : Bytes). held ≡ c.args.bytes.now) c.args.name.now c.args.bytes.now _ _ 0 refl c.in-Ok.ensures.kept refl)

pub returns-in-Err-clause-keeps : goal.returns-in-Err-clause-keeps
returns-in-Err-clause-keeps g c =
    keeps_failed (λ (held : Bytes). held ≡ c.args.bytes.now) c.args.name.now c.args.bytes.now _ _ c.in-Err.stop refl c.in-Err.ensures.rest (λ e. c.in-Err.ensures.memory (ap (λ s. Err s) e)) (λ e. c.in-Err.ensures.unknown (ap (λ s. Err s) e)) c.in-Err.ensures.stop

pub returns-in-Ok-clause-called : goal.returns-in-Ok-clause-called
returns-in-Ok-clause-called g c = called_keep _ _ c.in-Ok.ensures.called

pub returns-in-Err-clause-called : goal.returns-in-Err-clause-called
returns-in-Err-clause-called g c = called_keep _ _ c.in-Err.ensures.called
