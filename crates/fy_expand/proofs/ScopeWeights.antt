-- How much there is to build of what names of types stand for.
use Rattle.std.proofs.Common.{ℕ, zero, suc, ◌+◌}
use Rattle.fy_syntax.specs.declared.types.SurfaceTy.{size-SurfaceTy}
use Rattle.fy_expand.specs.declared.frame.Frame.{Frame, fold-Frame}
use Rattle.fy_expand.specs.declared.frame.Frame.TheOpen.{Frame-F}

abbrev weight_step : Frame-F ℕ → ℕ
weight_step Frame-F.Outermost = zero
weight_step (Frame-F.Name x outer) = suc outer.now
weight_step (Frame-F.Defs defs outer) = suc outer.now
weight_step (Frame-F.Members decls outer) = suc outer.now
weight_step (Frame-F.Hidden n outer) = suc outer.now
weight_step (Frame-F.Type x a size outer) = suc (suc (size-SurfaceTy a.now + outer.now))

-- one for each frame, and one and the size for each type in it
abbrev pub frame_weight : Frame → ℕ
frame_weight = fold-Frame ℕ weight_step
