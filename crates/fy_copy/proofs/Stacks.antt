-- Contexts and rows, the newest first.
use Rattle.std.proofs.Common.{◌≡◌, List, [], ◌∷◌, ◌++◌, refl}
use Rattle.fy_phrase.specs.Contexts.{CopyContext, Pushed}
use Rattle.fy_phrase.specs.Copy as copy
use Rattle.fy_copy.specs.Shown.{pushed_of, row_of, contexts_onto, rows_onto}
use Rattle.fy_copy.specs.declared.context.Frame.{Frame}
use Rattle.fy_copy.specs.declared.context.Row.{Row}

pub contexts_onto-push : (cs : List (Pushed CopyContext)) (fs : List Frame) (f : Frame) → contexts_onto cs (fs ++ f ∷ []) ≡ pushed_of f ∷ contexts_onto cs fs
contexts_onto-push cs [] f = refl
contexts_onto-push cs (g ∷ fs) f = contexts_onto-push (pushed_of g ∷ cs) fs f

pub rows_onto-push : (rs : List copy.Row) (more : List Row) (r : Row) → rows_onto rs (more ++ r ∷ []) ≡ row_of r ∷ rows_onto rs more
rows_onto-push rs [] r = refl
rows_onto-push rs (s ∷ more) r = rows_onto-push (row_of s ∷ rs) more r

pub ruleset stacks = (contexts_onto-push, rows_onto-push)
