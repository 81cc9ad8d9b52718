-- One more part, or alternative, of which something is found.
use Rattle.std.proofs.Common.{List, [], ◌∷◌, ◌++◌}
use Rattle.fy_types.specs.Types.{PlainType}
use Rattle.fy_types.specs.Paths.{PlainPaths, paths}
use Rattle.fy_types.specs.Limits.{IsWithinLimits}
use Rattle.fy_types.specs.Reading.{types_from}
use Rattle.fy_phrase.specs.Tree.{Tree}
use Rattle.fy_phrase.specs.Reads.{trees_from}
use Rattle.fy_least.specs.declared.found.Found.{Found}
use Rattle.fy_least.specs.Many.{AreFound, no_parts, and_part, AreFoundUnder, no_alternatives, and_alternative}
use Rattle.fy_least.specs.Visited.{IsFound}

pub found-push : (G : List PlainPaths) (ps : List Tree) (fs : List Found) (p : Tree) (f : Found) → AreFound G (trees_from ps) fs → IsFound G p f →
    AreFound G (trees_from (ps ++ p ∷ [])) (fs ++ f ∷ [])
found-push G [] [] p f no_parts h = and_part h no_parts
found-push G [] (g ∷ fs) p f k h = elim k [ ]
found-push G (q ∷ ps) [] p f k h = elim k [ ]
found-push G (q ∷ ps) (g ∷ fs) p f (and_part k r) h = and_part k (found-push G ps fs p f r h)

pub under-push : (G : List PlainPaths) (b : Tree) (As : List PlainType) (fs : List Found) (A : PlainType) (f : Found) →
    AreFoundUnder G b (types_from As) fs → IsWithinLimits (paths A) → IsFound (paths A ∷ G) b f →
    AreFoundUnder G b (types_from (As ++ A ∷ [])) (fs ++ f ∷ [])
under-push G b [] [] A f no_alternatives w h = and_alternative w h no_alternatives
under-push G b [] (g ∷ fs) A f k w h = elim k [ ]
under-push G b (B ∷ As) [] A f k w h = elim k [ ]
under-push G b (B ∷ As) (g ∷ fs) A f (and_alternative v k r) w h = and_alternative v k (under-push G b As fs A f r w h)
