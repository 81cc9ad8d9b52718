use Rattle.std.proofs.Common.{◌≡◌, drop, map, []}
use Rattle.fy_types.specs.Names.{texts_of, with_names}
use Rattle.fy_types.proofs.names.set_of.Given as goal

-- the texts so far with those that are left give all
abbrev pub invariant-loop-item : goal.invariant-loop-item
invariant-loop-item l = with_names (texts_of l.texts.keys) (map (λ r. r.now) (drop l.item-index l.items)) ≡ with_names [] (map (λ r. r.now) l.items)
