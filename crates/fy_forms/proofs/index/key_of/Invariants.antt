use Rattle.std.proofs.Common.{◌≡◌, map, drop}
use Rattle.fy_forms.specs.Numbers.{key_from, key_of}
use Rattle.fy_types.specs.Paths.{end}
use Rattle.fy_types.specs.Reading.{plain_elem, plain_path, fronted}
use Rattle.fy_forms.proofs.index.key_of.Given as goal

-- the key so far and what is left give the key
abbrev pub invariant-loop-elem : goal.invariant-loop-elem
invariant-loop-elem l = key_from l.key (fronted (map plain_elem (drop l.elem-index l.elem-items)) (end l.path.end)) ≡ key_of (plain_path l.path)
