use Rattle.std.proofs.Common.{◌≡◌, ◌+◌, ◌≤◌, length, drop, map}
use Rattle.std.specs.Option.{option_map}
use Rattle.fy_syntax.specs.Reading.{def_of, defs_from}
use Rattle.fy_expand.specs.Frames.{is_member}
use Rattle.fy_expand.specs.Scope.{with_defs}
use Rattle.fy_expand.proofs.frame.find_def.Given as goal

abbrev pub invariant-loop-def : goal.invariant-loop-def
invariant-loop-def l = record {
  reached : l.depth + length l.defs ≤ 1024 → l.at ≡ l.depth + l.def-index;
  exact : l.depth + length l.defs ≤ 1024 →
      with_defs (l.depth + l.def-index) (defs_from (map def_of (drop l.def-index l.defs))) (λ _. l.older) l.name ≡ with_defs l.depth (defs_from (map def_of l.defs)) (λ _. l.older) l.name;
  kind : option_map is_member (with_defs 0 (defs_from (map def_of (drop l.def-index l.defs))) (λ _. l.older) l.name)
      ≡ option_map is_member (with_defs 0 (defs_from (map def_of l.defs)) (λ _. l.older) l.name);
}
