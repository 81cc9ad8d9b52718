use Rattle.std.proofs.Common.{◌≡◌, drop}
use Rattle.fy_tree.specs.Lines.{is_one_of}
use Rattle.fy_tree.proofs.escape.is_one_of.Given as goal

-- what is left decides
abbrev pub invariant-loop-sign : goal.invariant-loop-sign
invariant-loop-sign l = is_one_of (drop l.sign-index l.signs) l.byte ≡ is_one_of l.signs l.byte
