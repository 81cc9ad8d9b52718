use Rattle.std.proofs.Common.{◌≡◌, ◌++◌, take}
use Rattle.fy_link.proofs.written.put_all.Given as goal

abbrev pub invariant-loop-token : goal.invariant-loop-token
invariant-loop-token l = l.made.items ≡ l.initial.made.items ++ take l.token-index l.tokens
