use Rattle.std.proofs.Common.{◌≡◌, map, vec_len}
use Rattle.fy_types.specs.Reading.{plain_type}
use Rattle.fy_read.specs.OpenTypes.{in_arrows}
use Rattle.fy_read.proofs.level.with_domains.Given as goal

-- behind the domains that are left it is the whole
abbrev pub invariant-loop-domain : goal.invariant-loop-domain
invariant-loop-domain l =
    in_arrows (map plain_type l.left.items) (plain_type l.whole) ≡ in_arrows (map plain_type l.initial.left.items) (plain_type l.initial.whole)

abbrev pub decreases-loop-domain : goal.decreases-loop-domain
decreases-loop-domain l = vec_len l.left
