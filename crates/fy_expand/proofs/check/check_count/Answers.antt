use Rattle.std.proofs.Common.{◌<◌, ◌≤◌, sym, ap, arith}
use Rattle.std.proofs.lemmas.Bool.{lt-ltb, le-ltb}
use Rattle.fy_syntax.specs.Reading.{type_trees}
use Rattle.fy_expand.specs.declared.error.ExpandError.TheVariants.{TooManyAlternatives}
use Rattle.fy_expand.specs.Faults.{fault_if, types_count}
use Rattle.fy_expand.proofs.FaultLemmas.{types_count-of}
use Rattle.fy_expand.proofs.check.check_count.Goals as goal

pub returns-then-len-gt-MAX_ALTERNATIVES : goal.returns-then-len-gt-MAX_ALTERNATIVES
returns-then-len-gt-MAX_ALTERNATIVES c =
    let count = types_count (type_trees c.args.types.now) in
    let many : 16 < count = omega (arith, types_count-of c.args.types.now, c.len.ensures) in
    ap (λ b. fault_if b (TooManyAlternatives c.args.at)) (sym (lt-ltb 16 count many))

pub returns : goal.returns
returns c =
    let count = types_count (type_trees c.args.types.now) in
    let few : count ≤ 16 = omega (arith, types_count-of c.args.types.now, c.len.ensures) in
    ap (λ b. fault_if b (TooManyAlternatives c.args.at)) (sym (le-ltb 16 count few))
