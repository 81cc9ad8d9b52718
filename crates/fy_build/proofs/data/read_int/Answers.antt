use Rattle.std.proofs.Common.{◌≡◌, ◌-◌, ◌^◌, ℤ, pos, negsuc, true, refl, arith, SFits, leb, le-leb, w64}
use Rattle.std.proofs.lemmas.Bool.{and_from}
use Rattle.fy_base.specs.Arithmetic.{is_int}
use Rattle.fy_build.proofs.data.read_int.Goals as goal

is_int-fits : (z : ℤ) → SFits w64 z → is_int z ≡ true
is_int-fits (pos n) f = let h = f.sfits in le-leb n (2 ^ 63 - 1) (omega arith)
is_int-fits (negsuc n) f = let h = f.sfits in and_from (leb n (2 ^ 63 - 1)) true (le-leb n (2 ^ 63 - 1) (omega arith)) refl

pub returns : goal.returns
returns c = is_int-fits c.args.value c.ranges.value
