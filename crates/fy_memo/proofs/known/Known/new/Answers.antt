use Rattle.std.proofs.Common.{◌≡◌, true, subst}
use Rattle.fy_types.specs.Once.{are_same}
use Rattle.fy_types.specs.Reading.{plain_paths}
use Rattle.fy_memo.proofs.EachLemmas.{same-itself}
use Rattle.fy_memo.proofs.BaseLemmas.{takers-made}
use Rattle.fy_memo.proofs.known.Known.new.Goals as goal

pub invariant_of-result : goal.invariant_of-result
invariant_of-result c = record {
  flagged = takers-made c.args.taken.items (plain_paths c.args.base) (plain_paths c.args.procedure) c.requires.taken;
  right = subst (λ P. are_same (plain_paths c.args.rests) P ≡ true) c.requires.rests (same-itself (plain_paths c.args.rests));
  few = c.requires.within.few;
  shallow = c.requires.within.shallow;
}
