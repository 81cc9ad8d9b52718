use Rattle.std.proofs.Common.{◌≤◌, length, sym, subst}
use Rattle.fy_phrase.specs.Reads.{reads}
use Rattle.fy_build.proofs.Direct.{none_handed}
use Rattle.fy_build.proofs.building.code_of.Goals as goal

pub direct-requires-clause-few : goal.direct-requires-clause-few
direct-requires-clause-few c = c.requires.phrase.few

pub direct-requires-clause-generated : goal.direct-requires-clause-generated
direct-requires-clause-generated c =
    let made = c.in_ok-generated.ensures in
    record {
      closed = c.requires.phrase.closed;
      depths = c.requires.phrase.depths;
      table = c.args.table.now;
      typed = c.requires.table;
      right = made.right;
      valid = made.valid;
      sizes = made.sizes;
    }

pub returns-clause-right : goal.returns-clause-right
returns-clause-right c =
    let given = c.in_ok-generated.ensures in
    let made = c.in_ok-code.ensures in
    record {
      valid = made.valid;
      right = made.right c.args.table.now given.right;
      laid_out = made.laid_out given.laid_out;
      hands_no_constant = none_handed (reads c.args.p.now) c.in_ok-generated.generated c.in_ok-code.code made.direct;
      follows = made.follows;
    }

pub returns-clause-few : goal.returns-clause-few
returns-clause-few c = subst (λ n. n ≤ length c.args.table.now.pairs) (sym c.in_ok-code.ensures.direct.count) c.in_ok-generated.ensures.few
