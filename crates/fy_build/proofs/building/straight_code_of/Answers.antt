use Rattle.std.proofs.Common.{◌≤◌, length, sym, subst}
use Rattle.fy_build.proofs.building.straight_code_of.Goals as goal

pub straighten-requires-clause-few : goal.straighten-requires-clause-few
straighten-requires-clause-few c = c.requires.phrase.few

pub straighten-requires-clause-direct : goal.straighten-requires-clause-direct
straighten-requires-clause-direct c =
    let made = c.in_ok-direct.ensures in
    record {
      closed = c.requires.phrase.closed;
      depths = c.requires.phrase.depths;
      table = c.args.table.now;
      typed = c.requires.table;
      right = made.right.right;
      valid = made.right.valid;
      sizes = made.sizes;
      laid_out = made.right.laid_out;
    }

pub returns-clause-right : goal.returns-clause-right
returns-clause-right c =
    let given = c.in_ok-direct.ensures in
    let made = c.in_ok-code.ensures in
    record {
      direct = c.in_ok-direct.direct;
      its = given.right;
      straightened = made.straight;
      valid = made.valid;
      right = made.right c.args.table.now given.right.right;
      follows = made.follows;
    }

pub returns-clause-few : goal.returns-clause-few
returns-clause-few c = subst (λ n. n ≤ length c.args.table.now.pairs) (sym c.in_ok-code.ensures.count) c.in_ok-direct.ensures.few
