use Rattle.std.proofs.Common.{arith, inl}
use Rattle.fy_types.specs.Reading.{plain_paths}
use Rattle.fy_types.proofs.Sizes.{append-nodes, append-nesting}
use Rattle.fy_forms.proofs.sized.Sized.followed_by.Goals as goal

pub returns-then-nodes-gt-MOST_NODES-clause-large : goal.returns-then-nodes-gt-MOST_NODES-clause-large
returns-then-nodes-gt-MOST_NODES-clause-large c = λ e. inl
    (omega (arith, append-nodes (plain_paths c.args.self.paths) (plain_paths c.args.next.paths), c.requires.first.nodes, c.requires.next.nodes))

pub returns-clause-ok : goal.returns-clause-ok
returns-clause-ok c =
    let n = append-nodes (plain_paths c.args.self.paths) (plain_paths c.args.next.paths) in
    let d = append-nesting (plain_paths c.args.self.paths) (plain_paths c.args.next.paths) in record {
      paths = c.in_ok-paths.ensures;
      nodes = omega (arith, n, c.requires.first.nodes, c.requires.next.nodes);
      nesting = omega (arith, d, c.max-nesting.ensures, c.requires.first.nesting, c.requires.next.nesting);
      within = record {
        few = omega (arith, n, c.requires.first.nodes, c.requires.next.nodes, c.if-nodes-gt-MOST_NODES.false);
        shallow = omega (arith, d, c.requires.first.within.shallow, c.requires.next.within.shallow);
      };
    }
