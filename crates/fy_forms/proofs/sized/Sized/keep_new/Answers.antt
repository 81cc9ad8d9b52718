use Rattle.std.proofs.Common.{arith, inl, inr, sym, subst, ⊎_elim}
use Rattle.fy_types.specs.Paths.{and_path, no_paths, append}
use Rattle.fy_types.specs.Reading.{plain_path, plain_paths}
use Rattle.fy_types.specs.Limits.{IsTooLarge}
use Rattle.fy_forms.specs.Sized.{IsSized}
use Rattle.fy_types.proofs.Sizes.{append-nodes, append-nesting}
use Rattle.fy_forms.proofs.KeepLemmas.{added-new}
use Rattle.fy_forms.proofs.sized.Sized.keep_new.Goals as goal

pub returns-then-nodes-gt-MOST_NODES-clause-large : goal.returns-then-nodes-gt-MOST_NODES-clause-large
returns-then-nodes-gt-MOST_NODES-clause-large c =
    let new = added-new (plain_paths c.args.self.paths) (plain_path c.args.path) c.requires.new in
    let n = append-nodes (plain_paths c.args.self.paths) (and_path (plain_path c.args.path) no_paths) in
    let d = append-nesting (plain_paths c.args.self.paths) (and_path (plain_path c.args.path) no_paths) in
    λ e. subst IsTooLarge (sym new) (⊎_elim
    (λ h. inl (omega (arith, h, n, c.saturating_add-nodes.ensures, c.size_of_path-size.ensures.nodes, c.requires.sized.nodes, c.requires.sized.within.few)))
    (λ h. inr (omega (arith, h.1, d, c.max-nesting.ensures, c.size_of_path-size.ensures.nesting, c.requires.sized.nesting, c.requires.sized.within.shallow)))
    c.then-nodes-gt-MOST_NODES.either)

pub returns-clause-ok : goal.returns-clause-ok
returns-clause-ok c =
    let new = added-new (plain_paths c.args.self.paths) (plain_path c.args.path) c.requires.new in
    let n = append-nodes (plain_paths c.args.self.paths) (and_path (plain_path c.args.path) no_paths) in
    let d = append-nesting (plain_paths c.args.self.paths) (and_path (plain_path c.args.path) no_paths) in
    let made : IsSized record { paths = c.in_ok-paths.paths; nodes = c.saturating_add-nodes.result; nesting = c.max-nesting.result }
    (append (plain_paths c.args.self.paths) (and_path (plain_path c.args.path) no_paths)) = record {
      paths = c.in_ok-paths.ensures;
      nodes = omega (arith, n, c.saturating_add-nodes.ensures, c.size_of_path-size.ensures.nodes, c.requires.sized.nodes, c.if-nodes-gt-MOST_NODES.false);
      nesting = omega (arith, d, c.max-nesting.ensures, c.size_of_path-size.ensures.nesting, c.requires.sized.nesting, c.if-nesting-gt-MOST_NESTING.false);
      within = record {
        few = omega (arith, n, c.saturating_add-nodes.ensures, c.size_of_path-size.ensures.nodes, c.requires.sized.nodes, c.if-nodes-gt-MOST_NODES.false);
        shallow = omega (arith, d, c.max-nesting.ensures, c.size_of_path-size.ensures.nesting, c.requires.sized.nesting, c.if-nesting-gt-MOST_NESTING.false);
      };
    } in
    subst (λ P. IsSized record { paths = c.in_ok-paths.paths; nodes = c.saturating_add-nodes.result; nesting = c.max-nesting.result } P) (sym new) made
