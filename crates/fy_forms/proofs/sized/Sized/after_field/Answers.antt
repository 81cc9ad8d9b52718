use Rattle.std.proofs.Common.{◌≡◌, ◌<◌, arith, inl, inr, ◌∙◌, sym, ap, ⊎_elim, subst}
use Rattle.fy_types.specs.Reading.{plain_paths}
use Rattle.fy_types.specs.Paths.{picked}
use Rattle.fy_types.specs.Limits.{all_nodes}
use Rattle.fy_forms.specs.Sized.{IsSized}
use Rattle.fy_types.proofs.Sizes.{count, no_nodes, some_nodes, picked-nodes, picked-nesting}
use Rattle.fy_types.proofs.Making.{count-in}
use Rattle.fy_forms.proofs.sized.Sized.after_field.Goals as goal

pub returns-then-self-eq0-clause-ok : goal.returns-then-self-eq0-clause-ok
returns-then-self-eq0-clause-ok c =
    let none = no_nodes (plain_paths c.args.self.paths) (sym c.requires.nodes ∙ c.if-self-eq0.true) in
    subst (λ P. IsSized c.args.self P) (none ∙ ap (picked c.args.name) (sym none)) c.requires

pub returns-then-nodes-gt-MOST_NODES-clause-large : goal.returns-then-nodes-gt-MOST_NODES-clause-large
returns-then-nodes-gt-MOST_NODES-clause-large c =
    let few : c.len.result ≡ count (plain_paths c.args.self.paths) = c.len.ensures ∙ count-in c.args.self.paths in
    let some : 0 < all_nodes (plain_paths c.args.self.paths) = omega (arith, c.if-self-eq0.false, c.requires.nodes) in
    λ e. ⊎_elim
    (λ h. inl (omega (arith, h, few, c.requires.nodes, picked-nodes c.args.name (plain_paths c.args.self.paths))))
    (λ h. inr (omega (arith, h.1, c.requires.nesting, picked-nesting c.args.name (plain_paths c.args.self.paths) (some_nodes (plain_paths c.args.self.paths) some))))
    c.then-nodes-gt-MOST_NODES.either

pub returns-clause-ok : goal.returns-clause-ok
returns-clause-ok c =
    let few : c.len.result ≡ count (plain_paths c.args.self.paths) = c.len.ensures ∙ count-in c.args.self.paths in
    let some : 0 < all_nodes (plain_paths c.args.self.paths) = omega (arith, c.if-self-eq0.false, c.requires.nodes) in
    let n = picked-nodes c.args.name (plain_paths c.args.self.paths) in
    let d = picked-nesting c.args.name (plain_paths c.args.self.paths) (some_nodes (plain_paths c.args.self.paths) some) in record {
      paths = c.in_ok-paths.ensures;
      nodes = omega (arith, few, n, c.requires.nodes);
      nesting = omega (arith, d, c.requires.nesting);
      within = record {
        few = omega (arith, few, n, c.requires.nodes, c.if-nodes-gt-MOST_NODES.false);
        shallow = omega (arith, d, c.requires.nesting, c.if-nesting-gt-MOST_NESTING.false);
      };
    }
