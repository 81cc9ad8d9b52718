use Rattle.std.proofs.Common.{◌≡◌, arith, inl, inr, ◌∙◌, sym, ⊎_elim}
use Rattle.fy_types.specs.Reading.{plain_paths}
use Rattle.fy_types.specs.Limits.{all_nodes}
use Rattle.fy_types.proofs.Sizes.{count, count-le, some_nodes, called-nodes, called-nesting}
use Rattle.fy_types.proofs.Making.{count-in, product-le}
use Rattle.fy_forms.proofs.sized.Sized.after_call.Goals as goal

pub overflow_mul-nodes : goal.overflow_mul-nodes
overflow_mul-nodes c =
    let few : c.len-count.result ≡ count (plain_paths c.args.self.paths) = c.len-count.ensures ∙ count-in c.args.self.paths in
    let most = product-le c.len-count.result c.args.domain.nodes
    (omega (arith, few, count-le (plain_paths c.args.self.paths), c.requires.after.within.few))
    (omega (arith, c.requires.domain.nodes, c.requires.domain.within.few)) in
    omega (arith, most)

pub overflow_add-nodes-2 : goal.overflow_add-nodes-2
overflow_add-nodes-2 c =
    let few : c.len-count.result ≡ count (plain_paths c.args.self.paths) = c.len-count.ensures ∙ count-in c.args.self.paths in
    let most = product-le c.len-count.result c.args.domain.nodes
    (omega (arith, few, count-le (plain_paths c.args.self.paths), c.requires.after.within.few))
    (omega (arith, c.requires.domain.nodes, c.requires.domain.within.few)) in
    omega (arith, most, c.requires.after.nodes, c.requires.after.within.few)

pub returns-then-nodes-gt-MOST_NODES-clause-large : goal.returns-then-nodes-gt-MOST_NODES-clause-large
returns-then-nodes-gt-MOST_NODES-clause-large c =
    let few : c.len-count.result ≡ count (plain_paths c.args.self.paths) = c.len-count.ensures ∙ count-in c.args.self.paths in
    let n : all_nodes (plain_paths c.args.domain.paths) ≡ c.args.domain.nodes = sym c.requires.domain.nodes in
    let made = rw (← few, n) at (called-nodes (plain_paths c.args.domain.paths) (plain_paths c.args.self.paths)) in
    λ e. ⊎_elim (λ h. inl (omega (arith, made, h, c.requires.after.nodes)))
    (λ h. inr (omega (
      arith,
      h.1,
      c.max-nesting.ensures,
      c.requires.domain.nesting,
      c.requires.after.nesting,
      called-nesting (plain_paths c.args.domain.paths) (plain_paths c.args.self.paths)
          (some_nodes (plain_paths c.args.self.paths) (omega (arith, c.requires.some, c.requires.after.nodes))),
    )))
    c.then-nodes-gt-MOST_NODES.either

pub returns-clause-ok : goal.returns-clause-ok
returns-clause-ok c =
    let few : c.len-count.result ≡ count (plain_paths c.args.self.paths) = c.len-count.ensures ∙ count-in c.args.self.paths in
    let n : all_nodes (plain_paths c.args.domain.paths) ≡ c.args.domain.nodes = sym c.requires.domain.nodes in
    let made = rw (← few, n) at (called-nodes (plain_paths c.args.domain.paths) (plain_paths c.args.self.paths)) in
    let deep = called-nesting (plain_paths c.args.domain.paths) (plain_paths c.args.self.paths)
    (some_nodes (plain_paths c.args.self.paths) (omega (arith, c.requires.some, c.requires.after.nodes))) in record {
      paths = c.in_ok-paths.ensures;
      nodes = omega (arith, made, c.requires.after.nodes);
      nesting = omega (arith, deep, c.max-nesting.ensures, c.requires.domain.nesting, c.requires.after.nesting);
      within = record {
        few = omega (arith, made, c.requires.after.nodes, c.if-nodes-gt-MOST_NODES.false);
        shallow = omega (arith, deep, c.max-nesting.ensures, c.requires.domain.nesting, c.requires.after.nesting, c.if-nesting-gt-MOST_NESTING.false);
      };
    }
