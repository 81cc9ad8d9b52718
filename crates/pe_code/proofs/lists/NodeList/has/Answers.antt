use Rattle.std.proofs.Common.{List, ℕ, sym, subst, ◌∙◌}
use Rattle.std.specs.List.{Contains}
use Rattle.pe_code.proofs.NodeLemmas.{contains-from, contains-any}
use Rattle.pe_code.proofs.lists.NodeList.has.Goals as goal

pub returns : goal.returns
returns c =
    let same = c.contains.ensures ∙ c.self.invariant c.args.node in (
      λ t. subst (λ (l : List ℕ). Contains l c.args.node) c.self.view_is (contains-from c.self.inside.nodes.items c.args.node (sym same ∙ t)),
      λ h. same ∙ contains-any c.self.inside.nodes.items c.args.node (subst (λ (l : List ℕ). Contains l c.args.node) (sym c.self.view_is) h),
    )
