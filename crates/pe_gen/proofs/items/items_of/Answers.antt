use Rattle.std.proofs.Common.{◌≡◌, inl, inr, length, get_or, sym, ap, ◌∙◌, subst, arith}
use Rattle.std.specs.Prelude.{slice_get}
use Rattle.std.proofs.lemmas.List.{length_push}
use Rattle.std.proofs.lemmas.Option.{slice_get-get_or}
use Rattle.pe_gen.specs.Plan.{IsItemIn}
use Rattle.pe_gen.specs.Sites.{pair}
use Rattle.pe_gen.proofs.Gets.{some_same}
use Rattle.pe_gen.proofs.KeyLists.{pushed-member}
use Rattle.pe_gen.proofs.items.items_of.Goals as goal

pub loop-site-preserved : goal.loop-site-preserved
loop-site-preserved c =
    let i = c.loop-site.site-index in
    let site = get_or c.args.sites.now i (pair 0 0) in
    let there = slice_get-get_or c.args.sites.now i (pair 0 0) c.loop-site-test.true in
    let new = c.in_ok-item_of.field-0 in
    let pushed = c.in_ok-push.ensures.ok in
    let inv = c.loop-site.invariant in
    record {
      all = omega (arith, ap length pushed, length_push c.loop-site.items new, inv.all);
      each = λ j x item at here.
          elim (pushed-member c.loop-site.items new item j (ap (λ xs. slice_get xs j) (sym pushed) ∙ here)) [
            | inl m ↦ inv.each j x item at m.1
            | inr e ↦
                let number : j ≡ i = e.0 ∙ inv.all in
                let same : site ≡ x = some_same (sym there ∙ (ap (slice_get c.args.sites.now) (sym number) ∙ at)) in
                subst (λ y. IsItemIn c.args.plan.now y item) same (subst (λ y. IsItemIn c.args.plan.now site y) e.1 c.in_ok-item_of.ensures)
          ];
    }
