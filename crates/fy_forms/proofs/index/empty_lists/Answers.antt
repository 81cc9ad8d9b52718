use Rattle.std.proofs.Common.{[], ◌∷◌, length, ap, ◌∙◌, arith}
use Rattle.std.proofs.lemmas.List.{length-append}
use Rattle.fy_forms.specs.Keys.{list_at}
use Rattle.fy_forms.proofs.KeyLemmas.{empty-push}
use Rattle.fy_forms.proofs.index.empty_lists.Goals as goal

pub loop-preserved : goal.loop-preserved
loop-preserved c =
    let all = c.loop.all.items in
    record {
      long = omega (arith, ap length c.in_ok-push.ensures.items, length-append all (c.new.result ∷ []), c.loop.invariant.long);
      each = λ k. ap (λ xs. list_at xs k) c.in_ok-push.ensures.items ∙ empty-push all c.new.result c.loop.invariant.each c.new.ensures.items k;
    }
