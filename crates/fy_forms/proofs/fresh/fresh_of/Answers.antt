use Rattle.std.proofs.Common.{◌≡◌, ap, ◌∙◌, subst, filter}
use Rattle.fy_forms.specs.Rows.{lacks_flag, IsRow, IsMet}
use Rattle.fy_forms.proofs.FreshLemmas.{found-push, found-kept, rows-more, row-at}
use Rattle.fy_forms.proofs.fresh.fresh_of.Goals as goal
use Rattle.fy_forms.proofs.fresh.fresh_of.Goals.{then-not-is_met+in_ok-insert+in_ok-found_at+in_ok-push, else-not-is_met}

pub loop-row-preserved : goal.loop-row-preserved
loop-row-preserved c =
    let row : IsRow c.args.all.now.table c.row-item.result =
    row-at c.args.all.now.table c.args.all.now.rows.items c.deref-row-items.result.now c.loop-row.row-index c.row-item.result
    c.deref-row-items.ensures.value c.requires c.loop-row-test.true c.row-item.is in
    let news : c.in_ok-news.news.items ≡ filter (lacks_flag c.args.flags.now) c.row-item.result.indexes.items =
    c.in_ok-news.ensures ∙ ap (filter (lacks_flag c.args.flags.now)) c.deref.ensures.value in
    let more = rows-more c.deref-row-items.result.now c.loop-row.row-index c.row-item.result c.loop-row-test.true c.row-item.is in
    elim c.if-not-is_met.branch [
      | then-not-is_met+in_ok-insert+in_ok-found_at+in_ok-push w ↦
          let both = found-push c.args.all.now.table c.args.flags.now c.loop-row.found.items c.if-not-is_met.found.items w.in_ok-found_at.field-0
          c.row-item.result _ _ (ap (λ v. v.items) w.found-is ∙ w.in_ok-push.ensures.items) w.in_ok-found_at.ensures.path w.in_ok-found_at.ensures.whole
          (w.in_ok-found_at.ensures.news ∙ (w.deref-then-not-is_met.ensures.value ∙ news)) row more c.loop-row.invariant.enough c.loop-row.invariant.each in
          record { enough = both.0; each = both.1 }
      | else-not-is_met w ↦
          let both = found-kept c.args.all.now.table c.args.flags.now c.loop-row.found.items c.if-not-is_met.found.items
          c.row-item.result c.in_ok-news.news.items _ _ (ap (λ v. v.items) w.found-is) news
          (subst (λ fs. IsMet fs c.row-item.result c.in_ok-news.news.items) c.deref-in-loop-row-2.ensures.value
          (subst (λ is. IsMet c.deref-in-loop-row-2.result.now c.row-item.result is) c.deref-in-loop-row-3.ensures.value
          (c.is_met.ensures w.if-not-is_met.false)))
          row more c.loop-row.invariant.enough c.loop-row.invariant.each in
          record { enough = both.0; each = both.1 }
    ]
