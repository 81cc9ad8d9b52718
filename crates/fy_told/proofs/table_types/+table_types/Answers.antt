use Rattle.std.proofs.Common.{◌≡◌, ◌++◌, ap, sym, ◌∙◌, arith, codes, take}
use Rattle.std.specs.Prelude.{◌||◌}
use Rattle.std.proofs.lemmas.Result.{on_ok_weaker}
use Rattle.fy_derive.specs.Shown.{shown}
use Rattle.fy_short.specs.ShortTypes.{in_parentheses_unless, is_arrow, is_short, members_in, short_members, short_type}
use Rattle.fy_told.proofs.NodeLemmas.{members-front}
use Rattle.fy_told.proofs.WithinLemmas.{within-pair, within-put, within-step, within-then}
use Rattle.fy_told.proofs.table_types.+table_types.Goals as goal
use Rattle.fy_told.proofs.table_types.+table_types.Goals.{put_type_within-then-is_arrow_in, put_type_within-else-is_arrow_in}

pub put_unless-returns : goal.put_unless-returns
put_unless-returns t c =
    let T = c.args.text.now.items in
    let S = short_type c.args.names.now (shown c.args.table.now c.args.number) in
    on_ok_weaker c.put-2.result
    (λ e. within-pair c.args.most _ _ _ T (codes "(") S (codes ")") c.in_ok-put.ensures c.in_ok-put_type_within.ensures e
    ∙ ap (λ b. take c.args.most (T ++ in_parentheses_unless b S)) (sym c.if-bare.false))
    c.put-2.ensures

pub put_type_within-returns-after-is_arrow_in : goal.put_type_within-returns-after-is_arrow_in
put_type_within-returns-after-is_arrow_in t c =
    let T = c.args.text.now.items in
    let m = c.args.most in
    let k = c.args.names.now in
    let A = shown c.args.table.now c.in-Arrow.domain in
    let B = shown c.args.table.now c.in-Arrow.rest in
    let bare : c.if-is_arrow_in.bare ≡ (is_arrow B || is_short B) =
    elim c.if-is_arrow_in.branch [
      | put_type_within-then-is_arrow_in w ↦ w.bare-is ∙ (w.if-is_arrow_in.true ∙ sym (ap (λ b. b || is_short B) (sym c.is_arrow_in.ensures ∙ w.if-is_arrow_in.true)))
      | put_type_within-else-is_arrow_in w ↦ w.bare-is ∙ (w.is_short_in-bare.ensures ∙ sym (ap (λ b. b || is_short B) (sym c.is_arrow_in.ensures ∙ w.if-is_arrow_in.false)))
    ] in
    on_ok_weaker c.put_unless-in-Arrow.result
    (λ e. within-then m _ _ T (in_parentheses_unless (is_short A) (short_type k A) ++ codes " -> ") (in_parentheses_unless (is_arrow B || is_short B) (short_type k B))
    (within-put m _ _ T (in_parentheses_unless (is_short A) (short_type k A)) (codes " -> ")
    (c.in_ok-put_unless-in-Arrow.ensures ∙ ap (λ b. take m (T ++ in_parentheses_unless b (short_type k A))) c.is_short_in.ensures) c.in_ok-put-in-Arrow.ensures)
    (e ∙ ap (λ b. take m (c.put-in-Arrow.new.text.items ++ in_parentheses_unless b (short_type k B))) bare)
    ∙ ap (λ X. take m (T ++ short_type k X)) (sym c.in-Arrow.ensures.stands))
    c.put_unless-in-Arrow.ensures

pub put_members-loop-lead-preserved : goal.put_members-loop-lead-preserved
put_members-loop-lead-preserved t c =
    let m = c.args.most in
    let k = c.args.names.now in
    let A = shown c.args.table.now c.in-AndType.first in
    let B = shown c.args.table.now c.in-AndType.behind in
    record {
      here = omega (arith, c.in-AndType.ensures.parts, c.loop-lead.invariant.here);
      below = omega (arith, c.in-AndType.ensures.parts, c.loop-lead.invariant.below);
      same =
          within-step m c.loop-lead.text.items _ _ c.loop-lead.lead.now (in_parentheses_unless (is_short A) (short_type k A)) (short_members k (codes " & ") (members_in B)) _
          c.in_ok-put.ensures
          (c.in_ok-put_unless.ensures ∙ ap (λ b. take m (c.put.new.text.items ++ in_parentheses_unless b (short_type k A))) c.is_short_in.ensures)
          (ap (λ As. take m (c.loop-lead.text.items ++ short_members k c.loop-lead.lead.now As)) (sym (ap members_in c.in-AndType.ensures.stands ∙ members-front A B c.in-AndType.ensures.meet))
          ∙ c.loop-lead.invariant.same);
    }
