use Rattle.std.proofs.Common.{◌≡◌, ◌+◌, ◌-◌, List, [], ◌∷◌, ◌++◌, length, Some, None, map, drop, sym, ap, ◌∙◌, subst, arith}
use Rattle.std.proofs.lemmas.List.{append-nil, append_assoc, length-append}
use Rattle.fy_types.proofs.Steps.{drop_item, drop_end}
use Rattle.fy_phrase.specs.Reads.{reads, trees_from}
use Rattle.fy_phrase.specs.Sizes.{nodes, all_nodes}
use Rattle.pe_right.specs.Entered.{parts_within}
use Rattle.pe_gen.specs.declared.manners.Manner.{Manner}
use Rattle.pe_gen.specs.declared.manners.Manner.TheVariants as manner
use Rattle.pe_gen.specs.Manners.{FitsBelow, manners_below, manners_of_all, with_manner}
use Rattle.pe_gen.specs.Postfix.{straight_at}
use Rattle.pe_gen.specs.Scopes.{binders}
use Rattle.pe_gen.proofs.MannerLemmas.{inner, fits-below, below-length}
use Rattle.pe_gen.proofs.manners.+deciding.Goals as goal

-- what stands at the node's place, and behind it
laid : (before below all : List Manner) (own : Manner) → all ≡ before ++ own ∷ [] → (more : List Manner) → more ≡ all ++ below → more ≡ before ++ (own ∷ below)
laid before below all own first more rest = rest ∙ ap (λ xs. xs ++ below) first ∙ append_assoc before (own ∷ []) below

pub add_manners-put_step-requires : goal.add_manners-put_step-requires
add_manners-put_step-requires t c =
    let p = reads c.args.p.now in
    let w = binders c.args.scope.now in
    let old = c.args.manners.now.items in
    let below = manners_below c.args.room c.args.code.now w c.args.number p in
    let all = laid old below c.push.new.self.items manner.ByParts c.in_ok-push.ensures.items c.add_below.new.manners.items c.in_ok-below.ensures.listed in
    let size = ap length all ∙ length-append old (manner.ByParts ∷ below) in
    let told : straight_at c.args.room c.args.code.now w c.args.number p ≡ Some c.in-Some.step = sym c.in_ok-step.ensures ∙ c.in-Some.is in
    let many : inner (parts_within w p) ≡ length c.add_below.new.manners.items - (c.len-start.result + 1) =
    omega (arith, size, c.len-start.ensures, below-length c.args.room c.args.code.now w c.args.number p) in
    record {
      within = omega (arith, size, c.len-start.ensures);
      fits = subst (λ m. FitsBelow c.in-Some.step m) many (fits-below c.args.room c.args.code.now w c.args.number p c.in-Some.step told);
    }

pub add_manners-returns-in-Some-clause-listed : goal.add_manners-returns-in-Some-clause-listed
add_manners-returns-in-Some-clause-listed t c =
    let p = reads c.args.p.now in
    let w = binders c.args.scope.now in
    let old = c.args.manners.now.items in
    let below = manners_below c.args.room c.args.code.now w c.args.number p in
    let all = laid old below c.push.new.self.items manner.ByParts c.in_ok-push.ensures.items c.add_below.new.manners.items c.in_ok-below.ensures.listed in
    let told : Some c.in-Some.step ≡ straight_at c.args.room c.args.code.now w c.args.number p = sym c.in-Some.is ∙ c.in_ok-step.ensures in
    c.put_step.ensures old below manner.ByParts all (omega (arith, c.len-start.ensures, c.args.manners.now.ok.0)) ∙ ap (λ o. old ++ with_manner o below) told

pub add_manners-returns-in-None-clause-listed : goal.add_manners-returns-in-None-clause-listed
add_manners-returns-in-None-clause-listed t c =
    let p = reads c.args.p.now in
    let w = binders c.args.scope.now in
    let old = c.args.manners.now.items in
    let below = manners_below c.args.room c.args.code.now w c.args.number p in
    let all = laid old below c.push.new.self.items manner.ByParts c.in_ok-push.ensures.items c.add_below.new.manners.items c.in_ok-below.ensures.listed in
    let told : None ≡ straight_at c.args.room c.args.code.now w c.args.number p = sym c.in-None.is ∙ c.in_ok-step.ensures in
    all ∙ ap (λ o. old ++ with_manner o below) told

pub add_manners_of_all-add_manners-requires : goal.add_manners_of_all-add_manners-requires
add_manners_of_all-add_manners-requires t c =
    let items = c.as_slice-part-items.result.now in
    let more = drop_item reads items c.loop-part.part-index c.part-item.result c.loop-part-test.true c.part-item.is in
    let inv = c.loop-part.invariant in
    let size = ap (λ ts. all_nodes (trees_from ts)) more in (
      omega (arith, size, inv.size),
      omega (arith, size, inv.size, c.requires),
    )

pub add_manners_of_all-loop-part-preserved : goal.add_manners_of_all-loop-part-preserved
add_manners_of_all-loop-part-preserved t c =
    let items = c.as_slice-part-items.result.now in
    let i = c.loop-part.part-index in
    let part = reads c.part-item.result in
    let rest = trees_from (map reads (drop (i + 1) items)) in
    let w = binders c.args.scope.now in
    let code = c.args.code.now in
    let more = drop_item reads items i c.part-item.result c.loop-part-test.true c.part-item.is in
    let inv = c.loop-part.invariant in
    let number : c.args.number + (c.loop-part.size + c.in_ok-size.field-0) ≡ c.args.number + c.loop-part.size + nodes part = omega (arith, c.in_ok-size.ensures.number) in
    record {
      size = omega (arith, ap (λ ts. all_nodes (trees_from ts)) more, inv.size, c.in_ok-size.ensures.number);
      listed =
          ap (λ xs. xs ++ manners_of_all c.args.room code w (c.args.number + (c.loop-part.size + c.in_ok-size.field-0)) rest) c.in_ok-size.ensures.listed
          ∙ (append_assoc c.loop-part.manners.items _ _
          ∙ (ap (λ n. c.loop-part.manners.items ++ (with_manner (straight_at c.args.room code w (c.args.number + c.loop-part.size) part) (manners_below c.args.room code w (c.args.number + c.loop-part.size) part) ++ manners_of_all c.args.room code w n rest)) number
          ∙ (ap (λ ts. c.loop-part.manners.items ++ manners_of_all c.args.room code w (c.args.number + c.loop-part.size) (trees_from ts)) (sym more) ∙ inv.listed)));
    }

pub add_manners_of_all-returns-clause-number : goal.add_manners_of_all-returns-clause-number
add_manners_of_all-returns-clause-number t c =
    let none = drop_end reads c.as_slice-part-items.result.now c.loop-part.part-index c.loop-part-test.false in
    omega (arith, ap (λ ts. all_nodes (trees_from ts)) none, c.loop-part.invariant.size)

pub add_manners_of_all-returns-clause-listed : goal.add_manners_of_all-returns-clause-listed
add_manners_of_all-returns-clause-listed t c =
    let none = drop_end reads c.as_slice-part-items.result.now c.loop-part.part-index c.loop-part-test.false in
    sym (append-nil c.loop-part.manners.items)
    ∙ (ap (λ ts. c.loop-part.manners.items ++ manners_of_all c.args.room c.args.code.now (binders c.args.scope.now) (c.args.number + c.loop-part.size) (trees_from ts)) (sym none) ∙ c.loop-part.invariant.listed)
