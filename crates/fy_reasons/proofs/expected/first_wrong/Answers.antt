use Rattle.std.proofs.Common.{◌≡◌, ◌+◌, ◌<◌, get_or, length, Some, Bool, true, false, sym, ap, ◌∙◌, arith}
use Rattle.fy_phrase.specs.Reads.{reads}
use Rattle.fy_derive.specs.Shown.{shown, all_shown}
use Rattle.fy_derive.proofs.Standings.{Extends-trans, AreIn-at, all_shown-kept}
use Rattle.fy_reasons.specs.Expected.{asked, is_asked}
use Rattle.fy_reasons.proofs.AskLemmas.{wrong-here, wrong-next}
use Rattle.fy_reasons.proofs.expected.first_wrong.Goals as goal

pub returns-then-not-is_asked-clause-wrong : goal.returns-then-not-is_asked-clause-wrong
returns-then-not-is_asked-clause-wrong c =
    let inv = c.loop-i.invariant in
    let asks = c.in_ok-asking.ensures in
    let t = c.args.table.now in
    let u = c.asked.new.table in
    let p = reads c.args.p.now in
    let ks = c.args.done.now in
    let i = c.loop-i.i in
    let As = all_shown t ks in
    let x = get_or ks i 0 in
    let made = asks.asked ∙ ap (λ Bs. asked p Bs i) (all_shown-kept ks inv.extends c.requires) in
    let kept = (Extends-trans inv.extends asks.extends).same x (AreIn-at i c.requires c.loop-i-test.true) in
    let test : is_asked (asked p As i) (shown t x) ≡ false =
    sym (ap (λ a. is_asked a (shown u x)) made ∙ ap (is_asked (asked p As i)) kept) ∙ (sym c.is_asked.ensures ∙ c.if-not-is_asked.true) in
    ap (λ a. Some (i, a)) made ∙ wrong-here p As t ks i _ c.loop-i-test.true test inv.same

pub loop-i-preserved : goal.loop-i-preserved
loop-i-preserved c =
    let inv = c.loop-i.invariant in
    let asks = c.in_ok-asking.ensures in
    let t = c.args.table.now in
    let u = c.asked.new.table in
    let p = reads c.args.p.now in
    let ks = c.args.done.now in
    let i = c.loop-i.i in
    let As = all_shown t ks in
    let x = get_or ks i 0 in
    let made = asks.asked ∙ ap (λ Bs. asked p Bs i) (all_shown-kept ks inv.extends c.requires) in
    let kept = (Extends-trans inv.extends asks.extends).same x (AreIn-at i c.requires c.loop-i-test.true) in
    let test : is_asked (asked p As i) (shown t x) ≡ true =
    sym (ap (λ a. is_asked a (shown u x)) made ∙ ap (is_asked (asked p As i)) kept) ∙ (sym c.is_asked.ensures ∙ c.if-not-is_asked.false) in
    record {
      extends = Extends-trans inv.extends asks.extends;
      same = wrong-next p As t ks i _ c.loop-i-test.true test inv.same;
    }
