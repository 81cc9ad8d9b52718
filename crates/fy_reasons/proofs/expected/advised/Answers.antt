use Rattle.std.proofs.Common.{◌≡◌, Some, None, find, sym, ap, ◌∙◌}
use Rattle.std.specs.Option.{option_or}
use Rattle.fy_derive.specs.Shown.{shown, all_shown}
use Rattle.fy_reasons.specs.Expected.{an_arrow, a_field, is_asked, has_domain, members, advised}
use Rattle.fy_reasons.specs.Stopping.{asking_read}
use Rattle.fy_reasons.proofs.AskLemmas.{advised-arrow, advised-field}
use Rattle.fy_reasons.proofs.expected.advised.Goals as goal

pub returns-in-Some-clause-advised : goal.returns-in-Some-clause-advised
returns-in-Some-clause-advised c =
    let t = c.args.table.now in
    let A = shown t c.args.number in
    let B = shown t c.args.behind in
    let all : all_shown t c.deref-in-AnArrow.result.now ≡ members A =
    ap (all_shown t) c.deref-in-AnArrow.ensures.value ∙ c.in_ok-members-in-AnArrow.ensures.members in
    let first : Some (shown t c.in-Some.arrow) ≡ find (has_domain B) (members A) = c.in-Some.ensures.first ∙ ap (find (has_domain B)) all in
    let reading : asking_read t c.args.asking.now ≡ an_arrow = ap (asking_read t) c.in-AnArrow.is in
    ap (λ o. option_or o (find (is_asked an_arrow) (members A))) first ∙ (sym (advised-arrow A B) ∙ ap (λ a. advised a A B) (sym reading))

pub returns-in-AnArrow-clause-advised : goal.returns-in-AnArrow-clause-advised
returns-in-AnArrow-clause-advised c =
    let t = c.args.table.now in
    let A = shown t c.args.number in
    let B = shown t c.args.behind in
    let all : all_shown t c.deref-in-AnArrow.result.now ≡ members A =
    ap (all_shown t) c.deref-in-AnArrow.ensures.value ∙ c.in_ok-members-in-AnArrow.ensures.members in
    let once_more : all_shown t c.deref-in-None.result.now ≡ members A =
    ap (all_shown t) c.deref-in-None.ensures.value ∙ c.in_ok-members-in-AnArrow.ensures.members in
    let none : None ≡ find (has_domain B) (members A) = c.in-None.ensures.first ∙ ap (find (has_domain B)) all in
    let reading : asking_read t c.args.asking.now ≡ an_arrow = ap (asking_read t) c.in-AnArrow.is in
    c.first_asked.ensures.first
    ∙ (ap (find (is_asked (asking_read t c.args.asking.now))) once_more
    ∙ (ap (λ a. find (is_asked a) (members A)) reading
    ∙ (ap (λ o. option_or o (find (is_asked an_arrow) (members A))) none ∙ (sym (advised-arrow A B) ∙ ap (λ a. advised a A B) (sym reading)))))

pub returns-clause-advised : goal.returns-clause-advised
returns-clause-advised c =
    let t = c.args.table.now in
    let A = shown t c.args.number in
    let B = shown t c.args.behind in
    let i = c.in-AField.field-0 in
    let all : all_shown t c.deref-in-AField.result.now ≡ members A =
    ap (all_shown t) c.deref-in-AField.ensures.value ∙ c.in_ok-members-in-AField.ensures.members in
    let reading : asking_read t c.args.asking.now ≡ a_field i = ap (asking_read t) c.in-AField.is in
    c.first_asked-in-AField.ensures.first
    ∙ (ap (find (is_asked (asking_read t c.args.asking.now))) all
    ∙ (ap (λ a. find (is_asked a) (members A)) reading ∙ (sym (advised-field A B i) ∙ ap (λ a. advised a A B) (sym reading))))
