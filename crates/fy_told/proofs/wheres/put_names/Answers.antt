use Rattle.std.proofs.Common.{◌≡◌, ◌+◌, ◌-◌, ◌<◌, ◌≤◌, ◌∷◌, ◌++◌, arith, ap, get_or, length, sym, take, ◌∙◌}
use Rattle.std.proofs.lemmas.List.{append-nil, get_or_default}
use Rattle.fy_phrase.specs.Reads.{reads}
use Rattle.fy_derive.specs.Shown.{shown}
use Rattle.fy_show.specs.Reading.{entry_or, known_in, scope_in}
use Rattle.fy_told.specs.ReasonTexts.{listed, variable_text}
use Rattle.fy_told.proofs.StepLemmas.{full-told, listed-none, more-told, names-end, names-told, names-untold, names_left, none-told}
use Rattle.fy_told.proofs.wheres.put_names.Goals.{then-count-lt-MOST_NAMES+then-is_told+in_ok-put+in_ok-put_variable, else-count-lt-MOST_NAMES, else-count-lt-MOST_NAMES-via-then-count-lt-MOST_NAMES+else-is_told, else-count-lt-MOST_NAMES-via-else-count-lt-MOST_NAMES}
use Rattle.fy_told.proofs.wheres.put_names.Goals as goal

pub returns-clause-names : goal.returns-clause-names
returns-clause-names c =
    let none = names-end (known_in c.args.view.now) (scope_in c.args.view.now) (reads c.args.p.now) c.args.table.now c.args.entries.now c.args.types.now c.loop-i.i
    (omega (arith, c.min-i-end.ensures, c.loop-i-test.false)) in
    sym (append-nil c.loop-i.text.items)
    ∙ (ap (λ l. c.loop-i.text.items ++ l) (sym (ap (λ ns. listed c.loop-i.lead.now (take (6 - c.loop-i.count) ns)) none ∙ listed-none c.loop-i.lead.now (6 - c.loop-i.count)))
    ∙ c.loop-i.invariant.names)

pub returns-clause-count : goal.returns-clause-count
returns-clause-count c =
    let none = names-end (known_in c.args.view.now) (scope_in c.args.view.now) (reads c.args.p.now) c.args.table.now c.args.entries.now c.args.types.now c.loop-i.i
    (omega (arith, c.min-i-end.ensures, c.loop-i-test.false)) in
    omega (arith, ap length none, c.loop-i.invariant.counted)

pub loop-i-preserved : goal.loop-i-preserved
loop-i-preserved c =
    let es = c.args.entries.now in
    let ks = c.args.types.now in
    let i = c.loop-i.i in
    let k = known_in c.args.view.now in
    let s = scope_in c.args.view.now in
    let p = reads c.args.p.now in
    let t = c.args.table.now in
    let h : i < length es = omega (arith, c.loop-i-test.true, c.min-i-end.ensures) in
    let g : i < length ks = omega (arith, c.loop-i-test.true, c.min-i-end.ensures) in
    let T = c.loop-i.text.items in
    let U = c.if-count-lt-MOST_NAMES.text.items in
    let lead = c.loop-i.lead.now in
    let next = c.if-count-lt-MOST_NAMES.lead.now in
    let n = c.loop-i.count in
    let m = c.if-count-lt-MOST_NAMES.count in
    let left = names_left k s p t es ks i in
    let rest = names_left k s p t es ks (i + 1) in
    elim c.if-count-lt-MOST_NAMES.branch [
      | then-count-lt-MOST_NAMES+then-is_told+in_ok-put+in_ok-put_variable w ↦
          (let e = w.index-entries-i.result in
          let A = shown t (get_or ks i 0) in
          let told : left ≡ variable_text k (entry_or e) A ∷ rest =
          names-told k s p t es ks i e h g w.index-entries-i.is (sym w.is_told.ensures ∙ w.if-is_told.true) in
          let same : w.index-entries-i-then-is_told.result ≡ e =
          w.index-entries-i-then-is_told.is ∙ (get_or_default es i w.index-entries-i-then-is_told.result e h ∙ sym w.index-entries-i.is) in
          let put : U ≡ T ++ lead ++ variable_text k (entry_or e) A =
          ap (λ x. x.items) w.text-is ∙ (w.in_ok-put_variable.ensures
          ∙ (ap (λ x. x ++ variable_text k (entry_or w.index-entries-i-then-is_told.result) A) w.in_ok-put.ensures
          ∙ ap (λ x. T ++ lead ++ variable_text k (entry_or x) A) same)) in
          let few : n < 6 = w.if-count-lt-MOST_NAMES.true in
          let counted : m ≡ n + 1 = w.count-is in
          record {
            few = omega (arith, few, counted);
            names =
                more-told T U lead next (variable_text k (entry_or e) A) n m left rest few told put (ap (λ x. x.now) w.lead-is) counted
                ∙ c.loop-i.invariant.names;
            counted = omega (arith, few, counted, ap length told, c.loop-i.invariant.counted);
          })
      | else-count-lt-MOST_NAMES w ↦
          (let put : U ≡ T = ap (λ x. x.items) w.text-is in
          let counted : m ≡ n = w.count-is in
          let led : next ≡ lead = ap (λ x. x.now) w.lead-is in
          elim w.else-count-lt-MOST_NAMES.branch [
            | else-count-lt-MOST_NAMES-via-then-count-lt-MOST_NAMES+else-is_told v ↦
                (let untold : left ≡ rest =
                names-untold k s p t es ks i v.index-entries-i.result h g v.index-entries-i.is (sym v.is_told.ensures ∙ v.if-is_told.false) in
                record {
                  few = omega (arith, counted, c.loop-i.invariant.few);
                  names = none-told T U lead next n m left rest untold put led counted ∙ c.loop-i.invariant.names;
                  counted = omega (arith, counted, ap length untold, c.loop-i.invariant.counted);
                })
            | else-count-lt-MOST_NAMES-via-else-count-lt-MOST_NAMES v ↦
                (let full : 6 ≤ n = v.if-count-lt-MOST_NAMES.false in
                record {
                  few = omega (arith, counted, c.loop-i.invariant.few);
                  names = full-told T U lead next n m left rest full put counted ∙ c.loop-i.invariant.names;
                  counted = omega (arith, counted, full, c.loop-i.invariant.few, c.loop-i.invariant.counted);
                })
          ])
    ]
