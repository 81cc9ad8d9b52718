use Rattle.std.proofs.Common.{◌≡◌, [], ◌+◌, ◌-◌, drop, ap, ◌∙◌, arith}
use Rattle.fy_phrase.specs.Copy.{content_of}
use Rattle.fy_copy.specs.Shown.{rows_onto}
use Rattle.fy_copy.specs.declared.context.Row.{Row}
use Rattle.fy_copy.proofs.StoreLemmas.{is_newest, none_so_far}
use Rattle.fy_copy.proofs.store.find.Goals as goal

pub returns-then-store-i-clause-found : goal.returns-then-store-i-clause-found
returns-then-store-i-clause-found c =
    let e : c.loop-i.i - 1 + 1 ≡ c.loop-i.i = omega arith in
    is_newest c.args.n (c.loop-i.i - 1) c.args.store.now c.index-store-i.result (omega arith) c.index-store-i.is (ap (λ (r : Row). r.number) c.index-store-i.is ∙ c.if-store-i.true)
    (ap (λ k. content_of c.args.n (rows_onto [] (drop k c.args.store.now))) e ∙ c.loop-i.invariant)

pub loop-i-preserved : goal.loop-i-preserved
loop-i-preserved c =
    let e : c.loop-i.i - 1 + 1 ≡ c.loop-i.i = omega arith in
    none_so_far c.args.n (c.loop-i.i - 1) c.args.store.now c.index-store-i.result (omega arith) c.if-store-i.false
    (ap (λ k. content_of c.args.n (rows_onto [] (drop k c.args.store.now))) e ∙ c.loop-i.invariant)

pub returns-clause-none : goal.returns-clause-none
returns-clause-none c =
    let e : 0 ≡ c.loop-i.i = omega arith in
    ap (λ k. content_of c.args.n (rows_onto [] (drop k c.args.store.now))) e ∙ c.loop-i.invariant
