use Rattle.std.proofs.Common.{sym, eqb-true}
use Rattle.fy_types.specs.Reading.{plain_paths}
use Rattle.fy_types.proofs.Central.{forms-iff}
use Rattle.fy_types.proofs.ReadLemmas.{plain_elem-Call, plain_elem-Field}
use Rattle.fy_types.proofs.Steps.{elem-call, field-elem}
use Rattle.fy_order.proofs.alike.is_alike.Goals as goal

pub returns-then-is_subtype-clause-low : goal.returns-then-is_subtype-clause-low
returns-then-is_subtype-clause-low c =
    let both = rw (c.deref-then-is_subtype.ensures, c.deref-then-is_subtype-2.ensures) at c.is_subtype-then-is_subtype.ensures in
    rw (c.in-Call.is, c.in-Call-y.is, plain_elem-Call c.in-Call.d, plain_elem-Call c.in-Call-y.e)
    (λ r. elem-call.1 ((forms-iff (plain_paths c.in-Call-y.e.value) (plain_paths c.in-Call.d.value)).0 (both.0 r)))

pub returns-then-is_subtype-clause-high : goal.returns-then-is_subtype-clause-high
returns-then-is_subtype-clause-high c =
    let both = rw (c.deref.ensures, c.deref-in-Call-y.ensures) at c.is_subtype.ensures in
    rw (c.in-Call.is, c.in-Call-y.is, plain_elem-Call c.in-Call.d, plain_elem-Call c.in-Call-y.e)
    (λ r. elem-call.1 ((forms-iff (plain_paths c.in-Call.d.value) (plain_paths c.in-Call-y.e.value)).0 (both.0 c.if-is_subtype.true)))

pub returns-in-Field-y-2-clause-low : goal.returns-in-Field-y-2-clause-low
returns-in-Field-y-2-clause-low c =
    rw (c.in-Field.is, c.in-Field-y-2.is, plain_elem-Field c.in-Field.i, plain_elem-Field c.in-Field-y-2.j)
    (λ r. field-elem (eqb-true _ _ r))

pub returns-in-Field-y-2-clause-high : goal.returns-in-Field-y-2-clause-high
returns-in-Field-y-2-clause-high c =
    rw (c.in-Field.is, c.in-Field-y-2.is, plain_elem-Field c.in-Field.i, plain_elem-Field c.in-Field-y-2.j)
    (λ r. field-elem (sym (eqb-true _ _ r)))
