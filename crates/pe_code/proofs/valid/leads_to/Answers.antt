use Rattle.std.proofs.Common.{◌<◌, ◌≤◌, length, eqb-true, eq-eqb, sym, arith}
use Rattle.std.proofs.lemmas.Bool.{ltb-true, ltb-false}
use Rattle.pe_code.proofs.ValidLemmas.{leads-from, leads-depth, leads-within}
use Rattle.pe_code.proofs.valid.leads_to.Goals as goal

pub returns-in-Some : goal.returns-in-Some
returns-in-Some c =
    let code = c.args.code.now in
    let item = c.in-Some.item.now in
    let within : c.args.address < length code.items = rw c.as_slice.ensures at (ltb-true _ _ (sym c.in-Some.ensures.lookup.0)) in
    let is = rw c.as_slice.ensures at c.in-Some.ensures.lookup.1 in (
      λ t. leads-from code c.args.depth c.args.address item within is (eqb-true _ _ t),
      λ h. eq-eqb _ _ (leads-depth code c.args.depth c.args.address item is h),
    )

pub returns-in-None : goal.returns-in-None
returns-in-None c =
    let code = c.args.code.now in
    let past : length code.items ≤ c.args.address = rw c.as_slice.ensures at (ltb-false _ _ (sym c.in-None.ensures.lookup.0)) in (
      λ t. absurd (cc),
      λ h. let within = leads-within code c.args.depth c.args.address h in absurd (omega arith),
    )
