use Rattle.fy_phrase.specs.Reads.{reads}
use Rattle.fy_derive.specs.Reading.{plain_derivation}
use Rattle.fy_build.specs.Errors.{of_shaping}
use Rattle.fy_build.proofs.Refusals.{shaping_refuses, given_error, exact_error, exact_image}
use Rattle.fy_build.proofs.building.build.Goals as goal

pub image_of-requires-clause-table : goal.image_of-requires-clause-table
image_of-requires-clause-table c = record {
  derivation = plain_derivation c.args.d.now;
  accepted = c.in_ok-check.ensures;
  pairs = c.in_ok-table.ensures.shaping.0;
}

pub returns-clause-selected : goal.returns-clause-selected
returns-clause-selected c = (c.in_ok-table.table, c.in_ok-table.ensures.shaping.0, c.in_ok-table.ensures.ordered, c.in_ok-image.ensures.selected)

pub returns-in_err-table-clause-exact : goal.returns-in_err-table-clause-exact
returns-in_err-table-clause-exact c =
    let p = reads c.args.p.now in
    let d = plain_derivation c.args.d.now in
    let error = c.in_err-table.field-0.0 in
    let shaping = c.in_err-table.ensures.shaping in
    exact_error p d (of_shaping error) c.from_residual-in_err-table.result (given_error c.from_residual-in_err-table.result (of_shaping error) c.from_residual-in_err-table.ensures.1)
    (shaping_refuses p d error c.in_ok-check.ensures shaping)

pub returns-clause-exact : goal.returns-clause-exact
returns-clause-exact c =
    exact_image (reads c.args.p.now) (plain_derivation c.args.d.now) c.in_ok-table.table _ c.in_ok-check.ensures c.in_ok-table.ensures.shaping
