use Rattle.fy_phrase.specs.Reads.{reads}
use Rattle.fy_derive.specs.Reading.{plain_derivation}
use Rattle.fy_expand.proofs.PhraseLemmas.{judged-limits, judged-full, judged-names}
use Rattle.fy_front.specs.Checked.{find_refusal, shapes_refusal, IsRefusedFor, failure_of, IfRefused}
use Rattle.fy_front.proofs.Checking.{handed, is_program, not_found, not_shaped, without_core}
use Rattle.fy_front.proofs.Nodes.{judged-nodes}
use Rattle.fy_front.proofs.texts.program_of.Goals as goal

pub returns-in_err-core-clause-refused : goal.returns-in_err-core-clause-refused
returns-in_err-core-clause-refused c =
    let e = c.in_err-core.field-0.0 in
    handed c.from_residual.result e (IfRefused (IsRefusedFor c.args.text.now)) c.from_residual.ensures.1 (without_core c.args.text.now e c.in_err-core.ensures.refused)

pub returns-in_err-derivation-clause-refused : goal.returns-in_err-derivation-clause-refused
returns-in_err-derivation-clause-refused c =
    let e = c.in_err-derivation.field-0.0 in
    handed c.from_residual-in_err-derivation.result (failure_of (find_refusal e)) (IfRefused (IsRefusedFor c.args.text.now)) c.from_residual-in_err-derivation.ensures.1
    (not_found c.args.text.now (reads c.in_ok-core.core.phrase) e c.in_ok-core.ensures.core.is_judged c.in_err-derivation.ensures.found)

pub shapes_of-requires : goal.shapes_of-requires
shapes_of-requires c =
    let p = reads c.in_ok-core.core.phrase in
    let judged = c.in_ok-core.ensures.core.is_judged in
    let limits = c.in_ok-derivation.ensures.limits (judged-limits c.args.text.now p judged) in
    record { nodes = judged-nodes c.args.text.now p judged; few = limits.few; shallow = limits.shallow; accepted = c.in_ok-derivation.ensures.found.1 }

pub returns-in_err-table-clause-refused : goal.returns-in_err-table-clause-refused
returns-in_err-table-clause-refused c =
    let text = c.args.text.now in
    let p = reads c.in_ok-core.core.phrase in
    let d = plain_derivation c.in_ok-derivation.derivation in
    let found = c.in_ok-derivation.ensures.found in
    let e = c.in_err-table.field-0.0 in
    handed c.from_residual-in_err-table.result (failure_of (shapes_refusal e)) (IfRefused (IsRefusedFor text)) c.from_residual-in_err-table.ensures.1
    (not_shaped text p d e (record { is_program = is_program text p d c.in_ok-core.ensures.core.is_judged found.0 found.1; accepted = found.1; full = c.in_ok-derivation.ensures.pairs })
    c.in_err-table.ensures.shaping)

pub returns-clause-program : goal.returns-clause-program
returns-clause-program c =
    let text = c.args.text.now in
    let core = c.in_ok-core.core in
    let p = reads core.phrase in
    let d = plain_derivation c.in_ok-derivation.derivation in
    let found = c.in_ok-derivation.ensures.found in
    let read = c.in_ok-core.ensures.core in
    let limits = judged-limits text p read.is_judged in
    let full = judged-full text p read.is_judged in
    let named = judged-names text p read.named.tokens core.names read.is_judged read.named.read in
    record {
      is_program = is_program text p d read.is_judged found.0 found.1;
      shallow = read.shallow;
      named = read.named;
      derived = found.1;
      limits = c.in_ok-derivation.ensures.limits limits;
      printable = c.in_ok-derivation.ensures.printable limits full core.names named;
      full = c.in_ok-derivation.ensures.pairs;
      table_is = c.in_ok-table.ensures.shaping.0;
      table_limits = c.in_ok-table.ensures.shaping.1;
      table_ordered = c.in_ok-table.ensures.ordered;
    }
