use Rattle.fy_tool.proofs.ReadUnits.{holds_none}
use Rattle.fy_tool.proofs.objects.object_in.Goals as goal

pub returns-in-Err-BadUnit-clause-read : goal.returns-in-Err-BadUnit-clause-read
returns-in-Err-BadUnit-clause-read g c =
    let content = rw c.in-Ok-Some.field-0-is at c.in-Ok-Some.ensures.content in
    let err = rw (c.in-Err-BadUnit.field-0-is, c.as_slice.ensures.value) at c.in-Err-BadUnit.ensures.err in
    holds_none c.args.file.now _ c.args.names.now c.read_unit.new.names c.in-Ok-Some.bytes.items content.0 err
