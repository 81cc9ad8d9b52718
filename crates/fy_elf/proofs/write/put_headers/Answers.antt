use Rattle.fy_elf.proofs.Segments.{headers_put}
use Rattle.fy_elf.proofs.write.put_headers.Goals as goal

pub returns : goal.returns
returns c =
    headers_put c.args.sizes.now _ _ _ _ _ _ _ _ _ _ _ c.file_header.ensures c.code_segment.ensures c.table_segment.ensures c.stack_segment.ensures c.note_segment.ensures
    c.in_ok-put_numbers.ensures c.in_ok-put_segment.ensures c.in_ok-put_segment-2.ensures c.in_ok-put_segment-3.ensures c.in_ok-put_segment-4.ensures
