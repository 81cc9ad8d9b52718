use Rattle.std.proofs.Common.{sym, ap, ◌∙◌, length, drop, arith}
use Rattle.std.specs.List.{flat_map}
use Rattle.byteorder.specs.Endian.{little_bytes}
use Rattle.rv_insn.specs.Memory.{load_value}
use Rattle.rv_machine.proofs.Parts.{in_double, number_at}
use Rattle.rv_machine.proofs.memory.value_in_table.Goals as goal

pub bounds-table-offset : goal.bounds-table-offset
bounds-table-offset c = (in_double c.args.op c.args.offset (length c.args.table.now) c.requires.aligned c.requires.inside).0

pub returns : goal.returns
returns c = λ program same.
    let within = in_double c.args.op c.args.offset (length c.args.table.now) c.requires.aligned c.requires.inside in
    c.value_of_number.ensures _ (number_at 8 c.args.table.now c.args.offset _ _ _ (omega arith) within.0 within.1)
    ∙ ap (λ t. load_value c.args.op (drop c.args.offset (flat_map (λ word. little_bytes 8 word) t))) (sym same)
