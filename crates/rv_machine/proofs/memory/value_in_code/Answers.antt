use Rattle.std.proofs.Common.{sym, ap, ◌∙◌, length, drop, ◌/◌, ◌+◌, arith}
use Rattle.std.specs.List.{flat_map}
use Rattle.byteorder.specs.Endian.{little_bytes}
use Rattle.rv_insn.specs.Memory.{load_value}
use Rattle.rv_machine.proofs.Parts.{in_code, in_word, in_two, number_at, number_in_two, double_fits}
use Rattle.rv_machine.proofs.memory.value_in_code.Goals as goal

pub bounds-words-k : goal.bounds-words-k
bounds-words-k c = in_code c.args.op c.args.offset (length c.args.words.now) c.requires.inside

pub returns-then-size_of_load-eq8 : goal.returns-then-size_of_load-eq8
returns-then-size_of_load-eq8 c = λ program same.
    let eight = sym c.size_of_load.ensures.size ∙ c.if-size_of_load-eq8.true in
    let within = in_two _ c.args.offset (length c.args.words.now) eight c.requires.aligned c.requires.inside in
    let low = c.type_inv.words (c.args.offset / 4) in
    let high = c.type_inv.words (c.args.offset / 4 + 1) in
    c.value_of_number.ensures _ (number_in_two c.args.words.now c.args.offset _ _ eight (omega arith) within.0 (omega arith) (omega arith) ∙ double_fits _ _ eight (omega arith))
    ∙ ap (λ ws. load_value c.args.op (drop c.args.offset (flat_map (λ word. little_bytes 4 word) ws))) (sym same)

pub returns : goal.returns
returns c = λ program same.
    let within = in_code c.args.op c.args.offset (length c.args.words.now) c.requires.inside in
    let short = in_word c.args.op c.args.offset c.requires.aligned (λ eight. c.if-size_of_load-eq8.false (c.size_of_load.ensures.size ∙ eight)) in
    c.value_of_number-2.ensures _ (number_at 4 c.args.words.now c.args.offset _ _ _ (omega arith) within short)
    ∙ ap (λ ws. load_value c.args.op (drop c.args.offset (flat_map (λ word. little_bytes 4 word) ws))) (sym same)
