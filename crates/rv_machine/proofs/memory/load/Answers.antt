use Rattle.std.proofs.Common.{sym, ap, ◌∙◌, ◌-◌, refl, Ok}
use Rattle.rv_insn.specs.Program.{stack_start}
use Rattle.rv_insn.specs.Memory.{load_value}
use Rattle.rv_machine.proofs.Accesses.{load_unaligned, load_in_stack, load_in_table, load_in_code, load_outside, aligned_behind, all_behind}
use Rattle.rv_machine.proofs.memory.load.Goals as goal

pub returns-then-address-size-ne0 : goal.returns-then-address-size-ne0
returns-then-address-size-ne0 c = λ program words table. load_unaligned program _ _ c.args.address _ c.size_of_load-size.ensures.size c.if-address-size-ne0.true

pub returns-then-is_within : goal.returns-then-is_within
returns-then-is_within c = λ program words table.
    load_in_stack program c.args.stack.now _ c.args.address _ c.size_of_load-size.ensures.size c.if-address-size-ne0.false c.if-is_within.ensures
    ∙ ap Ok (sym (c.value_of_bytes.ensures ∙ ap (load_value c.args.op) (all_behind c.args.stack.now (c.args.address - stack_start))))

pub value_in_table-requires-clause-aligned : goal.value_in_table-requires-clause-aligned
value_in_table-requires-clause-aligned c = aligned_behind c.args.op c.args.address _ _ c.size_of_load-size.ensures.size c.if-address-size-ne0.false refl

pub returns-then-is_within-2 : goal.returns-then-is_within-2
returns-then-is_within-2 c = λ program words table.
    load_in_table program _ _ _ c.args.address _ c.size_of_load-size.ensures.size table c.if-address-size-ne0.false c.if-is_within.ensures c.if-is_within-2.ensures
    ∙ ap Ok (sym (c.value_in_table.ensures program table))

pub value_in_code-requires-clause-aligned : goal.value_in_code-requires-clause-aligned
value_in_code-requires-clause-aligned c = aligned_behind c.args.op c.args.address _ _ c.size_of_load-size.ensures.size c.if-address-size-ne0.false refl

pub returns-then-is_within-3 : goal.returns-then-is_within-3
returns-then-is_within-3 c = λ program words table.
    load_in_code program _ _ _ _ c.args.address _ c.size_of_load-size.ensures.size table words c.if-address-size-ne0.false c.if-is_within.ensures c.if-is_within-2.ensures c.if-is_within-3.ensures
    ∙ ap Ok (sym (c.value_in_code.ensures program words))

pub returns : goal.returns
returns c = λ program words table.
    load_outside program _ _ _ _ c.args.address _ c.size_of_load-size.ensures.size table words c.if-address-size-ne0.false c.if-is_within.ensures c.if-is_within-2.ensures c.if-is_within-3.ensures
