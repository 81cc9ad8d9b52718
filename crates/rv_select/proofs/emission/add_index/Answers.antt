use Rattle.std.proofs.Common.{◌≡◌, Some, None, sym, ap, ◌∙◌, arith}
use Rattle.pe_code.specs.declared.code.PeCode.{PeCode}
use Rattle.rv_select.proofs.Emitted.{if_ok, same_blocks}
use Rattle.rv_select.proofs.emission.add_index.Goals as goal

pub row-requires : goal.row-requires
row-requires c =
    let value = sym (ap (λ (z : PeCode). z.sequences.value) c.code.ensures.same) ∙ c.in-Some.is in
    c.code.ensures.valid.asked 1 None (omega arith) c.in-Some.shape value

pub returns-in-Some : goal.returns-in-Some
returns-in-Some c =
    let value : c.args.numbers.now.sequences.value ≡ Some c.in-Some.shape = sym (ap (λ (z : PeCode). z.sequences.value) c.code.ensures.same) ∙ c.in-Some.is in
    rw value (if_ok c.add.result (λ last. same_blocks last (cc)) c.add.ensures)

pub returns-in-None : goal.returns-in-None
returns-in-None c =
    let value : c.args.numbers.now.sequences.value ≡ None = sym (ap (λ (z : PeCode). z.sequences.value) c.code.ensures.same) ∙ c.in-None.is in
    rw value c.add-in-None.ensures
