use Rattle.std.proofs.Common.{◌≡◌, ℕ, List, length, sym, ap, ◌∙◌, subst}
use Rattle.std.specs.List.{AllZip}
use Rattle.rv_insn.specs.Encoding.{IsWordOf}
use Rattle.rv_asm.specs.Items.{marks_of}
use Rattle.rv_asm.specs.Assembly.{joined}
use Rattle.rv_asm.specs.Planning.{forms_of, labelled}
use Rattle.rv_asm.proofs.Whole.{is_assembly, as_many_places}
use Rattle.rv_asm.proofs.assembler.assemble.Goals as goal

pub placed_labels-requires : goal.placed_labels-requires
placed_labels-requires c =
    ap (λ (ps : List ℕ). length ps) c.deref.ensures.value ∙ as_many_places c.args.items.now c.in_ok-plan.plan c.in_ok-plan.ensures
    ∙ ap (λ (ls : List ℕ). length ls) (sym (c.as_slice.ensures.keys ∙ c.in_ok-labels.ensures.marks))

pub returns-clause-ok : goal.returns-clause-ok
returns-clause-ok c =
    let items = c.args.items.now in
    let plan = c.in_ok-plan.plan in
    let W : List ℕ → Type 0 = λ words. AllZip IsWordOf (joined (forms_of plan.places.items 0 items plan.choices.items)) words in
    let labels : c.in_ok-labels-2.labels ≡ labelled (marks_of items) plan.places.items = c.in_ok-labels-2.ensures
    ∙ ap (λ ls. labelled ls c.deref.result.now) (c.as_slice.ensures.keys ∙ c.in_ok-labels.ensures.marks) ∙ ap (λ ps. labelled (marks_of items) ps) c.deref.ensures.value in
    is_assembly items plan (record { words = c.from_vec.result; labels = c.in_ok-labels-2.labels }) c.requires c.in_ok-labels.ensures.distinct c.in_ok-far.ensures.known c.in_ok-plan.ensures c.in_ok-words.ensures.small
    (subst W (sym c.from_vec.ensures) c.in_ok-words.ensures.words) labels
