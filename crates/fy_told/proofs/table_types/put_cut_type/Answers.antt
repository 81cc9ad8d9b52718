use Rattle.std.proofs.Common.{◌++◌, ap, ◌∙◌, take}
use Rattle.std.proofs.lemmas.Result.{on_ok_weaker}
use Rattle.fy_derive.specs.Shown.{shown}
use Rattle.fy_short.specs.Cut.{cut}
use Rattle.fy_short.specs.ShortTypes.{short_type}
use Rattle.fy_told.proofs.WithinLemmas.{cut-same}
use Rattle.fy_told.proofs.table_types.put_cut_type.Goals as goal

pub returns : goal.returns
returns c =
    let S = short_type c.args.names.now (shown c.args.table.now c.args.number) in
    on_ok_weaker c.put_cut.result
    (λ e. e
    ∙ ap (λ x. c.args.text.now.items ++ x) (ap (cut 60) c.deref.ensures.value
    ∙ cut-same 60 _ S (c.in_ok-put_type_within.ensures ∙ ap (λ x. take 61 (x ++ S)) c.new-whole.ensures.items)))
    c.put_cut.ensures
