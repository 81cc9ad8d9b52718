use Rattle.std.proofs.Common.{◌≡◌, ◌<◌, map, length, take, ap, ◌∙◌, arith, sym}
use Rattle.std.proofs.lemmas.List.{take_all}
use Rattle.std.proofs.lemmas.Bool.{eqb-false}
use Rattle.fy_base.specs.declared.data.Datum.TheVariants as datum
use Rattle.fy_phrase.specs.Tree.{lit}
use Rattle.fy_expand.proofs.PartLemmas.{reads-text}
use Rattle.fy_expand.proofs.build.text_parts.Goals as goal

pub returns : goal.returns
returns c =
    let bytes = c.args.bytes.now in
    let all : take c.loop-byte.byte-index bytes ≡ bytes = take_all c.loop-byte.byte-index bytes (omega arith) in
    let some = eqb-false (length bytes) 0 (sym c.is_empty.ensures ∙ c.if-is_empty.false) in
    let more : 0 < length bytes = omega arith in
    reads-text c.loop-byte.made c.args.at bytes (c.loop-byte.invariant ∙ ap (map (λ b. lit (datum.Char b) c.args.at)) all) more
