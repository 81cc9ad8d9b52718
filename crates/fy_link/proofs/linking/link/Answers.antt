use Rattle.std.proofs.Common.{◌≡◌, ◌⊎◌, List, map, sym, subst, arith}
use Rattle.std.specs.Prelude.{Ok, Some, None}
use Rattle.std.proofs.lemmas.Result.{err_from_is_err_and}
use Rattle.fy_base.specs.Outside.{Bytes}
use Rattle.fy_phrase.specs.Reads.{reads}
use Rattle.fy_expand.specs.Judged.{IsJudgedFrom}
use Rattle.fy_derive.specs.Reading.{plain_derivation}
use Rattle.fy_front.specs.Checked.{IfRefused, IsUnjudgedFrom}
use Rattle.fy_link.specs.declared.error.LinkError.TheVariants as refused
use Rattle.fy_link.specs.declared.unit.Unit.{Unit as UnitValue}
use Rattle.fy_link.specs.Answers.{link_of_text}
use Rattle.fy_link.specs.Composed.{composed_derivation}
use Rattle.fy_link.specs.Joined.{IsJoinedText}
use Rattle.fy_link.specs.Links.{IsUnlinked, IsTooLarge, link_fault}
use Rattle.fy_link.specs.Read.{source_in}
use Rattle.fy_link.specs.Units.{plain_unit}
use Rattle.fy_link.proofs.TextRefusals.{link-handed, units-unlinked, text-unlinked, long-unlinked, large-unlinked, said-linked}
use Rattle.fy_link.proofs.linking.link.Goals as goal

pub returns-in_err-judge_units-clause-err : goal.returns-in_err-judge_units-clause-err
returns-in_err-judge_units-clause-err c =
    let p = err_from_is_err_and c.from_residual.result c.from_residual.ensures.1 in
    let e = c.in_err-judge_units.field-0.0 in
    link-handed (IsUnlinked c.args.names.now c.args.units.now) c.from_residual.result p.0 e p.1 p.2
    (units-unlinked c.args.names.now c.args.units.now e c.requires.units
    (subst (λ (vs : List UnitValue). (e ≡ refused.OutOfMemory) ⊎ (link_fault (map source_in vs) ≡ Some e)) c.as_slice-units.ensures c.in_err-judge_units.ensures.err))

pub returns-in_err-text-clause-err : goal.returns-in_err-text-clause-err
returns-in_err-text-clause-err c =
    let p = err_from_is_err_and c.from_residual-in_err-text.result c.from_residual-in_err-text.ensures.1 in
    link-handed (IsUnlinked c.args.names.now c.args.units.now) c.from_residual-in_err-text.result p.0 refused.OutOfMemory p.1 p.2 IsUnlinked.of_memory

pub returns-then-len-gt-MOST_BYTES-clause-err : goal.returns-then-len-gt-MOST_BYTES-clause-err
returns-then-len-gt-MOST_BYTES-clause-err c =
    let f = subst (λ (vs : List UnitValue). link_fault (map source_in vs) ≡ None) c.as_slice-units.ensures c.in_ok-judge_units.ensures.ok in
    let t = subst (λ (vs : List UnitValue). IsJoinedText c.args.names.now vs c.in_ok-text.text.items) c.as_slice-units.ensures c.in_ok-text.ensures in
    long-unlinked c.args.names.now c.args.units.now c.in_ok-text.text.items c.requires.units f t (omega (arith, c.if-len-gt-MOST_BYTES.true, c.len.ensures))

pub returns-in_err-phrase-clause-err : goal.returns-in_err-phrase-clause-err
returns-in_err-phrase-clause-err c =
    let p = err_from_is_err_and c.from_residual-in_err-phrase.result c.from_residual-in_err-phrase.ensures.1 in
    let f = subst (λ (vs : List UnitValue). link_fault (map source_in vs) ≡ None) c.as_slice-units.ensures c.in_ok-judge_units.ensures.ok in
    let t = subst (λ (vs : List UnitValue). IsJoinedText c.args.names.now vs c.in_ok-text.text.items) c.as_slice-units.ensures c.in_ok-text.ensures in
    let e = c.in_err-phrase.field-0.0 in
    link-handed (IsUnlinked c.args.names.now c.args.units.now) c.from_residual-in_err-phrase.result p.0 (link_of_text e) p.1 p.2
    (text-unlinked c.args.names.now c.args.units.now c.in_ok-text.text.items e c.requires.units f t
    (subst (λ (l : Bytes). IfRefused (IsUnjudgedFrom c.args.names.now l) e) c.deref.ensures.value c.in_err-phrase.ensures.refused))

pub returns-in_err-derivation-clause-err : goal.returns-in_err-derivation-clause-err
returns-in_err-derivation-clause-err c =
    let p = err_from_is_err_and c.from_residual-in_err-derivation.result c.from_residual-in_err-derivation.ensures.1 in
    let f = subst (λ (vs : List UnitValue). link_fault (map source_in vs) ≡ None) c.as_slice-units.ensures c.in_ok-judge_units.ensures.ok in
    let t = subst (λ (vs : List UnitValue). IsJoinedText c.args.names.now vs c.in_ok-text.text.items) c.as_slice-units.ensures c.in_ok-text.ensures in
    let j = subst (λ (l : Bytes). IsJudgedFrom c.args.names.now l (Ok (reads c.in_ok-phrase.phrase))) c.deref.ensures.value c.in_ok-phrase.ensures.phrase.is_judged in
    let e = c.in_err-derivation.field-0.0 in
    link-handed (IsUnlinked c.args.names.now c.args.units.now) c.from_residual-in_err-derivation.result p.0 e p.1 p.2
    (large-unlinked c.args.names.now c.args.units.now c.in_ok-text.text.items (reads c.in_ok-phrase.phrase) e c.requires.units f t j
    (subst (λ (vs : List UnitValue). (e ≡ refused.OutOfMemory) ⊎ ((e ≡ refused.TooLarge) × IsTooLarge (map plain_unit vs))) c.as_slice-units.ensures
    c.in_err-derivation.ensures.err))

pub returns-clause-linked : goal.returns-clause-linked
returns-clause-linked c =
    let f = subst (λ (vs : List UnitValue). link_fault (map source_in vs) ≡ None) c.as_slice-units.ensures c.in_ok-judge_units.ensures.ok in
    let t = subst (λ (vs : List UnitValue). IsJoinedText c.args.names.now vs c.in_ok-text.text.items) c.as_slice-units.ensures c.in_ok-text.ensures in
    let j = subst (λ (l : Bytes). IsJudgedFrom c.args.names.now l (Ok (reads c.in_ok-phrase.phrase))) c.deref.ensures.value c.in_ok-phrase.ensures.phrase.is_judged in
    let d = subst (λ (vs : List UnitValue). plain_derivation c.in_ok-derivation.derivation ≡ composed_derivation (map plain_unit vs)) c.as_slice-units.ensures
    c.in_ok-derivation.ensures.composed in
    said-linked c.args.names.now c.args.units.now
    (record { text = c.from_vec-text.result; phrase = c.in_ok-phrase.phrase; derivation = c.in_ok-derivation.derivation }) c.requires.units f
    (subst (λ (l : Bytes). IsJoinedText c.args.names.now c.args.units.now l) (sym c.from_vec-text.ensures) t)
    (subst (λ (l : Bytes). IsJudgedFrom c.args.names.now l (Ok (reads c.in_ok-phrase.phrase))) (sym c.from_vec-text.ensures) j)
    d c.in_ok-derivation.ensures.few c.in_ok-derivation.ensures.shallow
