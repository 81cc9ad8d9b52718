use Rattle.std.proofs.Common.{◌∙◌, length, take, get_or, sym, ap, subst, arith}
use Rattle.std.specs.Prelude.{Some}
use Rattle.fy_read.specs.FieldNames.{HasAddedFrom}
use Rattle.fy_read.specs.Naming.{names_along, begun_words}
use Rattle.fy_read.specs.Readers.{spot_of}
use Rattle.fy_read.proofs.FineLemmas.{keeps_none}
use Rattle.fy_read.proofs.GainLemmas.{few_begun, few_with, few_ended, few_or, gains_none, gains_with, gains_or, gains_at, along_more, numbers_fields}
use Rattle.fy_read.proofs.WholeLemmas.{keeps_throughout, led_more, read_more, read_all, stop_at, stop_at_end, keep_on, fault_at, deep_at, fine_at, keeps_all, led_all, fault_at_end, deep_at_end}
use Rattle.fy_read.proofs.read.whole.Goals as goal

pub loop-offset-init : goal.loop-offset-init
loop-offset-init c = record {
  read = c.new-reader.ensures.read c.args.names.now;
  led = ap (λ s. Some s) (sym c.new-reader.ensures.spot);
  sound = c.new-reader.ensures.sound;
  keeps = keeps_none c.args.text.now;
  within = omega arith;
  named = ap (λ s. names_along (Some s) c.args.text.now c.args.names.now) (sym c.new-reader.ensures.spot);
  gains = gains_none c.args.text.now c.args.names.now;
  few = omega (arith, ap begun_words c.new-reader.ensures.spot);
}

pub is_too_deep_before-requires : goal.is_too_deep_before-requires
is_too_deep_before-requires c = record { sound = c.loop-offset.invariant.sound }

pub returns-then-is_too_deep_before-clause-err : goal.returns-then-is_too_deep_before-clause-err
returns-then-is_too_deep_before-clause-err c =
    let i = c.loop-offset.invariant in
    let t = c.is_too_deep_before.ensures.deep c.if-is_too_deep_before.true in
    deep_at c.args.text.now c.loop-offset.offset c.loop-offset-test.true i.sound i.read t.1 t.0 i.keeps

pub step-requires : goal.step-requires
step-requires c =
    let i = c.loop-offset.invariant in
    let within = c.loop-offset-test.true in
    record {
      room = omega
          (arith, i.few, within, c.requires.few_names, c.requires.short);
      sound = i.sound;
      shallow = c.is_too_deep_before.ensures.room c.if-is_too_deep_before.false;
    }

pub loop-offset-preserved : goal.loop-offset-preserved
loop-offset-preserved c =
    let i = c.loop-offset.invariant in
    let text = c.args.text.now in
    let k = c.loop-offset.offset in
    let within = c.loop-offset-test.true in
    let led = c.in-Ok.ensures.led in
    let names = c.loop-offset.names in
    let s = spot_of c.loop-offset.reader in
    let t = spot_of c.step.new.self in
    record {
      read = read_more text k within (c.in-Ok.ensures.read (take k text) i.read);
      led = led_more text k (spot_of c.loop-offset.reader) (spot_of c.step.new.self) within i.led led.at;
      sound = led.sound;
      keeps = keep_on text k within i.keeps
          (fine_at text k within i.sound i.read i.led (c.is_too_deep_before.ensures.room c.if-is_too_deep_before.false));
      within = omega (arith, within);
      named = i.named
          ∙ along_more text k s t names c.step.new.names within led.at c.in-Ok.ensures.named;
      gains = subst (HasAddedFrom text c.args.names.now) (sym c.in-Ok.ensures.named)
          (gains_with c.args.names.now names s (get_or text k 0) i.gains (gains_at text k c.args.names.now names i.sound i.read i.gains));
      few = omega (arith, i.few, ap length c.in-Ok.ensures.named, few_with s (get_or text k 0) names, few_begun t);
    }

pub returns-in-Err-clause-err : goal.returns-in-Err-clause-err
returns-in-Err-clause-err c =
    let i = c.loop-offset.invariant in
    let text = c.args.text.now in
    let k = c.loop-offset.offset in
    let within = c.loop-offset-test.true in
    fault_at text k c.in-Err.stop within
    (λ is. stop_at text k (spot_of c.loop-offset.reader) within i.led (c.in-Err.ensures.misfit is))
    (c.in-Err.ensures.limits (take k text) i.read) (fine_at text k within i.sound i.read i.led
    (c.is_too_deep_before.ensures.room c.if-is_too_deep_before.false)) i.keeps

pub returns-in-Err-clause-names : goal.returns-in-Err-clause-names
returns-in-Err-clause-names c =
    let i = c.loop-offset.invariant in
    let text = c.args.text.now in
    let k = c.loop-offset.offset in
    let first = c.args.names.now in
    let names = c.loop-offset.names in
    gains_or i.gains
    (gains_with first names (spot_of c.loop-offset.reader) (get_or text k 0) i.gains (gains_at text k first names i.sound i.read i.gains))
    c.in-Err.ensures.names

pub returns-in-Err-clause-few : goal.returns-in-Err-clause-few
returns-in-Err-clause-few c =
    let i = c.loop-offset.invariant in
    let names = c.loop-offset.names in
    let s = spot_of c.loop-offset.reader in
    few_or _ (omega (arith, i.few, c.loop-offset-test.true))
    (omega (arith, i.few, c.loop-offset-test.true, few_with s (get_or c.args.text.now c.loop-offset.offset 0) names)) c.in-Err.ensures.names

pub is_too_deep-requires : goal.is_too_deep-requires
is_too_deep-requires c = record { sound = c.loop-offset.invariant.sound }

pub returns-then-is_too_deep-clause-err : goal.returns-then-is_too_deep-clause-err
returns-then-is_too_deep-clause-err c =
    let i = c.loop-offset.invariant in
    let text = c.args.text.now in
    let k = c.loop-offset.offset in
    let all = c.loop-offset-test.false in
    deep_at_end text i.sound (read_all text k all i.read) (c.is_too_deep.ensures.deep c.if-is_too_deep.true) (keeps_all text k all i.keeps)

pub into_whole-requires-clause-shallow : goal.into_whole-requires-clause-shallow
into_whole-requires-clause-shallow c = c.is_too_deep.ensures.room c.if-is_too_deep.false

pub returns-in-Ok-into_whole-clause-ok : goal.returns-in-Ok-into_whole-clause-ok
returns-in-Ok-into_whole-clause-ok c =
    let text = c.args.text.now in c.in-Ok-into_whole.ensures.read text
    (read_all text c.loop-offset.offset c.loop-offset-test.false c.loop-offset.invariant.read)

pub returns-in-Ok-into_whole-clause-within : goal.returns-in-Ok-into_whole-clause-within
returns-in-Ok-into_whole-clause-within c =
    let text = c.args.text.now in c.in-Ok-into_whole.ensures.within text
    (read_all text c.loop-offset.offset c.loop-offset-test.false c.loop-offset.invariant.read)

pub returns-in-Err-into_whole-clause-err : goal.returns-in-Err-into_whole-clause-err
returns-in-Err-into_whole-clause-err c =
    let i = c.loop-offset.invariant in
    let text = c.args.text.now in
    let k = c.loop-offset.offset in
    let all = c.loop-offset-test.false in
    fault_at_end text c.in-Err-into_whole.stop
    (λ is. stop_at_end text k (spot_of c.loop-offset.reader) all i.led (c.in-Err-into_whole.ensures.err is))
    c.in-Err-into_whole.ensures.plain i.sound (read_all text k all i.read) (led_all text k (spot_of c.loop-offset.reader) all i.led)
    (c.is_too_deep.ensures.room c.if-is_too_deep.false) (keeps_all text k all i.keeps)

pub returns-in-Ok-into_whole-clause-named : goal.returns-in-Ok-into_whole-clause-named
returns-in-Ok-into_whole-clause-named c =
    let i = c.loop-offset.invariant in
    let text = c.args.text.now in
    let k = c.loop-offset.offset in
    let all = c.loop-offset-test.false in
    let read = c.in-Ok-into_whole.ensures.read text (read_all text k all i.read) in
    numbers_fields text k (spot_of c.loop-offset.reader) c.args.names.now c.loop-offset.names all i.named c.in-Ok-into_whole.ensures.named read

pub returns-in-Ok-into_whole-clause-keeps : goal.returns-in-Ok-into_whole-clause-keeps
returns-in-Ok-into_whole-clause-keeps c =
    let i = c.loop-offset.invariant in
    let text = c.args.text.now in
    let k = c.loop-offset.offset in
    let all = c.loop-offset-test.false in
    keeps_throughout text i.sound (read_all text k all i.read) (led_all text k (spot_of c.loop-offset.reader) all i.led)
    (c.is_too_deep.ensures.room c.if-is_too_deep.false) (keeps_all text k all i.keeps)

pub returns-in-Ok-into_whole-clause-names : goal.returns-in-Ok-into_whole-clause-names
returns-in-Ok-into_whole-clause-names c =
    let i = c.loop-offset.invariant in
    gains_or i.gains (gains_at c.args.text.now c.loop-offset.offset c.args.names.now c.loop-offset.names i.sound i.read i.gains)
    c.in-Ok-into_whole.ensures.names

pub returns-in-Ok-into_whole-clause-few : goal.returns-in-Ok-into_whole-clause-few
returns-in-Ok-into_whole-clause-few c =
    let i = c.loop-offset.invariant in
    few_or _ (omega (arith, i.few, i.within)) (omega (arith, i.few, i.within, few_ended (spot_of c.loop-offset.reader) c.loop-offset.names))
    c.in-Ok-into_whole.ensures.names

pub returns-in-Err-into_whole-clause-names : goal.returns-in-Err-into_whole-clause-names
returns-in-Err-into_whole-clause-names c =
    let i = c.loop-offset.invariant in
    gains_or i.gains (gains_at c.args.text.now c.loop-offset.offset c.args.names.now c.loop-offset.names i.sound i.read i.gains)
    c.in-Err-into_whole.ensures.names

pub returns-in-Err-into_whole-clause-few : goal.returns-in-Err-into_whole-clause-few
returns-in-Err-into_whole-clause-few c =
    let i = c.loop-offset.invariant in
    few_or _ (omega (arith, i.few, i.within)) (omega (arith, i.few, i.within, few_ended (spot_of c.loop-offset.reader) c.loop-offset.names))
    c.in-Err-into_whole.ensures.names
