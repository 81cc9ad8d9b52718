use Rattle.std.proofs.Common.{List, refl, sym, ap, ◌∙◌, subst, length, arith}
use Rattle.fy_link.specs.declared.unit.Unit.{Unit as UnitValue}
use Rattle.fy_world.specs.Counted.{HasCalled}
use Rattle.fy_world.proofs.Counting.{called_none, called_same}
use Rattle.fy_tool.proofs.ReadUnits.{called_step, called_stop, few_known, none_read, few_values, read_end, read_faulted, read_short, read_step, read_stop, read_unfetched, stopped_short}
use Rattle.fy_tool.proofs.objects.objects_in.Goals as goal

pub loop-file-init : goal.loop-file-init
loop-file-init g c = record { stays = refl; read = none_read _ _ _ c.new-units.ensures.items c.in-Ok.ensures; calls = called_same _ 0 _ _ refl; counts = refl; same = refl }

pub object_in-requires : goal.object_in-requires
object_in-requires g c = few_known _ c.loop-file.file-index c.args.files.now c.loop-file.units.items _ c.requires c.loop-file.invariant.read

pub loop-file-preserved : goal.loop-file-preserved
loop-file-preserved g c =
    let object = rw c.in-Ok-Some.field-0-is at c.in-Ok-Some.ensures.read in
    record {
      stays = c.in-Ok-Some.ensures.holds ∙ c.loop-file.invariant.stays;
      read = read_step _ _ c.args.files.now c.loop-file.file-index _ c.loop-file.units.items _ _ _ c.in-Ok-Some.unit c.loop-file.invariant.stays c.loop-file.invariant.read c.loop-file-test.true object c.in-Ok-Some.ensures.names
          c.in-Ok-Some.ensures.few c.in-Ok-push.ensures.items;
      calls = called_step c.loop-file.units.items _ c.in-Ok-Some.unit _ _ _ c.in-Ok-push.ensures.items c.loop-file.invariant.calls c.in-Ok-Some.ensures.called;
      counts = c.in-Ok-Some.ensures.counted ∙ c.loop-file.invariant.counts;
      same = c.in-Ok-Some.ensures.same ∙ c.loop-file.invariant.same;
    }

pub returns-in-Ok-None-clause-read : goal.returns-in-Ok-None-clause-read
returns-in-Ok-None-clause-read g c =
    let object = rw c.in-Ok-None.field-0-is at c.in-Ok-None.ensures.read in
    read_stop _ _ c.args.files.now c.loop-file.file-index _ c.loop-file.units.items _ _ _ c.loop-file.invariant.stays c.loop-file.invariant.read c.loop-file-test.true object (ap length c.as_slice.ensures.value)

pub returns-in-Err-object_in-clause-counted : goal.returns-in-Err-object_in-clause-counted
returns-in-Err-object_in-clause-counted g c =
    read_faulted c.args.files.now c.loop-file.file-index _ c.in-Err-object_in.stop _ _ _ c.loop-file-test.true c.loop-file.invariant.counts c.in-Err-object_in.ensures.counted

pub returns-clause-read : goal.returns-clause-read
returns-clause-read g c = read_end (g.W.World.holds c.args.world.now) c.args.files.now c.loop-file.file-index c.loop-file.units.items _ (omega (arith, c.loop-file-test.false)) c.requires c.loop-file.invariant.read c.from_vec.ensures

pub overflow_cast-result : goal.overflow_cast-result
overflow_cast-result g c =
    let few = few_values _ c.loop-file.file-index c.args.files.now c.loop-file.units.items _ c.requires c.loop-file.invariant.read in
    let same = ap length c.as_slice.ensures.value in
    omega arith

pub returns-in-Ok-None-clause-called : goal.returns-in-Ok-None-clause-called
returns-in-Ok-None-clause-called g c = called_stop c.loop-file.units.items _ _ _ _ (ap length c.as_slice.ensures.value) c.loop-file.invariant.calls c.in-Ok-None.ensures.called

pub returns-clause-called : goal.returns-clause-called
returns-clause-called g c =
    let calls = g.W.World.calls in
    subst (λ (units : List UnitValue). HasCalled (length units) 0 (calls c.args.world.now) (calls c.loop-file.world)) (sym c.from_vec.ensures) c.loop-file.invariant.calls

pub returns-in-Err-clause-stopped : goal.returns-in-Err-clause-stopped
returns-in-Err-clause-stopped g c = stopped_short _ _ _ _ _ _ _ refl (called_none _ _ refl)

pub returns-in-Err-object_in-clause-stopped : goal.returns-in-Err-object_in-clause-stopped
returns-in-Err-object_in-clause-stopped g c =
    read_unfetched (g.W.World.holds c.args.world.now) c.args.files.now c.loop-file.file-index _ c.loop-file.units.items _ c.in-Err-object_in.stop _ _ _ _ _ _ c.loop-file.invariant.read c.loop-file-test.true c.loop-file.invariant.counts c.in-Err-object_in.ensures.counted
    c.loop-file.invariant.calls c.in-Err-object_in.ensures.called

pub returns-in-Err-push-clause-stopped : goal.returns-in-Err-push-clause-stopped
returns-in-Err-push-clause-stopped g c =
    let object = rw c.in-Ok-Some.field-0-is at c.in-Ok-Some.ensures.read in
    read_short (g.W.World.holds c.args.world.now) _ c.args.files.now c.loop-file.file-index _ c.loop-file.units.items _ _ c.in-Ok-Some.unit _ _ _ _ _ _ c.loop-file.invariant.stays c.loop-file.invariant.read c.loop-file-test.true object
    c.loop-file.invariant.calls c.in-Ok-Some.ensures.called refl
