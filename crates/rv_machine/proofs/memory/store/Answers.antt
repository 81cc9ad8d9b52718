use Rattle.std.proofs.Common.{refl}
use Rattle.rv_machine.proofs.Accesses.{store_unaligned, stored, store_outside}
use Rattle.rv_machine.proofs.memory.store.Goals as goal

pub returns-then-address-size-ne0 : goal.returns-then-address-size-ne0
returns-then-address-size-ne0 c = (store_unaligned _ _ c.args.address _ _ c.size_of_store-size.ensures.size c.if-address-size-ne0.true, refl)

pub returns-then-is_within : goal.returns-then-is_within
returns-then-is_within c = stored c.args.stack.now _ _ c.args.address _ _ c.size_of_store-size.ensures.size c.if-address-size-ne0.false c.if-is_within.ensures c.put_bytes.ensures

pub returns : goal.returns
returns c = (store_outside _ _ c.args.address _ _ c.size_of_store-size.ensures.size c.if-address-size-ne0.false c.if-is_within.ensures, refl)
