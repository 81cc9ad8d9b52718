use Rattle.std.proofs.Common.{ℕ, ◌≡◌, length, Some}
use Rattle.std.specs.Prelude.{slice_get}
use Rattle.fy_phrase.specs.declared.shapes.Pair.{Pair}
use Rattle.pe_code.specs.declared.code.PeItem.{PeItem}
use Rattle.pe_gen.specs.Plan.{IsItemIn}
use Rattle.pe_gen.proofs.items.items_of.Given as goal

abbrev pub invariant-loop-site : goal.invariant-loop-site
invariant-loop-site l = record {
  all : length l.items ≡ l.site-index;
  each : (i : ℕ) (x : Pair) (item : PeItem) → slice_get l.sites i ≡ Some x → slice_get l.items i ≡ Some item → IsItemIn l.plan x item;
}
