-- The machine of items goes in step with the push-enter machine, and its words are at most the load.
use Rattle.std.specs.Prelude.{◌≡◌, ◌≢◌, ℕ, ◌+◌, ◌*◌, ◌≤◌, length}
use Rattle.fy_base.specs.Outside.{Bytes}
use Rattle.pe_code.specs.declared.code.PeCode.{PeCode}
use Rattle.pe_machine.specs.Run.{PeRun, Standing, going, ended, faulted, stuck, gone, pe_after}
use Rattle.pe_items.specs.Items.{words}
use Rattle.pe_items.specs.Run.{ItemRun, items_after}
use Rattle.pe_items.specs.Links.{IsLinked}

-- the same standing, output and rest of input, and words that the load pays, with two more for each item
pub record IsInStep (r : PeRun) (i : ItemRun) : Type 0 where
  pub standing : i.standing ≡ r.standing
  pub input : i.input ≡ r.input
  pub output : i.output ≡ r.output
  pub load : words i.state.items + 2 * length i.state.items ≤ r.state.load

-- where the push-enter machine is stuck or gone nothing is said
abbrev pub InStepAs : Standing → PeRun → ItemRun → Type 0
InStepAs going r i = IsInStep r i
InStepAs ended r i = IsInStep r i
InStepAs (faulted kind at) r i = IsInStep r i
InStepAs stuck r i = Unit {0}
InStepAs gone r i = Unit {0}

abbrev pub ItemsGoInStep : Type 0
ItemsGoInStep = (code : PeCode) (input : Bytes) (n : ℕ) → InStepAs (pe_after code input n).standing (pe_after code input n) (items_after code input n)

-- no run of items is gone: where something isn't there, it is stuck
abbrev pub NoRunIsGone : Type 0
NoRunIsGone = (code : PeCode) (input : Bytes) (n : ℕ) → (items_after code input n).standing ≢ gone

-- whatever the code, each address in the state of a run leads to a frame or a context that stands below
abbrev pub ItemsStayLinked : Type 0
ItemsStayLinked = (code : PeCode) (input : Bytes) (n : ℕ) → IsLinked (items_after code input n).state
