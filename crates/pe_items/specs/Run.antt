-- Runs of the machine of items.
use Rattle.std.specs.Prelude.{ℕ, nat_eq, if◌then◌else◌, [], None}
use Rattle.std.proofs.Common.{refl}
use Rattle.fy_base.specs.Outside.{Bytes}
use Rattle.fy_runs.specs.Runs as runs
use Rattle.fy_runs.specs.Runs.{Move, Machine, Run}
use Rattle.pe_code.specs.declared.code.PeCode.{PeCode}
use Rattle.pe_machine.specs.States.{Focus, code_at, value, completed}
use Rattle.pe_machine.specs.Run.{Standing, going, ended, faulted, stuck, goes_on, off_going}
use Rattle.pe_items.specs.Items.{ItemState}
use Rattle.pe_items.specs.Step.{ItemMove, goes, puts, takes, faults, sticks, item_step}

-- the program's entry, with no item
abbrev pub item_start : ItemState
item_start = record { focus = code_at (record { address = 0; frame = None }); newest = 0; items = [] }

-- a finished command without a context is the end; that isn't a step
abbrev pub standing_at : Focus → ℕ → Standing
standing_at completed newest = if nat_eq newest 0 then ended else going
standing_at (code_at p) newest = going
standing_at (value v) newest = going

abbrev pub standing_of : ItemState → Standing
standing_of s = standing_at s.focus s.newest

-- a step in the words of all machines: one that ends the run leaves the state
abbrev pub move_of : ItemState → ItemMove → Move ItemState Standing
move_of old (goes s) = runs.goes s
move_of old (puts text s) = runs.puts text s
move_of old (takes go) = runs.takes go
move_of old (faults kind at) = runs.stops (faulted kind at) old
move_of old sticks = runs.stops stuck old

-- a code's machine of items among all machines
abbrev pub item_machine : PeCode → Machine ItemState Standing
item_machine code = record { step = λ s. move_of s (item_step code s); standing = standing_of; going = going; goes_on = goes_on; on = refl; off = off_going }

abbrev pub ItemRun : Type 0
ItemRun = Run ItemState Standing

abbrev pub settled : ItemMove → ItemRun → ItemRun
settled m r = runs.settled standing_of (move_of r.state m) r

abbrev pub ticked : PeCode → Standing → ItemRun → ItemRun
ticked code t r = runs.ticked (item_machine code) t r

abbrev pub tick : PeCode → ItemRun → ItemRun
tick code r = runs.tick (item_machine code) r

-- the run after n more steps
abbrev pub after_more : PeCode → ℕ → ItemRun → ItemRun
after_more code n r = runs.after (item_machine code) n r

abbrev pub start_run : Bytes → ItemRun
start_run input = runs.start_run standing_of item_start input

-- the run of the code on an input after n steps
abbrev pub items_after : PeCode → Bytes → ℕ → ItemRun
items_after code input n = after_more code n (start_run input)
