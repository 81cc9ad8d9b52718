-- What the counts of faults and of calls tell of a piece of work.
use Rattle.std.specs.Prelude.{◌≡◌, ◌⊎◌, ℕ, ◌+◌, ◌≤◌, List, Any, MatchResult}
use Rattle.std.specs.declared.result.Result.{Result}
use Rattle.fy_base.specs.Outside.{Bytes, Rose, FileCalls}
use Rattle.fy_world.specs.World.{Counts, Later}
use Rattle.fy_world.specs.declared.world.Stop.{Stop}
use Rattle.fy_world.specs.declared.world.Stop.TheVariants.{Fetch, Keep, Input, Output, Notes, Memory}

-- a count that licenses this stop rose: of `fetch` of a name that is read, of `keep` of a name that is kept, or of the object
abbrev pub Caused : List Bytes → List Bytes → Stop → Counts → Counts → Type 0
Caused reads keeps Fetch before now = Any (λ name. Rose (before.fetches name) (now.fetches name)) reads
Caused reads keeps Keep before now = Any (λ name. Rose (before.keeps name) (now.keeps name)) keeps
Caused reads keeps Input before now = Rose before.input now.input
Caused reads keeps Output before now = Rose before.output now.output
Caused reads keeps Notes before now = Rose before.notes now.notes
Caused reads keeps Memory before now = Unit {0}

-- all counts are as before but those of the object that stopped the work
abbrev pub OthersStand : Stop → Counts → Counts → Type 0
OthersStand Fetch before now = now ≡ record before { fetches = now.fetches; keeps = now.keeps }
OthersStand Keep before now = now ≡ record before { fetches = now.fetches; keeps = now.keeps }
OthersStand Input before now = now ≡ record before { input = now.input }
OthersStand Output before now = now ≡ record before { output = now.output }
OthersStand Notes before now = now ≡ record before { notes = now.notes }
OthersStand Memory before now = now ≡ before

-- work was stopped: a count that licenses it rose, no count fell, and those of the other objects are as before
pub record Faulted (reads keeps : List Bytes) (stop : Stop) (before now : Counts) : Type 0 where
  pub caused : Caused reads keeps stop before now
  pub later : Later before now
  pub others : OthersStand stop before now

-- work was done, and all counts are as before, or it was stopped
abbrev pub Counted : {T : Type 0} → List Bytes → List Bytes → Counts → Counts → Result T Stop → Type 0
Counted reads keeps before now result = MatchResult result (λ _. now ≡ before) (λ stop. Faulted reads keeps stop before now)

-- what stops work that only reads files: a file that wasn't fetched, or want of memory
abbrev pub IsReadStop : Stop → Type 0
IsReadStop stop = (stop ≡ Fetch) ⊎ (stop ≡ Memory)

-- `fetch` and `keep` were called at most so often
pub record HasCalled (fetches keeps : ℕ) (before now : FileCalls) : Type 0 where
  pub fetched : now.fetches ≤ before.fetches + fetches
  pub kept : now.keeps ≤ before.keeps + keeps
