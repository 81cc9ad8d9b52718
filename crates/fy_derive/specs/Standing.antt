-- Answers in numbers of a table for answers in types.
use Rattle.std.specs.Prelude.{ℕ, ◌<◌, ◌≡◌, Option, Some, None, Result, Ok, Err, Vec}
use Rattle.std.specs.declared.alloc.Global.{Global}
use Rattle.fy_derive.specs.declared.table.TypeTable.{TypeTable}
use Rattle.fy_derive.specs.declared.error.DeriveError.{DeriveError}
use Rattle.fy_derive.specs.declared.error.DeriveError.TheVariants.{Wrong, OutOfMemory}
use Rattle.fy_derive.specs.declared.kind.Demand.{Demand}
use Rattle.fy_derive.specs.declared.kind.Demand.TheVariants as demand
use Rattle.fy_derive.specs.Shown.{total, shown, all_shown, AreIn}
use Rattle.fy_derive.specs.Kinds.{Kind, of_call, of_field, of_assignment}
use Rattle.fy_derive.specs.Judging.{Judged, concludes, stops, AllJudged, all_conclude, one_stops}

-- the kind that a demand is
abbrev pub plain_kind : Demand → Kind
plain_kind demand.Call = of_call
plain_kind (demand.Field i) = of_field i
plain_kind demand.Assignment = of_assignment

-- the answer is what judging gives
abbrev pub IsJudgedAs : TypeTable → Result ℕ DeriveError → Judged → Type 0
IsJudgedAs t (Ok k) j = (k < total t) × (j ≡ concludes (shown t k))
IsJudgedAs t (Err (Wrong n)) j = j ≡ stops n
IsJudgedAs t (Err OutOfMemory) j = Unit {0}

abbrev pub AreJudgedAs : TypeTable → Result (Vec ℕ Global) DeriveError → AllJudged → Type 0
AreJudgedAs t (Ok v) j = AreIn t v.items × (j ≡ all_conclude (all_shown t v.items))
AreJudgedAs t (Err (Wrong n)) j = j ≡ one_stops n
AreJudgedAs t (Err OutOfMemory) j = Unit {0}

-- `Ok` exactly where nothing is refused, and `Wrong` of the node that is, unless memory was wanting
abbrev pub IsVerdict : Result (Unit {0}) DeriveError → Option ℕ → Type 0
IsVerdict (Ok v) o = o ≡ None
IsVerdict (Err (Wrong n)) o = o ≡ Some n
IsVerdict (Err OutOfMemory) o = Unit {0}
