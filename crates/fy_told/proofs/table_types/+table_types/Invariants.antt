use Rattle.std.proofs.Common.{◌≡◌, ◌+◌, ◌*◌, ◌<◌, ◌≤◌, ◌++◌, [], take}
use Rattle.fy_derive.specs.Shown.{total, shown}
use Rattle.fy_short.specs.ShortTypes.{members_in, short_members}
use Rattle.fy_told.proofs.table_types.+table_types.Given as goal

-- the members that are left, behind those so far
abbrev pub invariant-put_members-loop-lead : goal.invariant-put_members-loop-lead
invariant-put_members-loop-lead l = record {
  here : l.rest < total l.table;
  below : l.rest ≤ l.number;
  same :
      take l.most (l.text.items ++ short_members l.names l.lead (members_in (shown l.table l.rest)))
      ≡ take l.most (l.initial.text.items ++ short_members l.names [] (members_in (shown l.table l.number)));
}

abbrev pub decreases-put_members-loop-lead : goal.decreases-put_members-loop-lead
decreases-put_members-loop-lead l = l.rest

-- parts stand before what they are parts of
abbrev pub decreases-put_type_within : goal.decreases-put_type_within
decreases-put_type_within l = 3 * l.number + 1

abbrev pub decreases-put_unless : goal.decreases-put_unless
decreases-put_unless l = 3 * l.number + 2

abbrev pub decreases-put_members : goal.decreases-put_members
decreases-put_members l = 3 * l.number
