use Rattle.std.proofs.Common.{◌≡◌, map, None, option_map, Vec, Global, sym, ap, ◌∙◌}
use Rattle.fy_types.specs.declared.types.Atom.{Atom}
use Rattle.fy_phrase.specs.Reads.{reads}
use Rattle.fy_causes.specs.Causes.{first_wanting, taken_at, unless_had}
use Rattle.fy_causes.specs.Readings.{part_type}
use Rattle.fy_causes.proofs.LoopLemmas.{had-none, none-taken, wanting-later}
use Rattle.fy_causes.proofs.causes.first_wanting.Goals as goal
use Rattle.fy_causes.proofs.causes.first_wanting.Goals.{in-Some+else-not-has_some, in_default}

pub loop-i-preserved : goal.loop-i-preserved
loop-i-preserved c =
    let p = reads c.args.p.now in
    let i = c.loop-i.i in
    let x = c.index-parts-i.result in
    let had : unless_had (part_type x) (taken_at p i) ≡ None = elim c.match-branch-2.branch [
      | in-Some+else-not-has_some w ↦
          had-none (part_type x) (taken_at p i) w.in-Some.atoms.items w.as_slice.result.now w.has_some.result
          (sym c.in_ok-atoms.ensures ∙ ap (option_map (λ (v : Vec Atom Global). v.items)) w.in-Some.is) w.as_slice.ensures.value w.has_some.ensures
          w.if-not-has_some.false
      | in_default w ↦ none-taken (part_type x) c.in_ok-atoms.field-0 (taken_at p i) c.in_ok-atoms.ensures w.in_default.not-Some
    ] in
    wanting-later p c.args.parts.now i x (first_wanting p 0 (map part_type c.args.parts.now)) c.loop-i-test.true c.index-parts-i.is had
    c.loop-i.invariant
