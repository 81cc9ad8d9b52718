-- What is within the limits is taken, and a run whose bounds fit comes to its end.
use Rattle.std.proofs.Common.{◌≡◌, ◌≢◌, ℕ, zero, suc, ◌+◌, ◌<◌, ◌≤◌, List, [], inl, inr, sym, ◌∙◌, refl, subst, arith, All, Some}
use Rattle.std.specs.Prelude.{◌⊎◌, Any, Ok, Err}
use Rattle.std.proofs.lemmas.Bool.{cases_lt}
use Rattle.fy_base.specs.Outside.{Bytes}
use Rattle.fy_phrase.specs.Tree.{Tree}
use Rattle.fy_phrase.specs.Copy.{Standing, going, ended, faulted, stuck, start_run, copy_after, peak_load}
use Rattle.fy_phrase.specs.Bounds.{instruction_bound, copy_bound}
use Rattle.fy_phrase.proofs.Runs.{over_later, peak_zero, peak_suc, load_within}
use Rattle.fy_types.specs.Paths.{PlainPaths}
use Rattle.fy_types.specs.Limits.{IsWithinLimits, IsTooLarge}
use Rattle.fy_types.specs.Types.{atom}
use Rattle.fy_types.specs.declared.types.Atom.TheVariants.{Comm}
use Rattle.fy_expand.specs.Judged.{IsJudged}
use Rattle.fy_expand.specs.Judged as judged
use Rattle.fy_expand.proofs.JudgedLemmas.{one_phrase, one_refusal, phrase_or_refusal}
use Rattle.fy_derive.specs.Derivations.{PlainDerivation}
use Rattle.fy_derive.specs.Least.{visits}
use Rattle.fy_derive.specs.Shapes.{table_words}
use Rattle.fy_derive.specs.Typing.{HasType}
use Rattle.fy_least.specs.Blame.{blame_of}
use Rattle.fy_least.specs.Limits.{KeepTypeLimits, PassTypeLimits}
use Rattle.fy_least.proofs.PairLemmas.{same-shapes}
use Rattle.fy_image.specs.Machine.{machine_after}
use Rattle.rv_insn.specs.declared.events.Event.{Event}
use Rattle.rv_insn.specs.declared.events.Event.TheVariants as events
use Rattle.rv_machine.specs.Run.{World}
use Rattle.rv_machine.proofs.Runs.{run_stays}
use Rattle.pe_shapes.specs.Counts.{HasMany}
use Rattle.pe_shapes.specs.Shaping.{most_shapes, most_pairs, most_words, IsShaping}
use Rattle.pe_shapes.specs.declared.error.ShapeError.{ShapeError}
use Rattle.pe_shapes.specs.declared.error.ShapeError.TheVariants as shaping
use Rattle.fy_build.specs.Headline.{IsSameEnd, both_ended, both_faulted, IsOverStanding, IsSameOver, Reaches, AreBytes, RunsAsCopyRule}
use Rattle.fy_words.specs.Order.{steps_wanted}
use Rattle.fy_world.specs.Runs.{running_of}
use Rattle.fy_front.specs.declared.refusal.Refusal.{Refusal}
use Rattle.fy_front.specs.declared.refusal.Refusal.TheVariants as refusal
use Rattle.fy_world.proofs.WholeRuns.{whole_stays}
use Rattle.fy_front.specs.Checked.{IsProgramText, IsShownBy, IsLeastShape, IsLeastPair, IsRefusedFor, told_as, shapes_refusal, not_judged, too_large, no_command, many_shapes, many_entries, large_tables}
use Rattle.fy_front.proofs.Checking.{told_one}
use Rattle.fy_tool.specs.Complete.{LeastShapesFit, AcceptedWhereLimitsHold, AcceptedTextIsNeverRefused, TextIsRefusedOneWay, RunCompletes}
use Rattle.fy_tool.specs.Given.{by_text}
use Rattle.fy_tool.proofs.Alike.{words_grow, shaping_same, one_shaping, shapes_kept}
use Rattle.fy_tool.proofs.Pigeons.{many_few, many_counted}

-- ---- texts

within_not_large : (P : PlainPaths) → IsWithinLimits P → IsTooLarge P → ⊥
within_not_large P within (inl many) = let few = within.few in omega arith
within_not_large P within (inr deep) = let shallow = within.shallow in omega arith

all_not_any : (xs : List PlainPaths) → All IsWithinLimits xs → Any IsTooLarge xs → ⊥
all_not_any xs all any = within_not_large any.1 (subst IsWithinLimits any.3 (all any.0 any.1 any.2)) any.4

keep_or_pass : (p : Tree) → KeepTypeLimits (visits 0 [] p) → PassTypeLimits (visits 0 [] p) → ⊥
keep_or_pass p keep (inl (inl large)) = all_not_any _ keep.least large
keep_or_pass p keep (inl (inr large)) = all_not_any _ keep.written large
keep_or_pass p keep (inr many) = let few = keep.together in omega arith

-- which limit on demand shapes a phrase's least types pass, and how that is told
data PassesLeastShapes (p : Tree) : Refusal → Type 0 where
  of_shapes : HasMany (most_shapes + 1) (IsLeastShape p) → PassesLeastShapes p refusal.Shapes
  of_pairs : HasMany (most_pairs + 1) (IsLeastPair p) → PassesLeastShapes p refusal.Entries
  of_words : (count : ℕ) → HasMany count (IsLeastShape p) → most_words < table_words p count → PassesLeastShapes p refusal.Tables

-- a derivation with each shape that some derivation has passes a limit on shapes, as the least types do
record IsStoppedByShapes (text : Bytes) (p : Tree) (why : Refusal) : Type 0 where
  derivation : PlainDerivation
  shown : IsShownBy text p derivation
  error : ShapeError
  shaping_is : IsShaping (Err error) p derivation
  told : shapes_refusal error ≡ Some why
  least : PassesLeastShapes p why

-- which stage refuses a text with this phrase
abbrev StageOf : Bytes → Tree → Refusal → Type 0
StageOf text p why = (PassTypeLimits (visits 0 [] p) × (why ≡ refusal.LeastSize)) ⊎ (KeepTypeLimits (visits 0 [] p) × (¬ HasType [] p (atom Comm)) × (why ≡ refusal.NoType (blame_of [] p)))
    ⊎ IsStoppedByShapes text p why

-- a text is refused as one with no phrase, or at a stage of its phrase
staged : (text : Bytes) (why : Refusal) → IsRefusedFor text why → ((cause : judged.Refusal) × IsJudged text (Err cause) × (told_as cause ≡ Some why)) ⊎ ((p : Tree) × IsJudged text (Ok p) × StageOf text p why)
staged text why (not_judged cause is told) = inl (cause, is, told)
staged text why (too_large p is passes) = inr (p, is, inl (passes, refl))
staged text why (no_command p is keep none) = inr (p, is, inr (inl (keep, none, refl)))
staged text why (many_shapes p d shown many least) =
    inr (p, shown.is_program.is_judged, inr (inr (record { derivation = d; shown = shown; error = shaping.TooManyShapes; shaping_is = many; told = refl; least = of_shapes least })))
staged text why (many_entries p d shown few many least) =
    inr (p, shown.is_program.is_judged, inr (inr (record { derivation = d; shown = shown; error = shaping.TooManyEntries; shaping_is = (few, many); told = refl; least = of_pairs least })))
staged text why (large_tables p d shown passes few least) =
    inr (p, shown.is_program.is_judged, inr (inr (record { derivation = d; shown = shown; error = shaping.TablesTooLarge; shaping_is = (passes, few); told = refl; least = of_words passes.shapes least passes.large })))

-- the stage that refuses the text of a command is that of shapes
by_shapes_alone : (text : Bytes) (p : Tree) → IsProgramText text p → (why : Refusal) → StageOf text p why → IsStoppedByShapes text p why
by_shapes_alone text p is why (inl (passes, told)) = absurd (keep_or_pass p is.within passes)
by_shapes_alone text p is why (inr (inl (keep, none, told))) = absurd (none is.is_command)
by_shapes_alone text p is why (inr (inr passes)) = passes

-- the text of a command is refused for shapes alone
shapes_alone : (text : Bytes) (p : Tree) → IsProgramText text p → (why : Refusal) → IsRefusedFor text why → IsStoppedByShapes text p why
shapes_alone text p is why refused = of (staged text why refused)
  where
    of : ((cause : judged.Refusal) × IsJudged text (Err cause) × (told_as cause ≡ Some why)) ⊎ ((q : Tree) × IsJudged text (Ok q) × StageOf text q why) → IsStoppedByShapes text p why
    of (inl (cause, unjudged, told)) = absurd (phrase_or_refusal text p cause is.is_judged unjudged)
    of (inr (q, is_judged, at)) = by_shapes_alone text p is why (subst (λ (x : Tree). StageOf text x why) (one_phrase text q p is_judged is.is_judged) at)

-- what is in use keeps the limits, and the shapes of two derivations, each with all shapes, are the same
pub never_refused : AcceptedTextIsNeverRefused
never_refused text is why refused =
    let x = shapes_alone text is.phrase is.is_program why refused in
    let same = same-shapes is.phrase x.derivation is.derivation x.shown.accepted is.in_use.accepted x.shown.full is.full in
    shapes_kept is.phrase is.derivation x.error why is.in_use (shaping_same is.phrase x.derivation is.derivation same x.error x.shaping_is) x.told

one_limit : (text : Bytes) (p : Tree) (why other : Refusal) → IsStoppedByShapes text p why → IsStoppedByShapes text p other → why ≡ other
one_limit text p why other x y =
    let same = same-shapes p y.derivation x.derivation y.shown.accepted x.shown.accepted y.shown.full x.shown.full in
    one_shaping p x.derivation x.error y.error why other x.shaping_is (shaping_same p y.derivation x.derivation same y.error y.shaping_is) x.told y.told

-- two stages of one phrase tell the same
one_stage : (text : Bytes) (p : Tree) (why other : Refusal) → StageOf text p why → StageOf text p other → why ≡ other
one_stage text p why other (inl (passes, told)) (inl (passes', told')) = told ∙ sym told'
one_stage text p why other (inl (passes, told)) (inr (inl (keep, none, told'))) = absurd (keep_or_pass p keep passes)
one_stage text p why other (inl (passes, told)) (inr (inr shapes)) = absurd (keep_or_pass p shapes.shown.is_program.within passes)
one_stage text p why other (inr (inl (keep, none, told))) (inl (passes, told')) = absurd (keep_or_pass p keep passes)
one_stage text p why other (inr (inl (keep, none, told))) (inr (inl (keep', none', told'))) = told ∙ sym told'
one_stage text p why other (inr (inl (keep, none, told))) (inr (inr shapes)) = absurd (none shapes.shown.is_program.is_command)
one_stage text p why other (inr (inr shapes)) (inl (passes, told)) = absurd (keep_or_pass p shapes.shown.is_program.within passes)
one_stage text p why other (inr (inr shapes)) (inr (inl (keep, none, told))) = absurd (none shapes.shown.is_program.is_command)
one_stage text p why other (inr (inr shapes)) (inr (inr shapes')) = one_limit text p why other shapes shapes'

pub refused_one_way : TextIsRefusedOneWay
refused_one_way text why other refused refused' = both (staged text why refused) (staged text other refused')
  where
    both : ((cause : judged.Refusal) × IsJudged text (Err cause) × (told_as cause ≡ Some why)) ⊎ ((p : Tree) × IsJudged text (Ok p) × StageOf text p why)
        → ((cause : judged.Refusal) × IsJudged text (Err cause) × (told_as cause ≡ Some other)) ⊎ ((p : Tree) × IsJudged text (Ok p) × StageOf text p other) → why ≡ other
    both (inl (cause, is, told)) (inl (cause', is', told')) = told_one told_as cause cause' why other (one_refusal text cause cause' is is') told told'
    both (inl (cause, is, told)) (inr (p, is', at)) = absurd (phrase_or_refusal text p cause is' is)
    both (inr (p, is, at)) (inl (cause, is', told)) = absurd (phrase_or_refusal text p cause is is')
    both (inr (p, is, at)) (inr (q, is', at')) = one_stage text p why other at (subst (λ (x : Tree). StageOf text x other) (one_phrase text q p is' is) at')

-- what fits passes no limit
fits_none : (p : Tree) → LeastShapesFit p → (why : Refusal) → PassesLeastShapes p why → ⊥
fits_none p fit why (of_shapes least) = let le = many_few (most_shapes + 1) most_shapes (IsLeastShape p) least fit.shapes in omega arith
fits_none p fit why (of_pairs least) = let le = many_few (most_pairs + 1) most_pairs (IsLeastPair p) least fit.pairs in omega arith
fits_none p fit why (of_words count least large) =
    let le = many_counted count fit.count (IsLeastShape p) least fit.counted in
    let grown = words_grow p count fit.count le in
    let words = fit.words in
    omega arith

pub accepted_where : AcceptedWhereLimitsHold
accepted_where text p is fit written status why (by_text _ told refused) = fits_none p fit told (shapes_alone text p is told refused).least

-- ---- runs

-- where a run is over, no later load is greater
peak_over : (p : Tree) (input : Bytes) (m : ℕ) → (copy_after p input m).standing ≢ going → (k : ℕ) → peak_load p input k ≤ peak_load p input m
peak_over p input m over zero =
    let e = peak_zero p input in
    let le = load_within p input 0 m (omega arith) in
    omega arith
peak_over p input m over (suc k) =
    let e = peak_suc p input k in
    let before = peak_over p input m over k in
    let here : (copy_after p input (suc k)).state.load ≤ peak_load p input m =
    elim (cases_lt m (suc k)) [
      | inl less ↦
          let same = over_later m (suc k) (start_run p input) over (omega arith) in
          let le = load_within p input m m (omega arith) in
          subst (λ r. r.state.load ≤ peak_load p input m) (sym same) le
      | inr more ↦ load_within p input (suc k) m more
    ] in
    omega arith

over_not_going : (s : Standing) → IsOverStanding s → s ≢ going
over_not_going ended over e = cc
over_not_going (faulted kind at) over e = cc
over_not_going going over e = over
over_not_going stuck over e = over

end_not_going : (event : Event) (s : Standing) → IsSameEnd event s → event ≢ events.Going
end_not_going event s both_ended e = cc
end_not_going event s (both_faulted kind at) e = cc

pub run_completes : RunCompletes
run_completes text named derivation stack steps input image bytes n end has m are_bytes over within fits = elim (reaches input m are_bytes) [
  | inl exhausted ↦
      let past = runs.exhausted_only_past_the_stack input bound are_bytes exhausted in
      let le = peak_over p input m (over_not_going (copy_after p input m).standing over) (copy_bound p bound) in
      absurd (omega arith)
  | inr reached ↦ moved (reached.end over)
]
  where
    p : Tree
    p = has.built.phrase

    runs : RunsAsCopyRule p image
    runs = has.built.is.runs

    bound : ℕ
    bound = instruction_bound p m

    reaches : (input : Bytes) (m : ℕ) → AreBytes input
        → ((machine_after runs.program image input (instruction_bound p m)).ending ≡ events.Exhausted) ⊎ Reaches (machine_after runs.program image input (instruction_bound p m)) (copy_after p input m)
    reaches = runs.reaches_what_the_copy_rule_reaches

    -- what is over at the bound is so at the limit, and there it is as at the run's end
    moved : IsSameOver (machine_after runs.program image input bound) (copy_after p input m) → IsSameOver (machine_after runs.program image input n) (copy_after p input m)
    moved same =
        let running = running_of runs.program image input (steps_wanted steps) in
        let at_limit = run_stays runs.program bound (steps_wanted steps) running.first (end_not_going _ _ same.end) fits in
        let at_end = whole_stays running n end has.is_run has.is_run.within in
        subst (λ (w : World). IsSameOver w (copy_after p input m)) (sym at_limit ∙ at_end) same
