-- Two images of a phrase that run as the copy rule agree.
use Rattle.std.proofs.Common.{◌≡◌, inl, inr, sym, ◌∙◌}
use Rattle.fy_runs.proofs.Outer.{prefix_more}
use Rattle.fy_phrase.specs.Bounds.{copy_bound}
use Rattle.fy_phrase.specs.Copy.{Standing, ended, faulted, CopyRun, copy_after}
use Rattle.rv_insn.specs.declared.events.Event.{Event}
use Rattle.rv_insn.specs.declared.events.Event.TheVariants.{Ended, Fault}
use Rattle.rv_insn.specs.Run.{World}
use Rattle.fy_build.specs.Headline.{IsSameEnd, both_ended, both_faulted, IsOverEvent, IsOverStanding, IsSameOver, Reaches}
use Rattle.fy_build.specs.Agreement.{IsSameEnding, ImagesAgree}

-- what stands as an end does is over
over_with : (e : Event) (s : Standing) → IsSameEnd e s → IsOverStanding s
over_with e s both_ended = tt
over_with e s (both_faulted kind at) = tt

-- two ends that are the same as a third
ends_meet : (e f : Event) (s : Standing) → IsSameEnd e s → IsSameEnd f s → f ≡ e
ends_meet e f s both_ended other = ended_alone f other
  where
    ended_from : (f : Event) (s : Standing) → s ≡ ended → IsSameEnd f s → f ≡ Ended
    ended_from f s is both_ended = cc
    ended_from f s is (both_faulted kind at) = cc

    ended_alone : (f : Event) → IsSameEnd f ended → f ≡ Ended
    ended_alone f h = ended_from f ended (cc) h
ends_meet e f s (both_faulted kind at) other = faulted_from f (faulted kind at) (cc) other
  where
    faulted_from : (f : Event) (s : Standing) → s ≡ faulted kind at → IsSameEnd f s → f ≡ Fault kind at
    faulted_from f s is both_ended = cc
    faulted_from f s is (both_faulted k a) = cc

-- what has done all that the copy rule has done, has done all that what is behind the copy rule has done
through : (one other : World) (run : CopyRun) → (IsOverEvent one.ending → IsSameOver one run) → Reaches other run → IsOverEvent one.ending → IsSameEnding one other
through one other run back forth over =
    let here = back over in
    let there = forth.end (over_with one.ending run.standing here.end) in
    record {
      end = ends_meet one.ending other.ending run.standing here.end there.end;
      output = there.output ∙ sym here.output;
      rest = there.rest ∙ sym here.rest;
    }

pub images_agree : ImagesAgree
images_agree p one other a b input n bytes =
    elim (b.reaches_what_the_copy_rule_reaches input (copy_bound p n) bytes) [
      | inl exhausted ↦ inl exhausted
      | inr reached ↦ inr (record {
        output = prefix_more _ _ _ (a.output_is_prefix input n bytes) reached.output;
        over = through _ _ (copy_after p input (copy_bound p n)) (a.end_is_the_copy_rules input n bytes) reached;
      })
    ]
