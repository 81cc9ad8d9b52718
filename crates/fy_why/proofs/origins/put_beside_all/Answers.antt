use Rattle.std.proofs.Common.{◌≡◌, [], ◌∷◌, inl, inr, ap}
use Rattle.fy_causes.specs.declared.causes.Cause.{Cause as KnownCause}
use Rattle.fy_causes.specs.Readings.{cause_read, explained_read}
use Rattle.fy_show.specs.Reading.{known_in}
use Rattle.fy_why.specs.Origins.{told_of}
use Rattle.fy_why.proofs.OriginLemmas.{beside-put}
use Rattle.fy_why.proofs.origins.put_beside_all.Goals as goal

pub returns-in_ok-put_beside-in-Branches : goal.returns-in_ok-put_beside-in-Branches
returns-in_ok-put_beside-in-Branches c =
    let e = c.args.e.now in
    beside-put c.put_beside-in-Branches.result c.put_beside-in-Branches.new.text.items c.args.text.now.items c.put_beside.new.text.items c.args.lead.now (known_in c.args.view.now) c.args.names
    (explained_read e) 1 2 (cause_read e.cause) c.in_ok-put_beside-in-Branches.ensures c.put_beside-in-Branches.ensures (ap (λ (x : KnownCause). told_of (cause_read x)) c.in-Branches.is)

pub returns-in_ok-put_beside-in-Differ : goal.returns-in_ok-put_beside-in-Differ
returns-in_ok-put_beside-in-Differ c =
    let e = c.args.e.now in
    let two : told_of (cause_read e.cause) ≡ 0 ∷ 1 ∷ [] = elim c.in-Differ.is [
      | inl is ↦ ap (λ (x : KnownCause). told_of (cause_read x)) is
      | inr (inl is) ↦ ap (λ (x : KnownCause). told_of (cause_read x)) is.1
      | inr (inr is) ↦ ap (λ (x : KnownCause). told_of (cause_read x)) is.2
    ] in
    beside-put c.put_beside-in-Differ-2.result c.put_beside-in-Differ-2.new.text.items c.args.text.now.items c.put_beside-in-Differ.new.text.items c.args.lead.now (known_in c.args.view.now) c.args.names
    (explained_read e) 0 1 (cause_read e.cause) c.in_ok-put_beside-in-Differ.ensures c.put_beside-in-Differ-2.ensures two
