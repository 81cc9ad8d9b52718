-- The parts of what is told are direct parts.
use Rattle.std.proofs.Common.{◌≡◌, Bool, true, false, [], map, Option, Some, None, option_map, sym, ap, ◌∙◌}
use Rattle.std.specs.Prelude.{if◌then◌else◌}
use Rattle.fy_types.specs.declared.types.Atom.TheVariants.{Comm}
use Rattle.fy_phrase.specs.Tree.{Tree}
use Rattle.fy_phrase.specs.Reads.{reads}
use Rattle.fy_derive.specs.Least.{has}
use Rattle.fy_causes.specs.declared.told.Explained.{Explained as KnownExplained}
use Rattle.fy_causes.specs.declared.told.Second.{Second as KnownSecond}
use Rattle.fy_causes.specs.declared.told.Told.{Told as KnownTold}
use Rattle.fy_causes.specs.Occurrences.{Occurrence, least_in, parts_of}
use Rattle.fy_causes.specs.Blamed.{blamed}
use Rattle.fy_causes.specs.Hollow.{Explained, Second, Told, explained, second_of, told_of, why_of}
use Rattle.fy_causes.specs.Readings.{around_read, explained_read, occurrence_read, part_at, second_read, told_read}
use Rattle.fy_why.specs.Readings.{IsSecondSeen}

explained-parts : (e : KnownExplained) (o : Occurrence) → explained_read e ≡ explained o →
    map part_at e.parts.items ≡ parts_of (around_read e.at.around.value) (reads e.at.phrase.now)
explained-parts e o h =
    let at : occurrence_read e.at ≡ o = ap (λ (x : Explained). x.at) h in
    ap (λ (x : Explained). x.direct) h ∙ sym (ap (λ (x : Occurrence). parts_of x.around x.phrase) at)

same_second : (a b : Second) → Some a ≡ Some b → a ≡ b
same_second a b e = cc

same_told : (a b : Told) → Some a ≡ Some b → a ≡ b
same_told a b e = cc

second-parts : (s : Option KnownSecond) (o : Option Occurrence) → option_map second_read s ≡ second_of o → IsSecondSeen s
second-parts None o h = tt
second-parts (Some s) None h = absurd (cc)
second-parts (Some s) (Some o) h =
    let b = blamed o.around o.phrase in
    explained-parts s.blame b
    (ap (λ (x : Second). x.blame) (same_second (second_read s) (record { inside = o; blame = explained b }) h))

told-same : (t : KnownTold) (p : Tree) → Some (told_read t) ≡ why_of p → told_read t ≡ told_of (blamed [] p)
told-same t p h = cases (has (least_in [] p) Comm) h
  where
    cases : (b : Bool) → Some (told_read t) ≡ (if b then None else Some (told_of (blamed [] p))) → told_read t ≡ told_of (blamed [] p)
    cases true e = absurd (cc)
    cases false e = same_told (told_read t) (told_of (blamed [] p)) e

pub told-first : (t : KnownTold) (p : Tree) → Some (told_read t) ≡ why_of p →
    map part_at t.first.parts.items ≡ parts_of (around_read t.first.at.around.value) (reads t.first.at.phrase.now)
told-first t p h = explained-parts t.first (blamed [] p) (ap (λ (x : Told). x.first) (told-same t p h))

pub told-second : (t : KnownTold) (p : Tree) → Some (told_read t) ≡ why_of p → IsSecondSeen t.second
told-second t p h = second-parts t.second _ (ap (λ (x : Told). x.second) (told-same t p h))
