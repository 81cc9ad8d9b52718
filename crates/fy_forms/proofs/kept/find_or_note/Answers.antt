use Rattle.std.proofs.Common.{◌≡◌, Bool, IsTrue, true, false, sym, ap, ◌∙◌, subst, refl}
use Rattle.fy_types.specs.Once.{contains}
use Rattle.fy_types.specs.Reading.{plain_path, plain_paths}
use Rattle.fy_types.proofs.Making.{count-in}
use Rattle.fy_forms.specs.Keys.{IsSeen, StandsAtSome, slot_at}
use Rattle.fy_forms.proofs.KeepLemmas.{added-known, added-new}
use Rattle.fy_forms.proofs.KeyLemmas.{contains-stands, seen-more}
use Rattle.fy_forms.proofs.kept.find_or_note.Goals as goal

pub returns-then-is_at_some-clause-kept : goal.returns-then-is_at_some-clause-kept
returns-then-is_at_some-clause-kept c =
    let at = c.is_at_some.ensures.0 c.if-is_at_some.true in
    sym (contains-stands (plain_paths c.args.list.now) at.0 (plain_path c.args.path.now) at.2)

pub returns-then-is_at_some-clause-seen : goal.returns-then-is_at_some-clause-seen
returns-then-is_at_some-clause-seen c =
    let P = plain_paths c.args.list.now in
    let p = plain_path c.args.path.now in
    let at = c.is_at_some.ensures.0 c.if-is_at_some.true in
    subst (IsSeen c.args.places.now) (sym (added-known P p (contains-stands P at.0 p at.2))) c.requires

pub returns-clause-kept : goal.returns-clause-kept
returns-clause-kept c =
    let P = plain_paths c.args.list.now in
    let p = plain_path c.args.path.now in
    step (contains P p) refl (λ e. c.is_at_some.ensures.1
    (subst (λ ks. StandsAtSome P ks p)
    (sym (c.at.ensures ∙ ap (slot_at c.args.places.now.lists.items) c.number_of-number.ensures)) (c.requires.seen p e)))
    c.if-is_at_some.false
  where
    step : (b : Bool) → contains (plain_paths c.args.list.now) (plain_path c.args.path.now) ≡ b →
        (contains (plain_paths c.args.list.now) (plain_path c.args.path.now) ≡ true → IsTrue c.is_at_some.result) → c.is_at_some.result ≡ false → false ≡ b
    step false e some none = refl
    step true e some none = let t = some e in absurd (cc)

pub returns-clause-seen : goal.returns-clause-seen
returns-clause-seen c =
    let P = plain_paths c.args.list.now in
    let p = plain_path c.args.path.now in
    subst (IsSeen c.note.new.self) (sym (added-new P p (sym (returns-clause-kept c))))
    (seen-more c.args.places.now c.note.new.self P p c.number_of-number.result c.len.result c.number_of-number.ensures
    (c.len.ensures ∙ count-in c.args.list.now) c.requires c.in_ok-note.ensures)
