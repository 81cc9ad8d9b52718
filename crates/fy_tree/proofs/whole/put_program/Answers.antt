use Rattle.std.proofs.Common.{ℕ, List, [], None, refl, sym, subst, ap, ◌∙◌, arith}
use Rattle.fy_types.specs.Types.{PlainType}
use Rattle.fy_phrase.specs.Reads.{reads}
use Rattle.fy_derive.specs.Reading.{plain_derivation}
use Rattle.fy_derive.specs.Shown.{AreIn, all_shown}
use Rattle.fy_derive.proofs.ContextLemmas.{numbers-outside}
use Rattle.fy_derive.proofs.Standings.{AreIn-none}
use Rattle.fy_show.specs.Entries.{Scope}
use Rattle.fy_show.specs.Reading.{known_in, scope_in}
use Rattle.fy_tree.specs.Annotated.{shown_of}
use Rattle.fy_tree.specs.Lines.{lines}
use Rattle.fy_tree.specs.Reading.{look_in}
use Rattle.fy_tree.specs.Whole.{below_lets}
use Rattle.fy_tree.proofs.TreeLemmas.{put-as}
use Rattle.fy_tree.proofs.WholeLemmas.{text-lets, text-root}
use Rattle.fy_tree.proofs.whole.put_program.Goals as goal

pub put_below_lets-requires-clause-context : goal.put_below_lets-requires-clause-context
put_below_lets-requires-clause-context c = subst (AreIn c.args.table.now) (sym (numbers-outside _ _ refl)) (AreIn-none c.args.table.now)

pub put_root-requires-clause-context : goal.put_root-requires-clause-context
put_root-requires-clause-context c = subst (AreIn c.args.table.now) (sym (numbers-outside _ _ refl)) (AreIn-none c.args.table.now)

pub returns-then-has_lets : goal.returns-then-has_lets
returns-then-has_lets c =
    let v = c.args.view.now in
    let look = look_in c.args.style v in
    let d = plain_derivation c.args.d.now in
    let p = reads c.args.p.now in
    put-as c.put_below_lets.result c.put_below_lets.new.text.items c.args.text.now.items _ _ c.put_below_lets.ensures
    (ap (λ (ks : List ℕ). below_lets look c.args.more 5 [] d 0 (all_shown c.args.table.now ks) (scope_in v) p) (numbers-outside _ _ refl)
    ∙ (ap (λ (s : Scope). below_lets look c.args.more 5 [] d 0 [] s p) c.requires.outside ∙ text-lets look c.args.more d p (sym c.has_lets.ensures ∙ c.if-has_lets.true)))

pub returns-else-has_lets : goal.returns-else-has_lets
returns-else-has_lets c =
    let v = c.args.view.now in
    let look = look_in c.args.style v in
    let d = plain_derivation c.args.d.now in
    let p = reads c.args.p.now in
    put-as c.put_root.result c.put_root.new.text.items c.args.text.now.items _ _ c.put_root.ensures
    (ap (λ (ks : List ℕ). lines look None [] c.args.more [] (shown_of (known_in v) d 0 (all_shown c.args.table.now ks) (scope_in v) [] p)) (numbers-outside _ _ refl)
    ∙ (ap (λ (s : Scope). lines look None [] c.args.more [] (shown_of (known_in v) d 0 [] s [] p)) c.requires.outside ∙ text-root look c.args.more d p (sym c.has_lets.ensures ∙ c.if-has_lets.false)))
