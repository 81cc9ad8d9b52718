use Rattle.std.proofs.Common.{ℕ, List, [], Option, refl, sym, subst, ap, ◌∙◌}
use Rattle.fy_phrase.specs.Reads.{reads}
use Rattle.fy_derive.specs.Reading.{plain_derivation}
use Rattle.fy_derive.specs.Shown.{AreIn, all_shown}
use Rattle.fy_derive.proofs.ContextLemmas.{numbers-outside}
use Rattle.fy_derive.proofs.Standings.{AreIn-none}
use Rattle.fy_show.specs.Entries.{Scope}
use Rattle.fy_show.specs.Reading.{known_in, scope_in}
use Rattle.fy_tree.specs.Annotated.{shown_of}
use Rattle.fy_tree.specs.Lines.{lines}
use Rattle.fy_tree.specs.Reading.{look_in}
use Rattle.fy_tree.specs.Whole.{tree_text}
use Rattle.fy_tree.proofs.TreeLemmas.{put-as}
use Rattle.fy_tree.proofs.WholeLemmas.{text-sought}
use Rattle.fy_tree.proofs.whole.put_tree.Goals as goal

pub put_root-requires-clause-context : goal.put_root-requires-clause-context
put_root-requires-clause-context c = subst (AreIn c.args.table.now) (sym (numbers-outside _ _ refl)) (AreIn-none c.args.table.now)

pub returns-in-Some : goal.returns-in-Some
returns-in-Some c =
    let v = c.args.view.now in
    let look = look_in c.args.style v in
    let d = plain_derivation c.args.d.now in
    let p = reads c.args.p.now in
    put-as c.put_root.result c.put_root.new.text.items c.args.text.now.items _ _ c.put_root.ensures
    (ap (λ (ks : List ℕ). lines look c.args.node [] c.args.more [] (shown_of (known_in v) d 0 (all_shown c.args.table.now ks) (scope_in v) [] p)) (numbers-outside _ _ refl)
    ∙ (ap (λ (s : Scope). lines look c.args.node [] c.args.more [] (shown_of (known_in v) d 0 [] s [] p)) c.requires.outside ∙ text-sought look c.args.node _ c.args.more d p c.in-Some.is))

pub returns-in-None : goal.returns-in-None
returns-in-None c =
    put-as c.put_program.result c.put_program.new.text.items c.args.text.now.items _ _ c.put_program.ensures
    (ap (λ (n : Option ℕ). tree_text (look_in c.args.style c.args.view.now) n c.args.more (plain_derivation c.args.d.now) (reads c.args.p.now)) (sym c.in-None.is))
