use Rattle.std.proofs.Common.{List, [], sym, ap, ◌∙◌}
use Rattle.fy_types.specs.Types.{PlainType}
use Rattle.fy_phrase.specs.Reads.{reads}
use Rattle.fy_derive.specs.Contexts.{numbers}
use Rattle.fy_derive.specs.Judging.{judged}
use Rattle.fy_derive.specs.Reading.{plain_derivation}
use Rattle.fy_derive.proofs.Standings.{AreIn-kept, all_shown-kept}
use Rattle.fy_show.specs.Reading.{known_in, scope_in}
use Rattle.fy_tree.specs.Annotated.{concluded, shown_of}
use Rattle.fy_tree.specs.Lines.{lines}
use Rattle.fy_tree.specs.Reading.{look_in}
use Rattle.fy_tree.proofs.TreeLemmas.{put-as}
use Rattle.fy_tree.proofs.whole.put_root.Goals as goal

pub put_node-requires-clause-context : goal.put_node-requires-clause-context
put_node-requires-clause-context c = AreIn-kept c.in_ok-conclusion.ensures.extends c.requires.context

pub put_node-requires-clause-node : goal.put_node-requires-clause-node
put_node-requires-clause-node c =
    let one = c.in_ok-conclusion.ensures in
    let kept = all_shown-kept (numbers c.args.context.now) one.extends c.requires.context in
    record {
      within = one.within;
      stands = one.stands ∙ ap (λ (As : List PlainType). concluded (judged (plain_derivation c.args.d.now) c.args.at As (reads c.args.p.now))) (sym kept);
    }

pub returns : goal.returns
returns c =
    let v = c.args.view.now in
    let kept = all_shown-kept (numbers c.args.context.now) c.in_ok-conclusion.ensures.extends c.requires.context in
    put-as c.put_node.result c.put_node.new.text.items c.args.text.now.items _ _ c.put_node.ensures.text
    (ap (λ (As : List PlainType). lines (look_in c.args.style v) c.args.seek [] c.args.more [] (shown_of (known_in v) (plain_derivation c.args.d.now) c.args.at As (scope_in v) [] (reads c.args.p.now))) kept)
