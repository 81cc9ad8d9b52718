use Rattle.std.proofs.Common.{ap, sym, ◌∙◌}
use Rattle.fy_derive.specs.declared.derivation.Derivation as made
use Rattle.fy_read.specs.Opened.{plain_open, filled}
use Rattle.fy_derive.specs.Reading.{plain_derivation, plain_derivations}
use Rattle.fy_read.proofs.MadeLemmas.{plain-meet, plain-rule_of, meet_waits, meet_whole, rule_waits, rule_whole}
use Rattle.fy_read.proofs.NodesLemmas.{list-push}
use Rattle.fy_read.proofs.nodes.Open.with.Goals as goal

pub returns-then-len-wanted-clause-ok : goal.returns-then-len-wanted-clause-ok
returns-then-len-wanted-clause-ok c =
    let more = list-push c.in-Meet.list c.push.new.self c.args.d c.in_ok-push-in-Meet.ensures.ok in
    meet_waits c.in-Meet.wanted (plain_derivations c.in-Meet.list) (plain_derivations c.push.new.self)
    (plain_derivation c.args.d) c.len.result more c.len.ensures c.if-len-wanted.true
    ∙ ap (λ o. filled (plain_open o) (plain_derivation c.args.d)) (sym c.in-Meet.is)

pub returns-else-len-wanted-clause-ok : goal.returns-else-len-wanted-clause-ok
returns-else-len-wanted-clause-ok c =
    let more = list-push c.in-Meet.list c.push.new.self c.args.d c.in_ok-push-in-Meet.ensures.ok in
    meet_whole c.in-Meet.wanted (plain_derivations c.in-Meet.list) (plain_derivations c.push.new.self) (plain_derivation c.args.d)
    (plain_derivation (made.Meet c.push.new.self)) c.len.result
    (plain-meet c.push.new.self) more c.len.ensures c.if-len-wanted.false
    ∙ ap (λ o. filled (plain_open o) (plain_derivation c.args.d)) (sym c.in-Meet.is)

pub returns-then-len-wanted-2-clause-ok : goal.returns-then-len-wanted-2-clause-ok
returns-then-len-wanted-2-clause-ok c =
    let more = list-push c.in-Rule.list c.push-in-Rule.new.self c.args.d c.in_ok-push-in-Rule.ensures.ok in
    rule_waits c.in-Rule.wanted (plain_derivations c.in-Rule.list) (plain_derivations c.push-in-Rule.new.self)
    (plain_derivation c.args.d) c.len-in-Rule.result more c.len-in-Rule.ensures c.if-len-wanted-2.true
    ∙ ap (λ o. filled (plain_open o) (plain_derivation c.args.d)) (sym c.in-Rule.is)

pub returns-else-len-wanted-2-clause-ok : goal.returns-else-len-wanted-2-clause-ok
returns-else-len-wanted-2-clause-ok c =
    let more = list-push c.in-Rule.list c.push-in-Rule.new.self c.args.d c.in_ok-push-in-Rule.ensures.ok in
    rule_whole c.in-Rule.wanted (plain_derivations c.in-Rule.list) (plain_derivations c.push-in-Rule.new.self) (plain_derivation c.args.d)
    (plain_derivation (made.Rule c.push-in-Rule.new.self)) c.len-in-Rule.result
    (plain-rule_of c.push-in-Rule.new.self) more c.len-in-Rule.ensures c.if-len-wanted-2.false
    ∙ ap (λ o. filled (plain_open o) (plain_derivation c.args.d)) (sym c.in-Rule.is)
