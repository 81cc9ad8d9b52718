use Rattle.std.proofs.Common.{suc, refl, ap, ◌∙◌, arith, sym}
use Rattle.std.proofs.lemmas.Result.{on_ok_weaker, err_from_is_err_and}
use Rattle.fy_read.specs.declared.counts.Counted.TheVariants as counted
use Rattle.fy_derive.specs.declared.derivation.Derivation.{Ns}
use Rattle.fy_read.specs.declared.read.Awaited.TheVariants as awaited
use Rattle.fy_read.specs.declared.words.NodeWord.TheVariants as node
use Rattle.fy_read.specs.Opened.{nodes_of, in_left, in_right, with_node, extra}
use Rattle.fy_read.specs.OpenLevels.{levels_of}
use Rattle.fy_derive.specs.Reading.{plain_derivation}
use Rattle.fy_read.specs.ReadSoFar.{at_piece}
use Rattle.fy_read.specs.Steps.{node_text}
use Rattle.fy_read.proofs.HalfwayLemmas.{stand_ns, stand_left, stand_right, stand_word}
use Rattle.fy_read.proofs.MadeLemmas.{plain-ns, given_same, on_ok_both}
use Rattle.fy_read.proofs.MoveLemmas.{move_sub, move_meet, move_alt, move_rule, move_ns, move_left, move_right}
use Rattle.fy_read.proofs.ReaderLemmas.{led_from, holds_from, led_ns, led_open, led_bracket, led_count, led_word, node_taken}
use Rattle.fy_read.proofs.PassLemmas.{on_err, plain_passes, memory_stop, passes_same, node_refused, holds_at}
use Rattle.fy_read.proofs.read.Reader.node.Goals as goal

pub returns-in-Ns-clause-led : goal.returns-in-Ns-clause-led
returns-in-Ns-clause-led c =
    let s = c.args.self.now in
    let n = nodes_of s.nodes in
    on_ok_weaker c.give.result
    (λ e. led_word (extra n.waiting) c.in-Ns.is
    (led_from c.requires.node refl refl refl (given_same (nodes_of c.count.new.self) (plain_derivation Ns) e c.count.ensures.nodes plain-ns) refl
    (led_ns n (levels_of s.levels) c.requires.waiting)))
    c.give.ensures.ok

pub returns-in-Ns-clause-read : goal.returns-in-Ns-clause-read
returns-in-Ns-clause-read c =
    let s = c.args.self.now in
    let n = nodes_of s.nodes in
    on_ok_both c.give.result
    (λ e k names text h. at_piece refl
    (holds_from (k ∙ c.in_ok-count.ensures.counted) refl c.requires.node (given_same (nodes_of c.count.new.self)
    (plain_derivation Ns) e c.count.ensures.nodes plain-ns) refl
    (node_taken h.done c.in-Ns.is c.requires.node h.is
    (move_ns n (levels_of s.levels) c.requires.unfinished c.requires.waiting c.in_ok-count.ensures.ok.0 c.in_ok-count.ensures.ok.1)
    (λ ps stands. stand_ns n c.requires.unfinished c.requires.waiting stands) h.holds)))
    c.give.ensures.ok c.give.ensures.count

pub returns-in-Left-clause-led : goal.returns-in-Left-clause-led
returns-in-Left-clause-led c =
    let s = c.args.self.now in
    let n = nodes_of s.nodes in
    on_ok_weaker c.open.result
    (λ e. led_word (extra n.waiting) c.in-Left.is
    (led_from c.requires.node refl refl refl (e ∙ ap (with_node in_left) c.count.ensures.nodes) refl
    (led_open in_left n (levels_of s.levels) (suc (extra n.waiting)) c.requires.unfinished c.requires.waiting (omega arith) (omega arith))))
    c.open.ensures.ok

pub returns-in-Left-clause-read : goal.returns-in-Left-clause-read
returns-in-Left-clause-read c =
    let s = c.args.self.now in
    let n = nodes_of s.nodes in
    on_ok_weaker c.open.result
    (λ e names text h. at_piece refl
    (holds_from (c.open.ensures.count ∙ c.in_ok-count.ensures.counted) refl c.requires.node (e ∙ ap (with_node in_left) c.count.ensures.nodes) refl
    (node_taken h.done c.in-Left.is c.requires.node h.is
    (move_left n (levels_of s.levels) c.requires.unfinished c.in_ok-count.ensures.ok.0 c.in_ok-count.ensures.ok.1)
    (λ ps stands. stand_left n c.requires.unfinished stands) h.holds)))
    c.open.ensures.ok

pub returns-in-Right-clause-led : goal.returns-in-Right-clause-led
returns-in-Right-clause-led c =
    let s = c.args.self.now in
    let n = nodes_of s.nodes in
    on_ok_weaker c.open-in-Right.result
    (λ e. led_word (extra n.waiting) c.in-Right.is
    (led_from c.requires.node refl refl refl (e ∙ ap (with_node in_right) c.count.ensures.nodes) refl
    (led_open in_right n (levels_of s.levels) (suc (extra n.waiting)) c.requires.unfinished c.requires.waiting (omega arith) (omega arith))))
    c.open-in-Right.ensures.ok

pub returns-in-Right-clause-read : goal.returns-in-Right-clause-read
returns-in-Right-clause-read c =
    let s = c.args.self.now in
    let n = nodes_of s.nodes in
    on_ok_weaker c.open-in-Right.result
    (λ e names text h. at_piece refl
    (holds_from (c.open-in-Right.ensures.count ∙ c.in_ok-count.ensures.counted) refl c.requires.node
    (e ∙ ap (with_node in_right) c.count.ensures.nodes) refl
    (node_taken h.done c.in-Right.is c.requires.node h.is
    (move_right n (levels_of s.levels) c.requires.unfinished c.in_ok-count.ensures.ok.0 c.in_ok-count.ensures.ok.1)
    (λ ps stands. stand_right n c.requires.unfinished stands) h.holds)))
    c.open-in-Right.ensures.ok

pub returns-in-Sub-clause-led : goal.returns-in-Sub-clause-led
returns-in-Sub-clause-led c =
    let s = c.args.self.now in
    let n = nodes_of s.nodes in
    led_word (extra n.waiting) c.in-Sub.is (led_from refl refl refl refl c.count.ensures.nodes refl
    (led_bracket n (levels_of s.levels) c.requires.unfinished c.requires.waiting))

pub returns-in-Sub-clause-read : goal.returns-in-Sub-clause-read
returns-in-Sub-clause-read c =
    λ names text h. at_piece refl
    (holds_from c.in_ok-count.ensures.counted refl refl c.count.ensures.nodes refl
    (node_taken {b = awaited.Bracket} h.done c.in-Sub.is c.requires.node h.is (move_sub (nodes_of c.args.self.now.nodes)
    (levels_of c.args.self.now.levels) c.requires.unfinished c.in_ok-count.ensures.ok.0 c.in_ok-count.ensures.ok.1)
    (λ ps stands. stand_word (node_text node.Sub) stands) h.holds))

pub returns-in-Meet-clause-led : goal.returns-in-Meet-clause-led
returns-in-Meet-clause-led c =
    let s = c.args.self.now in
    let n = nodes_of s.nodes in
    led_word (extra n.waiting) c.in-Meet.is (led_from refl refl refl refl c.count.ensures.nodes refl
    (led_count counted.Members n (levels_of s.levels) c.requires.unfinished c.requires.waiting))

pub returns-in-Meet-clause-read : goal.returns-in-Meet-clause-read
returns-in-Meet-clause-read c =
    λ names text h. at_piece refl
    (holds_from c.in_ok-count.ensures.counted refl refl c.count.ensures.nodes refl
    (node_taken {b = (awaited.Count counted.Members)} h.done c.in-Meet.is c.requires.node h.is
    (move_meet (nodes_of c.args.self.now.nodes)
    (levels_of c.args.self.now.levels) c.requires.unfinished c.in_ok-count.ensures.ok.0 c.in_ok-count.ensures.ok.1)
    (λ ps stands. stand_word (node_text node.Meet) stands) h.holds))

pub returns-in-Alt-clause-led : goal.returns-in-Alt-clause-led
returns-in-Alt-clause-led c =
    let s = c.args.self.now in
    let n = nodes_of s.nodes in
    led_word (extra n.waiting) c.in-Alt.is (led_from refl refl refl refl c.count.ensures.nodes refl
    (led_count counted.Alternatives n (levels_of s.levels) c.requires.unfinished c.requires.waiting))

pub returns-in-Alt-clause-read : goal.returns-in-Alt-clause-read
returns-in-Alt-clause-read c =
    λ names text h. at_piece refl
    (holds_from c.in_ok-count.ensures.counted refl refl c.count.ensures.nodes refl
    (node_taken {b = (awaited.Count counted.Alternatives)} h.done c.in-Alt.is c.requires.node h.is
    (move_alt (nodes_of c.args.self.now.nodes)
    (levels_of c.args.self.now.levels) c.requires.unfinished c.in_ok-count.ensures.ok.0 c.in_ok-count.ensures.ok.1)
    (λ ps stands. stand_word (node_text node.Alt) stands) h.holds))

pub returns-in-Rule-clause-led : goal.returns-in-Rule-clause-led
returns-in-Rule-clause-led c =
    let s = c.args.self.now in
    let n = nodes_of s.nodes in
    led_word (extra n.waiting) c.in-Rule.is (led_from refl refl refl refl c.count.ensures.nodes refl
    (led_count counted.Premises n (levels_of s.levels) c.requires.unfinished c.requires.waiting))

pub returns-in-Rule-clause-read : goal.returns-in-Rule-clause-read
returns-in-Rule-clause-read c =
    λ names text h. at_piece refl
    (holds_from c.in_ok-count.ensures.counted refl refl c.count.ensures.nodes refl
    (node_taken {b = (awaited.Count counted.Premises)} h.done c.in-Rule.is c.requires.node h.is
    (move_rule (nodes_of c.args.self.now.nodes)
    (levels_of c.args.self.now.levels) c.requires.unfinished c.in_ok-count.ensures.ok.0 c.in_ok-count.ensures.ok.1)
    (λ ps stands. stand_word (node_text node.Rule) stands) h.holds))

pub returns-in_err-count-clause-limits : goal.returns-in_err-count-clause-limits
returns-in_err-count-clause-limits c =
    let p = err_from_is_err_and c.from_residual.result c.from_residual.ensures.1 in
    rw (p.1, p.2) (λ names text h. passes_same _ (sym h.is) (node_refused c.args.word _ c.requires.unfinished c.in_err-count.ensures.err
    (holds_at awaited.Node c.requires.node h.holds)))

pub returns-in-Ns-clause-limits : goal.returns-in-Ns-clause-limits
returns-in-Ns-clause-limits c = on_err c.give.result (λ e m names text h. plain_passes _ e (memory_stop e m)) c.give.ensures.err

pub returns-in-Left-clause-limits : goal.returns-in-Left-clause-limits
returns-in-Left-clause-limits c = on_err c.open.result (λ e m names text h. plain_passes _ e (memory_stop e m)) c.open.ensures.err

pub returns-in-Right-clause-limits : goal.returns-in-Right-clause-limits
returns-in-Right-clause-limits c = on_err c.open-in-Right.result (λ e m names text h. plain_passes _ e (memory_stop e m)) c.open-in-Right.ensures.err
