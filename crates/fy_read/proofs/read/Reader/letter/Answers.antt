use Rattle.std.proofs.Common.{[], ◌∷◌, ◌++◌, length, sym, ap, ◌∙◌, append_assoc}
use Rattle.std.proofs.lemmas.Result.{on_ok_weaker, err_from_is_err_and}
use Rattle.fy_read.specs.Opened.{nodes_of}
use Rattle.fy_read.specs.OpenLevels.{levels_of}
use Rattle.fy_read.specs.Readers.{reached}
use Rattle.fy_read.specs.ReadSoFar.{in_word}
use Rattle.fy_read.specs.Steps.{lettered, node_word, begins_node_word}
use Rattle.fy_read.proofs.GrammarLemmas.{node_word-text}
use Rattle.fy_read.proofs.MadeLemmas.{no_misfit_after}
use Rattle.fy_read.proofs.ReaderAnswers.{letter_part_led, letter_known_led, letter_begins_led, letter_misfit, before_longer, read_word}
use Rattle.fy_read.proofs.ReaderLemmas.{may_node}
use Rattle.fy_read.proofs.PassLemmas.{on_err}
use Rattle.fy_read.proofs.read.Reader.letter.Goals as goal

pub returns-in-Part-clause-led : goal.returns-in-Part-clause-led
returns-in-Part-clause-led c =
    letter_part_led c.requires.waiting c.requires.unfinished c.requires.levels c.requires.begun c.requires.word c.in-Part.is c.in_ok-push.ensures.items

pub returns-in-Part-clause-read : goal.returns-in-Part-clause-read
returns-in-Part-clause-read c =
    λ names text h. in_word c.requires.word (before_longer c.args.byte c.in_ok-push.ensures.items (read_word c.requires.word h) (λ done g. g))

pub node-requires : goal.node-requires
node-requires c =
    let s = c.args.self.now in
    let t = may_node s.awaited (nodes_of s.nodes) (s.letters.items ++ c.args.byte ∷ []) c.requires.begun c.in_default.not-Part in
    record { waiting = c.requires.waiting; node = t.0; unfinished = t.1 }

pub returns-in-Some-clause-led : goal.returns-in-Some-clause-led
returns-in-Some-clause-led c =
    let s = c.args.self.now in
    let v = s.letters.items ++ c.args.byte ∷ [] in
    let known = ap node_word (sym (c.deref.ensures.value ∙ c.in_ok-push.ensures.items)) ∙ sym c.in-Some.ensures in
    on_ok_weaker c.node.result (λ h. letter_known_led v (nodes_of s.nodes)
    (length (levels_of s.levels).outer) c.requires.begun c.in_default.not-Part known h) c.node.ensures.led

pub returns-in-Some-clause-misfit : goal.returns-in-Some-clause-misfit
returns-in-Some-clause-misfit c =
    let s = c.args.self.now in no_misfit_after (lettered (reached s) (s.letters.items ++ c.args.byte ∷ [])) c.node.result c.node.ensures.fits

pub returns-in-Some-clause-read : goal.returns-in-Some-clause-read
returns-in-Some-clause-read c =
    let s = c.args.self.now in
    let x = c.args.byte in
    let v = s.letters.items ++ x ∷ [] in
    let known = ap node_word (sym (c.deref.ensures.value ∙ c.in_ok-push.ensures.items)) ∙ sym c.in-Some.ensures in
    on_ok_weaker c.node.result
    (λ f names text h. let b = read_word c.requires.word h in
    f names (text ++ x ∷ []) (record {
      done = b.done;
      is = ap (λ t. t ++ x ∷ []) b.is ∙ (append_assoc b.done s.letters.items (x ∷ []) ∙ ap (λ u. b.done ++ u)
          (node_word-text v c.in-Some.word known));
      holds = b.holds;
    }))
    c.node.ensures.read

pub returns-then-not-begins_node_word-clause-misfit : goal.returns-then-not-begins_node_word-clause-misfit
returns-then-not-begins_node_word-clause-misfit c =
    let s = c.args.self.now in
    let v = s.letters.items ++ c.args.byte ∷ [] in
    let same = c.deref.ensures.value ∙ c.in_ok-push.ensures.items in
    let again = c.deref-2.ensures.value ∙ c.in_ok-push.ensures.items in
    λ is. letter_misfit v (nodes_of s.nodes) (length (levels_of s.levels).outer) c.requires.begun c.in_default.not-Part
    (ap node_word (sym same) ∙ (sym c.node_word.ensures ∙ c.in_default-node_word.is)) (ap begins_node_word (sym again)
    ∙ (sym c.begins_node_word.ensures ∙ c.if-not-begins_node_word.true))

pub returns-clause-led : goal.returns-clause-led
returns-clause-led c =
    let same = c.deref.ensures.value ∙ c.in_ok-push.ensures.items in
    let again = c.deref-2.ensures.value ∙ c.in_ok-push.ensures.items in
    letter_begins_led c.requires.waiting c.requires.begun c.in_default.not-Part c.requires.word c.in_ok-push.ensures.items
    (ap node_word (sym same) ∙ (sym c.node_word.ensures ∙ c.in_default-node_word.is)) (ap begins_node_word (sym again)
    ∙ (sym c.begins_node_word.ensures ∙ c.if-not-begins_node_word.false))

pub returns-clause-read : goal.returns-clause-read
returns-clause-read c =
    λ names text h. in_word c.requires.word (before_longer c.args.byte c.in_ok-push.ensures.items (read_word c.requires.word h) (λ done g. g))

pub returns-in_err-push-clause-limits : goal.returns-in_err-push-clause-limits
returns-in_err-push-clause-limits c =
    let p = err_from_is_err_and c.from_residual.result c.from_residual.ensures.1 in
    rw (p.1, p.2) (λ names text h. tt)

pub returns-in-Some-clause-limits : goal.returns-in-Some-clause-limits
returns-in-Some-clause-limits c =
    let s = c.args.self.now in
    let x = c.args.byte in
    let v = s.letters.items ++ x ∷ [] in
    let known = ap node_word (sym (c.deref.ensures.value ∙ c.in_ok-push.ensures.items)) ∙ sym c.in-Some.ensures in
    on_err c.node.result
    (λ e f names text h. let b = read_word c.requires.word h in
    f names (text ++ x ∷ []) (record {
      done = b.done;
      is = ap (λ t. t ++ x ∷ []) b.is ∙ (append_assoc b.done s.letters.items (x ∷ []) ∙ ap (λ u. b.done ++ u)
          (node_word-text v c.in-Some.word known));
      holds = b.holds;
    }))
    c.node.ensures.limits
