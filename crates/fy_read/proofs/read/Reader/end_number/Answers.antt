use Rattle.std.proofs.Common.{length, refl, sym, ap, ◌∙◌, arith}
use Rattle.std.proofs.lemmas.Result.{on_ok_weaker}
use Rattle.fy_read.specs.declared.counts.Counted.TheVariants as counted
use Rattle.fy_derive.specs.declared.derivation.Derivation.{Rule}
use Rattle.fy_read.specs.declared.read.Awaited.TheVariants as awaited
use Rattle.fy_derive.specs.Derivations.{no_derivations}
use Rattle.fy_read.specs.Opened.{in_alt, in_meet, in_rule, nodes_of, with_node}
use Rattle.fy_read.specs.OpenLevels.{levels_of}
use Rattle.fy_read.specs.Readers.{spot_of}
use Rattle.fy_derive.specs.Reading.{plain_derivation}
use Rattle.fy_read.specs.ReadSoFar.{at_piece}
use Rattle.fy_read.specs.Steps.{ended}
use Rattle.fy_read.proofs.EndLemmas.{no_members}
use Rattle.fy_read.proofs.HalfwayLemmas.{stand_alt, stand_meet, stand_rule, stand_no_premise}
use Rattle.fy_read.proofs.MadeLemmas.{plain-rule, given_same, memory_after, on_ok_both}
use Rattle.fy_read.proofs.MoveLemmas.{move_index, move_members, move_premises, move_no_premise}
use Rattle.fy_read.proofs.PieceAnswers.{unfinished_count, count_bounds, count_out, open_ended, rule_ended, number_misfit, number_taken, zero_text}
use Rattle.fy_read.proofs.ReaderAnswers.{read_number}
use Rattle.fy_read.proofs.PassLemmas.{memory_plain}
use Rattle.fy_read.proofs.read.Reader.end_number.Goals as goal

pub returns-in_default-clause-misfit : goal.returns-in_default-clause-misfit
returns-in_default-clause-misfit c =
    let s = c.args.self.now in
    λ is. number_misfit s.awaited s.letters.items s.is_loose (nodes_of s.nodes)
    (length (levels_of s.levels).outer) c.args.value c.requires.begun c.in_default.not-Count

pub returns-then-not-takes-clause-misfit : goal.returns-then-not-takes-clause-misfit
returns-then-not-takes-clause-misfit c =
    let s = c.args.self.now in
    λ is. count_out s.awaited s.letters.items s.is_loose (nodes_of s.nodes)
    (length (levels_of s.levels).outer) c.args.value c.in-Count.counted c.requires.begun c.in-Count.is (sym c.takes.ensures ∙ c.if-not-takes.true)

pub returns-in-Alternatives-clause-ended : goal.returns-in-Alternatives-clause-ended
returns-in-Alternatives-clause-ended c =
    let s = c.args.self.now in
    let v = c.args.value in
    let n = nodes_of s.nodes in
    let t = count_bounds c.in-Count.counted counted.Alternatives c.args.value c.in-Alternatives.is (sym c.takes.ensures ∙ c.if-not-takes.false) in
    on_ok_weaker c.open.result
    (λ e. open_ended counted.Alternatives (in_alt v) v c.requires.sound (c.in-Count.is
    ∙ ap awaited.Count c.in-Alternatives.is) c.requires.begun t.0 t.1 (omega arith) (omega arith) e)
    c.open.ensures.ok

pub returns-in-Alternatives-clause-misfit : goal.returns-in-Alternatives-clause-misfit
returns-in-Alternatives-clause-misfit c = memory_after (ended (spot_of c.args.self.now)) c.open.result c.open.ensures.err

pub returns-in-Alternatives-clause-read : goal.returns-in-Alternatives-clause-read
returns-in-Alternatives-clause-read c =
    let s = c.args.self.now in
    let v = c.args.value in
    let n = nodes_of s.nodes in
    let ea = c.in-Count.is ∙ ap awaited.Count c.in-Alternatives.is in
    let t = count_bounds c.in-Count.counted counted.Alternatives c.args.value c.in-Alternatives.is (sym c.takes.ensures ∙ c.if-not-takes.false) in
    on_ok_weaker c.open.result
    (λ e names text h. let b = read_number v c.requires.begun h in
    at_piece refl (number_taken (awaited.Count counted.Alternatives) v b.done c.open.ensures.count ea e b.is
    (move_index n (levels_of s.levels) v (unfinished_count n counted.Alternatives ea c.requires.sound.unfinished) c.requires.sound.waiting t.1)
    (λ ps g. stand_alt n v (unfinished_count n counted.Alternatives ea c.requires.sound.unfinished) (omega (arith, t.1)) g) b.holds))
    c.open.ensures.ok

pub returns-in-Members-clause-ended : goal.returns-in-Members-clause-ended
returns-in-Members-clause-ended c =
    let s = c.args.self.now in
    let v = c.args.value in
    let n = nodes_of s.nodes in
    let t = count_bounds c.in-Count.counted counted.Members c.args.value c.in-Members.is (sym c.takes.ensures ∙ c.if-not-takes.false) in
    on_ok_weaker c.open-in-Members.result
    (λ e. open_ended counted.Members (in_meet v no_derivations) v c.requires.sound (c.in-Count.is
    ∙ ap awaited.Count c.in-Members.is) c.requires.begun t.0 t.1 (omega (arith, t.0)) (omega arith) (e
    ∙ ap (λ ds. with_node (in_meet v ds) n) (no_members c.new-list.result c.new-list.ensures)))
    c.open-in-Members.ensures.ok

pub returns-in-Members-clause-misfit : goal.returns-in-Members-clause-misfit
returns-in-Members-clause-misfit c = memory_after (ended (spot_of c.args.self.now)) c.open-in-Members.result c.open-in-Members.ensures.err

pub returns-in-Members-clause-read : goal.returns-in-Members-clause-read
returns-in-Members-clause-read c =
    let s = c.args.self.now in
    let v = c.args.value in
    let n = nodes_of s.nodes in
    let ea = c.in-Count.is ∙ ap awaited.Count c.in-Members.is in
    let t = count_bounds c.in-Count.counted counted.Members c.args.value c.in-Members.is (sym c.takes.ensures ∙ c.if-not-takes.false) in
    on_ok_weaker c.open-in-Members.result
    (λ e names text h. let b = read_number v c.requires.begun h in
    at_piece refl (number_taken (awaited.Count counted.Members) v b.done c.open-in-Members.ensures.count ea (e
    ∙ ap (λ ds. with_node (in_meet v ds) n) (no_members c.new-list.result c.new-list.ensures)) b.is
    (move_members n (levels_of s.levels) v (unfinished_count n counted.Members ea c.requires.sound.unfinished) c.requires.sound.waiting t.0 t.1)
    (λ ps g. stand_meet n v (unfinished_count n counted.Members ea c.requires.sound.unfinished) t.0 t.1 g) b.holds))
    c.open-in-Members.ensures.ok

pub returns-else-value-eq0-clause-ended : goal.returns-else-value-eq0-clause-ended
returns-else-value-eq0-clause-ended c =
    let s = c.args.self.now in
    let v = c.args.value in
    let n = nodes_of s.nodes in
    let t = count_bounds c.in-Count.counted counted.Premises c.args.value c.in-Premises.is (sym c.takes.ensures ∙ c.if-not-takes.false) in
    on_ok_weaker c.open-in-Premises.result
    (λ e. open_ended counted.Premises (in_rule v no_derivations) v c.requires.sound (c.in-Count.is
    ∙ ap awaited.Count c.in-Premises.is) c.requires.begun t.0 t.1 (omega arith) (omega arith) (e
    ∙ ap (λ ds. with_node (in_rule v ds) n) (no_members c.new-list-in-Premises.result c.new-list-in-Premises.ensures)))
    c.open-in-Premises.ensures.ok

pub returns-else-value-eq0-clause-misfit : goal.returns-else-value-eq0-clause-misfit
returns-else-value-eq0-clause-misfit c = memory_after (ended (spot_of c.args.self.now)) c.open-in-Premises.result c.open-in-Premises.ensures.err

pub returns-else-value-eq0-clause-read : goal.returns-else-value-eq0-clause-read
returns-else-value-eq0-clause-read c =
    let s = c.args.self.now in
    let v = c.args.value in
    let n = nodes_of s.nodes in
    let ea = c.in-Count.is ∙ ap awaited.Count c.in-Premises.is in
    let t = count_bounds c.in-Count.counted counted.Premises c.args.value c.in-Premises.is (sym c.takes.ensures ∙ c.if-not-takes.false) in
    on_ok_weaker c.open-in-Premises.result
    (λ e names text h. let b = read_number v c.requires.begun h in
    at_piece refl (number_taken (awaited.Count counted.Premises) v b.done c.open-in-Premises.ensures.count ea (e
    ∙ ap (λ ds. with_node (in_rule v ds) n) (no_members c.new-list-in-Premises.result c.new-list-in-Premises.ensures)) b.is
    (move_premises n (levels_of s.levels) v (unfinished_count n counted.Premises ea c.requires.sound.unfinished) c.requires.sound.waiting
    (omega (arith, c.if-value-eq0.false)) t.1)
    (λ ps g. stand_rule n v (unfinished_count n counted.Premises ea c.requires.sound.unfinished) t.1 g) b.holds))
    c.open-in-Premises.ensures.ok

pub returns-then-value-eq0-clause-ended : goal.returns-then-value-eq0-clause-ended
returns-then-value-eq0-clause-ended c =
    let s = c.args.self.now in
    let list = c.new-list-in-Premises.result in
    on_ok_weaker c.give.result
    (λ e. rule_ended c.args.value c.requires.sound (c.in-Count.is ∙ ap awaited.Count c.in-Premises.is) c.requires.begun c.if-value-eq0.true
    (given_same (nodes_of s.nodes) (plain_derivation (Rule list)) e refl (plain-rule list (no_members list c.new-list-in-Premises.ensures))))
    c.give.ensures.ok

pub returns-then-value-eq0-clause-misfit : goal.returns-then-value-eq0-clause-misfit
returns-then-value-eq0-clause-misfit c = memory_after (ended (spot_of c.args.self.now)) c.give.result c.give.ensures.err

pub returns-then-value-eq0-clause-read : goal.returns-then-value-eq0-clause-read
returns-then-value-eq0-clause-read c =
    let s = c.args.self.now in
    let n = nodes_of s.nodes in
    let list = c.new-list-in-Premises.result in
    let ea = c.in-Count.is ∙ ap awaited.Count c.in-Premises.is in
    on_ok_both c.give.result
    (λ e k names text h. let b = read_number c.args.value c.requires.begun h in
    at_piece refl (number_taken (awaited.Count counted.Premises) 0 b.done k ea
    (given_same (nodes_of s.nodes) (plain_derivation (Rule list)) e refl (plain-rule list (no_members list c.new-list-in-Premises.ensures)))
    (b.is ∙ zero_text b.done c.if-value-eq0.true)
    (move_no_premise n (levels_of s.levels) (unfinished_count n counted.Premises ea c.requires.sound.unfinished) c.requires.sound.waiting)
    (λ ps g. stand_no_premise n
    (unfinished_count n counted.Premises ea c.requires.sound.unfinished) c.requires.sound.waiting g) b.holds))
    c.give.ensures.ok c.give.ensures.count

pub give-requires : goal.give-requires
give-requires c =
    unfinished_count (nodes_of c.args.self.now.nodes) counted.Premises (c.in-Count.is ∙ ap awaited.Count c.in-Premises.is) c.requires.sound.unfinished

pub returns-in-Alternatives-clause-plain : goal.returns-in-Alternatives-clause-plain
returns-in-Alternatives-clause-plain c = memory_plain c.open.result c.open.ensures.err

pub returns-in-Members-clause-plain : goal.returns-in-Members-clause-plain
returns-in-Members-clause-plain c = memory_plain c.open-in-Members.result c.open-in-Members.ensures.err

pub returns-else-value-eq0-clause-plain : goal.returns-else-value-eq0-clause-plain
returns-else-value-eq0-clause-plain c = memory_plain c.open-in-Premises.result c.open-in-Premises.ensures.err

pub returns-then-value-eq0-clause-plain : goal.returns-then-value-eq0-clause-plain
returns-then-value-eq0-clause-plain c = memory_plain c.give.result c.give.ensures.err
