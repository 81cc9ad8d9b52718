use Rattle.rv_asm.proofs.Loops.{words_all}
use Rattle.rv_asm.proofs.forms.push_words.Goals as goal

pub returns : goal.returns
returns c = words_all c.args.insns.now c.args.words.now.items c.loop-insn.insn-index c.loop-insn.words.items c.loop-insn-test.false c.loop-insn.invariant
