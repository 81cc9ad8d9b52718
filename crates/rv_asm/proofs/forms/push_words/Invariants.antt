use Rattle.rv_asm.proofs.Loops.{WordsTo}
use Rattle.rv_asm.proofs.forms.push_words.Given as goal

abbrev pub invariant-loop-insn : goal.invariant-loop-insn
invariant-loop-insn l = WordsTo l.insns l.fn.words.items l.insn-index l.words.items
