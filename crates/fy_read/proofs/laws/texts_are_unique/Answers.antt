use Rattle.fy_derive.specs.Print.{derivation_text}
use Rattle.fy_read.proofs.PrintedLemmas.{printed_is_text}
use Rattle.fy_read.proofs.ValueLemmas.{text_unique}
use Rattle.fy_read.proofs.laws.texts_are_unique.Goals as goal

pub returns-clause-texts : goal.returns-clause-texts
returns-clause-texts c = text_unique

pub returns-clause-printed : goal.returns-clause-printed
returns-clause-printed c =
    λ names d e distinct printable text. text_unique names e d (derivation_text names d) distinct text (printed_is_text names d printable)
