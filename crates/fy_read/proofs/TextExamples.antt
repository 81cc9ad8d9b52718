-- Small texts, and bytes that begin none.
use Rattle.std.proofs.Common.{codes, refl}
use Rattle.fy_read.specs.Refusals.{Begins, IsText}
use Rattle.fy_read.specs.Steps.{node_words, type_words}
use Rattle.fy_read.proofs.CompletionLemmas.{accepted, none_begins}

pub no_premise : IsText (codes "rule 0")
unfolding node_words
no_premise = accepted (codes "rule 0") refl

with_types : IsText (codes " sub[ (int ->len:comm)& bool]left alt 7 ns")
unfolding node_words type_words
with_types = accepted (codes " sub[ (int ->len:comm)& bool]left alt 7 ns") refl

-- a leading zero, a word that is no field, a name that stands for a type
leading_zero : ¬ Begins (codes "rule 00")
unfolding node_words
leading_zero = none_begins (codes "rule 00") refl

no_field_word : ¬ Begins (codes "sub [int :")
unfolding node_words type_words
no_field_word = none_begins (codes "sub [int :") refl

no_type_name : ¬ Begins (codes "sub [foo]")
unfolding node_words type_words
no_type_name = none_begins (codes "sub [foo]") refl
