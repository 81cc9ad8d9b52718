-- What a phrase is read as, by its form.
use Rattle.std.proofs.Common.{◌≡◌, sym, ap, ◌∙◌}
use Rattle.fy_base.specs.declared.data.Place.{Place}
use Rattle.fy_phrase.specs.declared.phrase.Phrase as form
use Rattle.fy_phrase.specs.declared.phrase.Phrase.{Phrase, fold-roll-Phrase}
use Rattle.fy_phrase.specs.declared.phrase.Phrase.TheOpen.{Phrase-F}
use Rattle.fy_phrase.specs.declared.phrase.Phrase.TheVariants.{rolls-Skip}
use Rattle.fy_phrase.specs.Tree.{Tree, Trees, skip}
use Rattle.fy_phrase.specs.Reads.{reads, reads_form, reads_list}

pub Skip-tree : (p : Phrase) (at : Place) → p ≡ form.Skip at → reads p ≡ skip at
Skip-tree p at e = rw e (ap reads (sym (rolls-Skip at)) ∙ fold-roll-Phrase Tree Trees reads_form reads_list (Phrase-F.Skip at))
