use Rattle.std.proofs.Common.{◌∙◌, sym, ap}
use Rattle.std.specs.Option.{option_map}
use Rattle.fy_words.proofs.WordLemmas.{no_value, one_value}
use Rattle.fy_words.proofs.words.with_value.Goals as goal

pub returns-in_default : goal.returns-in_default
returns-in_default c = no_value c.args.found _ (sym c.behind.ensures ∙ ap (λ r. option_map (λ x. x.now) r) c.in_default.is)

pub returns : goal.returns
returns c = λ texts are. one_value c.and.result c.in-Some.value.now _ texts (sym c.behind.ensures ∙ ap (λ r. option_map (λ x. x.now) r) c.in-Some.is) (c.and.ensures texts are)
