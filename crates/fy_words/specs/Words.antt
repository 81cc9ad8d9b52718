-- What is found among words.
use Rattle.std.specs.Prelude.{◌≡◌, List, [], ◌∷◌}
use Rattle.fy_base.specs.Outside.{Bytes}
use Rattle.fy_words.specs.declared.words.Found.{Found}
use Rattle.fy_words.specs.declared.words.Found.TheVariants.{Nothing, Once, Twice, Often}

-- three texts or more
pub record AreMany (texts : List Bytes) : Type 0 where
  pub first : Bytes
  pub second : Bytes
  pub third : Bytes
  pub others : List Bytes
  pub are : texts ≡ first ∷ second ∷ third ∷ others

-- the texts are as was found
abbrev pub AreFound : Found → List Bytes → Type 0
AreFound Nothing texts = texts ≡ []
AreFound (Once text) texts = texts ≡ text.now ∷ []
AreFound (Twice first second) texts = texts ≡ first.now ∷ second.now ∷ []
AreFound Often texts = AreMany texts
