-- The text that tells why a program has no type.
use Rattle.std.specs.Prelude.{ℕ, suc, Bool, false, is_none, Option, Some, None, List, [], ◌∷◌, ◌++◌, codes}
use Rattle.fy_base.specs.Outside.{Bytes}
use Rattle.fy_phrase.specs.Tree.{Tree, let_in, place_of}
use Rattle.fy_short.specs.Cut.{cut}
use Rattle.fy_show.specs.Entries.{Scope, Known}
use Rattle.fy_show.specs.Fresh.{bound}
use Rattle.fy_causes.specs.Occurrences.{Variable, Occurrence}
use Rattle.fy_causes.specs.Causes.{Cause}
use Rattle.fy_causes.specs.Hollow.{Explained, Second, Told}
use Rattle.fy_why.specs.Sentences.{place_text, phrase_at, scope_of, sentences}
use Rattle.fy_why.specs.Origins.{prelude_names, told_of, beside_all}
use Rattle.fy_why.specs.Carets.{failing, shown, spans, carets_of}

-- lines, each behind a lead
abbrev pub lines : Bytes → List Bytes → Bytes
lines lead [] = []
lines lead (l ∷ ls) = lead ++ l ++ 10 ∷ lines lead ls

-- the phrase for which a definition is, if the phrase is one
abbrev pub body_in : Tree → Option Tree
body_in (let_in d p b at) = Some b
body_in p = None

-- a phrase with the names in scope, inside at most so many definitions
abbrev pub inside : Known → ℕ → Scope → Tree → Scope × Tree
inside k (suc n) s (let_in d p b at) = inside k n (bound k s (let_in d p b at) ∷ s) b
inside k n s p = (s, p)

-- the whole is shown inside the prelude
abbrev pub hidden_names : List Variable → ℕ
hidden_names [] = prelude_names
hidden_names (v ∷ G) = 0

abbrev pub shown_at : Known → Occurrence → Scope × Tree
shown_at k o = inside k (hidden_names o.around) (scope_of k o.around) o.phrase

-- a phrase in at most w bytes, and carets under the part that fails
abbrev pub phrase_lines : ℕ → Known → Cause → Scope × Tree → List Bytes
phrase_lines w k c x = let line = cut w (shown k x.0 x.1) in line ∷ carets_of line (spans k x.0 x.1) (failing c)

-- a phrase that is blamed, and what is told of it
abbrev pub block : ℕ → Known → Bool → Bytes → Explained → Bytes
block w k names lead e =
    lines lead (phrase_lines w k e.cause (shown_at k e.at)) ++ lines lead (sentences k e e.cause) ++ lines lead (beside_all k names e (told_of e.cause))

-- what is wrong in a definition, two blanks deeper and without the names
abbrev pub second_text : ℕ → Known → Option Second → Bytes
second_text w k None = []
second_text w k (Some s) =
    codes "  " ++ phrase_at k s.inside ++ codes " has only ns, by this, at " ++ place_text (place_of s.blame.at.phrase) ++ codes ":\n"
    ++ block w k false (codes "    ") s.blame

-- the lines below the note `type L:C`, and `accepted` where there is no such note
abbrev pub why_text : ℕ → Known → Option Told → Bytes
why_text w k None = codes "accepted\n"
why_text w k (Some t) = block w k (is_none t.second) (codes "  ") t.first ++ second_text w k t.second
