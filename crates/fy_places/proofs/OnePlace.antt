-- There is one first bad token at most.
use Rattle.std.proofs.Common.{List, [], ap, append_assoc, inl, inr, refl, subst, sym, ℕ, ◌++◌, ◌∙◌, ◌∷◌, ◌≡◌, ◌≤◌, ◌⊎◌}
use Rattle.fy_base.specs.declared.data.Place.{Place}
use Rattle.fy_lexer.specs.declared.token.Token.{Token}
use Rattle.fy_syntax.specs.Nesting.{nesting}
use Rattle.fy_syntax.specs.Spells.{IsProgram}
use Rattle.fy_syntax.specs.Trees.{Tree}
use Rattle.fy_places.specs.Begins.{Begins, BeginsWithin, IsDepthFault, IsFirstBad, IsSyntaxFault, kinds}
use Rattle.fy_places.proofs.Beginnings.{kinds-append}

-- one list goes on behind the other
record GoesOn (before : List Token) (t : Token) (longer : List Token) : Type 0 where
  more : List Token
  is : longer ≡ before ++ t ∷ more

record IsSame (before other : List Token) (t u : Token) : Type 0 where
  lists : before ≡ other
  tokens : t ≡ u

abbrev Compared : List Token → Token → List Token → Token → Type 0
Compared before t other u = IsSame before other t u ⊎ (GoesOn before t other ⊎ GoesOn other u before)

behind_same : (w : Token) (before : List Token) (t : Token) (other : List Token) (u : Token) → Compared before t other u → Compared (w ∷ before) t (w ∷ other) u
behind_same w before t other u (inl h) = inl (record { lists = ap (λ l. w ∷ l) h.lists; tokens = h.tokens })
behind_same w before t other u (inr (inl h)) = inr (inl (record { more = h.more; is = ap (λ l. w ∷ l) h.is }))
behind_same w before t other u (inr (inr h)) = inr (inr (record { more = h.more; is = ap (λ l. w ∷ l) h.is }))

compare : (before : List Token) (t : Token) (rest other : List Token) (u : Token) (other_rest : List Token) → before ++ t ∷ rest ≡ other ++ u ∷ other_rest → Compared before t other u
compare [] t rest [] u other_rest e = inl (record { lists = refl; tokens = (let h : t ≡ u = cc in h) })
compare [] t rest (v ∷ other) u other_rest e = inr (inl (record { more = other; is = (let h : t ≡ v = cc in ap (λ w. w ∷ other) (sym h)) }))
compare (w ∷ before) t rest [] u other_rest e = inr (inr (record { more = before; is = (let h : w ≡ u = cc in ap (λ x. x ∷ before) h) }))
compare (w ∷ before) t rest (v ∷ other) u other_rest e =
    let h : w ≡ v = cc in
    let k : before ++ t ∷ rest ≡ other ++ u ∷ other_rest = cc in
    subst (λ v. Compared (w ∷ before) t (v ∷ other) u) h (behind_same w before t other u (compare before t rest other u other_rest k))

-- what begins with more tokens begins with fewer
pub fewer_begin : (depth : ℕ) (before more : List Token) → BeginsWithin depth (before ++ more) → BeginsWithin depth before
fewer_begin depth before more w =
    let b = w.begins in
    record {
      begins = record {
        program = b.program;
        whole = b.whole;
        more = kinds more ++ b.more;
        spelled = b.spelled;
        is = b.is ∙ ap (λ l. l ++ b.more) (kinds-append before more) ∙ append_assoc (kinds before) (kinds more) b.more;
      };
      within = w.within;
    }

begins_to : (depth : ℕ) (before : List Token) (t : Token) (longer : List Token) → GoesOn before t longer → BeginsWithin depth longer → BeginsWithin depth (before ++ t ∷ [])
begins_to depth before t longer h w =
    fewer_begin depth (before ++ t ∷ []) h.more (subst (λ l. BeginsWithin depth l) (h.is ∙ sym (append_assoc before (t ∷ []) h.more)) w)

first_bad_same : (depth : ℕ) (tokens before other : List Token) (t u : Token) → IsFirstBad depth tokens before t → IsFirstBad depth tokens other u → IsSame before other t u
first_bad_same depth tokens before other t u f g = go (compare before t f.after other u g.after (sym f.is ∙ g.is))
  where
    go : Compared before t other u → IsSame before other t u
    go (inl same) = same
    go (inr (inl longer)) = absurd (f.none (begins_to depth before t other longer g.begun))
    go (inr (inr longer)) = absurd (g.none (begins_to depth other u before longer f.begun))

-- a program within the nesting begins with itself, up to each of its tokens
pub program_not_bad : (depth : ℕ) (tokens before : List Token) (bad : Token) (tree : Tree) → IsProgram tree tokens → nesting tree ≤ depth → IsFirstBad depth tokens before bad → ⊥
program_not_bad depth tokens before bad tree spelled within first =
    first.none (record {
      begins = record {
        program = tree;
        whole = tokens;
        more = kinds first.after;
        spelled = spelled;
        is = ap kinds (first.is ∙ sym (append_assoc before (bad ∷ []) first.after)) ∙ kinds-append (before ++ bad ∷ []) first.after;
      };
      within = within;
    })

pub syntax_unique : (depth : ℕ) (tokens : List Token) (place other : Place) → IsSyntaxFault depth tokens place → IsSyntaxFault depth tokens other → place ≡ other
syntax_unique depth tokens place other f g = sym f.at ∙ ap (λ (t : Token). t.place) (first_bad_same depth tokens f.before g.before f.bad g.bad f.first g.first).tokens ∙ g.at

pub depth_unique : (depth : ℕ) (tokens : List Token) (place other : Place) → IsDepthFault depth tokens place → IsDepthFault depth tokens other → place ≡ other
depth_unique depth tokens place other f g = sym f.at ∙ ap (λ (t : Token). t.place) (first_bad_same depth tokens f.before g.before f.bad g.bad f.first g.first).tokens ∙ g.at

pub syntax_or_depth : (depth : ℕ) (tokens : List Token) (place other : Place) → IsSyntaxFault depth tokens place → IsDepthFault depth tokens other → ⊥
syntax_or_depth depth tokens place other f g =
    let s = first_bad_same depth tokens f.before g.before f.bad g.bad f.first g.first in
    f.none_deeper (subst (λ (b : List Token). Begins (b ++ f.bad ∷ [])) (sym s.lists) (subst (λ (t : Token). Begins (g.before ++ t ∷ [])) (sym s.tokens) g.deeper))
