-- Programs: what reading all tokens says of them.
use Rattle.std.proofs.Common.{◌≡◌, true, false, List, [], ◌∷◌, ◌++◌, append_assoc, refl, sym, ap, subst, ◌∙◌}
use Rattle.std.specs.Prelude.{Ok, Err, ◌≢◌}
use Rattle.std.specs.List.{All}
use Rattle.std.proofs.lemmas.List.Elements.{All-head, All-tail}
use Rattle.fy_base.specs.declared.data.Place.{Place}
use Rattle.fy_lexer.specs.declared.token.Token.{Token}
use Rattle.fy_lexer.specs.declared.token.TokenKind.{TokenKind}
use Rattle.fy_lexer.specs.declared.token.TokenKind.TheVariants as kind
use Rattle.fy_syntax.specs.Trees.{Tree}
use Rattle.fy_syntax.specs.Signs.{front, token, Level}
use Rattle.fy_syntax.specs.Spells.{SpellsBefore, IsProgram}
use Rattle.fy_syntax.specs.Reader.{Fault, read_phrase}
use Rattle.fy_syntax.proofs.TokenLemmas.{stopped}
use Rattle.fy_syntax.proofs.Unique.{unambiguous}
use Rattle.fy_places.specs.Begins.{IsSyntaxFault, IsDepthFault}
use Rattle.fy_places.proofs.Exact.{wrong_exact, left_exact, deep_exact}
use Rattle.fy_grammar.specs.Program.{IsEnded, IsTheProgram, deepest, is_over, is_end}
use Rattle.fy_grammar.proofs.Holding.{Holds, holds_ok, holds_err}
use Rattle.fy_grammar.proofs.SignsSound.{Lasts, Fails}
use Rattle.fy_grammar.proofs.TermsSound.{Spelled, read_sound}

-- what is left of the tokens, with their end
record IsTail (all us : List Token) : Type 0 where
  ended : IsEnded us
  part : List Token
  is : all ≡ part ++ us

ended_behind : (t : Token) (ts before : List Token) (at : Place) → is_end t.kind ≡ false → t ∷ ts ≡ before ++ token kind.End at ∷ [] → All (λ t. t.kind ≢ kind.End) before → IsEnded ts
ended_behind t ts [] at e f h = absurd (let s : t ≡ token kind.End at = cc in let k : is_end t.kind ≡ true = ap (λ (u : Token). is_end u.kind) s in cc)
ended_behind t ts (b ∷ before) at e f h = record {
  before = before;
  at = at;
  is = (let s : ts ≡ before ++ token kind.End at ∷ [] = cc in s);
  no_other = All-tail (λ t. t.kind ≢ kind.End) b before h;
}

lasts : (all : List Token) → Lasts (IsTail all)
lasts all = record {
  behind = λ t ts e h. record {
    ended = ended_behind t ts h.ended.before h.ended.at e h.ended.is h.ended.no_other;
    part = h.part ++ t ∷ [];
    is = h.is ∙ sym (append_assoc h.part (t ∷ []) ts);
  };
}

not_empty : (us before : List Token) (at : Place) → us ≡ before ++ token kind.End at ∷ [] → us ≡ [] → ⊥
not_empty us [] at e f = cc
not_empty us (b ∷ before) at e f = cc

-- reading all tokens
read_all : (tokens : List Token) → IsEnded tokens → Holds (Spelled (IsTail tokens) Level.phrase 255 tokens) (Fails (IsTail tokens)) (read_phrase 255 tokens)
read_all tokens h = (read_sound (IsTail tokens) (lasts tokens) 255 Level.phrase).sound tokens (record { ended = h; part = []; is = refl })

over_is : (us : List Token) → is_over us ≡ true → us ≡ token kind.End (front us) ∷ []
over_is [] e = absurd cc
over_is (t ∷ []) e = go t.kind e
  where
    go : (k : TokenKind) → is_end k ≡ true → token k t.place ∷ [] ≡ token kind.End t.place ∷ []
    go kind.End e = refl
    go _ e = absurd cc
over_is (t ∷ u ∷ us) e = absurd cc

pub program_found : (tokens rest : List Token) (tree : Tree) → IsEnded tokens → read_phrase 255 tokens ≡ Ok (tree, rest) → is_over rest ≡ true → IsTheProgram tokens tree
program_found tokens rest tree h e f =
    let s = holds_ok (Spelled (IsTail tokens) Level.phrase 255 tokens) (Fails (IsTail tokens)) (read_phrase 255 tokens) (tree, rest) e (read_all tokens h) in
    let p : IsProgram tree tokens = (front rest, subst (λ us. SpellsBefore Level.phrase tree tokens us) (over_is rest f) s.0) in
    record { spelled = p; within = s.1; only = λ other q. unambiguous.of_programs tokens other tree q p }

-- what is left has its end, so it isn't empty
never_empty : (tokens rest : List Token) → IsTail tokens rest → rest ≡ [] → ⊥
never_empty tokens rest h e = not_empty rest h.ended.before h.ended.at h.ended.is e

-- where more than the end is left, the next token isn't the end
not_end : (bad : Token) (rest before : List Token) (at : Place) → bad ∷ rest ≡ before ++ token kind.End at ∷ [] → All (λ t. t.kind ≢ kind.End) before → is_over (bad ∷ rest) ≡ false → bad.kind ≢ kind.End
not_end bad rest [] at e h f = λ k. (let o : is_over (bad ∷ rest) ≡ true = ap is_over e in cc)
not_end bad rest (b ∷ before) at e h f = λ k. (let s : bad ≡ b = cc in All-head (λ t. t.kind ≢ kind.End) b before h (ap (λ (t : Token). t.kind) (sym s) ∙ k))

-- what is left of all tokens, where reading them gives a tree, and where it stops
left_behind : (tokens rest : List Token) (tree : Tree) → IsEnded tokens → read_phrase 255 tokens ≡ Ok (tree, rest) → IsTail tokens rest
left_behind tokens rest tree h e = (holds_ok (Spelled (IsTail tokens) Level.phrase 255 tokens) (Fails (IsTail tokens)) (read_phrase 255 tokens) (tree, rest) e (read_all tokens h)).2

left_stopped : (tokens : List Token) (fault : Fault) → IsEnded tokens → read_phrase 255 tokens ≡ Err fault → IsTail tokens (stopped fault)
left_stopped tokens fault h e = holds_err (Spelled (IsTail tokens) Level.phrase 255 tokens) (Fails (IsTail tokens)) (read_phrase 255 tokens) fault e (read_all tokens h)

-- the three ways to be no program
pub program_left : (tokens rest : List Token) (tree : Tree) → IsEnded tokens → read_phrase 255 tokens ≡ Ok (tree, rest) → is_over rest ≡ false → IsSyntaxFault deepest tokens (front rest)
program_left tokens [] tree h e f = absurd (never_empty tokens [] (left_behind tokens [] tree h e) refl)
program_left tokens (bad ∷ rest) tree h e f =
    let k = (left_behind tokens (bad ∷ rest) tree h e).ended in
    left_exact 255 tokens rest bad tree e (not_end bad rest k.before k.at k.is k.no_other f)

pub program_wrong : (tokens rest : List Token) → IsEnded tokens → read_phrase 255 tokens ≡ Err (Fault.wrong rest) → IsSyntaxFault deepest tokens (front rest)
program_wrong tokens [] h e = absurd (never_empty tokens [] (left_stopped tokens (Fault.wrong []) h e) refl)
program_wrong tokens (bad ∷ rest) h e = wrong_exact 255 tokens rest bad e

pub program_deep : (tokens rest : List Token) → IsEnded tokens → read_phrase 255 tokens ≡ Err (Fault.deep rest) → IsDepthFault deepest tokens (front rest)
program_deep tokens [] h e = absurd (never_empty tokens [] (left_stopped tokens (Fault.deep []) h e) refl)
program_deep tokens (bad ∷ rest) h e = deep_exact 255 tokens rest bad e
