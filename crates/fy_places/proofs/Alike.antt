-- Two readings are alike up to a token: their lists have the same kinds up to it, and where one stops no later, so does the other, at the same place and in the same way.
use Rattle.std.proofs.Common.{List, arith, inl, length, refl, ℕ, ◌<◌, ◌∷◌, ◌≡◌, ◌≤◌, ◌⊎◌}
use Rattle.std.specs.Prelude.{Err, Ok}
use Rattle.fy_base.specs.declared.data.Place.{Place}
use Rattle.fy_lexer.specs.declared.token.Token.{Token}
use Rattle.fy_lexer.specs.declared.token.TokenKind.{TokenKind}
use Rattle.fy_syntax.specs.Reader.{Fault, Read, kind_at}
use Rattle.fy_syntax.specs.Signs.{token}
use Rattle.fy_syntax.proofs.TokenLemmas.{stopped}

-- two lists have the same kinds of tokens, up to one before the rest of the one and the rest of the other
pub data SameKinds (rest other_rest : List Token) : List Token → List Token → Type 0 where
  last : {k : TokenKind} {p o : Place} → SameKinds rest other_rest (token k p ∷ rest) (token k o ∷ other_rest)
  next : {k : TokenKind} {p o : Place} {here there : List Token} → SameKinds rest other_rest here there → SameKinds rest other_rest (token k p ∷ here) (token k o ∷ there)

pub same_kinds_longer : {rest other_rest here there : List Token} → SameKinds rest other_rest here there → length rest < length here
same_kinds_longer SameKinds.last = omega arith
same_kinds_longer (SameKinds.next a) = omega (arith, same_kinds_longer a)

pub same_kinds_longer_too : {rest other_rest here there : List Token} → SameKinds rest other_rest here there → length other_rest < length there
same_kinds_longer_too SameKinds.last = omega arith
same_kinds_longer_too (SameKinds.next a) = omega (arith, same_kinds_longer_too a)

pub same_first_kind : {rest other_rest here there : List Token} → SameKinds rest other_rest here there → kind_at there ≡ kind_at here
same_first_kind SameKinds.last = refl
same_first_kind (SameKinds.next a) = refl

-- at most so many tokens are left
abbrev pub LeavesAtMost : {A : Type 0} → ℕ → Read A → Type 0
LeavesAtMost most (Ok x) = length x.1 ≤ most
LeavesAtMost most (Err fault) = length (stopped fault) ≤ most

-- where the one reading stops no later than before the rest, so does the other, at the same place and in the same way; a fault of depth may be excused
abbrev pub AnswersAs : {A : Type 0} → List Token → List Token → Type 0 → Read A → Read A → Type 0
AnswersAs {A = A} rest other_rest excuse (Ok x) other = (length x.1 ≤ length rest) ⊎ ((b : A) × (there : List Token) × SameKinds rest other_rest x.1 there × (other ≡ Ok (b, there)))
AnswersAs rest other_rest excuse (Err (Fault.wrong bad)) other = (length bad ≤ length rest) ⊎ ((there : List Token) × SameKinds rest other_rest bad there × (other ≡ Err (Fault.wrong there)))
AnswersAs rest other_rest excuse (Err (Fault.deep bad)) other = (length bad ≤ length rest) ⊎ (excuse ⊎ ((there : List Token) × SameKinds rest other_rest bad there × (other ≡ Err (Fault.deep there))))

-- two readings take tokens only, and the other answers as the one does
pub record Follows {A : Type 0} (excuse : Type 0) (f g : List Token → Read A) : Type 0 where
  pub left : (most : ℕ) (here : List Token) → length here ≤ most → LeavesAtMost most (f here)
  pub right : (most : ℕ) (here : List Token) → length here ≤ most → LeavesAtMost most (g here)
  pub same : (rest other_rest here there : List Token) → SameKinds rest other_rest here there → AnswersAs rest other_rest excuse (f here) (g there)

pub answers_past : {A : Type 0} (rest other_rest : List Token) (excuse : Type 0) (x y : Read A) → LeavesAtMost (length rest) x → AnswersAs rest other_rest excuse x y
answers_past rest other_rest excuse (Ok x) y u = inl u
answers_past rest other_rest excuse (Err (Fault.wrong b)) y u = inl u
answers_past rest other_rest excuse (Err (Fault.deep b)) y u = inl u
