-- Completing: what was read, or stands before a fault, followed by tokens that make it whole, whatever comes behind them.
use Rattle.std.proofs.Common.{Bool, List, [], false, refl, suc, true, ℕ, ◌∷◌, ◌≡◌}
use Rattle.std.specs.Prelude.{Err, None, Ok, Option, Some, if◌then◌else◌}
use Rattle.fy_lexer.specs.declared.token.Token.{Token}
use Rattle.fy_syntax.specs.Reader.{Fault, Read, mapped, nested, ◌>>=◌}
use Rattle.fy_places.proofs.Fresh.{fresh_piece, fresh_pieces}
use Rattle.fy_places.proofs.Pieces.{Piece, SpellsPiece, SpellsPieces, piece_deeper}

-- two lists are the same up to where one stops and where the other stops
pub data SameBefore (stop other_stop : List Token) : List Token → List Token → Type 0 where
  here : SameBefore stop other_stop stop other_stop
  next : {t : Token} {tokens others : List Token} → SameBefore stop other_stop tokens others → SameBefore stop other_stop (t ∷ tokens) (t ∷ others)

pub same_before_on : {stop other_stop middle other_middle tokens others : List Token} → SameBefore stop other_stop middle other_middle → SameBefore middle other_middle tokens others →
    SameBefore stop other_stop tokens others
same_before_on x SameBefore.here = x
same_before_on x (SameBefore.next y) = SameBefore.next (same_before_on x y)

-- the same with the first token from where the one stops
pub data SameThrough (other_stop : List Token) : List Token → List Token → List Token → Type 0 where
  through : {t : Token} {rest tokens others : List Token} → SameBefore rest other_stop tokens others → SameThrough other_stop (t ∷ rest) tokens others

same_through_on : {stop other_stop middle other_middle tokens others : List Token} → SameThrough other_stop stop middle other_middle → SameBefore middle other_middle tokens others →
    SameThrough other_stop stop tokens others
same_through_on (SameThrough.through x) y = SameThrough.through (same_before_on x y)

pub same_through_next : {stop other_stop tokens others : List Token} (t : Token) → SameThrough other_stop stop tokens others → SameThrough other_stop stop (t ∷ tokens) (t ∷ others)
same_through_next t (SameThrough.through x) = SameThrough.through (SameBefore.next x)

-- a language: the tokens before the rest, within a nesting
abbrev pub Language : Type 1
Language = ℕ → List Token → List Token → Type 0

-- whatever comes later, there are tokens of the language that are the same before the bad one
abbrev pub CompletesBefore : Language → ℕ → List Token → List Token → Type 0
CompletesBefore language depth bad tokens = (later : List Token) → (after whole : List Token) × SameBefore bad after tokens whole × language depth whole later

-- or the same with the bad one
abbrev pub CompletesThrough : Language → ℕ → List Token → List Token → Type 0
CompletesThrough language depth bad tokens = (later : List Token) → (after whole : List Token) × SameThrough after bad tokens whole × language depth whole later

-- what was read is of the language, whatever comes later; what stands before a fault can be completed, and up to a token that is too deep with one node more
abbrev pub IsCompletable : {A : Type 0} → Language → ℕ → List Token → Read A → Type 0
IsCompletable language depth tokens (Ok x) = (later : List Token) → (whole : List Token) × SameBefore x.1 later tokens whole × language depth whole later
IsCompletable language depth tokens (Err (Fault.wrong bad)) = CompletesBefore language depth bad tokens
IsCompletable language depth tokens (Err (Fault.deep bad)) = CompletesBefore language depth bad tokens × CompletesThrough language (suc depth) bad tokens

-- reading stops where a piece can be completed
pub record ReadsPiece {A : Type 0} (piece : Piece) (depth : ℕ) (item : List Token → Read A) : Type 0 where
  pub completable : (tokens : List Token) → IsCompletable (SpellsPiece piece) depth tokens (item tokens)

-- one language in the other
pub completable_as : {A : Type 0} (language other : Language) (depth less : ℕ) (tokens : List Token) (x : Read A) →
    ((whole rest : List Token) → language depth whole rest → other less whole rest) → ((whole rest : List Token) → language (suc depth) whole rest → other (suc less) whole rest) → IsCompletable language depth tokens x → IsCompletable other less tokens x
completable_as language other depth less tokens (Ok x) k l h = λ later. let (whole, a, s) = h later in (whole, a, k whole later s)
completable_as language other depth less tokens (Err (Fault.wrong b)) k l h = λ later. let (c, whole, a, s) = h later in (c, whole, a, k whole later s)
completable_as language other depth less tokens (Err (Fault.deep b)) k l h = (λ later. let (c, whole, a, s) = h.0 later in (c, whole, a, k whole later s), λ later. let (c, whole, a, s) = h.1 later in (c, whole, a, l whole later s))

-- a token in front
pub completable_behind : {A : Type 0} (language other : Language) (depth less : ℕ) (t : Token) (tokens : List Token) (x : Read A) →
    ((whole rest : List Token) → language depth whole rest → other less (t ∷ whole) rest) → ((whole rest : List Token) → language (suc depth) whole rest → other (suc less) (t ∷ whole) rest) → IsCompletable language depth tokens x → IsCompletable other less (t ∷ tokens) x
completable_behind language other depth less t tokens (Ok x) k l h = λ later. let (whole, a, s) = h later in (t ∷ whole, SameBefore.next a, k whole later s)
completable_behind language other depth less t tokens (Err (Fault.wrong b)) k l h = λ later. let (c, whole, a, s) = h later in (c, t ∷ whole, SameBefore.next a, k whole later s)
completable_behind language other depth less t tokens (Err (Fault.deep b)) k l h = (λ later. let (c, whole, a, s) = h.0 later in (c, t ∷ whole, SameBefore.next a, k whole later s), λ later. let (c, whole, a, s) = h.1 later in (c, t ∷ whole, same_through_next t a, l whole later s))

-- what was read stands before what is read next
pub completable_after : {B : Type 0} (piece : Piece) (pieces : List Piece) (depth : ℕ) (tokens middle : List Token) (x : Read B) →
    ((later : List Token) → (whole : List Token) × SameBefore middle later tokens whole × SpellsPiece piece depth whole later) → IsCompletable (SpellsPieces pieces) depth middle x → IsCompletable (SpellsPieces (piece ∷ pieces)) depth tokens x
completable_after piece pieces depth tokens middle (Ok x) g h = λ later. let (whole, a, s) = h later in let (vs, b, t) = g whole in (vs, same_before_on a b, SpellsPieces.also t s)
completable_after piece pieces depth tokens middle (Err (Fault.wrong b)) g h = λ later. let (c, whole, a, s) = h later in let (vs, e, t) = g whole in (c, vs, same_before_on a e, SpellsPieces.also t s)
completable_after piece pieces depth tokens middle (Err (Fault.deep b)) g h = (
  λ later. let (c, whole, a, s) = h.0 later in let (vs, e, t) = g whole in (c, vs, same_before_on a e, SpellsPieces.also t s),
  λ later. let (c, whole, a, s) = h.1 later in let (vs, e, t) = g whole in (c, vs, same_through_on a e, SpellsPieces.also (piece_deeper t) s),
)

pub completable_then : {A B : Type 0} (piece : Piece) (pieces : List Piece) (depth : ℕ) (tokens : List Token) (x : Read A) (f : A × List Token → Read B) →
    IsCompletable (SpellsPiece piece) depth tokens x → ((y : A × List Token) → IsCompletable (SpellsPieces pieces) depth y.1 (f y)) → IsCompletable (SpellsPieces (piece ∷ pieces)) depth tokens (x >>= f)
completable_then piece pieces depth tokens (Ok x) f g h = completable_after piece pieces depth tokens x.1 (f x) g (h x)
completable_then piece pieces depth tokens (Err (Fault.wrong b)) f g h = λ later. let (m, t) = fresh_pieces pieces depth later in let (c, whole, a, s) = g m in (c, whole, a, SpellsPieces.also s t)
completable_then piece pieces depth tokens (Err (Fault.deep b)) f g h = (
  λ later. let (m, t) = fresh_pieces pieces depth later in let (c, whole, a, s) = g.0 m in (c, whole, a, SpellsPieces.also s t),
  λ later. let (m, t) = fresh_pieces pieces (suc depth) later in let (c, whole, a, s) = g.1 m in (c, whole, a, SpellsPieces.also s t),
)

pub completable_mapped : {A B : Type 0} (language : Language) (depth : ℕ) (tokens : List Token) (f : A → B) (x : Read A) → IsCompletable language depth tokens x → IsCompletable language depth tokens (mapped f x)
completable_mapped language depth tokens f (Ok x) h = h
completable_mapped language depth tokens f (Err (Fault.wrong b)) h = h
completable_mapped language depth tokens f (Err (Fault.deep b)) h = h

-- the last piece
pub completable_last : {A B : Type 0} (piece : Piece) (depth : ℕ) (tokens : List Token) (f : A → B) (x : Read A) → IsCompletable (SpellsPiece piece) depth tokens x → IsCompletable (SpellsPieces (piece ∷ [])) depth tokens (mapped f x)
completable_last piece depth tokens f x h = completable_mapped (SpellsPieces (piece ∷ [])) depth tokens f x (completable_as (SpellsPiece piece) (SpellsPieces (piece ∷ [])) depth depth tokens x (λ whole rest s. SpellsPieces.also s SpellsPieces.nothing) (λ whole rest s. SpellsPieces.also s SpellsPieces.nothing) h)

pub completable_end : {A : Type 0} (depth : ℕ) (a : A) (tokens : List Token) → IsCompletable (SpellsPieces []) depth tokens (Ok (a, tokens))
completable_end depth a tokens = λ later. (later, SameBefore.here, SpellsPieces.nothing)

pub completable_if : {A : Type 0} (language : Language) (depth : ℕ) (tokens : List Token) (b : Bool) (x y : Read A) →
    (b ≡ true → IsCompletable language depth tokens x) → (b ≡ false → IsCompletable language depth tokens y) → IsCompletable language depth tokens (if b then x else y)
completable_if language depth tokens true x y h k = h refl
completable_if language depth tokens false x y h k = k refl

pub completable_nested : {A B : Type 0} (language : Language) (depth : ℕ) (tokens : List Token) (o : Option A) (bad : List Token) (go : A → Read B) →
    CompletesBefore language depth bad tokens → CompletesThrough language (suc depth) bad tokens → ((g : A) → o ≡ Some g → IsCompletable language depth tokens (go g)) → IsCompletable language depth tokens (nested o bad go)
completable_nested language depth tokens None bad go c t h = (c, t)
completable_nested language depth tokens (Some g) bad go c t h = h g refl

-- a fault here, where nothing of the pieces stands
pub pieces_complete : (pieces : List Piece) (depth : ℕ) (tokens : List Token) → CompletesBefore (SpellsPieces pieces) depth tokens tokens
pieces_complete pieces depth tokens = λ later. let (whole, s) = fresh_pieces pieces depth later in (whole, whole, SameBefore.here, s)

pub piece_completes : (piece : Piece) (depth : ℕ) (tokens : List Token) → CompletesBefore (SpellsPiece piece) depth tokens tokens
piece_completes piece depth tokens = λ later. let (whole, s) = fresh_piece piece depth later in (whole, whole, SameBefore.here, s)
