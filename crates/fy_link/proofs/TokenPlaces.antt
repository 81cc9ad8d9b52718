-- Each token of a text stands in the text at its place.
use Rattle.std.proofs.Common.{◌≡◌, ℕ, zero, suc, ◌<◌, List, [], ◌∷◌, ◌++◌, length, get_or, sym, ap, ◌∙◌, subst, inl, inr, arith}
use Rattle.fy_base.specs.Outside.{Bytes}
use Rattle.fy_base.specs.Places.{first_place}
use Rattle.fy_lexer.specs.declared.token.Token.{Token}
use Rattle.fy_lexer.specs.Spellings.{Spells}
use Rattle.fy_lexer.specs.Spot.{Moved, past}
use Rattle.fy_lexer.specs.Tokens.{Reading, SkipsGap, TakesToken, Step, Steps, start_of}
use Rattle.fy_lexer.proofs.ReadingLemmas.{Moved-then, Moved-none}

-- the token's spelling stands in the text at its place
pub record StandsIn (text : Bytes) (t : Token) : Type 0 where
  pub head : Bytes
  pub piece : Bytes
  pub rest : Bytes
  pub names : List Bytes
  pub is : text ≡ head ++ (piece ++ rest)
  pub place : past first_place head ≡ t.place
  pub spelled : Spells names t.kind piece

abbrev pub AllStandIn : Bytes → List Token → Type 0
AllStandIn text [] = Unit {0}
AllStandIn text (t ∷ ts) = StandsIn text t × AllStandIn text ts

stand-push : (text : Bytes) (ts : List Token) (t : Token) → AllStandIn text ts → StandsIn text t → AllStandIn text (ts ++ t ∷ [])
stand-push text [] t h k = (k, tt)
stand-push text (u ∷ ts) t h k = (h.0, stand-push text ts t h.1 k)

-- reading has come here over a beginning of the text, and its tokens stand in it
record IsReached (text : Bytes) (r : Reading) : Type 0 where
  pub head : Bytes
  pub moved : Moved (record { rest = text; place = first_place }) head r.spot
  pub all : AllStandIn text r.tokens

over-gap : (text : Bytes) (old new : Reading) → SkipsGap old new → IsReached text old → IsReached text new
over-gap text old new g r = record {
  head = r.head ++ g.piece;
  moved = Moved-then (record { rest = text; place = first_place }) old.spot new.spot r.head g.piece r.moved g.moved;
  all = subst (AllStandIn text) (sym g.tokens) r.all;
}

over-token : (text : Bytes) (old new : Reading) → TakesToken old new → IsReached text old → IsReached text new
over-token text old new t r = record {
  head = r.head ++ t.piece;
  moved = Moved-then (record { rest = text; place = first_place }) old.spot new.spot r.head t.piece r.moved t.moved;
  all = subst (AllStandIn text) (sym t.tokens) (stand-push text old.tokens (record { kind = t.kind; place = old.spot.place }) r.all
      (record {
        head = r.head;
        piece = t.piece;
        rest = new.spot.rest;
        names = old.names;
        is = r.moved.text ∙ ap (λ (l : Bytes). r.head ++ l) t.moved.text;
        place = sym r.moved.place;
        spelled = t.spelled;
      }));
}

over-step : (text : Bytes) (old new : Reading) → Step old new → IsReached text old → IsReached text new
over-step text old new (inl g) r = over-gap text old new g r
over-step text old new (inr t) r = over-token text old new t r

over-steps : (text : Bytes) (old new : Reading) → Steps old new → IsReached text old → IsReached text new
over-steps text old new (Steps.none here) r = r
over-steps text old new (Steps.more first next last s later) r = over-steps text next last later (over-step text first next s r)

-- the tokens that were read of a text stand in it
pub read-stand : (names : List Bytes) (text : Bytes) (last : Reading) → Steps (start_of names text) last → AllStandIn text last.tokens
read-stand names text last s =
    (over-steps text (start_of names text) last s
    (record { head = []; moved = Moved-none (record { rest = text; place = first_place }); all = tt })).all

pub stands-at : (text : Bytes) (ts : List Token) (k : ℕ) (d : Token) → k < length ts → AllStandIn text ts → StandsIn text (get_or ts k d)
stands-at text [] k d l h = absurd (omega arith)
stands-at text (t ∷ ts) zero d l h = h.0
stands-at text (t ∷ ts) (suc k) d l h = stands-at text ts k d (omega arith) h.1
