-- How a source is read behind the `==` of its header.
use Rattle.std.proofs.Common.{◌≡◌, inl, inr, ℕ, zero, suc, ◌+◌, ◌<◌, List, [], ◌∷◌, ◌++◌, length, get_or, drop, true, refl, sym, ap, ◌∙◌, subst, arith}
use Rattle.std.specs.Prelude.{Some}
use Rattle.std.proofs.lemmas.List.{append_assoc, length-append, append_cancel_left, get_or_at, drop_at}
use Rattle.std.proofs.lemmas.List.Quantifiers.{position-Some}
use Rattle.fy_base.specs.Outside.{Bytes}
use Rattle.fy_base.specs.Places.{first_place}
use Rattle.fy_base.specs.declared.data.Place.{Place}
use Rattle.fy_lexer.specs.declared.token.Token.{Token}
use Rattle.fy_lexer.specs.declared.token.TokenKind.TheVariants as kind
use Rattle.fy_lexer.specs.declared.token.Symbol.TheVariants as symbol
use Rattle.fy_lexer.specs.Again.{HaveNoEnd, IsReadAgain}
use Rattle.fy_lexer.specs.Spot.{Spot, Moved, past}
use Rattle.fy_lexer.specs.Tokens.{Reading, TakesToken, Steps, start_of, IsTokensOf}
use Rattle.fy_lexer.proofs.AgainLemmas.{rests_read_again}
use Rattle.fy_lexer.proofs.NamesLemmas.{HasAdded-none}
use Rattle.fy_lexer.proofs.ReadingLemmas.{Moved-then, Moved-none}
use Rattle.fy_syntax.specs.Signs.{front, token}
use Rattle.fy_link.specs.Header.{PlainHeader, is_sign, header_of}
use Rattle.fy_link.specs.Joined.{IsTail}
use Rattle.fy_link.proofs.Cuts.{header-cut}
use Rattle.fy_link.proofs.Ends.{before-last}
use Rattle.fy_link.proofs.PlaceOrder.{heads-same}
use Rattle.fy_link.proofs.Tails.{spelled-at}

-- reading takes the token of that index here
record IsTakenAt (from : Spot) (last : Reading) (k : ℕ) : Type 0 where
  old : Reading
  next : Reading
  taken : TakesToken old next
  head : Bytes
  moved : Moved from head old.spot
  count : length old.tokens ≡ k
  steps : Steps next last

one-more : (ts us : List Token) (t : Token) (k d : ℕ) → us ≡ ts ++ t ∷ [] → k ≡ length ts + suc d → k ≡ length us + d
one-more ts us t k d e l = omega (arith, l, ap length e, length-append ts (t ∷ []))

taken-at : (from : Spot) (here last : Reading) (k d : ℕ) (head : Bytes) → Moved from head here.spot → Steps here last → k ≡ length here.tokens + d →
    k < length last.tokens → IsTakenAt from last k
taken-at from here last k d head m (Steps.none same) e l = absurd (omega arith)
taken-at from here last k d head m (Steps.more first next new (inl g) rest) e l =
    taken-at from next new k d (head ++ g.piece) (Moved-then from first.spot next.spot head g.piece m g.moved) rest
    (e ∙ ap (λ (ts : List Token). length ts + d) (sym g.tokens)) l
taken-at from here last k zero head m (Steps.more first next new (inr t) rest) e l =
    record { old = first; next = next; taken = t; head = head; moved = m; count = omega (arith, e); steps = rest }
taken-at from here last k (suc d) head m (Steps.more first next new (inr t) rest) e l =
    taken-at from next new k d (head ++ t.piece) (Moved-then from first.spot next.spot head t.piece m t.moved) rest
    (one-more first.tokens next.tokens (record { kind = t.kind; place = first.spot.place }) k d t.tokens e) l

-- what is read behind the `==`: it begins with these bytes, and its tokens are those of the header's tail before the end
pub record IsReadBehind (names : List Bytes) (header : PlainHeader) (tail : Bytes) : Type 0 where
  pub old : Reading
  pub last : Reading
  pub rest : old.spot.rest ≡ tail
  pub steps : Steps old last
  pub ended : last.spot.rest ≡ []
  pub named : last.names ≡ names
  pub own : List Token
  pub taken : last.tokens ≡ old.tokens ++ own
  pub inside : HaveNoEnd own
  pub is : header.tail ≡ own ++ token kind.End last.spot.place ∷ []

same-rest : (text head own rest tail : Bytes) (at : Place) → text ≡ head ++ (61 ∷ 61 ∷ rest) → past first_place head ≡ at →
    text ≡ own ++ (61 ∷ 61 ∷ tail) → past first_place own ≡ at → rest ≡ tail
same-rest text head own rest tail at e p f q =
    let both : head ++ (61 ∷ 61 ∷ rest) ≡ own ++ (61 ∷ 61 ∷ tail) = sym e ∙ f in
    let heads : head ≡ own = heads-same first_place head own (61 ∷ 61 ∷ rest) (61 ∷ 61 ∷ tail) both (p ∙ sym q) in
    let rests : 61 ∷ 61 ∷ rest ≡ 61 ∷ 61 ∷ tail =
    append_cancel_left own (61 ∷ 61 ∷ rest) (61 ∷ 61 ∷ tail) (ap (λ (l : Bytes). l ++ (61 ∷ 61 ∷ rest)) (sym heads) ∙ both) in
    cc

pub read-behind : (names after : List Bytes) (text : Bytes) (tokens : List Token) (header : PlainHeader) (tail : Bytes) →
    IsTokensOf names text tokens after → header_of tokens ≡ Some header → IsTail text header.equals_at tail → IsReadBehind after header tail
read-behind names after text tokens header tail h e t =
    let start : Reading = start_of names text in
    let cut = header-cut tokens header e in
    let end : Token = token kind.End h.last.spot.place in
    let found = position-Some (is_sign symbol.EqualsEquals) tokens cut.k end cut.found in
    let inner : cut.k < length h.last.tokens =
    before-last (is_sign symbol.EqualsEquals) h.last.tokens end end cut.k refl
    (subst (λ (ts : List Token). is_sign symbol.EqualsEquals (get_or ts cut.k end) ≡ true) h.read found.1)
    (subst (λ (ts : List Token). cut.k < length ts) h.read found.0) in
    let at : IsTakenAt start.spot h.last cut.k =
    taken-at start.spot start h.last cut.k cut.k [] (Moved-none start.spot) h.steps (omega arith) inner in
    let sign : Token = record { kind = at.taken.kind; place = at.old.spot.place } in
    let again : IsReadAgain at.next h.last [] first_place h.last.names [] =
    rests_read_again at.next h.last [] first_place h.last.names [] at.steps h.ended (HasAdded-none h.last.names) in
    let behind : List Token = again.own ++ end ∷ [] in
    let all : tokens ≡ at.old.tokens ++ sign ∷ behind =
    h.read ∙ (ap (λ (ts : List Token). ts ++ end ∷ []) (again.taken ∙ ap (λ (ts : List Token). ts ++ again.own) at.taken.tokens)
    ∙ (append_assoc (at.old.tokens ++ sign ∷ []) again.own (end ∷ []) ∙ append_assoc at.old.tokens (sign ∷ []) behind)) in
    let is_equals : is_sign symbol.EqualsEquals sign ≡ true =
    subst (λ (x : Token). is_sign symbol.EqualsEquals x ≡ true) (ap (λ (ts : List Token). get_or ts cut.k end) all ∙ get_or_at at.old.tokens sign behind end cut.k at.count) found.1 in
    let piece : at.taken.piece ≡ 61 ∷ 61 ∷ [] = spelled-at at.old.names sign at.taken.piece is_equals at.taken.spelled in
    let stands : text ≡ at.head ++ (61 ∷ 61 ∷ at.next.spot.rest) =
    at.moved.text ∙ (ap (λ (l : Bytes). at.head ++ l) at.taken.moved.text ∙ ap (λ (l : Bytes). at.head ++ (l ++ at.next.spot.rest)) piece) in
    let here : header.equals_at ≡ at.old.spot.place =
    cut.at ∙ (ap (λ (ts : List Token). front (drop cut.k ts)) all ∙ ap front (drop_at at.old.tokens (sign ∷ behind) cut.k at.count)) in
    let tail_is : header.tail ≡ behind =
    cut.tail ∙ (ap (drop (cut.k + 1)) (all ∙ sym (append_assoc at.old.tokens (sign ∷ []) behind))
    ∙ drop_at (at.old.tokens ++ sign ∷ []) behind (cut.k + 1) (omega (arith, at.count, length-append at.old.tokens (sign ∷ [])))) in
    record {
      old = at.next;
      last = h.last;
      rest = same-rest text at.head t.head at.next.spot.rest tail header.equals_at stands (sym at.moved.place ∙ sym here) t.is t.place;
      steps = at.steps;
      ended = h.ended;
      named = sym h.named;
      own = again.own;
      taken = again.taken;
      inside = again.inside;
      is = tail_is;
    }
