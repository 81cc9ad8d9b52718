-- The text of a tree but for its last blank spells the tree but for places.
use Rattle.std.proofs.Common.{◌≡◌, ℕ, ◌<◌, List, [], ◌∷◌, ◌++◌, length, refl, sym, ap, subst, ◌∙◌, arith, append_assoc, append-nil, length-append, Some, None}
use Rattle.std.specs.Prelude.{Option}
use Rattle.std.specs.Option.{option_to_list, IsSome}
use Rattle.fy_base.specs.Outside.{Bytes}
use Rattle.fy_lexer.specs.declared.token.Token.{Token}
use Rattle.fy_lexer.specs.declared.token.TokenKind.TheVariants as kind
use Rattle.fy_lexer.specs.Tokens.{Steps, start_of}
use Rattle.fy_lexer.specs.Reading.{reading_of}
use Rattle.fy_syntax.specs.Trees.{Tree}
use Rattle.fy_syntax.specs.Signs.{Level}
use Rattle.fy_syntax.specs.Spells.{SpellsBefore}
use Rattle.fy_syntax.specs.Print.{tree_text}
use Rattle.fy_syntax.specs.Ranges.{IsInRanges}
use Rattle.fy_syntax.specs.Printing.{led, joined, AreKnown, IsPrintable, IsTextOf}
use Rattle.fy_syntax.proofs.Fronts.{shorter}
use Rattle.fy_syntax.proofs.KindTexts.{kind_text}
use Rattle.fy_syntax.proofs.RangeLemmas.{tree_range}
use Rattle.fy_syntax.proofs.WrittenLemmas.{tokens_text, tree_written}
use Rattle.fy_syntax.proofs.PlaceLemmas.{places_of, placed_whole, tree_moved}
use Rattle.fy_syntax.proofs.LexedLemmas.{texts, lexed, all_spelled, spelled_inside, pieces_of}

led_text : (names : List Bytes) (ts : List Token) → 32 ∷ tokens_text names ts ≡ led (texts names ts) ++ 32 ∷ []
led_text names [] = refl
led_text names (t ∷ ts) =
    ap (λ l. 32 ∷ kind_text names t.kind ++ l) (led_text names ts) ∙ ap (λ l. 32 ∷ l) (sym (append_assoc (kind_text names t.kind) (led (texts names ts)) (32 ∷ [])))

joined_text : (names : List Bytes) (t : Token) (ts : List Token) → tokens_text names (t ∷ ts) ≡ joined (texts names (t ∷ ts)) ++ 32 ∷ []
joined_text names t ts = ap (λ l. kind_text names t.kind ++ l) (led_text names ts) ∙ sym (append_assoc (kind_text names t.kind) (led (texts names ts)) (32 ∷ []))

whole_text : (names : List Bytes) (tree : Tree) (t : Token) (ts : List Token) → SpellsBefore Level.phrase tree (t ∷ ts) [] → tree_text names tree ≡ joined (texts names (t ∷ ts)) ++ 32 ∷ []
whole_text names tree t ts x = sym (append-nil (tree_text names tree)) ∙ sym (tree_written names x) ∙ joined_text names t ts

-- lists with one more at the end
front_same : (a b : Bytes) (x y : ℕ) → a ++ x ∷ [] ≡ b ++ y ∷ [] → a ≡ b
front_same [] [] x y e = refl
front_same [] (c ∷ b) x y e = absurd (let l = ap length e in omega (arith, l, length-append b (y ∷ [])))
front_same (c ∷ a) [] x y e = absurd (let l = ap length e in omega (arith, l, length-append a (x ∷ [])))
front_same (c ∷ a) (d ∷ b) x y e =
    let h : c ≡ d = cc in
    let f : a ++ x ∷ [] ≡ b ++ y ∷ [] = cc in ap (λ n. n ∷ a) h ∙ ap (λ l. d ∷ l) (front_same a b x y f)

text_of_tokens : (names : List Bytes) (tree : Tree) (text : Bytes) (ts : List Token) → SpellsBefore Level.phrase tree ts [] → (known : IsPrintable names tree) → known.tokens ≡ ts → IsInRanges tree →
    (whole : Bytes) (last : ℕ) → whole ≡ tree_text names tree → whole ≡ text ++ last ∷ [] → IsTextOf names tree text
text_of_tokens names tree text [] x p i r whole last e f = absurd (let l = shorter x in omega arith)
text_of_tokens names tree text (t ∷ ts) x p i r whole last e f =
    let known = subst (AreKnown names) i p.known in
    let range = tree_range x r tt in
    let spelled = all_spelled names (t ∷ ts) known range in
    let is : text ≡ joined (texts names (t ∷ ts)) =
    front_same text (joined (texts names (t ∷ ts))) last 32 (sym f ∙ e ∙ whole_text names tree t ts x) in
    let read = lexed names t ts spelled known in
    let end : Token = record { kind = kind.End; place = read.place } in
    let moved = tree_moved (places_of 0 read.us) (end ∷ []) x in
    record {
      pieces = texts names (t ∷ ts);
      is = is;
      tokens = read.us ++ end ∷ [];
      spelled = pieces_of names read.place (t ∷ ts) read.us read.same spelled;
      read = record {
        last = reading_of (record { rest = []; place = read.place }) names read.us;
        steps = subst (λ l. Steps (start_of names l) (reading_of (record { rest = []; place = read.place }) names read.us)) (sym is) read.steps;
        ended = refl;
        named = refl;
        read = refl;
      };
      other = moved.tree;
      program = (read.place, subst (λ l. SpellsBefore Level.phrase moved.tree l (end ∷ [])) (placed_whole (end ∷ []) (t ∷ ts) read.us (spelled_inside names (t ∷ ts) spelled) read.same) moved.spells);
      same = moved.same;
    }

-- the text but for its last byte
pub text_of : (names : List Bytes) (tree : Tree) (text whole : Bytes) (last : ℕ) → IsPrintable names tree → IsInRanges tree → whole ≡ tree_text names tree → whole ≡ text ++ last ∷ [] → IsTextOf names tree text
text_of names tree text whole last p r e f = text_of_tokens names tree text p.tokens p.spelled p refl r whole last e f

-- the text isn't empty
pub text_filled : (names : List Bytes) (tree : Tree) → IsPrintable names tree → tree_text names tree ≡ [] → ⊥
text_filled names tree p e = go p.tokens p.spelled
  where
    go : (ts : List Token) → SpellsBefore Level.phrase tree ts [] → ⊥
    go [] x = let l = shorter x in omega arith
    go (t ∷ ts) x = let l = ap length (sym e ∙ whole_text names tree t ts x) in omega (arith, l, length-append (joined (texts names (t ∷ ts))) (32 ∷ []))

-- the text that popping a byte leaves
pub text_popped : (names : List Bytes) (tree : Tree) (text whole : Bytes) (popped : Option ℕ) → IsPrintable names tree → IsInRanges tree → whole ≡ tree_text names tree →
    whole ≡ text ++ option_to_list popped → (0 < length whole → IsSome popped) → IsTextOf names tree text
text_popped names tree text whole (Some last) p r e f g = text_of names tree text whole last p r e f
text_popped names tree text whole None p r e f g = absurd (text_filled names tree p (sym e ∙ empty whole None refl g))
  where
    empty : (l : Bytes) (o : Option ℕ) → o ≡ None → (0 < length l → IsSome o) → l ≡ []
    empty [] o i h = refl
    empty (b ∷ l) None i h = let f : IsSome {T = ℕ} None = h (omega arith) in absurd cc
    empty (b ∷ l) (Some x) i h = absurd cc
