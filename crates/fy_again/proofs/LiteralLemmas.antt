-- Literals and strings are read again.
use Rattle.std.proofs.Common.{◌≡◌, ℕ, zero, suc, ◌/◌, ◌%◌, ◌<◌, ◌≤ℤ◌, ◌==◌, ◌&&◌, ◌||◌, ℤ, pos, negsuc, not, nat_le, Bool, true, false, if◌then◌else◌, List, [], ◌∷◌, ◌++◌, codes, refl, sym, ap, subst, ◌∙◌, arith, append-nil, Some}
use Rattle.std.specs.Fmt.{signed_decimal}
use Rattle.std.proofs.lemmas.Bool.{eqb-true}
use Rattle.std.proofs.lemmas.Int.{ints}
use Rattle.fy_base.specs.Outside.{Bytes}
use Rattle.fy_base.specs.Places.{first_place}
use Rattle.fy_base.specs.declared.data.Place.{Place}
use Rattle.fy_base.specs.declared.data.Datum.TheVariants as datum
use Rattle.fy_lexer.specs.declared.token.Token.{Token}
use Rattle.fy_lexer.specs.declared.token.TokenKind.{TokenKind}
use Rattle.fy_lexer.specs.declared.token.TokenKind.TheVariants as kind
use Rattle.fy_lexer.specs.declared.token.Keyword.TheVariants as word
use Rattle.fy_lexer.specs.Spellings.{Element, Elements, Spells, escaped, hex_value}
use Rattle.fy_lexer.specs.Reading.{reading_of}
use Rattle.fy_lexer.specs.Tokens.{IsTokensOf, names_past}
use Rattle.fy_lexer.proofs.OverLemmas.{longest_alone}
use Rattle.fy_syntax.specs.Print.{hex_digit}
use Rattle.fy_syntax.specs.Ranges.{AreBytes}
use Rattle.fy_syntax.specs.Signs.{Level, token}
use Rattle.fy_syntax.specs.Spells.{SpellsBefore}
use Rattle.fy_syntax.specs.Trees.{Tree}
use Rattle.fy_syntax.proofs.KindTexts.{spelled}
use Rattle.fy_short.specs.DataTexts.{element_text, elements_text, int_text, is_least}
use Rattle.fy_again.specs.Again.{ShortDataAreReadAgain, ShortStringsAreReadAgain}
use Rattle.fy_again.proofs.ReadLemmas.{Reads, reads_end, reads_token, reads_same, peel, none_left}

-- ---- a text that is one token

record OneToken (names : List Bytes) (text : Bytes) (k : TokenKind) : Type 0 where
  place : Place
  at : Place
  tokens : List Token
  read : IsTokensOf names text tokens names
  is : tokens ≡ token k place ∷ token kind.End at ∷ []

one_token : (names : List Bytes) (k : TokenKind) (text : Bytes) → Spells names k text → names_past k text names ≡ names → OneToken names text k
one_token names k text h stays =
    let whole : Reads names text (k ∷ []) = reads_same names (text ++ []) text (k ∷ []) (k ∷ []) (append-nil text) refl (reads_token names k text [] [] h stays (longest_alone text) (reads_end names)) in
    let r = whole first_place [] in
    let p = peel r.us k [] r.same in
    record {
      place = p.place;
      at = r.end;
      tokens = r.us ++ token kind.End r.end ∷ [];
      read = record { last = reading_of (record { rest = []; place = r.end }) names r.us; steps = r.steps; ended = refl; named = refl; read = refl };
      is = ap (λ l. l ++ token kind.End r.end ∷ []) (p.is ∙ ap (λ l. token k p.place ∷ l) (none_left p.rest p.left));
    }

-- ---- elements

hex_back : (d : ℕ) → d < 16 → hex_value (hex_digit d) ≡ Some d
hex_back zero h = refl
hex_back (suc zero) h = refl
hex_back (suc (suc zero)) h = refl
hex_back (suc (suc (suc zero))) h = refl
hex_back (suc (suc (suc (suc zero)))) h = refl
hex_back (suc (suc (suc (suc (suc zero))))) h = refl
hex_back (suc (suc (suc (suc (suc (suc zero)))))) h = refl
hex_back (suc (suc (suc (suc (suc (suc (suc zero))))))) h = refl
hex_back (suc (suc (suc (suc (suc (suc (suc (suc zero)))))))) h = refl
hex_back (suc (suc (suc (suc (suc (suc (suc (suc (suc zero))))))))) h = refl
hex_back (suc (suc (suc (suc (suc (suc (suc (suc (suc (suc zero)))))))))) h = refl
hex_back (suc (suc (suc (suc (suc (suc (suc (suc (suc (suc (suc zero))))))))))) h = refl
hex_back (suc (suc (suc (suc (suc (suc (suc (suc (suc (suc (suc (suc zero)))))))))))) h = refl
hex_back (suc (suc (suc (suc (suc (suc (suc (suc (suc (suc (suc (suc (suc zero))))))))))))) h = refl
hex_back (suc (suc (suc (suc (suc (suc (suc (suc (suc (suc (suc (suc (suc (suc zero)))))))))))))) h = refl
hex_back (suc (suc (suc (suc (suc (suc (suc (suc (suc (suc (suc (suc (suc (suc (suc zero))))))))))))))) h = refl
hex_back (suc (suc (suc (suc (suc (suc (suc (suc (suc (suc (suc (suc (suc (suc (suc (suc n)))))))))))))))) h = absurd (omega arith)

plain_here : (x y u w : Bool) → x ≡ true → u ≡ false → w ≡ false → ((x || y) && (not u && not w)) ≡ true
plain_here true y false false e f g = refl
plain_here false y u w e f g = absurd cc
plain_here true y true w e f g = absurd cc
plain_here true y false true e f g = absurd cc

hex_element : (quote b : ℕ) → b < 256 → Element quote (92 ∷ 120 ∷ hex_digit (b / 16) ∷ hex_digit (b % 16) ∷ []) b
hex_element quote b h =
    Element.code (hex_digit (b / 16)) (hex_digit (b % 16)) (b / 16) (b % 16) refl (hex_back (b / 16) (omega arith)) (hex_back (b % 16) (omega arith)) (omega arith)

last_element : (quote b : ℕ) (t : Bool) → b < 256 → (b == quote) ≡ false → (b == 92) ≡ false → (nat_le 32 b && nat_le b 126) ≡ t →
    Element quote (if t then b ∷ [] else 92 ∷ 120 ∷ hex_digit (b / 16) ∷ hex_digit (b % 16) ∷ []) b
last_element quote b true h q s e = Element.plain refl (plain_here (nat_le 32 b && nat_le b 126) (nat_le 128 b && nat_le b 255) (b == quote) (b == 92) e q s)
last_element quote b false h q s e = hex_element quote b h

quote_element : (quote b : ℕ) (t : Bool) → b < 256 → escaped quote ≡ Some quote → (b == 92) ≡ false → (b == quote) ≡ t →
    Element quote (if t then 92 ∷ quote ∷ [] else (if nat_le 32 b && nat_le b 126 then b ∷ [] else 92 ∷ 120 ∷ hex_digit (b / 16) ∷ hex_digit (b % 16) ∷ [])) b
quote_element quote b true h esc s e = Element.escape quote refl (esc ∙ ap Some (sym (eqb-true b quote e)))
quote_element quote b false h esc s e = last_element quote b (nat_le 32 b && nat_le b 126) h e s refl

slash_element : (quote b : ℕ) (t : Bool) → b < 256 → escaped quote ≡ Some quote → (b == 92) ≡ t →
    Element quote
    (if t then codes "\\\\" else
    (if b == quote then 92 ∷ quote ∷ [] else (if nat_le 32 b && nat_le b 126 then b ∷ [] else 92 ∷ 120 ∷ hex_digit (b / 16) ∷ hex_digit (b % 16) ∷ []))) b
slash_element quote b true h esc e = Element.escape 92 refl (ap Some (sym (eqb-true b 92 e)))
slash_element quote b false h esc e = quote_element quote b (b == quote) h esc e refl

tab_element : (quote b : ℕ) (t : Bool) → b < 256 → escaped quote ≡ Some quote → (b == 9) ≡ t →
    Element quote
    (if t then codes "\\t" else
    (if b == 92 then codes "\\\\" else
    (if b == quote then 92 ∷ quote ∷ [] else (if nat_le 32 b && nat_le b 126 then b ∷ [] else 92 ∷ 120 ∷ hex_digit (b / 16) ∷ hex_digit (b % 16) ∷ [])))) b
tab_element quote b true h esc e = Element.escape 116 refl (ap Some (sym (eqb-true b 9 e)))
tab_element quote b false h esc e = slash_element quote b (b == 92) h esc refl

line_element : (quote b : ℕ) (t : Bool) → b < 256 → escaped quote ≡ Some quote → (b == 10) ≡ t →
    Element quote
    (if t then codes "\\n" else
    (if b == 9 then codes "\\t" else
    (if b == 92 then codes "\\\\" else
    (if b == quote then 92 ∷ quote ∷ [] else (if nat_le 32 b && nat_le b 126 then b ∷ [] else 92 ∷ 120 ∷ hex_digit (b / 16) ∷ hex_digit (b % 16) ∷ []))))) b
line_element quote b true h esc e = Element.escape 110 refl (ap Some (sym (eqb-true b 10 e)))
line_element quote b false h esc e = tab_element quote b (b == 9) h esc refl

pub element_read : (quote b : ℕ) → b < 256 → escaped quote ≡ Some quote → Element quote (element_text quote b) b
element_read quote b h esc = line_element quote b (b == 10) h esc refl

pub elements_read : (quote : ℕ) (bytes : Bytes) → AreBytes bytes → escaped quote ≡ Some quote → Elements quote (elements_text quote bytes) bytes
elements_read quote [] h esc = refl
elements_read quote (b ∷ bytes) h esc = (element_text quote b, elements_text quote bytes, refl, element_read quote b h.0 esc, elements_read quote bytes h.1 esc)

-- ---- literals

not_least : (z : ℤ) → pos 0 ≤ℤ z → is_least z ≡ false
not_least (pos n) h = refl
not_least (negsuc n) h = absurd (omega (arith, ints, h))

pub plain_int : (z : ℤ) → pos 0 ≤ℤ z → signed_decimal z ≡ int_text z
plain_int z h = sym (ap (λ b. if b then codes "-9223372036854775807 - 1" else signed_decimal z) (not_least z h))

pub short_data_read : ShortDataAreReadAgain
short_data_read names (datum.Int z) h =
    let sp : Spells names (kind.Number z) (int_text z) = subst (λ t. Spells names (kind.Number z) t) (plain_int z h.0) (spelled names (kind.Number z) h.0 h.1) in
    let o = one_token names (kind.Number z) (int_text z) sp refl in
    record {
      tokens = o.tokens;
      read = o.read;
      tree = Tree.number z o.place;
      at = o.at;
      spelled = subst (λ l. SpellsBefore Level.primary (Tree.number z o.place) l (token kind.End o.at ∷ [])) (sym o.is) SpellsBefore.number;
      place = o.place;
      means = λ s. refl;
    }
short_data_read names (datum.Bool true) h =
    let o = one_token names (kind.Word word.True) (codes "true") (spelled names (kind.Word word.True) tt tt) refl in
    record {
      tokens = o.tokens;
      read = o.read;
      tree = Tree.truth true o.place;
      at = o.at;
      spelled = subst (λ l. SpellsBefore Level.primary (Tree.truth true o.place) l (token kind.End o.at ∷ [])) (sym o.is) (SpellsBefore.truth {b = true});
      place = o.place;
      means = λ s. refl;
    }
short_data_read names (datum.Bool false) h =
    let o = one_token names (kind.Word word.False) (codes "false") (spelled names (kind.Word word.False) tt tt) refl in
    record {
      tokens = o.tokens;
      read = o.read;
      tree = Tree.truth false o.place;
      at = o.at;
      spelled = subst (λ l. SpellsBefore Level.primary (Tree.truth false o.place) l (token kind.End o.at ∷ [])) (sym o.is) (SpellsBefore.truth {b = false});
      place = o.place;
      means = λ s. refl;
    }
short_data_read names (datum.Char c) h =
    let o = one_token names (kind.Letter c) (39 ∷ (element_text 39 c ++ 39 ∷ [])) (element_text 39 c, refl, element_read 39 c h refl) refl in
    record {
      tokens = o.tokens;
      read = o.read;
      tree = Tree.letter c o.place;
      at = o.at;
      spelled = subst (λ l. SpellsBefore Level.primary (Tree.letter c o.place) l (token kind.End o.at ∷ [])) (sym o.is) SpellsBefore.letter;
      place = o.place;
      means = λ s. refl;
    }

pub short_strings_read : ShortStringsAreReadAgain
short_strings_read names bytes h =
    let o = one_token names (kind.Str bytes) (34 ∷ (elements_text 34 bytes ++ 34 ∷ [])) (elements_text 34 bytes, refl, elements_read 34 bytes h refl) refl in
    record {
      tokens = o.tokens;
      read = o.read;
      place = o.place;
      at = o.at;
      spelled = subst (λ l. SpellsBefore Level.primary (Tree.string bytes o.place) l (token kind.End o.at ∷ [])) (sym o.is) SpellsBefore.string;
    }
