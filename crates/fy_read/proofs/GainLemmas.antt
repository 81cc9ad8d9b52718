-- What a list of names gains while a text is read: identifiers of the text, and no more than it has bytes.
use Rattle.std.proofs.Common.{◌≡◌, inl, inr, ℕ, suc, ◌+◌, ◌<◌, ◌≤◌, Bool, true, false, not, List, [], ◌∷◌, ◌++◌, length, take, drop, get_or, refl, ap, sym, ◌∙◌, subst, arith, append_assoc, add-one, drop-cons}
use Rattle.std.specs.Prelude.{Some, if◌then◌else◌}
use Rattle.std.specs.Str.{bytes_eq}
use Rattle.std.proofs.lemmas.Bool.{and_from}
use Rattle.std.proofs.lemmas.List.{take-append-drop, drop_all, append-nil}
use Rattle.std.proofs.lemmas.List.Elements.{All-nil, All-cons, All-append}
use Rattle.fy_base.specs.Outside.{Bytes}
use Rattle.fy_lexer.proofs.NamesLemmas.{length-with_name}
use Rattle.fy_types.specs.Names.{with_name}
use Rattle.fy_types.specs.Words.{is_name_byte, is_name_like, is_word}
use Rattle.fy_read.specs.declared.read.Awaited.{Awaited}
use Rattle.fy_read.specs.declared.read.Awaited.TheVariants as awaited
use Rattle.fy_read.specs.declared.read.Begun as declared
use Rattle.fy_read.specs.declared.read.Begun.TheVariants as variant
use Rattle.fy_read.specs.declared.read.Reader.{Reader}
use Rattle.fy_derive.specs.Derivations.{PlainDerivation}
use Rattle.fy_read.specs.FieldNames.{NumbersFields, IsIdentifierIn, HasAddedFrom}
use Rattle.fy_read.specs.Naming.{named_by, names_ended, names_with, names_along, begun_words, IsOrStays}
use Rattle.fy_read.specs.OpenLevels.{levels_of}
use Rattle.fy_read.specs.Opened.{PlainNodes, nodes_of}
use Rattle.fy_read.specs.Readers.{reached_by, begun_by, spot_of, IsBegun, IsSound}
use Rattle.fy_read.specs.ReadSoFar.{IsRead}
use Rattle.fy_read.specs.Spelling.{IsTextOf}
use Rattle.fy_read.specs.Steps.{Reached, at, Spot, spot, nothing, letters, digits, dash, start, step}
use Rattle.fy_read.proofs.ByteLemmas.{chosen_not, chosen_so}
use Rattle.fy_read.proofs.NamingLemmas.{text_along}
use Rattle.fy_read.proofs.ReaderAnswers.{read_word}

-- ---- where a byte adds no name, and where it does
pub ended-piece : {b : declared.Begun} (w : Bytes) (l : Bool) (c : Reached) (names : List Bytes) → b ≡ variant.Nothing →
    names_ended (spot c (begun_by b w l)) names ≡ names
ended-piece w l c names e = ap (λ b. names_ended (spot c (begun_by b w l)) names) e

pub ended-number : {b : declared.Begun} (w : Bytes) (l : Bool) (c : Reached) (v : ℕ) (names : List Bytes) → b ≡ variant.Number v →
    names_ended (spot c (begun_by b w l)) names ≡ names
ended-number w l c v names e = ap (λ b. names_ended (spot c (begun_by b w l)) names) e

pub ended-dash : {b : declared.Begun} (w : Bytes) (l : Bool) (c : Reached) (names : List Bytes) → b ≡ variant.Dash →
    names_ended (spot c (begun_by b w l)) names ≡ names
ended-dash w l c names e = ap (λ b. names_ended (spot c (begun_by b w l)) names) e

-- a word of a type
word_at_end : {a : Awaited} {b : declared.Begun} (w : Bytes) (l : Bool) (n : PlainNodes) (k : ℕ) (names : List Bytes) → a ≡ awaited.Part →
    b ≡ variant.Word → names_ended (spot (reached_by a n k) (begun_by b w l)) names ≡ named_by awaited.Part w names
word_at_end {b = b} w l n k names ea eb =
    ap (λ a. names_ended (spot (reached_by a n k) (begun_by b w l)) names) ea
    ∙ ap (λ b. names_ended (spot (reached_by awaited.Part n k) (begun_by b w l)) names) eb

pub ended-name : {a : Awaited} {b : declared.Begun} (w : Bytes) (l : Bool) (n : PlainNodes) (k : ℕ) (names : List Bytes) → a ≡ awaited.Part →
    b ≡ variant.Word → is_word w ≡ false → names_ended (spot (reached_by a n k) (begun_by b w l)) names ≡ with_name names w
ended-name w l n k names ea eb other = word_at_end w l n k names ea eb ∙ chosen_not (is_word w) _ _ other

pub ended-type : {a : Awaited} {b : declared.Begun} (w : Bytes) (l : Bool) (n : PlainNodes) (k : ℕ) (names : List Bytes) → a ≡ awaited.Part →
    b ≡ variant.Word → is_word w ≡ true → names_ended (spot (reached_by a n k) (begun_by b w l)) names ≡ names
ended-type w l n k names ea eb one = word_at_end w l n k names ea eb ∙ chosen_so (is_word w) _ _ one

pub with-goes_on : (s : Spot) (x : ℕ) (names : List Bytes) → is_name_byte x ≡ true → names_with s x names ≡ names
with-goes_on s x names h = chosen_so (is_name_byte x) _ _ h

pub with-behind : (s : Spot) (x : ℕ) (names : List Bytes) → is_name_byte x ≡ false → names_with s x names ≡ names_ended s names
with-behind s x names h = chosen_not (is_name_byte x) _ _ h

pub with-same : (s : Spot) (x : ℕ) (names : List Bytes) → names_ended s names ≡ names → names_with s x names ≡ names
with-same s x names e = by (is_name_byte x) where
  by : (b : Bool) → (if b then names else names_ended s names) ≡ names
  by true = refl
  by false = e

-- the names are the old ones, or others that are these
pub or_stays : {old names later new : List Bytes} → names ≡ later → IsOrStays old names new → IsOrStays old later new
or_stays e (inl same) = inl same
or_stays e (inr same) = inr (same ∙ e)

-- ---- the number of names
either_few : (b : Bool) (x y : List Bytes) (m : ℕ) → length x ≤ m → length y ≤ m → length (if b then x else y) ≤ m
either_few true x y m h k = h
either_few false x y m h k = k

few_named : (a : Awaited) (w : Bytes) (names : List Bytes) → length (named_by a w names) ≤ length names + 1
few_named awaited.Part w names = either_few (is_word w) names (with_name names w) _ (omega arith) (length-with_name names w)
few_named awaited.Node w names = omega arith
few_named awaited.Bracket w names = omega arith
few_named (awaited.Count c) w names = omega arith
few_named awaited.Colon w names = omega arith
few_named awaited.Joint w names = omega arith

pub few_ended : (s : Spot) (names : List Bytes) → length (names_ended s names) ≤ length names + begun_words s
few_ended (spot (at n k a) (letters w)) names = few_named a w names
few_ended (spot c (nothing l)) names = omega arith
few_ended (spot c (digits m)) names = omega arith
few_ended (spot c dash) names = omega arith

pub few_with : (s : Spot) (x : ℕ) (names : List Bytes) → length (names_with s x names) ≤ length names + begun_words s
few_with s x names = either_few (is_name_byte x) names (names_ended s names) _ (omega arith) (few_ended s names)

pub few_begun : (s : Spot) → begun_words s ≤ 1
few_begun (spot c (letters w)) = omega arith
few_begun (spot c (nothing l)) = omega arith
few_begun (spot c (digits m)) = omega arith
few_begun (spot c dash) = omega arith

pub few_or : {old names new : List Bytes} (m : ℕ) → length old ≤ m → length names ≤ m → IsOrStays old names new → length new ≤ m
few_or m h k (inl same) = omega (arith, h, ap length same)
few_or m h k (inr same) = omega (arith, k, ap length same)

-- ---- identifiers of the text
pub gains_none : (text : Bytes) (names : List Bytes) → HasAddedFrom text names names
gains_none text names = record { added = record { later = []; is = sym (append-nil names) }; identifiers = All-nil (IsIdentifierIn text) }

gains_then : {text : Bytes} (a b c : List Bytes) → HasAddedFrom text a b → HasAddedFrom text b c → HasAddedFrom text a c
gains_then {text = text} a b c h k = record {
  added = record {
    later = h.added.later ++ k.added.later;
    is = k.added.is ∙ (ap (λ names. names ++ k.added.later) h.added.is ∙ append_assoc a h.added.later k.added.later);
  };
  identifiers = All-append (IsIdentifierIn text) h.added.later k.added.later h.identifiers k.identifiers;
}

gains_step : {text : Bytes} (b : Bool) (name : Bytes) (names more : List Bytes) → HasAddedFrom text names more →
    HasAddedFrom text (name ∷ names) (if b then name ∷ names else name ∷ more)
gains_step {text = text} true name names more h = gains_none text (name ∷ names)
gains_step false name names more h =
    record { added = record { later = h.added.later; is = ap (λ l. name ∷ l) h.added.is }; identifiers = h.identifiers }

gains_name : {text w : Bytes} (names : List Bytes) → IsIdentifierIn text w → HasAddedFrom text names (with_name names w)
gains_name {text = text} {w = w} [] one =
    let P = IsIdentifierIn text in record { added = record { later = w ∷ []; is = refl }; identifiers = All-cons P w [] one (All-nil P) }
gains_name {w = w} (name ∷ names) one = gains_step (bytes_eq w name) name names (with_name names w) (gains_name names one)

-- with the word that ends here, whose letters stand last
record StandsLast (text w : Bytes) : Type 0 where
  done : Bytes
  rest : Bytes
  is : text ≡ (done ++ w) ++ rest

one_more : {text : Bytes} (first names : List Bytes) (w : Bytes) (t : Bool) → is_word w ≡ t → is_name_like w ≡ true → StandsLast text w →
    HasAddedFrom text first names → HasAddedFrom text first (if t then names else with_name names w)
one_more first names w true one like last h = h
one_more first names w false other like last h =
    gains_then first names (with_name names w) h
    (gains_name names (record {
      identifier = and_from _ _ like (ap not other);
      before = last.done;
      behind = last.rest;
      is = last.is ∙ append_assoc last.done w last.rest;
    }))

word_gains : {text : Bytes} (first names : List Bytes) (a : Awaited) (w : Bytes) (l : Bool) (n : PlainNodes) (k : ℕ) → StandsLast text w →
    IsBegun variant.Word a n w l → HasAddedFrom text first names →
    HasAddedFrom text first (names_ended (spot (reached_by a n k) (letters w)) names)
word_gains first names awaited.Part w l n k last like h = one_more first names w (is_word w) refl like last h
word_gains first names awaited.Node w l n k last like h = h
word_gains first names awaited.Bracket w l n k last like h = h
word_gains first names (awaited.Count c) w l n k last like h = h
word_gains first names awaited.Colon w l n k last like h = h
word_gains first names awaited.Joint w l n k last like h = h

pub gains_ended : {text : Bytes} (first names : List Bytes) (a : Awaited) (b : declared.Begun) (w : Bytes) (l : Bool) (n : PlainNodes) (k : ℕ)
    (part rest : Bytes) → text ≡ part ++ rest → (b ≡ variant.Word → (done : Bytes) × (part ≡ done ++ w)) → IsBegun b a n w l →
    HasAddedFrom text first names → HasAddedFrom text first (names_ended (spot (reached_by a n k) (begun_by b w l)) names)
gains_ended first names a variant.Nothing w l n k part rest is last begun h = h
gains_ended first names a (variant.Number v) w l n k part rest is last begun h = h
gains_ended first names a variant.Dash w l n k part rest is last begun h = h
gains_ended first names a variant.Word w l n k part rest is last begun h =
    let t = last refl in
    word_gains first names a w l n k (record { done = t.0; rest = rest; is = is ∙ ap (λ p. p ++ rest) t.1 }) begun h

pub gains_with : {text : Bytes} (first names : List Bytes) (s : Spot) (x : ℕ) → HasAddedFrom text first names →
    HasAddedFrom text first (names_ended s names) → HasAddedFrom text first (names_with s x names)
gains_with {text = text} first names s x h k = by (is_name_byte x) where
  by : (b : Bool) → HasAddedFrom text first (if b then names else names_ended s names)
  by true = h
  by false = k

pub gains_or : {text : Bytes} {first old names new : List Bytes} → HasAddedFrom text first old → HasAddedFrom text first names →
    IsOrStays old names new → HasAddedFrom text first new
gains_or {text = text} {first = first} h k (inl same) = subst (HasAddedFrom text first) (sym same) h
gains_or {text = text} {first = first} h k (inr same) = subst (HasAddedFrom text first) (sym same) k

-- where the reader has come
pub gains_at : {under : List Bytes} {r : Reader} (text : Bytes) (k : ℕ) (first names : List Bytes) → IsSound r → IsRead under (take k text) r →
    HasAddedFrom text first names → HasAddedFrom text first (names_ended (spot_of r) names)
gains_at {r = r} text k first names sound read h =
    gains_ended first names r.awaited r.begun r.letters.items r.is_loose (nodes_of r.nodes) (length (levels_of r.levels).outer) (take k text)
    (drop k text) (sym (take-append-drop k text)) (λ e. let b = read_word e read in (b.done, b.is)) sound.begun h

-- ---- what is left of the text, read on
pub along_more : (text : Bytes) (k : ℕ) (s t : Spot) (names later : List Bytes) → k < length text → step s (get_or text k 0) ≡ Some t →
    later ≡ names_with s (get_or text k 0) names →
    names_along (Some s) (drop k text) names ≡ names_along (Some t) (drop (k + 1) text) later
along_more text k s t names later within led named =
    ap (λ rest. names_along (Some s) rest names) (drop-cons text k 0 within)
    ∙ (ap (λ o. names_along o (drop (suc k) text) (names_with s (get_or text k 0) names)) led
    ∙ (ap (names_along (Some t) (drop (suc k) text)) (sym named) ∙ ap (λ j. names_along (Some t) (drop j text) later) (sym (add-one k))))

-- the names at the end of the text
pub numbers_fields : {later : List Bytes} {d : PlainDerivation} (text : Bytes) (k : ℕ) (s : Spot) (first names : List Bytes) → length text ≤ k →
    names_along (Some start) text first ≡ names_along (Some s) (drop k text) names → later ≡ names_ended s names → IsTextOf later d text →
    NumbersFields first later d text
numbers_fields text k s first names all along named h = record {
  text_of = h;
  added = named
      ∙ (ap (λ rest. names_along (Some s) rest names) (sym (drop_all k text all))
      ∙ (sym along ∙ text_along first h));
}
