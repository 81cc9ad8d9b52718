-- The end of a word or a number at a reader, and the byte behind it.
use Rattle.std.proofs.Common.{◌≡◌, ◌⊎◌, inl, inr, ℕ, zero, suc, ◌+◌, ◌-◌, ◌<◌, ◌≤◌, Bool, true, false, not, ◌&&◌, nat_le, List, [], ◌∷◌, ◌++◌, length, map, refl, ap, sym, ◌∙◌, subst, arith}
use Rattle.std.specs.Prelude.{Option, Some, None, if◌then◌else◌}
use Rattle.std.specs.Option.{is_some}
use Rattle.std.proofs.lemmas.Bool.{and_from, lt-leb}
use Rattle.fy_base.specs.Outside.{Bytes}
use Rattle.fy_lexer.specs.Tokens.{HasAdded}
use Rattle.fy_types.specs.Names.{number_of, with_name}
use Rattle.fy_types.specs.Words.{is_letter, is_digit, is_name_byte, is_name_like, is_word}
use Rattle.fy_read.specs.declared.counts.Counted.{Counted}
use Rattle.fy_read.specs.declared.counts.Counted.TheVariants as counted
use Rattle.fy_derive.specs.declared.derivation.DerivationList.{DerivationList}
use Rattle.fy_read.specs.declared.read.Awaited.{Awaited}
use Rattle.fy_read.specs.declared.read.Awaited.TheVariants as awaited
use Rattle.fy_read.specs.declared.read.Begun as declared
use Rattle.fy_read.specs.declared.read.Begun.TheVariants as variant
use Rattle.fy_read.specs.declared.words.TypeWord.{TypeWord}
use Rattle.fy_read.specs.declared.words.TypeWord.TheVariants as part
use Rattle.fy_derive.specs.Derivations.{rule, no_derivations}
use Rattle.fy_read.specs.Halfway.{PartNext, PartLast, NameLast, InBrackets}
use Rattle.fy_read.specs.Opened.{PlainOpen, PlainNodes, with_node, given, missing, extra, needed, AreWaiting}
use Rattle.fy_read.specs.OpenTypes.{PlainLevels, with_inner, with_field, with_part, TakesPart, IsFieldDeep}
use Rattle.fy_derive.specs.Reading.{plain_derivation, plain_derivations, derivations_in, derivations_from}
use Rattle.fy_read.specs.Readers.{reached_by, IsBegun, MayBegin, AreSound, AreLed, AreEnded}
use Rattle.fy_types.specs.Nested.{type_nesting}
use Rattle.fy_read.specs.Spelling.{Piece, word, number, TypeLevel, SpellsType, is_blank}
use Rattle.fy_read.specs.Steps.{Reached, at, Spot, spot, Begun, nothing, letters, digits, after, after_known, after_count, after_type_word, is_type_word, begun_behind, lettered, node_word, type_word, part_type, least, greatest, wanted, step, ended}
use Rattle.fy_read.specs.Steps as steps
use Rattle.fy_read.proofs.ByteLemmas.{chosen_so, chosen_not}
use Rattle.fy_read.proofs.GrammarLemmas.{type_word-text, part_spelled}
use Rattle.fy_lexer.proofs.NamesLemmas.{numbered_later}
use Rattle.fy_read.proofs.HalfwayLemmas.{stand_inside}
use Rattle.fy_read.proofs.LevelLemmas.{field_room, word_joint}
use Rattle.fy_read.proofs.LexLemmas.{like_more}
use Rattle.fy_read.proofs.OpenLemmas.{given_needed}
use Rattle.fy_read.proofs.PieceLemmas.{counting}
use Rattle.fy_derive.proofs.ReadLemmas.{plain_derivations-at}
use Rattle.fy_read.proofs.ReaderLemmas.{led_open}
use Rattle.fy_read.proofs.ReadTypes.{name_last, word_last, later_next}

-- the same where something else has begun
pub sound_begun : {a : Awaited} {b b' : declared.Begun} {w : Bytes} {l : Bool} {n : PlainNodes} {Ls : PlainLevels} → b ≡ b' → AreSound a b w l n Ls →
    AreSound a b' w l n Ls
sound_begun {a = a} {w = w} {l = l} {n = n} {Ls = Ls} e h = subst (λ b. AreSound a b w l n Ls) e h

pub sound_loose : {a : Awaited} {w v : Bytes} {l : Bool} {n : PlainNodes} {Ls : PlainLevels} (b : declared.Begun) (k : Bool) → b ≡ variant.Nothing →
    AreSound a b w l n Ls → AreSound a b v k n Ls
sound_loose {a = a} {v = v} {n = n} {Ls = Ls} b k e h =
    subst (λ b. AreSound a b v k n Ls) (sym e) (record { waiting = h.waiting; unfinished = h.unfinished; levels = h.levels; begun = tt })

-- ---- a word
pub ended_name : (n : PlainNodes) (Ls : PlainLevels) (w : Bytes) (i : ℕ) → n.whole ≡ None → AreWaiting n.waiting → TakesPart Ls → ¬ IsFieldDeep Ls →
    is_name_like w ≡ true → is_word w ≡ false →
    AreEnded (after (reached_by awaited.Part n (length Ls.outer)) (word w)) awaited.Colon variant.Nothing w true n
    (with_inner Ls (with_field Ls.inner i))
ended_name n Ls w i none waiting fit within like other = record {
  at = chosen_so (is_name_like w) _ _ like ∙ chosen_not (is_word w) _ _ other;
  sound = record { waiting = waiting; unfinished = none; levels = field_room Ls i fit within; begun = tt };
  nothing = refl;
  behind = refl;
}

pub nesting_word : (x : TypeWord) → type_nesting (part_type x) ≡ 1
nesting_word part.Ns = refl
nesting_word (part.Atom a) = refl

pub ended_type : (n : PlainNodes) (Ls : PlainLevels) (w : Bytes) (x : TypeWord) → n.whole ≡ None → AreWaiting n.waiting → TakesPart Ls →
    is_name_like w ≡ true → is_word w ≡ true → type_word w ≡ Some x →
    AreEnded (after (reached_by awaited.Part n (length Ls.outer)) (word w)) awaited.Joint variant.Nothing w true n
    (with_inner Ls (with_part Ls.inner (part_type x)))
ended_type n Ls w x none waiting fit like one known = record {
  at = chosen_so (is_name_like w) _ _ like ∙ (chosen_so (is_word w) _ _ one ∙ chosen_so (is_type_word w) _ _ (ap is_some known));
  sound = record { waiting = waiting; unfinished = none; levels = word_joint Ls (part_type x) (nesting_word x) fit; begun = tt };
  nothing = refl;
  behind = refl;
}

pub no_type : (n : PlainNodes) (k : ℕ) (w : Bytes) → is_name_like w ≡ true → is_word w ≡ true → type_word w ≡ None →
    after (reached_by awaited.Part n k) (word w) ≡ None
no_type n k w like one unknown =
    chosen_so (is_name_like w) _ _ like ∙ (chosen_so (is_word w) _ _ one ∙ chosen_not (is_type_word w) _ _ (ap is_some unknown))

no_node_word : (m : ℕ) (w : Bytes) → node_word w ≡ None → after (at m 0 awaited.Node) (word w) ≡ None
no_node_word zero w unknown = refl
no_node_word (suc m) w unknown = ap (after_known m) unknown

pub no_word : (a : Awaited) (n : PlainNodes) (k : ℕ) (w : Bytes) (l : Bool) → (a ≡ awaited.Part → ⊥) → IsBegun variant.Word a n w l →
    after (reached_by a n k) (word w) ≡ None
no_word awaited.Node n k w l other h = no_node_word (needed n) w h.1
no_word awaited.Bracket n k w l other h = absurd h
no_word (awaited.Count c) n k w l other h = absurd h
no_word awaited.Part n k w l other h = absurd (other refl)
no_word awaited.Colon n k w l other h = absurd h
no_word awaited.Joint n k w l other h = absurd h

pub stand_name : {names later : List Bytes} {ps : List Piece} (n : PlainNodes) (Ls : PlainLevels) (w : Bytes) → later ≡ with_name names w →
    HasAdded names later → is_name_like w ≡ true → is_word w ≡ false →
    InBrackets names n (PartNext names Ls) ps →
    InBrackets later n (NameLast later (with_inner Ls (with_field Ls.inner (number_of names w)))) (ps ++ word w ∷ [])
stand_name {names = names} {later = later} n Ls w is added like other h =
    stand_inside (word w) added
    (λ us g. name_last Ls (number_of names w) w (λ last more. numbered_later names last w (subst (λ ns. HasAdded ns last) is more))
    (and_from (is_name_like w) (not (is_word w)) like (ap not other)) (later_next added g)) h

type_spelled : (w : Bytes) (x : TypeWord) → type_word w ≡ Some x → (later : List Bytes) (r : List Piece) →
    SpellsType later TypeLevel.field (part_type x) (word w ∷ r) r
type_spelled w x known later r =
    subst (λ w. SpellsType later TypeLevel.field (part_type x) (word w ∷ r) r) (sym (type_word-text w x known)) (part_spelled later x r)

pub stand_type : {names : List Bytes} {ps : List Piece} (n : PlainNodes) (Ls : PlainLevels) (w : Bytes) (x : TypeWord) → HasAdded names names →
    type_word w ≡ Some x →
    InBrackets names n (PartNext names Ls) ps → InBrackets names n (PartLast names (with_inner Ls (with_part Ls.inner (part_type x))))
    (ps ++ word w ∷ [])
stand_type n Ls w x same known h = stand_inside (word w) same (λ us g. word_last Ls (part_type x) w (type_spelled w x known) g) h

-- ---- a number
both : {X : Type 0} (a b : Bool) (x y : X) → (a ≡ false) ⊎ (b ≡ false) → (if a && b then x else y) ≡ y
both true true x y (inl h) = absurd cc
both true true x y (inr h) = absurd cc
both true false x y h = refl
both false b x y h = refl

pub no_count : (n : PlainNodes) (k v : ℕ) (c : Counted) → (v < least c) ⊎ (greatest c < v) →
    after (reached_by (awaited.Count c) n k) (number v) ≡ None
no_count n k v c (inl low) = both (nat_le (least c) v) (nat_le v (greatest c)) _ _ (inl (lt-leb _ _ low))
no_count n k v c (inr high) = both (nat_le (least c) v) (nat_le v (greatest c)) _ _ (inr (lt-leb _ _ high))

reached_of : Option Spot → Option Reached
reached_of None = None
reached_of (Some (spot c b)) = Some c

same_reached : {c d : Reached} {b e : Begun} → Some (spot c b) ≡ Some (spot d e) → Some c ≡ Some d
unfolding reached_of
same_reached h = ap reached_of h

-- a node that waits for as many as the number says
pub ended_open : {w : Bytes} (o : PlainOpen) (n : PlainNodes) (Ls : PlainLevels) (c : Counted) (v : ℕ) → n.whole ≡ None → AreWaiting n.waiting →
    least c ≤ v → v ≤ greatest c → 0 < missing o → wanted c v ≡ missing o →
    AreEnded (after (reached_by (awaited.Count c) n (length Ls.outer)) (number v)) awaited.Node variant.Nothing w true (with_node o n) Ls
ended_open {w = w} o n Ls c v none waiting low high some many =
    let t = led_open {w = w} {l = true} o n Ls (wanted c v + extra n.waiting) none waiting some (ap (λ k. k + extra n.waiting) many) in
    record { at = counting (extra n.waiting) v c low high ∙ same_reached t.at; sound = t.sound; nothing = refl; behind = refl }

-- a rule with no premise is whole
pub ended_rule : {w : Bytes} (n : PlainNodes) (Ls : PlainLevels) → n.whole ≡ None → AreWaiting n.waiting →
    AreEnded (after (reached_by (awaited.Count counted.Premises) n (length Ls.outer)) (number 0)) awaited.Node variant.Nothing w true
    (given n.waiting (rule no_derivations)) Ls
ended_rule n Ls none waiting =
    let t = given_needed n.waiting waiting (rule no_derivations) in
    record {
      at = counting (extra n.waiting) 0 counted.Premises (omega arith) (omega arith) ∙ ap (λ k. Some (at k 0 awaited.Node)) (omega (arith, t.0));
      sound = record { waiting = t.1; unfinished = tt; levels = tt; begun = tt };
      nothing = refl;
      behind = refl;
    }

pub no_members : (l : DerivationList) → derivations_in l ≡ [] → plain_derivations l ≡ no_derivations
no_members l e = plain_derivations-at l ∙ ap (λ ds. derivations_from (map plain_derivation ds)) e

-- ---- the byte behind
pub word_goes_on : {a : Awaited} {w : Bytes} {l : Bool} {n : PlainNodes} {Ls : PlainLevels} (b : ℕ) → is_name_byte b ≡ true →
    AreSound a variant.Word w l n Ls → MayBegin a n (w ++ b ∷ [])
word_goes_on {a = a} {w = w} {l = l} {n = n} b name h = by a h.begun where
  by : (a : Awaited) → IsBegun variant.Word a n w l → MayBegin a n (w ++ b ∷ [])
  by awaited.Node h = h.0
  by awaited.Bracket h = absurd h
  by (awaited.Count c) h = absurd h
  by awaited.Part h = like_more w b h name
  by awaited.Colon h = absurd h
  by awaited.Joint h = absurd h

pub step-letter : (c : Reached) (w : Bytes) (b : ℕ) → is_name_byte b ≡ true → step (spot c (letters w)) b ≡ lettered c (w ++ b ∷ [])
step-letter c w b name = chosen_so (is_name_byte b) _ _ name

pub step-behind_word : (c : Reached) (w : Bytes) (b : ℕ) → is_name_byte b ≡ false → step (spot c (letters w)) b ≡ begun_behind (after c (word w)) b
step-behind_word c w b other = chosen_not (is_name_byte b) _ _ other

pub step-digit : (c : Reached) (v b : ℕ) → is_digit b ≡ true → step (spot c (digits v)) b ≡ steps.next_digit c v (b - 48)
step-digit c v b digit = chosen_so (is_digit b) _ _ digit

pub step-behind_number : (c : Reached) (v b : ℕ) → is_digit b ≡ false → step (spot c (digits v)) b ≡ begun_behind (after c (number v)) b
step-behind_number c v b other = chosen_not (is_digit b) _ _ other

-- what leads on behind a piece
pub led_behind : {o : Option Spot} {a : Awaited} {b : declared.Begun} {w : Bytes} {l : Bool} {n : PlainNodes} {Ls : PlainLevels} (p : Option Spot) →
    p ≡ o → AreLed o a b w l n Ls → AreLed p a b w l n Ls
led_behind {a = a} {b = b} {w = w} {l = l} {n = n} {Ls = Ls} p e h = subst (λ o. AreLed o a b w l n Ls) (sym e) h

-- a byte with which a piece begins
pub begun-blank : (c : Reached) (l : Bool) (b : ℕ) → is_blank b ≡ true → steps.begun_by c l b ≡ Some (spot c (nothing false))
begun-blank c l b blank = chosen_so (is_blank b) _ _ blank

loose_none : {X : Type 0} (l : Bool) (o : Option X) → l ≡ true → (if l then None else o) ≡ None
loose_none l o e = chosen_so l None o e

pub begun-letter : (c : Reached) (l : Bool) (b : ℕ) → is_blank b ≡ false → is_letter b ≡ true → l ≡ false → steps.begun_by c l b ≡ lettered c (b ∷ [])
begun-letter c l b blank letter loose =
    chosen_not (is_blank b) _ _ blank ∙ (chosen_so (is_letter b) _ _ letter ∙ chosen_not l None (lettered c (b ∷ [])) loose)

pub begun-no_letter : (c : Reached) (l : Bool) (b : ℕ) → is_blank b ≡ false → is_letter b ≡ true → l ≡ true → steps.begun_by c l b ≡ None
begun-no_letter c l b blank letter loose =
    chosen_not (is_blank b) _ _ blank ∙ (chosen_so (is_letter b) _ _ letter ∙ loose_none l (lettered c (b ∷ [])) loose)

pub begun-digit : (c : Reached) (l : Bool) (b : ℕ) → is_blank b ≡ false → is_letter b ≡ false → is_digit b ≡ true → l ≡ false →
    steps.begun_by c l b ≡ steps.first_digit c (b - 48)
begun-digit c l b blank letter digit loose =
    chosen_not (is_blank b) _ _ blank
    ∙ (chosen_not (is_letter b) _ _ letter ∙ (chosen_so (is_digit b) _ _ digit ∙ chosen_not l None (steps.first_digit c (b - 48)) loose))

pub begun-no_digit : (c : Reached) (l : Bool) (b : ℕ) → is_blank b ≡ false → is_letter b ≡ false → is_digit b ≡ true → l ≡ true →
    steps.begun_by c l b ≡ None
begun-no_digit c l b blank letter digit loose =
    chosen_not (is_blank b) _ _ blank
    ∙ (chosen_not (is_letter b) _ _ letter ∙ (chosen_so (is_digit b) _ _ digit ∙ loose_none l (steps.first_digit c (b - 48)) loose))

pub begun-sign : (c : Reached) (l : Bool) (b : ℕ) → is_blank b ≡ false → is_letter b ≡ false → is_digit b ≡ false →
    steps.begun_by c l b ≡ steps.signed c b
begun-sign c l b blank letter digit = chosen_not (is_blank b) _ _ blank ∙ (chosen_not (is_letter b) _ _ letter ∙ chosen_not (is_digit b) _ _ digit)
