-- The bytes that spell pieces lead where the pieces lead.
use Rattle.std.proofs.Common.{◌≡◌, ◌⊎◌, inl, inr, ℕ, zero, suc, ◌+◌, ◌-◌, ◌*◌, ◌/◌, ◌%◌, ◌<◌, ◌≤◌, ◌^◌, Bool, true, false, not, ◌&&◌, ◌||◌, nat_le, IsTrue, List, [], ◌∷◌, ◌++◌, refl, ap, sym, ◌∙◌, subst, arith, append_assoc, le-leb, leb-true, eq-eqb, ne_eqb, lit<}
use Rattle.std.specs.Prelude.{Option, Some, None, if◌then◌else◌, decimal, ◌==◌}
use Rattle.std.specs.List.{list_all}
use Rattle.std.proofs.lemmas.List.{append-nil}
use Rattle.std.proofs.lemmas.Fmt.{decimal_by_steps}
use Rattle.std.proofs.lemmas.Bool.Decides.{nat_tests}
use Rattle.std.proofs.lemmas.Bool.{and_parts}
use Rattle.fy_base.specs.Outside.{Bytes}
use Rattle.fy_types.specs.Words.{is_letter, is_digit, is_name_byte, is_name_like}
use Rattle.fy_read.specs.declared.counts.Counted.{Counted}
use Rattle.fy_read.specs.declared.counts.Counted.TheVariants as counted
use Rattle.fy_read.specs.declared.read.Awaited.TheVariants as awaited
use Rattle.fy_read.specs.declared.words.NodeWord.{NodeWord}
use Rattle.fy_read.specs.declared.words.NodeWord.TheVariants as node
use Rattle.fy_read.specs.Spelling.{Piece, word, number, sign, Sign, open_bracket, close_bracket, open_paren, close_paren, colon, arrow, ampersand, is_blank, is_loose, spelling, AreSpelled, at_end, a_blank, a_piece}
use Rattle.fy_read.specs.Steps.{node_text, Reached, at, after, after_all, after_known, after_node, node_words, node_word, least, greatest, wanted, Spot, spot, nothing, letters, digits, behind, first_digit, next_digit, begun_behind, step, step_fit, steps, ended_fit}
use Rattle.fy_read.proofs.GrammarLemmas.{lost, node_word-text}

pub steps-append : (o : Option Spot) (a b : Bytes) → steps o (a ++ b) ≡ steps (steps o a) b
steps-append o [] b = refl
steps-append o (x ∷ a) b = steps-append (step_fit o x) a b

-- a blank is one of two bytes
pub blank_cases : (b : ℕ) → IsTrue (is_blank b) → (b ≡ 10) ⊎ (b ≡ 32)
blank_cases b h = grind (arith, nat_tests)

-- what stands behind a word or a number begins with a byte that doesn't go on with it
pub data IsOther (b : ℕ) : Type 0 where
  other : is_name_byte b ≡ false → is_digit b ≡ false → IsOther b

pub data BeginsOther : Bytes → Type 0 where
  nothing_more : BeginsOther []
  begins : {b : ℕ} {text : Bytes} → IsOther b → BeginsOther (b ∷ text)

sign_begins : (s : Sign) (text : Bytes) → BeginsOther (spelling (sign s) ++ text)
sign_begins open_bracket text = begins (other refl refl)
sign_begins close_bracket text = begins (other refl refl)
sign_begins open_paren text = begins (other refl refl)
sign_begins close_paren text = begins (other refl refl)
sign_begins colon text = begins (other refl refl)
sign_begins arrow text = begins (other refl refl)
sign_begins ampersand text = begins (other refl refl)

piece_begins : (p : Piece) (text : Bytes) → is_loose p ≡ false → BeginsOther (spelling p ++ text)
piece_begins (word w) text h = absurd cc
piece_begins (number n) text h = absurd cc
piece_begins (sign s) text h = sign_begins s text

blank_other : (b : ℕ) → IsTrue (is_blank b) → IsOther b
blank_other b h = elim (blank_cases b h) [ inl e ↦ subst IsOther (sym e) (other refl refl) | inr e ↦ subst IsOther (sym e) (other refl refl) ]

pub loose_begins : {ps : List Piece} {text : Bytes} → AreSpelled true ps text → BeginsOther text
loose_begins at_end = nothing_more
loose_begins (a_blank {b = b} h rest) = begins (blank_other b h)
loose_begins (a_piece {p = p} {text = text} h rest) = piece_begins p text h

pub chosen_not : {X : Type 0} (b : Bool) (x y : X) → b ≡ false → (if b then x else y) ≡ y
chosen_not true x y h = cc
chosen_not false x y h = refl

pub chosen_so : {X : Type 0} (b : Bool) (x y : X) → b ≡ true → (if b then x else y) ≡ x
chosen_so true x y h = refl
chosen_so false x y h = cc

-- a word or a number that has begun is whole before such a text
pub letters_end : (c d : Reached) (w : Bytes) → after c (word w) ≡ Some d → (text : Bytes) → BeginsOther text →
    ended_fit (steps (Some (spot c (letters w))) text) ≡ ended_fit (steps (Some (spot d (nothing true))) text)
letters_end c d w e [] nothing_more = e
letters_end c d w e (b ∷ text) (begins (other name digit)) =
    ap (λ o. ended_fit (steps o text)) (chosen_not (is_name_byte b) _ _ name ∙ ap (λ o. begun_behind o b) e)

pub digits_end : (c d : Reached) (n : ℕ) → after c (number n) ≡ Some d → (text : Bytes) → BeginsOther text →
    ended_fit (steps (Some (spot c (digits n))) text) ≡ ended_fit (steps (Some (spot d (nothing true))) text)
digits_end c d n e [] nothing_more = e
digits_end c d n e (b ∷ text) (begins (other name digit)) =
    ap (λ o. ended_fit (steps o text)) (chosen_not (is_digit b) _ _ digit ∙ ap (λ o. begun_behind o b) e)

-- the letters of a word of a type
pub more_letters : (n k : ℕ) (u v : Bytes) → list_all is_name_byte v ≡ true →
    steps (Some (spot (at n k awaited.Part) (letters u))) v ≡ Some (spot (at n k awaited.Part) (letters (u ++ v)))
more_letters n k u [] h = ap (λ w. Some (spot (at n k awaited.Part) (letters w))) (sym (append-nil u))
more_letters n k u (b ∷ v) h =
    let t = and_parts (is_name_byte b) (list_all is_name_byte v) h in
    ap (λ o. steps o v) (chosen_so (is_name_byte b) _ _ t.0)
    ∙ (more_letters n k (u ++ b ∷ []) v t.1 ∙ ap (λ w. Some (spot (at n k awaited.Part) (letters w))) (append_assoc u (b ∷ []) v))

letter_not_blank : (b : ℕ) → is_letter b ≡ true → is_blank b ≡ false
letter_not_blank b h = grind (arith, nat_tests)

pub word_letters : (n k : ℕ) (w : Bytes) → is_name_like w ≡ true →
    steps (Some (spot (at n k awaited.Part) (nothing false))) w ≡ Some (spot (at n k awaited.Part) (letters w))
word_letters n k [] h = absurd cc
word_letters n k (b ∷ w) h =
    let t = and_parts (is_letter b) (list_all is_name_byte w) h in
    ap (λ o. steps o w) (chosen_not (is_blank b) _ _ (letter_not_blank b t.0) ∙ chosen_so (is_letter b) _ _ t.0)
    ∙ more_letters n k (b ∷ []) w t.1

-- the letters of a node's word
pub node_letters : (m k : ℕ) (x : NodeWord) →
    steps (Some (spot (at (suc m) k awaited.Node) (nothing false))) (node_text x) ≡ Some (spot (after_node m x) (nothing true))
unfolding node_words
node_letters m k node.Ns = refl
node_letters m k node.Sub = refl
node_letters m k node.Meet = refl
node_letters m k node.Alt = refl
node_letters m k node.Left = refl
node_letters m k node.Right = refl
node_letters m k node.Rule = refl

-- a number may begin so
abbrev MayCount : Counted → ℕ → Type 0
MayCount c m = (m ≤ greatest c) × ((m ≡ 0) → least c ≡ 0)

digit_bytes : (d : ℕ) → d < 10 → (is_blank (48 + d) ≡ false) × (is_letter (48 + d) ≡ false) × (is_digit (48 + d) ≡ true) × (48 + d - 48 ≡ d)
digit_bytes d h = (grind (arith, nat_tests), grind (arith, nat_tests), grind (arith, nat_tests), omega arith)

zero_test : (d l : ℕ) → (d ≡ 0 → l ≡ 0) → ((d == 0) && not (l == 0)) ≡ false
zero_test zero l h = ap (λ b. not b) (eq-eqb l 0 (h refl))
zero_test (suc d) l h = ap (λ b. b && not (l == 0)) (ne_eqb (suc d) 0 (λ e. omega (arith, e)))

digit_test : (v n g : ℕ) → 0 < v → n ≤ g → ((v == 0) || not (nat_le n g)) ≡ false
digit_test v n g h le =
    ap (λ b. b || not (nat_le n g)) (ne_eqb v 0 (λ e. omega (arith, e, h))) ∙ ap (λ b. not b) (le-leb n g le)

-- a digit that comes first, and one behind others
one_digit : (n k : ℕ) (c : Counted) (d : ℕ) → d < 10 → MayCount c d →
    steps (Some (spot (at n k (awaited.Count c)) (nothing false))) ((48 + d) ∷ []) ≡ Some (spot (at n k (awaited.Count c)) (digits d))
one_digit n k c d h may =
    let t = digit_bytes d h in
    chosen_not (is_blank (48 + d)) _ _ t.0 ∙ (chosen_not (is_letter (48 + d)) _ _ t.1 ∙ (chosen_so (is_digit (48 + d)) _ _ t.2
    ∙ (ap (λ e. first_digit (at n k (awaited.Count c)) e) t.3 ∙ chosen_not _ _ _ (zero_test d (least c) may.1))))

digit_behind : (n k : ℕ) (c : Counted) (v d m : ℕ) → d < 10 → 0 < v → 10 * v + d ≡ m → m ≤ greatest c →
    step (spot (at n k (awaited.Count c)) (digits v)) (48 + d) ≡ Some (spot (at n k (awaited.Count c)) (digits m))
digit_behind n k c v d m h some e high =
    let t = digit_bytes d h in
    chosen_so (is_digit (48 + d)) _ _ t.2 ∙ (ap (λ e. next_digit (at n k (awaited.Count c)) v e) t.3
    ∙ (chosen_not _ _ _ (digit_test v (10 * v + d) (greatest c) some (omega (arith, e, high)))
    ∙ ap (λ x. Some (spot (at n k (awaited.Count c)) (digits x))) e))

pub number_bytes : (n k : ℕ) (c : Counted) (m : ℕ) → m < 2 ^ 64 → MayCount c m →
    steps (Some (spot (at n k (awaited.Count c)) (nothing false))) (decimal m) ≡ Some (spot (at n k (awaited.Count c)) (digits m))
number_bytes n k c m small may =
    decimal_by_steps (λ m ds. MayCount c m → steps (Some (spot (at n k (awaited.Count c)) (nothing false))) ds ≡ Some
    (spot (at n k (awaited.Count c)) (digits m)))
    (one_digit n k c)
    (λ m ds large ih may.
    steps-append _ ds ((48 + m % 10) ∷ [])
    ∙ (ap (λ o. steps o ((48 + m % 10) ∷ [])) (ih (omega (arith, may.0), λ e. absurd (omega (arith, e, large))))
    ∙ digit_behind n k c (m / 10) (m % 10) m (omega arith) (omega (arith, large)) (omega arith) may.0))
    m small may

sign_bytes : (c d : Reached) (l : Bool) (s : Sign) → after c (sign s) ≡ Some d →
    steps (Some (spot c (nothing l))) (spelling (sign s)) ≡ Some (spot d (nothing false))
sign_bytes c d l open_bracket e = ap (behind false) e
sign_bytes c d l close_bracket e = ap (behind false) e
sign_bytes c d l open_paren e = ap (behind false) e
sign_bytes c d l close_paren e = ap (behind false) e
sign_bytes c d l colon e = ap (behind false) e
sign_bytes c d l ampersand e = ap (behind false) e
sign_bytes (at n k awaited.Joint) d l arrow e = ap (behind false) e
sign_bytes (at n k awaited.Node) d l arrow e = absurd cc
sign_bytes (at n k awaited.Bracket) d l arrow e = absurd cc
sign_bytes (at n k (awaited.Count c)) d l arrow e = absurd cc
sign_bytes (at n k awaited.Part) d l arrow e = absurd cc
sign_bytes (at n k awaited.Colon) d l arrow e = absurd cc

-- the bytes of a piece lead where the piece leads, before a text that doesn't go on with it
Leads : Reached → Reached → Bool → Piece → Bytes → Type 0
Leads c d l p text =
    ended_fit (steps (Some (spot c (nothing l))) (spelling p ++ text)) ≡ ended_fit (steps (Some (spot d (nothing (is_loose p)))) text)

node_leads : (m k : ℕ) (d : Reached) (w text : Bytes) (o : Option NodeWord) → node_word w ≡ o → after_known m o ≡ Some d →
    Leads (at (suc m) k awaited.Node) d false (word w) text
unfolding Leads
node_leads m k d w text None e h = absurd cc
node_leads m k d w text (Some x) e h =
    ap ended_fit (steps-append (Some (spot (at (suc m) k awaited.Node) (nothing false))) w text
    ∙ ap (λ o. steps o text) (ap (steps (Some (spot (at (suc m) k awaited.Node) (nothing false)))) (node_word-text w x e)
    ∙ (node_letters m k x ∙ ap (λ o. behind true o) h)))

like_name : (n k : ℕ) (d : Reached) (a : Bool) (o : Option Reached) → (if a then o else None) ≡ Some d → a ≡ true
like_name n k d true o h = refl
like_name n k d false o h = absurd cc

word_leads : (c d : Reached) (w text : Bytes) → after c (word w) ≡ Some d → BeginsOther text → Leads c d false (word w) text
unfolding Leads
word_leads (at zero k awaited.Node) d w text h rest = absurd cc
word_leads (at (suc m) k awaited.Node) d w text h rest = node_leads m k d w text (node_word w) refl h
word_leads (at n k awaited.Bracket) d w text h rest = absurd cc
word_leads (at n k (awaited.Count c)) d w text h rest = absurd cc
word_leads (at n k awaited.Colon) d w text h rest = absurd cc
word_leads (at n k awaited.Joint) d w text h rest = absurd cc
word_leads (at n k awaited.Part) d w text h rest =
    ap ended_fit (steps-append (Some (spot (at n k awaited.Part) (nothing false))) w text
    ∙ ap (λ o. steps o text) (word_letters n k w (like_name n k d (is_name_like w) _ h)))
    ∙ letters_end (at n k awaited.Part) d w h text rest

pub counted_within : (n m : ℕ) (c : Counted) (d : Reached) (low high : Bool) → nat_le (least c) m ≡ low → nat_le m (greatest c) ≡ high →
    (if low && high then Some (at (wanted c m + n) 0 awaited.Node) else None) ≡ Some d → (least c ≤ m) × (m ≤ greatest c)
counted_within n m c d true true low high h = (leb-true _ _ low, leb-true _ _ high)
counted_within n m c d true false low high h = absurd cc
counted_within n m c d false high' low high h = absurd cc

pub greatest_small : (c : Counted) → greatest c < 2 ^ 64
greatest_small counted.Members = lit< tt
greatest_small counted.Alternatives = lit< tt
greatest_small counted.Premises = lit< tt

number_leads : (c d : Reached) (m : ℕ) (text : Bytes) → after c (number m) ≡ Some d → BeginsOther text → Leads c d false (number m) text
unfolding Leads
number_leads (at n k awaited.Node) d m text h rest = absurd cc
number_leads (at n k awaited.Bracket) d m text h rest = absurd cc
number_leads (at n k awaited.Part) d m text h rest = absurd cc
number_leads (at n k awaited.Colon) d m text h rest = absurd cc
number_leads (at n k awaited.Joint) d m text h rest = absurd cc
number_leads (at n k (awaited.Count c)) d m text h rest =
    let t = counted_within n m c d _ _ refl refl h in
    ap ended_fit (steps-append (Some (spot (at n k (awaited.Count c)) (nothing false))) (decimal m) text
    ∙ ap (λ o. steps o text) (number_bytes n k c m (omega (arith, t.1, greatest_small c)) (t.1, λ e. omega (arith, e, t.0))))
    ∙ digits_end (at n k (awaited.Count c)) d m h text rest

sign_leads : (c d : Reached) (l : Bool) (s : Sign) (text : Bytes) → after c (sign s) ≡ Some d → Leads c d l (sign s) text
unfolding Leads
sign_leads c d l s text h =
    ap ended_fit (steps-append (Some (spot c (nothing l))) (spelling (sign s)) text ∙ ap (λ o. steps o text) (sign_bytes c d l s h))

piece_leads : {ps : List Piece} (c d : Reached) (l : Bool) (p : Piece) (text : Bytes) → (l && is_loose p) ≡ false → after c p ≡ Some d →
    AreSpelled (is_loose p) ps text → Leads c d l p text
piece_leads c d true (word w) text fits h rest = absurd cc
piece_leads c d false (word w) text fits h rest = word_leads c d w text h (loose_begins rest)
piece_leads c d true (number m) text fits h rest = absurd cc
piece_leads c d false (number m) text fits h rest = number_leads c d m text h (loose_begins rest)
piece_leads c d l (sign s) text fits h rest = sign_leads c d l s text h

step_leads : {ps : List Piece} (c e : Reached) (l : Bool) (p : Piece) (text : Bytes) → (l && is_loose p) ≡ false → AreSpelled (is_loose p) ps text →
    ((d : Reached) → after_all (Some d) ps ≡ Some e → ended_fit (steps (Some (spot d (nothing (is_loose p)))) text) ≡ Some e) →
    (o : Option Reached) → after c p ≡ o → after_all o ps ≡ Some e → ended_fit (steps (Some (spot c (nothing l))) (spelling p ++ text)) ≡ Some e
unfolding Leads
step_leads {ps = ps} c e l p text fits rest ih None is h = lost ps e h
step_leads c e l p text fits rest ih (Some d) is h = piece_leads c d l p text fits is rest ∙ ih d h

-- a text of pieces leads where the pieces lead
pub text_leads : {l : Bool} {ps : List Piece} {text : Bytes} → AreSpelled l ps text → (c e : Reached) → after_all (Some c) ps ≡ Some e →
    ended_fit (steps (Some (spot c (nothing l))) text) ≡ Some e
text_leads at_end c e h = h
text_leads (a_blank {b = b} {text = text} blank rest) c e h =
    ap (λ o. ended_fit (steps o text)) (chosen_so (is_blank b) _ _ blank) ∙ text_leads rest c e h
text_leads {l = l} (a_piece {p = p} {text = text} fits rest) c e h =
    step_leads c e l p text fits rest (λ d h. text_leads rest d e h) (after c p) refl h
