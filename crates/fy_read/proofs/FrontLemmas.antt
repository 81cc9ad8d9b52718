-- The pieces of the front of a text are a front of its pieces, of which the last may go on.
use Rattle.std.proofs.Common.{◌≡◌, ◌⊎◌, inl, inr, ℕ, ◌+◌, ◌-◌, ◌<◌, ◌≤◌, ◌^◌, Bool, true, false, List, [], ◌∷◌, ◌++◌, refl, ap, sym, ◌∙◌, subst, arith, append_assoc}
use Rattle.std.specs.Prelude.{Some}
use Rattle.std.specs.List.{list_all}
use Rattle.std.proofs.lemmas.Fmt.{decimal_injective}
use Rattle.std.proofs.lemmas.Bool.Decides.{nat_tests}
use Rattle.fy_base.specs.Outside.{Bytes}
use Rattle.fy_types.specs.Words.{is_digit, is_name_byte}
use Rattle.fy_read.specs.Refusals.{words_from, node_words, opened_from, open_parens, EndsPiece}
use Rattle.fy_read.specs.Shape.{Shape, shape, first_shape, shape_with, out, outs, greatest}
use Rattle.fy_read.specs.Spelling.{Piece, word, number, sign, open_bracket, close_bracket, open_paren, close_paren, colon, arrow, ampersand, is_blank, is_loose, spelling, AreSpelled, at_end, a_blank, a_piece}
use Rattle.fy_read.specs.Steps.{Reached, after, after_all}
use Rattle.fy_read.proofs.ByteLemmas.{BeginsOther, loose_begins}
use Rattle.fy_read.proofs.MeasureLemmas.{greatest-append}
use Rattle.fy_read.proofs.ParenLemmas.{most_open, open_before}
use Rattle.fy_read.proofs.UniqueLemmas.{EndsRun, ends_name, ends_digits, same_head, same_tail, same_run, like_names, word_like, number_small, decimal_digits, same_sign, behind_sign, same_kind, piece_begins, View, ends, blank, piece, view, none_left_blank, blank_visible, fits_first, none_left}

-- what follows goes on with a word or a number
pub data GoesOn : Bytes → Type 0 where
  goes_on : {b : ℕ} {rest : Bytes} → is_name_byte b ≡ true → GoesOn (b ∷ rest)

-- the first pieces are a front of the second, before what is left of their text
pub data IsFront (rest : Bytes) : List Piece → List Piece → Type 0 where
  nothing : {qs : List Piece} → IsFront rest [] qs
  and_piece : {p : Piece} {ps qs : List Piece} → IsFront rest ps qs → IsFront rest (p ∷ ps) (p ∷ qs)
  cut_word : {v w : Bytes} {qs : List Piece} → GoesOn rest → IsFront rest (word v ∷ []) (word w ∷ qs)
  cut_number : {m n : ℕ} {qs : List Piece} → GoesOn rest → IsFront rest (number m ∷ []) (number n ∷ qs)

-- the last piece is cut off
data IsCut (rest : Bytes) : List Piece → Piece → Piece → Type 0 where
  words : {v w : Bytes} → GoesOn rest → IsCut rest [] (word v) (word w)
  numbers : {m n : ℕ} → GoesOn rest → IsCut rest [] (number m) (number n)

front_cut : {rest : Bytes} {ps qs : List Piece} {p q : Piece} → IsCut rest ps p q → IsFront rest (p ∷ ps) (q ∷ qs)
front_cut (words goes) = cut_word goes
front_cut (numbers goes) = cut_number goes

-- bytes that pass a test end behind these, or go on in the rest
data Run (test : ℕ → Bool) : Bytes → Bytes → Type 0 where
  stays : {part rest : Bytes} → EndsRun test (part ++ rest) → Run test part rest
  passes : {b : ℕ} {rest : Bytes} → test b ≡ true → Run test [] (b ∷ rest)

run_by : (test : ℕ → Bool) (b : ℕ) (rest : Bytes) (t : Bool) → test b ≡ t → Run test [] (b ∷ rest)
run_by test b rest true h = passes h
run_by test b rest false h = stays h

run_of : (test : ℕ → Bool) (part rest : Bytes) → EndsRun test part → Run test part rest
run_of test [] [] h = stays tt
run_of test [] (b ∷ rest) h = run_by test b rest (test b) refl
run_of test (b ∷ part) rest h = stays h

digit_name : (b : ℕ) → is_digit b ≡ true → is_name_byte b ≡ true
digit_name b h = grind (arith, nat_tests)

SameOrCut : List Piece → Piece → Piece → Bytes → Bytes → Bytes → Type 0
SameOrCut ps p q part rest text = ((p ≡ q) × (part ++ rest ≡ text)) ⊎ IsCut rest ps p q

same_word : {ps : List Piece} {part rest : Bytes} (v w text : Bytes) → list_all is_name_byte v ≡ true → list_all is_name_byte w ≡ true →
    BeginsOther text → Run is_name_byte part rest → (part ≡ [] → [] ≡ ps) → v ++ (part ++ rest) ≡ w ++ text →
    SameOrCut ps (word v) (word w) part rest text
unfolding SameOrCut
same_word {part = part} {rest = rest} v w text all_v all_w other (stays h) none same =
    let both = same_run is_name_byte v w (part ++ rest) text all_v all_w h (ends_name other) same in inl (ap word both.0, both.1)
same_word {rest = rest} v w text all_v all_w other (passes h) none same =
    inr (subst (λ ps. IsCut rest ps (word v) (word w)) (none refl) (words (goes_on h)))

same_number : {ps : List Piece} {part rest : Bytes} (m n : ℕ) (text : Bytes) → m < 2 ^ 64 → n < 2 ^ 64 →
    BeginsOther text → Run is_digit part rest → (part ≡ [] → [] ≡ ps) → spelling (number m) ++ (part ++ rest) ≡ spelling (number n) ++ text →
    SameOrCut ps (number m) (number n) part rest text
unfolding SameOrCut
same_number {part = part} {rest = rest} m n text small_m small_n other (stays h) none same =
    let both = same_run is_digit _ _ (part ++ rest) text (decimal_digits m small_m) (decimal_digits n small_n) h (ends_digits other) same in
    inl (ap number (decimal_injective m n small_m small_n both.0), both.1)
same_number {rest = rest} m n text small_m small_n other (passes {b = b} h) none same =
    inr (subst (λ ps. IsCut rest ps (number m) (number n)) (none refl) (numbers (goes_on (digit_name b h))))

same_or_cut : {ps qs : List Piece} (c d e : Reached) (p q : Piece) (part rest text : Bytes) → after c p ≡ Some d → after c q ≡ Some e →
    AreSpelled (is_loose p) ps part → AreSpelled (is_loose q) qs text → (part ≡ [] → [] ≡ ps) →
    spelling p ++ (part ++ rest) ≡ spelling q ++ text → SameOrCut ps p q part rest text
unfolding SameOrCut
same_or_cut c d e (word v) (word w) part rest text f g s r none same =
    same_word v w text (like_names v (word_like c d v f)) (like_names w (word_like c e w g)) (loose_begins r)
    (run_of is_name_byte part rest (ends_name (loose_begins s))) none same
same_or_cut c d e (number m) (number n) part rest text f g s r none same =
    same_number m n text (number_small c d m f) (number_small c e n g) (loose_begins r) (run_of is_digit part rest (ends_digits (loose_begins s))) none same
same_or_cut c d e (sign s) (sign r) part rest text f g x y none same =
    let k = same_sign s r (part ++ rest) text same in
    inl (ap sign k, behind_sign r (part ++ rest) text (subst (λ z. spelling (sign z) ++ (part ++ rest) ≡ spelling (sign r) ++ text) k same))
same_or_cut c d e (word v) (number n) part rest text f g s r none same =
    let k = same_kind _ _ _ _ (piece_begins c d (word v) (part ++ rest) f) (piece_begins c e (number n) text g) same in absurd cc
same_or_cut c d e (word v) (sign x) part rest text f g s r none same =
    let k = same_kind _ _ _ _ (piece_begins c d (word v) (part ++ rest) f) (piece_begins c e (sign x) text g) same in absurd cc
same_or_cut c d e (number m) (word w) part rest text f g s r none same =
    let k = same_kind _ _ _ _ (piece_begins c d (number m) (part ++ rest) f) (piece_begins c e (word w) text g) same in absurd cc
same_or_cut c d e (number m) (sign x) part rest text f g s r none same =
    let k = same_kind _ _ _ _ (piece_begins c d (number m) (part ++ rest) f) (piece_begins c e (sign x) text g) same in absurd cc
same_or_cut c d e (sign x) (word w) part rest text f g s r none same =
    let k = same_kind _ _ _ _ (piece_begins c d (sign x) (part ++ rest) f) (piece_begins c e (word w) text g) same in absurd cc
same_or_cut c d e (sign x) (number n) part rest text f g s r none same =
    let k = same_kind _ _ _ _ (piece_begins c d (sign x) (part ++ rest) f) (piece_begins c e (number n) text g) same in absurd cc

-- behind the first piece, or blank
abbrev OnlyFront : List Piece → Bytes → Bytes → Type 0
OnlyFront ps part rest =
    (k : Bool) (qs : List Piece) (text : Bytes) (c d e : Reached) → AreSpelled k qs text → part ++ rest ≡ text → after_all (Some c) ps ≡ Some d →
    after_all (Some c) qs ≡ Some e → IsFront rest ps qs

front_blank : {k : Bool} {ps qs : List Piece} {text : Bytes} (b : ℕ) (part rest : Bytes) (c d e : Reached) → is_blank b ≡ true →
    OnlyFront ps part rest → View k qs text → b ∷ (part ++ rest) ≡ text → after_all (Some c) ps ≡ Some d → after_all (Some c) qs ≡ Some e →
    IsFront rest ps qs
front_blank b part rest c d e h ih (ends is) same f g = none_left_blank (same ∙ is)
front_blank {qs = qs} b part rest c d e h ih (blank x more is y r) same f g = ih false qs more c d e r (same_tail (same ∙ is)) f g
front_blank b part rest c d e h ih (piece {ps = qs} q more is r) same f g =
    let t = fits_first c e q qs (after c q) refl g in
    let z = piece_begins c t.0 q more t.1 in
    blank_visible b h (ap is_blank (same_head (same ∙ (is ∙ z.is))) ∙ z.visible)

front_piece : {k : Bool} {ps qs : List Piece} {text : Bytes} (p : Piece) (part rest : Bytes) (c d e : Reached) → AreSpelled (is_loose p) ps part →
    OnlyFront ps part rest → View k qs text → spelling p ++ (part ++ rest) ≡ text →
    (x : Reached) × (after c p ≡ Some x) × (after_all (Some x) ps ≡ Some d) → after_all (Some c) qs ≡ Some e → IsFront rest (p ∷ ps) qs
unfolding SameOrCut
front_piece p part rest c d e s ih (ends is) same f g =
    let z = piece_begins c f.0 p (part ++ rest) f.1 in none_left_blank (sym z.is ∙ (same ∙ is))
front_piece p part rest c d e s ih (blank b more is y r) same f g =
    let z = piece_begins c f.0 p (part ++ rest) f.1 in blank_visible b y (ap is_blank (sym (same_head (sym z.is ∙ (same ∙ is)))) ∙ z.visible)
front_piece {ps = ps} p part rest c d e s ih (piece {ps = qs} q more is r) same f g =
    let t = fits_first c e q qs (after c q) refl g in
    elim (same_or_cut c f.0 t.0 p q part rest more f.1 t.1 s r (λ empty. none_left f.0 d (view s) empty f.2) (same ∙ is)) [
      | inl both ↦
          let next : Some f.0 ≡ Some t.0 = sym f.1 ∙ (ap (after c) both.0 ∙ t.1) in
          subst (λ x. IsFront rest (p ∷ ps) (x ∷ qs)) both.0
          (and_piece {p = p} (ih (is_loose q) qs more f.0 d e r both.1 f.2 (ap (λ o. after_all o qs) next ∙ t.2)))
      | inr cut ↦ front_cut cut
    ]

pub front_of : {l k : Bool} {ps qs : List Piece} {part : Bytes} (rest text : Bytes) (c d e : Reached) → AreSpelled l ps part → AreSpelled k qs text →
    part ++ rest ≡ text → after_all (Some c) ps ≡ Some d → after_all (Some c) qs ≡ Some e → IsFront rest ps qs
front_of rest text c d e at_end s same f g = nothing
front_of rest text c d e (a_blank {b = b} {text = part} h more) s same f g =
    front_blank b part rest c d e h (λ k qs text c d e r same f g. front_of rest text c d e more r same f g) (view s) same f g
front_of rest text c d e (a_piece {p = p} {ps = ps} {text = part} h more) s same f g =
    front_piece p part rest c d e more (λ k qs text c d e r same f g. front_of rest text c d e more r same f g) (view s)
    (sym (append_assoc (spelling p) part rest) ∙ same) (fits_first c d p ps (after c p) refl f) g

-- ---- what a front has is no more than what the whole has
front_words : {rest : Bytes} {ps qs : List Piece} (inside : Bool) → IsFront rest ps qs → words_from inside ps ≤ words_from inside qs
front_words true nothing = omega arith
front_words false nothing = omega arith
front_words true (and_piece {p = word w} f) = front_words true f
front_words false (and_piece {p = word w} f) = omega (arith, front_words false f)
front_words true (and_piece {p = number n} f) = front_words true f
front_words false (and_piece {p = number n} f) = front_words false f
front_words true (and_piece {p = sign open_bracket} f) = front_words true f
front_words false (and_piece {p = sign open_bracket} f) = front_words true f
front_words true (and_piece {p = sign close_bracket} f) = front_words false f
front_words false (and_piece {p = sign close_bracket} f) = front_words false f
front_words true (and_piece {p = sign open_paren} f) = front_words true f
front_words false (and_piece {p = sign open_paren} f) = front_words false f
front_words true (and_piece {p = sign close_paren} f) = front_words true f
front_words false (and_piece {p = sign close_paren} f) = front_words false f
front_words true (and_piece {p = sign colon} f) = front_words true f
front_words false (and_piece {p = sign colon} f) = front_words false f
front_words true (and_piece {p = sign arrow} f) = front_words true f
front_words false (and_piece {p = sign arrow} f) = front_words false f
front_words true (and_piece {p = sign ampersand} f) = front_words true f
front_words false (and_piece {p = sign ampersand} f) = front_words false f
front_words true (cut_word goes) = omega arith
front_words false (cut_word goes) = omega arith
front_words true (cut_number goes) = omega arith
front_words false (cut_number goes) = omega arith

front_outs : {rest : Bytes} {ps qs : List Piece} → IsFront rest ps qs → (s : Shape) → greatest (outs s ps) ≤ greatest (outs s qs)
front_outs nothing s = omega arith
front_outs (and_piece {p = p} {ps = ps} {qs = qs} f) s =
    omega (
      arith,
      greatest-append (out s p) (outs (shape_with s p) ps),
      greatest-append (out s p) (outs (shape_with s p) qs),
      front_outs f (shape_with s p),
    )
front_outs (cut_word goes) (shape S true n) = omega arith
front_outs (cut_word goes) (shape S false n) = omega arith
front_outs (cut_number goes) (shape S i n) = omega arith

front_opened : {rest : Bytes} {ps qs : List Piece} → IsFront rest ps qs → (n : ℕ) → opened_from n ps ≤ most_open n qs
front_opened (nothing {qs = qs}) n = open_before n qs
front_opened (and_piece {p = word w} f) n = front_opened f n
front_opened (and_piece {p = number m} f) n = front_opened f n
front_opened (and_piece {p = sign open_bracket} f) n = front_opened f n
front_opened (and_piece {p = sign close_bracket} f) n = front_opened f n
front_opened (and_piece {p = sign open_paren} f) n = front_opened f (n + 1)
front_opened (and_piece {p = sign close_paren} f) n = omega (arith, front_opened f (n - 1))
front_opened (and_piece {p = sign colon} f) n = front_opened f n
front_opened (and_piece {p = sign arrow} f) n = front_opened f n
front_opened (and_piece {p = sign ampersand} f) n = front_opened f n
front_opened (cut_word {qs = qs} goes) n = open_before n qs
front_opened (cut_number {qs = qs} goes) n = open_before n qs

pub front_nodes : {rest : Bytes} {ps qs : List Piece} → IsFront rest ps qs → node_words ps ≤ node_words qs
front_nodes f = front_words false f

pub front_nesting : {rest : Bytes} {ps qs : List Piece} → IsFront rest ps qs → greatest (outs first_shape ps) ≤ greatest (outs first_shape qs)
front_nesting f = front_outs f first_shape

pub front_parens : {rest : Bytes} {ps qs : List Piece} → IsFront rest ps qs → open_parens ps ≤ most_open 0 qs
front_parens f = front_opened f 0

-- a front whose last piece ends is the first part of the whole
tail_ends : (p q : Piece) (ps : List Piece) (rest : Bytes) → EndsPiece (p ∷ q ∷ ps) rest → EndsPiece (q ∷ ps) rest
tail_ends p q ps [] h = tt
tail_ends p q ps (b ∷ rest) h = h

no_cut : {X : Type 0} {rest : Bytes} (p : Piece) → is_loose p ≡ true → GoesOn rest → EndsPiece (p ∷ []) rest → X
no_cut p loose (goes_on h) behind = absurd (let no : true ≡ false = sym h ∙ behind loose in cc)

pub front_whole : {rest : Bytes} {ps qs : List Piece} → IsFront rest ps qs → EndsPiece ps rest → (more : List Piece) × (qs ≡ ps ++ more)
front_whole (nothing {qs = qs}) behind = (qs, refl)
front_whole (and_piece {p = p} {qs = qs} nothing) behind = (qs, refl)
front_whole {rest = rest} (and_piece {p = p} (and_piece {p = q} {ps = ps} f)) behind =
    let t = front_whole (and_piece {p = q} f) (tail_ends p q ps rest behind) in (t.0, ap (λ x. p ∷ x) t.1)
front_whole {rest = rest} (and_piece {p = p} (cut_word {v = v} goes)) behind = no_cut (word v) refl goes (tail_ends p (word v) [] rest behind)
front_whole {rest = rest} (and_piece {p = p} (cut_number {m = m} goes)) behind = no_cut (number m) refl goes (tail_ends p (number m) [] rest behind)
front_whole (cut_word {v = v} goes) behind = no_cut (word v) refl goes behind
front_whole (cut_number {m = m} goes) behind = no_cut (number m) refl goes behind
