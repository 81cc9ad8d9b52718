-- A text has one list of pieces that fit.
use Rattle.std.proofs.Common.{◌≡◌, ℕ, zero, suc, ◌+◌, ◌%◌, ◌<◌, ◌^◌, Bool, true, false, ◌&&◌, ◌||◌, List, [], ◌∷◌, ◌++◌, length, refl, ap, sym, ◌∙◌, subst, arith}
use Rattle.std.specs.Prelude.{Option, Some, None, if◌then◌else◌, decimal, ◌==◌}
use Rattle.std.specs.List.{list_all}
use Rattle.std.proofs.lemmas.Bool.{and_from}
use Rattle.std.proofs.lemmas.Bool.Decides.{nat_tests}
use Rattle.std.proofs.lemmas.Fmt.{decimal_by_steps, decimal_injective, decimal_nonempty}
use Rattle.std.proofs.lemmas.List.Folds.{list_all-append}
use Rattle.fy_base.specs.Outside.{Bytes}
use Rattle.fy_types.specs.Words.{is_letter, is_digit, is_name_byte, is_name_like}
use Rattle.fy_read.specs.declared.read.Awaited.TheVariants as awaited
use Rattle.fy_read.specs.declared.words.NodeWord.{NodeWord}
use Rattle.fy_read.specs.declared.words.NodeWord.TheVariants as node
use Rattle.fy_read.specs.Spelling.{Piece, word, number, sign, Sign, open_bracket, close_bracket, open_paren, close_paren, colon, arrow, ampersand, is_blank, is_loose, spelling, AreSpelled, at_end, a_blank, a_piece}
use Rattle.fy_read.specs.Steps.{node_text, Reached, at, after, after_all, after_known, node_word}
use Rattle.fy_read.proofs.ByteLemmas.{BeginsOther, nothing_more, begins, other, loose_begins, counted_within}
use Rattle.fy_read.proofs.GrammarLemmas.{lost, node_word-text}
use Rattle.fy_read.proofs.LexLemmas.{greatest_small}

-- bytes that pass a test, before one that doesn't or the end
abbrev pub EndsRun : (ℕ → Bool) → Bytes → Type 0
EndsRun p [] = Unit {0}
EndsRun p (b ∷ text) = p b ≡ false

pub ends_name : {text : Bytes} → BeginsOther text → EndsRun is_name_byte text
ends_name nothing_more = tt
ends_name (begins (other name digit)) = name

pub ends_digits : {text : Bytes} → BeginsOther text → EndsRun is_digit text
ends_digits nothing_more = tt
ends_digits (begins (other name digit)) = digit

-- the parts of an equation of lists
head_of : Bytes → ℕ
head_of [] = 0
head_of (b ∷ bs) = b

tail_of : Bytes → Bytes
tail_of [] = []
tail_of (b ∷ bs) = bs

pub same_head : {a b : ℕ} {s t : Bytes} → a ∷ s ≡ b ∷ t → a ≡ b
unfolding head_of
same_head e = ap head_of e

pub same_tail : {a b : ℕ} {s t : Bytes} → a ∷ s ≡ b ∷ t → s ≡ t
unfolding tail_of
same_tail e = ap tail_of e

pub all_step : (a b : Bool) → (a && b) ≡ true → (a ≡ true) × (b ≡ true)
all_step true true h = (refl, refl)
all_step true false h = absurd cc
all_step false b h = absurd cc

pub same_run : (p : ℕ → Bool) (v w s t : Bytes) → list_all p v ≡ true → list_all p w ≡ true → EndsRun p s → EndsRun p t → v ++ s ≡ w ++ t →
    (v ≡ w) × (s ≡ t)
same_run p [] [] s t all_v all_w ends_s ends_t e = (refl, e)
same_run p [] (b ∷ w) [] t all_v all_w ends_s ends_t e = absurd cc
same_run p [] (b ∷ w) (a ∷ s) t all_v all_w ends_s ends_t e =
    let same = same_head e in let yes = (all_step (p b) (list_all p w) all_w).0 in absurd (false_true (sym ends_s ∙ (ap p same ∙ yes)))
  where
    false_true : {X : Type 0} → false ≡ true → X
    false_true h = absurd cc
same_run p (a ∷ v) [] s [] all_v all_w ends_s ends_t e = absurd cc
same_run p (a ∷ v) [] s (b ∷ t) all_v all_w ends_s ends_t e =
    let same = same_head e in let yes = (all_step (p a) (list_all p v) all_v).0 in absurd (false_true (sym ends_t ∙ (ap p (sym same) ∙ yes)))
  where
    false_true : {X : Type 0} → false ≡ true → X
    false_true h = absurd cc
same_run p (a ∷ v) (b ∷ w) s t all_v all_w ends_s ends_t e =
    let same = same_head e in
    let rest = same_run p v w s t (all_step (p a) (list_all p v) all_v).1 (all_step (p b) (list_all p w) all_w).1 ends_s ends_t (same_tail e) in
    (ap (λ x. x ∷ v) same ∙ ap (λ l. b ∷ l) rest.0, rest.1)

-- ---- the bytes of pieces that fit
node_name : (x : NodeWord) → list_all is_name_byte (node_text x) ≡ true
node_name node.Ns = refl
node_name node.Sub = refl
node_name node.Meet = refl
node_name node.Alt = refl
node_name node.Left = refl
node_name node.Right = refl
node_name node.Rule = refl

node_like : (x : NodeWord) → is_name_like (node_text x) ≡ true
node_like node.Ns = refl
node_like node.Sub = refl
node_like node.Meet = refl
node_like node.Alt = refl
node_like node.Left = refl
node_like node.Right = refl
node_like node.Rule = refl

known_like : (m : ℕ) (d : Reached) (w : Bytes) (o : Option NodeWord) → node_word w ≡ o → after_known m o ≡ Some d → is_name_like w ≡ true
known_like m d w None e h = absurd cc
known_like m d w (Some x) e h = ap is_name_like (node_word-text w x e) ∙ node_like x

type_like : (n k : ℕ) (d : Reached) (a b t : Bool) →
    (if a then (if b then (if t then Some (at n k awaited.Joint) else None) else Some (at n k awaited.Colon)) else None) ≡ Some d → a ≡ true
type_like n k d true b t h = refl
type_like n k d false b t h = absurd cc

-- a word that fits looks like a name
pub word_like : (c d : Reached) (w : Bytes) → after c (word w) ≡ Some d → is_name_like w ≡ true
word_like (at zero k awaited.Node) d w h = absurd cc
word_like (at (suc m) k awaited.Node) d w h = known_like m d w (node_word w) refl h
word_like (at n k awaited.Bracket) d w h = absurd cc
word_like (at n k (awaited.Count c)) d w h = absurd cc
word_like (at n k awaited.Part) d w h = type_like n k d (is_name_like w) _ _ h
word_like (at n k awaited.Colon) d w h = absurd cc
word_like (at n k awaited.Joint) d w h = absurd cc

pub like_names : (w : Bytes) → is_name_like w ≡ true → list_all is_name_byte w ≡ true
like_names [] h = refl
like_names (b ∷ w) h = let t = all_step (is_letter b) (list_all is_name_byte w) h in and_from _ _ (ap (λ x. x || (is_digit b || (b == 95))) t.0) t.1

-- a number that fits is small
pub number_small : (c d : Reached) (m : ℕ) → after c (number m) ≡ Some d → m < 2 ^ 64
number_small (at n k awaited.Node) d m h = absurd cc
number_small (at n k awaited.Bracket) d m h = absurd cc
number_small (at n k awaited.Part) d m h = absurd cc
number_small (at n k awaited.Colon) d m h = absurd cc
number_small (at n k awaited.Joint) d m h = absurd cc
number_small (at n k (awaited.Count c)) d m h = let t = counted_within n m c d _ _ refl refl h in omega (arith, t.1, greatest_small c)

digit_yes : (d : ℕ) → d < 10 → is_digit (48 + d) ≡ true
digit_yes d h = grind (arith, nat_tests)

pub decimal_digits : (m : ℕ) → m < 2 ^ 64 → list_all is_digit (decimal m) ≡ true
decimal_digits m small =
    decimal_by_steps (λ m ds. list_all is_digit ds ≡ true)
    (λ n h. and_from _ _ (digit_yes n h) refl)
    (λ n ds large ih. list_all-append is_digit ds ((48 + n % 10) ∷ []) ∙ and_from _ _ ih (and_from _ _ (digit_yes (n % 10) (omega arith)) refl))
    m small

-- the first byte of a piece tells its kind
pub data Kind : Type 0 where
  a_name : Kind
  a_number : Kind
  a_sign : Kind

abbrev pub kind_of : ℕ → Kind
kind_of b = if is_letter b then a_name else (if is_digit b then a_number else a_sign)

abbrev pub kind : Piece → Kind
kind (word w) = a_name
kind (number m) = a_number
kind (sign s) = a_sign

pub record BeginsAs (text : Bytes) (k : Kind) : Type 0 where
  pub first : ℕ
  pub rest : Bytes
  pub is : text ≡ first ∷ rest
  pub kind : kind_of first ≡ k
  pub visible : is_blank first ≡ false

letter_kind : (b : ℕ) → is_letter b ≡ true → (kind_of b ≡ a_name) × (is_blank b ≡ false)
letter_kind b h = (ap (λ t. if t then a_name else (if is_digit b then a_number else a_sign)) h, grind (arith, nat_tests))

no_letter : (b : ℕ) → is_digit b ≡ true → is_letter b ≡ false
no_letter b h = grind (arith, nat_tests)

digit_kind : (b : ℕ) → is_digit b ≡ true → (kind_of b ≡ a_number) × (is_blank b ≡ false)
digit_kind b h = (
  ap (λ t. if t then a_name else (if is_digit b then a_number else a_sign)) (no_letter b h)
      ∙ ap (λ t. if t then a_number else a_sign) h,
  grind (arith, nat_tests),
)

word_begins : (w text : Bytes) → is_name_like w ≡ true → BeginsAs (w ++ text) a_name
word_begins [] text h = absurd cc
word_begins (b ∷ w) text h =
    let t = letter_kind b (all_step (is_letter b) (list_all is_name_byte w) h).0 in
    record { first = b; rest = w ++ text; is = refl; kind = t.0; visible = t.1 }

digits_begin : (ds text : Bytes) → 0 < length ds → list_all is_digit ds ≡ true → BeginsAs (ds ++ text) a_number
digits_begin [] text some h = absurd (omega (arith, some))
digits_begin (b ∷ ds) text some h =
    let t = digit_kind b (all_step (is_digit b) (list_all is_digit ds) h).0 in
    record { first = b; rest = ds ++ text; is = refl; kind = t.0; visible = t.1 }

sign_begins : (s : Sign) (text : Bytes) → BeginsAs (spelling (sign s) ++ text) a_sign
sign_begins open_bracket text = record { first = 91; rest = text; is = refl; kind = refl; visible = refl }
sign_begins close_bracket text = record { first = 93; rest = text; is = refl; kind = refl; visible = refl }
sign_begins open_paren text = record { first = 40; rest = text; is = refl; kind = refl; visible = refl }
sign_begins close_paren text = record { first = 41; rest = text; is = refl; kind = refl; visible = refl }
sign_begins colon text = record { first = 58; rest = text; is = refl; kind = refl; visible = refl }
sign_begins arrow text = record { first = 45; rest = 62 ∷ text; is = refl; kind = refl; visible = refl }
sign_begins ampersand text = record { first = 38; rest = text; is = refl; kind = refl; visible = refl }

pub piece_begins : (c d : Reached) (p : Piece) (text : Bytes) → after c p ≡ Some d → BeginsAs (spelling p ++ text) (kind p)
piece_begins c d (word w) text h = word_begins w text (word_like c d w h)
piece_begins c d (number m) text h =
    let small = number_small c d m h in digits_begin (decimal m) text (decimal_nonempty m small) (decimal_digits m small)
piece_begins c d (sign s) text h = sign_begins s text

-- two pieces that fit and begin the same text
sign_at : ℕ → Option Sign
sign_at b =
    if b == 91 then Some open_bracket else if b == 93 then Some close_bracket else if b == 40 then Some open_paren else
    if b == 41 then Some close_paren else if b == 58 then Some colon else if b == 45 then Some arrow else Some ampersand

sign_known : (s : Sign) (text : Bytes) → sign_at (head_of (spelling (sign s) ++ text)) ≡ Some s
unfolding head_of sign_at
sign_known open_bracket text = refl
sign_known close_bracket text = refl
sign_known open_paren text = refl
sign_known close_paren text = refl
sign_known colon text = refl
sign_known arrow text = refl
sign_known ampersand text = refl

pub same_sign : (s r : Sign) (t u : Bytes) → spelling (sign s) ++ t ≡ spelling (sign r) ++ u → s ≡ r
same_sign s r t u e = let k : Some s ≡ Some r = sym (sign_known s t) ∙ (ap (λ x. sign_at (head_of x)) e ∙ sign_known r u) in cc

pub behind_sign : (s : Sign) (t u : Bytes) → spelling (sign s) ++ t ≡ spelling (sign s) ++ u → t ≡ u
behind_sign open_bracket t u e = same_tail e
behind_sign close_bracket t u e = same_tail e
behind_sign open_paren t u e = same_tail e
behind_sign close_paren t u e = same_tail e
behind_sign colon t u e = same_tail e
behind_sign arrow t u e = same_tail (same_tail e)
behind_sign ampersand t u e = same_tail e

pub same_kind : (s t : Bytes) (j k : Kind) → BeginsAs s j → BeginsAs t k → s ≡ t → j ≡ k
same_kind s t j k a b e = sym a.kind ∙ (ap kind_of (same_head (sym a.is ∙ (e ∙ b.is))) ∙ b.kind)

Both : Piece → Piece → Bytes → Bytes → Type 0
Both p q t u = (p ≡ q) × (t ≡ u)

same_piece : {ps qs : List Piece} (c d e : Reached) (p q : Piece) (t u : Bytes) → after c p ≡ Some d → after c q ≡ Some e →
    AreSpelled (is_loose p) ps t → AreSpelled (is_loose q) qs u →
    spelling p ++ t ≡ spelling q ++ u → (p ≡ q) × (t ≡ u)
same_piece c d e (word v) (word w) t u f g s r same =
    let both = same_run is_name_byte v w t u (like_names v (word_like c d v f)) (like_names w (word_like c e w g)) (ends_name (loose_begins s))
    (ends_name (loose_begins r)) same in
    (ap word both.0, both.1)
same_piece c d e (number m) (number n) t u f g s r same =
    let small_m = number_small c d m f in
    let small_n = number_small c e n g in
    let both = same_run is_digit (decimal m) (decimal n) t u (decimal_digits m small_m) (decimal_digits n small_n) (ends_digits (loose_begins s))
    (ends_digits (loose_begins r)) same in
    (ap number (decimal_injective m n small_m small_n both.0), both.1)
same_piece c d e (sign s) (sign r) t u f g x y same =
    let k = same_sign s r t u same in
    (ap sign k, behind_sign r t u (subst (λ z. spelling (sign z) ++ t ≡ spelling (sign r) ++ u) k same))
same_piece c d e (word v) (number n) t u f g s r same =
    let k = same_kind _ _ _ _ (piece_begins c d (word v) t f) (piece_begins c e (number n) u g) same in absurd cc
same_piece c d e (word v) (sign x) t u f g s r same =
    let k = same_kind _ _ _ _ (piece_begins c d (word v) t f) (piece_begins c e (sign x) u g) same in absurd cc
same_piece c d e (number m) (word w) t u f g s r same =
    let k = same_kind _ _ _ _ (piece_begins c d (number m) t f) (piece_begins c e (word w) u g) same in absurd cc
same_piece c d e (number m) (sign x) t u f g s r same =
    let k = same_kind _ _ _ _ (piece_begins c d (number m) t f) (piece_begins c e (sign x) u g) same in absurd cc
same_piece c d e (sign x) (word w) t u f g s r same =
    let k = same_kind _ _ _ _ (piece_begins c d (sign x) t f) (piece_begins c e (word w) u g) same in absurd cc
same_piece c d e (sign x) (number n) t u f g s r same =
    let k = same_kind _ _ _ _ (piece_begins c d (sign x) t f) (piece_begins c e (number n) u g) same in absurd cc

-- how a text begins that pieces spell
pub data View (loose : Bool) : List Piece → Bytes → Type 0 where
  ends : {text : Bytes} → text ≡ [] → View loose [] text
  blank : {ps : List Piece} {text : Bytes} (b : ℕ) (rest : Bytes) → text ≡ b ∷ rest → is_blank b ≡ true → AreSpelled false ps rest →
      View loose ps text
  piece : {ps : List Piece} {text : Bytes} (p : Piece) (rest : Bytes) → text ≡ spelling p ++ rest → AreSpelled (is_loose p) ps rest →
      View loose (p ∷ ps) text

pub view : {loose : Bool} {ps : List Piece} {text : Bytes} → AreSpelled loose ps text → View loose ps text
view at_end = ends refl
view (a_blank {b = b} {text = text} h rest) = blank b text refl h rest
view (a_piece {p = p} {text = text} h rest) = piece p text refl rest

pub none_left_blank : {X : Type 0} {b : ℕ} {s : Bytes} → b ∷ s ≡ [] → X
none_left_blank h = absurd cc

pub blank_visible : {X : Type 0} (b : ℕ) → is_blank b ≡ true → is_blank b ≡ false → X
blank_visible b h k = let e : true ≡ false = sym h ∙ k in absurd cc

-- pieces that lead somewhere begin with one that fits
pub fits_first : (c d : Reached) (p : Piece) (ps : List Piece) (o : Option Reached) → after c p ≡ o → after_all o ps ≡ Some d →
    (e : Reached) × (after c p ≡ Some e) × (after_all (Some e) ps ≡ Some d)
fits_first c d p ps None is h = lost ps d h
fits_first c d p ps (Some e) is h = (e, is, h)

-- what is unique behind the first piece, or blank
abbrev OnlyOne : List Piece → Bytes → Type 0
OnlyOne ps text =
    (k : Bool) (qs : List Piece) (bytes : Bytes) (c d e : Reached) → AreSpelled k qs bytes → text ≡ bytes → after_all (Some c) ps ≡ Some d → after_all
    (Some c) qs ≡ Some e → ps ≡ qs

pub none_left : {k : Bool} {qs : List Piece} {bytes : Bytes} (c e : Reached) → View k qs bytes → bytes ≡ [] → after_all (Some c) qs ≡ Some e → [] ≡ qs
none_left c e (ends is) empty g = refl
none_left c e (blank b rest is h s) empty g = none_left_blank (sym is ∙ empty)
none_left c e (piece {ps = ps} q rest is s) empty g =
    let t = fits_first c e q ps (after c q) refl g in let b = piece_begins c t.0 q rest t.1 in none_left_blank (sym b.is ∙ (sym is ∙ empty))

behind_blank : {k : Bool} {ps qs : List Piece} {bytes : Bytes} (b : ℕ) (text : Bytes) (c d e : Reached) → is_blank b ≡ true → OnlyOne ps text →
    View k qs bytes → b ∷ text ≡ bytes →
    after_all (Some c) ps ≡ Some d → after_all (Some c) qs ≡ Some e → ps ≡ qs
behind_blank b text c d e h ih (ends is) same f g = none_left_blank (same ∙ is)
behind_blank {qs = qs} b text c d e h ih (blank x rest is y r) same f g = ih false qs rest c d e r (same_tail (same ∙ is)) f g
behind_blank b text c d e h ih (piece {ps = qs} q rest is r) same f g =
    let t = fits_first c e q qs (after c q) refl g in
    let z = piece_begins c t.0 q rest t.1 in
    blank_visible b h (ap is_blank (same_head (same ∙ (is ∙ z.is))) ∙ z.visible)

behind_piece : {k : Bool} {ps qs : List Piece} {bytes : Bytes} (p : Piece) (text : Bytes) (c d e : Reached) → AreSpelled (is_loose p) ps text →
    OnlyOne ps text → View k qs bytes → spelling p ++ text ≡ bytes →
    (x : Reached) × (after c p ≡ Some x) × (after_all (Some x) ps ≡ Some d) → after_all (Some c) qs ≡ Some e → p ∷ ps ≡ qs
behind_piece p text c d e s ih (ends is) same f g = let z = piece_begins c f.0 p text f.1 in none_left_blank (sym z.is ∙ (same ∙ is))
behind_piece p text c d e s ih (blank b rest is y r) same f g =
    let z = piece_begins c f.0 p text f.1 in blank_visible b y (ap is_blank (sym (same_head (sym z.is ∙ (same ∙ is)))) ∙ z.visible)
behind_piece {ps = ps} p text c d e s ih (piece {ps = qs} q rest is r) same f g =
    let t = fits_first c e q qs (after c q) refl g in
    let both = same_piece c f.0 t.0 p q text rest f.1 t.1 s r (same ∙ is) in
    let next : Some f.0 ≡ Some t.0 = sym f.1 ∙ (ap (after c) both.0 ∙ t.1) in
    ap (λ x. x ∷ ps) both.0 ∙ ap (λ xs. q ∷ xs) (ih (is_loose q) qs rest f.0 d e r both.1 f.2 (ap (λ o. after_all o qs) next ∙ t.2))

pub unique : {l k : Bool} {ps qs : List Piece} {text : Bytes} (bytes : Bytes) (c d e : Reached) → AreSpelled l ps text → AreSpelled k qs bytes →
    text ≡ bytes →
    after_all (Some c) ps ≡ Some d → after_all (Some c) qs ≡ Some e → ps ≡ qs
unique bytes c d e at_end s same f g = none_left c e (view s) (sym same) g
unique bytes c d e (a_blank {b = b} {text = text} h rest) s same f g =
    behind_blank b text c d e h (λ k qs bytes c d e r same f g. unique bytes c d e rest r same f g) (view s) same f g
unique bytes c d e (a_piece {p = p} {ps = ps} {text = text} h rest) s same f g =
    behind_piece p text c d e rest (λ k qs bytes c d e r same f g. unique bytes c d e rest r same f g) (view s) same
    (fits_first c d p ps (after c p) refl f) g
