-- Wherever bytes lead, some text goes on from there: a text is begun as long as its bytes lead somewhere.
use Rattle.std.proofs.Common.{◌≡◌, inl, inr, ℕ, zero, suc, ◌+◌, ◌<◌, ◌≤◌, Bool, true, false, not, ◌&&◌, ◌||◌, nat_le, List, [], ◌∷◌, ◌++◌, codes, length, take, drop, refl, ap, sym, ◌∙◌, subst, arith, length-append, leb-true, lit≤}
use Rattle.std.specs.Prelude.{Option, Some, None, if◌then◌else◌, nat_eq, IfSome, IsSome}
use Rattle.std.specs.List.{list_all, list_any, starts_with}
use Rattle.std.specs.Str.{bytes_eq}
use Rattle.std.proofs.lemmas.List.{append-nil, take-append-drop}
use Rattle.std.proofs.lemmas.List.Folds.{list_all-append}
use Rattle.std.proofs.lemmas.Bool.{and_parts, and_from}
use Rattle.std.proofs.lemmas.Bool.{cases_lt}
use Rattle.std.proofs.lemmas.Slice.Eq.{bytes_eq-Decides}
use Rattle.fy_base.specs.Outside.{Bytes}
use Rattle.fy_types.specs.Words.{is_letter, is_name_byte, is_name_like, is_word, words}
use Rattle.fy_read.specs.declared.counts.Counted.{Counted}
use Rattle.fy_read.specs.declared.counts.Counted.TheVariants as counted
use Rattle.fy_read.specs.declared.read.Awaited.{Awaited}
use Rattle.fy_read.specs.declared.read.Awaited.TheVariants as awaited
use Rattle.fy_read.specs.declared.words.NodeWord.{NodeWord}
use Rattle.fy_read.specs.declared.words.NodeWord.TheVariants as node
use Rattle.fy_derive.specs.Derivations.{PlainDerivation}
use Rattle.fy_read.specs.Spelling.{Piece, word, number, sign, Sign, open_bracket, close_bracket, open_paren, close_paren, colon, arrow, ampersand, is_loose, spelling, AreSpelled, at_end, a_blank, a_piece, IsTextOf}
use Rattle.fy_read.specs.Refusals.{Begins, IsText, Stops}
use Rattle.fy_read.specs.TextLaws.{StepsAreTexts}
use Rattle.fy_read.specs.Steps.{node_text, Reached, at, after, after_fit, after_all, after_known, after_node, node_words, node_word, is_type_word, begins_node_word, least, greatest, wanted, begin, finish, Spot, spot, nothing, letters, digits, dash, step, steps, start, ended, ended_fit}
use Rattle.fy_read.proofs.PieceLemmas.{after_whole, counting, node_of, greatest_word, named}
use Rattle.fy_read.proofs.GrammarLemmas.{some_derivation, AreTexts, texts_of_words}
use Rattle.fy_read.proofs.ByteLemmas.{steps-append, text_leads, loose_begins, letters_end, digits_end, node_letters, more_letters}
use Rattle.fy_read.proofs.LexLemmas.{Done, Done-piece, IsLexed, FitsLetters, FitsDigits, IsJoint, text_lexed, steps_none}

-- so many derivations `ns`
unfoldable pub ns_rest : ℕ → List Piece
ns_rest zero = []
ns_rest (suc n) = word (codes "ns") ∷ ns_rest n

-- the end of a type in so many parentheses, and the derivations behind it
unfoldable pub joint_rest : ℕ → ℕ → List Piece
joint_rest n zero = sign close_bracket ∷ ns_rest (suc n)
joint_rest n (suc k) = sign close_paren ∷ joint_rest n k

unfoldable pub part_rest : ℕ → ℕ → List Piece
part_rest n k = word (codes "ns") ∷ joint_rest n k

-- pieces that lead to the end
abbrev pub rest_of : ℕ → ℕ → Awaited → List Piece
rest_of n k awaited.Node = ns_rest n
rest_of n k awaited.Bracket = sign open_bracket ∷ part_rest n 0
rest_of n k (awaited.Count c) = number (least c) ∷ ns_rest (wanted c (least c) + n)
rest_of n k awaited.Part = part_rest n k
rest_of n k awaited.Colon = sign colon ∷ part_rest n k
rest_of n k awaited.Joint = joint_rest n k

ns_leads : (n : ℕ) → after_all (Some (at n 0 awaited.Node)) (ns_rest n) ≡ Some finish
unfolding ns_rest
ns_leads zero = refl
ns_leads (suc n) = ap (λ o. after_all o (ns_rest n)) (node_of n 0).0 ∙ ns_leads n

joint_leads : (n k : ℕ) → after_all (Some (at n k awaited.Joint)) (joint_rest n k) ≡ Some finish
unfolding joint_rest
joint_leads n zero = ns_leads (suc n)
joint_leads n (suc k) = joint_leads n k

part_leads : (n k : ℕ) → after_all (Some (at n k awaited.Part)) (part_rest n k) ≡ Some finish
unfolding part_rest
part_leads n k = ap (λ o. after_all o (joint_rest n k)) (greatest_word n k) ∙ joint_leads n k

-- no parenthesis is open where a node comes next
abbrev pub IsClear : Reached → Type 0
IsClear (at n k awaited.Node) = k ≡ 0
IsClear (at n k a) = Unit {0}

least_high : (c : Counted) → least c ≤ greatest c
least_high counted.Members = lit≤ tt
least_high counted.Alternatives = lit≤ tt
least_high counted.Premises = lit≤ tt

pub rest_leads : (n k : ℕ) (a : Awaited) → IsClear (at n k a) → after_all (Some (at n k a)) (rest_of n k a) ≡ Some finish
rest_leads n k awaited.Node clear = ap (λ k. after_all (Some (at n k awaited.Node)) (ns_rest n)) clear ∙ ns_leads n
rest_leads n k awaited.Bracket clear = part_leads n 0
rest_leads n k (awaited.Count c) clear =
    ap (λ o. after_all o (ns_rest (wanted c (least c) + n))) (counting n (least c) c (omega arith) (least_high c)) ∙ ns_leads (wanted c (least c) + n)
rest_leads n k awaited.Part clear = part_leads n k
rest_leads n k awaited.Colon clear = part_leads n k
rest_leads n k awaited.Joint clear = joint_leads n k

-- pieces, each behind a space
abbrev spaced : List Piece → Bytes
spaced [] = []
spaced (p ∷ ps) = 32 ∷ (spelling p ++ spaced ps)

are_spaced : (loose : Bool) (ps : List Piece) → AreSpelled loose ps (spaced ps)
are_spaced loose [] = at_end
are_spaced loose (p ∷ ps) = a_blank refl (a_piece {p = p} refl (are_spaced (is_loose p) ps))

-- some bytes lead to the end
pub Ends : Spot → Type 0
Ends s = (more : Bytes) × (ended_fit (steps (Some s) more) ≡ Some finish)

nothing_ends : (n k : ℕ) (a : Awaited) (loose : Bool) → IsClear (at n k a) → Ends (spot (at n k a) (nothing loose))
unfolding Ends
nothing_ends n k a loose clear =
    (spaced (rest_of n k a), text_leads (are_spaced loose (rest_of n k a)) (at n k a) finish (rest_leads n k a clear))

-- a piece that has begun and ends here
letters_whole : (c : Reached) (n k : ℕ) (a : Awaited) (w : Bytes) → after c (word w) ≡ Some (at n k a) → IsClear (at n k a) →
    Ends (spot c (letters w))
unfolding Ends
letters_whole c n k a w e clear =
    let s = are_spaced true (rest_of n k a) in
    (spaced (rest_of n k a), letters_end c (at n k a) w e _ (loose_begins s) ∙ text_leads s (at n k a) finish (rest_leads n k a clear))

digits_whole : (c : Reached) (n k : ℕ) (a : Awaited) (m : ℕ) → after c (number m) ≡ Some (at n k a) → IsClear (at n k a) → Ends (spot c (digits m))
unfolding Ends
digits_whole c n k a m e clear =
    let s = are_spaced true (rest_of n k a) in
    (spaced (rest_of n k a), digits_end c (at n k a) m e _ (loose_begins s) ∙ text_leads s (at n k a) finish (rest_leads n k a clear))

-- bytes that lead to where some bytes lead to the end
leads_on : (s t : Spot) (more : Bytes) → steps (Some s) more ≡ Some t → Ends t → Ends s
unfolding Ends
leads_on s t more e h = (more ++ h.0, ap ended_fit (steps-append (Some s) more h.0 ∙ ap (λ o. steps o h.0) e) ∙ h.1)

reached_ends : (c : Reached) (loose : Bool) → IsClear c → Ends (spot c (nothing loose))
reached_ends (at n k a) loose clear = nothing_ends n k a loose clear

-- no word has more than seven letters
short_words : list_all (λ x. nat_le (length x) 7) words ≡ true
short_words = refl

long_step : (w x : Bytes) (more b : Bool) → bytes_eq w x ≡ b → length x ≤ 7 → 7 < length w → more ≡ false → (b || more) ≡ false
long_step w x more true e short long h = absurd (omega (arith, ap length ((bytes_eq-Decides w x).0 e), short, long))
long_step w x more false e short long h = h

long_is_none : (w : Bytes) (xs : List Bytes) → list_all (λ x. nat_le (length x) 7) xs ≡ true → 7 < length w → list_any (bytes_eq w) xs ≡ false
long_is_none w [] short long = refl
long_is_none w (x ∷ xs) short long =
    let t = and_parts (nat_le (length x) 7) (list_all (λ x. nat_le (length x) 7) xs) short in
    long_step w x (list_any (bytes_eq w) xs) (bytes_eq w x) refl (leb-true _ _ t.0) long (long_is_none w xs t.1 long)

-- the letters of a name, with eight more
abbrev eight : Bytes
eight = codes "xxxxxxxx"

like_append : (w v : Bytes) → is_name_like w ≡ true → list_all is_name_byte v ≡ true → is_name_like (w ++ v) ≡ true
like_append [] v h name = absurd cc
like_append (x ∷ w) v h name =
    let t = and_parts (is_letter x) (list_all is_name_byte w) h in
    and_from _ _ t.0 (list_all-append is_name_byte w v ∙ and_from _ _ t.1 name)

name_ends : (n k : ℕ) (w : Bytes) → is_name_like w ≡ true → Ends (spot (at n k awaited.Part) (letters w))
name_ends n k w like =
    let long : 7 < length (w ++ eight) = omega (arith, length-append w eight) in
    let identifier = and_from (is_name_like (w ++ eight)) (not (is_word (w ++ eight))) (like_append w eight like refl)
    (ap not (long_is_none (w ++ eight) words short_words long)) in
    leads_on (spot (at n k awaited.Part) (letters w)) (spot (at n k awaited.Part) (letters (w ++ eight))) eight (more_letters n k w eight refl)
    (letters_whole (at n k awaited.Part) n k awaited.Colon (w ++ eight) (named n k (w ++ eight) identifier) tt)

-- the beginning of a node's word
prefix : (w t : Bytes) → starts_with nat_eq t w ≡ true → (v : Bytes) × (w ++ v ≡ t)
prefix w t h =
    let front : w ≡ take (length w) t = (bytes_eq-Decides w (take (length w) t)).0 h in
    (drop (length w) t, ap (λ u. u ++ drop (length w) t) front ∙ take-append-drop (length w) t)

IsBeginning : Bytes → Type 0
IsBeginning w = (x : NodeWord) × (v : Bytes) × (w ++ v ≡ node_text x)

beginning_step : (w : Bytes) (e : Bytes × NodeWord) (more b : Bool) → starts_with nat_eq e.0 w ≡ b → e.0 ≡ node_text e.1 →
    (more ≡ true → IsBeginning w) → (b || more) ≡ true → IsBeginning w
unfolding IsBeginning
beginning_step w e more true is text later h = let p = prefix w e.0 is in (e.1, p.0, p.1 ∙ text)
beginning_step w e more false is text later h = later h

beginning : (w : Bytes) (es : List (Bytes × NodeWord)) → AreTexts es → list_any (λ e. starts_with nat_eq e.0 w) es ≡ true → IsBeginning w
beginning w [] texts h = absurd cc
beginning w (e ∷ es) texts h = beginning_step w e _ (starts_with nat_eq e.0 w) refl texts.0 (beginning w es texts.1) h

node_clear : (m : ℕ) (x : NodeWord) → IsClear (after_node m x)
node_clear m node.Ns = refl
node_clear m node.Sub = tt
node_clear m node.Meet = tt
node_clear m node.Alt = tt
node_clear m node.Left = refl
node_clear m node.Right = refl
node_clear m node.Rule = tt

node_ends : (n k : ℕ) (w : Bytes) → steps (Some (spot (at n k awaited.Node) (nothing false))) w ≡ Some (spot (at n k awaited.Node) (letters w)) →
    0 < n → begins_node_word w ≡ true → Ends (spot (at n k awaited.Node) (letters w))
unfolding IsBeginning
node_ends zero k w came some begins = absurd (omega (arith, some))
node_ends (suc m) k w came some begins =
    let t = beginning w node_words texts_of_words begins in
    leads_on (spot (at (suc m) k awaited.Node) (letters w)) (spot (after_node m t.0) (nothing true)) t.1
    (ap (λ o. steps o t.1) (sym came) ∙ (sym (steps-append (Some (spot (at (suc m) k awaited.Node) (nothing false))) w t.1)
    ∙ (ap (steps (Some (spot (at (suc m) k awaited.Node) (nothing false)))) t.2 ∙ node_letters m k t.0)))
    (reached_ends (after_node m t.0) true (node_clear m t.0))

letters_ends : (n k : ℕ) (a : Awaited) (w : Bytes) → steps (Some (spot (at n k a) (nothing false))) w ≡ Some (spot (at n k a) (letters w)) →
    FitsLetters a n w → Ends (spot (at n k a) (letters w))
letters_ends n k awaited.Node w came fit = node_ends n k w came fit.0 fit.1
letters_ends n k awaited.Part w came fit = name_ends n k w fit
letters_ends n k awaited.Bracket w came fit = absurd fit
letters_ends n k (awaited.Count c) w came fit = absurd fit
letters_ends n k awaited.Colon w came fit = absurd fit
letters_ends n k awaited.Joint w came fit = absurd fit

-- digits that make too small a number go on to ten
few_end : (n k : ℕ) (c : Counted) (m : ℕ) → m < least c → (m ≡ 0 → least c ≡ 0) → Ends (spot (at n k (awaited.Count c)) (digits m))
few_end n k counted.Alternatives m h fits = absurd (omega (arith, h))
few_end n k counted.Premises m h fits = absurd (omega (arith, h))
few_end n k counted.Members zero h fits = let e : 2 ≡ 0 = fits refl in absurd (omega (arith, e))
few_end n k counted.Members (suc m) h fits =
    let one : suc m ≡ 1 = omega (arith, h) in
    subst (λ m. Ends (spot (at n k (awaited.Count counted.Members)) (digits m))) (sym one)
    (leads_on (spot (at n k (awaited.Count counted.Members)) (digits 1)) (spot (at n k (awaited.Count counted.Members)) (digits 10)) (48 ∷ []) refl
    (digits_whole (at n k (awaited.Count counted.Members)) (10 + n) 0 awaited.Node 10 refl refl))

digits_end_so : (n k : ℕ) (a : Awaited) (m : ℕ) → FitsDigits a m → Ends (spot (at n k a) (digits m))
digits_end_so n k (awaited.Count c) m fits = elim (cases_lt m (least c)) [
  | inl few ↦ few_end n k c m few fits.1
  | inr many ↦ digits_whole (at n k (awaited.Count c)) (wanted c m + n) 0 awaited.Node m (counting n m c many fits.0) refl
]
digits_end_so n k awaited.Node m fits = absurd fits
digits_end_so n k awaited.Bracket m fits = absurd fits
digits_end_so n k awaited.Part m fits = absurd fits
digits_end_so n k awaited.Colon m fits = absurd fits
digits_end_so n k awaited.Joint m fits = absurd fits

dash_ends : (n k : ℕ) (a : Awaited) → IsJoint a → Ends (spot (at n k a) dash)
dash_ends n k awaited.Joint fits =
    leads_on (spot (at n k awaited.Joint) dash) (spot (at n k awaited.Part) (nothing false)) (62 ∷ []) refl (nothing_ends n k awaited.Part false tt)
dash_ends n k awaited.Node fits = absurd fits
dash_ends n k awaited.Bracket fits = absurd fits
dash_ends n k (awaited.Count c) fits = absurd fits
dash_ends n k awaited.Part fits = absurd fits
dash_ends n k awaited.Colon fits = absurd fits

-- pieces lead only to where no parenthesis is open before a node
known_clear : (m : ℕ) (o : Option NodeWord) → IfSome (after_known m o) IsClear
known_clear m None = tt
known_clear m (Some x) = node_clear m x

part_clear : (n k : ℕ) (a b t : Bool) →
    IfSome (if a then (if b then (if t then Some (at n k awaited.Joint) else None) else Some (at n k awaited.Colon)) else None) IsClear
part_clear n k true true true = tt
part_clear n k true true false = tt
part_clear n k true false t = tt
part_clear n k false b t = tt

count_clear : (n m : ℕ) (b : Bool) → IfSome (if b then Some (at m 0 awaited.Node) else None) IsClear
count_clear n m true = refl
count_clear n m false = tt

joint_clear : (n k : ℕ) (s : Sign) → IfSome (after (at n k awaited.Joint) (sign s)) IsClear
joint_clear n zero close_bracket = refl
joint_clear n (suc k) close_bracket = tt
joint_clear n zero close_paren = tt
joint_clear n (suc k) close_paren = tt
joint_clear n k open_bracket = tt
joint_clear n k open_paren = tt
joint_clear n k colon = tt
joint_clear n k arrow = tt
joint_clear n k ampersand = tt

opening_clear : (n k : ℕ) (s : Sign) →
    IfSome (after (at n k awaited.Part) (sign s)) IsClear × IfSome (after (at n k awaited.Colon) (sign s)) IsClear × IfSome
    (after (at n k awaited.Bracket) (sign s)) IsClear
opening_clear n k open_bracket = (tt, tt, tt)
opening_clear n k close_bracket = (tt, tt, tt)
opening_clear n k open_paren = (tt, tt, tt)
opening_clear n k close_paren = (tt, tt, tt)
opening_clear n k colon = (tt, tt, tt)
opening_clear n k arrow = (tt, tt, tt)
opening_clear n k ampersand = (tt, tt, tt)

after_clear : (c : Reached) (p : Piece) → IfSome (after c p) IsClear
after_clear (at zero k awaited.Node) (word w) = tt
after_clear (at (suc m) k awaited.Node) (word w) = known_clear m (node_word w)
after_clear (at n k awaited.Node) (number m) = tt
after_clear (at n k awaited.Node) (sign s) = tt
after_clear (at n k awaited.Bracket) (word w) = tt
after_clear (at n k awaited.Bracket) (number m) = tt
after_clear (at n k awaited.Bracket) (sign s) = (opening_clear n k s).2
after_clear (at n k (awaited.Count c)) (word w) = tt
after_clear (at n k (awaited.Count c)) (number m) = count_clear n (wanted c m + n) (nat_le (least c) m && nat_le m (greatest c))
after_clear (at n k (awaited.Count c)) (sign s) = tt
after_clear (at n k awaited.Part) (word w) = part_clear n k (is_name_like w) (is_word w) (is_type_word w)
after_clear (at n k awaited.Part) (number m) = tt
after_clear (at n k awaited.Part) (sign s) = (opening_clear n k s).0
after_clear (at n k awaited.Colon) (word w) = tt
after_clear (at n k awaited.Colon) (number m) = tt
after_clear (at n k awaited.Colon) (sign s) = (opening_clear n k s).1
after_clear (at n k awaited.Joint) (word w) = tt
after_clear (at n k awaited.Joint) (number m) = tt
after_clear (at n k awaited.Joint) (sign s) = joint_clear n k s

fit_clear : (o : Option Reached) (p : Piece) → IfSome (after_fit o p) IsClear
fit_clear None p = tt
fit_clear (Some c) p = after_clear c p

pub all_clear : (o : Option Reached) (ps : List Piece) → IfSome o IsClear → IfSome (after_all o ps) IsClear
all_clear o [] h = h
all_clear o (p ∷ ps) h = all_clear (after_fit o p) ps (fit_clear o p)

done_clear : {part : Bytes} {c : Reached} {loose : Bool} → Done part c loose → IsClear c
done_clear h = subst (λ o. IfSome o IsClear) h.leads (all_clear (Some begin) h.pieces refl)

lexed_ends : (part : Bytes) (s : Spot) → IsLexed part s → Ends s
lexed_ends part (spot c (nothing loose)) h = reached_ends c loose (done_clear h)
lexed_ends part (spot (at n k a) (letters w)) h = letters_ends n k a w h.letters.came h.letters.fit
lexed_ends part (spot (at n k a) (digits m)) h = digits_end_so n k a m h.fits
lexed_ends part (spot (at n k a) dash) h = dash_ends n k a h.joint

done_text : (text : Bytes) (loose : Bool) → Done text finish loose → IsText text
done_text text loose h =
    let t = some_derivation h.pieces h.leads in
    let s : AreSpelled false (h.pieces ++ []) (text ++ []) = h.spelled [] [] at_end in
    let s' = subst (λ x. AreSpelled false (h.pieces ++ []) x) (append-nil text) s in
    let s'' = subst (λ ps. AreSpelled false ps text) (append-nil h.pieces) s' in
    record { names = t.0; d = t.1; text_of = record { pieces = h.pieces; derivation = t.2; spelled = s'' } }

ended_done : (text : Bytes) (s : Spot) → IsLexed text s → ended s ≡ Some finish → IsText text
ended_done text (spot c (nothing loose)) h e = let same : c ≡ finish = cc in done_text text loose (subst (λ c. Done text c loose) same h)
ended_done text (spot (at n k a) (letters w)) h e =
    done_text text true (subst (λ t. Done t finish true) (sym h.is) (Done-piece (word w) refl e h.whole))
ended_done text (spot (at n k a) (digits m)) h e =
    done_text text true (subst (λ t. Done t finish true) (sym h.is) (Done-piece (number m) refl e h.whole))
ended_done text (spot (at n k a) dash) h e = absurd cc

-- bytes that lead to the end are a text, and a text leads to the end
accepted_by : (text : Bytes) (o : Option Spot) → IfSome o (IsLexed text) → ended_fit o ≡ Some finish → IsText text
accepted_by text None h e = absurd cc
accepted_by text (Some s) h e = ended_done text s h e

pub accepted : (text : Bytes) → ended_fit (steps (Some start) text) ≡ Some finish → IsText text
accepted text e = accepted_by text (steps (Some start) text) (text_lexed text) e

pub text_ends : (names : List Bytes) (d : PlainDerivation) (text : Bytes) → IsTextOf names d text → ended_fit (steps (Some start) text) ≡ Some finish
text_ends names d text h = text_leads h.spelled begin finish (after_whole h.derivation)

-- bytes that lead somewhere begin a text
pub begun_text : (part : Bytes) (s : Spot) → steps (Some start) part ≡ Some s → Begins part
unfolding Ends
begun_text part s e =
    let lexed : IsLexed part s = subst (λ o. IfSome o (IsLexed part)) e (text_lexed part) in
    let t = lexed_ends part s lexed in
    let whole = accepted (part ++ t.0) (ap ended_fit (steps-append (Some start) part t.0 ∙ ap (λ o. steps o t.0) e) ∙ t.1) in
    record { names = whole.names; d = whole.d; more = t.0; text = whole.text_of }

-- bytes that lead nowhere begin none
pub none_begins : (part : Bytes) → steps (Some start) part ≡ None → ¬ Begins part
none_begins part e b =
    let h = text_ends b.names b.d (part ++ b.more) b.text in
    let none : steps (Some start) (part ++ b.more) ≡ None = steps-append (Some start) part b.more ∙
    (ap (λ o. steps o b.more) e ∙ steps_none b.more) in
    let o = ap ended_fit none in cc

-- the next byte leads nowhere, or there is none and this isn't the end
abbrev pub StopsAt : Spot → Bytes → Type 0
StopsAt s [] = ¬ (ended s ≡ Some finish)
StopsAt s (b ∷ rest) = step s b ≡ None

-- where the bytes lead, the next one leads nowhere, or they end before the end
pub stops_here : (part rest : Bytes) (s : Spot) → steps (Some start) part ≡ Some s → StopsAt s rest → Stops part rest
stops_here part [] s e stop = λ t. stop (sym (ap ended_fit e) ∙ text_ends t.names t.d part t.text_of)
stops_here part (b ∷ rest) s e stop =
    none_begins (part ++ b ∷ []) (steps-append (Some start) part (b ∷ []) ∙ (ap (λ o. steps o (b ∷ [])) e ∙ stop))

some_steps : (part : Bytes) (o : Option Spot) → steps (Some start) part ≡ o → Begins part → IsSome o
some_steps part None e b = absurd (none_begins part e b)
some_steps part (Some s) e b = refl

begins_some : (part : Bytes) (o : Option Spot) → steps (Some start) part ≡ o → IsSome o → Begins part
begins_some part None e h = absurd cc
begins_some part (Some s) e h = begun_text part s e

-- bytes begin a text exactly where they lead somewhere, and are one exactly where they lead to the end
pub steps_are_texts : StepsAreTexts
steps_are_texts text = (
  (begins_some text (steps (Some start) text) refl, some_steps text (steps (Some start) text) refl),
  (accepted text, λ t. text_ends t.names t.d text t.text_of),
)
