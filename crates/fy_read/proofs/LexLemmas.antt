-- Bytes that lead somewhere spell pieces that lead there, up to the piece that has begun.
use Rattle.std.proofs.Common.{◌≡◌, ℕ, zero, suc, ◌+◌, ◌-◌, ◌*◌, ◌/◌, ◌%◌, ◌<◌, ◌≤◌, ◌^◌, Bool, true, false, not, ◌&&◌, ◌||◌, nat_le, IsTrue, List, [], ◌∷◌, ◌++◌, refl, ap, sym, ◌∙◌, subst, arith, append_assoc, eqb-true, lit≤}
use Rattle.std.specs.Prelude.{Option, Some, None, if◌then◌else◌, decimal, ◌==◌, IfSome}
use Rattle.std.specs.Option.{is_some}
use Rattle.std.specs.List.{list_all}
use Rattle.std.proofs.lemmas.Fmt.{decimal_step, decimal_digit}
use Rattle.std.proofs.lemmas.List.{append-nil}
use Rattle.std.proofs.lemmas.List.Folds.{list_all-append}
use Rattle.std.proofs.lemmas.Bool.Decides.{nat_tests}
use Rattle.std.proofs.lemmas.Bool.{and_parts, and_from}
use Rattle.fy_base.specs.Outside.{Bytes}
use Rattle.fy_types.specs.Words.{is_letter, is_digit, is_name_byte, is_name_like}
use Rattle.fy_read.specs.declared.counts.Counted.{Counted}
use Rattle.fy_read.specs.declared.counts.Counted.TheVariants as counted
use Rattle.fy_read.specs.declared.read.Awaited.{Awaited}
use Rattle.fy_read.specs.declared.read.Awaited.TheVariants as awaited
use Rattle.fy_read.specs.Spelling.{Piece, word, number, sign, Sign, open_bracket, close_bracket, open_paren, close_paren, colon, arrow, ampersand, is_blank, is_loose, spelling, AreSpelled, a_blank, a_piece}
use Rattle.fy_read.specs.Steps.{Reached, at, after, after_fit, after_all, after_known, node_word, begins_node_word, least, greatest, begin, Spot, spot, nothing, letters, digits, dash, behind, lettered, first_digit, next_digit, dashed, sign_of, after_sign, begun_by, begun_behind, step, steps, start}
use Rattle.fy_read.proofs.ByteLemmas.{steps-append, chosen_so, chosen_not}
pub use Rattle.fy_read.proofs.ByteLemmas.{greatest_small}

-- these bytes are whole pieces, which lead to c; the last is a word or a number, or isn't
pub record Done (done : Bytes) (c : Reached) (loose : Bool) : Type 0 where
  pub pieces : List Piece
  pub leads : after_all (Some begin) pieces ≡ Some c
  pub spelled : (qs : List Piece) (more : Bytes) → AreSpelled loose qs more → AreSpelled false (pieces ++ qs) (done ++ more)

-- the first letters of a word that may come next
abbrev pub FitsLetters : Awaited → ℕ → Bytes → Type 0
FitsLetters awaited.Node n w = (0 < n) × (begins_node_word w ≡ true)
FitsLetters awaited.Part n w = is_name_like w ≡ true
FitsLetters a n w = ⊥

pub record IsLetters (n k : ℕ) (a : Awaited) (w : Bytes) : Type 0 where
  pub came : steps (Some (spot (at n k a) (nothing false))) w ≡ Some (spot (at n k a) (letters w))
  pub fit : FitsLetters a n w

-- the first digits of a number that may come next
abbrev pub FitsDigits : Awaited → ℕ → Type 0
FitsDigits (awaited.Count c) m = (m ≤ greatest c) × ((m ≡ 0) → least c ≡ 0)
FitsDigits a m = ⊥

abbrev pub IsJoint : Awaited → Type 0
IsJoint awaited.Joint = Unit {0}
IsJoint a = ⊥

-- these bytes are whole pieces and the begun one
pub record WithLetters (part : Bytes) (n k : ℕ) (a : Awaited) (w : Bytes) : Type 0 where
  pub done : Bytes
  pub is : part ≡ done ++ w
  pub whole : Done done (at n k a) false
  pub letters : IsLetters n k a w

pub record WithDigits (part : Bytes) (n k : ℕ) (a : Awaited) (m : ℕ) : Type 0 where
  pub done : Bytes
  pub is : part ≡ done ++ decimal m
  pub whole : Done done (at n k a) false
  pub fits : FitsDigits a m

pub record WithDash (part : Bytes) (n k : ℕ) (a : Awaited) : Type 0 where
  pub done : Bytes
  pub loose : Bool
  pub is : part ≡ done ++ 45 ∷ []
  pub whole : Done done (at n k a) loose
  pub joint : IsJoint a

abbrev pub IsLexed : Bytes → Spot → Type 0
IsLexed part (spot c (nothing loose)) = Done part c loose
IsLexed part (spot (at n k a) (letters w)) = WithLetters part n k a w
IsLexed part (spot (at n k a) (digits m)) = WithDigits part n k a m
IsLexed part (spot (at n k a) dash) = WithDash part n k a

pub after_all-snoc : (o : Option Reached) (ps : List Piece) (p : Piece) → after_all o (ps ++ p ∷ []) ≡ after_fit (after_all o ps) p
after_all-snoc o [] p = refl
after_all-snoc o (q ∷ ps) p = after_all-snoc (after_fit o q) ps p

pub Done-piece : {done : Bytes} {c d : Reached} {loose : Bool} (p : Piece) → (loose && is_loose p) ≡ false → after c p ≡ Some d →
    Done done c loose → Done (done ++ spelling p) d (is_loose p)
Done-piece {done = done} {c = c} {d = d} {loose = loose} p fits leads whole = record {
  pieces = whole.pieces ++ p ∷ [];
  leads = after_all-snoc (Some begin) whole.pieces p ∙ (ap (λ o. after_fit o p) whole.leads ∙ leads);
  spelled = λ qs more s.
      subst (λ text. AreSpelled false ((whole.pieces ++ p ∷ []) ++ qs) text) (sym (append_assoc done (spelling p) more))
      (subst (λ ps. AreSpelled false ps (done ++ (spelling p ++ more))) (sym (append_assoc whole.pieces (p ∷ []) qs))
      (whole.spelled (p ∷ qs) (spelling p ++ more) (a_piece {p = p} fits s)));
}

Done-blank : {done : Bytes} {c : Reached} {loose : Bool} (b : ℕ) → IsTrue (is_blank b) → Done done c loose → Done (done ++ b ∷ []) c false
Done-blank {done = done} b blank whole = record {
  pieces = whole.pieces;
  leads = whole.leads;
  spelled = λ qs more s.
      subst (λ text. AreSpelled false (whole.pieces ++ qs) text) (sym (append_assoc done (b ∷ []) more))
      (whole.spelled qs (b ∷ more) (a_blank blank s));
}

if_either : {X : Type 0} (P : X → Type 0) (b : Bool) (x y : Option X) → (b ≡ true → IfSome x P) → (b ≡ false → IfSome y P) →
    IfSome (if b then x else y) P
if_either P true x y h k = h refl
if_either P false x y h k = k refl

-- where a whole piece leads
behind_lexed : (part : Bytes) (loose : Bool) (o : Option Reached) → ((d : Reached) → o ≡ Some d → Done part d loose) →
    IfSome (behind loose o) (IsLexed part)
behind_lexed part loose None h = tt
behind_lexed part loose (Some d) h = h d refl

came_more : (n k : ℕ) (a : Awaited) (u : Bytes) (b : ℕ) → steps (Some (spot (at n k a) (nothing false))) u ≡ Some (spot (at n k a) (letters u)) →
    is_name_byte b ≡ true → lettered (at n k a) (u ++ b ∷ []) ≡ Some (spot (at n k a) (letters (u ++ b ∷ []))) →
    steps (Some (spot (at n k a) (nothing false))) (u ++ b ∷ []) ≡ Some (spot (at n k a) (letters (u ++ b ∷ [])))
came_more n k a u b came name e =
    steps-append (Some (spot (at n k a) (nothing false))) u (b ∷ []) ∙ (ap (λ o. steps o (b ∷ [])) came ∙ (chosen_so (is_name_byte b) _ _ name ∙ e))

-- the letters of a word of a type look like a name
abbrev Likely : Awaited → Bytes → Type 0
Likely awaited.Part w = is_name_like w ≡ true
Likely a w = Unit {0}

likely : (a : Awaited) (w : Bytes) → is_name_like w ≡ true → Likely a w
likely awaited.Node w h = tt
likely awaited.Bracket w h = tt
likely (awaited.Count c) w h = tt
likely awaited.Part w h = h
likely awaited.Colon w h = tt
likely awaited.Joint w h = tt

-- one more letter of a word
lettered_lexed : (part done : Bytes) (n k : ℕ) (a : Awaited) (w : Bytes) → part ≡ done ++ w → Done done (at n k a) false →
    (lettered (at n k a) w ≡ Some (spot (at n k a) (letters w)) → steps (Some (spot (at n k a) (nothing false))) w ≡ Some
    (spot (at n k a) (letters w))) →
    Likely a w → IfSome (lettered (at n k a) w) (IsLexed part)
lettered_lexed part done n k awaited.Bracket w is whole came like = tt
lettered_lexed part done n k (awaited.Count c) w is whole came like = tt
lettered_lexed part done n k awaited.Colon w is whole came like = tt
lettered_lexed part done n k awaited.Joint w is whole came like = tt
lettered_lexed part done n k awaited.Part w is whole came like =
    record { done = done; is = is; whole = whole; letters = record { came = came refl; fit = like } }
lettered_lexed part done zero k awaited.Node w is whole came like = tt
lettered_lexed part done (suc m) k awaited.Node w is whole came like =
    if_either (IsLexed part) (is_some (node_word w)) _ _
    (λ some. behind_lexed part true (after_known m (node_word w)) (λ d e. subst (λ t. Done t d true) (sym is) (Done-piece (word w) refl e whole)))
    (λ none. if_either (IsLexed part) (begins_node_word w) _ _
    (λ begins. record {
      done = done;
      is = is;
      whole = whole;
      letters = record {
        came = came (chosen_not (is_some (node_word w)) _ _ none
            ∙ chosen_so (begins_node_word w) _ _ begins);
        fit = (omega arith, begins);
      };
    })
    (λ no_more. tt))

pub digit_value : (b : ℕ) → is_digit b ≡ true → (b - 48 < 10) × (48 + (b - 48) ≡ b)
digit_value b h = (grind (arith, nat_tests), grind (arith, nat_tests))

first_digit_lexed : (part : Bytes) (n k : ℕ) (a : Awaited) (b : ℕ) → is_digit b ≡ true → Done part (at n k a) false →
    IfSome (first_digit (at n k a) (b - 48)) (IsLexed (part ++ b ∷ []))
first_digit_lexed part n k awaited.Node b digit whole = tt
first_digit_lexed part n k awaited.Bracket b digit whole = tt
first_digit_lexed part n k awaited.Part b digit whole = tt
first_digit_lexed part n k awaited.Colon b digit whole = tt
first_digit_lexed part n k awaited.Joint b digit whole = tt
first_digit_lexed part n k (awaited.Count c) b digit whole =
    let v = digit_value b digit in
    if_either (IsLexed (part ++ b ∷ [])) (((b - 48) == 0) && not (least c == 0)) _ _ (λ t. tt)
    (λ t. record {
      done = part;
      is = ap (λ d. part ++ d) (sym (decimal_digit (b - 48) v.0 ∙ ap (λ x. x ∷ []) v.1));
      whole = whole;
      fits = (omega (arith, v.0, greatest_nine c), zero_fits (b - 48) (least c) t);
    })
  where
    greatest_nine : (c : Counted) → 9 ≤ greatest c
    greatest_nine counted.Members = lit≤ tt
    greatest_nine counted.Alternatives = lit≤ tt
    greatest_nine counted.Premises = lit≤ tt

    zero_fits : (d l : ℕ) → ((d == 0) && not (l == 0)) ≡ false → d ≡ 0 → l ≡ 0
    zero_fits d l h e = grind (arith, nat_tests)

pub digits_within : (m x g : ℕ) → ((m == 0) || not (nat_le x g)) ≡ false → (0 < m) × (x ≤ g)
digits_within m x g h = (grind (arith, nat_tests), grind (arith, nat_tests))

pub decimal_longer : (m d b : ℕ) → 0 < m → d < 10 → 48 + d ≡ b → 10 * m + d < 2 ^ 64 → decimal (10 * m + d) ≡ decimal m ++ b ∷ []
decimal_longer m d b some small e fits =
    let tens : (10 * m + d) / 10 ≡ m = omega (arith, small) in
    let ones : 48 + (10 * m + d) % 10 ≡ b = omega (arith, small, e) in
    decimal_step (10 * m + d) (omega (arith, some)) fits ∙ (ap (λ q. decimal q ++ (48 + (10 * m + d) % 10) ∷ []) tens ∙ ap
    (λ x. decimal m ++ x ∷ []) ones)

next_digit_lexed : (part done : Bytes) (n k : ℕ) (a : Awaited) (m b : ℕ) → is_digit b ≡ true → part ≡ done ++ decimal m → Done done (at n k a) false →
    FitsDigits a m →
    IfSome (next_digit (at n k a) m (b - 48)) (IsLexed (part ++ b ∷ []))
next_digit_lexed part done n k awaited.Node m b digit is whole fits = tt
next_digit_lexed part done n k awaited.Bracket m b digit is whole fits = tt
next_digit_lexed part done n k awaited.Part m b digit is whole fits = tt
next_digit_lexed part done n k awaited.Colon m b digit is whole fits = tt
next_digit_lexed part done n k awaited.Joint m b digit is whole fits = tt
next_digit_lexed part done n k (awaited.Count c) m b digit is whole fits =
    let v = digit_value b digit in
    if_either (IsLexed (part ++ b ∷ [])) ((m == 0) || not (nat_le (10 * m + (b - 48)) (greatest c))) _ _ (λ t. tt)
    (λ t. let w = digits_within m (10 * m + (b - 48)) (greatest c) t in record {
      done = done;
      is = ap (λ d. d ++ b ∷ []) is
          ∙ (append_assoc done (decimal m) (b ∷ [])
          ∙ ap (λ d. done ++ d) (sym (decimal_longer m (b - 48) b w.0 v.0 v.1 (omega (arith, w.1, greatest_small c)))));
      whole = whole;
      fits = (w.1, λ e. absurd (omega (arith, e, w.0)));
    })

dashed_lexed : (part : Bytes) (n k : ℕ) (a : Awaited) (loose : Bool) → Done part (at n k a) loose →
    IfSome (dashed (at n k a)) (IsLexed (part ++ 45 ∷ []))
dashed_lexed part n k awaited.Node loose whole = tt
dashed_lexed part n k awaited.Bracket loose whole = tt
dashed_lexed part n k (awaited.Count c) loose whole = tt
dashed_lexed part n k awaited.Part loose whole = tt
dashed_lexed part n k awaited.Colon loose whole = tt
dashed_lexed part n k awaited.Joint loose whole = record { done = part; loose = loose; is = refl; whole = whole; joint = tt }

no_sign : (loose : Bool) → (loose && false) ≡ false
no_sign true = refl
no_sign false = refl

-- a sign of one byte
sign_lexed : (part : Bytes) (c : Reached) (loose : Bool) (b : ℕ) → Done part c loose →
    IfSome (behind false (after_sign c (sign_of b))) (IsLexed (part ++ b ∷ []))
sign_lexed part c loose b whole =
    one 91 open_bracket _ refl (one 93 close_bracket _ refl (one 40 open_paren _ refl
    (one 41 close_paren _ refl (one 58 colon _ refl (one 38 ampersand None refl tt)))))
  where
    one : (x : ℕ) (s : Sign) (o : Option Piece) → spelling (sign s) ≡ x ∷ [] → IfSome (behind false (after_sign c o)) (IsLexed (part ++ b ∷ [])) →
        IfSome (behind false (after_sign c (if b == x then Some (sign s) else o))) (IsLexed (part ++ b ∷ []))
    one x s o e other = by (b == x) refl where
      by : (t : Bool) → (b == x) ≡ t → IfSome (behind false (after_sign c (if t then Some (sign s) else o))) (IsLexed (part ++ b ∷ []))
      by true same = behind_lexed (part ++ b ∷ []) false (after c (sign s))
          (λ d h. subst (λ text. Done (part ++ text) d false) (e
          ∙ ap (λ y. y ∷ []) (sym (eqb-true b x same))) (Done-piece (sign s) (no_sign loose) h whole))
      by false same = other

letter_name : (b : ℕ) → is_letter b ≡ true → is_name_byte b ≡ true
letter_name b h = ap (λ t. t || (is_digit b || (b == 95))) h

first_letter : (c : Reached) (b : ℕ) → is_blank b ≡ false → is_letter b ≡ true → (s : Spot) → lettered c (b ∷ []) ≡ Some s →
    steps (Some (spot c (nothing false))) (b ∷ []) ≡ Some s
first_letter c b blank letter s e = chosen_not (is_blank b) _ _ blank ∙ (chosen_so (is_letter b) _ _ letter ∙ e)

begun_lexed : (part : Bytes) (n k : ℕ) (a : Awaited) (loose : Bool) (b : ℕ) → Done part (at n k a) loose →
    IfSome (begun_by (at n k a) loose b) (IsLexed (part ++ b ∷ []))
begun_lexed part n k a loose b whole =
    if_either P (is_blank b) _ _ (λ blank. Done-blank b blank whole)
    (λ blank. if_either P (is_letter b) _ _ (λ letter. by_letter loose whole blank letter)
    (λ letter. if_either P (is_digit b) _ _ (λ digit. by_digit loose whole digit)
    (λ digit. if_either P (b == 45) _ _
    (λ dash. subst (λ x. IfSome (dashed (at n k a)) (IsLexed (part ++ x ∷ []))) (sym (eqb-true b 45 dash)) (dashed_lexed part n k a loose whole))
    (λ dash. sign_lexed part (at n k a) loose b whole))))
  where
    P : Spot → Type 0
    P = IsLexed (part ++ b ∷ [])

    by_letter : (loose : Bool) → Done part (at n k a) loose → is_blank b ≡ false → is_letter b ≡ true →
        IfSome (if loose then None else lettered (at n k a) (b ∷ [])) (IsLexed (part ++ b ∷ []))
    by_letter true whole blank letter = tt
    by_letter false whole blank letter =
        lettered_lexed (part ++ b ∷ []) part n k a (b ∷ []) refl whole (first_letter (at n k a) b blank letter _)
        (likely a (b ∷ []) (ap (λ t. t && true) letter))

    by_digit : (loose : Bool) → Done part (at n k a) loose → is_digit b ≡ true →
        IfSome (if loose then None else first_digit (at n k a) (b - 48)) (IsLexed (part ++ b ∷ []))
    by_digit true whole digit = tt
    by_digit false whole digit = first_digit_lexed part n k a b digit whole

behind_begun : (part : Bytes) (o : Option Reached) (b : ℕ) → ((d : Reached) → o ≡ Some d → Done part d true) →
    IfSome (begun_behind o b) (IsLexed (part ++ b ∷ []))
behind_begun part None b h = tt
behind_begun part (Some (at n k a)) b h = begun_lexed part n k a true b (h (at n k a) refl)

pub like_more : (w : Bytes) (b : ℕ) → is_name_like w ≡ true → is_name_byte b ≡ true → is_name_like (w ++ b ∷ []) ≡ true
like_more [] b h name = absurd cc
like_more (x ∷ w) b h name =
    let t = and_parts (is_letter x) (list_all is_name_byte w) h in
    and_from _ _ t.0 (list_all-append is_name_byte w (b ∷ []) ∙ and_from _ _ t.1 (and_from _ _ name refl))

likely_more : (a : Awaited) (n : ℕ) (w : Bytes) (b : ℕ) → FitsLetters a n w → is_name_byte b ≡ true → Likely a (w ++ b ∷ [])
likely_more awaited.Node n w b fit name = tt
likely_more awaited.Bracket n w b fit name = tt
likely_more (awaited.Count c) n w b fit name = tt
likely_more awaited.Part n w b fit name = like_more w b fit name
likely_more awaited.Colon n w b fit name = tt
likely_more awaited.Joint n w b fit name = tt

-- one more byte
pub step_lexed : (part : Bytes) (s : Spot) (b : ℕ) → IsLexed part s → IfSome (step s b) (IsLexed (part ++ b ∷ []))
step_lexed part (spot (at n k a) (nothing loose)) b h = begun_lexed part n k a loose b h
step_lexed part (spot (at n k a) (letters w)) b h =
    if_either (IsLexed (part ++ b ∷ [])) (is_name_byte b) _ _
    (λ name. lettered_lexed (part ++ b ∷ []) h.done n k a (w ++ b ∷ []) (ap (λ t. t ++ b ∷ []) h.is ∙ append_assoc h.done w (b ∷ [])) h.whole
    (came_more n k a w b h.letters.came name) (likely_more a n w b h.letters.fit name))
    (λ name. behind_begun part (after (at n k a) (word w)) b (λ d e. subst (λ t. Done t d true) (sym h.is) (Done-piece (word w) refl e h.whole)))
step_lexed part (spot (at n k a) (digits m)) b h =
    if_either (IsLexed (part ++ b ∷ [])) (is_digit b) _ _
    (λ digit. next_digit_lexed part h.done n k a m b digit h.is h.whole h.fits)
    (λ digit. behind_begun part (after (at n k a) (number m)) b (λ d e. subst (λ t. Done t d true) (sym h.is) (Done-piece (number m) refl e h.whole)))
step_lexed part (spot (at n k a) dash) b h =
    if_either (IsLexed (part ++ b ∷ [])) (b == 62) _ _
    (λ same. behind_lexed (part ++ b ∷ []) false (after (at n k a) (sign arrow))
    (λ d e. subst (λ t. Done t d false)
    (sym (ap (λ t. t ++ b ∷ []) h.is ∙ (append_assoc h.done (45 ∷ []) (b ∷ []) ∙ ap (λ x. h.done ++ 45 ∷ x ∷ []) (eqb-true b 62 same))))
    (Done-piece (sign arrow) (no_sign h.loose) e h.whole)))
    (λ other. tt)

pub steps_none : (text : Bytes) → steps None text ≡ None
steps_none [] = refl
steps_none (b ∷ text) = steps_none text

steps_lexed : (part more : Bytes) (o : Option Spot) → IfSome o (IsLexed part) → IfSome (steps o more) (IsLexed (part ++ more))
steps_lexed part [] o h = subst (λ t. IfSome o (IsLexed t)) (sym (append-nil part)) h
steps_lexed part (b ∷ more) None h = subst (λ o. IfSome o (IsLexed (part ++ b ∷ more))) (sym (steps_none more)) tt
steps_lexed part (b ∷ more) (Some s) h =
    subst (λ t. IfSome (steps (step s b) more) (IsLexed t)) (append_assoc part (b ∷ []) more)
    (steps_lexed (part ++ b ∷ []) more (step s b) (step_lexed part s b h))

-- the beginning
start_lexed : IsLexed [] start
start_lexed = record { pieces = []; leads = refl; spelled = λ qs more s. s }

pub text_lexed : (text : Bytes) → IfSome (steps (Some start) text) (IsLexed text)
text_lexed text = steps_lexed [] text (Some start) start_lexed
