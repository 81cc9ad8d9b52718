-- The names that are there behind a text are those of the fields among its pieces.
use Rattle.std.proofs.Common.{◌≡◌, ℕ, zero, suc, Bool, true, false, ◌&&◌, List, [], ◌∷◌, ◌++◌, refl, ap, sym, ◌∙◌, subst, arith}
use Rattle.std.specs.Prelude.{Option, Some, None, if◌then◌else◌, decimal}
use Rattle.std.specs.List.{list_all}
use Rattle.std.proofs.lemmas.Bool.{and_parts, and_from}
use Rattle.std.proofs.lemmas.Bool.Decides.{nat_tests}
use Rattle.fy_base.specs.Outside.{Bytes}
use Rattle.fy_types.specs.Names.{with_name, with_names}
use Rattle.fy_types.specs.Words.{is_digit, is_name_byte, is_name_like, is_word}
use Rattle.fy_read.specs.declared.read.Awaited.TheVariants as awaited
use Rattle.fy_read.specs.declared.words.NodeWord.{NodeWord}
use Rattle.fy_read.specs.declared.words.NodeWord.TheVariants as node
use Rattle.fy_derive.specs.Derivations.{PlainDerivation}
use Rattle.fy_read.specs.FieldNames.{begins_with_colon, field_names}
use Rattle.fy_read.specs.Naming.{named_at, names_with, names_along}
use Rattle.fy_read.specs.Spelling.{Piece, word, number, sign, Sign, open_bracket, close_bracket, open_paren, close_paren, colon, arrow, ampersand, is_blank, is_loose, spelling, AreSpelled, at_end, a_blank, a_piece, IsTextOf}
use Rattle.fy_read.specs.Steps.{Reached, at, after, after_all, after_known, after_node, node_word, is_type_word, begin, finish, start, Spot, spot, nothing, letters, digits, behind, begun_behind, begun_by, step, steps}
use Rattle.fy_read.proofs.ByteLemmas.{chosen_not, chosen_so, BeginsOther, nothing_more, begins, other, loose_begins, word_letters, node_letters, number_bytes, counted_within}
use Rattle.fy_read.proofs.GrammarLemmas.{lost, node_word-text}
use Rattle.fy_read.proofs.PieceLemmas.{after_whole}
use Rattle.fy_read.proofs.UniqueLemmas.{word_like, like_names, number_small, decimal_digits}

same_either : {X : Type 0} (b : Bool) (x : X) → (if b then x else x) ≡ x
same_either true x = refl
same_either false x = refl

-- ---- bytes
-- no name ends among bytes that go on with one
run_along : (o : Option Spot) (w text : Bytes) (names : List Bytes) → list_all is_name_byte w ≡ true →
    names_along o (w ++ text) names ≡ names_along (steps o w) text names
run_along o [] text names h = refl
run_along None (b ∷ w) text names h = run_along None w text names (and_parts (is_name_byte b) (list_all is_name_byte w) h).1
run_along (Some s) (b ∷ w) text names h =
    let t = and_parts (is_name_byte b) (list_all is_name_byte w) h in
    ap (names_along (step s b) (w ++ text)) (chosen_so (is_name_byte b) _ _ t.0) ∙ run_along (step s b) w text names t.1

-- a word, and a number, ends before such a text
letters_along : (c d : Reached) (w text : Bytes) (names : List Bytes) → after c (word w) ≡ Some d → BeginsOther text →
    names_along (Some (spot c (letters w))) text names ≡ names_along (Some (spot d (nothing true))) text (named_at c w names)
letters_along c d w [] names e nothing_more = refl
letters_along c d w (b ∷ text) names e (begins (other name digit)) =
    ap (λ o. names_along o text (names_with (spot c (letters w)) b names)) (chosen_not (is_name_byte b) _ _ name ∙ ap (λ o. begun_behind o b) e)
    ∙ ap (names_along (begun_by d true b) text)
    (chosen_not (is_name_byte b) names (named_at c w names) name ∙ sym (same_either (is_name_byte b) (named_at c w names)))

digits_along : (c d : Reached) (m : ℕ) (text : Bytes) (names : List Bytes) → after c (number m) ≡ Some d → BeginsOther text →
    names_along (Some (spot c (digits m))) text names ≡ names_along (Some (spot d (nothing true))) text names
digits_along c d m [] names e nothing_more = refl
digits_along c d m (b ∷ text) names e (begins (other name digit)) =
    ap (λ o. names_along o text (names_with (spot c (digits m)) b names)) (chosen_not (is_digit b) _ _ digit ∙ ap (λ o. begun_behind o b) e)

-- ---- pieces
-- the names behind a piece
abbrev named_of : Reached → Piece → List Bytes → List Bytes
named_of c (word w) names = named_at c w names
named_of c (number m) names = names
named_of c (sign s) names = names

node_along : (m k : ℕ) (d : Reached) (w text : Bytes) (names : List Bytes) (o : Option NodeWord) → node_word w ≡ o → after_known m o ≡ Some d →
    is_name_like w ≡ true →
    names_along (Some (spot (at (suc m) k awaited.Node) (nothing false))) (w ++ text) names ≡ names_along (Some (spot d (nothing true))) text names
node_along m k d w text names None e h like = absurd cc
node_along m k d w text names (Some x) e h like =
    let s : Option Spot = Some (spot (at (suc m) k awaited.Node) (nothing false)) in
    run_along s w text names (like_names w like)
    ∙ ap (λ o. names_along o text names) (ap (steps s) (node_word-text w x e) ∙ (node_letters m k x ∙ ap (λ o. behind true o) h))

word_along : (c d : Reached) (w text : Bytes) (names : List Bytes) → after c (word w) ≡ Some d → BeginsOther text →
    names_along (Some (spot c (nothing false))) (w ++ text) names ≡ names_along (Some (spot d (nothing true))) text (named_at c w names)
word_along (at zero k awaited.Node) d w text names h rest = absurd cc
word_along (at (suc m) k awaited.Node) d w text names h rest =
    node_along m k d w text names (node_word w) refl h (word_like (at (suc m) k awaited.Node) d w h)
word_along (at n k awaited.Bracket) d w text names h rest = absurd cc
word_along (at n k (awaited.Count c)) d w text names h rest = absurd cc
word_along (at n k awaited.Colon) d w text names h rest = absurd cc
word_along (at n k awaited.Joint) d w text names h rest = absurd cc
word_along (at n k awaited.Part) d w text names h rest =
    let like = word_like (at n k awaited.Part) d w h in
    run_along (Some (spot (at n k awaited.Part) (nothing false))) w text names (like_names w like)
    ∙ (ap (λ o. names_along o text names) (word_letters n k w like) ∙ letters_along (at n k awaited.Part) d w text names h rest)

digit_names : (ds : Bytes) → list_all is_digit ds ≡ true → list_all is_name_byte ds ≡ true
digit_names [] h = refl
digit_names (b ∷ ds) h = let t = and_parts (is_digit b) (list_all is_digit ds) h in and_from _ _ (digit_name b t.0) (digit_names ds t.1) where
  digit_name : (b : ℕ) → is_digit b ≡ true → is_name_byte b ≡ true
  digit_name b h = grind (arith, nat_tests)

number_along : (c d : Reached) (m : ℕ) (text : Bytes) (names : List Bytes) → after c (number m) ≡ Some d → BeginsOther text →
    names_along (Some (spot c (nothing false))) (decimal m ++ text) names ≡ names_along (Some (spot d (nothing true))) text names
number_along (at n k awaited.Node) d m text names h rest = absurd cc
number_along (at n k awaited.Bracket) d m text names h rest = absurd cc
number_along (at n k awaited.Part) d m text names h rest = absurd cc
number_along (at n k awaited.Colon) d m text names h rest = absurd cc
number_along (at n k awaited.Joint) d m text names h rest = absurd cc
number_along (at n k (awaited.Count c)) d m text names h rest =
    let small = number_small (at n k (awaited.Count c)) d m h in
    let t = counted_within n m c d _ _ refl refl h in
    run_along (Some (spot (at n k (awaited.Count c)) (nothing false))) (decimal m) text names (digit_names (decimal m) (decimal_digits m small))
    ∙ (ap (λ o. names_along o text names) (number_bytes n k c m small (t.1, λ e. omega (arith, e, t.0)))
    ∙ digits_along (at n k (awaited.Count c)) d m text names h rest)

sign_along : (c d : Reached) (l : Bool) (s : Sign) (text : Bytes) (names : List Bytes) → after c (sign s) ≡ Some d →
    names_along (Some (spot c (nothing l))) (spelling (sign s) ++ text) names ≡ names_along (Some (spot d (nothing false))) text names
sign_along c d l open_bracket text names e = ap (λ o. names_along (behind false o) text names) e
sign_along c d l close_bracket text names e = ap (λ o. names_along (behind false o) text names) e
sign_along c d l open_paren text names e = ap (λ o. names_along (behind false o) text names) e
sign_along c d l close_paren text names e = ap (λ o. names_along (behind false o) text names) e
sign_along c d l colon text names e = ap (λ o. names_along (behind false o) text names) e
sign_along c d l ampersand text names e = ap (λ o. names_along (behind false o) text names) e
sign_along (at n k awaited.Joint) d l arrow text names e = ap (λ o. names_along (behind false o) text names) e
sign_along (at n k awaited.Node) d l arrow text names e = absurd cc
sign_along (at n k awaited.Bracket) d l arrow text names e = absurd cc
sign_along (at n k (awaited.Count c)) d l arrow text names e = absurd cc
sign_along (at n k awaited.Part) d l arrow text names e = absurd cc
sign_along (at n k awaited.Colon) d l arrow text names e = absurd cc

piece_along : {ps : List Piece} (c d : Reached) (l : Bool) (p : Piece) (text : Bytes) (names : List Bytes) → (l && is_loose p) ≡ false →
    after c p ≡ Some d → AreSpelled (is_loose p) ps text →
    names_along (Some (spot c (nothing l))) (spelling p ++ text) names ≡ names_along (Some (spot d (nothing (is_loose p)))) text (named_of c p names)
piece_along c d true (word w) text names fits h rest = absurd cc
piece_along c d false (word w) text names fits h rest = word_along c d w text names h (loose_begins rest)
piece_along c d true (number m) text names fits h rest = absurd cc
piece_along c d false (number m) text names fits h rest = number_along c d m text names h (loose_begins rest)
piece_along c d l (sign s) text names fits h rest = sign_along c d l s text names h

-- ---- the words in front of a colon
-- no colon comes next, or one does
abbrev AwaitsNoColon : Reached → Type 0
AwaitsNoColon (at n k awaited.Colon) = ⊥
AwaitsNoColon (at n k awaited.Node) = Unit {0}
AwaitsNoColon (at n k awaited.Bracket) = Unit {0}
AwaitsNoColon (at n k (awaited.Count c)) = Unit {0}
AwaitsNoColon (at n k awaited.Part) = Unit {0}
AwaitsNoColon (at n k awaited.Joint) = Unit {0}

none_after : (d : Reached) → AwaitsNoColon d → after d (sign colon) ≡ None
none_after (at n k awaited.Colon) h = absurd h
none_after (at n k awaited.Node) h = refl
none_after (at n k awaited.Bracket) h = refl
none_after (at n k (awaited.Count c)) h = refl
none_after (at n k awaited.Part) h = refl
none_after (at n k awaited.Joint) h = refl

no_colon : (d e : Reached) (ps : List Piece) → AwaitsNoColon d → after_all (Some d) ps ≡ Some e → begins_with_colon ps ≡ false
no_colon d e [] h leads = refl
no_colon d e (word w ∷ ps) h leads = refl
no_colon d e (number m ∷ ps) h leads = refl
no_colon d e (sign open_bracket ∷ ps) h leads = refl
no_colon d e (sign close_bracket ∷ ps) h leads = refl
no_colon d e (sign open_paren ∷ ps) h leads = refl
no_colon d e (sign close_paren ∷ ps) h leads = refl
no_colon d e (sign arrow ∷ ps) h leads = refl
no_colon d e (sign ampersand ∷ ps) h leads = refl
no_colon d e (sign colon ∷ ps) h leads = lost ps e (ap (λ o. after_all o ps) (sym (none_after d h)) ∙ leads)

one_colon : (n k : ℕ) (e : Reached) (ps : List Piece) → AwaitsNoColon e → after_all (Some (at n k awaited.Colon)) ps ≡ Some e →
    begins_with_colon ps ≡ true
one_colon n k e [] h leads = let same : at n k awaited.Colon ≡ e = cc in absurd (subst AwaitsNoColon (sym same) h)
one_colon n k e (word w ∷ ps) h leads = lost ps e leads
one_colon n k e (number m ∷ ps) h leads = lost ps e leads
one_colon n k e (sign open_bracket ∷ ps) h leads = lost ps e leads
one_colon n k e (sign close_bracket ∷ ps) h leads = lost ps e leads
one_colon n k e (sign open_paren ∷ ps) h leads = lost ps e leads
one_colon n k e (sign close_paren ∷ ps) h leads = lost ps e leads
one_colon n k e (sign arrow ∷ ps) h leads = lost ps e leads
one_colon n k e (sign ampersand ∷ ps) h leads = lost ps e leads
one_colon n k e (sign colon ∷ ps) h leads = refl

unnamed : (d e : Reached) (w : Bytes) (ps : List Piece) (names : List Bytes) → AwaitsNoColon d → after_all (Some d) ps ≡ Some e →
    with_names names (field_names ps) ≡ with_names names (field_names (word w ∷ ps))
unnamed d e w ps names h leads = ap (with_names names) (sym (chosen_not (begins_with_colon ps) _ _ (no_colon d e ps h leads)))

after_node_clear : (m : ℕ) (x : NodeWord) → AwaitsNoColon (after_node m x)
after_node_clear m node.Ns = tt
after_node_clear m node.Sub = tt
after_node_clear m node.Meet = tt
after_node_clear m node.Alt = tt
after_node_clear m node.Left = tt
after_node_clear m node.Right = tt
after_node_clear m node.Rule = tt

known_clear : (m : ℕ) (d : Reached) (o : Option NodeWord) → after_known m o ≡ Some d → AwaitsNoColon d
known_clear m d None h = absurd cc
known_clear m d (Some x) h = let same : after_node m x ≡ d = cc in subst AwaitsNoColon same (after_node_clear m x)

-- a word of a type: one of the language's, or a field's name
part_named : (n k : ℕ) (d e : Reached) (w : Bytes) (ps : List Piece) (names : List Bytes) (like one known : Bool) → is_word w ≡ one →
    (if like then (if one then (if known then Some (at n k awaited.Joint) else None) else Some (at n k awaited.Colon)) else None) ≡ Some d →
    after_all (Some d) ps ≡ Some e → AwaitsNoColon e →
    with_names (if one then names else with_name names w) (field_names ps) ≡ with_names names (field_names (word w ∷ ps))
part_named n k d e w ps names false one known is h leads clear = absurd cc
part_named n k d e w ps names true true false is h leads clear = absurd cc
part_named n k d e w ps names true true true is h leads clear =
    let same : at n k awaited.Joint ≡ d = cc in unnamed d e w ps names (subst AwaitsNoColon same tt) leads
part_named n k d e w ps names true false known is h leads clear =
    let same : d ≡ at n k awaited.Colon = cc in
    ap (with_names names)
    (sym (chosen_so (begins_with_colon ps) _ _ (one_colon n k e ps clear (ap (λ c. after_all (Some c) ps) (sym same) ∙ leads))))

word_named : (c d e : Reached) (w : Bytes) (ps : List Piece) (names : List Bytes) → after c (word w) ≡ Some d → after_all (Some d) ps ≡ Some e →
    AwaitsNoColon e → with_names (named_at c w names) (field_names ps) ≡ with_names names (field_names (word w ∷ ps))
word_named (at zero k awaited.Node) d e w ps names h leads clear = absurd cc
word_named (at (suc m) k awaited.Node) d e w ps names h leads clear = unnamed d e w ps names (known_clear m d (node_word w) h) leads
word_named (at n k awaited.Bracket) d e w ps names h leads clear = absurd cc
word_named (at n k (awaited.Count c)) d e w ps names h leads clear = absurd cc
word_named (at n k awaited.Colon) d e w ps names h leads clear = absurd cc
word_named (at n k awaited.Joint) d e w ps names h leads clear = absurd cc
word_named (at n k awaited.Part) d e w ps names h leads clear =
    part_named n k d e w ps names (is_name_like w) (is_word w) (is_type_word w) refl h leads clear

piece_named : (c d e : Reached) (p : Piece) (ps : List Piece) (names : List Bytes) → after c p ≡ Some d → after_all (Some d) ps ≡ Some e →
    AwaitsNoColon e → with_names (named_of c p names) (field_names ps) ≡ with_names names (field_names (p ∷ ps))
piece_named c d e (word w) ps names h leads clear = word_named c d e w ps names h leads clear
piece_named c d e (number m) ps names h leads clear = refl
piece_named c d e (sign s) ps names h leads clear = refl

-- ---- texts
step_along : {ps : List Piece} (c e : Reached) (l : Bool) (p : Piece) (text : Bytes) (names : List Bytes) → (l && is_loose p) ≡ false →
    AreSpelled (is_loose p) ps text → AwaitsNoColon e →
    ((d : Reached) → after_all (Some d) ps ≡ Some e → (names : List Bytes) →
    names_along (Some (spot d (nothing (is_loose p)))) text names ≡ with_names names (field_names ps)) →
    (o : Option Reached) → after c p ≡ o → after_all o ps ≡ Some e →
    names_along (Some (spot c (nothing l))) (spelling p ++ text) names ≡ with_names names (field_names (p ∷ ps))
step_along {ps = ps} c e l p text names fits rest clear ih None is h = lost ps e h
step_along {ps = ps} c e l p text names fits rest clear ih (Some d) is h =
    piece_along c d l p text names fits is rest ∙ (ih d h (named_of c p names) ∙ piece_named c d e p ps names is h clear)

spelled_along : {l : Bool} {ps : List Piece} {text : Bytes} → AreSpelled l ps text → (c e : Reached) → after_all (Some c) ps ≡ Some e →
    AwaitsNoColon e → (names : List Bytes) → names_along (Some (spot c (nothing l))) text names ≡ with_names names (field_names ps)
spelled_along at_end c e h clear names = refl
spelled_along {l = l} (a_blank {b = b} {text = text} blank rest) c e h clear names =
    ap (λ o. names_along o text (names_with (spot c (nothing l)) b names)) (chosen_so (is_blank b) _ _ blank)
    ∙ (ap (names_along (Some (spot c (nothing false))) text) (same_either (is_name_byte b) names) ∙ spelled_along rest c e h clear names)
spelled_along {l = l} (a_piece {p = p} {text = text} fits rest) c e h clear names =
    step_along c e l p text names fits rest clear (λ d h names. spelled_along rest d e h clear names) (after c p) refl h

-- the names behind the text of a derivation
pub text_along : {under : List Bytes} {d : PlainDerivation} {text : Bytes} (names : List Bytes) → (h : IsTextOf under d text) →
    names_along (Some start) text names ≡ with_names names (field_names h.pieces)
text_along names h = spelled_along h.spelled begin finish (after_whole h.derivation) tt names
