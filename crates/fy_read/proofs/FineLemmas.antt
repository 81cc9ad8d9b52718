-- Whether the pieces of a text pass a limit, by what they leave open.
use Rattle.std.proofs.Common.{◌≡◌, inl, inr, ℕ, zero, suc, ◌+◌, ◌<◌, ◌≤◌, Bool, true, false, ◌&&◌, max, if◌then◌else◌, List, [], ◌∷◌, ◌++◌, length, refl, ap, sym, ◌∙◌, subst, arith}
use Rattle.std.specs.Prelude.{Option, Some, None, nat_le, IfSome}
use Rattle.std.proofs.lemmas.Bool.{cases_lt}
use Rattle.fy_base.specs.Outside.{Bytes}
use Rattle.fy_types.specs.Words.{is_name_like, is_word}
use Rattle.fy_read.specs.declared.read.Awaited.{Awaited}
use Rattle.fy_read.specs.declared.read.Awaited.TheVariants as awaited
use Rattle.fy_read.specs.declared.words.NodeWord.{NodeWord}
use Rattle.fy_read.specs.declared.words.NodeWord.TheVariants as node
use Rattle.fy_read.specs.Depth.{Deep, no_depth, deep_part, deep_field, deep_arrow, deep_whole, Nest, outside, within, nest_with, nest_after, typeds, low, nest_of}
use Rattle.fy_derive.specs.Derivations.{PlainDerivation, most_nodes, most_nesting}
use Rattle.fy_derive.specs.Limits.{deepest_type, most_type_nesting, KeepsLimits}
use Rattle.fy_read.specs.Refusals.{node_words, open_parens, most_open_parens, BeginsPieces, EndsPiece, PassesSize, PassesDepth, of_nodes, of_parens, of_type, KeepsBefore, IsStopOf, IsBadText, IsTooLargeText, IsTooDeepText}
use Rattle.fy_read.specs.Shape.{first_shape, outs, greatest}
use Rattle.fy_read.specs.Spelling.{Piece, word, number, sign, open_bracket, close_bracket, open_paren, close_paren, colon, arrow, ampersand, AreSpelled, SpellsDerivation}
use Rattle.fy_read.specs.Steps.{Reached, at, after, after_all, after_known, after_node, node_word, is_type_word, least, greatest as most, wanted, begin, finish}
use Rattle.fy_read.proofs.CompletionLemmas.{IsClear, rest_of, all_clear}
use Rattle.fy_read.proofs.DepthLemmas.{nesting-begun, nodes-words}
use Rattle.fy_read.proofs.GrammarLemmas.{lost}
use Rattle.fy_read.proofs.LowLemmas.{IsDeep, part_deep, whole_some, begins_pieces, begins_shallow, all_deep, after_all-append}
use Rattle.fy_read.proofs.PieceLemmas.{after_whole}
use Rattle.fy_read.proofs.TypeDepth.{deepest-typed}
use Rattle.fy_read.proofs.UniqueLemmas.{unique, same_head, same_tail}

-- ---- the levels of a type go along with what comes next
pub record InStep (n k : ℕ) (a : Awaited) (s : Nest) : Type 0 where
  pub N : Deep
  pub O : List Deep
  pub is : s ≡ nest_of a N O
  pub levels : length O ≡ k
  pub some : IsDeep a N

abbrev pub AreInStep : Reached → Nest → Type 0
AreInStep (at n k a) s = InStep n k a s

none_at : {X : Type 0} (c : Reached) → None ≡ Some c → X
none_at c h = absurd cc

moved : (c d : Reached) (s : Nest) → Some c ≡ Some d → AreInStep c s → AreInStep d s
moved c d s e h = let same : c ≡ d = cc in subst (λ c. AreInStep c s) same h

clear_step : (n : ℕ) → AreInStep (at n 0 awaited.Node) outside
clear_step n = record { N = no_depth; O = []; is = refl; levels = refl; some = tt }

node_step : (m : ℕ) (x : NodeWord) → AreInStep (after_node m x) outside
node_step m node.Ns = clear_step m
node_step m node.Sub = record { N = no_depth; O = []; is = refl; levels = refl; some = tt }
node_step m node.Meet = record { N = no_depth; O = []; is = refl; levels = refl; some = tt }
node_step m node.Alt = record { N = no_depth; O = []; is = refl; levels = refl; some = tt }
node_step m node.Left = clear_step (suc m)
node_step m node.Right = clear_step (suc m)
node_step m node.Rule = record { N = no_depth; O = []; is = refl; levels = refl; some = tt }

known_step : (m : ℕ) (o : Option NodeWord) (d : Reached) → after_known m o ≡ Some d → AreInStep d outside
known_step m None d h = none_at d h
known_step m (Some x) d h = moved (after_node m x) d outside h (node_step m x)

count_step : (m : ℕ) (b : Bool) (d : Reached) → (if b then Some (at m 0 awaited.Node) else None) ≡ Some d → AreInStep d outside
count_step m true d h = moved (at m 0 awaited.Node) d outside h (clear_step m)
count_step m false d h = none_at d h

word_step : (n k : ℕ) (N : Deep) (O : List Deep) (d : Reached) (a b t : Bool) → length O ≡ k →
    (if a then (if b then (if t then Some (at n k awaited.Joint) else None) else Some (at n k awaited.Colon)) else None) ≡ Some d →
    AreInStep d (if b then within (deep_part N 1) O else within (deep_field N) O)
word_step n k N O d true true true e h =
    moved (at n k awaited.Joint) d (within (deep_part N 1) O) h (record {
      N = deep_part N 1;
      O = O;
      is = refl;
      levels = e;
      some = part_deep N 1
          (omega arith);
    })
word_step n k N O d true true false e h = none_at d h
word_step n k N O d true false t e h =
    moved (at n k awaited.Colon) d (within (deep_field N) O) h (record { N = deep_field N; O = O; is = refl; levels = e; some = tt })
word_step n k N O d false b t e h = none_at d h

inside_step : (n k : ℕ) (N : Deep) (O : List Deep) (d : Reached) → length O ≡ k → Some (at n k awaited.Part) ≡ Some d → AreInStep d (within N O)
inside_step n k N O d e h = moved (at n k awaited.Part) d (within N O) h (record { N = N; O = O; is = refl; levels = e; some = tt })

-- with one piece more
in_step : (n k : ℕ) (a : Awaited) (p : Piece) (N : Deep) (O : List Deep) (d : Reached) → length O ≡ k → IsDeep a N → after (at n k a) p ≡ Some d →
    AreInStep d (nest_with (nest_of a N O) p)
in_step zero k awaited.Node (word w) N O d e some h = none_at d h
in_step (suc m) k awaited.Node (word w) N O d e some h = known_step m (node_word w) d h
in_step n k awaited.Node (number m) N O d e some h = none_at d h
in_step n k awaited.Node (sign s) N O d e some h = none_at d h
in_step n k awaited.Bracket (word w) N O d e some h = none_at d h
in_step n k awaited.Bracket (number m) N O d e some h = none_at d h
in_step n k awaited.Bracket (sign open_bracket) N O d e some h = inside_step n 0 no_depth [] d refl h
in_step n k awaited.Bracket (sign close_bracket) N O d e some h = none_at d h
in_step n k awaited.Bracket (sign open_paren) N O d e some h = none_at d h
in_step n k awaited.Bracket (sign close_paren) N O d e some h = none_at d h
in_step n k awaited.Bracket (sign colon) N O d e some h = none_at d h
in_step n k awaited.Bracket (sign arrow) N O d e some h = none_at d h
in_step n k awaited.Bracket (sign ampersand) N O d e some h = none_at d h
in_step n k (awaited.Count c) (word w) N O d e some h = none_at d h
in_step n k (awaited.Count c) (number m) N O d e some h = count_step (wanted c m + n) (nat_le (least c) m && nat_le m (most c)) d h
in_step n k (awaited.Count c) (sign s) N O d e some h = none_at d h
in_step n k awaited.Part (word w) N O d e some h = word_step n k N O d (is_name_like w) (is_word w) (is_type_word w) e h
in_step n k awaited.Part (number m) N O d e some h = none_at d h
in_step n k awaited.Part (sign open_paren) N O d e some h = inside_step n (suc k) no_depth (N ∷ O) d (ap suc e) h
in_step n k awaited.Part (sign open_bracket) N O d e some h = none_at d h
in_step n k awaited.Part (sign close_bracket) N O d e some h = none_at d h
in_step n k awaited.Part (sign close_paren) N O d e some h = none_at d h
in_step n k awaited.Part (sign colon) N O d e some h = none_at d h
in_step n k awaited.Part (sign arrow) N O d e some h = none_at d h
in_step n k awaited.Part (sign ampersand) N O d e some h = none_at d h
in_step n k awaited.Colon (word w) N O d e some h = none_at d h
in_step n k awaited.Colon (number m) N O d e some h = none_at d h
in_step n k awaited.Colon (sign colon) N O d e some h = inside_step n k N O d e h
in_step n k awaited.Colon (sign open_paren) N O d e some h = none_at d h
in_step n k awaited.Colon (sign open_bracket) N O d e some h = none_at d h
in_step n k awaited.Colon (sign close_bracket) N O d e some h = none_at d h
in_step n k awaited.Colon (sign close_paren) N O d e some h = none_at d h
in_step n k awaited.Colon (sign arrow) N O d e some h = none_at d h
in_step n k awaited.Colon (sign ampersand) N O d e some h = none_at d h
in_step n k awaited.Joint (word w) N O d e some h = none_at d h
in_step n k awaited.Joint (number m) N O d e some h = none_at d h
in_step n k awaited.Joint (sign ampersand) N O d e some h = inside_step n k N O d e h
in_step n k awaited.Joint (sign arrow) N O d e some h = inside_step n k (deep_arrow N) O d e h
in_step n zero awaited.Joint (sign close_paren) N O d e some h = none_at d h
in_step n (suc k) awaited.Joint (sign close_paren) N [] d e some h = absurd cc
in_step n (suc k) awaited.Joint (sign close_paren) N (M ∷ O) d e some h =
    moved (at n k awaited.Joint) d (within (deep_part M (deep_whole N)) O) h
    (record { N = deep_part M (deep_whole N); O = O; is = refl; levels = omega (arith, e); some = part_deep M (deep_whole N) (whole_some N some) })
in_step n zero awaited.Joint (sign close_bracket) N O d e some h = moved (at (suc n) 0 awaited.Node) d outside h (clear_step (suc n))
in_step n (suc k) awaited.Joint (sign close_bracket) N O d e some h = none_at d h
in_step n k awaited.Joint (sign open_bracket) N O d e some h = none_at d h
in_step n k awaited.Joint (sign open_paren) N O d e some h = none_at d h
in_step n k awaited.Joint (sign colon) N O d e some h = none_at d h

fit_step : (c d : Reached) (p : Piece) (s : Nest) → AreInStep c s → after c p ≡ Some d → AreInStep d (nest_with s p)
fit_step (at n k a) d p s h e = subst (λ s. AreInStep d (nest_with s p)) (sym h.is) (in_step n k a p h.N h.O d h.levels h.some e)

one_more : (o : Option Reached) (c d : Reached) (p : Piece) (ps : List Piece) (s : Nest) → after c p ≡ o → AreInStep c s →
    ((e : Reached) → AreInStep e (nest_with s p) → after_all (Some e) ps ≡ Some d → AreInStep d (nest_after (nest_with s p) ps)) →
    after_all o ps ≡ Some d → AreInStep d (nest_after (nest_with s p) ps)
one_more None c d p ps s is h ih f = lost ps d f
one_more (Some e) c d p ps s is h ih f = ih e (fit_step c e p s h is) f

in_steps : (ps : List Piece) (c d : Reached) (s : Nest) → AreInStep c s → after_all (Some c) ps ≡ Some d → AreInStep d (nest_after s ps)
in_steps [] c d s h f = moved c d s f h
in_steps (p ∷ ps) c d s h f = one_more (after c p) c d p ps s refl h (λ e g f. in_steps ps e d (nest_with s p) g f) f

pub in_step_from_begin : (ps : List Piece) (d : Reached) → after_all (Some begin) ps ≡ Some d → AreInStep d (nest_after outside ps)
in_step_from_begin ps d f = in_steps ps begin d outside (clear_step 1) f

-- ---- the limits of pieces
-- the nesting of types that the pieces make necessary
abbrev pub low_of : Reached → Nest → ℕ
low_of (at n k a) outside = 0
low_of (at n k a) (within N O) = low a N O

abbrev pub depth_of : List Piece → Reached → ℕ
depth_of ps c = max (greatest (typeds outside ps)) (low_of c (nest_after outside ps))

pub record IsFine (ps : List Piece) (c : Reached) : Type 0 where
  pub few : node_words ps ≤ most_nodes
  pub shallow : greatest (outs first_shape ps) ≤ most_nesting
  pub parens : open_parens ps ≤ most_open_parens
  pub types : depth_of ps c ≤ most_type_nesting

low-of : (n k : ℕ) (a : Awaited) (N : Deep) (O : List Deep) → low_of (at n k a) (nest_of a N O) ≡ low a N O
low-of n k awaited.Node N O = refl
low-of n k awaited.Bracket N O = refl
low-of n k (awaited.Count c) N O = refl
low-of n k awaited.Part N O = refl
low-of n k awaited.Colon N O = refl
low-of n k awaited.Joint N O = refl

-- what begins a derivation leads somewhere
begun_by : (o : Option Reached) (more : List Piece) → after_all o more ≡ Some finish → (c : Reached) × (o ≡ Some c)
begun_by None more h = lost more finish h
begun_by (Some c) more h = (c, refl)

pub begun_leads : (d : PlainDerivation) (ps : List Piece) → BeginsPieces d ps → (c : Reached) × (after_all (Some begin) ps ≡ Some c)
begun_leads d ps b = begun_by (after_all (Some begin) ps) b.more (sym (after_all-append (Some begin) ps b.more) ∙ after_whole b.spelled)

-- the pieces of a text that begin a derivation are these
only : (d : PlainDerivation) (ps qs : List Piece) (part : Bytes) (c : Reached) → AreSpelled false ps part → after_all (Some begin) ps ≡ Some c →
    AreSpelled false qs part → BeginsPieces d qs → qs ≡ ps
only d ps qs part c s leads r b = let t = begun_leads d qs b in unique part begin t.0 c r s refl t.1 leads

pub no_size : (ps : List Piece) (part : Bytes) (c : Reached) → AreSpelled false ps part → after_all (Some begin) ps ≡ Some c →
    node_words ps ≤ most_nodes → ¬ PassesSize part
no_size ps part c s leads few h = omega (arith, few, h.many, ap node_words (only h.d ps h.pieces part c s leads h.spelled h.begun))

-- the pieces that are fine pass no limit on depth
pub no_depth_passed : (ps : List Piece) (part rest : Bytes) (c : Reached) → AreSpelled false ps part → after_all (Some begin) ps ≡ Some c →
    IsClear c → IsFine ps c → ¬ PassesDepth part rest
no_depth_passed ps part rest c s leads clear fine (of_nodes qs d r b above) =
    let same = only d ps qs part c s leads r b in
    omega (arith, above, fine.shallow, nesting-begun qs b.more b.spelled, ap (λ qs. greatest (outs first_shape qs)) same)
no_depth_passed ps part rest c s leads clear fine (of_parens qs d r b above) =
    omega (arith, above, fine.parens, ap open_parens (only d ps qs part c s leads r b))
no_depth_passed ps part rest (at n k a) s leads clear fine (of_type qs d r b ends all) =
    let same = only d ps qs part (at n k a) s leads r b in
    let t = in_step_from_begin ps (at n k a) leads in
    let e = begins_shallow ps n k a t.N t.O leads clear t.is t.levels in
    let low_is : low_of (at n k a) (nest_after outside ps) ≡ low a t.N t.O = ap (low_of (at n k a)) t.is ∙ low-of n k a t.N t.O in
    omega (arith, all e.0 (subst (BeginsPieces e.0) (sym same) e.1), e.2, fine.types, low_is)

-- and those that aren't pass one
pub size_passed : (ps : List Piece) (part : Bytes) (c : Reached) → AreSpelled false ps part → after_all (Some begin) ps ≡ Some c → IsClear c →
    most_nodes < node_words ps → PassesSize part
size_passed ps part (at n k a) s leads clear many =
    let t = begins_pieces ps n k a leads clear in
    record { pieces = ps; spelled = s; d = t.0; begun = record { names = t.1; more = rest_of n k a; spelled = t.2 }; many = many }

pub nodes_passed : (ps : List Piece) (part rest : Bytes) (c : Reached) → AreSpelled false ps part → after_all (Some begin) ps ≡ Some c → IsClear c →
    most_nesting < greatest (outs first_shape ps) → PassesDepth part rest
nodes_passed ps part rest (at n k a) s leads clear above =
    let t = begins_pieces ps n k a leads clear in
    of_nodes ps t.0 s (record { names = t.1; more = rest_of n k a; spelled = t.2 }) (omega (arith, above, nesting-begun ps (rest_of n k a) t.2))

pub parens_passed : (ps : List Piece) (part rest : Bytes) (c : Reached) → AreSpelled false ps part → after_all (Some begin) ps ≡ Some c → IsClear c →
    most_open_parens < open_parens ps → PassesDepth part rest
parens_passed ps part rest (at n k a) s leads clear above =
    let t = begins_pieces ps n k a leads clear in of_parens ps t.0 s (record { names = t.1; more = rest_of n k a; spelled = t.2 }) above

pub types_passed : (ps : List Piece) (part rest : Bytes) (c : Reached) → AreSpelled false ps part → after_all (Some begin) ps ≡ Some c → IsClear c →
    EndsPiece ps rest → most_type_nesting < depth_of ps c → PassesDepth part rest
types_passed ps part rest (at n k a) s leads clear ends above =
    let b = begins_pieces ps n k a leads clear in
    let t = in_step_from_begin ps (at n k a) leads in
    let low_is : low_of (at n k a) (nest_after outside ps) ≡ low a t.N t.O = ap (low_of (at n k a)) t.is ∙ low-of n k a t.N t.O in
    of_type ps b.0 s (record { names = b.1; more = rest_of n k a; spelled = b.2 }) ends
    (λ e begun. omega (arith, above, low_is, all_deep ps n k a t.N t.O leads t.is t.levels t.some e begun))

-- ---- texts
-- pieces of which only the last may go on: the depth of types counts only where it doesn't
pub record AreFineSoFar (part rest : Bytes) : Type 0 where
  pub few : (ps : List Piece) (c : Reached) → AreSpelled false ps part → after_all (Some begin) ps ≡ Some c → node_words ps ≤ most_nodes
  pub shallow : (ps : List Piece) (c : Reached) → AreSpelled false ps part → after_all (Some begin) ps ≡ Some c →
      greatest (outs first_shape ps) ≤ most_nesting
  pub parens : (ps : List Piece) (c : Reached) → AreSpelled false ps part → after_all (Some begin) ps ≡ Some c → open_parens ps ≤ most_open_parens
  pub types : (ps : List Piece) (c : Reached) → AreSpelled false ps part → after_all (Some begin) ps ≡ Some c → EndsPiece ps rest →
      depth_of ps c ≤ most_type_nesting

pub fine_size : (part rest : Bytes) → AreFineSoFar part rest → ¬ PassesSize part
fine_size part rest fine h = let t = begun_leads h.d h.pieces h.begun in omega (arith, h.many, fine.few h.pieces t.0 h.spelled t.1)

pub leads_clear : (ps : List Piece) (c : Reached) → after_all (Some begin) ps ≡ Some c → IsClear c
leads_clear ps c leads = subst (λ o. IfSome o IsClear) leads (all_clear (Some begin) ps refl)

types_by : (qs : List Piece) (c : Reached) → after_all (Some begin) qs ≡ Some c → depth_of qs c ≤ most_type_nesting →
    (e : PlainDerivation) × BeginsPieces e qs × (deepest_type e ≤ most_type_nesting)
types_by qs (at n k a) leads fine =
    let t = in_step_from_begin qs (at n k a) leads in
    let e = begins_shallow qs n k a t.N t.O leads (leads_clear qs (at n k a) leads) t.is t.levels in
    let low_is : low_of (at n k a) (nest_after outside qs) ≡ low a t.N t.O = ap (low_of (at n k a)) t.is ∙ low-of n k a t.N t.O in
    (e.0, e.1, omega (arith, e.2, fine, low_is))

pub fine_depth : (part rest : Bytes) → AreFineSoFar part rest → ¬ PassesDepth part rest
fine_depth part rest fine (of_nodes qs d r b above) =
    let t = begun_leads d qs b in omega (arith, above, fine.shallow qs t.0 r t.1, nesting-begun qs b.more b.spelled)
fine_depth part rest fine (of_parens qs d r b above) = let t = begun_leads d qs b in omega (arith, above, fine.parens qs t.0 r t.1)
fine_depth part rest fine (of_type qs d r b ends all) =
    let t = begun_leads d qs b in
    let e = types_by qs t.0 t.1 (fine.types qs t.0 r t.1 ends) in
    omega (arith, all e.0 e.1, e.2)

-- no limit is passed before so many bytes, with one more
pub keeps_none : (text : Bytes) → KeepsBefore text 0
keeps_none text = record {
  size = λ part rest is less. absurd (omega (arith, less));
  depth = λ part rest is less. absurd (omega (arith, less));
}

pub same_front : (part part' rest rest' : Bytes) → part ++ rest ≡ part' ++ rest' → length part ≡ length part' → (part ≡ part') × (rest ≡ rest')
same_front [] [] rest rest' e n = (refl, e)
same_front [] (b ∷ part') rest rest' e n = absurd cc
same_front (a ∷ part) [] rest rest' e n = absurd cc
same_front (a ∷ part) (b ∷ part') rest rest' e n =
    let t = same_front part part' rest rest' (same_tail e) (omega (arith, n)) in (ap (λ x. x ∷ part) (same_head e) ∙ ap (λ l. b ∷ l) t.0, t.1)

pub keeps_more : (text part rest : Bytes) → text ≡ part ++ rest → KeepsBefore text (length part) → AreFineSoFar part rest →
    KeepsBefore text (length part + 1)
keeps_more text part rest is before fine = record {
  size = λ part' rest' is' less. elim (cases_lt (length part') (length part)) [
    | inl shorter ↦ before.size part' rest' is' shorter
    | inr longer ↦ λ h. let t = same_front part' part rest' rest (sym is'
        ∙ is) (omega (arith, less, longer)) in fine_size part rest fine (subst PassesSize t.0 h)
  ];
  depth = λ part' rest' is' less. elim (cases_lt (length part') (length part)) [
    | inl shorter ↦ before.depth part' rest' is' shorter
    | inr longer ↦ λ h. let t = same_front part' part rest' rest (sym is' ∙ is) (omega (arith, less, longer)) in
        fine_depth part rest fine (subst (λ x. PassesDepth part x) t.1 (subst (λ x. PassesDepth x rest') t.0 h))
  ];
}

-- the fault of a text where reading stops, if no limit was passed before, and none is there
pub bad_text : (text : Bytes) (k : ℕ) → IsStopOf text k → ((part rest : Bytes) → text ≡ part ++ rest → k ≡ length part → AreFineSoFar part rest) →
    KeepsBefore text k → IsBadText text k
bad_text text k stop fine before =
    record {
      part = stop.part;
      rest = stop.rest;
      is = stop.is;
      at = stop.at;
      begins = stop.begins;
      stops = stop.stops;
      before = subst (λ m. KeepsBefore text (m + 1)) (sym stop.at)
          (keeps_more text stop.part stop.rest stop.is (subst (KeepsBefore text) stop.at before) (fine stop.part stop.rest stop.is stop.at));
    }

pub too_large : (text part rest : Bytes) → text ≡ part ++ rest → PassesSize part → KeepsBefore text (length part) → IsTooLargeText text
too_large text part rest is passes before = record { part = part; rest = rest; is = is; passes = passes; before = before }

pub too_deep : (text part rest : Bytes) → text ≡ part ++ rest → PassesDepth part rest → ¬ PassesSize part → KeepsBefore text (length part) →
    IsTooDeepText text
too_deep text part rest is passes small before = record { part = part; rest = rest; is = is; passes = passes; small = small; before = before }

-- the limits of a derivation whose text has them
pub within_limits : {names : List Bytes} (d : PlainDerivation) (ps : List Piece) → SpellsDerivation names d ps [] → IsFine ps finish → KeepsLimits d
within_limits d ps s fine =
    let t = nodes-words s in record {
      few = omega (arith, t.0, fine.few);
      shallow = omega (arith, t.1, fine.shallow);
      types = omega
          (arith, deepest-typed s, fine.types);
    }
