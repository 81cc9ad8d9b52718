-- What the pieces of a text spell with one piece more.
use Rattle.std.proofs.Common.{◌≡◌, ℕ, ◌<◌, ◌≤◌, ◌^◌, Bool, false, ◌&&◌, IsTrue, List, [], ◌∷◌, ◌++◌, codes, refl, ap, sym, ◌∙◌, subst, append_assoc}
use Rattle.std.specs.Prelude.{Some, None}
use Rattle.std.proofs.lemmas.List.{append-nil}
use Rattle.fy_base.specs.Outside.{Bytes}
use Rattle.fy_lexer.specs.Tokens.{HasAdded}
use Rattle.fy_lexer.proofs.NamesLemmas.{HasAdded-then, HasAdded-none}
use Rattle.fy_read.specs.declared.read.Awaited.{Awaited}
use Rattle.fy_read.specs.declared.read.Awaited.TheVariants as awaited
use Rattle.fy_derive.specs.Derivations.{PlainDerivation, by_ns, rule, no_derivations}
use Rattle.fy_read.specs.Halfway.{PartNext, PartLast, NodesRead, WordLast, InBrackets, Stands, Holds}
use Rattle.fy_read.specs.Opened.{PlainOpen, in_sub, in_alt, in_left, in_right, in_meet, in_rule, PlainNodes, with_node, given, AreWaiting}
use Rattle.fy_read.specs.OpenTypes.{whole_type, PlainLevels, no_levels}
use Rattle.fy_read.specs.Spelling.{Piece, word, number, sign, open_bracket, close_bracket, is_blank, is_loose, spelling, AreSpelled, at_end, a_blank, a_piece, IsTextOf}
use Rattle.fy_read.proofs.MeasureLemmas.{Moves, measured_piece}
use Rattle.fy_read.proofs.ReadTypes.{next_first, whole_last}
use Rattle.fy_read.proofs.ReadNodes.{opened, read_ns, read_no_premise, read_left, read_right, read_alt, read_meet, read_rule, read_sub, read_whole}

-- a text with one piece more
pub Holds-piece : {q j : ℕ} {names later : List Bytes} {text : Bytes} {loose : Bool} {a b : Awaited} {n m : PlainNodes} {Ls Ks : PlainLevels}
    (p : Piece) →
    (loose && is_loose p) ≡ false →
    Moves q j a n Ls p b m Ks → ((ps : List Piece) → Stands names a n Ls ps → Stands later b m Ks (ps ++ p ∷ [])) →
    Holds q names text loose a n Ls → Holds j later (text ++ spelling p) (is_loose p) b m Ks
Holds-piece {text = text} p fits moves turn h = record {
  pieces = h.pieces ++ p ∷ [];
  spelled = λ qs more s.
      subst (λ bytes. AreSpelled false ((h.pieces ++ p ∷ []) ++ qs) bytes) (sym (append_assoc text (spelling p) more))
      (subst (λ ps. AreSpelled false ps (text ++ (spelling p ++ more))) (sym (append_assoc h.pieces (p ∷ []) qs))
      (h.spelled (p ∷ qs) (spelling p ++ more) (a_piece {p = p} fits s)));
  stands = turn h.pieces h.stands;
  measured = measured_piece h.pieces p moves h.measured;
}

-- with a blank, and nothing
pub Holds-blank : {q : ℕ} {names : List Bytes} {text : Bytes} {loose : Bool} {a : Awaited} {n : PlainNodes} {Ls : PlainLevels} (b : ℕ) →
    IsTrue (is_blank b) →
    Holds q names text loose a n Ls → Holds q names (text ++ b ∷ []) false a n Ls
Holds-blank {text = text} b blank h = record {
  pieces = h.pieces;
  spelled = λ qs more s.
      subst (λ bytes. AreSpelled false (h.pieces ++ qs) bytes) (sym (append_assoc text (b ∷ []) more)) (h.spelled qs (b ∷ more) (a_blank blank s));
  stands = h.stands;
  measured = h.measured;
}

-- nodes under more names
pub later_nodes : {names later : List Bytes} {n : PlainNodes} {ps : List Piece} → HasAdded names later → NodesRead names n ps → NodesRead later n ps
later_nodes {names = names} {later = later} added h =
    record { goes_on = λ last more ds d ts becomes s. h.goes_on last (HasAdded-then names later last added more) ds d ts becomes s }

-- nodes that wait
to_opened : {names : List Bytes} {ps : List Piece} (n : PlainNodes) → n.whole ≡ None → NodesRead names n ps → NodesRead names (opened n.waiting) ps
to_opened {names = names} {ps = ps} n none h = subst (λ w. NodesRead names (record { waiting = n.waiting; whole = w }) ps) none h

from_opened : {names : List Bytes} {ps : List Piece} (o : PlainOpen) (n : PlainNodes) → n.whole ≡ None → NodesRead names (opened (o ∷ n.waiting)) ps →
    NodesRead names (with_node o n) ps
from_opened {names = names} {ps = ps} o n none h = subst (λ w. NodesRead names (record { waiting = o ∷ n.waiting; whole = w }) ps) (sym none) h

pub stand_ns : {names : List Bytes} {ps : List Piece} (n : PlainNodes) → n.whole ≡ None → AreWaiting n.waiting → NodesRead names n ps →
    NodesRead names (given n.waiting by_ns) (ps ++ word (codes "ns") ∷ [])
stand_ns n none waiting h = read_ns n.waiting waiting (to_opened n none h)

pub stand_left : {names : List Bytes} {ps : List Piece} (n : PlainNodes) → n.whole ≡ None → NodesRead names n ps →
    NodesRead names (with_node in_left n) (ps ++ word (codes "left") ∷ [])
stand_left n none h = from_opened in_left n none (read_left n.waiting (to_opened n none h))

pub stand_right : {names : List Bytes} {ps : List Piece} (n : PlainNodes) → n.whole ≡ None → NodesRead names n ps →
    NodesRead names (with_node in_right n) (ps ++ word (codes "right") ∷ [])
stand_right n none h = from_opened in_right n none (read_right n.waiting (to_opened n none h))

pub stand_word : {names : List Bytes} {ps : List Piece} {n : PlainNodes} (w : Bytes) → NodesRead names n ps → WordLast names w n (ps ++ word w ∷ [])
stand_word {ps = ps} w h = record { before = ps; is = refl; nodes = h }

-- a number behind its word
behind_word : {names : List Bytes} {n m : PlainNodes} {ps : List Piece} (w : Bytes) (x : ℕ) →
    ((qs : List Piece) → NodesRead names n qs → NodesRead names m (qs ++ word w ∷ number x ∷ [])) →
    WordLast names w n ps → NodesRead names m (ps ++ number x ∷ [])
behind_word {names = names} {m = m} w x turn h =
    subst (NodesRead names m) (sym (ap (λ qs. qs ++ number x ∷ []) h.is ∙ append_assoc h.before (word w ∷ []) (number x ∷ [])))
    (turn h.before h.nodes)

pub stand_alt : {names : List Bytes} {ps : List Piece} (n : PlainNodes) (i : ℕ) → n.whole ≡ None → i < 2 ^ 32 → WordLast names (codes "alt") n ps →
    NodesRead names (with_node (in_alt i) n) (ps ++ number i ∷ [])
stand_alt n i none small h = behind_word (codes "alt") i (λ qs g. from_opened (in_alt i) n none (read_alt n.waiting i small (to_opened n none g))) h

pub stand_meet : {names : List Bytes} {ps : List Piece} (n : PlainNodes) (x : ℕ) → n.whole ≡ None → 2 ≤ x → x ≤ 65536 →
    WordLast names (codes "meet") n ps →
    NodesRead names (with_node (in_meet x no_derivations) n) (ps ++ number x ∷ [])
stand_meet n x none low high h =
    behind_word (codes "meet") x (λ qs g. from_opened (in_meet x no_derivations) n none (read_meet n.waiting x low high (to_opened n none g))) h

pub stand_rule : {names : List Bytes} {ps : List Piece} (n : PlainNodes) (x : ℕ) → n.whole ≡ None → x ≤ 65536 → WordLast names (codes "rule") n ps →
    NodesRead names (with_node (in_rule x no_derivations) n) (ps ++ number x ∷ [])
stand_rule n x none high h =
    behind_word (codes "rule") x (λ qs g. from_opened (in_rule x no_derivations) n none (read_rule n.waiting x high (to_opened n none g))) h

pub stand_no_premise : {names : List Bytes} {ps : List Piece} (n : PlainNodes) → n.whole ≡ None → AreWaiting n.waiting →
    WordLast names (codes "rule") n ps →
    NodesRead names (given n.waiting (rule no_derivations)) (ps ++ number 0 ∷ [])
stand_no_premise n none waiting h = behind_word (codes "rule") 0 (λ qs g. read_no_premise n.waiting waiting (to_opened n none g)) h

-- a type in brackets
pub stand_bracket : {names : List Bytes} {n : PlainNodes} {ps : List Piece} → WordLast names (codes "sub") n ps →
    InBrackets names n (PartNext names no_levels) (ps ++ sign open_bracket ∷ [])
stand_bracket {names = names} h = record {
  before = h.before;
  inside = [];
  is = ap (λ qs. qs ++ sign open_bracket ∷ []) h.is ∙ append_assoc h.before (word (codes "sub") ∷ []) (sign open_bracket ∷ []);
  nodes = h.nodes;
  type = next_first names;
}

pub stand_inside : {names later : List Bytes} {n : PlainNodes} {P Q : List Piece → Type 0} {ps : List Piece} (q : Piece) → HasAdded names later →
    ((us : List Piece) → P us → Q (us ++ q ∷ [])) → InBrackets names n P ps → InBrackets later n Q (ps ++ q ∷ [])
stand_inside q added turn h = record {
  before = h.before;
  inside = h.inside ++ q ∷ [];
  is = ap (λ qs. qs ++ q ∷ []) h.is ∙ append_assoc h.before (word (codes "sub") ∷ sign open_bracket ∷ h.inside) (q ∷ []);
  nodes = later_nodes added h.nodes;
  type = turn h.inside h.type;
}

pub stand_end : {names : List Bytes} {ps : List Piece} (n : PlainNodes) (Ls : PlainLevels) → n.whole ≡ None → Ls.outer ≡ [] →
    InBrackets names n (PartLast names Ls) ps →
    NodesRead names (with_node (in_sub (whole_type Ls.inner)) n) (ps ++ sign close_bracket ∷ [])
stand_end {names = names} n Ls none closed h =
    from_opened (in_sub (whole_type Ls.inner)) n none
    (subst (NodesRead names (opened (in_sub (whole_type Ls.inner) ∷ n.waiting)))
    (sym (ap (λ qs. qs ++ sign close_bracket ∷ []) h.is
    ∙ append_assoc h.before (word (codes "sub") ∷ sign open_bracket ∷ h.inside) (sign close_bracket ∷ [])))
    (read_sub n.waiting (whole_type Ls.inner) h.inside (λ later more ts. whole_last Ls closed h.type later more (sign close_bracket ∷ ts))
    (to_opened n none h.nodes)))

-- the whole
pub whole_text : {q : ℕ} {names : List Bytes} {text : Bytes} {loose : Bool} {Ls : PlainLevels} (n : PlainNodes) (d : PlainDerivation) →
    n.whole ≡ Some d →
    Holds q names text loose awaited.Node n Ls → IsTextOf names d text
whole_text {names = names} {text = text} n d whole h = record {
  pieces = h.pieces;
  derivation = read_whole n.waiting d (HasAdded-none names)
      (subst (λ w. NodesRead names (record { waiting = n.waiting; whole = w }) h.pieces) whole h.stands);
  spelled = subst (λ bytes. AreSpelled false h.pieces bytes) (append-nil text) (subst (λ ps. AreSpelled false ps (text ++ [])) (append-nil h.pieces)
      (h.spelled [] [] at_end));
}
