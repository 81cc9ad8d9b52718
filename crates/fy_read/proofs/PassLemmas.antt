-- Where a reader stops for a limit, its text passes it, and before it doesn't.
use Rattle.std.proofs.Common.{◌≡◌, ℕ, suc, ◌+◌, ◌<◌, ◌≤◌, Bool, true, false, ◌&&◌, List, [], ◌∷◌, ◌++◌, length, refl, ap, sym, ◌∙◌, subst, arith, append_assoc, length-append}
use Rattle.std.specs.Prelude.{Some, None, Result, Ok, Err, IfErr}
use Rattle.std.proofs.lemmas.List.{append-nil, length-map}
use Rattle.fy_base.specs.Outside.{Bytes}
use Rattle.fy_lexer.proofs.NamesLemmas.{HasAdded-none}
use Rattle.fy_types.specs.Types.{PlainType}
use Rattle.fy_types.specs.Words.{is_name_byte, is_name_like, is_word}
use Rattle.fy_read.specs.declared.read.Awaited.{Awaited}
use Rattle.fy_read.specs.declared.read.Awaited.TheVariants as awaited
use Rattle.fy_read.specs.declared.stop.Stop.{Stop}
use Rattle.fy_read.specs.declared.stop.Stop.TheVariants.{Misfit, TooLarge, TooDeep, OutOfMemory}
use Rattle.fy_read.specs.declared.words.NodeWord.{NodeWord}
use Rattle.fy_read.specs.Depth.{one, nest_with}
use Rattle.fy_derive.specs.Derivations.{PlainDerivation, most_nodes, most_nesting}
use Rattle.fy_read.specs.Halfway.{NodesRead, Holds}
use Rattle.fy_read.specs.Measures.{shape_of, nest_at, open_at}
use Rattle.fy_read.specs.Opened.{PlainNodes, missing, extra, needed_by, PassesCount}
use Rattle.fy_read.specs.OpenLevels.{PassesIf}
use Rattle.fy_read.specs.OpenTypes.{PlainLevels, with_inner, with_field, TakesJoint, IsFieldDeep, IsMeetDeep, IsArrowDeep}
use Rattle.fy_read.specs.Passing.{Passes, IsPlain}
use Rattle.fy_read.specs.Readers.{reached_by}
use Rattle.fy_read.specs.Refusals.{opened_from, most_open_parens, ends_loose, EndsPiece, PassesSize, PassesDepth}
use Rattle.fy_derive.specs.Limits.{most_type_nesting, KeepsLimits}
use Rattle.fy_read.specs.Shape.{first_shape, out, outs, greatest}
use Rattle.fy_read.specs.Spelling.{Piece, word, sign, Sign, open_paren, arrow, ampersand, is_loose, spelling, AreSpelled, at_end, a_piece}
use Rattle.fy_read.specs.Steps.{Reached, at, after, after_node, node_text}
use Rattle.fy_read.proofs.DepthLemmas.{node_words-outs}
use Rattle.fy_read.proofs.FineLemmas.{low_of, IsFine, leads_clear, no_size, size_passed, nodes_passed, parens_passed, types_passed, within_limits}
use Rattle.fy_read.proofs.MeasureLemmas.{leads-piece, words-piece, outs-piece, nest-piece, parens-piece, fine_of, greatest-append, around-deep, one-any, many-nesting}
use Rattle.fy_read.proofs.MoveLemmas.{node_leads, move_name}
use Rattle.fy_read.proofs.ReadNodes.{read_whole}

-- ---- the pieces with one more
ends-snoc : (ps : List Piece) (p : Piece) → ends_loose (ps ++ p ∷ []) ≡ is_loose p
ends-snoc [] p = refl
ends-snoc (q ∷ []) p = refl
ends-snoc (q ∷ r ∷ ps) p = ends-snoc (r ∷ ps) p

sign_ends : (ps : List Piece) (s : Sign) (rest : Bytes) → EndsPiece (ps ++ sign s ∷ []) rest
sign_ends ps s [] = tt
sign_ends ps s (b ∷ rest) = λ h. let e : false ≡ true = sym (ends-snoc ps (sign s)) ∙ h in absurd cc

pub word_ends : (ps : List Piece) (w : Bytes) (b : ℕ) (rest : Bytes) → EndsPiece (ps ++ word w ∷ []) (b ∷ rest) → is_name_byte b ≡ false
word_ends ps w b rest h = h (ends-snoc ps (word w))

pub spelled_all : {q : ℕ} {names : List Bytes} {text : Bytes} {l : Bool} {a : Awaited} {n : PlainNodes} {Ls : PlainLevels} →
    (h : Holds q names text l a n Ls) → AreSpelled false h.pieces text
spelled_all {text = text} h =
    subst (AreSpelled false h.pieces) (append-nil text) (subst (λ ps. AreSpelled false ps (text ++ [])) (append-nil h.pieces)
    (h.spelled [] [] at_end))

pub spelled_more : {q : ℕ} {names : List Bytes} {text : Bytes} {l : Bool} {a : Awaited} {n : PlainNodes} {Ls : PlainLevels} (p : Piece) →
    (l && is_loose p) ≡ false → (h : Holds q names text l a n Ls) → AreSpelled false (h.pieces ++ p ∷ []) (text ++ spelling p)
spelled_more {l = l} p fits h =
    h.spelled (p ∷ []) (spelling p) (subst (AreSpelled l (p ∷ [])) (append-nil (spelling p)) (a_piece {p = p} fits at_end))

size_refused : {q : ℕ} {names : List Bytes} {text : Bytes} {l : Bool} {a : Awaited} {n : PlainNodes} {Ls : PlainLevels} (p : Piece) (c : Reached) →
    (l && is_loose p) ≡ false → after (reached_by a n (length Ls.outer)) p ≡ Some c → most_nodes < q + length (out (shape_of a n) p) →
    Holds q names text l a n Ls → PassesSize (text ++ spelling p)
size_refused {text = text} p c fits e many h =
    let ps = h.pieces ++ p ∷ [] in
    let leads = leads-piece h.pieces p h.measured ∙ e in
    size_passed ps (text ++ spelling p) c (spelled_more p fits h) leads (leads_clear ps c leads)
    (omega (arith, many, node_words-outs ps, words-piece h.pieces p h.measured))

small_still : {q : ℕ} {names : List Bytes} {text : Bytes} {l : Bool} {a : Awaited} {n : PlainNodes} {Ls : PlainLevels} (p : Piece) (c : Reached) →
    (l && is_loose p) ≡ false → after (reached_by a n (length Ls.outer)) p ≡ Some c → q + length (out (shape_of a n) p) ≤ most_nodes →
    Holds q names text l a n Ls → ¬ PassesSize (text ++ spelling p)
small_still {text = text} p c fits e few h =
    let ps = h.pieces ++ p ∷ [] in
    no_size ps (text ++ spelling p) c (spelled_more p fits h) (leads-piece h.pieces p h.measured ∙ e)
    (omega (arith, few, node_words-outs ps, words-piece h.pieces p h.measured))

nodes_refused : {q : ℕ} {names : List Bytes} {text : Bytes} {l : Bool} {a : Awaited} {n : PlainNodes} {Ls : PlainLevels} (p : Piece) (c : Reached)
    (rest : Bytes) →
    (l && is_loose p) ≡ false → after (reached_by a n (length Ls.outer)) p ≡ Some c → most_nesting < greatest (out (shape_of a n) p) →
    Holds q names text l a n Ls → PassesDepth (text ++ spelling p) rest
nodes_refused {text = text} {a = a} {n = n} p c rest fits e above h =
    let ps = h.pieces ++ p ∷ [] in
    let leads = leads-piece h.pieces p h.measured ∙ e in
    nodes_passed ps (text ++ spelling p) rest c (spelled_more p fits h) leads (leads_clear ps c leads)
    (omega (arith, above, ap greatest (outs-piece h.pieces p h.measured), greatest-append (outs first_shape h.pieces) (out (shape_of a n) p)))

parens_refused : {q : ℕ} {names : List Bytes} {text : Bytes} {l : Bool} {a : Awaited} {n : PlainNodes} {Ls : PlainLevels} (p : Piece) (c : Reached)
    (rest : Bytes) →
    (l && is_loose p) ≡ false → after (reached_by a n (length Ls.outer)) p ≡ Some c → most_open_parens < opened_from (open_at a Ls) (p ∷ []) →
    Holds q names text l a n Ls → PassesDepth (text ++ spelling p) rest
parens_refused {text = text} p c rest fits e above h =
    let ps = h.pieces ++ p ∷ [] in
    let leads = leads-piece h.pieces p h.measured ∙ e in
    parens_passed ps (text ++ spelling p) rest c (spelled_more p fits h) leads (leads_clear ps c leads)
    (omega (arith, above, parens-piece h.pieces p h.measured))

types_refused : {q : ℕ} {names : List Bytes} {text : Bytes} {l : Bool} {a : Awaited} {n : PlainNodes} {Ls : PlainLevels} (p : Piece) (c : Reached)
    (rest : Bytes) →
    (l && is_loose p) ≡ false → after (reached_by a n (length Ls.outer)) p ≡ Some c → most_type_nesting < low_of c (nest_with (nest_at a Ls) p) →
    (h : Holds q names text l a n Ls) → EndsPiece (h.pieces ++ p ∷ []) rest → PassesDepth (text ++ spelling p) rest
types_refused {text = text} p c rest fits e above h ends =
    let ps = h.pieces ++ p ∷ [] in
    let leads = leads-piece h.pieces p h.measured ∙ e in
    types_passed ps (text ++ spelling p) rest c (spelled_more p fits h) leads (leads_clear ps c leads) ends
    (omega (arith, above, ap (low_of c) (nest-piece h.pieces p h.measured)))

-- ---- where the reader stops
pub node_refused : {q : ℕ} {names : List Bytes} {text : Bytes} {n : PlainNodes} {Ls : PlainLevels} (x : NodeWord) (e : Stop) → n.whole ≡ None →
    PassesCount q (length n.waiting) e → Holds q names text false awaited.Node n Ls → Passes (text ++ node_text x) e
node_refused x Misfit none h s = tt
node_refused x OutOfMemory none h s = tt
node_refused {n = n} {Ls = Ls} x TooLarge none h s =
    size_refused (word (node_text x)) (after_node (extra n.waiting) x) refl (node_leads n (length Ls.outer) x none) (omega (arith, h)) s
node_refused {n = n} {Ls = Ls} x TooDeep none h s = (
  λ rest. nodes_refused (word (node_text x)) (after_node (extra n.waiting) x) rest refl (node_leads n (length Ls.outer) x none)
      (omega (arith, h.1, length-map n.waiting missing)) s,
  small_still (word (node_text x)) (after_node (extra n.waiting) x) refl (node_leads n (length Ls.outer) x none) (omega (arith, h.0)) s,
)

pub no_sign : (l : Bool) → (l && false) ≡ false
no_sign true = refl
no_sign false = refl

pub paren_refused : {q : ℕ} {names : List Bytes} {text : Bytes} {l : Bool} {n : PlainNodes} {Ls : PlainLevels} (e : Stop) →
    PassesIf (most_open_parens ≤ length Ls.outer) e → Holds q names text l awaited.Part n Ls → Passes (text ++ 40 ∷ []) e
paren_refused Misfit h s = tt
paren_refused OutOfMemory h s = tt
paren_refused TooLarge h s = absurd h
paren_refused {l = l} {n = n} {Ls = Ls} TooDeep h s =
    let c = at (extra n.waiting) (suc (length Ls.outer)) awaited.Part in (
      λ rest. parens_refused (sign open_paren) c rest (no_sign l) refl (omega (arith, h)) s,
      small_still (sign open_paren) c (no_sign l) refl (omega (arith, s.measured.few)) s,
    )

meet_low : (n : PlainNodes) (Ls : PlainLevels) → 0 < length Ls.inner.members → IsMeetDeep Ls →
    most_type_nesting < low_of (reached_by awaited.Part n (length Ls.outer)) (nest_at awaited.Part Ls)
meet_low n Ls some deep = omega (arith, deep, around-deep Ls.outer, one_some Ls.inner.members some) where
  one_some : (As : List PlainType) → 0 < length As → one (length As) ≡ 1
  one_some [] h = absurd (omega (arith, h))
  one_some (A ∷ As) h = refl

pub ampersand_refused : {q : ℕ} {names : List Bytes} {text : Bytes} {l : Bool} {n : PlainNodes} {Ls : PlainLevels} (e : Stop) → TakesJoint Ls →
    PassesIf (IsMeetDeep Ls) e → Holds q names text l awaited.Joint n Ls → Passes (text ++ 38 ∷ []) e
ampersand_refused Misfit fit h s = tt
ampersand_refused OutOfMemory fit h s = tt
ampersand_refused TooLarge fit h s = absurd h
ampersand_refused {l = l} {n = n} {Ls = Ls} TooDeep fit h s =
    let c = reached_by awaited.Part n (length Ls.outer) in (
      λ rest. types_refused (sign ampersand) c rest (no_sign l) refl (meet_low n Ls fit.inner.some h) s (sign_ends s.pieces ampersand rest),
      small_still (sign ampersand) c (no_sign l) refl (omega (arith, s.measured.few)) s,
    )

pub arrow_refused : {q : ℕ} {names : List Bytes} {text : Bytes} {l : Bool} {n : PlainNodes} {Ls : PlainLevels} (e : Stop) →
    PassesIf (IsArrowDeep Ls) e → Holds q names text l awaited.Joint n Ls → Passes (text ++ 45 ∷ 62 ∷ []) e
arrow_refused Misfit h s = tt
arrow_refused OutOfMemory h s = tt
arrow_refused TooLarge h s = absurd h
arrow_refused {l = l} {n = n} {Ls = Ls} TooDeep h s =
    let c = reached_by awaited.Part n (length Ls.outer) in (
      λ rest. types_refused (sign arrow) c rest (no_sign l) refl (omega (arith, h, around-deep Ls.outer, many-nesting Ls.inner.members)) s
          (sign_ends s.pieces arrow rest),
      small_still (sign arrow) c (no_sign l) refl (omega (arith, s.measured.few)) s,
    )

field_low : (n : PlainNodes) (Ls : PlainLevels) → IsFieldDeep Ls →
    most_type_nesting < low_of (reached_by awaited.Colon n (length Ls.outer)) (nest_at awaited.Colon (with_inner Ls (with_field Ls.inner 0)))
field_low n Ls deep = omega (arith, deep, around-deep Ls.outer, one-any Ls.inner.members, length-append Ls.inner.fields (0 ∷ []))

-- the name of a field
pub name_refused : {q : ℕ} {names : List Bytes} {text : Bytes} {n : PlainNodes} {Ls : PlainLevels} (w rest : Bytes) → is_name_like w ≡ true →
    is_word w ≡ false → IsFieldDeep Ls → (h : Holds q names text false awaited.Part n Ls) → EndsPiece (h.pieces ++ word w ∷ []) rest →
    PassesDepth (text ++ w) rest × (¬ PassesSize (text ++ w))
name_refused {q = q} {n = n} {Ls = Ls} w rest like other deep h ends =
    let c = reached_by awaited.Colon n (length Ls.outer) in
    let t = move_name {q = q} n Ls w 0 like other in (
      types_refused (word w) c rest refl t.leads (omega (arith, field_low n Ls deep, ap (low_of c) t.nest)) h ends,
      small_still (word w) c refl t.leads (omega (arith, h.measured.few)) h,
    )

-- what stops for no limit
pub plain_passes : (part : Bytes) (e : Stop) → IsPlain e → Passes part e
plain_passes part Misfit h = tt
plain_passes part TooLarge h = absurd h
plain_passes part TooDeep h = absurd h
plain_passes part OutOfMemory h = tt

pub memory_stop : (e : Stop) → e ≡ OutOfMemory → IsPlain e
memory_stop Misfit h = tt
memory_stop TooLarge h = absurd cc
memory_stop TooDeep h = absurd cc
memory_stop OutOfMemory h = tt

pub memory_plain : {T : Type 0} (r : Result T Stop) → IfErr r (λ e. e ≡ OutOfMemory) → IfErr r IsPlain
memory_plain (Ok x) h = tt
memory_plain (Err e) h = memory_stop e h

pub on_err : {T E : Type 0} {P Q : E → Type 0} (r : Result T E) → ((e : E) → P e → Q e) → IfErr r P → IfErr r Q
on_err (Ok x) f h = tt
on_err (Err e) f h = f e h

-- the same of equal parts
pub passes_same : {a b : Bytes} (e : Stop) → a ≡ b → Passes a e → Passes b e
passes_same e same h = subst (λ t. Passes t e) same h

pub passes_with : {x y : ℕ} (e : Stop) (text : Bytes) → x ≡ y → Passes (text ++ y ∷ []) e → Passes (text ++ x ∷ []) e
passes_with e text same h = subst (λ x. Passes (text ++ x ∷ []) e) (sym same) h

pub dashed : {text : Bytes} (done : Bytes) → text ≡ done ++ 45 ∷ [] → done ++ 45 ∷ 62 ∷ [] ≡ text ++ 62 ∷ []
dashed done is = sym (ap (λ t. t ++ 62 ∷ []) is ∙ append_assoc done (45 ∷ []) (62 ∷ []))

pub holds_at : {q : ℕ} {names : List Bytes} {text : Bytes} {l : Bool} {a : Awaited} {n : PlainNodes} {Ls : PlainLevels} (b : Awaited) → a ≡ b →
    Holds q names text l a n Ls → Holds q names text l b n Ls
holds_at {q = q} {names = names} {text = text} {l = l} {n = n} {Ls = Ls} b same h = subst (λ a. Holds q names text l a n Ls) same h

-- the whole keeps the limits
pub whole_within : {q : ℕ} {names : List Bytes} {text : Bytes} {l : Bool} {a : Awaited} {n : PlainNodes} {Ls : PlainLevels} (d : PlainDerivation) →
    a ≡ awaited.Node → n.whole ≡ Some d → Holds q names text l a n Ls → KeepsLimits d
whole_within {names = names} {n = n} {Ls = Ls} d node whole h =
    let k = holds_at awaited.Node node h in
    let spells = read_whole n.waiting d (HasAdded-none names)
    (subst (λ w. NodesRead names (record { waiting = n.waiting; whole = w }) k.pieces) whole k.stands) in
    within_limits d k.pieces spells
    (subst (IsFine k.pieces) (ap (λ o. at (needed_by o n.waiting) 0 awaited.Node) whole) (fine_of {Ls = Ls} k.pieces tt k.measured))
