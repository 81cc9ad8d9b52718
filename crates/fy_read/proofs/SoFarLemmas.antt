-- What a reader has read passes no limit so far.
use Rattle.std.proofs.Common.{◌≡◌, ℕ, ◌≤◌, Bool, true, false, List, [], ◌∷◌, ◌++◌, length, refl, ap, sym, ◌∙◌, subst, arith}
use Rattle.std.specs.Prelude.{Option, Some, None}
use Rattle.std.proofs.lemmas.List.{append-nil}
use Rattle.fy_base.specs.Outside.{Bytes}
use Rattle.fy_types.specs.Words.{is_name_byte, is_name_like, is_word}
use Rattle.fy_read.specs.declared.read.Awaited.{Awaited}
use Rattle.fy_read.specs.declared.read.Awaited.TheVariants as awaited
use Rattle.fy_read.specs.declared.read.Begun as declared
use Rattle.fy_read.specs.declared.read.Begun.TheVariants as variant
use Rattle.fy_read.specs.declared.read.Reader.{Reader}
use Rattle.fy_read.specs.declared.words.TypeWord.{TypeWord}
use Rattle.fy_read.specs.Depth.{outside, typeds}
use Rattle.fy_derive.specs.Derivations.{most_nodes, most_nesting}
use Rattle.fy_read.specs.Measures.{IsMeasured}
use Rattle.fy_read.specs.Opened.{PlainNodes, nodes_of}
use Rattle.fy_read.specs.OpenLevels.{levels_of}
use Rattle.fy_read.specs.OpenTypes.{PlainLevels, TakesPart, IsFieldDeep}
use Rattle.fy_read.specs.Passing.{EndsDeep}
use Rattle.fy_read.specs.Readers.{reached_by, reached, spot_of, IsBegun, AreFit, AreSound, IsSound}
use Rattle.fy_read.specs.ReadSoFar.{IsRead, at_piece, in_word, in_number, in_dash}
use Rattle.fy_read.specs.Refusals.{node_words, open_parens, most_open_parens, EndsPiece, PassesSize, PassesDepth}
use Rattle.fy_derive.specs.Limits.{most_type_nesting}
use Rattle.fy_read.specs.Shape.{first_shape, outs, greatest}
use Rattle.fy_read.specs.Spelling.{Piece, word, number, AreSpelled}
use Rattle.fy_read.specs.Steps.{Reached, at, after, after_all, begin, steps, start, ended, ended_fit, type_word, part_type}
use Rattle.fy_read.proofs.ByteLemmas.{text_leads}
use Rattle.fy_read.proofs.DepthLemmas.{node_words-outs}
use Rattle.fy_read.proofs.EndLemmas.{nesting_word, no_type, no_word}
use Rattle.fy_read.proofs.FineLemmas.{low_of, depth_of, IsFine, AreFineSoFar}
use Rattle.fy_read.proofs.LevelLemmas.{word_joint, field_room}
use Rattle.fy_read.proofs.MeasureLemmas.{leads-piece, words-piece, outs-piece, typeds-piece, nest-piece, parens-piece, measured_piece, fine_of}
use Rattle.fy_read.proofs.MoveLemmas.{move_name, move_type}
use Rattle.fy_read.proofs.PassLemmas.{holds_at, spelled_all, spelled_more, word_ends, name_refused}
use Rattle.fy_read.proofs.PieceAnswers.{like_of, word_of, dash_ended, ended_same}
use Rattle.fy_read.proofs.ReaderAnswers.{read_word}
use Rattle.fy_read.proofs.UniqueLemmas.{unique}

-- pieces that lead there pass no limit, if the last has ended
record IsFineBy (ps : List Piece) (c : Reached) (rest : Bytes) : Type 0 where
  few : node_words ps ≤ most_nodes
  shallow : greatest (outs first_shape ps) ≤ most_nesting
  parens : open_parens ps ≤ most_open_parens
  types : EndsPiece ps rest → depth_of ps c ≤ most_type_nesting

fine_each : (part rest : Bytes) →
    ((ps : List Piece) (c : Reached) → AreSpelled false ps part → after_all (Some begin) ps ≡ Some c → IsFineBy ps c rest) →
    AreFineSoFar part rest
fine_each part rest each = record {
  few = λ ps c s leads. (each ps c s leads).few;
  shallow = λ ps c s leads. (each ps c s leads).shallow;
  parens = λ ps c s leads. (each ps c s leads).parens;
  types = λ ps c s leads ends. (each ps c s leads).types ends;
}

fine_by : (ps : List Piece) (c : Reached) (rest : Bytes) → IsFine ps c → IsFineBy ps c rest
fine_by ps c rest h = record { few = h.few; shallow = h.shallow; parens = h.parens; types = λ ends. h.types }

-- the pieces of a text that lead somewhere are these
same_pieces : (ps qs : List Piece) (c d : Reached) (part rest : Bytes) → AreSpelled false ps part → after_all (Some begin) ps ≡ Some c →
    AreSpelled false qs part → after_all (Some begin) qs ≡ Some d → IsFineBy ps c rest → IsFineBy qs d rest
same_pieces ps qs c d part rest s leads r on h =
    let same : ps ≡ qs = unique part begin c d s r refl leads on in
    let there : Some c ≡ Some d = sym leads ∙ (ap (after_all (Some begin)) same ∙ on) in
    let end : c ≡ d = cc in
    subst (λ d. IsFineBy qs d rest) end (subst (λ qs. IsFineBy qs c rest) same h)

lost_piece : {X : Type 0} {o : Option Reached} {d : Reached} → o ≡ None → o ≡ Some d → X
lost_piece none some = let e : None ≡ Some _ = sym none ∙ some in absurd cc

low-outside : (d : Reached) → low_of d outside ≡ 0
low-outside (at n k a) = refl

-- with a number
number_fine : {q : ℕ} (a : Awaited) (n : PlainNodes) (Ls : PlainLevels) (ps : List Piece) (v : ℕ) (d : Reached) (rest : Bytes) →
    after (reached_by a n (length Ls.outer)) (number v) ≡ Some d → IsMeasured q a n Ls ps → IsFineBy (ps ++ number v ∷ []) d rest
number_fine awaited.Node n Ls ps v d rest e h = lost_piece refl e
number_fine awaited.Bracket n Ls ps v d rest e h = lost_piece refl e
number_fine (awaited.Count c) n Ls ps v d rest e h =
    let p = number v in
    let qs = ps ++ p ∷ [] in
    record {
      few = omega (arith, node_words-outs qs, words-piece ps p h, h.few);
      shallow = omega (arith, ap greatest (outs-piece ps p h ∙ append-nil (outs first_shape ps)), h.shallow);
      parens = omega (arith, parens-piece ps p h);
      types = λ ends. omega (
        arith,
        ap greatest (typeds-piece ps p h ∙ append-nil (typeds outside ps)),
        h.types,
        ap (low_of d) (nest-piece ps p h),
        low-outside d,
      );
    }
number_fine awaited.Part n Ls ps v d rest e h = lost_piece refl e
number_fine awaited.Colon n Ls ps v d rest e h = lost_piece refl e
number_fine awaited.Joint n Ls ps v d rest e h = lost_piece refl e

measured_fine : {q : ℕ} {a : Awaited} {n : PlainNodes} {Ls : PlainLevels} (ps : List Piece) (c : Reached) (rest : Bytes) →
    IsMeasured q a n Ls ps → reached_by a n (length Ls.outer) ≡ c → (EndsPiece ps rest → AreFit a Ls) → IsFineBy ps c rest
measured_fine ps c rest h e fit = record {
  few = omega (arith, node_words-outs ps, h.words, h.few);
  shallow = h.shallow;
  parens = omega (arith, h.parens, h.few_open);
  types = λ ends. omega (arith, (fine_of ps (fit ends) h).types, ap (depth_of ps) e);
}

some_same : {c d : Reached} {o : Option Reached} → o ≡ Some c → o ≡ Some d → c ≡ d
some_same e f = let both : Some _ ≡ Some _ = sym e ∙ f in cc

-- with a word of a type
part_fine : {q : ℕ} (n : PlainNodes) (Ls : PlainLevels) (ps : List Piece) (w : Bytes) (d : Reached) (rest : Bytes) (t : Bool) (o : Option TypeWord) →
    is_word w ≡ t → type_word w ≡ o → is_name_like w ≡ true → TakesPart Ls →
    (EndsPiece (ps ++ word w ∷ []) rest → is_word w ≡ false → ¬ IsFieldDeep Ls) →
    after (reached_by awaited.Part n (length Ls.outer)) (word w) ≡ Some d → IsMeasured q awaited.Part n Ls ps → IsFineBy (ps ++ word w ∷ []) d rest
part_fine n Ls ps w d rest false o other known like fit room e h =
    let t = move_name n Ls w 0 like other in
    measured_fine (ps ++ word w ∷ []) d rest (measured_piece ps (word w) t h) (some_same t.leads e) (λ ends. field_room Ls 0 fit (room ends other))
part_fine n Ls ps w d rest true None one known like fit room e h = lost_piece (no_type n (length Ls.outer) w like one known) e
part_fine n Ls ps w d rest true (Some x) one known like fit room e h =
    let t = move_type n Ls w x like one known in
    measured_fine (ps ++ word w ∷ []) d rest (measured_piece ps (word w) t h) (some_same t.leads e)
    (λ ends. word_joint Ls (part_type x) (nesting_word x) fit)

word_fine : {q : ℕ} (a : Awaited) (n : PlainNodes) (Ls : PlainLevels) (ps : List Piece) (w : Bytes) (l : Bool) (d : Reached) (rest : Bytes) →
    IsBegun variant.Word a n w l → AreFit a Ls → (EndsPiece (ps ++ word w ∷ []) rest → a ≡ awaited.Part → is_word w ≡ false → ¬ IsFieldDeep Ls) →
    after (reached_by a n (length Ls.outer)) (word w) ≡ Some d → IsMeasured q a n Ls ps → IsFineBy (ps ++ word w ∷ []) d rest
word_fine awaited.Node n Ls ps w l d rest begun fit room e h =
    lost_piece (no_word awaited.Node n (length Ls.outer) w l (λ is. absurd cc) begun) e
word_fine awaited.Bracket n Ls ps w l d rest begun fit room e h = absurd begun
word_fine (awaited.Count c) n Ls ps w l d rest begun fit room e h = absurd begun
word_fine awaited.Part n Ls ps w l d rest begun fit room e h =
    part_fine n Ls ps w d rest (is_word w) (type_word w) refl refl begun fit (λ ends other. room ends refl other) e h
word_fine awaited.Colon n Ls ps w l d rest begun fit room e h = absurd begun
word_fine awaited.Joint n Ls ps w l d rest begun fit room e h = absurd begun

-- what follows doesn't end the name of a field whose part would be too deep
abbrev pub RoomBefore : Bytes → Reader → Type 0
RoomBefore [] r = ¬ EndsDeep r
RoomBefore (b ∷ rest) r = is_name_byte b ≡ false → ¬ EndsDeep r

room_here : (ps : List Piece) (w rest : Bytes) (r : Reader) → RoomBefore rest r → EndsPiece (ps ++ word w ∷ []) rest → ¬ EndsDeep r
room_here ps w [] r room ends = room
room_here ps w (b ∷ rest) r room ends = room (word_ends ps w b rest ends)

-- what was read, whatever has begun
each_fine : {names : List Bytes} {r : Reader} (text rest : Bytes) (qs : List Piece) (d : Reached) → IsSound r → IsRead names text r →
    RoomBefore rest r → AreSpelled false qs text → after_all (Some begin) qs ≡ Some d → ended (spot_of r) ≡ Some d →
    IsFineBy qs d rest
each_fine {r = r} text rest qs d sound (at_piece eb h) room s leads e =
    let c = reached r in
    same_pieces h.pieces qs c d text rest (spelled_all h) h.measured.leads s leads
    (fine_by h.pieces c rest (fine_of h.pieces sound.levels h.measured))
each_fine {r = r} text rest qs d sound (in_word eb h) room s leads e =
    let w = r.letters.items in
    let k = h.holds in
    let ps = k.pieces ++ word w ∷ [] in
    let behind = sym (ended_same w r.is_loose (reached r) variant.Word eb) ∙ e in
    let all = subst (AreSpelled false ps) (sym h.is) (spelled_more (word w) refl k) in
    let on = leads-piece k.pieces (word w) k.measured ∙ behind in
    same_pieces ps qs d d text rest all on s leads
    (word_fine r.awaited (nodes_of r.nodes) (levels_of r.levels) k.pieces w r.is_loose d rest (word_of eb sound) sound.levels
    (λ ends ea other deep. room_here k.pieces w rest r room ends (record { begun = eb; awaited = ea; other = other; deep = deep }))
    behind k.measured)
each_fine {r = r} text rest qs d sound (in_number v eb h) room s leads e =
    let w = r.letters.items in
    let k = h.holds in
    let ps = k.pieces ++ number v ∷ [] in
    let behind = sym (ended_same w r.is_loose (reached r) (variant.Number v) eb) ∙ e in
    let all = subst (AreSpelled false ps) (sym h.is) (spelled_more (number v) refl k) in
    same_pieces ps qs d d text rest all (leads-piece k.pieces (number v) k.measured ∙ behind) s leads
    (number_fine r.awaited (nodes_of r.nodes) (levels_of r.levels) k.pieces v d rest behind k.measured)
each_fine {r = r} text rest qs d sound (in_dash eb h) room s leads e = lost_piece (dash_ended r.letters.items r.is_loose (reached r) eb) e

pub fine_so_far : {names : List Bytes} {r : Reader} (text rest : Bytes) → IsSound r → IsRead names text r →
    steps (Some start) text ≡ Some (spot_of r) →
    RoomBefore rest r → AreFineSoFar text rest
fine_so_far text rest sound read led room =
    fine_each text rest (λ qs d s leads.
    let e = ap ended_fit (sym led) ∙ text_leads s begin d leads in
    each_fine text rest qs d sound read room s leads e)

-- the name of a field ends, and its part would be too deep
-- no byte of a name follows
abbrev pub IsBehindName : Bytes → Type 0
IsBehindName [] = Unit {0}
IsBehindName (b ∷ rest) = is_name_byte b ≡ false

like_at : {a : Awaited} {b : declared.Begun} {w : Bytes} {l : Bool} {n : PlainNodes} {Ls : PlainLevels} → AreSound a b w l n Ls → b ≡ variant.Word →
    a ≡ awaited.Part → is_name_like w ≡ true
like_at {w = w} {l = l} {n = n} s eb ea = like_of n w l ea (word_of eb s)

ends_behind : (ps : List Piece) (w rest : Bytes) → IsBehindName rest → EndsPiece (ps ++ word w ∷ []) rest
ends_behind ps w [] h = tt
ends_behind ps w (b ∷ rest) h = λ loose. h

pub deep_before : {names : List Bytes} {r : Reader} (text rest : Bytes) → IsSound r → IsRead names text r → EndsDeep r → IsBehindName rest →
    PassesDepth text rest × (¬ PassesSize text)
deep_before {r = r} text rest sound read deep behind =
    let h = read_word deep.begun read in
    let w = r.letters.items in
    let k = holds_at awaited.Part deep.awaited h.holds in
    let t = name_refused w rest (like_at sound deep.begun deep.awaited) deep.other deep.deep k (ends_behind k.pieces w rest behind) in
    (subst (λ text. PassesDepth text rest) (sym h.is) t.0, subst (λ text. ¬ PassesSize text) (sym h.is) t.1)
