-- The place where reading stops is that of the first bad token.
use Rattle.std.proofs.Common.{List, [], ap, append_assoc, arith, inl, inr, refl, subst, suc, sym, ℕ, ◌++◌, ◌+◌, ◌∙◌, ◌∷◌, ◌≡◌, ◌≤◌}
use Rattle.std.proofs.lemmas.List.{append_cancel_right}
use Rattle.std.specs.Prelude.{Err, Ok, ◌≢◌}
use Rattle.fy_base.specs.declared.data.Place.{Place}
use Rattle.fy_lexer.specs.declared.token.Token.{Token}
use Rattle.fy_lexer.specs.declared.token.TokenKind.TheVariants as kind
use Rattle.fy_syntax.specs.Nesting.{nesting}
use Rattle.fy_syntax.specs.Reader.{Fault, Read, kind_at, read_phrase}
use Rattle.fy_syntax.specs.Signs.{Level, token}
use Rattle.fy_syntax.specs.Spells.{IsProgram}
use Rattle.fy_syntax.specs.Trees.{Tree}
use Rattle.fy_syntax.proofs.Complete.{complete}
use Rattle.fy_places.specs.Begins.{Begins, BeginsWithin, IsDepthFault, IsSyntaxFault, kinds}
use Rattle.fy_places.proofs.Alike.{AnswersAs, SameKinds, same_first_kind}
use Rattle.fy_places.proofs.Beginnings.{agrees_to, common_beginning, kinds-append}
use Rattle.fy_places.proofs.Completing.{CompletesBefore, CompletesThrough, IsCompletable, Language, SameBefore, SameThrough}
use Rattle.fy_places.proofs.Fresh.{nowhere}
use Rattle.fy_places.proofs.PhrasesCompleted.{read_phrase_reads}
use Rattle.fy_places.proofs.PhrasesFollow.{read_phrase_follows}
use Rattle.fy_places.proofs.Pieces.{Piece, SpellsPiece}
use Rattle.fy_places.proofs.TypesFollow.{Allows}

abbrev IsPhrase : Language
IsPhrase = SpellsPiece (Piece.phrase Level.phrase)

abbrev ended : Place → List Token
ended at = token kind.End at ∷ []

-- ---- the tokens before the one at which reading stops begin a program

phrase_begins : (depth : ℕ) (part after whole : List Token) → whole ≡ part ++ after → IsPhrase depth whole (ended nowhere) → BeginsWithin (suc depth) part
phrase_begins depth part after whole e (SpellsPiece.a_phrase {t = t} x h) = record {
  begins = record { program = t; whole = whole; more = kinds after; spelled = (nowhere, x); is = ap kinds e ∙ kinds-append part after };
  within = h;
}

completed_part : (depth : ℕ) (bad tokens : List Token) → CompletesBefore IsPhrase depth bad tokens → (part : List Token) × (tokens ≡ part ++ bad)
completed_part depth bad tokens completes = let (after, whole, same, s) = completes [] in let h = common_beginning same in (h.part, h.left)

completed_begins : (depth : ℕ) (bad tokens : List Token) → CompletesBefore IsPhrase depth bad tokens → (part : List Token) → tokens ≡ part ++ bad → BeginsWithin (suc depth) part
completed_begins depth bad tokens completes part e =
    let (after, whole, same, s) = completes (ended nowhere) in
    let h = common_beginning same in
    phrase_begins depth part after whole (subst (λ (p : List Token). whole ≡ p ++ after) (append_cancel_right h.part part bad (sym h.left ∙ e)) h.right) s

behind_bad : {after stop tokens whole : List Token} (bad : Token) (rest : List Token) → SameThrough after stop tokens whole → stop ≡ bad ∷ rest → SameBefore rest after tokens whole
behind_bad {after = after} {tokens = tokens} {whole = whole} bad rest (SameThrough.through {rest = v} x) e = let h : v ≡ rest = cc in subst (λ v. SameBefore v after tokens whole) h x

-- and those up to it do where it can be completed too
through_begins : (depth : ℕ) (bad : Token) (rest tokens : List Token) → CompletesThrough IsPhrase depth (bad ∷ rest) tokens → (part : List Token) → tokens ≡ part ++ bad ∷ rest → BeginsWithin (suc depth) (part ++ bad ∷ [])
through_begins depth bad rest tokens completes part e =
    let (after, whole, same, s) = completes (ended nowhere) in
    let h = common_beginning (behind_bad bad rest same refl) in
    let k : h.part ++ rest ≡ (part ++ bad ∷ []) ++ rest = sym h.left ∙ e ∙ sym (append_assoc part (bad ∷ []) rest) in
    phrase_begins depth (part ++ bad ∷ []) after whole (subst (λ (p : List Token). whole ≡ p ++ after) (append_cancel_right h.part (part ++ bad ∷ []) rest k) h.right) s

-- ---- reading stops at the bad token in each list that begins with the tokens up to it, so none of these is a program

-- a program is read whole
program_read : (tree : Tree) (whole : List Token) (depth : ℕ) (s : IsProgram tree whole) → nesting tree ≤ suc depth → read_phrase depth whole ≡ Ok (tree, ended s.0)
program_read tree whole depth s h = complete depth s.1 h (omega arith)

-- no list with the same kinds up to the bad token is read whole
abbrev NoneRead : (rest tokens : List Token) → ℕ → Type 0
NoneRead rest tokens depth = (other_rest whole : List Token) (tree : Tree) (at : Place) → SameKinds rest other_rest tokens whole → read_phrase depth whole ≡ Ok (tree, ended at) → ⊥

wrong_none : (excuse : Type 0) (depth deeper : ℕ) → Allows excuse depth deeper → (bad : Token) (rest tokens : List Token) → read_phrase depth tokens ≡ Err (Fault.wrong (bad ∷ rest)) → NoneRead rest tokens deeper
wrong_none excuse depth deeper allows bad rest tokens e other_rest whole tree at same f =
    go (subst (λ x. AnswersAs rest other_rest excuse x (read_phrase deeper whole)) e ((read_phrase_follows excuse depth deeper allows).same rest other_rest tokens whole same))
  where
    go : AnswersAs rest other_rest excuse (Err (Fault.wrong (bad ∷ rest))) (read_phrase deeper whole) → ⊥
    go (inl le) = omega arith
    go (inr (there, b, g)) = (let k = sym f ∙ g in cc)

deep_none : (excuse : Type 0) (depth deeper : ℕ) → Allows excuse depth deeper → (excuse → ⊥) → (bad : Token) (rest tokens : List Token) → read_phrase depth tokens ≡ Err (Fault.deep (bad ∷ rest)) → NoneRead rest tokens deeper
deep_none excuse depth deeper allows refuse bad rest tokens e other_rest whole tree at same f =
    go (subst (λ x. AnswersAs rest other_rest excuse x (read_phrase deeper whole)) e ((read_phrase_follows excuse depth deeper allows).same rest other_rest tokens whole same))
  where
    go : AnswersAs rest other_rest excuse (Err (Fault.deep (bad ∷ rest))) (read_phrase deeper whole) → ⊥
    go (inl le) = omega arith
    go (inr (inl x)) = refuse x
    go (inr (inr (there, b, g))) = (let k = sym f ∙ g in cc)

left_none : (excuse : Type 0) (depth deeper : ℕ) → Allows excuse depth deeper → (bad : Token) (rest tokens : List Token) (other : Tree) → read_phrase depth tokens ≡ Ok (other, bad ∷ rest) → bad.kind ≢ kind.End →
    NoneRead rest tokens deeper
left_none excuse depth deeper allows bad rest tokens other e no_end other_rest whole tree at same f =
    go (subst (λ x. AnswersAs rest other_rest excuse x (read_phrase deeper whole)) e ((read_phrase_follows excuse depth deeper allows).same rest other_rest tokens whole same))
  where
    go : AnswersAs rest other_rest excuse (Ok (other, bad ∷ rest)) (read_phrase deeper whole) → ⊥
    go (inl le) = omega arith
    go (inr (b, there, c, g)) =
        let k : Path (Read Tree) (Ok (tree, ended at)) (Ok (b, there)) = sym f ∙ g in
        let s : Path (Tree × List Token) (tree, ended at) (b, there) = cc in
        let j : Path (List Token) (ended at) there = ap (λ (z : Tree × List Token). z.1) s in no_end (sym (same_first_kind c) ∙ ap kind_at (sym j))

-- so no program begins with the tokens up to it, within the nesting or at all
none_within : (depth : ℕ) (before : List Token) (bad : Token) (rest tokens : List Token) → tokens ≡ before ++ bad ∷ rest → NoneRead rest tokens depth → ¬ BeginsWithin (suc depth) (before ++ bad ∷ [])
none_within depth before bad rest tokens e refuse w =
    let b = w.begins in
    let m = agrees_to before bad rest b.whole b.more b.is in
    refuse m.other_rest b.whole b.program b.spelled.0 (subst (λ l. SameKinds rest m.other_rest l b.whole) (sym e) m.at) (program_read b.program b.whole depth b.spelled w.within)

none_begins : (depth : ℕ) (before : List Token) (bad : Token) (rest tokens : List Token) → tokens ≡ before ++ bad ∷ rest → ((deeper : ℕ) → depth ≤ deeper → NoneRead rest tokens deeper) → ¬ Begins (before ++ bad ∷ [])
none_begins depth before bad rest tokens e refuse b =
    none_within (depth + nesting b.program) before bad rest tokens e (refuse (depth + nesting b.program) (omega arith)) (record { begins = b; within = omega arith })

-- ---- the three ends of reading

syntax_fault : (depth : ℕ) (bad : Token) (rest tokens : List Token) → CompletesBefore IsPhrase depth (bad ∷ rest) tokens → ((deeper : ℕ) → depth ≤ deeper → NoneRead rest tokens deeper) → IsSyntaxFault (suc depth) tokens bad.place
syntax_fault depth bad rest tokens completes refuse =
    let (part, is) = completed_part depth (bad ∷ rest) tokens completes in
    record {
      before = part;
      bad = bad;
      at = refl;
      first = record {
        after = rest;
        is = is;
        begun = completed_begins depth (bad ∷ rest) tokens completes part is;
        none = λ w. none_begins depth part bad rest tokens is refuse w.begins;
      };
      none_deeper = none_begins depth part bad rest tokens is refuse;
    }

-- a token can't follow
pub wrong_exact : (depth : ℕ) (tokens rest : List Token) (bad : Token) → read_phrase depth tokens ≡ Err (Fault.wrong (bad ∷ rest)) → IsSyntaxFault (suc depth) tokens bad.place
wrong_exact depth tokens rest bad e =
    syntax_fault depth bad rest tokens (subst (λ x. IsCompletable IsPhrase depth tokens x) e ((read_phrase_reads depth).completable tokens))
    (λ deeper le. wrong_none (Unit {0}) depth deeper (inr (tt, le)) bad rest tokens e)

-- a phrase is read, and what is left isn't the end
pub left_exact : (depth : ℕ) (tokens rest : List Token) (bad : Token) (tree : Tree) → read_phrase depth tokens ≡ Ok (tree, bad ∷ rest) → bad.kind ≢ kind.End → IsSyntaxFault (suc depth) tokens bad.place
left_exact depth tokens rest bad tree e no_end =
    let g : IsCompletable IsPhrase depth tokens (Ok (tree, bad ∷ rest)) = subst (λ x. IsCompletable IsPhrase depth tokens x) e ((read_phrase_reads depth).completable tokens) in
    syntax_fault depth bad rest tokens (λ later. let (whole, a, s) = g later in (later, whole, a, s))
    (λ deeper le. left_none (Unit {0}) depth deeper (inr (tt, le)) bad rest tokens tree e no_end)

-- a token nests too deep
pub deep_exact : (depth : ℕ) (tokens rest : List Token) (bad : Token) → read_phrase depth tokens ≡ Err (Fault.deep (bad ∷ rest)) → IsDepthFault (suc depth) tokens bad.place
deep_exact depth tokens rest bad e =
    let g : IsCompletable {A = Tree} IsPhrase depth tokens (Err (Fault.deep (bad ∷ rest))) = subst (λ x. IsCompletable IsPhrase depth tokens x) e ((read_phrase_reads depth).completable tokens) in
    let (part, is) = completed_part depth (bad ∷ rest) tokens g.0 in
    record {
      before = part;
      bad = bad;
      at = refl;
      first = record {
        after = rest;
        is = is;
        begun = completed_begins depth (bad ∷ rest) tokens g.0 part is;
        none = none_within depth part bad rest tokens is (deep_none ⊥ depth depth (inl refl) (λ x. x) bad rest tokens e);
      };
      deeper = (through_begins (suc depth) bad rest tokens g.1 part is).begins;
    }
