-- The loops that cut the code.
use Rattle.std.proofs.Common.{◌≡◌, ℕ, zero, suc, ◌+◌, ◌-◌, ◌*◌, ◌<◌, ◌≤◌, ℤ, List, [], ◌∷◌, ◌++◌, length, drop, take, sym, ap, subst, ◌∙◌, arith, drop-drop, append_assoc, append-nil, inl, inr}
use Rattle.std.proofs.lemmas.List.{length-drop, length-append, drop_all, take_all}
use Rattle.std.proofs.lemmas.Bool.{cases_lt}
use Rattle.rv_insn.specs.declared.instructions.Insn.{Insn}
use Rattle.rv_guard.specs.Patterns.{instructions_of, word_count, HasHead, Setting}
use Rattle.rv_guard.specs.declared.pieces.Piece.{Piece}
use Rattle.rv_guard.specs.declared.pieces.Piece.TheVariants.{FarJump, StackCheck, NearCheck, TableCheck, Entry, ServiceCall, FaultCall, Single}
use Rattle.rv_guard.specs.Cutting.{Begins, IsCutBy, AreCut}
use Rattle.fy_audit.specs.Words.{IsFarJump, IsHeadCount}

-- the pieces up to word k, and any of the rest behind them, are those of the code
abbrev pub CutSoFar : Setting → List Insn → ℕ → List Piece → Type 0
CutSoFar setting code k pieces = (rest : List Piece) → AreCut setting (drop k code) rest → AreCut setting code (pieces ++ rest)

pub cut_none : (setting : Setting) (code : List Insn) (pieces : List Piece) → pieces ≡ [] → CutSoFar setting code 0 pieces
cut_none setting code pieces e rest h = let P : List Piece → Type 0 = λ xs. AreCut setting code (xs ++ rest) in subst P (sym e) h

pub cut_more : (setting : Setting) (code : List Insn) (k : ℕ) (pieces now : List Piece) (piece : Piece) → CutSoFar setting code k pieces → Begins piece (drop k code) → IsCutBy setting (drop k code) piece
    → now ≡ pieces ++ piece ∷ [] → CutSoFar setting code (k + word_count piece) now
cut_more setting code k pieces now piece so_far begins by e rest h =
    let P : List Piece → Type 0 = AreCut setting code in
    let Q : List Insn → Type 0 = λ xs. AreCut setting xs rest in
    subst P (sym (ap (λ xs. xs ++ rest) e ∙ append_assoc pieces (piece ∷ []) rest))
    (so_far (piece ∷ rest) (drop (word_count piece) (drop k code), begins, by, subst Q (sym (drop-drop (word_count piece) k code)) h))

pub cut_all : (setting : Setting) (code : List Insn) (k : ℕ) (pieces : List Piece) → length code ≤ k → CutSoFar setting code k pieces → AreCut setting code pieces
cut_all setting code k pieces past so_far = let P : List Piece → Type 0 = AreCut setting code in subst P (append-nil pieces) (so_far [] (drop_all k code past))

-- a piece ends within the code
pub piece_within : (code : List Insn) (k : ℕ) (piece : Piece) → k < length code → Begins piece (drop k code) → k + word_count piece ≤ length code
piece_within code k piece below h =
    omega (arith, ap length h, length-append (instructions_of piece) (drop (word_count piece) (drop k code)), length-drop k code, length-drop (word_count piece) (drop k code))

pub some_size : (piece : Piece) → 1 ≤ word_count piece
some_size (Single insn) = omega arith
some_size (FarJump a b c) = omega arith
some_size (StackCheck a b c) = omega arith
some_size (NearCheck a c) = omega arith
some_size (TableCheck a b c) = omega arith
some_size (Entry a b c) = omega arith
some_size (ServiceCall a) = omega arith
some_size (FaultCall a b c) = omega arith

-- a slice to the end
pub sliced : (xs : List Insn) (i n : ℕ) → n ≡ length xs - i → take n (drop i xs) ≡ drop i xs
sliced xs i n e = take_all n (drop i xs) (omega (arith, e, length-drop i xs))

-- far jumps at the head
pub record HeadSoFar (heads : ℕ) (code : List Insn) : Type 0 where
  pub within : 2 * heads ≤ length code
  pub down : (g : ℕ) → HasHead (heads + g) code → HasHead g (drop (2 * heads) code)
  pub up : (g : ℕ) → HasHead g (drop (2 * heads) code) → HasHead (heads + g) code

pub head_none : (code : List Insn) → HeadSoFar 0 code
head_none code = record { within = omega arith; down = λ g h. subst (λ n. HasHead n code) (omega arith) h; up = λ g h. subst (λ n. HasHead n code) (omega arith) h }

pub head_more : (heads : ℕ) (code : List Insn) (piece : Piece) → HeadSoFar heads code → IsFarJump piece → Begins piece (drop (2 * heads) code) → HeadSoFar (heads + 1) code
head_more heads code (FarJump a b l) h far begins =
    let two : 2 * heads + 2 ≡ 2 * (heads + 1) = omega arith in
    let next : drop 2 (drop (2 * heads) code) ≡ drop (2 * (heads + 1)) code = drop-drop 2 (2 * heads) code ∙ ap (λ n. drop n code) two in
    record {
      within = omega (arith, ap length begins, length-append (instructions_of (FarJump a b l)) (drop 2 (drop (2 * heads) code)), length-drop (2 * heads) code);
      down = λ g k.
          let P : ℕ → Type 0 = λ n. HasHead n code in
          let e : heads + 1 + g ≡ heads + suc g = omega arith in
          let q = h.down (suc g) (subst P e k) in
          let Q : List Insn → Type 0 = HasHead g in
          subst Q (sym (ap (drop 2) q.4) ∙ next) q.5;
      up = λ g k.
          let P : ℕ → Type 0 = λ n. HasHead n code in
          let e : heads + suc g ≡ heads + 1 + g = omega arith in
          let Q : List Insn → Type 0 = HasHead g in
          subst P e (h.up (suc g) (a, b, l, drop 2 (drop (2 * heads) code), begins, subst Q (sym next) k));
    }
head_more heads code (StackCheck a b l) h far begins = absurd far
head_more heads code (NearCheck a l) h far begins = absurd far
head_more heads code (TableCheck a b l) h far begins = absurd far
head_more heads code (Entry a b l) h far begins = absurd far
head_more heads code (ServiceCall a) h far begins = absurd far
head_more heads code (FaultCall a b l) h far begins = absurd far
head_more heads code (Single a) h far begins = absurd far

fewer : (g n : ℕ) (code : List Insn) → HasHead (g + n) code → HasHead g code
fewer zero n code h = tt
fewer (suc g) n code h =
    let e : suc g + n ≡ suc (g + n) = omega arith in
    let P : ℕ → Type 0 = λ m. HasHead m code in
    let q = subst P e h in
    (q.0, q.1, q.2, q.3, q.4, fewer g n q.3 q.5)

pub head_stop : (heads : ℕ) (code : List Insn) → HeadSoFar heads code → ((rd high : ℕ) (low : ℤ) → ¬ Begins (FarJump rd high low) (drop (2 * heads) code)) → IsHeadCount heads code
head_stop heads code h none = record {
  fewer = λ g below.
      let e : heads + 0 ≡ g + (heads - g) = omega arith in
      let P : ℕ → Type 0 = λ m. HasHead m code in
      fewer g (heads - g) code (subst P e (h.up 0 tt));
  most = λ g k. elim (cases_lt heads g) [
    | inl above ↦
        let e : g ≡ heads + suc (g - heads - 1) = omega arith in
        let P : ℕ → Type 0 = λ m. HasHead m code in
        let q = h.down (suc (g - heads - 1)) (subst P e k) in
        absurd (none q.0 q.1 q.2 (q.4 ∙ ap (λ r. instructions_of (FarJump q.0 q.1 q.2) ++ r) (sym (ap (drop 2) q.4))))
    | inr below ↦ below
  ];
}

pub no_begin : (code : List Insn) (rd high : ℕ) (low : ℤ) → code ≡ [] → ¬ Begins (FarJump rd high low) code
no_begin code rd high low e f = cc
