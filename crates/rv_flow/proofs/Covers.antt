-- Windows that cover what the discipline counts, and how pieces change them.
use Rattle.std.proofs.Common.{◌≡◌, ℕ, ◌-◌, ◌*◌, ◌/◌, ◌%◌, ◌<◌, ℤ, pos, negsuc, ◌-ℤ◌, ◌≤ℤ◌, Bool, true, false, not, ◌&&◌, nat_eq, if◌then◌else◌, List, [], ◌∷◌, ◌++◌, arith, refl, sym, ap, ◌∙◌, subst, inl, inr}
use Rattle.std.proofs.lemmas.Bool.{eq-eqb, eqb-true}
use Rattle.std.proofs.lemmas.Int.{ints}
use Rattle.rv_insn.specs.declared.instructions.ImmOp.{ImmOp}
use Rattle.rv_insn.specs.declared.instructions.ImmOp.TheVariants.{Addi}
use Rattle.rv_insn.specs.declared.instructions.Insn.TheVariants.{Imm}
use Rattle.rv_guard.specs.declared.pieces.Piece.{Piece}
use Rattle.rv_guard.specs.declared.pieces.Piece.TheVariants.{Single}
use Rattle.rv_guard.specs.declared.pieces.Window.{Window}
use Rattle.rv_guard.specs.declared.pieces.Window.TheVariants.{InStack, InTable}
use Rattle.rv_guard.specs.Windows.{is_ended, kept_windows, given_windows, moved_windows, windows_behind, HasWindow, CoversStack}
use Rattle.rv_word.specs.declared.micros.Register.{Register}
use Rattle.rv_word.specs.declared.micros.Register.TheVariants.{Zero, Frame, Context, Top, Datum, First, Second, Third}
use Rattle.rv_word.specs.Word.{Named, get, set, zeros}
use Rattle.rv_word.specs.Discipline.{is_zero, moved_window, imm_window}
use Rattle.rv_flow.specs.Lowering.{number_of}
use Rattle.rv_flow.proofs.Numbered.{same_or_not, set_other}

-- by the window, so many words from a register on lie in the stack
abbrev pub Spans : ℕ → ℕ → Window → Type 0
Spans n count (InStack q from to) = (q ≡ n) × (from ≤ℤ pos 0) × (pos (8 * count) ≤ℤ to)
Spans n count (InTable q) = ⊥

-- each register has a window of at least as many words as the discipline counts
pub record Covers (windows : List Window) (d : Named) : Type 0 where
  pub each : (q : Register) → 0 < get d q → HasWindow (Spans (number_of q) (get d q)) windows

-- but one
pub record CoversOthers (windows : List Window) (d : Named) (r : Register) : Type 0 where
  pub each : (q : Register) → nat_eq (number_of r) (number_of q) ≡ false → 0 < get d q → HasWindow (Spans (number_of q) (get d q)) windows

nothing_of : {X : Type 0} → 0 < 0 → X
nothing_of h = absurd (omega arith)

none_of : (q : Register) → 0 < get zeros q → ⊥
none_of Zero h = nothing_of h
none_of Frame h = nothing_of h
none_of Context h = nothing_of h
none_of Top h = nothing_of h
none_of Datum h = nothing_of h
none_of First h = nothing_of h
none_of Second h = nothing_of h
none_of Third h = nothing_of h

pub covers_none : (windows : List Window) → Covers windows zeros
covers_none windows = record { each = λ q h. absurd (none_of q h) }

pub covers_others : (windows : List Window) (d : Named) (r : Register) → Covers windows d → CoversOthers windows d r
covers_others windows d r h = record { each = λ q other some. h.each q some }

-- ---- windows of lists

has_left : (Is : Window → Type 0) (xs ys : List Window) → HasWindow Is xs → HasWindow Is (xs ++ ys)
has_left Is [] ys h = absurd h
has_left Is (x ∷ xs) ys (inl h) = inl h
has_left Is (x ∷ xs) ys (inr h) = inr (has_left Is xs ys h)

has_right : (Is : Window → Type 0) (xs ys : List Window) → HasWindow Is ys → HasWindow Is (xs ++ ys)
has_right Is [] ys h = h
has_right Is (x ∷ xs) ys h = inr (has_right Is xs ys h)

kept_first : (piece : Piece) (n count q : ℕ) (from to : ℤ) (windows : List Window) → is_ended n piece ≡ false → Spans n count (InStack q from to)
    → HasWindow (Spans n count) (kept_windows piece (InStack q from to ∷ windows))
kept_first piece n count q from to windows stays h =
    let e : is_ended q piece ≡ false = ap (λ (r : ℕ). is_ended r piece) h.0 ∙ stays in
    let P : Bool → Type 0 = λ b. HasWindow (Spans n count) (if b then kept_windows piece windows else InStack q from to ∷ kept_windows piece windows) in
    subst P (sym e) (inl h)

kept_later : (Is : Window → Type 0) (b : Bool) (window : Window) (windows : List Window) → HasWindow Is windows → HasWindow Is (if b then windows else window ∷ windows)
kept_later Is true window windows h = h
kept_later Is false window windows h = inr h

-- the window of a register that a piece doesn't end is kept
kept_span : (piece : Piece) (n count : ℕ) (windows : List Window) → is_ended n piece ≡ false → HasWindow (Spans n count) windows → HasWindow (Spans n count) (kept_windows piece windows)
kept_span piece n count [] stays h = h
kept_span piece n count (InStack q from to ∷ windows) stays (inl h) = kept_first piece n count q from to windows stays h
kept_span piece n count (InStack q from to ∷ windows) stays (inr h) = kept_later (Spans n count) (is_ended q piece) (InStack q from to) (kept_windows piece windows) (kept_span piece n count windows stays h)
kept_span piece n count (InTable q ∷ windows) stays (inl h) = absurd h
kept_span piece n count (InTable q ∷ windows) stays (inr h) = kept_later (Spans n count) (is_ended q piece) (InTable q) (kept_windows piece windows) (kept_span piece n count windows stays h)

pub span_behind : (piece : Piece) (n count : ℕ) (windows : List Window) → is_ended n piece ≡ false → HasWindow (Spans n count) windows → HasWindow (Spans n count) (windows_behind piece windows)
span_behind piece n count windows stays h = has_right (Spans n count) (given_windows piece windows) (kept_windows piece windows) (kept_span piece n count windows stays h)

-- ---- pieces that end no window of a register, and those that write one

named_when : (d : Named) (q : Register) → 0 < get d q → not (is_zero q) ≡ true
named_when d Zero h = nothing_of h
named_when d q h = refl

-- what a piece does to the windows of all registers
abbrev pub EndsNone : Piece → Type 0
EndsNone piece = (q : Register) → not (is_zero q) ≡ true → is_ended (number_of q) piece ≡ false

abbrev pub EndsOnly : Register → Piece → Type 0
EndsOnly r piece = (q : Register) → not (is_zero q) ≡ true → nat_eq (number_of r) (number_of q) ≡ false → is_ended (number_of q) piece ≡ false

pub covers_behind : (piece : Piece) (windows : List Window) (d : Named) → EndsNone piece → Covers windows d → Covers (windows_behind piece windows) d
covers_behind piece windows d ends h = record { each = λ q some. span_behind piece (number_of q) (get d q) windows (ends q (named_when d q some)) (h.each q some) }

pub others_behind : (piece : Piece) (windows : List Window) (d : Named) (r : Register) → EndsOnly r piece → CoversOthers windows d r → CoversOthers (windows_behind piece windows) d r
others_behind piece windows d r ends h = record { each = λ q other some. span_behind piece (number_of q) (get d q) windows (ends q (named_when d q some) other) (h.each q other some) }

-- a register that is written has as many words as its new window, and Zero none
written_span : (windows : List Window) (d : Named) (r : Register) (count : ℕ) → (not (is_zero r) ≡ true → 0 < count → HasWindow (Spans (number_of r) count) windows)
    → 0 < get (set d r count) r → HasWindow (Spans (number_of r) (get (set d r count) r)) windows
written_span windows d Zero count f h = nothing_of h
written_span windows d Frame count f h = f refl h
written_span windows d Context count f h = f refl h
written_span windows d Top count f h = f refl h
written_span windows d Datum count f h = f refl h
written_span windows d First count f h = f refl h
written_span windows d Second count f h = f refl h
written_span windows d Third count f h = f refl h

pub covers_set : (windows : List Window) (d : Named) (r : Register) (count : ℕ) → CoversOthers windows d r → (not (is_zero r) ≡ true → 0 < count → HasWindow (Spans (number_of r) count) windows)
    → Covers windows (set d r count)
covers_set windows d r count h f = record {
  each = λ q some. elim (same_or_not r q) [
    | inl same ↦
        let P : Register → Type 0 = λ x. 0 < get (set d r count) x → HasWindow (Spans (number_of x) (get (set d r count) x)) windows in
        (subst P same (written_span windows d r count f)) some
    | inr other ↦
        let is : get (set d r count) q ≡ get d q = set_other d r q count other in
        subst (λ (c : ℕ). HasWindow (Spans (number_of q) c) windows) (sym is) (h.each q other (subst (λ (c : ℕ). 0 < c) is some))
  ];
}

pub covers_cleared : (windows : List Window) (d : Named) (r : Register) → CoversOthers windows d r → Covers windows (set d r 0)
covers_cleared windows d r h = covers_set windows d r 0 h (λ named some. nothing_of some)

-- ---- words under a window

-- a word below its end
pub span_covers : (n count k : ℕ) (windows : List Window) → k < count → HasWindow (Spans n count) windows → HasWindow (CoversStack n (pos (8 * k)) 8) windows
span_covers n count k [] below h = h
span_covers n count k (InStack q from to ∷ windows) below (inl h) =
    let low : from ≤ℤ pos 0 = h.1 in
    let high : pos (8 * count) ≤ℤ to = h.2 in
    inl (h.0, omega (arith, ints), omega (arith, ints))
span_covers n count k (InStack q from to ∷ windows) below (inr h) = inr (span_covers n count k windows below h)
span_covers n count k (InTable q ∷ windows) below (inl h) = absurd h
span_covers n count k (InTable q ∷ windows) below (inr h) = inr (span_covers n count k windows below h)

-- `addi` moves it
moved_low : (from : ℤ) (by : ℕ) → from ≤ℤ pos 0 → (from -ℤ pos by) ≤ℤ pos 0
moved_low from by h = omega (arith, ints)

moved_high : (to : ℤ) (by count : ℕ) → by % 8 ≡ 0 → 0 < count - by / 8 → pos (8 * count) ≤ℤ to → pos (8 * (count - by / 8)) ≤ℤ (to -ℤ pos by)
moved_high to by count even some h = omega (arith, ints)

moved_first : (a n count by q : ℕ) (from to : ℤ) (windows : List Window) → by % 8 ≡ 0 → 0 < count - by / 8 → Spans n count (InStack q from to)
    → HasWindow (Spans a (count - by / 8)) (moved_windows a n (pos by) (InStack q from to ∷ windows))
moved_first a n count by q from to windows even some h =
    let rest : List Window = moved_windows a n (pos by) windows in
    let P : Bool → Type 0 = λ b. HasWindow (Spans a (count - by / 8)) (if b then InStack a (from -ℤ pos by) (to -ℤ pos by) ∷ rest else rest) in
    subst P (sym (eq-eqb q n h.0)) (inl (refl, moved_low from by h.1, moved_high to by count even some h.2))

moved_later : (Is : Window → Type 0) (b : Bool) (window : Window) (windows : List Window) → HasWindow Is windows → HasWindow Is (if b then window ∷ windows else windows)
moved_later Is true window windows h = inr h
moved_later Is false window windows h = h

moved_span : (a n count by : ℕ) (windows : List Window) → by % 8 ≡ 0 → 0 < count - by / 8 → HasWindow (Spans n count) windows → HasWindow (Spans a (count - by / 8)) (moved_windows a n (pos by) windows)
moved_span a n count by [] even some h = h
moved_span a n count by (InStack q from to ∷ windows) even some (inl h) = moved_first a n count by q from to windows even some h
moved_span a n count by (InStack q from to ∷ windows) even some (inr h) =
    moved_later (Spans a (count - by / 8)) (nat_eq q n) (InStack a (from -ℤ pos by) (to -ℤ pos by)) (moved_windows a n (pos by) windows) (moved_span a n count by windows even some h)
moved_span a n count by (InTable q ∷ windows) even some (inl h) = absurd h
moved_span a n count by (InTable q ∷ windows) even some (inr h) = moved_span a n count by windows even some h

-- the window that `addi a, n, by` gives
given_span : (a n count by : ℕ) (windows : List Window) → nat_eq a 0 ≡ false → (0 < count → HasWindow (Spans n count) windows) → 0 < moved_window (pos by) count
    → HasWindow (Spans a (moved_window (pos by) count)) (windows_behind (Single (Imm Addi a n (pos by))) windows)
given_span a n count by windows named f =
    let kept : List Window = kept_windows (Single (Imm Addi a n (pos by))) windows in
    let P : Bool → Type 0 = λ b. nat_eq (by % 8) 0 ≡ b → 0 < (if b then count - by / 8 else 0)
    → HasWindow (Spans a (if b then count - by / 8 else 0)) ((if not (nat_eq a 0) && b then moved_windows a n (pos by) windows else []) ++ kept) in
    elim (nat_eq (by % 8) 0) as P [
      | true ↦ λ e some.
          let even : by % 8 ≡ 0 = eqb-true (by % 8) 0 e in
          let Q : Bool → Type 0 = λ z. HasWindow (Spans a (count - by / 8)) ((if not z && true then moved_windows a n (pos by) windows else []) ++ kept) in
          subst Q (sym named) (has_left (Spans a (count - by / 8)) (moved_windows a n (pos by) windows) kept (moved_span a n count by windows even some (f (omega arith))))
      | false ↦ λ e some. nothing_of some
    ] refl

-- what the discipline counts behind an operation with a number
pub imm_span : (op : ImmOp) (imm : ℤ) (a n count : ℕ) (windows : List Window) → nat_eq a 0 ≡ false → (0 < count → HasWindow (Spans n count) windows) → 0 < imm_window op imm count
    → HasWindow (Spans a (imm_window op imm count)) (windows_behind (Single (Imm op a n imm)) windows)
imm_span Addi (pos by) a n count windows named f some = given_span a n count by windows named f some
imm_span Addi (negsuc by) a n count windows named f some = nothing_of some
imm_span op imm a n count windows named f some = nothing_of some
