-- The datum of a variable's own cell comes to a register.
use Rattle.std.proofs.Common.{◌≡◌, ℕ, zero, suc, ◌+◌, ◌-◌, ◌*◌, ◌^◌, ◌≤◌, true, false, nat_lt, List, [], ◌∷◌, length, slice_index, refl, ap, ◌∙◌, arith}
use Rattle.std.specs.Prelude.{if◌then◌else◌}
use Rattle.std.proofs.lemmas.Bool.{cond_both, ltb-true, ltb-false}
use Rattle.pe_frame.specs.Frames.{display_start}
use Rattle.rv_insn.specs.declared.instructions.ImmOp.TheVariants.{Addi}
use Rattle.rv_insn.specs.Operations.{imm_value}
use Rattle.rv_word.specs.declared.micros.Register.TheVariants.{Frame}
use Rattle.rv_word.specs.declared.micros.Micro.{Micro}
use Rattle.rv_word.specs.declared.micros.Micro.TheVariants.{Window, Get}
use Rattle.rv_word.specs.Word.{Data, get, word_address}
use Rattle.rv_straight.specs.Straight.{behind, word_of_frame, cell_code, slot}
use Rattle.rv_straight.specs.Laws.{CellLies}
use Rattle.rv_straight.proofs.Registers.{with_value, read_same, Same, same_itself, same_then, set_slot}
use Rattle.rv_straight.proofs.Needs.{Needs, needs_joined}

-- the address of a word so many bytes on
moves_on : (a j z c : ℕ) → a ≡ word_address j → 8 * z ≡ 8 * j + c → z ≤ 2 ^ 28 → imm_value Addi a c ≡ word_address z
unfolding imm_value
moves_on a j z c is on le = omega arith

module _ (F : ℕ → Data → Type 0) (n : ℕ) (low : n ≤ 2) (e : Data) (few : length e.words ≤ 2 ^ 27) where
  -- a register gets a value
  gets : (h : Data) (v : ℕ) → Same n e h → Same n e (with_value (slot n) v h)
  gets h v same = same_then n e h (with_value (slot n) v h) same (set_slot n n h v (omega arith) low)

  -- the address that a word of the frame in use is
  framed : (Q : Data → Type 0) (f g word : ℕ) → e.named.frame ≡ word_address f → f + (word + 1) ≤ length e.words → slice_index e.words (f + word) ≡ word_address g
      → ((h : Data) → Same n e h → get h.named (slot n) ≡ word_address g → Q h) → Needs F (word_of_frame (slot n) word) e Q
  framed Q f g word is fits shown go =
      cond_both (nat_lt word 256) (Get (slot n) Frame word ∷ [])
      (if nat_lt word 510 then behind (slot n) Frame 255 ∷ Get (slot n) (slot n) (word - 255) ∷ []
      else behind (slot n) Frame 255 ∷ behind (slot n) (slot n) 255 ∷ Get (slot n) (slot n) (word - 510) ∷ [])
      (λ (ms : List Micro). Needs F ms e Q)
      (λ near. (f, word_address g, is, fits, shown, go (with_value (slot n) (word_address g) e) (gets e (word_address g) (same_itself n e)) (read_same n e.named (word_address g))))
      (λ past. cond_both (nat_lt word 510) (behind (slot n) Frame 255 ∷ Get (slot n) (slot n) (word - 255) ∷ [])
      (behind (slot n) Frame 255 ∷ behind (slot n) (slot n) 255 ∷ Get (slot n) (slot n) (word - 510) ∷ [])
      (λ (ms : List Micro). Needs F ms e Q)
      (λ near. once (ltb-false word 256 past))
      (λ far. twice (ltb-false word 510 far)))
    where
      once : 256 ≤ word → Needs F (behind (slot n) Frame 255 ∷ Get (slot n) (slot n) (word - 255) ∷ []) e Q
      once past =
          let x = word_address (f + 255) in
          let e1 = with_value (slot n) x e in
          let spot : f + 255 + (word - 255) ≡ f + word = omega arith in (
            x,
            moves_on e.named.frame f (f + 255) 2040 is (omega arith) (omega arith),
            (
              f + 255,
              word_address g,
              read_same n e.named x,
              omega arith,
              ap (λ (j : ℕ). slice_index e.words j) spot ∙ shown,
              go (with_value (slot n) (word_address g) e1) (gets e1 (word_address g) (gets e x (same_itself n e))) (read_same n e1.named (word_address g)),
            ),
          )

      twice : 510 ≤ word → Needs F (behind (slot n) Frame 255 ∷ behind (slot n) (slot n) 255 ∷ Get (slot n) (slot n) (word - 510) ∷ []) e Q
      twice past =
          let x = word_address (f + 255) in
          let y = word_address (f + 510) in
          let e1 = with_value (slot n) x e in
          let e2 = with_value (slot n) y e1 in
          let spot : f + 510 + (word - 510) ≡ f + word = omega arith in (
            x,
            moves_on e.named.frame f (f + 255) 2040 is (omega arith) (omega arith),
            (
              y,
              moves_on (get e1.named (slot n)) (f + 255) (f + 510) 2040 (read_same n e.named x) (omega arith) (omega arith),
              (
                f + 510,
                word_address g,
                read_same n e1.named y,
                omega arith,
                ap (λ (j : ℕ). slice_index e.words j) spot ∙ shown,
                go (with_value (slot n) (word_address g) e2) (gets e2 (word_address g) (gets e1 y (gets e x (same_itself n e)))) (read_same n e2.named (word_address g)),
              ),
            ),
          )

  -- and the datum in the frame there
  loaded : (Q : Data → Type 0) (h : Data) (g w : ℕ) → Same n e h → get h.named (slot n) ≡ word_address g → g + 3 ≤ length e.words → slice_index e.words (g + 2) ≡ w
      → ((h : Data) → Same n e h → get h.named (slot n) ≡ w → Q h) → Needs F (Window (slot n) 3 ∷ Get (slot n) (slot n) 2 ∷ []) h Q
  loaded Q h g w same here fits value go =
      let words = same.keeps.words in
      let size : length h.words ≡ length e.words = ap (λ (l : List ℕ). length l) words in (
        g,
        here,
        omega arith,
        (
          g,
          w,
          here,
          omega arith,
          ap (λ (l : List ℕ). slice_index l (g + 2)) words ∙ value,
          go (with_value (slot n) w h) (gets h w same) (read_same n h.named w),
        ),
      )

  pub cell_works : (Q : Data → Type 0) (k w : ℕ) → CellLies e.words e.named.frame k w → ((h : Data) → Same n e h → get h.named (slot n) ≡ w → Q h) → Needs F (cell_code (slot n) k) e Q
  cell_works Q zero w l go =
      (l.0, l.1, l.2, (l.0, w, l.1, l.2, l.3, go (with_value (slot n) w e) (gets e w (same_itself n e)) (read_same n e.named w)))
  cell_works Q (suc k) w l go =
      let fits = l.3 in (
        l.0,
        l.2,
        l.3,
        needs_joined F (word_of_frame (slot n) (display_start + k)) (Window (slot n) 3 ∷ Get (slot n) (slot n) 2 ∷ []) e Q
            (framed (λ h. Needs F (Window (slot n) 3 ∷ Get (slot n) (slot n) 2 ∷ []) h Q) l.0 l.1 (display_start + k) l.2 (omega arith) l.4
            (λ h same here. loaded Q h l.1 w same here l.5 l.6 go)),
      )
