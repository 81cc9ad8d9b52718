-- Reaching the frame of a variable, and what stands in it.
use Rattle.std.proofs.Common.{◌≡◌, ℕ, zero, suc, ◌+◌, ◌-◌, ◌^◌, ◌<◌, ◌≤◌, Bool, true, false, leb, List, [], ◌∷◌, ◌++◌, length, ℤ, pos, negsuc, Some, None, refl, sym, ap, ◌∙◌, arith}
use Rattle.std.proofs.lemmas.Bool.{cond_both, and_parts, leb-true, ltb-false}
use Rattle.std.specs.Prelude.{slice_index, nat_lt, if◌then◌else◌}
use Rattle.std.specs.Int.{cast_unsigned, w64}
use Rattle.std.specs.declared.option.Option.{Option}
use Rattle.fy_base.specs.Arithmetic.{is_int}
use Rattle.fy_base.specs.declared.data.Datum.{Datum}
use Rattle.fy_base.specs.declared.data.Datum.TheVariants as kind
use Rattle.pe_code.specs.declared.code.PeCode.{PeCode}
use Rattle.pe_frame.specs.Frames.{display_start}
use Rattle.pe_items.specs.Items.{Item, FoundFrame, frame_from}
use Rattle.rv_word.specs.declared.micros.Register.TheVariants.{Frame, First}
use Rattle.rv_word.specs.declared.micros.Micro.{Micro}
use Rattle.rv_word.specs.declared.micros.Micro.TheVariants.{Get}
use Rattle.rv_word.specs.Word.{Data, Code, Led, word_address}
use Rattle.rv_operators.specs.Operators.{word_of}
use Rattle.rv_operators.specs.Laws.{IsDatum}
use Rattle.rv_select.specs.Blocks.{behind, reach}
use Rattle.rv_select.specs.Layout.{word_in, frame_word, frames_from, address_found, HasItems}
use Rattle.rv_select.proofs.Wp.{Wp, with_value}
use Rattle.rv_select.proofs.Values.{moves, moves_on}
use Rattle.rv_select.proofs.Around.{frame_room, frames_below, from_itself, from_none}
use Rattle.rv_select.proofs.Memory.{hands_on, ShowsFrames, shows_frames}

-- ---- words are of 64 bits

int_small : (z : ℤ) → is_int z ≡ true → cast_unsigned w64 z < 2 ^ 64
int_small (pos n) h = let le = leb-true n (2 ^ 63 - 1) (and_parts true (leb n (2 ^ 63 - 1)) h).1 in omega arith
int_small (negsuc n) h = omega arith

truth_small : (b : Bool) → (if b then 1 else 0) < 2 ^ 64
truth_small true = omega arith
truth_small false = omega arith

pub word_small : (v : Datum) → IsDatum v → word_of v < 2 ^ 64
word_small (kind.Int z) h = int_small z h
word_small (kind.Bool b) h = truth_small b
word_small (kind.Char c) h = omega arith

pub frame_small : (code : PeCode) (m : List ℕ) (is : List Item) (f : Option ℕ) (d : ℕ) → HasItems code m is → frames_from is f ≡ Some d → frame_word f < 2 ^ 64
frame_small code m is None d h deep = omega arith
frame_small code m is (Some x) d h deep = let below = frames_below is x d deep in let fits = h.fits in let few = h.few in omega arith

-- ---- reaching

-- the length of the code that reaches
choice_length : (b : Bool) (p q : List Micro) (n : ℕ) → length p ≤ n → length q ≤ n → length (if b then p else q) ≤ n
choice_length true p q n h k = h
choice_length false p q n h k = k

pub reach_length : (k : ℕ) → length (reach k) ≤ 4
reach_length zero = omega arith
reach_length (suc k) =
    let inner : length (if nat_lt (display_start + k) 510 then behind First Frame 255 ∷ Get First First (display_start + k - 255) ∷ []
    else behind First Frame 255 ∷ behind First First 255 ∷ Get First First (display_start + k - 510) ∷ []) ≤ 3 =
    choice_length (nat_lt (display_start + k) 510) _ _ 3 (omega arith) (omega arith) in
    let outer = choice_length (nat_lt (display_start + k) 256) (Get First Frame (display_start + k) ∷ []) _ 3 (omega arith) inner in
    omega arith

module _ (code : PeCode) (w : Code) (Q : Led → Type 0) (rest : List Micro) where
  -- in the frame at word x, around which there are d frames
  reached_out : (is : List Item) (k d x y : ℕ) (e : Data) → HasItems code e.words is → e.named.frame ≡ word_address x → ShowsFrames e.words is x d → k < d → word_in e.words x (display_start + k) ≡ word_address y
      → Wp w Q rest (with_value First (word_address y) e) → Wp w Q (reach (suc k) ++ rest) e
  reached_out is k d x y e h f shows lt shown go =
      let within = shows.within in
      let room = frame_room d in
      let fits = h.fits in
      let few = h.few in (
        x,
        f,
        omega arith,
        cond_both (nat_lt (display_start + k) 256) (Get First Frame (display_start + k) ∷ [])
            (if nat_lt (display_start + k) 510 then behind First Frame 255 ∷ Get First First (display_start + k - 255) ∷ []
            else behind First Frame 255 ∷ behind First First 255 ∷ Get First First (display_start + k - 510) ∷ [])
            (λ (ops : List Micro). Wp w Q (ops ++ rest) e)
            (λ near. (x, word_address y, f, omega arith, shown, go))
            (λ far. cond_both (nat_lt (display_start + k) 510) (behind First Frame 255 ∷ Get First First (display_start + k - 255) ∷ [])
            (behind First Frame 255 ∷ behind First First 255 ∷ Get First First (display_start + k - 510) ∷ [])
            (λ (ops : List Micro). Wp w Q (ops ++ rest) e)
            (λ near. second x y e k d (omega arith) (ltb-false (display_start + k) 256 far) f (omega arith) shown go)
            (λ further. third x y e k d (omega arith) (ltb-false (display_start + k) 510 further) f (omega arith) shown go)),
      )
    where
      second : (x y : ℕ) (e : Data) (k d : ℕ) → x + (display_start + k) + 1 ≤ 2 ^ 27 → 256 ≤ display_start + k → e.named.frame ≡ word_address x → x + (display_start + k) + 1 ≤ length e.words → word_in e.words x (display_start + k) ≡ word_address y
          → Wp w Q rest (with_value First (word_address y) e) → Wp w Q (behind First Frame 255 ∷ Get First First (display_start + k - 255) ∷ rest) e
      second x y e k d few far f fits shown go =
          let at : x + 255 + (display_start + k - 255) ≡ x + (display_start + k) = omega arith in
          (word_address (x + 255), moves_on e.named.frame x (x + 255) 2040 f (omega arith) (omega arith), (x + 255, word_address y, refl, omega arith, ap (λ j. slice_index e.words j) at ∙ shown, go))

      third : (x y : ℕ) (e : Data) (k d : ℕ) → x + (display_start + k) + 1 ≤ 2 ^ 27 → 510 ≤ display_start + k → e.named.frame ≡ word_address x → x + (display_start + k) + 1 ≤ length e.words → word_in e.words x (display_start + k) ≡ word_address y
          → Wp w Q rest (with_value First (word_address y) e) → Wp w Q (behind First Frame 255 ∷ behind First First 255 ∷ Get First First (display_start + k - 510) ∷ rest) e
      third x y e k d few far f fits shown go =
          let at : x + 510 + (display_start + k - 510) ≡ x + (display_start + k) = omega arith in (
            word_address (x + 255),
            moves_on e.named.frame x (x + 255) 2040 f (omega arith) (omega arith),
            (
              word_address (x + 510),
              moves_on (word_address (x + 255)) (x + 255) (x + 510) 2040 refl (omega arith) (omega arith),
              (x + 510, word_address y, refl, omega arith, ap (λ j. slice_index e.words j) at ∙ shown, go),
            ),
          )

  -- the frame of a variable is in First
  pub reached : (is : List Item) (k depth : ℕ) (here : Option ℕ) (f : FoundFrame) (e : Data) → HasItems code e.words is → e.named.frame ≡ frame_word here → frames_from is here ≡ Some depth → k < depth → frame_from is k here ≡ Some f
      → Wp w Q rest (with_value First (word_address f.address) e) → Wp w Q (reach k ++ rest) e
  reached is k depth None f e h at deep lt found go = absurd (none (from_none is k) found)
    where
      none : frame_from is k None ≡ None → frame_from is k None ≡ Some f → ⊥
      none p q = let z : None ≡ Some f = sym p ∙ q in cc
  reached is zero depth (Some x) f e h at deep lt found go =
      let same = from_itself is x f.address (ap address_found found) in
      let hands = hands_on code e.words is 0 (Some x) f found h.laid in
      let within = hands.within in
      let fits = h.fits in
      let few = h.few in
      (word_address f.address, moves e.named.frame (word_address f.address) (at ∙ ap word_address (sym same)) (omega arith), go)
  reached is (suc k) zero (Some x) f e h at deep lt found go = absurd (omega arith)
  reached is (suc k) (suc d) (Some x) f e h at deep lt found go =
      let shows = shows_frames code e.words is x d deep h.laid in
      reached_out is k d x f.address e h at shows (omega arith) (shows.display k f.address (omega arith) (ap address_found found)) go
