-- Frames by their numbers, which fall from the newest to the oldest.
use Rattle.std.proofs.Common.{◌≡◌, ℕ, zero, suc, ◌+◌, ◌-◌, ◌<◌, ◌≤◌, true, false, List, [], ◌∷◌, length, get_or, set, take, drop, refl, sym, ap, ap₂, ◌∙◌, subst, arith, inl, inr, eq-eqb, Some, None}
use Rattle.std.specs.Prelude.{nat_eq, nat_le, is_some, MatchOption}
use Rattle.std.specs.declared.option.Option.{Option}
use Rattle.std.proofs.lemmas.List.{take_all, get_or-set_same, get_or-set_other, length-set}
use Rattle.std.proofs.lemmas.Bool.{ne_eqb, cases_lt, cond-true, cond-false, cond_both}
use Rattle.fy_base.specs.declared.data.Datum.{Datum}
use Rattle.fy_base.specs.declared.data.Place.{Place}
use Rattle.pe_machine.specs.States as states
use Rattle.pe_machine.specs.States.{oldest, is_named, is_listed, from_frame, frame_outside, datum_in, datum_of, with_datum, with_cell, sequence_in, sequence_at, with_binding}
use Rattle.pe_machine.specs.Sound.{IsNumbered}
use Rattle.pe_machine.specs.Places.{IsPlace}
use Rattle.pe_machine.specs.Shown.{binding_of, frame_of, frames_onto, number_of}
use Rattle.pe_machine.specs.declared.frames.Frame.{Frame}
use Rattle.pe_machine.specs.declared.frames.Binding.{Binding}
use Rattle.pe_machine.specs.declared.frames.Binding.TheVariants as binding
use Rattle.pe_machine.proofs.Stacks.{frames_more, oldest_take}

-- ---- the machine's frames

pub numbered_later : (m n : ℕ) (fs : List states.Frame) → m ≤ n → IsNumbered m fs → IsNumbered n fs
numbered_later m n [] h is = tt
numbered_later m n (f ∷ fs) h is = let below = is.0 in (omega arith, is.1)

pub numbered_oldest : (m n : ℕ) (fs : List states.Frame) → IsNumbered m fs → IsNumbered m (oldest n fs)
numbered_oldest m n [] is = tt
numbered_oldest m n (f ∷ fs) is =
    let below = is.0 in
    cond_both (nat_le n (length fs)) (oldest n fs) (f ∷ fs) (λ gs. IsNumbered m gs) (λ _. numbered_oldest m n fs (numbered_later f.number m fs (omega arith) is.1)) (λ _. is)

differs : (n m : ℕ) → (m ≡ n → ⊥) → nat_eq n m ≡ false
differs n m other = ne_eqb n m (λ same. other (sym same))

outside_passes : (k n : ℕ) (f : states.Frame) (fs : List states.Frame) → (f.number ≡ n → ⊥) → frame_outside (f ∷ fs) k (Some n) ≡ frame_outside fs k (Some n)
outside_passes k n f fs other = cond-false (nat_eq n f.number) (from_frame k f (λ j. frame_outside fs j f.around)) (frame_outside fs k (Some n)) (differs n f.number other)

pub outside_none : (k : ℕ) (fs : List states.Frame) → frame_outside fs k None ≡ None
outside_none k [] = refl
outside_none k (f ∷ fs) = outside_none k fs

listed_passes : (n : ℕ) (f : states.Frame) (fs : List states.Frame) → (f.number ≡ n → ⊥) → is_listed (Some n) (f ∷ fs) ≡ is_listed (Some n) fs
listed_passes n f fs other = cond-false (nat_eq n f.number) true (is_listed (Some n) fs) (differs n f.number other)

pub listed_none : (fs : List states.Frame) → is_listed None fs ≡ true
listed_none [] = refl
listed_none (f ∷ fs) = listed_none fs

datum_passes : (n : ℕ) (f : states.Frame) (fs : List states.Frame) → (f.number ≡ n → ⊥) → datum_of n (f ∷ fs) ≡ datum_of n fs
datum_passes n f fs other = cond-false (nat_eq n f.number) (datum_in f.binding) (datum_of n fs) (differs n f.number other)

pub numbered_with_cell : (m n : ℕ) (v : Datum) (fs : List states.Frame) → IsNumbered m fs → IsNumbered m (with_cell n v fs)
numbered_with_cell m n v [] is = tt
numbered_with_cell m n v (f ∷ fs) is =
    cond_both (nat_eq n f.number) (record f { binding = with_datum v f.binding } ∷ fs) (f ∷ with_cell n v fs) (λ gs. IsNumbered m gs) (λ _. is) (λ _. (is.0, numbered_with_cell f.number n v fs is.1))

pub next_link : (k : ℕ) (f : states.Frame) (go : ℕ → Option states.Frame) → 0 < k → from_frame k f go ≡ go (k - 1)
next_link zero f go some = absurd (omega arith)
next_link (suc k) f go some = let e : k ≡ suc k - 1 = omega arith in ap go e

pub numbered_with_binding : (m n : ℕ) (change : states.Binding → states.Binding) (fs : List states.Frame) → IsNumbered m fs → IsNumbered m (with_binding n change fs)
numbered_with_binding m n change [] is = tt
numbered_with_binding m n change (f ∷ fs) is =
    cond_both (nat_eq n f.number) (record f { binding = change f.binding } ∷ fs) (f ∷ with_binding n change fs) (λ gs. IsNumbered m gs) (λ _. is) (λ _. (is.0, numbered_with_binding f.number n change fs is.1))

sequence_passes : (n : ℕ) (f : states.Frame) (fs : List states.Frame) → (f.number ≡ n → ⊥) → sequence_at n (f ∷ fs) ≡ sequence_at n fs
sequence_passes n f fs other = cond-false (nat_eq n f.number) (sequence_in f.binding) (sequence_at n fs) (differs n f.number other)

-- ---- bindings without a datum or a sequence

pub no_datum : (rest : List Datum) (b : Binding) → ((v : Datum) → b ≡ binding.ToCell v → ⊥) → datum_in (binding_of rest b) ≡ None
no_datum rest (binding.ToThunk t) other = refl
no_datum rest (binding.ToCell v) other = absurd (other v refl)
no_datum rest binding.ToEscape other = refl
no_datum rest (binding.ToSequence place count) other = refl

pub no_sequence : (rest : List Datum) (b : Binding) → ((place : Place) (count : ℕ) → b ≡ binding.ToSequence place count → ⊥) → sequence_in (binding_of rest b) ≡ None
no_sequence rest (binding.ToThunk t) other = refl
no_sequence rest (binding.ToCell v) other = refl
no_sequence rest binding.ToEscape other = refl
no_sequence rest (binding.ToSequence place count) other = absurd (other place count refl)

-- ---- by the cells of all

module _ (cells : List Datum) where
  -- ---- numbers

  pub numbered_take : (m n : ℕ) (xs : List Frame) → IsNumbered m (frames_onto cells [] xs) → IsNumbered m (frames_onto cells [] (take n xs))
  numbered_take m n xs is = let P : List states.Frame → Type 0 = λ fs. IsNumbered m fs in subst P (oldest_take cells n xs) (numbered_oldest m n (frames_onto cells [] xs) is)

  -- the newest of the first e + 1
  numbered_last : (m e : ℕ) (xs : List Frame) (d : Frame) → e < length xs → IsNumbered m (frames_onto cells [] (take (e + 1) xs))
      → ((get_or xs e d).number < m) × IsNumbered (get_or xs e d).number (frames_onto cells [] (take e xs))
  numbered_last m e xs d h is = let P : List states.Frame → Type 0 = λ fs. IsNumbered m fs in subst P (frames_more cells xs e d h) is

  -- each of the first e is below
  numbers_below : (m e : ℕ) (xs : List Frame) (d : Frame) (j : ℕ) → e ≤ length xs → IsNumbered m (frames_onto cells [] (take e xs)) → j < e → (get_or xs j d).number < m
  numbers_below m zero xs d j h is lt = absurd (omega arith)
  numbers_below m (suc e) xs d j h is lt =
      let one : suc e ≡ e + 1 = omega arith in
      let P : ℕ → Type 0 = λ k. IsNumbered m (frames_onto cells [] (take k xs)) in
      let last = numbered_last m e xs d (omega arith) (subst P one is) in
      let below = last.0 in
      elim (cases_lt j e) [
        | inl less ↦ let first = numbers_below (get_or xs e d).number e xs d j (omega arith) last.1 less in omega arith
        | inr more ↦ let same : e ≡ j = omega arith in let Q : ℕ → Type 0 = λ k. (get_or xs k d).number < m in subst Q same below
      ]

  -- numbers rise in the array
  pub numbers_rise : (m i j : ℕ) (xs : List Frame) (d : Frame) → IsNumbered m (frames_onto cells [] xs) → i < j → j < length xs → (get_or xs i d).number < (get_or xs j d).number
  numbers_rise m i j xs d is lt within =
      let last = numbered_last m j xs d within (numbered_take m (j + 1) xs is) in
      numbers_below (get_or xs j d).number j xs d i (omega arith) last.1 lt

  -- all numbers in the array are below the next
  pub numbers_small : (m i : ℕ) (xs : List Frame) (d : Frame) → IsNumbered m (frames_onto cells [] xs) → i < length xs → (get_or xs i d).number < m
  numbers_small m i xs d is h =
      let P : List Frame → Type 0 = λ ys. IsNumbered m (frames_onto cells [] ys) in
      numbers_below m (length xs) xs d i (omega arith) (subst P (sym (take_all (length xs) xs (omega arith))) is) h

  -- ---- what goes by the first frame of a number

  module _ {A : Type 0} (F : List states.Frame → A) (n : ℕ) (passes : (f : states.Frame) (fs : List states.Frame) → (f.number ≡ n → ⊥) → F (f ∷ fs) ≡ F fs) where
    skipped : (low m : ℕ) (xs : List Frame) (d : Frame) → low + m ≤ length xs → ((j : ℕ) → low ≤ j → j < low + m → (get_or xs j d).number ≡ n → ⊥)
        → F (frames_onto cells [] (take (low + m) xs)) ≡ F (frames_onto cells [] (take low xs))
    skipped low zero xs d h differ = let e : low + zero ≡ low = omega arith in ap (λ k. F (frames_onto cells [] (take k xs))) e
    skipped low (suc m) xs d h differ =
        let e : low + suc m ≡ (low + m) + 1 = omega arith in
        ap (λ k. F (frames_onto cells [] (take k xs))) e
        ∙ ap F (frames_more cells xs (low + m) d (omega arith))
        ∙ passes (frame_of cells (get_or xs (low + m) d)) (frames_onto cells [] (take (low + m) xs)) (differ (low + m) (omega arith) (omega arith))
        ∙ skipped low m xs d (omega arith) (λ j from lt. differ j from (omega arith))

    -- the frame of the number stands at a place
    found_at : (m end place : ℕ) (xs : List Frame) (d : Frame) → IsNumbered m (frames_onto cells [] xs) → end ≤ length xs → place < end → (get_or xs place d).number ≡ n
        → F (frames_onto cells [] (take end xs)) ≡ F (frame_of cells (get_or xs place d) ∷ frames_onto cells [] (take place xs))
    found_at m end place xs d is h lt at =
        let e : end ≡ (place + 1) + (end - (place + 1)) = omega arith in
        ap (λ k. F (frames_onto cells [] (take k xs))) e
        ∙ skipped (place + 1) (end - (place + 1)) xs d (omega arith) (λ j from less same. let rises = numbers_rise m place j xs d is (omega arith) (omega arith) in absurd (omega arith))
        ∙ ap F (frames_more cells xs place d (omega arith))

    missed_from : (end : ℕ) (xs : List Frame) (d : Frame) → end ≤ length xs → ((j : ℕ) → j < end → (get_or xs j d).number ≡ n → ⊥) → F (frames_onto cells [] (take end xs)) ≡ F []
    missed_from end xs d h differ =
        let e : end ≡ 0 + end = omega arith in
        ap (λ k. F (frames_onto cells [] (take k xs))) e ∙ skipped 0 end xs d (omega arith) (λ j from less. differ j (omega arith))

    -- no frame of the number stands there
    missed : (end : ℕ) (xs : List Frame) → end ≤ length xs → ((j : ℕ) (d : Frame) → j < end → (get_or xs j d).number ≡ n → ⊥) → F (frames_onto cells [] (take end xs)) ≡ F []
    missed end [] h differ = ap (λ ys. F (frames_onto cells [] ys)) (let none : end ≡ 0 = omega arith in ap (λ k. take k []) none)
    missed end (x ∷ xs) h differ = missed_from end (x ∷ xs) x h (λ j. differ j x)

  -- ---- links

  pub outside_found : (k n m end place : ℕ) (xs : List Frame) (d : Frame) → IsNumbered m (frames_onto cells [] xs) → end ≤ length xs → place < end → (get_or xs place d).number ≡ n
      → frame_outside (frames_onto cells [] (take end xs)) k (Some n) ≡ from_frame k (frame_of cells (get_or xs place d)) (λ j. frame_outside (frames_onto cells [] (take place xs)) j (number_of (get_or xs place d).around))
  outside_found k n m end place xs d is h lt at =
      found_at (λ fs. frame_outside fs k (Some n)) n (outside_passes k n) m end place xs d is h lt at
      ∙ cond-true (nat_eq n (get_or xs place d).number) _ _ (eq-eqb n (get_or xs place d).number (sym at))

  pub outside_missed : (k n end : ℕ) (xs : List Frame) → end ≤ length xs → ((j : ℕ) (d : Frame) → j < end → (get_or xs j d).number ≡ n → ⊥) → frame_outside (frames_onto cells [] (take end xs)) k (Some n) ≡ None
  outside_missed k n end xs h differ = missed (λ fs. frame_outside fs k (Some n)) n (outside_passes k n) end xs h differ

  -- ---- listed frames

  listed_found : (n m place : ℕ) (xs : List Frame) (d : Frame) → IsNumbered m (frames_onto cells [] xs) → place < length xs → (get_or xs place d).number ≡ n → is_listed (Some n) (frames_onto cells [] (take (length xs) xs)) ≡ true
  listed_found n m place xs d is lt at =
      found_at (λ fs. is_listed (Some n) fs) n (listed_passes n) m (length xs) place xs d is (omega arith) lt at
      ∙ cond-true (nat_eq n (get_or xs place d).number) _ _ (eq-eqb n (get_or xs place d).number (sym at))

  listed_missed : (n : ℕ) (xs : List Frame) → ((j : ℕ) (d : Frame) → j < length xs → (get_or xs j d).number ≡ n → ⊥) → is_listed (Some n) (frames_onto cells [] (take (length xs) xs)) ≡ false
  listed_missed n xs differ = missed (λ fs. is_listed (Some n) fs) n (listed_passes n) (length xs) xs (omega arith) differ

  whole : {A : Type 0} (F : List states.Frame → A) (xs : List Frame) → F (frames_onto cells [] (take (length xs) xs)) ≡ F (frames_onto cells [] xs)
  whole F xs = ap (λ ys. F (frames_onto cells [] ys)) (take_all (length xs) xs (omega arith))

  pub is_listed_at : (n m place : ℕ) (xs : List Frame) (d : Frame) → IsNumbered m (frames_onto cells [] xs) → place < length xs → (get_or xs place d).number ≡ n → is_listed (Some n) (frames_onto cells [] xs) ≡ true
  is_listed_at n m place xs d is lt at = sym (whole (λ fs. is_listed (Some n) fs) xs) ∙ listed_found n m place xs d is lt at

  pub listed_place : (n m place : ℕ) (xs : List Frame) → IsNumbered m (frames_onto cells [] xs) → place < length xs → ((d : Frame) → (get_or xs place d).number ≡ n) → is_listed (Some n) (frames_onto cells [] xs) ≡ true
  listed_place n m place [] is lt at = absurd (omega arith)
  listed_place n m place (x ∷ xs) is lt at = is_listed_at n m place (x ∷ xs) x is lt (at x)

  pub isnt_listed : (n : ℕ) (xs : List Frame) → ((j : ℕ) (d : Frame) → j < length xs → (get_or xs j d).number ≡ n → ⊥) → is_listed (Some n) (frames_onto cells [] xs) ≡ false
  isnt_listed n xs differ = sym (whole (λ fs. is_listed (Some n) fs) xs) ∙ listed_missed n xs differ

  -- ---- cells

  pub datum_at : (n m place : ℕ) (xs : List Frame) (d : Frame) → IsNumbered m (frames_onto cells [] xs) → place < length xs → (get_or xs place d).number ≡ n
      → datum_of n (frames_onto cells [] xs) ≡ datum_in (frame_of cells (get_or xs place d)).binding
  datum_at n m place xs d is lt at =
      sym (whole (λ fs. datum_of n fs) xs)
      ∙ found_at (λ fs. datum_of n fs) n (datum_passes n) m (length xs) place xs d is (omega arith) lt at
      ∙ cond-true (nat_eq n (get_or xs place d).number) _ _ (eq-eqb n (get_or xs place d).number (sym at))

  pub datum_missed : (n : ℕ) (xs : List Frame) → ((j : ℕ) (d : Frame) → j < length xs → (get_or xs j d).number ≡ n → ⊥) → datum_of n (frames_onto cells [] xs) ≡ None
  datum_missed n xs differ = sym (whole (λ fs. datum_of n fs) xs) ∙ missed (λ fs. datum_of n fs) n (datum_passes n) (length xs) xs (omega arith) differ

  -- ---- by the place that was looked for

  pub outside_by_none : (k n end : ℕ) (items : List Frame) → end ≤ length items → IsPlace items end n None → frame_outside (frames_onto cells [] (take end items)) k (Some n) ≡ None
  outside_by_none k n end items h is = outside_missed k n end items h is

  pub outside_by_place : (k n m end place : ℕ) (items : List Frame) (x : Frame) → end ≤ length items → IsNumbered m (frames_onto cells [] items) → IsPlace items end n (Some place) → x ≡ get_or items place x
      → frame_outside (frames_onto cells [] (take end items)) k (Some n) ≡ from_frame k (frame_of cells x) (λ j. frame_outside (frames_onto cells [] (take place items)) j (number_of x.around))
  outside_by_place k n m end place items x h numbered at read =
      outside_found k n m end place items x numbered h at.0 (at.1 x)
      ∙ ap (λ (f : Frame). from_frame k (frame_of cells f) (λ j. frame_outside (frames_onto cells [] (take place items)) j (number_of f.around))) (sym read)

  -- at the last link
  pub outside_last : (n m end : ℕ) (items : List Frame) (o : Option ℕ) → end ≤ length items → IsNumbered m (frames_onto cells [] items) → IsPlace items end n o
      → MatchOption o (frame_outside (frames_onto cells [] (take end items)) 0 (Some n) ≡ None) (λ p. (p < length items) × ((d : Frame) → frame_outside (frames_onto cells [] (take end items)) 0 (Some n) ≡ Some (frame_of cells (get_or items p d))))
  outside_last n m end items None h numbered is = outside_by_none 0 n end items h is
  outside_last n m end items (Some p) h numbered at =
      let below = at.0 in
      (omega arith, λ d. outside_found 0 n m end p items d numbered h at.0 (at.1 d))

  pub listed_by : (n m end : ℕ) (items : List Frame) (o : Option ℕ) → end ≡ length items → IsNumbered m (frames_onto cells [] items) → IsPlace items end n o → is_some o ≡ is_listed (Some n) (frames_onto cells [] items)
  listed_by n m end items None all numbered is = sym (isnt_listed n items (λ j d lt. is j d (omega arith)))
  listed_by n m end items (Some p) all numbered at =
      let below = at.0 in
      sym (listed_place n m p items numbered (omega arith) at.1)

  pub datum_by_none : (n end : ℕ) (items : List Frame) → end ≡ length items → IsPlace items end n None → datum_of n (frames_onto cells [] items) ≡ None
  datum_by_none n end items all is = datum_missed n items (λ j d lt. is j d (omega arith))

  pub datum_by_place : (n m end place : ℕ) (items : List Frame) (x : Frame) → end ≡ length items → IsNumbered m (frames_onto cells [] items) → IsPlace items end n (Some place) → x ≡ get_or items place x
      → datum_of n (frames_onto cells [] items) ≡ datum_in (binding_of (drop x.cells cells) x.binding)
  datum_by_place n m end place items x all numbered at read =
      let below = at.0 in
      datum_at n m place items x numbered (omega arith) (at.1 x) ∙ ap (λ (f : Frame). datum_in (binding_of (drop f.cells cells) f.binding)) (sym read)

  -- the same frame by another way
  pub outside_same : (a b : Option states.Frame) (o : Option ℕ) (items : List Frame) → a ≡ b → MatchOption o (b ≡ None) (λ p. (p < length items) × ((d : Frame) → b ≡ Some (frame_of cells (get_or items p d))))
      → MatchOption o (a ≡ None) (λ p. (p < length items) × ((d : Frame) → a ≡ Some (frame_of cells (get_or items p d))))
  outside_same a b None items same is = same ∙ is
  outside_same a b (Some p) items same is = (is.0, λ d. same ∙ is.1 d)

  -- ---- sequences

  pub sequence_by_none : (n end : ℕ) (items : List Frame) → end ≤ length items → IsPlace items end n None → sequence_at n (oldest end (frames_onto cells [] items)) ≡ None
  sequence_by_none n end items h is =
      ap (λ fs. sequence_at n fs) (oldest_take cells end items) ∙ missed (λ fs. sequence_at n fs) n (sequence_passes n) end items h is

  pub sequence_by_place : (n m end place : ℕ) (items : List Frame) (x : Frame) → end ≤ length items → IsNumbered m (frames_onto cells [] items) → IsPlace items end n (Some place) → x ≡ get_or items place x
      → sequence_at n (oldest end (frames_onto cells [] items)) ≡ sequence_in (binding_of (drop x.cells cells) x.binding)
  sequence_by_place n m end place items x h numbered at read =
      ap (λ fs. sequence_at n fs) (oldest_take cells end items)
      ∙ found_at (λ fs. sequence_at n fs) n (sequence_passes n) m end place items x numbered h at.0 (at.1 x)
      ∙ cond-true (nat_eq n (get_or items place x).number) _ _ (eq-eqb n (get_or items place x).number (sym (at.1 x)))
      ∙ ap (λ (f : Frame). sequence_in (binding_of (drop f.cells cells) f.binding)) (sym read)

  -- ---- a frame binds something else

  -- where no frame has the number, nothing changes
  binding_passed : (n : ℕ) (change : states.Binding → states.Binding) (e : ℕ) (xs : List Frame) (d : Frame) → e ≤ length xs → ((j : ℕ) → j < e → (get_or xs j d).number ≡ n → ⊥)
      → with_binding n change (frames_onto cells [] (take e xs)) ≡ frames_onto cells [] (take e xs)
  binding_passed n change zero xs d h differ = refl
  binding_passed n change (suc e) xs d h differ =
      let one : suc e ≡ e + 1 = omega arith in
      ap (λ k. with_binding n change (frames_onto cells [] (take k xs))) one
      ∙ ap (λ fs. with_binding n change fs) (frames_more cells xs e d (omega arith))
      ∙ cond-false (nat_eq n (get_or xs e d).number) _ _ (differs n (get_or xs e d).number (differ e (omega arith)))
      ∙ ap (λ fs. frame_of cells (get_or xs e d) ∷ fs) (binding_passed n change e xs d (omega arith) (λ j lt. differ j (omega arith)))
      ∙ sym (frames_more cells xs e d (omega arith))
      ∙ ap (λ k. frames_onto cells [] (take k xs)) (sym one)

  binding_missed : (n : ℕ) (change : states.Binding → states.Binding) (xs : List Frame) → ((j : ℕ) (d : Frame) → j < length xs → (get_or xs j d).number ≡ n → ⊥)
      → with_binding n change (frames_onto cells [] xs) ≡ frames_onto cells [] xs
  binding_missed n change [] differ = refl
  binding_missed n change (x ∷ xs) differ =
      let all : take (length (x ∷ xs)) (x ∷ xs) ≡ x ∷ xs = take_all (length (x ∷ xs)) (x ∷ xs) (omega arith) in
      ap (λ ys. with_binding n change (frames_onto cells [] ys)) (sym all)
      ∙ binding_passed n change (length (x ∷ xs)) (x ∷ xs) x (omega arith) (λ j. differ j x)
      ∙ ap (frames_onto cells []) all

  pub binding_by_none : (n end : ℕ) (change : states.Binding → states.Binding) (items : List Frame) → end ≡ length items → IsPlace items end n None
      → with_binding n change (frames_onto cells [] items) ≡ frames_onto cells [] items
  binding_by_none n end change items all is = binding_missed n change items (λ j d lt. is j d (omega arith))

  -- the frame at a place is another, by the cells that are now, and the others are as they were
  module _ (n m place : ℕ) (change : states.Binding → states.Binding) (now : List Datum) (xs ys : List Frame) (d : Frame) (is : IsNumbered m (frames_onto cells [] xs)) (long : length ys ≡ length xs)
      (lt : place < length xs) (at : (get_or xs place d).number ≡ n) (made : frame_of now (get_or ys place d) ≡ record (frame_of cells (get_or xs place d)) { binding = change (frame_of cells (get_or xs place d)).binding })
      (same : (k : ℕ) → k < length xs → (k ≡ place → ⊥) → frame_of now (get_or ys k d) ≡ frame_of cells (get_or xs k d)) where
    older : (e : ℕ) → e ≤ place → frames_onto now [] (take e ys) ≡ frames_onto cells [] (take e xs)
    older zero h = refl
    older (suc e) h =
        let one : suc e ≡ e + 1 = omega arith in
        ap (λ k. frames_onto now [] (take k ys)) one
        ∙ frames_more now ys e d (omega (arith, long, lt))
        ∙ ap₂ (λ (f : states.Frame) (fs : List states.Frame). f ∷ fs) (same e (omega (arith, lt)) (λ q. absurd (omega arith))) (older e (omega arith))
        ∙ sym (frames_more cells xs e d (omega (arith, lt)))
        ∙ ap (λ k. frames_onto cells [] (take k xs)) (sym one)

    front : (e : ℕ) → (place + 1) + e ≤ length xs → with_binding n change (frames_onto cells [] (take ((place + 1) + e) xs)) ≡ frames_onto now [] (take ((place + 1) + e) ys)
    front zero h =
        let one : (place + 1) + zero ≡ place + 1 = omega arith in
        ap (λ k. with_binding n change (frames_onto cells [] (take k xs))) one
        ∙ ap (λ fs. with_binding n change fs) (frames_more cells xs place d lt)
        ∙ cond-true (nat_eq n (get_or xs place d).number) _ _ (eq-eqb n (get_or xs place d).number (sym at))
        ∙ ap₂ (λ (f : states.Frame) (fs : List states.Frame). f ∷ fs) (sym made) (sym (older place (omega arith)))
        ∙ sym (frames_more now ys place d (omega (arith, long, lt)))
        ∙ ap (λ k. frames_onto now [] (take k ys)) (sym one)
    front (suc e) h =
        let i : ℕ = (place + 1) + e in
        let one : (place + 1) + suc e ≡ i + 1 = omega arith in
        let rises = numbers_rise m place i xs d is (omega arith) (omega arith) in
        ap (λ k. with_binding n change (frames_onto cells [] (take k xs))) one
        ∙ ap (λ fs. with_binding n change fs) (frames_more cells xs i d (omega arith))
        ∙ cond-false (nat_eq n (get_or xs i d).number) _ _ (differs n (get_or xs i d).number (λ q. absurd (omega (arith, q, rises, at))))
        ∙ ap₂ (λ (f : states.Frame) (fs : List states.Frame). f ∷ fs) (sym (same i (omega arith) (λ q. absurd (omega arith)))) (front e (omega arith))
        ∙ sym (frames_more now ys i d (omega (arith, long, h)))
        ∙ ap (λ k. frames_onto now [] (take k ys)) (sym one)

    pub binding_at : with_binding n change (frames_onto cells [] xs) ≡ frames_onto now [] ys
    binding_at =
        let e : (place + 1) + (length xs - (place + 1)) ≡ length xs = omega (arith, lt) in
        ap (λ zs. with_binding n change (frames_onto cells [] zs)) (sym (take_all (length xs) xs (omega arith)))
        ∙ ap (λ k. with_binding n change (frames_onto cells [] (take k xs))) (sym e)
        ∙ front (length xs - (place + 1)) (omega (arith, lt))
        ∙ ap (λ k. frames_onto now [] (take k ys)) e
        ∙ ap (frames_onto now []) (take_all (length xs) ys (omega (arith, long)))

  -- the frame that is set at a place
  pub binding_by_place : (n m end place : ℕ) (change : states.Binding → states.Binding) (items : List Frame) (x y : Frame) → end ≡ length items → IsNumbered m (frames_onto cells [] items) → IsPlace items end n (Some place)
      → x ≡ get_or items place x → frame_of cells y ≡ record (frame_of cells x) { binding = change (frame_of cells x).binding } → with_binding n change (frames_onto cells [] items) ≡ frames_onto cells [] (set items place y)
  binding_by_place n m end place change items x y all numbered at read made =
      let below = at.0 in
      let lt : place < length items = omega arith in
      binding_at n m place change cells items (set items place y) x numbered (length-set items place y) lt (at.1 x)
      (ap (λ (f : Frame). frame_of cells f) (get_or-set_same items place y x lt) ∙ made ∙ ap (λ (f : Frame). record (frame_of cells f) { binding = change (frame_of cells f).binding }) read)
      (λ k within other. ap (λ (f : Frame). frame_of cells f) (get_or-set_other items place k y x other))
