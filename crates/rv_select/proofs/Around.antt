-- Frames around one another, among the items.
use Rattle.std.proofs.Common.{◌≡◌, ℕ, zero, suc, ◌+◌, ◌<◌, ◌≤◌, Bool, true, false, cond, List, [], ◌∷◌, length, set, Some, None, refl, sym, ap, ◌∙◌, arith}
use Rattle.std.proofs.lemmas.Bool.{cond-true, cond-false, cond_both, eqb-true, eqb-false, eq-eqb, ne_eqb}
use Rattle.std.proofs.lemmas.Option.{same_Some}
use Rattle.std.proofs.lemmas.List.{length-set}
use Rattle.std.specs.Prelude.{nat_eq}
use Rattle.std.specs.declared.option.Option.{Option}
use Rattle.fy_base.specs.declared.data.Datum.{Datum}
use Rattle.pe_frame.specs.Frames.{frame_words}
use Rattle.fy_phrase.specs.Copy.{Which, own, element}
use Rattle.pe_machine.specs.States.{is_named, source, datum, cell_of, jump_of, sequence_of, Sequence, Thunk}
use Rattle.pe_code.specs.declared.code.PeCode.{PeCode}
use Rattle.pe_items.specs.Items.{ItemBinding, to_thunk, to_cell, to_escape, Item, frame, context, sequence, words, address_on, from_frame, frame_from, handed_on, with_datum, with_cell, datum_in, datum_at, sequence_at, with_element, with_value}
use Rattle.rv_select.specs.Layout.{frames_from, address_found, IsGoodThunk, IsGoodBinding}

-- a choice by whether two numbers are the same
pub by_eq : {X : Type 0} (P : X → Type 0) (x a : ℕ) (p q : X) → (x ≡ a → P p) → ((x ≡ a → ⊥) → P q) → P (cond (nat_eq x a) p q)
by_eq P x a p q h k = cond_both (nat_eq x a) p q P (λ t. h (eqb-true x a t)) (λ f. k (eqb-false x a f))

-- a frame has its binding, a third word and its display
pub frame_room : (d : ℕ) → 3 + d ≤ frame_words d
frame_room zero = omega arith
frame_room (suc d) = omega arith

pub frame_most : (d : ℕ) → d ≤ 512 → frame_words d ≤ 520
frame_most zero h = omega arith
frame_most (suc d) h = omega arith

-- ---- how many frames there are from one on

pub frames_none : (is : List Item) → frames_from is None ≡ Some 0
frames_none [] = refl
frames_none (frame d b a ∷ is) = refl
frames_none (context c o ∷ is) = refl
frames_none (sequence c ∷ is) = refl

pub frames_here : (d : ℕ) (b : ItemBinding) (around : Option ℕ) (is : List Item) → frames_from (frame d b around ∷ is) (Some (address_on is)) ≡ Some (suc d)
frames_here d b around is = cond-true (nat_eq (address_on is) (address_on is)) (Some (suc d)) (frames_from is (Some (address_on is))) (eq-eqb (address_on is) (address_on is) refl)

-- a frame stands below the top
pub frames_below : (is : List Item) (x d : ℕ) → frames_from is (Some x) ≡ Some d → x < address_on is
frames_below [] x d h = absurd (cc)
frames_below (context c o ∷ is) x d h = let below = frames_below is x d h in omega arith
frames_below (sequence c ∷ is) x d h = let below = frames_below is x d h in omega arith
frames_below (frame n b around ∷ is) x d h =
    by_eq (λ o. o ≡ Some d → x < address_on (frame n b around ∷ is)) x (address_on is) (Some (suc n)) (frames_from is (Some x))
    (λ same k. let room = frame_room n in omega arith)
    (λ other k. let below = frames_below is x d k in omega arith)
    h

-- what stands on top changes nothing
pub frames_more : (i : Item) (is : List Item) (f : Option ℕ) (d : ℕ) → frames_from is f ≡ Some d → frames_from (i ∷ is) f ≡ Some d
frames_more i is None d h = frames_none (i ∷ is) ∙ sym (frames_none is) ∙ h
frames_more (context c o) is (Some x) d h = h
frames_more (sequence c) is (Some x) d h = h
frames_more (frame n b around) is (Some x) d h =
    let below = frames_below is x d h in
    cond-false (nat_eq x (address_on is)) (Some (suc n)) (frames_from is (Some x)) (ne_eqb x (address_on is) (λ same. omega arith)) ∙ h

-- ---- goodness, with other frames

pub thunk_deeper : (code : PeCode) (p q : Option ℕ → Option ℕ) → ((f : Option ℕ) (d : ℕ) → p f ≡ Some d → q f ≡ Some d) → (t : Thunk) → IsGoodThunk code p t → IsGoodThunk code q t
thunk_deeper code p q h (source n f) g = (g.0, g.1, h f g.0 g.2)
thunk_deeper code p q h (datum v) g = g
thunk_deeper code p q h (cell_of x) g = tt
thunk_deeper code p q h (jump_of x) g = tt
thunk_deeper code p q h (sequence_of x) g = tt

-- what a frame hands on
pub handed_good : (code : PeCode) (depths : Option ℕ → Option ℕ) (x : ℕ) (b : ItemBinding) → IsGoodBinding code depths b → IsGoodThunk code depths (handed_on x b)
handed_good code depths x (to_thunk t) g = g
handed_good code depths x (to_cell v) g = tt
handed_good code depths x (to_escape c) g = tt

-- ---- the frame so many frames outside one

pub from_here : (d : ℕ) (b : ItemBinding) (around : Option ℕ) (is : List Item) (k : ℕ)
    → frame_from (frame d b around ∷ is) k (Some (address_on is)) ≡ from_frame k (record { address = address_on is; binding = b }) (λ j. frame_from is j around)
from_here d b around is k =
    cond-true (nat_eq (address_on is) (address_on is)) (from_frame k (record { address = address_on is; binding = b }) (λ j. frame_from is j around)) (frame_from is k (Some (address_on is)))
    (eq-eqb (address_on is) (address_on is) refl)

pub from_else : (d : ℕ) (b : ItemBinding) (around : Option ℕ) (is : List Item) (k x : ℕ) → (x ≡ address_on is → ⊥)
    → frame_from (frame d b around ∷ is) k (Some x) ≡ frame_from is k (Some x)
from_else d b around is k x other =
    cond-false (nat_eq x (address_on is)) (from_frame k (record { address = address_on is; binding = b }) (λ j. frame_from is j around)) (frame_from is k (Some x)) (ne_eqb x (address_on is) other)

pub from_none : (is : List Item) (k : ℕ) → frame_from is k None ≡ None
from_none [] k = refl
from_none (context c o ∷ is) k = from_none is k
from_none (sequence c ∷ is) k = from_none is k
from_none (frame d b around ∷ is) k = from_none is k

-- the first is the frame itself
pub from_itself : (is : List Item) (x y : ℕ) → address_found (frame_from is 0 (Some x)) ≡ Some y → y ≡ x
from_itself [] x y h = absurd (cc)
from_itself (context c o ∷ is) x y h = from_itself is x y h
from_itself (sequence c ∷ is) x y h = from_itself is x y h
from_itself (frame d b around ∷ is) x y h =
    by_eq (λ o. address_found o ≡ Some y → y ≡ x) x (address_on is) (Some (record { address = address_on is; binding = b })) (frame_from is 0 (Some x))
    (λ same k. let e = same_Some (address_on is) y k in omega arith)
    (λ other k. from_itself is x y k)
    h

-- ---- a cell with another datum

pub words_with : (x : ℕ) (v : Datum) (is : List Item) → words (with_cell x v is) ≡ words is
words_with x v [] = refl
words_with x v (context c o ∷ is) = ap (λ n. n + 4) (words_with x v is)
words_with x v (sequence c ∷ is) = ap (λ n. n + length c.values) (words_with x v is)
words_with x v (frame d b around ∷ is) =
    by_eq (λ (o : List Item). words o ≡ words (frame d b around ∷ is)) x (address_on is) (frame d (with_datum v b) around ∷ is) (frame d b around ∷ with_cell x v is)
    (λ same. refl)
    (λ other. ap (λ n. n + frame_words d) (words_with x v is))

pub address_with : (x : ℕ) (v : Datum) (is : List Item) → address_on (with_cell x v is) ≡ address_on is
address_with x v is = ap suc (words_with x v is)

pub frames_with : (x : ℕ) (v : Datum) (is : List Item) (f : Option ℕ) → frames_from (with_cell x v is) f ≡ frames_from is f
frames_with x v is None = frames_none (with_cell x v is) ∙ sym (frames_none is)
frames_with x v [] (Some y) = refl
frames_with x v (context c o ∷ is) (Some y) = frames_with x v is (Some y)
frames_with x v (sequence c ∷ is) (Some y) = frames_with x v is (Some y)
frames_with x v (frame d b around ∷ is) (Some y) =
    by_eq (λ (o : List Item). frames_from o (Some y) ≡ frames_from (frame d b around ∷ is) (Some y)) x (address_on is) (frame d (with_datum v b) around ∷ is) (frame d b around ∷ with_cell x v is)
    (λ same. refl)
    (λ other.
    ap (λ a. cond (nat_eq y a) (Some (suc d)) (frames_from (with_cell x v is) (Some y))) (address_with x v is)
    ∙ ap (λ o. cond (nat_eq y (address_on is)) (Some (suc d)) o) (frames_with x v is (Some y)))

pub found_with : (x : ℕ) (v : Datum) (is : List Item) (k : ℕ) (f : Option ℕ) → address_found (frame_from (with_cell x v is) k f) ≡ address_found (frame_from is k f)
found_with x v [] k f = refl
found_with x v (context c o ∷ is) k f = found_with x v is k f
found_with x v (sequence c ∷ is) k f = found_with x v is k f
found_with x v (frame d b around ∷ is) k f =
    by_eq (λ (o : List Item). address_found (frame_from o k f) ≡ address_found (frame_from (frame d b around ∷ is) k f)) x (address_on is) (frame d (with_datum v b) around ∷ is) (frame d b around ∷ with_cell x v is)
    (λ same. changed (is_named f (address_on is)) k)
    (λ other.
    ap (λ a. address_found (cond (is_named f a) (from_frame k (record { address = a; binding = b }) (λ j. frame_from (with_cell x v is) j around)) (frame_from (with_cell x v is) k f))) (address_with x v is)
    ∙ kept (is_named f (address_on is)) k (λ j. found_with x v is j around) (found_with x v is k f))
  where
    changed : (t : Bool) (k : ℕ) → address_found (cond t (from_frame k (record { address = address_on is; binding = with_datum v b }) (λ j. frame_from is j around)) (frame_from is k f))
        ≡ address_found (cond t (from_frame k (record { address = address_on is; binding = b }) (λ j. frame_from is j around)) (frame_from is k f))
    changed true zero = refl
    changed true (suc k) = refl
    changed false k = refl

    kept : (t : Bool) (k : ℕ) → ((j : ℕ) → address_found (frame_from (with_cell x v is) j around) ≡ address_found (frame_from is j around))
        → address_found (frame_from (with_cell x v is) k f) ≡ address_found (frame_from is k f)
        → address_found (cond t (from_frame k (record { address = address_on is; binding = b }) (λ j. frame_from (with_cell x v is) j around)) (frame_from (with_cell x v is) k f))
        ≡ address_found (cond t (from_frame k (record { address = address_on is; binding = b }) (λ j. frame_from is j around)) (frame_from is k f))
    kept true zero h e = refl
    kept true (suc k) h e = h k
    kept false k h e = e

-- a cell that holds something is a whole frame
pub cell_below : (x : ℕ) (u : Datum) (is : List Item) → datum_at x is ≡ Some u → x + 3 ≤ address_on is
cell_below x u [] h = absurd (cc)
cell_below x u (context c o ∷ is) h = let below = cell_below x u is h in omega arith
cell_below x u (sequence c ∷ is) h = let below = cell_below x u is h in omega arith
cell_below x u (frame d b around ∷ is) h =
    by_eq (λ o. o ≡ Some u → x + 3 ≤ address_on (frame d b around ∷ is)) x (address_on is) (datum_in b) (datum_at x is)
    (λ same k. let room = frame_room d in omega arith)
    (λ other k. let below = cell_below x u is k in omega arith)
    h

-- ---- a cell of a sequence with another datum

pub words_element : (x i : ℕ) (v : Datum) (is : List Item) → words (with_element x i v is) ≡ words is
words_element x i v [] = refl
words_element x i v (context c o ∷ is) = ap (λ n. n + 4) (words_element x i v is)
words_element x i v (frame d b a ∷ is) = ap (λ n. n + frame_words d) (words_element x i v is)
words_element x i v (sequence c ∷ is) =
    by_eq (λ (o : List Item). words o ≡ words (sequence c ∷ is)) (x + 4) (address_on is) (sequence (record c { values = set c.values i v }) ∷ is) (sequence c ∷ with_element x i v is)
    (λ same. ap (λ n. words is + n) (length-set c.values i v))
    (λ other. ap (λ n. n + length c.values) (words_element x i v is))

pub address_element : (x i : ℕ) (v : Datum) (is : List Item) → address_on (with_element x i v is) ≡ address_on is
address_element x i v is = ap suc (words_element x i v is)

pub frames_element : (x i : ℕ) (v : Datum) (is : List Item) (f : Option ℕ) → frames_from (with_element x i v is) f ≡ frames_from is f
frames_element x i v is None = frames_none (with_element x i v is) ∙ sym (frames_none is)
frames_element x i v [] (Some y) = refl
frames_element x i v (context c o ∷ is) (Some y) = frames_element x i v is (Some y)
frames_element x i v (frame d b around ∷ is) (Some y) =
    ap (λ a. cond (nat_eq y a) (Some (suc d)) (frames_from (with_element x i v is) (Some y))) (address_element x i v is)
    ∙ ap (λ o. cond (nat_eq y (address_on is)) (Some (suc d)) o) (frames_element x i v is (Some y))
frames_element x i v (sequence c ∷ is) (Some y) =
    by_eq (λ (o : List Item). frames_from o (Some y) ≡ frames_from is (Some y)) (x + 4) (address_on is) (sequence (record c { values = set c.values i v }) ∷ is) (sequence c ∷ with_element x i v is)
    (λ same. refl)
    (λ other. frames_element x i v is (Some y))

pub found_element : (x i : ℕ) (v : Datum) (is : List Item) (k : ℕ) (f : Option ℕ) → address_found (frame_from (with_element x i v is) k f) ≡ address_found (frame_from is k f)
found_element x i v [] k f = refl
found_element x i v (context c o ∷ is) k f = found_element x i v is k f
found_element x i v (sequence c ∷ is) k f =
    by_eq (λ (o : List Item). address_found (frame_from o k f) ≡ address_found (frame_from is k f)) (x + 4) (address_on is) (sequence (record c { values = set c.values i v }) ∷ is) (sequence c ∷ with_element x i v is)
    (λ same. refl)
    (λ other. found_element x i v is k f)
found_element x i v (frame d b around ∷ is) k f =
    ap (λ a. address_found (cond (is_named f a) (from_frame k (record { address = a; binding = b }) (λ j. frame_from (with_element x i v is) j around)) (frame_from (with_element x i v is) k f))) (address_element x i v is)
    ∙ kept (is_named f (address_on is)) k (λ j. found_element x i v is j around) (found_element x i v is k f)
  where
    kept : (t : Bool) (k : ℕ) → ((j : ℕ) → address_found (frame_from (with_element x i v is) j around) ≡ address_found (frame_from is j around))
        → address_found (frame_from (with_element x i v is) k f) ≡ address_found (frame_from is k f)
        → address_found (cond t (from_frame k (record { address = address_on is; binding = b }) (λ j. frame_from (with_element x i v is) j around)) (frame_from (with_element x i v is) k f))
        ≡ address_found (cond t (from_frame k (record { address = address_on is; binding = b }) (λ j. frame_from is j around)) (frame_from is k f))
    kept true zero h e = refl
    kept true (suc k) h e = h k
    kept false k h e = e

-- a sequence stands whole below the top
pub sequence_below : (x : ℕ) (c : Sequence) (is : List Item) → sequence_at x is ≡ Some c → x + 4 + length c.values ≤ address_on is
sequence_below x c [] h = absurd (cc)
sequence_below x c (context k o ∷ is) h = let below = sequence_below x c is h in omega arith
sequence_below x c (frame d b around ∷ is) h = let below = sequence_below x c is h in let room = frame_room d in omega arith
sequence_below x c (sequence q ∷ is) h =
    by_eq (λ o. o ≡ Some c → x + 4 + length c.values ≤ address_on (sequence q ∷ is)) (x + 4) (address_on is) (Some q) (sequence_at x is)
    (λ same k. let long = ap (λ (z : Sequence). length z.values) (same_Some q c k) in omega arith)
    (λ other k. let below = sequence_below x c is k in omega arith)
    h

-- ---- items with the same frames at the same addresses

pub record AreAlike (is js : List Item) : Type 0 where
  pub address : address_on js ≡ address_on is
  pub frames : (f : Option ℕ) → frames_from js f ≡ frames_from is f
  pub found : (k : ℕ) (f : Option ℕ) → address_found (frame_from js k f) ≡ address_found (frame_from is k f)

pub alike_with : (which : Which) (x : ℕ) (v : Datum) (is : List Item) → AreAlike is (with_value which x v is)
alike_with own x v is = record { address = address_with x v is; frames = frames_with x v is; found = found_with x v is }
alike_with (element i) x v is = record { address = address_element x i v is; frames = frames_element x i v is; found = found_element x i v is }
