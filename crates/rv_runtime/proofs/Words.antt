-- Words of the stack that are read and written under a window.
use Rattle.std.proofs.Common.{◌≡◌, ℕ, zero, suc, ◌+◌, ◌-◌, ◌*◌, ◌%◌, ◌<◌, ◌≤◌, Bool, true, false, ◌&&◌, nat_le, nat_eq, if◌then◌else◌, List, ◌∷◌, length, slice_index, slice_set, refl, ap, ◌∙◌, inl, inr, arith, le-leb, eq-eqb, length-set, get_or-set_same, get_or-set_other}
use Rattle.std.proofs.lemmas.Bool.{cases_lt}
use Rattle.rv_insn.specs.Program.{stack_start}
use Rattle.rv_word.specs.declared.micros.Register.{Register}
use Rattle.rv_word.specs.declared.micros.Register.TheVariants.{Top, First, Third}
use Rattle.rv_word.specs.declared.micros.Micro.{Micro}
use Rattle.rv_word.specs.declared.micros.Micro.TheVariants.{Window, Get, Save}
use Rattle.rv_word.specs.Word.{Data, Code, hangs, wrong, get, set, limit, word_address, word_number, has_window, onward, written}
use Rattle.rv_runtime.specs.Routines.{copied_words}
use Rattle.rv_runtime.specs.Laws.{AreCopied}
use Rattle.rv_runtime.proofs.Runs.{Comes, at, stays, one, join, wider}

-- ---- one operation

has_window-is : (e : Data) (address k j : ℕ) → address ≡ word_address j → j + k ≤ length e.words → has_window e address k ≡ true
has_window-is e address k j here room =
    let low : nat_le stack_start address ≡ true = le-leb stack_start address (omega arith) in
    let high : nat_le (address + 8 * k) (limit e) ≡ true = le-leb (address + 8 * k) (limit e) (omega arith) in
    let even : nat_eq (address % 8) 0 ≡ true = eq-eqb (address % 8) 0 (omega arith) in
    ap (λ (b : Bool). b && (nat_le (address + 8 * k) (limit e) && nat_eq (address % 8) 0)) low ∙ ap (λ (b : Bool). b && nat_eq (address % 8) 0) high ∙ even

window_most : (t : Bool) → (if t then 5 else 8) ≤ 8
window_most true = omega arith
window_most false = omega arith

pub windows : (code : Code) (r : Register) (k j : ℕ) (rest : List Micro) (e : Data) → get e.named r ≡ word_address j → j + k ≤ length e.words → Comes code (at (Window r k ∷ rest) e) (at rest e) 1 8
windows code r k j rest e here room =
    wider 1 8 (omega arith) (window_most (nat_le k 255))
    (one code (at (Window r k ∷ rest) e) (at rest e) (ap (λ (b : Bool). if b then onward rest e else hangs e) (has_window-is e (get e.named r) k j here room)))

-- the data behind a read and behind a write
abbrev pub read : Register → ℕ → Data → Data
read r j e = record e { named = set e.named r (slice_index e.words j) }

abbrev pub saved : Register → ℕ → Data → Data
saved r j e = record e { words = slice_set e.words j (get e.named r) }

pub gets : (code : Code) (r s : Register) (k j : ℕ) (rest : List Micro) (e : Data) → get e.named s ≡ word_address j → j + suc k ≤ length e.words → Comes code (at (Get r s k ∷ rest) e) (at rest (read r (j + k) e)) 1 1
gets code r s k j rest e here room =
    let number : word_number (get e.named s) + k ≡ j + k = omega arith in
    let inside : j + (k + 1) ≤ length e.words = omega arith in
    one code (at (Get r s k ∷ rest) e) (at rest (read r (j + k) e))
    (ap (λ (b : Bool). if b then written rest r (slice_index e.words (word_number (get e.named s) + k)) e else wrong) (has_window-is e (get e.named s) (k + 1) j here inside)
    ∙ ap (λ i. written rest r (slice_index e.words i) e) number)

pub saves : (code : Code) (s r : Register) (k j : ℕ) (rest : List Micro) (e : Data) → get e.named s ≡ word_address j → j + suc k ≤ length e.words → Comes code (at (Save s k r ∷ rest) e) (at rest (saved r (j + k) e)) 1 1
saves code s r k j rest e here room =
    let number : word_number (get e.named s) + k ≡ j + k = omega arith in
    let inside : j + (k + 1) ≤ length e.words = omega arith in
    one code (at (Save s k r ∷ rest) e) (at rest (saved r (j + k) e))
    (ap (λ (b : Bool). if b then onward rest (saved r (word_number (get e.named s) + k) e) else wrong) (has_window-is e (get e.named s) (k + 1) j here inside)
    ∙ ap (λ i. onward rest (saved r i e)) number)

-- ---- copied words

pub copied-none : (a t : ℕ) (words : List ℕ) → AreCopied a t 0 words words
copied-none a t words = record { size = refl; copied = λ j h. absurd (omega arith); below = λ k h. refl; above = λ k h. refl }

-- one word before others
pub copied-more : (a t n a' t' : ℕ) (before after : List ℕ) → a' ≡ suc a → t' ≡ suc t → a + suc n ≤ t → t < length before → AreCopied a' t' n (slice_set before t (slice_index before a)) after → AreCopied a t (suc n) before after
copied-more a t n a' t' before after ea et apart room c =
    let w : ℕ = slice_index before a in
    record {
      size = c.size ∙ length-set before t w;
      copied = each;
      below = λ k h. c.below k (omega arith) ∙ get_or-set_other before t k w 0 (λ e. omega (arith, e));
      above = λ k h. c.above k (omega arith) ∙ get_or-set_other before t k w 0 (λ e. omega (arith, e));
    }
  where
    each : (j : ℕ) → j < suc n → slice_index after (t + j) ≡ slice_index before (a + j)
    each zero h =
        let here : t + zero ≡ t = omega arith in
        let there : a ≡ a + zero = omega arith in
        ap (slice_index after) here ∙ c.below t (omega arith) ∙ get_or-set_same before t (slice_index before a) 0 room ∙ ap (slice_index before) there
    each (suc j) h =
        let here : t + suc j ≡ t' + j = omega arith in
        let there : a' + j ≡ a + suc j = omega arith in
        ap (slice_index after) here ∙ c.copied j (omega arith) ∙ get_or-set_other before t (a' + j) (slice_index before a) 0 (λ e. omega (arith, e)) ∙ ap (slice_index before) there

-- words and then others
pub copied-also : (a t n m a' t' both : ℕ) (before middle after : List ℕ) → a' ≡ a + n → t' ≡ t + n → both ≡ n + m → a + both ≤ t → AreCopied a t n before middle → AreCopied a' t' m middle after → AreCopied a t both before after
copied-also a t n m a' t' both before middle after ea et eb apart first second =
    record {
      size = second.size ∙ first.size;
      copied = λ j h. elim (cases_lt j n) [ inl less ↦ near j less | inr more ↦ far j more h ];
      below = λ k h. second.below k (omega arith) ∙ first.below k h;
      above = λ k h. second.above k (omega arith) ∙ first.above k (omega arith);
    }
  where
    near : (j : ℕ) → j < n → slice_index after (t + j) ≡ slice_index before (a + j)
    near j less = second.below (t + j) (omega arith) ∙ first.copied j less

    far : (j : ℕ) → n ≤ j → j < both → slice_index after (t + j) ≡ slice_index before (a + j)
    far j more h =
        let here : t + j ≡ t' + (j - n) = omega arith in
        let there : a' + (j - n) ≡ a + j = omega arith in
        ap (slice_index after) here ∙ second.copied (j - n) (omega arith) ∙ first.below (a' + (j - n)) (omega arith) ∙ ap (slice_index before) there

-- ---- a row of copies

-- all but First and the words is as before
pub record KeepsMost (e f : Data) : Type 0 where
  pub frame : f.named.frame ≡ e.named.frame
  pub context : f.named.context ≡ e.named.context
  pub top : f.named.top ≡ e.named.top
  pub datum : f.named.datum ≡ e.named.datum
  pub second : f.named.second ≡ e.named.second
  pub third : f.named.third ≡ e.named.third
  pub input : f.input ≡ e.input
  pub output : f.output ≡ e.output

pub record CopiesRow (code : Code) (count start a t : ℕ) (rest : List Micro) (e : Data) : Type 0 where
  pub after : Data
  pub comes : Comes code (at (copied_words count start rest) e) (at rest after) 0 (2 * count)
  pub keeps : KeepsMost e after
  pub words : AreCopied (a + start) (t + start) count e.words after.words

pub copies_row : (code : Code) (count start a t : ℕ) (rest : List Micro) (e : Data) → e.named.third ≡ word_address a → e.named.top ≡ word_address t → a + (start + count) ≤ t → t + (start + count) ≤ length e.words
    → CopiesRow code count start a t rest e
copies_row code zero start a t rest e third top apart room =
    record {
      after = e;
      comes = stays code (at rest e);
      keeps = record { frame = refl; context = refl; top = refl; datum = refl; second = refl; third = refl; input = refl; output = refl };
      words = copied-none (a + start) (t + start) e.words;
    }
copies_row code (suc count) start a t rest e third top apart room =
    let others : List Micro = copied_words count (suc start) rest in
    let f : Data = read First (a + start) e in
    let g : Data = saved First (t + start) f in
    let size : length g.words ≡ length e.words = length-set e.words (t + start) (slice_index e.words (a + start)) in
    let get_it : Comes code (at (Get First Third start ∷ Save Top start First ∷ others) e) (at (Save Top start First ∷ others) f) 1 1 = gets code First Third start a (Save Top start First ∷ others) e third (omega arith) in
    let save_it : Comes code (at (Save Top start First ∷ others) f) (at others g) 1 1 = saves code Top First start t others f top (omega arith) in
    let row : CopiesRow code count (suc start) a t rest g = copies_row code count (suc start) a t rest g third top (omega arith) (omega (arith, size)) in
    let kept : KeepsMost g row.after = row.keeps in
    record {
      after = row.after;
      comes = wider 0 (2 * suc count) (omega arith) (omega arith) (join get_it (join save_it row.comes));
      keeps = record { frame = kept.frame; context = kept.context; top = kept.top; datum = kept.datum; second = kept.second; third = kept.third; input = kept.input; output = kept.output };
      words = copied-more (a + start) (t + start) count (a + suc start) (t + suc start) e.words row.after.words (omega arith) (omega arith) (omega arith) (omega arith) row.words;
    }
