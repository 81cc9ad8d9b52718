-- The registers of the stack of data, and what operations on them keep.
use Rattle.std.proofs.Common.{◌≡◌, ℕ, zero, suc, ◌<◌, ◌≤◌, List, [], ◌∷◌, length, refl, sym, ap, ◌∙◌, arith}
use Rattle.fy_base.specs.declared.data.Datum.{Datum}
use Rattle.rv_word.specs.declared.micros.Register.{Register}
use Rattle.rv_word.specs.declared.micros.Register.TheVariants.{Third}
use Rattle.rv_word.specs.Word.{Named, get, set, Data}
use Rattle.rv_operators.specs.Operators.{word_of}
use Rattle.rv_operators.specs.Laws.{IsDatum}
use Rattle.rv_straight.specs.Straight.{slot}
use Rattle.rv_straight.specs.Laws.{Keeps}

-- data with another value of a register
abbrev pub with_value : Register → ℕ → Data → Data
with_value r v e = record e { named = set e.named r v }

-- ---- registers that are set are read

pub read_same : (j : ℕ) (n : Named) (v : ℕ) → get (set n (slot j) v) (slot j) ≡ v
read_same zero n v = refl
read_same (suc zero) n v = refl
read_same (suc (suc j)) n v = refl

pub read_third : (j : ℕ) (n : Named) (v : ℕ) → get (set n Third v) (slot j) ≡ get n (slot j)
read_third zero n v = refl
read_third (suc zero) n v = refl
read_third (suc (suc j)) n v = refl

third_kept : (j : ℕ) (n : Named) (v : ℕ) → (set n (slot j) v).third ≡ n.third
third_kept zero n v = refl
third_kept (suc zero) n v = refl
third_kept (suc (suc j)) n v = refl

-- an older place, and the next one
read_older : (i j : ℕ) (n : Named) (v : ℕ) → i < j → i < 2 → get (set n (slot j) v) (slot i) ≡ get n (slot i)
read_older zero zero n v lt small = absurd (omega arith)
read_older zero (suc zero) n v lt small = refl
read_older zero (suc (suc j)) n v lt small = refl
read_older (suc zero) zero n v lt small = absurd (omega arith)
read_older (suc zero) (suc zero) n v lt small = absurd (omega arith)
read_older (suc zero) (suc (suc j)) n v lt small = refl
read_older (suc (suc i)) j n v lt small = absurd (omega arith)

read_next : (i : ℕ) (n : Named) (v : ℕ) → i < 2 → get (set n (slot i) v) (slot (suc i)) ≡ get n (slot (suc i))
read_next zero n v small = refl
read_next (suc zero) n v small = refl
read_next (suc (suc i)) n v small = absurd (omega arith)

-- ---- what is kept

pub keeps_itself : (e : Data) → Keeps e e
keeps_itself e = record { frame = refl; context = refl; top = refl; words = refl; input = refl; output = refl }

pub keeps_then : (e f g : Data) → Keeps e f → Keeps f g → Keeps e g
keeps_then e f g h k = record {
  frame = k.frame ∙ h.frame;
  context = k.context ∙ h.context;
  top = k.top ∙ h.top;
  words = k.words ∙ h.words;
  input = k.input ∙ h.input;
  output = k.output ∙ h.output;
}

keeps_slot : (j : ℕ) (e : Data) (v : ℕ) → Keeps e (with_value (slot j) v e)
keeps_slot zero e v = record { frame = refl; context = refl; top = refl; words = refl; input = refl; output = refl }
keeps_slot (suc zero) e v = record { frame = refl; context = refl; top = refl; words = refl; input = refl; output = refl }
keeps_slot (suc (suc j)) e v = record { frame = refl; context = refl; top = refl; words = refl; input = refl; output = refl }

-- that, and the data of the places before one
pub record Same (n : ℕ) (e f : Data) : Type 0 where
  pub keeps : Keeps e f
  pub older : (j : ℕ) → j < n → get f.named (slot j) ≡ get e.named (slot j)

pub same_itself : (n : ℕ) (e : Data) → Same n e e
same_itself n e = record { keeps = keeps_itself e; older = λ j lt. refl }

pub same_then : (n : ℕ) (e f g : Data) → Same n e f → Same n f g → Same n e g
same_then n e f g h k = record { keeps = keeps_then e f g h.keeps k.keeps; older = λ j lt. k.older j lt ∙ h.older j lt }

pub set_third : (n : ℕ) (e : Data) (v : ℕ) → Same n e (with_value Third v e)
set_third n e v = record {
  keeps = record { frame = refl; context = refl; top = refl; words = refl; input = refl; output = refl };
  older = λ j lt. read_third j e.named v;
}

pub set_slot : (n j : ℕ) (e : Data) (v : ℕ) → n ≤ j → n ≤ 2 → Same n e (with_value (slot j) v e)
set_slot n j e v le few = record { keeps = keeps_slot j e v; older = λ i lt. read_older i j e.named v (omega arith) (omega arith) }

-- ---- the stack, with the newest datum first

abbrev pub Holds : List Datum → Data → Type 0
Holds [] e = Unit {0}
Holds (v ∷ stack) e = (get e.named (slot (length stack)) ≡ word_of v) × IsDatum v × Holds stack e

pub holds_same : (stack : List Datum) (n : ℕ) (e f : Data) → length stack ≤ n → Same n e f → Holds stack e → Holds stack f
holds_same [] n e f le same h = tt
holds_same (v ∷ stack) n e f le same h = (same.older (length stack) (omega arith) ∙ h.0, h.1, holds_same stack n e f (omega arith) same h.2)

-- ---- one operand, and the register to work in

pub record One (i : ℕ) (e : Data) (a c : ℕ) (f : Data) : Type 0 where
  pub same : Same i e f
  pub here : get f.named (slot i) ≡ a
  pub third : f.named.third ≡ c

pub one_here : {i : ℕ} {e f : Data} {a c : ℕ} (v : ℕ) → i < 3 → One i e a c f → One i e v c (with_value (slot i) v f)
one_here {i} {e} {f} v lt h = record {
  same = same_then i e f (with_value (slot i) v f) h.same (set_slot i i f v (omega arith) (omega arith));
  here = read_same i f.named v;
  third = third_kept i f.named v ∙ h.third;
}

pub one_third : {i : ℕ} {e f : Data} {a c : ℕ} (v : ℕ) → One i e a c f → One i e a v (with_value Third v f)
one_third {i} {e} {f} v h = record {
  same = same_then i e f (with_value Third v f) h.same (set_third i f v);
  here = read_third i f.named v ∙ h.here;
  third = refl;
}

-- ---- two operands

pub record Two (i : ℕ) (e : Data) (a b c : ℕ) (f : Data) : Type 0 where
  pub same : Same i e f
  pub left : get f.named (slot i) ≡ a
  pub right : get f.named (slot (suc i)) ≡ b
  pub third : f.named.third ≡ c

pub two_left : {i : ℕ} {e f : Data} {a b c : ℕ} (v : ℕ) → i < 2 → Two i e a b c f → Two i e v b c (with_value (slot i) v f)
two_left {i} {e} {f} v lt h = record {
  same = same_then i e f (with_value (slot i) v f) h.same (set_slot i i f v (omega arith) (omega arith));
  left = read_same i f.named v;
  right = read_next i f.named v lt ∙ h.right;
  third = third_kept i f.named v ∙ h.third;
}

pub two_right : {i : ℕ} {e f : Data} {a b c : ℕ} (v : ℕ) → i < 2 → Two i e a b c f → Two i e a v c (with_value (slot (suc i)) v f)
two_right {i} {e} {f} v lt h = record {
  same = same_then i e f (with_value (slot (suc i)) v f) h.same (set_slot i (suc i) f v (omega arith) (omega arith));
  left = read_older i (suc i) f.named v (omega arith) lt ∙ h.left;
  right = read_same (suc i) f.named v;
  third = third_kept (suc i) f.named v ∙ h.third;
}

pub two_third : {i : ℕ} {e f : Data} {a b c : ℕ} (v : ℕ) → Two i e a b c f → Two i e a b v (with_value Third v f)
two_third {i} {e} {f} v h = record {
  same = same_then i e f (with_value Third v f) h.same (set_third i f v);
  left = read_third i f.named v ∙ h.left;
  right = read_third (suc i) f.named v ∙ h.right;
  third = refl;
}
