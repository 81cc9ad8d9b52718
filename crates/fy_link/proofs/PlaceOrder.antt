-- Places grow along a text, so each beginning of it ends at a place of its own.
use Rattle.std.proofs.Common.{◌≡◌, ◌⊎◌, inl, inr, ℕ, ◌+◌, ◌<◌, ◌≤◌, [], ◌∷◌, ◌++◌, length, take, drop, get_or, Bool, true, false, eqb-true, eq-eqb, below_more, refl, sym, ap, ◌∙◌, subst, arith}
use Rattle.std.specs.Prelude.{◌==◌, ◌&&◌, if◌then◌else◌}
use Rattle.std.proofs.lemmas.List.{length-append, length-take-le, take-append-drop, take_at, take_more, drop_at, append_assoc}
use Rattle.fy_base.specs.Outside.{Bytes}
use Rattle.fy_base.specs.Places.{first_place, next_line, columns_on}
use Rattle.fy_base.specs.declared.data.Place.{Place}
use Rattle.fy_base.proofs.PlaceLemmas.{place-equal}
use Rattle.fy_lexer.specs.Spot.{past, past_byte}
use Rattle.fy_lexer.proofs.ReadingLemmas.{past-then}
use Rattle.fy_lexer.proofs.RunLemmas.{and-left, and-right}
use Rattle.fy_link.specs.Joined.{IsTail}

-- a place in a later line, or further in the same line
abbrev IsLater : Place → Place → Type 0
IsLater p q = (p.line < q.line) ⊎ ((p.line ≡ q.line) × (p.col < q.col))

later-then : (p q r : Place) → IsLater p q → IsLater q r → IsLater p r
later-then p q r (inl h) (inl k) = inl (omega arith)
later-then p q r (inl h) (inr k) = inl (omega arith)
later-then p q r (inr h) (inl k) = inl (omega arith)
later-then p q r (inr h) (inr k) = inr (omega arith, omega arith)

later-apart : (p q : Place) → IsLater p q → p ≡ q → ⊥
later-apart p q (inl h) e = let k : p.line ≡ q.line = ap (λ (x : Place). x.line) e in omega arith
later-apart p q (inr h) e = let k : p.col ≡ q.col = ap (λ (x : Place). x.col) e in omega arith

later-tested : (at : Place) (b : Bool) → IsLater at (if b then next_line at else columns_on 1 at)
later-tested at true = inl (omega arith)
later-tested at false = inr (refl, omega arith)

later-past : (at : Place) (b : ℕ) (bytes : Bytes) → IsLater at (past at (b ∷ bytes))
later-past at b [] = later-tested at (b == 10)
later-past at b (c ∷ bytes) = later-then at (past_byte at b) (past (past_byte at b) (c ∷ bytes)) (later-tested at (b == 10)) (later-past (past_byte at b) c bytes)

-- two beginnings of a text that end at one place are the same
pub heads-same : (at : Place) (a b x y : Bytes) → a ++ x ≡ b ++ y → past at a ≡ past at b → a ≡ b
heads-same at [] [] x y e p = refl
heads-same at [] (c ∷ b) x y e p = absurd (later-apart at (past at (c ∷ b)) (later-past at c b) p)
heads-same at (c ∷ a) [] x y e p = absurd (later-apart at (past at (c ∷ a)) (later-past at c a) (sym p))
heads-same at (c ∷ a) (d ∷ b) x y e p =
    let first : c ≡ d = cc in
    let rest : a ++ x ≡ b ++ y = cc in
    let more : a ≡ b = heads-same (past_byte at c) a b x y rest (p ∙ ap (λ n. past (past_byte at n) b) (sym first)) in
    cc

drop-equals : (head tail : Bytes) → drop (length head + 2) (head ++ (61 ∷ 61 ∷ tail)) ≡ tail
drop-equals head tail =
    ap (drop (length head + 2)) (sym (append_assoc head (61 ∷ 61 ∷ []) tail)) ∙ drop_at (head ++ (61 ∷ 61 ∷ [])) tail (length head + 2) (omega (arith, length-append head (61 ∷ 61 ∷ [])))

-- where the beginning with so many bytes ends at the place of the `==`, what stands two bytes behind it is the tail
pub record IsTailBehind (text : Bytes) (at : Place) (i : ℕ) : Type 0 where
  pub within : i + 2 ≤ length text
  pub tail : IsTail text at (drop (i + 2) text)

pub tail-behind : (text : Bytes) (at : Place) (i : ℕ) (rest : Bytes) → IsTail text at rest → i ≤ length text → past first_place (take i text) ≡ at → IsTailBehind text at i
tail-behind text at i rest t h e =
    let same : take i text ≡ t.head =
    heads-same first_place (take i text) t.head (drop i text) (61 ∷ 61 ∷ rest) (take-append-drop i text ∙ t.is) (e ∙ sym t.place) in
    let size : length t.head ≡ i = sym (ap length same) ∙ length-take-le i text h in
    let dropped : drop (i + 2) text ≡ rest =
    subst (λ n. drop (n + 2) text ≡ rest) size (ap (drop (length t.head + 2)) t.is ∙ drop-equals t.head rest) in
    record {
      within = omega (arith, ap length t.is, length-append t.head (61 ∷ 61 ∷ rest));
      tail = subst (IsTail text at) (sym dropped) t;
    }

-- the tail's `==` has the place behind some beginning of the text that isn't all of it
pub tail-somewhere : (text : Bytes) (at : Place) (rest : Bytes) → IsTail text at rest → ((k : ℕ) → k < length text → past first_place (take k text) ≡ at → ⊥) → ⊥
tail-somewhere text at rest t h =
    h (length t.head) (omega (arith, ap length t.is, length-append t.head (61 ∷ 61 ∷ rest)))
    (ap (past first_place) (ap (take (length t.head)) t.is ∙ take_at t.head (61 ∷ 61 ∷ rest) (length t.head) refl) ∙ t.place)

pub past-more : (at : Place) (text : Bytes) (i : ℕ) → i < length text → past at (take (i + 1) text) ≡ past_byte (past at (take i text)) (get_or text i 0)
past-more at text i h = ap (past at) (take_more text i 0 h) ∙ sym (past-then at (past at (take i text)) (take i text) (get_or text i 0 ∷ []) refl)

abbrev are_same : Place → Place → Bool
are_same a b = (a.line == b.line) && (a.col == b.col)

pub place-same : (a b : Place) → true ≡ are_same a b → a ≡ b
place-same a b e =
    place-equal a b (eqb-true a.line b.line (and-left (a.line == b.line) (a.col == b.col) (sym e)))
    (eqb-true a.col b.col (and-right (a.line == b.line) (a.col == b.col) (sym e)))

same-refl : (a : Place) → true ≡ are_same a a
same-refl a = sym (ap (λ x. x && (a.col == a.col)) (eq-eqb a.line a.line refl) ∙ eq-eqb a.col a.col refl)

pub place-other : (a b : Place) → false ≡ are_same a b → a ≡ b → ⊥
place-other a b e k = let h : true ≡ false = same-refl a ∙ (ap (are_same a) k ∙ sym e) in absurd (cc)

-- no beginning of the text with fewer bytes ends at that place
abbrev pub IsBefore : Bytes → Place → ℕ → Type 0
IsBefore text at i = (k : ℕ) → k < i → past first_place (take k text) ≡ at → ⊥

pub before-more : (text : Bytes) (at : Place) (i : ℕ) → IsBefore text at i → (past first_place (take i text) ≡ at → ⊥) → IsBefore text at (i + 1)
before-more text at i h n = below_more (λ k. past first_place (take k text) ≡ at → ⊥) i h n
