-- Lists are read alike.
use Rattle.std.proofs.Common.{Bool, List, ap, arith, false, inr, length, refl, subst, suc, sym, true, zero, ℕ, ◌∙◌, ◌∷◌, ◌≡◌, ◌≤◌}
use Rattle.std.specs.Prelude.{Err, Ok}
use Rattle.fy_lexer.specs.declared.token.Token.{Token}
use Rattle.fy_lexer.specs.declared.token.TokenKind.{TokenKind}
use Rattle.fy_syntax.specs.Reader.{Read, behind, kind_at, mapped, ◌>>=◌}
use Rattle.fy_syntax.specs.Signs.{token}
use Rattle.fy_places.proofs.Alike.{AnswersAs, Follows, LeavesAtMost, SameKinds, same_first_kind, same_kinds_longer, same_kinds_longer_too}
use Rattle.fy_places.proofs.Following.{mapped_answers, mapped_leaves, then_answers, then_leaves}

-- at most so many tokens are left of what is read
abbrev pub LeavesIfRead : {A : Type 0} → ℕ → Read A → Type 0
LeavesIfRead most (Ok x) = length x.1 ≤ most
LeavesIfRead most (Err fault) = Unit {0}

pub leaves_if_read : {A : Type 0} (most : ℕ) (x : Read A) → LeavesAtMost most x → LeavesIfRead most x
leaves_if_read most (Ok x) u = u
leaves_if_read most (Err e) u = tt

pub read_leaves : {A : Type 0} (most : ℕ) (y : Read A) (x : A × List Token) → LeavesIfRead most y → y ≡ Ok x → length x.1 ≤ most
read_leaves most (Ok y) x u e = let s : y ≡ x = cc in subst (λ (z : _). length z.1 ≤ most) s u
read_leaves most (Err k) x u e = absurd cc

-- lists
pub record IsLoop {A B : Type 0} (c : TokenKind → Bool) (item : List Token → Read A) (list : ℕ → List Token → Read B) : Type 0 where
  pub empty : B
  pub none : (tokens : List Token) → list 0 tokens ≡ Ok (empty, tokens)
  pub stop : (g : ℕ) (tokens : List Token) → c (kind_at tokens) ≡ false → list (suc g) tokens ≡ Ok (empty, tokens)
  pub go : (g : ℕ) (tokens : List Token) → c (kind_at tokens) ≡ true → (h : A → B → B) × (list (suc g) tokens ≡ (item tokens >>= λ x. mapped (h x.0) (list g x.1)))

-- a token at least is taken
abbrev pub TakesToken : {A : Type 0} → (TokenKind → Bool) → (List Token → Read A) → Type 0
TakesToken {A = A} c item = (t : Token) (tokens : List Token) (x : A × List Token) → c t.kind ≡ true → item (t ∷ tokens) ≡ Ok x → length x.1 ≤ length tokens

loop_leaves : {A B : Type 0} (c : TokenKind → Bool) (item : List Token → Read A) (list : ℕ → List Token → Read B) → IsLoop c item list → ((most : ℕ) (here : List Token) → length here ≤ most → LeavesAtMost most (item here)) →
    (g most : ℕ) (here : List Token) → length here ≤ most → LeavesAtMost most (list g here)
loop_leaves c item list l u zero most here le = rw (l.none here) le
loop_leaves c item list l u (suc g) most here le = go (λ k e. loop_leaves c item list l u g most k e) (c (kind_at here)) refl
  where
    go : ((k : List Token) → length k ≤ most → LeavesAtMost most (list g k)) → (b : Bool) → c (kind_at here) ≡ b → LeavesAtMost most (list (suc g) here)
    go ih false e = rw (l.stop g here e) le
    go ih true e =
        let (h, f) = l.go g here e in
        subst (λ x. LeavesAtMost most x) (sym f) (then_leaves most (item here) (λ x. mapped (h x.0) (list g x.1)) (u most here le) (λ a k e2. mapped_leaves most (h a) (list g k) (ih k e2)))

loop_answers : {A B : Type 0} (excuse : Type 0) (c : TokenKind → Bool) (f g : List Token → Read A) (F G : ℕ → List Token → Read B) → IsLoop c f F → IsLoop c g G → TakesToken c f → TakesToken c g → Follows excuse f g →
    (k j : ℕ) (rest other_rest here there : List Token) → SameKinds rest other_rest here there → length here ≤ k → length there ≤ j → AnswersAs rest other_rest excuse (F k here) (G j there)
loop_answers excuse c f g F G l o s t h zero j rest other_rest here there a lm ln = absurd (omega (arith, same_kinds_longer a))
loop_answers excuse c f g F G l o s t h (suc k) zero rest other_rest here there a lm ln = absurd (omega (arith, same_kinds_longer_too a))
loop_answers {A = A} excuse c f g F G l o s t h (suc k) (suc j) rest other_rest here there a lm ln = go (λ w z b lw lz. loop_answers excuse c f g F G l o s t h k j rest other_rest w z b lw lz) (c (kind_at here)) refl
  where
    first : (x : A) (y : List Token) → c (kind_at here) ≡ true → f here ≡ Ok (x, y) → length y ≤ k
    first x y e i = at_head here there a lm e i
      where
        at_head : (here there : List Token) → SameKinds rest other_rest here there → length here ≤ suc k → c (kind_at here) ≡ true → f here ≡ Ok (x, y) → length y ≤ k
        at_head here there (SameKinds.last {k = w} {p = p}) lm e i = omega (arith, s (token w p) rest (x, y) e i)
        at_head here there (SameKinds.next {k = w} {p = p} {here = v} b) lm e i = omega (arith, s (token w p) v (x, y) e i)

    second : (x : A) (y : List Token) → c (kind_at there) ≡ true → g there ≡ Ok (x, y) → length y ≤ j
    second x y e i = at_head here there a ln e i
      where
        at_head : (here there : List Token) → SameKinds rest other_rest here there → length there ≤ suc j → c (kind_at there) ≡ true → g there ≡ Ok (x, y) → length y ≤ j
        at_head here there (SameKinds.last {k = w} {o = p}) lm e i = omega (arith, t (token w p) other_rest (x, y) e i)
        at_head here there (SameKinds.next {k = w} {o = p} {there = v} b) lm e i = omega (arith, t (token w p) v (x, y) e i)

    go : ((w z : List Token) → SameKinds rest other_rest w z → length w ≤ k → length z ≤ j → AnswersAs rest other_rest excuse (F k w) (G j z)) → (b : Bool) → c (kind_at here) ≡ b → AnswersAs rest other_rest excuse (F (suc k) here) (G (suc j) there)
    go ih false e = rw (l.stop k here e) (rw (o.stop j there (ap c (same_first_kind a) ∙ e)) (inr (o.empty, there, a, refl)))
    go ih true e =
        let (u, eu) = l.go k here e in
        let (v, ev) = o.go j there (ap c (same_first_kind a) ∙ e) in
        subst (λ x. AnswersAs rest other_rest excuse x (G (suc j) there)) (sym eu) (subst (λ y. AnswersAs rest other_rest excuse (f here >>= λ x. mapped (u x.0) (F k x.1)) y) (sym ev)
        (then_answers rest other_rest excuse (f here) (g there) (λ x. mapped (u x.0) (F k x.1)) (λ x. mapped (v x.0) (G j x.1)) (h.same rest other_rest here there a)
        (λ x y le. mapped_leaves (length rest) (u x) (F k y) (loop_leaves c f F l h.left k (length rest) y le))
        (λ x y w z b ex ey. mapped_answers rest other_rest excuse (u x) (v y) (F k w) (G j z) (ih w z b (first x w e ex) (second y z (ap c (same_first_kind a) ∙ e) ey)))))

pub loop_follows : {A B : Type 0} (excuse : Type 0) (c : TokenKind → Bool) (f g : List Token → Read A) (F G : ℕ → List Token → Read B) → IsLoop c f F → IsLoop c g G → TakesToken c f → TakesToken c g → Follows excuse f g →
    Follows excuse (λ tokens. F (length tokens) tokens) (λ tokens. G (length tokens) tokens)
loop_follows excuse c f g F G l o s t h = record {
  left = λ most here le. loop_leaves c f F l h.left (length here) most here le;
  right = λ most here le. loop_leaves c g G o h.right (length here) most here le;
  same = λ rest other_rest here there a. loop_answers excuse c f g F G l o s t h (length here) (length there) rest other_rest here there a (omega arith) (omega arith);
}

-- what is read behind the next token takes one
pub behind_takes : {A : Type 0} (excuse : Type 0) (c : TokenKind → Bool) (f g : List Token → Read A) → Follows excuse f g → TakesToken c (λ here. f (behind here))
behind_takes excuse c f g h t tokens x e i = read_leaves (length tokens) (f tokens) x (leaves_if_read (length tokens) (f tokens) (h.left (length tokens) tokens (omega arith))) i

pub behind_takes_too : {A : Type 0} (excuse : Type 0) (c : TokenKind → Bool) (f g : List Token → Read A) → Follows excuse f g → TakesToken c (λ here. g (behind here))
behind_takes_too excuse c f g h t tokens x e i = read_leaves (length tokens) (g tokens) x (leaves_if_read (length tokens) (g tokens) (h.right (length tokens) tokens (omega arith))) i
