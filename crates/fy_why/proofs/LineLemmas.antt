-- Texts that are put piece by piece.
use Rattle.std.proofs.Common.{◌≡◌, [], ◌∷◌, ◌++◌, append_assoc, codes, sym, ap, ◌∙◌}
use Rattle.std.specs.Prelude.{OnOk, Result}
use Rattle.std.proofs.lemmas.Result.{on_ok_weaker}
use Rattle.fy_base.specs.Outside.{Bytes}

pub two-put : (T a b t1 t2 : Bytes) → t1 ≡ T ++ a → t2 ≡ t1 ++ b → t2 ≡ T ++ (a ++ b)
two-put T a b t1 t2 p q = q ∙ (ap (λ t. t ++ b) p ∙ append_assoc T a b)

pub six-put : (T a b d f g h t1 t2 t3 t4 t5 t6 : Bytes) → t1 ≡ T ++ a → t2 ≡ t1 ++ b → t3 ≡ t2 ++ d → t4 ≡ t3 ++ f → t5 ≡ t4 ++ g → t6 ≡ t5 ++ h →
    t6 ≡ T ++ (((((a ++ b) ++ d) ++ f) ++ g) ++ h)
six-put T a b d f g h t1 t2 t3 t4 t5 t6 p q r s u v =
    two-put T ((((a ++ b) ++ d) ++ f) ++ g) h t5 t6
    (two-put T (((a ++ b) ++ d) ++ f) g t4 t5 (two-put T ((a ++ b) ++ d) f t3 t4 (two-put T (a ++ b) d t2 t3 (two-put T a b t1 t2 p q) r) s) u) v

-- one piece more behind a lead
pub more-put : (T lead S a t u : Bytes) → t ≡ T ++ (lead ++ S) → u ≡ t ++ a → u ≡ T ++ (lead ++ (S ++ a))
more-put T lead S a t u p q = q ∙ (ap (λ x. x ++ a) p ∙ (append_assoc T (lead ++ S) a ∙ ap (λ x. T ++ x) (append_assoc lead S a)))

-- the last piece, and the end of the line
pub end-put : (T lead S m t u : Bytes) → t ≡ T ++ (lead ++ S) → u ≡ t ++ (m ++ 10 ∷ []) → u ≡ T ++ ((lead ++ (S ++ m)) ++ 10 ∷ [])
end-put T lead S m t u p q =
    q ∙ (ap (λ x. x ++ (m ++ 10 ∷ [])) p
    ∙ (append_assoc T (lead ++ S) (m ++ 10 ∷ [])
    ∙ ap (λ x. T ++ x) (sym (append_assoc (lead ++ S) m (10 ∷ [])) ∙ ap (λ x. x ++ 10 ∷ []) (append_assoc lead S m))))

-- the end of the line alone
pub line-put : (T lead S t u : Bytes) → t ≡ T ++ (lead ++ S) → u ≡ t ++ (10 ∷ []) → u ≡ T ++ ((lead ++ S) ++ 10 ∷ [])
line-put T lead S t u p q = q ∙ (ap (λ x. x ++ 10 ∷ []) p ∙ append_assoc T (lead ++ S) (10 ∷ []))

-- a line, and others behind it
pub lines-put : (T L M t u : Bytes) → t ≡ T ++ (L ++ 10 ∷ []) → u ≡ t ++ M → u ≡ T ++ (L ++ 10 ∷ M)
lines-put T L M t u p q = q ∙ (ap (λ x. x ++ M) p ∙ (append_assoc T (L ++ 10 ∷ []) M ∙ ap (λ x. T ++ x) (append_assoc L (10 ∷ []) M)))

-- what a definition's declared type is, and what it has
pub declared-put : (T N A D t1 t2 t3 t4 t5 t6 t7 : Bytes) → t1 ≡ T ++ codes "`letrec` declares `" → t2 ≡ t1 ++ N → t3 ≡ t2 ++ codes ": " → t4 ≡ t3 ++ A →
    t5 ≡ t4 ++ codes "`, and its definition has " → t6 ≡ t5 ++ D → t7 ≡ t6 ++ codes "." →
    t7 ≡ T ++ (codes "`letrec` declares " ++ (codes "`" ++ (N ++ codes ": " ++ A) ++ codes "`") ++ codes ", and its definition has " ++ D ++ codes ".")
declared-put T N A D t1 t2 t3 t4 t5 t6 t7 p q r s u v w =
    w ∙ (ap (λ t. t ++ codes ".") (v ∙ ap (λ t. t ++ D) (u ∙ ap (λ t. t ++ codes "`, and its definition has ") (s ∙ ap (λ t. t ++ A) (r ∙ ap (λ t. t ++ codes ": ") (q ∙ ap (λ t. t ++ N) p)))))
    ∙ simp append_assoc)

-- a line of one piece
pub only-put : (T lead m t u : Bytes) → t ≡ T ++ lead → u ≡ t ++ (m ++ 10 ∷ []) → u ≡ T ++ ((lead ++ m) ++ 10 ∷ [])
only-put T lead m t u p q = q ∙ (ap (λ x. x ++ (m ++ 10 ∷ [])) p ∙ (append_assoc T lead (m ++ 10 ∷ []) ∙ ap (λ x. T ++ x) (sym (append_assoc lead m (10 ∷ [])))))

-- a text that is put by another word for it
pub put-text : {X E : Type 0} (r : Result X E) (V T a b : Bytes) → OnOk r (V ≡ T ++ a) → a ≡ b → OnOk r (V ≡ T ++ b)
put-text r V T a b o e = on_ok_weaker r (λ (v : V ≡ T ++ a). v ∙ ap (λ (x : Bytes). T ++ x) e) o
