-- Texts that are put one behind another.
use Rattle.std.proofs.Common.{◌≡◌, [], ◌++◌, append_assoc, sym, ap, ◌∙◌}
use Rattle.std.proofs.lemmas.List.{append-nil}
use Rattle.fy_base.specs.Outside.{Bytes}

pub three-left : (T a p w : Bytes) → ((T ++ a) ++ p) ++ w ≡ T ++ ((a ++ p) ++ w)
three-left T a p w = ap (λ t. t ++ w) (append_assoc T a p) ∙ append_assoc T (a ++ p) w

pub three-left-nil : (T a p w : Bytes) → (((T ++ a) ++ p) ++ w) ++ [] ≡ T ++ ((a ++ p) ++ w)
three-left-nil T a p w = append-nil (((T ++ a) ++ p) ++ w) ∙ three-left T a p w

pub four-left : (T a p w z : Bytes) → (((T ++ a) ++ p) ++ w) ++ z ≡ T ++ (((a ++ p) ++ w) ++ z)
four-left T a p w z = ap (λ t. t ++ z) (three-left T a p w) ∙ append_assoc T ((a ++ p) ++ w) z

-- four pieces, of which the first is two of the line's
pub joined : (T b a f g w v t1 t2 t3 t4 : Bytes) → f ≡ g → t1 ≡ T ++ (b ++ a) → t2 ≡ t1 ++ f → t3 ≡ t2 ++ w → t4 ≡ t3 ++ v → t4 ≡ (T ++ b) ++ (((a ++ g) ++ w) ++ v)
joined T b a f g w v t1 t2 t3 t4 s d e h i =
    i
    ∙ (ap (λ t. t ++ v) (h ∙ ap (λ t. t ++ w) (e ∙ (ap (λ t. t ++ f) d ∙ ap (λ x. (T ++ (b ++ a)) ++ x) s)))
    ∙ (ap (λ t. ((t ++ g) ++ w) ++ v) (sym (append_assoc T b a)) ∙ four-left (T ++ b) a g w v))

three-joined : (T a l m n : Bytes) → ((T ++ a) ++ l) ++ (m ++ n) ≡ T ++ (a ++ ((l ++ m) ++ n))
three-joined T a l m n = append_assoc (T ++ a) l (m ++ n) ∙ (append_assoc T a (l ++ (m ++ n)) ∙ ap (λ x. T ++ (a ++ x)) (sym (append_assoc l m n)))

pub ended : (T a l k m n t1 t2 t3 : Bytes) → l ≡ k → t1 ≡ T ++ a → t2 ≡ t1 ++ l → t3 ≡ t2 ++ (m ++ n) → t3 ≡ T ++ (a ++ ((k ++ m) ++ n))
ended T a l k m n t1 t2 t3 s d e h =
    h
    ∙ (ap (λ t. t ++ (m ++ n)) (e ∙ (ap (λ t. t ++ l) d ∙ ap (λ x. (T ++ a) ++ x) s))
    ∙ three-joined T a k m n)

-- a line of a lead, three pieces and an end
pub five-joined : (T a l w k m n t1 t2 t3 t4 t5 : Bytes) → t1 ≡ T ++ a → t2 ≡ t1 ++ l → t3 ≡ t2 ++ w → t4 ≡ t3 ++ k → t5 ≡ t4 ++ (m ++ n) → t5 ≡ T ++ (a ++ ((((l ++ w) ++ k) ++ m) ++ n))
five-joined T a l w k m n t1 t2 t3 t4 t5 d e f g h =
    h
    ∙ (ap (λ t. t ++ (m ++ n)) (g ∙ (ap (λ t. t ++ k) (f ∙ ap (λ t. t ++ w) (e ∙ ap (λ t. t ++ l) d)) ∙ three-left (T ++ a) l w k))
    ∙ three-joined T a ((l ++ w) ++ k) m n)

-- and of four pieces
pub six-joined : (T a l w k x m n t1 t2 t3 t4 t5 t6 : Bytes) → t1 ≡ T ++ a → t2 ≡ t1 ++ l → t3 ≡ t2 ++ w → t4 ≡ t3 ++ k → t5 ≡ t4 ++ x → t6 ≡ t5 ++ (m ++ n) →
    t6 ≡ T ++ (a ++ (((((l ++ w) ++ k) ++ x) ++ m) ++ n))
six-joined T a l w k x m n t1 t2 t3 t4 t5 t6 d e f g h i =
    i
    ∙ (ap (λ t. t ++ (m ++ n)) (h ∙ (ap (λ t. t ++ x) (g ∙ ap (λ t. t ++ k) (f ∙ ap (λ t. t ++ w) (e ∙ ap (λ t. t ++ l) d))) ∙ four-left (T ++ a) l w k x))
    ∙ three-joined T a (((l ++ w) ++ k) ++ x) m n)
