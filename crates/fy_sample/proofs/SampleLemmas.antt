-- Statement by statement, and how long a sample is.
use Rattle.std.proofs.Common.{◌≡◌, ℕ, ◌+◌, ◌*◌, ◌/◌, ◌%◌, ◌≤◌, List, [], ◌∷◌, ◌++◌, Bool, true, false, cond, eqb, length, sym, ap, ◌∙◌, codes, arith, add-one, append_assoc, length-append, lit≤}
use Rattle.std.proofs.lemmas.List.{append-nil, map-id, flat_map_more}
use Rattle.std.proofs.lemmas.List.FromFn.{map-range_with_len_more, length-range_with_len}
use Rattle.std.proofs.lemmas.Fmt.{length-decimal-le}
use Rattle.std.specs.Fmt.{decimal}
use Rattle.std.specs.List.{flat_map, range_with_len}
use Rattle.fy_base.specs.Outside.{Bytes}
use Rattle.fy_sample.specs.Sample.{next, number_at, statement_of, statement, statements, opening, closing, sample_text}

-- a statement with what follows it
abbrev ended : ℕ → ℕ → Bytes
ended number i = statement (number_at number i) ++ codes "; "

range_more : (n : ℕ) → range_with_len 1 (n + 1) ≡ range_with_len 1 n ++ (n + 1) ∷ []
range_more n =
    sym (map-id (range_with_len 1 (n + 1))) ∙ map-range_with_len_more (λ i. i) 1 n (n + 1) (omega arith)
    ∙ ap (λ is. is ++ (n + 1) ∷ []) (map-id (range_with_len 1 n))

-- one statement more
pub statements_more : (number n : ℕ) → statements number (n + 1) ≡ statements number n ++ (statement (number_at number (n + 1)) ++ codes "; ")
statements_more number n = ap (λ is. flat_map (ended number) is) (range_more n) ∙ sym (flat_map_more (ended number) [] (range_with_len 1 n) (n + 1))

-- a text that has the statements so far, after one more
pub text_more : (number n x : ℕ) (head text more done : Bytes) → text ≡ head ++ statements number n → x ≡ number_at number (n + 1) → more ≡ text ++ statement x → done ≡ more ++ codes "; "
    → done ≡ head ++ statements number (n + 1)
text_more number n x head text more done so_far last next end =
    end ∙ ap (λ t. t ++ codes "; ") (next ∙ ap (λ t. t ++ statement x) so_far) ∙ ap (λ y. head ++ statements number n ++ statement y ++ codes "; ") last
    ∙ append_assoc (head ++ statements number n) (statement (number_at number (n + 1))) (codes "; ")
    ∙ append_assoc head (statements number n) (ended number (n + 1))
    ∙ ap (λ t. head ++ t) (sym (statements_more number n))

pub number_more : (number n x y : ℕ) → x ≡ number_at number n → y ≡ next x → y ≡ number_at number (n + 1)
number_more number n x y last is = rw (add-one n) (is ∙ ap (λ x. next x) last)

-- ---- the pieces of a statement

-- the constant of x
abbrev constant : ℕ → Bytes
constant x = decimal (x / 65536 / 4 % 100)

-- the statement of x, where its kind is known
of_kind : (x kind : ℕ) → x / 65536 % 4 ≡ kind → statement_of kind (x / 65536 / 4 % 100) ≡ statement x
of_kind x kind is = ap (λ n. statement_of n (x / 65536 / 4 % 100)) (sym is)

four_pieces : (a k b : Bytes) → a ++ (k ++ (b ++ (k ++ []))) ≡ a ++ k ++ b ++ k
four_pieces a k b = ap (λ t. a ++ (k ++ (b ++ t))) (append-nil k) ∙ sym (append_assoc a k (b ++ k)) ∙ sym (append_assoc (a ++ k) b k)

pub pieces_of_two : (x : ℕ) (k : Bytes) → x / 65536 % 4 ≡ 2 → k ≡ constant x → codes "if a < b then a := a + " ++ (k ++ (codes " else b := b + " ++ (k ++ []))) ≡ statement x
pieces_of_two x k kind is =
    four_pieces (codes "if a < b then a := a + ") k (codes " else b := b + ")
    ∙ ap (λ k. codes "if a < b then a := a + " ++ k ++ codes " else b := b + " ++ k) is ∙ of_kind x 2 kind

pub pieces_of_three : (x : ℕ) (k : Bytes) → x / 65536 % 4 ≡ 3 → k ≡ constant x → codes "new i:int := 0 in while i < " ++ (k ++ (codes " do (a := f a; i := i + 1)" ++ [])) ≡ statement x
pieces_of_three x k kind is =
    ap (λ t. codes "new i:int := 0 in while i < " ++ (k ++ t)) (append-nil (codes " do (a := f a; i := i + 1)"))
    ∙ sym (append_assoc (codes "new i:int := 0 in while i < ") k (codes " do (a := f a; i := i + 1)"))
    ∙ ap (λ k. codes "new i:int := 0 in while i < " ++ k ++ codes " do (a := f a; i := i + 1)") is ∙ of_kind x 3 kind

-- ---- lengths

constant_short : (k : ℕ) → length (decimal (k % 100)) ≤ 2
constant_short k = length-decimal-le 2 (k % 100) (lit≤ tt) (omega arith) (omega arith)

two_pieces : (a k : Bytes) (n : ℕ) → length a ≤ n → length k ≤ 2 → length (a ++ k) ≤ n + 2
two_pieces a k n fits short = let e = length-append a k in omega arith

three_pieces : (a k b : Bytes) (n m : ℕ) → length a ≤ n → length k ≤ 2 → length b ≤ m → length (a ++ k ++ b) ≤ n + 2 + m
three_pieces a k b n m first short last = let e = length-append (a ++ k) b in let f = two_pieces a k n first short in omega arith

chosen : (b : Bool) (x y : Bytes) (n : ℕ) → length x ≤ n → length y ≤ n → length (cond b x y) ≤ n
chosen true x y n first second = first
chosen false x y n first second = second

statement_short : (kind u : ℕ) → length (statement_of kind (u % 100)) ≤ 62
statement_short kind u =
    let k = decimal (u % 100) in let short : length k ≤ 2 = constant_short u in
    chosen (eqb kind 0) (codes "a := f (b + " ++ k ++ codes ")") _ 62
    (let h = three_pieces (codes "a := f (b + ") k (codes ")") 12 1 (lit≤ tt) short (lit≤ tt) in omega arith)
    (chosen (eqb kind 1) (codes "b := (a * 3 + " ++ k ++ codes ") rem 1000") _ 62
    (let h = three_pieces (codes "b := (a * 3 + ") k (codes ") rem 1000") 14 10 (lit≤ tt) short (lit≤ tt) in omega arith)
    (chosen (eqb kind 2) (codes "if a < b then a := a + " ++ k ++ codes " else b := b + " ++ k) (codes "new i:int := 0 in while i < " ++ k ++ codes " do (a := f a; i := i + 1)") 62
    (let h = three_pieces (codes "if a < b then a := a + ") k (codes " else b := b + ") 23 15 (lit≤ tt) short (lit≤ tt) in
    let g = two_pieces (codes "if a < b then a := a + " ++ k ++ codes " else b := b + ") k 40 h short in omega arith)
    (let h = three_pieces (codes "new i:int := 0 in while i < ") k (codes " do (a := f a; i := i + 1)") 28 26 (lit≤ tt) short (lit≤ tt) in omega arith)))

ended_short : (number i : ℕ) → length (ended number i) ≤ 64
ended_short number i = two_pieces (statement (number_at number i)) (codes "; ") 62 (statement_short (number_at number i / 65536 % 4) (number_at number i / 65536 / 4)) (lit≤ tt)

all_short : (f : ℕ → Bytes) (is : List ℕ) → ((i : ℕ) → length (f i) ≤ 64) → length (flat_map f is) ≤ 64 * length is
all_short f [] each = omega arith
all_short f (i ∷ is) each = let e = length-append (f i) (flat_map f is) in let h = each i in let g = all_short f is each in omega arith

framed : (a b c : Bytes) (n m k : ℕ) → length a ≤ n → length b ≤ m → length c ≤ k → length (a ++ b ++ c) ≤ n + m + k
framed a b c n m k first second third = let e = length-append a b in let f = length-append (a ++ b) c in omega arith

-- a sample of 2,000 statements or fewer keeps the limit on texts
pub sample_is_short : (number size : ℕ) → size ≤ 2000 → length (sample_text number size) ≤ 1048576
sample_is_short number size few =
    let e : length (range_with_len 1 size) ≡ size = length-range_with_len 1 size in
    let h = all_short (ended number) (range_with_len 1 size) (ended_short number) in
    let g = framed opening (statements number size) closing 80 128000 40 (lit≤ tt) (omega arith) (lit≤ tt) in
    omega arith
