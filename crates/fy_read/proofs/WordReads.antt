-- What a text is in a table of words, by its length and its bytes, as a match on byte strings tells them.
use Rattle.std.proofs.Common.{◌≡◌, ℕ, suc, Bool, true, false, ◌&&◌, ◌||◌, ◌==◌, List, [], ◌∷◌, length, get_or, refl, sym, ap, ◌∙◌, arith}
use Rattle.std.proofs.lemmas.Bool.{ne_eqb}
use Rattle.std.proofs.lemmas.Bool.Decides.{nat_tests, leb_tells, eqb_tells}
use Rattle.std.specs.Prelude.{Some, if◌then◌else◌, nat_eq}
use Rattle.std.specs.List.{list_any, starts_with}
use Rattle.std.specs.Map.{lookup}
use Rattle.std.specs.Str.{bytes_eq}
use Rattle.fy_base.specs.Outside.{Bytes}
use Rattle.fy_read.specs.Steps.{node_word, node_words, begins_node_word, type_word, type_words}

-- the bytes of p stand in w, from index i on
abbrev reads : Bytes → ℕ → Bytes → Bool
reads w i [] = true
reads w i (c ∷ p) = (get_or w i 0 == c) && reads w (suc i) p

abbrev pub is_read : Bytes → Bytes → Bool
is_read w p = (length w == length p) && reads w 0 p

reads-later : (b : ℕ) (w : Bytes) (i : ℕ) (p : Bytes) → reads (b ∷ w) (suc i) p ≡ reads w i p
reads-later b w i [] = refl
reads-later b w i (c ∷ p) = ap (λ x. (get_or w i 0 == c) && x) (reads-later b w (suc i) p)

swapped : (a b c : Bool) → (a && (b && c)) ≡ (b && (a && c))
swapped true b c = refl
swapped false true c = refl
swapped false false c = refl

same_length : (n m : ℕ) → (n == m) ≡ (suc n == suc m)
same_length n m = grind (arith, nat_tests)

pub is_read-is : (w p : Bytes) → bytes_eq w p ≡ is_read w p
is_read-is [] [] = refl
is_read-is [] (c ∷ p) = ap (λ b. b && reads [] 0 (c ∷ p)) (sym (ne_eqb 0 (suc (length p)) (λ e. omega (arith, e))))
is_read-is (b ∷ w) [] = ap (λ b. b && true) (sym (ne_eqb (suc (length w)) 0 (λ e. omega (arith, e))))
is_read-is (b ∷ w) (c ∷ p) =
    ap (λ x. (b == c) && x) (is_read-is w p ∙ ap (λ x. (length w == length p) && x) (sym (reads-later b w 0 p)))
    ∙ (swapped (b == c) (length w == length p) (reads (b ∷ w) 1 p)
    ∙ ap (λ x. x && reads (b ∷ w) 0 (c ∷ p)) (same_length (length w) (length p)))

read_lookup : {T : Type 0} (w : Bytes) (table : List (Bytes × T)) → lookup (bytes_eq w) table ≡ lookup (is_read w) table
read_lookup w [] = refl
read_lookup w ((p, x) ∷ table) =
    ap (λ o. if bytes_eq w p then Some x else o) (read_lookup w table) ∙ ap (λ b. if b then Some x else lookup (is_read w) table) (is_read-is w p)

-- a text ends where p goes on, or with it, and its bytes from index i on stand there
abbrev begins : Bytes → ℕ → Bytes → Bool
begins w i [] = length w == i
begins w i (c ∷ p) = (length w == i) || ((get_or w i 0 == c) && begins w (suc i) p)

begins-later : (b : ℕ) (w : Bytes) (i : ℕ) (p : Bytes) → begins (b ∷ w) (suc i) p ≡ begins w i p
begins-later b w i [] = sym (same_length (length w) i)
begins-later b w i (c ∷ p) =
    ap (λ x. (suc (length w) == suc i) || ((get_or w i 0 == c) && x)) (begins-later b w (suc i) p)
    ∙ ap (λ x. x || ((get_or w i 0 == c) && begins w (suc i) p)) (sym (same_length (length w) i))

begins-is : (w p : Bytes) → starts_with nat_eq p w ≡ begins w 0 p
begins-is [] [] = refl
begins-is [] (c ∷ p) = refl
begins-is (b ∷ w) [] = sym (ne_eqb (suc (length w)) 0 (λ e. omega (arith, e)))
begins-is (b ∷ w) (c ∷ p) =
    ap (λ x. (b == c) && x) (begins-is w p ∙ sym (begins-later b w 0 p))
    ∙ sym (ap (λ x. x || ((b == c) && begins (b ∷ w) 1 p)) (ne_eqb (suc (length w)) 0 (λ e. omega (arith, e))))

begins_any : {T : Type 0} (w : Bytes) (table : List (Bytes × T)) →
    list_any (λ e. starts_with nat_eq e.0 w) table ≡ list_any (λ e. begins w 0 e.0) table
begins_any w [] = refl
begins_any w ((p, x) ∷ table) =
    ap (λ b. starts_with nat_eq p w || b) (begins_any w table) ∙ ap (λ b. b || list_any (λ e. begins w 0 e.0) table) (begins-is w p)

pub node_read : (w : Bytes) → node_word w ≡ lookup (is_read w) node_words
node_read w = read_lookup w node_words

pub node_begins : (w : Bytes) → begins_node_word w ≡ list_any (λ e. begins w 0 e.0) node_words
node_begins w = begins_any w node_words

pub type_read : (w : Bytes) → type_word w ≡ lookup (is_read w) type_words
type_read w = read_lookup w type_words

pub ruleset node_reads = (node_read, leb_tells, eqb_tells)

pub ruleset node_beginnings = (node_begins, leb_tells, eqb_tells)

pub ruleset type_reads = (type_read, leb_tells, eqb_tells)
