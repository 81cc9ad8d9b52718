-- One step of a loop over premises, alternatives and names, and its end.
use Rattle.std.proofs.Common.{ℕ, zero, suc, ◌+◌, ◌-◌, ◌<◌, ◌≤◌, ◌≡◌, ◌&&◌, Bool, true, false, not, if◌then◌else◌, List, [], ◌∷◌, ◌++◌, append_assoc, length, get_or, map, take, drop, min, codes, Option, Some, None, Bor, refl, sym, ap, ◌∙◌, arith}
use Rattle.std.specs.Prelude.{decimal, nat_lt, replicate, slice_get, option_map}
use Rattle.std.proofs.lemmas.Bool.{le-ltb, lt-ltb, ltb-false, ltb-true}
use Rattle.std.proofs.lemmas.List.{drop-replicate, drop_more, length-drop, length-map, map_push, take_more}
use Rattle.std.proofs.lemmas.Option.{get_or_from_slice_get, slice_get-map, slice_get_within}
use Rattle.fy_base.specs.Outside.{Bytes}
use Rattle.fy_types.specs.declared.types.Ty.{Ty}
use Rattle.fy_types.specs.Reading.{plain_type, types_from}
use Rattle.fy_types.proofs.Steps.{drop_end, drop_item}
use Rattle.fy_phrase.specs.Tree.{Tree}
use Rattle.fy_derive.specs.declared.derivation.Derivation.{Derivation}
use Rattle.fy_derive.specs.declared.table.TypeTable.{TypeTable}
use Rattle.fy_derive.specs.Derivations.{PlainDerivations, and_derivation, nodes, all_nodes}
use Rattle.fy_derive.specs.Reading.{plain_derivation, derivations_from}
use Rattle.fy_derive.specs.Rules.{nothing, Premise}
use Rattle.fy_derive.specs.Shown.{shown, all_shown}
use Rattle.fy_show.specs.declared.entries.EntryText.{EntryText}
use Rattle.fy_show.specs.Entries.{Known, Scope}
use Rattle.fy_show.specs.Reading.{entry_or}
use Rattle.fy_told.specs.ReasonTexts.{about, alternative_texts, is_bound, is_hidden, is_mentioned, listed, names_at, names_in, names_under, number_at, or_text, premise_lines, premise_numbers, premise_parts, premises_at, separator_text, told, type_told, variable_text, variable_texts, whole_premises}

-- ---- derivations of premises

pub items-step : (xs : List Derivation) (i : ℕ) (x : Derivation) → i < length xs → x ≡ get_or xs i x →
    derivations_from (map plain_derivation (drop i xs)) ≡ and_derivation (plain_derivation x) (derivations_from (map plain_derivation (drop (i + 1) xs)))
items-step xs i x h e = ap derivations_from (drop_item plain_derivation xs i x h e)

pub items-room : (xs : List Derivation) (i : ℕ) (x : Derivation) → i < length xs → x ≡ get_or xs i x →
    all_nodes (derivations_from (map plain_derivation (drop i xs))) ≡ nodes (plain_derivation x) + all_nodes (derivations_from (map plain_derivation (drop (i + 1) xs)))
items-room xs i x h e = ap all_nodes (items-step xs i x h e)

-- the lines of what is left of six
pub premise-step : (k : Known) (t : TypeTable) (xs : List Derivation) (ks : List ℕ) (i n : ℕ) (x : Derivation) → i < length xs → i < length ks → i < 6 → x ≡ get_or xs i x →
    premise_lines k (i + 1) (take (6 - i) (premise_numbers n (derivations_from (map plain_derivation (drop i xs))))) (all_shown t (drop i ks))
    ≡ told (codes "premise " ++ decimal (i + 1) ++ codes " (node " ++ decimal n ++ codes ") concludes " ++ type_told k (shown t (get_or ks i 0)))
    ++ premise_lines k (i + 1 + 1) (take (6 - (i + 1)) (premise_numbers (n + nodes (plain_derivation x)) (derivations_from (map plain_derivation (drop (i + 1) xs))))) (all_shown t (drop (i + 1) ks))
premise-step k t xs ks i n x h g l e =
    ap (λ ds. premise_lines k (i + 1) (take (6 - i) (premise_numbers n ds)) (all_shown t (drop i ks))) (items-step xs i x h e)
    ∙ (ap (λ m. premise_lines k (i + 1) (take m (n ∷ premise_numbers (n + nodes (plain_derivation x)) (derivations_from (map plain_derivation (drop (i + 1) xs))))) (all_shown t (drop i ks)))
    (let s : 6 - i ≡ suc (6 - (i + 1)) = omega arith in s)
    ∙ ap (λ ms. premise_lines k (i + 1) (n ∷ take (6 - (i + 1)) (premise_numbers (n + nodes (plain_derivation x)) (derivations_from (map plain_derivation (drop (i + 1) xs))))) (all_shown t ms)) (drop_more ks i 0 g))

no-lines : (k : Known) (i : ℕ) (ns : List ℕ) → premise_lines k i ns [] ≡ []
no-lines k i [] = refl
no-lines k i (n ∷ ns) = refl

pub premise-end : (k : Known) (t : TypeTable) (xs : List Derivation) (ks : List ℕ) (i n : ℕ) → min (min (length xs) (length ks)) 6 ≤ i →
    premise_lines k (i + 1) (take (6 - i) (premise_numbers n (derivations_from (map plain_derivation (drop i xs))))) (all_shown t (drop i ks)) ≡ []
premise-end k t xs ks i n h = ended (nat_lt i (length xs)) (nat_lt i (length ks)) refl refl
  where
    take-none : (m : ℕ) → take m (premise_numbers n (derivations_from [])) ≡ []
    take-none zero = refl
    take-none (suc m) = refl

    ended : (b c : Bool) → nat_lt i (length xs) ≡ b → nat_lt i (length ks) ≡ c →
        premise_lines k (i + 1) (take (6 - i) (premise_numbers n (derivations_from (map plain_derivation (drop i xs))))) (all_shown t (drop i ks)) ≡ []
    ended false c e f =
        ap (λ ds. premise_lines k (i + 1) (take (6 - i) (premise_numbers n (derivations_from ds))) (all_shown t (drop i ks))) (drop_end plain_derivation xs i (ltb-false i (length xs) e))
        ∙ ap (λ ns. premise_lines k (i + 1) ns (all_shown t (drop i ks))) (take-none (6 - i))
    ended true false e f =
        ap (premise_lines k (i + 1) (take (6 - i) (premise_numbers n (derivations_from (map plain_derivation (drop i xs)))))) (drop_end (shown t) ks i (ltb-false i (length ks) f))
        ∙ no-lines k (i + 1) (take (6 - i) (premise_numbers n (derivations_from (map plain_derivation (drop i xs)))))
    ended true true e f =
        ap (λ m. premise_lines k (i + 1) (take m (premise_numbers n (derivations_from (map plain_derivation (drop i xs))))) (all_shown t (drop i ks)))
        (let z : 6 - i ≡ 0 = omega (arith, h, ltb-true i (length xs) e, ltb-true i (length ks) f) in z)

-- the number of the premise's node
pub number-next : (xs : List Derivation) (i j n : ℕ) (x : Derivation) → i < length xs → i < j → x ≡ get_or xs i x →
    number_at (premise_numbers n (derivations_from (map plain_derivation (drop i xs)))) (j - i)
    ≡ number_at (premise_numbers (n + nodes (plain_derivation x)) (derivations_from (map plain_derivation (drop (i + 1) xs)))) (j - (i + 1))
number-next xs i j n x h l e =
    ap (λ ds. number_at (premise_numbers n ds) (j - i)) (items-step xs i x h e)
    ∙ ap (number_at (n ∷ premise_numbers (n + nodes (plain_derivation x)) (derivations_from (map plain_derivation (drop (i + 1) xs))))) (let s : j - i ≡ suc (j - (i + 1)) = omega arith in s)

first-number : (xs : List Derivation) (i n : ℕ) → i < length xs → number_at (premise_numbers n (derivations_from (map plain_derivation (drop i xs)))) 0 ≡ n
first-number [] i n h = absurd (omega (arith, h))
first-number (x ∷ xs) zero n h = refl
first-number (x ∷ xs) (suc i) n h = first-number xs i n (omega (arith, h))

pub number-here : (xs : List Derivation) (i j n : ℕ) → i < length xs → i ≡ j → number_at (premise_numbers n (derivations_from (map plain_derivation (drop i xs)))) (j - i) ≡ n
number-here xs i j n h l =
    ap (number_at (premise_numbers n (derivations_from (map plain_derivation (drop i xs))))) (let s : j - i ≡ 0 = omega arith in s)
    ∙ first-number xs i n h

pub number-end : (xs : List Derivation) (i j n : ℕ) → length xs ≤ i → number_at (premise_numbers n (derivations_from (map plain_derivation (drop i xs)))) (j - i) ≡ 0
number-end xs i j n h = ap (λ ds. number_at (premise_numbers n (derivations_from ds)) (j - i)) (drop_end plain_derivation xs i h)

-- ---- the names at a node

pub in-here : (k : Known) (m n : ℕ) (s : Scope) (p : Tree) (xs : List Derivation) (i : ℕ) (x : Derivation) (Qs more : List Premise) (P : Premise) → i < length xs → x ≡ get_or xs i x →
    Qs ≡ P ∷ more → m < n + nodes (plain_derivation x) →
    names_in k m (derivations_from (map plain_derivation (drop i xs))) n s p Qs ≡ names_at k m (plain_derivation x) n (names_under k s p (is_bound P.0)) P.1
in-here k m n s p xs i x Qs more P h e q l =
    let ds : PlainDerivations = derivations_from (map plain_derivation (drop (i + 1) xs)) in
    ap (λ es. names_in k m es n s p Qs) (items-step xs i x h e)
    ∙ (ap (names_in k m (and_derivation (plain_derivation x) ds) n s p) q
    ∙ ap (λ b. if b then names_at k m (plain_derivation x) n (names_under k s p (is_bound P.0)) P.1 else names_in k m ds (n + nodes (plain_derivation x)) s p more)
    (lt-ltb m (n + nodes (plain_derivation x)) l))

pub in-next : (k : Known) (m n : ℕ) (s : Scope) (p : Tree) (xs : List Derivation) (i : ℕ) (x : Derivation) (Qs more : List Premise) (P : Premise) → i < length xs → x ≡ get_or xs i x →
    Qs ≡ P ∷ more → n + nodes (plain_derivation x) ≤ m →
    names_in k m (derivations_from (map plain_derivation (drop i xs))) n s p Qs ≡ names_in k m (derivations_from (map plain_derivation (drop (i + 1) xs))) (n + nodes (plain_derivation x)) s p more
in-next k m n s p xs i x Qs more P h e q l =
    let ds : PlainDerivations = derivations_from (map plain_derivation (drop (i + 1) xs)) in
    ap (λ es. names_in k m es n s p Qs) (items-step xs i x h e)
    ∙ (ap (names_in k m (and_derivation (plain_derivation x) ds) n s p) q
    ∙ ap (λ b. if b then names_at k m (plain_derivation x) n (names_under k s p (is_bound P.0)) P.1 else names_in k m ds (n + nodes (plain_derivation x)) s p more)
    (le-ltb m (n + nodes (plain_derivation x)) l))

-- where no premise is left, or no derivation
pub in-none : (k : Known) (m n : ℕ) (s : Scope) (p : Tree) (ds : PlainDerivations) → names_in k m ds n s p [] ≡ s
in-none k m n s p PlainDerivations.no_derivations = refl
in-none k m n s p (and_derivation d ds) = refl

pub in-end : (k : Known) (m n : ℕ) (s : Scope) (p : Tree) (xs : List Derivation) (i : ℕ) (Qs : List Premise) → length xs ≤ i → names_in k m (derivations_from (map plain_derivation (drop i xs))) n s p Qs ≡ s
in-end k m n s p xs i Qs h = ap (λ ds. names_in k m (derivations_from ds) n s p Qs) (drop_end plain_derivation xs i h)

-- the premise with the index, and those behind it
pub record IsNext (Ps : List Premise) (i : ℕ) (b : Bool) (q : Tree) : Type 0 where
  pub premise : Premise
  pub left : drop i Ps ≡ premise ∷ drop (i + 1) Ps
  pub inside : is_bound premise.0 ≡ b
  pub part : premise.1 ≡ q

some-same : (x y : Bool × Tree) → Some x ≡ Some y → x ≡ y
some-same x y e = cc

next-found : (Ps : List Premise) (i : ℕ) (b : Bool) (q : Tree) (o : Option Premise) → slice_get Ps i ≡ o → option_map about o ≡ Some (b, q) → IsNext Ps i b q
next-found Ps i b q None e f = absurd cc
next-found Ps i b q (Some P) e f =
    let same : about P ≡ (b, q) = some-same (about P) (b, q) f in
    record {
      premise = P;
      left = drop_more Ps i P (slice_get_within Ps i P e) ∙ ap (λ x. x ∷ drop (i + 1) Ps) (get_or_from_slice_get Ps i P P e);
      inside = ap (λ (z : Bool × Tree). z.0) same;
      part = ap (λ (z : Bool × Tree). z.1) same;
    }

pub next-premise : (p : Tree) (i : ℕ) (b : Bool) (q : Tree) → slice_get (premise_parts p) i ≡ Some (b, q) → IsNext (premises_at p) i b q
next-premise p i b q e = next-found (premises_at p) i b q (slice_get (premises_at p) i) refl (sym (slice_get-map about (premises_at p) i) ∙ e)

pub none-found : (Ps : List Premise) (i : ℕ) (o : Option Premise) → slice_get Ps i ≡ o → option_map about o ≡ None → drop i Ps ≡ []
none-found [] zero o e f = refl
none-found [] (suc i) o e f = refl
none-found (P ∷ Ps) zero None e f = absurd cc
none-found (P ∷ Ps) zero (Some Q) e f = absurd cc
none-found (P ∷ Ps) (suc i) o e f = none-found Ps i o e f

pub no-premise : (p : Tree) (i : ℕ) → slice_get (premise_parts p) i ≡ None → drop i (premises_at p) ≡ []
no-premise p i e = none-found (premises_at p) i (slice_get (premises_at p) i) refl (sym (slice_get-map about (premises_at p) i) ∙ e)

-- one of so many premises about the whole phrase
abbrev pub whole_premise : Tree → Premise
whole_premise p = (nothing, p)

pub whole-step : (n i : ℕ) (p : Tree) → i < n → drop i (whole_premises n p) ≡ whole_premise p ∷ drop (i + 1) (whole_premises n p)
whole-step n i p h =
    let P : Premise = whole_premise p in
    drop-replicate i n P
    ∙ (ap (λ m. replicate m P) (let s : n - i ≡ suc (n - (i + 1)) = omega arith in s) ∙ ap (λ Qs. P ∷ Qs) (sym (drop-replicate (i + 1) n P)))

-- ---- lists of texts

pub alternative-step : (k : Known) (lead : Bytes) (xs : List Ty) (i : ℕ) (x : Ty) → i < length xs → x ≡ get_or xs i x →
    listed lead (alternative_texts k i (types_from (map plain_type (drop i xs))))
    ≡ lead ++ (decimal i ++ codes ": " ++ type_told k (plain_type x)) ++ listed (codes ", ") (alternative_texts k (i + 1) (types_from (map plain_type (drop (i + 1) xs))))
alternative-step k lead xs i x h e = ap (λ As. listed lead (alternative_texts k i (types_from As))) (drop_item plain_type xs i x h e)

pub or-step : (k : Known) (t : TypeTable) (ks : List ℕ) (i : ℕ) → i < length ks →
    or_text (map (type_told k) (all_shown t (drop i ks)))
    ≡ type_told k (shown t (get_or ks i 0)) ++ separator_text (length ks - i - 1) ++ or_text (map (type_told k) (all_shown t (drop (i + 1) ks)))
or-step k t ks i h =
    let rest : List Bytes = map (type_told k) (all_shown t (drop (i + 1) ks)) in
    let left : length rest ≡ length ks - i - 1 =
    length-map (all_shown t (drop (i + 1) ks)) (type_told k) ∙ (length-map (drop (i + 1) ks) (shown t) ∙ (length-drop (i + 1) ks ∙ omega arith)) in
    ap (λ ms. or_text (map (type_told k) (all_shown t ms))) (drop_more ks i 0 h)
    ∙ ap (λ m. type_told k (shown t (get_or ks i 0)) ++ separator_text m ++ or_text rest) left

-- ---- the names that a phrase uses

abbrev pub names_left : Known → Scope → Tree → TypeTable → List (Option (Bor EntryText)) → List ℕ → ℕ → List Bytes
names_left k s p t es ks i = variable_texts k s p (map entry_or (take i es)) (map entry_or (drop i es)) (all_shown t (drop i ks))

abbrev pub is_told : Known → Scope → Tree → List (Option (Bor EntryText)) → ℕ → Option (Bor EntryText) → Bool
is_told k s p es i e = is_mentioned k s p (entry_or e) && not (is_hidden (map entry_or (take i es)) (entry_or e))

names-step : (k : Known) (s : Scope) (p : Tree) (t : TypeTable) (es : List (Option (Bor EntryText))) (ks : List ℕ) (i : ℕ) (e : Option (Bor EntryText)) → i < length es → i < length ks → e ≡ get_or es i e →
    names_left k s p t es ks i ≡ (if is_told k s p es i e then variable_text k (entry_or e) (shown t (get_or ks i 0)) ∷ [] else []) ++ names_left k s p t es ks (i + 1)
names-step k s p t es ks i e h g is =
    ap (λ ds. variable_texts k s p (map entry_or (take i es)) ds (all_shown t (drop i ks))) (drop_item entry_or es i e h is)
    ∙ (ap (λ ms. variable_texts k s p (map entry_or (take i es)) (entry_or e ∷ map entry_or (drop (i + 1) es)) (all_shown t ms)) (drop_more ks i 0 g)
    ∙ ap (λ inner. (if is_told k s p es i e then variable_text k (entry_or e) (shown t (get_or ks i 0)) ∷ [] else [])
    ++ variable_texts k s p inner (map entry_or (drop (i + 1) es)) (all_shown t (drop (i + 1) ks)))
    (sym (ap (map entry_or) (take_more es i e h ∙ ap (λ x. take i es ++ x ∷ []) (sym is)) ∙ map_push entry_or (take i es) e)))

pub names-told : (k : Known) (s : Scope) (p : Tree) (t : TypeTable) (es : List (Option (Bor EntryText))) (ks : List ℕ) (i : ℕ) (e : Option (Bor EntryText)) → i < length es → i < length ks → e ≡ get_or es i e →
    is_told k s p es i e ≡ true → names_left k s p t es ks i ≡ variable_text k (entry_or e) (shown t (get_or ks i 0)) ∷ names_left k s p t es ks (i + 1)
names-told k s p t es ks i e h g is b =
    names-step k s p t es ks i e h g is ∙ ap (λ c. (if c then variable_text k (entry_or e) (shown t (get_or ks i 0)) ∷ [] else []) ++ names_left k s p t es ks (i + 1)) b

pub names-untold : (k : Known) (s : Scope) (p : Tree) (t : TypeTable) (es : List (Option (Bor EntryText))) (ks : List ℕ) (i : ℕ) (e : Option (Bor EntryText)) → i < length es → i < length ks → e ≡ get_or es i e →
    is_told k s p es i e ≡ false → names_left k s p t es ks i ≡ names_left k s p t es ks (i + 1)
names-untold k s p t es ks i e h g is b =
    names-step k s p t es ks i e h g is ∙ ap (λ c. (if c then variable_text k (entry_or e) (shown t (get_or ks i 0)) ∷ [] else []) ++ names_left k s p t es ks (i + 1)) b

no-names : (k : Known) (s : Scope) (p : Tree) (inner outer : Scope) → variable_texts k s p inner outer [] ≡ []
no-names k s p inner [] = refl
no-names k s p inner (e ∷ outer) = refl

pub names-end : (k : Known) (s : Scope) (p : Tree) (t : TypeTable) (es : List (Option (Bor EntryText))) (ks : List ℕ) (i : ℕ) → min (length es) (length ks) ≤ i → names_left k s p t es ks i ≡ []
names-end k s p t es ks i h = ended (nat_lt i (length es)) refl
  where
    ended : (b : Bool) → nat_lt i (length es) ≡ b → names_left k s p t es ks i ≡ []
    ended false e =
        ap (λ ds. variable_texts k s p (map entry_or (take i es)) ds (all_shown t (drop i ks))) (drop_end entry_or es i (ltb-false i (length es) e))
    ended true e =
        ap (variable_texts k s p (map entry_or (take i es)) (map entry_or (drop i es))) (drop_end (shown t) ks i (omega (arith, h, ltb-true i (length es) e)))
        ∙ no-names k s p (map entry_or (take i es)) (map entry_or (drop i es))

-- one of six more, behind those so far
pub listed-more : (lead v : Bytes) (xs : List Bytes) (n : ℕ) → n < 6 → listed lead (take (6 - n) (v ∷ xs)) ≡ lead ++ v ++ listed (codes ", ") (take (6 - (n + 1)) xs)
listed-more lead v xs n h = ap (λ m. listed lead (take m (v ∷ xs))) (let s : 6 - n ≡ suc (6 - (n + 1)) = omega arith in s)

pub listed-full : (lead : Bytes) (xs : List Bytes) (n : ℕ) → 6 ≤ n → listed lead (take (6 - n) xs) ≡ []
listed-full lead xs n h = ap (λ m. listed lead (take m xs)) (let z : 6 - n ≡ 0 = omega arith in z)

pub listed-none : (lead : Bytes) (m : ℕ) → listed lead (take m []) ≡ []
listed-none lead zero = refl
listed-none lead (suc m) = refl

-- a name more behind the text, or none
pub more-told : (T U lead next v : Bytes) (n m : ℕ) (left rest : List Bytes) → n < 6 → left ≡ v ∷ rest → U ≡ T ++ lead ++ v → next ≡ codes ", " → m ≡ n + 1 →
    U ++ listed next (take (6 - m) rest) ≡ T ++ listed lead (take (6 - n) left)
more-told T U lead next v n m left rest h e f g is =
    let R : Bytes = listed (codes ", ") (take (6 - (n + 1)) rest) in
    ap (λ (x : Bytes). x ++ listed next (take (6 - m) rest)) f
    ∙ (ap (λ (x : Bytes). T ++ lead ++ v ++ listed x (take (6 - m) rest)) g
    ∙ (ap (λ j. T ++ lead ++ v ++ listed (codes ", ") (take (6 - j) rest)) is
    ∙ (ap (λ (x : Bytes). x ++ R) (append_assoc T lead v)
    ∙ (append_assoc T (lead ++ v) R
    ∙ (ap (λ (x : Bytes). T ++ x) (sym (listed-more lead v rest n h))
    ∙ ap (λ xs. T ++ listed lead (take (6 - n) xs)) (sym e))))))

pub none-told : (T U lead next : Bytes) (n m : ℕ) (left rest : List Bytes) → left ≡ rest → U ≡ T → next ≡ lead → m ≡ n → U ++ listed next (take (6 - m) rest) ≡ T ++ listed lead (take (6 - n) left)
none-told T U lead next n m left rest e f g is =
    ap (λ (x : Bytes). x ++ listed next (take (6 - m) rest)) f
    ∙ (ap (λ (x : Bytes). T ++ listed x (take (6 - m) rest)) g
    ∙ (ap (λ j. T ++ listed lead (take (6 - j) rest)) is
    ∙ ap (λ xs. T ++ listed lead (take (6 - n) xs)) (sym e)))

pub full-told : (T U lead next : Bytes) (n m : ℕ) (left rest : List Bytes) → 6 ≤ n → U ≡ T → m ≡ n → U ++ listed next (take (6 - m) rest) ≡ T ++ listed lead (take (6 - n) left)
full-told T U lead next n m left rest h f is =
    ap (λ (x : Bytes). x ++ listed next (take (6 - m) rest)) f
    ∙ ap (λ (x : Bytes). T ++ x) (listed-full next rest m (omega (arith, h, is)) ∙ sym (listed-full lead left n h))
