-- What a set of vectors gives, as a list of texts.
use Rattle.std.proofs.Common.{◌≡◌, ℕ, ◌+◌, Bool, true, false, not, ◌&&◌, ◌||◌, cond, if◌then◌else◌, List, [], ◌∷◌, ◌++◌, length, refl, sym, ap, subst, ◌∙◌, Vec, Global, arith, Some, None, position, append_assoc}
use Rattle.std.specs.List.{list_any, position_or_len}
use Rattle.std.specs.Str.{bytes_eq}
use Rattle.std.proofs.lemmas.Slice.Eq.{bytes_eq-Decides}
use Rattle.std.proofs.lemmas.List.Folds.{list_any-append}
use Rattle.std.proofs.lemmas.List.Recursion.{is_position_or_len}
use Rattle.fy_base.specs.Outside.{Bytes}
use Rattle.fy_types.specs.Names.{first_names, number_of, with_name, has, are_distinct, AreNames, texts_of}
use Rattle.indexmap.specs.IndexSet.{insert_key}

pub has-texts : (ks : List (Vec ℕ Global)) (text : Bytes) → list_any (λ k. bytes_eq text k.items) ks ≡ has (texts_of ks) text
has-texts [] text = refl
has-texts (k ∷ ks) text = ap (λ b. bytes_eq text k.items || b) (has-texts ks text)

number_step : (b : Bool) (n m : ℕ) → n ≡ m → (if b then 0 else n + 1) ≡ cond b 0 (1 + m)
number_step true n m e = refl
number_step false n m e = omega arith

pub number_of-texts : (ks : List (Vec ℕ Global)) (text : Bytes) → number_of (texts_of ks) text ≡ position_or_len (λ k. bytes_eq text k.items) ks
number_of-texts ks text =
    is_position_or_len (λ l. number_of (texts_of l) text) (λ k. bytes_eq text k.items) refl (λ x xs. number_step (bytes_eq text x.items) _ _ refl) ks

-- a position that is found is the number
found : (b : Bool) (n p : ℕ) → Some p ≡ cond b (Some n) None → p ≡ n
found true n p e = cc
found false n p e = cc

pub number_of-found : (ks : List (Vec ℕ Global)) (text : Bytes) (p : ℕ) → Some p ≡ position (λ k. bytes_eq text k.items) ks → p ≡ number_of (texts_of ks) text
number_of-found ks text p e = found _ _ p e ∙ sym (number_of-texts ks text)

with_step : (b : Bool) (name : Bytes) (names more : List Bytes) → (b ≡ false → more ≡ names) → (if b then name ∷ names else name ∷ more) ≡ name ∷ names
with_step true name names more e = refl
with_step false name names more e = ap (λ l. name ∷ l) (e refl)

or-later : (a b : Bool) → (a || b) ≡ true → a ≡ false → b ≡ true
or-later true b h e = cc
or-later false b h e = h

-- a name that is there changes nothing
pub with_name-old : (names : List Bytes) (text : Bytes) → has names text ≡ true → with_name names text ≡ names
with_name-old [] text h = cc
with_name-old (name ∷ names) text h = with_step (bytes_eq text name) name names (with_name names text) (λ e. with_name-old names text (or-later _ _ h e))

or-neither : (a b : Bool) → (a || b) ≡ false → (a ≡ false) × (b ≡ false)
or-neither true b h = cc
or-neither false b h = (refl, h)

-- a new name goes last
pub with_name-new : (names : List Bytes) (text : Bytes) → has names text ≡ false → with_name names text ≡ names ++ text ∷ []
with_name-new [] text h = refl
with_name-new (name ∷ names) text h =
    let p = or-neither _ _ h in
    ap (λ b. if b then name ∷ names else name ∷ with_name names text) p.0 ∙ ap (λ l. name ∷ l) (with_name-new names text p.1)

-- and has the length as its number
pub number_of-new : (names : List Bytes) (text : Bytes) → has names text ≡ false → number_of names text ≡ length names
number_of-new [] text h = refl
number_of-new (name ∷ names) text h =
    let p = or-neither _ _ h in
    let rest : number_of names text ≡ length names = number_of-new names text p.1 in
    ap (λ b. if b then 0 else number_of names text + 1) p.0 ∙ omega (arith, rest)

-- the texts after an insertion
inserted : (b : Bool) (ks : List (Vec ℕ Global)) (v : Vec ℕ Global) (names : List Bytes)
    → (b ≡ true → names ≡ texts_of ks) → (b ≡ false → names ≡ texts_of ks ++ v.items ∷ []) → texts_of (if b then ks else ks ++ v ∷ []) ≡ names
inserted true ks v names old new = sym (old refl)
inserted false ks v names old new = texts-push ks ∙ sym (new refl)
  where
    texts-push : (l : List (Vec ℕ Global)) → texts_of (l ++ v ∷ []) ≡ texts_of l ++ v.items ∷ []
    texts-push [] = refl
    texts-push (k ∷ l) = ap (λ r. k.items ∷ r) (texts-push l)

pub texts-insert : (ks : List (Vec ℕ Global)) (v : Vec ℕ Global) → texts_of (insert_key (λ a b. bytes_eq a.items b.items) ks v) ≡ with_name (texts_of ks) v.items
texts-insert ks v =
    inserted (list_any (λ k. bytes_eq v.items k.items) ks) ks v (with_name (texts_of ks) v.items)
    (λ e. with_name-old (texts_of ks) v.items (sym (has-texts ks v.items) ∙ e))
    (λ e. with_name-new (texts_of ks) v.items (sym (has-texts ks v.items) ∙ e))

-- a text that isn't the last name isn't the later ones either
bytes_eq-sym : (a b : Bytes) → bytes_eq a b ≡ false → bytes_eq b a ≡ false
bytes_eq-sym a b h = by (bytes_eq b a) refl
  where
    by : (t : Bool) → bytes_eq b a ≡ t → t ≡ false
    by true e = let back = (bytes_eq-Decides a b).1 (sym ((bytes_eq-Decides b a).0 e)) in cc
    by false e = refl

distinct_step : (a b c d e : Bool) → (not a && b) ≡ true → c ≡ (a || (d || false)) → d ≡ false → (b ≡ true → e ≡ true) → (not c && e) ≡ true
distinct_step true b c d e h q r s = cc
distinct_step false b c d e h q r s = let z : c ≡ false = q ∙ ap (λ x. x || false) r in ap (λ x. not x && e) z ∙ s h

are_distinct-new : (names : List Bytes) (text : Bytes) → has names text ≡ false → are_distinct names ≡ true → are_distinct (names ++ text ∷ []) ≡ true
are_distinct-new [] text h d = refl
are_distinct-new (name ∷ names) text h d =
    let p = or-neither _ _ h in
    distinct_step (has names name) (are_distinct names) (has (names ++ text ∷ []) name) (bytes_eq name text) (are_distinct (names ++ text ∷ [])) d
    (list_any-append (bytes_eq name) names (text ∷ [])) (bytes_eq-sym text name p.0) (are_distinct-new names text p.1)

-- a list of names stays one
pub AreNames-with_name : (names : List Bytes) (text : Bytes) → AreNames names → AreNames (with_name names text)
AreNames-with_name names text h = by (has names text) refl
  where
    by : (b : Bool) → has names text ≡ b → AreNames (with_name names text)
    by true e = subst AreNames (sym (with_name-old names text e)) h
    by false e =
        subst AreNames (sym (with_name-new names text e))
        (record {
          later = h.later ++ text ∷ [];
          begins = ap (λ l. l ++ text ∷ []) h.begins ∙ append_assoc first_names h.later (text ∷ []);
          distinct = are_distinct-new names text e h.distinct;
        })
