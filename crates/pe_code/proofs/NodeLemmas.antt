-- Two lists that have the same members, and membership as a test.
use Rattle.std.proofs.Common.{◌≡◌, ℕ, Bool, true, false, ◌||◌, cond, eqb, eqb-true, eq-eqb, List, [], ◌∷◌, ◌++◌, get_or, refl, sym, ap, ◌∙◌}
use Rattle.std.specs.List.{list_any, Contains}
use Rattle.std.proofs.lemmas.List.Folds.{list_any-append, list_any_at}
use Rattle.indexmap.specs.IndexSet.{insert_key}
use Rattle.indexmap.proofs.CallerLemmas.{Contains-list_any}
use Rattle.pe_code.specs.Members.{HaveSameMembers}

-- the test and the fact
pub contains-from : (ns : List ℕ) (n : ℕ) → list_any (eqb n) ns ≡ true → Contains ns n
contains-from ns n h = Contains-list_any eqb eqb-true ns n h

pub contains-any : (ns : List ℕ) (n : ℕ) → Contains ns n → list_any (eqb n) ns ≡ true
contains-any ns n h = list_any_at (eqb n) ns h.0 n h.1 (eq-eqb n (get_or ns h.0 n) (sym h.2))

or-none : (b : Bool) → (b || (false || false)) ≡ b
or-none true = refl
or-none false = refl

or-some : (b : Bool) → (b || (true || false)) ≡ true
or-some true = refl
or-some false = refl

-- one more member of both
pub same-push : (ks ns : List ℕ) (n : ℕ) → HaveSameMembers ks ns → HaveSameMembers (insert_key eqb ks n) (ns ++ n ∷ [])
same-push ks ns n h m = by (list_any (eqb n) ks) refl
  where
    behind : list_any (eqb m) (ns ++ n ∷ []) ≡ (list_any (eqb m) ks || (eqb m n || false))
    behind = list_any-append (eqb m) ns (n ∷ []) ∙ ap (λ b. b || (eqb m n || false)) (sym (h m))

    there : (b : Bool) → eqb m n ≡ b → list_any (eqb n) ks ≡ true → list_any (eqb m) ks ≡ (list_any (eqb m) ks || (b || false))
    there true e t = (ap (λ x. list_any (eqb x) ks) (eqb-true m n e) ∙ t) ∙ sym (or-some (list_any (eqb m) ks))
    there false e t = sym (or-none (list_any (eqb m) ks))

    by : (b : Bool) → list_any (eqb n) ks ≡ b → list_any (eqb m) (cond b ks (ks ++ n ∷ [])) ≡ list_any (eqb m) (ns ++ n ∷ [])
    by true t = there (eqb m n) refl t ∙ sym behind
    by false t = list_any-append (eqb m) ks (n ∷ []) ∙ sym behind
