-- Numbers keep what they stand for as a table grows.
use Rattle.std.proofs.Common.{ℕ, ◌+◌, ◌<◌, ◌≤◌, ◌≡◌, List, [], ◌∷◌, ◌++◌, length, get_or, map, drop, refl, sym, ap, ◌∙◌, arith}
use Rattle.std.proofs.lemmas.List.{drop_more, map_push}
use Rattle.std.proofs.lemmas.List.Elements.{All-push, All-weaker, All-head, All-tail, All-get_or, All-cons}
use Rattle.fy_types.specs.Types.{PlainType, meet, and_type}
use Rattle.fy_types.specs.Reading.{types_from}
use Rattle.fy_derive.specs.declared.table.TypeTable.{TypeTable}
use Rattle.fy_derive.specs.Tables.{in_front}
use Rattle.fy_derive.specs.Shown.{total, all_shown, shown, Extends, AreIn}

pub Extends-itself : (t : TypeTable) → Extends t t
Extends-itself t = record { more = omega arith; same = λ k h. refl }

pub Extends-trans : {t u v : TypeTable} → Extends t u → Extends u v → Extends t v
Extends-trans e f = record { more = omega (arith, e.more, f.more); same = λ k h. f.same k (omega (arith, e.more)) ∙ e.same k h }

pub AreIn-kept : {t u : TypeTable} {ks : List ℕ} → Extends t u → AreIn t ks → AreIn u ks
AreIn-kept {t = t} {u = u} {ks = ks} e h = record { below = All-weaker (λ k. k < total t) (λ k. k < total u) (λ k l. omega (arith, e.more)) ks h.below }

pub AreIn-push : {t : TypeTable} {ks : List ℕ} → (k : ℕ) → AreIn t ks → k < total t → AreIn t (ks ++ k ∷ [])
AreIn-push {t = t} {ks = ks} k h l = record { below = All-push (λ k. k < total t) ks k h.below l }

pub AreIn-cons : {t : TypeTable} {ks : List ℕ} → (k : ℕ) → k < total t → AreIn t ks → AreIn t (k ∷ ks)
AreIn-cons {t = t} {ks = ks} k l h = record { below = All-cons (λ k. k < total t) k ks l h.below }

pub AreIn-none : (t : TypeTable) → AreIn t []
AreIn-none t = record { below = λ k d h. absurd (omega arith) }

pub AreIn-at : {t : TypeTable} {ks : List ℕ} → (i : ℕ) → AreIn t ks → i < length ks → get_or ks i 0 < total t
AreIn-at {t = t} {ks = ks} i h l = All-get_or (λ k. k < total t) ks i 0 l h.below

-- the same types in the larger table
pub all_shown-kept : {t u : TypeTable} → (ks : List ℕ) → Extends t u → AreIn t ks → all_shown u ks ≡ all_shown t ks
all_shown-kept [] e h = refl
all_shown-kept {t = t} {u = u} (k ∷ ks) e h =
    let rest : AreIn t ks = record { below = All-tail (λ k. k < total t) k ks h.below } in
    ap (λ A. A ∷ all_shown u ks) (e.same k (All-head (λ k. k < total t) k ks h.below))
    ∙ ap (λ As. shown t k ∷ As) (all_shown-kept ks e rest)

-- one member more in front of a meet
pub meet_step : (f : ℕ → PlainType) (ks : List ℕ) (i j : ℕ) (A B : PlainType) → i ≡ j + 1 → i ≤ length ks →
    B ≡ meet (types_from (map f (drop i ks))) → A ≡ f (get_or ks j 0) → in_front A B ≡ meet (types_from (map f (drop j ks)))
meet_step f ks i j A B e l b a =
    ap (in_front A) b
    ∙ (ap (λ x. meet (and_type x (types_from (map f (drop i ks))))) a
    ∙ (ap (λ n. meet (types_from (map f (get_or ks j 0 ∷ drop n ks)))) e
    ∙ ap (λ xs. meet (types_from (map f xs))) (sym (drop_more ks j 0 (omega arith)))))

-- one type more at the end
pub all_shown-push : {t u : TypeTable} → (ks ms : List ℕ) (k : ℕ) (A : PlainType) → Extends t u → AreIn t ks → ms ≡ ks ++ k ∷ [] → shown u k ≡ A →
    all_shown u ms ≡ all_shown t ks ++ A ∷ []
all_shown-push {t = t} {u = u} ks ms k A e h m s =
    ap (all_shown u) m ∙ (map_push (shown u) ks k ∙ (ap (λ As. As ++ shown u k ∷ []) (all_shown-kept ks e h) ∙ ap (λ B. all_shown t ks ++ B ∷ []) s))
