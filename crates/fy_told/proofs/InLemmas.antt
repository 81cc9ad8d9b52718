-- The names in scope at the premise that has a node, and the lines told with them.
use Rattle.std.proofs.Common.{ℕ, ◌+◌, ◌<◌, ◌≤◌, ◌≡◌, Bool, true, false, if◌then◌else◌, List, [], ◌∷◌, ◌++◌, length, get_or, map, drop, Option, Some, None, refl, sym, ap, ◌∙◌, arith}
use Rattle.std.specs.Prelude.{slice_get, OnOk, Result}
use Rattle.std.proofs.lemmas.List.{drop_all, drop_more, length-drop}
use Rattle.std.proofs.lemmas.Option.{get_or_from_slice_get, slice_get_within}
use Rattle.std.proofs.lemmas.Result.{on_ok_weaker}
use Rattle.fy_base.specs.Outside.{Bytes}
use Rattle.fy_phrase.specs.Tree.{Tree}
use Rattle.fy_derive.specs.declared.derivation.Derivation.{Derivation}
use Rattle.fy_derive.specs.declared.table.TypeTable.{TypeTable}
use Rattle.fy_derive.specs.Derivations.{PlainDerivation, nodes}
use Rattle.fy_derive.specs.Reading.{plain_derivation, derivations_from}
use Rattle.fy_derive.specs.Rules.{Premise}
use Rattle.fy_reasons.specs.declared.reasons.Stopped.{Stopped}
use Rattle.fy_reasons.specs.Stopping.{stop_read}
use Rattle.fy_show.specs.Entries.{Known, Scope}
use Rattle.fy_told.specs.ReasonTexts.{names_at, names_in, names_under, premise_parts, premises_at, stop_lines, whole_premises}
use Rattle.fy_told.proofs.StepLemmas.{in-here, in-next, in-none, items-room, next-premise, no-premise, none-found, whole_premise, whole-step}

-- the lines are put where text, names and table are the same
pub put-same : {X E : Type 0} (r : Result X E) (V T U : Bytes) (k l : Known) (s z : Scope) (t u : TypeTable) (stop : Stopped) →
    OnOk r (V ≡ T ++ stop_lines k s (stop_read t stop)) → T ≡ U → k ≡ l → s ≡ z → t ≡ u → OnOk r (V ≡ U ++ stop_lines l z (stop_read u stop))
put-same r V T U k l s z t u stop o e f g h =
    on_ok_weaker r
    (λ (v : V ≡ T ++ stop_lines k s (stop_read t stop)).
    v ∙ (ap (λ (x : Bytes). x ++ stop_lines k s (stop_read t stop)) e
    ∙ (ap (λ (x : Known). U ++ stop_lines x s (stop_read t stop)) f
    ∙ (ap (λ (x : Scope). U ++ stop_lines l x (stop_read t stop)) g
    ∙ ap (λ (x : TypeTable). U ++ stop_lines l z (stop_read x stop)) h))))
    o

pub at-same : (k l : Known) (m n : ℕ) (d : PlainDerivation) (s z : Scope) (q : Tree) → k ≡ l → s ≡ z → names_at k m d n s q ≡ names_at l m d n z q
at-same k l m n d s z q e f = ap (λ (x : Known). names_at x m d n s q) e ∙ ap (λ (x : Scope). names_at l m d n x q) f

-- two that are the item with the index have as many nodes
pub nodes-same : (xs : List Derivation) (i : ℕ) (x y : Derivation) → i < length xs → x ≡ get_or xs i x → y ≡ get_or xs i y → nodes (plain_derivation x) ≡ nodes (plain_derivation y)
nodes-same xs i x y h e f = omega (arith, items-room xs i x h e, items-room xs i y h f)

-- the node is in the premise with the index
pub here-whole : (k : Known) (m n : ℕ) (s : Scope) (p : Tree) (xs : List Derivation) (i : ℕ) (x : Derivation) (c : ℕ) (b : Bool) → i < length xs → x ≡ get_or xs i x →
    b ≡ true → i < c → m < n + nodes (plain_derivation x) →
    names_in k m (derivations_from (map plain_derivation (drop i xs))) n s p (drop i (if b then whole_premises c p else premises_at p)) ≡ names_at k m (plain_derivation x) n s p
here-whole k m n s p xs i x c true h e is g l =
    in-here k m n s p xs i x (drop i (whole_premises c p)) (drop (i + 1) (whole_premises c p)) (whole_premise p) h e (whole-step c i p g) l
here-whole k m n s p xs i x c false h e is g l = absurd cc

pub here-part : (k : Known) (m n : ℕ) (s : Scope) (p : Tree) (xs : List Derivation) (i : ℕ) (x : Derivation) (c : ℕ) (b d : Bool) (q : Tree) → i < length xs → x ≡ get_or xs i x →
    b ≡ false → slice_get (premise_parts p) i ≡ Some (d, q) → m < n + nodes (plain_derivation x) →
    names_in k m (derivations_from (map plain_derivation (drop i xs))) n s p (drop i (if b then whole_premises c p else premises_at p)) ≡ names_at k m (plain_derivation x) n (names_under k s p d) q
here-part k m n s p xs i x c true d q h e is g l = absurd cc
here-part k m n s p xs i x c false d q h e is g l =
    let next = next-premise p i d q g in
    in-here k m n s p xs i x (drop i (premises_at p)) (drop (i + 1) (premises_at p)) next.premise h e next.left l
    ∙ (ap (λ (a : Bool). names_at k m (plain_derivation x) n (names_under k s p a) next.premise.1) next.inside
    ∙ ap (λ (r : Tree). names_at k m (plain_derivation x) n (names_under k s p d) r) next.part)

-- there is no premise with the index
pub here-none : (k : Known) (m n : ℕ) (s : Scope) (p : Tree) (xs : List Derivation) (i c : ℕ) (b : Bool) → b ≡ false → slice_get (premise_parts p) i ≡ None →
    names_in k m (derivations_from (map plain_derivation (drop i xs))) n s p (drop i (if b then whole_premises c p else premises_at p)) ≡ s
here-none k m n s p xs i c true is g = absurd cc
here-none k m n s p xs i c false is g =
    ap (names_in k m (derivations_from (map plain_derivation (drop i xs))) n s p) (no-premise p i g) ∙ in-none k m n s p (derivations_from (map plain_derivation (drop i xs)))

-- the node is in a premise behind, if in any
drop-past : (Qs : List Premise) (i : ℕ) → drop i Qs ≡ [] → drop (i + 1) Qs ≡ []
drop-past Qs i e =
    let none : length (drop i Qs) ≡ 0 = ap length e in
    drop_all (i + 1) Qs (omega (arith, length-drop i Qs, none))

behind-found : (k : Known) (m n : ℕ) (s : Scope) (p : Tree) (xs : List Derivation) (i : ℕ) (x : Derivation) (Qs : List Premise) (o : Option Premise) → slice_get Qs i ≡ o →
    i < length xs → x ≡ get_or xs i x → n + nodes (plain_derivation x) ≤ m →
    names_in k m (derivations_from (map plain_derivation (drop i xs))) n s p (drop i Qs)
    ≡ names_in k m (derivations_from (map plain_derivation (drop (i + 1) xs))) (n + nodes (plain_derivation x)) s p (drop (i + 1) Qs)
behind-found k m n s p xs i x Qs None f h e l =
    let past : drop i Qs ≡ [] = none-found Qs i None f refl in
    ap (names_in k m (derivations_from (map plain_derivation (drop i xs))) n s p) past
    ∙ (in-none k m n s p (derivations_from (map plain_derivation (drop i xs)))
    ∙ sym (ap (names_in k m (derivations_from (map plain_derivation (drop (i + 1) xs))) (n + nodes (plain_derivation x)) s p) (drop-past Qs i past)
    ∙ in-none k m (n + nodes (plain_derivation x)) s p (derivations_from (map plain_derivation (drop (i + 1) xs)))))
behind-found k m n s p xs i x Qs (Some P) f h e l =
    in-next k m n s p xs i x (drop i Qs) (drop (i + 1) Qs) P h e
    (drop_more Qs i P (slice_get_within Qs i P f) ∙ ap (λ (Q : Premise). Q ∷ drop (i + 1) Qs) (get_or_from_slice_get Qs i P P f)) l

pub behind : (k : Known) (m n : ℕ) (s : Scope) (p : Tree) (xs : List Derivation) (i : ℕ) (x : Derivation) (Qs : List Premise) → i < length xs → x ≡ get_or xs i x →
    n + nodes (plain_derivation x) ≤ m →
    names_in k m (derivations_from (map plain_derivation (drop i xs))) n s p (drop i Qs)
    ≡ names_in k m (derivations_from (map plain_derivation (drop (i + 1) xs))) (n + nodes (plain_derivation x)) s p (drop (i + 1) Qs)
behind k m n s p xs i x Qs h e l = behind-found k m n s p xs i x Qs (slice_get Qs i) refl h e l
