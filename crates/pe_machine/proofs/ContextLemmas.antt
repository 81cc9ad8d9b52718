-- Contexts and their bases.
use Rattle.std.proofs.Common.{◌≡◌, ℕ, ◌+◌, ◌*◌, ◌<◌, ◌≤◌, List, [], ◌∷◌, ◌++◌, length, get_or, take, refl, sym, ap, ◌∙◌, subst, subst₂, arith, inl, inr}
use Rattle.std.specs.Prelude.{nat_eq, nat_le}
use Rattle.std.proofs.lemmas.List.{length-take-le}
use Rattle.std.proofs.lemmas.Bool.{cases_lt, cond_both}
use Rattle.pe_machine.specs.States as states
use Rattle.pe_machine.specs.States.{oldest, with_binding}
use Rattle.pe_machine.specs.Sound.{AreBased, cells_of, cells_in}
use Rattle.pe_machine.specs.Shown.{contexts_onto}
use Rattle.pe_machine.specs.Turns.{oldest_contexts}
use Rattle.pe_machine.specs.declared.contexts.Held.{Held}
use Rattle.pe_machine.proofs.Stacks.{oldest_all, oldest_past, contexts_all, contexts_more, contexts_past, contexts_onto-push, contexts_take, length-contexts}

-- ---- the oldest frames

oldest_fewer : (k : ℕ) (fs : List states.Frame) → length (oldest k fs) ≤ length fs
oldest_fewer k [] = omega arith
oldest_fewer k (f ∷ fs) =
    let less = oldest_fewer k fs in
    cond_both (nat_le k (length fs)) (oldest k fs) (f ∷ fs) (λ gs. length gs ≤ length (f ∷ fs)) (λ _. omega arith) (λ _. omega arith)

-- the oldest of the oldest
pub oldest_same : (j k : ℕ) (fs : List states.Frame) → j ≤ length (oldest k fs) → oldest j (oldest k fs) ≡ oldest j fs
oldest_same j k [] h = refl
oldest_same j k (f ∷ fs) h = elim (cases_lt (length fs) k) [
  | inl more ↦ ap (λ (gs : List states.Frame). oldest j gs) (oldest_all k (f ∷ fs) (omega arith))
  | inr few ↦
      let cut = oldest_past k f fs few in
      let within : j ≤ length (oldest k fs) = subst (λ (gs : List states.Frame). j ≤ length gs) cut h in
      let less = oldest_fewer k fs in
      ap (λ (gs : List states.Frame). oldest j gs) cut ∙ oldest_same j k fs within ∙ sym (oldest_past j f fs (omega arith))
]

pub oldest_contexts_same : (i k : ℕ) (cs : List states.Held) → i ≤ k → oldest_contexts i (oldest_contexts k cs) ≡ oldest_contexts i cs
oldest_contexts_same i k [] h = refl
oldest_contexts_same i k (c ∷ cs) h = elim (cases_lt (length cs) k) [
  | inl more ↦ ap (λ (ds : List states.Held). oldest_contexts i ds) (contexts_all k (c ∷ cs) (omega arith))
  | inr few ↦
      ap (λ (ds : List states.Held). oldest_contexts i ds) (contexts_past k c cs few) ∙ oldest_contexts_same i k cs h ∙ sym (contexts_past i c cs (omega arith))
]

-- ---- bases of contexts, as frames come and contexts go

-- contexts that are based on the oldest frames are on all
pub based_more : (limit k : ℕ) (fs : List states.Frame) (cs : List states.Held) → AreBased limit (oldest k fs) cs → AreBased limit fs cs
based_more limit k fs [] are = tt
based_more limit k fs (c ∷ cs) are =
    let within = are.0 in
    let less = oldest_fewer k fs in
    let same = oldest_same c.frames k fs within in (
      omega arith,
      (
        are.1.0,
        (
          subst (λ (gs : List states.Frame). cells_in gs ≤ c.base) same are.1.1.0,
          (are.1.1.1.0, subst (λ (gs : List states.Frame). AreBased limit gs cs) same are.1.1.1.1),
        ),
      ),
    )

pub based_newer : (limit : ℕ) (f : states.Frame) (fs : List states.Frame) (cs : List states.Held) → AreBased limit fs cs → AreBased limit (f ∷ fs) cs
based_newer limit f fs [] are = tt
based_newer limit f fs (c ∷ cs) are =
    let within = are.0 in
    let same = sym (oldest_past c.frames f fs within) in (
      omega arith,
      (
        are.1.0,
        (
          subst (λ (gs : List states.Frame). cells_in gs ≤ c.base) same are.1.1.0,
          (are.1.1.1.0, subst (λ (gs : List states.Frame). AreBased limit gs cs) same are.1.1.1.1),
        ),
      ),
    )

pub based_oldest : (limit n : ℕ) (fs : List states.Frame) (cs : List states.Held) → AreBased limit fs cs → AreBased limit fs (oldest_contexts n cs)
based_oldest limit n fs [] are = tt
based_oldest limit n fs (c ∷ cs) are =
    cond_both (nat_le n (length cs)) (oldest_contexts n cs) (c ∷ cs) (λ ds. AreBased limit fs ds) (λ _. based_oldest limit n fs cs (based_more limit c.frames fs cs are.1.1.1.1)) (λ _. are)

pub based_take : (limit n : ℕ) (fs : List states.Frame) (xs : List Held) → AreBased limit fs (contexts_onto [] xs) → AreBased limit fs (contexts_onto [] (take n xs))
based_take limit n fs xs are = subst (λ (cs : List states.Held). AreBased limit fs cs) (contexts_take n xs) (based_oldest limit n fs (contexts_onto [] xs) are)

-- a context's base counts the frames and the contexts before it, and their cells
pub record IsBased (limit i : ℕ) (fs : List states.Frame) (xs : List Held) (h : Held) : Type 0 where
  pub stood : h.frames ≤ length fs
  pub counted : 8 * (h.frames + i) ≤ h.base
  pub cells : cells_in (oldest h.frames fs) ≤ h.base
  pub within : h.base ≤ limit
  pub older : AreBased limit (oldest h.frames fs) (contexts_onto [] (take i xs))

pub based_at : (limit i : ℕ) (fs : List states.Frame) (xs : List Held) (d : Held) → AreBased limit fs (contexts_onto [] xs) → i < length xs → IsBased limit i fs xs (get_or xs i d)
based_at limit i fs xs d are h =
    let last = subst (λ (cs : List states.Held). AreBased limit fs cs) (contexts_more xs i d h) (based_take limit (i + 1) fs xs are) in
    let counted = last.1.0 in
    record {
      stood = last.0;
      counted = omega (arith, length-contexts (take i xs), length-take-le i xs (omega arith));
      cells = last.1.1.0;
      within = last.1.1.1.0;
      older = last.1.1.1.1;
    }

pub based_push : (limit : ℕ) (fs : List states.Frame) (items more : List Held) (h : Held) → more ≡ items ++ h ∷ [] → h.frames ≡ length fs → 8 * (h.frames + length items) ≤ h.base → cells_in fs ≤ h.base → h.base ≤ limit
    → AreBased limit fs (contexts_onto [] items) → AreBased limit fs (contexts_onto [] more)
based_push limit fs items more h is stood counted cells within are =
    let all = sym (oldest_all h.frames fs (omega arith)) in
    subst (λ (cs : List states.Held). AreBased limit fs cs) (sym (ap (contexts_onto []) is ∙ contexts_onto-push [] items h)) (
      omega arith,
      (
        omega (arith, length-contexts items),
        (
          subst (λ (gs : List states.Frame). cells_in gs ≤ h.base) all cells,
          (within, subst (λ (gs : List states.Frame). AreBased limit gs (contexts_onto [] items)) all are),
        ),
      ),
    )

-- ---- frames with as many cells

abbrev pub HaveSameCounts : List states.Frame → List states.Frame → Type 0
HaveSameCounts [] [] = Unit {0}
HaveSameCounts (f ∷ fs) (g ∷ gs) = (cells_of f.binding ≡ cells_of g.binding) × HaveSameCounts fs gs
HaveSameCounts [] (g ∷ gs) = ⊥
HaveSameCounts (f ∷ fs) [] = ⊥

counts-length : (fs gs : List states.Frame) → HaveSameCounts fs gs → length fs ≡ length gs
counts-length [] [] h = refl
counts-length (f ∷ fs) (g ∷ gs) h = let rest = counts-length fs gs h.1 in omega arith
counts-length [] (g ∷ gs) h = absurd h
counts-length (f ∷ fs) [] h = absurd h

pub counts-cells : (fs gs : List states.Frame) → HaveSameCounts fs gs → cells_in fs ≡ cells_in gs
counts-cells [] [] h = refl
counts-cells (f ∷ fs) (g ∷ gs) h = let first = h.0 in let rest = counts-cells fs gs h.1 in omega arith
counts-cells [] (g ∷ gs) h = absurd h
counts-cells (f ∷ fs) [] h = absurd h

counts-oldest : (k : ℕ) (fs gs : List states.Frame) → HaveSameCounts fs gs → HaveSameCounts (oldest k fs) (oldest k gs)
counts-oldest k [] [] h = tt
counts-oldest k (f ∷ fs) (g ∷ gs) h =
    let long = counts-length fs gs h.1 in
    elim (cases_lt (length fs) k) [
      | inl more ↦ subst₂ (λ (a b : List states.Frame). HaveSameCounts a b) (sym (oldest_all k (f ∷ fs) (omega arith))) (sym (oldest_all k (g ∷ gs) (omega arith))) h
      | inr few ↦ subst₂ (λ (a b : List states.Frame). HaveSameCounts a b) (sym (oldest_past k f fs few)) (sym (oldest_past k g gs (omega arith))) (counts-oldest k fs gs h.1)
    ]
counts-oldest k [] (g ∷ gs) h = absurd h
counts-oldest k (f ∷ fs) [] h = absurd h

counts-same : (fs : List states.Frame) → HaveSameCounts fs fs
counts-same [] = tt
counts-same (f ∷ fs) = (refl, counts-same fs)

pub counts-with_binding : (n : ℕ) (change : states.Binding → states.Binding) (fs : List states.Frame) → ((b : states.Binding) → cells_of b ≡ cells_of (change b)) → HaveSameCounts fs (with_binding n change fs)
counts-with_binding n change [] keeps = tt
counts-with_binding n change (f ∷ fs) keeps =
    cond_both (nat_eq n f.number) (record f { binding = change f.binding } ∷ fs) (f ∷ with_binding n change fs) (λ gs. HaveSameCounts (f ∷ fs) gs) (λ _. (keeps f.binding, counts-same fs))
    (λ _. (refl, counts-with_binding n change fs keeps))

pub based_same : (limit : ℕ) (fs gs : List states.Frame) (cs : List states.Held) → HaveSameCounts fs gs → AreBased limit fs cs → AreBased limit gs cs
based_same limit fs gs [] h are = tt
based_same limit fs gs (c ∷ cs) h are =
    let within = are.0 in
    let long = counts-length fs gs h in
    let under = counts-oldest c.frames fs gs h in
    let paid = are.1.1.0 in
    let cells = counts-cells (oldest c.frames fs) (oldest c.frames gs) under in
    (omega arith, (are.1.0, (omega arith, (are.1.1.1.0, based_same limit (oldest c.frames fs) (oldest c.frames gs) cs under are.1.1.1.1))))
