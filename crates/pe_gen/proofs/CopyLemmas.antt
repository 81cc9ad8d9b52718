-- Entries in order that are put in one by one.
use Rattle.std.proofs.Common.{ℕ, suc, ◌+◌, ◌<◌, ◌≡◌, false, List, [], ◌∷◌, ◌++◌, length, get_or, take, drop, refl, ap, sym, ◌∙◌, subst, arith}
use Rattle.std.proofs.Math.Seq.{drop-cons}
use Rattle.std.proofs.lemmas.Bool.{cond-false}
use Rattle.std.proofs.lemmas.List.{take-append-drop, take_more}
use Rattle.pe_code.specs.declared.code.Entry.{Entry}
use Rattle.pe_code.specs.Entries.{is_before, with_entry, AreInOrder}
use Rattle.pe_code.proofs.EntryLemmas.{order-head, order-tail}
use Rattle.pe_gen.proofs.Gets.{get-right}
use Rattle.pe_gen.proofs.KeptLemmas.{at-place}

-- one that stands behind others in order goes behind them
goes-last : (item : Entry) (es rest : List Entry) → AreInOrder (es ++ item ∷ rest) → with_entry item es ≡ es ++ item ∷ []
goes-last item [] rest order = refl
goes-last item (d ∷ ds) rest order =
    let later = order-head d (ds ++ item ∷ rest) order in
    let first = at-place (λ (e : Entry). is_before d.node d.shape e ≡ false) (ds ++ item ∷ rest) (length ds) item later (get-right ds (item ∷ rest) 0 (length ds) (omega arith)) in
    cond-false _ _ _ first ∙ ap (λ xs. d ∷ xs) (goes-last item ds rest (order-tail d (ds ++ item ∷ rest) order))

pub one-more : (es : List Entry) (i : ℕ) (d : Entry) → AreInOrder es → i < length es → with_entry (get_or es i d) (take i es) ≡ take (i + 1) es
one-more es i d order within =
    let split : es ≡ take i es ++ get_or es i d ∷ drop (suc i) es = sym (take-append-drop i es) ∙ ap (λ xs. take i es ++ xs) (drop-cons es i d within) in
    goes-last (get_or es i d) (take i es) (drop (suc i) es) (subst AreInOrder split order) ∙ sym (take_more es i d within)
