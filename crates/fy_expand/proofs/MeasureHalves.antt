-- The sizes of things joined by halves.
use Rattle.std.proofs.Common.{◌≡◌, ℕ, ◌-◌, ◌/◌, ◌≤◌, List, [], ◌∷◌, length, take, drop, refl, sym, ap, ◌∙◌, arith, length-drop}
use Rattle.std.proofs.lemmas.List.{length-take}
use Rattle.fy_expand.specs.declared.size.Size.{Size}
use Rattle.fy_expand.specs.Core.{by_halves}
use Rattle.fy_expand.specs.Measures.{halved, over, leaf, none, beside, all_beside}
use Rattle.fy_expand.proofs.MeasureLemmas.{same_size}
use Rattle.fy_expand.proofs.HalvesLemmas.{by_halves-two}

pub halved-two : (sizes : List Size) (half : ℕ) → half ≡ length sizes / 2 → 2 ≤ length sizes → halved sizes ≡ over (halved (take half sizes)) (halved (drop half sizes))
halved-two sizes half is h =
    let first : length (take (length sizes / 2) sizes) ≡ length sizes / 2 = omega (arith, length-take (length sizes / 2) sizes) in
    let rest : length (drop (length sizes / 2) sizes) ≡ length sizes - length sizes / 2 = length-drop (length sizes / 2) sizes in
    by_halves-two over leaf sizes h
    ∙ ap (λ n. over (by_halves over leaf n (take (length sizes / 2) sizes)) (by_halves over leaf (length sizes - length sizes / 2) (drop (length sizes / 2) sizes))) (sym first)
    ∙ ap (λ n. over (halved (take (length sizes / 2) sizes)) (by_halves over leaf n (drop (length sizes / 2) sizes))) (sym rest)
    ∙ ap (λ k. over (halved (take k sizes)) (halved (drop k sizes))) (sym is)

pub none-beside : (sizes : List Size) → beside none (all_beside sizes) ≡ all_beside sizes
none-beside [] = refl
none-beside (a ∷ more) = same_size _ _ _ _ (omega arith) (omega arith)
